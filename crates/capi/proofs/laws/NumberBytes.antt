-- THE NUMBERS OF THREE RUNS ARE BYTES: those that are taken with the stamps, and those that the lining up leaves of them. Assumes nothing.
use Prim.Native.Nat.{ℕ, zero, suc, ◌+◌, ◌≤◌, ◌<◌}
use native.Mathlib.Omega.{arith}
use mathlib.Core.Path.{◌≡◌, refl, sym, ap, subst}
use mathlib.Core.Logic.{◌⊎◌, inl, inr}
use mathlib.Core.Bool.{Bool, true, false}
use mathlib.Core.List.{List, [], ◌∷◌, ◌++◌}
use lib.Dec.{eqb, ltb}
use lib.ListN.{length, get_or, set, replicate}
use borrow.Author.Tests.{eqb-true, eqb-false, ltb-true, ltb-false}
use Rattle.refusals.specs.Outcome.{Outcome, answer, refusal}
use Rattle.julian.specs.declared.JulianDate.{JulianDate}
use Rattle.julian.specs.order.Places.{has_place}
use Rattle.julian.specs.stamp_lists.Stamps.{stamp_of}
use Rattle.leap_table.specs.rows.Table.{Row}
use Rattle.runs.specs.by_formula.Run.{RunCall, number_byte, with_numbers, run_written}
use Rattle.runs.specs.Run.{stamp_answer}
use Rattle.runs.specs.ways.Ways.{is_run_scale}
use Rattle.line_up.specs.laws.Claims.{LineVerdict}
use Rattle.line_up.specs.laws.Due.{LineDue}
use Rattle.line_listing.specs.taken.Run.{run_blocks, stamps_of, first_parts, second_parts}
use Rattle.line_listing.specs.order.Order.{lines_in_order}
use Rattle.line_listing.specs.listing.Listing.{NamedRun, bytes_of_named, run_taken, joined_runs, all_taken}
use Rattle.line_listing.proofs.taken.Blocks.{blocks_fit}
use Rattle.line_listing.proofs.taken.Steps.{taken-written}
use Rattle.line_listing.proofs.laws.Theorems.{listed-order}

-- what a list does not have is 0
abbrev Bytes : List ℕ → Type 0
Bytes l = (i : ℕ) → get_or l i 0 < 256

bytes-set : (l : List ℕ) (k v : ℕ) → v < 256 → Bytes l → Bytes (set l k v)
bytes-set [] k v h b i = b i
bytes-set (x ∷ xs) zero v h b zero = h
bytes-set (x ∷ xs) zero v h b (suc i) = b (suc i)
bytes-set (x ∷ xs) (suc k) v h b zero = b zero
bytes-set (x ∷ xs) (suc k) v h b (suc i) = bytes-set xs k v h (λ j. b (suc j)) i

zero_bytes : (n : ℕ) → Bytes (replicate n 0)
zero_bytes zero i = omega arith
zero_bytes (suc n) zero = omega arith
zero_bytes (suc n) (suc i) = zero_bytes n i

joined_bytes : (a b : List ℕ) → Bytes a → Bytes b → Bytes (a ++ b)
joined_bytes [] b p q i = q i
joined_bytes (x ∷ xs) b p q zero = p zero
joined_bytes (x ∷ xs) b p q (suc i) = joined_bytes xs b (λ j. p (suc j)) q i

past-zero : (l : List ℕ) (i : ℕ) → length l ≤ i → get_or l i 0 ≡ 0
past-zero [] i h = refl
past-zero (x ∷ xs) zero h = let w : ⊥ = omega arith in absurd w
past-zero (x ∷ xs) (suc i) h = past-zero xs i (omega arith)

-- ---- a run that is taken
number-low : (o : Outcome JulianDate) → number_byte o < 256
unfolding number_byte
number-low (answer d) = omega arith
number-low (refusal k) = omega arith

written-bytes : (f : ℕ → Outcome JulianDate) (n : ℕ) (l : List ℕ) → Bytes l → Bytes (with_numbers f n l)
unfolding with_numbers
written-bytes f zero l b = b
written-bytes f (suc k) l b = bytes-set (with_numbers f k l) k (number_byte (f k)) (number-low (f k)) (written-bytes f k l b)

run-bytes : (rows : List Row) (scale : ℕ) → is_run_scale scale ≡ true → (run : NamedRun) → Bytes (run_taken rows scale run).numbers
unfolding run_taken run_written
run-bytes rows scale known run i =
    let s = bytes_of_named run in
    let sizes = (run_blocks s).sizes in
    let f = stamp_answer rows scale 1 (first_parts sizes s) (second_parts sizes s) in
    let none : List ℕ = replicate (stamps_of sizes) 0 in
    let e : (run_taken rows scale run).numbers ≡ with_numbers f (stamps_of sizes) none =
    ap (λ (c : RunCall). c.numbers) (taken-written rows scale known sizes s (blocks_fit s)) in
    subst (λ (l : List ℕ). get_or l i 0 < 256) (sym e) (written-bytes f (stamps_of sizes) none (zero_bytes (stamps_of sizes)) i)

pub taken-bytes : (rows : List Row) (gps tai utc : NamedRun) (i : ℕ) → get_or (all_taken rows gps tai utc).numbers i 0 < 256
unfolding all_taken joined_runs is_run_scale
taken-bytes rows gps tai utc =
    let t = (run_taken rows 1 tai).numbers in
    let u = (run_taken rows 0 utc).numbers in
    joined_bytes (run_taken rows 4 gps).numbers (t ++ u) (run-bytes rows 4 refl gps) (joined_bytes t u (run-bytes rows 1 refl tai) (run-bytes rows 0 refl utc))

-- ---- after the lining up: its own, 0, 9 or 17
module _ (js ks ns : List ℕ) (bytes : (i : ℕ) → get_or ns i 0 < 256) where
  verdict_low : (ms : List ℕ) (from to i : ℕ) → LineVerdict (stamp_of js ks) ns ms from to i → get_or ms i 0 < 256
  verdict_low ms from to i v = by (eqb (get_or ns i 0) 0) (has_place (stamp_of js ks i)) refl refl
    where
      by : (a b : Bool) → eqb (get_or ns i 0) 0 ≡ a → has_place (stamp_of js ks i) ≡ b → get_or ms i 0 < 256
      by false b e f = omega (arith, v.refused (eqb-false _ _ e), bytes i)
      by true false e f = omega (arith, v.unordered (eqb-true _ _ e) f)
      by true true e f = either (v.sound (eqb-true _ _ e) f)
        where
          either : {A : Type 0} → (get_or ms i 0 ≡ 0) ⊎ ((get_or ms i 0 ≡ 17) × A) → get_or ms i 0 < 256
          either (inl z) = omega (arith, z)
          either (inr z) = omega (arith, z.0)

  pub lined-bytes : (first second : ℕ) (out : List ℕ) (work1 work2 : ℕ)
      → LineDue (length js) (length ks) (length ns) first second (length out) work1 work2
      → (i : ℕ) → get_or (lines_in_order js ks ns first second out work1 work2).numbers i 0 < 256
  lined-bytes first second out work1 work2 due i = by (ltb i first) (ltb i (first + second)) (ltb i (length ns)) refl refl refl
    where
      by : (a b c : Bool) → ltb i first ≡ a → ltb i (first + second) ≡ b → ltb i (length ns) ≡ c
          → get_or (lines_in_order js ks ns first second out work1 work2).numbers i 0 < 256
      by true b c p q r =
          verdict_low _ 0 first i ((listed-order js ks ns first second out work1 work2 due).right.first_run i (ltb-true i first p))
      by false true c p q r =
          verdict_low _ first (first + second) i
          ((listed-order js ks ns first second out work1 work2 due).right.second_run i (ltb-false i first p) (ltb-true i (first + second) q))
      by false false true p q r =
          verdict_low _ (first + second) (length ns) i
          ((listed-order js ks ns first second out work1 work2 due).right.third_run i (ltb-false i (first + second) q) (ltb-true i (length ns) r))
      by false false false p q r =
          let long = (listed-order js ks ns first second out work1 work2 due).right.as_many in
          omega (
            arith,
            past-zero (lines_in_order js ks ns first second out work1 work2).numbers i (omega (arith, long, ltb-false i (length ns) r)),
          )
