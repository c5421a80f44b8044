-- The theorems of a run from place `from` up to `to`, as the contract of the code speaks of it. Assumes nothing.
use Prim.Native.Nat.{ℕ, suc, ◌+◌, ◌-◌, ◌<◌, ◌≤◌}
use native.Mathlib.Omega.{arith}
use mathlib.Core.Path.{◌≡◌, sym, ap, ◌∙◌, subst}
use mathlib.Core.Bool.{Bool}
use mathlib.Core.List.{List, [], ◌∷◌, ◌++◌, append_assoc}
use lib.ListN.{length, get_or, take, drop, length-append, length-drop, take-append-drop}
use lib.Seq.{slice, length-slice, length-take-le, take_at, drop_at, get_or-take, get_or-drop, take-take}
use Rattle.line_up.specs.keep.Piles.{most_kept, run_kept, zeros, Rises, Upward, All, EachZero, OrderLaws, Contradicted}
use Rattle.line_up.proofs.keep.Theorems.{Judged, kept-length, kept-judged, kept-rises, kept-most, kept-all, places-chosen}
use Rattle.line_up.proofs.keep.Contradicted.{left-out-contradicted}

list_ok : (ok : ℕ → Type 0) (i : ℕ) (l : List ℕ) → ((k : ℕ) → k < length l → get_or l k 0 ≡ 0 → ok (i + k)) → EachZero ok i l
list_ok ok i [] f = tt
list_ok ok i (n ∷ ns) f =
    let z : i + 0 ≡ i = omega arith in (
      (λ e. subst ok z (f 0 (omega arith) e)),
      list_ok ok (suc i) ns (λ k h e. let q : i + suc k ≡ suc i + k = omega arith in subst ok q (f (suc k) (omega arith) e)),
    )

module _ (lt : ℕ → ℕ → Bool) (ns : List ℕ) (from to : ℕ) (low : from ≤ to) (high : to ≤ length ns) where
  -- a number of the run
  slice_at : (d k : ℕ) → from + k < to → get_or (slice from to ns) k d ≡ get_or ns (from + k) d
  slice_at d k h = get_or-drop from (take to ns) k d ∙ get_or-take to ns (from + k) d h

  slice_long : length (slice from to ns) ≡ to - from
  slice_long = length-slice from to ns high

  kept-long : length (most_kept lt from (slice from to ns)) ≡ to - from
  kept-long = kept-length lt from (slice from to ns) ∙ slice_long

  head_long : length (take from ns) ≡ from
  head_long = length-take-le from ns (omega arith)

  both_long : length (take from ns ++ most_kept lt from (slice from to ns)) ≡ to
  both_long = length-append (take from ns) (most_kept lt from (slice from to ns)) ∙ omega (arith, head_long, kept-long)

  heads : take from ns ++ slice from to ns ≡ take to ns
  heads = ap (λ (l : List ℕ). l ++ slice from to ns) (sym (take-take from to ns low)) ∙ take-append-drop from (take to ns)

  pub run_length : length (run_kept lt ns from to) ≡ length ns
  run_length =
      length-append (take from ns) (most_kept lt from (slice from to ns) ++ drop to ns)
      ∙ omega (arith, head_long, kept-long, length-append (most_kept lt from (slice from to ns)) (drop to ns), length-drop to ns)

  -- the numbers of the run after the call
  pub run-slice : slice from to (run_kept lt ns from to) ≡ most_kept lt from (slice from to ns)
  run-slice =
      ap (λ (l : List ℕ). drop from (take to l)) (sym (append_assoc (take from ns) (most_kept lt from (slice from to ns)) (drop to ns)))
      ∙ ap (drop from) (take_at (take from ns ++ most_kept lt from (slice from to ns)) (drop to ns) to both_long)
      ∙ drop_at (take from ns) (most_kept lt from (slice from to ns)) from head_long

  -- the numbers before the run and behind it stay
  pub run-before : take from (run_kept lt ns from to) ≡ take from ns
  run-before = take_at (take from ns) (most_kept lt from (slice from to ns) ++ drop to ns) from head_long

  pub run-behind : drop to (run_kept lt ns from to) ≡ drop to ns
  run-behind =
      ap (drop to) (sym (append_assoc (take from ns) (most_kept lt from (slice from to ns)) (drop to ns)))
      ∙ drop_at (take from ns ++ most_kept lt from (slice from to ns)) (drop to ns) to both_long

  -- (4) a refused stamp keeps its number, and another has 0 or 17
  pub run-judged : (k : ℕ) → k < to - from → Judged (get_or (slice from to ns) k 0) (get_or (slice from to (run_kept lt ns from to)) k 0)
  run-judged k h = rw run-slice (kept-judged lt from (slice from to ns) k (omega (arith, slice_long)))

  -- (1) the kept ones rise
  pub run-rises : Rises lt (zeros from (slice from to (run_kept lt ns from to)))
  run-rises = rw run-slice (kept-rises lt from (slice from to ns))

  module _ (ok : ℕ → Type 0) (order : OrderLaws ok lt) (oks : (p : ℕ) → from ≤ p → p < to → get_or ns p 0 ≡ 0 → ok p) where
    pub zeros-ok : EachZero ok from (slice from to ns)
    zeros-ok = list_ok ok from (slice from to ns)
        (λ k h e. let q : from + k < to = omega (arith, slice_long) in oks (from + k) (omega arith) q (sym (slice_at 0 k q) ∙ e))

    in_slice : (i : ℕ) (xs : List ℕ) → from ≤ i → Upward i xs → All (λ (x : ℕ). (x < to) × (get_or ns x 1 ≡ 0)) xs
        → All (λ (x : ℕ). get_or (slice from to ns) (x - from) 1 ≡ 0) xs
    in_slice i [] h u a = tt
    in_slice i (x ∷ xs) h u a =
        let e : from + (x - from) ≡ x = omega (arith, u.0) in
        let k : from + (x - from) < to = omega (arith, a.0.0) in
        (slice_at 1 (x - from) k ∙ ap (λ (q : ℕ). get_or ns q 1) e ∙ a.0.1, in_slice (suc x) xs (omega (arith, u.0)) u.1 a.1)

    -- (2) no places of the run, one after the other, whose numbers were 0 and whose stamps rise, are more
    pub slice_most : (xs : List ℕ) → Upward from xs → All (λ (x : ℕ). (x < to) × (get_or ns x 1 ≡ 0)) xs → Rises lt xs
        → length xs ≤ length (zeros from (most_kept lt from (slice from to ns)))
    slice_most xs u a r = kept-most ok lt order from (slice from to ns) zeros-ok xs
        (places-chosen from (slice from to ns) xs u (in_slice from xs (omega arith) u a)) r

    pub run-most : (xs : List ℕ) → Upward from xs → All (λ (x : ℕ). (x < to) × (get_or ns x 1 ≡ 0)) xs → Rises lt xs
        → length xs ≤ length (zeros from (slice from to (run_kept lt ns from to)))
    run-most xs u a r = rw run-slice (slice_most xs u a r)

    -- (3) where all stamps whose numbers were 0 rise, nothing is left out
    pub run-all : Rises lt (zeros from (slice from to ns)) → run_kept lt ns from to ≡ ns
    run-all r =
        ap (λ (l : List ℕ). take from ns ++ (l ++ drop to ns)) (kept-all ok lt order from (slice from to ns) zeros-ok r)
        ∙ sym (append_assoc (take from ns) (slice from to ns) (drop to ns))
        ∙ ap (λ (l : List ℕ). l ++ drop to ns) (heads)
        ∙ take-append-drop to ns

    -- (5) who is left out contradicts a kept one
    pub run-contradicted : (p : ℕ) → from ≤ p → p < to → get_or ns p 1 ≡ 0 → (get_or (slice from to (run_kept lt ns from to)) (p - from) 0 ≡ 0 → ⊥)
        → Contradicted lt p (zeros from (slice from to (run_kept lt ns from to)))
    run-contradicted p h k z t =
        let e : from + (p - from) ≡ p = omega arith in
        let q : from + (p - from) < to = omega arith in
        rw run-slice (left-out-contradicted ok lt order from (slice from to ns) zeros-ok p h (slice_at 1 (p - from) q ∙ ap (λ (j : ℕ). get_or ns j 1) e ∙ z)
        (λ y. t (ap (λ (l : List ℕ). get_or l (p - from) 0) run-slice ∙ y)))
