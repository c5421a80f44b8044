-- STAMPS AND PLACES, EACH AT ITS OWN BYTES: of parts that are written number by number stamp i has the i-th patterns, and the four bytes from 4 i on read back
-- as the i-th place of the order, so that each reading gets its own stamp. Assumes nothing.
use Prim.Native.Nat.{ℕ, zero, suc, ◌+◌, ◌*◌, ◌<◌, ◌≤◌}
use native.Mathlib.Omega.{arith}
use mathlib.Core.Path.{◌≡◌, refl, ap, subst, ◌∙◌}
use mathlib.Core.Bool.{Bool, true, false, cond}
use mathlib.Core.List.{List, [], ◌∷◌, ◌++◌}
use lib.Dec.{eqb, ltb}
use lib.ListN.{length, get_or, drop, get_or-eq_default}
use lib.Seq.{drop_at}
use lib.Ieee.{binary64, of_bits}
use borrow.Author.Tests.{eq-eqb, ltb-true, ltb-false}
use Rattle.numerals.specs.little_endian.LittleEndian.{four_at, u32_at, four_bytes, eight_bytes}
use Rattle.numerals.specs.little_endian.Written.{all_bytes, Numbers64}
use Rattle.numerals.proofs.little_endian.Items.{written-length, item_u32}
use Rattle.numerals.proofs.little_endian.Numbers.{eight-each}
use Rattle.numerals.proofs.little_endian.RoundTrip.{read-written-4}
use Rattle.julian.specs.declared.JulianDate.{JulianDate}
use Rattle.julian.specs.JulianDate.{julian}
use Rattle.julian.specs.stamp_lists.Stamps.{stamp_of}
use Rattle.julian.proofs.stamp_lists.Written.{stamps-of-lists}
use Rattle.line_up.specs.Runs.{times_in}
use Rattle.line_up.specs.LineUp.{places_bytes, LinedUp, lined_up}
use Rattle.line_up.specs.laws.Claims.{OneLine, Lined}
use Rattle.line_up.specs.laws.Due.{RoomEach}
use Rattle.line_up.specs.laws.Writer.{ListedLine}
use Rattle.line_up.proofs.laws.Due.{due_answered}

-- ---- the places are written one after the other

places-written : (ps : List ℕ) → places_bytes ps ≡ all_bytes four_bytes ps
unfolding places_bytes all_bytes
places-written [] = refl
places-written (p ∷ ps) = ap (λ (l : List ℕ). four_bytes p ++ l) (places-written ps)

places-long : (ps : List ℕ) → length (places_bytes ps) ≡ 4 * length ps
places-long ps = ap length (places-written ps) ∙ written-length four_bytes 4 (λ n. refl) ps

-- EACH PLACE reads back from its four bytes, whatever stands behind them
pub place-back : (ps rest : List ℕ) (i : ℕ) → i < length ps → get_or ps i 0 < 4294967296 → u32_at (places_bytes ps ++ rest) (4 * i) ≡ get_or ps i 0
place-back ps rest i h small =
    let e : 4 * i ≡ length {A = ℕ} [] + 4 * i + 0 = omega arith in
    ap (λ (l : List ℕ). u32_at (l ++ rest) (4 * i)) (places-written ps) ∙ ap (u32_at (all_bytes four_bytes ps ++ rest)) e
    ∙ item_u32 four_bytes 4 (λ n. refl) [] ps rest i 0 h 0 (omega arith) ∙ read-written-4 (get_or ps i 0) small

-- ---- a place that stands in a line is one of the numbers

stands : (ps : List ℕ) (i : ℕ) → i < length ps → 0 < times_in (get_or ps i 0) ps
unfolding times_in
stands [] i h = let w : ⊥ = omega arith in absurd w
stands (p ∷ ps) zero h = rw (eq-eqb p p refl) (omega arith)
stands (p ∷ ps) (suc i) h = omega (arith, stands ps i (omega arith))

in_range : (stamp : ℕ → JulianDate) (ns : List ℕ) (a b : ℕ) (line ms : List ℕ) → OneLine stamp ns a b line ms → (i : ℕ) → i < length line
    → get_or line i 0 < length ns
in_range stamp ns a b line ms o i h = go (ltb p (length ms)) refl
  where
    p : ℕ
    p = get_or line i 0

    go : (t : Bool) → ltb p (length ms) ≡ t → p < length ns
    go true e = omega (arith, ltb-true p (length ms) e, o.as_many)
    go false e =
        let d : get_or ms p 1 ≡ 1 = get_or-eq_default ms 1 {n = p} (ltb-false p (length ms) e) in
        let z : times_in p line ≡ 0 = o.once p ∙ ap (λ (m : ℕ). cond (eqb m 0) 1 0) d in
        let w : ⊥ = omega (arith, stands line i h, z) in
        absurd w

-- ---- THE STAMPS: stamp i of two lists is the one with the i-th patterns

-- the date of the i-th patterns
abbrev date : List ℕ → List ℕ → ℕ → JulianDate
date js ks i = julian (of_bits binary64 (get_or js i 0)) (of_bits binary64 (get_or ks i 0))

all-stamps : (js ks : List ℕ) → Numbers64 js → Numbers64 ks → stamp_of (all_bytes eight_bytes js) (all_bytes eight_bytes ks) ≡ date js ks
all-stamps js ks a b j i = stamps-of-lists js ks a b i j

-- ---- THE CALL over lists of patterns and numbers, as many of each
module _ (js ks ns : List ℕ) (first second : ℕ) (out : List ℕ) (tails ranks : ℕ) (firsts : length js ≡ length ns) (seconds : length ks ≡ length ns)
    (first-bits : Numbers64 js) (second-bits : Numbers64 ks) (runs : first + second ≤ length ns) (most : length ns ≤ 4294967295)
    (room : RoomEach (length ns) (length out) tails ranks) where
  abbrev call : LinedUp
  call = lined_up (all_bytes eight_bytes js) (all_bytes eight_bytes ks) ns first second out tails ranks

  lined : Lined (all_bytes eight_bytes js) (all_bytes eight_bytes ks) ns first second out call
  lined = due_answered (all_bytes eight_bytes js) (all_bytes eight_bytes ks) ns first second out tails ranks (record {
    parts = record {
      first = eight-each js ∙ ap (λ (n : ℕ). 8 * n) firsts;
      second = eight-each ks ∙ ap (λ (n : ℕ). 8 * n) seconds;
    };
    runs = runs;
    most = most;
    room = room;
  })

  pub line-of-lists : ListedLine js ks ns first second out (lined_up (all_bytes eight_bytes js) (all_bytes eight_bytes ks) ns first second out tails ranks)
  line-of-lists = of lined
    where
      of : Lined (all_bytes eight_bytes js) (all_bytes eight_bytes ks) ns first second out call → ListedLine js ks ns first second out call
      of l =
          let right : OneLine (date js ks) ns first (first + second) l.line call.numbers =
          subst (λ (stamp : ℕ → JulianDate). OneLine stamp ns first (first + second) l.line call.numbers)
          (all-stamps js ks first-bits second-bits) l.right in
          record {
            line = l.line;
            answers = l.answers;
            counted = l.counted;
            place_at = λ i h.
                let small : get_or l.line i 0 < length ns = in_range (date js ks) ns first (first + second) l.line call.numbers right i h in
                ap (λ (s : List ℕ). u32_at s (4 * i)) l.places ∙ place-back l.line (drop (4 * length l.line) out) i h (omega arith);
            spare = ap (drop (4 * length l.line)) l.places
                ∙ drop_at (places_bytes l.line) (drop (4 * length l.line) out) (4 * length l.line) (places-long l.line);
            right = right;
          }

-- ---- places are counted from 0: of two the second, 1, stands in the second four bytes
pub second-place : (u32_at (places_bytes (0 ∷ 1 ∷ [])) 0 ≡ 0) × (u32_at (places_bytes (0 ∷ 1 ∷ [])) 4 ≡ 1)
unfolding u32_at four_at places_bytes
second-place = (refl, refl)
