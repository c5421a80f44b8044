-- The loop that keeps one stamp of each pile, from the back. Assumes nothing.
use Prim.Native.Nat.{ℕ, suc, ◌-◌, ◌<◌, ◌≤◌}
use native.Mathlib.Omega.{arith}
use mathlib.Core.Path.{◌≡◌, refl, sym, ap, ◌∙◌, subst}
use mathlib.Core.List.{List, ◌∷◌, ◌++◌}
use lib.ListN.{length, get_or, take, drop, set, length-set, take-append-drop}
use lib.Seq.{slice, slice_empty, slice-cons, get_or-take, get_or-set_same, take-set-le, take-take, drop-cons, drop-set-lt}
use Rattle.line_up.specs.keep.Piles.{wanted_before, wanted, number_by_pile, all_judged}
use Rattle.line_up.specs.keep.Asked.{Judgeable, run_judged}

-- the stamps from place i on are judged
pub record Judging (ns rs : List ℕ) (from to many : ℕ) (now : List ℕ) (w i : ℕ) : Type 0 where
  pub len : length now ≡ length ns
  pub low : from ≤ i
  pub high : i ≤ to
  pub want : w ≡ wanted (slice i to rs) many
  pub rest : take i now ≡ take i ns
  pub done : drop i now ≡ all_judged (slice i to ns) (slice i to rs) many ++ drop to ns

module _ (ns rs : List ℕ) (from to many : ℕ) (a : Judgeable ns rs from to) where
  pub judging_starts : Judging ns rs from to many ns many to
  unfolding wanted all_judged
  judging_starts = record {
    len = refl;
    low = a.low;
    high = omega arith;
    want = rw (slice_empty to rs);
    rest = refl;
    done = rw (slice_empty to rs);
  }

  module _ (now : List ℕ) (w i : ℕ) (j : Judging ns rs from to many now w (suc i)) (h : from ≤ i) where
    same_number : get_or now i 0 ≡ get_or ns i 0
    same_number = sym (get_or-take (suc i) now i 0 (omega arith)) ∙ ap (λ (l : List ℕ). get_or l i 0) j.rest ∙ get_or-take (suc i) ns i 0 (omega arith)

    goes_done : (r m : ℕ) → r ≡ get_or rs i 0 → m ≡ number_by_pile (get_or now i 0) r w → m ∷ drop (suc i) now ≡ all_judged (slice i to ns) (slice i to rs) many
        ++ drop to ns
    unfolding all_judged
    goes_done r m er em =
        let n : slice i to ns ≡ get_or ns i 0 ∷ slice (suc i) to ns = slice-cons i to ns 0 (omega (arith, j.high)) a.high in
        let s : slice i to rs ≡ get_or rs i 0 ∷ slice (suc i) to rs = slice-cons i to rs 0 (omega (arith, j.high)) a.rank_room in
        let e : m ≡ number_by_pile (get_or ns i 0) (get_or rs i 0) (wanted (slice (suc i) to rs) many) = em ∙ ap (λ (x : ℕ). number_by_pile x r w) same_number
        ∙ ap (λ (x : ℕ). number_by_pile (get_or ns i 0) x w) er ∙ ap (λ (x : ℕ). number_by_pile (get_or ns i 0) (get_or rs i 0) x) j.want in
        rw (n, s, ← e) (ap (λ (l : List ℕ). m ∷ l) j.done)

    goes_want : (r w' : ℕ) → r ≡ get_or rs i 0 → w' ≡ wanted_before r w → w' ≡ wanted (slice i to rs) many
    unfolding wanted
    goes_want r w' er ew =
        let s : slice i to rs ≡ get_or rs i 0 ∷ slice (suc i) to rs = slice-cons i to rs 0 (omega (arith, j.high)) a.rank_room in
        rw s (ew ∙ ap (λ (x : ℕ). wanted_before x w) er ∙ ap (λ (x : ℕ). wanted_before (get_or rs i 0) x) j.want)

    pub judging_goes : (r m w' : ℕ) → r ≡ get_or rs i 0 → m ≡ number_by_pile (get_or now i 0) r w → w' ≡ wanted_before r w
        → Judging ns rs from to many (set now i m) w' i
    judging_goes r m w' er em ew =
        let k : i < length now = omega (arith, j.len, j.high, a.high) in
        let k' : i < length (set now i m) = omega (arith, length-set now i m) in
        record {
          len = length-set now i m ∙ j.len;
          low = h;
          high = omega (arith, j.high);
          want = goes_want r w' er ew;
          rest = take-set-le i now i m (omega arith) ∙ sym (take-take i (suc i) now (omega arith)) ∙ ap (take i) j.rest
              ∙ take-take i (suc i) ns (omega arith);
          done = drop-cons (set now i m) i 0 k' ∙ ap (λ (x : ℕ). x ∷ drop (suc i) (set now i m)) (get_or-set_same now i m 0 k)
              ∙ ap (λ (l : List ℕ). m ∷ l) (drop-set-lt (suc i) now i m (omega arith)) ∙ goes_done r m er em;
        }

  -- with the code's i - 1
  pub judging_next : (now : List ℕ) (w i : ℕ) → Judging ns rs from to many now w i → from < i → (r m w' : ℕ) → r ≡ get_or rs (i - 1) 0
      → m ≡ number_by_pile (get_or now (i - 1) 0) r w → w' ≡ wanted_before r w → Judging ns rs from to many (set now (i - 1) m) w' (i - 1)
  judging_next now w i j h r m w' er em ew =
      let e : i ≡ suc (i - 1) = omega arith in
      judging_goes now w (i - 1) (subst (λ (x : ℕ). Judging ns rs from to many now w x) e j) (omega arith) r m w' er em ew

  pub judging_ends : (now : List ℕ) (w i : ℕ) → Judging ns rs from to many now w i → i ≤ from → now ≡ run_judged ns rs from to many
  judging_ends now w i j h =
      let e : i ≡ from = omega (arith, j.low) in
      sym (take-append-drop i now) ∙ ap (λ (l : List ℕ). l ++ drop i now) j.rest ∙ ap (λ (l : List ℕ). take i ns ++ l) j.done
      ∙ ap (λ (x : ℕ). take x ns ++ (all_judged (slice x to ns) (slice x to rs) many ++ drop to ns)) e
