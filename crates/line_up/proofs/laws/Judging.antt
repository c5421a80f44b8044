-- Who is left out, and why. Assumes nothing.
use Prim.Native.Nat.{ℕ, zero, suc, ◌+◌, ◌-◌, ◌<◌, ◌≤◌}
use native.Mathlib.Omega.{arith}
use mathlib.Core.Path.{◌≡◌, refl, sym, ap, ◌∙◌, subst}
use mathlib.Core.Bool.{Bool, true, false, cond}
use mathlib.Core.Logic.{◌⊎◌, inl, inr}
use mathlib.Core.List.{List, [], ◌∷◌}
use lib.Dec.{eqb}
use lib.ListN.{length, get_or}
use lib.Seq.{slice, length-slice, get_or-drop, get_or-take}
use borrow.Author.Tests.{eq-eqb, eqb-true}
use Rattle.line_up.specs.keep.Piles.{OrderLaws, EachZero, Contradicted}
use Rattle.line_up.proofs.keep.Theorems.{Judged, kept-judged}
use Rattle.line_up.proofs.keep.Contradicted.{left-out-contradicted}
use Rattle.line_up.specs.Runs.{run, zeros, times_in, MayFollow}
use Rattle.line_up.specs.laws.Claims.{Each, Pairs, Contrary, RunJudged, RightlyIn}
use Rattle.line_up.proofs.Zeros.{times_in-zeros}
use Rattle.line_up.proofs.Marks.{length_run}
use Rattle.line_up.proofs.laws.Once.{any_default}
use Rattle.line_up.proofs.laws.Pairwise.{member}

-- ---- any two accepted places of a run

pairs_rest : (R : ℕ → ℕ → Type 0) (t : Bool) (i : ℕ) (xs : List ℕ) → Pairs R (cond t (i ∷ xs) xs) → Pairs R xs
pairs_rest R true i xs p = p.1
pairs_rest R false i xs p = p

pairs_first : (R : ℕ → ℕ → Type 0) (t : Bool) (i : ℕ) (xs : List ℕ) → t ≡ true → Pairs R (cond t (i ∷ xs) xs) → Each (R i) xs
pairs_first R true i xs e p = p.0
pairs_first R false i xs e p = let z : ◌≡◌ {A = ℕ} 0 1 = ap (λ (c : Bool). cond c 1 0) e in let w : ⊥ = omega arith in absurd w

pub two-places : (R : ℕ → ℕ → Type 0) (ms : List ℕ) (i x y : ℕ) → x < y → get_or ms x 1 ≡ 0 → get_or ms y 1 ≡ 0 → Pairs R (zeros i ms) → R (i + x) (i + y)
unfolding zeros
two-places R [] i x y h a b p = let z : ◌≡◌ {A = ℕ} 1 0 = a in let w : ⊥ = omega arith in absurd w
two-places R (m ∷ ms) i zero zero h a b p = let z : ⊥ = omega arith in absurd z
two-places R (m ∷ ms) i (suc x) zero h a b p = let z : ⊥ = omega arith in absurd z
two-places R (m ∷ ms) i zero (suc y) h a b p =
    let e = pairs_first R (eqb m 0) i (zeros (suc i) ms) (eq-eqb m 0 a) p in
    let c : times_in (suc i + y) (zeros (suc i) ms) ≡ 1 = times_in-zeros (suc i) y ms ∙ rw b in
    let r : R i (suc i + y) = member (R i) (suc i + y) (zeros (suc i) ms) e (omega (arith, c)) in
    let d : suc i + y ≡ i + suc y = omega arith in
    let f : i ≡ i + 0 = omega arith in
    subst (λ (q : ℕ). R q (i + suc y)) f (subst (R i) d r)
two-places R (m ∷ ms) i (suc x) (suc y) h a b p =
    let r : R (suc i + x) (suc i + y) = two-places R ms (suc i) x y (omega arith) a b (pairs_rest R (eqb m 0) i (zeros (suc i) ms) p) in
    let d : suc i + x ≡ i + suc x = omega arith in
    let e : suc i + y ≡ i + suc y = omega arith in
    subst (λ (q : ℕ). R q (i + suc y)) d (subst (R (suc i + x)) e r)

-- ---- which accepted place contradicts

record Found (lt : ℕ → ℕ → Bool) (ms : List ℕ) (i p : ℕ) : Type 0 where
  index : ℕ
  high : index < length ms
  in_line : get_or ms index 0 ≡ 0
  against : ((i + index < p) × (lt p (i + index) ≡ true)) ⊎ ((p < i + index) × (lt (i + index) p ≡ true))

module _ (lt : ℕ → ℕ → Bool) (p : ℕ) where
  found-more : (m i : ℕ) (ms : List ℕ) → Found lt ms (suc i) p → Found lt (m ∷ ms) i p
  found-more m i ms f =
      let e : suc i + f.index ≡ i + suc f.index = omega arith in
      record {
        index = suc f.index;
        high = omega (arith, f.high);
        in_line = f.in_line;
        against = subst (λ (q : ℕ). ((q < p) × (lt p q ≡ true)) ⊎ ((p < q) × (lt q p ≡ true))) e f.against;
      }

  found-by : (c : Bool) (m i : ℕ) (ms : List ℕ) → eqb m 0 ≡ c → (Contradicted lt p (zeros (suc i) ms) → Found lt ms (suc i) p)
      → Contradicted lt p (cond c (i ∷ zeros (suc i) ms) (zeros (suc i) ms)) → Found lt (m ∷ ms) i p
  found-by true m i ms e f (inl h) =
      let d : i ≡ i + 0 = omega arith in
      record {
        index = 0;
        high = omega arith;
        in_line = eqb-true m 0 e;
        against =
            subst (λ (q : ℕ). ((q < p) × (lt p q ≡ true)) ⊎ ((p < q) × (lt q p ≡ true))) d h;
      }
  found-by true m i ms e f (inr h) = found-more m i ms (f h)
  found-by false m i ms e f h = found-more m i ms (f h)

  found : (i : ℕ) (ms : List ℕ) → Contradicted lt p (zeros i ms) → Found lt ms i p
  unfolding zeros
  found i [] h = absurd h
  found i (m ∷ ms) h = found-by (eqb m 0) m i ms refl (found (suc i) ms) h

-- ---- a run in its block

module _ (lt : ℕ → ℕ → Bool) (ns ms : List ℕ) (from to : ℕ) (ft : from ≤ to) (tn : to ≤ length ns) (is : slice from to ms ≡ run lt ns from to) where
  at : (j : ℕ) → j < to - from → get_or (run lt ns from to) j 0 ≡ get_or ms (from + j) 0
  at j h = ap (λ (l : List ℕ). get_or l j 0) (sym is) ∙ get_or-drop from _ j 0 ∙ get_or-take to ms (from + j) 0 (omega arith)

  was : (d j : ℕ) → j < to - from → get_or (slice from to ns) j d ≡ get_or ns (from + j) d
  was d j h = get_or-drop from _ j d ∙ get_or-take to ns (from + j) d (omega arith)

  long : length (run lt ns from to) ≡ to - from
  long = length_run lt ns from to tn

  zero_at : (i : ℕ) → from ≤ i → i < to → get_or ms i 0 ≡ 0 → get_or (run lt ns from to) (i - from) 1 ≡ 0
  zero_at i h k e =
      let d : from + (i - from) ≡ i = omega arith in
      any_default (run lt ns from to) (i - from) 1 0 (omega (arith, long)) ∙ at (i - from) (omega arith) ∙ ap (λ (q : ℕ). get_or ms q 0) d ∙ e

  module _ (ok : ℕ → Type 0) (order : OrderLaws ok lt) (oks : EachZero ok from (slice from to ns)) where
    contrary_of : (i : ℕ) → Found lt (run lt ns from to) from i → Contrary lt ms from to i
    contrary_of i f =
        let h : f.index < to - from = omega (arith, f.high, long) in
        record { place = from + f.index; low = omega arith; high = omega (arith, h); in_line = sym (at f.index h) ∙ f.in_line; against = f.against }

    module _ (i : ℕ) (h : from ≤ i) (k : i < to) where
      here : from + (i - from) ≡ i
      here = omega arith

      inside : i - from < to - from
      inside = omega arith

      now_is : get_or (run lt ns from to) (i - from) 0 ≡ get_or ms i 0
      now_is = at (i - from) inside ∙ ap (λ (q : ℕ). get_or ms q 0) here

      was_is : (d : ℕ) → get_or (slice from to ns) (i - from) d ≡ get_or ns i d
      was_is d = was d (i - from) inside ∙ ap (λ (q : ℕ). get_or ns q d) here

      ruling : Judged (get_or (slice from to ns) (i - from) 0) (get_or (run lt ns from to) (i - from) 0)
      ruling = kept-judged lt from (slice from to ns) (i - from) (omega (arith, length-slice from to ns tn))

      left-out-by : get_or ns i 0 ≡ 0 → (get_or (run lt ns from to) (i - from) 0 ≡ 0) ⊎ (get_or (run lt ns from to) (i - from) 0 ≡ 17) → (get_or ms i 0 ≡ 0)
          ⊎ ((get_or ms i 0 ≡ 17) × Contrary lt ms from to i)
      left-out-by e (inl q) = inl (sym now_is ∙ q)
      left-out-by e (inr q) =
          let z : get_or (slice from to ns) (i - from) 1 ≡ 0 = any_default (slice from to ns) (i - from) 1 0 (omega (arith, length-slice from to ns tn))
          ∙ was_is 0 ∙ e in
          let no : get_or (run lt ns from to) (i - from) 0 ≡ 0 → ⊥ = λ y. omega (arith, y, q) in
          inr (sym now_is ∙ q, contrary_of i (found lt i from (run lt ns from to) (left-out-contradicted ok lt order from (slice from to ns) oks i h z no)))

      pub judged : RunJudged lt ns ms from to i
      judged = record {
        refused = λ n. sym now_is ∙ ruling.refused (λ z. n (sym (was_is 0) ∙ z)) ∙ was_is 0;
        left_out = λ e. left-out-by e (ruling.accepted (was_is 0 ∙ e));
      }

  no_two : (x y : ℕ) → from ≤ x → x < y → y < to → Pairs (MayFollow lt) (zeros from (run lt ns from to)) → get_or ms x 0 ≡ 0 → get_or ms y 0 ≡ 0 → lt y x ≡ true
      → ⊥
  no_two x y h m k ps ex ey t =
      let f = two-places (MayFollow lt) (run lt ns from to) from (x - from) (y - from) (omega arith) (zero_at x h (omega arith) ex)
      (zero_at y (omega arith) k ey) ps in
      let d : from + (x - from) ≡ x = omega arith in
      let g : from + (y - from) ≡ y = omega arith in
      let q : lt y x ≡ false = ap (λ (z : ℕ). lt z x) (sym g) ∙ ap (lt (from + (y - from))) (sym d) ∙ f.late in
      let z : ◌≡◌ {A = ℕ} 0 1 = ap (λ (c : Bool). cond c 0 1) (sym t ∙ q) in
      omega arith

  none-by : (i : ℕ) → from ≤ i → i < to → Pairs (MayFollow lt) (zeros from (run lt ns from to)) → get_or ms i 0 ≡ 0 → (q : ℕ) → from ≤ q → q < to
      → get_or ms q 0 ≡ 0 → ((q < i) × (lt i q ≡ true)) ⊎ ((i < q) × (lt q i ≡ true)) → ⊥
  none-by i h k ps e q a b z (inl t) = no_two q i a t.0 k ps z e t.1
  none-by i h k ps e q a b z (inr t) = no_two i q h t.0 b ps e z t.1

  pub right : Pairs (MayFollow lt) (zeros from (run lt ns from to)) → (i : ℕ) → from ≤ i → i < to → RightlyIn lt ms from to i
  right ps i h k = record { none = λ e l. none-by i h k ps e l.place l.low l.high l.in_line l.against }
