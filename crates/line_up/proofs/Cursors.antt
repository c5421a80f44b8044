-- The three cursors: each is the end1 accepted place that is left of its run, or the length. Assumes nothing.
use Prim.Native.Nat.{ℕ, zero, suc, ◌+◌, ◌<◌, ◌≤◌}
use native.Mathlib.Omega.{arith}
use mathlib.Core.Path.{◌≡◌, refl, sym, ap, ◌∙◌, subst}
use mathlib.Core.Bool.{Bool, true, false, cond}
use mathlib.Core.List.{List, [], ◌∷◌}
use lib.Dec.{eqb, ltb}
use lib.ListN.{length, get_or, take, drop_of_length-le}
use lib.Seq.{slice, slice-cons, length-slice, length-take-le}
use borrow.Author.Tests.{eqb-true, eqb-false, ltb-true, ltb-false}
use Rattle.line_up.specs.Runs.{zeros, accepted_in, merge, merged, first_or, pick, cursor_after}
use Rattle.line_up.proofs.Merges.{Under, From, under-merge, under_more}
use Rattle.line_up.proofs.Zeros.{zeros-from, zeros-under, from_less}
use Rattle.line_up.proofs.Steps.{adv, adv_other, from_first, three-step, first-merge}

module _ (ms : List ℕ) (to : ℕ) (tn : to ≤ length ms) where
  pub accepted_in-none : (i : ℕ) → to ≤ i → accepted_in ms i to ≡ []
  unfolding zeros
  accepted_in-none i h = let k : length (take to ms) ≤ i = omega (arith, length-take-le to ms tn) in rw (drop_of_length-le (take to ms) k)

  pub accepted_in-cons : (i : ℕ) → i < to → accepted_in ms i to ≡ cond (eqb (get_or ms i 0) 0) (i ∷ accepted_in ms (suc i) to) (accepted_in ms (suc i) to)
  unfolding zeros
  accepted_in-cons i h = ap (zeros i) (slice-cons i to ms 0 h tn)

  -- ---- the end1 accepted place from i on, as a start

  first-none : (i : ℕ) → to ≤ i → accepted_in ms (first_or (length ms) (accepted_in ms i to)) to ≡ accepted_in ms i to
  first-none i h = rw (accepted_in-none i h) (accepted_in-none (length ms) tn)

  first-choose : (t : Bool) (i : ℕ) → accepted_in ms i to ≡ cond t (i ∷ accepted_in ms (suc i) to) (accepted_in ms (suc i) to)
      → accepted_in ms (first_or (length ms) (accepted_in ms (suc i) to)) to ≡ accepted_in ms (suc i) to
      → accepted_in ms (first_or (length ms) (accepted_in ms i to)) to ≡ accepted_in ms i to
  first-choose true i e h = ap (λ (l : List ℕ). accepted_in ms (first_or (length ms) l) to) e
  first-choose false i e h = ap (λ (l : List ℕ). accepted_in ms (first_or (length ms) l) to) e ∙ h ∙ sym e

  first-test : (t : Bool) (i : ℕ) → ltb i to ≡ t → accepted_in ms (first_or (length ms) (accepted_in ms (suc i) to)) to ≡ accepted_in ms (suc i) to
      → accepted_in ms (first_or (length ms) (accepted_in ms i to)) to ≡ accepted_in ms i to
  first-test true i p h = first-choose (eqb (get_or ms i 0) 0) i (accepted_in-cons i (ltb-true i to p)) h
  first-test false i p h = first-none i (ltb-false i to p)

  first_by : (k i : ℕ) → to ≤ i + k → accepted_in ms (first_or (length ms) (accepted_in ms i to)) to ≡ accepted_in ms i to
  first_by zero i h = first-none i (omega arith)
  first_by (suc k) i h = first-test (ltb i to) i refl (first_by k (suc i) (omega arith))

  pub from_start : (i : ℕ) → accepted_in ms (first_or (length ms) (accepted_in ms i to)) to ≡ accepted_in ms i to
  from_start i = first_by to i (omega arith)

  -- ---- a cursor

  -- x is the end1 accepted place from x on
  abbrev pub Cursor : ℕ → Type 0
  Cursor x = x ≡ first_or (length ms) (accepted_in ms x to)

  pub cursor_first : (i : ℕ) → Cursor (first_or (length ms) (accepted_in ms i to))
  cursor_first i = sym (ap (first_or (length ms)) (from_start i))

  cursor_choose : (t : Bool) (x : ℕ) → Cursor x → x < length ms → accepted_in ms x to ≡ cond t (x ∷ accepted_in ms (suc x) to) (accepted_in ms (suc x) to)
      → accepted_in ms x to ≡ x ∷ accepted_in ms (suc x) to
  cursor_choose true x c h e = e
  cursor_choose false x c h e =
      let q : x ≡ first_or (length ms) (accepted_in ms (suc x) to) = c ∙ ap (first_or (length ms)) e in
      let k : suc x ≤ first_or (length ms) (accepted_in ms (suc x) to) =
      from_first (λ _ _. true) (length ms) (suc x) (accepted_in ms (suc x) to) (zeros-from (suc x) (slice (suc x) to ms)) (omega arith) in
      let z : ⊥ = omega arith in
      absurd z

  cursor_cons : (t : Bool) (x : ℕ) → ltb x to ≡ t → Cursor x → x < length ms → accepted_in ms x to ≡ x ∷ accepted_in ms (suc x) to
  cursor_cons true x p c h = cursor_choose (eqb (get_or ms x 0) 0) x c h (accepted_in-cons x (ltb-true x to p))
  cursor_cons false x p c h =
      let q : x ≡ length ms = c ∙ ap (first_or (length ms)) (accepted_in-none x (ltb-false x to p)) in
      let z : ⊥ = omega arith in
      absurd z

  under-by : (t : Bool) (x : ℕ) → ltb x to ≡ t → Under to (accepted_in ms x to)
  under-by true x p = let h : x < to = ltb-true x to p in zeros-under x to (slice x to ms) (omega (arith, length-slice x to ms tn))
  under-by false x p = subst (Under to) (sym (accepted_in-none x (ltb-false x to p))) tt

  pub accepted_in-under : (x : ℕ) → Under to (accepted_in ms x to)
  accepted_in-under x = under-by (ltb x to) x refl

  -- ---- a cursor after place p went into the order

  pub first-low : (lo : ℕ) (xs : List ℕ) → lo ≤ length ms → From lo xs → lo ≤ first_or (length ms) xs
  first-low lo [] h f = h
  first-low lo (x ∷ xs) h f = f.0

  pub record Moved (lo p x : ℕ) : Type 0 where
    pub list : adv p (accepted_in ms x to) ≡ accepted_in ms (cursor_after ms to p x) to
    pub cursor : Cursor (cursor_after ms to p x)
    pub low : lo ≤ cursor_after ms to p x

  move_by : (t : Bool) (lo p x : ℕ) → eqb p x ≡ t → Cursor x → p < length ms → lo ≤ x → Moved lo p x
  unfolding cursor_after
  move_by true lo p x e c h l =
      let q : p ≡ x = eqb-true p x e in
      let k : accepted_in ms x to ≡ x ∷ accepted_in ms (suc x) to = cursor_cons (ltb x to) x refl c (omega arith) in
      record {
        list = rw (k, e, from_start (suc p)) (ap (λ (z : ℕ). accepted_in ms (suc z) to) (sym q));
        cursor = rw e (cursor_first (suc p));
        low = rw e (first-low lo (accepted_in ms (suc p) to) (omega arith)
            (from_less (omega arith) (accepted_in ms (suc p) to) (zeros-from (suc p) (slice (suc p) to ms))));
      }
  move_by false lo p x e c h l =
      record {
        list = rw e (adv_other (λ _ _. true) (length ms) p (accepted_in ms x to) (λ q. eqb-false p x e (q ∙ sym c)));
        cursor = rw e c;
        low = rw e l;
      }

  pub move : (lo p x : ℕ) → Cursor x → p < length ms → lo ≤ x → Moved lo p x
  move lo p x c h l = move_by (eqb p x) lo p x refl c h l

-- ---- the three

pub record Cursors (ms : List ℕ) (end1 end2 x y z : ℕ) : Type 0 where
  pub one : x ≡ first_or (length ms) (accepted_in ms x end1)
  pub two : y ≡ first_or (length ms) (accepted_in ms y end2)
  pub three : z ≡ first_or (length ms) (accepted_in ms z (length ms))
  pub two-low : end1 ≤ y
  pub three-low : end2 ≤ z

module _ (lt : ℕ → ℕ → Bool) (ms : List ℕ) (end1 end2 : ℕ) (fs : end1 ≤ end2) (sn : end2 ≤ length ms) where
  fn : end1 ≤ length ms
  fn = omega arith

  nn : length ms ≤ length ms
  nn = omega arith

  -- the place that goes next
  pub next-is : (x y z : ℕ) → Cursors ms end1 end2 x y z
      → first_or (length ms) (merged lt ms x end1 y end2 z (length ms)) ≡ pick lt (length ms) (pick lt (length ms) x y) z
  next-is x y z c =
      let ux = under_more fn (accepted_in ms x end1) (accepted_in-under ms end1 fn x) in
      let uy = under_more sn (accepted_in ms y end2) (accepted_in-under ms end2 sn y) in
      let uz = accepted_in-under ms (length ms) nn z in
      first-merge lt (length ms) (merge lt (accepted_in ms x end1) (accepted_in ms y end2)) (accepted_in ms z (length ms))
      (under-merge lt (length ms) (accepted_in ms x end1) (accepted_in ms y end2) ux uy) uz
      ∙ ap (λ (q : ℕ). pick lt (length ms) q (first_or (length ms) (accepted_in ms z (length ms))))
      (first-merge lt (length ms) (accepted_in ms x end1) (accepted_in ms y end2) ux uy)
      ∙ ap (λ (q : ℕ). pick lt (length ms) (pick lt (length ms) q (first_or (length ms) (accepted_in ms y end2)))
      (first_or (length ms) (accepted_in ms z (length ms)))) (sym c.one)
      ∙ ap (λ (q : ℕ). pick lt (length ms) (pick lt (length ms) x q) (first_or (length ms) (accepted_in ms z (length ms)))) (sym c.two)
      ∙ ap (λ (q : ℕ). pick lt (length ms) (pick lt (length ms) x y) q) (sym c.three)

  module _ (x y z p : ℕ) (c : Cursors ms end1 end2 x y z) (pn : p < length ms)
      (e : p ≡ first_or (length ms) (merged lt ms x end1 y end2 z (length ms))) where
    mx : Moved ms end1 fn 0 p x
    mx = move ms end1 fn 0 p x c.one pn (omega arith)

    my : Moved ms end2 sn end1 p y
    my = move ms end2 sn end1 p y c.two pn c.two-low

    mz : Moved ms (length ms) nn end2 p z
    mz = move ms (length ms) nn end2 p z c.three pn c.three-low

    pub cursors_cursor_after : Cursors ms end1 end2 (cursor_after ms end1 p x) (cursor_after ms end2 p y) (cursor_after ms (length ms) p z)
    cursors_cursor_after = record { one = mx.cursor; two = my.cursor; three = mz.cursor; two-low = my.low; three-low = mz.low }

    pub merged-cursor_after : merged lt ms x end1 y end2 z (length ms) ≡ p ∷ merged lt ms (cursor_after ms end1 p x) end1 (cursor_after ms end2 p y)
        end2 (cursor_after ms (length ms) p z) (length ms)
    merged-cursor_after =
        let ux = accepted_in-under ms end1 fn x in
        three-step lt (length ms) end1 end2 p (accepted_in ms x end1) (accepted_in ms y end2) (accepted_in ms z (length ms)) fs ux
        (under_more fs (accepted_in ms x end1) ux)
        (from_less c.two-low (accepted_in ms y end2) (zeros-from y (slice y end2 ms))) (accepted_in-under ms end2 sn y)
        (from_less c.three-low (accepted_in ms z (length ms)) (zeros-from z (slice z (length ms) ms))) pn e
        ∙ rw (mx.list, my.list, mz.list)
