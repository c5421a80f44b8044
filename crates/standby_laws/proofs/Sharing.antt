-- THE SHARES add up, each lies within a cent of its exact part, the cent that is left over goes to the larger remainder and a tie to the first; lengths
-- exchanged exchange the shares, except at a tie. Assumes nothing.
use mathlib.Core.Path.{◌≡◌, refl, ap, sym, subst, ◌∙◌}
use mathlib.Core.Bool.{Bool, true, false}
use Prim.Native.Nat.{ℕ, zero, suc, ◌+◌, ◌-◌, ◌*◌, ◌≤◌, ◌<◌}
use native.Mathlib.Omega.{arith}
use native.Mathlib.Nat.{add-mul, one-mul, zero-mul, add-zero, add_comm, div-add-mod', mod-lt, zero-div, zero-mod}
use lib.Dec.{ltb}
use borrow.Author.Tests.{ltb-true, ltb-false}
use Rattle.standby.specs.declared.Bill.{Bill}
use Rattle.standby.specs.Bills.{share_down, remainder, cent_left, bill, shares}
use Rattle.standby.proofs.Shares.{parts-at-most, left-whole, left-at-most-one}
use Rattle.standby.proofs.Shares as S
use Rattle.standby_laws.specs.Sharing.{WithinACent, Shared, Cent, none, to_first, to_second}

-- a part rounded down, with nothing or one cent on top of it
near_down : (total a m : ℕ) → 0 < m → WithinACent total a m (share_down total a m)
near_down total a m h =
    let e = div-add-mod' (total * a) m in
    let l = mod-lt (total * a) h in
    record { over = omega (arith, e, l); under = omega (arith, e, l) }

near_up : (total a m : ℕ) → 0 < m → 0 < remainder total a m → WithinACent total a m (share_down total a m + 1)
near_up total a m h r =
    let e = div-add-mod' (total * a) m in
    let l = mod-lt (total * a) h in
    let s : (share_down total a m + 1) * m ≡ share_down total a m * m + m = add-mul (share_down total a m) 1 m
    ∙ ap (λ (x : ℕ). share_down total a m * m + x) (one-mul m) in
    record { over = omega (arith, e, l, s, r); under = omega (arith, e, l, s) }

module _ (q total a b : ℕ) (h : 0 < a + b) where
  abbrev m : ℕ
  m = a + b

  abbrev x : ℕ
  x = share_down total a m

  abbrev y : ℕ
  y = share_down total b m

  abbrev r : ℕ
  r = remainder total a m

  abbrev s : ℕ
  s = remainder total b m

  abbrev L : ℕ
  L = cent_left total a b

  whole : x + y + L ≡ total
  whole = omega (arith, parts-at-most total a b h)

  -- a cent is left exactly where the remainders make up all the metres
  one_left : L ≡ 1 → r + s ≡ m
  one_left e = sym (left-whole total a b h) ∙ ap (λ (z : ℕ). z * m) e ∙ one-mul m

  -- ---- where the cent goes
  in_second : r < s → Cent total a b (bill q x (y + L))
  in_second g = go L refl
    where
      go : (k : ℕ) → L ≡ k → Cent total a b (bill q x (y + L))
      go zero e = none (omega (arith, whole)) refl (omega arith)
      go (suc zero) e = to_second (omega (arith, whole)) g refl (omega arith)
      go (suc (suc k)) e = absurd (omega (arith, left-at-most-one total a b h, e))

  in_first : s ≤ r → Cent total a b (bill q (x + L) y)
  in_first g = go L refl
    where
      go : (k : ℕ) → L ≡ k → Cent total a b (bill q (x + L) y)
      go zero e = none (omega (arith, whole)) (omega arith) refl
      go (suc zero) e = to_first (omega (arith, whole)) g (omega arith) refl
      go (suc (suc k)) e = absurd (omega (arith, left-at-most-one total a b h, e))

  pub cent : Cent total a b (shares q total a b)
  cent = go (ltb r s) refl
    where
      go : (t : Bool) → ltb r s ≡ t → Cent total a b (shares q total a b)
      go true e = subst (λ (z : Bill). Cent total a b z) (S.to_second total a b h q (ltb-true r s e)) (in_second (ltb-true r s e))
      go false e = subst (λ (z : Bill). Cent total a b z) (S.to_first total a b h q (ltb-false r s e)) (in_first (ltb-false r s e))

  quarters-kept : (shares q total a b).quarters ≡ q
  quarters-kept = go (ltb r s) refl
    where
      go : (t : Bool) → ltb r s ≡ t → (shares q total a b).quarters ≡ q
      go true e = ap (λ (z : Bill). z.quarters) (sym (S.to_second total a b h q (ltb-true r s e)))
      go false e = ap (λ (z : Bill). z.quarters) (sym (S.to_first total a b h q (ltb-false r s e)))

  -- ---- a bill whose cent went so is right to the cent
  pub to-the-cent : (z : Bill) → z.quarters ≡ q → Cent total a b z → Shared q total a b z
  to-the-cent z p (none w e f) =
      record {
        quarters = p;
        sum = omega (arith, w, e, f);
        first_near = subst (λ (k : ℕ). WithinACent total a m k) (sym e) (near_down total a m h);
        second_near = subst (λ (k : ℕ). WithinACent total b m k) (sym f) (near_down total b m h);
      }
  to-the-cent z p (to_first w g e f) =
      let o = one_left (omega (arith, whole, w)) in
      record {
        quarters = p;
        sum = omega (arith, w, e, f);
        first_near = subst (λ (k : ℕ). WithinACent total a m k) (sym e) (near_up total a m h (omega (arith, o, g, h)));
        second_near = subst (λ (k : ℕ). WithinACent total b m k) (sym f) (near_down total b m h);
      }
  to-the-cent z p (to_second w g e f) =
      record {
        quarters = p;
        sum = omega (arith, w, e, f);
        first_near = subst (λ (k : ℕ). WithinACent total a m k) (sym e) (near_down total a m h);
        second_near = subst (λ (k : ℕ). WithinACent total b m k) (sym f) (near_up total b m h (omega (arith, g)));
      }

  -- THE SHARES add up to the total, and each is within a cent of its exact part
  pub shared : Shared q total a b (shares q total a b)
  shared = to-the-cent (shares q total a b) quarters-kept cent

  -- ---- LENGTHS EXCHANGED
  turned : 0 < b + a
  turned = omega (arith, h)

  turned_first : r ≤ s → bill q (y + (total - y - x)) x ≡ shares q total b a
  turned_first = rw (add_comm b a) at (S.to_first total b a turned q)

  turned_second : s < r → bill q y (x + (total - y - x)) ≡ shares q total b a
  turned_second = rw (add_comm b a) at (S.to_second total b a turned q)

  same_left : total - y - x ≡ L
  same_left = omega arith

  pub exchanged : (L ≡ 1 → r ≡ s → ⊥) → shares q total b a ≡ bill q (shares q total a b).second (shares q total a b).first
  exchanged no_tie = go (ltb r s) refl (ltb s r) refl
    where
      none_left : r ≡ s → L ≡ 0
      none_left e = least L refl
        where
          least : (k : ℕ) → L ≡ k → L ≡ 0
          least zero p = p
          least (suc zero) p = absurd (no_tie p e)
          least (suc (suc k)) p = absurd (omega (arith, left-at-most-one total a b h, p))

      go : (t : Bool) → ltb r s ≡ t → (u : Bool) → ltb s r ≡ u → shares q total b a ≡ bill q (shares q total a b).second (shares q total a b).first
      go true e u f =
          sym (turned_first (omega (arith, ltb-true r s e)))
          ∙ ap (λ (k : ℕ). bill q (y + k) x) same_left
          ∙ ap (λ (z : Bill). bill q z.second z.first) (S.to_second total a b h q (ltb-true r s e))
      go false e true f =
          sym (turned_second (ltb-true s r f))
          ∙ ap (λ (k : ℕ). bill q y (x + k)) same_left
          ∙ ap (λ (z : Bill). bill q z.second z.first) (S.to_first total a b h q (ltb-false r s e))
      go false e false f =
          let tie : r ≡ s = omega (arith, ltb-false r s e, ltb-false s r f) in
          let n = none_left tie in
          sym (turned_first (omega (arith, tie)))
          ∙ (λ i. bill q (y + (same_left ∙ n) i) x)
          ∙ (λ i. bill q (add-zero y i) (sym (add-zero x) i))
          ∙ ap (λ (k : ℕ). bill q y (x + k)) (sym n)
          ∙ ap (λ (z : Bill). bill q z.second z.first) (S.to_first total a b h q (ltb-false r s e))

-- NOTHING TO SHARE: nobody pays
pub nothing-shared : (q a b : ℕ) → shares q 0 a b ≡ bill q 0 0
unfolding shares
nothing-shared q a b = rw (zero-mul a, zero-mul b, zero-div (a + b), zero-mod (a + b))
