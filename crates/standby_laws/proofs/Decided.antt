-- EACH REFUSAL exactly where it is due: of a bill 26, 27 and 28, of a time 1, the calendar's and 4; and equal times cost nothing. Assumes nothing.
use mathlib.Core.Path.{◌≡◌, refl, ap, sym, ◌∙◌}
use mathlib.Core.Bool.{Bool, true, false, true≢false, ◌||◌}
use mathlib.Core.Logic.{inl, inr}
use mathlib.Core.List.{List}
use Prim.Native.Nat.{ℕ, zero, suc, ◌+◌, ◌-◌, ◌*◌, ◌≤◌, ◌<◌}
use native.Mathlib.Omega.{arith}
use native.Mathlib.Nat.{zero-mul}
use lib.Dec.{ltb, eqb}
use lib.IntN.{pos}
use lib.Signed.{lt_z}
use borrow.Author.Tests.{ltb-true, ltb-false, eqb-true, eqb-false}
use Rattle.refusals.specs.Outcome.{Outcome, answer, refusal}
use Rattle.calendar.specs.declared.CalendarDate.{CalendarDate}
use Rattle.calendar.specs.Refusals.{next_of}
use Rattle.leap_table.specs.rows.Table.{Row}
use Rattle.standby.specs.declared.UtcTime.{UtcTime}
use Rattle.standby.specs.Times.{in_its_day, last_minute}
use Rattle.standby.specs.Bills.{quarters, quarters_between, over_limit, bill, shares, bill_between}
use Rattle.standby.proofs.Ladder as L
use Rattle.standby.proofs.Numbers.{within}
use Rattle.standby.proofs.Times as T
use Rattle.standby_laws.specs.Decisions.{Over, NotOver, BillDecision, TimeDecision, backward, over, no_line, billed, early, no_day, no_time, given}
use Rattle.standby_laws.proofs.Quarters.{no_time_no_quarter}
use Rattle.standby_laws.proofs.Sharing.{nothing-shared}

-- more than 1,000,000 quarters
many : (e : ℕ) → 1000000 < quarters e → 900000000000 < e
unfolding quarters
many e h = omega arith

few : (e : ℕ) → quarters e ≤ 1000000 → e ≤ 900000000000
unfolding quarters
few e h = omega arith

which : (e rate a b : ℕ) → over_limit (quarters e) rate a b ≡ true → Over e rate a b
unfolding over_limit
which e rate a b p = go (ltb 1000000 (quarters e)) refl (ltb 1000000 rate) refl (ltb 1000000 a) refl (ltb 1000000 b) refl p
  where
    go : (s : Bool) → ltb 1000000 (quarters e) ≡ s → (t : Bool) → ltb 1000000 rate ≡ t → (u : Bool) → ltb 1000000 a ≡ u → (v : Bool) → ltb 1000000 b ≡ v
        → s || (t || (u || v)) ≡ true → Over e rate a b
    go true x t y u z v w p = inl (many e (ltb-true 1000000 (quarters e) x))
    go false x true y u z v w p = inr (inl (ltb-true 1000000 rate y))
    go false x false y true z v w p = inr (inr (inl (ltb-true 1000000 a z)))
    go false x false y false z true w p = inr (inr (inr (ltb-true 1000000 b w)))
    go false x false y false z false w p = absurd (true≢false (sym p))

none_over : (e rate a b : ℕ) → over_limit (quarters e) rate a b ≡ false → NotOver e rate a b
none_over e rate a b p =
    let w = within (quarters e) rate a b p in
    record { time = few e w.0; low_rate = w.1; short_first = w.2; short_second = w.3 }

pub bill-decided : (s e rate a b : ℕ) → BillDecision s e rate a b
bill-decided s e rate a b = go (ltb e s) refl (over_limit (quarters_between s e) rate a b) refl (eqb (a + b) 0) refl
  where
    positive : (n : ℕ) → (n ≡ 0 → ⊥) → 0 < n
    positive zero h = absurd (h refl)
    positive (suc n) h = omega arith

    go : (t : Bool) → ltb e s ≡ t → (u : Bool) → over_limit (quarters_between s e) rate a b ≡ u → (v : Bool) → eqb (a + b) 0 ≡ v → BillDecision s e rate a b
    go true p u q v r = backward (ltb-true e s p) (sym (L.backward s e rate a b (ltb-true e s p)))
    go false p true q v r = over (ltb-false e s p) (which (e - s) rate a b q) (sym (L.over s e rate a b (ltb-false e s p) q))
    go false p false q true r = no_line (ltb-false e s p) (none_over (e - s) rate a b q) (eqb-true (a + b) 0 r)
        (sym (L.no_line s e rate a b (ltb-false e s p) q (eqb-true (a + b) 0 r)))
    go false p false q false r =
        billed (ltb-false e s p) (none_over (e - s) rate a b q) (positive (a + b) (eqb-false (a + b) 0 r))
        (sym (L.billed s e rate a b (ltb-false e s p) q (eqb-false (a + b) 0 r)))

module _ (rows : List Row) (t : UtcTime) where
  abbrev next : Outcome CalendarDate
  next = next_of t.year (pos t.month) (pos t.day)

  pub time-decided : TimeDecision rows t
  time-decided = go (lt_z t.year (pos 1972)) refl next refl
    where
      at : (p : lt_z t.year (pos 1972) ≡ false) (d : CalendarDate) → next ≡ answer d → (b : Bool) → in_its_day t (last_minute rows t d) ≡ b
          → TimeDecision rows t
      at p d e true q = given p d e q (sym (T.time-fits rows t d q ∙ T.on-date rows t p d e))
      at p d e false q = no_time p d e q (sym (T.time-refused rows t d q ∙ T.on-date rows t p d e))

      go : (b : Bool) → lt_z t.year (pos 1972) ≡ b → (o : Outcome CalendarDate) → next ≡ o → TimeDecision rows t
      go true p o e = early p (sym (T.early-year rows t p))
      go false p (refusal k) e = no_day p k e (sym (T.no_next rows t p k e))
      go false p (answer d) e = at p d e (in_its_day t (last_minute rows t d)) refl

-- EQUAL TIMES cost nothing
pub equal_times : (s rate a b : ℕ) → rate ≤ 1000000 → a ≤ 1000000 → b ≤ 1000000 → 0 < a + b → bill_between s s rate a b ≡ answer (bill 0 0 0)
equal_times s rate a b h k l m = go (bill-decided s s rate a b)
  where
    no_elapse : s - s ≡ 0
    no_elapse = omega arith

    go : BillDecision s s rate a b → bill_between s s rate a b ≡ answer (bill 0 0 0)
    go (backward p e) = absurd (omega (arith, p))
    go (over p (inl x) e) = absurd (omega (arith, x, no_elapse))
    go (over p (inr (inl x)) e) = absurd (omega (arith, x))
    go (over p (inr (inr (inl x))) e) = absurd (omega (arith, x))
    go (over p (inr (inr (inr x))) e) = absurd (omega (arith, x))
    go (no_line p w z e) = absurd (omega (arith, z))
    go (billed p w z e) = e ∙ ap (λ (q : ℕ). answer (shares q (q * rate) a b)) (no_time_no_quarter s)
        ∙ ap (λ (q : ℕ). answer (shares 0 q a b)) (zero-mul rate) ∙ ap answer (nothing-shared 0 a b)
