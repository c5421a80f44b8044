-- ONE STATEMENT of the whole bill: the start's fault, else the end's, else the bill from the one exact TAI to the other, both by one table. Assumes nothing.
use Prim.Native.Nat.{ℕ}
use mathlib.Core.Path.{◌≡◌}
use mathlib.Core.Logic.{◌⊎◌, inl, inr}
use mathlib.Core.List.{List}
use Rattle.refusals.specs.Outcome.{answer, refusal, onward}
use Rattle.leap_table.specs.rows.Table.{Row}
use Rattle.standby.specs.declared.UtcTime.{UtcTime}
use Rattle.standby.specs.Times.{tai_ms, instant}
use Rattle.standby.specs.Bills.{standby_bill}
use Rattle.standby_laws.specs.Decisions.{TimeDecision, early, no_day, no_time, given}
use Rattle.standby_laws.specs.Meaning.{BillMeaning, faulty_start, faulty_end, both_taken}
use Rattle.standby_laws.proofs.Decided.{time-decided, bill-decided}

-- a time has its exact TAI, or a fault
taken-or-not : (rows : List Row) (t : UtcTime) → TimeDecision rows t → (instant rows t ≡ answer (tai_ms rows t)) ⊎ ((k : ℕ) × (instant rows t ≡ refusal k))
taken-or-not rows t (early h e) = inr (1, e)
taken-or-not rows t (no_day h k n e) = inr (k, e)
taken-or-not rows t (no_time h next n i e) = inr (4, e)
taken-or-not rows t (given h next n i e) = inl e

module _ (rows : List Row) (start end : UtcTime) (rate a b : ℕ) where
  by-times : (instant rows start ≡ answer (tai_ms rows start)) ⊎ ((k : ℕ) × (instant rows start ≡ refusal k)) → (instant rows end ≡ answer (tai_ms rows end))
      ⊎ ((k : ℕ) × (instant rows end ≡ refusal k))
      → BillMeaning rows start end rate a b (standby_bill rows start end rate a b)
  unfolding standby_bill onward
  by-times (inr (k, e)) t = faulty_start k e (rw e)
  by-times (inl e) (inr (k, f)) = faulty_end e k f (rw (e, f))
  by-times (inl e) (inl f) = both_taken e f (rw (e, f)) (bill-decided (tai_ms rows start) (tai_ms rows end) rate a b)

  pub bill-means : BillMeaning rows start end rate a b (standby_bill rows start end rate a b)
  bill-means = by-times (taken-or-not rows start (time-decided rows start)) (taken-or-not rows end (time-decided rows end))
