-- What becomes of a bill, whole: the start's fault, else the end's, else the bill from the one exact TAI to the other, both by the rows of one table. Written
-- from document 02, item 11: "the start looked at before the end", "leap seconds counted". Assumes nothing.
use Rattle.std.specs.Prelude.{ℕ, ◌≡◌, List}
use Rattle.refusals.specs.Outcome.{Outcome, answer, refusal}
use Rattle.leap_table.specs.rows.Table.{Row}
use Rattle.standby.specs.declared.UtcTime.{UtcTime}
use Rattle.standby.specs.declared.Bill.{Bill}
use Rattle.standby.specs.Times.{tai_ms, instant}
use Rattle.standby.specs.Bills.{bill_between}
use Rattle.standby_laws.specs.Decisions.{BillDecision}

pub data BillMeaning (rows : List Row) (start end : UtcTime) (rate a b : ℕ) (o : Outcome Bill) : Type 0 where
  faulty_start : (k : ℕ) → instant rows start ≡ refusal k → o ≡ refusal k → BillMeaning rows start end rate a b o
  faulty_end : instant rows start ≡ answer (tai_ms rows start) → (k : ℕ) → instant rows end ≡ refusal k → o ≡ refusal k → BillMeaning rows start end rate a b o
  both_taken : instant rows start ≡ answer (tai_ms rows start) → instant rows end ≡ answer (tai_ms rows end)
      → o ≡ bill_between (tai_ms rows start) (tai_ms rows end) rate a b
      → BillDecision (tai_ms rows start) (tai_ms rows end) rate a b → BillMeaning rows start end rate a b o
