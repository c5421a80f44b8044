-- When a table that is read from a text reaches a C caller, and which line of the text is at fault. Written from include/celestial_time.h, ct_read_table and
-- ct_table_fault: the number of the text first, then 11 for less than 136 bytes of table, then 11 for less than 4 of known. Assumes nothing.
use Rattle.std.specs.Prelude.{ℕ, suc, ◌≤◌, ◌<◌, ◌≡◌, List, ℤ, pos, length}
use Rattle.refusals.specs.Outcome.{Outcome, answer, refusal}
use Rattle.leap_lists.specs.Held.{none_held}
use Rattle.leap_lists.specs.Texts.{lines_of}
use Rattle.leap_lists.specs.Verdict.{fault_at}
use Rattle.leap_lists.specs.Reading.{ListAnswer, read_of}

-- what is answered of a text that was read as a, with m bytes of table and n of known: the cases shut each other out
pub data RowsDecision (a : ListAnswer) (m n : ℕ) (o : Outcome ℕ) : Type 0 where
  text_refused : (a.number ≡ 0 → ⊥) → o ≡ refusal a.number → RowsDecision a m n o
  no_table_room : a.number ≡ 0 → m < 136 → o ≡ refusal 11 → RowsDecision a m n o
  no_day_room : a.number ≡ 0 → 136 ≤ m → n < 4 → o ≡ refusal 11 → RowsDecision a m n o
  rows_counted : a.number ≡ 0 → 136 ≤ m → 4 ≤ n → o ≡ answer a.table.months_size → RowsDecision a m n o

-- the line at fault: 0 where the text is read, else the first line at fault, counted from 1, of those that 63 bits can number
pub data FaultDecision (text : List ℕ) (r : ℤ) : Type 0 where
  text_read : (read_of text).number ≡ 0 → r ≡ pos 0 → FaultDecision text r
  line-told : (i : ℕ) → i < length (lines_of text) → ((j : ℕ) → j < i → fault_at none_held (lines_of text) j ≡ 0)
      → (fault_at none_held (lines_of text) i ≡ 0 → ⊥) → (read_of text).number ≡ fault_at none_held (lines_of text) i
      → (suc i ≤ 9223372036854775807 → r ≡ pos (suc i)) → (r ≡ pos 0 → ⊥) → FaultDecision text r
