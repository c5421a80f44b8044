-- When a bill is refused, and with which number: the cases shut each other out, so each number comes exactly there. Written from document 02, item 11. Assumes
-- nothing.
use Rattle.std.specs.Prelude.{ℕ, ◌+◌, ◌-◌, ◌*◌, ◌≤◌, ◌<◌, ◌≡◌, true, false, ◌⊎◌, List, pos}
use Rattle.std.specs.Int.Signed.{lt_z}
use Rattle.refusals.specs.Outcome.{answer, refusal}
use Rattle.calendar.specs.declared.CalendarDate.{CalendarDate}
use Rattle.calendar.specs.Refusals.{next_of}
use Rattle.leap_table.specs.rows.Table.{Row}
use Rattle.standby.specs.declared.UtcTime.{UtcTime}
use Rattle.standby.specs.Times.{in_its_day, last_minute, tai_ms, instant}
use Rattle.standby.specs.Bills.{quarters, shares, bill_between}

-- a number over its limit: 1,000,000 quarters are 900,000,000,000 ms
abbrev pub Over : ℕ → ℕ → ℕ → ℕ → Type 0
Over elapsed rate a b = (900000000000 < elapsed) ⊎ ((1000000 < rate) ⊎ ((1000000 < a) ⊎ (1000000 < b)))

pub record NotOver (elapsed rate a b : ℕ) : Type 0 where
  pub time : elapsed ≤ 900000000000
  pub low_rate : rate ≤ 1000000
  pub short_first : a ≤ 1000000
  pub short_second : b ≤ 1000000

-- a bill from millisecond s to millisecond e
pub data BillDecision (s e rate a b : ℕ) : Type 0 where
  backward : e < s → bill_between s e rate a b ≡ refusal 26 → BillDecision s e rate a b
  over : s ≤ e → Over (e - s) rate a b → bill_between s e rate a b ≡ refusal 27 → BillDecision s e rate a b
  no_line : s ≤ e → NotOver (e - s) rate a b → a + b ≡ 0 → bill_between s e rate a b ≡ refusal 28 → BillDecision s e rate a b
  billed : s ≤ e → NotOver (e - s) rate a b → 0 < a + b → bill_between s e rate a b ≡ answer (shares (quarters (e - s)) (quarters (e - s) * rate) a b)
      → BillDecision s e rate a b

-- a UTC time
pub data TimeDecision (rows : List Row) (t : UtcTime) : Type 0 where
  early : lt_z t.year (pos 1972) ≡ true → instant rows t ≡ refusal 1 → TimeDecision rows t
  no_day : lt_z t.year (pos 1972) ≡ false → (k : ℕ) → next_of t.year (pos t.month) (pos t.day) ≡ refusal k → instant rows t ≡ refusal k
      → TimeDecision rows t
  no_time : lt_z t.year (pos 1972) ≡ false → (next : CalendarDate) → next_of t.year (pos t.month) (pos t.day) ≡ answer next
      → in_its_day t (last_minute rows t next) ≡ false → instant rows t ≡ refusal 4 → TimeDecision rows t
  given : lt_z t.year (pos 1972) ≡ false → (next : CalendarDate) → next_of t.year (pos t.month) (pos t.day) ≡ answer next
      → in_its_day t (last_minute rows t next) ≡ true → instant rows t ≡ answer (tai_ms rows t) → TimeDecision rows t
