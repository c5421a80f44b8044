-- `leap_table::offsets::look_up::plain_day` meets its contract: a date that passes the five tests is plain. Assumes nothing.
use Rattle.std.proofs.Common.{◌≡◌, ℕ, true, false, pos, arith}
use Rattle.calendar.proofs.Signs.{lt_left, lt_right}
use Rattle.leap_table.proofs.offsets.Plain.{plain, le_left}
use Rattle.leap_table.proofs.offsets.look_up.plain_day.Goals as goal

no : {A : Type 0} → false ≡ true → A
no e = let z : ◌≡◌ {A = ℕ} 0 1 = cc in absurd (omega arith)

pub returns : goal.returns
returns c e =
    plain _ _ _ _ _
    (lt_left _ _ _ c.ranges.year c.if-year-lt1972.false)
    (lt_left _ _ _ c.ranges.month c.if-month-lt1.false)
    (lt_right (pos 12) _ _ c.ranges.month c.if-month-gt12.false)
    (lt_left _ _ _ c.ranges.day c.if-day-lt1.false)
    (le_left _ _ _ c.ranges.day e)
    (omega arith)
    (omega arith)
