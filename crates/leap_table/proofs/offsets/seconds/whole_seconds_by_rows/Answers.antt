-- `leap_table::offsets::seconds::whole_seconds_by_rows` meets its contract: the three tests, and the seconds of the row. Assumes nothing.
use Rattle.std.proofs.Common.{◌≡◌, ℕ, ◌≤◌, true, false, ℤ, pos, negsuc, sym, ap, ◌∙◌, subst, arith, to_z-of_z, ltb-false, le-ltb}
use lib.Signed.{lt_z}
use Rattle.calendar.proofs.Signs.{lt_left}
use Rattle.leap_table.specs.rows.Table.{month_number}
use Rattle.leap_table.specs.rows.Announced.{rows_of}
use Rattle.leap_table.specs.offsets.Offset.{seconds_in}
use Rattle.leap_table.proofs.offsets.WholeSeconds.{no_year, month-below, month-above, a-month, late}
use Rattle.leap_table.proofs.offsets.seconds.whole_seconds_by_rows.Goals as goal

-- a year from k on, where k is 1972 or later
since_1972 : (y : ℤ) (k : ℕ) → lt_z y (pos k) ≡ false → 1972 ≤ k → lt_z y (pos 1972) ≡ false
since_1972 (pos n) k e h = le-ltb n 1972 (omega (arith, ltb-false n k e))
since_1972 (negsuc n) k e h = let z : true ≡ false = e in cc

pub returns-then-year-lt1972 : goal.returns-then-year-lt1972
returns-then-year-lt1972 c = (
  no_year c.args.table.now c.args.year c.args.month
      (lt_left c.args.year (pos 1972) _ c.ranges.year c.if-year-lt1972.true),
  omega arith,
)

pub returns-then-month-lt1 : goal.returns-then-month-lt1
returns-then-month-lt1 c =
    let s = c.args in
    let y = since_1972 s.year _ (lt_left s.year (pos _) _ c.ranges.year c.if-year-lt1972.false) (omega arith) in
    (month-below s.table.now s.year s.month y c.if-month-lt1.true, omega arith)

pub returns-then-month-gt12 : goal.returns-then-month-gt12
returns-then-month-gt12 c =
    let s = c.args in
    let y = since_1972 s.year _ (lt_left s.year (pos _) _ c.ranges.year c.if-year-lt1972.false) (omega arith) in
    (month-above s.table.now s.year s.month y c.if-month-lt1.false c.if-month-gt12.true, omega arith)

pub seconds_in-requires : goal.seconds_in-requires
seconds_in-requires c =
    let s = c.args in
    let y = since_1972 s.year _ (lt_left s.year (pos _) _ c.ranges.year c.if-year-lt1972.false) (omega arith) in
    let m = c.month_number.ensures ∙ ap (λ (y : ℤ). month_number y s.month) (to_z-of_z c.ranges.year) in
    subst (λ (n : ℕ). 23664 ≤ n) (sym m) (late s.year s.month y c.if-month-lt1.false)

pub returns : goal.returns
returns c =
    let s = c.args in
    let y = since_1972 s.year _ (lt_left s.year (pos _) _ c.ranges.year c.if-year-lt1972.false) (omega arith) in
    let m = c.month_number.ensures ∙ ap (λ (y : ℤ). month_number y s.month) (to_z-of_z c.ranges.year) in
    let e = c.seconds_in.ensures in
    (e.0 ∙ ap (seconds_in (rows_of s.table.now)) m ∙ a-month s.table.now s.year s.month y c.if-month-lt1.false c.if-month-gt12.false, e.1)
