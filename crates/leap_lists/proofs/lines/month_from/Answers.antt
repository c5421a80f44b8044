-- `leap_lists::lines::month_from` meets its contract: month by month the days that are left are those of the definition. Assumes nothing.
use Rattle.std.proofs.Common.{◌≡◌, ℕ, suc, ◌≤◌, ◌+◌, ◌-◌, ◌/◌, ◌%◌, ◌<◌, sym, ap, ◌∙◌, arith, w32, to_z}
use mir.Facts.{to_z_pos}
use Rattle.calendar.specs.Calendar.{days_in_month}
use Rattle.leap_lists.specs.lines.Months.{month_days, month_after}
use Rattle.leap_lists.proofs.lines.Months.{days-are, here, within, onward, spent, one_less, from_start}
use Rattle.leap_lists.proofs.lines.month_from.Goals as goal

-- of the months that are left, one
opened : (m day x : ℕ) → m < 120000 → month_after (120000 - m) m day ≡ x → month_after (suc (120000 - (m + 1))) m day ≡ x
opened m day x h e = ap (λ (k : ℕ). month_after k m day) (sym (one_less m h)) ∙ e

pub loop-month-init : goal.loop-month-init
loop-month-init c = from_start _

pub returns-then-left-eq0 : goal.returns-then-left-eq0
returns-then-left-eq0 c =
    let m = c.loop-month.month in
    let first : 22800 ≤ m = c.loop-month.auto.month in
    (sym (opened m _ _ c.loop-month-test.true c.loop-month.invariant) ∙ here _ m _ c.if-left-eq0.true, omega arith, c.loop-month-test.true)

-- the days of month m, as they were computed
days-given : (m days : ℕ) → m < 120000 → days ≡ days_in_month (to_z w32 (m / 12)) (to_z w32 (m % 12 + 1)) → days ≡ month_days m
days-given m days h e =
    e ∙ (λ i. days_in_month (to_z_pos w32 {n = m / 12} (omega arith) i) (to_z_pos w32 {n = m % 12 + 1} (omega arith) i)) ∙ days-are m

pub returns-then-left-days : goal.returns-then-left-days
returns-then-left-days c =
    let m = c.loop-month.month in
    let e = days-given m _ c.loop-month-test.true c.days_in_month-days.ensures in
    sym (opened m _ _ c.loop-month-test.true c.loop-month.invariant)
    ∙ within _ m _ c.if-left-eq0.false (omega (arith, e, c.if-left-days.true))

pub loop-month-preserved : goal.loop-month-preserved
loop-month-preserved c =
    let m = c.loop-month.month in
    let left = c.loop-month.left in
    let e = days-given m _ c.loop-month-test.true c.days_in_month-days.ensures in
    ap (λ n. month_after (120000 - (m + 1)) (m + 1) (left - n)) e
    ∙ sym (onward _ m left c.if-left-eq0.false (omega (arith, e, c.if-left-days.false)))
    ∙ opened m left _ c.loop-month-test.true c.loop-month.invariant

pub returns : goal.returns
returns c =
    let m = c.loop-month.month in
    let e : 120000 - m ≡ 0 = omega (arith, c.loop-month-test.false) in
    sym (sym (ap (λ k. month_after k m c.loop-month.left) e ∙ spent _ _) ∙ c.loop-month.invariant)
