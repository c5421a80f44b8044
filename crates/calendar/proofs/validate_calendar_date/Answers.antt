-- `calendar::validate_calendar_date` meets its contract: each test is one of the definition's. Assumes nothing.
use mathlib.Core.Path.{sym, subst, ◌∙◌}
use mathlib.Core.Bool.{true, false}
use Prim.Native.Nat.{ℕ, ◌≤◌, ◌<◌}
use Rattle.refusals.specs.Outcome.{outcome}
use Rattle.refusals.specs.Refusal.{refusal_number}
use Rattle.calendar.proofs.Signs.{lt_left, read_back}
use Rattle.calendar.proofs.Accepted.{year-refused, month-refused, low-day-refused, high-day-refused, not_refused, past-last, up_to_last, read-two}
use Rattle.calendar.proofs.validate_calendar_date.Goals as goal

pub returns-then-year-ltminus4799 : goal.returns-then-year-ltminus4799
unfolding outcome refusal_number
returns-then-year-ltminus4799 c = year-refused _ _ _ (lt_left _ _ true c.ranges.year c.if-year-ltminus4799.true)

pub returns-then-last-eq0 : goal.returns-then-last-eq0
unfolding outcome refusal_number
returns-then-last-eq0 c =
    month-refused _ _ _ (lt_left _ _ false c.ranges.year c.if-year-ltminus4799.false)
    (sym (c.days_in_month-last.ensures ∙ read-two _ _ c.ranges.year c.ranges.month) ∙ c.if-last-eq0.true)

pub returns-then-day-lt1 : goal.returns-then-day-lt1
unfolding outcome refusal_number
returns-then-day-lt1 c =
    let last = c.days_in_month-last.ensures ∙ read-two _ _ c.ranges.year c.ranges.month in
    low-day-refused _ _ _ (lt_left _ _ false c.ranges.year c.if-year-ltminus4799.false) (λ e. c.if-last-eq0.false (last ∙ e))
    (lt_left _ _ true c.ranges.day c.if-day-lt1.true)

pub returns-then-last-day : goal.returns-then-last-day
unfolding outcome refusal_number
returns-then-last-day c =
    let last = c.days_in_month-last.ensures ∙ read-two _ _ c.ranges.year c.ranges.month in
    let low = lt_left _ _ false c.ranges.day c.if-day-lt1.false in
    high-day-refused _ _ _ (lt_left _ _ false c.ranges.year c.if-year-ltminus4799.false) (λ e. c.if-last-eq0.false (last ∙ e)) low
    (past-last _ c.days_in_month-last.result c.args.day low last
    (subst (λ (n : ℕ). c.days_in_month-last.result < n) (read_back c.args.day c.ranges.day) c.if-last-day.true))

pub returns : goal.returns
unfolding outcome refusal_number
returns c =
    let last = c.days_in_month-last.ensures ∙ read-two _ _ c.ranges.year c.ranges.month in
    let low = lt_left _ _ false c.ranges.day c.if-day-lt1.false in
    not_refused _ _ _ (lt_left _ _ false c.ranges.year c.if-year-ltminus4799.false) (λ e. c.if-last-eq0.false (last ∙ e)) low
    (up_to_last _ c.days_in_month-last.result c.args.day low last
    (subst (λ (n : ℕ). n ≤ c.days_in_month-last.result) (read_back c.args.day c.ranges.day) c.if-last-day.false))
