-- `calendar::next_calendar_day` meets its contract: each branch is a case of the next date. Assumes nothing.
use mathlib.Core.Path.{◌≡◌, refl, ap, sym, subst, ◌∙◌}
use mathlib.Core.Bool.{true, false}
use Prim.Native.Nat.{ℕ, ◌+◌, ◌≤◌, ◌<◌}
use native.Mathlib.Omega.{arith}
use lib.IntN.{ℤ, pos, nat_abs, suc_ℤ, ◌+ℤ◌, +ℤ_one}
use mir.Syntax.{w32}
use mir.Val.{SFits, to_z, of_z}
use mir.Facts.{to_z-of_z}
use Rattle.refusals.specs.Refusal.{refusal_number}
use Rattle.refusals.specs.Outcome.{answer, outcome}
use Rattle.refusals.proofs.Handed.{handed_on}
use Rattle.calendar.specs.Calendar.{date, month_length, days_in_month}
use Rattle.calendar.proofs.Signs.{to-unsigned, read_back, lt_right}
use Rattle.calendar.proofs.Accepted.{Accepted, month-days, is-valid, is-refused, by_check, read-two}
use Rattle.calendar.proofs.NextDates.{refused-next, next-day, next-month, next-year, no_next, year_fits}
use Rattle.calendar.proofs.next_calendar_day.Goals as goal

-- the last day of the month, as it was computed
last : {y m d : ℤ} (f : SFits w32 y) (g : SFits w32 m) (h : SFits w32 d) {k : ℕ} → Accepted y m d
    → k ≡ days_in_month (to_z w32 (of_z w32 y)) (to_z w32 (of_z w32 m))
    → k ≡ month_length y (nat_abs m)
last f g h ok e = e ∙ read-two _ _ f g ∙ month-days _ _ ok.m-sign

less : (a a' b b' : ℕ) → a ≡ a' → b ≡ b' → a < b → a' < b'
less a a' b b' p q h = omega arith

most : (a a' b b' : ℕ) → a ≡ a' → b ≡ b' → a ≤ b → a' ≤ b'
most a a' b b' p q h = omega arith

sum : (y : ℤ) → SFits w32 y → to_z w32 (of_z w32 y) +ℤ pos 1 ≡ suc_ℤ y
sum y f = ap (λ (z : ℤ). z +ℤ pos 1) (to_z-of_z f) ∙ +ℤ_one y

dates : (y y' : ℤ) (m m' d d' : ℕ) → y ≡ y' → m ≡ m' → d ≡ d' → answer (date y m d) ≡ answer (date y' m' d')
dates y y' m m' d d' p q r = λ i. answer (date (p i) (q i) (r i))

pub returns-in_err-validate_calendar_date : goal.returns-in_err-validate_calendar_date
returns-in_err-validate_calendar_date c =
    handed_on _ _ c.from_residual.ensures.1
    ∙ sym
    (refused-next _ _ _ _
    (is-refused _ _ _ c.ranges.year c.ranges.month c.ranges.day _ c.validate_calendar_date.ensures _ c.in_err-validate_calendar_date.was))

pub overflow_cast-m : goal.overflow_cast-m
overflow_cast-m c =
    let ok = by_check _ _ _ c.ranges.year c.ranges.month c.ranges.day _ c.validate_calendar_date.ensures c.in_ok-validate_calendar_date.was in
    to-unsigned _ c.ranges.month ok.m-sign

pub overflow_cast-d : goal.overflow_cast-d
overflow_cast-d c =
    let ok = by_check _ _ _ c.ranges.year c.ranges.month c.ranges.day _ c.validate_calendar_date.ensures c.in_ok-validate_calendar_date.was in
    to-unsigned _ c.ranges.day ok.d_sign

pub returns-then-d-days_in_month : goal.returns-then-d-days_in_month
unfolding outcome
returns-then-d-days_in_month c =
    let valid = is-valid _ _ _ c.ranges.year c.ranges.month c.ranges.day _ c.validate_calendar_date.ensures c.in_ok-validate_calendar_date.was in
    let ok = by_check _ _ _ c.ranges.year c.ranges.month c.ranges.day _ c.validate_calendar_date.ensures c.in_ok-validate_calendar_date.was in
    let month = read_back _ c.ranges.month in
    let day = read_back _ c.ranges.day in
    let last_day = last c.ranges.year c.ranges.month c.ranges.day ok c.days_in_month.ensures in
    dates _ _ _ _ _ _ (to_z-of_z c.ranges.year) month (ap (λ (n : ℕ). n + 1) day)
    ∙ sym (next-day _ _ _ valid (less _ _ _ _ day last_day c.if-d-days_in_month.true))

pub returns-then-m-lt12 : goal.returns-then-m-lt12
unfolding outcome
returns-then-m-lt12 c =
    let valid = is-valid _ _ _ c.ranges.year c.ranges.month c.ranges.day _ c.validate_calendar_date.ensures c.in_ok-validate_calendar_date.was in
    let ok = by_check _ _ _ c.ranges.year c.ranges.month c.ranges.day _ c.validate_calendar_date.ensures c.in_ok-validate_calendar_date.was in
    let month = read_back _ c.ranges.month in
    let day = read_back _ c.ranges.day in
    let last_day = last c.ranges.year c.ranges.month c.ranges.day ok c.days_in_month.ensures in
    dates _ _ _ _ _ _ (to_z-of_z c.ranges.year) (ap (λ (n : ℕ). n + 1) month) refl
    ∙ sym (next-month _ _ _ valid (most _ _ _ _ last_day day c.if-d-days_in_month.false) (less _ _ _ _ month refl c.if-m-lt12.true))

pub returns-then-year-gt2147483646 : goal.returns-then-year-gt2147483646
unfolding outcome refusal_number
returns-then-year-gt2147483646 c =
    let valid = is-valid _ _ _ c.ranges.year c.ranges.month c.ranges.day _ c.validate_calendar_date.ensures c.in_ok-validate_calendar_date.was in
    let ok = by_check _ _ _ c.ranges.year c.ranges.month c.ranges.day _ c.validate_calendar_date.ensures c.in_ok-validate_calendar_date.was in
    let month = read_back _ c.ranges.month in
    let day = read_back _ c.ranges.day in
    let last_day = last c.ranges.year c.ranges.month c.ranges.day ok c.days_in_month.ensures in
    sym
    (no_next _ _ _ valid (most _ _ _ _ last_day day c.if-d-days_in_month.false) (most _ _ _ _ refl month c.if-m-lt12.false)
    (lt_right (pos 2147483646) _ true c.ranges.year c.if-year-gt2147483646.true))

pub overflow_add-result-2 : goal.overflow_add-result-2
overflow_add-result-2 c =
    subst (λ (z : ℤ). SFits w32 z) (sym (sum c.args.year c.ranges.year))
    (year_fits c.args.year c.ranges.year (lt_right (pos 2147483646) _ false c.ranges.year c.if-year-gt2147483646.false))

pub returns : goal.returns
unfolding outcome
returns c =
    let valid = is-valid _ _ _ c.ranges.year c.ranges.month c.ranges.day _ c.validate_calendar_date.ensures c.in_ok-validate_calendar_date.was in
    let ok = by_check _ _ _ c.ranges.year c.ranges.month c.ranges.day _ c.validate_calendar_date.ensures c.in_ok-validate_calendar_date.was in
    let month = read_back _ c.ranges.month in
    let day = read_back _ c.ranges.day in
    let last_day = last c.ranges.year c.ranges.month c.ranges.day ok c.days_in_month.ensures in
    let fits = subst (λ (z : ℤ). SFits w32 z) (sym (sum c.args.year c.ranges.year))
    (year_fits c.args.year c.ranges.year (lt_right (pos 2147483646) _ false c.ranges.year c.if-year-gt2147483646.false)) in
    dates _ _ _ _ _ _ (to_z-of_z fits ∙ sum c.args.year c.ranges.year) refl refl
    ∙ sym
    (next-year _ _ _ valid (most _ _ _ _ last_day day c.if-d-days_in_month.false) (most _ _ _ _ refl month c.if-m-lt12.false)
    (lt_right (pos 2147483646) _ false c.ranges.year c.if-year-gt2147483646.false))
