-- `standby::instant_of` meets its contract: the year is tested, then the date, its next date and the time. Assumes nothing.
use Rattle.std.proofs.Common.{rules}
use mathlib.Core.Path.{◌≡◌, ap, sym, subst, ◌∙◌}
use Prim.Native.Nat.{ℕ, ◌<◌}
use native.Mathlib.Omega.{arith}
use lib.IntN.{ℤ, pos, nat_abs}
use lib.Signed.{lt_z}
use mathlib.Core.Bool.{false}
use mir.Syntax.{w32, w64}
use mir.Val.{SFits, to_z, of_z}
use mir.Facts.{to_z-of_z, to_z_pos}
use Rattle.std.specs.Prelude.{Result, Ok, Err, IsErrAnd}
use Rattle.refusals.specs.declared.Refusal.{Refusal}
use Rattle.refusals.specs.Refusal.{refusal_number}
use Rattle.refusals.specs.Outcome.{Outcome, answer, refusal, seen, outcome}
use Rattle.calendar.specs.Refusals.{next_of}
use Rattle.calendar.specs.DayCount.{mjd_number, mjd_of}
use Rattle.calendar.proofs.Signs.{lt_left, cast_fits}
use Rattle.calendar.proofs.Mjd.{mjd-given, mjd-valid, same_answer}
use Rattle.leap_table.specs.rows.Announced.{rows_of}
use Rattle.leap_table.proofs.offsets.Mjd.{mjd-small, read}
use Rattle.standby.specs.declared.Instant.{Instant}
use Rattle.standby.specs.declared.UtcTime.{UtcTime}
use Rattle.standby.specs.Asked.{InstantIs}
use Rattle.standby.proofs.Times.{never-at, mjd-natural, early-year, no_date, no_next, on-date}
use Rattle.standby.proofs.instant_of.Goals as goal

-- what is refused is no instant
refused_so : (o : Outcome ℕ) (r : Result Instant Refusal) (k : Refusal) → IsErrAnd r (λ e. e ≡ k) → refusal (refusal_number k) ≡ o → InstantIs o r
unfolding seen
refused_so o (Err e) k p q = record { says = ap (λ (x : Refusal). refusal (refusal_number x)) p ∙ q; small = λ i z. never-at e i z }
refused_so o (Ok i) k p q = absurd p

-- a call of the calendar is handed the fields so
read-fields : {A : Type 0} (f : ℤ → ℤ → ℤ → A) (y : ℤ) (m d : ℕ) → SFits w32 y → m < 256 → d < 256
    → f (to_z w32 (of_z w32 y)) (to_z w32 m) (to_z w32 d) ≡ f y (pos m) (pos d)
read-fields f y m d p q r = λ i. f (to_z-of_z p i) (to_z_pos w32 {n = m} (omega arith) i) (to_z_pos w32 {n = d} (omega arith) i)

-- ---- the day of a date from 1972 on
module _ (t : UtcTime) (f : SFits w32 t.year) (late : lt_z t.year (pos 1972) ≡ false) (n : ℤ) (mjd : mjd_of t.year (pos t.month) (pos t.day) ≡ answer n) where
  n-is : n ≡ mjd_number t.year (pos t.month) (pos t.day)
  n-is = same_answer (sym mjd ∙ mjd-given _ _ _ (mjd-valid _ _ _ _ mjd))

  n-small : nat_abs n < 1000000000000
  n-small = mjd-small _ _ _ _ f mjd

  n-read : to_z w64 (of_z w64 n) ≡ n
  n-read = read n n-small

  n-natural : to_z w64 (of_z w64 n) ≡ pos (nat_abs n)
  n-natural = n-read ∙ n-is ∙ mjd-natural t.year (pos t.month) (pos t.day) late ∙ ap (λ (z : ℤ). pos (nat_abs z)) (sym n-is)

pub returns-then-t-lt1972 : goal.returns-then-t-lt1972
unfolding seen refusal_number
returns-then-t-lt1972 c =
    let f : SFits w32 c.args.t.year = search rules in
    record { says = early-year (rows_of c.args.table.now) c.args.t (lt_left c.args.t.year (pos 1972) _ f c.if-t-lt1972.true); small = λ i p. never-at _ i p }

pub returns-in_err-day : goal.returns-in_err-day
unfolding outcome
returns-in_err-day c =
    let t = c.args.t in
    let f : SFits w32 t.year = search rules in
    refused_so _ _ _ c.from_residual.ensures.1
    (no_date (rows_of c.args.table.now) t (lt_left t.year (pos 1972) _ f c.if-t-lt1972.false) _
    (sym (c.in_err-day.ensures ∙ read-fields mjd_of t.year t.month t.day f (omega arith) (omega arith))))

pub returns-in_err-next : goal.returns-in_err-next
unfolding outcome
returns-in_err-next c =
    let t = c.args.t in
    let f : SFits w32 t.year = search rules in
    refused_so _ _ _ c.from_residual-in_err-next.ensures.1
    (no_next (rows_of c.args.table.now) t (lt_left t.year (pos 1972) _ f c.if-t-lt1972.false) _
    (sym (c.in_err-next.ensures ∙ read-fields next_of t.year t.month t.day f (omega arith) (omega arith))))

pub overflow_cast-day : goal.overflow_cast-day
unfolding outcome
overflow_cast-day c =
    let t = c.args.t in
    let f : SFits w32 t.year = search rules in
    let late = lt_left t.year (pos 1972) _ f c.if-t-lt1972.false in
    let mjd = sym (c.in_ok-day.ensures ∙ read-fields mjd_of t.year t.month t.day f (omega arith) (omega arith)) in
    cast_fits {w = w64} _ _ (n-natural t f late c.in_ok-day.day mjd) (record { fits = omega (arith, n-small t f late c.in_ok-day.day mjd) })

pub at_time-requires : goal.at_time-requires
unfolding outcome
at_time-requires c =
    let t = c.args.t in
    let f : SFits w32 t.year = search rules in
    let late = lt_left t.year (pos 1972) _ f c.if-t-lt1972.false in
    let mjd = sym (c.in_ok-day.ensures ∙ read-fields mjd_of t.year t.month t.day f (omega arith) (omega arith)) in
    let n = c.in_ok-day.day in
    record {
      taken = c.requires;
      from_1972 = late;
      has_next = sym (c.in_ok-next.ensures ∙ read-fields next_of t.year t.month t.day f (omega arith) (omega arith));
      day_is = ap nat_abs (n-read t f late n mjd ∙ n-is t f late n mjd);
      few_days = subst (λ (z : ℤ). nat_abs z < 1000000000000) (sym (n-read t f late n mjd)) (n-small t f late n mjd);
    }

pub returns : goal.returns
unfolding outcome
returns c =
    let t = c.args.t in
    let f : SFits w32 t.year = search rules in
    record {
      says =
          c.at_time.ensures.says
          ∙ on-date (rows_of c.args.table.now) t (lt_left t.year (pos 1972) _ f c.if-t-lt1972.false) c.in_ok-next.next
          (sym (c.in_ok-next.ensures ∙ read-fields next_of t.year t.month t.day f (omega arith) (omega arith)));
      small = c.at_time.ensures.small;
    }
