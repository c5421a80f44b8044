-- `parsing::judged` meets its contract: what is left, with the date. Assumes nothing.
use mir.Facts.{to_z_pos}
use mir.Syntax.{w32}
use native.Mathlib.Omega.{arith}
use mathlib.Core.Path.{sym, ◌∙◌}
use Prim.Native.Nat.{◌<◌}
use Rattle.refusals.specs.Outcome.{outcome}
use Rattle.refusals.specs.Refusal.{refusal_number}
use Rattle.calendar.specs.Refusals.{valid_date}
use Rattle.parsing.proofs.Judgement.{time-refused, fields-given}
use Rattle.parsing.proofs.judged.Goals as goal
use Rattle.parsing.proofs.judged.Goals.{After-validate_calendar_date}

pub returns-then-not-time_in : goal.returns-then-not-time_in
unfolding outcome refusal_number
returns-then-not-time_in c =
    let f = c.args.form in
    let hy : f.year < 2147483648 = omega arith in
    let hm : f.month < 2147483648 = omega arith in
    let hd : f.day < 2147483648 = omega arith in
    let read = sym (c.in_ok-validate_calendar_date.ensures
    ∙ (λ i. valid_date (to_z_pos w32 {n = f.year} hy i) (to_z_pos w32 {n = f.month} hm i) (to_z_pos w32 {n = f.day} hd i))) in
    time-refused f c.if-form-gt13.false read (sym c.time_in.ensures ∙ c.if-not-time_in.true)

pub returns : goal.returns
unfolding outcome refusal_number
returns c =
    let f = c.args.form in
    let hy : f.year < 2147483648 = omega arith in
    let hm : f.month < 2147483648 = omega arith in
    let hd : f.day < 2147483648 = omega arith in
    let read = sym (c.in_ok-validate_calendar_date.ensures
    ∙ (λ i. valid_date (to_z_pos w32 {n = f.year} hy i) (to_z_pos w32 {n = f.month} hm i) (to_z_pos w32 {n = f.day} hd i))) in
    fields-given f c.if-form-gt13.false _ read (sym c.time_in.ensures ∙ c.if-not-time_in.false)
    (λ i. record {
      year = to_z_pos w32 {n = f.year} hy i;
      month = f.month;
      day = f.day;
      hour = f.hour;
      minute = f.minute;
      second = c.second_of.ensures i;
    })
