-- `utc::new_by_rows` meets its contract: each return is a case of the definition. Assumes nothing.
use Rattle.std.proofs.Common.{◌≡◌, ◌≤◌, ◌<◌, ℤ, sym, ap, ◌∙◌, subst, SFits, to_z, of_z, to_z-of_z, w32, w64, arith, rules}
use lib.Dec.{T}
use lib.Ieee.{of_bits, binary64, of_int, in_float}
use borrow.Author.Tests.{le-ltb, lt-ltb}
use Rattle.std.specs.Prelude.{Result}
use Rattle.refusals.specs.declared.Refusal.{Refusal}
use Rattle.refusals.specs.Refusal.{refusal_number}
use Rattle.refusals.specs.Outcome.{outcome, seen}
use Rattle.refusals.proofs.Handed.{answered, handed, seen_handed_on}
use Rattle.constants.specs.Constants.{unix_epoch_jd}
use Rattle.constants.proofs.Bits.{unix-epoch-jd}
use Rattle.julian.specs.declared.CalendarFields.{CalendarFields}
use Rattle.julian.specs.Calendar.{julian_to_calendar}
use Rattle.julian.proofs.Dates.{date-in-range}
use Rattle.leap_table.specs.rows.Announced.{rows_of}
use Rattle.utc.specs.UnixTime.{unix_day, second_of_unix_day}
use Rattle.utc.proofs.UnixDays.{day_fits, day-in-float}
use Rattle.utc.proofs.UnixTimes.{nanos-refused, day-refused, day-given}
use Rattle.utc.proofs.new_by_rows.Goals as goal

-- the number of the day, as it is read back
read-day : (unix u d : ℤ) → SFits w64 unix → u ≡ unix → d ≡ unix_day u → to_z w64 (of_z w64 d) ≡ unix_day unix
read-day unix u d f e h = ap (λ (x : ℤ). to_z w64 (of_z w64 x)) (h ∙ ap unix_day e) ∙ to_z-of_z (day_fits unix f)

-- the day's date, as the calendar tells it
called : (unix d : ℤ) (r : Result CalendarFields Refusal) → d ≡ unix_day unix
    → outcome r ≡ julian_to_calendar (of_bits binary64 0x4142_9ec5_c000_0000) (of_int binary64 d)
    → julian_to_calendar unix_epoch_jd (of_int binary64 (unix_day unix)) ≡ outcome r
called unix d r e h = sym (h ∙ (λ i. julian_to_calendar (unix-epoch-jd i) (of_int binary64 (e i))))

pub returns-then-nanos-ge-NANOSECONDS_PER_SECOND : goal.returns-then-nanos-ge-NANOSECONDS_PER_SECOND
unfolding seen refusal_number
returns-then-nanos-ge-NANOSECONDS_PER_SECOND c =
    let h : 1000000000 ≤ c.args.nanos = omega (arith, c.if-nanos-ge-NANOSECONDS_PER_SECOND.true) in
    sym (nanos-refused (rows_of c.args.table.now) c.args.unix c.args.nanos (le-ltb c.args.nanos 1000000000 h))

pub int_to_float-unix_day : goal.int_to_float-unix_day
int_to_float-unix_day c =
    let d = read-day c.args.unix _ _ c.ranges.unix (to_z-of_z c.ranges.unix) c.unix_day.ensures in
    subst (λ (x : ℤ). T (in_float binary64 x)) (sym d) (day-in-float c.args.unix c.ranges.unix)

pub returns-in_err-fields : goal.returns-in_err-fields
returns-in_err-fields c =
    let d = read-day c.args.unix _ _ c.ranges.unix (to_z-of_z c.ranges.unix) c.unix_day.ensures in
    let h : c.args.nanos < 1000000000 = omega (arith, c.if-nanos-ge-NANOSECONDS_PER_SECOND.false) in
    seen_handed_on _ _ _ c.from_residual.ensures.1
    ∙ sym (day-refused (rows_of c.args.table.now) c.args.unix c.args.nanos (lt-ltb c.args.nanos 1000000000 h) _
    (called c.args.unix _ _ d c.julian_to_calendar.ensures ∙ handed c.in_err-fields.was))

pub overflow_cast-date : goal.overflow_cast-date
overflow_cast-date c =
    let d = read-day c.args.unix _ _ c.ranges.unix (to_z-of_z c.ranges.unix) c.unix_day.ensures in
    let r = date-in-range _ _ _ (called c.args.unix _ _ d c.julian_to_calendar.ensures ∙ answered c.in_ok-fields.was) in
    record { fits = omega (arith, r.month-high) }

pub overflow_cast-date-2 : goal.overflow_cast-date-2
overflow_cast-date-2 c =
    let d = read-day c.args.unix _ _ c.ranges.unix (to_z-of_z c.ranges.unix) c.unix_day.ensures in
    let r = date-in-range _ _ _ (called c.args.unix _ _ d c.julian_to_calendar.ensures ∙ answered c.in_ok-fields.was) in
    record { fits = omega (arith, r.day-high) }

pub returns : goal.returns
returns c =
    let d = read-day c.args.unix _ _ c.ranges.unix (to_z-of_z c.ranges.unix) c.unix_day.ensures in
    let h : c.args.nanos < 1000000000 = omega (arith, c.if-nanos-ge-NANOSECONDS_PER_SECOND.false) in
    let f = c.in_ok-fields.fields in
    c.utc_from_calendar_by_rows.ensures
    ∙ day-given (rows_of c.args.table.now) c.args.unix c.args.nanos (lt-ltb c.args.nanos 1000000000 h) f
    (called c.args.unix _ _ d c.julian_to_calendar.ensures ∙ answered c.in_ok-fields.was) _ c.second_of_unix_day-s.result c.second_with_nanos.result
    (to_z-of_z {w = w32} {z = f.date.year} (search rules))
    (c.second_of_unix_day-s.ensures.0 ∙ ap second_of_unix_day (to_z-of_z c.ranges.unix)) c.second_with_nanos.ensures
