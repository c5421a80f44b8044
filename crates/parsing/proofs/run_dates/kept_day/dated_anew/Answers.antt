-- `parsing::run_dates::kept_day::dated_anew` meets its contract: the refusal of the date or of its leap, or the date with its day. Assumes nothing.
use Rattle.std.proofs.Common.{rules, ◌≡◌, ◌<◌, ℕ, List, ℤ, pos, Float, sym, ap, ◌∙◌, to_z, to_z-of_z, w32, arith}
use mir.Facts.{to_z_pos}
use lib.Ieee.{of_bits}
use Rattle.std.specs.Prelude.{Result}
use Rattle.refusals.specs.declared.Refusal.{Refusal}
use Rattle.refusals.specs.Outcome.{onward, outcome}
use Rattle.refusals.proofs.Onward.{went, stopped}
use Rattle.floats.specs.Whole.{nought}
use Rattle.julian.specs.declared.JulianDate.{JulianDate}
use Rattle.julian.specs.Calendar.{from_calendar}
use Rattle.leap_table.specs.declared.offsets.Rule.{Rule}
use Rattle.leap_table.specs.rows.Table.{Row}
use Rattle.leap_table.specs.rows.Announced.{rows_of}
use Rattle.leap_table.specs.offsets.Leap.{leap_at_end_of_day}
use Rattle.leap_table.specs.offsets.Rule.{forget, leap_by_rule}
use Rattle.leap_table.proofs.offsets.Rules.{leap-forgets}
use Rattle.utc.specs.FromCalendar.{utc_from_calendar, midnight_plus}
use Rattle.parsing.proofs.run_dates.KeptDays.{fields_read, right-day}
use Rattle.parsing.proofs.run_dates.kept_day.dated_anew.Goals as goal

-- the date's midnight
midnight-called : (year y : ℤ) (month day : ℕ) (r : Result JulianDate Refusal) → y ≡ year → outcome r ≡ from_calendar y month day 0 0 nought
    → from_calendar year month day 0 0 nought ≡ outcome r
midnight-called year y month day r e h = sym (h ∙ ap (λ (z : ℤ). from_calendar z month day 0 0 nought) e)

-- the call for the day's leap
leap-called : (rows : List Row) (year y : ℤ) (month day : ℕ) (r : Result (Float × Rule) Refusal) → y ≡ year → month < 256 → day < 256
    → outcome r ≡ leap_by_rule rows y (to_z w32 month) (to_z w32 day) → leap_at_end_of_day rows year (pos month) (pos day) ≡ forget (outcome r)
leap-called rows year y month day r e m d h =
    sym (ap forget (h ∙ (λ i. leap_by_rule rows (e i) (to_z_pos w32 {n = month} (omega (arith, m)) i) (to_z_pos w32 {n = day} (omega (arith, d)) i)))
    ∙ leap-forgets rows year (pos month) (pos day))

pub returns-in-Err : goal.returns-in-Err
unfolding outcome utc_from_calendar of_bits
returns-in-Err c =
    let a = c.args in
    let p = a.fields in
    let m = midnight-called p.year _ p.month p.day _ (to_z-of_z {w = w32} {z = p.year} (search rules)) c.from_calendar.ensures ∙ ap outcome c.in-Err.is in
    record { found = sym (fields_read (rows_of a.table.now) a.text.now p c.requires.0 ∙ stopped _ m); kept = c.requires.1 }

pub returns-in-Err-leap_at_end_of_day_by_rows : goal.returns-in-Err-leap_at_end_of_day_by_rows
unfolding outcome utc_from_calendar onward forget of_bits
returns-in-Err-leap_at_end_of_day_by_rows c =
    let a = c.args in
    let p = a.fields in
    let m = midnight-called p.year _ p.month p.day _ (to_z-of_z {w = w32} {z = p.year} (search rules)) c.from_calendar.ensures ∙ ap outcome c.in-Ok.is in
    let l = leap-called (rows_of a.table.now) p.year _ p.month p.day _ (to_z-of_z {w = w32} {z = p.year} (search rules))
    (omega arith) (omega arith) c.leap_at_end_of_day_by_rows.ensures
    ∙ ap (λ (x : Result (Float × Rule) Refusal). forget (outcome x)) c.in-Err-leap_at_end_of_day_by_rows.is in
    record { found = sym (fields_read (rows_of a.table.now) a.text.now p c.requires.0 ∙ went _ m ∙ stopped _ l); kept = c.requires.1 }

pub returns-in-Ok-leap_at_end_of_day_by_rows : goal.returns-in-Ok-leap_at_end_of_day_by_rows
unfolding outcome utc_from_calendar onward forget of_bits
returns-in-Ok-leap_at_end_of_day_by_rows c =
    let a = c.args in
    let p = a.fields in
    let rows = rows_of a.table.now in
    let m = midnight-called p.year _ p.month p.day _ (to_z-of_z {w = w32} {z = p.year} (search rules)) c.from_calendar.ensures ∙ ap outcome c.in-Ok.is in
    let l = leap-called rows p.year _ p.month p.day _ (to_z-of_z {w = w32} {z = p.year} (search rules)) (omega arith) (omega arith)
    c.leap_at_end_of_day_by_rows.ensures
    ∙ ap (λ (x : Result (Float × Rule) Refusal). forget (outcome x)) c.in-Ok-leap_at_end_of_day_by_rows.is in
    record {
      found = c.at_time-found.ensures ∙ ap (midnight_plus _) c.day_fraction-fraction.ensures
          ∙ sym (fields_read rows a.text.now p c.requires.0 ∙ went _ m ∙ went _ l);
      kept = right-day rows a.text.now p _ _ c.kept_of-next.result c.requires.0 m l c.kept_of-next.ensures;
    }
