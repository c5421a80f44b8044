-- `listing::place_shown` meets its contract: the text stands where the call put it, and a refusal is reported where nothing was written. Assumes nothing.
use mathlib.Core.Path.{sym, ap}
use Prim.Native.Nat.{ℕ, ◌+◌, ◌≤◌}
use lib.ListN.{length}
use native.Mathlib.Omega.{arith}
use Rattle.leap_table.specs.rows.Announced.{rows_of}
use Rattle.stamps.specs.Listing.{shown}
use Rattle.numerals.proofs.digits.Places.{lent_length, part-put, part-kept, placed-as, placed-into}
use Rattle.stamps.proofs.Texts.{room-low, room-high, brief, shown-most, text-written, text_refused}
use Rattle.stamps.proofs.listing.place_shown.Goals as goal

pub slice_bounds-to_iso8601_expanded_by_rows-start : goal.slice_bounds-to_iso8601_expanded_by_rows-start
slice_bounds-to_iso8601_expanded_by_rows-start c = omega (arith, room-low c.args.reporting, c.requires)

pub slice_bounds-to_iso8601_expanded_by_rows-count : goal.slice_bounds-to_iso8601_expanded_by_rows-count
slice_bounds-to_iso8601_expanded_by_rows-count c = omega (arith, room-low c.args.reporting, c.requires)

pub overflow_add-result : goal.overflow_add-result
overflow_add-result c =
    let rows = rows_of c.args.table.now in
    let w = text-written rows c.args.jd c.to_iso8601_expanded_by_rows.ensures c.args.reporting _ _ c.in-Ok.is in
    omega (arith, w.0, shown-most c.args.reporting c.args.jd _ (brief rows c.args.jd), room-high c.args.reporting, c.requires, c.well_formed)

pub returns-in-Ok : goal.returns-in-Ok
returns-in-Ok c =
    let rows = rows_of c.args.table.now in
    let w = text-written rows c.args.jd c.to_iso8601_expanded_by_rows.ensures c.args.reporting _ _ c.in-Ok.is in
    record {
      placed = record {
        ends = ap (λ (k : ℕ). c.args.at + k) w.0;
        holds = part-put c.args.dst.now c.args.at (omega (arith, room-low c.args.reporting, c.requires)) _ _ w.1;
      };
      result_bound = omega (arith, w.0, shown-most c.args.reporting c.args.jd _ (brief rows c.args.jd));
    }

pub returns-in-Err : goal.returns-in-Err
unfolding shown
returns-in-Err c =
    let within : c.args.at ≤ length c.args.dst.now = omega (arith, room-low c.args.reporting, c.requires) in
    let w = text_refused (rows_of c.args.table.now) c.args.jd c.to_iso8601_expanded_by_rows.ensures _ c.in-Err.is
    (omega (arith, lent_length c.args.dst.now c.args.at within, room-low c.args.reporting, c.requires)) in
    let p = c.place_date_refused.ensures in
    record {
      placed = placed-as (sym (ap (shown c.args.reporting c.args.jd) w.0)) (placed-into (part-kept c.args.dst.now c.args.at within _ w.1) p.placed);
      result_bound = omega (arith, p.result_bound);
    }
