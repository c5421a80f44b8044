-- `leap_table::offsets::walk_rows::row_terms` meets its contract: the four answers are those of At.antt and Forward.antt.
-- Assumes nothing.
use Rattle.std.proofs.Common.{◌≡◌, ℕ, ◌-◌, ◌<◌, not, sym, ap, ◌∙◌, arith, le-ltb, lt-ltb}
use lib.Ieee.{of_bits}
use Rattle.leap_table.specs.rows.Announced.{announced_size, rows_of}
use Rattle.leap_table.specs.offsets.Offset.{seconds_of, start_of, rate_of}
use Rattle.leap_table.specs.offsets.Forward.{by_terms}
use Rattle.leap_table.proofs.rows.Tables.{fixed-place, table-drifts}
use Rattle.leap_table.proofs.offsets.At.{absent, row-drifts, row_stays}
use Rattle.leap_table.proofs.offsets.Forward.{no_row}
use Rattle.leap_table.proofs.offsets.walk_rows.row_terms.Goals as goal

above : (k : ℕ) → (k ≡ 0 → ⊥) → 0 < k
above k h = omega arith

pub returns-then-rows-eq0 : goal.returns-then-rows-eq0
unfolding of_bits by_terms
returns-then-rows-eq0 c =
    let s = c.args in
    λ mjd f. absent (rows_of s.table) s.rows mjd f c.if-rows-eq0.true

pub returns-then-i-lt14 : goal.returns-then-i-lt14
unfolding by_terms
returns-then-i-lt14 c =
    let s = c.args in
    let g = c.if-i-lt14.true in
    let p = sym (fixed-place s.table (announced_size s.table) (s.rows - 1) (omega arith)) in
    λ mjd x.
    row-drifts (rows_of s.table) s.rows mjd x (above _ c.if-rows-eq0.false)
    (table-drifts s.table (announced_size s.table) (s.rows - 1) (omega arith) ∙ ap not (lt-ltb (s.rows - 1) 14 g))
    _ _ _
    (c.seconds_at.ensures ∙ ap seconds_of p)
    (c.start_at.ensures ∙ ap start_of p)
    (c.rate_at.ensures ∙ ap rate_of p)

pub returns-then-announced_size-i : goal.returns-then-announced_size-i
unfolding of_bits by_terms
returns-then-announced_size-i c =
    let s = c.args in
    λ mjd f. no_row s.table s.rows mjd f (above _ c.if-rows-eq0.false) (omega (arith, c.if-announced_size-i.true, c.announced_size.ensures.0))

pub returns : goal.returns
unfolding by_terms
returns c =
    let s = c.args in
    λ mjd x.
    row_stays (rows_of s.table) s.rows mjd x (above _ c.if-rows-eq0.false)
    (table-drifts s.table (announced_size s.table) (s.rows - 1) (omega (arith, c.if-announced_size-i.false, c.announced_size.ensures.0))
    ∙ ap not (le-ltb (s.rows - 1) 14 c.if-i-lt14.false))
    _ c.seconds_of_row.ensures
