-- `leap_table::offsets::look_up::offset_by` meets its contract: the three answers are those of At.antt.
-- Assumes nothing.
use Rattle.std.proofs.Common.{◌≡◌, ℕ, ◌-◌, ◌<◌, not, sym, ap, ◌∙◌, arith, le-ltb, lt-ltb}
use lib.Ieee.{of_bits}
use Rattle.leap_table.specs.rows.Announced.{announced_size, rows_of}
use Rattle.leap_table.specs.offsets.Offset.{seconds_of, start_of, rate_of}
use Rattle.leap_table.proofs.rows.Tables.{fixed-place, table-drifts}
use Rattle.leap_table.proofs.offsets.At.{absent, row-drifts, row_stays}
use Rattle.leap_table.proofs.offsets.look_up.offset_by.Goals as goal

above : (k : ℕ) → (k ≡ 0 → ⊥) → 0 < k
above k h = omega arith

pub returns-then-rows-eq0 : goal.returns-then-rows-eq0
unfolding of_bits
returns-then-rows-eq0 c =
    let s = c.args in
    absent (rows_of s.table.now) s.rows s.mjd s.fraction c.if-rows-eq0.true

pub returns-then-i-lt14 : goal.returns-then-i-lt14
returns-then-i-lt14 c =
    let s = c.args in
    let t = s.table.now in
    let g = c.if-i-lt14.true in
    let p = sym (fixed-place t (announced_size t) (s.rows - 1) (omega arith)) in
    row-drifts (rows_of t) s.rows s.mjd s.fraction (above _ c.if-rows-eq0.false)
    (table-drifts t (announced_size t) (s.rows - 1) (omega arith) ∙ ap not (lt-ltb (s.rows - 1) 14 g))
    _ _ _
    (c.seconds_at.ensures ∙ ap seconds_of p)
    (c.start_at.ensures ∙ ap start_of p)
    (c.rate_at.ensures ∙ ap rate_of p)

pub returns : goal.returns
returns c =
    let s = c.args in
    let t = s.table.now in
    let a = above _ c.if-rows-eq0.false in
    row_stays (rows_of t) s.rows s.mjd s.fraction a
    (table-drifts t (announced_size t) (s.rows - 1) (omega (arith, a, c.requires)) ∙ ap not (le-ltb (s.rows - 1) 14 c.if-i-lt14.false))
    _ c.seconds_of_row.ensures
