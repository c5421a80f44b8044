-- `leap_table::offsets::fixed_rows::rows_reached` meets its contract. Assumes nothing.
use Rattle.std.proofs.Common.{◌≡◌, ◌<◌, ◌+◌, ◌-◌, ℕ, arith, ◌∙◌}
use Rattle.leap_table.proofs.rows.Reached.{found, passed}
use Rattle.leap_table.proofs.offsets.fixed_rows.rows_reached.Goals as goal

one_up : (i : ℕ) → 0 < i → i - 1 + 1 ≡ i
one_up i h = omega arith

pub returns-then-months-i : goal.returns-then-months-i
returns-then-months-i c =
    let p = c.loop-i-test.true in
    one_up c.loop-i.i (omega (arith, p)) ∙ found c.args.months.now c.loop-i.i c.args.n (omega (arith, p))
    (omega (arith, c.requires.0, c.loop-i.auto.i)) (omega (arith, c.if-months-i.true)) c.loop-i.invariant

pub loop-i-preserved : goal.loop-i-preserved
loop-i-preserved c =
    let p = c.loop-i-test.true in
    passed c.args.months.now c.loop-i.i c.args.n (omega (arith, p)) (omega (arith, c.requires.0, c.loop-i.auto.i)) (omega (arith, c.if-months-i.false))
    c.loop-i.invariant
