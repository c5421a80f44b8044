-- `utc::text::put_basic` meets its contract. Assumes nothing.
use Rattle.std.proofs.Common.{rules}
use mathlib.Core.List.{◌++◌}
use native.Mathlib.Omega.{arith}
use Rattle.utc.specs.text.Text.{four, after_year}
use Rattle.utc.proofs.text.Laws.{short, put-done, basic-source}
use Rattle.utc.proofs.text.put_basic.Goals as goal

pub returns-then-out-lt23 : goal.returns-then-out-lt23
returns-then-out-lt23 c =
    let a = c.args in
    short (four a.year ++ after_year a.date a.time) a.out.now (omega (arith, c.if-out-lt23.true))

pub returns : goal.returns
returns c =
    let a = c.args in
    put-done _ (four a.year ++ after_year a.date a.time) a.out.now _ _
    (basic-source a.year a.date a.time _ _ _ c.fourth-fourth.ensures c.wide_bytes-all.ensures)
    (c.copy-n.ensures.copied (search rules)).0
    (c.copy-n.ensures.copied (search rules)).1
    (omega (arith, c.if-out-lt23.false))
