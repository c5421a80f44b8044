-- `expanded::put_signed` meets its contract. Assumes nothing.
use Rattle.std.proofs.Common.{rules}
use mathlib.Core.List.{◌∷◌, ◌++◌}
use mathlib.Core.Bool.{cond}
use native.Mathlib.Omega.{arith}
use Rattle.utc.specs.text.Text.{seven, after_year}
use Rattle.utc.proofs.text.Laws.{short}
use Rattle.utc.proofs.text.ExpandedLaws.{seven-source, signed-put}
use Rattle.utc.proofs.text.expanded.put_signed.Goals as goal

pub returns-then-out-lt27 : goal.returns-then-out-lt27
returns-then-out-lt27 c =
    let a = c.args in
    short ((cond a.negative 45 43 ∷ seven a.size) ++ after_year a.date a.time) a.out.now (omega (arith, c.if-out-lt27.true))

pub returns : goal.returns
returns c =
    let a = c.args in
    signed-put a.negative a.size a.date a.time a.out.now _ _ _ _ c.sign-first.ensures
    (seven-source a.size a.date a.time _ _ _ c.third-third.ensures c.fourth-fourth.ensures c.wide_bytes-all.ensures)
    (omega (arith, c.if-out-lt27.false))
    (c.copy-n.ensures.copied (search rules)).0 (c.copy-n.ensures.copied (search rules)).1
