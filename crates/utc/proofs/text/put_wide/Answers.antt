-- `utc::text::put_wide` meets its contract. Assumes nothing.
use Rattle.std.proofs.Common.{rules}
use mathlib.Core.List.{◌++◌}
use native.Mathlib.Omega.{arith}
use Rattle.utc.specs.text.Text.{after_year}
use Rattle.utc.specs.text.Layout.{signed}
use Rattle.utc.proofs.text.Laws.{short, put-done, source, wide-length}
use Rattle.utc.proofs.text.put_wide.Goals as goal

pub returns-then-out-skip : goal.returns-then-out-skip
returns-then-out-skip c =
    let a = c.args in
    short (signed a.negative a.size ++ after_year a.date a.time) a.out.now
    (omega (arith, wide-length a.size a.date a.time a.negative))

pub returns : goal.returns
returns c =
    let a = c.args in
    put-done _ (signed a.negative a.size ++ after_year a.date a.time) a.out.now _ _
    (source a.size a.date a.time a.negative _ _ _ _
    c.third-third.ensures c.fourth-fourth.ensures c.skipped-skip.ensures.0 c.wide_bytes-all.ensures)
    (c.copy-n.ensures.copied (search rules)).0
    (c.copy-n.ensures.copied (search rules)).1
    (omega (arith, wide-length a.size a.date a.time a.negative))
