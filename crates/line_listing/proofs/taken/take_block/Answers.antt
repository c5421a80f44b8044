-- `line_listing::taken::take_block` meets its contract: the run of the block's stamps over themselves. Assumes nothing.
use Rattle.std.proofs.Common.{rules}
use Rattle.std.proofs.Common.{ℕ, ◌+◌, ◌*◌, ap, ◌∙◌, arith}
use Rattle.leap_table.specs.rows.Announced.{rows_of}
use Rattle.refusals.specs.Outcome.{answer}
use Rattle.runs.specs.by_formula.Run.{run_call}
use Rattle.line_listing.proofs.taken.Steps.{part-is, part-copied, block-done}
use Rattle.line_listing.proofs.taken.take_block.Goals as goal

pub returns : goal.returns
returns c =
    let a = c.args in
    let n = a.n in
    let s = a.block.now in
    let p = c.requires in
    let e1 = part-copied 8 (8 + 8 * n) s a.jd1s.now _ (omega arith) (omega (arith, p.there)) (omega (arith, p.places1))
    (c.copy.ensures.copied (search rules)).1 in
    let e2 = part-copied (8 + 8 * n) (8 + 16 * n) s a.jd2s.now _ (omega arith) (omega (arith, p.there)) (omega (arith, p.places2))
    (c.copy-2.ensures.copied (search rules)).1 in
    let f = c.convert_run_by_rows.new in
    ap (λ (count : ℕ). run_call (answer count) f.out1 f.out2 f.numbers) c.unwrap_or.ensures
    ∙ block-done (rows_of a.table.now) a.scale p.known n s p.there _ _ _ _ _ (part-is 8 (8 + 8 * n) s (omega arith))
    (part-is (8 + 8 * n) (8 + 16 * n) s (omega arith)) e1 e2 p.bytes c.convert_run_by_rows.result _ _ _ c.convert_run_by_rows.ensures
