-- `summary::put_summary` meets its contract: the table is tested, and what is composed is copied. Assumes nothing.
use Rattle.std.proofs.Common.{ap, arith, length}
use Rattle.refusals.proofs.Handed.{handed_on}
use Rattle.leap_table.specs.rows.Announced.{rows_of}
use Rattle.leap_table.proofs.rows.TablesTaken.{call_refused, call_taken}
use Rattle.utc.proofs.text.Laws.{short, put-done}
use Rattle.numerals.proofs.digits.Places.{placed_first}
use Rattle.line_listing.specs.lines.StampLine.{stamps}
use Rattle.line_listing.specs.summary.Summary as S
use Rattle.line_listing.proofs.summary.Pieces as Y
use Rattle.line_listing.proofs.summary.put_summary.Goals as goal

pub returns-in_err-judge_table : goal.returns-in_err-judge_table
returns-in_err-judge_table c =
    Y.call-refused _ _ _ _ (handed_on _ _ c.from_residual.ensures.1)
    (call_refused c.args.table c.judge_table.result c.judge_table.ensures _ _ c.in_err-judge_table.was)

pub returns-then-out-n : goal.returns-then-out-n
returns-then-out-n c =
    Y.put-call _ (call_taken c.args.table c.judge_table.result c.judge_table.ensures _ _ c.in_ok-judge_table.was)
    (short (S.summary_text (rows_of c.args.table) c.args.known c.args.gps c.args.tai c.args.utc
    (stamps c.args.jd1s.now c.args.jd2s.now c.args.numbers.now c.args.first c.args.second))
    c.args.out.now (omega (arith, c.if-out-n.true, c.compose-n.ensures.placed.ends)))

pub returns : goal.returns
returns c =
    let p = c.compose-n.ensures.placed in
    let e = c.copy.ensures.copied (omega (arith, ap length (placed_first p), p.ends, c.if-out-n.false)) in
    Y.put-call _
    (call_taken c.args.table c.judge_table.result c.judge_table.ensures _ _ c.in_ok-judge_table.was)
    (put-done _ (S.summary_text (rows_of c.args.table) c.args.known c.args.gps c.args.tai c.args.utc
    (stamps c.args.jd1s.now c.args.jd2s.now c.args.numbers.now c.args.first c.args.second))
    c.args.out.now _ _ (placed_first p) e.0 e.1 (omega (arith, c.if-out-n.false, p.ends)))
