-- `listing::next_part_by_rows` meets its contract. Assumes nothing.
use mathlib.Core.Path.{sym, ap, subst, ◌∙◌}
use Prim.Native.Nat.{ℕ, ◌-◌, ◌≤◌, zero-le}
use native.Mathlib.Omega.{arith}
use lib.ListN.{length}
use Rattle.stamps.specs.Parts.{lines_in, lines_from}
use Rattle.stamps.proofs.Blocks.{few-lines}
use Rattle.numerals.proofs.digits.Places.{nothing}
use Rattle.stamps.proofs.Lines.{lines_more}
use Rattle.stamps.proofs.Parts.{start, ends-full, ends-all, goes_on, stops_full, stops_done}
use Rattle.stamps.proofs.listing.next_part_by_rows.Goals as goal

pub lines_in-requires : goal.lines_in-requires
lines_in-requires c = subst (λ o. lines_in o ≤ 4001) (sym c.block_stamps-answer.ensures) (few-lines c.args.block.now)

pub loop-count-init : goal.loop-count-init
unfolding lines_from
loop-count-init c = (nothing _, zero-le, start _ _ _ _ _ _)

pub returns-then-scratch-at : goal.returns-then-scratch-at
returns-then-scratch-at c =
    let l = c.loop-count in
    let e = c.saturating_sub-left.ensures ∙ ap (λ (n : ℕ). n - c.args.line) (c.lines_in.ensures ∙ ap lines_in c.block_stamps-answer.ensures) in
    stops_full _ _ c.args.block.now c.args.line _ _ _ _ _ e
    (ends-full _ _ c.args.block.now c.args.line _ _ _ _ l.invariant.2 (omega (arith, l.auto.scratch, c.if-scratch-at.true, c.line_room-room.ensures)))
    l.invariant.0 (omega (arith, c.loop-count-test.true))

pub place_line-at-requires : goal.place_line-at-requires
place_line-at-requires c =
    let e = c.saturating_sub-left.ensures ∙ ap (λ (n : ℕ). n - c.args.line) (c.lines_in.ensures ∙ ap lines_in c.block_stamps-answer.ensures) in (
      c.block_stamps-answer.ensures,
      omega (arith, e, c.loop-count-test.true),
      omega (arith, c.line_room-room.ensures, c.if-scratch-at.false, c.loop-count.invariant.1),
    )

pub loop-count-preserved : goal.loop-count-preserved
loop-count-preserved c =
    let l = c.loop-count in
    let room = c.line_room-room.ensures in
    let test = c.if-scratch-at.false in
    let p = c.place_line-at.ensures in
    let most : c.place_line-at.result ≤ length c.args.scratch.now = omega (arith, p.upper_bound, l.auto.scratch, l.invariant.1, room, test) in (
      lines_more _ _ c.args.block.now c.args.line l.count l.invariant.0 p.placed most,
      most,
      goes_on _ _ c.args.block.now c.args.line _ _ _ _ l.invariant.2 _ (omega (arith, c.loop-count-test.true)) (omega (arith, l.auto.scratch, room, test))
          p.placed.ends,
    )

pub returns : goal.returns
returns c =
    let l = c.loop-count in
    let e = c.saturating_sub-left.ensures ∙ ap (λ (n : ℕ). n - c.args.line) (c.lines_in.ensures ∙ ap lines_in c.block_stamps-answer.ensures) in
    stops_done _ _ c.args.block.now c.args.line _ _ _ _ _ e
    (ends-all _ _ c.args.block.now c.args.line _ _ _ _ l.invariant.2 (omega (arith, c.loop-count-test.false))) l.invariant.0
    (omega (arith, c.loop-count-test.false))
