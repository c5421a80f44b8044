-- `lines::place_lines` meets its contract. Assumes nothing.
use native.Mathlib.Omega.{arith}
use Rattle.std.proofs.Common.{◌≡◌, ◌*◌, ◌≤◌, refl}
use Rattle.numerals.proofs.digits.Places.{nothing}
use Rattle.line_listing.specs.lines.StampLine.{stamps}
use Rattle.line_listing.specs.lines.Asked.{page, lines_joined, summed}
use Rattle.line_listing.proofs.lines.Whole.{lines_more, textless-more, told-one, room-start, room-now, room_next, lines_end}
use Rattle.line_listing.proofs.lines.Texts.{part-short, part-is}
use Rattle.line_listing.proofs.lines.place_lines.Goals as goal

pub loop-i-init : goal.loop-i-init
unfolding lines_joined summed
loop-i-init c = (nothing c.args.out.now, room-start c.args.sentences c.args.count _ c.requires.3, refl, refl, omega arith)

pub overflow_mul-start : goal.overflow_mul-start
overflow_mul-start c = omega (arith, c.requires.1.places, c.loop-i-test.true, c.well_formed)

pub overflow_add-end : goal.overflow_add-end
overflow_add-end c =
    omega (
      arith,
      c.requires.1.places,
      c.loop-i-test.true,
      c.requires.2 c.loop-i.i c.loop-i-test.true,
      c.number_at.ensures,
      c.well_formed,
    )

pub slice_bounds-place_line-end : goal.slice_bounds-place_line-end
slice_bounds-place_line-end c =
    omega (
      arith,
      c.requires.1.places,
      c.loop-i-test.true,
      c.requires.2 c.loop-i.i c.loop-i-test.true,
      c.number_at.ensures,
    )

pub place_line-told-requires : goal.place_line-told-requires
place_line-told-requires c =
    let l = c.loop-i in
    let taken = c.loop-i-test.true in (
      part-short _ _ _ (let e : c.number_at.result ≤ 27 = omega (
        arith,
        c.requires.2 l.i taken,
        c.number_at.ensures,
      ) in e),
      omega arith,
      omega (arith, room-now c.args.sentences c.args.count l.i l.at _ taken l.invariant.1, l.invariant.2),
    )

pub overflow_add-textless : goal.overflow_add-textless
overflow_add-textless c =
    omega (
      arith,
      c.loop-i.invariant.4,
      told-one _ _ _ c.place_line-told.ensures.told_at,
      c.loop-i-test.true,
      c.requires.0,
    )

pub loop-i-preserved : goal.loop-i-preserved
loop-i-preserved c =
    let l = c.loop-i in
    let taken = c.loop-i-test.true in
    let order = c.nth_u32-place.ensures in
    let number = c.number_at-number.ensures in
    let stamp = c.stamp_of-tai.ensures in
    let p = c.place_line-told.ensures in
    let all = stamps c.args.jd1s.now c.args.jd2s.now c.args.numbers.now c.args.first c.args.second in
    let pg = page c.args.utc1.now c.args.utc2.now c.args.marks.now c.args.texts.now c.args.lengths.now
    c.args.nones.now in
    let next = room_next c.args.sentences c.args.count l.i l.at _ _ taken l.invariant.1 p.next_bound in
    let now-room = room-now c.args.sentences c.args.count l.i l.at _ taken l.invariant.1 in
    let text = part-is c.args.texts.now (27 * l.i) _ _ c.number_at.ensures in (
      lines_more c.args.sentences all c.args.order.now c.args.line l.i pg _ _ _ _ _ _ _ order
          number c.number_at-in-loop-i.ensures stamp
          c.stamp_of-date.ensures text
          c.number_at-in-loop-i-2.ensures
          l.invariant.0 p.told_at.placed (omega (arith, p.next_bound, now-room)),
      next,
      omega (arith, l.invariant.2),
      textless-more c.args.sentences all c.args.order.now c.args.line l.i pg _ _ _ _ _ _ _ order
          number c.number_at-in-loop-i.ensures stamp
          c.stamp_of-date.ensures text
          c.number_at-in-loop-i-2.ensures
          _ _ l.invariant.3 p.told_at.counted,
      omega (arith, l.invariant.4, told-one _ _ _ p.told_at),
    )

pub returns : goal.returns
returns c =
    let l = c.loop-i in
    lines_end _ _ _ _ _ _ _ _ _ _ _ (let e : l.i ≡ c.args.count = omega (arith, c.loop-i-test.false) in e) l.invariant.0 l.invariant.3
    (omega (arith, l.invariant.1))
