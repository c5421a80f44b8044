-- `readings::answer_line` meets its contract: four writes, one after the other. Assumes nothing.
use Prim.Native.Nat.{◌≤◌}
use mathlib.Core.List.{[], ◌∷◌}
use lib.ListN.{length}
use native.Mathlib.Omega.{arith}
use Rattle.readings.specs.Reading.{reading_line}
use Rattle.numerals.specs.digits.Placed.{Placed}
use Rattle.numerals.proofs.digits.Places.{then}
use Rattle.reasons.proofs.sentences.Placing.{placed-length}
use Rattle.readings.proofs.Lines.{no_room, index_put, line-put}
use Rattle.readings.proofs.answer_line.Goals as goal

pub returns-then-out-lt-LINE_ROOM : goal.returns-then-out-lt-LINE_ROOM
returns-then-out-lt-LINE_ROOM c = no_room _ _ (omega (arith, c.if-out-lt-LINE_ROOM.true))

-- room for the longest text is left behind the index and the blank
pub place_reading-c-requires : goal.place_reading-c-requires
place_reading-c-requires c =
    let room : 50 ≤ length c.args.out.now = omega (arith, c.if-out-lt-LINE_ROOM.false) in
    let p = index_put c.place_decimal-a.ensures.0 c.place_decimal-a.ensures.1 c.place_bytes-b.ensures (omega arith) room in
    omega arith

pub returns : goal.returns
unfolding reading_line
returns c =
    let room : 50 ≤ length c.args.out.now = omega (arith, c.if-out-lt-LINE_ROOM.false) in
    let p = index_put c.place_decimal-a.ensures.0 c.place_decimal-a.ensures.1 c.place_bytes-b.ensures (omega arith) room in
    let q = c.place_reading-c.ensures.placed in
    let few = c.place_reading-c.ensures.upper_bound in
    let n = placed-length q (omega arith) in
    let last : Placed _ _ (10 ∷ []) _ _ = c.place_bytes.ensures.written (omega arith) in
    line-put _ _ _ _ room (then (then p.0 q (omega arith)) last (omega arith))
