-- `numbers::place_decimal` meets its contract: the digits are written from the last on. Assumes nothing.
use Prim.Native.Nat.{◌+◌, ◌-◌, ◌/◌, ◌%◌}
use mathlib.Core.Path.{refl}
use lib.ListN.{set, length-set}
use native.Mathlib.Omega.{arith}
use Rattle.reasons.proofs.sentences.Digits.{begun, room-left, one_written, two-written, part-written, few-digits}
use Rattle.reasons.proofs.sentences.Placing.{placing_as}
use Rattle.reasons.proofs.sentences.numbers.place_decimal.Goals as goal

pub loop-rest-init : goal.loop-rest-init
loop-rest-init c = begun _ _ refl

pub overflow_sub-i : goal.overflow_sub-i
overflow_sub-i c = room-left c.loop-rest.invariant (omega arith)

pub bounds-all-i : goal.bounds-all-i
bounds-all-i c = omega (arith, c.loop-rest.invariant.within, room-left c.loop-rest.invariant (omega arith))

pub overflow_sub-i-in-loop-rest : goal.overflow_sub-i-in-loop-rest
overflow_sub-i-in-loop-rest c = room-left (one_written c.loop-rest.invariant (room-left c.loop-rest.invariant (omega arith)) (omega arith)) (omega arith)

pub bounds-all-i-in-loop-rest : goal.bounds-all-i-in-loop-rest
bounds-all-i-in-loop-rest c = omega (
  arith,
  c.loop-rest.invariant.within,
  room-left (one_written c.loop-rest.invariant (room-left c.loop-rest.invariant (omega arith)) (omega arith)) (omega arith),
)

pub loop-rest-smaller : goal.loop-rest-smaller
loop-rest-smaller c = omega arith

pub loop-rest-preserved : goal.loop-rest-preserved
loop-rest-preserved c = two-written c.loop-rest.invariant (room-left c.loop-rest.invariant (omega arith))
    (room-left (one_written c.loop-rest.invariant (room-left c.loop-rest.invariant (omega arith)) (omega arith)) (omega arith)) (omega arith)

pub overflow_sub-i-2 : goal.overflow_sub-i-2
overflow_sub-i-2 c = room-left c.loop-rest.invariant (omega arith)

pub bounds-all-i-2 : goal.bounds-all-i-2
bounds-all-i-2 c = omega (arith, c.loop-rest.invariant.within, room-left c.loop-rest.invariant (omega arith))

pub overflow_sub-i-then-rest-ge10 : goal.overflow_sub-i-then-rest-ge10
overflow_sub-i-then-rest-ge10 c = room-left (one_written c.loop-rest.invariant (room-left c.loop-rest.invariant (omega arith)) (omega arith)) (omega arith)

pub bounds-all-i-then-rest-ge10 : goal.bounds-all-i-then-rest-ge10
bounds-all-i-then-rest-ge10 c = omega (
  arith,
  c.loop-rest.invariant.within,
  room-left (one_written c.loop-rest.invariant (room-left c.loop-rest.invariant (omega arith)) (omega arith)) (omega arith),
)

pub slice_bounds-place_bytes-count : goal.slice_bounds-place_bytes-count
slice_bounds-place_bytes-count c = omega (arith, c.loop-rest.invariant.within)

pub slice_bounds-place_bytes-start : goal.slice_bounds-place_bytes-start
slice_bounds-place_bytes-start c = omega (arith, c.loop-rest.invariant.within)

pub slice_bounds-place_bytes-end : goal.slice_bounds-place_bytes-end
slice_bounds-place_bytes-end c =
    let l = c.loop-rest in
    let once = set l.all (l.i - 1) (48 + l.rest % 10) in
    omega (arith, length-set once (l.i - 1 - 1) (48 + l.rest / 10 % 10), length-set l.all (l.i - 1) (48 + l.rest % 10), l.invariant.long)

pub returns-then-rest-ge10 : goal.returns-then-rest-ge10
returns-then-rest-ge10 c =
    let l = c.loop-rest in
    let w = one_written l.invariant (room-left l.invariant (omega arith)) (omega arith) in
    let h = room-left w (omega arith) in
    (placing_as (part-written w h (omega arith)) c.place_bytes.ensures, few-digits w h (omega arith))

pub slice_bounds-place_bytes-count-2 : goal.slice_bounds-place_bytes-count-2
slice_bounds-place_bytes-count-2 c = omega (arith, c.loop-rest.invariant.within)

pub slice_bounds-place_bytes-start-2 : goal.slice_bounds-place_bytes-start-2
slice_bounds-place_bytes-start-2 c = omega (arith, c.loop-rest.invariant.within)

pub slice_bounds-place_bytes-end-2 : goal.slice_bounds-place_bytes-end-2
slice_bounds-place_bytes-end-2 c =
    let l = c.loop-rest in
    omega (arith, length-set l.all (l.i - 1) (48 + l.rest % 10), l.invariant.long)

pub returns : goal.returns
returns c =
    let l = c.loop-rest in
    let h = room-left l.invariant (omega arith) in
    (placing_as (part-written l.invariant h (omega arith)) c.place_bytes-2.ensures, few-digits l.invariant h (omega arith))
