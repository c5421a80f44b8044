-- `ticks::places::place_reading` meets its contract. Assumes nothing.
use Prim.Native.Nat.{◌+◌, ◌≤◌}
use native.Mathlib.Omega.{arith}
use mathlib.Core.Path.{◌≡◌, ap, sym, ◌∙◌}
use mathlib.Core.Bool.{false}
use Rattle.refusals.specs.Outcome.{answer}
use Rattle.ticks.specs.judging.Refusing.{number_at}
use Rattle.ticks.specs.places.Places.{within}
use Rattle.ticks.specs.Ticks.{passes_of}
use Rattle.ticks.proofs.Neighbours.{still_near, holds, millis-is}
use Rattle.ticks.proofs.places.Puts.{is-kept, is-outside, is-placed, put-without, put-place, too-early, too_late, between}
use Rattle.ticks.proofs.places.place_reading.Goals as goal
use Rattle.ticks.proofs.places.place_reading.Goals.{then-m-first-via-then-m-first, then-m-first-via-else-m-first+then-last-m}

pub returns-then-number-ne0 : goal.returns-then-number-ne0
returns-then-number-ne0 c = put-without _ _ _ _ _ _ _ c.requires.near _ (is-kept _ _ _ c.if-number-ne0.true)

pub returns-then-m-first : goal.returns-then-m-first
returns-then-m-first c =
    let ps = c.args.passes.now.ticks.now in
    let ls = c.args.passes.now.millis.now in
    let outside : within (passes_of ps ls) c.args.m ≡ false = elim c.then-m-first.branch [
      | then-m-first-via-then-m-first w ↦ too-early ps ls c.args.passes.now.k c.requires.passes c.number_at-first.result c.number_at-last.result c.args.m
          c.number_at-first.ensures c.number_at-last.ensures w.if-m-first.true
      | then-m-first-via-else-m-first+then-last-m w ↦ too_late ps ls c.args.passes.now.k c.requires.passes c.number_at-first.result c.number_at-last.result
          c.args.m c.number_at-first.ensures c.number_at-last.ensures w.if-m-first.false w.if-last-m.true
    ] in
    put-without _ _ _ _ _ _ _ c.requires.near _ (is-outside (passes_of ps ls) c.args.number c.args.m c.if-number-ne0.false outside)

pub millis_between-place-requires : goal.millis_between-place-requires
millis_between-place-requires c =
    let ps = c.args.passes.now.ticks.now in
    let l : number_at ps 0 ≤ c.args.m = omega (arith, c.if-m-first.false, c.number_at-first.ensures) in
    let h : c.args.m ≤ number_at ps (c.args.passes.now.k + 1) = omega (arith, c.if-last-m.false, c.number_at-last.ensures) in
    holds ps c.args.passes.now.millis.now c.args.passes.now.k c.requires.passes c.args.m l h c.neighbour-near.result c.neighbour-near.ensures

pub returns : goal.returns
returns c =
    let ps = c.args.passes.now.ticks.now in
    let ls = c.args.passes.now.millis.now in
    let k = c.args.passes.now.k in
    let g = c.requires.passes in
    let l : number_at ps 0 ≤ c.args.m = omega (arith, c.if-m-first.false, c.number_at-first.ensures) in
    let h : c.args.m ≤ number_at ps (k + 1) = omega (arith, c.if-last-m.false, c.number_at-last.ensures) in
    let e = c.neighbour-near.ensures in
    put-place (passes_of ps ls) c.args.number c.args.m k c.args.i 0 c.neighbour-near.result
    (still_near ps ls k g c.args.m l h c.neighbour-near.result e) c.args.out.now _ c.millis_between-place.result
    (is-placed (passes_of ps ls) c.args.number c.args.m c.if-number-ne0.false
    (between ps ls k g c.number_at-first.result c.number_at-last.result c.args.m c.number_at-first.ensures c.number_at-last.ensures c.if-m-first.false
    c.if-last-m.false)
    ∙ sym (ap answer (c.millis_between-place.ensures ∙ millis-is ps ls k g c.args.m l h c.neighbour-near.result e)))
    c.put_number.ensures
