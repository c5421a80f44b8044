-- `ticks::judging::judge` meets its contract. Assumes nothing.
use native.Mathlib.Omega.{arith}
use mathlib.Core.Path.{◌≡◌, sym, ◌∙◌}
use mathlib.Core.Bool.{true, false}
use mathlib.Core.List.{List}
use Prim.Native.Nat.{ℕ, ◌≤◌}
use Rattle.refusals.specs.Refusal.{refusal_number}
use Rattle.refusals.specs.Outcome.{number_said}
use Rattle.ticks.specs.judging.Refusing.{numbers_in, passes_refusal}
use Rattle.ticks.proofs.Refused.{nothing-refused, by-number, number_handed_on, not-zero}
use Rattle.ticks.proofs.judging.Ladder.{not_whole, no_room, by-passes, by-ticks, passes-right, usable-is, inside_is}
use Rattle.ticks.proofs.judging.judge.Goals as goal

-- passes that nothing is refused of are two at least
two : (ps ms : List ℕ) → passes_refusal ps ms ≡ 0 → 2 ≤ numbers_in ps
two ps ms z = (usable-is ps ms (passes-right ps ms z).0).counted.two

pub returns-then-not-whole_lists : goal.returns-then-not-whole_lists
unfolding number_said refusal_number
returns-then-not-whole_lists c =
    not_whole c.args.passes.now c.args.millis.now c.args.ticks.now c.args.room (sym c.whole_lists.ensures ∙ c.if-not-whole_lists.true)

pub returns-then-room-ticks : goal.returns-then-room-ticks
unfolding number_said refusal_number
returns-then-room-ticks c =
    no_room c.args.passes.now c.args.millis.now c.args.ticks.now c.args.room (sym c.whole_lists.ensures ∙ c.if-not-whole_lists.false)
    c.if-room-ticks.true

pub returns-in_err-judge_passes : goal.returns-in_err-judge_passes
returns-in_err-judge_passes c =
    let e = sym (by-number c.in_err-judge_passes.was) ∙ c.judge_passes.ensures in
    number_handed_on _ _ c.from_residual.ensures.1
    ∙ e
    ∙ by-passes c.args.passes.now c.args.millis.now c.args.ticks.now c.args.room (sym c.whole_lists.ensures ∙ c.if-not-whole_lists.false)
    c.if-room-ticks.false (λ z. not-zero _ (e ∙ z))

pub number_at-first-requires : goal.number_at-first-requires
number_at-first-requires c =
    omega (arith, two _ _ (sym c.judge_passes.ensures ∙ nothing-refused c.in_ok-judge_passes.was))

pub overflow_sub-passes : goal.overflow_sub-passes
overflow_sub-passes c =
    omega (arith, two _ _ (sym c.judge_passes.ensures ∙ nothing-refused c.in_ok-judge_passes.was))

pub number_at-last-requires : goal.number_at-last-requires
number_at-last-requires c =
    omega (arith, two _ _ (sym c.judge_passes.ensures ∙ nothing-refused c.in_ok-judge_passes.was))

pub returns-then-not-all_inside : goal.returns-then-not-all_inside
unfolding number_said refusal_number
returns-then-not-all_inside c =
    by-ticks c.args.passes.now c.args.millis.now c.args.ticks.now c.args.room (sym c.whole_lists.ensures ∙ c.if-not-whole_lists.false)
    c.if-room-ticks.false false (sym c.judge_passes.ensures ∙ nothing-refused c.in_ok-judge_passes.was)
    (inside_is c.args.passes.now c.args.ticks.now _ _ false c.number_at-first.ensures c.number_at-last.ensures
    (sym (c.if-not-all_inside.true) ∙ c.all_inside.ensures))

pub returns : goal.returns
unfolding number_said
returns c =
    by-ticks c.args.passes.now c.args.millis.now c.args.ticks.now c.args.room (sym c.whole_lists.ensures ∙ c.if-not-whole_lists.false)
    c.if-room-ticks.false true (sym c.judge_passes.ensures ∙ nothing-refused c.in_ok-judge_passes.was)
    (inside_is c.args.passes.now c.args.ticks.now _ _ true c.number_at-first.ensures c.number_at-last.ensures
    (sym (c.if-not-all_inside.false) ∙ c.all_inside.ensures))
