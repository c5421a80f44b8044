-- `since_launch::judge_lengths` meets its contract: each test is one of the definition's. Assumes nothing.
use Rattle.refusals.specs.Refusal.{refusal_number}
use Rattle.refusals.specs.Outcome.{number_said}
use Rattle.since_launch.proofs.Calls.{broken_first, broken_second, sizes-differ, few-places, few-numbers, none-refused}
use Rattle.since_launch.proofs.judge_lengths.Goals as goal

pub returns-then-size1-ne0 : goal.returns-then-size1-ne0
unfolding number_said refusal_number
returns-then-size1-ne0 c = broken_first _ _ _ _ c.if-size1-ne0.true

pub returns-then-size2-ne0 : goal.returns-then-size2-ne0
unfolding number_said refusal_number
returns-then-size2-ne0 c = broken_second _ _ _ _ c.if-size1-ne0.false c.if-size2-ne0.true

pub returns-then-size1-size2 : goal.returns-then-size1-size2
unfolding number_said refusal_number
returns-then-size1-size2 c = sizes-differ _ _ _ _ c.if-size1-ne0.false c.if-size2-ne0.false c.if-size1-size2.true

pub returns-then-room1-size1 : goal.returns-then-room1-size1
unfolding number_said refusal_number
returns-then-room1-size1 c = few-places _ _ _ _ c.if-size1-ne0.false c.if-size2-ne0.false c.if-size1-size2.false c.if-room1-size1.true

pub returns-then-room2-size1 : goal.returns-then-room2-size1
unfolding number_said refusal_number
returns-then-room2-size1 c =
    few-numbers _ _ _ _ c.if-size1-ne0.false c.if-size2-ne0.false c.if-size1-size2.false c.if-room1-size1.false c.if-room2-size1.true

pub returns : goal.returns
unfolding number_said
returns c = none-refused _ _ _ _ c.if-size1-ne0.false c.if-size2-ne0.false c.if-size1-size2.false c.if-room1-size1.false c.if-room2-size1.false
