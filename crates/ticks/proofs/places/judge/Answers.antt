-- `ticks::places::judge` meets its contract. Assumes nothing.
use mathlib.Core.Path.{sym, ◌∙◌}
use Rattle.refusals.specs.Refusal.{refusal_number}
use Rattle.refusals.specs.Outcome.{number_said}
use Rattle.ticks.proofs.places.Ladder.{not_whole, other_count, no_room, by-passes}
use Rattle.ticks.proofs.places.judge.Goals as goal

pub returns-then-not-whole_lists : goal.returns-then-not-whole_lists
unfolding number_said refusal_number
returns-then-not-whole_lists c = not_whole _ _ _ _ _ (sym c.whole_lists.ensures ∙ c.if-not-whole_lists.true)

pub returns-then-n-count : goal.returns-then-n-count
unfolding number_said refusal_number
returns-then-n-count c = other_count _ _ _ _ c.args.room (sym c.whole_lists.ensures ∙ c.if-not-whole_lists.false) c.if-n-count.true

pub returns-then-room-n : goal.returns-then-room-n
unfolding number_said refusal_number
returns-then-room-n c = no_room _ _ _ _ _ (sym c.whole_lists.ensures ∙ c.if-not-whole_lists.false) c.if-n-count.false c.if-room-n.true

pub returns : goal.returns
returns c =
    c.judge_passes.ensures ∙ by-passes _ _ _ _ _ (sym c.whole_lists.ensures ∙ c.if-not-whole_lists.false) c.if-n-count.false c.if-room-n.false
