-- `since_launch::put_stamp` meets its contract. Assumes nothing.
use mathlib.Core.Path.{sym, ap, ◌∙◌}
use Rattle.refusals.specs.Outcome.{outcome}
use Rattle.refusals.proofs.Handed.{number_in_byte}
use Rattle.since_launch.specs.Millis.{since_launch}
use Rattle.since_launch.proofs.Puts.{put-answered, put_refused}
use Rattle.since_launch.proofs.put_stamp.Goals as goal

pub returns-in-Ok : goal.returns-in-Ok
unfolding outcome
returns-in-Ok c =
    put-answered _ _ _ _ _ (sym (c.in-Ok.ensures ∙ ap (since_launch c.args.launch) c.stamp_of.ensures)) c.requires.1 c.put_nth_u64.ensures

pub returns-in-Err : goal.returns-in-Err
unfolding outcome
returns-in-Err c = rw (c.byte.ensures ∙ number_in_byte _) (put_refused _ _ _ _ (sym (c.in-Err.ensures ∙ ap (since_launch c.args.launch) c.stamp_of.ensures)))
