-- `utc::run_texts::kept_day::put_time` meets its contract. Assumes nothing.
use Rattle.std.proofs.Common.{rules}
use Rattle.utc.specs.run_texts.Kept.{PutsTime}
use Rattle.utc.proofs.run_texts.KeptDays.{time-put}
use Rattle.utc.proofs.run_texts.kept_day.put_time.Goals as goal

pub returns-then-count-lt86401000 : goal.returns-then-count-lt86401000
unfolding PutsTime
returns-then-count-lt86401000 c =
    time-put c.args.textForm c.args.fraction c.args.kept c.count_of-count.result c.count_of-count.ensures c.if-count-kept.true c.day_bytes-all.result
    c.day_bytes-all.ensures c.args.out.now _ (c.copy.ensures.copied (search rules)).1
