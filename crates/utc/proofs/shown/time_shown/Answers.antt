-- `utc::shown::time_shown` meets its contract: each call's result, put together. Assumes nothing.
use Rattle.std.proofs.Common.{arith}
use Rattle.time_of_day.proofs.ByCount.{at-time, at_end}
use Rattle.utc.specs.iso_texts.Named.{form_named}
use Rattle.utc.proofs.shown.time_shown.Goals as goal

pub returns-then-count-day_end : goal.returns-then-count-day_end
returns-then-count-day_end c =
    at-time (form_named c.args.textForm).count c.args.fraction c.args.leap c.whole_leap-day_leap.result c.count_of-count.result c.day_end.result
    c.whole_leap-day_leap.ensures c.count_of-count.ensures c.day_end.ensures.0 c.time_of.result c.time_of.ensures c.if-count-day_end.true

pub returns-else-count-day_end : goal.returns-else-count-day_end
returns-else-count-day_end c =
    at_end (form_named c.args.textForm).count c.args.fraction c.args.leap c.whole_leap-day_leap.result c.count_of-count.result c.day_end.result
    c.whole_leap-day_leap.ensures c.count_of-count.ensures c.day_end.ensures.0 (omega (arith, c.if-count-day_end.false))
