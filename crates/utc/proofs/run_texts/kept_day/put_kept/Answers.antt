-- `utc::run_texts::kept_day::put_kept` meets its contract. Assumes nothing.
use lib.Ieee.{of_bits}
use Rattle.utc.proofs.run_texts.KeptDays.{by_day}
use borrow.Author.Rules.{rules}
use Rattle.utc.proofs.run_texts.kept_day.put_kept.Goals as goal

pub returns-then-jd-2 : goal.returns-then-jd-2
unfolding of_bits
returns-then-jd-2 c =
    by_day c.args.textForm c.args.jd c.args.kept c.args.out.now c.put_time.result _ c.if-kept-gt0.true (search rules) (search rules) c.if-jd-kept.true
    c.if-jd.true c.if-jd-2.true c.put_time.ensures
