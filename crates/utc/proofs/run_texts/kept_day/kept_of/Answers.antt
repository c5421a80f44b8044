-- `utc::run_texts::kept_day::kept_of` meets its contract. Assumes nothing.
use mathlib.Core.Path.{refl, sym, ◌∙◌}
use Rattle.utc.specs.run_texts.Kept.{KeptOf}
use Rattle.utc.proofs.run_texts.KeptDays.{year-of}
use borrow.Author.Rules.{rules}
use Rattle.utc.proofs.run_texts.kept_day.kept_of.Goals as goal

pub returns-then-is_basic : goal.returns-then-is_basic
unfolding KeptOf
returns-then-is_basic c l =
    let y = year-of c.args.date.year c.negative-negative.result c.size-size.result (search rules)
    c.negative-negative.ensures c.size-size.ensures (sym c.is_basic.ensures ∙ c.if-is_basic.true) in (
      refl,
      record {
        year = c.size-size.result;
        basic = y.0;
        in_year = y.1;
        counts = c.whole_leap-day_leap.ensures;
        ends = c.day_end-end.ensures.0;
        characters = c.date_bytes-characters.ensures;
      },
    )
