-- `utc::shown::half_even::even_count` meets its contract. Assumes nothing.
use mathlib.Core.Path.{sym, ◌∙◌}
use native.Mathlib.Omega.{arith}
use Rattle.time_of_day.proofs.EvenSteps.{whole-small, count-in-whole, count-by-float}
use Rattle.utc.proofs.shown.half_even.even_count.Goals as goal

pub even_millis-requires : goal.even_millis-requires
even_millis-requires c = (
  omega (
    arith,
    c.grid_units-units.ensures,
    whole-small c.args.fraction c.args.leap (sym c.in_whole.ensures ∙ c.if-in_whole.true),
  ),
  c.day_end.ensures.1,
)

pub returns-then-in_whole : goal.returns-then-in_whole
returns-then-in_whole c =
    c.even_millis.ensures
    ∙ count-in-whole c.args.fraction c.args.leap c.grid_units-units.result c.day_end.result c.grid_units-units.ensures
    c.day_end.ensures.0 (sym c.in_whole.ensures ∙ c.if-in_whole.true)

pub returns-else-in_whole : goal.returns-else-in_whole
returns-else-in_whole c =
    c.float_count.ensures ∙ count-by-float c.args.fraction c.args.leap (sym c.in_whole.ensures ∙ c.if-in_whole.false)
