-- `utc::shown::half_even::float_count` meets its contract. Assumes nothing.
use mathlib.Core.Path.{ap, ◌∙◌}
use mir.Facts.{to_z-of_z}
use mir.Syntax.{w64}
use Rattle.time_of_day.specs.TimeShown.{from_zero}
use Rattle.time_of_day.proofs.EvenSteps.{float_is}
use Rattle.utc.proofs.shown.half_even.float_count.Goals as goal

pub returns : goal.returns
returns c =
    c.of_halves.ensures
    ∙ float_is c.args.fraction c.args.leap c.twice_millis-product.result c.saturating_i64.result c.from_zero-halves.result
    c.worth.result
    c.twice_millis-product.ensures c.saturating_i64.ensures
    (c.from_zero-halves.ensures ∙ ap from_zero (to_z-of_z {w = w64} {z = c.saturating_i64.result} (record { sfits = c.saturating_i64.type_inv })))
    c.worth.ensures
