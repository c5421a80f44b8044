-- `since_launch::place_of` meets its contract: no sum leaves 64 bits. Assumes nothing.
use mathlib.Core.Path.{sym, ap, subst, ◌∙◌}
use lib.IntN.{ℤ, pos, ◌+ℤ◌}
use mir.Syntax.{w64}
use mir.Val.{SFits, to_z, of_z}
use mir.Facts.{to_z-of_z}
use Rattle.julian.proofs.day_number.Ranges.{day-read}
use Rattle.time_of_day.specs.TimeShown.{from_zero}
use Rattle.since_launch.specs.Millis.{place_of}
use Rattle.since_launch.proofs.Places.{days-fit}
use Rattle.since_launch.proofs.place_of.Goals as goal

pub overflow_add-found : goal.overflow_add-found
overflow_add-found c = subst (λ (z : ℤ). SFits w64 (z +ℤ pos 68570)) (sym (day-read c.args.found.day c.requires)) (days-fit c.args.found.day c.requires)

pub returns : goal.returns
unfolding place_of
returns c =
    let z = c.args.found.day in
    let e = ap (λ (y : ℤ). to_z w64 (of_z w64 (y +ℤ pos 68570))) (day-read z c.requires) in
    let d = c.from_zero.ensures ∙ ap from_zero (e ∙ to_z-of_z {w = w64} (days-fit z c.requires)) in
    λ i. record { days = d i; units = c.grid_units.ensures i }
