-- What decides the outcome of a conversion from UTC: the three ways to show it. Assumes nothing.
use mathlib.Core.Path.{◌≡◌, sym, subst}
use mathlib.Core.Bool.{Bool, true, false}
use lib.Dec.{T}
use Rattle.refusals.specs.Outcome.{Outcome, answer, refusal}
use Rattle.julian.specs.declared.JulianDate.{JulianDate}
use Rattle.utc_scales.specs.laws.Claims.{DecidedDay}

module _ {o : Outcome JulianDate} where
  pub by-six : (in_range early : Bool) → in_range ≡ false → o ≡ refusal 6 → DecidedDay in_range early o
  by-six true b e h = absurd (subst T e tt)
  by-six false b e h = h

  pub by_one : (in_range early : Bool) → in_range ≡ true → early ≡ true → o ≡ refusal 1 → DecidedDay in_range early o
  by_one true true e f h = h
  by_one true false e f h = absurd (subst T (sym f) tt)
  by_one false b e f h = absurd (subst T (sym e) tt)

  pub by-date : (in_range early : Bool) → in_range ≡ true → early ≡ false → (u : JulianDate) → o ≡ answer u → DecidedDay in_range early o
  by-date true true e f u h = absurd (subst T f tt)
  by-date true false e f u h = (u, h)
  by-date false b e f u h = absurd (subst T (sym e) tt)
