-- `calendar::date_of_shifted_day` meets its contract: the divisions give the date. Assumes nothing.
use mathlib.Core.Path.{◌≡◌, refl, ap, ◌∙◌}
use Prim.Native.Nat.{ℕ}
use lib.IntN.{ℤ}
use mir.Syntax.{w32}
use mir.Facts.{to_z-of_z}
use Rattle.calendar.specs.Calendar.{date}
use Rattle.calendar.proofs.Gregorian.{shifts_give_date}
use Rattle.calendar.proofs.date_of_shifted_day.Goals as goal

year_is : (m d : ℕ) (y z : ℤ) → y ≡ z → date y m d ≡ date z m d
year_is m d y z e = ap (λ (x : ℤ). date x m d) e

pub returns : goal.returns
returns c =
    year_is _ _ _ _ (to_z-of_z {w = w32} {z = c.lowered_year-year.result} (record { sfits = c.lowered_year-year.type_inv }) ∙ c.lowered_year-year.ensures)
    ∙ shifts_give_date c.args.l _ _ _ _ _ refl refl refl refl refl
