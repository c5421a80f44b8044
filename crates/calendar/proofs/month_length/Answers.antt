-- `calendar::month_length` meets its contract: the days of February go by the year's rule, as it was computed. Assumes nothing.
use mathlib.Core.Path.{◌≡◌, refl, ap, sym, ◌∙◌}
use mathlib.Core.Bool.{Bool, true, false}
use Prim.Native.Nat.{ℕ}
use mir.Facts.{to_z-of_z}
use Rattle.calendar.specs.Calendar.{leap_year, lengths}
use Rattle.calendar.proofs.month_length.Goals as goal

feb : (b t : Bool) (m v : ℕ) → b ≡ t → m ≡ 2 → v ≡ lengths t 2 → v ≡ lengths b m
unfolding lengths
feb b t m v e f p = p ∙ ap (λ (s : Bool). lengths s 2) (sym e) ∙ ap (lengths b) (sym f)

pub returns-then-is_leap_year : goal.returns-then-is_leap_year
unfolding lengths
returns-then-is_leap_year c =
    feb _ true _ 29 (sym (c.is_leap_year.ensures ∙ ap leap_year (to_z-of_z c.ranges.year)) ∙ c.if-is_leap_year.true) c.in-2.is refl

pub returns-else-is_leap_year : goal.returns-else-is_leap_year
unfolding lengths
returns-else-is_leap_year c =
    feb _ false _ 28 (sym (c.is_leap_year.ensures ∙ ap leap_year (to_z-of_z c.ranges.year)) ∙ c.if-is_leap_year.false) c.in-2.is refl
