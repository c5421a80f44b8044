-- `julian::calendar_to_julian` meets its contract. Assumes nothing.
use mathlib.Core.Path.{◌≡◌, sym, ◌∙◌}
use lib.IntN.{ℤ}
use mir.Syntax.{w32}
use mir.Val.{SFits, to_z, of_z}
use mir.Facts.{to_z-of_z}
use Rattle.refusals.specs.Outcome.{Outcome, outcome}
use Rattle.refusals.proofs.Handed.{handed_on}
use Rattle.constants.proofs.Bits.{mjd-zero-point}
use Rattle.calendar.specs.DayCount.{mjd_of}
use Rattle.julian.proofs.Midnights.{mjd-fits, mjd-in-float, midnight-refused, midnight-given}
use Rattle.julian.proofs.calendar_to_julian.Goals as goal

-- the day number of the date as it was read
read : {o : Outcome ℤ} {y m d : ℤ} → SFits w32 y → SFits w32 m → SFits w32 d
    → o ≡ mjd_of (to_z w32 (of_z w32 y)) (to_z w32 (of_z w32 m)) (to_z w32 (of_z w32 d))
    → mjd_of y m d ≡ o
read f g h e = sym (e ∙ (λ i. mjd_of (to_z-of_z f i) (to_z-of_z g i) (to_z-of_z h i)))

pub returns-in_err-mjd : goal.returns-in_err-mjd
unfolding outcome
returns-in_err-mjd c =
    handed_on _ _ c.from_residual.ensures.1
    ∙ sym (midnight-refused _ _ _ _ (read c.ranges.year c.ranges.month c.ranges.day c.in_err-mjd.ensures))

pub int_to_float-mjd : goal.int_to_float-mjd
unfolding outcome
int_to_float-mjd c =
    let e = read c.ranges.year c.ranges.month c.ranges.day c.in_ok-mjd.ensures in
    rw (to_z-of_z (mjd-fits _ _ _ _ c.ranges.year e)) (mjd-in-float _ _ _ _ c.ranges.year e)

pub returns : goal.returns
unfolding outcome
returns c =
    let e = read c.ranges.year c.ranges.month c.ranges.day c.in_ok-mjd.ensures in
    cc (mjd-zero-point, to_z-of_z (mjd-fits _ _ _ _ c.ranges.year e), midnight-given _ _ _ _ e)
