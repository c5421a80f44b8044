-- Where an answered date lies: its day is from -68570 to 1000000000, and its fraction from 0.0 to below 1.0, whatever the two floats were. Assumes nothing.
use mathlib.Core.Path.{◌≡◌, sym, subst}
use mathlib.Core.Bool.{true}
use native.Mathlib.Omega.{arith}
use lib.Dec.{T}
use lib.IntN.{ℤ}
use lib.Ieee.{Float, binary64, fits}
use mir.Syntax.{w64}
use mir.Val.{to_z, of_z}
use mir.ValLaws.{to_z-of_z}
use Rattle.rounding.proofs.Value.{L-pos}
use Rattle.rounding.proofs.Compare.{le_show, lt_show}
use Rattle.rounding.proofs.Ints.{int_own, int_fits}
use Rattle.rounding.specs.Value.{InUnit}
use Rattle.refusals.specs.Outcome.{answer}
use Rattle.floats.specs.Whole.{nearest_int}
use Rattle.julian.specs.declared.day_number.DayNumber.{DayNumber}
use Rattle.julian.specs.day_number.DayNumber.{accepted, day_number, fraction_passed, day_of}
use Rattle.julian.specs.day_number.Answer.{day_number_and_fraction}
use Rattle.julian.specs.day_number.Ranges.{InDays}
use Rattle.julian.proofs.day_number.Units.{one-L, nought-L}
use Rattle.julian.proofs.day_number.Answer.{answer-is}
use Rattle.julian.proofs.day_number.Accepted.{accepted-pair}
use Rattle.julian.proofs.day_number.TotalDay.{sides}
use Rattle.julian.proofs.day_number.DayInRange.{total-is, number_is}

day-of-range : (x y : Float) → T (fits binary64 x) → T (fits binary64 y) → accepted x y ≡ true → InDays (day_number x y)
day-of-range x y fx fy e =
    let o = accepted-pair x y fx fy e in
    let i = o.ints in
    let s = sides 1000000000 68570 (total-is (nearest_int x) (nearest_int y) o.up o.more o.down) (omega (arith, i.high)) (omega (arith, i.low)) in
    subst InDays (sym (number_is x y o.up o.more o.down o.carry o.again o.borrow))
    (record { top = omega (arith, s.0); bottom = omega (arith, s.1) })

fraction-of-range : (x y : Float) → T (fits binary64 x) → T (fits binary64 y) → accepted x y ≡ true → InUnit (fraction_passed x y)
unfolding fraction_passed
fraction-of-range x y fx fy e =
    let o = accepted-pair x y fx fy e in
    record { low = le_show L-pos nought-L o.val (omega arith); high = lt_show L-pos o.val one-L (omega (arith, o.below)) }

-- the day of every answered pair of floats
pub day-range : (x y : Float) → T (fits binary64 x) → T (fits binary64 y) → (d : DayNumber) → day_number_and_fraction x y ≡ answer d → InDays d.day
unfolding day_of
day-range x y fx fy d e = let a = answer-is x y d e in subst (λ (z : DayNumber). InDays z.day) a.1 (day-of-range x y fx fy a.0)

-- the fraction of every answered pair of floats
pub fraction-range : (x y : Float) → T (fits binary64 x) → T (fits binary64 y) → (d : DayNumber) → day_number_and_fraction x y ≡ answer d → InUnit d.fraction
unfolding day_of
fraction-range x y fx fy d e = let a = answer-is x y d e in subst (λ (z : DayNumber). InUnit z.fraction) a.1 (fraction-of-range x y fx fy a.0)

-- such a day is the same in 64 bits
pub day-read : (z : ℤ) → InDays z → to_z w64 (of_z w64 z) ≡ z
day-read z h = to_z-of_z w64 z (int_fits (int_own z) (omega (arith, h.top)) (omega (arith, h.bottom)))
