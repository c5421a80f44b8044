-- UTC to TAI keeps the order of two stamps of one jd1, no gap asked, whatever their jd2, on the grid or off it, over midnights and leap seconds: the calendar
-- keeps it (julian::day_order), and so does all that follows (Ordered). Assumes nothing.
use mathlib.Core.Path.{◌≡◌, sym, subst, subst₂}
use Prim.Native.Nat.{ℕ, ◌+◌, ◌*◌, ◌≤◌}
use native.Mathlib.Nat.{zero-mul}
use native.Mathlib.Omega.{arith}
use lib.Dec.{T}
use lib.IntN.{ℤ, pos}
use lib.Ieee.{Float, le}
use Rattle.refusals.specs.Outcome.{answer}
use Rattle.rounding.specs.Value.{L, plus_z, minus_z}
use Rattle.rounding.proofs.Value.{val-unique}
use Rattle.julian.specs.day_number.DayNumber.{day_of}
use Rattle.julian.specs.day_number.Answer.{day_number_and_fraction}
use Rattle.julian.specs.day_order.Order.{WholeHalves, NoLater}
use Rattle.julian.proofs.day_order.Order.{calendar-order}
use Rattle.julian.specs.declared.JulianDate.{JulianDate}
use Rattle.leap_table.specs.rows.Table.{fixed}
use Rattle.utc_scales.specs.UtcTai.{utc_to_tai}
use Rattle.utc_scales.specs.round_trip.Ranges.{HalfDaySplit}
use Rattle.utc_scales.specs.round_trip.Order.{PartsInOrder}
use Rattle.utc_scales.proofs.round_trip.Ordered.{z, z', utc-order-by-days}

module _ {d d' : JulianDate} (i : HalfDaySplit d) (i' : HalfDaySplit d') (same : d.jd1 ≡ d'.jd1) where
  first : WholeHalves d.jd1
  first = record { held = i.held.0; halves = pos i.halves; val = i.first }

  calendar : T (le d.jd2 d'.jd2) → NoLater (day_of d.jd1 d.jd2) (day_of d'.jd1 d'.jd2)
  calendar l =
      calendar-order d.jd1 d.jd2 d'.jd2 first i.held.1 i'.held.1 i.second i'.second l (day_of d.jd1 d.jd2)
      (day_of d'.jd1 d'.jd2)
      (z i i' same).given (subst (λ (a : Float). day_number_and_fraction a d'.jd2 ≡ answer (day_of d'.jd1 d'.jd2)) (sym same) (z' i i' same).given)

  -- THE THEOREM: jd1 in the range of request 14, and jd2 ≤ jd2', each at most 1 in size
  pub utc-order-no-gap : T (le d.jd2 d'.jd2) → PartsInOrder (utc_to_tai fixed) d d'
  utc-order-no-gap l =
      let k = calendar l in
      utc-order-by-days i i' same
      (units ((z i i' same).n * L) ((z' i i' same).n * L) k.units k.units' (z i i' same).f (z' i i' same).f (val-unique (z i i' same).val k.val)
      (val-unique (z' i i' same).val k.val')
      (days (day_of d.jd1 d.jd2).day (day_of d'.jd1 d'.jd2).day (z i i' same).n (z' i i' same).n k.units k.units' (z i i' same).day
      (z' i i' same).day k.order))
    where
      units : (N M u u' f f' : ℕ) → f + 0 ≡ u + 0 → f' + 0 ≡ u' + 0 → N + u ≤ M + u' → N + f ≤ M + f'
      units N M u u' f f' e e' h = omega arith

      days : (x y : ℤ) (n m u u' : ℕ) → x ≡ pos n → y ≡ pos m → plus_z x * L + u + minus_z y * L ≤ plus_z y * L + u' + minus_z x * L → n * L + u ≤ m * L + u'
      days x y n m u u' e e' h = plain (n * L) (m * L) (subst₂ (λ (x y : ℤ). plus_z x * L + u + minus_z y * L ≤ plus_z y * L + u' + minus_z x * L) e e' h)
        where
          plain : (N M : ℕ) → N + u + 0 * L ≤ M + u' + 0 * L → N + u ≤ M + u'
          plain N M h = omega (arith, zero-mul L)
