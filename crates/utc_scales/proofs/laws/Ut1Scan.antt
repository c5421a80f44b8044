-- UT1 TO UTC LOOKS AT FIVE DAYS, from the day before to three days later: where TAI-UTC does not step by 0.5 s or more from one of them to the next, DUT1 is
-- taken as it is, whatever is before and after. And worked cases: a step of 0.1 s, and the step of 0.943482 s into 1960 from each side. Assumes nothing.
use mathlib.Core.Path.{◌≡◌}
use mathlib.Core.Bool.{true, cond}
use mathlib.Core.List.{List}
use Prim.Native.Nat.{ℕ}
use native.Mathlib.Omega.{arith}
use lib.IntN.{pos, negsuc}
use lib.Ieee.{Float, binary64, round, of_bits, of_int, add, sub, lt, neg}
use Rattle.refusals.specs.Outcome.{Outcome, answer, refusal, onward}
use Rattle.floats.specs.Whole.{abs, half}
use Rattle.constants.specs.Constants.{decimal}
use Rattle.julian.specs.declared.CalendarFields.{CalendarFields}
use Rattle.julian.specs.declared.JulianDate.{JulianDate}
use Rattle.julian.specs.JulianDate.{julian}
use Rattle.julian.specs.Calendar.{julian_to_calendar}
use Rattle.leap_table.specs.rows.Table.{Row, fixed}
use Rattle.utc_scales.specs.days.Dates.{offset_at0h, offset_of_date, midnight_of}
use Rattle.utc_scales.specs.from_ut1.Ut1Utc.{noStep, step, near_step, scan_day, until_step, scan, adjust_dut1}
use Rattle.utc_scales.specs.laws.Twenty.{Twenty, ut1-utc, answer_of_any}
use Rattle.utc_scales.proofs.laws.Computed.{computed, as_computed}

-- ---- five days
module _ (rows : List Row) (big small dut1 : Float) where
  -- TAI-UTC of the day i days later
  abbrev On : Float → Float → Type 0
  On i x = offset_of_date rows big (add binary64 small i) ≡ answer x

  -- no step of 0.5 s or more
  abbrev Near : Float → Float → Type 0
  Near before x = lt (abs (sub binary64 x before)) half ≡ true

  passed : (i before x : Float) → On i x → Near before x → scan_day rows big small dut1 i before ≡ answer (noStep x)
  unfolding scan_day offset_of_date onward
  passed i before x e l = go (julian_to_calendar big (add binary64 small i)) e
    where
      go : (o : Outcome CalendarFields) → onward o (λ c. offset_at0h rows c.date) ≡ answer x
          → onward o (λ c. onward (offset_at0h rows c.date) (λ x. cond (lt (abs (sub binary64 x before)) half) (answer (noStep x))
          (onward (midnight_of c.date) (λ z. answer (step (near_step big small dut1 (sub binary64 x before) z))))))
          ≡ answer (noStep x)
      go (answer c) p = rw (p, l)
      go (refusal k) p = let z : ◌≡◌ {A = ℕ} 0 1 = cc in absurd (omega arith)

  pub no_step_in_five_days : (a b c d e : Float) → On (of_int binary64 (negsuc 0)) a → On (of_int binary64 (pos 0)) b → Near a b
      → On (of_int binary64 (pos 1)) c → Near b c → On (of_int binary64 (pos 2)) d → Near c d → On (of_int binary64 (pos 3)) e → Near d e
      → adjust_dut1 rows big small dut1 ≡ answer dut1
  unfolding adjust_dut1 scan until_step onward
  no_step_in_five_days a b c d e p q k r l s m t n =
      rw (
        p,
        passed (of_int binary64 (pos 0)) a b q k,
        passed (of_int binary64 (pos 1)) b c r l,
        passed (of_int binary64 (pos 2)) c d s m,
        passed (of_int binary64 (pos 3)) d e t n,
      )

-- ---- worked cases
abbrev bits : ℕ → Float
bits n = of_bits binary64 n

abbrev Gives : Twenty → JulianDate → JulianDate → Type 0
Gives c d x = answer_of_any fixed c d ≡ answer x

-- the step of 0.1 s into 1964-04-01 is none: 6h of the day before with DUT1 0.1 s
abbrev march : Float → JulianDate
march x = julian (decimal 24384855 1) x

pub tenth_of_a_second : Gives (ut1-utc (decimal 1 1)) (march (decimal 25 2)) (march (bits 0x3fcf_fff6_4a7c_8c7a))
unfolding computed round of_bits
tenth_of_a_second = as_computed fixed (ut1-utc (decimal 1 1)) (march (decimal 25 2))

-- noon of 1959-12-28, whose last day looked at is 1959-12-31: no step is found
pub four-days-before : Gives (ut1-utc (decimal 25 2)) (julian (decimal 24369305 1) (decimal 5 1)) (julian (decimal 24369305 1) (bits 0x3fdf_fff3_dd1b_af99))
unfolding computed round of_bits
four-days-before = as_computed fixed (ut1-utc (decimal 25 2)) (julian (decimal 24369305 1) (decimal 5 1))

-- noon of 1959-12-29: the step is found on the last day, and none of it has passed
pub three-days-before : Gives (ut1-utc (decimal 25 2)) (julian (decimal 24369315 1) (decimal 5 1)) (julian (decimal 24369315 1) (bits 0x3fe0_0010_d525_aba6))
unfolding computed round of_bits
three-days-before = as_computed fixed (ut1-utc (decimal 25 2)) (julian (decimal 24369315 1) (decimal 5 1))

-- noon of 1959-12-31: half of it has
pub last_of_1959 : Gives (ut1-utc (decimal 25 2)) (julian (decimal 24369335 1) (decimal 5 1)) (julian (decimal 24369335 1) (bits 0x3fe0_0005_61d5_e7ad))
unfolding computed round of_bits
last_of_1959 = as_computed fixed (ut1-utc (decimal 25 2)) (julian (decimal 24369335 1) (decimal 5 1))

-- noon of 1960-01-01: the step is found between the day before and this day, and all of it has passed
pub first-of-1960 : Gives (ut1-utc (neg (decimal 25 2))) (julian (decimal 24369345 1) (decimal 5 1)) (julian (decimal 24369345 1) (bits 0x3fdf_ffde_55b4_a8b4))
unfolding computed round of_bits neg
first-of-1960 = as_computed fixed (ut1-utc (neg (decimal 25 2))) (julian (decimal 24369345 1) (decimal 5 1))

-- noon of 1960-01-02, whose first day looked at is 1960-01-01: no step is found
pub second-of-1960 : Gives (ut1-utc (neg (decimal 25 2))) (julian (decimal 24369355 1) (decimal 5 1)) (julian (decimal 24369355 1) (bits 0x3fe0_0006_1172_2834))
unfolding computed round of_bits neg
second-of-1960 = as_computed fixed (ut1-utc (neg (decimal 25 2))) (julian (decimal 24369355 1) (decimal 5 1))
