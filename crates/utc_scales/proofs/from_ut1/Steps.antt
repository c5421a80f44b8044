-- The scan of UT1 to UTC step by step: what a day of it is where the day number, the date's offset and the test are known. Assumes nothing.
use mathlib.Core.Path.{◌≡◌, ap, ◌∙◌}
use mathlib.Core.Bool.{Bool, true, false, cond}
use mathlib.Core.List.{List}
use Prim.Native.Nat.{ℕ, suc, ◌+◌, ◌-◌, ◌≤◌, ◌<◌}
use native.Mathlib.Omega.{arith}
use lib.IntN.{pos}
use lib.Ieee.{Float, binary64, of_int, add, sub, lt}
use Rattle.refusals.specs.Outcome.{answer, refusal, onward}
use Rattle.refusals.proofs.Onward.{went, stopped}
use Rattle.floats.specs.Whole.{abs, half}
use Rattle.calendar.specs.Gregorian.{gregorian_date}
use Rattle.julian.specs.declared.day_number.DayNumber.{DayNumber}
use Rattle.julian.specs.day_number.Answer.{day_number_and_fraction}
use Rattle.julian.specs.day_number.Ranges.{InDays}
use Rattle.julian.proofs.laws.CalendarDays.{fields-of}
use Rattle.leap_table.specs.rows.Table.{Row}
use Rattle.utc_scales.specs.days.Dates.{offset_at0h, midnight_of}
use Rattle.utc_scales.proofs.days.Midnights.{midnight_of_day, valid_midnight, offset-valid}
use Rattle.utc_scales.proofs.days.Steps.{no_date}
use Rattle.utc_scales.specs.from_ut1.Ut1Utc.{near_step, noStep, step, scan_day, until_step, scan}

pub scan-no-date : (rows : List Row) (big small dut1 i before : Float) (n : ℕ) → day_number_and_fraction big (add binary64 small i) ≡ refusal n
    → scan_day rows big small dut1 i before ≡ refusal n
unfolding scan_day
scan-no-date rows big small dut1 i before n e = stopped _ (no_date big (add binary64 small i) n e)

module _ (rows : List Row) (big small dut1 i before : Float) (d : DayNumber) (e : day_number_and_fraction big (add binary64 small i) ≡ answer d) where
  pub scan-no-offset : (n : ℕ) → offset_at0h rows (gregorian_date d.day) ≡ refusal n → scan_day rows big small dut1 i before ≡ refusal n
  unfolding scan_day
  scan-no-offset n p = went _ (fields-of big (add binary64 small i) d e) ∙ stopped _ p

  module _ (x : Float) (p : offset_at0h rows (gregorian_date d.day) ≡ answer x) where
    at_day : (b : Bool) → lt (abs (sub binary64 x before)) half ≡ b
        → scan_day rows big small dut1 i before ≡ cond b (answer (noStep x))
        (onward (midnight_of (gregorian_date d.day)) (λ z. answer (step (near_step big small dut1 (sub binary64 x before) z))))
    unfolding scan_day
    at_day b h = went _ (fields-of big (add binary64 small i) d e) ∙ went _ p ∙ rw h

    pub scan-no-step : lt (abs (sub binary64 x before)) half ≡ true → scan_day rows big small dut1 i before ≡ answer (noStep x)
    scan-no-step h = at_day true h

    pub scan_step : InDays d.day → lt (abs (sub binary64 x before)) half ≡ false
        → scan_day rows big small dut1 i before ≡ answer (step (near_step big small dut1 (sub binary64 x before) (midnight_of_day d.day)))
    scan_step r h = at_day false h ∙ went _ (valid_midnight d.day r (offset-valid rows d.day x p))

-- ---- the scan, of which 4 - i days are left at day i
module _ (rows : List Row) (big small dut1 : Float) (i : ℕ) (before : Float) (h : i < 4) where
  one_more : (j : ℕ) → j < 4 → 4 - j ≡ suc (4 - (j + 1))
  one_more j k = omega arith

  left : scan rows big small dut1 (4 - i) i before ≡ scan rows big small dut1 (suc (4 - (i + 1))) i before
  left = ap (λ (k : ℕ). scan rows big small dut1 k i before) (one_more i h)

  pub scan-on : (x : Float) → scan_day rows big small dut1 (of_int binary64 (pos i)) before ≡ answer (noStep x)
      → scan rows big small dut1 (4 - i) i before ≡ scan rows big small dut1 (4 - (i + 1)) (i + 1) x
  unfolding scan until_step
  scan-on x e = left ∙ went _ e

  pub scan-ends : (x : Float) → scan_day rows big small dut1 (of_int binary64 (pos i)) before ≡ answer (step x)
      → scan rows big small dut1 (4 - i) i before ≡ answer x
  unfolding scan until_step
  scan-ends x e = left ∙ went _ e

  pub scan-refused : (n : ℕ) → scan_day rows big small dut1 (of_int binary64 (pos i)) before ≡ refusal n → scan rows big small dut1 (4 - i) i before ≡ refusal n
  unfolding scan
  scan-refused n e = left ∙ stopped _ e

pub scan-done : (rows : List Row) (big small dut1 : Float) (i : ℕ) (before : Float) → 4 ≤ i → scan rows big small dut1 (4 - i) i before ≡ answer dut1
unfolding scan
scan-done rows big small dut1 i before h = ap (λ (k : ℕ). scan rows big small dut1 k i before) (none i h)
  where
    none : (j : ℕ) → 4 ≤ j → 4 - j ≡ 0
    none j k = omega arith
