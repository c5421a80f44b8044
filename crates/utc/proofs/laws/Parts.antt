-- What the parts of UTC from the calendar are worth: jd1 is exactly 2400000.5 plus the Modified Julian Date, which no rounding changes, and jd2 has exactly the
-- value of the quotient of the seconds by the day's length; the 0.0 of midnight that it is added to changes nothing, and jd2 is never -0.0. Assumes nothing.
use mathlib.Core.Path.{◌≡◌, refl, sym, ap, ◌∙◌, subst}
use mathlib.Core.Bool.{true, false}
use mathlib.Core.List.{List}
use Prim.Native.Nat.{ℕ, ◌+◌, ◌*◌, ◌^◌, ◌<◌}
use native.Mathlib.Omega.{arith}
use lib.Dec.{T}
use lib.IntN.{ℤ, pos}
use lib.Ieee.{Float, binary64, of_int, add, mul, div, fits}
use lib.Ieee.Fits.{div-fits}
use mir.Syntax.{w32}
use mir.Val.{SFits}
use Rattle.refusals.specs.Outcome.{answer}
use Rattle.floats.specs.Whole.{nought}
use Rattle.constants.specs.Constants.{decimal, seconds_per_day, mjd_zero_point}
use Rattle.rounding.specs.Value.{Val, L, Rounds}
use Rattle.rounding.proofs.Value.{L-pos, rounds-move, add_rounds}
use Rattle.rounding.proofs.Signed.{signed-dist}
use Rattle.rounding.proofs.Own.{Rep, val-rep, val-small}
use Rattle.rounding.proofs.Sterbenz.{rounds-rep}
use Rattle.rounding.proofs.Casts.{plus_z, minus_z}
use Rattle.calendar.specs.DayCount.{mjd_number, mjd_of}
use Rattle.calendar.proofs.Mjd.{mjd-valid, mjd-given, same_answer}
use Rattle.julian.specs.day_number.MinusZero.{minus_zero}
use Rattle.julian.proofs.day_number.MinusZero.{add_unsigned}
use Rattle.julian.specs.declared.JulianDate.{JulianDate}
use Rattle.julian.specs.JulianDate.{julian}
use Rattle.julian.specs.DayFraction.{time_in_day}
use Rattle.julian.proofs.Midnights.{mjd-in-42-bits, midnight-sum}
use Rattle.leap_table.specs.rows.Table.{Row}
use Rattle.leap_table.specs.offsets.Leap.{leap_at_end_of_day}
use Rattle.utc.specs.FromCalendar.{utc_from_calendar}
use Rattle.utc.proofs.laws.FromCalendars.{time-given}

-- ---- 0.0 and a float
zero_val : (D : ℕ) → Val nought 0 0 D
zero_val D = record { sign = false; size = 0; has = (refl, none D); is = refl }
  where
    none : (D : ℕ) → 0 * D ≡ 0
    none D = omega arith

quotient-kept : {f : Float} {p n : ℕ} → T (fits binary64 f) → Val f p n L → Val (add binary64 nought f) p n L
quotient-kept {f} {p} {n} t v =
    let r : Rounds binary64 (add binary64 nought f) p n L = rounds-move (add_rounds binary64 L-pos (zero_val L) v) (same p n) in
    let e = signed-dist r.sign r.size p n r.is in
    rounds-rep r (subst Rep e (val-rep t v)) (subst (λ (k : ℕ). k < 2 ^ 2098) e (val-small t v))
  where
    same : (p n : ℕ) → 0 + p + n ≡ p + (0 + n)
    same p n = omega arith

not_minus_zero : (f : Float) → T (fits binary64 f) → minus_zero (add binary64 nought f) ≡ false
unfolding minus_zero fits
not_minus_zero f t = (add_unsigned f t (record { fit = tt; sign = refl })).sign

-- ---- the parts
abbrev quotient : ℕ → ℕ → Float → Float → Float
quotient hour minute second leap =
    div binary64 (add binary64 (mul binary64 (decimal 60 0) (of_int binary64 (pos (60 * hour + minute)))) second) (add binary64 seconds_per_day leap)

-- j is midnight of Modified Julian Date n, exactly, and the part q of its day
pub record MidnightAnd (n : ℤ) (q : Float) (j : JulianDate) : Type 0 where
  pub first : Val j.jd1 (4800001 + plus_z n * 2) (minus_z n * 2) 2
  pub second : (p m : ℕ) → Val q p m L → Val j.jd2 p m L
  pub not_minus : minus_zero j.jd2 ≡ false

-- THE MEANING of UTC from the calendar: midnight of the date, and the seconds of the day over its length, 86,400 s plus leap, rounded once
pub meaning : (rows : List Row) (y : ℤ) (m d hour minute : ℕ) (second : Float) (n : ℤ) (leap : Float) → SFits w32 y → mjd_of y (pos m) (pos d) ≡ answer n
    → leap_at_end_of_day rows y (pos m) (pos d) ≡ answer leap
    → time_in_day hour minute second leap ≡ true → (j : JulianDate) × (utc_from_calendar rows y m d hour minute second ≡ answer j)
    × MidnightAnd n (quotient hour minute second leap) j
meaning rows y m d hour minute second n leap f e l h =
    let v = mjd-valid y (pos m) (pos d) n e in
    let q = quotient hour minute second leap in
    let is : mjd_number y (pos m) (pos d) ≡ n = same_answer (sym (mjd-given y (pos m) (pos d) v) ∙ e) in
    let t = div-fits binary64 (add binary64 (mul binary64 (decimal 60 0) (of_int binary64 (pos (60 * hour + minute)))) second)
    (add binary64 seconds_per_day leap) in (
      julian (add binary64 mjd_zero_point (of_int binary64 n)) (add binary64 nought q),
      time-given rows y m d hour minute second v leap l h
          ∙ ap (λ (k : ℤ). answer (julian (add binary64 mjd_zero_point (of_int binary64 k)) (add binary64 nought q))) is,
      record { first = midnight-sum n (mjd-in-42-bits y (pos m) (pos d) n f e); second = λ p m. quotient-kept t; not_minus = not_minus_zero q t },
    )
