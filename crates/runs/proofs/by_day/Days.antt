-- UTC to TAI and back by a day that is held, and the ways that take it. Assumes nothing.
use mathlib.Core.Path.{◌≡◌, refl, sym, ap, subst, ◌∙◌}
use mathlib.Core.Bool.{true, false≢true}
use mathlib.Core.List.{List}
use lib.Dec.{T}
use lib.IntN.{pos, ◌-ℤ◌}
use Prim.Native.Nat.{ℕ}
use lib.Ieee.{Float, binary64, fits, lt, le, of_int}
use Rattle.std.specs.Prelude.{Option, None, Some}
use Rattle.refusals.specs.Outcome.{answer}
use Rattle.floats.specs.Whole.{nought, one}
use Rattle.julian.specs.day_number.Answer.{day_number_and_fraction}
use Rattle.julian.specs.day_number.Midnights.{day_from, Midnight}
use Rattle.julian.specs.declared.JulianDate.{JulianDate}
use Rattle.julian.specs.JulianDate.{julian}
use Rattle.leap_table.specs.rows.Table.{Row}
use Rattle.leap_table.specs.declared.offsets.DayOffsets.{DayOffsets}
use Rattle.calendar.specs.Gregorian.{gregorian_date}
use Rattle.constants.specs.Constants.{mjd_zero_point}
use Rattle.refusals.proofs.Onward.{went}
use Rattle.utc_scales.specs.UtcTai.{stretch_day_fraction, tai_from_midnight, tai_fraction, utc_to_tai, refined, rounds, refine_utc_fraction, tai_to_utc}
use Rattle.utc_scales.specs.days.Dates.{offsets_of}
use Rattle.utc_scales.specs.days.LargerPart.{first_is_kept, kept_as, kept_parts, put_beside, placed}
use Rattle.utc_scales.proofs.days.Steps.{changes}
use Rattle.utc_scales.proofs.Steps.{tai-of-day}
use Rattle.runs.specs.declared.by_day.DayInHand.{DayInHand}
use Rattle.runs.specs.by_day.Hand.{HeldDay, hand_of, tai_part, minus_one, serves_none, RightHand, RightTaiByHand, RightUtcByHand, RightWay}
use Rattle.runs.specs.by_day.Hand.{InDayOf, FindsFraction, FindsTaiOf, FindsTai, RightRound, FindsRound, FindsUtc}
use Rattle.runs.specs.ways.Ways.{way_of}
use Rattle.runs.proofs.laws.EachWay.{each_way}
use Rattle.runs.proofs.by_day.Floats.{first-larger}

-- ---- the first part is the one that is kept
first_larger : (d : JulianDate) → first_is_kept d ≡ true → kept_as d true ≡ kept_parts d
unfolding kept_parts
first_larger d e = ap (kept_as d) (sym e)

-- ---- UTC to TAI by a day that is held
part-is : (m mjd : Float) (o : DayOffsets) (f : Float) → tai_part (hand_of m mjd o) f ≡ tai_from_midnight m (julian mjd_zero_point mjd) o f
unfolding tai_part hand_of tai_from_midnight stretch_day_fraction
part-is m mjd o f = refl

module _ (rows : List Row) (x y : Float) (h : DayInHand) (fx : T (fits binary64 x)) (fy : T (fits binary64 y)) (k : HeldDay rows h) (e : x ≡ h.midnight)
    (ly : le nought y ≡ true) (ty : lt y one ≡ true) (f : Float) (d : day_number_and_fraction x y ≡ answer (record { day = day_from x; fraction = f })) where
  begins : Midnight x
  begins = subst Midnight (sym e) k.begins

  pub kept : first_is_kept (julian x y) ≡ true
  unfolding first_is_kept
  kept = first-larger x y fx fy begins.late ly ty

  day-read-of : offsets_of rows (gregorian_date (day_from x)) ≡ answer k.offsets
  day-read-of = ap (λ (z : Float). offsets_of rows (gregorian_date (day_from z))) e ∙ k.read

  part : tai_fraction rows x y ≡ answer (tai_part h f)
  part = tai-of-day rows x y (record { day = day_from x; fraction = f }) d begins.in-days k.offsets day-read-of
      ∙ ap answer (ap (λ (z : Float). tai_from_midnight z (julian mjd_zero_point (of_int binary64 (day_from z -ℤ pos 2400001))) k.offsets f) e
      ∙ sym (part-is h.midnight (of_int binary64 (day_from h.midnight -ℤ pos 2400001)) k.offsets f)
      ∙ ap (λ (z : DayInHand). tai_part z f) (sym k.same))

  pub tai-by-hand : utc_to_tai rows (julian x y) ≡ answer (julian x (tai_part h f))
  unfolding utc_to_tai placed put_beside
  tai-by-hand =
      sym (changes (tai_fraction rows) (julian x y) (kept_as (julian x y) true) (answer (tai_part h f)) (first_larger (julian x y) kept) (sym part))
      ∙ went _ refl

-- ---- the way from UTC to TAI
pub way_to_tai : (rows : List Row) (from to : ℕ) (d : JulianDate) (r : Option JulianDate) → from ≡ 0 → to ≡ 1
    → RightTaiByHand rows d r → RightWay rows from to d r
unfolding RightTaiByHand RightWay
way_to_tai rows from to d (Some t) p q e =
    ap (λ (a : ℕ). way_of rows a to d) p ∙ ap (λ (a : ℕ). way_of rows 0 a d) q ∙ (each_way rows d).utc_tai ∙ e.0
way_to_tai rows from to d None p q e = tt

-- ---- no day is right for every table
pub no_day_right : (rows : List Row) (h : DayInHand) → h ≡ serves_none minus_one minus_one → RightHand rows h
unfolding RightHand serves_none lt
no_day_right rows h e l = absurd (false≢true (sym (ap (λ (z : DayInHand). lt nought z.top) e) ∙ l))

-- ---- TAI to UTC in three rounds
module _ (rows : List Row) (big small x y z : Float) (a : refined rows big small small ≡ answer x) (b : refined rows big small x ≡ answer y)
    (c : refined rows big small y ≡ answer z) (f : first_is_kept (julian big small) ≡ true) where
  three : refine_utc_fraction rows big small ≡ answer z
  unfolding refine_utc_fraction rounds
  three = went _ a ∙ went _ b ∙ went _ c

  pub utc-by-rounds : tai_to_utc rows (julian big small) ≡ answer (julian big z)
  unfolding tai_to_utc placed put_beside
  utc-by-rounds =
      sym (changes (refine_utc_fraction rows) (julian big small) (kept_as (julian big small) true) (answer z) (first_larger (julian big small) f)
      (sym three))
      ∙ went _ refl

-- ---- the way from TAI to UTC
pub way_to_utc : (rows : List Row) (from to : ℕ) (d : JulianDate) (r : Option JulianDate) → from ≡ 1 → to ≡ 0
    → RightUtcByHand rows d r → RightWay rows from to d r
unfolding RightUtcByHand RightWay
way_to_utc rows from to d (Some t) p q e =
    ap (λ (a : ℕ). way_of rows a to d) p ∙ ap (λ (a : ℕ). way_of rows 1 a d) q ∙ (each_way rows d).tai_utc ∙ e
way_to_utc rows from to d None p q e = tt

-- ---- where none is found, nothing is asked
pub no_fraction : (y : Float) (r : Option Float) → r ≡ None → FindsFraction y r
unfolding FindsFraction InDayOf
no_fraction y r e = rw e (λ x fx m a. tt)

pub no_tai_of : (d : JulianDate) (h : DayInHand) (r : Option JulianDate) → r ≡ None → FindsTaiOf d h r
unfolding FindsTaiOf RightTaiByHand
no_tai_of d h r e = rw e (λ rows k p l t. tt)

pub no_tai : (d : JulianDate) (h : DayInHand) (r : Option JulianDate) → r ≡ None → FindsTai d h r
unfolding FindsTai RightTaiByHand
no_tai d h r e = rw e (λ rows right. tt)

pub no_part : (big small guess : Float) (h : DayInHand) (r : Option Float) → r ≡ None → FindsRound big small guess h r
unfolding FindsRound RightRound
no_part big small guess h r e = rw e (λ rows right. tt)

pub no_utc : (d : JulianDate) (h : DayInHand) (r : Option JulianDate) → r ≡ None → FindsUtc d h r
unfolding FindsUtc RightUtcByHand
no_utc d h r e = rw e (λ rows right. tt)

pub ruleset none_found = (no_fraction, no_tai_of, no_tai, no_part, no_utc)
