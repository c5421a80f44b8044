-- Which stamps of a run are refused, and by which number. Assumes nothing.
use Prim.Native.Nat.{ℕ, ◌*◌}
use mathlib.Core.Path.{◌≡◌, refl, sym, ap, subst, ◌∙◌}
use mathlib.Core.Logic.{◌⊎◌, inl, inr}
use mathlib.Core.Bool.{Bool, true, false, cond, ◌&&◌, ◌||◌, true≢false}
use mathlib.Core.List.{List}
use lib.Dec.{T, eqb}
use lib.Ieee.{Float, binary64, mul, fits, of_bits}
use lib.Ieee.Bits.{of_bits-fits}
use lib.Ieee.Fits.{add-fits, sub-fits}
use lib.Ieee.Scale.{finite}
use borrow.Author.Tests.{eqb-true, eq-eqb}
use Rattle.refusals.specs.Outcome.{Outcome, answer, refusal, onward}
use Rattle.refusals.proofs.Onward.{stopped, came}
use Rattle.julian.specs.declared.JulianDate.{JulianDate}
use Rattle.julian.specs.Finite.{finite_parts, finite_jd}
use Rattle.numerals.specs.little_endian.LittleEndian.{u64_at}
use Rattle.leap_table.specs.rows.Table.{Row}
use Rattle.julian.specs.shifts.Shifts.{plus, minus, converted}
use Rattle.julian.specs.shifts.SmallerPart.{first_is_larger, map_smaller_part}
use Rattle.julian.proofs.shifts.Outcomes.{first}
use Rattle.julian.proofs.shifts.SmallerPart.{map_is, map_as}
use Rattle.constants.specs.Constants.{mjd_zero_point, tcg_reference_epoch, tcg_rate_lg, tcg_rate_ratio}
use Rattle.scales.specs.Formulas.{gps_days, tt_days, since, tcg_to_tt, tt_to_tcg}
use Rattle.scales.specs.laws.Ranges.{Held}
use Rattle.scales.specs.Conversions.{answer_of}
use Rattle.julian.specs.declared.CalendarFields.{CalendarFields}
use Rattle.julian.specs.Calendar.{julian_to_calendar}
use Rattle.leap_table.specs.declared.offsets.DayOffsets.{DayOffsets}
use Rattle.utc_scales.specs.days.LargerPart.{kept_parts, beside_as, put_beside, placed, change_smaller}
use Rattle.utc_scales.specs.days.Dates.{offsets_of, midnight_of}
use Rattle.utc_scales.specs.UtcTai.{tai_from_midnight, tai_fraction, utc_to_tai, tai_to_utc}
use Rattle.utc_scales.specs.laws.Claims.{Holds, answers, refuses, Any, SixOrOne}
use Rattle.utc_scales.proofs.laws.Outcomes.{holds-onward, holds_more}
use Rattle.utc_scales.proofs.laws.Refusals.{parts-fit, utc-to-tai-refuses, tai-to-utc-refuses}
use Rattle.utc_scales.proofs.laws.NotFinite.{utc-to-tai-not-finite, tai-to-utc-not-finite}
use Rattle.julian.specs.stamp_lists.Stamps.{stamp_of}
use Rattle.floats.proofs.ExponentField.{field_not_finite}
use Rattle.runs.specs.ways.Ways.{is_run_scale, into_tai, out_of_tai, between, way_of}
use Rattle.runs.specs.laws.NotFiniteStamps.{StampNotFinite, number_of_not_finite, OneSixNine}
use Rattle.runs.specs.laws.Answered.{Five, utc, tai, tt', gps, tcg}
use Rattle.runs.proofs.laws.EachWay.{each_way}

-- ---- the five scales
pub five : (n : ℕ) → is_run_scale n ≡ true → Five n
unfolding is_run_scale
five n h = go (eqb n 0) (eqb n 1) (eqb n 3) (eqb n 4) (eqb n 5) refl refl refl refl refl h
  where
    is : (k : ℕ) → Five k → eqb n k ≡ true → Five n
    is k f e = subst Five (sym (eqb-true n k e)) f

    go : (a b c d e : Bool) → eqb n 0 ≡ a → eqb n 1 ≡ b → eqb n 3 ≡ c → eqb n 4 ≡ d → eqb n 5 ≡ e → (a || (b || (c || (d || e)))) ≡ true → Five n
    go true b c d e p q r s t z = is 0 utc p
    go false true c d e p q r s t z = is 1 tai q
    go false false true d e p q r s t z = is 3 tt' r
    go false false false true e p q r s t z = is 4 gps s
    go false false false false true p q r s t z = is 5 tcg t
    go false false false false false p q r s t z = absurd (true≢false (sym z))

-- ---- a date that is not finite
module _ (rows : List Row) (d : JulianDate) (h : finite_parts d ≡ false) where
  nine : (f : Float → Float → Float) → converted f d ≡ refusal 9
  nine f = first f d ∙ ap (λ (b : Bool). cond b (answer (map_smaller_part f d)) (refusal 9)) h

  same-nine : finite_jd d ≡ refusal 9
  unfolding finite_jd
  same-nine = rw h

  six : utc_to_tai rows d ≡ refusal 6
  six = utc-to-tai-not-finite rows d h

  pub not_finite_way : (from to : ℕ) → Five from → Five to → way_of rows from to d ≡ refusal (number_of_not_finite from to)
  unfolding number_of_not_finite answer_of
  not_finite_way from to utc utc = (each_way rows d).utc_utc ∙ same-nine
  not_finite_way from to utc tai = (each_way rows d).utc_tai ∙ six
  not_finite_way from to utc tt' = (each_way rows d).utc_tt ∙ stopped _ six
  not_finite_way from to utc gps = (each_way rows d).utc_gps ∙ stopped _ six
  not_finite_way from to utc tcg = (each_way rows d).utc_tcg ∙ stopped _ six
  not_finite_way from to tai utc = (each_way rows d).tai_utc ∙ tai-to-utc-not-finite rows d h
  not_finite_way from to tai tai = (each_way rows d).tai_tai ∙ same-nine
  not_finite_way from to tai tt' = (each_way rows d).tai_to_tt ∙ nine (plus tt_days)
  not_finite_way from to tai gps = (each_way rows d).tai_to_gps ∙ nine (minus gps_days)
  not_finite_way from to tai tcg = (each_way rows d).tai_to_tcg ∙ stopped _ (nine (plus tt_days))
  not_finite_way from to tt' utc = (each_way rows d).tt_utc ∙ stopped _ (nine (minus tt_days))
  not_finite_way from to tt' tai = (each_way rows d).tt_to_tai ∙ nine (minus tt_days)
  not_finite_way from to tt' tt' = (each_way rows d).tt_tt ∙ same-nine
  not_finite_way from to tt' gps = (each_way rows d).tt_gps ∙ stopped _ (nine (minus tt_days))
  not_finite_way from to tt' tcg = (each_way rows d).tt-to-tcg ∙ nine tt_to_tcg
  not_finite_way from to gps utc = (each_way rows d).gps_utc ∙ stopped _ (nine (plus gps_days))
  not_finite_way from to gps tai = (each_way rows d).gps_to_tai ∙ nine (plus gps_days)
  not_finite_way from to gps tt' = (each_way rows d).gps_tt ∙ stopped _ (nine (plus gps_days))
  not_finite_way from to gps gps = (each_way rows d).gps_gps ∙ same-nine
  not_finite_way from to gps tcg = (each_way rows d).gps_tcg ∙ stopped _ (nine (plus gps_days))
  not_finite_way from to tcg utc = (each_way rows d).tcg_utc ∙ stopped _ (stopped _ (nine tcg_to_tt))
  not_finite_way from to tcg tai = (each_way rows d).tcg_to_tai ∙ stopped _ (nine tcg_to_tt)
  not_finite_way from to tcg tt' = (each_way rows d).tcg-to-tt ∙ nine tcg_to_tt
  not_finite_way from to tcg gps = (each_way rows d).tcg_gps ∙ stopped _ (stopped _ (nine tcg_to_tt))
  not_finite_way from to tcg tcg = (each_way rows d).tcg_tcg ∙ same-nine

-- ---- a not-finite stamp
pub either : (a b : Bool) → (a ≡ false) ⊎ (b ≡ false) → (a && b) ≡ false
either true b (inl e) = absurd (true≢false e)
either true b (inr e) = e
either false b e = refl

pub pattern_not_finite : (js ks : List ℕ) (i : ℕ) → StampNotFinite js ks i → finite_parts (stamp_of js ks i) ≡ false
unfolding stamp_of
pattern_not_finite js ks i (inl e) =
    either (finite (of_bits binary64 (u64_at js (8 * i)))) (finite (of_bits binary64 (u64_at ks (8 * i)))) (inl (field_not_finite (u64_at js (8 * i)) e))
pattern_not_finite js ks i (inr e) =
    either (finite (of_bits binary64 (u64_at js (8 * i)))) (finite (of_bits binary64 (u64_at ks (8 * i)))) (inr (field_not_finite (u64_at ks (8 * i)) e))

-- ---- from a scale to the same, any other stamp passes
pub same-passes : (rows : List Row) (n : ℕ) (d : JulianDate) → finite_parts d ≡ true → way_of rows n n d ≡ answer d
unfolding way_of finite_jd
same-passes rows n d h = rw (eq-eqb n n refl, h)

-- ---- the numbers of refused stamps. A date that is handed on has parts that a float holds
six-or-one : (n : ℕ) → SixOrOne n → OneSixNine n
six-or-one n (inl e) = inr (inl e)
six-or-one n (inr e) = inl e

changed-held : (f : Float → Float → Float) → ((x y : Float) → T (fits binary64 (f x y))) → (d : JulianDate) → Held d → Held (map_smaller_part f d)
changed-held f n d g = subst Held (sym (map_is f d)) (go (first_is_larger d))
  where
    go : (b : Bool) → Held (map_as f d b)
    go true = (g.0, n d.jd1 d.jd2)
    go false = (n d.jd2 d.jd1, g.1)

plain : (f : Float → Float → Float) → ((x y : Float) → T (fits binary64 (f x y))) → (d : JulianDate) → Held d → Holds Held OneSixNine (converted f d)
plain f n d g = subst (Holds Held OneSixNine) (sym (first f d)) (go (finite_parts d))
  where
    go : (b : Bool) → Holds Held OneSixNine (cond b (answer (map_smaller_part f d)) (refusal 9))
    go true = answers (changed-held f n d g)
    go false = refuses (inr (inr refl))

later : (x : Float) (d : JulianDate) → Held d → Holds Held OneSixNine (converted (plus x) d)
unfolding plus
later x = plain (plus x) (λ a b. add-fits binary64 b x)

earlier : (x : Float) (d : JulianDate) → Held d → Holds Held OneSixNine (converted (minus x) d)
unfolding minus
earlier x = plain (minus x) (λ a b. sub-fits binary64 b x)

to-tt : (d : JulianDate) → Held d → Holds Held OneSixNine (converted tcg_to_tt d)
unfolding tcg_to_tt
to-tt = plain tcg_to_tt (λ a b. sub-fits binary64 b (mul binary64 (since mjd_zero_point tcg_reference_epoch a b) tcg_rate_lg))

to-tcg : (d : JulianDate) → Held d → Holds Held OneSixNine (converted tt_to_tcg d)
unfolding tt_to_tcg
to-tcg = plain tt_to_tcg (λ a b. add-fits binary64 b (mul binary64 (since mjd_zero_point tcg_reference_epoch a b) tcg_rate_ratio))

any : {o : Outcome JulianDate} → Holds Held OneSixNine o → Holds Any OneSixNine o
any = holds_more (λ x h. tt) (λ n r. r)

module _ (rows : List Row) where
  fraction-held : (x y z : Float) → tai_fraction rows x y ≡ answer z → T (fits binary64 z)
  unfolding tai_fraction tai_from_midnight
  fraction-held x y z e = by-date (came (julian_to_calendar x y) _ z e)
    where
      by-midnight : (c : CalendarFields) (o : DayOffsets) → (m : JulianDate) × (midnight_of c.date ≡ answer m)
          × (answer (tai_from_midnight x m o c.fraction) ≡ answer z) → T (fits binary64 z)
      by-midnight c o (m, p, q) =
          let r : tai_from_midnight x m o c.fraction ≡ z = cc q in
          subst (λ (v : Float). T (fits binary64 v)) r (add-fits binary64 _ _)

      by-offsets : (c : CalendarFields) → (o : DayOffsets) × (offsets_of rows c.date ≡ answer o)
          × (onward (midnight_of c.date) (λ m. answer (tai_from_midnight x m o c.fraction)) ≡ answer z) → T (fits binary64 z)
      by-offsets c (o, p, q) = by-midnight c o (came (midnight_of c.date) _ z q)

      by-date : (c : CalendarFields) × (julian_to_calendar x y ≡ answer c)
          × (onward (offsets_of rows c.date) (λ o. onward (midnight_of c.date) (λ m. answer (tai_from_midnight x m o c.fraction))) ≡ answer z)
          → T (fits binary64 z)
      by-date (c, p, q) = by-offsets c (came (offsets_of rows c.date) _ z q)

  pub beside-held : (d : JulianDate) → Held d → (z : Float) → T (fits binary64 z) → Held (put_beside (kept_parts d) z)
  unfolding put_beside
  beside-held d g z h = go (kept_parts d).first
    where
      go : (b : Bool) → Held (beside_as b (kept_parts d).larger z)
      go true = ((parts-fit d g).0, h)
      go false = (h, (parts-fit d g).0)

  utc-answer-held : (d u : JulianDate) → Held d → utc_to_tai rows d ≡ answer u → Held u
  unfolding utc_to_tai change_smaller placed
  utc-answer-held d u g e = go (came (tai_fraction rows (kept_parts d).larger (kept_parts d).smaller) (placed (kept_parts d)) u e)
    where
      go : (z : Float) × (tai_fraction rows (kept_parts d).larger (kept_parts d).smaller ≡ answer z) × (placed (kept_parts d) z ≡ answer u) → Held u
      go (z, p, q) =
          let r : put_beside (kept_parts d) z ≡ u = cc q in
          subst Held r (beside-held d g z (fraction-held (kept_parts d).larger (kept_parts d).smaller z p))

  utc-held : (d : JulianDate) → Held d → Holds Held OneSixNine (utc_to_tai rows d)
  utc-held d g = go (utc_to_tai rows d) refl (utc-to-tai-refuses rows d g)
    where
      go : (o : Outcome JulianDate) → utc_to_tai rows d ≡ o → Holds Any SixOrOne o → Holds Held OneSixNine o
      go (answer u) e h = answers (utc-answer-held d u g e)
      go (refusal n) e (refuses r) = refuses (six-or-one n r)

  to-utc : (d : JulianDate) → Held d → Holds Any OneSixNine (tai_to_utc rows d)
  to-utc d g = holds_more (λ x h. h) six-or-one (tai-to-utc-refuses rows d g)

  -- into TAI, and out of it
  into : (from : ℕ) → Five from → (d : JulianDate) → Held d → Holds Held OneSixNine (into_tai rows from d)
  unfolding into_tai answer_of
  into from utc d g = utc-held d g
  into from tai d g = answers g
  into from tt' d g = earlier tt_days d g
  into from gps d g = later gps_days d g
  into from tcg d g = holds-onward (converted (minus tt_days)) (to-tt d g) (earlier tt_days)

  out : (to : ℕ) → Five to → (d : JulianDate) → Held d → Holds Any OneSixNine (out_of_tai rows to d)
  unfolding out_of_tai answer_of
  out to utc d g = to-utc d g
  out to tai d g = answers tt
  out to tt' d g = any (later tt_days d g)
  out to gps d g = any (earlier gps_days d g)
  out to tcg d g = holds-onward (converted tt_to_tcg) (later tt_days d g) (λ x h. any (to-tcg x h))

  pub way_refusals : (from to : ℕ) → is_run_scale from ≡ true → is_run_scale to ≡ true → (d : JulianDate) → Held d → Holds Any OneSixNine
      (way_of rows from to d)
  unfolding way_of between answer_of finite_jd
  way_refusals from to a b d g = same (eqb from to) (eqb from 3 && eqb to 5) (eqb from 5 && eqb to 3)
    where
      through : Holds Any OneSixNine (onward (into_tai rows from d) (out_of_tai rows to))
      through = holds-onward (out_of_tai rows to) (into from (five from a) d g) (out to (five to b))

      judged : (p : Bool) → Holds Any OneSixNine (cond p (answer d) (refusal 9))
      judged true = answers tt
      judged false = refuses (inr (inr refl))

      same : (p q r : Bool) → Holds Any OneSixNine
          (cond p (cond (finite_parts d) (answer d) (refusal 9))
          (cond q (converted tt_to_tcg d) (cond r (converted tcg_to_tt d) (onward (into_tai rows from d) (out_of_tai rows to)))))
      same true q r = judged (finite_parts d)
      same false true r = any (to-tcg d g)
      same false false true = any (to-tt d g)
      same false false false = through

-- a stamp's parts are read from eight bytes, so a float holds them
pub stamp-held : (js ks : List ℕ) (i : ℕ) → Held (stamp_of js ks i)
unfolding stamp_of
stamp-held js ks i = (of_bits-fits binary64 (u64_at js (8 * i)), of_bits-fits binary64 (u64_at ks (8 * i)))
