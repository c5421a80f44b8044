-- WHICH REFUSALS OCCUR, for any rows and all floats: 2, 3 and 5 never do. UTC to TAI is 6 exactly where the rounded sum is not in the range, 1 exactly where it
-- is and the year is before -4799, and else a date; TAI to UTC has no other refusal; UTC to UT1 and UT1 to UTC have 10 and 9 besides. Assumes nothing.
use mathlib.Core.Path.{◌≡◌, refl, sym, ◌∙◌, subst}
use mathlib.Core.Bool.{Bool, true, false, cond}
use mathlib.Core.List.{List}
use mathlib.Core.Logic.{inl, inr}
use Prim.Native.Nat.{ℕ, zero, suc, ◌+◌}
use lib.Dec.{T}
use lib.IntN.{pos, negsuc}
use lib.Ieee.{Float, binary64, fits, of_int, add, sub, lt}
use lib.Ieee.Fits.{add-fits}
use lib.Ieee.Scale.{finite}
use Rattle.refusals.specs.Outcome.{Outcome, answer, refusal, onward}
use Rattle.floats.specs.Whole.{abs, half}
use Rattle.julian.specs.day_number.DayNumber.{accepted, day_of}
use Rattle.julian.specs.declared.JulianDate.{JulianDate}
use Rattle.julian.specs.JulianDate.{julian}
use Rattle.julian.specs.Finite.{finite_parts, finite_jd, finite_arg}
use Rattle.leap_table.specs.rows.Table.{Row}
use Rattle.scales.specs.Conversions.{answer_of, tai-ut1}
use Rattle.scales.specs.laws.Ranges.{Held}
use Rattle.refusals.proofs.Onward.{went, stopped}
use Rattle.julian.proofs.shifts.Outcomes.{first_by}
use Rattle.utc_scales.specs.days.LargerPart.{first_is_kept, kept_as, kept_parts, placed, change_smaller}
use Rattle.utc_scales.specs.days.Dates.{offset_of_date, offset_at0h}
use Rattle.utc_scales.specs.UtcTai.{tai_fraction, utc_to_tai, moved, refined, rounds, refine_utc_fraction, tai_to_utc}
use Rattle.utc_scales.specs.to_ut1.UtcUt1.{utc_to_ut1}
use Rattle.utc_scales.specs.from_ut1.Ut1Utc.{Scanned, noStep, step, scan_day, until_step, scan, adjust_dut1, utc_fraction, ut1_to_utc}
use Rattle.utc_scales.specs.laws.Claims as C
use Rattle.utc_scales.specs.laws.Claims.{Holds, answers, refuses, Any, SixOrOne, TenNineSixOrOne, Fits}
use Rattle.utc_scales.proofs.days.Midnights.{offset-early, offsets-early}
use Rattle.utc_scales.proofs.Steps.{tai-no-date, tai-no-offsets, tai-of-day}
use Rattle.utc_scales.proofs.days.Steps.{offset-no-date, offset-of-day}
use Rattle.utc_scales.proofs.from_ut1.Steps.{scan-no-date, scan-no-offset, scan-no-step, scan_step}
use Rattle.utc_scales.proofs.laws.Outcomes.{holds-answer, holds-refusal, holds-onward, holds_more}
use Rattle.utc_scales.proofs.laws.Decided.{by-six, by_one, by-date}
use Rattle.utc_scales.proofs.laws.Days.{early, date_in, Kind, outside, before, valid, kind, offset-answered, offsets-answered}
use Rattle.julian.specs.shifts.Shifts.{plus}

-- ---- the smaller part in TAI
module _ (rows : List Row) (x y : Float) where
  data Tai : Type 0 where
    outside-tai : accepted x y ≡ false → tai_fraction rows x y ≡ refusal 6 → Tai
    early-tai : accepted x y ≡ true → early (date_in x y) ≡ true → tai_fraction rows x y ≡ refusal 1 → Tai
    given-tai : accepted x y ≡ true → early (date_in x y) ≡ false → (f : Float) → tai_fraction rows x y ≡ answer f → Tai

  tai : T (fits binary64 x) → T (fits binary64 y) → Tai
  tai f g = go (kind x y f g)
    where
      go : Kind x y → Tai
      go (outside a e) = outside-tai a (tai-no-date x y 6 e rows)
      go (before a e b v) = early-tai a b (tai-no-offsets rows x y (day_of x y) e 1 (offsets-early rows (day_of x y).day v))
      go (valid a e b v r) = let o = offsets-answered rows (day_of x y).day v in given-tai a b _ (tai-of-day rows x y (day_of x y) e r o.0 o.1)

tai-fraction-refuses : (rows : List Row) (x y : Float) → T (fits binary64 x) → T (fits binary64 y) → Holds Any SixOrOne (tai_fraction rows x y)
tai-fraction-refuses rows x y f g = go (tai rows x y f g)
  where
    go : Tai rows x y → Holds Any SixOrOne (tai_fraction rows x y)
    go (outside-tai a e) = holds-refusal 6 e (inl refl)
    go (early-tai a b e) = holds-refusal 1 e (inr refl)
    go (given-tai a b z e) = holds-answer z e tt

-- ---- the parts
pub parts-fit : (d : JulianDate) → Held d → T (fits binary64 (kept_parts d).larger) × T (fits binary64 (kept_parts d).smaller)
unfolding kept_parts
parts-fit d h = go (first_is_kept d)
  where
    go : (b : Bool) → T (fits binary64 (kept_as d b).larger) × T (fits binary64 (kept_as d b).smaller)
    go true = h
    go false = (h.1, h.0)

placed-any : {R : ℕ → Type 0} (d : JulianDate) (o : Outcome Float) → Holds Any R o → Holds Any R (onward o (placed (kept_parts d)))
unfolding placed
placed-any d o h = holds-onward (placed (kept_parts d)) h (λ x _. answers tt)

-- ---- UTC to TAI
pub utc-to-tai-decided : (rows : List Row) (d : JulianDate) → Held d
    → C.DecidedDay (accepted (kept_parts d).larger (kept_parts d).smaller) (C.early_day (kept_parts d).larger (kept_parts d).smaller) (utc_to_tai rows d)
unfolding utc_to_tai change_smaller placed
utc-to-tai-decided rows d h = let p = parts-fit d h in go (tai rows (kept_parts d).larger (kept_parts d).smaller p.0 p.1)
  where
    go : Tai rows (kept_parts d).larger (kept_parts d).smaller
        → C.DecidedDay (accepted (kept_parts d).larger (kept_parts d).smaller) (C.early_day (kept_parts d).larger (kept_parts d).smaller) (utc_to_tai rows d)
    go (outside-tai p e) = by-six _ _ p (stopped _ e)
    go (early-tai p q e) = by_one _ _ p q (stopped _ e)
    go (given-tai p q f e) = by-date _ _ p q _ (went _ e)

pub utc-to-tai-refuses : (rows : List Row) (d : JulianDate) → Held d → Holds Any SixOrOne (utc_to_tai rows d)
unfolding utc_to_tai change_smaller
utc-to-tai-refuses rows d h = let p = parts-fit d h in placed-any d _ (tai-fraction-refuses rows (kept_parts d).larger (kept_parts d).smaller p.0 p.1)

-- ---- TAI to UTC
refined-refuses : (rows : List Row) (big small guess : Float) → Fits big → Fits guess → Holds Fits SixOrOne (refined rows big small guess)
unfolding refined moved
refined-refuses rows big small guess f g = holds-onward _ (utc-to-tai-refuses rows (julian big guess) (f, g)) (λ t _. answers (add-fits binary64 _ _))

rounds-refuses : (rows : List Row) (big small : Float) → Fits big → (k : ℕ) (guess : Float) → Fits guess → Holds Fits SixOrOne (rounds rows big small k guess)
unfolding rounds
rounds-refuses rows big small f zero guess g = answers g
rounds-refuses rows big small f (suc k) guess g = holds-onward _ (refined-refuses rows big small guess f g) (λ x h. rounds-refuses rows big small f k x h)

pub tai-to-utc-refuses : (rows : List Row) (d : JulianDate) → Held d → Holds Any SixOrOne (tai_to_utc rows d)
unfolding tai_to_utc change_smaller refine_utc_fraction
tai-to-utc-refuses rows d h =
    let p = parts-fit d h in
    placed-any d _ (holds_more (λ x _. tt) (λ n r. r) (rounds-refuses rows (kept_parts d).larger (kept_parts d).smaller p.0 3 (kept_parts d).smaller p.1))

-- ---- UT1 to UTC
offset-refuses : (rows : List Row) (x y : Float) → Fits x → Fits y → Holds Any SixOrOne (offset_of_date rows x y)
offset-refuses rows x y f g = go (kind x y f g)
  where
    go : Kind x y → Holds Any SixOrOne (offset_of_date rows x y)
    go (outside a e) = holds-refusal 6 (offset-no-date x y 6 e rows) (inl refl)
    go (before a e b v) = holds-refusal 1 (offset-of-day rows x y (day_of x y) e ∙ offset-early rows (day_of x y).day v) (inr refl)
    go (valid a e b v r) = let o = offset-answered rows (day_of x y).day v in holds-answer o.0 (offset-of-day rows x y (day_of x y) e ∙ o.1) tt

module _ (rows : List Row) (big small dut1 : Float) (f : Fits big) where
  scan-day-refuses : (i earlier : Float) → Holds Any SixOrOne (scan_day rows big small dut1 i earlier)
  scan-day-refuses i earlier = go (kind big (add binary64 small i) f (add-fits binary64 small i))
    where
      go : Kind big (add binary64 small i) → Holds Any SixOrOne (scan_day rows big small dut1 i earlier)
      go (outside a e) = holds-refusal 6 (scan-no-date rows big small dut1 i earlier 6 e) (inl refl)
      go (before a e b v) = holds-refusal 1 (scan-no-offset rows big small dut1 i earlier _ e 1 (offset-early rows _ v)) (inr refl)
      go (valid a e b v r) = let o = offset-answered rows _ v in at o.0 o.1 (lt (abs (sub binary64 o.0 earlier)) half) refl
        where
          at : (x : Float) → offset_at0h rows (date_in big (add binary64 small i)) ≡ answer x → (s : Bool) → lt (abs (sub binary64 x earlier)) half ≡ s
              → Holds Any SixOrOne (scan_day rows big small dut1 i earlier)
          at x p true h = holds-answer _ (scan-no-step rows big small dut1 i earlier _ e x p h) tt
          at x p false h = holds-answer _ (scan_step rows big small dut1 i earlier _ e x p r h) tt

  until-refuses : (next : Float → Outcome Float) → ((x : Float) → Holds Any SixOrOne (next x)) → (s : Scanned) → Holds Any SixOrOne (until_step next s)
  unfolding until_step
  until-refuses next h (noStep x) = h x
  until-refuses next h (step x) = answers tt

  scan-refuses : (k i : ℕ) (earlier : Float) → Holds Any SixOrOne (scan rows big small dut1 k i earlier)
  unfolding scan
  scan-refuses zero i earlier = answers tt
  scan-refuses (suc k) i earlier = holds-onward _ (scan-day-refuses (of_int binary64 (pos i)) earlier)
      (λ s _. until-refuses _ (λ x. scan-refuses k (i + 1) x) s)

  fraction-refuses : Holds Any SixOrOne (utc_fraction rows dut1 big small)
  unfolding utc_fraction adjust_dut1
  fraction-refuses = holds-onward _
      (holds-onward _ (offset-refuses rows big (add binary64 small (of_int binary64 (negsuc 0))) f (add-fits binary64 small _)) (λ x _. scan-refuses 4 0 x))
      (λ x _. answers tt)

wider : (n : ℕ) → SixOrOne n → TenNineSixOrOne n
wider n h = inr (inr h)

-- a finite offset, and a date of finite parts, or 10 and 9
dut1-refuses : (x : Float) → Holds Any TenNineSixOrOne (finite_arg x)
unfolding finite_arg
dut1-refuses x = go (finite x)
  where
    go : (b : Bool) → Holds Any TenNineSixOrOne (cond b (answer x) (refusal 10))
    go true = answers tt
    go false = refuses (inl refl)

date-refuses : (d : JulianDate) → Held d → Holds Held TenNineSixOrOne (finite_jd d)
unfolding finite_jd
date-refuses d h = go (finite_parts d)
  where
    go : (b : Bool) → Holds Held TenNineSixOrOne (cond b (answer d) (refusal 9))
    go true = answers h
    go false = refuses (inr (inl refl))

pub ut1-to-utc-refuses : (rows : List Row) (d : JulianDate) (dut1 : Float) → Held d → Holds Any TenNineSixOrOne (ut1_to_utc rows d dut1)
unfolding ut1_to_utc change_smaller
ut1-to-utc-refuses rows d dut1 h =
    holds-onward _ (dut1-refuses dut1) (λ _ _. holds-onward _ (date-refuses d h) (λ e g.
    placed-any e _ (holds_more (λ x u. u) wider (fraction-refuses rows (kept_parts e).larger (kept_parts e).smaller dut1 (parts-fit e g).0))))

-- ---- UTC to UT1
later-refuses : (d : JulianDate) (seconds : Float) → Holds Any TenNineSixOrOne (answer_of (tai-ut1 seconds) d)
unfolding answer_of
later-refuses d seconds = subst (λ (o : Outcome JulianDate). Holds Any TenNineSixOrOne o) (sym (first_by plus seconds d))
    (go (finite_parts d) (finite seconds) _)
  where
    go : (a b : Bool) (u : JulianDate) → Holds Any TenNineSixOrOne (cond a (cond b (answer u) (refusal 10)) (refusal 9))
    go true true u = answers tt
    go true false u = refuses (inl refl)
    go false b u = refuses (inr (inl refl))

pub utc-to-ut1-refuses : (rows : List Row) (d : JulianDate) (dut1 : Float) → Held d → Holds Any TenNineSixOrOne (utc_to_ut1 rows d dut1)
unfolding utc_to_ut1
utc-to-ut1-refuses rows d dut1 h =
    holds-onward _ (dut1-refuses dut1) (λ _ _. holds-onward _ (holds_more (λ x u. u) wider (utc-to-tai-refuses rows d h)) (λ t _.
    holds-onward _ (holds_more (λ x u. u) wider (offset-refuses rows d.jd1 d.jd2 h.0 h.1)) (λ x _. later-refuses t (sub binary64 dut1 x))))
