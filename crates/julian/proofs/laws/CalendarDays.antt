-- What `julian_to_calendar` answers: on the grid the date of the exact day and the exact fraction, the same for every division of one date; off it within 2^-51
-- day; a part that is not finite is 6, and there is no other refusal. Assumes nothing.
use mathlib.Core.Path.{◌≡◌, refl, sym, ap, ◌∙◌, subst}
use Prim.Native.Nat.{ℕ, ◌+◌, ◌≤◌}
use native.Mathlib.Omega.{arith}
use mathlib.Core.Bool.{Bool, true, false}
use mathlib.Core.Logic.{◌⊎◌, inl, inr}
use lib.Dec.{T}
use lib.IntN.{ℤ, pos, negsuc, ◌+ℤ◌, ◌-ℤ◌}
use lib.Signed.{lt_z}
use lib.Ieee.{Float, binary64, fits}
use borrow.Author.Tests.{le-ltb, ltb-true, ltb-false}
use Rattle.refusals.specs.Outcome.{Outcome, answer, refusal, onward}
use Rattle.refusals.proofs.Onward.{stopped}
use Rattle.rounding.specs.Value.{Val, Under52, L, InUnit}
use Rattle.rounding.proofs.Casts.{plus_z, minus_z, one_side, add_pair, sub_pair}
use Rattle.rounding.proofs.Value.{val-move}
use Rattle.rounding.proofs.Sizes.{under-size}
use Rattle.calendar.specs.declared.CalendarDate.{CalendarDate}
use Rattle.calendar.specs.Calendar.{date_of}
use Rattle.calendar.specs.Gregorian.{gregorian_date}
use Rattle.calendar.proofs.Gregorian.{gregorian_is_date_of_day}
use Rattle.julian.specs.declared.day_number.DayNumber.{DayNumber}
use Rattle.julian.specs.day_number.DayNumber.{accepted, day_of}
use Rattle.julian.specs.day_number.Answer.{day_number_and_fraction}
use Rattle.julian.specs.day_number.ExactDay.{OnGrid, grid_sum, GridSumInRange, exact_day, exact_fraction, exact_day_number, fraction_of, DayAt}
use Rattle.julian.specs.day_number.NearDay.{DayNear}
use Rattle.julian.specs.day_number.Ranges.{InDays}
use Rattle.julian.proofs.day_number.Answer.{answered, refused}
use Rattle.julian.proofs.day_number.Ranges.{day-range, fraction-range}
use Rattle.julian.proofs.day_number.ExactDay.{exact-day, exact, alike}
use Rattle.julian.proofs.day_number.OffGrid.{day-near}
use Rattle.julian.proofs.day_number.NotFinite.{not_finite}
use Rattle.julian.specs.declared.JulianDate.{JulianDate}
use Rattle.julian.specs.Worth.{SmallParts}
use Rattle.julian.specs.declared.CalendarFields.{CalendarFields}
use Rattle.julian.specs.Calendar.{fields, julian_to_calendar}
use Rattle.julian.specs.laws.CalendarAnswers.{FieldsInRange, DateOfDay, by_calendar, before_first, NearDate, DayPlusFraction}
use Rattle.julian.specs.laws.Calls.{CalendarRefuses}

-- ---- the fields of an answered day, and back

pub fields-of : (x y : Float) (d : DayNumber) → day_number_and_fraction x y ≡ answer d
    → julian_to_calendar x y ≡ answer (fields (gregorian_date d.day) d.fraction)
unfolding julian_to_calendar onward
fields-of x y d e = rw e

record DayOf (x y : Float) (f : CalendarFields) : Type 0 where
  day : DayNumber
  given : day_number_and_fraction x y ≡ answer day
  date : f.date ≡ gregorian_date day.day
  fraction : f.fraction ≡ day.fraction

day-of : (x y : Float) (f : CalendarFields) → julian_to_calendar x y ≡ answer f → DayOf x y f
unfolding julian_to_calendar onward
day-of x y f e = go (day_number_and_fraction x y) refl e
  where
    go : (o : Outcome DayNumber) → day_number_and_fraction x y ≡ o → onward o (λ n. answer (fields (gregorian_date n.day) n.fraction)) ≡ answer f
        → DayOf x y f
    go (answer d) h k =
        let s : fields (gregorian_date d.day) d.fraction ≡ f = cc in
        record { day = d; given = h; date = sym (ap (λ (z : CalendarFields). z.date) s); fraction = sym (ap (λ (z : CalendarFields). z.fraction) s) }
    go (refusal n) h k = let z : ◌≡◌ {A = ℕ} 0 1 = cc in absurd (omega arith)

-- ---- document 01: "`julian_to_calendar` gives only 6"

-- A PART THAT IS NOT FINITE is 6
pub calendar-not-finite : (x y : Float) → CalendarRefuses x y
unfolding julian_to_calendar
calendar-not-finite x y h = stopped _ (not_finite x y h)

pub only-six : (x y : Float) (n : ℕ) → julian_to_calendar x y ≡ refusal n → n ≡ 6
unfolding julian_to_calendar onward
only-six x y n e = go (accepted x y) refl
  where
    go : (b : Bool) → accepted x y ≡ b → n ≡ 6
    go true h = let z : ◌≡◌ {A = ℕ} 0 1 = cc (fields-of x y (day_of x y) (answered x y h)) in absurd (omega arith)
    go false h = let k : refusal n ≡ refusal 6 = sym e ∙ rw (refused x y h) in cc

-- ---- on the grid

-- the exact day of a sum from -68569.5 to 10^9
module _ (sum : ℤ) (r : GridSumInRange sum) where
  pub day-low : minus_z (exact_day sum) ≤ 68569
  day-low = go (one_side (exact_day sum))
    where
      d : DayAt sum (exact_day sum) (exact_fraction sum)
      d = exact-day sum

      go : (plus_z (exact_day sum) ≡ 0) ⊎ (minus_z (exact_day sum) ≡ 0) → minus_z (exact_day sum) ≤ 68569
      go (inl h) = omega (arith, r.low, d.total, d.below)
      go (inr h) = omega arith

  pub day-high : plus_z (exact_day sum) ≤ 1000000000
  day-high = go (one_side (exact_day sum))
    where
      d : DayAt sum (exact_day sum) (exact_fraction sum)
      d = exact-day sum

      go : (plus_z (exact_day sum) ≡ 0) ⊎ (minus_z (exact_day sum) ≡ 0) → plus_z (exact_day sum) ≤ 1000000000
      go (inl h) = omega arith
      go (inr h) = omega (arith, r.high, d.total, d.below)

not_below : (z : ℤ) → minus_z z ≤ 68569 → lt_z z (negsuc 68568) ≡ false
not_below (pos n) h = refl
not_below (negsuc n) h = le-ltb 68568 n (omega arith)

pub not_above : (z : ℤ) → plus_z z ≤ 1000000000 → lt_z (pos 1000000000) z ≡ false
not_above (pos n) h = le-ltb 1000000000 n h
not_above (negsuc n) h = refl

-- DEMAND 3: two parts on the grid, their exact sum from -68569.5 to 10^9, give the date of the exact day, and the exact fraction
pub exact-date : (x y : Float) → T (fits binary64 x) → T (fits binary64 y) → (a : OnGrid x) (b : OnGrid y) → GridSumInRange (grid_sum a b)
    → julian_to_calendar x y ≡ answer (fields (date_of (exact_day (grid_sum a b))) (fraction_of (exact_fraction (grid_sum a b))))
exact-date x y fx fy a b r =
    let s = grid_sum a b in
    fields-of x y (exact_day_number s) (exact x y fx fy a b r)
    ∙ ap (λ (t : CalendarDate). answer (fields t (fraction_of (exact_fraction s))))
    (gregorian_is_date_of_day (exact_day s) (not_below (exact_day s) (day-low s r)) (not_above (exact_day s) (day-high s r)))

-- all divisions of one date on the grid have one outcome, bit for bit, also where it is refused
pub one-outcome : (x y x' y' : Float) → T (fits binary64 x) → T (fits binary64 y) → T (fits binary64 x') → T (fits binary64 y')
    → (a : OnGrid x) (b : OnGrid y) (a' : OnGrid x') (b' : OnGrid y')
    → grid_sum a b ≡ grid_sum a' b' → julian_to_calendar x y ≡ julian_to_calendar x' y'
unfolding julian_to_calendar
one-outcome x y x' y' fx fy fx' fy' a b a' b' e =
    ap (λ (o : Outcome DayNumber). onward o (λ n. answer (fields (gregorian_date n.day) n.fraction))) (alike x y x' y' fx fy fx' fy' a b a' b' e)

-- ---- every answer, and how near it is off the grid

pub answered-in-range : (x y : Float) → T (fits binary64 x) → T (fits binary64 y) → (f : CalendarFields) → julian_to_calendar x y ≡ answer f → FieldsInRange f
answered-in-range x y fx fy f e =
    let d = day-of x y f e in
    record {
      day = d.day.day;
      in-days = day-range x y fx fy d.day d.given;
      date = d.date;
      fraction =
          subst InUnit (sym d.fraction) (fraction-range x y fx fy d.day d.given);
    }

lowest_named : DateOfDay (gregorian_date (negsuc 68569)) (negsuc 68569)
unfolding gregorian_date
lowest_named = before_first refl

-- a date of the code is that of its day, in the range of answered days
named : (z : ℤ) → InDays z → DateOfDay (gregorian_date z) z
named z r = go (lt_z z (negsuc 68568)) refl
  where
    go : (b : Bool) → lt_z z (negsuc 68568) ≡ b → DateOfDay (gregorian_date z) z
    go false e = by_calendar (above z e) (gregorian_is_date_of_day z e (not_above z r.top))
      where
        above : (z : ℤ) → lt_z z (negsuc 68568) ≡ false → minus_z z ≤ 68569
        above (pos n) e = omega arith
        above (negsuc n) e = omega (arith, ltb-false 68568 n e)
    go true e = subst (λ (y : ℤ). DateOfDay (gregorian_date y) y) (sym (lowest z r e)) lowest_named
      where
        lowest : (z : ℤ) → InDays z → lt_z z (negsuc 68568) ≡ true → z ≡ negsuc 68569
        lowest (pos n) r e = let k : ◌≡◌ {A = Bool} false true = e in let w : ◌≡◌ {A = ℕ} 0 1 = cc in absurd (omega arith)
        lowest (negsuc n) r e = ap negsuc (omega (arith, ltb-true 68568 n e, r.bottom))

pub near-date : (x y : Float) → Under52 x → Under52 y → (i j : ℤ) → Val x (plus_z i) (minus_z i) L → Val y (plus_z j) (minus_z j) L → (f : CalendarFields)
    → julian_to_calendar x y ≡ answer f → NearDate (i +ℤ j) f
near-date x y a b i j v w f e =
    let d = day-of x y f e in
    record {
      day = d.day.day;
      date = subst (λ (t : CalendarDate). DateOfDay t d.day.day) (sym d.date)
          (named d.day.day (day-range x y a.held b.held d.day d.given));
      near = subst (DayNear (i +ℤ j) d.day.day) (sym d.fraction) (day-near x y a b i j v w d.day d.given);
    }

-- REQUEST 14, its second half: of a date with parts under 2^52 that is answered, day and fraction are within 2^-51 day of the exact sum plus one half
pub day-plus-fraction : (d : JulianDate) → SmallParts d → (f : CalendarFields) → julian_to_calendar d.jd1 d.jd2 ≡ answer f → DayPlusFraction d f
day-plus-fraction d s f e =
    let a = under-size d.jd1 52 s.first.held s.first.small in
    let b = under-size d.jd2 52 s.second.held s.second.small in
    let i = pos a.p -ℤ pos a.n in
    let j = pos b.p -ℤ pos b.n in
    let v = val-move a.val (same a.p a.n (plus_z i) (minus_z i) (sub_pair (pos a.p) (pos a.n))) in
    let w = val-move b.val (same b.p b.n (plus_z j) (minus_z j) (sub_pair (pos b.p) (pos b.n))) in
    record {
      sum = i +ℤ j;
      worth = record {
        p = plus_z i;
        n = minus_z i;
        q = plus_z j;
        m = minus_z j;
        first = v;
        second = w;
        total =
            total (plus_z i) (minus_z i) (plus_z j) (minus_z j) (plus_z (i +ℤ j)) (minus_z (i +ℤ j)) (add_pair i j);
      };
      near = near-date d.jd1 d.jd2 s.first s.second i j v w f e;
    }
  where
    same : (p n x y : ℕ) → x + (0 + n) ≡ y + (p + 0) → p + y ≡ x + n
    same p n x y k = omega arith

    total : (p n q m x y : ℕ) → x + (n + m) ≡ y + (p + q) → p + q + y ≡ x + (n + m)
    total p n q m x y k = omega arith
