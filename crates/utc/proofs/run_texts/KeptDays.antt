-- A text by the day that is kept is the single call's. Assumes nothing.
use Prim.Native.Nat.{ℕ, ◌+◌, ◌*◌, ◌/◌, ◌%◌, ◌<◌, ◌≤◌}
use native.Mathlib.Omega.{arith}
use mathlib.Core.Path.{◌≡◌, refl, sym, ap, subst, ◌∙◌}
use mathlib.Core.Bool.{Bool, true, false, not, cond, false≢true}
use mathlib.Core.List.{List, [], ◌∷◌, ◌++◌}
use lib.Dec.{T, ltb}
use lib.IntN.{ℤ, pos, negsuc, nat_abs}
use lib.Signed.{non_neg}
use mir.Syntax.{w32, w64}
use mir.Val.{SFits, to_z, of_z}
use mir.ValLaws.{to_z-of_z}
use lib.ListN.{length, take, drop}
use lib.Seq.{take-length}
use lib.Ieee.{Float, nan, inf, fin, binary64, of_bits, fits, add, sub, le, lt, eq, to_signed}
use lib.Ieee.Bits.{is_true}
use lib.Ieee.Scale.{finite}
use borrow.Author.Tests.{lt-ltb, le-leb, ltb-true}
use Rattle.refusals.specs.Outcome.{Outcome, answer, refusal}
use Rattle.refusals.proofs.Onward.{went, came}
use Rattle.floats.specs.Whole.{nought, one, nearest_int}
use Rattle.floats.specs.declared.NearestWhole.{NearestWhole}
use Rattle.floats.specs.NearestWhole.{nearest_whole}
use Rattle.rounding.specs.Value.{Val, L}
use Rattle.rounding.proofs.Value.{L-pos}
use Rattle.rounding.proofs.Own.{own, own_val}
use Rattle.rounding.proofs.Compare.{lt_true, le_true, le_show}
use Rattle.calendar.specs.declared.CalendarDate.{CalendarDate}
use Rattle.calendar.specs.Gregorian.{gregorian_date}
use Rattle.julian.specs.declared.JulianDate.{JulianDate}
use Rattle.julian.specs.Calendar.{julian_to_calendar, fields}
use Rattle.julian.specs.day_number.DayNumber.{c_djmax, accepted}
use Rattle.julian.specs.day_number.Midnights.{day_from, Midnight}
use Rattle.julian.proofs.day_number.Units.{E, E-L, E_pos, one-L, nought-L, max_L}
use Rattle.julian.proofs.day_number.JulianRange.{accepts}
use Rattle.julian.proofs.day_number.PartsOfDay.{part-of-day, day-in-days, same_float}
use Rattle.julian.proofs.day_number.Ranges.{day-read}
use Rattle.julian.specs.day_number.Ranges.{InDays}
use Rattle.leap_table.specs.rows.Table.{Row}
use Rattle.leap_table.specs.offsets.Leap.{leap_at_end_of_day}
use Rattle.time_of_day.specs.declared.TimeOfDay.{TimeOfDay}
use Rattle.time_of_day.specs.TimeShown.{time_of, shown_by}
use Rattle.time_of_day.proofs.ByCount.{at-time}
use Rattle.utc.specs.declared.iso_texts.NamedForm.{NamedForm}
use Rattle.utc.specs.declared.iso_texts.NamedForm.TheVariants.{Standard, HalfEven, Expanded}
use Rattle.utc.specs.declared.run_texts.kept_day.KeptDay.{KeptDay}
use Rattle.utc.specs.text.Text.{last, four, five, six, seven, after_year, year_text, utc_text}
use Rattle.utc.specs.text.Expanded.{expanded_year, expanded_text}
use Rattle.utc.specs.text.Answer.{buffer_after}
use Rattle.utc.specs.iso_texts.IsoText.{shown_text_by, day_text_by, iso_text_by}
use Rattle.utc.specs.iso_texts.TextCall.{buffer_holds}
use Rattle.utc.specs.declared.iso_texts.TextDay.{TextDay}
use Rattle.utc.specs.iso_texts.TextDay.{day_with_leap}
use Rattle.utc.specs.text.Layout.{basic_year}
use Rattle.utc.specs.iso_texts.Named.{form_named}
use Rattle.utc.specs.run_texts.RunTexts.{length_byte, refusal_byte}
use Rattle.utc.specs.run_texts.Asked.{TextBeside}
use Rattle.utc.specs.run_texts.Kept.{date_characters, time_characters, eleven, last_midnight, DayKept, ServedDay, RightKept, ShortPut, PutsTime, PutsByDay}

-- ---- a day that ends at 0 serves no stamp
pub no_end : (n : ℕ) → n ≡ 0 → 0 < n → ⊥
no_end n e l = omega arith

-- ---- the text in two pieces
pub pieces : (y : ℕ) (d : CalendarDate) (t : TimeOfDay) → four y ++ after_year d t ≡ date_characters y d.month d.day ++ time_characters t
pieces y d t = refl

module _ (y : ℕ) (basic : y < 10000) (d : CalendarDate) (e : d.year ≡ pos y) (t : TimeOfDay) where
  plain-year : utc_text d t ≡ date_characters y d.month d.day ++ time_characters t
  unfolding utc_text year_text
  plain-year = ap (λ (z : ℤ). year_text z ++ after_year d t) e
      ∙ ap (λ (b : Bool). cond b (four y) (cond (ltb y 100000) (five y) (cond (ltb y 1000000) (six y) (seven y))) ++ after_year d t) (lt-ltb y 10000 basic)

  expanded-year : expanded_text d t ≡ date_characters y d.month d.day ++ time_characters t
  unfolding expanded_text expanded_year
  expanded-year = ap (λ (z : ℤ). expanded_year z ++ after_year d t) e
      ∙ ap (λ (b : Bool). cond b (four y) (43 ∷ seven y) ++ after_year d t) (lt-ltb y 10000 basic)

  written : (textForm : NamedForm) → (form_named textForm).write d t ≡ date_characters y d.month d.day ++ time_characters t
  unfolding form_named
  written Standard = plain-year
  written HalfEven = plain-year
  written Expanded = expanded-year

-- ---- the characters of a time
digit : (n : ℕ) → n < 10 → 48 + n ≡ last n
digit n h = omega arith

module _ (m r : ℕ) (hm : m ≤ 1439) (hr : r < 61000) where
  pub time-written : ◌≡◌ {A = List ℕ}
      ((48 + m / 60 / 10) ∷ (48 + m / 60 % 10) ∷ 58 ∷ (48 + m % 60 / 10) ∷ (48 + m % 60 % 10) ∷ 58 ∷ (48 + r / 1000 / 10) ∷ (48 + r / 1000 % 10) ∷ 46
      ∷ (48 + r % 1000 / 100) ∷ (48 + r % 1000 / 10 % 10) ∷ (48 + r % 1000 % 10) ∷ [])
      (time_characters (record { hour = m / 60; minute = m % 60; second = r / 1000; milli = r % 1000 }))
  time-written =
      let a : 48 + m / 60 / 10 ≡ last (m / 60 / 10) = digit (m / 60 / 10) (omega arith) in
      let b : 48 + m % 60 / 10 ≡ last (m % 60 / 10) = digit (m % 60 / 10) (omega arith) in
      let c : 48 + r / 1000 / 10 ≡ last (r / 1000 / 10) = digit (r / 1000 / 10) (omega arith) in
      let d : 48 + r % 1000 / 100 ≡ last (r % 1000 / 100) = digit (r % 1000 / 100) (omega arith) in
      (λ j. a j ∷ last (m / 60) ∷ 58 ∷ b j ∷ last (m % 60) ∷ 58 ∷ c j ∷ last (r / 1000) ∷ 46 ∷ d j ∷ last (r % 1000 / 10) ∷ last (r % 1000) ∷ [])

-- ---- a time of the day
module _ (textForm : NamedForm) (f : Float) (h : KeptDay) (k : ℕ) (ek : k ≡ (form_named textForm).count f h.leap) (l : k < h.end) (all : List ℕ)
    (ea : all ≡ eleven h.date ++ time_characters (time_of k)) (out out' : List ℕ) (eo : out' ≡ take (length all) all ++ drop (length all) out) where
  pub time-put : (d : CalendarDate) (leap : Float) → DayKept d leap h
      → ShortPut (shown_text_by (form_named textForm).write d (shown_by (form_named textForm).count f leap)) out out'
  unfolding shown_text_by
  time-put d leap q =
      let w = written q.year q.basic d q.in_year (time_of k) textForm in
      let a : all ≡ (form_named textForm).write d (time_of k) = ea ∙ ap (λ (z : List ℕ). eleven z ++ time_characters (time_of k)) q.characters ∙ sym w in
      let n : length all ≡ 23 = ap length (a ∙ w) in
      record {
        text = (form_named textForm).write d (time_of k);
        is = ap (shown_text_by (form_named textForm).write d)
            (sym (at-time (form_named textForm).count f leap h.leap k h.end q.counts ek q.ends (time_of k) refl l));
        long = sym (ap length a) ∙ n;
        holds = eo ∙ ap (λ (z : List ℕ). z ++ drop (length all) out) (take-length all ∙ a)
            ∙ ap (λ (z : ℕ). (form_named textForm).write d (time_of k) ++ drop z out) n;
      }

-- ---- a part of the day
last-L : Val last_midnight (42987868 * E) 0 L
unfolding L E of_bits
last-L = record { sign = false; size = 42987868 * E; has = (refl, refl); is = refl }

finite-midnight : (x : Float) → le one x ≡ true → le x last_midnight ≡ true → T (finite x)
unfolding le lt eq of_bits
finite-midnight nan l h = absurd (false≢true l)
finite-midnight (inf true) l h = absurd (false≢true l)
finite-midnight (inf false) l h = absurd (false≢true h)
finite-midnight (fin s m e) l h = tt

finite-part : (y : Float) → le nought y ≡ true → lt y one ≡ true → T (finite y)
unfolding le lt eq
finite-part nan l h = absurd (false≢true l)
finite-part (inf true) l h = absurd (false≢true l)
finite-part (inf false) l h = absurd (false≢true h)
finite-part (fin s m e) l h = tt

module _ (x y : Float) (fx : T (fits binary64 x)) (fy : T (fits binary64 y)) (m : Midnight x) (early : le x last_midnight ≡ true) (ly : le nought y ≡ true)
    (ty : lt y one ≡ true) where
  in_range : accepted x y ≡ true
  in_range =
      let vx = own_val x (own x fx (finite-midnight x m.late early)) in
      let vy = own_val y (own y fy (finite-part y ly ty)) in
      let a = le_true L-pos one-L vx m.late in
      let b = le_true L-pos vx last-L early in
      let c = le_true L-pos nought-L vy ly in
      let d = lt_true L-pos vy one-L ty in
      accepts x y _ _ _ _ vx vy (omega (arith, a, b, c, d, E-L)) (omega (arith, a, b, c, d, E-L))

  pub calendar-found : julian_to_calendar x y ≡ answer (fields (gregorian_date (day_from x)) (add binary64 nought y))
  unfolding julian_to_calendar
  calendar-found = went _ (part-of-day x y fx fy m in_range ly ty)

-- ---- a date that the day serves
module _ (textForm : NamedForm) (rows : List Row) (jd : JulianDate) (h : KeptDay) (q : ServedDay rows h) (e : jd.jd1 ≡ h.midnight)
    (fy : T (fits binary64 jd.jd2)) (ly : le nought jd.jd2 ≡ true) (ty : lt jd.jd2 one ≡ true) where
  text-is : iso_text_by (form_named textForm) rows jd
      ≡ shown_text_by (form_named textForm).write (gregorian_date (day_from h.midnight))
      (shown_by (form_named textForm).count (add binary64 nought jd.jd2) q.leap)
  unfolding iso_text_by day_text_by
  text-is =
      went _ (ap (λ (z : Float). julian_to_calendar z jd.jd2) e
      ∙ calendar-found h.midnight jd.jd2 q.begins.held fy q.begins q.early ly ty)
      ∙ went _ q.read

  pub served : (out out' : List ℕ)
      → ((d : CalendarDate) (leap : Float) → DayKept d leap h
      → ShortPut (shown_text_by (form_named textForm).write d (shown_by (form_named textForm).count (add binary64 nought jd.jd2) leap)) out out')
      → ShortPut (iso_text_by (form_named textForm) rows jd) out out'
  served out out' f =
      let p = f (gregorian_date (day_from h.midnight)) q.leap q.kept in
      record { text = p.text; is = text-is ∙ p.is; long = p.long; holds = p.holds }

-- ---- what stands beside it
pub short-beside : (o : Outcome (List ℕ)) (out out' : List ℕ) → 27 ≤ length out → ShortPut o out out'
    → TextBeside o out (record { length = 23; number = 0 }) out'
unfolding length_byte refusal_byte buffer_holds buffer_after
short-beside o out out' h p =
    subst (λ (z : Outcome (List ℕ)). TextBeside z out (record { length = 23; number = 0 }) out') (sym p.is)
    (record {
      length = sym p.long;
      number = refl;
      holds =
          p.holds ∙ ap (λ (z : ℕ). p.text ++ drop z out) (sym p.long)
          ∙ sym (ap (λ (b : Bool). cond b (p.text ++ drop (length p.text) out) out)
          (le-leb (length p.text) (length out) (omega (arith, p.long))));
    })

-- ---- the day of a midnight that is looked up
below-max : (x : Float) → T (fits binary64 x) → le one x ≡ true → le x last_midnight ≡ true → le x c_djmax ≡ true
below-max x fx l h =
    let v = own_val x (own x fx (finite-midnight x l h)) in
    let b = le_true L-pos v last-L h in
    is_true (le x c_djmax) (le_show L-pos v max_L (omega (arith, b, E_pos)))

module _ (x : Float) (w : NearestWhole) (ew : w ≡ nearest_whole x) (fx : T (fits binary64 x)) (late : le one x ≡ true) (early : le x last_midnight ≡ true) where
  in-days : InDays (day_from x)
  in-days = day-in-days x fx late (below-max x fx late early)

  pub number_is : to_z w64 (of_z w64 w.number) ≡ day_from x
  unfolding day_from nearest_whole
  number_is = ap (λ (z : NearestWhole). to_z w64 (of_z w64 z.number)) ew ∙ day-read (to_signed 63 (nearest_int x)) in-days

  pub begins : eq (sub binary64 x w.value) (fin true 1 (negsuc 0)) ≡ true → Midnight x
  unfolding nearest_whole
  begins h = record {
    before_noon = subst (λ (z : NearestWhole). eq (sub binary64 x z.value) (fin true 1 (negsuc 0)) ≡ true) ew h;
    late = late;
    held = fx;
    in-days = in-days;
  }

abbrev leap-of : Outcome TextDay → Float
leap-of (answer t) = t.leap
leap-of (refusal k) = nought

pub leap-read : (rows : List Row) (d : CalendarDate) (f : Float) (t : TextDay) → day_with_leap rows d f ≡ answer t
    → leap_at_end_of_day rows d.year (pos d.month) (pos d.day) ≡ answer t.leap
unfolding day_with_leap
leap-read rows d f t e = let q = came (leap_at_end_of_day rows d.year (pos d.month) (pos d.day)) _ t e in q.1 ∙ ap answer (ap leap-of q.2)

pub held_of : (rows : List Row) (x : Float) (h : KeptDay) (d : CalendarDate) (leap : Float) → Midnight x → le x last_midnight ≡ true
    → d ≡ gregorian_date (day_from x) → leap_at_end_of_day rows d.year (pos d.month) (pos d.day) ≡ answer leap
    → (h.midnight ≡ x) × DayKept d leap h → ServedDay rows h
held_of rows x h d leap m early ed read k =
    let e : d ≡ gregorian_date (day_from h.midnight) = ed ∙ ap (λ (z : Float). gregorian_date (day_from z)) (sym k.0) in
    record {
      begins = subst Midnight (sym k.0) m;
      early = ap (λ (z : Float). le z last_midnight) k.0 ∙ early;
      leap = leap;
      read = subst (λ (z : CalendarDate). leap_at_end_of_day rows z.year (pos z.month) (pos z.day) ≡ answer leap) e read;
      kept = subst (λ (z : CalendarDate). DayKept z leap h) e k.1;
    }

-- ---- a year of four digits
pub four-digits : (y : ℤ) → basic_year (not (non_neg y)) (nat_abs y) ≡ true → (nat_abs y < 10000) × (y ≡ pos (nat_abs y))
unfolding basic_year
four-digits (pos n) e = (ltb-true n 10000 e, refl)
four-digits (negsuc n) e = absurd (false≢true e)

pub year-of : (y : ℤ) (neg : Bool) (n : ℕ) → SFits w32 y → neg ≡ not (non_neg (to_z w32 (of_z w32 y))) → n ≡ nat_abs (to_z w32 (of_z w32 y)) → basic_year neg n
    ≡ true
    → (n < 10000) × (y ≡ pos n)
year-of y neg n f en ek b =
    let t = to_z-of_z w32 y f in
    let m : n ≡ nat_abs y = ek ∙ ap nat_abs t in
    let q = four-digits y
    (ap (λ (z : ℕ). basic_year (not (non_neg y)) z) (sym m) ∙ ap (λ (z : Bool). basic_year z n) (sym (en ∙ ap (λ (z : ℤ). not (non_neg z)) t)) ∙ b) in
    (subst (λ (z : ℕ). z < 10000) (sym m) q.0, q.1 ∙ ap pos (sym m))

-- ---- a date by the day that is kept, where it serves
pub by_day : (textForm : NamedForm) (jd : JulianDate) (h : KeptDay) (out : List ℕ) (r : Bool) (out' : List ℕ) → 0 < h.end
    → T (fits binary64 jd.jd1) → T (fits binary64 jd.jd2) → eq jd.jd1 h.midnight ≡ true → le nought jd.jd2 ≡ true → lt jd.jd2 one ≡ true
    → PutsTime textForm (add binary64 nought jd.jd2) h out r out' → PutsByDay textForm jd h out r out'
unfolding PutsTime PutsByDay RightKept
by_day textForm jd h out true out' l fx fy e ly ty p = λ rows right.
    let q = right l in
    served textForm rows jd h q (same_float jd.jd1 h.midnight fx q.begins.held e q.begins.late) fy ly ty out out' p
by_day textForm jd h out false out' l fx fy e ly ty p = p
