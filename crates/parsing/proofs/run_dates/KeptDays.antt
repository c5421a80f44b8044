-- A text by the day that is kept has the date that the single call reads. Assumes nothing.
use Prim.Native.Nat.{ℕ, ◌+◌, ◌*◌, ◌≤◌}
use native.Mathlib.Omega.{arith}
use mathlib.Core.Path.{◌≡◌, refl, sym, ap, subst, ◌∙◌}
use mathlib.Core.Bool.{Bool, true, false, cond, ◌&&◌, and-false, false≢true}
use mathlib.Core.List.{List, [], ◌∷◌}
use lib.Dec.{leb}
use lib.IntN.{ℤ, pos}
use lib.Ieee.{Float}
use lib.ListN.{length, get_or, drop}
use Rattle.refusals.specs.Outcome.{Outcome, answer, refusal, onward}
use Rattle.refusals.proofs.Onward.{went, came}
use Rattle.floats.specs.Whole.{nought}
use Rattle.calendar.specs.Refusals.{valid_date}
use Rattle.julian.specs.declared.JulianDate.{JulianDate}
use Rattle.julian.specs.JulianDate.{julian}
use Rattle.julian.specs.Calendar.{from_calendar}
use Rattle.julian.specs.DayFraction.{day_fraction}
use Rattle.leap_table.specs.rows.Table.{Row}
use Rattle.leap_table.specs.offsets.Leap.{leap_at_end_of_day}
use Rattle.utc.specs.FromCalendar.{midnight_plus, utc_from_calendar}
use Rattle.parsing.specs.declared.scan.Form.{Form}
use Rattle.parsing.specs.declared.ParsedDateTime.{ParsedDateTime}
use Rattle.parsing.specs.declared.ParsedUtc.{ParsedUtc}
use Rattle.parsing.specs.declared.run_dates.kept_day.KeptDay.{KeptDay}
use Rattle.parsing.specs.scan.Form.{byte_at, two_say, is_blank, after_blanks, is_separator, date_right, time_right, after_fraction, end_right, right_form}
use Rattle.parsing.specs.declared.scan.Run.{Run}
use Rattle.parsing.specs.scan.Scan.{pairs_at, kept, FractionRun, form_with, form_at, scan_of}
use Rattle.parsing.specs.Judging.{quotient, time_in, fields_by, judged_form}
use Rattle.parsing.specs.Parsed.{parsed, dated, parsed_utc}
use Rattle.parsing.specs.run_dates.RunDates.{date_read}
use Rattle.parsing.specs.run_dates.Kept.{first_eleven, time_form, time_scanned, time_judged, time_read, IsServed, Served, RightForTexts, KeptOfText}
use Rattle.std.specs.Prelude.{Option, Some, None}
use Rattle.parsing.proofs.scan.Runs.{worth-most, kept-all-small}
use Rattle.parsing.proofs.Judgement.{parsed-is}

-- ---- no day
some_is : Option KeptDay → Bool
some_is (Some h) = true
some_is None = false

pub no_service : (rows : List Row) → RightForTexts rows None
unfolding RightForTexts some_is
no_service rows = λ h e t s. absurd (false≢true (ap some_is e))

-- ---- a day that serves a text
pub serves : (h : KeptDay) (t : List ℕ) (b : Bool) → IsServed h t b → b ≡ true → Served h t
unfolding IsServed
serves h t b k e = k e

pub date-by-day : (rows : List Row) (k : Option KeptDay) (h : KeptDay) (t : List ℕ) → RightForTexts rows k → k ≡ Some h → Served h t
    → date_read rows t ≡ time_read h t
unfolding RightForTexts
date-by-day rows k h t r e s = r h e t s

-- ---- eleven bytes that are the same, each by each
pub same-eleven : (t d : List ℕ) → get_or t 0 0 ≡ get_or d 0 0 → get_or t 1 0 ≡ get_or d 1 0 → get_or t 2 0 ≡ get_or d 2 0 → get_or t 3 0 ≡ get_or d 3 0
    → get_or t 4 0 ≡ get_or d 4 0 → get_or t 5 0 ≡ get_or d 5 0 → get_or t 6 0 ≡ get_or d 6 0 → get_or t 7 0 ≡ get_or d 7 0 → get_or t 8 0 ≡ get_or d 8 0
    → get_or t 9 0 ≡ get_or d 9 0 → get_or t 10 0 ≡ get_or d 10 0 → first_eleven t ≡ first_eleven d
same-eleven t d e0 e1 e2 e3 e4 e5 e6 e7 e8 e9 e10 = λ j. e0 j ∷ e1 j ∷ e2 j ∷ e3 j ∷ e4 j ∷ e5 j ∷ e6 j ∷ e7 j ∷ e8 j ∷ e9 j ∷ e10 j ∷ []

-- ---- what is found of a text is not too large for a float
pub time-small : (t : List ℕ) (f : Form) → time_scanned t ≡ answer f → f.whole ≤ 1000000000000000
unfolding time_scanned
time-small t f e = either (pairs_at 58 t 11 && end_right true (after_fraction (drop 19 t))) e
  where
    two-most : (a b : ℕ) → two_say a b ≤ 99
    two-most a b = omega (arith, worth-most a, worth-most b)

    either : (b : Bool) → cond b (answer (time_form t)) (refusal 15) ≡ answer f → f.whole ≤ 1000000000000000
    either true g = let i : time_form t ≡ f =
        cc in subst (λ (x : Form). x.whole ≤ 1000000000000000) i
        (kept-all-small (two_say (byte_at t 17) (byte_at t 18)) (drop 19 t) (two-most (byte_at t 17) (byte_at t 18)))
    either false g = absurd (let z : ◌≡◌ {A = ℕ} 0 1 = cc in let y : ⊥ = omega arith in y)

-- ---- the time that is scanned
module _ (t : List ℕ) where
  pub not_pairs : pairs_at 58 t 11 ≡ false → refusal 15 ≡ time_scanned t
  unfolding time_scanned
  not_pairs e = rw e

  pub not_end : end_right true (after_fraction (drop 19 t)) ≡ false → refusal 15 ≡ time_scanned t
  unfolding time_scanned
  not_end e = rw (e, and-false (pairs_at 58 t 11))

  pub form-found : (h n s : ℕ) (r : Run) → h ≡ two_say (byte_at t 11) (byte_at t 12) → n ≡ two_say (byte_at t 14) (byte_at t 15)
      → s ≡ two_say (byte_at t 17) (byte_at t 18) → FractionRun s 19 t r → pairs_at 58 t 11 ≡ true → end_right true (after_fraction (drop 19 t)) ≡ true
      → answer (form_with 0 0 0 h n s r.whole r.places) ≡ time_scanned t
  unfolding time_scanned
  form-found h n s r eh en es run p e =
      (λ j. answer (form_with 0 0 0 (eh j) (en j) (es j) ((run.whole ∙ ap (λ (x : ℕ). kept x (drop 19 t)) es) j) (run.places j)))
      ∙ sym (rw (p, e))

-- ---- what a text that was read says: u without a blank in front, and its fields p
and_first : (a b : Bool) → (a && b) ≡ true → a ≡ true
and_first true b e = refl
and_first false b e = e

and_second : (a b : Bool) → (a && b) ≡ true → b ≡ true
and_second true b e = e
and_second false b e = absurd (false≢true e)

no_blank : (t : List ℕ) → is_blank (get_or t 0 0) ≡ false → 19 ≤ length t → after_blanks t ≡ t
unfolding after_blanks
no_blank [] e h = refl
no_blank (c ∷ cs) e h = rw e

-- the date of a text is right, and what is behind it
date-part : (s : List ℕ) → right_form true s ≡ true → (date_right s ≡ true) × (is_separator (byte_at s 10) ≡ true)
unfolding right_form time_right
date-part s e =
    let later = and_second (date_right s) _ e in
    (and_first (date_right s) _ e, and_first (is_separator (byte_at s 10)) _ (and_first (time_right s) _ later))

pub record ReadAs (u : List ℕ) (p : ParsedDateTime) : Type 0 where
  pub date : date_right u ≡ true
  pub behind : is_separator (byte_at u 10) ≡ true
  pub valid : valid_date p.year (pos p.month) (pos p.day) ≡ answer tt
  pub year : p.year ≡ pos (100 * two_say (byte_at u 0) (byte_at u 1) + two_say (byte_at u 2) (byte_at u 3))
  pub month : p.month ≡ two_say (byte_at u 5) (byte_at u 6)
  pub day : p.day ≡ two_say (byte_at u 8) (byte_at u 9)

-- what the judgement lets pass
judged-fields : (f : Form) (p : ParsedDateTime) → judged_form f ≡ answer p
    → (p ≡ fields_by f) × (valid_date (pos f.year) (pos f.month) (pos f.day) ≡ answer tt)
unfolding judged_form
judged-fields f p e = few (leb f.places 13) e
  where
    in-day : (b : Bool) → cond b (answer (fields_by f)) (refusal 4) ≡ answer p → p ≡ fields_by f
    in-day true g = let i : fields_by f ≡ p = cc g in sym i
    in-day false g = absurd (let z : ◌≡◌ {A = ℕ} 0 1 = cc in let y : ⊥ = omega arith in y)

    few : (b : Bool) → cond b (onward (valid_date (pos f.year) (pos f.month) (pos f.day)) (λ _. cond (time_in f) (answer (fields_by f)) (refusal 4)))
        (refusal 16) ≡ answer p → (p ≡ fields_by f) × (valid_date (pos f.year) (pos f.month) (pos f.day) ≡ answer tt)
    few true g = let q = came (valid_date (pos f.year) (pos f.month) (pos f.day)) _ p g in (in-day (time_in f) q.2, q.1)
    few false g = absurd (let z : ◌≡◌ {A = ℕ} 0 1 = cc in let y : ⊥ = omega arith in y)

-- what the scan lets pass
scanned_form : (s : List ℕ) (f : Form) → cond (right_form true s) (answer (form_at s)) (refusal 15) ≡ answer f → (right_form true s ≡ true) × (f ≡ form_at s)
scanned_form s f e = either (right_form true s) refl e
  where
    either : (b : Bool) → right_form true s ≡ b → cond b (answer (form_at s)) (refusal 15) ≡ answer f → (right_form true s ≡ true) × (f ≡ form_at s)
    either true r g = let i : form_at s ≡ f = cc g in (r, sym i)
    either false r g = absurd (let z : ◌≡◌ {A = ℕ} 0 1 = cc in let y : ⊥ = omega arith in y)

pub read_as : (u : List ℕ) (p : ParsedDateTime) → is_blank (get_or u 0 0) ≡ false → 19 ≤ length u → parsed true u ≡ answer p → ReadAs u p
unfolding scan_of form_at
read_as u p nb long e =
    let q = came (scan_of true u) judged_form p (sym (parsed-is true u) ∙ e) in
    let g = scanned_form u q.0 (ap (λ (s : List ℕ). cond (right_form true s) (answer (form_at s)) (refusal 15)) (sym (no_blank u nb long)) ∙ q.1) in
    let d = date-part u g.0 in
    let j = judged-fields q.0 p q.2 in
    let i : p ≡ fields_by (form_at u) = j.0 ∙ ap fields_by g.1 in
    record {
      date = d.0;
      behind = d.1;
      valid = ap (λ (x : ParsedDateTime). valid_date x.year (pos x.month) (pos x.day)) j.0 ∙ j.1;
      year = ap (λ (x : ParsedDateTime). x.year) i;
      month = ap (λ (x : ParsedDateTime). x.month) i;
      day = ap (λ (x : ParsedDateTime). x.day) i;
    }

-- ---- a text with the same eleven bytes
-- what is asked looks at the eleven bytes alone
of_eleven : (s : List ℕ) (p : ParsedDateTime) → ReadAs (first_eleven s) p → ReadAs s p
unfolding date_right
of_eleven s p q = record { date = q.date; behind = q.behind; valid = q.valid; year = q.year; month = q.month; day = q.day }

to-eleven : (s : List ℕ) (p : ParsedDateTime) → ReadAs s p → ReadAs (first_eleven s) p
unfolding date_right
to-eleven s p q = record { date = q.date; behind = q.behind; valid = q.valid; year = q.year; month = q.month; day = q.day }

same_read : (u t : List ℕ) (p : ParsedDateTime) → first_eleven t ≡ first_eleven u → ReadAs u p → ReadAs t p
same_read u t p e r = of_eleven t p (subst (λ (s : List ℕ). ReadAs s p) (sym e) (to-eleven u p r))

-- ---- its date, by the midnight and the leap of the fields p
-- the date without the fields beside it
date-alone : (p : ParsedDateTime) (o : Outcome JulianDate)
    → onward (onward o (λ jd. answer (record { fields = p; date = record { 0 = jd } }))) (λ (r : ParsedUtc). answer r.date.0) ≡ o
unfolding onward
date-alone p (answer d) = refl
date-alone p (refusal k) = refl

-- the date of a text whose fields are known
pub fields_read : (rows : List Row) (t : List ℕ) (p : ParsedDateTime) → parsed true t ≡ answer p
    → date_read rows t ≡ utc_from_calendar rows p.year p.month p.day p.hour p.minute p.second
unfolding date_read parsed_utc dated
fields_read rows t p e =
    ap (λ (o : Outcome ParsedUtc). onward o (λ (r : ParsedUtc). answer r.date.0)) (went (dated rows) e)
    ∙ date-alone p (utc_from_calendar rows p.year p.month p.day p.hour p.minute p.second)

abbrev date-after : List Row → Outcome ParsedDateTime → Outcome JulianDate
date-after rows o = onward (onward o (dated rows)) (λ r. answer r.date.0)

module _ (rows : List Row) (h : KeptDay) (t : List ℕ) (y : ℤ) (m d : ℕ)
    (ey : y ≡ pos (form_at t).year) (em : m ≡ (form_at t).month) (ed : d ≡ (form_at t).day)
    (valid : valid_date y (pos m) (pos d) ≡ answer tt)
    (begins : from_calendar y m d 0 0 nought ≡ answer (julian h.jd1 h.jd2))
    (counts : leap_at_end_of_day rows y (pos m) (pos d) ≡ answer h.leap) where
  abbrev f : Form
  f = form_at t

  valid_f : valid_date (pos f.year) (pos f.month) (pos f.day) ≡ answer tt
  valid_f = (λ j. valid_date (sym ey j) (pos (sym em j)) (pos (sym ed j))) ∙ valid

  begins-f : from_calendar (pos f.year) f.month f.day 0 0 nought ≡ answer (julian h.jd1 h.jd2)
  begins-f = (λ j. from_calendar (sym ey j) (sym em j) (sym ed j) 0 0 nought) ∙ begins

  counts-f : leap_at_end_of_day rows (pos f.year) (pos f.month) (pos f.day) ≡ answer h.leap
  counts-f = (λ j. leap_at_end_of_day rows (sym ey j) (pos (sym em j)) (pos (sym ed j))) ∙ counts

  abbrev date : Outcome JulianDate
  date = midnight_plus (julian h.jd1 h.jd2) (day_fraction f.hour f.minute (quotient f.whole f.places) h.leap)

  named : utc_from_calendar rows (pos f.year) f.month f.day f.hour f.minute (quotient f.whole f.places) ≡ date
  unfolding utc_from_calendar
  named = went _ begins-f ∙ went _ counts-f

  fields-date : date-after rows (answer (fields_by f)) ≡ date
  unfolding dated onward
  fields-date =
      ap (λ (o : Outcome JulianDate). onward (onward o (λ jd. answer (record { fields = fields_by f; date = record { 0 = jd } })))
      (λ (r : ParsedUtc). answer r.date.0)) named
      ∙ date-alone (fields_by f) date

  judged-date : date-after rows (judged_form f) ≡ time_judged h (time_form t)
  unfolding judged_form time_judged onward form_at
  judged-date =
      ap (λ (o : Outcome Unit). date-after rows
      (cond (leb f.places 13) (onward o (λ _. cond (time_in f) (answer (fields_by f)) (refusal 4))) (refusal 16))) valid_f
      ∙ go (leb f.places 13) (time_in f)
    where
      go : (b c : Bool) → date-after rows (cond b (cond c (answer (fields_by f)) (refusal 4)) (refusal 16)) ≡ cond b (cond c date (refusal 4)) (refusal 16)
      go true true = fields-date
      go true false = refl
      go false c = refl

  module _ (right : date_right t ≡ true) (behind : is_separator (byte_at t 10) ≡ true) (nb : after_blanks t ≡ t) where
    form-right : right_form true t ≡ (pairs_at 58 t 11 && end_right true (after_fraction (drop 19 t)))
    unfolding right_form time_right pairs_at
    form-right = rw (right, behind)

    scanned : scan_of true t ≡ cond (pairs_at 58 t 11 && end_right true (after_fraction (drop 19 t))) (answer (form_at t)) (refusal 15)
    unfolding scan_of
    scanned =
        ap (λ (s : List ℕ). cond (right_form true s) (answer (form_at s)) (refusal 15)) nb
        ∙ ap (λ (b : Bool). cond b (answer (form_at t)) (refusal 15)) form-right

    pub date-by-time : date_read rows t ≡ time_read h t
    unfolding date_read parsed_utc time_read time_scanned onward
    date-by-time =
        ap (date-after rows) (parsed-is true t ∙ ap (λ (o : Outcome Form). onward o judged_form) scanned)
        ∙ go (pairs_at 58 t 11 && end_right true (after_fraction (drop 19 t)))
      where
        go : (b : Bool) → date-after rows (onward (cond b (answer (form_at t)) (refusal 15)) judged_form)
            ≡ onward (cond b (answer (time_form t)) (refusal 15)) (time_judged h)
        go true = judged-date
        go false = refl

-- ---- the day that is kept of a text u that was read
pub right-day : (rows : List Row) (u : List ℕ) (p : ParsedDateTime) (midnight : JulianDate) (leap : Float) (k : Option KeptDay)
    → parsed true u ≡ answer p → from_calendar p.year p.month p.day 0 0 nought ≡ answer midnight
    → leap_at_end_of_day rows p.year (pos p.month) (pos p.day) ≡ answer leap → KeptOfText u midnight leap k → RightForTexts rows k
unfolding RightForTexts KeptOfText form_at
right-day rows u p midnight leap k read begins counts day = λ h is t s.
    let q = day h is in
    let e : first_eleven t ≡ first_eleven u = s.same ∙ ap first_eleven q.characters in
    let r = same_read u t p e (read_as u p q.in_front q.long read) in
    let blank : is_blank (get_or t 0 0) ≡ false = ap (λ (l : List ℕ). is_blank (get_or l 0 0)) e ∙ q.in_front in
    date-by-time rows h t p.year p.month p.day r.year r.month r.day r.valid
    (begins ∙ (λ j. answer (julian (sym q.first j) (sym q.second j)))) (counts ∙ ap answer (sym q.counts))
    r.date r.behind (no_blank t blank s.long)
