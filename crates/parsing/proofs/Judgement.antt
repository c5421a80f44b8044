-- What the code judges is what the text says: the number that it keeps of a fraction of at most 13 digits is the whole one, and its second is below 61 exactly
-- where the decimal is. Assumes nothing.
use Prim.Native.Nat.{ℕ, ◌+◌, ◌-◌, ◌*◌, ◌^◌, ◌<◌, ◌≤◌}
use native.Mathlib.Omega.{arith}
use native.Mathlib.Nat.{mul-le-mul_right}
use mathlib.Core.Path.{◌≡◌, refl, ap, ◌∙◌}
use mathlib.Core.List.{List, [], ◌∷◌}
use mathlib.Core.Bool.{Bool, true, false, cond}
use lib.ListN.{length, drop}
use lib.Dec.{leb, ltb, eqb}
use lib.IntN.{pos}
use borrow.Author.Tests.{leb-true, leb-false, le-leb, lt-ltb, le-ltb}
use Rattle.refusals.specs.Outcome.{Outcome, answer, refusal, onward}
use Rattle.constants.specs.Constants.{decimal}
use Rattle.calendar.specs.Refusals.{valid_date}
use Rattle.numerals.specs.digits.Decimal.{value, number, is_digit, AllDigits}
use Rattle.numerals.proofs.digits.Decimal.{digit_bounds, value-split, number-below}
use Rattle.parsing.specs.declared.scan.Form.{Form}
use Rattle.parsing.specs.declared.ParsedDateTime.{ParsedDateTime}
use Rattle.parsing.specs.scan.Form.{byte_at, digit_says, two_say, leading, fraction_digits, after_blanks, right_form, says, form_of}
use Rattle.parsing.specs.Parsed.{fields_of, time_fits, judged, parsed}
use Rattle.parsing.specs.scan.Scan.{joined, kept_from, kept, form_at, scan_of}
use Rattle.parsing.specs.Judging.{quotient, time_in, fields_by, judged_form}
use Rattle.parsing.proofs.scan.Runs.{worth-of, worth-most, kept-all-small}
use Rattle.parsing.proofs.Seconds.{one-division}
use borrow.Author.Tests.{lt-leb}

-- ---- digits
pub leading-digits : (s : List ℕ) → AllDigits (leading s)
unfolding leading AllDigits
leading-digits [] = tt
leading-digits (c ∷ cs) = either (is_digit c) refl (leading-digits cs)
  where
    either : (b : Bool) → is_digit c ≡ b → AllDigits (leading cs) → AllDigits (cond b (c ∷ leading cs) [])
    either true e h = let k = digit_bounds c e in (k.0, k.1, h)
    either false e h = tt

pub fraction-digits : (s : List ℕ) → AllDigits (fraction_digits s)
unfolding fraction_digits AllDigits
fraction-digits s = either (eqb (byte_at s 0) 46)
  where
    either : (b : Bool) → AllDigits (cond b (leading (drop 1 s)) [])
    either true = leading-digits (drop 1 s)
    either false = tt

kept_whole : (w place : ℕ) (s : List ℕ) → place + length (leading s) ≤ 13 → kept_from w place s ≡ value w (leading s)
unfolding kept_from leading
kept_whole w place [] h = refl
kept_whole w place (c ∷ cs) h = either (is_digit c) refl (kept_whole (10 * w + (c - 48)) (place + 1) cs) h
  where
    either : (b : Bool) → is_digit c ≡ b
        → (place + 1 + length (leading cs) ≤ 13 → kept_from (10 * w + (c - 48)) (place + 1) cs ≡ value (10 * w + (c - 48)) (leading cs))
        → place + length (cond b (c ∷ leading cs) []) ≤ 13 → cond b (kept_from (joined w c place) (place + 1) cs) w ≡ value w (cond b (c ∷ leading cs) [])
    either true e back k = ap (λ (v : ℕ). kept_from v (place + 1) cs)
        (ap (λ (x : Bool). cond x (10 * w + digit_says c) w) (lt-ltb place 13 (omega arith)) ∙ ap (λ (d : ℕ). 10 * w + d) (worth-of c e)) ∙ back (omega arith)
    either false e back k = refl

kept-fraction : (second : ℕ) (s : List ℕ) → length (fraction_digits s) ≤ 13 → kept second s ≡ value second (fraction_digits s)
unfolding kept fraction_digits
kept-fraction second s h = either (eqb (byte_at s 0) 46) h
  where
    either : (b : Bool) → length (cond b (leading (drop 1 s)) []) ≤ 13
        → cond b (kept_from second 0 (drop 1 s)) second ≡ value second (cond b (leading (drop 1 s)) [])
    either true k = kept_whole second 0 (drop 1 s) (omega arith)
    either false k = refl

-- ---- the second is below 61 exactly where its two digits say at most 60
below-61 : (second : ℕ) (ds : List ℕ) → AllDigits ds → ltb (value second ds) (61 * 10 ^ length ds) ≡ leb second 60
below-61 second ds h = either (leb second 60) refl
  where
    P : ℕ
    P = 10 ^ length ds

    either : (b : Bool) → leb second 60 ≡ b → ltb (value second ds) (61 * 10 ^ length ds) ≡ b
    either true e = lt-ltb _ _ (under (leb-true _ _ e) (value-split second ds) (number-below ds h))
      where
        under : second ≤ 60 → value second ds ≡ second * P + number ds → number ds < P → value second ds < 61 * P
        under k v n = let g : second * P ≤ 60 * P = mul-le-mul_right P k in omega arith
    either false e = le-ltb _ _ (over (leb-false _ _ e) (value-split second ds))
      where
        over : 60 < second → value second ds ≡ second * P + number ds → 61 * P ≤ value second ds
        over k v = let g : 61 * P ≤ second * P = mul-le-mul_right P k in omega arith

-- ---- what the judgement answers
module _ (f : Form) where
  module _ (few : f.places ≤ 13) where
    pub time-refused : valid_date (pos f.year) (pos f.month) (pos f.day) ≡ answer tt → time_in f ≡ false → refusal 4 ≡ judged_form f
    unfolding judged_form onward
    time-refused e t = rw (le-leb f.places 13 few, e, t)

    pub fields-given : (p : ParsedDateTime) → valid_date (pos f.year) (pos f.month) (pos f.day) ≡ answer tt → time_in f ≡ true → p ≡ fields_by f
        → answer p ≡ judged_form f
    unfolding judged_form onward
    fields-given p e t i = rw (le-leb f.places 13 few, e, t) (ap answer i)

two-most : (a b : ℕ) → two_say a b ≤ 99
two-most a b = omega (arith, worth-most a, worth-most b)

module _ (utc : Bool) (s : List ℕ) where
  abbrev second : ℕ
  second = two_say (byte_at s 17) (byte_at s 18)

  abbrev ds : List ℕ
  ds = fraction_digits (drop 19 s)

  same_second : length ds ≤ 13 → quotient (kept second (drop 19 s)) (length ds) ≡ decimal (value second ds) (length ds)
  same_second h =
      one-division (kept second (drop 19 s)) (length ds) (kept-all-small second (drop 19 s) (two-most (byte_at s 17) (byte_at s 18))) h
      ∙ ap (λ (n : ℕ). decimal n (length ds)) (kept-fraction second (drop 19 s) h)

  same-time : time_fits (says utc s) ≡ time_in (form_at s)
  unfolding time_fits says form_at
  same-time = rw (below-61 second ds (fraction-digits (drop 19 s)))

  same-fields : length ds ≤ 13 → fields_of (says utc s) ≡ fields_by (form_at s)
  unfolding says form_at
  same-fields h = rw (same_second h)

  one_answer : length ds ≤ 13 → cond (time_fits (says utc s)) (answer (fields_of (says utc s))) (refusal 4) ≡ cond (time_in (form_at s))
      (answer (fields_by (form_at s))) (refusal 4)
  one_answer h =
      ap (λ (b : Bool). cond b (answer (fields_of (says utc s))) (refusal 4)) same-time
      ∙ ap (λ (p : ParsedDateTime). cond (time_in (form_at s)) (answer p) (refusal 4)) (same-fields h)

  either : (date : Outcome Unit) (b : Bool) → leb (length ds) 13 ≡ b
      → cond b (onward date (λ _. cond (time_fits (says utc s)) (answer (fields_of (says utc s))) (refusal 4))) (refusal 16)
      ≡ cond b (onward date (λ _. cond (time_in (form_at s)) (answer (fields_by (form_at s))) (refusal 4))) (refusal 16)
  either date true e = ap (λ (o : Outcome ParsedDateTime). onward date (λ _. o)) (one_answer (leb-true _ _ e))
  either date false e = refl

  pub judged-alike : judged (says utc s) ≡ judged_form (form_at s)
  unfolding judged judged_form says form_at
  judged-alike = either (valid_date (pos (says utc s).year) (pos (says utc s).month) (pos (says utc s).day)) (leb (length ds) 13) refl

-- the text is read as the scan and the judgement of the code read it
pub parsed-is : (utc : Bool) (t : List ℕ) → parsed utc t ≡ onward (scan_of utc t) judged_form
unfolding parsed form_of scan_of onward
parsed-is utc t = either (right_form utc (after_blanks t))
  where
    either : (b : Bool) → onward (cond b (answer (says utc (after_blanks t))) (refusal 15)) judged ≡ onward
        (cond b (answer (form_at (after_blanks t))) (refusal 15)) judged_form
    either true = judged-alike utc (after_blanks t)
    either false = refl

-- ---- the hour, the minute and the second of a form, and what the judgement answers of too many digits and of no date
module _ (f : Form) where
  pub hour_over : 23 < f.hour → false ≡ time_in f
  hour_over h = rw (lt-leb f.hour 23 h)

  pub minute_over : f.hour ≤ 23 → 59 < f.minute → false ≡ time_in f
  minute_over h m = rw (le-leb f.hour 23 h, lt-leb f.minute 59 m)

  pub time-open : f.hour ≤ 23 → f.minute ≤ 59 → leb f.second 60 ≡ time_in f
  time-open h m = rw (le-leb f.hour 23 h, le-leb f.minute 59 m)

  pub too_many_digits : 13 < f.places → refusal 16 ≡ judged_form f
  unfolding judged_form
  too_many_digits h = rw (lt-leb f.places 13 h)

  pub date_refused : f.places ≤ 13 → (k : ℕ) → valid_date (pos f.year) (pos f.month) (pos f.day) ≡ refusal k → refusal k ≡ judged_form f
  unfolding judged_form onward
  date_refused few k e = rw (le-leb f.places 13 few, e)
