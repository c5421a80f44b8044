-- Each text is answered as its reading deserves, and as nothing else: the verdict is the answer, both ways, and only 15, 16, 2, 3 and 4 are refusals.
-- Assumes nothing.
use Prim.Native.Nat.{ℕ, ◌*◌, ◌^◌, ◌≤◌}
use native.Mathlib.Omega.{arith}
use mathlib.Core.Path.{◌≡◌, refl, sym, ap, ◌∙◌, subst}
use mathlib.Core.List.{List}
use mathlib.Core.Bool.{Bool, true, false, cond, ◌&&◌, ◌||◌, and-eq-true_iff, and-false}
use mathlib.Core.Logic.{◌⊎◌, inl, inr}
use lib.Dec.{leb, ltb}
use lib.IntN.{ℤ, pos}
use lib.Signed.{lt_z}
use borrow.Author.Tests.{leb-true, leb-false, ltb-true, ltb-false, le-leb, lt-leb, lt-ltb, le-ltb}
use Rattle.refusals.specs.Outcome.{Outcome, answer, refusal, onward}
use Rattle.calendar.specs.Calendar.{days_in_month}
use Rattle.calendar.specs.Refusals.{valid_date}
use Rattle.parsing.specs.declared.ParsedDateTime.{ParsedDateTime}
use Rattle.parsing.specs.scan.Written.{Written}
use Rattle.parsing.specs.Grammar.{Reads}
use Rattle.parsing.specs.scan.Form.{after_blanks, right_form, says, form_of}
use Rattle.parsing.specs.Parsed.{fields_of, time_fits, judged, parsed}
use Rattle.parsing_laws.specs.Verdict.{NoTime, hour_over, minute_over, second_over, SomeTime, Verdict, outside, too_many_digits, bad_date}
use Rattle.parsing_laws.specs.Verdict.{bad_time, fields}
use Rattle.parsing_laws.proofs.Grammar.{answered, a-reading, no_reading, refused-15}

-- ---- the time
module _ (w : Written) where
  no_time : NoTime w → time_fits w ≡ false
  unfolding time_fits
  no_time (hour_over h) = rw (lt-leb w.hour 23 h)
  no_time (minute_over h) = rw (lt-leb w.minute 59 h) (and-false (leb w.hour 23))
  no_time (second_over h) = rw (le-ltb w.whole (61 * 10 ^ w.places) h) (both (leb w.hour 23) (leb w.minute 59))
    where
      both : (a b : Bool) → (a && (b && false)) ≡ false
      both true true = refl
      both true false = refl
      both false b = refl

  some-time : SomeTime w → time_fits w ≡ true
  unfolding time_fits
  some-time k = rw (le-leb w.hour 23 k.hour, le-leb w.minute 59 k.minute, lt-ltb w.whole (61 * 10 ^ w.places) k.second)

  time-some : time_fits w ≡ true → SomeTime w
  unfolding time_fits
  time-some e =
      let a = (and-eq-true_iff (leb w.hour 23) _).0 e in
      let b = (and-eq-true_iff (leb w.minute 59) _).0 a.1 in
      record { hour = leb-true _ _ a.0; minute = leb-true _ _ b.0; second = ltb-true _ _ b.1 }

  time-none : time_fits w ≡ false → NoTime w
  unfolding time_fits
  time-none e = first (leb w.hour 23) refl e
    where
      third : (c : Bool) → ltb w.whole (61 * 10 ^ w.places) ≡ c → c ≡ false → NoTime w
      third c k h = second_over (ltb-false _ _ (k ∙ h))

      second : (b : Bool) → leb w.minute 59 ≡ b → (b && ltb w.whole (61 * 10 ^ w.places)) ≡ false → NoTime w
      second true k h = third _ refl h
      second false k h = minute_over (leb-false _ _ k)

      first : (a : Bool) → leb w.hour 23 ≡ a → (a && (leb w.minute 59 && ltb w.whole (61 * 10 ^ w.places))) ≡ false → NoTime w
      first true k h = second _ refl h
      first false k h = hour_over (leb-false _ _ k)

-- ---- what is read is judged
pub read-judged : (utc : Bool) (t : List ℕ) (w : Written) → Reads utc t w → parsed utc t ≡ judged w
unfolding parsed onward
read-judged utc t w r = ap (λ (o : Outcome Written). onward o judged) (answered r)

-- a case of the verdict is the answer
pub deserved : (utc : Bool) (t : List ℕ) (o : Outcome ParsedDateTime) → Verdict utc t o → parsed utc t ≡ o
unfolding parsed judged onward
deserved utc t _ (outside n) = ap (λ (o : Outcome Written). onward o judged) (refused-15 utc t n)
deserved utc t _ (too_many_digits w r h) = read-judged utc t w r ∙ (rw (lt-leb w.places 13 h))
deserved utc t _ (bad_date w k r h e) = read-judged utc t w r ∙ (rw (le-leb w.places 13 h, e))
deserved utc t _ (bad_time w r h e n) = read-judged utc t w r ∙ (rw (le-leb w.places 13 h, e, no_time w n))
deserved utc t _ (fields w r h e s) = read-judged utc t w r ∙ (rw (le-leb w.places 13 h, e, some-time w s))

-- ---- the answer is a case of the verdict
module _ (utc : Bool) (t : List ℕ) (w : Written) (r : Reads utc t w) where
  by_time : (h : w.places ≤ 13) (e : valid_date (pos w.year) (pos w.month) (pos w.day) ≡ answer tt) (b : Bool) → time_fits w ≡ b
      → Verdict utc t (cond b (answer (fields_of w)) (refusal 4))
  by_time h e true k = fields w r h e (time-some w k)
  by_time h e false k = bad_time w r h e (time-none w k)

  by-date : (h : w.places ≤ 13) (o : Outcome Unit) → valid_date (pos w.year) (pos w.month) (pos w.day) ≡ o
      → Verdict utc t (onward o (λ _. cond (time_fits w) (answer (fields_of w)) (refusal 4)))
  unfolding onward
  by-date h (answer tt) e = by_time h e (time_fits w) refl
  by-date h (refusal k) e = bad_date w k r h e

  by-places : (b : Bool) → leb w.places 13 ≡ b
      → Verdict utc t (cond b (onward (valid_date (pos w.year) (pos w.month) (pos w.day)) (λ _. cond (time_fits w) (answer (fields_of w)) (refusal 4)))
      (refusal 16))
  by-places true k = by-date (leb-true _ _ k) (valid_date (pos w.year) (pos w.month) (pos w.day)) refl
  by-places false k = too_many_digits w r (leb-false _ _ k)

  judged-so : Verdict utc t (judged w)
  unfolding judged
  judged-so = by-places (leb w.places 13) refl

-- the scan refuses with 15 alone
only-15 : (utc : Bool) (t : List ℕ) (k : ℕ) → form_of utc t ≡ refusal k → k ≡ 15
unfolding form_of
only-15 utc t k = either (right_form utc (after_blanks t))
  where
    either : (b : Bool) → cond b (answer (says utc (after_blanks t))) (refusal 15) ≡ refusal k → k ≡ 15
    either true e = let z : ◌≡◌ {A = ℕ} 0 1 = cc in absurd (let y : ⊥ = omega arith in y)
    either false e = cc

pub verdict : (utc : Bool) (t : List ℕ) → Verdict utc t (parsed utc t)
unfolding parsed onward
verdict utc t = either (form_of utc t) refl
  where
    either : (o : Outcome Written) → form_of utc t ≡ o → Verdict utc t (onward o judged)
    either (answer w) e = judged-so utc t w (a-reading utc t w e)
    either (refusal k) e =
        let i : k ≡ 15 = only-15 utc t k e in
        subst (λ (n : ℕ). Verdict utc t (refusal n)) (sym i) (outside (no_reading utc t (e ∙ ap refusal i)))

-- ---- so only five numbers occur: 1 can't, since a year of four digits is not before -4799, and 5 can't, since nothing asks for the next day
-- of a year that is not negative, 2 and 3
pub date-numbers : (y : ℕ) (m d : ℤ) (k : ℕ) → valid_date (pos y) m d ≡ refusal k → (k ≡ 2) ⊎ (k ≡ 3)
unfolding valid_date
date-numbers y m d k = either (lt_z m (pos 1) || lt_z (pos 12) m) (lt_z d (pos 1) || lt_z (pos (days_in_month (pos y) m)) d)
  where
    either : (a b : Bool) → ◌≡◌ {A = Outcome Unit} (cond a (refusal 2) (cond b (refusal 3) (answer tt))) (refusal k) → (k ≡ 2) ⊎ (k ≡ 3)
    either true b e = let i : k ≡ 2 = cc in inl i
    either false true e = let i : k ≡ 3 = cc in inr i
    either false false e = let z : ◌≡◌ {A = ℕ} 0 1 = cc in absurd (let n : ⊥ = omega arith in n)

pub data ReaderNumber : ℕ → Type 0 where
  fifteen : ReaderNumber 15
  sixteen : ReaderNumber 16
  two : ReaderNumber 2
  three : ReaderNumber 3
  four : ReaderNumber 4

number_of : (utc : Bool) (t : List ℕ) (o : Outcome ParsedDateTime) (k : ℕ) → Verdict utc t o → o ≡ refusal k → ReaderNumber k
number_of utc t _ k (outside n) e = let i : 15 ≡ k = cc in subst ReaderNumber i fifteen
number_of utc t _ k (too_many_digits w r h) e = let i : 16 ≡ k = cc in subst ReaderNumber i sixteen
number_of utc t _ k (bad_date w j r h d) e = let i : j ≡ k = cc in subst ReaderNumber i (of (date-numbers w.year (pos w.month) (pos w.day) j d))
  where
    of : (j ≡ 2) ⊎ (j ≡ 3) → ReaderNumber j
    of (inl g) = subst ReaderNumber (sym g) two
    of (inr g) = subst ReaderNumber (sym g) three
number_of utc t _ k (bad_time w r h d n) e = let i : 4 ≡ k = cc in subst ReaderNumber i four
number_of utc t _ k (fields w r h d n) e = let z : ◌≡◌ {A = ℕ} 0 1 = cc in absurd (let y : ⊥ = omega arith in y)

pub only-numbers : (utc : Bool) (t : List ℕ) (k : ℕ) → parsed utc t ≡ refusal k → ReaderNumber k
only-numbers utc t k e = number_of utc t (parsed utc t) k (verdict utc t) e
