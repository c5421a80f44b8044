-- The bytes of a text that the code looks at, by their index in the whole text, and the forms that they make. Assumes nothing.
use Prim.Native.Nat.{ℕ, ◌+◌, ◌-◌, ◌<◌, ◌≤◌}
use native.Mathlib.Omega.{arith}
use native.Mathlib.Nat.{add-zero, add_assoc}
use mathlib.Core.Path.{◌≡◌, refl, sym, ap, ◌∙◌, subst}
use mathlib.Core.List.{List}
use mathlib.Core.Bool.{Bool, true, false, cond, ◌&&◌, and-false}
use lib.ListN.{length, drop, get_or, length-drop, get_or-eq_default}
use lib.Seq.{get_or-drop, drop-drop}
use lib.Dec.{eqb}
use borrow.Author.Tests.{eq-eqb, ne_eqb, eqb-true, eqb-false}
use Rattle.refusals.specs.Outcome.{answer, refusal}
use Rattle.numerals.specs.digits.Decimal.{is_digit}
use Rattle.parsing.specs.declared.scan.Form.{Form}
use Rattle.parsing.specs.declared.scan.Run.{Run}
use Rattle.parsing.specs.scan.Form.{byte_at, two_digits, two_say, is_separator, fraction_digits, date_right, time_right, after_blanks, after_fraction}
use Rattle.parsing.specs.scan.Form.{end_right, right_form}
use Rattle.parsing.specs.scan.Scan.{pairs_at, kept, FractionRun, form_by, form_at, scan_of}
use Rattle.parsing.proofs.scan.Runs.{worth-most, kept-all-small}

pub date-at : (t : List ℕ) (at : ℕ) → date_right (drop at t)
    ≡ (two_digits (get_or t at 0) (get_or t (at + 1) 0) && pairs_at 45 t (at + 2))
unfolding date_right pairs_at
date-at t at = simp (get_or-drop, add-zero, add_assoc)

pub time-at : (t : List ℕ) (at : ℕ) → time_right (drop at t)
    ≡ (is_separator (get_or t (at + 10) 0) && pairs_at 58 t (at + 11))
unfolding time_right pairs_at
time-at t at = simp (get_or-drop, add_assoc)

-- ---- a text that is too short has no form
short-time : (s : List ℕ) → length s < 19 → time_right s ≡ false
unfolding time_right two_digits is_digit
short-time s h = let e : get_or s 18 0 ≡ 0 = get_or-eq_default s 0 (omega arith) in rw e (simp and-false)

pub not_date : (utc : Bool) (s : List ℕ) → date_right s ≡ false → right_form utc s ≡ false
unfolding right_form
not_date utc s e = rw e

pub not_time : (utc : Bool) (s : List ℕ) → time_right s ≡ false → right_form utc s ≡ false
unfolding right_form
not_time utc s e = rw e (simp and-false)

pub too_short : (utc : Bool) (s : List ℕ) → length s < 19 → right_form utc s ≡ false
too_short utc s h = not_time utc s (short-time s h)

pub not_end : (utc : Bool) (s : List ℕ) → end_right utc (after_fraction (drop 19 s)) ≡ false → right_form utc s ≡ false
unfolding right_form
not_end utc s e = rw e (simp and-false)

pub whole-form : (utc : Bool) (s : List ℕ) → date_right s ≡ true → time_right s ≡ true → end_right utc (after_fraction (drop 19 s)) ≡ true → right_form utc s
    ≡ true
unfolding right_form
whole-form utc s d u e = rw (d, u, e)

-- ---- what the scan then answers
pub outside : (utc : Bool) (t s : List ℕ) → s ≡ after_blanks t → right_form utc s ≡ false → refusal 15 ≡ scan_of utc t
unfolding scan_of
outside utc t s e r = let g : right_form utc (after_blanks t) ≡ false = ap (right_form utc) (sym e) ∙ r in rw g

pub within : (utc : Bool) (t s : List ℕ) (f : Form) → s ≡ after_blanks t → right_form utc s ≡ true → f ≡ form_at s → answer f ≡ scan_of utc t
unfolding scan_of
within utc t s f e r i = let g : right_form utc (after_blanks t) ≡ true = ap (right_form utc) (sym e) ∙ r in rw g (ap answer (i ∙ ap form_at e))

-- the fields, with the fraction's run
pub form-is : (t : List ℕ) (at second : ℕ) (r : Run) (f : Form) → second ≡ two_say (get_or t (at + 17) 0) (get_or t (at + 18) 0) → FractionRun second
    (at + 19) t r
    → f ≡ form_by (drop at t) r.whole r.places → f ≡ form_at (drop at t)
unfolding form_at
form-is t at second r f e k i =
    let s = drop at t in
    let two : second ≡ two_say (byte_at s 17) (byte_at s 18) = e ∙ sym (simp get_or-drop) in
    let d : drop (at + 19) t ≡ drop 19 s = sym (drop-drop 19 at t) in
    i
    ∙ ap (λ (w : ℕ). form_by s w r.places) (k.whole ∙ (λ j. kept (two j) (d j)))
    ∙ ap (form_by s (kept (two_say (byte_at s 17) (byte_at s 18)) (drop 19 s))) (k.places ∙ ap (λ (x : List ℕ). length (fraction_digits x)) d)

-- what is within is not too large for a float
pub within-small : (utc : Bool) (t : List ℕ) (f : Form) → scan_of utc t ≡ answer f → f.whole ≤ 1000000000000000
unfolding scan_of form_at
within-small utc t f e = either (right_form utc (after_blanks t)) e
  where
    s : List ℕ
    s = after_blanks t

    two-most : (a b : ℕ) → two_say a b ≤ 99
    two-most a b = omega (arith, worth-most a, worth-most b)

    either : (b : Bool) → cond b (answer (form_at s)) (refusal 15) ≡ answer f → f.whole ≤ 1000000000000000
    either true g = let i : form_at s ≡ f =
        cc in subst (λ (x : Form). x.whole ≤ 1000000000000000) i
        (kept-all-small (two_say (byte_at s 17) (byte_at s 18)) (drop 19 s) (two-most (byte_at s 17) (byte_at s 18)))
    either false g = absurd (let z : ◌≡◌ {A = ℕ} 0 1 = cc in let y : ⊥ = omega arith in y)

-- ---- the end: no byte is left behind index b exactly where b is the length
pub none_left : (t : List ℕ) (b : ℕ) → b ≤ length t → eqb b (length t) ≡ eqb (length (drop b t)) 0
none_left t b h = rw (length-drop b t) (either (eqb b (length t)) refl)
  where
    either : (x : Bool) → eqb b (length t) ≡ x → x ≡ eqb (length t - b) 0
    either true e = let g : b ≡ length t = eqb-true b (length t) e in sym (eq-eqb (length t - b) 0 (omega arith))
    either false e = sym (ne_eqb (length t - b) 0 (λ k. eqb-false b (length t) e (omega arith)))
