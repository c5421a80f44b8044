-- The texts of a run for C: the forms 0, 1 and 2 are document 01's, that with halves to even and that with expanded years; every other number is refused with
-- 18, a refused table before it, and neither writes a byte. Assumes nothing.
use Prim.Native.Nat.{ℕ, zero, suc, ◌/◌}
use native.Mathlib.Omega.{arith}
use mathlib.Core.Path.{◌≡◌, refl, sym, ap, ◌∙◌}
use mathlib.Core.Bool.{Bool, true, false, cond}
use mathlib.Core.List.{List, []}
use lib.Dec.{eqb, leb}
use lib.IntN.{ℤ}
use lib.ListN.{length}
use borrow.Author.Tests.{lt-leb}
use Rattle.refusals.specs.Outcome.{Outcome, answer, refusal, onward}
use Rattle.leap_table.specs.rows.Table.{Row}
use Rattle.utc.specs.declared.iso_texts.NamedForm.TheVariants.{Standard, HalfEven, Expanded}
use Rattle.utc.specs.iso_texts.Named.{form_named}
use Rattle.utc.specs.iso_texts.TextForm.{TextForm}
use Rattle.utc.specs.run_texts.RunTexts.{TextsCall, texts_call, texts_of_run, texts_by, texts_written, texts_refusal, texts_refused, stamp_text}
use Rattle.utc.specs.run_texts.RunTexts.{with_texts, with_bytes}
use Rattle.c_answers.specs.Delivery.{code}
use Rattle.capi.specs.TextsDelivery.{form_numbered, texts_by_number, TextsDelivered}
use Rattle.capi.specs.laws.TextForms.{standard, half_even, expanded, FormDecision, table-first, other_form, by_form, NothingWritten}

-- THE FORMS by their numbers
pub forms_numbered : (form_numbered 0 ≡ Standard) × (form_numbered 1 ≡ HalfEven) × (form_numbered 2 ≡ Expanded)
unfolding form_numbered
forms_numbered = (refl, refl, refl)

-- WHICH FORM A CALL WRITES, and which is refused before: a refused table, then a number from 3 on
pub form-decided : (n : ℕ) (table : Outcome (List Row)) (js ks texts lengths numbers : List ℕ)
    → FormDecision n table js ks texts lengths numbers (texts_by_number n table js ks texts lengths numbers)
unfolding texts_by_number texts_of_run form_numbered onward
form-decided n (refusal k) js ks texts lengths numbers = table-first k refl (either (leb n 2))
  where
    either : (b : Bool) → cond b (texts_call (refusal k) texts lengths numbers) (texts_call (refusal k) texts lengths numbers)
        ≡ texts_call (refusal k) texts lengths numbers
    either true = refl
    either false = refl
form-decided n (answer rows) js ks texts lengths numbers = by n
  where
    by : (n : ℕ) → FormDecision n (answer rows) js ks texts lengths numbers (texts_by_number n (answer rows) js ks texts lengths numbers)
    by zero = by_form rows Standard refl standard refl
    by (suc zero) = by_form rows HalfEven refl half_even refl
    by (suc (suc zero)) = by_form rows Expanded refl expanded refl
    by (suc (suc (suc m))) = other_form rows refl (omega arith) (rw (lt-leb (suc (suc (suc m))) 2 (omega arith)))

-- the last number of a form and the first that is none, of no stamp; and a refused table before it
pub forms_at_their_end : (rows : List Row) → (texts_by_number 2 (answer rows) [] [] [] [] [] ≡ texts_call (answer 0) [] [] [])
    × (texts_by_number 3 (answer rows) [] [] [] [] [] ≡ texts_call (refusal 18) [] [] []) × (texts_by_number 3 (refusal 14) [] [] [] [] []
    ≡ texts_call (refusal 14) [] [] [])
unfolding texts_by_number texts_of_run onward texts_by texts_refusal texts_written texts_refused with_texts with_bytes
forms_at_their_end rows = (refl, refl, refl)

-- ---- A CALL THAT IS REFUSED, by its table, its form or its lengths, writes nothing
lengths-refused : (form : TextForm) (rows : List Row) (js ks texts lengths numbers : List ℕ) (k : ℕ)
    → (texts_by form rows js ks texts lengths numbers).answer ≡ refusal k
    → texts_by form rows js ks texts lengths numbers ≡ texts_call (refusal k) texts lengths numbers
unfolding texts_by texts_written
lengths-refused form rows js ks texts lengths numbers k e = by (eqb number 0) e
  where
    number : ℕ
    number = texts_refusal (length js) (length ks) (length texts) (length lengths) (length numbers)

    call : Bool → TextsCall
    call b = cond b (texts_written (stamp_text form rows js ks) (length js / 8) texts lengths numbers) (texts_call (refusal number) texts lengths numbers)

    by : (b : Bool) → (call b).answer ≡ refusal k → call b ≡ texts_call (refusal k) texts lengths numbers
    by true q = let z : ◌≡◌ {A = ℕ} 0 1 = cc q in let w : ⊥ = omega arith in absurd w
    by false q = ap (λ (o : Outcome ℕ). texts_call o texts lengths numbers) q

call-refused : (n : ℕ) (table : Outcome (List Row)) (js ks texts lengths numbers : List ℕ) (k : ℕ) (c : TextsCall)
    → FormDecision n table js ks texts lengths numbers c → c.answer ≡ refusal k → c ≡ texts_call (refusal k) texts lengths numbers
call-refused n table js ks texts lengths numbers k c (table-first m e q) h =
    q ∙ ap (λ (o : Outcome ℕ). texts_call o texts lengths numbers) (sym (ap (λ (x : TextsCall). x.answer) q) ∙ h)
call-refused n table js ks texts lengths numbers k c (other_form rows e g q) h =
    q ∙ ap (λ (o : Outcome ℕ). texts_call o texts lengths numbers) (sym (ap (λ (x : TextsCall). x.answer) q) ∙ h)
call-refused n table js ks texts lengths numbers k c (by_form rows form e g q) h =
    q ∙ lengths-refused (form_named form) rows js ks texts lengths numbers k (sym (ap (λ (x : TextsCall). x.answer) q) ∙ h)

pub refused-writes-nothing : (n : ℕ) (table : Outcome (List Row)) (js ks texts lengths numbers : List ℕ) (r : ℤ) (texts' lengths' numbers' : List ℕ)
    → TextsDelivered (texts_by_number n table js ks texts lengths numbers) r texts' lengths' numbers' → (k : ℕ)
    → (texts_by_number n table js ks texts lengths numbers).answer ≡ refusal k → NothingWritten k texts lengths numbers r texts' lengths' numbers'
refused-writes-nothing n table js ks texts lengths numbers r texts' lengths' numbers' d k e =
    let c = texts_by_number n table js ks texts lengths numbers in
    let q = call-refused n table js ks texts lengths numbers k c (form-decided n table js ks texts lengths numbers) e in
    record {
      returned = d.returned ∙ ap code e;
      first = d.first ∙ ap (λ (x : TextsCall). x.texts) q;
      second = d.second ∙ ap (λ (x : TextsCall). x.lengths) q;
      third = d.numbered ∙ ap (λ (x : TextsCall). x.numbers) q;
    }
