-- By which form the texts of a run are written for C, and which calls are refused before. Written from include/celestial_time.h, ct_texts_of_run: CT_TEXT is 0,
-- CT_TEXT_HALF_EVEN 1, CT_TEXT_EXPANDED 2; the table is judged first, then 18 for another form. Assumes nothing.
use Rattle.std.specs.Prelude.{ℕ, ◌≤◌, ◌≡◌, List, ℤ}
use Rattle.refusals.specs.Outcome.{Outcome, answer, refusal}
use Rattle.leap_table.specs.rows.Table.{Row}
use Rattle.utc.specs.declared.iso_texts.NamedForm.{NamedForm}
use Rattle.utc.specs.declared.iso_texts.NamedForm.TheVariants.{Standard, HalfEven, Expanded}
use Rattle.utc.specs.iso_texts.Named.{form_named}
use Rattle.utc.specs.run_texts.RunTexts.{TextsCall, texts_call, texts_by}
use Rattle.c_answers.specs.Delivery.{code}

-- the forms of text by their numbers
pub data FormOf : ℕ → NamedForm → Type 0 where
  standard : FormOf 0 Standard
  half_even : FormOf 1 HalfEven
  expanded : FormOf 2 Expanded

-- what becomes of a call with a number for the form: the cases shut each other out; a call that is refused leaves the three slices
pub data FormDecision (n : ℕ) (table : Outcome (List Row)) (js ks texts lengths numbers : List ℕ) (c : TextsCall) : Type 0 where
  table-first : (k : ℕ) → table ≡ refusal k → c ≡ texts_call (refusal k) texts lengths numbers → FormDecision n table js ks texts lengths numbers c
  other_form : (rows : List Row) → table ≡ answer rows → 3 ≤ n → c ≡ texts_call (refusal 18) texts lengths numbers
      → FormDecision n table js ks texts lengths numbers c
  by_form : (rows : List Row) (form : NamedForm) → table ≡ answer rows → FormOf n form → c ≡ texts_by (form_named form) rows js ks texts lengths numbers
      → FormDecision n table js ks texts lengths numbers c

-- a call that is refused with k: what it returned, and the three slices, which are as they were
pub record NothingWritten (k : ℕ) (texts lengths numbers : List ℕ) (r : ℤ) (texts' lengths' numbers' : List ℕ) : Type 0 where
  pub returned : r ≡ code (refusal k)
  pub first : texts' ≡ texts
  pub second : lengths' ≡ lengths
  pub third : numbers' ≡ numbers
