-- The texts of a run by the number of their form, and what a C caller gets: the code, and the three slices that are written. Written from
-- include/celestial_time.h and docs/DECISIONS.md 24. Assumes nothing.
use Rattle.std.specs.Prelude.{ℕ, ◌≡◌, cond, List, eqb, leb, ℤ}
use Rattle.refusals.specs.Outcome.{Outcome, refusal, onward}
use Rattle.leap_table.specs.rows.Table.{Row}
use Rattle.utc.specs.declared.iso_texts.NamedForm.{NamedForm}
use Rattle.utc.specs.declared.iso_texts.NamedForm.TheVariants.{Standard, HalfEven, Expanded}
use Rattle.utc.specs.iso_texts.Named.{form_named}
use Rattle.utc.specs.run_texts.RunTexts.{TextsCall, texts_call, texts_of_run}
use Rattle.c_answers.specs.Delivery.{code}

-- CT_TEXT is 0, CT_TEXT_HALF_EVEN 1 and CT_TEXT_EXPANDED 2
unfoldable pub form_numbered : ℕ → NamedForm
form_numbered n = cond (eqb n 0) Standard (cond (eqb n 1) HalfEven Expanded)

-- 18 for another number, where the table is not refused
unfoldable pub texts_by_number : ℕ → Outcome (List Row) → List ℕ → List ℕ → List ℕ → List ℕ → List ℕ → TextsCall
texts_by_number n o js ks texts lengths numbers =
    cond (leb n 2)
    (texts_of_run (form_named (form_numbered n)) o js ks texts lengths numbers)
    (texts_call (onward o (λ rows. refusal 18)) texts lengths numbers)

-- the call returned r, and the texts, the lengths and the numbers are as c says: all their bytes
pub record TextsDelivered (c : TextsCall) (r : ℤ) (texts lengths numbers : List ℕ) : Type 0 where
  pub returned : r ≡ code c.answer
  pub first : texts ≡ c.texts
  pub second : lengths ≡ c.lengths
  pub numbered : numbers ≡ c.numbers
