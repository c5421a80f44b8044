-- The texts of a run are delivered, and their count fits a code. Assumes nothing.
use Prim.Native.Nat.{ℕ, ◌/◌, ◌≤◌, ◌<◌, ◌^◌}
use mathlib.Core.Path.{◌≡◌, sym, ap, ◌∙◌}
use mathlib.Core.Bool.{Bool, true, false, cond}
use mathlib.Core.List.{List}
use lib.Dec.{leb}
use lib.IntN.{ℤ}
use lib.ListN.{length}
use lib.Signed.{mag}
use mir.Syntax.{w64}
use mir.Val.{to_z, of_z}
use mir.Facts.{to_z_pos}
use borrow.Author.Tests.{le-leb, lt-leb}
use Rattle.std.specs.Prelude.{Result, Ok, Err}
use Rattle.refusals.specs.declared.Refusal.{Refusal}
use Rattle.refusals.specs.declared.Refusal.TheVariants as R
use Rattle.refusals.specs.Refusal.{refusal_number}
use Rattle.refusals.specs.Outcome.{Outcome, refusal, onward, outcome, seen}
use Rattle.leap_table.specs.rows.Table.{Row}
use Rattle.utc.specs.declared.iso_texts.NamedForm.{NamedForm}
use Rattle.utc.specs.iso_texts.Named.{form_named}
use Rattle.utc.specs.run_texts.RunTexts.{TextsCall, texts_call, texts_by, texts_of_run}
use Rattle.utc.proofs.run_texts.Calls.{run-count, table-refused, table_taken}
use Rattle.c_answers.specs.table.TableBytes.{table_bytes}
use Rattle.c_answers.specs.Delivery.{code}
use Rattle.c_answers.proofs.table.Laws.{not-refused, refused_by, taken_by}
use Rattle.c_answers.proofs.Deliveries.{code-back}
use Rattle.capi.specs.TextsDelivery.{form_numbered, texts_by_number, TextsDelivered}

-- a call that ends so is delivered by its code
ended : (c : TextsCall) (res : Result ℕ Refusal) (r : ℤ) (texts lengths numbers : List ℕ) → texts_call (outcome res) texts lengths numbers ≡ c
    → r ≡ code (outcome res) → TextsDelivered c r texts lengths numbers
ended c res r texts lengths numbers e h = record {
  returned = h ∙ ap (λ (x : TextsCall). code x.answer) e;
  first = ap (λ (x : TextsCall). x.texts) e;
  second = ap (λ (x : TextsCall). x.lengths) e;
  numbered = ap (λ (x : TextsCall). x.numbers) e;
}

-- what is said where there is no such form
abbrev no_form : Outcome (List Row) → Outcome ℕ
no_form o = onward o (λ rows. refusal 18)

-- what the code reads in the bytes s: a table with these rows; the form's number, the parts and the three buffers
module _ (s : List ℕ) (rows : List Row) (lent : Result Unit Refusal) (judged : seen (λ (u : Unit). rows) lent ≡ table_bytes s) (f : ℕ)
    (js ks b1 b2 b3 : List ℕ) where
  abbrev asked : TextsCall
  asked = texts_by_number f (table_bytes s) js ks b1 b2 b3

  -- the table is refused, whatever the form
  pub texts-table-refused : {r : ℤ} → mag r < 2 ^ 63 → (k : Refusal) → lent ≡ Err k → r ≡ code (refusal (refusal_number k))
      → TextsDelivered asked (to_z w64 (of_z w64 r)) b1 b2 b3
  unfolding texts_by_number outcome onward
  texts-table-refused {r} ok k h c = go (leb f 2)
    where
      by_none : texts_call (refusal (refusal_number k)) b1 b2 b3 ≡ texts_call (no_form (table_bytes s)) b1 b2 b3
      by_none = ap (λ (x : Outcome (List Row)). texts_call (no_form x) b1 b2 b3) (refused_by (λ (u : Unit). rows) lent judged k h)

      go : (b : Bool) → TextsDelivered (cond b (texts_of_run (form_named (form_numbered f)) (table_bytes s) js ks b1 b2 b3)
          (texts_call (no_form (table_bytes s)) b1 b2 b3)) (to_z w64 (of_z w64 r)) b1 b2 b3
      go true = ended _ (Err k) (to_z w64 (of_z w64 r)) b1 b2 b3
          (table-refused (table_bytes s) (refusal_number k) (refused_by (λ (u : Unit). rows) lent judged k h) (form_named (form_numbered f)) js ks b1
          b2 b3) (code-back ok ∙ c)
      go false = ended _ (Err k) (to_z w64 (of_z w64 r)) b1 b2 b3 by_none (code-back ok ∙ c)

  -- there is no such form
  pub texts-form-refused : {r : ℤ} → mag r < 2 ^ 63 → ((k : Refusal) → lent ≡ Err k → ⊥) → 2 < f → r ≡ code (refusal (refusal_number R.OutOfLimit))
      → TextsDelivered asked (to_z w64 (of_z w64 r)) b1 b2 b3
  unfolding texts_by_number outcome onward refusal_number
  texts-form-refused {r} ok h k c =
      ended asked (Err R.OutOfLimit) (to_z w64 (of_z w64 r)) b1 b2 b3
      (ap (λ (x : Outcome (List Row)). texts_call (no_form x) b1 b2 b3) (taken_by (λ (u : Unit). rows) lent judged tt (not-refused lent h)) ∙ rw (lt-leb f 2 k))
      (code-back ok ∙ c)

  module _ (h : (k : Refusal) → lent ≡ Err k → ⊥) (k : f ≤ 2) (form : NamedForm) (same : form ≡ form_numbered f) {texts lengths numbers : List ℕ}
      (res : Result ℕ Refusal) (e : texts_call (outcome res) texts lengths numbers ≡ texts_by (form_named form) rows js ks b1 b2 b3) where
    goes : texts_call (outcome res) texts lengths numbers ≡ asked
    unfolding texts_by_number
    goes = e ∙ ap (λ (x : NamedForm). texts_by (form_named x) rows js ks b1 b2 b3) same
        ∙ table_taken (table_bytes s) rows (taken_by (λ (u : Unit). rows) lent judged tt (not-refused lent h)) (form_named (form_numbered f)) js ks
        b1 b2 b3 ∙ rw (le-leb f 2 k)

    pub texts-counted : (j : ℕ) → res ≡ Ok j → j ≤ length js / 8
    unfolding outcome
    texts-counted j i = run-count (form_named form) rows js ks b1 b2 b3 j (sym (ap outcome i) ∙ ap (λ (x : TextsCall). x.answer) e)

    pub texts-written : (j : ℕ) → res ≡ Ok j → j < 2 ^ 63 → TextsDelivered asked (to_z w64 j) texts lengths numbers
    unfolding outcome code
    texts-written j i b =
        ended asked res (to_z w64 j) texts lengths numbers goes (to_z_pos w64 {n = j} b ∙ sym (ap (λ (x : Result ℕ Refusal). code (outcome x)) i))

    pub texts-refused : {r : ℤ} (j : Refusal) → mag r < 2 ^ 63 → res ≡ Err j → r ≡ code (refusal (refusal_number j))
        → TextsDelivered asked (to_z w64 (of_z w64 r)) texts lengths numbers
    unfolding outcome
    texts-refused {r} j ok i c =
        ended asked res (to_z w64 (of_z w64 r)) texts lengths numbers goes (code-back ok ∙ c ∙ sym (ap (λ (x : Result ℕ Refusal). code (outcome x)) i))
