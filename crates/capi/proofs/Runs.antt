-- A run is delivered, and its count fits a code. Assumes nothing.
use Prim.Native.Nat.{ℕ, ◌/◌, ◌≤◌, ◌<◌, ◌^◌}
use mathlib.Core.Path.{◌≡◌, sym, ap, ◌∙◌}
use mathlib.Core.List.{List}
use lib.IntN.{ℤ}
use lib.ListN.{length}
use lib.Signed.{mag}
use mir.Syntax.{w64}
use mir.Val.{to_z, of_z}
use mir.Facts.{to_z_pos}
use Rattle.std.specs.Prelude.{Result, Ok, Err}
use Rattle.refusals.specs.declared.Refusal.{Refusal}
use Rattle.refusals.specs.Refusal.{refusal_number}
use Rattle.refusals.specs.Outcome.{Outcome, refusal, outcome, seen}
use Rattle.leap_table.specs.rows.Table.{Row}
use Rattle.runs.specs.by_formula.Run.{RunCall, run_call}
use Rattle.runs.specs.Run.{run_by, converted_run}
use Rattle.runs.specs.by_formula.Formula.{formula_run}
use Rattle.runs.proofs.by_formula.Calls.{formula_count}
use Rattle.runs.proofs.Calls.{run-count}
use Rattle.parsing.specs.run_dates.RunDates.{dates_by, dates_of_texts}
use Rattle.parsing.proofs.run_dates.Calls as Dates
use Rattle.c_answers.specs.table.TableBytes.{table_bytes}
use Rattle.c_answers.specs.Delivery.{code}
use Rattle.c_answers.proofs.table.Laws.{not-refused, refused_by, taken_by}
use Rattle.c_answers.proofs.Deliveries.{code-back}
use Rattle.capi.specs.RunDelivery.{RunDelivered}

-- a call that ends so is delivered by its code
ended : (c : RunCall) (res : Result ℕ Refusal) (r : ℤ) (out1 out2 numbers : List ℕ) → run_call (outcome res) out1 out2 numbers ≡ c → r ≡ code (outcome res)
    → RunDelivered c r out1 out2 numbers
ended c res r out1 out2 numbers e h = record {
  returned = h ∙ ap (λ (x : RunCall). code x.answer) e;
  first = ap (λ (x : RunCall). x.out1) e;
  second = ap (λ (x : RunCall). x.out2) e;
  numbered = ap (λ (x : RunCall). x.numbers) e;
}

-- a call that answers so
module _ (asked : RunCall) {out1 out2 numbers : List ℕ} (res : Result ℕ Refusal) (e : run_call (outcome res) out1 out2 numbers ≡ asked) where
  pub all-converted : (j : ℕ) → res ≡ Ok j → j < 2 ^ 63 → RunDelivered asked (to_z w64 j) out1 out2 numbers
  unfolding outcome code
  all-converted j i b = ended asked res (to_z w64 j) out1 out2 numbers e (to_z_pos w64 {n = j} b ∙ sym (ap (λ (x : Result ℕ Refusal). code (outcome x)) i))

  pub all-refused : {r : ℤ} (j : Refusal) → mag r < 2 ^ 63 → res ≡ Err j → r ≡ code (refusal (refusal_number j))
      → RunDelivered asked (to_z w64 (of_z w64 r)) out1 out2 numbers
  unfolding outcome
  all-refused {r} j ok i c = ended asked res (to_z w64 (of_z w64 r)) out1 out2 numbers e
      (code-back ok ∙ c ∙ sym (ap (λ (x : Result ℕ Refusal). code (outcome x)) i))

-- by a formula
module _ (from to : ℕ) (js ks os b1 b2 b3 : List ℕ) {out1 out2 numbers : List ℕ} (res : Result ℕ Refusal)
    (e : run_call (outcome res) out1 out2 numbers ≡ formula_run from to js ks os b1 b2 b3) where
  pub formula_counted : (j : ℕ) → res ≡ Ok j → j ≤ length js / 8
  unfolding outcome
  formula_counted j i = formula_count from to js ks os b1 b2 b3 j (sym (ap outcome i) ∙ ap (λ (x : RunCall). x.answer) e)

-- what the code reads in the bytes s: a table with these rows; the two scales, the parts and the three buffers
module _ (s : List ℕ) (rows : List Row) (lent : Result Unit Refusal) (judged : seen (λ (u : Unit). rows) lent ≡ table_bytes s) (from to : ℕ)
    (js ks b1 b2 b3 : List ℕ) where
  abbrev asked : RunCall
  asked = converted_run (table_bytes s) from to js ks b1 b2 b3

  -- the call by what is found in the bytes
  abbrev by_table : Outcome (List Row) → RunCall
  by_table x = converted_run x from to js ks b1 b2 b3

  pub run-table-refused : {r : ℤ} → mag r < 2 ^ 63 → (k : Refusal) → lent ≡ Err k → r ≡ code (refusal (refusal_number k))
      → RunDelivered asked (to_z w64 (of_z w64 r)) b1 b2 b3
  unfolding outcome converted_run
  run-table-refused {r} ok k h c =
      ended asked (Err k) (to_z w64 (of_z w64 r)) b1 b2 b3 (ap by_table (refused_by (λ (u : Unit). rows) lent judged k h)) (code-back ok ∙ c)

  module _ (h : (k : Refusal) → lent ≡ Err k → ⊥) {out1 out2 numbers : List ℕ} (res : Result ℕ Refusal)
      (e : run_call (outcome res) out1 out2 numbers ≡ run_by rows from to js ks b1 b2 b3) where
    goes : run_call (outcome res) out1 out2 numbers ≡ asked
    unfolding converted_run
    goes = e ∙ ap by_table (taken_by (λ (u : Unit). rows) lent judged tt (not-refused lent h))

    pub run-counted : (j : ℕ) → res ≡ Ok j → j ≤ length js / 8
    unfolding outcome
    run-counted j i = run-count rows from to js ks b1 b2 b3 j (sym (ap outcome i) ∙ ap (λ (x : RunCall). x.answer) e)

    pub run-converted : (j : ℕ) → res ≡ Ok j → j < 2 ^ 63 → RunDelivered asked (to_z w64 j) out1 out2 numbers
    run-converted = all-converted asked res goes

    pub run-refused : {r : ℤ} (j : Refusal) → mag r < 2 ^ 63 → res ≡ Err j → r ≡ code (refusal (refusal_number j))
        → RunDelivered asked (to_z w64 (of_z w64 r)) out1 out2 numbers
    run-refused j ok i c = all-refused asked res goes j ok i c

-- the same of texts and their lengths
module _ (s : List ℕ) (rows : List Row) (lent : Result Unit Refusal) (judged : seen (λ (u : Unit). rows) lent ≡ table_bytes s)
    (texts lengths b1 b2 b3 : List ℕ) where
  abbrev dates_asked : RunCall
  dates_asked = dates_of_texts (table_bytes s) texts lengths b1 b2 b3

  pub dates_table_refused : {r : ℤ} → mag r < 2 ^ 63 → (k : Refusal) → lent ≡ Err k → r ≡ code (refusal (refusal_number k))
      → RunDelivered dates_asked (to_z w64 (of_z w64 r)) b1 b2 b3
  unfolding outcome
  dates_table_refused {r} ok k h c =
      ended dates_asked (Err k) (to_z w64 (of_z w64 r)) b1 b2 b3
      (Dates.table-refused (table_bytes s) (refusal_number k) (refused_by (λ (u : Unit). rows) lent judged k h) texts lengths b1 b2 b3) (code-back ok ∙ c)

  module _ (h : (k : Refusal) → lent ≡ Err k → ⊥) {out1 out2 numbers : List ℕ} (res : Result ℕ Refusal)
      (e : run_call (outcome res) out1 out2 numbers ≡ dates_by rows texts lengths b1 b2 b3) where
    dates_go : run_call (outcome res) out1 out2 numbers ≡ dates_asked
    dates_go = e ∙ Dates.table_taken (table_bytes s) rows (taken_by (λ (u : Unit). rows) lent judged tt (not-refused lent h)) texts lengths b1 b2 b3

    pub dates_counted : (j : ℕ) → res ≡ Ok j → j ≤ length lengths
    unfolding outcome
    dates_counted j i = Dates.run-count rows texts lengths b1 b2 b3 j (sym (ap outcome i) ∙ ap (λ (x : RunCall). x.answer) e)

    pub dates_read : (j : ℕ) → res ≡ Ok j → j < 2 ^ 63 → RunDelivered dates_asked (to_z w64 j) out1 out2 numbers
    dates_read = all-converted dates_asked res dates_go

    pub dates_refused : {r : ℤ} (j : Refusal) → mag r < 2 ^ 63 → res ≡ Err j → r ≡ code (refusal (refusal_number j))
        → RunDelivered dates_asked (to_z w64 (of_z w64 r)) out1 out2 numbers
    dates_refused j ok i c = all-refused dates_asked res dates_go j ok i c
