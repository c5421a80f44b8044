-- The records of three runs are read, and the summary and what to look at are delivered. Assumes nothing.
use Prim.Native.Nat.{ℕ, zero, suc, ◌<◌, ◌^◌}
use native.Mathlib.Omega.{arith}
use mathlib.Core.Path.{◌≡◌, refl, sym, ap, subst, ◌∙◌}
use mathlib.Core.List.{List}
use lib.IntN.{ℤ}
use lib.ListN.{length}
use lib.Signed.{mag}
use mir.Syntax.{w64}
use mir.Val.{to_z, of_z}
use Rattle.std.specs.Prelude.{Result, Err}
use Rattle.refusals.specs.declared.Refusal.{Refusal}
use Rattle.refusals.specs.Refusal.{refusal_number}
use Rattle.refusals.specs.Outcome.{Outcome, answer, refusal, onward, number_said}
use Rattle.refusals.proofs.Handed.{number_low}
use Rattle.numerals.specs.little_endian.LittleEndian.{u64_at}
use Rattle.leap_table.specs.rows.Table.{Row}
use Rattle.leap_table.specs.declared.rows.AnnouncedRows.{AnnouncedRows}
use Rattle.leap_table.specs.rows.Announced.{unless_refused, rows_of, table_of}
use Rattle.utc.specs.iso_texts.TextCall.{written, buffer_holds}
use Rattle.line_listing.specs.declared.head.RunEnd.{RunEnd}
use Rattle.line_listing.specs.lines.StampLine.{stamps}
use Rattle.line_listing.specs.summary.Look.{look_of}
use Rattle.line_listing.specs.summary.Summary.{summary_text}
use Rattle.c_answers.specs.Delivery.{code, Delivered}
use Rattle.c_answers.proofs.table.Laws.{not-refused}
use Rattle.c_answers.proofs.Deliveries.{code-back}
use Rattle.capi.specs.SummaryDelivery.{run_record, runs_refusal, summary_of, look_at}

-- ---- arguments that are judged
refused-by : {A : Type 0} (k : ℕ) (a : A) → (k ≡ 0 → ⊥) → unless_refused k a ≡ refusal k
refused-by zero a h = absurd (h refl)
refused-by (suc k) a h = refl

module _ {A : Type 0} (j : Result Unit Refusal) {n : ℕ} (e : number_said j ≡ n) (a : A) where
  pub judged-out : (k : Refusal) → j ≡ Err k → unless_refused n a ≡ refusal (refusal_number k)
  unfolding number_said
  judged-out k h =
      ap (λ (x : ℕ). unless_refused x a) (sym e ∙ ap (λ (x : Result Unit Refusal). number_said x) h)
      ∙ refused-by (refusal_number k) a (λ z. let low = number_low k in omega (arith, low, z))

  pub judged-in : ((k : Refusal) → j ≡ Err k → ⊥) → unless_refused n a ≡ answer a
  unfolding number_said
  judged-in h = ap (λ (x : ℕ). unless_refused x a) (sym e ∙ ap (λ (x : Result Unit Refusal). number_said x) (not-refused j h))

-- ---- the calls, by what is found of the records and the lengths
module _ (known : ℕ) (b js ks ns : List ℕ) (rows : List Row) (j : Result Unit Refusal) (e : number_said j ≡ runs_refusal b (length js) (length ks) (length ns))
  where
    pub summary_refused : {r : ℤ} {l : List ℕ} → mag r < 2 ^ 63 → (k : Refusal) → j ≡ Err k → r ≡ code (refusal (refusal_number k))
        → Delivered (summary_of known b js ks ns rows) l (to_z w64 (of_z w64 r)) l
    unfolding summary_of onward written buffer_holds
    summary_refused {r} {l} ok k h c =
        subst (λ (o : Outcome (List ℕ)). Delivered o l (to_z w64 (of_z w64 r)) l)
        (sym (judged-out j e (summary_text rows known (run_record b 0) (run_record b 32) (run_record b 64) (stamps js ks ns (u64_at b 0) (u64_at b 32))) k h))
        (record { returned = code-back ok ∙ c; holds = refl })

    pub look_refused : (k : Refusal) → j ≡ Err k → refusal (refusal_number k) ≡ look_at known b js ks ns rows
    unfolding look_at
    look_refused k h = sym (judged-out j e _ k h)

    module _ (z : (k : Refusal) → j ≡ Err k → ⊥) (gps tai utc : RunEnd) (first second : ℕ) (f : first ≡ u64_at b 0) (s : second ≡ u64_at b 32)
        (g : gps ≡ run_record b 0) (t : tai ≡ run_record b 32) (u : utc ≡ run_record b 64) where
      pub summary_taken : answer (summary_text rows known gps tai utc (stamps js ks ns first second)) ≡ summary_of known b js ks ns rows
      unfolding summary_of
      summary_taken = (λ i. answer (summary_text rows known (g i) (t i) (u i) (stamps js ks ns (f i) (s i)))) ∙ sym (judged-in j e _ z)

      pub look_taken : answer (look_of rows known gps tai utc (stamps js ks ns first second)) ≡ look_at known b js ks ns rows
      unfolding look_at
      look_taken = (λ i. answer (look_of rows known (g i) (t i) (u i) (stamps js ks ns (f i) (s i)))) ∙ sym (judged-in j e _ z)

-- ---- handed on
pub delivered_as : {o o' : Outcome (List ℕ)} {l out : List ℕ} {r : ℤ} → o ≡ o' → Delivered o l r out → Delivered o' l r out
delivered_as {o} {o'} {l} {out} {r} e d = subst (λ (q : Outcome (List ℕ)). Delivered q l r out) e d

pub taken-on : {A : Type 0} (t : AnnouncedRows) → table_of t ≡ answer (rows_of t) → (next : List Row → Outcome A) → onward (table_of t) next ≡ next (rows_of t)
unfolding onward
taken-on t e next = ap (λ (o : Outcome (List Row)). onward o next) e
