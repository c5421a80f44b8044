-- A call that is lent a table: its refusal is handed on before every other, and with its rows the call goes on. Assumes nothing.
use Prim.Native.Nat.{ℕ, ◌+◌, ◌<◌, ◌≤◌, ◌^◌}
use native.Mathlib.Omega.{arith}
use mathlib.Core.Path.{◌≡◌, refl, sym, ap, subst, ◌∙◌}
use mathlib.Core.Bool.{Bool, true, false, cond}
use mathlib.Core.List.{List}
use lib.Dec.{eqb}
use lib.IntN.{ℤ, pos}
use lib.ListN.{length}
use lib.Signed.{mag}
use mir.Syntax.{w32, w64}
use mir.Val.{Fits, SFits, to_z, of_z}
use mir.Facts.{to_z_pos}
use Rattle.std.specs.Prelude.{Result, Err}
use Rattle.refusals.specs.declared.Refusal.{Refusal}
use Rattle.refusals.specs.Refusal.{refusal_number}
use Rattle.refusals.specs.Outcome.{Outcome, answer, refusal, onward, seen}
use Rattle.leap_table.specs.declared.rows.AnnouncedRows.{AnnouncedRows}
use Rattle.leap_table.specs.rows.Table.{Row, fixed_rows, most_rows}
use Rattle.leap_table.specs.rows.Announced.{rows_of, table_of}
use Rattle.leap_table.proofs.rows.TableLaws.{lengths}
use Rattle.c_answers.specs.table.TableBytes.{of_length, table_bytes}
use Rattle.c_answers.proofs.table.Laws.{not-refused, taken_by, not_taken, gone-on}
use Rattle.utc.specs.iso_texts.TextCall.{written, buffer_holds}
use Rattle.c_answers.specs.Delivery.{code, in_bytes, Delivered}
use Rattle.c_answers.proofs.Deliveries.{code-back, refused-on, same_outcome}

-- the rows t that the code finds in the bytes s, and what it says of them
module _ (s : List ℕ) (t : AnnouncedRows) (j : Result Unit Refusal) (e : seen (λ (u : Unit). rows_of t) j ≡ of_length (length s) (table_of t))
    (f : of_length (length s) (table_of t) ≡ table_bytes s) where
  -- ---- an answer in bytes
  module _ {A : Type 0} (bytes : A → List ℕ) (next : List Row → Outcome A) {r : ℤ} (ok : mag r < 2 ^ 63) where
    pub table-refused : {l : List ℕ} (k : Refusal) → j ≡ Err k → r ≡ code (refusal (refusal_number k))
        → Delivered (in_bytes bytes (onward (table_bytes s) next)) l (to_z w64 (of_z w64 r)) l
    table-refused k h c = refused-on bytes ok (refusal_number k) (not_taken (λ (u : Unit). rows_of t) j (e ∙ f) next k h) c

    pub with_rows : {o : Outcome A} {l out : List ℕ} → ((k : Refusal) → j ≡ Err k → ⊥) → o ≡ next (rows_of t) → Delivered (in_bytes bytes o) l r out
        → Delivered (in_bytes bytes (onward (table_bytes s) next)) l (to_z w64 (of_z w64 r)) out
    with_rows h p d = same_outcome bytes ok (p ∙ gone-on (λ (u : Unit). rows_of t) j (e ∙ f) next tt (not-refused j h)) d

  -- ---- a text
  module _ (next : List Row → Outcome (List ℕ)) where
    pub text-table-refused : {r : ℤ} {l : List ℕ} → mag r < 2 ^ 63 → (k : Refusal) → j ≡ Err k → r ≡ code (refusal (refusal_number k))
        → Delivered (onward (table_bytes s) next) l (to_z w64 (of_z w64 r)) l
    unfolding onward written buffer_holds
    text-table-refused {r} {l} ok k h c =
        subst (λ (o : Outcome (List ℕ)). Delivered o l (to_z w64 (of_z w64 r)) l) (sym (not_taken (λ (u : Unit). rows_of t) j (e ∙ f) next k h))
        (record { returned = code-back ok ∙ c; holds = refl })

    pub text-with-rows : {r : ℤ} {l out : List ℕ} → ((k : Refusal) → j ≡ Err k → ⊥) → Delivered (next (rows_of t)) l r out
        → Delivered (onward (table_bytes s) next) l r out
    text-with-rows {r} {l} {out} h d =
        subst (λ (o : Outcome (List ℕ)). Delivered o l r out) (gone-on (λ (u : Unit). rows_of t) j (e ∙ f) next tt (not-refused j h)) d

  -- ---- how many rows there are
  pub count-refused : {r : ℤ} → mag r < 2 ^ 63 → (k : Refusal) → j ≡ Err k → r ≡ code (refusal (refusal_number k))
      → to_z w64 (of_z w64 r) ≡ code (onward (table_bytes s) (λ rows. answer (length rows)))
  count-refused ok k h c =
      code-back ok ∙ c ∙ sym (ap code (not_taken (λ (u : Unit). rows_of t) j (e ∙ f) (λ rows. answer (length rows)) k h))

  pub is-taken : ((k : Refusal) → j ≡ Err k → ⊥) → table_of t ≡ answer (rows_of t)
  unfolding of_length
  is-taken h = go (eqb (length s) 136) (taken_by (λ (u : Unit). rows_of t) j e tt (not-refused j h))
    where
      go : (b : Bool) → answer (rows_of t) ≡ cond b (table_of t) (refusal 14) → table_of t ≡ answer (rows_of t)
      go true p = sym p
      go false p = absurd (let z : ◌≡◌ {A = ℕ} 0 1 = cc in let no : ⊥ = omega arith in no)

  module _ (h : (k : Refusal) → j ≡ Err k → ⊥) where
    counted : (length (rows_of t) ≡ fixed_rows + t.months_size) × (length (rows_of t) ≤ most_rows)
    counted = lengths t (rows_of t) (is-taken h)

    pub count_fits : Fits w32 (fixed_rows + t.months_size)
    count_fits = record { fits = omega (arith, counted.0, counted.1) }

    pub count-fits-code : SFits w64 (pos (fixed_rows + t.months_size))
    count-fits-code = record { sfits = omega (arith, counted.0, counted.1) }

    pub count-answered : to_z w64 (fixed_rows + t.months_size) ≡ code (onward (table_bytes s) (λ rows. answer (length rows)))
    unfolding code
    count-answered =
        to_z_pos w64 {n = fixed_rows + t.months_size} (omega (arith, counted.0, counted.1))
        ∙ ap pos (sym counted.0)
        ∙ ap code (gone-on (λ (u : Unit). rows_of t) j (e ∙ f) (λ rows. answer (length rows)) tt (not-refused j h))
