-- A walk through the table is delivered, and its count fits a code. Assumes nothing.
use Prim.Native.Nat.{ℕ, ◌+◌, ◌/◌, ◌%◌, ◌≤◌, ◌<◌, ◌^◌}
use native.Mathlib.Omega.{arith}
use mathlib.Core.Path.{◌≡◌, refl, sym, ap, subst, ◌∙◌}
use mathlib.Core.Bool.{Bool, cond}
use mathlib.Core.List.{List}
use lib.Dec.{eqb}
use lib.ListN.{length}
use lib.IntN.{ℤ}
use lib.Signed.{mag}
use borrow.Author.Tests.{eq-eqb}
use mir.Syntax.{w64}
use mir.Val.{to_z, of_z}
use mir.Facts.{to_z_pos}
use Rattle.std.specs.Prelude.{Result, Ok, Err}
use Rattle.refusals.specs.declared.Refusal.{Refusal}
use Rattle.refusals.specs.declared.Refusal.TheVariants as R
use Rattle.refusals.specs.Refusal.{refusal_number}
use Rattle.refusals.specs.Outcome.{Outcome, answer, refusal, onward, outcome}
use Rattle.leap_table.specs.declared.rows.AnnouncedRows.{AnnouncedRows}
use Rattle.leap_table.specs.rows.Table.{Row, most_rows}
use Rattle.leap_table.specs.rows.Announced.{table_of}
use Rattle.leap_table.specs.walk.Walk.{Walked}
use Rattle.leap_table.specs.judging.Lists.{dates_from, triple_in}
use Rattle.leap_table.specs.walk.Lists.{walk_of_bytes, in_eights}
use Rattle.leap_table.specs.walk.Call.{list_after, WalkCall}
use Rattle.leap_table.proofs.judging.Judges.{how_many}
use Rattle.leap_table.proofs.walk.Codes.{count_most}
use Rattle.c_answers.specs.table.TableBytes.{of_length, table_bytes}
use Rattle.c_answers.proofs.table.Laws.{other_length}
use Rattle.c_answers.specs.Delivery.{code}
use Rattle.c_answers.proofs.Deliveries.{code-back}
use Rattle.capi.specs.WalkDelivery.{WalkDelivered}

-- the bytes s of the table; the dates and the buffer
module _ (s : List ℕ) (dates l : List ℕ) where
  abbrev next : List Row → Outcome Walked
  next rows = walk_of_bytes rows dates (length l)

  pub walk-length-refused : {r : ℤ} → mag r < 2 ^ 63 → (length s ≡ 136 → ⊥) → r ≡ code (refusal (refusal_number R.LengthWrong))
      → WalkDelivered (onward (table_bytes s) next) l (to_z w64 (of_z w64 r)) l
  unfolding onward list_after refusal_number
  walk-length-refused {r} ok h c =
      subst (λ (o : Outcome (List Row)). WalkDelivered (onward o next) l (to_z w64 (of_z w64 r)) l) (sym (other_length s h))
      (record { returned = code-back ok ∙ c; holds = refl })

  -- the rows t that the code finds in them
  module _ (h : length s ≡ 136) (t : AnnouncedRows) (f : of_length (length s) (table_of t) ≡ table_bytes s) {out : List ℕ} (res : Result ℕ Refusal)
      (p : WalkCall in_eights (onward (table_of t) next) l res out) where
    table-in : table_of t ≡ table_bytes s
    unfolding of_length
    table-in = ap (λ (b : Bool). cond b (table_of t) (refusal 14)) (sym (eq-eqb (length s) 136 h)) ∙ f

    delivered : (r : ℤ) → r ≡ code (outcome res) → WalkDelivered (onward (table_bytes s) next) l r out
    delivered r c =
        subst (λ (o : Outcome (List Row)). WalkDelivered (onward o next) l r out) table-in
        (record { returned = c ∙ ap code p.says; holds = p.holds })

    pub walk-count : (k : ℕ) → res ≡ Ok k → k ≤ length dates / 12 + most_rows
    unfolding outcome
    walk-count k i =
        let q : answer k ≡ onward (onward (table_of t) next) (λ w. answer w.rows_compared) = sym (ap outcome i) ∙ p.says in
        omega (
          arith,
          count_most t (eqb (length dates % 12) 0) (dates_from (triple_in dates) 0 (length dates / 12)) (length l / 8) k q,
          how_many (triple_in dates) (length dates / 12) 0,
        )

    pub walk-compared : (k : ℕ) → res ≡ Ok k → k < 2 ^ 63 → WalkDelivered (onward (table_bytes s) next) l (to_z w64 k) out
    unfolding outcome code
    walk-compared k i b = delivered (to_z w64 k) (to_z_pos w64 {n = k} b ∙ sym (ap (λ (x : Result ℕ Refusal). code (outcome x)) i))

    pub walk_refused : {r : ℤ} (k : Refusal) → mag r < 2 ^ 63 → res ≡ Err k → r ≡ code (refusal (refusal_number k))
        → WalkDelivered (onward (table_bytes s) next) l (to_z w64 (of_z w64 r)) out
    unfolding outcome
    walk_refused {r} k ok i c = delivered (to_z w64 (of_z w64 r)) (code-back ok ∙ c ∙ sym (ap (λ (x : Result ℕ Refusal). code (outcome x)) i))
