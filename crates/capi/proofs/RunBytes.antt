-- The stamps of a recorder's run are delivered, and their count fits a code; its size in four numbers. Assumes nothing.
use Prim.Native.Nat.{ℕ, ◌≤◌, ◌<◌, ◌^◌}
use native.Mathlib.Omega.{arith}
use mathlib.Core.Path.{◌≡◌, sym, ap, ◌∙◌}
use mathlib.Core.List.{List, ◌++◌}
use lib.IntN.{ℤ}
use lib.ListN.{length, drop}
use lib.Seq.{sets, sets-eq, length-sets}
use lib.Signed.{mag}
use mir.Syntax.{w64}
use mir.Val.{to_z, of_z}
use mir.Facts.{to_z_pos}
use borrow.Author.Tests.{le-leb, lt-leb}
use Rattle.std.specs.Prelude.{Result, Ok, Err}
use Rattle.refusals.specs.declared.Refusal.{Refusal}
use Rattle.refusals.specs.declared.Refusal.TheVariants as R
use Rattle.refusals.specs.Refusal.{refusal_number}
use Rattle.refusals.specs.Outcome.{answer, refusal, outcome, seen}
use Rattle.refusals.proofs.Handed.{answered}
use Rattle.numerals.specs.little_endian.LittleEndian.{eight_bytes, with_nth64}
use Rattle.numerals.proofs.little_endian.Puts.{put-64-is}
use Rattle.leap_table.specs.rows.Table.{Row}
use Rattle.runs.specs.by_formula.Run.{RunCall, run_call}
use Rattle.line_listing.specs.declared.taken.RunSize.{RunSize}
use Rattle.line_listing.specs.taken.Run.{run_blocks, blocks_bytes}
use Rattle.line_listing.specs.taken.Call.{size_of, taken_by, taken_call}
use Rattle.line_listing.proofs.taken.Blocks.{blocks_fit}
use Rattle.line_listing.proofs.taken.Steps.{table-refused, table_taken, call-count}
use Rattle.c_answers.specs.table.TableBytes.{table_bytes}
use Rattle.c_answers.specs.Delivery.{code}
use Rattle.c_answers.proofs.table.Laws.{not-refused, refused_by, taken_by as rows-taken}
use Rattle.c_answers.proofs.Deliveries.{code-back}
use Rattle.capi.specs.RunDelivery.{RunDelivered}
use Rattle.capi.specs.RunSizeDelivery.{size_bytes, SizeDelivered}
use Rattle.capi.proofs.Runs.{all-converted, all-refused}

-- what the code reads in the bytes t: a table with these rows; the scale, the run and the three buffers
module _ (t : List ℕ) (rows : List Row) (lent : Result Unit Refusal) (judged : seen (λ (u : Unit). rows) lent ≡ table_bytes t) (scale : ℕ)
    (s b1 b2 b3 : List ℕ) where
  abbrev asked : RunCall
  asked = taken_call (table_bytes t) scale s b1 b2 b3

  pub take_table_refused : {r : ℤ} → mag r < 2 ^ 63 → (k : Refusal) → lent ≡ Err k → r ≡ code (refusal (refusal_number k))
      → RunDelivered asked (to_z w64 (of_z w64 r)) b1 b2 b3
  unfolding outcome
  take_table_refused {r} ok k h c =
      all-refused asked (Err k) (table-refused (table_bytes t) (refusal_number k) (refused_by (λ (u : Unit). rows) lent judged k h) scale s b1 b2 b3)
      k ok (λ i. Err k) c

  module _ (h : (k : Refusal) → lent ≡ Err k → ⊥) {out1 out2 numbers : List ℕ} (res : Result ℕ Refusal)
      (e : run_call (outcome res) out1 out2 numbers ≡ taken_by rows scale (run_blocks s).sizes s b1 b2 b3) where
    goes : run_call (outcome res) out1 out2 numbers ≡ asked
    goes = e ∙ table_taken (table_bytes t) rows (rows-taken (λ (u : Unit). rows) lent judged tt (not-refused lent h)) scale s b1 b2 b3

    pub take_counted : (j : ℕ) → res ≡ Ok j → j ≤ length s
    take_counted j i = call-count rows scale s b1 b2 b3 j (sym (answered i) ∙ ap (λ (x : RunCall). x.answer) e)

    pub take_converted : (j : ℕ) → res ≡ Ok j → j < 2 ^ 63 → RunDelivered asked (to_z w64 j) out1 out2 numbers
    take_converted = all-converted asked res goes

    pub take_refused : {r : ℤ} (j : Refusal) → mag r < 2 ^ 63 → res ≡ Err j → r ≡ code (refusal (refusal_number j))
        → RunDelivered asked (to_z w64 (of_z w64 r)) out1 out2 numbers
    take_refused j ok i c = all-refused asked res goes j ok i c

-- ---- how large a run is
pub size-short : (z : RunSize) (l : List ℕ) {r : ℤ} → length l < 32 → mag r < 2 ^ 63 → r ≡ code (refusal (refusal_number R.NoRoom))
    → SizeDelivered z l (to_z w64 (of_z w64 r)) l
unfolding refusal_number
size-short z l {r} h ok c = record { returned = rw (lt-leb 32 (length l) h) (code-back ok ∙ c); holds = rw (lt-leb 32 (length l) h) }

-- four numbers, one after the other
four-numbers : (l : List ℕ) (a b c d : ℕ) → 32 ≤ length l → with_nth64 (with_nth64 (with_nth64 (with_nth64 l 0 a) 1 b) 2 c) 3 d
    ≡ (eight_bytes a ++ (eight_bytes b ++ (eight_bytes c ++ eight_bytes d))) ++ drop 32 l
four-numbers l a b c d h =
    ap (λ (x : List ℕ). with_nth64 (with_nth64 (with_nth64 x 1 b) 2 c) 3 d) (put-64-is l 0 a (omega arith))
    ∙ ap (λ (x : List ℕ). with_nth64 (with_nth64 x 2 c) 3 d) (put-64-is (sets l 0 (eight_bytes a)) 1 b (omega (arith, length-sets l 0 (eight_bytes a))))
    ∙ ap (λ (x : List ℕ). with_nth64 x 3 d) (put-64-is (sets l 0 (eight_bytes a ++ eight_bytes b)) 2 c (omega (
      arith,
      length-sets l 0 (eight_bytes a ++ eight_bytes b),
    )))
    ∙ put-64-is (sets l 0 (eight_bytes a ++ (eight_bytes b ++ eight_bytes c))) 3 d (omega (
      arith,
      length-sets l 0 (eight_bytes a ++ (eight_bytes b ++ eight_bytes
          c)),
    ))
    ∙ sets-eq (eight_bytes a ++ (eight_bytes b ++ (eight_bytes c ++ eight_bytes d))) l 0 h

bytes-few : (s : List ℕ) (z : RunSize) → z ≡ size_of (run_blocks s) → z.bytes ≤ length s
unfolding size_of
bytes-few s z e = let q : z.bytes ≡ blocks_bytes (run_blocks s).sizes = ap (λ (x : RunSize). x.bytes) e in omega (arith, blocks_fit s)

module _ (s : List ℕ) (z : RunSize) (e : z ≡ size_of (run_blocks s)) where
  pub size_fits : z.bytes ≤ length s
  size_fits = bytes-few s z e

  pub size-put : (l l1 l2 l3 l4 : List ℕ) → 32 ≤ length l → l1 ≡ with_nth64 l 0 z.stamps → l2 ≡ with_nth64 l1 1 z.blocks
      → l3 ≡ with_nth64 l2 2 z.refused → l4 ≡ with_nth64 l3 3 1 → z.bytes < 2 ^ 63 → SizeDelivered (size_of (run_blocks s)) l (to_z w64 z.bytes) l4
  unfolding code size_bytes
  size-put l l1 l2 l3 l4 h e1 e2 e3 e4 b = record {
    returned = rw (le-leb 32 (length l) h) (to_z_pos w64 {n = z.bytes} b ∙ ap (λ (x : RunSize). code (answer x.bytes)) e);
    holds = rw (le-leb 32 (length l) h) (e4 ∙ ap (λ (x : List ℕ). with_nth64 x 3 1) (e3 ∙ ap (λ (x : List ℕ). with_nth64 x 2 z.refused)
        (e2 ∙ ap (λ (x : List ℕ). with_nth64 x 1 z.blocks) e1))
        ∙ four-numbers l z.stamps z.blocks z.refused 1 h ∙ ap (λ (x : RunSize). size_bytes x ++ drop 32 l) e);
  }
