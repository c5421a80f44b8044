-- THE SECOND LISTING FROM C IS BY THE LENT TABLE, as the first is: with a table that is taken both are by its rows, and where a stamp has a text by them, what
-- either call gives from the stamp's line on begins with one and the same line. A table that is refused is refused by both alike. Assumes nothing.
use Prim.Native.Nat.{ℕ, zero, suc, ◌+◌, ◌-◌, ◌<◌, ◌≤◌}
use native.Mathlib.Omega.{arith}
use mathlib.Core.Path.{◌≡◌, refl, sym, ap, ◌∙◌}
use mathlib.Core.List.{List, [], ◌++◌}
use lib.ListN.{length, take}
use lib.Seq.{take_at}
use borrow.Author.Tests.{ne_eqb, le-leb}
use Rattle.refusals.specs.Outcome.{answer, refusal, onward}
use Rattle.leap_table.specs.rows.Table.{Row}
use Rattle.stamps.specs.declared.Reporting.{Reporting}
use Rattle.stamps.specs.declared.Reporting.TheVariants.{Numbers, Sentences}
use Rattle.stamps.specs.Block.{block_of}
use Rattle.stamps.specs.Listing.{line_room, text_at, stamp_line}
use Rattle.stamps.specs.Parts.{line_of, lines_in, lines_from, part_lines, part_text}
use Rattle.stamps.proofs.Lengths.{lines-add}
use Rattle.stamps.proofs.listing_laws.LineEnds.{part-some}
use Rattle.stamps.proofs.listing_laws.Sentences.{text-line-shared}
use Rattle.c_answers.specs.table.TableBytes.{of_length, table_bytes}
use Rattle.capi.specs.ListingPart.{listing_part, first_listing, second_listing}
use Rattle.capi.specs.laws.ListingCalls.{Begins}

-- ---- a part begins with the line that it was asked for
module _ (how : Reporting) (rows : List Row) (s : List ℕ) (stamps i room : ℕ) (taken : block_of s ≡ answer stamps) (there : i < stamps)
    (enough : line_room how ≤ room) where
  line-is : line_of how rows (block_of s) s (suc i + 0) ≡ stamp_line how rows s stamps i
  unfolding line_of
  line-is =
      let z : suc i + 0 ≡ suc i = omega arith in
      let m : suc i - 1 ≡ i = omega arith in
      rw (taken, z, ne_eqb (suc i) 0 (λ e. (let no : ⊥ = omega arith in no)), m)

  left : suc i < lines_in (block_of s)
  unfolding lines_in
  left = rw taken (omega arith)

  first_of : (k : ℕ) → 1 ≤ k → lines_from how rows s (suc i) k ≡ stamp_line how rows s stamps i ++ lines_from how rows s (suc i + 1) (k - 1)
  unfolding lines_from
  first_of zero h = let w : ⊥ = omega arith in absurd w
  first_of (suc k) h =
      let e : 1 + k ≡ suc k = omega arith in
      let z : suc k - 1 ≡ k = omega arith in
      ap (lines_from how rows s (suc i)) (sym e) ∙ sym (lines-add how rows s (suc i) 1 k)
      ∙ ap (λ (l : List ℕ). l ++ lines_from how rows s (suc i + 1) k) line-is
      ∙ ap (λ (n : ℕ). stamp_line how rows s stamps i ++ lines_from how rows s (suc i + 1) n) (sym z)

  part-begins : Begins (stamp_line how rows s stamps i) (part_text how rows s (suc i) room)
  unfolding part_text
  part-begins =
      ap (take (length (stamp_line how rows s stamps i)))
      (first_of (part_lines how rows s (suc i) room) (part-some how rows s (suc i) room left enough))
      ∙ take_at (stamp_line how rows s stamps i) _ (length (stamp_line how rows s stamps i)) refl

module _ (n : ℕ) (table s : List ℕ) (line room : ℕ) where
  -- BY THE ROWS OF THE LENT TABLE
  module _ (rows : List Row) (taken : table_bytes table ≡ answer rows) where
    pub first-by-rows : 33 ≤ room → first_listing table s line room ≡ answer (part_text Numbers rows s line room)
    unfolding onward listing_part line_room
    first-by-rows h = rw (taken, le-leb 33 room h)

    pub second-by-rows : 64 ≤ room → second_listing n table s line room ≡ answer (part_text (Sentences n) rows s line room)
    unfolding onward listing_part line_room
    second-by-rows h = rw (taken, le-leb 64 room h)

  -- a refused table is refused by both
  pub both_refused : (k : ℕ) → table_bytes table ≡ refusal k → (first_listing table s line room ≡ refusal k) × (second_listing n table s line room ≡ refusal k)
  unfolding onward
  both_refused k e = (rw e, rw e)

-- THE LINES WITH A TEXT are those of the first listing, for every table that is taken
pub lines-shared : (n : ℕ) (table s : List ℕ) (rows : List Row) → table_bytes table ≡ answer rows → (stamps i : ℕ) → block_of s ≡ answer stamps → i < stamps
    → (t : List ℕ) → text_at rows s stamps i ≡ answer t → (room : ℕ) → 64 ≤ room → (first second : List ℕ)
    → first_listing table s (suc i) room ≡ answer first → second_listing n table s (suc i) room ≡ answer second
    → Begins (stamp_line Numbers rows s stamps i) first × Begins (stamp_line Numbers rows s stamps i) second
unfolding line_room
lines-shared n table s rows taken stamps i block there t text room enough first second e f =
    let p : part_text Numbers rows s (suc i) room ≡ first = cc (first-by-rows n table s (suc i) room rows taken (omega arith)) in
    let q : part_text (Sentences n) rows s (suc i) room ≡ second = cc (second-by-rows n table s (suc i) room rows taken enough) in
    let same = text-line-shared (Sentences n) Numbers rows s stamps i t text in (
      rw p at (part-begins Numbers rows s stamps i room block there (omega arith)),
      rw (q, same) at (part-begins (Sentences n) rows s stamps i room block there enough),
    )

-- a table of no bytes is 14 in both
pub no_table : (first_listing [] [] 0 64 ≡ refusal 14) × (second_listing 0 [] [] 0 64 ≡ refusal 14)
unfolding onward table_bytes of_length listing_part line_room
no_table = (refl, refl)
