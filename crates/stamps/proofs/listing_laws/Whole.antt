-- The parts, one after the other, are the whole listing, for every block, every table of rows and every scratch of at least a line's room, 33 bytes, and 64
-- where sentences are reported: what a program writes that asks for parts until one is the last. Assumes nothing.
use Prim.Native.Nat.{ℕ, zero, suc, ◌+◌, ◌-◌, ◌<◌, ◌≤◌, zero-le}
use native.Mathlib.Omega.{arith}
use native.Mathlib.Numerals.{add-one}
use native.Mathlib.Nat.{zero-add, le_refl}
use mathlib.Core.Path.{◌≡◌, refl, sym, ap, ◌∙◌}
use mathlib.Core.Bool.{Bool, true, false}
use mathlib.Core.List.{List, ◌++◌, append_assoc, append-nil}
use lib.Dec.{ltb}
use borrow.Author.Tests.{ltb-true, ltb-false, leb-true, le-leb, ne_eqb}
use Rattle.refusals.specs.Outcome.{Outcome, answer, refusal}
use Rattle.leap_table.specs.rows.Table.{Row, fixed}
use Rattle.stamps.specs.declared.Reporting.{Reporting}
use Rattle.stamps.specs.Block.{block_of}
use Rattle.stamps.specs.Listing.{line_room, header, refused_in, stamp_line, stamp_lines, listing_of, listing}
use Rattle.stamps.specs.Parts.{line_of, lines_in, lines_from, held_lines, part_lines, part_text, part_of, line_after, parts_joined}
use Rattle.stamps.proofs.Parts.{held-few, held-some}
use Rattle.stamps.proofs.Lengths.{lines-add}

-- ---- all lines are the listing
module _ (how : Reporting) (rows : List Row) (s : List ℕ) (n : ℕ) (is : block_of s ≡ answer n) where
  header-first : line_of how rows (block_of s) s (0 + 0) ≡ header n (refused_in rows s n n)
  unfolding line_of
  header-first = rw is refl

  stamp-next : (k : ℕ) → line_of how rows (block_of s) s (0 + suc k) ≡ stamp_line how rows s n k
  unfolding line_of
  stamp-next k =
      let z : 0 + suc k ≡ suc k = omega arith in
      let m : suc k - 1 ≡ k = omega arith in
      rw (is, z, ne_eqb (suc k) 0 (λ e. (let no : ⊥ = omega arith in no)), m) refl

  lines_are : (k : ℕ) → lines_from how rows s 0 (suc k) ≡ header n (refused_in rows s n n) ++ stamp_lines how rows s n k
  unfolding lines_from stamp_lines
  lines_are zero = header-first ∙ sym (append-nil _)
  lines_are (suc k) =
      ap (λ (l : List ℕ). l ++ line_of how rows (block_of s) s (0 + suc k)) (lines_are k)
      ∙ ap (λ (l : List ℕ). (header n (refused_in rows s n n) ++ stamp_lines how rows s n k) ++ l) (stamp-next k)
      ∙ append_assoc (header n (refused_in rows s n n)) (stamp_lines how rows s n k) (stamp_line how rows s n k)

all-lines-by : (how : Reporting) (rows : List Row) (s : List ℕ) (o : Outcome ℕ) → block_of s ≡ o → lines_from how rows s 0 (lines_in o)
    ≡ listing_of how rows o s
unfolding lines_in listing_of lines_from line_of
all-lines-by how rows s (answer n) is = ap (lines_from how rows s 0) (add-one n) ∙ lines_are how rows s n is n
all-lines-by how rows s (refusal k) is = rw is refl

pub all_lines : (how : Reporting) (rows : List Row) (s : List ℕ) → lines_from how rows s 0 (lines_in (block_of s)) ≡ listing how rows s
unfolding listing
all_lines how rows s = all-lines-by how rows s (block_of s) refl

-- ---- the parts
module _ (how : Reporting) (rows : List Row) (s : List ℕ) where
  module _ (room : ℕ) where
    parts_are : (k : ℕ) → parts_joined how rows s room k ≡ lines_from how rows s 0 (line_after how rows s room k)
    unfolding parts_joined line_after part_text lines_from
    parts_are zero = refl
    parts_are (suc k) =
        ap (λ (l : List ℕ). l ++ part_text how rows s (line_after how rows s room k) room) (parts_are k)
        ∙ ap (λ (i : ℕ). lines_from how rows s 0 (line_after how rows s room k)
        ++ lines_from how rows s i (part_lines how rows s (line_after how rows s room k) room)) (sym (zero-add (line_after how rows s room k)))
        ∙ lines-add how rows s 0 (line_after how rows s room k) (part_lines how rows s (line_after how rows s room k) room)

    within : (k : ℕ) → line_after how rows s room k ≤ lines_in (block_of s)
    unfolding line_after part_lines
    within zero = zero-le
    within (suc k) =
        let h = within k in
        let f = held-few how rows s (line_after how rows s room k) room (lines_in (block_of s) - line_after how rows s room k) in
        omega arith

    -- whatever the scratch: where no line is left after k parts, they are the listing
    whole-when-done : (k : ℕ) → lines_in (block_of s) ≤ line_after how rows s room k → parts_joined how rows s room k ≡ listing how rows s
    whole-when-done k h =
        let e : line_after how rows s room k ≡ lines_in (block_of s) = omega (arith, within k) in
        parts_are k ∙ ap (lines_from how rows s 0) e ∙ all_lines how rows s

    -- and so the parts up to one that says it is the last
    pub whole-at-last : (k : ℕ) → (part_of how rows s (line_after how rows s room k) room).done ≡ true → parts_joined how rows s room (suc k)
        ≡ listing how rows s
    unfolding part_of line_after
    whole-at-last k e = whole-when-done (suc k) (leb-true _ _ e)

    module _ (enough : line_room how ≤ room) where
      reached : (k n : ℕ) → n ≤ lines_in (block_of s) → n ≤ k → n ≤ line_after how rows s room k
      unfolding line_after part_lines
      reached zero n hn hk = omega arith
      reached (suc k) n hn hk = by (ltb (line_after how rows s room k) (lines_in (block_of s))) refl (reached k (n - 1) (omega arith) (omega arith))
        where
          by : (b : Bool) → ltb (line_after how rows s room k) (lines_in (block_of s)) ≡ b → n - 1 ≤ line_after how rows s room k
              → n ≤ line_after how rows s room k + held_lines how rows s (line_after how rows s room k) room
              (lines_in (block_of s) - line_after how rows s room k)
          by true e before =
              let h : line_after how rows s room k < lines_in (block_of s) = ltb-true _ _ e in
              let one = held-some how rows s (line_after how rows s room k) room (lines_in (block_of s) - line_after how rows s room k) enough (omega arith) in
              omega arith
          by false e before = let h : lines_in (block_of s) ≤ line_after how rows s room k = ltb-false _ _ e in omega (arith, hn)

      -- with a line's room or more the listing is whole after as many parts as it has lines, or sooner; parts after that are empty
      pub whole : (k : ℕ) → lines_in (block_of s) ≤ k → parts_joined how rows s room k ≡ listing how rows s
      whole k h = whole-when-done k (reached k (lines_in (block_of s)) (omega arith) h)

-- ---- two scratches write the same: any two that hold a line, after as many parts as there are lines
module _ (how : Reporting) (rows : List Row) (s : List ℕ) (a b : ℕ) where
  pub parts-alike : line_room how ≤ a → line_room how ≤ b → (j k : ℕ) → lines_in (block_of s) ≤ j → lines_in (block_of s) ≤ k
      → parts_joined how rows s a j ≡ parts_joined how rows s b k
  parts-alike ha hb j k hj hk = whole how rows s a ha j hj ∙ sym (whole how rows s b hb k hk)

  -- and any two at all, each up to the part that says it is the last
  pub last-alike : (j k : ℕ) → (part_of how rows s (line_after how rows s a j) a).done ≡ true → (part_of how rows s (line_after how rows s b k) b).done ≡ true
      → parts_joined how rows s a (suc j) ≡ parts_joined how rows s b (suc k)
  last-alike j k ej ek = whole-at-last how rows s a j ej ∙ sym (whole-at-last how rows s b k ek)

-- document 02's item 12: what a program writes through 64 bytes is what it wrote through 4,096, with the fixed table and of every block, refused ones included
pub sixty-four : (how : Reporting) (s : List ℕ) (j k : ℕ) → (part_of how fixed s (line_after how fixed s 64 j) 64).done ≡ true
    → (part_of how fixed s (line_after how fixed s 4096 k) 4096).done ≡ true
    → parts_joined how fixed s 64 (suc j) ≡ parts_joined how fixed s 4096 (suc k)
sixty-four how s = last-alike how fixed s 64 4096

-- the last part comes: after as many parts as there are lines, or sooner
pub comes_to_last : (how : Reporting) (rows : List Row) (s : List ℕ) (room : ℕ) → line_room how ≤ room
    → (part_of how rows s (line_after how rows s room (lines_in (block_of s))) room).done ≡ true
unfolding part_of
comes_to_last how rows s room enough =
    let far = reached how rows s room enough (lines_in (block_of s)) (lines_in (block_of s)) (le_refl _) (le_refl _) in
    le-leb (lines_in (block_of s)) (line_after how rows s room (lines_in (block_of s)) + part_lines how rows s
    (line_after how rows s room (lines_in (block_of s)))
    room) (omega arith)
