-- A line has at most 33 bytes, and 64 where sentences are reported; so a part fits its scratch, and its length is small whatever the scratch. Assumes nothing.
use Prim.Native.Nat.{ℕ, zero, suc, ◌+◌, ◌-◌, ◌*◌, ◌≤◌}
use native.Mathlib.Omega.{arith}
use native.Mathlib.Nat.{add-zero, add-suc, add_assoc}
use mathlib.Core.Path.{◌≡◌, refl, sym, ap, ◌∙◌}
use mathlib.Core.Bool.{Bool, true, false, cond}
use mathlib.Core.List.{List, ◌++◌, append_assoc, append-nil}
use lib.ListN.{length, length-append}
use lib.Dec.{leb, eqb}
use borrow.Author.Tests.{leb-true}
use Rattle.refusals.specs.Outcome.{Outcome, answer, refusal}
use Rattle.leap_table.specs.rows.Table.{Row}
use Rattle.utc.specs.iso_texts.Expanded.{iso_text_expanded}
use Rattle.stamps.specs.declared.Reporting.{Reporting}
use Rattle.stamps.specs.Block.{block_of, stamp_at}
use Rattle.stamps.specs.Listing.{line_room, block_values, text_at, stamp_line, refused_in, header, block_refused}
use Rattle.stamps.specs.Widths.{InWidth}
use Rattle.stamps.specs.Parts.{line_of, lines_in, lines_from, held_lines, part_lines, part_text}
use Rattle.stamps.proofs.Blocks.{few-lines}
use Rattle.stamps.proofs.Places.{digits-most}
use Rattle.stamps.proofs.Texts.{room-low, room-high, reported-most, brief, shown-most}
use Rattle.stamps.proofs.Parts.{held-few}

header-most : (n k : ℕ) → length (header n k) ≤ 33
unfolding header
header-most n k = simp length-append (omega (arith, digits-most 4 n, digits-most 4 k))

refused-most : (how : Reporting) (s : List ℕ) (k : ℕ) → InWidth how s → length (block_refused how s k) ≤ line_room how
unfolding block_refused
refused-most how s k w = simp length-append (omega (arith, reported-most how k (block_values how s) w))

module _ (how : Reporting) (rows : List Row) where
  -- a lines from line i and the b after them are a + b lines
  pub lines-add : (s : List ℕ) (i a b : ℕ) → lines_from how rows s i a ++ lines_from how rows s (i + a) b ≡ lines_from how rows s i (a + b)
  unfolding lines_from
  lines-add s i a zero = append-nil (lines_from how rows s i a) ∙ ap (lines_from how rows s i) (sym (add-zero a))
  lines-add s i a (suc b) =
      sym (append_assoc (lines_from how rows s i a) (lines_from how rows s (i + a) b) (line_of how rows (block_of s) s (i + a + b)))
      ∙ ap (λ (l : List ℕ). l ++ line_of how rows (block_of s) s (i + a + b)) (lines-add s i a b)
      ∙ ap (λ (k : ℕ). lines_from how rows s i (a + b) ++ line_of how rows (block_of s) s k) (add_assoc i a b)
      ∙ ap (lines_from how rows s i) (sym (add-suc a b))

  stamp-most : (s : List ℕ) (n i : ℕ) → length (stamp_line how rows s n i) ≤ line_room how
  unfolding stamp_line text_at
  stamp-most s n i = simp length-append
      (omega (arith, digits-most 4 i, shown-most how (stamp_at s n i) (iso_text_expanded rows (stamp_at s n i)) (brief rows (stamp_at s n i))))

  pub line-most : (o : Outcome ℕ) (s : List ℕ) (line : ℕ) → InWidth how s → length (line_of how rows o s line) ≤ line_room how
  unfolding line_of
  line-most (refusal k) s line w = refused-most how s k w
  line-most (answer n) s line w = go (eqb line 0)
    where
      go : (b : Bool) → length (cond b (header n (refused_in rows s n n)) (stamp_line how rows s n (line - 1))) ≤ line_room how
      go true = omega (arith, header-most n (refused_in rows s n n), room-low how)
      go false = stamp-most s n (line - 1)

  lines-most : (s : List ℕ) (line k : ℕ) → InWidth how s → length (lines_from how rows s line k) ≤ 64 * k
  unfolding lines_from
  lines-most s line zero w = omega arith
  lines-most s line (suc k) w = simp length-append (omega (arith, lines-most s line k w, line-most (block_of s) s (line + k) w, room-high how))

  -- 4,001 lines at most, of 64 bytes
  pub part-most : (s : List ℕ) (line room : ℕ) → InWidth how s → length (part_text how rows s line room) ≤ 256064
  unfolding part_text part_lines
  part-most s line room w = omega
      (arith, lines-most s line (part_lines how rows s line room) w, held-few how rows s line room (lines_in (block_of s) - line), few-lines s)

  -- the lines that are held go into the room
  first : (s : List ℕ) (line k : ℕ)
      → length (lines_from how rows s line (1 + k)) ≡ length (line_of how rows (block_of s) s line) + length (lines_from how rows s (line + 1) k)
  unfolding lines_from
  first s line k =
      let z : line + 0 ≡ line = omega arith in
      ap length (sym (lines-add s line 1 k))
      ∙ length-append (lines_from how rows s line 1) (lines_from how rows s (line + 1) k)
      ∙ ap (λ (i : ℕ). length (line_of how rows (block_of s) s i) + length (lines_from how rows s (line + 1) k)) z

  held_fits : (s : List ℕ) (line room left : ℕ) → InWidth how s → length (lines_from how rows s line (held_lines how rows s line room left)) ≤ room
  unfolding held_lines lines_from
  held_fits s line room zero w = omega arith
  held_fits s line room (suc left) w = by (leb (line_room how) room) refl (held_fits s (line + 1) (room - length (line_of how rows (block_of s) s line)) left w)
    where
      rest : ℕ
      rest = held_lines how rows s (line + 1) (room - length (line_of how rows (block_of s) s line)) left

      by : (b : Bool) → leb (line_room how) room ≡ b → length (lines_from how rows s (line + 1) rest) ≤ room - length (line_of how rows (block_of s) s line)
          → length (lines_from how rows s line (cond b (1 + rest) 0)) ≤ room
      by true e h = omega (arith, first s line rest, line-most (block_of s) s line w, leb-true (line_room how) room e)
      by false e h = omega arith

  pub part-fits : (s : List ℕ) (line room : ℕ) → InWidth how s → length (part_text how rows s line room) ≤ room
  unfolding part_text part_lines
  part-fits s line room w = held_fits s line room (lines_in (block_of s) - line) w
