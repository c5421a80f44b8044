-- A number of bytes at the start of a list, and what a writer of a listing learns of its parts. Assumes nothing.
use Prim.Native.Nat.{ℕ, ◌+◌, ◌-◌, ◌≤◌}
use native.Mathlib.Omega.{arith}
use mathlib.Core.Path.{◌≡◌, sym, ap, ◌∙◌}
use mathlib.Core.Bool.{true}
use mathlib.Core.List.{List}
use lib.ListN.{length}
use lib.Seq.{length-take-le}
use borrow.Author.Tests.{leb-true}
use Rattle.io.specs.Counts.{IsPrefixLen}
use Rattle.leap_table.specs.rows.Table.{Row}
use Rattle.stamps.specs.declared.Reporting.{Reporting}
use Rattle.stamps.specs.declared.Part.{Part}
use Rattle.stamps.specs.Block.{block_of}
use Rattle.stamps.specs.Parts.{lines_in, part_lines, part_of, PartPlaced}
use Rattle.stamps.proofs.Parts.{held-few}

pub counts : (n : ℕ) (l : List ℕ) → n ≤ length l → IsPrefixLen n l
counts n l h = (h, sym (length-take-le n l h))

module _ {how : Reporting} {rows : List Row} {s d d' : List ℕ} {line : ℕ} {r : Part} (p : PartPlaced how rows s line d r d')
    (h : line ≤ lines_in (block_of s)) where
  next-is : r.line ≡ line + part_lines how rows s line (length d)
  unfolding part_of
  next-is = ap (λ (x : Part). x.line) p.says

  -- the line that a part names is none past the last
  pub next-within : r.line ≤ lines_in (block_of s)
  unfolding part_lines
  next-within = let few = held-few how rows s line (length d) (lines_in (block_of s) - line) in omega (arith, next-is)

  -- and the last part comes to the last line
  pub comes_last : r.done ≡ true → r.line ≡ lines_in (block_of s)
  unfolding part_of
  comes_last e =
      let g = leb-true (lines_in (block_of s)) (line + part_lines how rows s line (length d)) (sym (ap (λ (x : Part). x.done) p.says) ∙ e) in
      omega (arith, next-is, next-within)
