-- What the functions below the call ensure. Assumes nothing.
use Rattle.std.specs.Prelude.{◌≡◌, ℕ, ◌≤◌, List, length}
use Rattle.numerals.specs.digits.Placed.{Placed}
use Rattle.line_listing.specs.declared.lines.Part.{Part}
use Rattle.line_listing.specs.listing.Part.{Step}

-- a part was written at the start
pub record StepWritten (s : Step) (d : List ℕ) (r : Part) (after : List ℕ) : Type 0 where
  pub placed : Placed d 0 s.bytes r.written after
  pub next : r.line ≡ s.line
  pub counted : r.textless ≡ s.textless
  pub within : r.written ≤ length d
