-- What a writer of a listing answers: of the lines of the block's listing, those that the output took. Written from document 01, "The program that lists a
-- block". That the bytes went out no contract can say. Assumes nothing.
use Rattle.std.specs.Prelude.{ℕ, ◌≤◌, ◌≡◌, true, List}
use Rattle.stamps.specs.Block.{block_of}
use Rattle.stamps.specs.Parts.{lines_in}
use Rattle.block_io.specs.declared.Sent.{Sent}

-- no more lines than the listing has, and all of them where it says so
pub record SentOf (s : List ℕ) (r : Sent) : Type 0 where
  pub within : r.lines ≤ lines_in (block_of s)
  pub whole : r.all ≡ true → r.lines ≡ lines_in (block_of s)
