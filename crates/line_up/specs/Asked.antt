-- What the functions of the lining up ask and ensure. Assumes nothing.
use Rattle.std.specs.Prelude.{ℕ, ◌≤◌, ◌*◌, ◌≡◌, List, ◌++◌, Bool, length, drop}
use Rattle.line_up.specs.Runs.{ordered}
use Rattle.line_up.specs.LineUp.{places_bytes}

pub record Mergeable (ns : List ℕ) (end1 end2 : ℕ) (out : List ℕ) : Type 0 where
  pub low : end1 ≤ end2
  pub high : end2 ≤ length ns
  pub room : 4 * length ns ≤ length out
  pub small : length ns ≤ 4294967295

pub record Merged (lt : ℕ → ℕ → Bool) (ns : List ℕ) (end1 end2 : ℕ) (out out' : List ℕ) (r : ℕ) : Type 0 where
  pub many : r ≡ length (ordered lt ns end1 end2 (length ns))
  pub places : out' ≡ places_bytes (ordered lt ns end1 end2 (length ns)) ++ drop (4 * length (ordered lt ns end1 end2 (length ns))) out
