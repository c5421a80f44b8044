-- A slice after some bytes were written into it from an index on. This project's own; `Placing` is what public functions cite. Assumes nothing.
use Rattle.std.specs.Prelude.{ℕ, ◌+◌, ◌<◌, ◌≤◌, ◌≡◌, List, ◌++◌, length, take, drop}

-- d with the bytes t from index `at` on
unfoldable pub pasted : List ℕ → ℕ → List ℕ → List ℕ
pasted d at t = take at d ++ (t ++ drop (at + length t) d)

-- t was written into d from index `at` on: `next` is the index after it, and `after` what d then holds
pub record Placed (d : List ℕ) (at : ℕ) (t : List ℕ) (next : ℕ) (after : List ℕ) : Type 0 where
  pub ends : next ≡ at + length t
  pub holds : after ≡ pasted d at t

-- the same where t fits behind the index; else nothing is written
pub record Placing (d : List ℕ) (at : ℕ) (t : List ℕ) (next : ℕ) (after : List ℕ) : Type 0 where
  pub written : at + length t ≤ length d → Placed d at t next after
  pub left : length d < at + length t → (next ≡ at) × (after ≡ d)

-- t was copied to the start of d, and `count` is how many bytes it is; where it does not fit, nothing is written and `count` is 0
pub record Copying (t d : List ℕ) (count : ℕ) (after : List ℕ) : Type 0 where
  pub copied : length t ≤ length d → (count ≡ length t) × (after ≡ take (length t) t ++ drop (length t) d)
  pub left : length d < length t → (count ≡ 0) × (after ≡ d)
