-- What the functions below the calls ensure. Assumes nothing.
use Rattle.std.specs.Prelude.{◌≡◌, ℕ, ◌+◌, ◌≤◌, List, length}
use Rattle.numerals.specs.digits.Placed.{Placed}

-- t was written from `at` on, at most so many bytes, into a slice that stays as long as it was
pub record PlacedIn (d : List ℕ) (at : ℕ) (t : List ℕ) (most r : ℕ) (after : List ℕ) : Type 0 where
  pub placed : Placed d at t r after
  pub within : r ≤ at + most
  pub long : length after ≡ length d
