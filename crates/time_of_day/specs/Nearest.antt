-- Rules of rounding to a nearest whole number; a half may go either way. Written from document 01, "UTC text" ("Milliseconds are rounded halves away"), without
-- what it says of a half: this is all that demand 3 needs of the rule. A rule is written as those of specs/Whole of `floats`: it takes the sign and the size n
-- / d of a number to the size of a whole one. Assumes nothing.
use Rattle.std.specs.Prelude.{◌≡◌, Bool, ℕ, ◌+◌, ◌*◌, ◌≤◌, ◌<◌}

-- within 1 / 2 of n / d, and the same for every way to write the fraction
pub record Nearest (how : Bool → ℕ → ℕ → ℕ) : Type 0 where
  pub near : (s : Bool) (n d : ℕ) → 0 < d → (2 * (how s n d * d) ≤ 2 * n + d) × (2 * n ≤ 2 * (how s n d * d) + d)
  pub same : (s : Bool) (n d m c : ℕ) → 0 < d → 0 < c → n * c ≡ m * d → how s n d ≡ how s m c
