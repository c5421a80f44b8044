-- A stamp that is not finite: a date of a block with a part that is a NaN or an infinity, and how many a block has. Written from document 01, "Stamp block",
-- and IEEE 754: a binary64 pattern whose exponent field is all ones is an infinity where its fraction is 0, and else a NaN, of either sign and of any payload.
-- Assumes nothing.
use Rattle.std.specs.Prelude.{ℕ, zero, suc, ◌+◌, ◌≡◌, ◌⊎◌, List, Bool, cond, ◌||◌, eqb}
use Rattle.refusals.specs.Outcome.{answer}
use Rattle.floats.specs.ExponentField.{exponent_field}
use Rattle.leap_table.specs.rows.Table.{Row}
use Rattle.stamps.specs.Block.{jd1_bits, jd2_bits}
use Rattle.stamps.specs.Listing.{text_at}

-- in jd1 or in jd2 of stamp i of n that field is all ones
abbrev pub NotFinite : List ℕ → ℕ → ℕ → Type 0
NotFinite s n i = (exponent_field (jd1_bits s i) ≡ 2047) ⊎ (exponent_field (jd2_bits s n i) ≡ 2047)

-- the same as a test
unfoldable pub is_not_finite : List ℕ → ℕ → ℕ → Bool
is_not_finite s n i = eqb (exponent_field (jd1_bits s i)) 2047 || eqb (exponent_field (jd2_bits s n i)) 2047

-- how many of the first k stamps of n are not finite
unfoldable pub not_finite_in : List ℕ → ℕ → ℕ → ℕ
not_finite_in s n zero = 0
not_finite_in s n (suc k) = not_finite_in s n k + cond (is_not_finite s n k) 1 0

-- stamp i of n has a text by these rows
pub record HasText (rows : List Row) (s : List ℕ) (n i : ℕ) : Type 0 where
  pub text : List ℕ
  pub is : text_at rows s n i ≡ answer text
