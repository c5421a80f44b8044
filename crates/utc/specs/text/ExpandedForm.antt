-- The form of a text with expanded years, whatever its digits say. Written from document 02, item 6. Assumes nothing.
use Rattle.std.specs.Prelude.{ℕ, ◌≤◌, ◌≡◌, ◌⊎◌, List, ◌∷◌, length}
use Rattle.utc.specs.text.ReadBack.{number, year_bytes}
use Rattle.utc.specs.text.WellFormed.{Digits, RestFormed}

-- four digits, or a sign, 43 or 45, and seven digits for a number that four digits do not hold, or that is below 0
pub data ExpandedYear : List ℕ → Type 0 where
  basic : {cs : List ℕ} → Digits 4 cs → ExpandedYear cs
  plus : {cs : List ℕ} → Digits 7 cs → 10000 ≤ number cs → ExpandedYear (43 ∷ cs)
  minus : {cs : List ℕ} → Digits 7 cs → 1 ≤ number cs → ExpandedYear (45 ∷ cs)

-- the form of such a text: 23 or 27 bytes, and nothing between
pub record ExpandedForm (t : List ℕ) : Type 0 where
  pub year : ExpandedYear (year_bytes t)
  pub rest : RestFormed t
  pub bytes : (length t ≡ 23) ⊎ (length t ≡ 27)
