-- Texts of printable ASCII: no byte below 32, so no line end, and none above 126. Assumes nothing.
use Rattle.std.specs.Prelude.{ℕ, ◌≤◌, List, [], ◌∷◌}

unfoldable pub Printable : List ℕ → Type 0
Printable [] = Unit
Printable (c ∷ cs) = (32 ≤ c) × (c ≤ 126) × Printable cs
