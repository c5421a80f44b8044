-- The line ends in a text, counted: how a caller that is handed bytes alone knows how many lines they are. Written from document 01,
-- "The program that lists a block" (every line ends with byte 10). Assumes nothing.
use Rattle.std.specs.Prelude.{ℕ, ◌+◌, List, [], ◌∷◌, cond, eqb}

-- how many of the bytes are 10
unfoldable pub line_ends : List ℕ → ℕ
line_ends [] = 0
line_ends (c ∷ cs) = cond (eqb c 10) 1 0 + line_ends cs
