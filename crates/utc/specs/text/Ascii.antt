-- The bytes of a text that a definition or a theorem writes out. Assumes nothing.
use Rattle.std.specs.Prelude.{ℕ, List, [], ◌∷◌}
use Prim.Native.Char.{code}
use Prim.Native.String.{String}
use Prim.Native.String as Native

abbrev pub ascii_bytes : String → List ℕ
ascii_bytes Native.[] = []
ascii_bytes (Native.◌∷◌ c s) = code c ∷ ascii_bytes s
