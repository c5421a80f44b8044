-- A leap of at most half a second, as the rows that drift leave on every day. Written from document 01, "UTC text". Assumes nothing.
use Rattle.std.specs.Prelude.{◌*◌, Bool, false, leb, Float}
use Rattle.std.specs.Float.{nan, inf, fin}
use Rattle.std.specs.Float.Ieee.{up, down}

-- at most 0.5 in size
abbrev pub small : Float → Bool
small nan = false
small (inf s) = false
small (fin s m e) = leb (m * up e * 2) (down e)
