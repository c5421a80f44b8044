-- Which float is -0.0. Written from IEEE 754: the zero with the sign of a negative number. Assumes nothing.
use Rattle.std.specs.Prelude.{Bool, true, false, zero, suc, Float}
use Rattle.std.specs.Float.{nan, inf, fin}

unfoldable pub minus_zero : Float → Bool
minus_zero nan = false
minus_zero (inf s) = false
minus_zero (fin false m e) = false
minus_zero (fin true zero e) = true
minus_zero (fin true (suc m) e) = false
