-- A stamp of two lists of bytes. Assumes nothing.
use Rattle.std.specs.Prelude.{ℕ, ◌*◌, List}
use Rattle.std.specs.Float.Ieee.{of_bits}
use Rattle.std.specs.Float.{binary64}
use Rattle.numerals.specs.little_endian.LittleEndian.{u64_at}
use Rattle.julian.specs.declared.JulianDate.{JulianDate}
use Rattle.julian.specs.JulianDate.{julian}

-- the stamp at place i: eight bytes of each part
unfoldable pub stamp_of : List ℕ → List ℕ → ℕ → JulianDate
stamp_of js ks i = julian (of_bits binary64 (u64_at js (8 * i))) (of_bits binary64 (u64_at ks (8 * i)))
