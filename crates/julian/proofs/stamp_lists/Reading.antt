-- A stamp by the patterns of its parts. Assumes nothing.
use Prim.Native.Nat.{ℕ, ◌*◌}
use mathlib.Core.Path.{◌≡◌}
use mathlib.Core.List.{List}
use lib.Ieee.{Float, of_bits, binary64}
use Rattle.numerals.specs.little_endian.LittleEndian.{u64_at}
use Rattle.julian.specs.JulianDate.{julian}
use Rattle.julian.specs.stamp_lists.Stamps.{stamp_of}

pub stamp-is : (js ks : List ℕ) (i a b : ℕ) (x y : Float) → a ≡ u64_at js (8 * i) → b ≡ u64_at ks (8 * i) → x ≡ of_bits binary64 a → y ≡ of_bits binary64 b
    → julian x y ≡ stamp_of js ks i
unfolding stamp_of
stamp-is js ks i a b x y p q r s = rw (r, s, p, q)
