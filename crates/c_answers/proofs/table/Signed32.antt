-- A signed number of 32 bits from its pattern. Assumes nothing.
use Prim.Native.Nat.{ℕ, ◌-◌, ◌<◌, ◌≤◌}
use native.Mathlib.Omega.{arith}
use mathlib.Core.Path.{◌≡◌, ap}
use lib.IntN.{ℤ, pos, negsuc}
use mir.Syntax.{w32}
use mir.Val.{SFits}
use borrow.Author.Tests.{le-ltb, lt-ltb}
use Rattle.numerals.specs.little_endian.LittleEndian.{signed32}
use Rattle.c_answers.specs.table.RecordBytes.{pattern32}

pub signed_back : (z : ℤ) → SFits w32 z → signed32 (pattern32 z) ≡ z
unfolding signed32 pattern32
signed_back (pos n) f = simp (lt-ltb n 2147483648 f.sfits)
signed_back (negsuc k) f = simp (le-ltb (4294967295 - k) 2147483648 (above k f.sfits)) (ap negsuc (back k f.sfits))
  where
    above : (k : ℕ) → k < 2147483648 → 2147483648 ≤ 4294967295 - k
    above k h = omega arith

    back : (k : ℕ) → k < 2147483648 → 4294967295 - (4294967295 - k) ≡ k
    back k h = omega arith

pub pattern_small : (z : ℤ) → SFits w32 z → pattern32 z < 4294967296
unfolding pattern32
pattern_small (pos n) f = omega (arith, f.sfits)
pattern_small (negsuc k) f = omega arith
