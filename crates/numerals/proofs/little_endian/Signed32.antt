-- The signed number of a pattern of 32 bits, as std reads it. Assumes nothing.
use Prim.Native.Nat.{ℕ, suc, ◌-◌, ◌<◌, ◌≤◌}
use native.Mathlib.Omega.{arith}
use mathlib.Core.Path.{◌≡◌, refl, ap, subst, ◌∙◌}
use mathlib.Core.Bool.{Bool, true, false, cond}
use lib.Dec.{ltb}
use lib.IntN.{ℤ, pos, negsuc}
use mir.Syntax.{w32}
use mir.Val.{SFits, to_z, of_z}
use mir.Facts.{to_z-of_z, to_z_pos, to_z-neg, sfits_to_z}
use borrow.Author.Tests.{ltb-true, ltb-false}
use Rattle.numerals.specs.little_endian.LittleEndian.{signed32}

pub signed_32 : (n : ℕ) → n < 4294967296 → to_z w32 n ≡ signed32 n
unfolding signed32
signed_32 n h = go (ltb n 2147483648) refl
  where
    go : (b : Bool) → ltb n 2147483648 ≡ b → to_z w32 n ≡ cond b (pos n) (negsuc (4294967295 - n))
    go true e = to_z_pos w32 {n = n} (ltb-true n 2147483648 e)
    go false e =
        let l : 2147483648 ≤ n = ltb-false n 2147483648 e in
        let k : n ≡ 4294967296 - suc (4294967295 - n) = omega arith in
        ap (to_z w32) k ∙ to_z-neg w32 (4294967295 - n) (omega arith)

-- as a function hands it out
pub of_pattern_32 : (n : ℕ) (z : ℤ) → z ≡ to_z w32 n → n < 4294967296 → to_z w32 (of_z w32 z) ≡ signed32 n
of_pattern_32 n z e h = ap (λ (x : ℤ). to_z w32 (of_z w32 x)) e ∙ to_z-of_z {w = w32} (sfits_to_z {w = w32} {n = n} (record { fits = h })) ∙ signed_32 n h

-- a pattern of 32 bits has a number of 32 bits
pub signed-32-fits : (n : ℕ) → n ≤ 4294967295 → SFits w32 (signed32 n)
signed-32-fits n h = subst (SFits w32) (signed_32 n (omega arith)) (sfits_to_z {w = w32} {n = n} (record { fits = omega arith }))
