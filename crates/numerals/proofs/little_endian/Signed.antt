-- The pattern of a signed number of 64 bits, and the number of a pattern, as std casts them. Assumes nothing.
use Prim.Native.Nat.{ℕ, zero, suc, ◌+◌, ◌-◌, ◌<◌, ◌≤◌}
use native.Mathlib.Omega.{arith}
use mathlib.Core.Path.{◌≡◌, refl, sym, ap, ◌∙◌}
use mathlib.Core.Bool.{Bool, true, false, cond}
use lib.Dec.{ltb}
use lib.IntN.{ℤ, pos, negsuc, ◌-ℤ◌}
use mir.Syntax.{w64}
use mir.Val.{SFits, to_z, of_z}
use mir.Facts.{to_z-of_z, of_z-to_z, to_z_pos, to_z-neg, sfits_to_z}
use borrow.Author.Tests.{ltb-true, ltb-false}
use Rattle.numerals.specs.little_endian.LittleEndian.{pattern_of, signed_of}

pub minus_one : (k : ℕ) → negsuc 0 -ℤ pos k ≡ negsuc k
minus_one zero = refl
minus_one (suc k) = ap (λ (n : ℕ). negsuc (suc n)) (none k)
  where
    none : (k : ℕ) → 0 + k ≡ k
    none k = omega arith

-- ---- from the pattern to the number
signed_64 : (n : ℕ) → n < 18446744073709551616 → to_z w64 n ≡ signed_of n
unfolding signed_of
signed_64 n h = go (ltb n 9223372036854775808) refl
  where
    go : (b : Bool) → ltb n 9223372036854775808 ≡ b → to_z w64 n ≡ cond b (pos n) (negsuc (18446744073709551615 - n))
    go true e = to_z_pos w64 {n = n} (ltb-true n 9223372036854775808 e)
    go false e =
        let l : 9223372036854775808 ≤ n = ltb-false n 9223372036854775808 e in
        let k : n ≡ 18446744073709551616 - suc (18446744073709551615 - n) = omega arith in
        ap (to_z w64) k ∙ to_z-neg w64 (18446744073709551615 - n) (omega arith)

pub of_pattern : (n : ℕ) (z : ℤ) → z ≡ to_z w64 n → n < 18446744073709551616 → to_z w64 (of_z w64 z) ≡ signed_of n
of_pattern n z e h = ap (λ (x : ℤ). to_z w64 (of_z w64 x)) e ∙ to_z-of_z {w = w64} (sfits_to_z {w = w64} {n = n} (record { fits = h })) ∙ signed_64 n h

-- ---- from the number to the pattern, which is read back as the number
pattern_few : (z : ℤ) → SFits w64 z → pattern_of z < 18446744073709551616
unfolding pattern_of
pattern_few (pos n) f = omega (arith, f.sfits)
pattern_few (negsuc k) f = omega arith

pattern_back : (z : ℤ) → SFits w64 z → to_z w64 (pattern_of z) ≡ z
unfolding pattern_of
pattern_back (pos n) f = to_z_pos w64 {n = n} f.sfits
pattern_back (negsuc k) f =
    let e : pattern_of (negsuc k) ≡ 18446744073709551616 - suc k = omega arith in
    ap (to_z w64) e ∙ to_z-neg w64 k f.sfits

pub of_number : (z : ℤ) (n : ℕ) → n ≡ of_z w64 z → SFits w64 z → n ≡ pattern_of z
of_number z n e f = e ∙ ap (of_z w64) (sym (pattern_back z f)) ∙ of_z-to_z {w = w64} {n = pattern_of z} (record { fits = pattern_few z f })
