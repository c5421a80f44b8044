-- What is written is read back: a number from its eight bytes or four, and a signed number from its pattern. Assumes nothing.
use Prim.Native.Nat.{ℕ, ◌+◌, ◌-◌, ◌*◌, ◌/◌, ◌%◌, ◌<◌, ◌≤◌}
use native.Mathlib.Nat.{div-div-eq-div-mul}
use native.Mathlib.Omega.{arith}
use mathlib.Core.Path.{◌≡◌, refl, ap, ◌∙◌}
use lib.IntN.{ℤ, pos, negsuc}
use mir.Syntax.{w32, w64}
use mir.Val.{SFits}
use borrow.Author.Tests.{lt-ltb, le-ltb}
use Rattle.numerals.specs.little_endian.LittleEndian.{four_at, u32_at, u64_at, i32_at, four_bytes, eight_bytes, pattern_of, signed_of, pattern32, signed32}

-- a number by its last byte and the rest
split : (a : ℕ) → a ≡ a % 256 + 256 * (a / 256)
split a = omega arith

sum8 : (n a1 a2 a3 a4 a5 a6 a7 r0 r1 r2 r3 r4 r5 r6 r7 : ℕ) → n ≡ r0 + 256 * a1 → a1 ≡ r1 + 256 * a2 → a2 ≡ r2 + 256 * a3 → a3 ≡ r3 + 256 * a4
    → a4 ≡ r4 + 256 * a5 → a5 ≡ r5 + 256 * a6 → a6 ≡ r6 + 256 * a7 → a7 ≡ r7
    → r0 + 256 * r1 + 65536 * r2 + 16777216 * r3 + 4294967296 * (r4 + 256 * r5 + 65536 * r6 + 16777216 * r7) ≡ n
sum8 n a1 a2 a3 a4 a5 a6 a7 r0 r1 r2 r3 r4 r5 r6 r7 e0 e1 e2 e3 e4 e5 e6 e7 = omega arith

last_byte : (n : ℕ) → n < 18446744073709551616 → n / 0x100_0000_0000_0000 ≡ n / 0x100_0000_0000_0000 % 256
last_byte n h = omega arith

-- the byte at one place and the numbers above it
next_place : (n k m : ℕ) → k * 256 ≡ m → n / k ≡ n / k % 256 + 256 * (n / m)
next_place n k m e = split (n / k) ∙ ap (λ (z : ℕ). n / k % 256 + 256 * z) (div-div-eq-div-mul n k 256 ∙ ap (λ (z : ℕ). n / z) e)

pub read-written : (n : ℕ) → n < 18446744073709551616 → u64_at (eight_bytes n) 0 ≡ n
unfolding u64_at four_at
read-written n h = sum8 n (n / 0x100) (n / 0x1_0000) (n / 0x100_0000) (n / 0x1_0000_0000) (n / 0x100_0000_0000) (n / 0x1_0000_0000_0000)
    (n / 0x100_0000_0000_0000)
    (n % 256) (n / 0x100 % 256) (n / 0x1_0000 % 256) (n / 0x100_0000 % 256) (n / 0x1_0000_0000 % 256) (n / 0x100_0000_0000 % 256)
    (n / 0x1_0000_0000_0000 % 256) (n / 0x100_0000_0000_0000 % 256)
    (split n) (next_place n 0x100 0x1_0000 refl) (next_place n 0x1_0000 0x100_0000 refl) (next_place n 0x100_0000 0x1_0000_0000 refl)
    (next_place n 0x1_0000_0000 0x100_0000_0000 refl)
    (next_place n 0x100_0000_0000 0x1_0000_0000_0000 refl) (next_place n 0x1_0000_0000_0000 0x100_0000_0000_0000 refl) (last_byte n h)

sum4 : (n a1 a2 a3 r0 r1 r2 r3 : ℕ) → n ≡ r0 + 256 * a1 → a1 ≡ r1 + 256 * a2 → a2 ≡ r2 + 256 * a3 → a3 ≡ r3
    → r0 + 256 * r1 + 65536 * r2 + 16777216 * r3 ≡ n
sum4 n a1 a2 a3 r0 r1 r2 r3 e0 e1 e2 e3 = omega arith

last-of-four : (n : ℕ) → n < 4294967296 → n / 0x100_0000 ≡ n / 0x100_0000 % 256
last-of-four n h = omega arith

pub read-written-4 : (n : ℕ) → n < 4294967296 → u32_at (four_bytes n) 0 ≡ n
unfolding u32_at four_at
read-written-4 n h = sum4 n (n / 0x100) (n / 0x1_0000) (n / 0x100_0000) (n % 256) (n / 0x100 % 256) (n / 0x1_0000 % 256) (n / 0x100_0000 % 256)
    (split n) (next_place n 0x100 0x1_0000 refl) (next_place n 0x1_0000 0x100_0000 refl) (last-of-four n h)

pub signed_back : (z : ℤ) → SFits w64 z → signed_of (pattern_of z) ≡ z
unfolding signed_of pattern_of
signed_back (pos n) f = simp (lt-ltb n 9223372036854775808 f.sfits)
signed_back (negsuc k) f = simp (le-ltb (18446744073709551615 - k) 9223372036854775808 (above k f.sfits)) (ap negsuc (back k f.sfits))
  where
    above : (k : ℕ) → k < 9223372036854775808 → 9223372036854775808 ≤ 18446744073709551615 - k
    above k h = omega arith

    back : (k : ℕ) → k < 9223372036854775808 → 18446744073709551615 - (18446744073709551615 - k) ≡ k
    back k h = omega arith

pub signed32-back : (z : ℤ) → SFits w32 z → signed32 (pattern32 z) ≡ z
unfolding signed32 pattern32
signed32-back (pos n) f = simp (lt-ltb n 2147483648 f.sfits)
signed32-back (negsuc k) f = simp (le-ltb (4294967295 - k) 2147483648 (above k f.sfits)) (ap negsuc (back k f.sfits))
  where
    above : (k : ℕ) → k < 2147483648 → 2147483648 ≤ 4294967295 - k
    above k h = omega arith

    back : (k : ℕ) → k < 2147483648 → 4294967295 - (4294967295 - k) ≡ k
    back k h = omega arith

-- a pattern has 32 bits
pub pattern32-small : (z : ℤ) → SFits w32 z → pattern32 z < 4294967296
unfolding pattern32
pattern32-small (pos n) f = omega (arith, f.sfits)
pattern32-small (negsuc k) f = omega arith

-- a signed number in four bytes
pub read-signed-4 : (z : ℤ) → SFits w32 z → i32_at (four_bytes (pattern32 z)) 0 ≡ z
read-signed-4 z f = ap signed32 (read-written-4 (pattern32 z) (pattern32-small z f)) ∙ signed32-back z f
