-- What `u32_at` and `u64_at` are where the bytes are there, and where they are not. Assumes nothing.
use Prim.Native.Nat.{ℕ, ◌+◌, ◌*◌, ◌<◌, ◌≤◌}
use native.Mathlib.Omega.{arith}
use mathlib.Core.Path.{◌≡◌, ap}
use mathlib.Core.List.{List}
use lib.ListN.{length, get_or}
use borrow.Author.Tests.{le-leb, lt-leb}
use Rattle.numerals.specs.little_endian.LittleEndian.{four_at, u32_at, u64_at}

module _ (s : List ℕ) (at : ℕ) where
  pub absent32 : length s < at + 4 → 0 ≡ u32_at s at
  unfolding u32_at
  absent32 h = simp (lt-leb _ _ h)

  pub present32 : at + 4 ≤ length s → four_at s at ≡ u32_at s at
  unfolding u32_at
  present32 h = simp (le-leb _ _ h)

  pub absent64 : length s < at + 8 → 0 ≡ u64_at s at
  unfolding u64_at
  absent64 h = simp (lt-leb _ _ h)

  abbrev byte : ℕ → ℕ
  byte i = get_or s (at + i) 0

  same : (i : ℕ) → get_or s (at + 4 + i) 0 ≡ byte (4 + i)
  same i = let e : at + 4 + i ≡ at + (4 + i) = omega arith in ap (λ (k : ℕ). get_or s k 0) e

  -- of eight bytes as std adds them up
  pub present64 : (n : ℕ)
      → n
      ≡ get_or s at 0 + byte 1 * 0x100 + byte 2 * 0x1_0000 + byte 3 * 0x100_0000 + byte 4 * 0x1_0000_0000 + byte 5 * 0x100_0000_0000
      + byte 6 * 0x1_0000_0000_0000 + byte 7 * 0x100_0000_0000_0000 → at + 8 ≤ length s → n ≡ u64_at s at
  unfolding u64_at four_at
  present64 n e h = simp (le-leb _ _ h) (omega (arith, e, same 1, same 2, same 3))
