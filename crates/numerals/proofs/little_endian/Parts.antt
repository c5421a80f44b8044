-- A number read from a part of as many bytes. Assumes nothing.
use Prim.Native.Nat.{ℕ, ◌+◌, ◌-◌, ◌*◌, ◌<◌, ◌≤◌}
use native.Mathlib.Omega.{arith}
use mathlib.Core.Path.{◌≡◌, ap, ◌∙◌}
use mathlib.Core.List.{List}
use lib.ListN.{length, take, drop, get_or, length-drop}
use lib.Seq.{get_or-take, get_or-drop, length-take-le}
use borrow.Author.Tests.{le-leb}
use Rattle.numerals.specs.little_endian.LittleEndian.{four_at, u32_at, u64_at}

module _ (s : List ℕ) (at m : ℕ) where
  byte : (i : ℕ) → i < m → get_or (take m (drop at s)) i 0 ≡ get_or s (at + i) 0
  byte i h = get_or-take m (drop at s) i 0 h ∙ get_or-drop at s i 0

  pub four : (j : ℕ) → j + 3 < m → four_at (take m (drop at s)) j ≡ four_at s (at + j)
  unfolding four_at
  four j h =
      let a1 : at + (j + 1) ≡ at + j + 1 = omega arith in
      let a2 : at + (j + 2) ≡ at + j + 2 = omega arith in
      let a3 : at + (j + 3) ≡ at + j + 3 = omega arith in
      let b1 : get_or (take m (drop at s)) (j + 1) 0 ≡ get_or s (at + j + 1) 0 = byte (j + 1) (omega arith) ∙ ap (λ (x : ℕ). get_or s x 0) a1 in
      let b2 : get_or (take m (drop at s)) (j + 2) 0 ≡ get_or s (at + j + 2) 0 = byte (j + 2) (omega arith) ∙ ap (λ (x : ℕ). get_or s x 0) a2 in
      let b3 : get_or (take m (drop at s)) (j + 3) 0 ≡ get_or s (at + j + 3) 0 = byte (j + 3) (omega arith) ∙ ap (λ (x : ℕ). get_or s x 0) a3 in
      omega (arith, byte j (omega arith))

module _ (s : List ℕ) (at : ℕ) where
  at_0 : at + 0 ≡ at
  at_0 = omega arith

  pub eight_in_part : at + 8 ≤ length s → u64_at (take 8 (drop at s)) 0 ≡ u64_at s at
  unfolding u64_at
  eight_in_part h =
      let n : length (take 8 (drop at s)) ≡ 8 = length-take-le 8 (drop at s) (omega (arith, length-drop at s)) in
      rw (n, le-leb (at + 8) (length s) h)
      (omega (arith, four s at 8 0 (omega arith) ∙ ap (four_at s) at_0, four s at 8 4 (omega arith)))

  pub four-in-part : at + 4 ≤ length s → u32_at (take 4 (drop at s)) 0 ≡ u32_at s at
  unfolding u32_at
  four-in-part h =
      let n : length (take 4 (drop at s)) ≡ 4 = length-take-le 4 (drop at s) (omega (arith, length-drop at s)) in
      rw (n, le-leb (at + 4) (length s) h) (four s at 4 0 (omega arith) ∙ ap (four_at s) at_0)

-- ---- the part that is lent of a list of numbers, which is number i
module _ (s : List ℕ) (i n : ℕ) where
  pub nth_64 : n ≡ u64_at (take (8 * i + 8 - 8 * i) (drop (8 * i) s)) 0 → 8 * i + 8 ≤ length s → n ≡ u64_at s (8 * i)
  nth_64 e h =
      let k : 8 * i + 8 - 8 * i ≡ 8 = omega arith in
      e ∙ ap (λ (m : ℕ). u64_at (take m (drop (8 * i) s)) 0) k ∙ eight_in_part s (8 * i) h

  pub nth_32 : n ≡ u32_at (take (4 * i + 4 - 4 * i) (drop (4 * i) s)) 0 → 4 * i + 4 ≤ length s → n ≡ u32_at s (4 * i)
  nth_32 e h =
      let k : 4 * i + 4 - 4 * i ≡ 4 = omega arith in
      e ∙ ap (λ (m : ℕ). u32_at (take m (drop (4 * i) s)) 0) k ∙ four-in-part s (4 * i) h
