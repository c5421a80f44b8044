-- A number read from the part of a list that holds one date, twelve bytes. Assumes nothing.
use Rattle.std.proofs.Common.{◌≡◌, ℕ, ◌+◌, ◌≤◌, List, length, take, drop, ap, ◌∙◌, arith, length-drop, length-take-le, le-leb}
use Rattle.numerals.specs.little_endian.LittleEndian.{u32_at, i32_at, signed32}
use Rattle.numerals.proofs.little_endian.Parts.{four}

pub in_twelve : (s : List ℕ) (at k j : ℕ) → k ≡ 12 → at + 12 ≤ length s → j + 4 ≤ 12 → i32_at (take k (drop at s)) j ≡ i32_at s (at + j)
unfolding u32_at
in_twelve s at k j e h w =
    let n : length (take 12 (drop at s)) ≡ 12 = length-take-le 12 (drop at s) (omega (arith, length-drop at s)) in
    let room : j + 4 ≤ length (take 12 (drop at s)) = omega (arith, n) in
    let there : at + j + 4 ≤ length s = omega arith in
    ap (λ (m : ℕ). i32_at (take m (drop at s)) j) e ∙ ap signed32 (rw (le-leb _ _ room, le-leb _ _ there) (four s at 12 j (omega arith)))
