-- The cells of a work area are read and written. Assumes nothing.
use Prim.Native.Nat.{ℕ, zero, suc, ◌+◌, ◌*◌, ◌/◌, ◌%◌, ◌<◌, ◌≤◌}
use native.Mathlib.Nat.{div-div-eq-div-mul}
use native.Mathlib.Omega.{arith}
use mathlib.Core.Path.{◌≡◌, refl, sym, ap, ◌∙◌}
use mathlib.Core.List.{List, [], ◌∷◌}
use lib.ListN.{length, get_or, set}
use lib.Seq.{sets}
use Rattle.numerals.specs.little_endian.LittleEndian.{four_at, u32_at, four_bytes}
use Rattle.numerals.proofs.little_endian.Laws.{present32}
use Rattle.line_up.specs.keep.Cells.{cells}

pub length-low : (bs : List ℕ) → 4 * length (cells bs) ≤ length bs
unfolding cells
length-low [] = omega arith
length-low (a ∷ []) = omega arith
length-low (a ∷ b ∷ []) = omega arith
length-low (a ∷ b ∷ c ∷ []) = omega arith
length-low (a ∷ b ∷ c ∷ d ∷ bs) = omega (arith, length-low bs)

pub length_high : (bs : List ℕ) → length bs < 4 * length (cells bs) + 4
unfolding cells
length_high [] = omega arith
length_high (a ∷ []) = omega arith
length_high (a ∷ b ∷ []) = omega arith
length_high (a ∷ b ∷ c ∷ []) = omega arith
length_high (a ∷ b ∷ c ∷ d ∷ bs) = omega (arith, length_high bs)

-- n cells stand in 4 n bytes
pub cells-room : (bs : List ℕ) (n : ℕ) → 4 * n ≤ length bs → n ≤ length (cells bs)
cells-room bs n h = omega (arith, length_high bs)

four-later : (a b c d : ℕ) (bs : List ℕ) (k : ℕ) → four_at (a ∷ b ∷ c ∷ d ∷ bs) (4 * suc k) ≡ four_at bs (4 * k)
unfolding four_at
four-later a b c d bs k =
    let e0 : 4 * suc k ≡ suc (suc (suc (suc (4 * k)))) = omega arith in
    let e1 : 4 * suc k + 1 ≡ suc (suc (suc (suc (4 * k + 1)))) = omega arith in
    let e2 : 4 * suc k + 2 ≡ suc (suc (suc (suc (4 * k + 2)))) = omega arith in
    let e3 : 4 * suc k + 3 ≡ suc (suc (suc (suc (4 * k + 3)))) = omega arith in
    rw (e3, e2, e1, e0)

four-first : (a b c d : ℕ) (bs : List ℕ) → a + 256 * b + 65536 * c + 16777216 * d ≡ four_at (a ∷ b ∷ c ∷ d ∷ bs) 0
unfolding four_at
four-first a b c d bs = refl

at_cell : (bs : List ℕ) (k : ℕ) → k < length (cells bs) → get_or (cells bs) k 0 ≡ four_at bs (4 * k)
unfolding cells
at_cell [] k h = let w : ⊥ = omega arith in absurd w
at_cell (a ∷ []) k h = let w : ⊥ = omega arith in absurd w
at_cell (a ∷ b ∷ []) k h = let w : ⊥ = omega arith in absurd w
at_cell (a ∷ b ∷ c ∷ []) k h = let w : ⊥ = omega arith in absurd w
at_cell (a ∷ b ∷ c ∷ d ∷ bs) zero h = four-first a b c d bs
at_cell (a ∷ b ∷ c ∷ d ∷ bs) (suc k) h = at_cell bs k (omega arith) ∙ sym (four-later a b c d bs k)

pub cells_at : (bs : List ℕ) (k : ℕ) → k < length (cells bs) → u32_at bs (4 * k) ≡ get_or (cells bs) k 0
cells_at bs k h = sym (present32 bs (4 * k) (omega (arith, length-low bs))) ∙ sym (at_cell bs k h)

-- ---- four bytes are the number

split : (a : ℕ) → a ≡ a % 256 + 256 * (a / 256)
split a = omega arith

next_place : (n k m : ℕ) → k * 256 ≡ m → n / k ≡ n / k % 256 + 256 * (n / m)
next_place n k m e = split (n / k) ∙ ap (λ (z : ℕ). n / k % 256 + 256 * z) (div-div-eq-div-mul n k 256 ∙ ap (λ (z : ℕ). n / z) e)

last_byte : (n : ℕ) → n < 4294967296 → n / 0x100_0000 ≡ n / 0x100_0000 % 256
last_byte n h = omega arith

sum4 : (n a1 a2 a3 r0 r1 r2 r3 : ℕ) → n ≡ r0 + 256 * a1 → a1 ≡ r1 + 256 * a2 → a2 ≡ r2 + 256 * a3 → a3 ≡ r3 → r0 + 256 * r1 + 65536 * r2 + 16777216 * r3 ≡ n
sum4 n a1 a2 a3 r0 r1 r2 r3 e0 e1 e2 e3 = omega arith

four_bytes_lem : (n : ℕ) → n < 4294967296 → n % 256 + 256 * (n / 0x100 % 256) + 65536 * (n / 0x1_0000 % 256) + 16777216 * (n / 0x100_0000 % 256) ≡ n
four_bytes_lem n h = sum4 n (n / 0x100) (n / 0x1_0000) (n / 0x100_0000) (n % 256) (n / 0x100 % 256) (n / 0x1_0000 % 256) (n / 0x100_0000 % 256)
    (split n) (next_place n 0x100 0x1_0000 refl) (next_place n 0x1_0000 0x100_0000 refl) (last_byte n h)

sets_later : (a : ℕ) (l : List ℕ) (i : ℕ) (vs : List ℕ) → sets (a ∷ l) (suc i) vs ≡ a ∷ sets l i vs
sets_later a l i [] = refl
sets_later a l i (v ∷ vs) = sets_later a (set l i v) (suc i) vs

sets_four : (a b c d : ℕ) (bs : List ℕ) (k : ℕ) (vs : List ℕ) → sets (a ∷ b ∷ c ∷ d ∷ bs) (4 * suc k) vs ≡ a ∷ b ∷ c ∷ d ∷ sets bs (4 * k) vs
sets_four a b c d bs k vs =
    let e : 4 * suc k ≡ suc (suc (suc (suc (4 * k)))) = omega arith in
    ap (λ (i : ℕ). sets (a ∷ b ∷ c ∷ d ∷ bs) i vs) e
    ∙ sets_later a (b ∷ c ∷ d ∷ bs) (suc (suc (suc (4 * k)))) vs
    ∙ ap (λ (l : List ℕ). a ∷ l) (sets_later b (c ∷ d ∷ bs) (suc (suc (4 * k))) vs)
    ∙ ap (λ (l : List ℕ). a ∷ b ∷ l) (sets_later c (d ∷ bs) (suc (4 * k)) vs)
    ∙ ap (λ (l : List ℕ). a ∷ b ∷ c ∷ l) (sets_later d bs (4 * k) vs)

pub cells-put : (bs : List ℕ) (k p : ℕ) → k < length (cells bs) → p ≤ 4294967295 → cells (sets bs (4 * k) (four_bytes p)) ≡ set (cells bs) k p
unfolding cells
cells-put [] k p h l = let w : ⊥ = omega arith in absurd w
cells-put (a ∷ []) k p h l = let w : ⊥ = omega arith in absurd w
cells-put (a ∷ b ∷ []) k p h l = let w : ⊥ = omega arith in absurd w
cells-put (a ∷ b ∷ c ∷ []) k p h l = let w : ⊥ = omega arith in absurd w
cells-put (a ∷ b ∷ c ∷ d ∷ bs) zero p h l = ap (λ (q : ℕ). q ∷ cells bs) (four_bytes_lem p (omega arith))
cells-put (a ∷ b ∷ c ∷ d ∷ bs) (suc k) p h l = ap cells (sets_four a b c d bs k (four_bytes p))
    ∙ ap (λ (q : List ℕ). (a + 256 * b + 65536 * c + 16777216 * d) ∷ q) (cells-put bs k p (omega arith) l)
