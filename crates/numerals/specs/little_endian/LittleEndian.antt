-- Whole numbers as bytes, the lowest first: the layout of the stamp block's numbers and of the numbers that the C interface hands out. Written from document
-- 01, "Stamp block". Assumes nothing.
use Rattle.std.specs.Prelude.{ℕ, ◌+◌, ◌-◌, ◌*◌, ◌/◌, ◌%◌, List, [], ◌∷◌, ◌++◌, cond, length, get_or, drop, leb, ltb, ℤ, pos, negsuc}
use Rattle.std.proofs.lemmas.List.Edits.{sets}

-- the number in the four bytes from `at` on
unfoldable pub four_at : List ℕ → ℕ → ℕ
four_at s at = get_or s at 0 + 256 * get_or s (at + 1) 0 + 65536 * get_or s (at + 2) 0 + 16777216 * get_or s (at + 3) 0

-- the numbers in four bytes and in eight; 0 where the bytes are not all there
unfoldable pub u32_at : List ℕ → ℕ → ℕ
u32_at s at = cond (leb (at + 4) (length s)) (four_at s at) 0

unfoldable pub u64_at : List ℕ → ℕ → ℕ
u64_at s at = cond (leb (at + 8) (length s)) (four_at s at + 4294967296 * four_at s (at + 4)) 0

-- the four lowest bytes of a number
abbrev pub four_bytes : ℕ → List ℕ
four_bytes n = n % 256 ∷ n / 0x100 % 256 ∷ n / 0x1_0000 % 256 ∷ n / 0x100_0000 % 256 ∷ []

-- the eight bytes of a number
abbrev pub eight_bytes : ℕ → List ℕ
eight_bytes n =
    n % 256
    ∷ n / 0x100 % 256
    ∷ n / 0x1_0000 % 256
    ∷ n / 0x100_0000 % 256
    ∷ n / 0x1_0000_0000 % 256
    ∷ n / 0x100_0000_0000 % 256
    ∷ n / 0x1_0000_0000_0000 % 256
    ∷ n / 0x100_0000_0000_0000 % 256
    ∷ []

-- a list with the eight bytes of a number at its start; where they do not all fit, the list as it was
unfoldable pub with_u64 : List ℕ → ℕ → List ℕ
with_u64 l n = cond (leb 8 (length l)) (eight_bytes n ++ drop 8 l) l

-- the same of the four lowest bytes
unfoldable pub with_u32 : List ℕ → ℕ → List ℕ
with_u32 l n = cond (leb 4 (length l)) (four_bytes n ++ drop 4 l) l

-- a list of numbers of eight bytes with a number in place i, and one of numbers of four; where the list does not have the place, the list as it was
unfoldable pub with_nth64 : List ℕ → ℕ → ℕ → List ℕ
with_nth64 l i n = cond (leb (8 * i + 8) (length l)) (sets l (8 * i) (eight_bytes n)) l

unfoldable pub with_nth32 : List ℕ → ℕ → ℕ → List ℕ
with_nth32 l i n = cond (leb (4 * i + 4) (length l)) (sets l (4 * i) (four_bytes n)) l

-- the pattern of a signed number, 64 bits in two's complement: -1 is all ones. `negsuc k` is -1 - k
unfoldable pub pattern_of : ℤ → ℕ
pattern_of (pos n) = n
pattern_of (negsuc k) = 0xffff_ffff_ffff_ffff - k

-- and the number of a pattern
unfoldable pub signed_of : ℕ → ℤ
signed_of n = cond (ltb n 0x8000_0000_0000_0000) (pos n) (negsuc (0xffff_ffff_ffff_ffff - n))

-- the same with 32 bits
unfoldable pub pattern32 : ℤ → ℕ
pattern32 (pos n) = n
pattern32 (negsuc k) = 0xffff_ffff - k

unfoldable pub signed32 : ℕ → ℤ
signed32 n = cond (ltb n 0x8000_0000) (pos n) (negsuc (0xffff_ffff - n))

-- the signed number in the four bytes from `at` on; 0 where they are not all there
abbrev pub i32_at : List ℕ → ℕ → ℤ
i32_at s at = signed32 (u32_at s at)
