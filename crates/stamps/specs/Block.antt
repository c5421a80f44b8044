-- What a stamp block says, as a function of its bytes. Written from document 01, "Stamp block" and "Refusals by number". Assumes nothing.
use Rattle.std.specs.Prelude.{ℕ, ◌+◌, ◌*◌, List, cond, length, ltb, leb, eqb}
use Rattle.std.specs.Float.Ieee.{of_bits}
use Rattle.std.specs.Float.{binary64}
use Rattle.refusals.specs.Outcome.{Outcome, answer, refusal}
use Rattle.numerals.specs.little_endian.LittleEndian.{u32_at, u64_at}
use Rattle.julian.specs.declared.JulianDate.{JulianDate}
use Rattle.julian.specs.JulianDate.{julian}

-- the number of stamps; refusals in order: 14 under 8 bytes, 12 sizes that differ, 13 a size above 4,000, 14 another length than the sizes say
unfoldable pub block_of : List ℕ → Outcome ℕ
block_of s =
    cond (ltb (length s) 8) (refusal 14)
    (cond (eqb (u32_at s 0) (u32_at s 4))
    (cond (leb (u32_at s 0) 4000) (cond (eqb (length s) (8 + 16 * u32_at s 0)) (answer (u32_at s 0)) (refusal 14)) (refusal 13))
    (refusal 12))

-- the 64-bit patterns of stamp i of n: all jd1 stand before all jd2
unfoldable pub jd1_bits : List ℕ → ℕ → ℕ
jd1_bits s i = u64_at s (8 + 8 * i)

unfoldable pub jd2_bits : List ℕ → ℕ → ℕ → ℕ
jd2_bits s n i = u64_at s (8 + 8 * n + 8 * i)

-- stamp i of n as a date: `of_bits` is a NaN at every pattern of one
unfoldable pub stamp_at : List ℕ → ℕ → ℕ → JulianDate
stamp_at s n i = julian (of_bits binary64 (jd1_bits s i)) (of_bits binary64 (jd2_bits s n i))
