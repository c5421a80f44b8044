-- A not-finite stamp of a run: one with a part whose exponent field is all ones, an infinity or a NaN of any sign and payload (IEEE 754); the numbers that a
-- stamp can get, and how many are not 0. Written from the customer's first demand: every scale conversion refuses a part that is not finite, by number. Assumes
-- nothing.
use Rattle.std.specs.Prelude.{ℕ, zero, suc, ◌+◌, ◌*◌, ◌≡◌, ◌⊎◌, cond, ◌&&◌, ◌||◌, List, eqb, get_or}
use Rattle.constants.specs.scale_numbers.Scales.{UTC, TAI}
use Rattle.numerals.specs.little_endian.LittleEndian.{u64_at}
use Rattle.floats.specs.ExponentField.{exponent_field}

-- the stamp at place i: eight bytes of each part
abbrev pub StampNotFinite : List ℕ → List ℕ → ℕ → Type 0
StampNotFinite js ks i = (exponent_field (u64_at js (8 * i)) ≡ 2047) ⊎ (exponent_field (u64_at ks (8 * i)) ≡ 2047)

-- the number that it gets: 6 where the first call on the way reads the leap table, from UTC and from TAI to UTC, and else 9
unfoldable pub number_of_not_finite : ℕ → ℕ → ℕ
number_of_not_finite from to = cond (eqb from to) 9 (cond (eqb from UTC || (eqb from TAI && eqb to UTC)) 6 9)

-- the numbers of refused stamps
abbrev pub OneSixNine : ℕ → Type 0
OneSixNine n = (n ≡ 1) ⊎ ((n ≡ 6) ⊎ (n ≡ 9))

-- how many of the first n numbers are not 0
unfoldable pub not_zero_in : ℕ → List ℕ → ℕ
not_zero_in zero l = 0
not_zero_in (suc n) l = not_zero_in n l + cond (eqb (get_or l n 0) 0) 0 1
