-- The form of a text, whatever its digits say: the year, -MM-DDThh:mm:ss.mmm, each digit and each separator in its place. Written from document 01, "UTC text":
-- "The year has at least 4 characters, sign counted", and the Rust's `iso_string` (scales/utc/mod.rs). Assumes nothing.
use Rattle.std.specs.Prelude.{ℕ, ◌≤◌, ◌<◌, ◌≡◌, List, [], ◌∷◌, cond, length, eqb}
unfoldable pub use Rattle.numerals.specs.digits.Decimal.{AllDigits}
pub use Rattle.numerals.specs.digits.Decimal.{Digits}
use Rattle.utc.specs.text.ReadBack.{from_end, year_bytes}

-- what stands after a minus sign, 45, or the whole where there is none
unfoldable pub unsigned : List ℕ → List ℕ
unsigned [] = []
unsigned (c ∷ cs) = cond (eqb c 45) cs (c ∷ cs)

-- the first of some bytes is not 0's, 48
unfoldable pub NoZeroFirst : List ℕ → Type 0
NoZeroFirst [] = Unit
NoZeroFirst (c ∷ cs) = c ≡ 48 → ⊥

-- zeros fill a year up to four characters, sign counted, and no further: a longer one has no zero in front
abbrev pub YearFilledToFour : List ℕ → Type 0
YearFilledToFour t = 4 < length (year_bytes t) → NoZeroFirst (unsigned (year_bytes t))

-- the byte c stands k bytes before the end of t
abbrev pub StandsAt : ℕ → ℕ → List ℕ → Type 0
StandsAt c k t = from_end k 1 t ≡ c ∷ []

-- what stands behind the year. 45 is '-', 84 is 'T', 58 is ':' and 46 is '.'
pub record RestFormed (t : List ℕ) : Type 0 where
  pub after-year : StandsAt 45 19 t
  pub month : Digits 2 (from_end 18 2 t)
  pub after_month : StandsAt 45 16 t
  pub day : Digits 2 (from_end 15 2 t)
  pub after_day : StandsAt 84 13 t
  pub hour : Digits 2 (from_end 12 2 t)
  pub after_hour : StandsAt 58 10 t
  pub minute : Digits 2 (from_end 9 2 t)
  pub after_minute : StandsAt 58 7 t
  pub second : Digits 2 (from_end 6 2 t)
  pub after_second : StandsAt 46 4 t
  pub milli : Digits 3 (from_end 3 3 t)

-- a year of at least four characters, all digits but a minus sign
pub record WellFormed (t : List ℕ) : Type 0 where
  pub year_length : 4 ≤ length (year_bytes t)
  pub year : AllDigits (unsigned (year_bytes t))
  pub rest : RestFormed t
