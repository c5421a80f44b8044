-- Decimal numbers as lists of ASCII digits, read and written, of any size. Written from the common meaning of decimal notation; document 02, items 1 and 13,
-- reads and writes them. Assumes nothing.
use Rattle.std.specs.Prelude.{ℕ, zero, suc, ◌+◌, ◌-◌, ◌*◌, ◌/◌, ◌%◌, ◌≤◌, ◌≡◌, List, [], ◌∷◌, ◌++◌, Bool, cond, ◌&&◌, length, leb, ltb}

-- the number that decimal digits say, read from the left after the number v
abbrev pub value : ℕ → List ℕ → ℕ
value v [] = v
value v (c ∷ cs) = value (10 * v + (c - 48)) cs

abbrev pub number : List ℕ → ℕ
number cs = value 0 cs

-- the byte is a digit's: 48 to 57
unfoldable pub is_digit : ℕ → Bool
is_digit c = leb 48 c && leb c 57

-- each byte is a digit's
unfoldable pub AllDigits : List ℕ → Type 0
AllDigits [] = Unit
AllDigits (c ∷ cs) = (48 ≤ c) × (c ≤ 57) × AllDigits cs

-- n digits, and nothing else
pub record Digits (n : ℕ) (cs : List ℕ) : Type 0 where
  pub many : length cs ≡ n
  pub all : AllDigits cs

-- the last decimal digit of n
abbrev pub last : ℕ → ℕ
last n = 48 + n % 10

-- n in decimal, with no zeros in front, in at most `most` digits: of a longer one the last ones
unfoldable pub digits_in : ℕ → ℕ → List ℕ
digits_in zero n = []
digits_in (suc most) n = cond (ltb n 10) (last n ∷ []) (digits_in most (n / 10) ++ (last n ∷ []))

-- n in decimal, with no zeros in front: a number n never has more than n + 1 digits
unfoldable pub digits_of : ℕ → List ℕ
digits_of n = digits_in (suc n) n
