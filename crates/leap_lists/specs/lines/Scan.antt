-- What stands in front of what is left of a line: blanks, digits, and its end. Written from the customer's words on `table=FILE` and from `read_row` of
-- programs/line_up.c, which read such lines before: blanks are spaces and tabs, at both ends of a line also carriage returns, and a # begins a comment.
-- Assumes nothing.
use Rattle.std.specs.Prelude.{ℕ, zero, suc, List, [], ◌∷◌, Bool, true, false, cond, ◌&&◌, ◌||◌, length, drop, get_or, ltb, eqb, Option, None, Some}
use Rattle.numerals.specs.digits.Decimal.{number, is_digit}

-- a space, a tab, and with `returns` a carriage return
unfoldable pub line_blank : Bool → ℕ → Bool
line_blank returns c = eqb c 32 || (eqb c 9 || (returns && eqb c 13))

-- what is left behind the blanks in front
unfoldable pub behind_blanks : Bool → List ℕ → List ℕ
behind_blanks returns [] = []
behind_blanks returns (c ∷ cs) = cond (line_blank returns c) (behind_blanks returns cs) (c ∷ cs)

-- the digits in front, `most` of them at most
unfoldable pub first_digits : ℕ → List ℕ → List ℕ
first_digits zero s = []
first_digits (suc k) [] = []
first_digits (suc k) (c ∷ cs) = cond (is_digit c) (c ∷ first_digits k cs) []

-- nothing is left, or a comment
unfoldable pub ended : List ℕ → Bool
ended [] = true
ended (c ∷ cs) = eqb c 35

-- the number that digits say, where there are some and the line ends behind them
unfoldable pub number_then : List ℕ → List ℕ → Option ℕ
number_then digits rest = cond (ltb 0 (length digits) && ended (behind_blanks true rest)) (Some (number digits)) None

-- a blank or more, a number of at most `most` digits, and the end of the line
unfoldable pub last_number : ℕ → List ℕ → Option ℕ
last_number most s =
    let d = first_digits most (behind_blanks false s) in
    cond (line_blank false (get_or s 0 0)) (number_then d (drop (length d) (behind_blanks false s))) None
