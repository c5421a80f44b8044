-- The grammar decided by one scan from the left: what a text says, or 15. That it is the grammar is proved (`parsing_laws`, proofs/Grammar.antt). Written from
-- document 02, item 1. Assumes nothing.
use Rattle.std.specs.Prelude.{ℕ, ◌+◌, ◌-◌, ◌*◌, List, [], ◌∷◌, Bool, cond, ◌&&◌, ◌||◌, length, drop, get_or, leb, eqb}
use Rattle.refusals.specs.Outcome.{Outcome, answer, refusal}
use Rattle.numerals.specs.digits.Decimal.{value, is_digit}
use Rattle.parsing.specs.scan.Written.{Written}

unfoldable pub is_blank : ℕ → Bool
is_blank c = (leb 9 c && leb c 13) || eqb c 32

-- what is left of a text behind the blanks in front
unfoldable pub after_blanks : List ℕ → List ℕ
after_blanks [] = []
after_blanks (c ∷ cs) = cond (is_blank c) (after_blanks cs) (c ∷ cs)

-- byte i of s; 0, which is none of the bytes that are looked for, past its end
abbrev pub byte_at : List ℕ → ℕ → ℕ
byte_at s i = get_or s i 0

unfoldable pub two_digits : ℕ → ℕ → Bool
two_digits a b = is_digit a && is_digit b

-- the number that a digit says, and two digits; any other byte says 0
unfoldable pub digit_says : ℕ → ℕ
digit_says c = cond (is_digit c) (c - 48) 0

abbrev pub two_say : ℕ → ℕ → ℕ
two_say a b = 10 * digit_says a + digit_says b

-- YYYY-MM-DD at the start of s
unfoldable pub date_right : List ℕ → Bool
date_right s =
    two_digits (byte_at s 0) (byte_at s 1) && (two_digits (byte_at s 2) (byte_at s 3) && (eqb (byte_at s 4) 45
    && (two_digits (byte_at s 5) (byte_at s 6) && (eqb (byte_at s 7) 45 && two_digits (byte_at s 8) (byte_at s 9)))))

-- a T or one blank
unfoldable pub is_separator : ℕ → Bool
is_separator c = eqb c 84 || eqb c 32

-- Thh:mm:ss behind it
unfoldable pub time_right : List ℕ → Bool
time_right s =
    is_separator (byte_at s 10) && (two_digits (byte_at s 11) (byte_at s 12) && (eqb (byte_at s 13) 58
    && (two_digits (byte_at s 14) (byte_at s 15) && (eqb (byte_at s 16) 58 && two_digits (byte_at s 17) (byte_at s 18)))))

-- the digits in front of s
unfoldable pub leading : List ℕ → List ℕ
leading [] = []
leading (c ∷ cs) = cond (is_digit c) (c ∷ leading cs) []

-- the digits of a fraction that starts s: none where no point stands there
unfoldable pub fraction_digits : List ℕ → List ℕ
fraction_digits s = cond (eqb (byte_at s 0) 46) (leading (drop 1 s)) []

-- what is left of s behind a fraction; a point with no digit behind it is none
unfoldable pub after_fraction : List ℕ → List ℕ
after_fraction s = cond (eqb (length (fraction_digits s)) 0) s (drop (1 + length (fraction_digits s)) s)

-- whether a Z starts s
abbrev pub zulu_first : Bool → List ℕ → Bool
zulu_first utc s = utc && eqb (byte_at s 0) 90

-- s is a zone and blanks, and nothing else
unfoldable pub end_right : Bool → List ℕ → Bool
end_right utc s = eqb (length (after_blanks (cond (zulu_first utc s) (drop 1 s) s))) 0

-- of what is left behind the blanks in front
unfoldable pub right_form : Bool → List ℕ → Bool
right_form utc s = date_right s && (time_right s && end_right utc (after_fraction (drop 19 s)))

unfoldable pub says : Bool → List ℕ → Written
says utc s = record {
  year = 100 * two_say (byte_at s 0) (byte_at s 1) + two_say (byte_at s 2) (byte_at s 3);
  month = two_say (byte_at s 5) (byte_at s 6);
  day = two_say (byte_at s 8) (byte_at s 9);
  hour = two_say (byte_at s 11) (byte_at s 12);
  minute = two_say (byte_at s 14) (byte_at s 15);
  whole = value (two_say (byte_at s 17) (byte_at s 18)) (fraction_digits (drop 19 s));
  places = length (fraction_digits (drop 19 s));
  zulu = zulu_first utc (after_fraction (drop 19 s));
}

unfoldable pub form_of : Bool → List ℕ → Outcome Written
form_of utc t = cond (right_form utc (after_blanks t)) (answer (says utc (after_blanks t))) (refusal 15)
