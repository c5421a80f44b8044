-- What one scan finds in a text: the fields of Form, and of a fraction the number of digits and the value of the first 13, which are all that count. Written
-- from document 02, item 1, by way of Form. The contract of `scan` cites it; those of the reader cite Form, to which the reader's proofs tie it. Assumes
-- nothing.
use Rattle.std.specs.Prelude.{ℕ, ◌+◌, ◌*◌, ◌≤◌, ◌≡◌, List, [], ◌∷◌, Bool, cond, ◌&&◌, length, drop, get_or, ltb, eqb}
use Rattle.refusals.specs.Outcome.{Outcome, answer, refusal}
use Rattle.numerals.specs.digits.Decimal.{is_digit}
use Rattle.parsing.specs.declared.scan.Form.{Form}
use Rattle.parsing.specs.declared.scan.Run.{Run}
use Rattle.parsing.specs.scan.Form.{byte_at, two_digits, digit_says, two_say, leading, fraction_digits, after_fraction, after_blanks, right_form}

-- three numbers of two digits with a mark between them, from index i of t on; no contract of a public function cites it
unfoldable pub pairs_at : ℕ → List ℕ → ℕ → Bool
pairs_at mark t i =
    two_digits (get_or t i 0) (get_or t (i + 1) 0) && (eqb (get_or t (i + 2) 0) mark
    && (two_digits (get_or t (i + 3) 0) (get_or t (i + 4) 0) && (eqb (get_or t (i + 5) 0) mark && two_digits (get_or t (i + 6) 0) (get_or t (i + 7) 0))))

-- the number w with the digit c behind it, where that is one of the first 13 of its fraction
abbrev pub joined : ℕ → ℕ → ℕ → ℕ
joined w c place = cond (ltb place 13) (10 * w + digit_says c) w

-- the number w, `place` digits into a fraction, with the digits in front of s behind it
unfoldable pub kept_from : ℕ → ℕ → List ℕ → ℕ
kept_from w place [] = w
kept_from w place (c ∷ cs) = cond (is_digit c) (kept_from (joined w c place) (place + 1) cs) w

-- the second with the digits of the fraction that starts s
unfoldable pub kept : ℕ → List ℕ → ℕ
kept second s = cond (eqb (byte_at s 0) 46) (kept_from second 0 (drop 1 s)) second

-- r tells of the digits in front of what t has from `at` on
pub record DigitsRun (second : ℕ) (at : ℕ) (t : List ℕ) (r : Run) : Type 0 where
  pub whole : r.whole ≡ kept_from second 0 (drop at t)
  pub places : r.places ≡ length (leading (drop at t))
  pub end : r.end ≡ at + r.places
  pub within : r.end ≤ length t

-- r tells of the fraction that t has from `at` on
pub record FractionRun (second : ℕ) (at : ℕ) (t : List ℕ) (r : Run) : Type 0 where
  pub whole : r.whole ≡ kept second (drop at t)
  pub places : r.places ≡ length (fraction_digits (drop at t))
  pub behind : drop r.end t ≡ after_fraction (drop at t)
  pub within : r.end ≤ length t

abbrev pub form_with : ℕ → ℕ → ℕ → ℕ → ℕ → ℕ → ℕ → ℕ → Form
form_with y m d h n s whole places = record { year = y; month = m; day = d; hour = h; minute = n; second = s; whole = whole; places = places }

-- the fields of a text of the right form, with what its fraction gave
abbrev pub form_by : List ℕ → ℕ → ℕ → Form
form_by s whole places =
    form_with (100 * two_say (byte_at s 0) (byte_at s 1) + two_say (byte_at s 2) (byte_at s 3)) (two_say (byte_at s 5) (byte_at s 6))
    (two_say (byte_at s 8) (byte_at s 9))
    (two_say (byte_at s 11) (byte_at s 12)) (two_say (byte_at s 14) (byte_at s 15)) (two_say (byte_at s 17) (byte_at s 18)) whole places

unfoldable pub form_at : List ℕ → Form
form_at s = form_by s (kept (two_say (byte_at s 17) (byte_at s 18)) (drop 19 s)) (length (fraction_digits (drop 19 s)))

unfoldable pub scan_of : Bool → List ℕ → Outcome Form
scan_of utc t = cond (right_form utc (after_blanks t)) (answer (form_at (after_blanks t))) (refusal 15)
