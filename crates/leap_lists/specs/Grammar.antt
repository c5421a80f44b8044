-- The lines that are read, as a grammar: it names the pieces that a line is made of and searches for nothing. Written from the customer's words on
-- `table=FILE`, the head of the IERS file leap-seconds.list and `read_row` of programs/line_up.c. Assumes nothing.
use Rattle.std.specs.Prelude.{ℕ, ◌+◌, ◌-◌, ◌*◌, ◌/◌, ◌≤◌, ◌<◌, ◌≡◌, List, [], ◌∷◌, ◌++◌, Bool, true, false, length, get_or}
use Rattle.numerals.specs.digits.Decimal.{number, AllDigits, Digits}
use Rattle.leap_lists.specs.declared.lines.Line.{Line}
use Rattle.leap_lists.specs.declared.lines.Line.TheVariants as K
use Rattle.leap_lists.specs.lines.Scan.{line_blank}
use Rattle.leap_lists.specs.lines.Months.{first_month, all_months, days_from}

-- each byte is a blank's
unfoldable pub OnlyBlanks : Bool → List ℕ → Type 0
OnlyBlanks returns [] = Unit
OnlyBlanks returns (c ∷ cs) = (line_blank returns c ≡ true) × OnlyBlanks returns cs

-- nothing, or a # and anything
pub data Comment : List ℕ → Type 0 where
  none : Comment []
  some : (cs : List ℕ) → Comment (35 ∷ cs)

-- the end of a line that has a number: spaces or tabs, one or more; at most `most` digits; blanks and a comment
pub record LineEnd (most : ℕ) (digits : List ℕ) (s : List ℕ) : Type 0 where
  pub gap : List ℕ
  pub after : List ℕ
  pub comment : List ℕ
  pub is : s ≡ gap ++ (digits ++ (after ++ comment))
  pub gap_blank : OnlyBlanks false gap
  pub gap_some : 1 ≤ length gap
  pub all_digits : AllDigits digits
  pub some : 1 ≤ length digits
  pub few : length digits ≤ most
  pub after_blank : OnlyBlanks true after
  pub a_comment : Comment comment

-- the line t says l. NTP seconds are the midnight that begins month k after January 1900
pub data Says : List ℕ → Line → Type 0 where
  nothing : (b c : List ℕ) → OnlyBlanks true b → Comment c → (get_or c 1 0 ≡ 64 → ⊥) → Says (b ++ c) K.Blank
  month : (b y m e f : List ℕ) → OnlyBlanks true b → Digits 4 y → Digits 2 m → 1 ≤ number m → number m ≤ 12 → LineEnd 9 f e
      → Says (b ++ (y ++ (45 ∷ (m ++ e)))) (K.Row (12 * number y + number m - 1) (number f))
  ntp : (b d e f : List ℕ) (k : ℕ) → OnlyBlanks true b → AllDigits d → 1 ≤ length d → length d ≤ 12 → k < all_months → number d
      ≡ 86400 * days_from first_month k
      → LineEnd 9 f e → Says (b ++ (d ++ e)) (K.Row (first_month + k) (number f))
  expiry : (b e f : List ℕ) → OnlyBlanks true b → LineEnd 12 f e → Says (b ++ (35 ∷ (64 ∷ e))) (K.Expiry (number f / 86400 + 15020))
