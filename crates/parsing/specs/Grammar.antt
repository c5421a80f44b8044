-- The texts that the reader takes, as a grammar: YYYY-MM-DDThh:mm:ss, with a fraction or none, with a Z where UTC is read, and blanks around it. It names the
-- pieces that a text is made of and searches for nothing. Written from document 02, item 1, and the Rust's parsing/mod.rs. Assumes nothing.
use Rattle.std.specs.Prelude.{ℕ, ◌≤◌, ◌≡◌, List, [], ◌∷◌, ◌++◌, Bool, true, false, length, ◌⊎◌}
use Rattle.numerals.specs.digits.Decimal.{number, AllDigits, Digits}
use Rattle.parsing.specs.scan.Written.{Written}

-- document 02: "bytes 9 to 13 or 32"
abbrev pub Blank : ℕ → Type 0
Blank c = ((9 ≤ c) × (c ≤ 13)) ⊎ (c ≡ 32)

unfoldable pub AllBlank : List ℕ → Type 0
AllBlank [] = Unit
AllBlank (c ∷ cs) = Blank c × AllBlank cs

-- what stands between date and time: a T, 84, or one blank of the kind 32
pub data Separator : ℕ → Type 0 where
  letter : Separator 84
  space : Separator 32

-- the bytes of a fraction and its digits: none, or a point, 46, and one digit or more
pub data Fraction : List ℕ → List ℕ → Type 0 where
  none : Fraction [] []
  some : {digits : List ℕ} → AllDigits digits → 1 ≤ length digits → Fraction (46 ∷ digits) digits

-- the bytes of a zone and whether they are a Z, 90, which only a UTC text may have
pub data Zone (utc : Bool) : List ℕ → Bool → Type 0 where
  plain : Zone utc [] false
  zulu : utc ≡ true → Zone utc (90 ∷ []) true

-- the bytes of a text, piece by piece
pub record Pieces : Type 0 where
  pub before : List ℕ
  pub year : List ℕ
  pub month : List ℕ
  pub day : List ℕ
  pub separator : ℕ
  pub hour : List ℕ
  pub minute : List ℕ
  pub second : List ℕ
  pub fraction : List ℕ
  pub digits : List ℕ
  pub zone : List ℕ
  pub after : List ℕ

-- from the year to the second: 45 is '-', 58 is ':'
abbrev pub head_of : Pieces → List ℕ → List ℕ
head_of p rest =
    p.year ++ (45 ∷ (p.month ++ (45 ∷ (p.day ++ (p.separator ∷ (p.hour ++ (58 ∷ (p.minute ++ (58 ∷ (p.second ++ rest))))))))))

abbrev pub text_of : Pieces → List ℕ
text_of p = p.before ++ head_of p (p.fraction ++ (p.zone ++ p.after))

-- the text t, of a UTC time or of any other, says w
pub record Reads (utc : Bool) (t : List ℕ) (w : Written) : Type 0 where
  pub pieces : Pieces
  pub is : t ≡ text_of pieces
  pub before : AllBlank pieces.before
  pub year : Digits 4 pieces.year
  pub month : Digits 2 pieces.month
  pub day : Digits 2 pieces.day
  pub separator : Separator pieces.separator
  pub hour : Digits 2 pieces.hour
  pub minute : Digits 2 pieces.minute
  pub second : Digits 2 pieces.second
  pub fraction : Fraction pieces.fraction pieces.digits
  pub zone : Zone utc pieces.zone w.zulu
  pub after : AllBlank pieces.after
  pub year_is : w.year ≡ number pieces.year
  pub month_is : w.month ≡ number pieces.month
  pub day_is : w.day ≡ number pieces.day
  pub hour_is : w.hour ≡ number pieces.hour
  pub minute_is : w.minute ≡ number pieces.minute
  pub whole_is : w.whole ≡ number (pieces.second ++ pieces.digits)
  pub places_is : w.places ≡ length pieces.digits
