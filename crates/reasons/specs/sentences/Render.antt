-- The sentence of a reason. Written from document 02, item 13: a fixed text for each number and, where a field is named, the field's word and its value;
-- "floats are shown as 16 hexadecimal digits of their bits, any NaN as 7ff8000000000000". Assumes nothing.
use Rattle.std.specs.Prelude.{ℕ, suc, List, [], ◌∷◌, ◌++◌, ℤ, pos, negsuc, Float}
use Rattle.std.specs.Float.{binary64}
use Rattle.std.specs.Float.Ieee.{to_bits}
use Rattle.numerals.specs.digits.Decimal.{digits_of}
use Rattle.numerals.specs.digits.Hexadecimal.{hex16}
use Rattle.reasons.specs.declared.sentences.Named.{Named}
use Rattle.reasons.specs.declared.sentences.Named.TheVariants.{NoField, Year, Month, Day, Hour, Minute, Second, Sum, Fraction, Nanos, FirstPart}
use Rattle.reasons.specs.declared.sentences.Named.TheVariants.{SecondPart, Offset, SecondSize, Size, WholeLength}
use Rattle.reasons.specs.declared.sentences.Reason.{Reason}
use Rattle.reasons.specs.sentences.Texts.{ascii_bytes, fixed_text}

-- a whole number in decimal, with a sign where it is below 0
unfoldable pub signed_digits : ℤ → List ℕ
signed_digits (pos n) = digits_of n
signed_digits (negsuc n) = 45 ∷ digits_of (suc n)

-- a float by its bits; `to_bits` is 7ff8000000000000 at a NaN
abbrev pub float_digits : Float → List ℕ
float_digits x = hex16 (to_bits binary64 x)

-- the field's word and its value
unfoldable pub named_text : Named → List ℕ
named_text NoField = []
named_text (Year n) = ascii_bytes ": year " ++ signed_digits n
named_text (Month n) = ascii_bytes ": month " ++ signed_digits n
named_text (Day n) = ascii_bytes ": day " ++ signed_digits n
named_text (Hour n) = ascii_bytes ": hour " ++ digits_of n
named_text (Minute n) = ascii_bytes ": minute " ++ digits_of n
named_text (Second x) = ascii_bytes ": seconds " ++ float_digits x
named_text (Sum x) = ascii_bytes ": sum " ++ float_digits x
named_text (Fraction x) = ascii_bytes ": fraction " ++ float_digits x
named_text (Nanos n) = ascii_bytes ": nanoseconds " ++ digits_of n
named_text (FirstPart x) = ascii_bytes ": jd1 " ++ float_digits x
named_text (SecondPart x) = ascii_bytes ": jd2 " ++ float_digits x
named_text (Offset x) = ascii_bytes ": offset " ++ float_digits x
named_text (SecondSize n) = ascii_bytes ": second size " ++ digits_of n
named_text (Size n) = ascii_bytes ": size " ++ digits_of n
named_text (WholeLength n) = ascii_bytes ": length " ++ digits_of n

unfoldable pub render : Reason → List ℕ
render r = fixed_text r.number ++ named_text r.named
