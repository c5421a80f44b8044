-- A reader of sentences: the number whose text begins the sentence, and the field whose word comes next, with its value. It is written apart from the
-- sentences' writer, from the texts and words alone; that it gives every reason back shows that two sentences are the same only if number, field and value are
-- (document 02, item 13). Assumes nothing.
use Rattle.std.specs.Prelude.{ℕ, suc, Bool, true, false, cond, ◌&&◌, List, [], ◌∷◌, length, drop, T, eqb, ℤ, pos, neg_ℤ, Float}
use Rattle.std.specs.Float.{binary64}
use Rattle.std.specs.Float.Ieee.{of_bits, fits}
use Rattle.numerals.specs.digits.Decimal.{number}
use Rattle.numerals.specs.digits.Hexadecimal.{hex_number}
use Rattle.reasons.specs.declared.sentences.Named.{Named}
use Rattle.reasons.specs.declared.sentences.Named.TheVariants.{NoField, Year, Month, Day, Hour, Minute, Second, Sum, Fraction, Nanos, FirstPart}
use Rattle.reasons.specs.declared.sentences.Named.TheVariants.{SecondPart, Offset, SecondSize, Size, WholeLength}
use Rattle.reasons.specs.declared.sentences.Reason.{Reason}
use Rattle.reasons.specs.sentences.Texts.{ascii_bytes, texts, fixed_text}

-- the second text begins with the first
unfoldable pub starts_with : List ℕ → List ℕ → Bool
starts_with [] s = true
starts_with (c ∷ cs) [] = false
starts_with (c ∷ cs) (d ∷ ds) = eqb c d && starts_with cs ds

-- the number of the first of the texts that begins s, counted from k; 0 where none does
unfoldable pub beginning : List (List ℕ) → ℕ → List ℕ → ℕ
beginning [] k s = 0
beginning (t ∷ ts) k s = cond (starts_with t s) k (beginning ts (suc k) s)

unfoldable pub number_in : List ℕ → ℕ
number_in s = beginning (drop 1 texts) 1 s

-- a whole number with or without a sign, and a float by its bits
unfoldable pub read_signed : List ℕ → ℤ
read_signed [] = pos 0
read_signed (c ∷ cs) = cond (eqb c 45) (neg_ℤ (pos (number cs))) (pos (number (c ∷ cs)))

abbrev pub float_in : List ℕ → Float
float_in cs = of_bits binary64 (hex_number cs)

-- the field whose word begins s
unfoldable pub field_by : List ℕ → Named
field_by s =
    cond (starts_with (ascii_bytes ": year ") s) (Year (read_signed (drop 7 s)))
    (cond (starts_with (ascii_bytes ": month ") s) (Month (read_signed (drop 8 s)))
    (cond (starts_with (ascii_bytes ": day ") s) (Day (read_signed (drop 6 s)))
    (cond (starts_with (ascii_bytes ": hour ") s) (Hour (number (drop 7 s)))
    (cond (starts_with (ascii_bytes ": minute ") s) (Minute (number (drop 9 s)))
    (cond (starts_with (ascii_bytes ": seconds ") s) (Second (float_in (drop 10 s)))
    (cond (starts_with (ascii_bytes ": sum ") s) (Sum (float_in (drop 6 s)))
    (cond (starts_with (ascii_bytes ": fraction ") s) (Fraction (float_in (drop 11 s)))
    (cond (starts_with (ascii_bytes ": nanoseconds ") s) (Nanos (number (drop 14 s)))
    (cond (starts_with (ascii_bytes ": jd1 ") s) (FirstPart (float_in (drop 6 s)))
    (cond (starts_with (ascii_bytes ": jd2 ") s) (SecondPart (float_in (drop 6 s)))
    (cond (starts_with (ascii_bytes ": offset ") s) (Offset (float_in (drop 9 s)))
    (cond (starts_with (ascii_bytes ": second size ") s) (SecondSize (number (drop 14 s)))
    (cond (starts_with (ascii_bytes ": size ") s) (Size (number (drop 7 s)))
    (cond (starts_with (ascii_bytes ": length ") s) (WholeLength (number (drop 9 s)))
    NoField))))))))))))))

unfoldable pub read_sentence : List ℕ → Reason
read_sentence s = record { number = number_in s; named = field_by (drop (length (fixed_text (number_in s))) s) }

-- a float of the machine: every f64 is one. A whole number may have any size
unfoldable pub OfMachine : Named → Type 0
OfMachine (Second x) = T (fits binary64 x)
OfMachine (Sum x) = T (fits binary64 x)
OfMachine (Fraction x) = T (fits binary64 x)
OfMachine (FirstPart x) = T (fits binary64 x)
OfMachine (SecondPart x) = T (fits binary64 x)
OfMachine (Offset x) = T (fits binary64 x)
OfMachine NoField = Unit
OfMachine (Year n) = Unit
OfMachine (Month n) = Unit
OfMachine (Day n) = Unit
OfMachine (Hour n) = Unit
OfMachine (Minute n) = Unit
OfMachine (Nanos n) = Unit
OfMachine (SecondSize n) = Unit
OfMachine (Size n) = Unit
OfMachine (WholeLength n) = Unit
