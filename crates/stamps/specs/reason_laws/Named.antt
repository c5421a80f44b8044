-- Which field a sentence names, and what the second listing prints. Written from document 02, item 13. Assumes nothing.
use Rattle.std.specs.Prelude.{◌≡◌, cond, false, List, [], ◌++◌, ◌∷◌, ℕ, ◌<◌, ◌≤◌, ℤ, length, Float, Result}
use Rattle.std.specs.Float.Ieee.Scale.{finite}
use Rattle.refusals.specs.declared.Refusal.{Refusal}
use Rattle.refusals.specs.Outcome.{Outcome, answer, refusal, outcome}
use Rattle.numerals.specs.little_endian.LittleEndian.{u32_at}
use Rattle.calendar.specs.Refusals.{valid_date}
use Rattle.julian.specs.declared.CalendarFields.{CalendarFields}
use Rattle.julian.specs.JulianDate.{julian, rounded_sum}
use Rattle.julian.specs.Calendar.{julian_to_calendar}
use Rattle.julian.specs.DayFraction.{day_fraction}
use Rattle.julian.specs.Finite.{finite_arg, finite_jd}
use Rattle.julian.specs.day_number.Answer.{day_number_and_fraction}
use Rattle.leap_table.specs.rows.Table.{Row}
use Rattle.leap_table.specs.offsets.Offset.{tai_utc_offset}
use Rattle.utc.specs.UnixTime.{utc_new}
use Rattle.utc.specs.iso_texts.TextCall.{TextCall}
use Rattle.reasons.specs.declared.Values.{Values}
use Rattle.reasons.specs.declared.Values.TheVariants.{Block, Count, Date, Number, Parts, Time}
use Rattle.reasons.specs.declared.sentences.Named.{Named}
use Rattle.reasons.specs.declared.sentences.Named.TheVariants as Field
use Rattle.reasons.specs.declared.sentences.Reason.{Reason}
use Rattle.reasons.specs.sentences.Render.{render}
use Rattle.reasons.specs.Offending.{offending}
use Rattle.reasons.specs.Sentence.{reason_of, sentence}
use Rattle.stamps.specs.declared.Reporting.{Reporting}
use Rattle.stamps.specs.declared.Reporting.TheVariants.{Sentences}
use Rattle.stamps.specs.Block.{block_of, stamp_at}
use Rattle.stamps.specs.Listing.{block_word, numeral, stamp_line, text_at}
use Rattle.stamps.specs.Parts.{line_of}
use Rattle.stamps.specs.reason_laws.Groups.{reads}
use Rattle.stamps.specs.reason_laws.Reader.{OfMachine}

-- the reason of number k and values v names the field f
abbrev pub Names : ℕ → Values → Named → Type 0
Names k v f = reason_of k v ≡ answer (record { number = k; named = f })

-- it names none
abbrev pub NamesNone : ℕ → Values → Type 0
NamesNone k v = offending k v ≡ Field.NoField

-- it names f where the test o of the values gives k, and none where they pass
abbrev pub Tells : {A : Type 0} → Outcome A → ℕ → Values → Named → Type 0
Tells {A} o k v f = (o ≡ refusal k → Names k v f) × ((a : A) → o ≡ answer a → NamesNone k v)

-- the values that the test of a block reads
abbrev pub values_of : List ℕ → Values
values_of s = Block (length s) (u32_at s 0) (u32_at s 4)

-- the field that each number names
pub record FieldNamed (rows : List Row) (y m d : ℤ) (h n : ℕ) (a b : Float) (s : List ℕ) : Type 0 where
  pub year : Tells (valid_date y m d) 1 (Date y m d) (Field.Year y)
  pub month : Tells (valid_date y m d) 2 (Date y m d) (Field.Month m)
  pub day : Tells (valid_date y m d) 3 (Date y m d) (Field.Day d)
  pub hour : 23 < h → Names 4 (Time h n a b) (Field.Hour h)
  pub minute : h ≤ 23 → 59 < n → Names 4 (Time h n a b) (Field.Minute n)
  pub second : day_fraction h n a b ≡ refusal 4 → h ≤ 23 → n ≤ 59 → Names 4 (Time h n a b) (Field.Second a)
  pub time : (x : Float) → day_fraction h n a b ≡ answer x → NamesNone 4 (Time h n a b)
  pub sum : Tells (day_number_and_fraction a b) 6 (Parts a b) (Field.Sum (rounded_sum (julian a b)))
  pub fraction : Tells (tai_utc_offset rows y m d a) 7 (Number a) (Field.Fraction a)
  pub nanos : Tells (utc_new rows y n) 8 (Count n) (Field.Nanos n)
  pub part : Tells (finite_jd (julian a b)) 9 (Parts a b) (cond (finite a) (Field.SecondPart b) (Field.FirstPart a))
  pub offset : Tells (finite_arg a) 10 (Number a) (Field.Offset a)
  pub second_size : Tells (block_of s) 12 (values_of s) (Field.SecondSize (u32_at s 4))
  pub size : Tells (block_of s) 13 (values_of s) (Field.Size (u32_at s 0))
  pub whole_length : Tells (block_of s) 14 (values_of s) (Field.WholeLength (length s))

-- a line: the sentence of number k with the field f after `head`
abbrev pub told_line : List ℕ → ℕ → Named → List ℕ
told_line head k f = (head ++ render (record { number = k; named = f })) ++ (10 ∷ [])

-- what the second listing prints: for a refused stamp its index and the sentence, for a refused block `block` and the sentence, else what the first does
pub record SentencesPrinted (rows : List Row) (how other : Reporting) (m n i line : ℕ) (s : List ℕ) : Type 0 where
  pub stamp_by_6 : text_at rows s n i ≡ refusal 6
      → stamp_line (Sentences m) rows s n i ≡ told_line (numeral i ++ (32 ∷ [])) 6 (Field.Sum (rounded_sum (stamp_at s n i)))
  pub stamp_by_1 : text_at rows s n i ≡ refusal 1 → (c : CalendarFields) × (julian_to_calendar (stamp_at s n i).jd1 (stamp_at s n i).jd2 ≡ answer c)
      × (stamp_line (Sentences m) rows s n i ≡ told_line (numeral i ++ (32 ∷ [])) 1 (Field.Year c.date.year))
  pub block_by_12 : block_of s ≡ refusal 12 → line_of (Sentences m) rows (block_of s) s line ≡ told_line block_word 12 (Field.SecondSize (u32_at s 4))
  pub block_by_13 : block_of s ≡ refusal 13 → line_of (Sentences m) rows (block_of s) s line ≡ told_line block_word 13 (Field.Size (u32_at s 0))
  pub block_by_14 : block_of s ≡ refusal 14 → line_of (Sentences (length s)) rows (block_of s) s line ≡ told_line block_word 14 (Field.WholeLength (length s))
  pub with-text : (text : List ℕ) → text_at rows s n i ≡ answer text → stamp_line how rows s n i ≡ stamp_line other rows s n i
  pub header : block_of s ≡ answer n → line_of how rows (block_of s) s 0 ≡ line_of other rows (block_of s) s 0

-- a number that reads no such values names no field
abbrev pub NoOtherNamed : ℕ → Values → Type 0
NoOtherNamed k v = reads k v ≡ false → NamesNone k v

-- two sentences are the same only if number, field and value are
abbrev pub SameOnlyIf : Type 0
SameOnlyIf = (r s : Reason) → 1 ≤ r.number → r.number ≤ 28 → OfMachine r.named → 1 ≤ s.number → s.number ≤ 28 → OfMachine s.named
    → render r ≡ render s → r ≡ s

-- a sentence that is longer than its buffer is 11
abbrev pub TooLongIs11 : ℕ → Values → Type 0
TooLongIs11 k v = (s before after : List ℕ) (r : Result ℕ Refusal) → sentence k v ≡ answer s → length before < length s
    → TextCall (sentence k v) before r after → outcome r ≡ refusal 11
