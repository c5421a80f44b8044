-- What document 02, item 1, asks of the reader: a Z, blanks, one reading, the six fields, and that what we write reads back. Assumes nothing.
use Rattle.std.specs.Prelude.{◌≡◌, Bool, false, true, List, [], ◌++◌, ◌∷◌, ℕ}
use Rattle.refusals.specs.Outcome.{answer}
use Rattle.julian.specs.declared.JulianDate.{JulianDate}
use Rattle.leap_table.specs.rows.Table.{Row}
use Rattle.scales.specs.laws.Ranges.{Held}
use Rattle.utc.specs.laws.Calls.{EachText}
use Rattle.parsing.specs.declared.ParsedDateTime.{ParsedDateTime}
use Rattle.parsing.specs.scan.Written.{Written}
use Rattle.parsing.specs.Grammar.{AllBlank, Reads}
use Rattle.parsing.specs.Parsed.{parsed, parsed_utc}
use Rattle.parsing_laws.specs.Shown.{ReadsBack, YearShown}
use Rattle.parsing_laws.specs.SixFields.{SixFields}
use Rattle.parsing_laws.specs.UtcVerdict.{UtcVerdict}

-- a UTC text that has no Z and ends in its seconds is read alike with a Z behind it
abbrev pub SameWithZ : List ℕ → Written → Type 0
SameWithZ s w = (r : Reads true s w) → w.zulu ≡ false → r.pieces.after ≡ [] → parsed true (s ++ (90 ∷ [])) ≡ parsed true s

-- blanks around a text are dropped
abbrev pub SameInBlanks : Bool → List ℕ → Written → Type 0
SameInBlanks utc s w = Reads utc s w → (b a : List ℕ) → AllBlank b → AllBlank a → parsed utc (b ++ (s ++ a)) ≡ parsed utc s

-- an answer is the six fields, the second divided once; a UTC text has its date too
pub record FieldsRead (rows : List Row) (utc : Bool) (s : List ℕ) : Type 0 where
  pub six_fields : (f : ParsedDateTime) → parsed utc s ≡ answer f → SixFields utc s f
  pub read_utc : UtcVerdict rows s (parsed_utc rows s)

-- no text has two readings
abbrev pub OneReading : Bool → List ℕ → Written → Type 0
OneReading utc s w = (v : Written) → Reads utc s v → Reads utc s w → v ≡ w

-- a text of one of the text calls whose shown year is 1972 to 9999 reads back as its fields
abbrev pub TextReadsBack : List Row → List ℕ → Type 0
TextReadsBack rows s = (j : JulianDate) → Held j → YearShown s → EachText rows (λ text. text j ≡ answer s → ReadsBack rows s)
