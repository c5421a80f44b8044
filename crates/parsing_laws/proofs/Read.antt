-- THE READER AS DOCUMENT 02, ITEM 1, ASKS: the fields that it answers, and that every text that we write reads back, for every table that is taken. Assumes
-- nothing.
use mathlib.Core.Path.{◌≡◌}
use mathlib.Core.Bool.{Bool}
use mathlib.Core.List.{List}
use Prim.Native.Nat.{ℕ}
use Rattle.refusals.specs.Outcome.{answer}
use Rattle.leap_table.specs.declared.rows.AnnouncedRows.{AnnouncedRows}
use Rattle.leap_table.specs.rows.Table.{Row}
use Rattle.leap_table.specs.rows.Announced.{table_of}
use Rattle.parsing_laws.specs.Read.{FieldsRead, TextReadsBack}
use Rattle.parsing_laws.proofs.SixFields.{six_fields}
use Rattle.parsing_laws.proofs.UtcLadder.{utc-verdict}
use Rattle.parsing_laws.proofs.EveryText.{expanded-text-reads-back, half-even-text-reads-back, iso_text_reads_back}

pub fields_read : (rows : List Row) (utc : Bool) (s : List ℕ) → FieldsRead rows utc s
fields_read rows utc s = record { six_fields = six_fields utc s; read_utc = utc-verdict rows s }

pub text-reads-back : (t : AnnouncedRows) (rows : List Row) → table_of t ≡ answer rows → (s : List ℕ) → TextReadsBack rows s
text-reads-back t rows e s j held shown = (
  iso_text_reads_back t rows e j held.0 held.1 s shown,
  half-even-text-reads-back t rows e j held.0 held.1 s shown,
  expanded-text-reads-back t rows e j held.0 held.1 s shown,
)
