-- The 136 bytes of a record, the way back from `table_bytes`. Written from document 02, item 8. Assumes nothing.
use Rattle.std.specs.Prelude.{ℕ, ◌<◌, ◌≡◌, List, [], ◌∷◌, ◌++◌, map, pos, length, get_or}
use Rattle.refusals.specs.Outcome.{refusal}
use Rattle.std.specs.Int.{w32}
use Rattle.std.proofs.Common.{SFits}
unfoldable pub use Rattle.numerals.specs.little_endian.LittleEndian.{pattern32}
use Rattle.leap_table.specs.declared.rows.AnnouncedRows.{AnnouncedRows}
use Rattle.leap_table.specs.rows.Announced.{table_of}
use Rattle.c_answers.specs.Fields.{four_bytes}
use Rattle.c_answers.specs.table.TableBytes.{table_bytes}

-- four bytes for each number
unfoldable pub in_fours : List ℕ → List ℕ
in_fours [] = []
in_fours (n ∷ l) = four_bytes n ++ in_fours l

-- two sizes, the month starts, the seconds
abbrev pub record_bytes : AnnouncedRows → List ℕ
record_bytes t = in_fours (t.months_size ∷ (t.seconds_size ∷ (map pattern32 t.months ++ map pattern32 t.seconds)))

-- a record of the machine: two arrays of 16, and every number one of 32 bits
pub record MachineRecord (t : AnnouncedRows) : Type 0 where
  pub months-size : t.months_size < 4294967296
  pub seconds-size : t.seconds_size < 4294967296
  pub sixteen_months : length t.months ≡ 16
  pub sixteen_seconds : length t.seconds ≡ 16
  pub months_fit : (i : ℕ) → SFits w32 (get_or t.months i (pos 0))
  pub seconds_fit : (i : ℕ) → SFits w32 (get_or t.seconds i (pos 0))

-- the table of a record's bytes is the record's; bytes of another length are 14
abbrev pub TableInBytes : AnnouncedRows → List ℕ → Type 0
TableInBytes t s = (MachineRecord t → table_bytes (record_bytes t) ≡ table_of t) × ((length s ≡ 136 → ⊥) → table_bytes s ≡ refusal 14)
