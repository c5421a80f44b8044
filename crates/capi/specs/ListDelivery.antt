-- A table that was read from a text, in two lent buffers: the 136 bytes of the table, as the calls take it, and the four of its expiry. Written from the
-- customer's words on `table=FILE`, document 02, item 8 (the bytes of a table), and document 01, "Refusals by number": a refusal writes nothing, 11 is judged
-- last. Assumes nothing.
use Rattle.std.specs.Prelude.{ℕ, zero, suc, ◌+◌, ◌≡◌, List, cond, eqb, ltb, ℤ, pos, length, get_or}
use Rattle.refusals.specs.Outcome.{Outcome, answer, refusal}
use Rattle.numerals.specs.little_endian.LittleEndian.{with_u32, with_nth32}
use Rattle.leap_table.specs.declared.rows.AnnouncedRows.{AnnouncedRows}
use Rattle.leap_table.specs.rows.Announced.{natural, least}
use Rattle.leap_lists.specs.Reading.{ListAnswer}
use Rattle.c_answers.specs.Delivery.{code}

-- the first n of some numbers, as numbers of four bytes from place `from` on
unfoldable pub put_to : List ℕ → ℕ → List ℤ → ℕ → List ℕ
put_to l from ns zero = l
put_to l from ns (suc n) = with_nth32 (put_to l from ns n) (from + n) (natural (get_or ns n (pos 0)))

-- the two sizes, 16 month starts from place 2 on, 16 seconds from place 18 on
unfoldable pub with_table : List ℕ → AnnouncedRows → List ℕ
with_table l t = put_to (put_to (with_nth32 (with_nth32 l 0 t.months_size) 1 t.seconds_size) 2 t.months 16) 18 t.seconds 16

-- how many rows were read into buffers of m and n bytes, or the refusal
unfoldable pub rows_read : ListAnswer → ℕ → ℕ → Outcome ℕ
rows_read a m n =
    cond (eqb a.number 0)
    (cond (ltb m 136) (refusal 11) (cond (ltb n 4) (refusal 11) (answer a.table.months_size)))
    (refusal a.number)

-- what a buffer holds: `new` where the call answers, else what it held
unfoldable pub where_read : Outcome ℕ → List ℕ → List ℕ → List ℕ
where_read (answer n) new old = new
where_read (refusal k) new old = old

-- the line at fault, 0 where the text is read: as far as 63 bits number lines
unfoldable pub fault_line : ListAnswer → ℤ
fault_line a = pos (least a.line 9223372036854775807)

pub record TableRead (a : ListAnswer) (table known : List ℕ) (r : ℤ) (table-after known-after : List ℕ) : Type 0 where
  pub returned : r ≡ code (rows_read a (length table) (length known))
  pub table_holds : table-after ≡ where_read (rows_read a (length table) (length known)) (with_table table a.table) table
  pub known_holds : known-after ≡ where_read (rows_read a (length table) (length known)) (with_u32 known a.known_until) known
