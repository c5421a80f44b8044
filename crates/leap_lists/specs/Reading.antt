-- What a text says, line by line: the rows that are later than the library's with the expiry, or the first line at fault and its number. Written from the
-- customer's words on `table=FILE`. Assumes nothing.
use Rattle.std.specs.Prelude.{ℕ, ◌+◌, List, [], ◌∷◌, cond, eqb, ℤ, pos, replicate, Result, Ok, Err}
use Rattle.refusals.specs.Refusal.{refusal_number}
use Rattle.leap_table.specs.declared.rows.AnnouncedRows.{AnnouncedRows}
use Rattle.leap_table.specs.rows.Announced.{announced_table}
use Rattle.leap_lists.specs.declared.ListRead.{ListRead}
use Rattle.leap_lists.specs.declared.ListFault.{ListFault}
use Rattle.leap_lists.specs.declared.held.Held.{Held}
use Rattle.leap_lists.specs.lines.Lines.{line_says}
use Rattle.leap_lists.specs.Held.{none_held, line_fault, with_line}
use Rattle.leap_lists.specs.Texts.{lines_of}

-- what a text says. Where it is read, `number` and `line` are 0, `table` has its rows, and `known_until` is the Modified Julian Date of its expiry, 0 where it
-- tells none. Where it is refused, `number` is the refusal's, `line` the line at fault, counted from 1, and the table lends no rows
pub record ListAnswer : Type 0 where
  pub number : ℕ
  pub line : ℕ
  pub known_until : ℕ
  pub table : AnnouncedRows

-- sixteen places of which none is read
abbrev pub no_places : List ℤ
no_places = replicate 16 (pos 0)

unfoldable pub answered : Held → ListAnswer
answered h = record { number = 0; line = 0; known_until = h.known; table = announced_table h.size h.size h.months h.seconds }

unfoldable pub refused_at : ℕ → ℕ → ListAnswer
refused_at number line = record { number = number; line = line; known_until = 0; table = announced_table 0 0 no_places no_places }

-- the lines behind `line` others, of which h is held
unfoldable pub read_from : Held → ℕ → List (List ℕ) → ListAnswer
read_from h line [] = answered h
read_from h line (l ∷ ls) =
    cond (eqb (line_fault h (line_says l)) 0) (read_from (with_line h (line_says l)) (line + 1) ls) (refused_at (line_fault h (line_says l)) (line + 1))

unfoldable pub read_of : List ℕ → ListAnswer
read_of text = read_from none_held 0 (lines_of text)

-- what the code answers
unfoldable pub list_told : Result ListRead ListFault → ListAnswer
list_told (Ok r) = record { number = 0; line = 0; known_until = r.known_until; table = r.table }
list_told (Err f) = refused_at (refusal_number f.refusal) f.line
