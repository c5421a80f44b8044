-- What the theorems of the counts say: the lines of a run, and those without text. Written from the head of programs/line_up.c. Assumes nothing.
use Rattle.std.specs.Prelude.{ℕ, Bool, List, length, ◌==◌}
use Rattle.leap_table.specs.rows.Table.{Row}
use Rattle.line_listing.specs.head.Counts.{kind_at}
use Rattle.line_listing.specs.lines.StampLine.{Stamps, line_in_order, date_of_place, number_of_place, no_text_count}
use Rattle.line_listing.specs.laws.Places.{only, in_run}

-- the stamp at a place is of a kind
abbrev pub is_of_kind : List ℕ → List ℕ → List ℕ → ℕ → ℕ → Bool
is_of_kind js ks ms kind p = kind_at js ks ms p == kind

-- how many of the lines of a run, from a place up to a place, are of a kind
abbrev pub lines_of_kind : List ℕ → List ℕ → List ℕ → ℕ → ℕ → ℕ → List ℕ → ℕ
lines_of_kind js ks ms kind from to lines = length (only (is_of_kind js ks ms kind) (only (in_run from to) lines))

-- line i has the stamp of an ordered stamp without text
abbrev pub is_textless : List Row → Stamps → List ℕ → ℕ → Bool
is_textless rows all order i = no_text_count rows (date_of_place all (line_in_order order i)) (number_of_place all (line_in_order order i)) == 1
