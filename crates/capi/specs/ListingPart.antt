-- The listing of a stamp block, part by part, for C. Written from document 01, "The program that lists a block", document 02, item 13, and
-- docs/DECISIONS.md 22, 24 and 84. Assumes nothing.
use Rattle.std.specs.Prelude.{ℕ, List, cond, leb}
use Rattle.refusals.specs.Outcome.{Outcome, answer, refusal, onward}
use Rattle.leap_table.specs.rows.Table.{Row}
use Rattle.stamps.specs.declared.Reporting.{Reporting}
use Rattle.stamps.specs.declared.Reporting.TheVariants.{Numbers, Sentences}
use Rattle.stamps.specs.Listing.{line_room}
use Rattle.stamps.specs.Parts.{part_text}
use Rattle.c_answers.specs.table.TableBytes.{table_bytes}

-- the lines from `line` on that go into `room` bytes, none past the last; 11 where there is not the room that a line is given, 33 bytes, or 64 where sentences
-- are reported
unfoldable pub listing_part : Reporting → List Row → List ℕ → ℕ → ℕ → Outcome (List ℕ)
listing_part how rows s line room = cond (leb (line_room how) room) (answer (part_text how rows s line room)) (refusal 11)

-- by a table in 136 bytes, whose refusal comes first: a part of the first listing, and of the second, for an input of n bytes
abbrev pub first_listing : List ℕ → List ℕ → ℕ → ℕ → Outcome (List ℕ)
first_listing table s line room = onward (table_bytes table) (λ rows. listing_part Numbers rows s line room)

abbrev pub second_listing : ℕ → List ℕ → List ℕ → ℕ → ℕ → Outcome (List ℕ)
second_listing n table s line room = onward (table_bytes table) (λ rows. listing_part (Sentences n) rows s line room)
