-- THE LISTING AS ASKED: item 6's text, lines of at most 33 bytes, and the same through 64 bytes. Assumes nothing.
use mathlib.Core.Path.{refl}
use mathlib.Core.List.{List}
use Prim.Native.Nat.{ℕ, ◌≤◌}
use native.Mathlib.Omega.{arith}
use Rattle.leap_table.specs.rows.Table.{Row}
use Rattle.stamps.specs.declared.Reporting.{Reporting}
use Rattle.stamps.specs.declared.Reporting.TheVariants.{Numbers, Sentences}
use Rattle.stamps.specs.Listing.{line_room, text_at}
use Rattle.stamps.specs.listing_laws.Asked.{AlikeThrough64, ListsExpanded, LongestIs33, NotFiniteCounted}
use Rattle.stamps.proofs.listing_laws.Longest.{longest-line, number-line-most}
use Rattle.stamps.proofs.listing_laws.NotFinite.{not_finite_counted, not_finite_refused}
use Rattle.stamps.proofs.listing_laws.Whole.{parts-alike}

-- ---- a line fits in 64 bytes
room-64 : (how : Reporting) → (line_room how ≤ 64) × (line_room how ≤ 4096)
unfolding line_room
room-64 Numbers = (omega arith, omega arith)
room-64 (Sentences n) = (omega arith, omega arith)

pub through_64 : (rows : List Row) (s : List ℕ) (k : ℕ) → AlikeThrough64 rows s k
through_64 rows s k how h = parts-alike how rows s 64 4096 (room-64 how).0 (room-64 how).1 k k h h

pub lists-expanded : (rows : List Row) (s : List ℕ) (n i : ℕ) → ListsExpanded rows s n i
unfolding text_at
lists-expanded rows s n i = refl

pub longest-is-33 : (rows : List Row) (s : List ℕ) (line : ℕ) → LongestIs33 rows s line
longest-is-33 rows s line = (number-line-most rows s line, longest-line rows)

pub not_finite_and_count : (rows : List Row) (s : List ℕ) (n i : ℕ) → NotFiniteCounted rows s n i
not_finite_and_count rows s n i = (not_finite_refused rows s n i, not_finite_counted rows s n i)
