-- What is asked of the listing of three recorders, from the bytes of their runs. Written from the head of programs/line_up.c. Assumes nothing.
use Rattle.std.specs.Prelude.{◌≡◌, ℕ, ◌+◌, ◌-◌, ◌*◌, ◌≤◌, Bool, List, length}
use Rattle.refusals.specs.Outcome.{answer}
use Rattle.julian.specs.declared.JulianDate.{JulianDate}
use Rattle.julian.specs.stamp_lists.Stamps.{stamp_of}
use Rattle.leap_table.specs.rows.Table.{Row}
use Rattle.line_up.specs.LineUp.{LinedUp}
use Rattle.line_listing.specs.order.Order.{lines_in_order}
use Rattle.line_listing.specs.head.Counts.{kinds_in}
use Rattle.line_listing.specs.lines.StampLine.{Stamps, date_of_place, number_of_place, stamp_told}
use Rattle.line_listing.specs.listing.Listing.{NamedRun, all_taken, line_listing, numbered_by, run_end_of}
use Rattle.line_listing.specs.listing.Part.{part_from}
use Rattle.line_listing.specs.laws.Joined.{RoomyParts, all_parts_joined}
use Rattle.line_listing.specs.laws.Places.{AllListed, Run}
use Rattle.line_listing.specs.laws.RunLines.{lines_of_kind}
use Rattle.line_listing.specs.laws.NotFiniteTold.{six_told, nine_told}
use Rattle.line_listing.specs.laws.NotFiniteCounted.{NotFiniteIn, EachNotFiniteCounted}
use Rattle.line_listing.specs.laws.ListingBytes.{LinesTold, ListingBytes}

-- the line of the stamp at place p says what is told of its date, by numbers and with sentences, and by whatever rows it is listed
abbrev pub SaysAt : Stamps → ℕ → (Bool → JulianDate → List ℕ) → Type 0
SaysAt all p told =
    (sentences : Bool) (shown : List Row) → stamp_told sentences shown (date_of_place all p) (number_of_place all p) ≡ told sentences (date_of_place all p)

-- Of the stamps `all` of three runs, `up` their order in the bytes that held `out`:
-- the listing is its parts, joined, into any buffers of 550 bytes or more, two more than stamps at least;
-- each stamp has one line, in the order of the lining up, with its recorder, its index and what is told of it, and these lines between the head and the last
-- line are all bytes of the listing;
-- each count of a run is that of the run's lines of that kind, and the four kinds (0 ordered, 1 not finite, 2 refused, 3 left out) are all its stamps;
-- a stamp that is not finite by the bytes of its run is counted so, and told by its number, `refused 9` or in UTC `refused 6`, and never as a text
pub record ListingOf (s : Bool) (rows : List Row) (gps tai utc : NamedRun) (out : List ℕ) (all : Stamps) (up : LinedUp) : Type 0 where
  pub joined : (rooms : List ℕ) → RoomyParts rooms → length all.numbers + 2 ≤ length rooms
      → line_listing s rows gps tai utc ≡ answer
      (all_parts_joined (part_from s rows (run_end_of gps) (run_end_of tai) (run_end_of utc) (numbered_by all up.numbers) up.out) 0 0 rooms).bytes
  pub listed : AllListed (stamp_of all.jd1s all.jd2s) all.numbers all.first all.second out up
  pub bytes : ListingBytes s rows gps tai utc (numbered_by all up.numbers) listed.line listed.lines
  pub told : LinesTold s rows (numbered_by all up.numbers)
  pub counted : (from to : ℕ) → Run all.first (all.first + all.second) (length up.numbers) from to → (kind : ℕ)
      → kinds_in all.jd1s all.jd2s up.numbers kind from (to - from)
      ≡ lines_of_kind all.jd1s all.jd2s up.numbers kind from to listed.lines
  pub four_kinds : (from n : ℕ)
      → kinds_in all.jd1s all.jd2s up.numbers 0 from n + kinds_in all.jd1s all.jd2s up.numbers 1 from n
      + kinds_in all.jd1s all.jd2s up.numbers 2 from n + kinds_in all.jd1s all.jd2s up.numbers 3 from n ≡ n
  pub not_finite_counted : EachNotFiniteCounted gps tai utc all up.numbers
  pub gps_not_finite : (i : ℕ) → NotFiniteIn gps i → SaysAt (numbered_by all up.numbers) i nine_told
  pub tai_not_finite : (i : ℕ) → NotFiniteIn tai i → SaysAt (numbered_by all up.numbers) (all.first + i) nine_told
  pub utc_not_finite : (i : ℕ) → NotFiniteIn utc i → SaysAt (numbered_by all up.numbers) (all.first + (all.second + i)) six_told

-- with room for a place of each stamp, where the lining up is answered
abbrev pub ListingRight : Bool → List Row → NamedRun → NamedRun → NamedRun → List ℕ → ℕ → ℕ → Type 0
ListingRight s rows gps tai utc out work1 work2 =
    let all = all_taken rows gps tai utc in
    let up = lines_in_order all.jd1s all.jd2s all.numbers all.first all.second out work1 work2 in
    length out ≡ 4 * length all.numbers → (k : ℕ) → up.answer ≡ answer k → ListingOf s rows gps tai utc out all up
