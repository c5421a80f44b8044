-- A listing that is made of all stamps of three runs. Written from the head of programs/line_up.c. Assumes nothing.
use Rattle.std.specs.Prelude.{◌*◌, Bool, List, length, replicate}
use Rattle.julian.specs.stamp_lists.Stamps.{stamp_of}
use Rattle.leap_table.specs.rows.Table.{Row}
use Rattle.line_listing.specs.lines.StampLine.{Stamps}
use Rattle.line_listing.specs.listing.Listing.{NamedRun, all_taken, numbered_by, stamps_in_order}
use Rattle.line_listing.specs.laws.Places.{AllListed}
use Rattle.line_listing.specs.laws.ListingBytes.{ListingBytes}

-- of the stamps `all`, whose places are written over bytes of 0: each has one line, and the listing's bytes are those of the lines
pub record ListingOfStamps (s : Bool) (rows : List Row) (gps tai utc : NamedRun) (all : Stamps) : Type 0 where
  pub listed : AllListed (stamp_of all.jd1s all.jd2s) all.numbers all.first all.second (replicate (4 * length all.numbers) 0)
      (stamps_in_order all)
  pub bytes : ListingBytes s rows gps tai utc (numbered_by all (stamps_in_order all).numbers) listed.line listed.lines

abbrev pub ListingMade : Bool → List Row → NamedRun → NamedRun → NamedRun → Type 0
ListingMade s rows gps tai utc = ListingOfStamps s rows gps tai utc (all_taken rows gps tai utc)
