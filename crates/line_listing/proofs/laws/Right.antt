-- THE LISTING IS RIGHT: its parts join to it, each stamp has one line, the counts are those of the lines, and a stamp that is not finite is never a text.
-- Assumes nothing.
use Rattle.std.proofs.Common.{ℕ, ◌+◌, Bool, List}
use Rattle.leap_table.specs.rows.Table.{Row}
use Rattle.line_up.specs.LineUp.{LinedUp}
use Rattle.line_listing.specs.order.Order.{lines_in_order}
use Rattle.line_listing.specs.lines.StampLine.{Stamps}
use Rattle.line_listing.specs.listing.Listing.{NamedRun, all_taken, numbered_by}
use Rattle.line_listing.specs.laws.Right.{ListingRight}
use Rattle.line_listing.proofs.laws.Theorems.{answered-order, listed-order}
use Rattle.line_listing.proofs.laws.Listing.{parts-are-listing}
use Rattle.line_listing.proofs.laws.LinesOfListing.{listing-bytes, lines-told}
use Rattle.line_listing.proofs.laws.NotFinite.{gps_not_finite, tai_not_finite, utc_not_finite}
use Rattle.line_listing.proofs.laws.NotFiniteCounted.{all-not-finite-counted}
use Rattle.line_listing.proofs.laws.RunCounts.{run-counts}
use Rattle.line_listing.proofs.laws.Counted.{counts_all}

pub listing-right : (s : Bool) (rows : List Row) (gps tai utc : NamedRun) (out : List ℕ) (work1 work2 : ℕ)
    → ListingRight s rows gps tai utc out work1 work2
listing-right s rows gps tai utc out work1 work2 exact k e =
    let all : Stamps = all_taken rows gps tai utc in
    let up : LinedUp = lines_in_order all.jd1s all.jd2s all.numbers all.first all.second out work1 work2 in
    let due = answered-order all.jd1s all.jd2s all.numbers all.first all.second out work1 work2 k e in
    let listed = listed-order all.jd1s all.jd2s all.numbers all.first all.second out work1 work2 due in
    record {
      joined = parts-are-listing s rows gps tai utc out work1 work2 exact k e;
      listed = listed;
      bytes = listing-bytes s rows gps tai utc out work1 work2 exact k e listed;
      told = lines-told s rows (numbered_by all up.numbers);
      counted = run-counts all.jd1s all.jd2s up.numbers all.first (all.first + all.second) listed.line listed.lines listed.each;
      four_kinds = counts_all all.jd1s all.jd2s up.numbers;
      not_finite_counted = all-not-finite-counted rows gps tai utc out work1 work2 k e;
      gps_not_finite = gps_not_finite rows gps tai utc out work1 work2 k e;
      tai_not_finite = tai_not_finite rows gps tai utc out work1 work2 k e;
      utc_not_finite = utc_not_finite rows gps tai utc out work1 work2 k e;
    }
