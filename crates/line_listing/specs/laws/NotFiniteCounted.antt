-- Which stamps the head counts as not finite: those with a number, neither 0 nor 17, one of whose parts has an exponent field of all ones in the eight bytes of
-- its own place. Written from the head of programs/line_up.c. Assumes nothing.
use Rattle.std.specs.Prelude.{◌≡◌, ℕ, ◌+◌, ◌<◌, List, slice_index_or}
use Rattle.runs.specs.laws.NotFiniteStamps.{StampNotFinite}
use Rattle.line_listing.specs.head.Counts.{kind_at}
use Rattle.line_listing.specs.lines.StampLine.{Stamps}
use Rattle.line_listing.specs.taken.Run.{first_parts, run_blocks, second_parts, stamps_of}
use Rattle.line_listing.specs.listing.Listing.{NamedRun, bytes_of_named}

-- the stamp at place p by its number and its bits
pub record NotFiniteNumbered (js ks ns : List ℕ) (p : ℕ) : Type 0 where
  pub not_ordered : slice_index_or ns p 0 ≡ 0 → ⊥
  pub not_left_out : slice_index_or ns p 0 ≡ 17 → ⊥
  pub bits : StampNotFinite js ks p

-- stamp i of a run is not finite, by its bits
abbrev pub NotFiniteIn : NamedRun → ℕ → Type 0
NotFiniteIn r i =
    let s = bytes_of_named r in
    let n = (run_blocks s).sizes in
    (i < stamps_of n) × StampNotFinite (first_parts n s) (second_parts n s) i

-- each stamp of a run that is not finite by the bytes of the run is of kind 1, not finite, at its place among the stamps `all` with the numbers ms: stamp i of
-- the GPS run at place i, the TAI run behind it, and the UTC run behind both
pub record EachNotFiniteCounted (gps tai utc : NamedRun) (all : Stamps) (ms : List ℕ) : Type 0 where
  pub gps_counted : (i : ℕ) → NotFiniteIn gps i → kind_at all.jd1s all.jd2s ms i ≡ 1
  pub tai_counted : (i : ℕ) → NotFiniteIn tai i → kind_at all.jd1s all.jd2s ms (all.first + i) ≡ 1
  pub utc_counted : (i : ℕ) → NotFiniteIn utc i → kind_at all.jd1s all.jd2s ms (all.first + (all.second + i)) ≡ 1
