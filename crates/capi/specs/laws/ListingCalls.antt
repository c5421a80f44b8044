-- What a C caller does that lists a block by `ct_listing_part`, or by `ct_reason_listing_part`: it begins at line 0, writes the bytes of each part, and adds
-- the line ends in them to the line, until a call returns 0. Written from include/celestial_time.h ("The next part begins at `line` plus the line ends (byte
-- 10) in this one"). Assumes nothing.
use Rattle.std.specs.Prelude.{ℕ, suc, ◌+◌, ◌≤◌, ◌<◌, ◌≡◌, List, [], ◌++◌, length, take, pos}
use Rattle.leap_table.specs.rows.Table.{Row}
use Rattle.stamps.specs.declared.Reporting.{Reporting}
use Rattle.stamps.specs.Listing.{line_room}
use Rattle.stamps.specs.listing_laws.LineEnds.{line_ends}
use Rattle.c_answers.specs.Delivery.{Delivered}
use Rattle.capi.specs.ListingPart.{listing_part}

-- after so many calls that each returned bytes, of a block s, by one table's rows and with buffers that hold a line: the line to ask for next, and what was
-- written
pub data Listed (how : Reporting) (rows : List Row) (s : List ℕ) : ℕ → ℕ → List ℕ → Type 0 where
  begun : Listed how rows s 0 0 []
  next : {calls line n : ℕ} {text before after : List ℕ} → Listed how rows s calls line text → line_room how ≤ length before → 0 < n
      → Delivered (listing_part how rows s line (length before)) before (pos n) after
      → Listed how rows s (suc calls) (line + line_ends (take n after)) (text ++ take n after)

-- a part begins with these bytes
abbrev pub Begins : List ℕ → List ℕ → Type 0
Begins l part = take (length l) part ≡ l
