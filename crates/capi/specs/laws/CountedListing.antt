-- What a program does that lists three recorders by ct_line_listing_part and counts bytes: it begins with a cursor of 16 zero bytes, asks with the cursor that
-- the call before left, keeps as many bytes of its buffer as the call returned, and stops at 0. Written from include/celestial_time.h, ct_line_listing_part.
-- Assumes nothing.
use Rattle.std.specs.Prelude.{ℕ, suc, ◌≤◌, ◌<◌, List, [], ◌++◌, pos, length, take, replicate}
use Rattle.refusals.specs.Outcome.{Outcome}
use Rattle.line_listing.specs.listing.Part.{Step}
use Rattle.capi.specs.LineListingDelivery.{PartDelivered}

-- after so many calls that each returned bytes, into buffers of 550 bytes or more, where `ask` is the part by a cursor and a room: the cursor to ask with next,
-- and what was kept
pub data PartsKept (ask : List ℕ → ℕ → Outcome Step) : ℕ → List ℕ → List ℕ → Type 0 where
  begun : PartsKept ask 0 (replicate 16 0) []
  next : {calls m : ℕ} {cursor text before cursor' after : List ℕ} → PartsKept ask calls cursor text → 550 ≤ length before → 0 < m
      → PartDelivered (ask cursor (length before)) cursor before (pos m) cursor' after → PartsKept ask (suc calls) cursor' (text ++ take m after)
