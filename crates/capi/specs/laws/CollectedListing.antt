-- What a program collects that lists three recorders by ct_line_listing_part, and what it lends: the records of its runs, their parts and numbers, and their
-- order. Written from include/celestial_time.h, ct_run_size, ct_take_run, ct_lines_in_order and ct_line_listing_part. Assumes nothing.
use Rattle.std.specs.Prelude.{ℕ, ◌*◌, ◌≡◌, List, [], ◌∷◌, ◌++◌, length}
use Rattle.refusals.specs.Outcome.{Outcome, answer, onward}
use Rattle.numerals.specs.little_endian.LittleEndian.{u64_at}
use Rattle.leap_table.specs.rows.Table.{Row}
use Rattle.runs.specs.by_formula.Run.{RunCall}
use Rattle.line_up.specs.LineUp.{LinedUp}
use Rattle.line_listing.specs.taken.Run.{run_blocks, stamps_of}
use Rattle.line_listing.specs.taken.Call.{taken_call}
use Rattle.line_listing.specs.order.Order.{lines_in_order}
use Rattle.line_listing.specs.listing.Listing.{NamedRun, bytes_of_named}
use Rattle.line_listing.specs.listing.Part.{Step}
use Rattle.capi.specs.LineListingDelivery.{cursor_moved}
use Rattle.capi.specs.laws.RunRecords.{records_of}

-- ---- what a program collects that asks with the cursor that the call before left, into buffers of these sizes; or the first refusal that it meets
unfoldable pub collected : (List ℕ → ℕ → Outcome Step) → List ℕ → List ℕ → Outcome (List ℕ)
collected ask cursor [] = answer []
collected ask cursor (room ∷ rooms) =
    onward (ask cursor room) (λ s. onward (collected ask (cursor_moved (ask cursor room) cursor) rooms) (λ rest. answer (s.bytes ++ rest)))

-- ---- what such a program is lent

-- a run taken by ct_take_run into places of exactly its size; the numbers of the scales are CT_GPS 4, CT_TAI 1 and CT_UTC 0
pub record RunTaken (rows : List Row) (scale : ℕ) (run : NamedRun) (c : RunCall) : Type 0 where
  pub out1 : List ℕ
  pub out2 : List ℕ
  pub numbers : List ℕ
  pub room1 : length out1 ≡ 8 * stamps_of (run_blocks (bytes_of_named run)).sizes
  pub room2 : length out2 ≡ 8 * stamps_of (run_blocks (bytes_of_named run)).sizes
  pub room : length numbers ≡ stamps_of (run_blocks (bytes_of_named run)).sizes
  pub taken : c ≡ taken_call (answer rows) scale (bytes_of_named run) out1 out2 numbers

-- the parts and the numbers of the three runs, one behind the other, and what ct_lines_in_order left, which answered `many`, with four bytes for each stamp
pub record RunsInOrder (rows : List Row) (gps tai utc : NamedRun) (js ks ns order : List ℕ) : Type 0 where
  pub g : RunCall
  pub t : RunCall
  pub u : RunCall
  pub taken_gps : RunTaken rows 4 gps g
  pub taken_tai : RunTaken rows 1 tai t
  pub taken_utc : RunTaken rows 0 utc u
  pub firsts : js ≡ g.out1 ++ (t.out1 ++ u.out1)
  pub seconds : ks ≡ g.out2 ++ (t.out2 ++ u.out2)
  pub out : List ℕ
  pub work1 : ℕ
  pub work2 : ℕ
  pub exact : length out ≡ 4 * length (g.numbers ++ (t.numbers ++ u.numbers))
  pub lined : LinedUp
  pub lined_is : lined ≡ lines_in_order js ks (g.numbers ++ (t.numbers ++ u.numbers)) (u64_at (records_of gps tai utc) 0) (u64_at (records_of gps tai utc) 32)
      out work1 work2
  pub many : ℕ
  pub answers : lined.answer ≡ answer many
  pub numbers_are : ns ≡ lined.numbers
  pub order_is : order ≡ lined.out
