-- The records of three runs, which the listing and the summary are lent, and when ct_run_size writes one. Written from include/celestial_time.h, ct_run_size
-- and ct_line_listing_part. Assumes nothing.
use Rattle.std.specs.Prelude.{ℕ, ◌≤◌, ◌<◌, ◌≡◌, true, cond, List, [], ◌∷◌, ℤ, pos, length, take, drop, replicate}
use Rattle.refusals.specs.Outcome.{refusal}
use Rattle.numerals.specs.little_endian.Written.{all_bytes}
use Rattle.c_answers.specs.Delivery.{code}
use Rattle.line_listing.specs.taken.Run.{run_blocks, blocks_bytes}
use Rattle.line_listing.specs.taken.Call.{size_of}
use Rattle.line_listing.specs.listing.Listing.{NamedRun}
use Rattle.capi.specs.RunSizeDelivery.{size_bytes}

-- ---- the records of three runs, one behind the other: as ct_run_size writes them, and 32 zero bytes of a run that is not named
unfoldable pub record_of : NamedRun → List ℕ
record_of run = cond run.named (size_bytes (size_of (run_blocks run.bytes))) (replicate 32 0)

abbrev pub records_of : NamedRun → NamedRun → NamedRun → List ℕ
records_of gps tai utc = all_bytes record_of (gps ∷ tai ∷ utc ∷ [])

-- ---- what ct_run_size returns of a run's bytes, and what the buffer, which held `before`, holds: the bytes that the blocks take, and the record
pub data SizeDecision (run before : List ℕ) (r : ℤ) (after : List ℕ) : Type 0 where
  no_room : length before < 32 → r ≡ code (refusal 11) → after ≡ before → SizeDecision run before r after
  size_told : 32 ≤ length before → r ≡ pos (blocks_bytes (run_blocks run).sizes) → take 32 after ≡ record_of (record { named = true; bytes = run })
      → drop 32 after ≡ drop 32 before → SizeDecision run before r after
