-- THE RECORDS OF THREE RUNS, as ct_run_size writes them, are read back: of each run how many stamps it has, whether it is named, its blocks and the refusal
-- that ended it; 32 zero bytes are a run that is not named. A run has less than 2^64 bytes. Assumes nothing.
use Prim.Native.Nat.{ℕ, zero, suc, ◌+◌, ◌*◌, ◌≤◌, ◌<◌}
use native.Mathlib.Omega.{arith}
use mathlib.Core.Path.{◌≡◌, refl, sym, ap, ◌∙◌}
use mathlib.Core.Bool.{Bool, true, false, cond}
use mathlib.Core.List.{List, [], ◌∷◌, ◌++◌, append-nil}
use lib.Dec.{eqb, leb, ltb}
use lib.IntN.{ℤ, pos, negsuc}
use lib.ListN.{length, take, drop, get_or, replicate}
use borrow.Author.Tests.{leb-true, leb-false}
use Rattle.refusals.specs.Outcome.{Outcome, answer, refusal}
use Rattle.numerals.specs.little_endian.LittleEndian.{four_at, u32_at, u64_at}
use Rattle.numerals.proofs.little_endian.Items.{written-length, item_u64, item_u32}
use Rattle.c_answers.specs.Delivery.{code}
use Rattle.stamps.specs.Block.{block_of}
use Rattle.line_listing.specs.declared.taken.RunSize.{RunSize}
use Rattle.line_listing.specs.taken.Run.{run_blocks, blocks_in, with_block, first_block, stamps_of, blocks_bytes, block_length}
use Rattle.line_listing.specs.taken.Call.{size_of}
use Rattle.line_listing.specs.listing.Listing.{NamedRun, bytes_of_named, run_end_of}
use Rattle.line_listing.proofs.taken.Blocks.{blocks_fit, stamps-fit}
use Rattle.capi.specs.RunSizeDelivery.{size_bytes, SizeDelivered}
use Rattle.capi.specs.SummaryDelivery.{run_record}
use Rattle.capi.specs.laws.FieldsBack.{SizeBack}
use Rattle.capi.specs.laws.RunRecords.{record_of, records_of, SizeDecision, no_room, size_told}
use Rattle.capi.proofs.laws.FieldsBack.{size_back}

-- ---- the numbers of a run's size have their widths: a block is refused by 12, 13 or 14
block-low : (s : List ℕ) (k : ℕ) → block_of s ≡ refusal k → k ≤ 14
unfolding block_of
block-low s k e = by (ltb (length s) 8) (eqb (u32_at s 0) (u32_at s 4)) (leb (u32_at s 0) 4000) (eqb (length s) (8 + 16 * u32_at s 0)) e
  where
    by : (a b c d : Bool) → cond a (refusal 14) (cond b (cond c (cond d (answer (u32_at s 0)) (refusal 14)) (refusal 13)) (refusal 12)) ≡ refusal k → k ≤ 14
    by true b c d q = let z : ◌≡◌ {A = ℕ} 14 k = cc q in omega arith
    by false false c d q = let z : ◌≡◌ {A = ℕ} 12 k = cc q in omega arith
    by false true false d q = let z : ◌≡◌ {A = ℕ} 13 k = cc q in omega arith
    by false true true false q = let z : ◌≡◌ {A = ℕ} 14 k = cc q in omega arith
    by false true true true q = let z : ◌≡◌ {A = ℕ} 0 1 = cc q in let w : ⊥ = omega arith in absurd w

pub low-in : (m : ℕ) (s : List ℕ) → (blocks_in m s).refused ≤ 14
unfolding blocks_in with_block first_block
low-in zero s = omega arith
low-in (suc m) s = by (λ n. low-in m (drop (block_length n) s)) (eqb (length s) 0)
  where
    first : ((n : ℕ) → (blocks_in m (drop (block_length n) s)).refused ≤ 14) → (o : Outcome ℕ) → first_block s ≡ o
        → (with_block o (λ (n : ℕ). blocks_in m (drop (block_length n) s))).refused ≤ 14
    first rest (answer n) e = rest n
    first rest (refusal k) e = block-low (take (block_length (u32_at s 0)) s) k e

    by : ((n : ℕ) → (blocks_in m (drop (block_length n) s)).refused ≤ 14) → (b : Bool)
        → (cond b (record { sizes = []; refused = 0 }) (with_block (first_block s) (λ (n : ℕ). blocks_in m (drop (block_length n) s)))).refused ≤ 14
    by rest true = omega arith
    by rest false = first rest (first_block s) refl

size-read : (s : List ℕ) → length s < 18446744073709551616 → SizeBack (size_of (run_blocks s)) (size_bytes (size_of (run_blocks s)))
unfolding size_of run_blocks
size-read s h =
    let f = blocks_fit s in
    let g = stamps-fit (run_blocks s).sizes in
    size_back (size_of (run_blocks s)) (omega (arith, f, g)) (omega (arith, f, g)) (omega (arith, low-in (length s) s))

-- ---- ONE RECORD, alone
abbrev Named : Bool → List ℕ → NamedRun
Named b s = record { named = b; bytes = s }

unnamed_end : (s : List ℕ) → run_record (record_of (Named false s)) 0 ≡ run_end_of (Named false s)
unfolding record_of run_end_of run_record u64_at u32_at four_at run_blocks blocks_in
unnamed_end s = refl

unnamed_counts : (s : List ℕ) → u64_at (record_of (Named false s)) 0 ≡ stamps_of (run_blocks (bytes_of_named (Named false s))).sizes
unfolding record_of u64_at four_at run_blocks blocks_in stamps_of
unnamed_counts s = refl

-- it reads as the end of the run
pub record_is_end : (run : NamedRun) → length run.bytes < 18446744073709551616 → run_record (record_of run) 0 ≡ run_end_of run
unfolding record_of run_end_of size_of
record_is_end run h = by run.named run.bytes h
  where
    by : (b : Bool) (s : List ℕ) → length s < 18446744073709551616 → run_record (record_of (Named b s)) 0 ≡ run_end_of (Named b s)
    by true s h = (size-read s h).run
    by false s h = unnamed_end s

-- and counts its stamps
pub record_counts : (run : NamedRun) → length run.bytes < 18446744073709551616
    → u64_at (record_of run) 0 ≡ stamps_of (run_blocks (bytes_of_named run)).sizes
unfolding record_of size_of
record_counts run h = by run.named run.bytes h
  where
    by : (b : Bool) (s : List ℕ) → length s < 18446744073709551616
        → u64_at (record_of (Named b s)) 0 ≡ stamps_of (run_blocks (bytes_of_named (Named b s))).sizes
    by true s h = (size-read s h).stamps
    by false s h = unnamed_counts s

record_long : (run : NamedRun) → length (record_of run) ≡ 32
unfolding record_of size_bytes
record_long run = by run.named run.bytes
  where
    by : (b : Bool) (s : List ℕ) → length (record_of (Named b s)) ≡ 32
    by true s = refl
    by false s = refl

-- ---- WHEN ct_run_size WRITES IT: into 32 bytes or more, of which the first 32 are the record, and the rest stays
pub size-decided : (run before : List ℕ) (r : ℤ) (after : List ℕ) → SizeDelivered (size_of (run_blocks run)) before r after → SizeDecision run before r after
unfolding code record_of size_bytes size_of
size-decided run before r after d = by (leb 32 (length before)) refl d.returned d.holds
  where
    size : RunSize
    size = size_of (run_blocks run)

    by : (b : Bool) → leb 32 (length before) ≡ b → r ≡ code (cond b (answer size.bytes) (refusal 11))
        → after ≡ cond b (size_bytes size ++ drop 32 before) before → SizeDecision run before r after
    by true e p q = size_told (leb-true _ _ e) p (ap (take 32) q) (ap (drop 32) q)
    by false e p q = no_room (leb-false _ _ e) p q

-- the last length that is refused and the first that is taken, of a run of no bytes
pub room-at-its-end : (r r' : ℤ) (after after' : List ℕ) → SizeDelivered (size_of (run_blocks [])) (replicate 31 7) r after
    → SizeDelivered (size_of (run_blocks [])) (replicate 32 7) r' after' → (r ≡ negsuc 10) × (r' ≡ pos 0)
unfolding code size_of run_blocks blocks_in blocks_bytes
room-at-its-end r r' after after' d d' = (d.returned, d'.returned)

-- ---- THREE, one behind the other
module _ (gps tai utc : NamedRun) where
  abbrev all : List NamedRun
  all = gps ∷ tai ∷ utc ∷ []

  -- the number of eight bytes, or four, in record i
  eight_in : (i o : ℕ) → i < 3 → o + 8 ≤ 32 → u64_at (records_of gps tai utc) (0 + 32 * i + o) ≡ u64_at (record_of (get_or all i gps)) o
  eight_in i o h f =
      ap (λ (l : List ℕ). u64_at l (0 + 32 * i + o)) (sym (append-nil (records_of gps tai utc))) ∙ item_u64 record_of 32 record_long [] all [] i gps h o f

  four-in : (i o : ℕ) → i < 3 → o + 4 ≤ 32 → u32_at (records_of gps tai utc) (0 + 32 * i + o) ≡ u32_at (record_of (get_or all i gps)) o
  four-in i o h f =
      ap (λ (l : List ℕ). u32_at l (0 + 32 * i + o)) (sym (append-nil (records_of gps tai utc))) ∙ item_u32 record_of 32 record_long [] all [] i gps h o f

  pub records-long : length (records_of gps tai utc) ≡ 96
  records-long = written-length record_of 32 record_long all

  -- the record at 0 is that of GPS, at 32 that of TAI, at 64 that of UTC
  pub records-back : (run_record (records_of gps tai utc) 0 ≡ run_record (record_of gps) 0) ×
      (run_record (records_of gps tai utc) 32 ≡ run_record (record_of tai) 0)
      × (run_record (records_of gps tai utc) 64 ≡ run_record (record_of utc) 0)
  unfolding run_record
  records-back = (
    λ j. record {
      named = eqb (eight_in 0 24 (omega arith) (omega arith) j) 1;
      block = eight_in 0 8 (omega arith) (omega arith) j;
      refused = four-in 0 16 (omega arith) (omega arith) j;
    },
    λ j. record {
      named = eqb (eight_in 1 24 (omega arith) (omega arith) j) 1;
      block = eight_in 1 8 (omega arith) (omega arith) j;
      refused = four-in 1 16 (omega arith) (omega arith) j;
    },
    λ j. record {
      named = eqb (eight_in 2 24 (omega arith) (omega arith) j) 1;
      block = eight_in 2 8 (omega arith) (omega arith) j;
      refused = four-in 2 16 (omega arith) (omega arith) j;
    },
  )

  module _ (gps-short : length gps.bytes < 18446744073709551616) (tai-short : length tai.bytes < 18446744073709551616)
      (utc-short : length utc.bytes < 18446744073709551616) where
    -- SO THE LISTING AND THE SUMMARY READ THE THREE RUNS' ENDS
    pub ends-back : (run_record (records_of gps tai utc) 0 ≡ run_end_of gps) × (run_record (records_of gps tai utc) 32 ≡ run_end_of tai)
        × (run_record (records_of gps tai utc) 64 ≡ run_end_of utc)
    ends-back =
        (records-back.0 ∙ record_is_end gps gps-short, records-back.1 ∙ record_is_end tai tai-short, records-back.2 ∙ record_is_end utc utc-short)

    -- and how many stamps each has
    pub counts-back : (u64_at (records_of gps tai utc) 0 ≡ stamps_of (run_blocks (bytes_of_named gps)).sizes)
        × (u64_at (records_of gps tai utc) 32 ≡ stamps_of (run_blocks (bytes_of_named tai)).sizes)
        × (u64_at (records_of gps tai utc) 64 ≡ stamps_of (run_blocks (bytes_of_named utc)).sizes)
    counts-back = (
      eight_in 0 0 (omega arith) (omega arith) ∙ record_counts gps gps-short,
      eight_in 1 0 (omega arith) (omega arith) ∙ record_counts tai tai-short,
      eight_in 2 0 (omega arith) (omega arith) ∙ record_counts utc utc-short,
    )
