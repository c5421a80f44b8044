-- THE BLOCKS OF A RUN that is written from lists of stamps: each list of up to 4,000 is taken with its number, and what is not a block ends the run with its
-- refusal; one stamp more is 13. How large the run is, and the parts that are taken: those of the stamps, in their order. Assumes nothing.
use Rattle.std.proofs.Common.{◌≡◌, ℕ, suc, ◌+◌, ◌*◌, ◌<◌, ◌≤◌, List, [], ◌∷◌, ◌++◌, length, get_or, take, drop, sym, refl, ap, ◌∙◌, append_assoc, append-nil}
use Rattle.std.proofs.Common.{arith, length-append, take_at, drop_at}
use lib.Seq.{slice, take-append-le}
use lib.Ieee.{of_bits, binary64}
use Rattle.refusals.specs.Outcome.{answer, refusal}
use Rattle.numerals.specs.little_endian.LittleEndian.{four_at, u32_at, u64_at, four_bytes}
use Rattle.numerals.specs.little_endian.Written.{all_bytes}
use Rattle.numerals.proofs.little_endian.Parts.{four-in-part}
use Rattle.numerals.proofs.little_endian.Items.{written-length, item_u64}
use Rattle.numerals.proofs.little_endian.RoundTrip.{read-written}
use Rattle.julian.specs.JulianDate.{julian}
use Rattle.julian.specs.stamp_lists.Stamps.{stamp_of}
use Rattle.stamps.specs.Block.{block_of}
use Rattle.stamps.specs.listing_laws.Writer.{Stamp, stamp_date, first_bytes, second_bytes, block_bytes}
use Rattle.stamps.proofs.listing_laws.Written.{block-length, first-size, block-taken, block-too-large}
use Rattle.line_listing.specs.taken.Run.{Blocks, block_length, first_block, with_block, blocks_in, run_blocks, stamps_of, blocks_bytes, first_parts}
use Rattle.line_listing.specs.taken.Run.{second_parts}
use Rattle.line_listing.specs.taken.Call.{size_of}
use Rattle.line_listing.specs.laws.TakenRuns.{run_bytes, all_stamps, counts, EachFits, none, more, AllFit}
use Rattle.line_listing.proofs.taken.Blocks.{no_bytes, run_on, run_ends, slice_mid}

-- ---- a size at the start, whatever follows
size-front : (a b : List ℕ) → 4 ≤ length a → u32_at (a ++ b) 0 ≡ u32_at a 0
size-front a b h =
    sym (four-in-part (a ++ b) 0 (omega (arith, length-append a b)))
    ∙ ap (λ (l : List ℕ). u32_at l 0) (take-append-le 4 a b h)
    ∙ four-in-part a 0 h

-- ---- A BLOCK AT THE START, whatever follows it
module _ (xs : List Stamp) (t : List ℕ) (few : length xs ≤ 4000) where
  front_size : u32_at (block_bytes xs ++ t) 0 ≡ length xs
  front_size = size-front (block_bytes xs) t (omega (arith, block-length xs)) ∙ sym (first-size xs (omega arith))

  pub block-first : first_block (block_bytes xs ++ t) ≡ answer (length xs)
  unfolding first_block
  block-first =
      ap (λ (n : ℕ). block_of (take (block_length n) (block_bytes xs ++ t))) front_size
      ∙ ap block_of (take_at (block_bytes xs) t (block_length (length xs)) (block-length xs))
      ∙ block-taken xs (omega arith) few

  pub block-behind : drop (block_length (length xs)) (block_bytes xs ++ t) ≡ t
  block-behind = drop_at (block_bytes xs) t (block_length (length xs)) (block-length xs)

  pub block-then : run_blocks (block_bytes xs ++ t) ≡ record { sizes = length xs ∷ (run_blocks t).sizes; refused = (run_blocks t).refused }
  block-then =
      run_on (block_bytes xs ++ t) (omega (arith, length-append (block_bytes xs) t, block-length xs)) (length xs) block-first
      ∙ ap (λ (l : List ℕ). record { sizes = length xs ∷ (run_blocks l).sizes; refused = (run_blocks l).refused }) block-behind

-- ---- THE RUN that is written, and what follows it
pub run-back : (xss : List (List Stamp)) → EachFits xss → (rest : List ℕ)
    → run_blocks (run_bytes xss ++ rest) ≡ record { sizes = counts xss ++ (run_blocks rest).sizes; refused = (run_blocks rest).refused }
unfolding all_bytes counts
run-back [] none rest = refl
run-back (xs ∷ xss) (more few f) rest =
    ap run_blocks (append_assoc (block_bytes xs) (run_bytes xss) rest)
    ∙ block-then xs (run_bytes xss ++ rest) few
    ∙ ap (λ (b : Blocks). record { sizes = length xs ∷ b.sizes; refused = b.refused }) (run-back xss f rest)

-- bytes behind it that are no block end it with that refusal, and the bytes of nothing with none
pub run-ended : (xss : List (List Stamp)) → EachFits xss → (rest : List ℕ) (k : ℕ) → 0 < length rest → first_block rest ≡ refusal k
    → run_blocks (run_bytes xss ++ rest) ≡ record { sizes = counts xss; refused = k }
run-ended xss f rest k h e =
    run-back xss f rest
    ∙ ap (λ (b : Blocks). record { sizes = counts xss ++ b.sizes; refused = b.refused }) (run_ends rest h k e)
    ∙ ap (λ (l : List ℕ). record { sizes = l; refused = k }) (append-nil (counts xss))

pub run-whole : (xss : List (List Stamp)) → EachFits xss → run_blocks (run_bytes xss) ≡ record { sizes = counts xss; refused = 0 }
run-whole xss f =
    ap run_blocks (sym (append-nil (run_bytes xss)))
    ∙ run-back xss f []
    ∙ ap (λ (b : Blocks). record { sizes = counts xss ++ b.sizes; refused = b.refused }) (no_bytes [] refl)
    ∙ ap (λ (l : List ℕ). record { sizes = l; refused = 0 }) (append-nil (counts xss))

-- ---- 4,000 STAMPS ARE TAKEN (`block-first`), AND 4,001 END THE RUN with 13, whatever follows
pub many-end : (xs : List Stamp) (rest : List ℕ) → 4000 < length xs → length xs < 4294967296
    → run_blocks (block_bytes xs ++ rest) ≡ record { sizes = []; refused = 13 }
unfolding first_block
many-end xs rest many few = run_ends (block_bytes xs ++ rest) (omega (arith, length-append (block_bytes xs) rest, block-length xs)) 13 found
  where
    front_size : u32_at (block_bytes xs ++ rest) 0 ≡ length xs
    front_size = size-front (block_bytes xs) rest (omega (arith, block-length xs)) ∙ sym (first-size xs few)

    found : first_block (block_bytes xs ++ rest) ≡ refusal 13
    found =
        ap (λ (n : ℕ). block_of (take (block_length n) (block_bytes xs ++ rest))) front_size
        ∙ ap block_of (take_at (block_bytes xs) rest (block_length (length xs)) (block-length xs))
        ∙ block-too-large xs few many

-- the eight bytes of the sizes 4,001 alone, and a cut block of one stamp: 13 and 14
pub header-4001 : run_blocks (161 ∷ 15 ∷ 0 ∷ 0 ∷ 161 ∷ 15 ∷ 0 ∷ 0 ∷ []) ≡ record { sizes = []; refused = 13 }
unfolding run_blocks blocks_in with_block first_block block_of u32_at four_at
header-4001 = refl

pub header-4000 : run_blocks (160 ∷ 15 ∷ 0 ∷ 0 ∷ 160 ∷ 15 ∷ 0 ∷ 0 ∷ []) ≡ record { sizes = []; refused = 14 }
unfolding run_blocks blocks_in with_block first_block block_of u32_at four_at
header-4000 = refl

-- two blocks without stamps, and a byte too many: two blocks, and 14
pub empty-blocks : run_blocks (0 ∷ 0 ∷ 0 ∷ 0 ∷ 0 ∷ 0 ∷ 0 ∷ 0 ∷ 0 ∷ 0 ∷ 0 ∷ 0 ∷ 0 ∷ 0 ∷ 0 ∷ 0 ∷ 7 ∷ []) ≡ record { sizes = 0 ∷ 0 ∷ []; refused = 14 }
unfolding run_blocks blocks_in with_block first_block block_of u32_at four_at
empty-blocks = refl

-- ---- HOW MANY STAMPS: the sum of the lists' lengths
pub stamps-all : (xss : List (List Stamp)) → stamps_of (counts xss) ≡ length (all_stamps xss)
unfolding counts all_stamps stamps_of
stamps-all [] = refl
stamps-all (xs ∷ xss) = ap (λ (n : ℕ). length xs + n) (stamps-all xss) ∙ sym (length-append xs (all_stamps xss))

counts-length : (xss : List (List Stamp)) → length (counts xss) ≡ length xss
unfolding counts
counts-length [] = refl
counts-length (xs ∷ xss) = ap suc (counts-length xss)

counts-bytes : (xss : List (List Stamp)) → blocks_bytes (counts xss) ≡ length (run_bytes xss)
unfolding counts blocks_bytes all_bytes
counts-bytes [] = refl
counts-bytes (xs ∷ xss) = omega (arith, counts-bytes xss, block-length xs, length-append (block_bytes xs) (run_bytes xss))

-- ---- THE SIZE of a run that is written: as many stamps as the lists have, as many blocks as lists, and as many bytes as were written; bytes behind it that
-- are no block end it with their refusal
pub size-of-ended : (xss : List (List Stamp)) → EachFits xss → (rest : List ℕ) (k : ℕ) → 0 < length rest → first_block rest ≡ refusal k
    → size_of (run_blocks (run_bytes xss ++ rest))
    ≡ record { stamps = length (all_stamps xss); blocks = length xss; bytes = length (run_bytes xss); refused = k }
unfolding size_of
size-of-ended xss f rest k h e =
    ap size_of (run-ended xss f rest k h e)
    ∙ (λ i. record { stamps = stamps-all xss i; blocks = counts-length xss i; bytes = counts-bytes xss i; refused = k })

pub size-of-lists : (xss : List (List Stamp)) → EachFits xss
    → size_of (run_blocks (run_bytes xss)) ≡ record { stamps = length (all_stamps xss); blocks = length xss; bytes = length (run_bytes xss); refused = 0 }
unfolding size_of
size-of-lists xss f =
    ap size_of (run-whole xss f)
    ∙ (λ i. record { stamps = stamps-all xss i; blocks = counts-length xss i; bytes = counts-bytes xss i; refused = 0 })

-- ---- THE PARTS
bytes-joined : (bytes : Stamp → List ℕ) (xs ys : List Stamp) → all_bytes bytes (xs ++ ys) ≡ all_bytes bytes xs ++ all_bytes bytes ys
unfolding all_bytes
bytes-joined bytes [] ys = refl
bytes-joined bytes (x ∷ xs) ys = ap (λ (l : List ℕ). bytes x ++ l) (bytes-joined bytes xs ys)
    ∙ sym (append_assoc (bytes x) (all_bytes bytes xs) (all_bytes bytes ys))

module _ (xs : List Stamp) (t : List ℕ) where
  abbrev sizes : List ℕ
  sizes = all_bytes four_bytes (length xs ∷ length xs ∷ [])

  sizes-length : length sizes ≡ 8
  sizes-length = written-length four_bytes 4 (λ n. refl) (length xs ∷ length xs ∷ [])

  firsts-length : length (all_bytes first_bytes xs) ≡ 8 * length xs
  firsts-length = written-length first_bytes 8 (λ x. refl) xs

  seconds-length : length (all_bytes second_bytes xs) ≡ 8 * length xs
  seconds-length = written-length second_bytes 8 (λ x. refl) xs

  -- the sizes, the first parts, the second parts, and what follows
  grouped : block_bytes xs ++ t ≡ sizes ++ (all_bytes first_bytes xs ++ (all_bytes second_bytes xs ++ t))
  unfolding block_bytes
  grouped =
      append_assoc sizes (all_bytes first_bytes xs ++ all_bytes second_bytes xs) t
      ∙ ap (λ (l : List ℕ). sizes ++ l) (append_assoc (all_bytes first_bytes xs) (all_bytes second_bytes xs) t)

  first-slice : slice 8 (8 + 8 * length xs) (block_bytes xs ++ t) ≡ all_bytes first_bytes xs
  first-slice =
      sym (slice_mid 8 (8 * length xs) (block_bytes xs ++ t))
      ∙ ap (λ (l : List ℕ). take (8 * length xs) (drop 8 l)) grouped
      ∙ ap (take (8 * length xs)) (drop_at sizes (all_bytes first_bytes xs ++ (all_bytes second_bytes xs ++ t)) 8 sizes-length)
      ∙ take_at (all_bytes first_bytes xs) (all_bytes second_bytes xs ++ t) (8 * length xs) firsts-length

  second-slice : slice (8 + 8 * length xs) (8 + 16 * length xs) (block_bytes xs ++ t) ≡ all_bytes second_bytes xs
  second-slice =
      ap (λ (n : ℕ). slice (8 + 8 * length xs) n (block_bytes xs ++ t))
      (let q : 8 + 16 * length xs ≡ (8 + 8 * length xs) + 8 * length xs = omega arith in q)
      ∙ sym (slice_mid (8 + 8 * length xs) (8 * length xs) (block_bytes xs ++ t))
      ∙ ap (λ (l : List ℕ). take (8 * length xs) (drop (8 + 8 * length xs) l))
      (grouped ∙ sym (append_assoc sizes (all_bytes first_bytes xs) (all_bytes second_bytes xs ++ t)))
      ∙ ap (take (8 * length xs)) (drop_at (sizes ++ all_bytes first_bytes xs) (all_bytes second_bytes xs ++ t) (8 + 8 * length xs)
      (length-append sizes (all_bytes first_bytes xs) ∙ (let q : length sizes + length (all_bytes first_bytes xs) ≡ 8 + 8 * length xs
      = omega (arith, sizes-length, firsts-length) in q)))
      ∙ take_at (all_bytes second_bytes xs) t (8 * length xs) seconds-length

pub first-parts-back : (xss : List (List Stamp)) (rest : List ℕ) → first_parts (counts xss) (run_bytes xss ++ rest) ≡ all_bytes first_bytes (all_stamps xss)
unfolding counts all_bytes all_stamps first_parts
first-parts-back [] rest = refl
first-parts-back (xs ∷ xss) rest =
    ap (first_parts (length xs ∷ counts xss)) (append_assoc (block_bytes xs) (run_bytes xss) rest)
    ∙ ap (λ (l : List ℕ). l ++ first_parts (counts xss) (drop (block_length (length xs)) (block_bytes xs ++ (run_bytes xss ++ rest))))
    (first-slice xs (run_bytes xss ++ rest))
    ∙ ap (λ (l : List ℕ). all_bytes first_bytes xs ++ first_parts (counts xss) l)
    (drop_at (block_bytes xs) (run_bytes xss ++ rest) (block_length (length xs)) (block-length xs))
    ∙ ap (λ (l : List ℕ). all_bytes first_bytes xs ++ l) (first-parts-back xss rest)
    ∙ sym (bytes-joined first_bytes xs (all_stamps xss))

pub second-parts-back : (xss : List (List Stamp)) (rest : List ℕ) → second_parts (counts xss) (run_bytes xss ++ rest) ≡ all_bytes second_bytes (all_stamps xss)
unfolding counts all_bytes all_stamps second_parts
second-parts-back [] rest = refl
second-parts-back (xs ∷ xss) rest =
    ap (second_parts (length xs ∷ counts xss)) (append_assoc (block_bytes xs) (run_bytes xss) rest)
    ∙ ap (λ (l : List ℕ). l ++ second_parts (counts xss) (drop (block_length (length xs)) (block_bytes xs ++ (run_bytes xss ++ rest))))
    (second-slice xs (run_bytes xss ++ rest))
    ∙ ap (λ (l : List ℕ). all_bytes second_bytes xs ++ second_parts (counts xss) l)
    (drop_at (block_bytes xs) (run_bytes xss ++ rest) (block_length (length xs)) (block-length xs))
    ∙ ap (λ (l : List ℕ). all_bytes second_bytes xs ++ l) (second-parts-back xss rest)
    ∙ sym (bytes-joined second_bytes xs (all_stamps xss))

-- ---- STAMP i of the parts is the i-th of all stamps
pub stamp-of-all : (xs : List Stamp) → AllFit xs → (i : ℕ) (d : Stamp) → i < length xs
    → stamp_of (all_bytes first_bytes xs) (all_bytes second_bytes xs) i ≡ stamp_date (get_or xs i d)
unfolding stamp_of
stamp-of-all xs fit i d h = λ k. julian (of_bits binary64 (first k)) (of_bits binary64 (second k))
  where
    place : 0 + 8 * i + 0 ≡ 8 * i
    place = omega arith

    first : u64_at (all_bytes first_bytes xs) (8 * i) ≡ (get_or xs i d).first
    first =
        ap (λ (l : List ℕ). u64_at l (8 * i)) (sym (append-nil (all_bytes first_bytes xs)))
        ∙ ap (u64_at (all_bytes first_bytes xs ++ [])) (sym place)
        ∙ item_u64 first_bytes 8 (λ x. refl) [] xs [] i d h 0 (omega arith)
        ∙ read-written (get_or xs i d).first (fit i d h).first_fits

    second : u64_at (all_bytes second_bytes xs) (8 * i) ≡ (get_or xs i d).second
    second =
        ap (λ (l : List ℕ). u64_at l (8 * i)) (sym (append-nil (all_bytes second_bytes xs)))
        ∙ ap (u64_at (all_bytes second_bytes xs ++ [])) (sym place)
        ∙ item_u64 second_bytes 8 (λ x. refl) [] xs [] i d h 0 (omega arith)
        ∙ read-written (get_or xs i d).second (fit i d h).second_fits
