-- A BLOCK GIVES ITS STAMPS BACK, EACH AT ITS PLACE: the block that is written from any list of up to 4,000 stamps is taken with their number, stamp i of it is
-- stamp i of the list, and its listing, with numbers or with sentences and by any table, is the header and the lines of that list. One stamp more is 13.
-- Assumes nothing.
use Prim.Native.Nat.{ℕ, zero, suc, ◌+◌, ◌*◌, ◌≤◌, ◌<◌}
use native.Mathlib.Omega.{arith}
use mathlib.Core.Path.{◌≡◌, refl, sym, ap, ◌∙◌}
use mathlib.Core.List.{List, [], ◌∷◌, ◌++◌, append_assoc, append-nil}
use lib.ListN.{length, take, get_or, length-append}
use lib.Seq.{take-suc, take-length, length-take-le}
use lib.Ieee.{of_bits, binary64}
use Rattle.refusals.specs.Outcome.{Outcome, answer, refusal}
use Rattle.numerals.specs.little_endian.LittleEndian.{four_at, u32_at, u64_at, four_bytes}
use Rattle.numerals.specs.little_endian.Written.{all_bytes}
use Rattle.numerals.specs.digits.Decimal.{digits_of}
use Rattle.numerals.proofs.little_endian.Items.{written-length, item_u32, item_u64}
use Rattle.numerals.proofs.little_endian.RoundTrip.{read-written, read-written-4}
use Rattle.julian.specs.JulianDate.{julian}
use Rattle.leap_table.specs.rows.Table.{Row}
use Rattle.utc.specs.iso_texts.Expanded.{iso_text_expanded}
use Rattle.stamps.specs.declared.Reporting.{Reporting}
use Rattle.stamps.specs.Block.{block_of, jd1_bits, jd2_bits, stamp_at}
use Rattle.stamps.specs.Listing.{numeral, refused_word, utc_listing_words, text_at, stamp_line, stamp_lines, refused_in, one_if_refused, header}
use Rattle.stamps.specs.Listing.{listing_of, listing}
use Rattle.stamps.specs.listing_laws.Writer.{Stamp, StampFits, stamp_date, first_bytes, second_bytes, block_bytes, refused_stamps, line_of_stamp}
use Rattle.stamps.specs.listing_laws.Writer.{without_text, header_text, lines_of_stamps, listing_of_stamps}
use Rattle.stamps.proofs.Blocks.{too_large, all_there}
use Rattle.stamps.proofs.listing_laws.Numerals.{numeral-whole, refused-most}

-- ---- the sizes
module _ (xs : List Stamp) where
  abbrev sizes : List ℕ
  sizes = length xs ∷ length xs ∷ []

  abbrev front : List ℕ
  front = all_bytes four_bytes sizes

  front_length : length front ≡ 8
  front_length = written-length four_bytes 4 (λ n. refl) sizes

  pub block-length : length (block_bytes xs) ≡ 8 + 16 * length xs
  unfolding block_bytes
  block-length =
      let a = length-append front (all_bytes first_bytes xs ++ all_bytes second_bytes xs) in
      let b = length-append (all_bytes first_bytes xs) (all_bytes second_bytes xs) in
      omega (arith, a, b, front_length, written-length first_bytes 8 (λ x. refl) xs, written-length second_bytes 8 (λ x. refl) xs)

  module _ (few : length xs < 4294967296) where
    pub first-size : length xs ≡ u32_at (block_bytes xs) 0
    unfolding block_bytes
    first-size =
        sym (item_u32 four_bytes 4 (λ n. refl) [] sizes (all_bytes first_bytes xs ++ all_bytes second_bytes xs) 0 0 (omega arith) 0 (omega arith)
        ∙ read-written-4 (length xs) few)

    pub second_size : length xs ≡ u32_at (block_bytes xs) 4
    unfolding block_bytes
    second_size =
        sym (item_u32 four_bytes 4 (λ n. refl) [] sizes (all_bytes first_bytes xs ++ all_bytes second_bytes xs) 1 0 (omega arith) 0 (omega arith)
        ∙ read-written-4 (length xs) few)

    eight : 8 ≤ length (block_bytes xs)
    eight = omega (arith, block-length)

    -- ANSWERED EXACTLY WHEN there are at most 4,000
    pub block-taken : length xs ≤ 4000 → block_of (block_bytes xs) ≡ answer (length xs)
    block-taken h = sym (all_there (block_bytes xs) (length xs) (length xs) first-size second_size eight refl h block-length)

    pub block-too-large : 4000 < length xs → block_of (block_bytes xs) ≡ refusal 13
    block-too-large h = sym (too_large (block_bytes xs) (length xs) (length xs) first-size second_size eight refl h)

-- ---- EACH STAMP AT ITS PLACE
module _ (xs : List Stamp) (i : ℕ) (d : Stamp) (h : i < length xs) (bits : StampFits (get_or xs i d)) where
  pub first_part : jd1_bits (block_bytes xs) i ≡ (get_or xs i d).first
  unfolding jd1_bits block_bytes
  first_part =
      let e : 8 + 8 * i ≡ length (front xs) + 8 * i + 0 = omega (arith, front_length xs) in
      ap (u64_at (block_bytes xs)) e ∙ item_u64 first_bytes 8 (λ x. refl) (front xs) xs (all_bytes second_bytes xs) i d h 0 (omega arith)
      ∙ read-written (get_or xs i d).first bits.first_fits

  pub second-part : jd2_bits (block_bytes xs) (length xs) i ≡ (get_or xs i d).second
  unfolding jd2_bits block_bytes
  second-part =
      let l = length-append (front xs) (all_bytes first_bytes xs) in
      let e : 8 + 8 * length xs + 8 * i ≡ length (front xs ++ all_bytes first_bytes xs) + 8 * i + 0 =
      omega (arith, l, front_length xs, written-length first_bytes 8 (λ x. refl) xs) in
      ap (u64_at (block_bytes xs)) e
      ∙ ap (λ (s : List ℕ). u64_at s (length (front xs ++ all_bytes first_bytes xs) + 8 * i + 0))
      (sym (append_assoc (front xs) (all_bytes first_bytes xs) (all_bytes second_bytes xs))
      ∙ ap (λ (t : List ℕ). (front xs ++ all_bytes first_bytes xs) ++ t) (sym (append-nil (all_bytes second_bytes xs))))
      ∙ item_u64 second_bytes 8 (λ x. refl) (front xs ++ all_bytes first_bytes xs) xs [] i d h 0 (omega arith)
      ∙ read-written (get_or xs i d).second bits.second_fits

  pub stamp-back : stamp_at (block_bytes xs) (length xs) i ≡ stamp_date (get_or xs i d)
  unfolding stamp_at
  stamp-back = ap (λ (n : ℕ). julian (of_bits binary64 n) (of_bits binary64 (jd2_bits (block_bytes xs) (length xs) i))) first_part
      ∙ ap (λ (n : ℕ). julian (of_bits binary64 (get_or xs i d).first) (of_bits binary64 n)) second-part

-- ---- THE HEADER says first how many stamps there are, then how many of them have no text; one counts by whatever number it is refused
pub header-text : (n k : ℕ) → n < 10000 → k < 10000 → header n k ≡ header_text n k
unfolding header header_text
header-text n k hn hk =
    ap (λ (d : List ℕ). (((utc_listing_words ++ d) ++ (32 ∷ refused_word)) ++ numeral k) ++ (10 ∷ [])) (numeral-whole n hn)
    ∙ ap (λ (d : List ℕ). (((utc_listing_words ++ digits_of n) ++ (32 ∷ refused_word)) ++ d) ++ (10 ∷ [])) (numeral-whole k hk)
    ∙ append_assoc ((utc_listing_words ++ digits_of n) ++ (32 ∷ refused_word)) (digits_of k) (10 ∷ [])
    ∙ append_assoc (utc_listing_words ++ digits_of n) (32 ∷ refused_word) (digits_of k ++ (10 ∷ []))
    ∙ append_assoc utc_listing_words (digits_of n) ((32 ∷ refused_word) ++ (digits_of k ++ (10 ∷ [])))

pub one-counts : (o : Outcome (List ℕ)) → one_if_refused o ≡ without_text o
unfolding one_if_refused without_text
one-counts (answer text) = refl
one-counts (refusal k) = refl

-- ---- THE LISTING, line by line, and its counts
lines-behind : (how : Reporting) (rows : List Row) (i : ℕ) (ys : List Stamp) (x : Stamp)
    → lines_of_stamps how rows i (ys ++ (x ∷ [])) ≡ lines_of_stamps how rows i ys ++ line_of_stamp how rows (i + length ys) x
unfolding lines_of_stamps
lines-behind how rows i [] x = append-nil (line_of_stamp how rows i x) ∙ ap (λ (n : ℕ). line_of_stamp how rows n x) z
  where
    z : i ≡ i + 0
    z = omega arith
lines-behind how rows i (y ∷ ys) x =
    ap (λ (l : List ℕ). line_of_stamp how rows i y ++ l) (lines-behind how rows (suc i) ys x)
    ∙ sym (append_assoc (line_of_stamp how rows i y) (lines_of_stamps how rows (suc i) ys) (line_of_stamp how rows (suc i + length ys) x))
    ∙ ap (λ (n : ℕ). (line_of_stamp how rows i y ++ lines_of_stamps how rows (suc i) ys) ++ line_of_stamp how rows n x) z
  where
    z : suc i + length ys ≡ i + length (y ∷ ys)
    z = omega arith

refused-behind : (rows : List Row) (ys : List Stamp) (x : Stamp) → refused_stamps rows (ys ++ (x ∷ [])) ≡ refused_stamps rows ys + refused_stamps rows (x ∷ [])
unfolding refused_stamps
refused-behind rows [] x = omega arith
refused-behind rows (y ∷ ys) x = let e = refused-behind rows ys x in omega arith

module _ (how : Reporting) (rows : List Row) (xs : List Stamp) (d : Stamp) (bits : (i : ℕ) → i < length xs → StampFits (get_or xs i d)) where
  one_line : (i : ℕ) → i < length xs → stamp_line how rows (block_bytes xs) (length xs) i ≡ line_of_stamp how rows i (get_or xs i d)
  unfolding stamp_line text_at
  one_line i h = rw (stamp-back xs i d h (bits i h))

  one-refused : (i : ℕ) → i < length xs → one_if_refused (text_at rows (block_bytes xs) (length xs) i) + 0 ≡ refused_stamps rows (get_or xs i d ∷ [])
  unfolding text_at refused_stamps
  one-refused i h = rw (stamp-back xs i d h (bits i h)) (ap (λ (n : ℕ). n + 0) (one-counts (iso_text_expanded rows (stamp_date (get_or xs i d)))))

  first-lines : (k : ℕ) → k ≤ length xs → stamp_lines how rows (block_bytes xs) (length xs) k ≡ lines_of_stamps how rows 0 (take k xs)
  unfolding stamp_lines lines_of_stamps
  first-lines zero h = refl
  first-lines (suc k) h =
      let l : length (take k xs) ≡ k = length-take-le k xs (omega arith) in
      let z : 0 + length (take k xs) ≡ k = omega arith in
      ap (λ (t : List ℕ). t ++ stamp_line how rows (block_bytes xs) (length xs) k) (first-lines k (omega arith))
      ∙ ap (λ (t : List ℕ). lines_of_stamps how rows 0 (take k xs) ++ t)
      (one_line k (omega arith) ∙ ap (λ (n : ℕ). line_of_stamp how rows n (get_or xs k d)) (sym z))
      ∙ sym (lines-behind how rows 0 (take k xs) (get_or xs k d))
      ∙ ap (lines_of_stamps how rows 0) (sym (take-suc xs k d (omega arith)))

  first-refused : (k : ℕ) → k ≤ length xs → refused_in rows (block_bytes xs) (length xs) k ≡ refused_stamps rows (take k xs)
  unfolding refused_in refused_stamps
  first-refused zero h = refl
  first-refused (suc k) h =
      let e = first-refused k (omega arith) in
      let f = one-refused k (omega arith) in
      let g = refused-behind rows (take k xs) (get_or xs k d) in
      omega (arith, ap (refused_stamps rows) (take-suc xs k d (omega arith)))

  all_lines : stamp_lines how rows (block_bytes xs) (length xs) (length xs) ≡ lines_of_stamps how rows 0 xs
  all_lines = first-lines (length xs) (omega arith) ∙ ap (lines_of_stamps how rows 0) (take-length xs)

  -- THE COUNT of the header is the number of stamps that have no text
  pub header-count : refused_in rows (block_bytes xs) (length xs) (length xs) ≡ refused_stamps rows xs
  header-count = first-refused (length xs) (omega arith) ∙ ap (refused_stamps rows) (take-length xs)

  pub listing-of-list : length xs ≤ 4000 → listing how rows (block_bytes xs) ≡ listing_of_stamps how rows xs
  unfolding listing listing_of listing_of_stamps
  listing-of-list h =
      rw (block-taken xs (omega arith) h)
      (ap (λ (n : ℕ). header (length xs) n ++ stamp_lines how rows (block_bytes xs) (length xs) (length xs)) header-count
      ∙ ap (λ (t : List ℕ). header (length xs) (refused_stamps rows xs) ++ t) all_lines
      ∙ ap (λ (t : List ℕ). t ++ lines_of_stamps how rows 0 xs) (header-text (length xs) (refused_stamps rows xs) (omega arith)
      (omega (arith, header-count, refused-most rows (block_bytes xs) (length xs) (length xs)))))

-- ---- two stamps, worked: the second is read at its own place
pub second-of-two : stamp_at (block_bytes
    (record { first = 0x3ff0_0000_0000_0000; second = 0 } ∷ record { first = 0x4000_0000_0000_0000; second = 0x4008_0000_0000_0000 } ∷ []))
    2 1 ≡ julian (of_bits binary64 0x4000_0000_0000_0000) (of_bits binary64 0x4008_0000_0000_0000)
unfolding stamp_at jd1_bits jd2_bits block_bytes all_bytes u64_at four_at
second-of-two = refl

-- ---- THE ORDER OF THE REFUSALS: sizes that differ are told before a size that is too large
pub sizes-before-many : block_of (all_bytes four_bytes (4001 ∷ 4002 ∷ [])) ≡ refusal 12
unfolding block_of all_bytes u32_at four_at
sizes-before-many = refl
