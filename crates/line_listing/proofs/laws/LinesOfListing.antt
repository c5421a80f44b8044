-- THE LISTING'S BYTES: the head by the lines of each run, the line of each place in the order of the lines, one behind the other, and the last line; and each
-- line has its recorder, its index in its run, and what is told of the stamp at its own place. Assumes nothing.
use Rattle.std.proofs.Common.{◌≡◌, ℕ, zero, suc, ◌+◌, ◌-◌, ◌*◌, ◌<◌, ◌≤◌, Bool, true, false, cond, eqb, List, [], ◌∷◌, ◌++◌, length, get_or, take, sym, refl}
use Rattle.std.proofs.Common.{ap, ◌∙◌, append_assoc, append-nil, arith, length-append, take-suc, le-ltb, lt-ltb}
use lib.Seq.{take-length}
use Rattle.refusals.specs.Outcome.{answer}
use Rattle.numerals.specs.digits.Decimal.{digits_of}
use Rattle.utc.specs.text.Ascii.{ascii_bytes}
use Rattle.julian.specs.stamp_lists.Stamps.{stamp_of}
use Rattle.leap_table.specs.rows.Table.{Row}
use Rattle.line_up.specs.LineUp.{LinedUp}
use Rattle.line_listing.specs.order.Order.{lines_in_order}
use Rattle.line_listing.specs.head.Head.{counted, end_text}
use Rattle.line_listing.specs.lines.StampLine.{Stamps, line_in_order, date_of_place, number_of_place, recorder, index_in, line_by, place_line}
use Rattle.line_listing.specs.lines.StampLine.{no_text_count}
use Rattle.line_listing.specs.lines.Parts.{lines_of_order, listed_lines, textless_from}
use Rattle.line_listing.specs.listing.Listing.{NamedRun, run_end_of, all_taken, numbered_by, listing_text, line_listing}
use Rattle.line_listing.specs.listing.Part.{ordered_of}
use Rattle.line_listing.specs.laws.Places.{only, AllListed}
use Rattle.line_listing.specs.laws.ListingBytes.{lines_at, recorder_line, told_at, LinesTold, is_without_text, end_told, ListingBytes}
use Rattle.line_listing.proofs.lines.Whole.{without_one}
use Rattle.line_listing.proofs.laws.Kept.{only-append}
use Rattle.line_listing.proofs.laws.Theorems.{answered-order}
use Rattle.line_listing.proofs.laws.Listing.{ordered-zeros, listing-is, lines-many, numbers-long}
use Rattle.line_listing.proofs.laws.RunLineCounts.{head_by_lines}

-- ---- EACH LINE
module _ (s : Bool) (rows : List Row) (all : Stamps) where
  regroup : (a b c d e : List ℕ) → (((a ++ b) ++ c) ++ d) ++ e ≡ a ++ (b ++ (c ++ (d ++ e)))
  regroup a b c d e = simp append_assoc

  line-is : (p i : ℕ) (name : List ℕ) → recorder all.first all.second p ≡ name → index_in all.first all.second p ≡ i
      → place_line s rows all p ≡ recorder_line name i (told_at s rows all p)
  unfolding place_line line_by
  line-is p i name a b =
      (λ j. (((a j ++ digits_of (b j)) ++ (32 ∷ [])) ++ told_at s rows all p) ++ (10 ∷ []))
      ∙ regroup name (digits_of i) (32 ∷ []) (told_at s rows all p) (10 ∷ [])

  -- THE LINES of the three runs
  pub lines-told : LinesTold s rows all
  unfolding recorder index_in
  lines-told = record {
    gps_line = λ i h. line-is i i (ascii_bytes "gps ") (rw (lt-ltb i all.first h)) (rw (lt-ltb i all.first h));
    tai_line = λ i h.
        let back : all.first + i - all.first ≡ i = omega arith in
        let past = le-ltb (all.first + i) all.first (omega arith) in
        line-is (all.first + i) i (ascii_bytes "tai ") (rw (past, back, lt-ltb i all.second h)) (rw (past, back, lt-ltb i all.second h));
    utc_line = λ i.
        let back : all.first + (all.second + i) - all.first ≡ all.second + i = omega arith in
        let rest : all.second + i - all.second ≡ i = omega arith in
        let past = le-ltb (all.first + (all.second + i)) all.first (omega arith) in
        let far = le-ltb (all.second + i) all.second (omega arith) in
        line-is (all.first + (all.second + i)) i (ascii_bytes "utc ") (rw (past, back, far)) (rw (past, back, far) rest);
  }

-- ---- THE LINES OF AN ORDER, by the places that stand in it
lines_more : (f : ℕ → List ℕ) (xs : List ℕ) (p : ℕ) → lines_at f (xs ++ (p ∷ [])) ≡ lines_at f xs ++ f p
unfolding lines_at
lines_more f [] p = append-nil (f p)
lines_more f (x ∷ xs) p = ap (λ (l : List ℕ). f x ++ l) (lines_more f xs p) ∙ sym (append_assoc (f x) (lines_at f xs) (f p))

module _ (s : Bool) (rows : List Row) (all : Stamps) (order lines : List ℕ) where
  abbrev Places : ℕ → Type 0
  Places n = (i : ℕ) → i < n → line_in_order order i ≡ get_or lines i 0

  place_of : (k n : ℕ) → k < n → Places n → line_in_order order (0 + k) ≡ get_or lines k 0
  place_of k n h at = ap (line_in_order order) (let e : 0 + k ≡ k = omega arith in e) ∙ at k h

  lines_of : (n : ℕ) → n ≤ length lines → Places n → listed_lines s rows all order 0 n ≡ lines_at (place_line s rows all) (take n lines)
  unfolding listed_lines lines_at
  lines_of zero h at = refl
  lines_of (suc k) h at =
      (λ i. lines_of k (omega arith) (λ j g. at j (omega arith)) i ++ place_line s rows all (place_of k (suc k) (omega arith) at i))
      ∙ sym (lines_more (place_line s rows all) (take k lines) (get_or lines k 0))
      ∙ ap (lines_at (place_line s rows all)) (sym (take-suc lines k 0 (omega arith)))

  one-is : (n : ℕ) → n ≤ 1 → n ≡ cond (eqb n 1) 1 0
  one-is zero h = refl
  one-is (suc zero) h = refl
  one-is (suc (suc n)) h = let w : ⊥ = omega arith in absurd w

  one_more : (t : ℕ → Bool) (x : ℕ) → length (only t (x ∷ [])) ≡ cond (t x) 1 0
  unfolding only
  one_more t x = go (t x)
    where
      go : (b : Bool) → length (cond b (x ∷ []) []) ≡ cond b 1 0
      go true = refl
      go false = refl

  abbrev count : ℕ → ℕ
  count p = no_text_count rows (date_of_place all p) (number_of_place all p)

  textless-of : (n : ℕ) → n ≤ length lines → Places n → textless_from rows all order 0 n ≡ length (only (is_without_text rows all) (take n lines))
  unfolding textless_from only
  textless-of zero h at = refl
  textless-of (suc k) h at =
      (λ i. textless-of k (omega arith) (λ j g. at j (omega arith)) i + count (place_of k (suc k) (omega arith) at i))
      ∙ ap (λ (n : ℕ). length (only (is_without_text rows all) (take k lines)) + n)
      (one-is (count (get_or lines k 0)) (without_one rows (date_of_place all (get_or lines k 0)) (number_of_place all (get_or lines k 0)))
      ∙ sym (one_more (is_without_text rows all) (get_or lines k 0)))
      ∙ sym (length-append (only (is_without_text rows all) (take k lines)) (only (is_without_text rows all) (get_or lines k 0 ∷ [])))
      ∙ ap length (sym (only-append (is_without_text rows all) (take k lines) (get_or lines k 0 ∷ [])))
      ∙ ap (λ (l : List ℕ). length (only (is_without_text rows all) l)) (sym (take-suc lines k 0 (omega arith)))

end_is : (ordered textless : ℕ) → end_text ordered textless ≡ end_told ordered textless
unfolding end_text counted
end_is ordered textless =
    four (ascii_bytes "lined up ") (digits_of ordered) (ascii_bytes " without text ") (digits_of textless) (10 ∷ [])
  where
    four : (a b c d e : List ℕ) → ((a ++ b) ++ (c ++ d)) ++ e ≡ a ++ (b ++ (c ++ (d ++ e)))
    four a b c d e = simp append_assoc

-- THE LISTING of three runs, where the lining up is answered, with room for a place of each stamp
module _ (s : Bool) (rows : List Row) (gps tai utc : NamedRun) (out : List ℕ) (work1 work2 : ℕ)
    (exact : length out ≡ 4 * length (all_taken rows gps tai utc).numbers) (k : ℕ) where
  abbrev taken : Stamps
  taken = all_taken rows gps tai utc

  abbrev up : LinedUp
  up = lines_in_order taken.jd1s taken.jd2s taken.numbers taken.first taken.second out work1 work2

  abbrev marked : Stamps
  marked = numbered_by taken up.numbers

  pub listing-bytes : up.answer ≡ answer k
      → (listed : AllListed (stamp_of taken.jd1s taken.jd2s) taken.numbers taken.first taken.second out up)
      → ListingBytes s rows gps tai utc (numbered_by taken up.numbers) listed.line listed.lines
  unfolding line_listing listing_text
  listing-bytes e listed =
      let due = answered-order taken.jd1s taken.jd2s taken.numbers taken.first taken.second out work1 work2 k e in
      let runs = due.runs in
      let long = numbers-long taken out work1 work2 exact k e in
      let all_lines : length listed.lines ≡ length up.numbers = listed.each.many in
      let many : lines_of_order up.out ≡ length listed.lines = lines-many taken out work1 work2 exact k e ∙ sym long ∙ sym all_lines in
      let at : (i : ℕ) → i < length listed.lines → line_in_order up.out i ≡ get_or listed.lines i 0 =
      (λ i h. listed.place_at i (omega (arith, h, long, all_lines))) in
      let whole = take-length listed.lines in
      let ordered : ordered_of marked ≡ length listed.line =
      ordered-zeros taken.jd1s taken.jd2s up.numbers ∙ sym listed.counted in
      let written : listed_lines s rows marked up.out 0 (lines_of_order up.out) ≡ lines_at (place_line s rows marked) listed.lines =
      ap (listed_lines s rows marked up.out 0) many ∙ lines_of s rows marked up.out listed.lines (length listed.lines) (omega arith) at
      ∙ ap (lines_at (place_line s rows marked)) whole in
      let textless : textless_from rows marked up.out 0 (lines_of_order up.out) ≡ length (only (is_without_text rows marked) listed.lines) =
      ap (textless_from rows marked up.out 0) many ∙ textless-of s rows marked up.out listed.lines (length listed.lines) (omega arith) at
      ∙ ap (λ (l : List ℕ). length (only (is_without_text rows marked) l)) whole in
      listing-is taken out work1 work2 exact k e s rows (run_end_of gps) (run_end_of tai) (run_end_of utc)
      ∙ (λ i. answer (head_by_lines marked listed.line listed.lines listed.each (omega (arith, runs, long)) (run_end_of gps) (run_end_of tai)
      (run_end_of utc) i
      ++ (written i ++ (ap (λ (m : ℕ). end_text m (textless_from rows marked up.out 0 (lines_of_order up.out))) ordered
      ∙ ap (end_text (length listed.line)) textless
      ∙ end_is (length listed.line) (length (only (is_without_text rows marked) listed.lines))) i)))
