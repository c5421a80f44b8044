-- The second listing, with refusals reported in sentences: what it has from the first, and what each sentence names. Assumes nothing.
use Prim.Native.Nat.{ℕ, ◌+◌, ◌*◌, ◌≤◌, ◌<◌}
use native.Mathlib.Omega.{arith}
use mathlib.Core.Path.{◌≡◌, refl, sym, ap, ◌∙◌}
use mathlib.Core.Logic.{◌⊎◌, inl, inr}
use mathlib.Core.Bool.{Bool, true, false, cond}
use mathlib.Core.List.{List, [], ◌∷◌, ◌++◌}
use lib.ListN.{length, take, get_or}
use lib.Seq.{get_or-take, length-take-le, take_all}
use lib.Dec.{leb, eqb}
use lib.IntN.{pos}
use lib.Ieee.{Float}
use borrow.Author.Tests.{leb-true, leb-false, le-leb, le-ltb, ne_eqb}
use Rattle.refusals.specs.Outcome.{Outcome, answer, refusal, onward}
use Rattle.numerals.specs.little_endian.LittleEndian.{four_at, u32_at}
use Rattle.calendar.proofs.Years.{valid_of}
use Rattle.julian.specs.declared.day_number.DayNumber.{DayNumber}
use Rattle.julian.specs.day_number.Answer.{day_number_and_fraction}
use Rattle.julian.specs.declared.JulianDate.{JulianDate}
use Rattle.julian.specs.declared.CalendarFields.{CalendarFields}
use Rattle.julian.specs.JulianDate.{rounded_sum}
use Rattle.julian.specs.Calendar.{julian_to_calendar}
use Rattle.julian.proofs.laws.CalendarDays.{fields-of, only-six}
use Rattle.leap_table.specs.rows.Table.{Row}
use Rattle.utc.specs.iso_texts.Expanded.{expanded_form, iso_text_expanded}
use Rattle.julian.proofs.Dates.{date-in-range}
use Rattle.utc.proofs.laws.Numbers.{not_both, one_number, date-refusal}
use Rattle.utc.proofs.iso_texts.TextCalls.{fields-refused-by, fields-given-by}
use Rattle.utc.proofs.laws.DayTexts.{text-refused-by, has-text-by}
use Rattle.reasons.specs.declared.sentences.Named.{Named}
use Rattle.reasons.specs.declared.sentences.Named.TheVariants.{Year, Sum, SecondSize, Size, WholeLength}
use Rattle.reasons.specs.declared.Values.TheVariants.{Block}
use Rattle.reasons.specs.declared.sentences.Reason.{Reason}
use Rattle.reasons.specs.Offending.{offending, block_field}
use Rattle.reasons.specs.sentences.Render.{render}
use Rattle.reasons.specs.Sentence.{reason_of}
use Rattle.stamps.proofs.reason_laws.Names.{year-reported, sum-reported, second-size-reported, size-reported, length-reported}
use Rattle.stamps.specs.declared.Reporting.{Reporting}
use Rattle.stamps.specs.declared.Reporting.TheVariants.{Numbers, Sentences}
use Rattle.stamps.specs.Block.{block_of, stamp_at}
use Rattle.stamps.specs.Listing.{numeral, line_room, reported, came, text_at, values_by, refused_values, shown, stamp_line, block_word, block_values}
use Rattle.stamps.specs.Listing.{block_refused, listing_of, listing}
use Rattle.stamps.specs.Parts.{line_of}
use Rattle.stamps.proofs.Reportings.{bytes-width}
use Rattle.stamps.proofs.Lengths.{line-most}
use Rattle.stamps.specs.listing_laws.NotFinite.{NotFinite}
use Rattle.stamps.proofs.listing_laws.NotFinite.{not_finite_refused}

-- ---- what the two listings share
-- the header
pub header-shared : (how other : Reporting) (rows : List Row) (s : List ℕ) (n : ℕ) → block_of s ≡ answer n
    → line_of how rows (block_of s) s 0 ≡ line_of other rows (block_of s) s 0
unfolding line_of
header-shared how other rows s n e = rw e refl

-- and the line of every stamp that has a text
pub text-line-shared : (how other : Reporting) (rows : List Row) (s : List ℕ) (n i : ℕ) (t : List ℕ) → text_at rows s n i ≡ answer t
    → stamp_line how rows s n i ≡ stamp_line other rows s n i
unfolding stamp_line shown
text-line-shared how other rows s n i t e = rw e refl

-- ---- every line has at most 64 bytes, of every block of bytes and however many of 64 bits came
pub reported-line-most : (n : ℕ) → n < 18446744073709551616 → (rows : List Row) (s : List ℕ) → ((k : ℕ) → get_or s k 0 < 256) → (line : ℕ)
    → length (line_of (Sentences n) rows (block_of s) s line) ≤ 64
unfolding line_room
reported-line-most n h rows s bytes line = line-most (Sentences n) rows (block_of s) s line (bytes-width n s h bytes)

-- ---- which field a sentence names
-- the sentence of a number with its field
abbrev sentence_of : ℕ → Named → List ℕ
sentence_of k f = render (record { number = k; named = f })

-- the reason of a number from 1 to 28 has the field that is at fault
same-field : {k : ℕ} {f g : Named} → ◌≡◌ {A = Outcome Reason} (answer (record { number = k; named = f })) (answer (record { number = k; named = g })) → f ≡ g
same-field {k} {f} {g} e = let r : ◌≡◌ {A = Reason} (record { number = k; named = f }) (record { number = k; named = g }) =
    cc in ap (λ (x : Reason). x.named) r

-- ---- a stamp
no_day : (a b : Float) → julian_to_calendar a b ≡ refusal 6 → day_number_and_fraction a b ≡ refusal 6
unfolding julian_to_calendar onward
no_day a b e = go (day_number_and_fraction a b) refl
  where
    go : (o : Outcome DayNumber) → day_number_and_fraction a b ≡ o → day_number_and_fraction a b ≡ refusal 6
    go (answer d) p = absurd (not_both (julian_to_calendar a b) _ 6 (fields-of a b d p) e)
    go (refusal k) p = p ∙ ap refusal (one_number (julian_to_calendar a b) k 6 (rw p refl) e)

-- by 6 where the parts have no day, by 1 where the day has no text
abbrev Which : JulianDate → ℕ → Type 0
Which jd k = ((k ≡ 6) × (julian_to_calendar jd.jd1 jd.jd2 ≡ refusal 6))
    ⊎ ((k ≡ 1) × ((c : CalendarFields) × (julian_to_calendar jd.jd1 jd.jd2 ≡ answer c) × (valid_of c.date ≡ refusal 1)))

module _ (rows : List Row) (jd : JulianDate) where
  module _ (k : ℕ) (e : iso_text_expanded rows jd ≡ refusal k) where
    which : Which jd k
    which = go (julian_to_calendar jd.jd1 jd.jd2) refl
      where
        go : (o : Outcome CalendarFields) → julian_to_calendar jd.jd1 jd.jd2 ≡ o
            → Which jd k
        go (refusal n) p =
            let six = only-six jd.jd1 jd.jd2 n p in
            inl (one_number (iso_text_expanded rows jd) k n e (fields-refused-by expanded_form rows jd n p) ∙ six, p ∙ ap refusal six)
        go (answer c) p = by-date (date-refusal jd.jd1 jd.jd2 c p)
          where
            by-date : (valid_of c.date ≡ answer tt) ⊎ (valid_of c.date ≡ refusal 1)
                → Which jd k
            by-date (inl v) = absurd (not_both (iso_text_expanded rows jd) _ k
                (fields-given-by expanded_form rows jd c p
                ∙ has-text-by rows c.date v (date-in-range jd.jd1 jd.jd2 c p).year_high expanded_form c.fraction) e)
            by-date (inr v) = inr (
              one_number (iso_text_expanded rows jd) k 1 e
                  (fields-given-by expanded_form rows jd c p ∙ text-refused-by rows c.date expanded_form c.fraction 1 v),
              (c, p, v),
            )

  sum-named : iso_text_expanded rows jd ≡ refusal 6 → offending 6 (refused_values jd) ≡ Sum (rounded_sum jd)
  unfolding values_by reason_of
  sum-named e = go (which 6 e)
    where
      go : Which jd 6
          → offending 6 (refused_values jd) ≡ Sum (rounded_sum jd)
      go (inl (q, p)) = ap (λ (o : Outcome CalendarFields). offending 6 (values_by jd o)) p
          ∙ same-field (sum-reported jd.jd1 jd.jd2 (no_day jd.jd1 jd.jd2 p))
      go (inr (q, r)) = absurd (let z : ⊥ = omega arith in z)

  year-named : iso_text_expanded rows jd ≡ refusal 1 → (c : CalendarFields) × (julian_to_calendar jd.jd1 jd.jd2 ≡ answer c)
      × (offending 1 (refused_values jd) ≡ Year c.date.year)
  unfolding values_by reason_of
  year-named e = go (which 1 e)
    where
      go : Which jd 1
          → (c : CalendarFields) × (julian_to_calendar jd.jd1 jd.jd2 ≡ answer c) × (offending 1 (refused_values jd) ≡ Year c.date.year)
      go (inl (q, p)) = absurd (let z : ⊥ = omega arith in z)
      go (inr (q, (c, p, v))) = (
        c,
        p,
        ap (λ (o : Outcome CalendarFields). offending 1 (values_by jd o)) p
            ∙ same-field (year-reported c.date.year (pos c.date.month) (pos c.date.day) v),
      )

-- the line of a stamp whose refusal tells this sentence
abbrev sentence_line : ℕ → ℕ → Named → List ℕ
sentence_line i k f = ((numeral i ++ (32 ∷ [])) ++ sentence_of k f) ++ (10 ∷ [])

module _ (m : ℕ) (rows : List Row) (s : List ℕ) (n i : ℕ) where
  reported-line : (k : ℕ) (f : Named) → text_at rows s n i ≡ refusal k → offending k (refused_values (stamp_at s n i)) ≡ f
      → stamp_line (Sentences m) rows s n i ≡ sentence_line i k f
  unfolding stamp_line shown reported
  reported-line k f e q =
      ap (λ (o : Outcome (List ℕ)). ((numeral i ++ (32 ∷ [])) ++ shown (Sentences m) (stamp_at s n i) o) ++ (10 ∷ [])) e
      ∙ ap (sentence_line i k) q

  -- a stamp that is refused by 6 names the rounded sum of its own parts
  pub sum-line : text_at rows s n i ≡ refusal 6 → stamp_line (Sentences m) rows s n i ≡ sentence_line i 6 (Sum (rounded_sum (stamp_at s n i)))
  unfolding text_at
  sum-line e = reported-line 6 _ e (sum-named rows (stamp_at s n i) e)

  -- so does every stamp that is not finite
  pub not_finite_sum : NotFinite s n i → stamp_line (Sentences m) rows s n i ≡ sentence_line i 6 (Sum (rounded_sum (stamp_at s n i)))
  not_finite_sum d = sum-line (not_finite_refused rows s n i d)

  -- one that is refused by 1 names the year of its own date
  pub year-line : text_at rows s n i ≡ refusal 1
      → (c : CalendarFields) × (julian_to_calendar (stamp_at s n i).jd1 (stamp_at s n i).jd2 ≡ answer c)
      × (stamp_line (Sentences m) rows s n i ≡ sentence_line i 1 (Year c.date.year))
  unfolding text_at
  year-line e = let (c, p, q) = year-named rows (stamp_at s n i) e in (c, p, reported-line 1 _ e q)

-- ---- a block
module _ (m : ℕ) (rows : List Row) (s : List ℕ) (line : ℕ) where
  block-line : (k : ℕ) (f : Named) → block_of s ≡ refusal k → offending k (block_values (Sentences m) s) ≡ f
      → line_of (Sentences m) rows (block_of s) s line ≡ (block_word ++ sentence_of k f) ++ (10 ∷ [])
  unfolding line_of block_refused reported
  block-line k f e q = ap (λ (o : Outcome ℕ). line_of (Sentences m) rows o s line) e ∙ ap (λ (x : Named). (block_word ++ sentence_of k x) ++ (10 ∷ [])) q

  -- 12 names the block's second size, 13 its size
  pub second-size-line : block_of s ≡ refusal 12 → line_of (Sentences m) rows (block_of s) s line ≡ (block_word ++ sentence_of 12 (SecondSize (u32_at s 4)))
      ++ (10 ∷ [])
  unfolding reason_of offending block_field
  second-size-line e = block-line 12 _ e (same-field (second-size-reported s e))

  pub size-line : block_of s ≡ refusal 13 → line_of (Sentences m) rows (block_of s) s line ≡ (block_word ++ sentence_of 13 (Size (u32_at s 0))) ++ (10 ∷ [])
  unfolding reason_of offending block_field
  size-line e = block-line 13 _ e (same-field (size-reported s e))

-- 14 names how many bytes came
pub length-line : (rows : List Row) (s : List ℕ) (line : ℕ) → block_of s ≡ refusal 14
    → line_of (Sentences (length s)) rows (block_of s) s line ≡ (block_word ++ sentence_of 14 (WholeLength (length s))) ++ (10 ∷ [])
unfolding reason_of came
length-line rows s line e = block-line (length s) rows s line 14 _ e (same-field (length-reported s e))

-- ---- an input that is longer than any block: its first 64,009 bytes are listed as all of it
size-cut : (s : List ℕ) (at : ℕ) → at ≤ 4 → 64009 < length s → u32_at (take 64009 s) at ≡ u32_at s at
unfolding u32_at four_at
size-cut s at h l =
    let n : length (take 64009 s) ≡ 64009 = length-take-le 64009 s (omega arith) in
    rw (le-leb (at + 4) (length s) (omega arith), le-leb (at + 4) (length (take 64009 s)) (omega arith))
    (simp (
      get_or-take 64009 s at 0 (omega arith),
      get_or-take 64009 s (at + 1) 0 (omega arith),
      get_or-take 64009 s (at + 2) 0 (omega arith),
      get_or-take 64009 s (at + 3) 0 (omega arith),
    ))

-- by its sizes alone
abbrev by_sizes : ℕ → ℕ → Outcome ℕ
by_sizes a b = cond (eqb a b) (cond (leb a 4000) (refusal 14) (refusal 13)) (refusal 12)

long-block : (s : List ℕ) → 64009 ≤ length s → block_of s ≡ by_sizes (u32_at s 0) (u32_at s 4)
unfolding block_of
long-block s l = rw (le-ltb (length s) 8 (omega arith)) (go (eqb (u32_at s 0) (u32_at s 4)) (leb (u32_at s 0) 4000) refl)
  where
    go : (p q : Bool) → leb (u32_at s 0) 4000 ≡ q
        → cond p (cond q (cond (eqb (length s) (8 + 16 * u32_at s 0)) (answer (u32_at s 0)) (refusal 14)) (refusal 13)) (refusal 12) ≡ cond p
        (cond q (refusal 14) (refusal 13)) (refusal 12)
    go false q e = refl
    go true false e = refl
    go true true e =
        let few : u32_at s 0 ≤ 4000 = leb-true _ _ e in
        rw (ne_eqb (length s) (8 + 16 * u32_at s 0) (λ same. (let no : ⊥ = omega arith in no))) refl

refused-alike : (how : Reporting) (s t : List ℕ) (k : ℕ) → u32_at s 0 ≡ u32_at t 0 → u32_at s 4 ≡ u32_at t 4 → block_refused how s k ≡ block_refused how t k
unfolding block_refused reported came
refused-alike Numbers s t k p q = refl
refused-alike (Sentences n) s t k p q = λ i. (block_word ++ reported (Sentences n) k (Block n (p i) (q i))) ++ (10 ∷ [])

pub cut-listing : (how : Reporting) (rows : List Row) (s : List ℕ) → listing how rows (take 64009 s) ≡ listing how rows s
unfolding listing listing_of
cut-listing how rows s = go (leb (length s) 64009) refl
  where
    go : (b : Bool) → leb (length s) 64009 ≡ b → listing how rows (take 64009 s) ≡ listing how rows s
    go true e = ap (listing how rows) (take_all 64009 s (leb-true _ _ e))
    go false e =
        let l : 64009 < length s = leb-false _ _ e in
        let n : length (take 64009 s) ≡ 64009 = length-take-le 64009 s (omega arith) in
        let p = size-cut s 0 (omega arith) l in
        let q = size-cut s 4 (omega arith) l in
        rw (long-block (take 64009 s) (omega arith) ∙ (λ i. by_sizes (p i) (q i)), long-block s (omega arith))
        (either p q (eqb (u32_at s 0) (u32_at s 4)) (leb (u32_at s 0) 4000))
      where
        either : u32_at (take 64009 s) 0 ≡ u32_at s 0 → u32_at (take 64009 s) 4 ≡ u32_at s 4 → (a b : Bool)
            → listing_of how rows (cond a (cond b (refusal 14) (refusal 13)) (refusal 12)) (take 64009 s) ≡ listing_of how rows
            (cond a (cond b (refusal 14) (refusal 13)) (refusal 12)) s
        either p q false b = refused-alike how (take 64009 s) s 12 p q
        either p q true false = refused-alike how (take 64009 s) s 13 p q
        either p q true true = refused-alike how (take 64009 s) s 14 p q

-- so the listing of an input that 14 refuses, of which the program keeps no more than that, names how many bytes came in all
pub whole-length-named : (rows : List Row) (s : List ℕ) → block_of s ≡ refusal 14
    → listing (Sentences (length s)) rows (take 64009 s) ≡ (block_word ++ sentence_of 14 (WholeLength (length s))) ++ (10 ∷ [])
unfolding listing listing_of line_of
whole-length-named rows s e =
    cut-listing (Sentences (length s)) rows s
    ∙ ap (λ (o : Outcome ℕ). listing_of (Sentences (length s)) rows o s) e
    ∙ sym (ap (λ (o : Outcome ℕ). line_of (Sentences (length s)) rows o s 0) e)
    ∙ length-line rows s 0 e
