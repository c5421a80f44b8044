-- A refusal as the code tells it is the refusal of the definition: which values it read, and its words by the way of reporting. Assumes nothing.
use Prim.Native.Nat.{ℕ, ◌+◌, ◌*◌, ◌<◌}
use native.Mathlib.Omega.{arith}
use mathlib.Core.Path.{◌≡◌, sym, ap, subst, ◌∙◌}
use mathlib.Core.Bool.{Bool, true, false, cond}
use mathlib.Core.List.{List, ◌++◌}
use lib.ListN.{length, get_or}
use lib.Dec.{leb}
use lib.IntN.{ℤ, pos, negsuc}
use lib.Signed.{lt_z, mag}
use mir.Syntax.{w32}
use mir.Val.{SFits, to_z, of_z}
use borrow.Author.Tests.{ltb-false}
use Rattle.std.specs.Prelude.{Result, Ok, Err}
use Rattle.refusals.specs.declared.Refusal.{Refusal}
use Rattle.refusals.specs.Refusal.{refusal_number}
use Rattle.refusals.proofs.Handed.{number_low, number_high}
use Rattle.refusals.specs.Outcome.{Outcome, answer, outcome}
use Rattle.numerals.specs.little_endian.LittleEndian.{four_at, u32_at}
use Rattle.calendar.proofs.Years.{DateInRange}
use Rattle.julian.specs.declared.JulianDate.{JulianDate}
use Rattle.julian.specs.declared.CalendarFields.{CalendarFields}
use Rattle.julian.specs.Calendar.{julian_to_calendar}
use Rattle.utc.specs.iso_texts.TextCall.{TextCall}
use Rattle.julian.proofs.Dates.{date-in-range, read-fields}
use Rattle.reasons.specs.declared.Values.{Values}
use Rattle.reasons.specs.declared.Values.TheVariants.{Date, Parts, Block}
use Rattle.reasons.specs.Offending.{offending}
use Rattle.reasons.specs.sentences.Render.{render}
use Rattle.reasons.specs.Sentence.{sentence}
use Rattle.reasons.specs.Widths.{OfWidth}
use Rattle.reasons.proofs.SentenceLengths.{sentence-is}
use Rattle.stamps.specs.declared.Reporting.{Reporting}
use Rattle.stamps.specs.declared.Reporting.TheVariants.{Numbers, Sentences}
use Rattle.stamps.specs.Listing.{numeral, refused_word, line_room, reported, came, values_by, refused_values, block_values}
use Rattle.stamps.specs.Widths.{Wide, InWidth}

-- ---- the words, by the way of reporting
module _ (how : Reporting) (e : how ≡ Numbers) where
  pub numbers-room : line_room how ≡ 33
  unfolding line_room
  numbers-room = ap line_room e

  pub numbers-reported : (k : ℕ) (v : Values) → refused_word ++ numeral k ≡ reported how k v
  unfolding reported
  numbers-reported k v = sym (ap (λ (h : Reporting). reported h k v) e)

module _ (how : Reporting) (n : ℕ) (e : how ≡ Sentences n) where
  pub sentences_room : line_room how ≡ 64
  unfolding line_room
  sentences_room = ap line_room e

  pub sentences_reported : (k : ℕ) (v w : Values) → v ≡ w → render (record { number = k; named = offending k v }) ≡ reported how k w
  unfolding reported
  sentences_reported k v w q = ap (λ (x : Values). reported (Sentences n) k x) q ∙ sym (ap (λ (h : Reporting). reported h k w) e)

  pub block-values : (s : List ℕ) (size second : ℕ) → size ≡ u32_at s 0 → second ≡ u32_at s 4 → Block n size second ≡ block_values how s
  unfolding came
  block-values s size second p q = (λ i. Block n (p i) (q i)) ∙ ap (λ (h : Reporting). Block (came h s) (u32_at s 0) (u32_at s 4)) (sym e)

-- a refusal has its sentence
pub as_given : (k : Refusal) (n : ℕ) → n ≡ refusal_number k → (v : Values) {p ys : List ℕ} {res : Result ℕ Refusal} → TextCall (sentence n v) p res ys
    → TextCall (answer (render (record { number = refusal_number k; named = offending (refusal_number k) v }))) p res ys
as_given k n e v {p} {ys} {res} call =
    subst (λ (o : Outcome (List ℕ)). TextCall o p res ys)
    (ap (λ (n : ℕ). sentence n v) e ∙ sentence-is (refusal_number k) v (number_low k) (number_high k)) call

pub block-width : (n size second : ℕ) → n < 18446744073709551616 → size < 4294967296 → second < 4294967296 → OfWidth (Block n size second)
unfolding OfWidth
block-width n size second p q r = (p, q, r)

-- the sizes of a block of bytes have 32 bits
u32_fits : (s : List ℕ) (at : ℕ) → ((k : ℕ) → get_or s k 0 < 256) → u32_at s at < 4294967296
unfolding u32_at four_at
u32_fits s at bytes = by (leb (at + 4) (length s))
  where
    by : (b : Bool) → cond b (get_or s at 0 + 256 * get_or s (at + 1) 0 + 65536 * get_or s (at + 2) 0 + 16777216 * get_or s (at + 3) 0) 0 < 4294967296
    by true = omega (arith, bytes at, bytes (at + 1), bytes (at + 2), bytes (at + 3))
    by false = omega arith

pub bytes-width : (n : ℕ) (s : List ℕ) → n < 18446744073709551616 → ((k : ℕ) → get_or s k 0 < 256) → InWidth (Sentences n) s
unfolding Wide came
bytes-width n s h bytes = block-width n (u32_at s 0) (u32_at s 4) h (u32_fits s 0 bytes) (u32_fits s 4 bytes)

-- ---- the values that the refusal of a date read
year_fits : (y : ℤ) → lt_z y (negsuc 4899) ≡ false → lt_z (pos 2733194) y ≡ false → mag y < 2147483648
year_fits (pos n) l h = omega (arith, ltb-false 2733194 n h)
year_fits (negsuc n) l h = omega (arith, ltb-false 4899 n l)

module _ (jd : JulianDate) (res : Result CalendarFields Refusal) (e : outcome res ≡ julian_to_calendar jd.jd1 jd.jd2) where
  module _ (c : CalendarFields) (is : res ≡ Ok c) where
    given : julian_to_calendar jd.jd1 jd.jd2 ≡ answer c
    unfolding outcome
    given = sym e ∙ ap outcome is

    range : DateInRange c.date
    range = date-in-range jd.jd1 jd.jd2 c given

    pub month_fits : SFits w32 (pos c.date.month)
    month_fits = record { sfits = omega (arith, range.month-high) }

    pub day_fits : SFits w32 (pos c.date.day)
    day_fits = record { sfits = omega (arith, range.day-high) }

    pub date-values : Date (to_z w32 (of_z w32 c.date.year)) (to_z w32 c.date.month) (to_z w32 c.date.day) ≡ refused_values jd
    unfolding values_by
    date-values =
        read-fields Date c.date (record { sfits = year_fits c.date.year range.year_low range.year_high }) range.month-high range.day-high
        ∙ ap (values_by jd) (sym given)

  pub parts-values : (k : Refusal) → res ≡ Err k → Parts jd.jd1 jd.jd2 ≡ refused_values jd
  unfolding values_by outcome
  parts-values k is = ap (values_by jd) (sym (ap outcome is) ∙ e)
