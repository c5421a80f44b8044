-- How long what is told of a stamp is at most: a number with its sentence 60 bytes, since only 6 and 9 name a part, and a line 84, or 43 without sentences.
-- Assumes nothing.
use Rattle.std.proofs.Common.{◌≡◌, ℕ, ◌+◌, ◌<◌, ◌≤◌, Bool, true, false, cond, ◌&&◌, ltb, leb, [], ◌++◌, length, refl, arith, length-append, ltb-false, ltb-true}
use Rattle.std.proofs.Common.{ne_eqb}
use Rattle.refusals.specs.Outcome.{answer, refusal, onward}
use Rattle.numerals.specs.digits.Decimal.{digits_of}
use Rattle.numerals.proofs.digits.Decimal.{digits-few}
use Rattle.julian.specs.declared.JulianDate.{JulianDate}
use Rattle.reasons.specs.declared.Values.TheVariants.{Parts}
use Rattle.reasons.specs.declared.sentences.Reason.{Reason}
use Rattle.reasons.specs.Widths.{OfWidth}
use Rattle.reasons.specs.Offending.{offending, parts_field}
use Rattle.reasons.specs.sentences.Render.{render, named_text}
use Rattle.reasons.specs.sentences.Texts.{fixed_text}
use Rattle.reasons.specs.Sentence.{reason_of, sentence}
use Rattle.reasons.proofs.SentenceLengths.{reason_short}
use Rattle.reasons.proofs.sentences.FixedTexts.{text-short}
use Rattle.line_listing.specs.lines.StampLine.{as_sentence, sentence_behind, number_told}
use Rattle.line_listing.specs.lines.Parts.{longest_line}

pub room-low : (s : Bool) → 43 ≤ longest_line s
unfolding longest_line
room-low true = omega arith
room-low false = omega arith

-- ---- a sentence by the parts of a date
module _ (k : ℕ) (d : JulianDate) where
  abbrev reason : Reason
  reason = record { number = k; named = offending k (Parts d.jd1 d.jd2) }

  short : length (render reason) ≤ 57
  unfolding OfWidth
  short = reason_short k (Parts d.jd1 d.jd2) tt

  -- from 10 on no part is named
  shorter : 10 ≤ k → length (render reason) ≤ 50
  unfolding render offending parts_field named_text
  shorter h =
      let e = ne_eqb k 6 (λ (z : k ≡ 6). let w : ⊥ = omega arith in w) in
      let f = ne_eqb k 9 (λ (z : k ≡ 9). let w : ⊥ = omega arith in w) in
      let t = text-short k in
      rw (e, f) (omega (arith, length-append (fixed_text k) []))

  told : (b : Bool) → length (as_sentence (onward (cond b (answer reason) (refusal 18)) (λ r. answer (render r)))) ≤ 2 + length (render reason)
  unfolding as_sentence onward
  told true = omega arith
  told false = omega arith

  behind-most : length (sentence_behind true k d) ≤ 2 + length (render reason)
  unfolding sentence_behind sentence reason_of
  behind-most = told (leb 1 k && leb k 28)

  all_most : (s : Bool) → length (sentence_behind s k d) ≤ 2 + length (render reason)
  unfolding sentence_behind
  all_most true = behind-most
  all_most false = omega arith

  none-without : length (sentence_behind false k d) ≡ 0
  unfolding sentence_behind
  none-without = refl

-- ---- a number and its sentence
module _ (k : ℕ) (d : JulianDate) (byte : k < 256) where
  three : length (digits_of k) ≤ 3
  three = digits-few 2 k (omega arith)

  with_sentence : length (digits_of k ++ sentence_behind true k d) ≤ 60
  with_sentence = go (ltb k 10) refl
    where
      go : (b : Bool) → ltb k 10 ≡ b → length (digits_of k ++ sentence_behind true k d) ≤ 60
      go true e =
          let one : length (digits_of k) ≤ 1 = digits-few 0 k (omega (arith, ltb-true k 10 e)) in
          omega (arith, length-append (digits_of k) (sentence_behind true k d), behind-most k d, short k d, one)
      go false e =
          omega (arith, length-append (digits_of k) (sentence_behind true k d), behind-most k d, shorter k d (ltb-false k 10 e), three)

  pub number-most : (s : Bool) → length (number_told s k d) + 24 ≤ longest_line s
  unfolding number_told longest_line
  number-most true = omega (arith, with_sentence)
  number-most false = omega (arith, length-append (digits_of k) (sentence_behind false k d), none-without k d, three)

-- the digits and the sentence apart
pub told-apart : (s : Bool) (k : ℕ) (d : JulianDate) → length (number_told s k d) ≡ length (digits_of k) + length (sentence_behind s k d)
unfolding number_told
told-apart s k d = length-append (digits_of k) (sentence_behind s k d)
