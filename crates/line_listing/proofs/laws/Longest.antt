-- THE LONGEST LINE: no line of a stamp has more bytes than it is given room for. Assumes nothing.
use Rattle.std.proofs.Common.{◌≡◌, ℕ, ◌+◌, ◌-◌, ◌<◌, ◌≤◌, Bool, true, false, cond, eqb, ltb, List, [], ◌∷◌, ◌++◌, length, refl, inl, inr, arith, length-append}
use Rattle.refusals.specs.Outcome.{Outcome, answer, refusal}
use Rattle.numerals.specs.digits.Decimal.{digits_of}
use Rattle.numerals.proofs.digits.Decimal.{digits-few}
use Rattle.julian.specs.declared.JulianDate.{JulianDate}
use Rattle.leap_table.specs.rows.Table.{Row}
use Rattle.scales.specs.laws.Ranges.{Held}
use Rattle.utc.specs.text.Ascii.{ascii_bytes}
use Rattle.utc.specs.iso_texts.Expanded.{iso_text_expanded}
use Rattle.utc_scales.specs.UtcTai.{tai_to_utc}
use Rattle.utc_scales.specs.laws.Claims.{Holds, refuses, Any, SixOrOne}
use Rattle.utc_scales.proofs.laws.Refusals.{tai-to-utc-refuses}
use Rattle.stamps.proofs.Texts.{brief, date-number}
use Rattle.runs.proofs.laws.Refusing.{stamp-held}
use Rattle.line_listing.specs.lines.StampLine.{Stamps, date_of_place, number_of_place, recorder, index_in, number_told, no_text, refused, text_told, utc_told}
use Rattle.line_listing.specs.lines.StampLine.{stamp_told, line_by, place_line}
use Rattle.line_listing.specs.lines.Parts.{longest_line}
use Rattle.line_listing.proofs.lines.Lengths.{room-low, number-most}

four_bytes : (first second p : ℕ) → length (recorder first second p) ≡ 4
unfolding recorder
four_bytes first second p = go (ltb p first) (ltb (p - first) second)
  where
    go : (a b : Bool) → length (cond a (ascii_bytes "gps ") (cond b (ascii_bytes "tai ") (ascii_bytes "utc "))) ≡ 4
    go true b = refl
    go false true = refl
    go false false = refl

index_low : (first second p : ℕ) → index_in first second p ≤ p
unfolding index_in
index_low first second p = go (ltb p first) (ltb (p - first) second)
  where
    go : (a b : Bool) → cond a p (cond b (p - first) (p - first - second)) ≤ p
    go true b = omega arith
    go false true = omega arith
    go false false = omega arith

module _ (s : Bool) (rows : List Row) where
  none-most : (k : ℕ) (d : JulianDate) → k < 256 → length (no_text s k d) + 16 ≤ longest_line s
  unfolding no_text
  none-most k d h = omega (arith, length-append (ascii_bytes "no text ") (number_told s k d), number-most k d h s)

  refused-most : (k : ℕ) (d : JulianDate) → k < 256 → length (refused s k d) + 16 ≤ longest_line s
  unfolding refused
  refused-most k d h = omega (arith, length-append (ascii_bytes "refused ") (number_told s k d), number-most k d h s)

  text-most : (u : JulianDate) (o : Outcome (List ℕ)) → iso_text_expanded rows u ≡ o → length (text_told s u o) + 16 ≤ longest_line s
  unfolding text_told
  text-most u (answer t) e = omega (arith, brief rows u t e, room-low s)
  text-most u (refusal k) e = none-most k u (omega (arith, (date-number rows u k e).1))

  utc-most : (d : JulianDate) (o : Outcome JulianDate) → Holds Any SixOrOne o → length (utc_told s rows d o) + 16 ≤ longest_line s
  unfolding utc_told
  utc-most d (answer u) h = text-most u (iso_text_expanded rows u) refl
  utc-most d (refusal k) (refuses (inl e)) = none-most k d (omega (arith, e))
  utc-most d (refusal k) (refuses (inr e)) = none-most k d (omega (arith, e))

  told-most : (d : JulianDate) (k : ℕ) → Held d → k < 256 → length (stamp_told s rows d k) + 16 ≤ longest_line s
  unfolding stamp_told
  told-most d k g h = go (eqb k 0)
    where
      go : (b : Bool) → length (cond b (utc_told s rows d (tai_to_utc rows d)) (refused s k d)) + 16 ≤ longest_line s
      go true = utc-most d (tai_to_utc rows d) (tai-to-utc-refuses rows d g)
      go false = refused-most k d h

  -- NO LINE IS LONGER: 43 bytes, or 84 with sentences, of all stamps whose number is a byte, at places of four bytes
  pub line-most : (all : Stamps) (p : ℕ) → p < 4294967296 → number_of_place all p < 256 → length (place_line s rows all p) ≤ longest_line s
  unfolding place_line line_by
  line-most all p h k =
      let r = recorder all.first all.second p in
      let i = digits_of (index_in all.first all.second p) in
      let t = stamp_told s rows (date_of_place all p) (number_of_place all p) in
      let ten = digits-few 9 (index_in all.first all.second p) (omega (arith, index_low all.first all.second p)) in
      omega (
        arith,
        four_bytes all.first all.second p,
        ten,
        told-most (date_of_place all p) (number_of_place all p) (stamp-held all.jd1s all.jd2s p) k,
        length-append (((r ++ i) ++ (32 ∷ [])) ++ t) (10 ∷ []),
        length-append ((r ++ i) ++ (32 ∷ [])) t,
        length-append (r ++ i) (32 ∷ []),
        length-append r i,
      )
