-- WHAT IS TOLD OF AN ORDERED STAMP: the text of its UTC as it is; without a UTC `no text`, the number by which TAI to UTC is refused, and its sentence by the
-- TAI; with a UTC that has no text `no text`, the number by which the text is refused, and its sentence by the UTC. Assumes nothing.
use Rattle.std.proofs.Common.{◌≡◌, ℕ, Bool, List, refl}
use Rattle.refusals.specs.Outcome.{answer, refusal}
use Rattle.julian.specs.declared.JulianDate.{JulianDate}
use Rattle.leap_table.specs.rows.Table.{Row}
use Rattle.utc_scales.specs.UtcTai.{tai_to_utc}
use Rattle.utc.specs.iso_texts.Expanded.{iso_text_expanded}
use Rattle.line_listing.specs.lines.StampLine.{no_text, text_told, utc_told, stamp_told}

module _ (s : Bool) (rows : List Row) (d : JulianDate) where
  pub text-told-as-it-is : (u : JulianDate) (t : List ℕ) → tai_to_utc rows d ≡ answer u → iso_text_expanded rows u ≡ answer t → stamp_told s rows d 0 ≡ t
  unfolding stamp_told utc_told text_told
  text-told-as-it-is u t e f = rw (e, f) refl

  pub no_utc_told_by_tai : (k : ℕ) → tai_to_utc rows d ≡ refusal k → stamp_told s rows d 0 ≡ no_text s k d
  unfolding stamp_told utc_told
  no_utc_told_by_tai k e = rw e refl

  pub no_text_told_by_utc : (u : JulianDate) (k : ℕ) → tai_to_utc rows d ≡ answer u → iso_text_expanded rows u ≡ refusal k → stamp_told s rows d 0
      ≡ no_text s k u
  unfolding stamp_told utc_told text_told
  no_text_told_by_utc u k e f = rw (e, f) refl
