-- THE DATES OF A RUN'S LINE in the summary: a TAI is told as the text of its UTC by the same rows, with expanded years, and as `no text` where it has no UTC
-- and where its UTC has no text. Assumes nothing.
use Rattle.std.proofs.Common.{◌≡◌, ℕ, List, refl, ap, ◌∙◌}
use Rattle.refusals.specs.Outcome.{Outcome, answer, refusal, onward}
use Rattle.julian.specs.declared.JulianDate.{JulianDate}
use Rattle.leap_table.specs.rows.Table.{Row}
use Rattle.utc_scales.specs.UtcTai.{tai_to_utc}
use Rattle.utc.specs.text.Ascii.{ascii_bytes}
use Rattle.utc.specs.iso_texts.Expanded.{iso_text_expanded}
use Rattle.line_listing.specs.summary.Summary.{text_or, date_told}

module _ (rows : List Row) (d : JulianDate) where
  pub date-told-as-text : (u : JulianDate) (t : List ℕ) → tai_to_utc rows d ≡ answer u → iso_text_expanded rows u ≡ answer t → date_told rows d ≡ t
  unfolding date_told text_or onward
  date-told-as-text u t e f = ap (λ (o : Outcome JulianDate). text_or (onward o (iso_text_expanded rows))) e ∙ ap text_or f

  pub date-told-without-utc : (k : ℕ) → tai_to_utc rows d ≡ refusal k → date_told rows d ≡ ascii_bytes "no text"
  unfolding date_told text_or onward
  date-told-without-utc k e = rw e refl

  pub date-told-without-text : (u : JulianDate) (k : ℕ) → tai_to_utc rows d ≡ answer u → iso_text_expanded rows u ≡ refusal k
      → date_told rows d ≡ ascii_bytes "no text"
  unfolding date_told text_or onward
  date-told-without-text u k e f = rw (e, f) refl
