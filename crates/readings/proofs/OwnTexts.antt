-- A text of the text call with expanded years, and so of the listing, is answered by itself: where the shown year is 1972 to 9999, and for every table that is
-- taken. Assumes nothing.
use mathlib.Core.Path.{◌≡◌, ap, ◌∙◌}
use mathlib.Core.List.{List, [], ◌∷◌, ◌++◌}
use Prim.Native.Nat.{ℕ}
use lib.Dec.{T}
use lib.Ieee.{binary64, fits}
use Rattle.refusals.specs.Outcome.{Outcome, answer, onward}
use Rattle.numerals.specs.digits.Decimal.{digits_of}
use Rattle.julian.specs.declared.JulianDate.{JulianDate}
use Rattle.leap_table.specs.declared.rows.AnnouncedRows.{AnnouncedRows}
use Rattle.leap_table.specs.rows.Table.{Row}
use Rattle.leap_table.specs.rows.Announced.{table_of}
use Rattle.utc.specs.iso_texts.Expanded.{iso_text_expanded}
use Rattle.parsing.specs.declared.ParsedUtc.{ParsedUtc}
use Rattle.parsing_laws.specs.Shown.{YearShown, ReadsBack, fields_shown, with_date}
use Rattle.parsing_laws.proofs.EveryText.{expanded-text-reads-back, from-str-answers}
use Rattle.parsing_laws.proofs.TextAgain.{expanded-text-again}
use Rattle.readings.specs.Reading.{reading, reading_words, reading_line}

module _ (t : AnnouncedRows) (rows : List Row) (taken : table_of t ≡ answer rows) (jd : JulianDate) (f1 : T (fits binary64 jd.jd1))
    (f2 : T (fits binary64 jd.jd2)) (s : List ℕ)
    (shown : YearShown s) (written : iso_text_expanded rows jd ≡ answer s) where
  back : ReadsBack rows s
  back = expanded-text-reads-back t rows taken jd f1 f2 s shown written

  own-text : reading rows s ≡ answer s
  unfolding reading onward
  own-text =
      ap (λ (o : Outcome ParsedUtc). onward o (λ r. iso_text_expanded rows r.date.0)) back.read
      ∙ expanded-text-again t rows taken jd f1 f2 s shown (with_date (fields_shown s) back.date) (from-str-answers t rows taken s back) written

  pub own_line : (index : ℕ) → reading_line rows s index ≡ ((digits_of index ++ (32 ∷ [])) ++ s) ++ (10 ∷ [])
  unfolding reading_line reading_words
  own_line index = ap (λ (o : Outcome (List ℕ)). ((digits_of index ++ (32 ∷ [])) ++ reading_words o) ++ (10 ∷ [])) own-text
