-- Which refusals a conversion gives. Written from document 01, "Refusals by number": 9 for a date that is not finite, 10 for an offset that is not. Assumes
-- nothing.
use Rattle.std.specs.Prelude.{◌≡◌, ℕ, true, false, ◌⊎◌}
use Rattle.std.specs.Float.Ieee.Scale.{finite}
use Rattle.refusals.specs.Outcome.{refusal}
use Rattle.julian.specs.declared.JulianDate.{JulianDate}
use Rattle.scales.specs.Conversions.{Conversion, offset_of, answer_of}
use Rattle.scales.specs.Refusals.{tested_finite}

-- read from the outcome: which numbers occur, and what each says
pub record Refusals (k : Conversion) (d : JulianDate) : Type 0 where
  pub nine : answer_of k d ≡ refusal 9 → tested_finite k d ≡ false
  pub ten : answer_of k d ≡ refusal 10 → (tested_finite k d ≡ true) × (finite (offset_of k) ≡ false)
  pub only : (n : ℕ) → answer_of k d ≡ refusal n → (n ≡ 9) ⊎ (n ≡ 10)
