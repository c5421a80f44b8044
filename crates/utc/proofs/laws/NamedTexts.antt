-- A text of any of the three forms has at most 27 bytes. Assumes nothing.
use Prim.Native.Nat.{ℕ, ◌≤◌}
use native.Mathlib.Omega.{arith}
use mathlib.Core.Path.{◌≡◌}
use mathlib.Core.Logic.{◌⊎◌, inl, inr}
use mathlib.Core.List.{List}
use lib.ListN.{length}
use Rattle.refusals.specs.Outcome.{answer}
use Rattle.julian.specs.declared.JulianDate.{JulianDate}
use Rattle.leap_table.specs.rows.Table.{Row}
use Rattle.utc.specs.declared.iso_texts.NamedForm.{NamedForm}
use Rattle.utc.specs.declared.iso_texts.NamedForm.TheVariants.{Standard, HalfEven, Expanded}
use Rattle.utc.specs.iso_texts.IsoText.{iso_text_by}
use Rattle.utc.specs.iso_texts.Named.{form_named}
use Rattle.utc.proofs.laws.Lengths.{text-length}
use Rattle.utc.proofs.laws.HalfEvenTexts.{even-text-length}
use Rattle.utc.proofs.laws.ExpandedTexts.{expanded-text-length}

pub named-text-few : (textForm : NamedForm) (rows : List Row) (jd : JulianDate) (t : List ℕ) → iso_text_by (form_named textForm) rows jd ≡ answer t
    → length t ≤ 27
unfolding form_named
named-text-few Standard rows jd t e = omega (arith, (text-length rows jd t e).1)
named-text-few HalfEven rows jd t e = omega (arith, (even-text-length rows jd t e).1)
named-text-few Expanded rows jd t e = by (expanded-text-length rows jd t e)
  where
    by : (length t ≡ 23) ⊎ (length t ≡ 27) → length t ≤ 27
    by (inl h) = omega arith
    by (inr h) = omega arith
