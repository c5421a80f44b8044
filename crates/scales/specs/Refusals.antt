-- When a conversion refuses, and by which number: what it tests, in document 01's order, 9 before 10. Written from document 01, "Refusals by number". Assumes
-- nothing.
use Rattle.std.specs.Prelude.{◌≡◌, Bool, true, false, ◌&&◌}
use Rattle.refusals.specs.Outcome.{Outcome, answer, refusal}
use Rattle.julian.specs.declared.JulianDate.{JulianDate}
use Rattle.julian.specs.Finite.{finite_parts}
use Rattle.julian.specs.shifts.SmallerPart.{map_smaller_part}
use Rattle.scales.specs.Formulas.{tcg_to_tt}
use Rattle.scales.specs.Conversions.{Conversion, gps-tai, tai-gps, tai-tt, tt-tai, tcg-tt, tt_tcg, tcb-tdb, tdb-tcb, tai-tcg, tcg-tai, tai-ut1}
use Rattle.scales.specs.Conversions.{ut1-tai, ut1-tt, tt-ut1, tt-tdb, tdb-tt}

-- whether every part that the conversion tests is finite: the date's, and on the way from TCG to TAI those of the TT date in between
unfoldable pub tested_finite : Conversion → JulianDate → Bool
tested_finite gps-tai d = finite_parts d
tested_finite tai-gps d = finite_parts d
tested_finite tai-tt d = finite_parts d
tested_finite tt-tai d = finite_parts d
tested_finite tcg-tt d = finite_parts d
tested_finite tt_tcg d = finite_parts d
tested_finite tcb-tdb d = finite_parts d
tested_finite tdb-tcb d = finite_parts d
tested_finite tai-tcg d = finite_parts d
tested_finite tcg-tai d = finite_parts d && finite_parts (map_smaller_part tcg_to_tt d)
tested_finite (tai-ut1 seconds) d = finite_parts d
tested_finite (ut1-tai seconds) d = finite_parts d
tested_finite (ut1-tt seconds) d = finite_parts d
tested_finite (tt-ut1 seconds) d = finite_parts d
tested_finite (tt-tdb seconds) d = finite_parts d
tested_finite (tdb-tt seconds) d = finite_parts d

-- what a conversion answers, by whether the parts that it tests are finite and whether the offset is
abbrev pub DecidedFinite : Bool → Bool → Outcome JulianDate → Type 0
DecidedFinite true true o = (u : JulianDate) × (o ≡ answer u)
DecidedFinite true false o = o ≡ refusal 10
DecidedFinite false b o = o ≡ refusal 9
