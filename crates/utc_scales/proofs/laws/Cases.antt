-- Computed cases of document 01's order of refusals, by the table: UTC to UT1 10 before 6, UT1 to UTC 10 before 9. Assumes nothing.
use mathlib.Core.Path.{◌≡◌, refl}
use mathlib.Core.Bool.{true, false}
use lib.Ieee.{nan, inf}
use Rattle.refusals.specs.Outcome.{refusal, onward}
use Rattle.floats.specs.Whole.{nought}
use Rattle.julian.specs.JulianDate.{julian}
use Rattle.julian.specs.Finite.{finite_jd, finite_arg}
use Rattle.leap_table.specs.rows.Table.{fixed}
use Rattle.utc_scales.specs.UtcTai.{utc_to_tai, tai_to_utc}
use Rattle.utc_scales.specs.to_ut1.UtcUt1.{utc_to_ut1}
use Rattle.utc_scales.specs.from_ut1.Ut1Utc.{ut1_to_utc}
use Rattle.utc_scales.proofs.laws.NotFinite.{utc-to-tai-not-finite, tai-to-utc-not-finite, utc-to-ut1-no-offset}
use Rattle.utc_scales.proofs.laws.NotFinite.{utc-to-ut1-not-finite, ut1-to-utc-not-finite}

utc-nan : utc_to_tai fixed (julian nan nought) ≡ refusal 6
utc-nan = utc-to-tai-not-finite fixed (julian nan nought) refl

tai-infinite : tai_to_utc fixed (julian nought (inf true)) ≡ refusal 6
tai-infinite = tai-to-utc-not-finite fixed (julian nought (inf true)) refl

both_nan : utc_to_ut1 fixed (julian nan nought) nan ≡ refusal 10
both_nan = utc-to-ut1-no-offset fixed (julian nan nought) nan refl

utc-nan-to-ut1 : utc_to_ut1 fixed (julian nan nought) nought ≡ refusal 6
utc-nan-to-ut1 = utc-to-ut1-not-finite fixed (julian nan nought) nought refl refl

both_infinite : ut1_to_utc fixed (julian (inf false) nought) (inf false) ≡ refusal 10
unfolding ut1_to_utc finite_arg finite_jd onward
both_infinite = refl

ut1-infinite : ut1_to_utc fixed (julian (inf false) nought) nought ≡ refusal 9
ut1-infinite = ut1-to-utc-not-finite fixed (julian (inf false) nought) nought refl refl
