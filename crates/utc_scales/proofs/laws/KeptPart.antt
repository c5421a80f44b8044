-- THE LARGER PART IS HANDED BACK: UTC to TAI, TAI to UTC and UT1 to UTC change only the smaller part, on equal sizes jd2. For any rows. Assumes nothing.
use mathlib.Core.Path.{◌≡◌, refl, ap, ◌∙◌, subst}
use mathlib.Core.Bool.{Bool, true, false, cond}
use mathlib.Core.List.{List}
use Prim.Native.Nat.{ℕ}
use native.Mathlib.Omega.{arith}
use lib.Ieee.{Float}
use Rattle.refusals.specs.Outcome.{Outcome, answer, refusal, onward}
use Rattle.julian.specs.declared.JulianDate.{JulianDate}
use Rattle.julian.specs.Finite.{finite_parts, finite_jd, finite_arg}
use Rattle.leap_table.specs.rows.Table.{Row}
use Rattle.utc_scales.specs.days.LargerPart.{first_is_kept, kept_as, kept_parts, put_beside, placed, change_smaller}
use Rattle.utc_scales.specs.UtcTai.{tai_fraction, utc_to_tai, refine_utc_fraction, tai_to_utc}
use Rattle.utc_scales.specs.from_ut1.Ut1Utc.{utc_fraction, ut1_to_utc}
use Rattle.utc_scales.specs.laws.Claims.{part_at, KeepsLarger}
use Rattle.refusals.proofs.Onward.{came}

placed-keeps : (d : JulianDate) (x : Float) → KeepsLarger d (put_beside (kept_parts d) x)
unfolding kept_parts put_beside
placed-keeps d x = go (first_is_kept d)
  where
    go : (b : Bool) → part_at b (put_beside (kept_as d b) x) ≡ part_at b d
    go true = refl
    go false = refl

changed-keeps : (f : Float → Float → Outcome Float) (d u : JulianDate) → change_smaller f d ≡ answer u → KeepsLarger d u
unfolding change_smaller placed
changed-keeps f d u e =
    let (x, p, q) = came (f (kept_parts d).larger (kept_parts d).smaller) (placed (kept_parts d)) u e in
    let s : put_beside (kept_parts d) x ≡ u = cc in
    subst (KeepsLarger d) s (placed-keeps d x)

pub utc-to-tai-keeps : (rows : List Row) (d u : JulianDate) → utc_to_tai rows d ≡ answer u → KeepsLarger d u
unfolding utc_to_tai
utc-to-tai-keeps rows d u e = changed-keeps (tai_fraction rows) d u e

pub tai-to-utc-keeps : (rows : List Row) (d u : JulianDate) → tai_to_utc rows d ≡ answer u → KeepsLarger d u
unfolding tai_to_utc
tai-to-utc-keeps rows d u e = changed-keeps (refine_utc_fraction rows) d u e

-- the date that is tested is the date
tested : (d e : JulianDate) → finite_jd d ≡ answer e → d ≡ e
unfolding finite_jd
tested d e h = go (finite_parts d) h
  where
    go : (b : Bool) → cond b (answer d) (refusal 9) ≡ answer e → d ≡ e
    go true k = cc
    go false k = let z : ◌≡◌ {A = ℕ} 0 1 = cc in absurd (omega arith)

pub ut1-to-utc-keeps : (rows : List Row) (d u : JulianDate) (dut1 : Float) → ut1_to_utc rows d dut1 ≡ answer u → KeepsLarger d u
unfolding ut1_to_utc
ut1-to-utc-keeps rows d u dut1 e =
    let (x, p, q) = came (finite_arg dut1) (λ _. onward (finite_jd d) (change_smaller (utc_fraction rows dut1))) u e in
    let (t, r, s) = came (finite_jd d) (change_smaller (utc_fraction rows dut1)) u q in
    changed-keeps (utc_fraction rows dut1) d u (ap (change_smaller (utc_fraction rows dut1)) (tested d t r) ∙ s)
