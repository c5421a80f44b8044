-- WHAT CANNOT BE CLAIMED, by a computed case: near a leap second UT1 to UTC takes a positive DUT1 for the one after it. At (2457751.5, 0.25), 2016-12-29 at 6h,
-- three days before 2017-01-01, a DUT1 of 0.5 s comes back 1 s later. So `NoLeapNear` is not to be dropped. Assumes nothing.
use mathlib.Core.Path.{◌≡◌, refl, ◌∙◌, subst}
use mathlib.Core.Bool.{false}
use Prim.Native.Nat.{ℕ, ◌+◌, ◌*◌, ◌^◌, ◌≤◌, ◌<◌}
use native.Mathlib.Omega.{arith}
use lib.Dec.{lit<}
use lib.Ieee.{binary64, round, of_bits}
use Rattle.refusals.specs.Outcome.{Outcome, answer}
use Rattle.floats.specs.Whole.{half}
use Rattle.constants.specs.Constants.{decimal}
use Rattle.rounding.specs.Value.{Val, L}
use Rattle.julian.specs.declared.JulianDate.{JulianDate}
use Rattle.julian.specs.JulianDate.{julian}
use Rattle.leap_table.specs.rows.Table.{fixed}
use Rattle.rounding.specs.Picoseconds.{day_ps}
use Rattle.scales.specs.laws.Meaning.{Apart}
use Rattle.scales.proofs.laws.Meant.{worth-unique}
use Rattle.utc_scales.specs.to_ut1.UtcUt1.{utc_to_ut1}
use Rattle.utc_scales.specs.from_ut1.Ut1Utc.{ut1_to_utc}
use Rattle.utc_scales.specs.laws.Twenty.{utc-ut1, ut1-utc, answer_of_any}
use Rattle.utc_scales.proofs.laws.Computed.{computed, as_computed}
use Rattle.utc_scales.specs.round_trip.UtcDays.{H}
use Rattle.utc_scales.proofs.round_trip.Units.{L-H, in_units}
use Rattle.utc_scales.proofs.round_trip.Parts.{parts-joined}
use Rattle.utc_scales.specs.ut1_laws.Back.{Ut1ThereAndBack}

-- a stamp of 2016-12-29
abbrev stamp : ℕ → JulianDate
stamp n = julian (decimal 24577515 1) (of_bits binary64 n)

to-ut1 : (d x : JulianDate) → computed fixed (utc-ut1 half) d ≡ answer x → utc_to_ut1 fixed d half ≡ answer x
unfolding answer_of_any
to-ut1 d x e = as_computed fixed (utc-ut1 half) d ∙ e

to-utc : (d x : JulianDate) → computed fixed (ut1-utc half) d ≡ answer x → ut1_to_utc fixed d half ≡ answer x
unfolding answer_of_any
to-utc d x e = as_computed fixed (ut1-utc half) d ∙ e

same : {o : Outcome JulianDate} {x y : JulianDate} → o ≡ answer x → o ≡ answer y → x ≡ y
same p q = cc

-- 0.25 + 0.5 / 86400, and 0.25 + 1 / 86400
there : ut1_to_utc fixed (stamp 0x3fd0_0000_0000_0000) half ≡ answer (stamp 0x3fd0_0018_45c8_a0ce)
unfolding computed round of_bits
there = to-utc (stamp 0x3fd0_0000_0000_0000) (stamp 0x3fd0_0018_45c8_a0ce) refl

again : utc_to_ut1 fixed (stamp 0x3fd0_0018_45c8_a0ce) half ≡ answer (stamp 0x3fd0_0030_8b91_419c)
unfolding computed round of_bits
again = to-ut1 (stamp 0x3fd0_0018_45c8_a0ce) (stamp 0x3fd0_0030_8b91_419c) refl

-- 2 ^ -54 day
unfoldable q : ℕ
q = 2 ^ 1020

L-q : L ≡ 18014398509481984 * q
unfolding L q
L-q = refl

q-pos : 0 < q
unfolding q
q-pos = lit< tt

midnight-val : Val (decimal 24577515 1) (4915503 * H) 0 L
unfolding round
midnight-val = in_units 4915503 2 H L-H (record { sign = false; size = 4915503; has = (refl, refl); is = refl })

given-val : Val (of_bits binary64 0x3fd0_0000_0000_0000) (4503599627370496 * q) 0 L
unfolding of_bits
given-val = in_units 4503599627370496 (2 ^ 54) q L-q (record { sign = false; size = 4503599627370496; has = (refl, refl); is = refl })

again_val : Val (of_bits binary64 0x3fd0_0030_8b91_419c) (4503808127353244 * q) 0 L
unfolding of_bits
again_val = in_units 4503808127353244 (2 ^ 54) q L-q (record { sign = false; size = 4503808127353244; has = (refl, refl); is = refl })

pub one-second-off : Ut1ThereAndBack fixed 999999999990 (stamp 0x3fd0_0000_0000_0000) half → ⊥
one-second-off r =
    let e : r.u ≡ stamp 0x3fd0_0018_45c8_a0ce = same r.there there in
    let f : r.t ≡ stamp 0x3fd0_0030_8b91_419c = same (subst (λ (u : JulianDate). utc_to_ut1 fixed u half ≡ answer r.t) e r.back) again in
    let c : Apart 999999999990 (stamp 0x3fd0_0000_0000_0000) (stamp 0x3fd0_0030_8b91_419c) =
    subst (λ (t : JulianDate). Apart 999999999990 (stamp 0x3fd0_0000_0000_0000) t) f r.apart in
    go c.p c.n c.p' c.n' (4915503 * H) (worth-unique c.from (parts-joined midnight-val given-val))
    (worth-unique c.to (parts-joined midnight-val again_val)) c.over
  where
    go : (p n p' n' A : ℕ) → p + 0 ≡ A + 4503599627370496 * q + n → p' + 0 ≡ A + 4503808127353244 * q + n'
        → day_ps * (1 * p' + 1 * n + 0) ≤ day_ps * (1 * n' + 1 * p + 0) + 999999999990 * (1 * L) → ⊥
    go p n p' n' A e f k = omega (arith, L-q, q-pos)
