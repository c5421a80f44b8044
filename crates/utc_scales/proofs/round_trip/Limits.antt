-- WHAT CANNOT BE CLAIMED, by computed cases: TAI to UTC and back misses by 29.976 ps at one date, so that no bound of 29 ps holds; after two rounds it would
-- miss by 4.97 ns; and TAI to UTC does not keep the order of TAI stamps one unit in the last place apart. Assumes nothing.
use mathlib.Core.Path.{◌≡◌, refl, ap, ◌∙◌, subst}
use mathlib.Core.Bool.{false}
use Prim.Native.Nat.{ℕ, ◌+◌, ◌*◌, ◌^◌, ◌≤◌, ◌<◌}
use native.Mathlib.Omega.{arith}
use lib.Dec.{T, lit<}
use lib.Ieee.{Float, binary64, round, of_bits, add, sub, neg, lt}
use Rattle.refusals.specs.Outcome.{Outcome, answer}
use Rattle.refusals.proofs.Onward.{went}
use Rattle.floats.specs.Whole.{nought}
use Rattle.constants.specs.Constants.{decimal}
use Rattle.rounding.specs.Value.{Val, L}
use Rattle.julian.proofs.day_number.Units.{nought-L}
use Rattle.julian.specs.declared.JulianDate.{JulianDate}
use Rattle.julian.specs.JulianDate.{julian}
use Rattle.leap_table.specs.rows.Table.{fixed}
use Rattle.rounding.specs.Picoseconds.{day_ps}
use Rattle.scales.specs.laws.Meaning.{Apart}
use Rattle.scales.proofs.laws.Meant.{worth-unique}
use Rattle.utc_scales.specs.UtcTai.{utc_to_tai, moved, refined, rounds, tai_to_utc}
use Rattle.utc_scales.specs.laws.Twenty.{utc_tai, tai_utc, answer_of_any}
use Rattle.utc_scales.proofs.laws.Computed.{computed, as_computed}
use Rattle.utc_scales.specs.round_trip.UtcDays.{H}
use Rattle.utc_scales.specs.round_trip.RoundTrip.{ThereAndBack}
use Rattle.utc_scales.proofs.round_trip.Units.{L-H, in_units}
use Rattle.utc_scales.proofs.round_trip.Parts.{parts-joined}

abbrev bits : ℕ → Float
bits n = of_bits binary64 n

to-tai : (d x : JulianDate) → computed fixed utc_tai d ≡ answer x → utc_to_tai fixed d ≡ answer x
unfolding answer_of_any
to-tai d x e = as_computed fixed utc_tai d ∙ e

to-utc : (d x : JulianDate) → computed fixed tai_utc d ≡ answer x → tai_to_utc fixed d ≡ answer x
unfolding answer_of_any
to-utc d x e = as_computed fixed tai_utc d ∙ e

same : {o : Outcome JulianDate} {x y : JulianDate} → o ≡ answer x → o ≡ answer y → x ≡ y
same p q = cc

-- ---- 0h of 1985-07-01, after a leap second: (2446247.5, 0.0002662037037036852)
abbrev after-leap : ℕ → JulianDate
after-leap n = julian (decimal 24462475 1) (bits n)

abbrev worst : JulianDate
worst = after-leap 0x3f31_7228_3394_4900

worst_there : tai_to_utc fixed worst ≡ answer (after-leap 0xbc90_0800_0000_0000)
unfolding computed round of_bits
worst_there = to-utc worst (after-leap 0xbc90_0800_0000_0000) refl

worst_back : utc_to_tai fixed (after-leap 0xbc90_0800_0000_0000) ≡ answer (after-leap 0x3f31_7228_3394_3000)
unfolding computed round of_bits
worst_back = to-tai (after-leap 0xbc90_0800_0000_0000) (after-leap 0x3f31_7228_3394_3000) refl

-- 2 ^ -56 day
unfoldable q : ℕ
q = 2 ^ 1018

L-q : L ≡ 72057594037927936 * q
unfolding L q
L-q = refl

q-pos : 0 < q
unfolding q
q-pos = lit< tt

midnight-val : Val (decimal 24462475 1) (4892495 * H) 0 L
unfolding round
midnight-val = in_units 4892495 2 H L-H (record { sign = false; size = 4892495; has = (refl, refl); is = refl })

given-val : Val (bits 0x3f31_7228_3394_4900) (19181998412873 * q) 0 L
unfolding of_bits
given-val = in_units 19181998412873 (2 ^ 56) q L-q (record { sign = false; size = 19181998412873; has = (refl, refl); is = refl })

back-val : Val (bits 0x3f31_7228_3394_3000) (19181998412848 * q) 0 L
unfolding of_bits
back-val = in_units 19181998412848 (2 ^ 56) q L-q (record { sign = false; size = 19181998412848; has = (refl, refl); is = refl })

pub no_29_ps : ThereAndBack fixed 29 worst → ⊥
no_29_ps r =
    let e : r.u ≡ after-leap 0xbc90_0800_0000_0000 = same r.there worst_there in
    let f : r.t ≡ after-leap 0x3f31_7228_3394_3000 = same (subst (λ (u : JulianDate). utc_to_tai fixed u ≡ answer r.t) e r.back) worst_back in
    let c : Apart 29 worst (after-leap 0x3f31_7228_3394_3000) = subst (λ (t : JulianDate). Apart 29 worst t) f r.apart in
    go c.p c.n c.p' c.n' (4892495 * H) (worth-unique c.from (parts-joined midnight-val given-val))
    (worth-unique c.to (parts-joined midnight-val back-val)) c.under
  where
    go : (p n p' n' A : ℕ) → p + 0 ≡ A + 19181998412873 * q + n → p' + 0 ≡ A + 19181998412848 * q + n'
        → day_ps * (1 * n' + 1 * p + 0) ≤ day_ps * (1 * p' + 1 * n + 0) + 29 * (1 * L) → ⊥
    go p n p' n' A e f k = omega (arith, L-q, q-pos)

-- ---- 0h TAI of 2017-01-01, 37 s before the end of a leap second: after two rounds the guess is 4.97 ns off
abbrev new_year : Float → JulianDate
new_year x = julian (decimal 24577545 1) x

-- the guesses after one round and after two
abbrev guess1 : Float
guess1 = bits 0xbf3c_10af_f9ee_8dd8

abbrev guess2 : Float
guess2 = bits 0xbf3c_109a_b036_95d8

first-tai : utc_to_tai fixed (new_year nought) ≡ answer (new_year (bits 0x3f3c_10af_f9ee_8dd8))
unfolding computed round of_bits
first-tai = to-tai (new_year nought) (new_year (bits 0x3f3c_10af_f9ee_8dd8)) refl

second-tai : utc_to_tai fixed (new_year guess1) ≡ answer (new_year (bits 0xbe35_49b7_f800_0000))
unfolding computed round of_bits
second-tai = to-tai (new_year guess1) (new_year (bits 0xbe35_49b7_f800_0000)) refl

first-moved : moved (decimal 24577545 1) nought nought (new_year (bits 0x3f3c_10af_f9ee_8dd8)) ≡ guess1
unfolding moved round of_bits add sub neg
first-moved = refl

second-moved : moved (decimal 24577545 1) nought guess1 (new_year (bits 0xbe35_49b7_f800_0000)) ≡ guess2
unfolding moved round of_bits add sub neg
second-moved = refl

-- 259 * 2 ^ -52 day
abbrev third-tai : Float
third-tai = bits 0x3d30_3000_0000_0000

pub two-rounds : rounds fixed (decimal 24577545 1) nought 2 nought ≡ answer guess2
unfolding rounds refined
two-rounds = went (rounds fixed (decimal 24577545 1) nought 1) (went _ first-tai ∙ ap answer first-moved)
    ∙ went (rounds fixed (decimal 24577545 1) nought 0) (went _ second-tai ∙ ap answer second-moved)

pub two-rounds-back : utc_to_tai fixed (new_year guess2) ≡ answer (new_year third-tai)
unfolding computed round of_bits
two-rounds-back = to-tai (new_year guess2) (new_year third-tai) refl

new_year_val : Val (decimal 24577545 1) (4915509 * H) 0 L
unfolding round
new_year_val = in_units 4915509 2 H L-H (record { sign = false; size = 4915509; has = (refl, refl); is = refl })

third-val : Val third-tai (4144 * q) 0 L
unfolding of_bits
third-val = in_units 4144 (2 ^ 56) q L-q (record { sign = false; size = 4144; has = (refl, refl); is = refl })

pub two-rounds-miss : Apart 4960 (new_year nought) (new_year third-tai) → ⊥
two-rounds-miss c = go c.p c.n c.p' c.n' (4915509 * H) (worth-unique c.from (parts-joined new_year_val nought-L))
    (worth-unique c.to (parts-joined new_year_val third-val)) c.over
  where
    go : (p n p' n' A : ℕ) → p + 0 ≡ A + 0 + n → p' + 0 ≡ A + 4144 * q + n' → day_ps * (1 * p' + 1 * n + 0) ≤ day_ps * (1 * n' + 1 * p + 0) + 4960 * (1 * L) → ⊥
    go p n p' n' A e f k = omega (arith, L-q, q-pos)

-- ---- 1976-01-01, whose 0h UTC is after a leap second: two TAI stamps in order, one unit in the last place apart, and their UTC stamps in the other order
abbrev early : ℕ → JulianDate
early n = julian (decimal 24427790 1) (bits n)

abbrev turned_round : ℕ → ℕ → ℕ → ℕ → Type 0
turned_round b b' u u' = T (lt (bits b) (bits b')) × (tai_to_utc fixed (early b) ≡ answer (early u)) × (tai_to_utc fixed (early b') ≡ answer (early u'))
    × T (lt (bits u') (bits u))

earlier : tai_to_utc fixed (early 0xbfdf_fd27_d27d_27d6) ≡ answer (early 0xbfe0_0000_0000_0000)
unfolding computed round of_bits
earlier = to-utc (early 0xbfdf_fd27_d27d_27d6) (early 0xbfe0_0000_0000_0000) refl

later : tai_to_utc fixed (early 0xbfdf_fd27_d27d_27d5) ≡ answer (early 0xbfe0_0000_0000_0002)
unfolding computed round of_bits
later = to-utc (early 0xbfdf_fd27_d27d_27d5) (early 0xbfe0_0000_0000_0002) refl

pub out_of_order : turned_round 0xbfdf_fd27_d27d_27d6 0xbfdf_fd27_d27d_27d5 0xbfe0_0000_0000_0000 0xbfe0_0000_0000_0002
unfolding lt of_bits
out_of_order = (tt, earlier, later, tt)
