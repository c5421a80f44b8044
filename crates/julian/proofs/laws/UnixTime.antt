-- What the Julian date of a Unix time is worth: its first part is exactly the midnight of the day, its second part within 17 picoseconds of the time of the
-- day, and the day and that time are the seconds given.
-- Assumes nothing.
use mathlib.Core.Path.{◌≡◌, refl, sym, ap, ◌∙◌, subst₂}
use Prim.Native.Nat.{ℕ, zero, suc, ◌+◌, ◌*◌, ◌/◌, ◌%◌, ◌^◌, ◌≤◌}
use native.Mathlib.Omega.{arith}
use native.Mathlib.Nat.{div-add-mod', le_trans, le_of_eq, mul-le-mul_right, add-mul, mul_assoc, mul-one}
use mathlib.Core.Bool.{false}
use lib.Dec.{lit≤, lit<}
use lib.IntN.{ℤ, pos, negsuc, neg_ℤ}
use lib.Ieee.{Float, binary64, round, div}
use mir.Syntax.{w32, w64}
use mir.Val.{Fits, SFits}
use Rattle.rounding.specs.Value.{Val, L}
use Rattle.rounding.proofs.Value.{val-scale, val-move}
use Rattle.rounding.proofs.Exact.{add_exact}
use Rattle.rounding.proofs.Casts.{plus_z, minus_z, of_int_val}
use Rattle.rounding.proofs.Sizes.{whole_val}
use Rattle.rounding.proofs.About.{U, L-U, About, about_scale, about_add, about_div, about_within}
use Rattle.rounding.specs.Picoseconds.{Within}
use Rattle.constants.specs.Constants.{seconds_per_day, nanoseconds_per_second, unix_epoch_jd}
use Rattle.julian.specs.UnixTime.{days_toward_zero, seconds_left, second_of_day, from_unix_time}
use Rattle.julian.proofs.Seconds.{days-size, left-size}
use Rattle.julian.proofs.Integers.{sides_mag, integer_val}

-- ---- the day

epoch_val : Val unix_epoch_jd 4881175 0 2
unfolding unix_epoch_jd round
epoch_val = record { sign = false; size = 4881175; has = (refl, refl); is = refl }

-- THE DAY: jd1 is exactly 2440587.5 and the whole days toward zero
pub unix-day : (seconds : ℤ) (nanos : ℕ) → SFits w64 seconds
    → Val (from_unix_time seconds nanos).jd1 (4881175 + plus_z (days_toward_zero seconds) * 2) (minus_z (days_toward_zero seconds) * 2) 2
unfolding from_unix_time
unix-day seconds nanos f =
    let z = days_toward_zero seconds in
    let s = sides_mag z (2 ^ 47) (days-size seconds f) in
    val-move (add_exact 1 (lit≤ tt) (omega (arith, s.0)) (omega (arith, s.1)) epoch_val (val-scale 2 (integer_val z (omega (arith, days-size seconds f)))))
    (omega arith)

-- ---- the days and the seconds left

minus-side : (k : ℕ) → (plus_z (neg_ℤ (pos k)) ≡ 0) × (minus_z (neg_ℤ (pos k)) ≡ k)
minus-side zero = (refl, refl)
minus-side (suc k) = (refl, refl)

-- THE SECONDS: 86,400 times the days, and the seconds left, are the seconds given, exactly
pub unix_seconds : (seconds : ℤ)
    → plus_z (days_toward_zero seconds) * 86400 + plus_z (seconds_left seconds) + minus_z seconds ≡ minus_z (days_toward_zero seconds) * 86400 + minus_z
    (seconds_left seconds) + plus_z seconds
unix_seconds (pos s) = omega (arith, div-add-mod' s 86400)
unix_seconds (negsuc s) = omega (
  arith,
  div-add-mod' (suc s) 86400,
  (minus-side (suc s / 86400)).0,
  (minus-side (suc s / 86400)).1,
  (minus-side (suc s % 86400)).0,
  (minus-side (suc s % 86400)).1,
)

-- ---- the time of the day

whole-size : (P N K : ℕ) → P ≤ N + K → P * L ≤ N * L + K * 2 ^ 90 * (U * 1)
whole-size P N K h =
    le_trans (mul-le-mul_right L h)
    (le_of_eq (add-mul N K L ∙ ap (λ (z : ℕ). N * L + z)
    (ap (λ (z : ℕ). K * z) (L-U ∙ ap (λ (z : ℕ). 2 ^ 90 * z) (sym (mul-one U))) ∙ sym (mul_assoc K (2 ^ 90) (U * 1)))))

whole-about : (K : ℕ) {x : Float} {P N : ℕ} → Val x P N 1 → P ≤ N + K → N ≤ P + K → About x P N 1 (K * 2 ^ 90) 0
whole-about K {x} {P} {N} v h k =
    record { p = P * L; n = N * L; val = whole_val v; over = same P N; under = same N P; high = whole-size P N K h; low = whole-size N P K k; some = lit< tt }
  where
    same : (P N : ℕ) → P * L * 1 + N * L ≤ N * L * 1 + P * L + 0 * (U * 1)
    same P N = simp mul-one (omega arith)

pub day-val : Val seconds_per_day 86400 0 1
unfolding seconds_per_day round
day-val = record { sign = false; size = 86400; has = (refl, refl); is = refl }

second-val : Val nanoseconds_per_second 1000000000 0 1
unfolding nanoseconds_per_second round
second-val = record { sign = false; size = 1000000000; has = (refl, refl); is = refl }

-- THE TIME: jd2 is within 17 picoseconds of the seconds left and the nanoseconds, in days
pub unix_time : (seconds : ℤ) (nanos : ℕ) → Fits w32 nanos
    → Within 17 (from_unix_time seconds nanos).jd2 (plus_z (seconds_left seconds) * 10 ^ 9 + nanos) (minus_z (seconds_left seconds) * 10 ^ 9) (10 ^ 9 * 86400)
unfolding from_unix_time second_of_day
unix_time seconds nanos f =
    let z = seconds_left seconds in
    let s = sides_mag z 86400 (left-size seconds) in
    let r = about_scale (10 ^ 9) (lit< tt) (whole-about 86400 (integer_val z (omega (arith, left-size seconds))) (omega (arith, s.0)) (omega (arith, s.1))) in
    let n = about_div 39 (10 ^ 9) 5316911983139663491615228242 (2 ^ 39) (lit≤ tt) (lit< tt) (lit≤ tt) (lit< tt) (lit≤ tt) second-val
    (whole-about (2 ^ 32) (of_int_val (pos nanos) (omega (arith, f.fits)) (omega arith)) (omega (arith, f.fits)) (omega arith)) in
    let a = about_add 53 (lit≤ tt) (lit< tt) r n in
    let b = about_div 37 86400 1238001577618518465448795697 241695307761 (lit≤ tt) (lit< tt) (lit≤ tt) (lit< tt) (lit≤ tt) day-val a in
    subst₂ (λ (P N : ℕ). Within 17 (div binary64 (second_of_day seconds nanos) seconds_per_day) P N (10 ^ 9 * 86400)) (up (plus_z z) nanos) (down (minus_z z))
    (about_within 17 (lit≤ tt) b)
  where
    up : (p n : ℕ) → (p * 10 ^ 9 + n * 1) * 1 ≡ p * 10 ^ 9 + n
    up p n = omega arith

    down : (p : ℕ) → (p * 10 ^ 9 + 0 * 1) * 1 ≡ p * 10 ^ 9
    down p = omega arith
