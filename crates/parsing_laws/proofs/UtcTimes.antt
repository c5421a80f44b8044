-- The second of a text that we write is below the end of its minute, as a float too: so `utc_from_calendar` accepts what the text of a day from 1972 on shows.
-- Assumes nothing.
use Prim.Native.Nat.{ℕ, suc, ◌+◌, ◌*◌, ◌^◌, ◌≤◌, ◌<◌}
use native.Mathlib.Omega.{arith}
use native.Mathlib.Numerals.{add-one}
use native.Mathlib.Nat.{le_of_lt, add-zero, one-mul, mul_assoc, add-mul, mul-le-mul_right}
use mathlib.Core.Path.{◌≡◌, refl, sym, ap, ◌∙◌, subst}
use mathlib.Core.Bool.{Bool, true, false, cond, ◌&&◌}
use mathlib.Core.Logic.{◌⊎◌, inl, inr}
use lib.Dec.{T, lit<, lit≤, eqb}
use lib.IntN.{pos}
use lib.Ieee.{Float, binary64, round, of_int, of_bits, add, lt, le}
use lib.Ieee.Scale.{finite}
use lib.Ieee.Order.{round_mono}
use borrow.Author.Tests.{lt-ltb, le-leb, eq-eqb, eqb-true}
use Rattle.floats.specs.Whole.{nought, one}
use Rattle.rounding.specs.Value.{Val, L}
use Rattle.rounding.proofs.Value.{val-scale, L-is, L-pos}
use Rattle.rounding.proofs.Casts.{of_int_val}
use Rattle.rounding.proofs.Compare.{lt_val}
use Rattle.rounding.proofs.Near.{Near, rounds-near}
use Rattle.constants.specs.Constants.{decimal}
use Rattle.julian.specs.DayFraction.{second_limit, time_in_day}
use Rattle.time_of_day.specs.ExactTime.{minus_one_f}

holds : (b : Bool) → T b → b ≡ true
holds true t = refl
holds false t = absurd t

-- ---- from 0.0
pub not_negative : (n : ℕ) → le nought (decimal n 3) ≡ true
unfolding round
not_negative n = holds _ (round_mono binary64 0 1 n 1000 (lit< tt) (lit< tt) (omega arith))

-- ---- below a whole number of seconds: the nearest float is less than 2 ^ -47 above the decimal
sixty-four : 2 ^ 1080 ≡ 64 * L
sixty-four = rw L-is

small-step : 1000 * 2 ^ 1027 < 2 * L
small-step = rw L-is (lit< tt)

-- over any unit, so that no large number is computed
wide : (nu u P : ℕ) → P ≡ 64 * u → 0 < u → nu ≤ 61000 * u → nu < 0 * u + P * 1000
wide nu u P e h k = omega arith

wide_back : (nu u P : ℕ) → P ≡ 64 * u → 0 < u → 0 * u < nu + P * 1000
wide_back nu u P e h = omega arith

pub second_near : (n : ℕ) → n < 61000 → Near (decimal n 3) n 0 1000 1027
second_near n h =
    rounds-near 1027 {z = decimal n 3} {P = n} {N = 0} {D = 1000} (lit< tt) (lit≤ tt)
    (wide (n * L) L (2 ^ 1080) sixty-four L-pos (mul-le-mul_right L (le_of_lt h)))
    (wide_back (n * L) L (2 ^ 1080) sixty-four L-pos)
    (record { sign = false; size = n; eq = refl; is = add-zero n })

whole_val : (b : ℕ) → b ≤ 61 → Val (decimal b 0) (b * L) (0 * L) L
unfolding of_int
whole_val b h = subst (Val (decimal b 0) (b * L) (0 * L)) (one-mul L) (val-scale L (of_int_val (pos b) (omega arith) (omega arith)))

under : (p q nu bu u S snu : ℕ) → 2 * (p * 1000 + 0 * u) ≤ 2 * (q * 1000 + nu) + S → S < 2 * u → snu ≡ nu + u → snu ≤ 1000 * bu → p + 0 * u < bu + q
under p q nu bu u S snu o h e k = omega arith

one_more : (n : ℕ) → suc n * L ≡ n * L + L
one_more n = ap (λ (x : ℕ). x * L) (sym (add-one n)) ∙ add-mul n 1 L ∙ ap (λ (x : ℕ). n * L + x) (one-mul L)

pub second_below : (n b : ℕ) → n < 1000 * b → b ≤ 61 → lt (decimal n 3) (decimal b 0) ≡ true
second_below n b h k =
    let e = second_near n (omega arith) in
    lt_val L-pos e.val (whole_val b k)
    ∙ lt-ltb _ _ (under e.p e.n (n * L) (b * L) L (1000 * 2 ^ 1027) (suc n * L) e.over small-step (one_more n)
    (subst (λ (x : ℕ). suc n * L ≤ x) (mul_assoc 1000 b L) (mul-le-mul_right L h)))

-- ---- a time of a day whose leap is one second or none
limit_over : (x : Float) (last leap : Bool) → lt x (decimal 60 0) ≡ true → lt x (decimal 61 0) ≡ true
    → lt x (cond last (add binary64 (decimal 60 0) (cond leap one nought)) (decimal 60 0)) ≡ true
unfolding add round
limit_over x false leap e f = e
limit_over x true false e f = e
limit_over x true true e f = f

leap-finite : (leap : Bool) → finite (cond leap one nought) ≡ true
leap-finite true = refl
leap-finite false = refl

last-second : (x : Float) → lt x (decimal 61 0) ≡ true → lt x (add binary64 (decimal 60 0) one) ≡ true
unfolding add round
last-second x e = e

pub time-in-day : (hour minute s ms : ℕ) (leap : Bool) → hour ≤ 23 → minute ≤ 59 → ms ≤ 999 → (s ≤ 59)
    ⊎ ((s ≡ 60) × (hour ≡ 23) × (minute ≡ 59) × (leap ≡ true))
    → time_in_day hour minute (decimal (1000 * s + ms) 3) (cond leap one nought) ≡ true
unfolding time_in_day second_limit
time-in-day hour minute s ms leap h m k (inl l) =
    rw (le-leb hour 23 h, le-leb minute 59 m, leap-finite leap, not_negative (1000 * s + ms))
    (limit_over (decimal (1000 * s + ms) 3) (eqb hour 23 && eqb minute 59) leap (second_below (1000 * s + ms) 60 (omega arith) (lit≤ tt))
    (second_below (1000 * s + ms) 61 (omega arith) (lit≤ tt)))
time-in-day hour minute s ms leap h m k (inr g) =
    let n : 1000 * s + ms < 1000 * 61 = omega (arith, g.0) in
    rw (le-leb hour 23 h, le-leb minute 59 m, leap-finite leap, not_negative (1000 * s + ms), eq-eqb hour 23 g.1, eq-eqb minute 59 g.2, g.3)
    (last-second (decimal (1000 * s + ms) 3) (second_below (1000 * s + ms) 61 n (lit≤ tt)))

-- ---- a time of a day that ends a second early: its last minute ends below 59 s
short-limit : (x : Float) → lt x (decimal 59 0) ≡ true → lt x (add binary64 (decimal 60 0) minus_one_f) ≡ true
unfolding add round of_bits
short-limit x e = e

pub time-in-short-day : (hour minute s ms : ℕ) → hour ≤ 23 → minute ≤ 59 → ms ≤ 999 → s ≤ 59 → (hour ≡ 23 → minute ≡ 59 → s ≤ 58)
    → time_in_day hour minute (decimal (1000 * s + ms) 3) minus_one_f ≡ true
unfolding time_in_day second_limit of_bits
time-in-short-day hour minute s ms h m k l last =
    rw (le-leb hour 23 h, le-leb minute 59 m, not_negative (1000 * s + ms)) (at (eqb hour 23) refl (eqb minute 59) refl)
  where
    x : Float
    x = decimal (1000 * s + ms) 3

    at : (a : Bool) → eqb hour 23 ≡ a → (b : Bool) → eqb minute 59 ≡ b → lt x (cond (a && b) (add binary64 (decimal 60 0) minus_one_f) (decimal 60 0)) ≡ true
    at true p true q = short-limit x (second_below (1000 * s + ms) 59 (under (last (eqb-true hour 23 p) (eqb-true minute 59 q))) (lit≤ tt))
      where
        under : s ≤ 58 → 1000 * s + ms < 1000 * 59
        under g = omega arith
    at true p false q = second_below (1000 * s + ms) 60 (omega arith) (lit≤ tt)
    at false p b q = second_below (1000 * s + ms) 60 (omega arith) (lit≤ tt)
