-- The four lengths of a day, so that the nearness of demand 3 speaks of every day: 86,400 s where leap is at most 0.5 in size, 86,401 s where it is 1.0, 86,399
-- s where it is -1.0, and 86,400 s plus the float 0.9434819999999999 on 1959-12-31. Assumes nothing.
use mathlib.Core.Path.{◌≡◌, refl, sym, ap, subst}
use mathlib.Core.Bool.{Bool, true, false, cond}
use Prim.Native.Nat.{ℕ, ◌+◌, ◌*◌, ◌^◌, ◌<◌}
use lib.Dec.{lit<}
use lib.Ieee.{Float, of_bits, lt, eq}
use Rattle.floats.specs.Whole.{abs, nought, half, one}
use Rattle.rounding.specs.Value.{Val}
use Rattle.time_of_day.specs.Milliseconds.{whole_leap}
use Rattle.time_of_day.specs.ExactTime.{minus_one_f, leap1959, Leap, little, second, first, minus_second, DayLength}

zero_val : Val nought 0 0 1
unfolding of_bits
zero_val = record { sign = false; size = 0; has = (refl, refl); is = refl }

pub of_86400 : (x : Float) → lt half (abs x) ≡ false → DayLength x 86400 1
unfolding whole_leap
of_86400 x e = record { p = 0; n = 0; leap_is = subst (λ (z : Float). Val z 0 0 1) (sym (ap (λ (b : Bool). cond b x nought) e)) zero_val; is = refl }

pub of_86401 : DayLength one 86401 1
unfolding whole_leap of_bits lt eq abs
of_86401 = record { p = 1; n = 0; leap_is = record { sign = false; size = 1; has = (refl, refl); is = refl }; is = refl }

-- 0.9434819999999999 is 2124532591815385 / 2 ^ 51
pub of_1959 : DayLength leap1959 (86400 * 2 ^ 51 + 2124532591815385) (2 ^ 51)
unfolding whole_leap of_bits lt eq abs
of_1959 = record { p = 2124532591815385; n = 0; leap_is = record { sign = false; size = 2124532591815385; has = (refl, refl); is = refl }; is = refl }

of_86399 : DayLength minus_one_f 86399 1
unfolding whole_leap of_bits lt eq abs
of_86399 = record { p = 0; n = 1; leap_is = record { sign = true; size = 1; has = (refl, refl); is = refl }; is = refl }

-- every day has a length
pub a-length : (x : Float) → Leap x → (W : ℕ) × (E : ℕ) × (0 < E) × DayLength x W E
a-length x (little e) = (86400, 1, lit< tt, of_86400 x e)
a-length x second = (86401, 1, lit< tt, of_86401)
a-length x first = (86400 * 2 ^ 51 + 2124532591815385, 2 ^ 51, lit< tt, of_1959)
a-length x minus_second = (86399, 1, lit< tt, of_86399)
