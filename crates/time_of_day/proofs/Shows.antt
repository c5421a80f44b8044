-- What is shown has a time of day's fields and is within 0.501 ms of the exact time of day, for every fraction of a day, every case of leap, and every rule
-- that rounds to a nearest whole number. Assumes nothing.
use mathlib.Core.Path.{◌≡◌, sym, ap, subst}
use Prim.Native.Nat.{ℕ, ◌+◌, ◌*◌, ◌≤◌, ◌<◌}
use native.Mathlib.Nat.{le_trans, le_of_lt, mul-le-mul_right}
use native.Mathlib.Omega.{arith}
use mathlib.Core.Bool.{Bool, true, false, not, cond}
use lib.IntN.{ℤ}
use lib.Dec.{T, ltb, ltb→lt, nltb→le}
use lib.Ieee.{Float, binary64, of_bits, lt, le, eq, fits}
use Rattle.floats.specs.Whole.{abs, away, nought}
use Rattle.rounding.specs.Value.{Val, L, InUnit}
use Rattle.rounding.proofs.Value.{L-pos}
use Rattle.time_of_day.specs.declared.TimeShown.TheVariants.{At, NextMidnight}
use Rattle.time_of_day.specs.Milliseconds.{whole_leap}
use Rattle.time_of_day.specs.TimeShown.{time_of, day_end, from_zero, shown_at, count_by, shown_by, shown_of}
use Rattle.time_of_day.specs.Nearest.{Nearest}
use Rattle.time_of_day.specs.ExactTime.{Leap, little, second, first, minus_second, DayLength, shown_ms, TimeWithin, Good, ShownWithin, ShownRight}
use Rattle.time_of_day.proofs.Rounded.{away-nearest}
use Rattle.time_of_day.proofs.Fractions.{AsUnits, in_units, within-one, at_most, zero_val, minus-one-val, le_says, cross}
use Rattle.time_of_day.proofs.Count.{CountedTo, counted}
use Rattle.time_of_day.proofs.Fields.{fields-ms, good-time}
use Rattle.time_of_day.proofs.Close.{close_move, close_end, close_501}

up_to : (W E p n : ℕ) → W + n ≡ 86400 * E + p → p ≤ n + E → 1000 * W ≤ 86401000 * E
up_to W E p n i a = omega arith

-- ---- in each case of leap the day's length is at most the milliseconds at which the text is the next day's midnight
pub longest : (x : Float) (W E : ℕ) → 0 < E → Leap x → DayLength x W E → 1000 * W ≤ day_end (whole_leap x) * E
unfolding whole_leap day_end of_bits le lt eq abs
longest x W E G (little e) d =
    let z : whole_leap x ≡ nought = ap (λ (b : Bool). cond b x nought) e in
    let v : Val nought d.p d.n E = subst (λ (l : Float). Val l d.p d.n E) z d.leap_is in
    let a = le_says G v (zero_val E) tt in
    subst (λ (l : Float). 1000 * W ≤ day_end l * E) (sym z) (go d.p d.n d.is a)
  where
    go : (p n : ℕ) → W + n ≡ 86400 * E + p → p + 0 ≤ 0 + n → 1000 * W ≤ 86400000 * E
    go p n i a = omega arith
longest x W E G second d = up_to W E d.p d.n d.is (at_most G d.leap_is (within-one x second))
longest x W E G first d = up_to W E d.p d.n d.is (at_most G d.leap_is (within-one x first))
longest x W E G minus_second d = go d.p d.n d.is (le_says G d.leap_is (minus-one-val E) tt)
  where
    go : (p n : ℕ) → W + n ≡ 86400 * E + p → p + E ≤ 0 + n → 1000 * W ≤ 86399000 * E
    go p n i a = omega arith

-- ---- what is shown of a count that is near the exact time of day: a count past the day's end becomes the day's end
module _ (c e F D k : ℕ) (x : Float) (s : Leap x) (h : F ≤ D) (near : (W E : ℕ) → 0 < E → DayLength x W E → TimeWithin c e (k * E) F D W E) where
  at-time : k < day_end (whole_leap x) → ShownWithin c e F D x (At (time_of k))
  unfolding Good shown_ms
  at-time t = record {
    good = good-time k (whole_leap x) t;
    near =
        λ W E G d. subst (λ (z : ℕ). TimeWithin c e (z * E) F D W E) (sym (fields-ms k)) (near W E G d);
  }

  at_end : day_end (whole_leap x) ≤ k → ShownWithin c e F D x NextMidnight
  unfolding Good shown_ms
  at_end t = record { good = tt; near = λ W E G d. close_end c e (k * E) F D W E h (le_trans (longest x W E G s d) (mul-le-mul_right E t)) (near W E G d) }

  pub shown-within : ShownWithin c e F D x (shown_at (whole_leap x) k)
  unfolding shown_at
  shown-within = go (ltb k (day_end (whole_leap x))) (ltb→lt k (day_end (whole_leap x))) (nltb→le k (day_end (whole_leap x)))
    where
      go : (b : Bool) → (T b → k < day_end (whole_leap x)) → (T (not b) → day_end (whole_leap x) ≤ k) → ShownWithin c e F D x
          (cond b (At (time_of k)) NextMidnight)
      go true t n = at-time (t tt)
      go false t n = at_end (n tt)

-- ---- by a rule that gives a nearest whole number
module _ (how : Bool → ℕ → ℕ → ℕ) (rule : Nearest how) (f x : Float) (h : T (fits binary64 f)) (g : InUnit f) (s : Leap x) where
  u : AsUnits f
  u = in_units f h g

  counts : CountedTo how f (whole_leap x) u
  counts = counted how rule f (whole_leap x) u (within-one x s)

  moved : (r F D W E : ℕ) → Val f F 0 D → TimeWithin 16777216 8388609 r u.F L W E → TimeWithin 16777216 8388609 r F D W E
  moved r F D W E v k = close_move 16777216 8388609 r F D u.F L W E L-pos (cross u.val v) k

  -- the count is within 1 / 2 + 2 ^ -24 ms
  pub count-near : (F D W E : ℕ) → 0 < E → Val f F 0 D → DayLength x W E → TimeWithin 16777216 8388609 (count_by how f (whole_leap x) * E) F D W E
  unfolding count_by from_zero
  count-near F D W E G v d =
      subst (λ (z : ℤ). TimeWithin 16777216 8388609 (from_zero z * E) F D W E) (sym counts.is)
      (moved (counts.k * E) F D W E v (counts.close d.p d.n E W G d.leap_is d.is))

  shown : ShownWithin 16777216 8388609 u.F L x (shown_of how f x)
  unfolding shown_by
  shown = shown-within 16777216 8388609 u.F L (count_by how f (whole_leap x)) x s (le_of_lt u.most) (λ W E G d. count-near u.F L W E G u.val d)

  pub shown-right-by : ShownRight f x (shown_of how f x)
  shown-right-by = record {
    good = shown.good;
    near = λ F D W E X G v d. close_501 (shown_ms (shown_of how f x) W E) F D W E (moved (shown_ms (shown_of how f x) W E) F D W E v (shown.near W E G d));
    nearer = λ F D W E X G v d. moved (shown_ms (shown_of how f x) W E) F D W E v (shown.near W E G d);
  }

-- what a text shows is within 0.501 ms of the exact time of day
pub shown-right : (f x : Float) → T (fits binary64 f) → InUnit f → Leap x → ShownRight f x (shown_of away f x)
shown-right = shown-right-by away away-nearest
