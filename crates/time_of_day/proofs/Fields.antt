-- The fields of a count of milliseconds: they are a time of day's, and they stand for the count. Assumes nothing.
use mathlib.Core.Path.{◌≡◌, refl, ◌∙◌}
use Prim.Native.Nat.{ℕ, ◌+◌, ◌-◌, ◌*◌, ◌/◌, ◌%◌, ◌≤◌, ◌<◌}
use native.Mathlib.Omega.{arith}
use mathlib.Core.Bool.{Bool, true, false, cond}
use lib.Dec.{T}
use lib.Ieee.{Float, nan, inf, fin, up, down, of_bits, lt}
use lib.Ieee.Fits.{down_pos}
use Rattle.floats.specs.Whole.{nought}
use Rattle.rounding.specs.Value.{Val}
use Rattle.rounding.proofs.Own.{plus-of, minus-of, signed_of}
use Rattle.rounding.proofs.Compare.{lt_says}
use Rattle.time_of_day.specs.TimeShown.{minute_of, time_of, day_end}
use Rattle.time_of_day.specs.ExactTime.{time_ms, GoodTime}
use Rattle.time_of_day.proofs.Fractions.{zero_val}

total : (m r : ℕ) → 3600000 * (m / 60) + 60000 * (m % 60) + 1000 * (r / 1000) + r % 1000 ≡ 60000 * m + r
total m r = omega arith

minute-le : (k : ℕ) → 60000 * minute_of k + (k - minute_of k * 60000) ≡ k
minute-le k = omega arith

-- the fields stand for the count
pub fields-ms : (k : ℕ) → time_ms (time_of k) ≡ k
unfolding time_of
fields-ms k = total (minute_of k) (k - minute_of k * 60000) ∙ minute-le k

rest_lt : (k : ℕ) → k < 86401000 → (minute_of k ≤ 1439) × (k - minute_of k * 60000 < 61000)
rest_lt k h = omega arith

last-minute : (k : ℕ) → 60000 ≤ k - minute_of k * 60000 → (minute_of k ≡ 1439) × (86400000 ≤ k)
last-minute k h = omega arith

-- no float is both above 0 and below it
one_way : (l : Float) → T (lt nought l) → T (lt l nought) → ⊥
unfolding of_bits lt
one_way nan a b = a
one_way (inf true) a b = a
one_way (inf false) a b = b
one_way (fin s m e) a b =
    let v : Val (fin s m e) (plus-of s (m * up e)) (minus-of s (m * up e)) (down e) =
    record { sign = s; size = m * up e; has = (refl, refl); is = signed_of s (m * up e) } in
    let x = lt_says (down_pos e) (zero_val (down e)) v a in
    let y = lt_says (down_pos e) v (zero_val (down e)) b in
    omega arith

pub good-time : (k : ℕ) (l : Float) → k < day_end l → GoodTime (time_of k) l
unfolding time_of day_end
good-time k l h = make (rest_lt k (under (lt nought l) (lt l nought) h))
  where
    under : (a b : Bool) → k < cond a 86401000 (cond b 86399000 86400000) → k < 86401000
    under true b g = g
    under false true g = omega arith
    under false false g = omega arith

    sixty-at : (m r : ℕ) → (60000 ≤ r → (m ≡ 1439) × (86400000 ≤ k)) → r / 1000 ≡ 60 → (m / 60 ≡ 23) × (m % 60 ≡ 59) × (86400000 ≤ k)
    sixty-at m r g e =
        let a : 60000 ≤ r = omega arith in
        let b = g a in
        let c : m ≡ 1439 = b.0 in
        (omega arith, omega arith, b.1)

    longer : (a b : Bool) → k < cond a 86401000 (cond b 86399000 86400000) → 86400000 ≤ k → T a
    longer true b g e = tt
    longer false true g e = let w : ⊥ = omega arith in absurd w
    longer false false g e = let w : ⊥ = omega arith in absurd w

    below : (a b : Bool) → (T a → T b → ⊥) → k < cond a 86401000 (cond b 86399000 86400000) → T b → k < 86399000
    below true true x g t = absurd (x tt tt)
    below true false x g t = absurd t
    below false true x g t = g
    below false false x g t = absurd t

    last-second : (m r : ℕ) → 60000 * m + r ≡ k → k < 86399000 → m / 60 ≡ 23 → m % 60 ≡ 59 → r / 1000 ≤ 58
    last-second m r e g a b = let c : m ≡ 1439 = omega arith in omega arith

    make : (minute_of k ≤ 1439) × (k - minute_of k * 60000 < 61000) → GoodTime (time_of k) l
    make p = record {
      hour = at_hour (minute_of k) p.0;
      minute = at_minute (minute_of k);
      second = at_second (k - minute_of k * 60000) p.1;
      milli = at_milli (k - minute_of k * 60000);
      sixty = λ e. let q = sixty-at (minute_of k) (k - minute_of k * 60000) (last-minute k) e in (q.0, q.1, longer (lt nought l) (lt l nought) h q.2);
      shorter = λ t e g. last-second (minute_of k) (k - minute_of k * 60000) (minute-le k) (below (lt nought l) (lt l nought) (one_way l) h t) e g;
    }
      where
        at_hour : (m : ℕ) → m ≤ 1439 → m / 60 ≤ 23
        at_hour m g = omega arith

        at_minute : (m : ℕ) → m % 60 ≤ 59
        at_minute m = omega arith

        at_second : (r : ℕ) → r < 61000 → r / 1000 ≤ 60
        at_second r g = omega arith

        at_milli : (r : ℕ) → r % 1000 ≤ 999
        at_milli r = omega arith
