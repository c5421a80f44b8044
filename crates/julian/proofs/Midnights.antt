-- The Julian date of a date's midnight: its second part is worth exactly the Modified Julian Date, which is that of the date. Assumes nothing.
use mathlib.Core.Path.{◌≡◌, refl, sym, subst}
use Prim.Native.Nat.{ℕ, ◌+◌, ◌-◌, ◌*◌, ◌^◌, ◌≤◌, ◌<◌}
use native.Mathlib.Omega.{arith}
use native.Mathlib.Nat.{le_trans}
use mathlib.Core.Bool.{Bool, true, false, cond}
use lib.Dec.{T, leb, lit≤, lit<}
use lib.IntN.{ℤ, pos, nat_abs, ◌+ℤ◌}
use lib.Signed.{mag}
use lib.Ieee.{binary64, round, of_int, in_float, add}
use mir.Syntax.{w32, w64}
use mir.Val.{SFits}
use Rattle.refusals.specs.Outcome.{Outcome, answer, refusal, onward}
use Rattle.rounding.specs.Value.{Val}
use Rattle.rounding.proofs.Value.{val-scale, val-move}
use Rattle.rounding.proofs.Exact.{add_exact}
use Rattle.rounding.proofs.Casts.{plus_z, minus_z}
use Rattle.constants.specs.Constants.{mjd_zero_point}
use Rattle.calendar.specs.Calendar.{leap_year}
use Rattle.calendar.specs.Refusals.{valid_date}
use Rattle.calendar.specs.DayCount.{march_count, civil_count, mjd_number, mjd_of}
use Rattle.calendar.proofs.Signs.{raised, at_most_i32, lowered}
use Rattle.calendar.proofs.Accepted.{date-accepted, short}
use Rattle.calendar.proofs.Mjd.{mjd-meaning}
use Rattle.julian.specs.JulianDate.{julian, rounded_sum}
use Rattle.julian.specs.Calendar.{calendar_to_julian}
use Rattle.julian.specs.Midnight.{MidnightOf}
use Rattle.julian.proofs.Integers.{sides_mag, in-float, integer_val}

-- ---- a Modified Julian Date that is answered is the formula's, of a date that is not refused

pub record Answered (y m d n : ℤ) : Type 0 where
  pub valid : valid_date y m d ≡ answer tt
  pub is : n ≡ mjd_number y m d

pub midnight-answered : (y m d n : ℤ) → mjd_of y m d ≡ answer n → Answered y m d n
unfolding mjd_of onward
midnight-answered y m d n e = go (valid_date y m d) refl e
  where
    go : (v : Outcome Unit) → valid_date y m d ≡ v → onward v (λ _. answer (mjd_number y m d)) ≡ answer n → Answered y m d n
    go (answer u) h k = record { valid = h; is = cc }
    go (refusal k) h l = let z : ◌≡◌ {A = ℕ} 0 1 = cc in absurd (omega arith)

-- ---- its size

march_small : (y m d : ℕ) → y ≤ 2147488447 → m ≤ 22 → d ≤ 31 → march_count y m d ≤ 2 ^ 41
march_small y m d a b c = omega arith

count_small : (y m d : ℕ) → y ≤ 2147488447 → m ≤ 12 → d ≤ 31 → civil_count y m d ≤ 2 ^ 41
unfolding civil_count
count_small y m d a b c = go (leb m 2)
  where
    go : (t : Bool) → cond t (march_count (y - 1) (m + 10) d) (march_count y (m - 2) d) ≤ 2 ^ 41
    go true = march_small (y - 1) (m + 10) d (omega arith) (omega arith) c
    go false = march_small y (m - 2) d a (omega arith) c

pub mjd-in-42-bits : (y m d n : ℤ) → SFits w32 y → mjd_of y m d ≡ answer n → mag n < 2 ^ 42
unfolding mjd_number
mjd-in-42-bits y m d n f e =
    let w = midnight-answered y m d n e in
    let a = date-accepted y m d w.valid in
    let r = raised y 4798 4800 2147483647 (lit≤ tt) a.year (at_most_i32 y f) in
    let h : nat_abs (y +ℤ pos 4800) ≤ 2147488447 = subst (λ (z : ℤ). nat_abs z ≤ 2147488447) (sym r.is) r.high in
    let k : nat_abs d ≤ 31 = le_trans a.d_high (short (leap_year y) (nat_abs m) a.m_low a.m_high) in
    let c : civil_count (nat_abs (y +ℤ pos 4800)) (nat_abs m) (nat_abs d) ≤ 2 ^ 41 = count_small (nat_abs (y +ℤ pos 4800)) (nat_abs m)
    (nat_abs d) h a.m_high k in
    subst (λ (z : ℤ). mag z < 2 ^ 42) (sym w.is)
    (lowered (civil_count (nat_abs (y +ℤ pos 4800)) (nat_abs m) (nat_abs d)) 2432076 (2 ^ 42) (omega arith) (lit< tt))

-- ---- so the cast to a float loses nothing

pub mjd-fits : (y m d n : ℤ) → SFits w32 y → mjd_of y m d ≡ answer n → SFits w64 n
mjd-fits y m d n f e = record { sfits = omega (arith, mjd-in-42-bits y m d n f e) }

pub mjd-in-float : (y m d n : ℤ) → SFits w32 y → mjd_of y m d ≡ answer n → T (in_float binary64 n)
mjd-in-float y m d n f e = in-float n (omega (arith, mjd-in-42-bits y m d n f e))

-- ---- the midnight of a date, by the two cases of its Modified Julian Date

pub midnight-refused : (y m d : ℤ) (k : ℕ) → mjd_of y m d ≡ refusal k → calendar_to_julian y m d ≡ refusal k
unfolding calendar_to_julian onward
midnight-refused y m d k e = rw e

pub midnight-given : (y m d n : ℤ) → mjd_of y m d ≡ answer n → calendar_to_julian y m d ≡ answer (julian mjd_zero_point (of_int binary64 n))
unfolding calendar_to_julian onward
midnight-given y m d n e = rw e

-- ---- what it is worth

pub zero_point_val : Val mjd_zero_point 4800001 0 2
unfolding mjd_zero_point round
zero_point_val = record { sign = false; size = 4800001; has = (refl, refl); is = refl }

-- the rounded sum of the parts is not rounded: it is the first part of `from_calendar`
pub midnight-sum : (n : ℤ) → mag n < 2 ^ 42 → Val (add binary64 mjd_zero_point (of_int binary64 n)) (4800001 + plus_z n * 2) (minus_z n * 2) 2
midnight-sum n h =
    let s = sides_mag n (2 ^ 42) h in
    val-move (add_exact 1 (lit≤ tt) (omega (arith, s.0)) (omega (arith, s.1)) zero_point_val (val-scale 2 (integer_val n (omega arith)))) (omega arith)

pub midnight-of : (y m d : ℤ) → SFits w32 y → valid_date y m d ≡ answer tt → (n : ℤ) × MidnightOf y m d n
unfolding rounded_sum
midnight-of y m d f v =
    let k = mjd-meaning y m d v in
    let h : mag k.n < 2 ^ 42 = mjd-in-42-bits y m d k.n f k.given in
    let w = integer_val k.n (omega arith) in (
      k.n,
      record {
        mjd = k.given;
        given = midnight-given y m d k.n k.given;
        second = w;
        exactly = record {
          p = 4800001;
          n = 0;
          q = plus_z k.n * 2;
          m = minus_z k.n * 2;
          first = zero_point_val;
          second = val-scale 2 w;
          total =
              omega arith;
        };
        sum = midnight-sum k.n h;
        has_date = k.has_date;
      },
    )
