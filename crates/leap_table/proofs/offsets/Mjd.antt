-- The Modified Julian Date of a date with a 32-bit year is below 10^12 in size, so that its float is exact and the next day's does not overflow; and what the
-- calls of the calendar answer. Assumes nothing.
use Rattle.std.proofs.Common.{◌≡◌, ℕ, zero, suc, ◌+◌, ◌-◌, ◌^◌, ◌<◌, ◌≤◌, Bool, true, false, cond, T, ltb, leb, ℤ, pos, negsuc, ◌+ℤ◌, nat_abs, sym, refl, ap}
use Rattle.std.proofs.Common.{◌∙◌, subst, arith, to_z-of_z, w32, w64, SFits, to_z, of_z, ltb-true, lt-ltb, le-leb}
use lib.IntN.{sub_ℕ, suc_ℤ, +ℤ_one}
use lib.Ieee.{binary64, in_float}
use Rattle.std.specs.Prelude.{Result, Ok, Err}
use Rattle.refusals.specs.declared.Refusal.{Refusal}
use Rattle.refusals.specs.Refusal.{refusal_number}
use Rattle.refusals.specs.Outcome.{answer, refusal, outcome}
use Rattle.calendar.specs.Calendar.{leap_year}
use Rattle.calendar.specs.Refusals.{next_of}
use Rattle.calendar.specs.DayCount.{march_count, civil_count, mjd_number, mjd_of}
use Rattle.calendar.specs.declared.CalendarDate.{CalendarDate}
use Rattle.calendar.proofs.Signs.{raised, at_most_i32}
use Rattle.calendar.proofs.Accepted.{date-accepted, short}
use Rattle.calendar.proofs.Mjd.{mjd-given, mjd-valid, same_answer}

-- ---- the size of the number
march_small : (y m d : ℕ) → y ≤ 2147488447 → m ≤ 22 → d ≤ 31 → march_count y m d < 900000000000
march_small y m d p q r = omega arith

civil_small : (y m d : ℕ) → y ≤ 2147488447 → m ≤ 12 → d ≤ 31 → civil_count y m d < 900000000000
unfolding civil_count
civil_small y m d p q r = go (leb m 2)
  where
    go : (b : Bool) → cond b (march_count (y - 1) (m + 10) d) (march_count y (m - 2) d) < 900000000000
    go true = march_small (y - 1) (m + 10) d (omega arith) (omega arith) r
    go false = march_small y (m - 2) d p (omega arith) r

difference-small : (n k : ℕ) → nat_abs (sub_ℕ n k) ≤ n + k
difference-small n k = go (ltb n k) refl
  where
    go : (t : Bool) → ltb n k ≡ t → nat_abs (cond t (negsuc (k - suc n)) (pos (n - k))) ≤ n + k
    go true e = omega (arith, ltb-true n k e)
    go false e = omega arith

pub mjd-small : (y m d n : ℤ) → SFits w32 y → mjd_of y m d ≡ answer n → nat_abs n < 1000000000000
unfolding mjd_number
mjd-small y m d n f e =
    let z = mjd-valid y m d n e in
    let a = date-accepted y m d z in
    let r = raised y 4798 4800 2147483647 (omega arith) a.year (at_most_i32 y f) in
    let s = ap nat_abs r.is in
    let u : nat_abs (y +ℤ pos 4800) ≤ 2147488447 = omega (arith, s, r.high) in
    let b = short (leap_year y) (nat_abs m) a.m_low a.m_high in
    let c = civil_small (nat_abs (y +ℤ pos 4800)) (nat_abs m) (nat_abs d) u a.m_high (omega (arith, a.d_high, b)) in
    let g = difference-small (civil_count (nat_abs (y +ℤ pos 4800)) (nat_abs m) (nat_abs d)) 2432076 in
    let i : nat_abs n ≡ nat_abs (mjd_number y m d) = ap nat_abs (same_answer (sym e ∙ mjd-given y m d z)) in
    omega (arith, c, g, i)

-- ---- its float and the next day's number and float, as the machine reads them back from their bits
in-float : (z : ℤ) → nat_abs z ≤ 1000000000000 → T (in_float binary64 z)
unfolding in_float
in-float (pos n) h = subst T (sym (le-leb n (2 ^ 53) (omega arith))) tt
in-float (negsuc n) h = subst T (sym (lt-ltb n (2 ^ 53) (omega arith))) tt

fits-64 : (z : ℤ) → nat_abs z ≤ 1000000000000 → SFits w64 z
fits-64 (pos n) h = record { sfits = omega arith }
fits-64 (negsuc n) h = record { sfits = omega arith }

next_small : (z : ℤ) → nat_abs z < 1000000000000 → nat_abs (suc_ℤ z) ≤ 1000000000000
next_small (pos n) h = omega arith
next_small (negsuc zero) h = omega arith
next_small (negsuc (suc n)) h = omega arith

module _ (z : ℤ) (h : nat_abs z < 1000000000000) where
  pub read : to_z w64 (of_z w64 z) ≡ z
  read = to_z-of_z (fits-64 z (omega arith))

  pub float_fits : T (in_float binary64 (to_z w64 (of_z w64 z)))
  float_fits = subst (λ (x : ℤ). T (in_float binary64 x)) (sym read) (in-float z (omega arith))

  one_more : to_z w64 (of_z w64 z) +ℤ pos 1 ≡ suc_ℤ z
  one_more = ap (λ (x : ℤ). x +ℤ pos 1) read ∙ +ℤ_one z

  pub one-more-fits : SFits w64 (to_z w64 (of_z w64 z) +ℤ pos 1)
  one-more-fits = subst (λ (x : ℤ). SFits w64 x) (sym one_more) (fits-64 (suc_ℤ z) (next_small z h))

  pub read-next-day : to_z w64 (of_z w64 (to_z w64 (of_z w64 z) +ℤ pos 1)) ≡ suc_ℤ z
  read-next-day = to_z-of_z one-more-fits ∙ one_more

-- ---- what the calendar's calls answer; the machine hands a call its arguments read back from their bits
module _ (y m d : ℤ) (f : SFits w32 y) (g : SFits w32 m) (h : SFits w32 d) where
  read-mjd : mjd_of (to_z w32 (of_z w32 y)) (to_z w32 (of_z w32 m)) (to_z w32 (of_z w32 d)) ≡ mjd_of y m d
  read-mjd = λ i. mjd_of (to_z-of_z f i) (to_z-of_z g i) (to_z-of_z h i)

  read_next : next_of (to_z w32 (of_z w32 y)) (to_z w32 (of_z w32 m)) (to_z w32 (of_z w32 d)) ≡ next_of y m d
  read_next = λ i. next_of (to_z-of_z f i) (to_z-of_z g i) (to_z-of_z h i)

  module _ (r : Result ℤ Refusal) (e : outcome r ≡ mjd_of (to_z w32 (of_z w32 y)) (to_z w32 (of_z w32 m)) (to_z w32 (of_z w32 d))) where
    pub mjd-is : (n : ℤ) → r ≡ Ok n → mjd_of y m d ≡ answer n
    unfolding outcome
    mjd-is n p = sym (ap outcome (sym p) ∙ e ∙ read-mjd)

    pub no_mjd : (k : Refusal) → r ≡ Err k → mjd_of y m d ≡ refusal (refusal_number k)
    unfolding outcome
    no_mjd k p = sym (ap outcome (sym p) ∙ e ∙ read-mjd)

  module _ (r : Result CalendarDate Refusal) (e : outcome r ≡ next_of (to_z w32 (of_z w32 y)) (to_z w32 (of_z w32 m)) (to_z w32 (of_z w32 d))) where
    pub next-date : (t : CalendarDate) → r ≡ Ok t → next_of y m d ≡ answer t
    unfolding outcome
    next-date t p = sym (ap outcome (sym p) ∙ e ∙ read_next)

    pub no_next_date : (k : Refusal) → r ≡ Err k → next_of y m d ≡ refusal (refusal_number k)
    unfolding outcome
    no_next_date k p = sym (ap outcome (sym p) ∙ e ∙ read_next)
