-- The Modified Julian Date: the formula's number is the day of the date, no other number is, and it is inverse to `gregorian_date` both ways.
-- Assumes nothing.
use mathlib.Core.Path.{◌≡◌, refl, ap, sym, subst, ◌∙◌}
use mathlib.Core.Bool.{Bool, false, cond}
use Prim.Native.Nat.{ℕ, ◌+◌, ◌≤◌}
use native.Mathlib.Omega.{arith}
use lib.IntN.{ℤ, pos, negsuc, nat_abs, sub_ℕ, ◌+ℤ◌, ◌-ℤ◌, +ℤ_assoc, +ℤ-neg_ℤ_cancel, -ℤ-+ℤ_cancel}
use lib.Signed.{lt_z}
use Rattle.refusals.specs.Outcome.{Outcome, answer, refusal, onward}
use Rattle.calendar.specs.declared.CalendarDate.{CalendarDate}
use Rattle.calendar.specs.Calendar.{date, date_at, date_of, Counted}
use Rattle.calendar.specs.Refusals.{valid_date}
use Rattle.calendar.specs.DayCount.{civil_count, mjd_number, mjd_of, MjdMeaning}
use Rattle.calendar.specs.Gregorian.{gregorian_date}
use Rattle.calendar.proofs.Signs.{raised, own-size}
use Rattle.calendar.proofs.Accepted.{date-accepted}
use Rattle.calendar.proofs.Days.{number, counted, one-number-per-date}
use Rattle.calendar.proofs.Years.{counted-from, from-lower, year-before-first, gregorian_valid}
use Rattle.calendar.proofs.Gregorian.{gregorian_is_date_of_day}
use Rattle.calendar.proofs.DayCounts.{count-of-date}

-- ---- by its two cases: a refusal is handed on
pub mjd-refused : (y m d : ℤ) (k : ℕ) → valid_date y m d ≡ refusal k → mjd_of y m d ≡ refusal k
unfolding mjd_of onward
mjd-refused y m d k e = rw e

pub mjd-given : (y m d : ℤ) → valid_date y m d ≡ answer tt → mjd_of y m d ≡ answer (mjd_number y m d)
unfolding mjd_of onward
mjd-given y m d e = rw e

-- the number as it is computed
pub number_is : (y m d : ℤ) (r n m' d' : ℕ) → pos r ≡ y +ℤ pos 4800 → n ≡ civil_count r m' d' → m' ≡ nat_abs m → d' ≡ nat_abs d
    → pos n -ℤ pos 2432076 ≡ mjd_number y m d
unfolding mjd_number
number_is y m d r n m' d' p q a b = ap (λ (k : ℕ). sub_ℕ k 2432076) (q ∙ (λ i. civil_count (nat_abs (p i)) (a i) (b i)))

-- ---- the formula's number is the day of that date
raised_year : (z : ℤ) → lt_z z (negsuc 4798) ≡ false → (pos (nat_abs (z +ℤ pos 4800)) ≡ z +ℤ pos 4800) × (1 ≤ nat_abs (z +ℤ pos 4800))
raised_year z e =
    let r = raised z 4798 4800 (nat_abs z) (omega arith) e (own-size z) in
    let s = ap nat_abs r.is in
    (ap pos s ∙ sym r.is, omega (arith, s, r.low))

pub day-of-date : (y m d : ℤ) → valid_date y m d ≡ answer tt → (k : ℕ) × (mjd_number y m d ≡ pos k -ℤ pos 2578142) ×
    (date_at k ≡ date y (nat_abs m) (nat_abs d))
unfolding mjd_number
day-of-date y m d z =
    let a = date-accepted y m d z in
    let u = raised_year y a.year in
    let r = nat_abs (y +ℤ pos 4800) in
    let c = count-of-date r y (nat_abs m) (nat_abs d) u.0 u.1 a.m_low a.m_high a.d_low a.d_high in
    (civil_count r (nat_abs m) (nat_abs d) + 146066, c.0, c.1)

-- the day number of MJD n, which is k days after -5200-03-01
number_of : (n : ℤ) (k : ℕ) → n ≡ pos k -ℤ pos 2578142 → n +ℤ pos 2400001 ≡ number k
number_of n k e = ap (λ (z : ℤ). z +ℤ pos 2400001) e ∙ +ℤ_assoc (pos k) (negsuc 2578141) (pos 2400001)

date-of-number : (k : ℕ) → date_of (number k) ≡ date_at k
unfolding date_of
date-of-number k = ap (λ (z : ℤ). date_at (nat_abs z)) (-ℤ-+ℤ_cancel (pos k) (pos 178141))

same-mjd : (x n : ℤ) → x +ℤ pos 2400001 ≡ n +ℤ pos 2400001 → x ≡ n
same-mjd x n e = sym (+ℤ-neg_ℤ_cancel x (pos 2400001)) ∙ ap (λ (z : ℤ). z -ℤ pos 2400001) e ∙ +ℤ-neg_ℤ_cancel n (pos 2400001)

pub mjd-meaning : (y m d : ℤ) → valid_date y m d ≡ answer tt → MjdMeaning y m d
mjd-meaning y m d z =
    let k = day-of-date y m d z in
    let e = number_of (mjd_number y m d) k.0 k.1 in
    let c : Counted (mjd_number y m d +ℤ pos 2400001) = subst (λ (x : ℤ). Counted x) (sym e) (counted k.0) in
    let h : date_of (mjd_number y m d +ℤ pos 2400001) ≡ date y (nat_abs m) (nat_abs d) = ap date_of e ∙ date-of-number k.0 ∙ k.2 in
    record {
      n = mjd_number y m d;
      given = mjd-given y m d z;
      counted_day = c;
      has_date = h;
      only = λ x p q. same-mjd x (mjd_number y m d) (one-number-per-date (x +ℤ pos 2400001) (mjd_number y m d +ℤ pos 2400001) p c (q ∙ sym h));
    }

-- ---- a date has an MJD only if it is not refused
answered : (o : Outcome Unit) (n n' : ℤ) → onward o (λ _. answer n') ≡ answer n → o ≡ answer tt
unfolding onward
answered (answer x) n n' e = refl
answered (refusal k) n n' e = let z : ◌≡◌ {A = ℕ} 0 1 = cc in absurd (omega arith)

pub mjd-valid : (y m d n : ℤ) → mjd_of y m d ≡ answer n → valid_date y m d ≡ answer tt
unfolding mjd_of
mjd-valid y m d n e = answered (valid_date y m d) n (mjd_number y m d) e

pub same_answer : {X : Type 0} {a b : X} → answer a ≡ answer b → a ≡ b
same_answer e = cc

-- ---- THE TWO CONVERSIONS ARE INVERSE
-- from a date to its MJD and back, up to day 1,000,000,000
pub date-of-mjd : (y m d n : ℤ) → mjd_of y m d ≡ answer n → lt_z (pos 1000000000) (n +ℤ pos 2400001) ≡ false
    → gregorian_date (n +ℤ pos 2400001) ≡ date y (nat_abs m) (nat_abs d)
date-of-mjd y m d n e h =
    let z = mjd-valid y m d n e in
    let g = mjd-meaning y m d z in
    let s : g.n ≡ n = same_answer (sym g.given ∙ e) in
    let c : Counted (n +ℤ pos 2400001) = subst (λ (x : ℤ). Counted (x +ℤ pos 2400001)) s g.counted_day in
    let t : date_of (n +ℤ pos 2400001) ≡ date y (nat_abs m) (nat_abs d) =
    subst (λ (x : ℤ). date_of (x +ℤ pos 2400001) ≡ date y (nat_abs m) (nat_abs d)) s g.has_date in
    let f = sym (year-before-first (n +ℤ pos 2400001) c) ∙ ap (λ (u : CalendarDate). lt_z u.year (negsuc 4798)) t ∙ (date-accepted y m d z).year in
    gregorian_is_date_of_day (n +ℤ pos 2400001) (from-lower (n +ℤ pos 2400001) f) h ∙ t

-- from a day number to its date and back, from -68569 to 1,000,000,000, where the date's year is from -4799
pub mjd-of-date : (n : ℤ) → lt_z n (negsuc 68568) ≡ false → lt_z (pos 1000000000) n ≡ false → lt_z (gregorian_date n).year (negsuc 4798) ≡ false
    → mjd_of (gregorian_date n).year (pos (gregorian_date n).month) (pos (gregorian_date n).day) ≡ answer (n -ℤ pos 2400001)
mjd-of-date n l h y =
    let t = gregorian_date n in
    let c = counted-from n l in
    let e = gregorian_is_date_of_day n l h in
    let f : lt_z n (negsuc 31737) ≡ false = sym (year-before-first n c) ∙ ap (λ (u : CalendarDate). lt_z u.year (negsuc 4798)) (sym e) ∙ y in
    let g = mjd-meaning t.year (pos t.month) (pos t.day) (gregorian_valid n ∙ ap (λ (b : Bool). cond b (refusal 1) (answer tt)) f) in
    g.given ∙ ap answer (sym (+ℤ-neg_ℤ_cancel g.n (pos 2400001))
    ∙ ap (λ (x : ℤ). x -ℤ pos 2400001) (one-number-per-date (g.n +ℤ pos 2400001) n g.counted_day c (g.has_date ∙ e)))
