-- From the calendar with March first, over ℕ, to the calendar of the definition: year y is y - 5200, and the two go in step.
-- Assumes nothing.
use mathlib.Core.Path.{◌≡◌, refl, ap, sym, ◌∙◌}
use mathlib.Core.Bool.{Bool, true, false, cond}
use Prim.Native.Nat.{ℕ, zero, suc, ◌+◌, ◌-◌, ◌%◌, ◌≤◌}
use native.Mathlib.Omega.{arith}
use native.Mathlib.Numerals.{add-one}
use lib.Dec.{eqb, ltb, leb}
use lib.IntN.{ℤ, pos, negsuc, nat_abs, suc_ℤ, ◌-ℤ◌, suc_ℤ-+ℤ}
use borrow.Author.Tests.{eqb-true, eqb-false, eq-eqb, ne_eqb, ltb-true, ltb-false}
use Rattle.calendar.specs.declared.CalendarDate.{CalendarDate}
use Rattle.calendar.specs.Calendar.{leap_size, leap_year, lengths, date, next, date_at}
use Rattle.calendar.proofs.Months.{months}
use Rattle.calendar.proofs.March.{MarchDate, at, IsValid, march_length, next_march, march_at, march-at, count, is-march-at}

abbrev pub year_of : ℕ → ℤ
year_of y = pos y -ℤ pos 5200

pub year-next : (y : ℕ) → suc_ℤ (year_of y) ≡ year_of (y + 1)
year-next y = sym (suc_ℤ-+ℤ (pos y) (negsuc 5199)) ∙ ap (λ (n : ℕ). year_of n) (sym (add-one y))

-- ---- the leap rule at y and at y - 5200, a multiple of 400 away
zeros : (a b : ℕ) → (a ≡ 0 → b ≡ 0) → (b ≡ 0 → a ≡ 0) → eqb a 0 ≡ eqb b 0
zeros a b f g = go (eqb b 0) refl
  where
    go : (t : Bool) → eqb b 0 ≡ t → eqb a 0 ≡ t
    go true e = eq-eqb a 0 (g (eqb-true b 0 e))
    go false e = ne_eqb a 0 (λ z. eqb-false b 0 e (f z))

rule : (a b : ℕ) → eqb (a % 400) 0 ≡ eqb (b % 400) 0 → eqb (a % 4) 0 ≡ eqb (b % 4) 0 → eqb (a % 100) 0 ≡ eqb (b % 100) 0 → leap_size a ≡ leap_size b
unfolding leap_size
rule a b p q r = rw (p, q, r)

below : (a b : ℕ) → a + b ≡ 5200 → leap_size a ≡ leap_size b
below a b e =
    rule a b
    (zeros (a % 400) (b % 400) (λ z. omega arith) (λ z. omega arith))
    (zeros (a % 4) (b % 4) (λ z. omega arith) (λ z. omega arith))
    (zeros (a % 100) (b % 100) (λ z. omega arith) (λ z. omega arith))

above : (a b : ℕ) → b ≡ a + 5200 → leap_size a ≡ leap_size b
above a b e =
    rule a b
    (zeros (a % 400) (b % 400) (λ z. omega arith) (λ z. omega arith))
    (zeros (a % 4) (b % 4) (λ z. omega arith) (λ z. omega arith))
    (zeros (a % 100) (b % 100) (λ z. omega arith) (λ z. omega arith))

pub leap-same : (y : ℕ) → leap_year (year_of y) ≡ leap_size y
leap-same y = go (ltb y 5200) refl
  where
    go : (t : Bool) → ltb y 5200 ≡ t → leap_size (nat_abs (cond t (negsuc (5200 - suc y)) (pos (y - 5200)))) ≡ leap_size y
    go true e = below (suc (5200 - suc y)) y (omega (arith, ltb-true y 5200 e))
    go false e = above (y - 5200) y (omega (arith, ltb-false y 5200 e))

-- ---- the date
abbrev pub from_march : MarchDate → CalendarDate
from_march t =
    cond (leb t.m 10)
    (date (year_of t.y) (t.m + 2) t.d)
    (date (year_of (t.y + 1)) (t.m - 10) t.d)

push : (b : Bool) (a c : MarchDate) → cond b (from_march a) (from_march c) ≡ from_march (cond b a c)
push true a c = refl
push false a c = refl

step : (y d m : ℕ) → 1 ≤ m → m ≤ 12 → next (from_march (at y m d)) ≡ from_march (next_march (at y m d))
unfolding next next_march march_length lengths
step y d =
    months (λ m. next (from_march (at y m d)) ≡ from_march (next_march (at y m d)))
    (push (ltb d 31) (at y 1 (d + 1)) (at y 2 1))
    (push (ltb d 30) (at y 2 (d + 1)) (at y 3 1))
    (push (ltb d 31) (at y 3 (d + 1)) (at y 4 1))
    (push (ltb d 30) (at y 4 (d + 1)) (at y 5 1))
    (push (ltb d 31) (at y 5 (d + 1)) (at y 6 1))
    (push (ltb d 31) (at y 6 (d + 1)) (at y 7 1))
    (push (ltb d 30) (at y 7 (d + 1)) (at y 8 1))
    (push (ltb d 31) (at y 8 (d + 1)) (at y 9 1))
    (push (ltb d 30) (at y 9 (d + 1)) (at y 10 1))
    (ap (λ (z : ℤ). cond (ltb d 31) (date (year_of y) 12 (d + 1)) (date z 1 1)) (year-next y) ∙ push (ltb d 31) (at y 10 (d + 1)) (at y 11 1))
    (push (ltb d 31) (at y 11 (d + 1)) (at y 12 1))
    (ap (λ (t : Bool). cond (ltb d (lengths t 2)) (date (year_of (y + 1)) 2 (d + 1)) (date (year_of (y + 1)) 3 1)) (leap-same (y + 1))
    ∙ push (ltb d (march_length y 12)) (at y 12 (d + 1)) (at (y + 1) 1 1))

-- the definition's day k is day k of the calendar with March first
pub in_step : (k : ℕ) → date_at k ≡ from_march (march_at k)
unfolding date_at march_at
in_step zero = refl
in_step (suc k) = ap next (in_step k) ∙ step (march_at k).y (march_at k).d (march_at k).m (march-at k).0.m_low (march-at k).0.m_high

-- a valid date is the date of its count
pub date-with-count : (t : MarchDate) (k : ℕ) → IsValid t → count t ≡ k → date_at k ≡ from_march t
date-with-count t k v e = in_step k ∙ ap (λ (u : MarchDate). from_march u) (sym (is-march-at t v ∙ ap march_at e))
