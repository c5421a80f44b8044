-- The Rust's division of a day number into century, year, month and day gives a March date with that count.
-- Assumes nothing.
use mathlib.Core.Path.{◌≡◌, refl, ap, sym, subst, ◌∙◌}
use mathlib.Core.Logic.{◌⊎◌, inl, inr, ⊎_elim}
use Prim.Native.Nat.{ℕ, ◌+◌, ◌-◌, ◌*◌, ◌/◌, ◌≤◌, ◌<◌}
use native.Mathlib.Omega.{arith}
use mathlib.Core.Bool.{Bool, true, false}
use native.Mathlib.Decide.{dec_lt}
use Rattle.calendar.specs.Calendar.{leap_size}
use Rattle.calendar.proofs.Months.{months}
use Rattle.calendar.proofs.March.{days_before_year, before-year-is, before-year-next, days_before, before-is, Valid, march_length, month-length}
use Rattle.calendar.proofs.March.{february_length, extra}

-- the start of century n
abbrev pub century_start : ℕ → ℕ
century_start n = (146097 * n + 3) / 4

pub cent-low : (l : ℕ) → century_start (4 * l / 146097) ≤ l
cent-low l = omega arith

pub cent-high : (l : ℕ) → l < century_start (4 * l / 146097 + 1)
cent-high l = omega arith

pub cent-size : (n : ℕ) → century_start (n + 1) ≤ century_start n + 36525
cent-size n = omega arith

pub i-low : (l i : ℕ) → i ≡ 4000 * (l + 1) / 1461001 → l ≤ 36524 → 1461 * i / 4 ≤ l
i-low l i e h = omega arith

pub i-high : (l i : ℕ) → i ≡ 4000 * (l + 1) / 1461001 → l ≤ 36524 → l < 1461 * (i + 1) / 4
i-high l i e h = omega arith

pub i-small : (l i : ℕ) → i ≡ 4000 * (l + 1) / 1461001 → l ≤ 36524 → i ≤ 99
i-small l i e h = omega arith

at4 : (n i : ℕ) → (100 * n + i + 300) / 4 ≡ 25 * n + 75 + i / 4
at4 n i = omega arith

at100 : (n i : ℕ) → i ≤ 99 → (100 * n + i + 300) / 100 ≡ n + 3
at100 n i h = omega arith

at400 : (n i : ℕ) → i ≤ 99 → (100 * n + i + 300) / 400 ≡ (n + 3) / 4
at400 n i h = omega arith

cent : (n : ℕ) → century_start n ≡ 36524 * n + (n + 3) / 4
cent n = omega arith

pub years : (i : ℕ) → 1461 * i / 4 ≡ 365 * i + i / 4
years i = omega arith

sum : (s n i q4 q100 q400 r e c f : ℕ) → s + q100 ≡ 365 * (100 * n + i + 300) + q4 + q400 → q4 ≡ 25 * n + 75 + r → q100 ≡ n + 3 → q400 ≡ e → c ≡ 36524 * n + e
    → f ≡ 365 * i + r → s ≡ 109572 + c + f
sum s n i q4 q100 q400 r e c f p q u v w x = omega arith

pub s_at : (n i : ℕ) → i ≤ 99 → days_before_year (100 * n + i + 300) ≡ 109572 + century_start n + 1461 * i / 4
s_at n i h =
    sum (days_before_year (100 * n + i + 300)) n i ((100 * n + i + 300) / 4) ((100 * n + i + 300) / 100) ((100 * n + i + 300) / 400) (i / 4) ((n + 3) / 4)
    (century_start n) (1461 * i / 4)
    (before-year-is (100 * n + i + 300)) (at4 n i) (at100 n i h) (at400 n i h) (cent n) (years i)

pub month-same : (k : ℕ) → 1 ≤ k → k ≤ 12 → 2447 * k / 80 ≡ 367 * k / 12
month-same = months (λ k. 2447 * k / 80 ≡ 367 * k / 12) refl refl refl refl refl refl refl refl refl refl refl refl

-- the year's end is after the day: year i of century n, l days after -4900-03-01
year-end : (n i : ℕ) → i ≤ 99 → days_before_year (100 * n + i + 300 + 1) ≡ 109572 + century_start n + 1461 * (i + 1) / 4
    ⊎ ((i ≡ 99) × (days_before_year (100 * n + i + 300 + 1) ≡ 109572 + century_start (n + 1)))
year-end n i h = go (dec_lt i 99)
  where
    same : 100 * n + i + 300 + 1 ≡ 100 * n + (i + 1) + 300
    same = omega arith

    over : i ≡ 99 → 100 * n + i + 300 + 1 ≡ 100 * (n + 1) + 0 + 300
    over e = omega arith

    go : Dec (i < 99) → days_before_year (100 * n + i + 300 + 1) ≡ 109572 + century_start n + 1461 * (i + 1) / 4
        ⊎ ((i ≡ 99) × (days_before_year (100 * n + i + 300 + 1) ≡ 109572 + century_start (n + 1)))
    go (yes k) = inl (ap days_before_year same ∙ s_at n (i + 1) (omega arith))
    go (no k) =
        let e : i ≡ 99 = omega arith in
        inr (e, ap days_before_year (over e) ∙ s_at (n + 1) 0 (omega arith) ∙ plain (century_start (n + 1)))
      where
        plain : (c : ℕ) → 109572 + c + 1461 * 0 / 4 ≡ 109572 + c
        plain c = omega arith

below : (l n i : ℕ) → i ≤ 99 → l < century_start (n + 1) → l - century_start n < 1461 * (i + 1) / 4 → century_start n ≤ l
    → l + 109572 < days_before_year (100 * n + i + 300 + 1)
below l n i h p q r = ⊎_elim (λ e. first (century_start n) (1461 * (i + 1) / 4) e q r) (λ e. second (century_start (n + 1)) e.1 p) (year-end n i h)
  where
    first : (c f : ℕ) → days_before_year (100 * n + i + 300 + 1) ≡ 109572 + c + f → l - c < f → c ≤ l → l + 109572 < days_before_year (100 * n + i + 300 + 1)
    first c f e u v = rw e (omega arith)

    second : (c : ℕ) → days_before_year (100 * n + i + 300 + 1) ≡ 109572 + c → l < c → l + 109572 < days_before_year (100 * n + i + 300 + 1)
    second c e u = rw e (omega arith)

-- the month k and the day of a year's day b - 31, March first
k_is : (b : ℕ) → (2447 * (80 * b / 2447) ≤ 80 * b) × (80 * b < 2447 * (80 * b / 2447 + 1))
k_is b = omega arith

k_range : (b k : ℕ) → 31 ≤ b → b ≤ 396 → 2447 * k ≤ 80 * b → 80 * b < 2447 * (k + 1) → (1 ≤ k) × (k ≤ 12)
k_range b k l h p q = omega arith

day-low : (b k : ℕ) → 1 ≤ k → k ≤ 12 → 2447 * k ≤ 80 * b → 2447 * k / 80 < b
day-low b = months (λ k. 2447 * k ≤ 80 * b → 2447 * k / 80 < b) (λ p. omega arith) (λ p. omega arith) (λ p. omega arith) (λ p. omega arith) (λ p. omega arith)
    (λ p. omega arith) (λ p. omega arith) (λ p. omega arith) (λ p. omega arith) (λ p. omega arith) (λ p. omega arith) (λ p. omega arith)

-- the code's month, by a shift
month-by-shift : (b k : ℕ) → 1 ≤ k → k ≤ 12 → 2447 * k ≤ 80 * b → 80 * b < 2447 * (k + 1) → (535 * b + 130) / 16384 ≡ k
month-by-shift b = months (λ k. 2447 * k ≤ 80 * b → 80 * b < 2447 * (k + 1) → (535 * b + 130) / 16384 ≡ k)
    (λ p q. omega arith) (λ p q. omega arith) (λ p q. omega arith) (λ p q. omega arith) (λ p q. omega arith) (λ p q. omega arith) (λ p q. omega arith)
    (λ p q. omega arith) (λ p q. omega arith) (λ p q. omega arith) (λ p q. omega arith) (λ p q. omega arith)

-- and what it makes of a month
pub month-shifts : (k : ℕ) → 1 ≤ k → k ≤ 12 → ((k + 5) / 16 ≡ k / 11) × (979 * k / 32 ≡ 2447 * k / 80)
month-shifts = months (λ k. ((k + 5) / 16 ≡ k / 11) × (979 * k / 32 ≡ 2447 * k / 80)) (refl, refl) (refl, refl) (refl, refl) (refl, refl) (refl, refl)
    (refl, refl) (refl, refl) (refl, refl) (refl, refl) (refl, refl) (refl, refl) (refl, refl)

day-high : (b k : ℕ) → 80 * b < 2447 * (k + 1) → b ≤ 2447 * (k + 1) / 80
day-high b k p = omega arith

extra_small : (t : Bool) → extra t ≤ 1
extra_small true = omega arith
extra_small false = omega arith

module _ (y b k : ℕ) (l : 31 ≤ b) (h : b < 396 + extra (leap_size (y + 1))) (p : 2447 * k ≤ 80 * b) (q : 80 * b < 2447 * (k + 1)) where
  range : (1 ≤ k) × (k ≤ 12)
  range = k_range b k l (omega (arith, extra_small (leap_size (y + 1)))) p q

  pub month-sum : 367 * k / 12 + (b - 2447 * k / 80) ≡ b
  month-sum = go (367 * k / 12) (2447 * k / 80) (month-same k range.0 range.1) (day-low b k range.0 range.1 p)
    where
      go : (u v : ℕ) → v ≡ u → v < b → u + (b - v) ≡ b
      go u v e f = omega arith

  in_len : b - 2447 * k / 80 ≤ march_length y k
  in_len = go (dec_lt k 12)
    where
      short : (u u' v v' n : ℕ) → v ≡ u → v' ≡ u' → u + n ≡ u' → b ≤ v' → b - v ≤ n
      short u u' v v' n e f g z = omega arith

      feb : (n x : ℕ) → b < 396 + x → n ≡ 28 + x → b - 367 ≤ n
      feb n x u v = omega arith

      go : Dec (k < 12) → b - 2447 * k / 80 ≤ march_length y k
      go (yes z) =
          short (367 * k / 12) (367 * (k + 1) / 12) (2447 * k / 80) (2447 * (k + 1) / 80) (march_length y k)
          (month-same k range.0 range.1) (month-same (k + 1) (omega arith) (omega arith)) (month-length y k range.0 z) (day-high b k q)
      go (no z) =
          let e : k ≡ 12 = omega (arith, range.1) in
          subst (λ (j : ℕ). b - 2447 * j / 80 ≤ march_length y j) (sym e) (feb (march_length y 12) (extra (leap_size (y + 1))) h (february_length y))

  pub month-good : Valid y k (b - 2447 * k / 80)
  month-good =
      record {
        m_low = range.0;
        m_high = range.1;
        d_low = go (2447 * k / 80) (day-low b k range.0 range.1 p);
        d_high = in_len;
      }
    where
      go : (v : ℕ) → v < b → 1 ≤ b - v
      go v e = omega arith

-- plain sums, over unknowns, so that omega meets no division
a_small : (l c c' a : ℕ) → a ≡ l - c → c ≤ l → l < c' → c' ≤ c + 36525 → a ≤ 36524
a_small l c c' a e p q r = omega arith

b-low : (a f b : ℕ) → b ≡ a + 31 - f → f ≤ a → 31 ≤ b
b-low a f b e h = omega arith

b-sum : (l c a f b s : ℕ) → a ≡ l - c → c ≤ l → b ≡ a + 31 - f → f ≤ a → s ≡ 109572 + c + f → b + s ≡ l + 109572 + 31
b-sum l c a f b s e p g q r = omega arith

b-high : (l b s s' x : ℕ) → b + s ≡ l + 109572 + 31 → l + 109572 < s' → s' ≡ s + 365 + x → b < 396 + x
b-high l b s s' x p q r = omega arith

d_sum : (d s m e b l : ℕ) → d + 31 ≡ s + m + e → m + e ≡ b → b + s ≡ l + 109572 + 31 → d ≡ l + 109572
d_sum d s m e b l p q r = omega arith

year-sum : (l n i o : ℕ) → n ≡ 4 * l / 146097 → l ≤ 1000068569 → i ≤ 99 → o ≤ 1 → 100 * n + i + o < 2147483648
year-sum l n i o e h p q = omega arith

-- the divisions-give-date: l days after -4900-03-01, as the Rust divides it
module _ (l n a i b k : ℕ) (en : n ≡ 4 * l / 146097) (ea : a ≡ l - century_start n) (ei : i ≡ 4000 * (a + 1) / 1461001) (eb : b ≡ a + 31 - 1461 * i / 4)
    (ek : k ≡ 80 * b / 2447) where
  pub c-low : century_start n ≤ l
  c-low = subst (λ (j : ℕ). century_start j ≤ l) (sym en) (cent-low l)

  c-high : l < century_start (n + 1)
  c-high = subst (λ (j : ℕ). l < century_start (j + 1)) (sym en) (cent-high l)

  pub a-high : a ≤ 36524
  a-high = a_small l (century_start n) (century_start (n + 1)) a ea c-low c-high (cent-size n)

  pub year-small : i ≤ 99
  year-small = i-small a i ei a-high

  pub f-low : 1461 * i / 4 ≤ a
  f-low = i-low a i ei a-high

  before-next : l + 109572 < days_before_year (100 * n + i + 300 + 1)
  before-next =
      below l n i year-small c-high
      (subst (λ (j : ℕ). j < 1461 * (i + 1) / 4) ea (i-high a i ei a-high)) c-low

  b-is : b + days_before_year (100 * n + i + 300) ≡ l + 109572 + 31
  b-is = b-sum l (century_start n) a (1461 * i / 4) b (days_before_year (100 * n + i + 300)) ea c-low eb f-low (s_at n i year-small)

  pub b-least : 31 ≤ b
  b-least = b-low a (1461 * i / 4) b eb f-low

  pub b-most : b < 396 + extra (leap_size (100 * n + i + 300 + 1))
  b-most = b-high l b (days_before_year (100 * n + i + 300)) (days_before_year (100 * n + i + 300 + 1)) _ b-is before-next
      (before-year-next (100 * n + i + 300))

  p : 2447 * k ≤ 80 * b
  p = subst (λ (j : ℕ). 2447 * j ≤ 80 * b) (sym ek) (k_is b).0

  q : 80 * b < 2447 * (k + 1)
  q = subst (λ (j : ℕ). 80 * b < 2447 * (j + 1)) (sym ek) (k_is b).1

  pub good : Valid (100 * n + i + 300) k (b - 2447 * k / 80)
  good = month-good (100 * n + i + 300) b k b-least b-most p q

  pub counts : days_before (100 * n + i + 300) k (b - 2447 * k / 80) ≡ l + 109572
  counts = d_sum (days_before (100 * n + i + 300) k (b - 2447 * k / 80)) (days_before_year (100 * n + i + 300)) (367 * k / 12) (b - 2447 * k / 80) b l
      (before-is (100 * n + i + 300) k (b - 2447 * k / 80) good.m_low good.d_low) (month-sum (100 * n + i + 300) b k b-least b-most p q) b-is

  pub month_is : (535 * b + 130) / 16384 ≡ k
  month_is = month-by-shift b k good.m_low good.m_high p q

  -- the year + 4900 fits 31 bits
  pub year_fits : l ≤ 1000068569 → 100 * n + i + k / 11 < 2147483648
  year_fits h = year-sum l n i (k / 11) en h year-small (omega (arith, good.m_high))
