-- The calendar with March first, over ℕ: year y runs from March of y to February of y + 1. Its count of days is one formula, which grows by one a day, so that
-- no two dates have one count. Assumes nothing.
use mathlib.Core.Path.{◌≡◌, refl, ap, sym, subst, ◌∙◌}
use mathlib.Core.Bool.{Bool, true, false, cond, not, ◌&&◌, ◌||◌}
use Prim.Native.Nat.{ℕ, zero, suc, ◌+◌, ◌-◌, ◌*◌, ◌/◌, ◌%◌, ◌≤◌, ◌<◌}
use native.Mathlib.Omega.{arith}
use native.Mathlib.Decide.{dec_lt}
use lib.Dec.{eqb, ltb, leb}
use borrow.Author.Tests.{eqb-true, eqb-false, ltb-true, ltb-false}
use Rattle.calendar.specs.Calendar.{leap_size, lengths}
use Rattle.calendar.proofs.Months.{months}

-- ---- the days before year y: one formula, and the step
unfoldable pub days_before_year : ℕ → ℕ
days_before_year y = 365 * y + y / 4 + y / 400 - y / 100

pub before-year-is : (y : ℕ) → days_before_year y + y / 100 ≡ 365 * y + y / 4 + y / 400
unfolding days_before_year
before-year-is y = omega arith

up4 : (y : ℕ) → (y + 1) % 4 ≡ 0 → (y + 1) / 4 ≡ y / 4 + 1
up4 y h = omega arith

up100 : (y : ℕ) → (y + 1) % 100 ≡ 0 → (y + 1) / 100 ≡ y / 100 + 1
up100 y h = omega arith

up400 : (y : ℕ) → (y + 1) % 400 ≡ 0 → (y + 1) / 400 ≡ y / 400 + 1
up400 y h = omega arith

no4 : (y : ℕ) → ((y + 1) % 4 ≡ 0 → ⊥) → (y + 1) / 4 ≡ y / 4
no4 y h = omega arith

no100 : (y : ℕ) → ((y + 1) % 100 ≡ 0 → ⊥) → (y + 1) / 100 ≡ y / 100
no100 y h = omega arith

no400 : (y : ℕ) → ((y + 1) % 400 ≡ 0 → ⊥) → (y + 1) / 400 ≡ y / 400
no400 y h = omega arith

by100 : (n : ℕ) → n % 400 ≡ 0 → n % 100 ≡ 0
by100 n h = omega arith

by4 : (n : ℕ) → n % 100 ≡ 0 → n % 4 ≡ 0
by4 n h = omega arith

-- the days of the year from March of y, less 365
abbrev pub extra : Bool → ℕ
extra true = 1
extra false = 0

sum : (y s s' a b c a' b' c' e : ℕ) → s + b ≡ 365 * y + a + c → s' + b' ≡ 365 * (y + 1) + a' + c' → a' + c' + b ≡ a + c + b' + e → s' ≡ s + 365 + e
sum y s s' a b c a' b' c' e p q r = omega arith

pub before-year-next : (y : ℕ) → days_before_year (y + 1) ≡ days_before_year y + 365 + extra (leap_size (y + 1))
unfolding leap_size
before-year-next y = go (eqb ((y + 1) % 400) 0) refl (eqb ((y + 1) % 4) 0) refl (eqb ((y + 1) % 100) 0) refl
  where
    put : (e : ℕ) → (y + 1) / 4 + (y + 1) / 400 + y / 100 ≡ y / 4 + y / 400 + (y + 1) / 100 + e → days_before_year (y + 1) ≡ days_before_year y + 365 + e
    put e r = sum y (days_before_year y) (days_before_year (y + 1)) (y / 4) (y / 100) (y / 400) ((y + 1) / 4) ((y + 1) / 100) ((y + 1) / 400) e
        (before-year-is y)
        (before-year-is (y + 1)) r

    z400 : eqb ((y + 1) % 400) 0 ≡ true → (y + 1) % 400 ≡ 0
    z400 p = eqb-true _ _ p

    go : (a : Bool) → eqb ((y + 1) % 400) 0 ≡ a → (b : Bool) → eqb ((y + 1) % 4) 0 ≡ b → (c : Bool) → eqb ((y + 1) % 100) 0 ≡ c
        → days_before_year (y + 1) ≡ days_before_year y + 365 + extra (a || (b && not c))
    go true p b q c r = put 1 (rw (up4 y (by4 _ (by100 _ (z400 p))), up100 y (by100 _ (z400 p)), up400 y (z400 p)) (omega arith))
    go false p true q true r = put 0 (rw (up4 y (eqb-true _ _ q), up100 y (eqb-true _ _ r), no400 y (eqb-false _ _ p)) (omega arith))
    go false p true q false r = put 1 (rw (up4 y (eqb-true _ _ q), no100 y (eqb-false _ _ r), no400 y (eqb-false _ _ p)) (omega arith))
    go false p false q c r =
        put 0
        (rw (no4 y (eqb-false _ _ q), no100 y (λ e. eqb-false _ _ q (by4 _ e)), no400 y (eqb-false _ _ p)) (omega arith))

-- the days before year y grow
pub before-year-grows : (y n : ℕ) → days_before_year (y + 1) ≤ days_before_year (y + 1 + n)
before-year-grows y zero = omega (arith, ap days_before_year (at_zero y))
  where
    at_zero : (y : ℕ) → y + 1 + 0 ≡ y + 1
    at_zero y = omega arith
before-year-grows y (suc n) = omega (arith, before-year-grows y n, before-year-next (y + 1 + n), ap days_before_year (at_suc y n))
  where
    at_suc : (y n : ℕ) → y + 1 + suc n ≡ y + 1 + n + 1
    at_suc y n = omega arith

pub before-later-year : (x y : ℕ) → x < y → days_before_year (x + 1) ≤ days_before_year y
before-later-year x y h = subst (λ (k : ℕ). days_before_year (x + 1) ≤ days_before_year k) (same x y h) (before-year-grows x (y - (x + 1)))
  where
    same : (x y : ℕ) → x < y → x + 1 + (y - (x + 1)) ≡ y
    same x y h = omega arith

-- ---- months, March first: month m of year y has march_length y m days; (367 * m) / 12 is 30 more than the days before it
unfoldable pub march_length : ℕ → ℕ → ℕ
march_length y m = cond (leb m 10) (lengths false (m + 2)) (lengths (leap_size (y + 1)) (m - 10))

pub record Valid (y m d : ℕ) : Type 0 where
  pub m_low : 1 ≤ m
  pub m_high : m ≤ 12
  pub d_low : 1 ≤ d
  pub d_high : d ≤ march_length y m

pub month-length : (y m : ℕ) → 1 ≤ m → m < 12 → (367 * m) / 12 + march_length y m ≡ (367 * (m + 1)) / 12
unfolding march_length lengths
month-length y m l h = months (λ k. k < 12 → (367 * k) / 12 + march_length y k ≡ (367 * (k + 1)) / 12) (λ _. refl) (λ _. refl) (λ _. refl) (λ _. refl)
    (λ _. refl) (λ _. refl) (λ _. refl) (λ _. refl) (λ _. refl) (λ _. refl) (λ _. refl) (λ q. absurd (omega arith)) m l (omega arith) h

pub february_length : (y : ℕ) → march_length y 12 ≡ 28 + extra (leap_size (y + 1))
unfolding march_length lengths
february_length y = go (leap_size (y + 1))
  where
    go : (b : Bool) → lengths b 2 ≡ 28 + extra b
    go true = refl
    go false = refl

-- the days before a date
unfoldable pub days_before : ℕ → ℕ → ℕ → ℕ
days_before y m d = days_before_year y + (367 * m) / 12 + d - 31

pub before-is : (y m d : ℕ) → 1 ≤ m → 1 ≤ d → days_before y m d + 31 ≡ days_before_year y + (367 * m) / 12 + d
unfolding days_before
before-is y m d h k = omega arith

pub step-day : (y m d : ℕ) → 1 ≤ m → 1 ≤ d → days_before y m (d + 1) ≡ days_before y m d + 1
step-day y m d h k = omega (arith, before-is y m d h k, before-is y m (d + 1) h (omega arith))

pub step-month : (y m : ℕ) → 1 ≤ m → m < 12 → 1 ≤ march_length y m → days_before y (m + 1) 1 ≡ days_before y m (march_length y m) + 1
step-month y m h l k = omega (arith, before-is y m (march_length y m) h k, before-is y (m + 1) 1 (omega arith) (omega arith), month-length y m h l)

pub step-year : (y : ℕ) → days_before (y + 1) 1 1 ≡ days_before y 12 (march_length y 12) + 1
step-year y = omega (
  arith,
  before-is y 12 (march_length y 12) (omega arith) (omega (arith, february_length y)),
  before-is (y + 1) 1 1 (omega arith) (omega arith),
  february_length y,
  before-year-next y,
)

-- a date lies in its year, and in its month
in_sum : (y m d : ℕ) → Valid y m d → (367 * m) / 12 + d ≤ 395 + extra (leap_size (y + 1))
in_sum y m d v = go (dec_lt m 12)
  where
    go : Dec (m < 12) → (367 * m) / 12 + d ≤ 395 + extra (leap_size (y + 1))
    go (yes h) = omega (arith, month-length y m v.m_low h)
    go (no h) =
        let e : m ≡ 12 = omega arith in
        let f : d ≤ march_length y 12 = subst (λ (k : ℕ). d ≤ march_length y k) e v.d_high in
        omega (arith, february_length y)

pub in_year : (y m d : ℕ) → Valid y m d → (days_before_year y ≤ days_before y m d) × (days_before y m d < days_before_year (y + 1))
in_year y m d v = omega (arith, in_sum y m d v, before-is y m d v.m_low v.d_low, before-year-next y)

not_less_year : (y m d y' m' d' : ℕ) → Valid y m d → Valid y' m' d' → days_before y m d ≡ days_before y' m' d' → y < y' → ⊥
not_less_year y m d y' m' d' v v' e h = omega (arith, in_year y m d v, in_year y' m' d' v', before-later-year y y' h)

pub same-year : (y m d y' m' d' : ℕ) → Valid y m d → Valid y' m' d' → days_before y m d ≡ days_before y' m' d' → y ≡ y'
same-year y m d y' m' d' v v' e =
    let a : y < y' → ⊥ = not_less_year y m d y' m' d' v v' e in
    let b : y' < y → ⊥ = not_less_year y' m' d' y m d v' v (sym e) in
    go (dec_lt y y') (dec_lt y' y) a b
  where
    go : Dec (y < y') → Dec (y' < y) → (y < y' → ⊥) → (y' < y → ⊥) → y ≡ y'
    go (yes h) q a b = absurd (a h)
    go (no h) (yes k) a b = absurd (b k)
    go (no h) (no k) a b = omega arith

not_less_month : (y m d m' d' : ℕ) → Valid y m d → Valid y m' d' → days_before y m d ≡ days_before y m' d' → m < m' → ⊥
not_less_month y m d m' d' v v' e h =
    let u : m < 12 = omega (arith, v'.m_high) in
    let w : (367 * (m + 1)) / 12 ≤ (367 * m') / 12 = grows (m + 1) m' (omega arith) in
    omega (arith, before-is y m d v.m_low v.d_low, before-is y m' d' v'.m_low v'.d_low, month-length y m v.m_low u)
  where
    grows : (a b : ℕ) → a ≤ b → (367 * a) / 12 ≤ (367 * b) / 12
    grows a b h = omega arith

pub same_month : (y m d m' d' : ℕ) → Valid y m d → Valid y m' d' → days_before y m d ≡ days_before y m' d' → m ≡ m'
same_month y m d m' d' v v' e = go (dec_lt m m') (dec_lt m' m)
  where
    go : Dec (m < m') → Dec (m' < m) → m ≡ m'
    go (yes h) q = absurd (not_less_month y m d m' d' v v' e h)
    go (no h) (yes k) = absurd (not_less_month y m' d' m d v' v (sym e) k)
    go (no h) (no k) = omega arith

-- two dates with one count are one
pub record MarchDate : Type 0 where
  pub y : ℕ
  pub m : ℕ
  pub d : ℕ

abbrev pub at : ℕ → ℕ → ℕ → MarchDate
at y m d = record { y = y; m = m; d = d }

abbrev pub IsValid : MarchDate → Type 0
IsValid t = Valid t.y t.m t.d

abbrev pub count : MarchDate → ℕ
count t = days_before t.y t.m t.d

pub one-count : (t u : MarchDate) → IsValid t → IsValid u → count t ≡ count u → t ≡ u
one-count t u v w e = λ i. record { y = p i; m = q i; d = r i }
  where
    p : t.y ≡ u.y
    p = same-year t.y t.m t.d u.y u.m u.d v w e

    v' : Valid u.y t.m t.d
    v' = subst (λ (k : ℕ). Valid k t.m t.d) p v

    e' : days_before u.y t.m t.d ≡ count u
    e' = subst (λ (k : ℕ). days_before k t.m t.d ≡ count u) p e

    q : t.m ≡ u.m
    q = same_month u.y t.m t.d u.m u.d v' w e'

    e'' : days_before u.y u.m t.d ≡ count u
    e'' = subst (λ (k : ℕ). days_before u.y k t.d ≡ count u) q e'

    r : t.d ≡ u.d
    r = omega (arith, e'', before-is u.y u.m t.d w.m_low v.d_low, before-is u.y u.m u.d w.m_low w.d_low)

-- ---- the next day, and each day from 0000-03-01
unfoldable pub next_march : MarchDate → MarchDate
next_march t =
    cond (ltb t.d (march_length t.y t.m))
    (at t.y t.m (t.d + 1))
    (cond (ltb t.m 12) (at t.y (t.m + 1) 1) (at (t.y + 1) 1 1))

-- every month has a day
pub length-positive : (y m : ℕ) → 1 ≤ m → m ≤ 12 → 1 ≤ march_length y m
length-positive y m l h = go (dec_lt m 12)
  where
    go : Dec (m < 12) → 1 ≤ march_length y m
    go (yes k) = omega (arith, month-length y m l k)
    go (no k) = subst (λ (j : ℕ). 1 ≤ march_length y j) (sym same) (omega (arith, february_length y))
      where
        same : m ≡ 12
        same = omega arith

ltb_suc : (a b : ℕ) → ltb a b ≡ true → a + 1 ≤ b
ltb_suc a b e = omega (arith, ltb-true a b e)

pub next-ok : (t : MarchDate) → IsValid t → IsValid (next_march t) × (count (next_march t) ≡ count t + 1)
unfolding next_march
next-ok t v = go (ltb t.d (march_length t.y t.m)) refl (ltb t.m 12) refl
  where
    go : (a : Bool) → ltb t.d (march_length t.y t.m) ≡ a → (b : Bool) → ltb t.m 12 ≡ b
        → IsValid (cond a (at t.y t.m (t.d + 1)) (cond b (at t.y (t.m + 1) 1) (at (t.y + 1) 1 1)))
        × (count (cond a (at t.y t.m (t.d + 1)) (cond b (at t.y (t.m + 1) 1) (at (t.y + 1) 1 1))) ≡ count t + 1)
    go true p b q = (
      record {
        m_low = v.m_low;
        m_high = v.m_high;
        d_low = omega arith;
        d_high = ltb_suc t.d (march_length t.y t.m) p;
      },
      (step-day t.y t.m t.d v.m_low v.d_low),
    )
    go false p true q =
        let h : t.m < 12 = ltb-true _ _ q in
        let e : t.d ≡ march_length t.y t.m = omega (arith, ltb-false t.d (march_length t.y t.m) p, v.d_high) in (
          record {
            m_low = omega arith;
            m_high = omega arith;
            d_low = omega arith;
            d_high = length-positive t.y (t.m + 1) (omega arith) (omega arith);
          },
          (step-month t.y t.m v.m_low h (omega (arith, v.d_low, v.d_high))) ∙ ap (λ (x : ℕ). days_before t.y t.m x + 1) (sym e),
        )
    go false p false q =
        let f : t.m ≡ 12 = omega (arith, ltb-false t.m 12 q, v.m_high) in
        let e : t.d ≡ march_length t.y t.m = omega (arith, ltb-false t.d (march_length t.y t.m) p, v.d_high) in (
          record {
            m_low = omega arith;
            m_high = omega arith;
            d_low = omega arith;
            d_high = length-positive (t.y + 1) 1 (omega arith) (omega arith);
          },
          (step-year t.y) ∙ sym (ap (λ (x : ℕ). days_before t.y t.m x + 1) e ∙ ap (λ (x : ℕ). days_before t.y x (march_length t.y x) + 1) f),
        )

unfoldable pub march_at : ℕ → MarchDate
march_at zero = at 0 1 1
march_at (suc k) = next_march (march_at k)

start : days_before 0 1 1 ≡ 0
unfolding days_before days_before_year
start = refl

pub march-at : (k : ℕ) → IsValid (march_at k) × (count (march_at k) ≡ k)
unfolding march_at
march-at zero = (record { m_low = omega arith; m_high = omega arith; d_low = omega arith; d_high = length-positive 0 1 (omega arith) (omega arith) }, start)
march-at (suc k) =
    let h = march-at k in
    let n = next-ok (march_at k) h.0 in
    (n.0, omega (arith, n.1, h.1))

-- a valid date with count k is the date of day k
pub is-march-at : (t : MarchDate) → IsValid t → t ≡ march_at (count t)
is-march-at t v =
    let h = march-at (count t) in one-count t (march_at (count t)) v h.0 (sym h.1)
