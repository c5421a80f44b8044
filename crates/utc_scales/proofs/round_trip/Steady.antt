-- The exact relation is continuous and changes slowly: of two instants less than a day apart TAI-UTC differs by at most 1/86400 of the time between them. A
-- leap second is spread over its day, so that midnight is no jump. Where none is left out, TAI-UTC is later never less. Assumes nothing.
use mathlib.Core.Path.{◌≡◌, sym, ap, ◌∙◌, subst}
use mathlib.Core.Logic.{◌⊎◌, inl, inr}
use mathlib.Core.List.{List}
use Prim.Native.Nat.{ℕ, suc, ◌+◌, ◌-◌, ◌*◌, ◌≤◌, ◌<◌}
use native.Mathlib.Nat.{add-mul, mul-le-mul_right, eq-or-lt_of_le, lt_of_mul-lt-mul_right}
use native.Mathlib.Omega.{arith}
use native.Mathlib.Decide.{dec_le}
use Rattle.leap_table.specs.rows.Table.{Row, most_seconds}
use Rattle.rounding.specs.Value.{L}
use Rattle.utc_scales.specs.round_trip.UtcDays.{seconds_on, leap_after, short_after, Ending, ends_plain, ends_longer, ends_shorter, WholeSeconds}
use Rattle.utc_scales.proofs.round_trip.Units.{next_midnight}

-- TAI-UTC at the fraction f of day n, in seconds times L
abbrev pub tai_utc_at : List Row → ℕ → ℕ → ℕ
tai_utc_at rows n f = seconds_on rows n * L + leap_after rows n * f - short_after rows n * f

-- v is not after v', and g and g' differ by at most as much as they do
pub record Slow (v g v' g' : ℕ) : Type 0 where
  pub up : v ≤ v'
  pub more : g + v ≤ g' + v'
  pub less : g' + v ≤ g + v'

-- ---- on one day, and over one midnight: d is TAI-UTC at the start of the first day, and x at that of the second
same-day : {s r : ℕ} (d N f e : ℕ) → Ending s r → f < L → e < L → L ≤ d → N + f ≤ N + e → Slow (N + f) (d + s * f - r * f) (N + e) (d + s * e - r * e)
same-day d N f e ends_plain b c k l = record { up = l; more = omega arith; less = omega arith }
same-day d N f e ends_longer b c k l = record { up = l; more = omega arith; less = omega arith }
same-day d N f e ends_shorter b c k l = record { up = l; more = omega arith; less = omega arith }

next-day : {s r s' r' : ℕ} (d x N f e : ℕ) → Ending s r → Ending s' r' → f < L → e < L → L ≤ d → L ≤ x → d + s * L ≡ x + r * L
    → Slow (N + f) (d + s * f - r * f) (L + N + e) (x + s' * e - r' * e)
next-day d x N f e ends_plain ends_plain b c k j i = record { up = omega arith; more = omega arith; less = omega arith }
next-day d x N f e ends_plain ends_longer b c k j i = record { up = omega arith; more = omega arith; less = omega arith }
next-day d x N f e ends_plain ends_shorter b c k j i = record { up = omega arith; more = omega arith; less = omega arith }
next-day d x N f e ends_longer ends_plain b c k j i = record { up = omega arith; more = omega arith; less = omega arith }
next-day d x N f e ends_longer ends_longer b c k j i = record { up = omega arith; more = omega arith; less = omega arith }
next-day d x N f e ends_longer ends_shorter b c k j i = record { up = omega arith; more = omega arith; less = omega arith }
next-day d x N f e ends_shorter ends_plain b c k j i = record { up = omega arith; more = omega arith; less = omega arith }
next-day d x N f e ends_shorter ends_longer b c k j i = record { up = omega arith; more = omega arith; less = omega arith }
next-day d x N f e ends_shorter ends_shorter b c k j i = record { up = omega arith; more = omega arith; less = omega arith }

-- ---- V = n L + f, at most V' = m L + e, which is less than a day later: m is n, or the next day
pub one-or-next : (n m f e : ℕ) → f < L → e < L → n * L + f ≤ m * L + e → m * L + e < n * L + f + L → (m ≡ n) ⊎ (m ≡ suc n)
one-or-next n m f e b c l k =
    let before : n * L < suc m * L = low (n * L) (m * L) l (next_midnight m) in
    let after : m * L < suc (suc n) * L = high (n * L) (m * L) k (next_midnight n) (next_midnight (suc n)) in
    near n m (lt_of_mul-lt-mul_right L before) (lt_of_mul-lt-mul_right L after)
  where
    low : (N M : ℕ) {M' : ℕ} → N + f ≤ M + e → M' ≡ L + M → N < M'
    low N M q s = omega arith

    high : (N M : ℕ) {N' N'' : ℕ} → M + e < N + f + L → N' ≡ L + N → N'' ≡ L + N' → M < N''
    high N M q s u = omega arith

    near : (n m : ℕ) → n < suc m → m < suc (suc n) → (m ≡ n) ⊎ (m ≡ suc n)
    near n m p q = let l : n ≤ m = omega arith in pick (eq-or-lt_of_le l)
      where
        pick : (n ≡ m) ⊎ (n < m) → (m ≡ n) ⊎ (m ≡ suc n)
        pick (inl x) = inl (sym x)
        pick (inr x) = inr (omega arith)

module _ {rows : List Row} where
  -- TAI-UTC at midnight, of either day
  first-least : (n : ℕ) → WholeSeconds rows n → L ≤ seconds_on rows n * L
  first-least n t = go (seconds_on rows n * L) (mul-le-mul_right L t.least)
    where
      go : (d : ℕ) → 10 * L ≤ d → L ≤ d
      go d k = omega arith

  at_midnight : (n : ℕ) → WholeSeconds rows n
      → seconds_on rows n * L + leap_after rows n * L ≡ seconds_on rows (suc n) * L + short_after rows n * L
  at_midnight n t = sym (add-mul (seconds_on rows n) (leap_after rows n) L) ∙ ap (λ (z : ℕ). z * L) t.next ∙ add-mul (seconds_on rows (suc n))
      (short_after rows n) L

  pub steady : (n m f e : ℕ) → WholeSeconds rows n → WholeSeconds rows m → f < L → e < L → n * L + f ≤ m * L + e → m * L + e < n * L + f + L
      → Slow (n * L + f) (tai_utc_at rows n f) (m * L + e) (tai_utc_at rows m e)
  steady n m f e t r b c l k = go (one-or-next n m f e b c l k)
    where
      go : (m ≡ n) ⊎ (m ≡ suc n) → Slow (n * L + f) (tai_utc_at rows n f) (m * L + e) (tai_utc_at rows m e)
      go (inl q) =
          subst (λ (x : ℕ). Slow (n * L + f) (tai_utc_at rows n f) (x * L + e) (tai_utc_at rows x e)) (sym q)
          (same-day (seconds_on rows n * L) (n * L) f e t.ending b c (first-least n t) (subst (λ (x : ℕ). n * L + f ≤ x * L + e) q l))
      go (inr q) =
          let r' = subst (λ (x : ℕ). WholeSeconds rows x) q r in
          subst (λ (x : ℕ). Slow (n * L + f) (tai_utc_at rows n f) (x * L + e) (tai_utc_at rows x e)) (sym q)
          (subst (λ (z : ℕ). Slow (n * L + f) (tai_utc_at rows n f) (z + e) (tai_utc_at rows (suc n) e)) (sym (next_midnight n))
          (next-day (seconds_on rows n * L) (seconds_on rows (suc n) * L) (n * L) f e t.ending r'.ending b c (first-least n t) (first-least (suc n) r')
          (at_midnight n t)))

  -- in either order
  pub either : (n m f e : ℕ) → WholeSeconds rows n → WholeSeconds rows m → f < L → e < L → m * L + e < n * L + f + L → n * L + f < m * L + e + L
      → Slow (n * L + f) (tai_utc_at rows n f) (m * L + e) (tai_utc_at rows m e) ⊎ Slow (m * L + e) (tai_utc_at rows m e) (n * L + f) (tai_utc_at rows n f)
  either n m f e t r b c k l = go (dec_le (n * L + f) (m * L + e))
    where
      weak : (x y : ℕ) → (x ≤ y → ⊥) → y ≤ x
      weak x y q = omega arith

      go : Dec (n * L + f ≤ m * L + e)
          → Slow (n * L + f) (tai_utc_at rows n f) (m * L + e) (tai_utc_at rows m e) ⊎ Slow (m * L + e) (tai_utc_at rows m e) (n * L + f) (tai_utc_at rows n f)
      go (yes j) = inl (steady n m f e t r b c j k)
      go (no j) = inr (steady m n e f r t c b (weak (n * L + f) (m * L + e) j) l)

-- ---- its range
-- the share of a leap second, inserted or left out, is at most the fraction
pub share : {s r : ℕ} (f : ℕ) → Ending s r → (s * f ≤ f) × (r * f ≤ f)
share f ends_plain = omega arith
share f ends_longer = omega arith
share f ends_shorter = omega arith

pub few_seconds : {rows : List Row} (n f : ℕ) → WholeSeconds rows n → f < L → (10 * L ≤ tai_utc_at rows n f) × (tai_utc_at rows n f ≤ most_seconds * L)
few_seconds {rows} n f t b =
    go (seconds_on rows n * L) (seconds_on rows (suc n) * L) t.ending (mul-le-mul_right L t.least) (mul-le-mul_right L t.most)
    (mul-le-mul_right L t.least_next) (mul-le-mul_right L t.most_next) (at_midnight n t)
  where
    go : {s r : ℕ} (d x : ℕ) → Ending s r → 10 * L ≤ d → d ≤ most_seconds * L → 10 * L ≤ x → x ≤ most_seconds * L → d + s * L ≡ x + r * L
        → (10 * L ≤ d + s * f - r * f) × (d + s * f - r * f ≤ most_seconds * L)
    go d x ends_plain k l m j i = omega (arith, b)
    go d x ends_longer k l m j i = omega (arith, b)
    go d x ends_shorter k l m j i = omega (arith, b)

-- the share of what is left out is no more than TAI-UTC
pub share_less : {rows : List Row} (n f : ℕ) → WholeSeconds rows n → f < L → short_after rows n * f ≤ seconds_on rows n * L
share_less {rows} n f t b = go (short_after rows n * f) (seconds_on rows n * L) (share f t.ending).1 (first-least n t)
  where
    go : (x d : ℕ) → x ≤ f → L ≤ d → x ≤ d
    go x d k l = omega (arith, b)
