-- The difference of two dates against the exact one: within 161 microseconds for dates of some thousand years, within 39 picoseconds for first parts in whole
-- or half days that are at most a day apart. Assumes nothing.
use mathlib.Core.Path.{◌≡◌, sym, subst₂}
use Prim.Native.Nat.{ℕ, ◌+◌, ◌*◌, ◌^◌, ◌≤◌, ◌<◌}
use native.Mathlib.Nat.{add-mul, mul-le-mul_right}
use native.Mathlib.Omega.{arith}
use lib.Dec.{lit≤}
use lib.Ieee.{binary64, sub}
use Rattle.rounding.specs.Value.{Val, L}
use Rattle.rounding.proofs.Value.{L-pos}
use Rattle.rounding.proofs.Exact.{sub_exact}
use Rattle.julian.specs.declared.JulianDate.{JulianDate}
use Rattle.julian.specs.JulianDate.{difference}
use Rattle.rounding.specs.Picoseconds.{day_ps}
use Rattle.julian.specs.laws.Distances.{UpTo, HalfDays, DifferenceNear}
use Rattle.julian.proofs.laws.Steps.{E, L-E, H, L-H, half-val, step-add, step-sub, within_of, worth-of}

-- the three steps, for first parts whose difference is in hand
joined : (p n q m p2 n2 q2 m2 x y z w s t r r1 r2 r3 : ℕ) → x + (n + q) ≤ y + (p + m) + r1 → z + (n2 + q2) ≤ w + (p2 + m2) + r2
    → s + (y + w) ≤ t + (x + z) + r3 → r1 + r2 + r3 ≤ r
    → s + (n + n2 + (q + q2)) ≤ t + (p + p2 + (m + m2)) + r
joined p n q m p2 n2 q2 m2 x y z w s t r r1 r2 r3 a b c h = omega arith

-- FOR DATES of first parts of at most 8,000,000 days and second parts of at most a day: within 161 microseconds
pub difference-near : (d e : JulianDate) → UpTo 8000000 d.jd1 → UpTo 1 d.jd2 → UpTo 8000000 e.jd1 → UpTo 1 e.jd2 → DifferenceNear 161000000 d e
unfolding difference
difference-near d e a b c f =
    let x = step-sub 24 (lit≤ tt) (omega (arith, a.high, c.low, L-pos)) (omega (arith, a.low, c.high, L-pos)) a.val c.val in
    let y = step-sub 2 (lit≤ tt) (omega (arith, b.high, f.low, L-pos)) (omega (arith, b.low, f.high, L-pos)) b.val f.val in
    let z = step-add 24 (lit≤ tt) (omega (arith, a.high, c.low, b.high, f.low, x.over, y.over, L-pos, L-E))
    (omega (arith, a.low, c.high, b.low, f.high, x.under, y.under, L-pos, L-E)) x.val y.val in
    record {
      p = a.p + b.p;
      n = a.n + b.n;
      q = c.p + f.p;
      m = c.n + f.n;
      first = worth-of a.val b.val;
      second = worth-of c.val f.val;
      near = within_of 161000000 {r = 33554436 * E} (bound E L L-E) (record {
        p = z.p;
        n = z.n;
        val = z.val;
        over = joined a.p a.n c.p c.n b.p b.n f.p f.n x.p x.n y.p y.n z.p z.n (33554436 * E) (2 ^ 24 * E)
            (2 ^ 2 * E) (2 ^ 24 * E) x.over y.over z.over (omega arith);
        under = joined a.n a.p c.n c.p b.n b.p f.n f.p x.n x.p y.n y.p z.n z.p (33554436 * E) (2 ^ 24 * E)
            (2 ^ 2 * E) (2 ^ 24 * E) x.under y.under z.under (omega arith);
      });
    }
  where
    bound : (e l : ℕ) → l ≡ 18014398509481984 * e → day_ps * (33554436 * e) ≤ 161000000 * l
    bound e l h = omega arith

-- ---- first parts in half days

module _ (d e : JulianDate) (a : HalfDays (2 ^ 50) d.jd1) (b : UpTo 1 d.jd2) (c : HalfDays (2 ^ 50) e.jd1) (f : UpTo 1 e.jd2)
    (later : a.p + c.n ≤ a.n + c.p + 2) (earlier : a.n + c.p ≤ a.p + c.n + 2) where
  -- their difference is exact
  firsts : Val (sub binary64 d.jd1 e.jd1) (a.p * H + c.n * H) (a.n * H + c.p * H) L
  firsts =
      subst₂ (λ (x y : ℕ). Val (sub binary64 d.jd1 e.jd1) x y L) (add-mul a.p c.n H) (add-mul a.n c.p H)
      (half-val (sub_exact 1 (lit≤ tt) (omega arith) (omega arith) a.val c.val))

  apart : (p n q m : ℕ) → p + m ≤ n + q + 2 → p * H + m * H ≤ n * H + q * H + L
  apart p n q m h = go (p + m) (n + q) (p * H + m * H) (n * H + q * H) (sym (add-mul p m H)) (sym (add-mul n q H)) h
    where
      go : (x y s t : ℕ) → s ≡ x * H → t ≡ y * H → x ≤ y + 2 → s ≤ t + L
      go x y s t i j k = last (x * H) (y * H) ((y + 2) * H) s t H L i j (mul-le-mul_right H k) (add-mul y 2 H) L-H
        where
          last : (x y z s t h l : ℕ) → s ≡ x → t ≡ y → x ≤ z → z ≡ y + 2 * h → l ≡ 2 * h → s ≤ t + l
          last x y z s t h l i j k m n = omega arith

  -- FOR DATES of first parts in whole or half days, at most a day apart, and second parts of at most a day: within 39 picoseconds
  pub difference-short : DifferenceNear 39 d e
  unfolding difference
  difference-short =
      let y = step-sub 2 (lit≤ tt) (omega (arith, b.high, f.low, L-pos)) (omega (arith, b.low, f.high, L-pos)) b.val f.val in
      let g = apart a.p a.n c.p c.n later in
      let k = apart a.n a.p c.n c.p earlier in
      let z = step-add 2 (lit≤ tt) (total_of (a.p * H) (c.n * H) (a.n * H) (c.p * H) y.p y.n b.p b.n f.p f.n L E L-E L-pos g b.high
      f.low y.over)
      (total_of (a.n * H) (c.p * H) (a.p * H) (c.n * H) y.n y.p b.n b.p f.n f.p L E L-E L-pos k b.low f.high y.under) firsts
      y.val in
      record {
        p = a.p * H + b.p;
        n = a.n * H + b.n;
        q = c.p * H + f.p;
        m = c.n * H + f.n;
        first = worth-of (half-val a.val) b.val;
        second = worth-of (half-val c.val) f.val;
        near = within_of 39 {r = 8 * E} (bound E L L-E) (record {
          p = z.p;
          n = z.n;
          val = z.val;
          over = sums (a.p * H) (a.n * H) (c.p * H) (c.n * H) b.p b.n f.p f.n y.p y.n z.p z.n E y.over z.over;
          under = sums (a.n * H) (a.p * H) (c.n * H) (c.p * H) b.n b.p f.n f.p y.n y.p z.n z.p E y.under z.under;
        });
      }
    where
      bound : (e l : ℕ) → l ≡ 18014398509481984 * e → day_ps * (8 * e) ≤ 39 * l
      bound e l h = omega arith

      total_of : (x x' u u' z w p n q m l e : ℕ) → l ≡ 18014398509481984 * e → 0 < l → x + x' ≤ u + u' + l → p ≤ n + 1 * l → m ≤ q + 1 * l
          → z + (n + q) ≤ w + (p + m) + 2 ^ 2 * e → x + x' + z < u + u' + w + 2 ^ 2 * l
      total_of x x' u u' z w p n q m l e h o i j k r = omega arith

      sums : (p n q m p2 n2 q2 m2 z w s t e : ℕ) → z + (n2 + q2) ≤ w + (p2 + m2) + 2 ^ 2 * e → s + (n + q + w) ≤ t + (p + m + z) + 2 ^ 2 * e
          → s + (n + n2 + (q + q2)) ≤ t + (p + p2 + (m + m2)) + 8 * e
      sums p n q m p2 n2 q2 m2 z w s t e a b = omega arith
