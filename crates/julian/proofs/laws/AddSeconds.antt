-- Days and seconds added to a date whose first part is in whole or half days, against the exact sum: days within 29 picoseconds; seconds within 39, up to a day
-- of them, and within 79 nanoseconds up to 10 ^ 9 s, where the quotient by 86,400 is rounded more. Assumes nothing.
use mathlib.Core.Path.{◌≡◌, sym, ap, ◌∙◌}
use Prim.Native.Nat.{ℕ, ◌+◌, ◌*◌, ◌^◌, ◌≤◌}
use native.Mathlib.Nat.{add-mul, mul_assoc, mul_left_comm}
use native.Mathlib.Omega.{arith}
use lib.Dec.{lit≤, lit<}
use lib.Ieee.{Float, binary64, div}
use Rattle.floats.specs.Whole.{to_whole, cut}
use Rattle.rounding.specs.Value.{Val, L}
use Rattle.rounding.proofs.Value.{L-pos, val-scale}
use Rattle.rounding.proofs.Exact.{add_exact}
use Rattle.rounding.proofs.Sizes.{whole_val}
use Rattle.constants.specs.Constants.{seconds_per_day}
use Rattle.julian.specs.declared.JulianDate.{JulianDate}
use Rattle.julian.specs.JulianDate.{uncarried, add_days, add_seconds}
use Rattle.rounding.specs.Picoseconds.{day_ps}
use Rattle.julian.specs.laws.Distances.{UpTo, HalfDays, LaterBy}
use Rattle.julian.proofs.laws.UnixTime.{day-val}
use Rattle.julian.proofs.laws.AddDays.{CutTo, cut-to}
use Rattle.julian.proofs.laws.Steps.{E, L-E, H, L-H, half-val, step-add, step-sub, Times, step-div, worth-of}

-- whole days in half days
whole-halves : (p t c : ℕ) → (p + (t + c) * 2) * H ≡ p * H + (t * L + c * L)
whole-halves p t c = add-mul p ((t + c) * 2) H ∙ ap (λ (z : ℕ). p * H + z) (mul_assoc (t + c) 2 H ∙ ap (λ (z : ℕ). (t + c) * z) (sym L-H) ∙ add-mul t c L)

-- ---- days

module _ (d : JulianDate) (days : Float) (v1 : HalfDays (2 ^ 50) d.jd1) (v2 : UpTo 1 d.jd2) (v3 : UpTo (2 ^ 49) days) where
  -- the three roundings in units: of the part of a day, of the new jd2, of what is left of it; whole days are exact
  all : (p n q m a b tL tM cL cM fp fn up un rp rn P' N' e : ℕ) → P' ≡ p + (tL + cL) → N' ≡ n + (tM + cM) → fp + (b + tL) ≤ fn + (a + tM) + 1 * e
      → up + (m + fn) ≤ un + (q + fp) + 4 * e → rp + (un + cL) ≤ rn + (up + cM) + 1 * e
      → 1 * (P' + rp + (n + m)) + b ≤ 1 * (N' + rn + (p + q)) + a + 6 * e
  all p n q m a b tL tM cL cM fp fn up un rp rn P' N' e i j x y z = omega arith

  in_picoseconds : (x y l e : ℕ) → l ≡ 18014398509481984 * e → x ≤ y + 6 * e → day_ps * x ≤ day_ps * y + 29 * (1 * l)
  in_picoseconds x y l e h k = omega arith

  -- DAYS ADDED: at most 2 ^ 49 of them
  pub add_days_near : LaterBy 29 v3.p v3.n 1 d (add_days d days)
  unfolding add_days uncarried
  add_days_near = at_whole (cut-to (2 ^ 49) (lit≤ tt) L-pos v3.high v3.low v3.val)
    where
      at_carry : (w : CutTo (to_whole cut days) v3.p v3.n L (2 ^ 49)) (fp fn up un : ℕ) → fp + (v3.n + w.tp * L) ≤ fn + (v3.p + w.tn * L) + 1 * E
          → fn + (v3.p + w.tn * L) ≤ fp + (v3.n + w.tp * L) + 1 * E
          → up + (v2.n + fn) ≤ un + (v2.p + fp) + 4 * E → un + (v2.p + fp) ≤ up + (v2.n + fn) + 4 * E → Val (uncarried d days) up un L
          → CutTo (to_whole cut (uncarried d days)) up un L 3 → LaterBy 29 v3.p v3.n 1 d (add_days d days)
      at_carry w fp fn up un f1 f2 u1 u2 u c =
          let t = add_exact 0 (lit≤ tt) (omega (arith, w.high, c.high)) (omega (arith, w.low, c.low)) w.val c.val in
          let j = add_exact 1 (lit≤ tt) (omega (arith, v1.high, w.high, c.high)) (omega (arith, v1.low, w.low, c.low)) v1.val (val-scale 2 t) in
          let r = step-sub 0 (lit≤ tt) (omega (arith, c.under)) (omega (arith, c.over)) u (whole_val c.val) in
          record {
            p = v1.p * H + v2.p;
            n = v1.n * H + v2.n;
            p' = (v1.p + (w.tp + c.tp) * 2) * H + r.p;
            n' = (v1.n + (w.tn + c.tn) * 2) * H + r.n;
            from = worth-of (half-val v1.val) v2.val;
            to = worth-of (half-val j) r.val;
            over = in_picoseconds _ _ L E L-E
                (all (v1.p * H) (v1.n * H) v2.p v2.n v3.p v3.n (w.tp * L) (w.tn * L) (c.tp * L) (c.tn * L) fp fn up un r.p r.n
                ((v1.p + (w.tp + c.tp) * 2) * H) ((v1.n + (w.tn + c.tn) * 2) * H) E
                (whole-halves v1.p w.tp c.tp) (whole-halves v1.n w.tn c.tn) f1 u1 r.over);
            under = in_picoseconds _ _ L E L-E
                (all (v1.n * H) (v1.p * H) v2.n v2.p v3.n v3.p (w.tn * L) (w.tp * L) (c.tn * L) (c.tp * L) fn fp un up r.n r.p
                ((v1.n + (w.tn + c.tn) * 2) * H) ((v1.p + (w.tp + c.tp) * 2) * H) E
                (whole-halves v1.n w.tn c.tn) (whole-halves v1.p w.tp c.tp) f2 u2 r.under);
          }

      at_whole : CutTo (to_whole cut days) v3.p v3.n L (2 ^ 49) → LaterBy 29 v3.p v3.n 1 d (add_days d days)
      at_whole w =
          let f = step-sub 0 (lit≤ tt) (omega (arith, w.under)) (omega (arith, w.over)) v3.val (whole_val w.val) in
          let u = step-add 2 (lit≤ tt) (omega (arith, v2.high, w.under, f.over, L-pos, L-E)) (omega (arith, v2.low, w.over, f.under, L-pos, L-E))
          v2.val f.val in
          at_carry w f.p f.n u.p u.n f.over f.under u.over u.under u.val
          (cut-to 3 (lit≤ tt) L-pos (omega (arith, v2.high, w.under, f.over, u.over, L-pos, L-E))
          (omega (arith, v2.low, w.over, f.under, u.under, L-pos, L-E)) u.val)

-- ---- seconds: those of the quotient by 86,400, which is off by r units at most

-- 86,400 times the days against the seconds, and the days added; s is the days' error, l a day, in units
both : (ps x y a b p n l s : ℕ) → day_ps * s + 29 * l ≤ ps * l → 86400 * a + 1 * n ≤ 86400 * b + 1 * p + 86400 * s
    → day_ps * (1 * x + b) ≤ day_ps * (1 * y + a) + 29 * (1 * l) → day_ps * (86400 * x + n) ≤ day_ps * (86400 * y + p) + ps * (86400 * l)
both ps x y a b p n l s h k j = last x y a b p n l s (ps * l) (ps * (86400 * l)) (mul_left_comm ps 86400 l) h k j
  where
    last : (x y a b p n l s t u : ℕ) → u ≡ 86400 * t → day_ps * s + 29 * l ≤ t → 86400 * a + 1 * n ≤ 86400 * b + 1 * p + 86400 * s
        → day_ps * (1 * x + b) ≤ day_ps * (1 * y + a) + 29 * (1 * l) → day_ps * (86400 * x + n) ≤ day_ps * (86400 * y + p) + u
    last x y a b p n l s t u i h k j = omega arith

E-small : E ≤ L
E-small = go E L L-E
  where
    go : (e l : ℕ) → l ≡ 18014398509481984 * e → e ≤ l
    go e l h = omega arith

few_days : (a b p n l e : ℕ) → e ≤ l → 86400 * a + 1 * n ≤ 86400 * b + 1 * p + 86400 * (2 ^ 1 * e) → p ≤ n + 86400 * l → a ≤ b + 2 ^ 49 * l
few_days a b p n l e h k j = let g : a ≤ b + 3 * l = omega arith in omega (arith, g)

many-days : (a b p n l e : ℕ) → e ≤ l → 86400 * a + 1 * n ≤ 86400 * b + 1 * p + 86400 * (2 ^ 14 * e) → p ≤ n + 1000000000 * l → a ≤ b + 2 ^ 49 * l
many-days a b p n l e h k j = let g : a ≤ b + 100000 * l = omega arith in omega (arith, g)

module _ (d : JulianDate) (seconds : Float) (v1 : HalfDays (2 ^ 50) d.jd1) (v2 : UpTo 1 d.jd2) where
  -- by a quotient that is off by 2 ^ i * 2 ^ -54 day
  by-quotient : (ps i : ℕ) (p n : ℕ) (x : Times (div binary64 seconds seconds_per_day) p n 1 86400 (2 ^ i * E)) → x.p ≤ x.n + 2 ^ 49 * L
      → x.n ≤ x.p + 2 ^ 49 * L → day_ps * (2 ^ i * E) + 29 * L ≤ ps * L → LaterBy ps p n 86400 d (add_seconds d seconds)
  unfolding add_seconds
  by-quotient ps i p n x high low h =
      let k = add_days_near d (div binary64 seconds seconds_per_day) v1 v2 (record { p = x.p; n = x.n; val = x.val; high = high; low = low }) in
      record {
        p = k.p;
        n = k.n;
        p' = k.p';
        n' = k.n';
        from = k.from;
        to = k.to;
        over = both ps (k.p' + k.n) (k.n' + k.p) x.p x.n p n L (2 ^ i * E) h x.over k.over;
        under = both ps (k.n' + k.p) (k.p' + k.n) x.n x.p n p L (2 ^ i * E) h x.under k.under;
      }

  -- SECONDS ADDED: at most a day of them, within 39 picoseconds
  pub add_seconds_near : (s : UpTo 86400 seconds) → LaterBy 39 s.p s.n 86400 d (add_seconds d seconds)
  add_seconds_near s =
      let x = step-div 1 {B = 1} {C = 86400} (lit< tt) (lit< tt) (lit≤ tt) (omega (arith, s.high, L-pos)) (omega (arith, s.low, L-pos)) s.val day-val in
      by-quotient 39 1 s.p s.n x (few_days x.p x.n s.p s.n L E E-small x.over s.high)
      (few_days x.n x.p s.n s.p L E E-small x.under s.low) (bound E L L-E)
    where
      bound : (e l : ℕ) → l ≡ 18014398509481984 * e → day_ps * (2 ^ 1 * e) + 29 * l ≤ 39 * l
      bound e l h = omega arith

  -- at most 10 ^ 9 of them, within 79 nanoseconds
  pub add_many_seconds_near : (s : UpTo 1000000000 seconds) → LaterBy 78610 s.p s.n 86400 d (add_seconds d seconds)
  add_many_seconds_near s =
      let x = step-div 14 {B = 1} {C = 86400} (lit< tt) (lit< tt) (lit≤ tt) (omega (arith, s.high, L-pos)) (omega (arith, s.low, L-pos)) s.val day-val in
      by-quotient 78610 14 s.p s.n x (many-days x.p x.n s.p s.n L E E-small x.over s.high)
      (many-days x.n x.p s.n s.p L E E-small x.under s.low) (bound E L L-E)
    where
      bound : (e l : ℕ) → l ≡ 18014398509481984 * e → day_ps * (2 ^ 14 * e) + 29 * l ≤ 78610 * l
      bound e l h = omega arith
