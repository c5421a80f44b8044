-- `add_days` is exact where nothing has to be rounded: on dates whose first part is in whole or half days, with a second part and days on the grid of 2^-52
-- day. Assumes nothing.
use mathlib.Core.Path.{◌≡◌, refl, sym, subst}
use Prim.Native.Nat.{ℕ, ◌+◌, ◌*◌, ◌/◌, ◌%◌, ◌^◌, ◌≤◌, ◌<◌}
use native.Mathlib.Omega.{arith}
use native.Mathlib.Nat.{div-add-mod', mod-lt, mul-one, le_trans, le_of_mul-le-mul_right}
use mathlib.Core.Bool.{Bool, true, false}
use lib.Dec.{lit≤, lit<}
use lib.Ieee.{Float, nan, inf, fin, binary64, up, down, round}
use lib.Ieee.Exact.{HasValue}
use lib.Ieee.Fits.{down_pos}
use lib.Ieee.Nearest.{div_same}
use Rattle.floats.specs.Whole.{to_whole, cut}
use Rattle.rounding.specs.Value.{Signed, Val}
use Rattle.rounding.proofs.Value.{val-scale}
use Rattle.rounding.proofs.Exact.{exact-has, add_exact, sub_exact}
use Rattle.julian.specs.declared.JulianDate.{JulianDate}
use Rattle.julian.specs.JulianDate.{uncarried, add_days}
use Rattle.julian.specs.Worth.{Worth}

-- ---- a float cut to a whole number

-- z is the whole number tp - tn, at most K in size and less than 1 from (p - n) / D
pub record CutTo (z : Float) (p n D K : ℕ) : Type 0 where
  pub tp : ℕ
  pub tn : ℕ
  pub val : Val z tp tn 1
  pub over : n + tp * D < p + tn * D + D
  pub under : p + tn * D < n + tp * D + D
  pub high : tp ≤ tn + K
  pub low : tn ≤ tp + K

whole_has : (s : Bool) (k : ℕ) → k ≤ 2 ^ 53 → HasValue (round binary64 s k 1) s k 1
whole_has s k h = subst (λ (x : ℕ). HasValue (round binary64 s x 1) s x 1) (mul-one k) (exact-has s k 0 0 (lit≤ tt) (lit≤ tt) h)

-- the quotient k of the size by D
size_of : (K a D p n : ℕ) (s : Bool) → Signed s a p n → p ≤ n + K * D → n ≤ p + K * D → a ≤ K * D
size_of K a D p n false i h k = omega arith
size_of K a D p n true i h k = omega arith

pub cut-to : (K : ℕ) {x : Float} {p n D : ℕ} → K ≤ 2 ^ 53 → 0 < D → p ≤ n + K * D → n ≤ p + K * D → Val x p n D → CutTo (to_whole cut x) p n D K
unfolding to_whole
cut-to K {x} {p} {n} {D} most some h k v = go x v.sign v.size v.has v.is
  where
    go : (x : Float) (s : Bool) (a : ℕ) → HasValue x s a D → Signed s a p n → CutTo (to_whole cut x) p n D K
    go nan s a w i = absurd w
    go (inf t) s a w i = absurd w
    go (fin t m e) s a w i =
        let q : m * up e / down e ≡ a / D = div_same (m * up e) (down e) a D (down_pos e) some w.1 in
        let b : a / D ≤ K = le_of_mul-le-mul_right (le_trans (lower (a / D * D) (a % D) a (div-add-mod' a D)) (size_of K a D p n s i h k)) some in
        subst (λ (z : Float). CutTo z p n D K) (λ j. round binary64 (sym w.0 j) (sym q j) 1)
        (signed s (a / D) (a / D * D) (a % D) a (whole_has s (a / D) (le_trans b most)) refl (div-add-mod' a D) (mod-lt a some) b i)
      where
        lower : (x r a : ℕ) → x + r ≡ a → x ≤ a
        lower x r a e = omega arith

        signed : (s : Bool) (c cD r a : ℕ) → HasValue (round binary64 s c 1) s c 1 → cD ≡ c * D → cD + r ≡ a → r < D → c ≤ K → Signed s a p n
            → CutTo (round binary64 s c 1) p n D K
        signed false c cD r a w g e l b i =
            record {
              tp = c;
              tn = 0;
              val = record { sign = false; size = c; has = w; is = omega arith };
              over = omega arith;
              under = omega arith;
              high =
                  omega arith;
              low = omega arith;
            }
        signed true c cD r a w g e l b i =
            record {
              tp = 0;
              tn = c;
              val = record { sign = true; size = c; has = w; is = omega arith };
              over = omega arith;
              under = omega arith;
              high =
                  omega arith;
              low = omega arith;
            }

-- ---- the sum

-- THE SUM IS EXACT: jd1 in half days, at most 2^51 days in size; jd2 on the grid, at most a day; the days on the grid, at most 2^50. So are whole days added to
-- a midnight or a noon. Every step of the code is then exact, and the answer is worth the date and the days together
module _ (d : JulianDate) (days : Float) (p n q m a b : ℕ) (v1 : Val d.jd1 p n 2) (h1 : p ≤ n + 2 ^ 52) (l1 : n ≤ p + 2 ^ 52)
    (v2 : Val d.jd2 q m (2 ^ 52)) (h2 : q ≤ m + 2 ^ 52) (l2 : m ≤ q + 2 ^ 52)
    (v3 : Val days a b (2 ^ 52)) (h3 : a ≤ b + 2 ^ 50 * 2 ^ 52) (l3 : b ≤ a + 2 ^ 50 * 2 ^ 52) where
  pub add_days_exact : Worth (add_days d days) (p * 2 ^ 51 + q + a) (n * 2 ^ 51 + m + b) (2 ^ 52)
  unfolding add_days uncarried
  add_days_exact = at_whole (cut-to (2 ^ 50) (lit≤ tt) (lit< tt) h3 l3 v3)
    where
      at_carry : (w : CutTo (to_whole cut days) a b (2 ^ 52) (2 ^ 50)) → Val (uncarried d days) (q + (a + w.tn * 2 ^ 52)) (m + (b + w.tp * 2 ^ 52)) (2 ^ 52)
          → CutTo (to_whole cut (uncarried d days)) (q + (a + w.tn * 2 ^ 52)) (m + (b + w.tp * 2 ^ 52)) (2 ^ 52) 2
          → Worth (add_days d days) (p * 2 ^ 51 + q + a) (n * 2 ^ 51 + m + b) (2 ^ 52)
      at_carry w u c =
          let t = add_exact 0 (lit≤ tt) (omega (arith, w.high, c.high)) (omega (arith, w.low, c.low)) w.val c.val in
          let j = add_exact 1 (lit≤ tt) (omega (arith, w.high, c.high)) (omega (arith, w.low, c.low)) v1 (val-scale 2 t) in
          let k = sub_exact 52 (lit≤ tt) (omega (arith, c.over, c.under)) (omega (arith, c.over, c.under)) u (val-scale (2 ^ 52) c.val) in
          record {
            p = (p + (w.tp + c.tp) * 2) * 2 ^ 51;
            n = (n + (w.tn + c.tn) * 2) * 2 ^ 51;
            q = q + (a + w.tn * 2 ^ 52) + c.tn * 2 ^ 52;
            m = m + (b + w.tp * 2 ^ 52) + c.tp * 2 ^ 52;
            first = val-scale (2 ^ 51) j;
            second = k;
            total = omega arith;
          }

      at_whole : CutTo (to_whole cut days) a b (2 ^ 52) (2 ^ 50) → Worth (add_days d days) (p * 2 ^ 51 + q + a) (n * 2 ^ 51 + m + b) (2 ^ 52)
      at_whole w =
          let f = sub_exact 52 (lit≤ tt) (omega (arith, w.over, w.under)) (omega (arith, w.over, w.under)) v3 (val-scale (2 ^ 52) w.val) in
          let u = add_exact 52 (lit≤ tt) (omega (arith, w.over, w.under)) (omega (arith, w.over, w.under)) v2 f in
          at_carry w u (cut-to 2 (lit≤ tt) (lit< tt) (omega (arith, w.over, w.under)) (omega (arith, w.over, w.under)) u)
