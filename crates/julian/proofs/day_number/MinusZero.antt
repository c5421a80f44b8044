-- A sum or a difference of floats is -0.0 only where its first term is. Assumes nothing.
use mathlib.Core.Path.{◌≡◌, refl, sym, ap, ◌∙◌, subst}
use mathlib.Core.Bool.{Bool, true, false, cond, ◌&&◌, true≢false, beq}
use Prim.Native.Nat.{ℕ, zero, suc, ◌+◌, ◌-◌, ◌*◌, ◌^◌, ◌≤◌, ◌<◌}
use native.Mathlib.Nat.{lt_irrefl, le_trans, le_of_eq, zero-mul, mul-pos, zero-lt-suc, eq_of_mul-eq-mul_right}
use native.Mathlib.Omega.{arith}
use lib.Dec.{T, ltb, ltb→lt, lit<}
use lib.Ieee.{Float, nan, inf, fin, binary64, up, down, odd, units, round, neg, sum, add, sub, fits}
use lib.Ieee.Exact.{HasValue}
use lib.Ieee.Fits.{add-fits, neg-fits, up_pos, round_is}
use lib.Ieee.Order.{drop, kept}
use lib.Ieee.Scale.{finite}
use Rattle.rounding.specs.Value.{Signed, L}
use Rattle.rounding.proofs.Fractions.{cross_l, cross_r}
use Rattle.rounding.proofs.Value.{L-pos, add_rounds, has-unique}
use Rattle.rounding.proofs.Signed.{plus-of, minus-of}
use Rattle.rounding.proofs.Own.{Rep, own}
use Rattle.rounding.proofs.Optimal.{step, step-fix, step-le}
use Rattle.rounding.proofs.Relative.{step-has}
use Rattle.julian.specs.day_number.MinusZero.{minus_zero}
use Rattle.julian.proofs.day_number.JulianRange.{round_under}
use Rattle.julian.proofs.day_number.SignedUnits.{has-val}

-- the value of -0.0 is 0, and its sign is negative
zero_has : (x : Float) → minus_zero x ≡ true → HasValue x true 0 L
unfolding minus_zero
zero_has nan e = absurd (true≢false (sym e))
zero_has (inf s) e = absurd (true≢false (sym e))
zero_has (fin false m d) e = absurd (true≢false (sym e))
zero_has (fin true zero d) e = (refl, ap (λ (z : ℕ). z * L) (zero-mul (up d)) ∙ zero-mul L ∙ sym (zero-mul (down d)))
zero_has (fin true (suc m) d) e = absurd (true≢false (sym e))

zero_finite : (x : Float) → minus_zero x ≡ true → T (finite x)
unfolding minus_zero
zero_finite nan e = absurd (true≢false (sym e))
zero_finite (inf s) e = absurd (true≢false (sym e))
zero_finite (fin s m d) e = tt

some-step : (a : ℕ) → 1 ≤ a → 1 ≤ step a
some-step a h = le_trans (le_of_eq (sym (step-fix 1 one))) (step-le 1 a h)
  where
    one : Rep 1
    one = record { q = 1; j = 0; is = refl; small = lit< tt }

-- only 0 is rounded to -0.0
round_zero : (s : Bool) (a : ℕ) → minus_zero (round binary64 s a L) ≡ true → a ≡ 0
round_zero s a e =
    let t = zero_finite (round binary64 s a L) e in
    let h = step-has s a (round_under s a t) in
    let z = zero_has (round binary64 s a L) e in
    let q : step a ≡ 0 = has-unique (round binary64 s a L) s true (step a) 0 L h z in
    go a q refl
  where
    go : (x : ℕ) → step x ≡ 0 → x ≡ a → a ≡ 0
    go zero q e = sym e
    go (suc x) q e = let w : 1 ≤ step (suc x) = some-step (suc x) (omega arith) in let z : ⊥ = omega arith in absurd z

-- what is rounded with the positive sign keeps it
odd_plus : (d q k l : ℕ) → minus_zero (odd d false q k l) ≡ false
unfolding odd minus_zero
odd_plus d zero k l = refl
odd_plus d (suc q) k l = refl

units-plus : (q k : ℕ) → minus_zero (units binary64 false q k) ≡ false
unfolding units minus_zero
units-plus q k = go (ltb (q * 2 ^ k) (2 ^ 2098))
  where
    go : (b : Bool) → minus_zero (cond b (odd 54 false q k 1074) (inf false)) ≡ false
    go true = odd_plus 54 q k 1074
    go false = refl

round_plus : (a c : ℕ) → minus_zero (round binary64 false a c) ≡ false
round_plus a c = ap minus_zero (round_is binary64 false a c) ∙ units-plus (kept 53 (a * 2 ^ 1074) c) (drop 53 (a * 2 ^ 1074) c)

-- the value of a negative float that is not -0.0 is not 0
pub some_size : (x : Float) (a c : ℕ) → 0 < c → minus_zero x ≡ false → HasValue x true a c → 0 < a
unfolding minus_zero
some_size nan a c h z v = absurd v
some_size (inf t) a c h z v = absurd v
some_size (fin false m e) a c h z v = absurd (true≢false (sym v.0))
some_size (fin true zero e) a c h z v = absurd (true≢false z)
some_size (fin true (suc m) e) zero c h z v =
    absurd (lt_irrefl 0 (subst (λ (x : ℕ). 0 < x) (v.1 ∙ zero-mul (down e)) (mul-pos (mul-pos (zero-lt-suc m) (up_pos e)) h)))
some_size (fin true (suc m) e) (suc a) c h z v = zero-lt-suc a

-- a sum of a / c and b / c with the signs s and t, which are X and Y units, that comes to 0
sum-sign : (s t : Bool) (a b c X Y : ℕ) → a * L ≡ X * c → b * L ≡ Y * c → plus-of s X + plus-of t Y ≡ minus-of s X + minus-of t Y → (s ≡ true → 0 < X)
    → minus_zero (sum binary64 s a t b c) ≡ false
unfolding sum
sum-sign false false a b c X Y u v e p = round_plus (a + b) c
sum-sign true true a b c X Y u v e p = let w : 0 < X = p refl in let z : ⊥ = omega arith in absurd z
sum-sign false true a b c X Y u v e p = go (ltb a b) (ltb→lt a b)
  where
    same : a ≡ b
    same = eq_of_mul-eq-mul_right L L-pos a b (u ∙ ap (λ (z : ℕ). z * c) (plain X Y e) ∙ sym v)
      where
        plain : (X Y : ℕ) → X + 0 ≡ 0 + Y → X ≡ Y
        plain X Y e = omega arith

    go : (w : Bool) → (T w → a < b) → minus_zero (cond w (round binary64 true (b - a) c) (round binary64 (false && ltb b a) (a - b) c)) ≡ false
    go true f = let l : a < b = f tt in let z : ⊥ = omega (arith, same) in absurd z
    go false f = round_plus (a - b) c
sum-sign true false a b c X Y u v e p = go (ltb a b) (ltb b a) (ltb→lt b a)
  where
    same : a ≡ b
    same = eq_of_mul-eq-mul_right L L-pos a b (u ∙ ap (λ (z : ℕ). z * c) (plain X Y e) ∙ sym v)
      where
        plain : (X Y : ℕ) → 0 + Y ≡ X + 0 → X ≡ Y
        plain X Y e = omega arith

    go : (w x : Bool) → (T x → b < a) → minus_zero (cond w (round binary64 false (b - a) c) (round binary64 (true && x) (a - b) c)) ≡ false
    go true x f = round_plus (b - a) c
    go false true f = let l : b < a = f tt in let z : ⊥ = omega (arith, same) in absurd z
    go false false f = round_plus (a - b) c

-- ---- a sum is -0.0 only where its first term is
add_keeps : (x y : Float) → T (fits binary64 x) → T (fits binary64 y) → minus_zero x ≡ false → minus_zero (add binary64 x y) ≡ false
unfolding add minus_zero
add_keeps nan y fx fy h = refl
add_keeps (inf s) nan fx fy h = refl
add_keeps (inf s) (inf t) fx fy h = go (beq s t)
  where
    go : (b : Bool) → minus_zero (cond b (inf s) nan) ≡ false
    go true = refl
    go false = refl
add_keeps (inf s) (fin t n d) fx fy h = refl
add_keeps (fin s m e) nan fx fy h = refl
add_keeps (fin s m e) (inf t) fx fy h = refl
add_keeps (fin s m e) (fin t n d) fx fy h = go (minus_zero (add binary64 (fin s m e) (fin t n d))) refl
  where
    at : (X Y : ℕ) → HasValue (fin s m e) s X L → HasValue (fin t n d) t Y L → minus_zero (add binary64 (fin s m e) (fin t n d)) ≡ true
        → minus_zero (add binary64 (fin s m e) (fin t n d)) ≡ false
    at X Y v w q =
        let r = add_rounds binary64 L-pos (has-val (fin s m e) s X L v) (has-val (fin t n d) t Y L w) in
        let z : r.size ≡ 0 = round_zero r.sign r.size (ap minus_zero (sym r.eq) ∙ q)
        in sum-sign s t (m * up e * down d) (n * up d * down e) (down e * down d) X Y (cross_l (m * up e) (down e) (down d) X L v.1)
        (cross_r (n * up d) (down e) (down d) Y L w.1)
        (level r.sign r.size (plus-of s X + plus-of t Y) (minus-of s X + minus-of t Y) z r.is) (some s h v)
      where
        level : (b : Bool) (k P N : ℕ) → k ≡ 0 → Signed b k P N → P ≡ N
        level true k P N z i = omega arith
        level false k P N z i = omega arith

        some : (b : Bool) → minus_zero (fin b m e) ≡ false → HasValue (fin b m e) b X L → b ≡ true → 0 < X
        some true h v u = some_size (fin true m e) X L L-pos h v
        some false h v u = absurd (true≢false (sym u))

    go : (b : Bool) → minus_zero (add binary64 (fin s m e) (fin t n d)) ≡ b → b ≡ false
    go false q = refl
    go true q = let o = own (fin s m e) fx tt in let p = own (fin t n d) fy tt in sym q ∙ at o.size p.size (refl, o.has.1) (refl, p.has.1) q

-- a float of the format that is not -0.0
pub record Unsigned (x : Float) : Type 0 where
  pub fit : T (fits binary64 x)
  pub sign : minus_zero x ≡ false

pub add_unsigned : {x : Float} (y : Float) → T (fits binary64 y) → Unsigned x → Unsigned (add binary64 x y)
add_unsigned {x} y f u = record { fit = add-fits binary64 x y; sign = add_keeps x y u.fit f u.sign }

pub sub_unsigned : {x : Float} (y : Float) → T (fits binary64 y) → Unsigned x → Unsigned (sub binary64 x y)
unfolding sub
sub_unsigned y f u = add_unsigned (neg y) (neg-fits binary64 y f) u
