-- The whole number that `nearest_int` finds, as numbers: of a value of X units of 2 ^ -1074 it is A, and this is how far A is from it. Assumes nothing.
use mathlib.Core.Path.{◌≡◌, refl, sym, ap, ◌∙◌, subst}
use mathlib.Core.Bool.{Bool, true, false, not}
use Prim.Native.Nat.{ℕ, zero, suc, ◌+◌, ◌-◌, ◌*◌, ◌/◌, ◌^◌, ◌≤◌, ◌<◌}
use native.Mathlib.Nat.{add-mul, one-mul, zero-mul, le_trans, le_of_eq, lt_of_le_of_lt, div-lt_iff_lt-mul, le-div_iff_mul-le, div-mul-le_self}
use native.Mathlib.Nat.{div-add-mod', mod-lt, mul-le-mul_right, lt_of_mul-lt-mul_right}
use native.Mathlib.Omega.{arith}
use lib.Dec.{T, leb, leb→le, nleb→lt, lit<}
use lib.Pow.{pow_mono}
use Rattle.rounding.specs.Value.{L}
use Rattle.rounding.proofs.Value.{L-pos}
use Rattle.rounding.proofs.Grid.{drop_le}
use Rattle.rounding.proofs.Own.{Rep, rep_zero}
use Rattle.rounding.proofs.Optimal.{step, digits_dropped, step-near, step-fix, step-le, step-optimal, multiple}
use Rattle.rounding.proofs.Sterbenz.{rep_diff}
use Rattle.julian.proofs.day_number.Units.{H, H-L, W, L-W, H-W}

-- X units, and A whole ones
pub record Numbers (X A : ℕ) : Type 0 where
  pub high : A * L ≤ X + L
  pub low : X ≤ A * L + H
  pub tight : X < 2 ^ 50 * L → 8 * (A * L) ≤ 8 * X + 5 * L
  pub less : X < 2 ^ 50 * L → Rep (X - A * L)
  pub more : X < 2 ^ 50 * L → Rep (A * L - X)

pub small-numbers : (X : ℕ) → Rep X → X < H → Numbers X 0
small-numbers X r h =
    record {
      high = omega (arith, zero-mul L);
      low = omega (arith, zero-mul L);
      tight = λ k. omega (arith, zero-mul L);
      less = λ k. subst Rep (sym (ap (λ (z : ℕ). X - z) (zero-mul L) ∙ plain X)) r;
      more = λ k. subst Rep (sym (ap (λ (z : ℕ). z - X) (zero-mul L) ∙ none X)) rep_zero;
    }
  where
    plain : (x : ℕ) → x - 0 ≡ x
    plain x = omega arith

    none : (x : ℕ) → 0 - x ≡ 0
    none x = omega arith

rep_whole : (n : ℕ) → n < 2 ^ 53 → Rep (n * L)
unfolding L
rep_whole n h = record { q = n; j = 1074; is = refl; small = h }

whole_of : (X : ℕ) → Rep X → 2 ^ 52 * L ≤ X → (d : ℕ) × (X ≡ d * L)
unfolding L
whole_of X r h = multiple 1074 X r h

-- a value below 2 ^ 1024 is below by 1 and more
top : (X : ℕ) → Rep X → X < 2 ^ 2098 → X + 2 * H < 2 ^ 2098
unfolding H
top X r b = go (leb (2 ^ 2097) X) (leb→le (2 ^ 2097) X) (nleb→lt (2 ^ 2097) X)
  where
    go : (u : Bool) → (T u → 2 ^ 2097 ≤ X) → (T (not u) → X < 2 ^ 2097) → X + 2 * 2 ^ 1073 < 2 ^ 2098
    go true f g =
        let m = multiple 2045 X r (f tt) in
        let d : m.0 < 2 ^ 53 = lt_of_mul-lt-mul_right (2 ^ 2045) (lt_of_le_of_lt (le_of_eq (sym m.1)) b) in
        let e : (m.0 + 1) * 2 ^ 2045 ≤ 2 ^ 53 * 2 ^ 2045 = mul-le-mul_right (2 ^ 2045) (next m.0 d) in
        fin (2 ^ 2045) (2 ^ 1073) (2 ^ 2098) (m.0 * 2 ^ 2045) m.1 (lit< tt)
        (le_trans (le_of_eq (sym (add-mul m.0 1 (2 ^ 2045) ∙ ap (λ (z : ℕ). m.0 * 2 ^ 2045 + z) (one-mul (2 ^ 2045))))) e)
      where
        next : (x : ℕ) → x < 2 ^ 53 → x + 1 ≤ 2 ^ 53
        next x h = omega arith

        fin : (u k o y : ℕ) → X ≡ y → 2 * k < u → y + u ≤ o → X + 2 * k < o
        fin u k o y e l m = omega arith
    go false f g = fin (2 ^ 2097) (2 ^ 1073) (2 ^ 2098) refl (lit< tt) (g tt)
      where
        fin : (u k o : ℕ) → o ≡ 2 * u → 2 * k < u → X < u → X + 2 * k < o
        fin u k o e l m = omega arith

two-51 : 2 ^ 1125 ≡ 40564819207303340847894502572032 * W
unfolding W
two-51 = refl

a-quarter : 2 ^ 1072 ≡ 4503599627370496 * W
unfolding W
a-quarter = refl

around : (g X k : ℕ) → (g - (X + k)) + ((X + k) - g) ≤ (X - (X + k)) + ((X + k) - X) → (X ≤ g) × (g ≤ X + 2 * k)
around g X k h = omega arith

two_up : (A : ℕ) → 1 ≤ A → A * L ≡ L + (A - 1) * L
two_up zero h = let w : ⊥ = omega arith in absurd w
two_up (suc A) h = ap (λ (z : ℕ). z * L) (plus A) ∙ add-mul 1 (suc A - 1) L ∙ ap (λ (z : ℕ). z + (suc A - 1) * L) (one-mul L)
  where
    plus : (A : ℕ) → suc A ≡ 1 + (suc A - 1)
    plus A = omega arith

twice : (A X : ℕ) → 1 ≤ A → H ≤ X → 8 * (A * L) ≤ 8 * X + 5 * L → A * L ≤ 2 * X
twice zero X a h k = let w : ⊥ = omega arith in absurd w
twice (suc zero) X a h k = omega (arith, one-mul L, H-L)
twice (suc (suc A)) X a h k =
    let e : suc (suc A) * L ≡ 2 * L + A * L = ap (λ (z : ℕ). z * L) (plus A) ∙ add-mul 2 A L in
    omega arith
  where
    plus : (A : ℕ) → suc (suc A) ≡ 2 + A
    plus A = omega arith

-- the whole number that `nearest_int` finds, where x is 1/2 or more
unfoldable pub found : ℕ → ℕ
found X = step (X + H) / L

-- what a step is: at least X, and at most X + 1
module _ (X : ℕ) (r : Rep X) (h : H ≤ X) where
  bounds : (X ≤ step (X + H)) × (step (X + H) ≤ X + 2 * H)
  bounds = around (step (X + H)) X H (step-optimal (X + H) X r)

  down_to : (found X) * L ≤ step (X + H)
  unfolding found
  down_to = div-mul-le_self (step (X + H)) L

  reached : (n : ℕ) → n * L ≤ step (X + H) → n ≤ (found X)
  unfolding found
  reached n k = (le-div_iff_mul-le L-pos).1 k

  some : 1 ≤ (found X)
  some = reached 1 (le_trans (le_of_eq (sym (step-fix (1 * L) (rep_whole 1 (lit< tt))))) (step-le (1 * L) (X + H) (omega (arith, one-mul L, H-L))))

  near-low : X ≤ (found X) * L + H
  near-low = go (leb (2 ^ 53 * L) (X + H)) (leb→le (2 ^ 53 * L) (X + H)) (nleb→lt (2 ^ 53 * L) (X + H))
    where
      go : (b : Bool) → (T b → 2 ^ 53 * L ≤ X + H) → (T (not b) → X + H < 2 ^ 53 * L) → X ≤ (found X) * L + H
      go true f g =
          let m = whole_of X r (omega (arith, f tt, H-L)) in
          let k : m.0 * L ≤ (found X) * L = mul-le-mul_right L (reached m.0 (le_trans (le_of_eq (sym m.1)) bounds.0)) in
          omega (arith, m.1)
      go false f g =
          let n = (X + H) / L in
          let a : n * L ≤ X + H = div-mul-le_self (X + H) L in
          let b : n < 2 ^ 53 = (div-lt_iff_lt-mul L-pos).1 (g tt) in
          let c : n * L ≤ (found X) * L =
          mul-le-mul_right L (reached n (le_trans (le_of_eq (sym (step-fix (n * L) (rep_whole n b)))) (step-le (n * L) (X + H) a))) in
          omega (arith, div-add-mod' (X + H) L, mod-lt (X + H) L-pos, H-L)

  near-high : X < 2 ^ 50 * L → 8 * ((found X) * L) ≤ 8 * X + 5 * L
  near-high k =
      let c : digits_dropped (X + H) ≤ 1072 = drop_le 53 (X + H) 1 1072 (lit< tt) (subst (λ (z : ℕ). X + H < z * 1) (sym two-51) (omega (arith, L-W, H-W))) in
      let d : 2 ^ digits_dropped (X + H) ≤ 4503599627370496 * W = le_trans (pow_mono c) (le_of_eq a-quarter) in
      omega (arith, (step-near (X + H)).0, down_to, L-W, H-W)

  few : X < 2 ^ 50 * L → (found X) < 2 ^ 53
  few k = lt_of_mul-lt-mul_right L (omega (arith, down_to, bounds.1, H-L, L-pos))

  pub numbers : Numbers X (found X)
  numbers = record {
    high = omega (arith, down_to, bounds.1, H-L);
    low = near-low;
    tight = near-high;
    less = λ k. rep_diff X ((found X) * L) r (rep_whole (found X) (few k)) (omega (arith, near-low, two_up (found X) some, H-L));
    more = λ k. rep_diff ((found X) * L) X (rep_whole (found X) (few k)) r (twice (found X) X some h (near-high k));
  }

  -- the largest f64 has room
  pub room : X < 2 ^ 2098 → step (X + H) < 2 ^ 2098
  room b = lt_of_le_of_lt bounds.1 (top X r b)
