-- `nearest_int` on every finite float: the whole number that it finds, as a float and as a 64-bit integer. Assumes nothing.
use mathlib.Core.Path.{◌≡◌, refl, sym, ap, ◌∙◌, subst}
use mathlib.Core.Bool.{Bool, true, false, not, cond, true≢false}
use Prim.Native.Nat.{ℕ, zero, suc, ◌+◌, ◌-◌, ◌*◌, ◌/◌, ◌^◌, ◌≤◌, ◌<◌, min}
use native.Mathlib.Nat.{div-one}
use native.Mathlib.Omega.{arith}
use lib.Dec.{T, ltb, ltb→lt, nltb→le, lit<}
use lib.IntN.{pos, neg_ℤ}
use lib.Ieee.{Float, nan, inf, fin, binary64, up, down, add, sub, lt, fits, round, to_signed}
use lib.Ieee.Exact.{HasValue}
use lib.Ieee.Fits.{down_pos, add-fits, sub-fits}
use lib.Ieee.Nearest.{div_same}
use Rattle.rounding.specs.Value.{Signed, Val, Rounds, L}
use Rattle.rounding.proofs.Value.{L-pos, abs-has, add_rounds, sub_rounds}
use Rattle.rounding.proofs.Signed.{plus-of, minus-of}
use Rattle.rounding.proofs.Own.{Rep, has-small}
use Rattle.rounding.proofs.Optimal.{step}
use Rattle.rounding.proofs.Relative.{step-has}
use Rattle.rounding.proofs.Compare.{lt_val}
use Rattle.rounding.proofs.Casts.{plus_z, minus_z}
use Rattle.floats.specs.Whole.{abs, half, nought, to_whole, downward, upward, nearest_int}
use Rattle.floats.proofs.Laws.{downward-exact, upward-exact}
use Rattle.julian.proofs.day_number.Units.{H, H-pos}
use Rattle.julian.proofs.day_number.SignedUnits.{has-val, has-rep}
use Rattle.julian.proofs.day_number.NearestNumber.{Numbers, small-numbers, found, numbers, room}

-- ---- floor and ceil of a value in units
half-val : Val half H 0 L
unfolding L H
half-val = record { sign = false; size = H; has = (refl, refl); is = refl }

nought-val : Val nought 0 0 L
unfolding L
nought-val = record { sign = false; size = 0; has = (refl, refl); is = refl }

floor_has : (z : Float) (T' : ℕ) → T (fits binary64 z) → HasValue z false T' L → HasValue (to_whole downward z) false (T' / L) 1
floor_has nan k f v = absurd v
floor_has (inf t) k f v = absurd v
floor_has (fin true m e) k f v = absurd (true≢false v.0)
floor_has (fin false m e) k f v =
    subst (λ (z : ℕ). HasValue (to_whole downward (fin false m e)) false z 1) (div_same (m * up e) (down e) k L (down_pos e) L-pos v.1)
    (downward-exact false m e f)

ceil_has : (z : Float) (T' : ℕ) → T (fits binary64 z) → HasValue z true T' L → HasValue (to_whole upward z) true (T' / L) 1
ceil_has nan k f v = absurd v
ceil_has (inf t) k f v = absurd v
ceil_has (fin false m e) k f v = absurd (true≢false (sym v.0))
ceil_has (fin true m e) k f v =
    subst (λ (z : ℕ). HasValue (to_whole upward (fin true m e)) true z 1) (div_same (m * up e) (down e) k L (down_pos e) L-pos v.1) (upward-exact true m e f)

-- a sum of one sign, rounded
plus-round : {z : Float} (t : ℕ) → 0 < t → Rounds binary64 z t 0 L → z ≡ round binary64 false t L
plus-round {z} t h r = go r.sign r.size r.eq r.is
  where
    go : (s : Bool) (a : ℕ) → z ≡ round binary64 s a L → Signed s a t 0 → z ≡ round binary64 false t L
    go false a e i = e ∙ ap (λ (k : ℕ). round binary64 false k L) (plain a t i)
      where
        plain : (a t : ℕ) → a + 0 ≡ t → a ≡ t
        plain a t i = omega arith
    go true a e i = let w : ⊥ = omega arith in absurd w

minus-round : {z : Float} (t : ℕ) → 0 < t → Rounds binary64 z 0 t L → z ≡ round binary64 true t L
minus-round {z} t h r = go r.sign r.size r.eq r.is
  where
    go : (s : Bool) (a : ℕ) → z ≡ round binary64 s a L → Signed s a 0 t → z ≡ round binary64 true t L
    go true a e i = e ∙ ap (λ (k : ℕ). round binary64 true k L) (plain a t i)
      where
        plain : (a t : ℕ) → a + 0 ≡ t → a ≡ t
        plain a t i = omega arith
    go false a e i = let w : ⊥ = omega arith in absurd w

-- ---- as an i64
abbrev pub sat_plus : Bool → ℕ → ℕ
sat_plus true A = 0
sat_plus false A = min A 9223372036854775807

abbrev pub sat_minus : Bool → ℕ → ℕ
sat_minus true A = min A 9223372036854775808
sat_minus false A = 0

-- below 2 ^ 63 nothing saturates
pub plain-plus : (s : Bool) (A z : ℕ) → A < 2 ^ 63 → z ≡ sat_plus s A → z ≡ plus-of s A
plain-plus false A z h e = omega arith
plain-plus true A z h e = e

pub plain-minus : (s : Bool) (A z : ℕ) → A < 2 ^ 63 → z ≡ sat_minus s A → z ≡ minus-of s A
plain-minus false A z h e = e
plain-minus true A z h e = omega arith

neg_sides : (a : ℕ) → (plus_z (neg_ℤ (pos a)) ≡ 0) × (minus_z (neg_ℤ (pos a)) ≡ a)
neg_sides zero = (refl, refl)
neg_sides (suc a) = (refl, refl)

sat_has : (v : Float) (s : Bool) (A : ℕ) → HasValue v s A 1 → (plus_z (to_signed 63 v) ≡ sat_plus s A) × (minus_z (to_signed 63 v) ≡ sat_minus s A)
unfolding to_signed
sat_has nan s A h = absurd h
sat_has (inf t) s A h = absurd h
sat_has (fin t m e) s A h =
    let q : m * up e / down e ≡ A = div_same (m * up e) (down e) A 1 (down_pos e) (lit< tt) h.1 ∙ div-one A in
    subst (λ (b : Bool). (plus_z (to_signed 63 (fin t m e)) ≡ sat_plus b A) × (minus_z (to_signed 63 (fin t m e)) ≡ sat_minus b A)) h.0
    (go t (m * up e / down e) q)
  where
    go : (b : Bool) (k : ℕ) → k ≡ A → (plus_z (cond b (neg_ℤ (pos (min k (2 ^ 63)))) (pos (min k (2 ^ 63 - 1)))) ≡ sat_plus b A)
        × (minus_z (cond b (neg_ℤ (pos (min k (2 ^ 63)))) (pos (min k (2 ^ 63 - 1)))) ≡ sat_minus b A)
    go true k q = ((neg_sides (min k 9223372036854775808)).0, (neg_sides (min k 9223372036854775808)).1 ∙ ap (λ (z : ℕ). min z 9223372036854775808) q)
    go false k q = (ap (λ (z : ℕ). min z 9223372036854775807) q, refl)

-- ---- the whole number v of a value of X units with the sign s
pub record Whole (v : Float) (s : Bool) (X A : ℕ) : Type 0 where
  pub val : Val v (plus-of s A) (minus-of s A) 1
  pub numbers : Numbers X A
  pub plus : plus_z (to_signed 63 v) ≡ sat_plus s A
  pub minus : minus_z (to_signed 63 v) ≡ sat_minus s A

whole-of-has : (v : Float) (s : Bool) (X A : ℕ) → Numbers X A → HasValue v s A 1 → Whole v s X A
whole-of-has v s X A n h = record { val = has-val v s A 1 h; numbers = n; plus = (sat_has v s A h).0; minus = (sat_has v s A h).1 }

whole-nought : (s : Bool) (X : ℕ) → Rep X → X < H → Whole nought s X 0
whole-nought false X r h = whole-of-has nought false X 0 (small-numbers X r h) (refl, refl)
whole-nought true X r h = record {
  val = record { sign = false; size = 0; has = (refl, refl); is = refl };
  numbers = small-numbers X r h;
  plus =
      (sat_has nought false 0 (refl, refl)).0;
  minus = (sat_has nought false 0 (refl, refl)).1;
}

some-step : (z : Float) (s : Bool) (X : ℕ) (r : Rep X) → H ≤ X → X < 2 ^ 2098 → z ≡ round binary64 s (X + H) L → HasValue z s (step (X + H)) L
some-step z s X r h b e = subst (λ (v : Float). HasValue v s (step (X + H)) L) (sym e) (step-has s (X + H) (room X r h b))

plus_val : (x : Float) (X : ℕ) → HasValue x false X L → Val x X 0 L
plus_val x X v = record { sign = false; size = X; has = v; is = omega arith }

minus_val : (x : Float) (X : ℕ) → HasValue x true X L → Val x 0 X L
minus_val x X v = record { sign = true; size = X; has = v; is = omega arith }

pub whole : (x : Float) (s : Bool) (X : ℕ) → T (fits binary64 x) → HasValue x s X L → (A : ℕ) × Whole (nearest_int x) s X A
unfolding nearest_int found
whole x s X f v = go s v (lt (abs x) half) refl (lt x nought) refl
  where
    r : Rep X
    r = has-rep x s X f v

    size : (a : Bool) → lt (abs x) half ≡ a → a ≡ ltb (X + 0) (H + 0)
    size a e = sym e ∙ lt_val L-pos (plus_val (abs x) X (abs-has x s X L v)) half-val

    big : false ≡ ltb (X + 0) (H + 0) → H ≤ X
    big e = plain (nltb→le (X + 0) (H + 0) (subst (λ (b : Bool). T (not b)) e tt))
      where
        plain : H + 0 ≤ X + 0 → H ≤ X
        plain l = omega arith

    little : true ≡ ltb (X + 0) (H + 0) → X < H
    little e = plain (ltb→lt (X + 0) (H + 0) (subst T e tt))
      where
        plain : X + 0 < H + 0 → X < H
        plain l = omega arith

    go : (s : Bool) → HasValue x s X L → (a : Bool) → lt (abs x) half ≡ a → (b : Bool) → lt x nought ≡ b
        → (A : ℕ) × Whole (cond a nought (cond b (to_whole upward (sub binary64 x half)) (to_whole downward (add binary64 x half)))) s X A
    go s v true e b d = (0, whole-nought s X r (little (size true e)))
    go false v false e true d =
        let w : X + 0 < 0 + 0 = ltb→lt (X + 0) (0 + 0) (subst T (sym d ∙ lt_val L-pos (plus_val x X v) nought-val) tt) in
        let z : ⊥ = omega arith in absurd z
    go false v false e false d =
        let h : H ≤ X = big (size false e) in
        let vx : Val x X 0 L = record { sign = false; size = X; has = v; is = omega arith } in
        let q = plus-round (X + H) (omega (arith, H-pos)) (add_rounds binary64 L-pos vx half-val) in (
          found X,
          whole-of-has (to_whole downward (add binary64 x half)) false X (found X) (numbers X r h)
              (floor_has (add binary64 x half) (step (X + H)) (add-fits binary64 x half)
              (some-step (add binary64 x half) false X r h (has-small x false X f v) q)),
        )
    go true v false e true d =
        let h : H ≤ X = big (size false e) in
        let vx : Val x 0 X L = record { sign = true; size = X; has = v; is = omega arith } in
        let q = minus-round (X + H) (omega (arith, H-pos)) (sub_rounds binary64 L-pos vx half-val) in (
          found X,
          whole-of-has (to_whole upward (sub binary64 x half)) true X (found X) (numbers X r h)
              (ceil_has (sub binary64 x half) (step (X + H)) (sub-fits binary64 x half)
              (some-step (sub binary64 x half) true X r h (has-small x true X f v) q)),
        )
    go true v false e false d =
        let h : H ≤ X = big (size false e) in
        let w : 0 + X ≤ 0 + 0 = nltb→le (0 + 0) (0 + X) (subst (λ (b : Bool). T (not b)) (sym d ∙ lt_val L-pos (minus_val x X v) nought-val) tt) in
        let z : ⊥ = omega (arith, H-pos) in absurd z
