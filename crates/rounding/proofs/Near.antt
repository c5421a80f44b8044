-- The absolute error: (P - N) / D of less than 2 ^ (53 + j) units is rounded to a finite value that is off by at most a half of 2 ^ j units, the unit being
-- 1 / L = 2 ^ -1074. For any fraction, and for sums and differences; Scaled has the forms for a constant factor. Assumes nothing.
use mathlib.Core.Path.{◌≡◌, sym, ap, ◌∙◌, subst}
use Prim.Native.Nat.{ℕ, ◌+◌, ◌*◌, ◌^◌, ◌≤◌, ◌<◌}
use native.Mathlib.Nat.{le_trans, le_of_eq, lt_of_le_of_lt, lt_of_lt_of_le, mul-lt-mul_of_pos_right, add-mul, mul_assoc, mul_comm, le_of_mul-le-mul_right}
use native.Mathlib.Omega.{arith}
use mathlib.Core.Bool.{Bool, true, false}
use lib.Pow.{pow-lt}
use lib.Ieee.{Float, Format, binary64, prec, low, round, add, sub}
use lib.Ieee.Fits.{round_is}
use lib.Ieee.Exact.{HasValue, units_val}
use lib.Ieee.Order.{drop, kept}
use lib.Ieee.Scale.{grid, overflow}
use Rattle.rounding.specs.Value.{Signed, Val, Rounds, L}
use Rattle.rounding.proofs.Value.{add_rounds, sub_rounds, L-pos}
use Rattle.rounding.proofs.Signed.{signed_lt, signed-scale}
use Rattle.rounding.proofs.Grid.{Half, grid_error, grid_bound}

-- z is (p - n) / L, and differs from (P - N) / D by at most 2 ^ j / 2 units: 2 * |p * D - n * D - (P * L - N * L)| ≤ D * 2 ^ j
pub record Near (z : Float) (P N D j : ℕ) : Type 0 where
  pub p : ℕ
  pub n : ℕ
  pub val : Val z p n L
  pub over : 2 * (p * D + N * L) ≤ 2 * (n * D + P * L) + D * 2 ^ j
  pub under : 2 * (n * D + P * L) ≤ 2 * (p * D + N * L) + D * 2 ^ j

-- a rounded fraction is `grid` units, where that is no overflow
pub round_has : (f : Format) (s : Bool) (a c : ℕ) → grid f a c < overflow f → HasValue (round f s a c) s (grid f a c) (2 ^ low f)
round_has f s a c h = subst (λ (z : Float). HasValue z s (grid f a c) (2 ^ low f)) (sym (round_is f s a c))
    (units_val f s (kept (prec f) (a * 2 ^ low f) c) (drop (prec f) (a * 2 ^ low f) c) h)

pub rounds-has : {z : Float} {P N D : ℕ} (r : Rounds binary64 z P N D) → grid binary64 r.size D < 2 ^ 2098
    → HasValue z r.sign (grid binary64 r.size D) L
unfolding L
rounds-has {z} {D = D} r h = subst (λ (x : Float). HasValue x r.sign (grid binary64 r.size D) L) (sym r.eq)
    (round_has binary64 r.sign r.size D h)

near_of : (s : Bool) (z : Float) (a P N D j g : ℕ) → HasValue z s g L → Signed s a P N → Half (g * D) (a * L) (D * 2 ^ j) → Near z P N D j
near_of false z a P N D j g h i e =
    let k : a * L + N * L ≡ P * L = signed-scale false a P N L i in
    record { p = g; n = 0; val = record { sign = false; size = g; has = h; is = omega arith }; over = omega arith; under = omega arith }
near_of true z a P N D j g h i e =
    let k : a * L + P * L ≡ N * L = signed-scale true a P N L i in
    record { p = 0; n = g; val = record { sign = true; size = g; has = h; is = omega arith }; over = omega arith; under = omega arith }

round_error : (a D j : ℕ) → 0 < D → j ≤ 2044 → a * L < 2 ^ (53 + j) * D → (grid binary64 a D < 2 ^ 2098) × Half (grid binary64 a D * D) (a * L) (D * 2 ^ j)
unfolding L
round_error a D j E b h = (lt_of_le_of_lt (grid_bound binary64 a D j E h) (pow-lt (small b)), grid_error binary64 a D j E h)
  where
    small : j ≤ 2044 → 53 + j < 2098
    small l = omega arith

-- |P - N| / D is below 2 ^ (53 + j) units: its rounded value is finite, and differs by at most half of 2 ^ j units
pub rounds-near : (j : ℕ) {z : Float} {P N D : ℕ} → 0 < D → j ≤ 2044 → P * L < N * L + 2 ^ (53 + j) * D → N * L < P * L + 2 ^ (53 + j) * D
    → Rounds binary64 z P N D → Near z P N D j
rounds-near j {z} {P} {N} {D} E b u l r =
    let k = round_error r.size D j E b
    (signed_lt r.sign (r.size * L) (P * L) (N * L) (2 ^ (53 + j) * D) (signed-scale r.sign r.size P N L r.is) u l) in
    near_of r.sign z r.size P N D j (grid binary64 r.size D) (rounds-has r k.0) r.is k.1

-- ---- sums of values that are whole numbers of units
-- z is (p - n) / L, and differs from (P - N) / L by at most 2 ^ j / 2 units
pub record NearSum (z : Float) (P N j : ℕ) : Type 0 where
  pub p : ℕ
  pub n : ℕ
  pub val : Val z p n L
  pub over : 2 * (p + N) ≤ 2 * (n + P) + 2 ^ j
  pub under : 2 * (n + P) ≤ 2 * (p + N) + 2 ^ j

cancel : (a b c d e : ℕ) → 2 * (a * L + b * L) ≤ 2 * (c * L + d * L) + L * e → 2 * (a + b) ≤ 2 * (c + d) + e
cancel a b c d e h =
    le_of_mul-le-mul_right {k = L}
    (le_trans (le_of_eq (mul_assoc 2 (a + b) L ∙ ap (λ (x : ℕ). 2 * x) (add-mul a b L)))
    (le_trans h (le_of_eq (ap (λ (x : ℕ). 2 * (c * L + d * L) + x) (mul_comm L e)
    ∙ ap (λ (x : ℕ). x + e * L) (ap (λ (x : ℕ). 2 * x) (sym (add-mul c d L)) ∙ sym (mul_assoc 2 (c + d) L)) ∙ sym (add-mul (2 * (c + d)) e L))))) L-pos

-- |P - N| < 2 ^ (53 + j): (P - N) / L is off by at most 2 ^ j / 2 units once rounded
pub sum_near : (j : ℕ) {z : Float} {P N : ℕ} → j ≤ 2044 → P < N + 2 ^ (53 + j) → N < P + 2 ^ (53 + j) → Rounds binary64 z P N L → NearSum z P N j
sum_near j {z} {P} {N} b u l r =
    let k = rounds-near j L-pos b (wide P N u) (wide N P l) r in
    record { p = k.p; n = k.n; val = k.val; over = cancel k.p N k.n P (2 ^ j) k.over; under = cancel k.n P k.p N (2 ^ j) k.under }
  where
    wide : (x y : ℕ) → x < y + 2 ^ (53 + j) → x * L < y * L + 2 ^ (53 + j) * L
    wide x y h = lt_of_lt_of_le (mul-lt-mul_of_pos_right h L-pos) (le_of_eq (add-mul y (2 ^ (53 + j)) L))

-- x + y
pub add_near : (j : ℕ) {x y : Float} {p n q m : ℕ} → j ≤ 2044 → p + q < n + m + 2 ^ (53 + j) → n + m < p + q + 2 ^ (53 + j) → Val x p n L → Val y q m L
    → NearSum (add binary64 x y) (p + q) (n + m) j
add_near j b u l v w = sum_near j b u l (add_rounds binary64 L-pos v w)

-- x - y
pub sub_near : (j : ℕ) {x y : Float} {p n q m : ℕ} → j ≤ 2044 → p + m < n + q + 2 ^ (53 + j) → n + q < p + m + 2 ^ (53 + j) → Val x p n L → Val y q m L
    → NearSum (sub binary64 x y) (p + m) (n + q) j
sub_near j b u l v w = sum_near j b u l (sub_rounds binary64 L-pos v w)
