-- UTC to TAI after the calendar, in order: of two fractions of one day the later has the later TAI, and the last of a day comes before the first of the next,
-- leap seconds included; no gap is asked. Each float operation keeps the order, and at midnight the floats of each TAI-UTC are compared. Assumes nothing.
use mathlib.Core.Path.{◌≡◌, refl, sym, ap, ◌∙◌, subst, subst₂}
use mathlib.Core.Bool.{Bool, false}
use Prim.Native.Nat.{ℕ, zero, suc, ◌+◌, ◌*◌, ◌^◌, ◌≤◌, ◌<◌}
use native.Mathlib.Nat.{mul-le-mul_right, mul-zero, zero-mul, add-mul, mul-pos, lt_of_mul-lt-mul_right}
use native.Mathlib.Omega.{arith}
use native.Mathlib.Decide.{dec_le}
use lib.Dec.{T, lit<}
use lib.IntN.{pos, negsuc, ◌-ℤ◌}
use lib.Ieee.{Float, fin, binary64, round, add, sub, mul, div, of_int, fits, le, lt, eq}
use lib.Ieee.Fits.{add-fits}
use Rattle.floats.specs.Whole.{nought, one}
use Rattle.constants.specs.Constants.{seconds_per_day, mjd_zero_point}
use Rattle.leap_table.specs.rows.Table.{fixed, last_seconds, most_seconds}
use Rattle.rounding.specs.Value.{Val, L}
use Rattle.rounding.proofs.Value.{L-pos, rounds-move, mul_rounds, add_rounds}
use Rattle.rounding.proofs.Compare.{le_says}
use Rattle.rounding.proofs.Bound.{rounds-mono}
use Rattle.julian.proofs.day_number.Units.{W, nought-L}
use Rattle.julian.proofs.day_number.CarryDay.{minus_one, to-grid}
use Rattle.leap_table.specs.offsets.Offset.{whole_f}
use Rattle.leap_days.proofs.drift.Tests.{each}
use Rattle.utc_scales.specs.round_trip.UtcDays.{H, seconds_on, leap_after}
use Rattle.utc_scales.proofs.round_trip.Units.{h, L-h, h_pos, next_midnight, in_units, add_close}
use Rattle.utc_scales.proofs.round_trip.Parts.{FirstPart, half-days}
use Rattle.utc_scales.proofs.round_trip.Stretch.{K, times_one, times, Factor, DayFactor, plain-day-factor, longer_day_factor, in-days}
use Rattle.utc_scales.proofs.round_trip.Midnight.{since-midnight}
use Rattle.utc_scales.proofs.round_trip.Steady.{share}
use Rattle.utc_scales.proofs.round_trip.FixedDays.{FixedDay, fixed-day}
use Rattle.utc_scales.proofs.round_trip.Sums.{first-high, first-low}
use Rattle.utc_scales.proofs.round_trip.Evaluated.{tai}

-- ---- each operation in order
scaled : (p n q m : ℕ) → p + m ≤ q + n → p * L + m * L ≤ q * L + n * L
scaled p n q m k = let s : (p + m) * L ≤ (q + n) * L = mul-le-mul_right L k in omega (arith, simp add-mul at s)

times_order : {x y c : Float} {f g B E : ℕ} → 0 < E → Val c B 0 E → Val x f 0 L → Val y g 0 L → f ≤ g → T (le (mul binary64 x c) (mul binary64 y c))
times_order {x} {y} {c} {f} {g} {B} {E} e vc vx vy k =
    rounds-mono (pos_mul E e) (pos_mul E e) (wide (f * B * (L * E)) (g * B * (L * E)) (0 * (L * E)) (mul-le-mul_right (L * E) (mul-le-mul_right B k)))
    (rounds-move (mul_rounds binary64 L-pos e vx vc) (plain f)) (rounds-move (mul_rounds binary64 L-pos e vy vc) (plain g))
  where
    pos_mul : (E : ℕ) → 0 < E → 0 < L * E
    pos_mul E e = mul-pos L-pos e

    wide : (x y z : ℕ) → x ≤ y → x + z ≤ y + z
    wide x y z k = omega arith

    plain : (f : ℕ) → f * B + 0 * 0 + 0 ≡ f * B + (f * 0 + 0 * B)
    plain f = omega (arith, mul-zero f, zero-mul B)

one-order : {x y : Float} {p n q m : ℕ} → Val x p n L → Val y q m L → p + m ≤ q + n → T (le (mul binary64 x one) (mul binary64 y one))
one-order {x} {y} {p} {n} {q} {m} vx vy k = rounds-mono L-pos L-pos (scaled p n q m k) (times_one vx) (times_one vy)

add_order : {x y z w : Float} {p n q m a b c d : ℕ} → Val x p n L → Val z a b L → Val y q m L → Val w c d L → p + a + (m + d) ≤ q + c + (n + b)
    → T (le (add binary64 x z) (add binary64 y w))
add_order {p = p} {n} {q} {m} {a} {b} {c} {d} vx vz vy vw k =
    rounds-mono L-pos L-pos (scaled (p + a) (n + b) (q + c) (m + d) k) (add_rounds binary64 L-pos vx vz) (add_rounds binary64 L-pos vy vw)

-- ---- the stretched fraction with TAI-UTC in days
abbrev in_days : ℕ → Float
in_days D = div binary64 (whole_f D) seconds_per_day

abbrev with_offset : Float → ℕ → Float → Float
with_offset c D x = add binary64 (mul binary64 (mul binary64 x c) one) (in_days D)

module _ {c : Float} {s r : ℕ} (z : Factor c s r) (D : ℕ) (few : D ≤ most_seconds) where
  after-val : {x : Float} {f : ℕ} → Val x f 0 L → f < L → (p : ℕ) × (n : ℕ) × Val (with_offset c D x) p n L × (p < n + 2 * L)
  after-val {x} {f} v l =
      let p = z.near x f v l in
      let q = in-days D few in
      let g = (share f z.ends).0 in
      let g' = (share f z.ends).1 in
      let d = mul-le-mul_right L few in
      let i = add_close (first-high f (s * f) (r * f) (D * L) p.p p.n q.p q.n l g g' d p.over p.under q.over q.under)
      (first-low f (s * f) (r * f) (D * L) p.p p.n q.p q.n l g g' d p.over p.under q.over q.under) p.val q.val in
      (i.p, i.n, i.val, room i.p i.n f (s * f) (r * f) (D * L) p.p p.n q.p q.n l g d p.over q.over i.over)
    where
      room : (y w f g k d p n q m : ℕ) → f < L → g ≤ f → d ≤ most_seconds * L → 86400 * p + k ≤ 86400 * n + (86400 * f + g) + 113792 * h
          → 86400 * q ≤ 86400 * m + d + 43 * h
          → y + (n + m) ≤ w + (p + q) + h → y < w + 2 * L
      room y w f g k d p n q m a b e i j o = omega (arith, L-h, h_pos)

  after-order : {x y : Float} {f g : ℕ} → Val x f 0 L → Val y g 0 L → f ≤ g → g < L → T (le (with_offset c D x) (with_offset c D y))
  after-order {x} {y} {f} {g} vx vy k l =
      let i = times z.below z.val vx (less f g k l) in
      let j = times z.below z.val vy l in
      let p = z.near x f vx (less f g k l) in
      let q = z.near y g vy l in
      let o = le_says L-pos p.val q.val (one-order i.val j.val (le_says L-pos i.val j.val (times_order (lit< tt) z.val vx vy k))) in
      let d = in-days D few in
      add_order p.val d.val q.val d.val (both p.p p.n q.p q.n d.p d.n o)
    where
      less : (f g : ℕ) → f ≤ g → g < L → f < L
      less f g k l = omega arith

      both : (p n q m a b : ℕ) → p + m ≤ q + n → p + a + (m + b) ≤ q + a + (n + b)
      both p n q m a b k = omega arith

-- ---- the last float below 1.0, and the tests at midnight
abbrev last : Float
last = fin false 9007199254740991 (negsuc 52)

last-val : Val last (9007199254740991 * h) 0 L
last-val = in_units 9007199254740991 (2 ^ 53) h L-h (record { sign = false; size = 9007199254740991; has = (refl, refl); is = refl })

last-below : 9007199254740991 * h < L
last-below = omega (arith, L-h, h_pos)

h_W : h ≡ 2 * W
unfolding h W
h_W = refl

at_last : (x : Float) (f : ℕ) → T (fits binary64 x) → Val x f 0 L → f < L → f ≤ 9007199254740991 * h
at_last x f t v l = go (dec_le (3 * L) (4 * f))
  where
    go : Dec (3 * L ≤ 4 * f) → f ≤ 9007199254740991 * h
    go (no k) = omega (arith, L-h)
    go (yes k) = end (to-grid x f 0 t v (omega (arith, L-h, h_W)))
      where
        end : (d : ℕ) × (f ≡ 0 + d * (2 * W)) × Val x d 0 (2 ^ 53) → f ≤ 9007199254740991 * h
        end (d, e, w) = top d (subst (λ (z : ℕ). f ≡ 0 + d * z) (sym h_W) e)
          where
            less : (x : ℕ) → x < 9007199254740992 → x ≤ 9007199254740991
            less x k = omega arith

            top : (d : ℕ) → f ≡ 0 + d * h → f ≤ 9007199254740991 * h
            top d e =
                let b : d * h < 9007199254740992 * h = below (d * h) e in
                let c : d * h ≤ 9007199254740991 * h = mul-le-mul_right h (less d (lt_of_mul-lt-mul_right h b)) in
                omega arith
              where
                below : (z : ℕ) → f ≡ 0 + z → z < 9007199254740992 * h
                below z e = omega (arith, L-h)

plain_end : ℕ → Bool
unfolding seconds_per_day round add sub mul div of_int le lt eq
plain_end k = le (sub binary64 (with_offset one k last) one) (in_days k)

plain_start : ℕ → Bool
unfolding seconds_per_day round add sub mul div of_int le lt eq
plain_start k = le (in_days k) (with_offset one k nought)

longer_end : ℕ → Bool
unfolding seconds_per_day round add sub mul div of_int le lt eq
longer_end k = le (sub binary64 (with_offset K k last) one) (in_days (suc k))

longer_start : ℕ → Bool
unfolding seconds_per_day round add sub mul div of_int le lt eq
longer_start k = le (in_days k) (with_offset K k nought)

plain_end_lem : (k : ℕ) → k < 40 → T (le (sub binary64 (with_offset one k last) one) (in_days k))
unfolding plain_end
plain_end_lem k l = each plain_end 40 k l tt

plain-start : (k : ℕ) → k < 40 → T (le (in_days k) (with_offset one k nought))
unfolding plain_start
plain-start k l = each plain_start 40 k l tt

longer-end : (k : ℕ) → k < 40 → T (le (sub binary64 (with_offset K k last) one) (in_days (suc k)))
unfolding longer_end
longer-end k l = each longer_end 40 k l tt

longer-start : (k : ℕ) → k < 40 → T (le (in_days k) (with_offset K k nought))
unfolding longer_start
longer-start k l = each longer_start 40 k l tt

-- ---- a day of D seconds at its start and E at its end: its factor, and that it starts at D or later and ends at E or earlier
record DayLaw (D E : ℕ) : Type 0 where
  s : ℕ
  stretch : DayFactor D s 0 E
  start : T (le (in_days D) (with_offset stretch.c D nought))
  end : T (le (sub binary64 (with_offset stretch.c D last) one) (in_days E))

day-law : (D s E : ℕ) → D ≤ last_seconds → s ≤ 1 → D + s ≡ E → DayLaw D E
day-law D zero E l k e = subst (DayLaw D) (plain D E e)
    (record { s = 0; stretch = plain-day-factor D (omega arith); start = plain-start D (omega arith); end = plain_end_lem D (omega arith) })
  where
    plain : (D E : ℕ) → D + 0 ≡ E → D ≡ E
    plain D E e = omega arith
day-law D (suc zero) E l k e = subst (DayLaw D) (longer D E e)
    (record { s = 1; stretch = longer_day_factor D (omega arith); start = longer-start D (omega arith); end = longer-end D (omega arith) })
  where
    longer : (D E : ℕ) → D + 1 ≡ E → suc D ≡ E
    longer D E e = omega arith
day-law D (suc (suc s)) E l k e = absurd (omega arith)

module _ (n : ℕ) (low : 2441318 ≤ n) (high : n ≤ 5000002) where
  day-whole : FixedDay n
  day-whole = fixed-day n low (omega arith)

  day-few : seconds_on fixed n ≤ last_seconds
  day-few = omega (arith, day-whole.most)

  day-most : seconds_on fixed n ≤ most_seconds
  day-most = omega (arith, day-few)

  the_day : DayLaw (seconds_on fixed n) (seconds_on fixed (suc n))
  the_day = day-law (seconds_on fixed n) (leap_after fixed n) (seconds_on fixed (suc n)) day-few day-whole.step day-whole.next

-- the float of UTC to TAI on day n
abbrev sum_of : Float → ℕ → Float → Float
sum_of a n y = add binary64 (add binary64 (sub binary64 mjd_zero_point a) (of_int binary64 (pos n -ℤ pos 2400001))) y

tai-is : (a : Float) (n : ℕ) (d : DayLaw (seconds_on fixed n) (seconds_on fixed (suc n))) (x : Float)
    → tai fixed a n x ≡ sum_of a n (with_offset d.stretch.c (seconds_on fixed n) x)
tai-is a n d x = ap (λ (z : Float). sum_of a n (add binary64 z (in_days (seconds_on fixed n)))) (d.stretch.is x)

module _ {a : Float} {A : ℕ} (v : FirstPart a A) (n : ℕ) (low : 2441318 ≤ n) where
  -- ---- ON ONE DAY
  pub same-day : (high : n ≤ 5000002) {x y : Float} {f g : ℕ} → Val x f 0 L → Val y g 0 L → f ≤ g → g < L → T (le (tai fixed a n x) (tai fixed a n y))
  same-day high {x} {y} {f} {g} vx vy k l =
      let d = the_day n low high in
      let m = since-midnight (half-days v) n low high in
      let few = day-most n low high in
      let p = after-val d.stretch.factor (seconds_on fixed n) few vx (less f g k l) in
      let q = after-val d.stretch.factor (seconds_on fixed n) few vy l in
      let o = le_says L-pos p.2 q.2 (after-order d.stretch.factor (seconds_on fixed n) few vx vy k l) in
      subst₂ (λ (z w : Float). T (le z w)) (sym (tai-is a n d x)) (sym (tai-is a n d y))
      (add_order m.val p.2 m.val q.2 (both m.x A p.0 p.1 q.0 q.1 o))
    where
      less : (f g : ℕ) → f ≤ g → g < L → f < L
      less f g k l = omega arith

      both : (x A p n q m : ℕ) → p + m ≤ q + n → x + p + (A + m) ≤ x + q + (A + n)
      both x A p n q m k = omega arith

  -- ---- OVER ONE MIDNIGHT
  pub next-day : (high : suc n ≤ 5000002) {x y : Float} {f g : ℕ} → T (fits binary64 x) → Val x f 0 L → Val y g 0 L → f < L → g < L
      → T (le (tai fixed a n x) (tai fixed a (suc n) y))
  next-day high {x} {y} {f} {g} t vx vy l l' =
      let D = seconds_on fixed n in
      let E = seconds_on fixed (suc n) in
      let d = the_day n low (omega arith) in
      let e = the_day (suc n) (omega arith) high in
      let few = day-most n low (omega arith) in
      let few' = day-most (suc n) (omega arith) high in
      let m = since-midnight (half-days v) n low (omega arith) in
      let m' = since-midnight (half-days v) (suc n) (omega arith) high in
      let p = after-val d.stretch.factor D few vx l in
      let z = after-val d.stretch.factor D few last-val last-below in
      let q = after-val e.stretch.factor E few' vy l' in
      let i = after-val e.stretch.factor E few' nought-L L-pos in
      let c = in-days E few' in
      let o1 = le_says L-pos p.2 z.2 (after-order d.stretch.factor D few vx last-val (at_last x f t vx l) last-below) in
      let o2 = midnight (with_offset d.stretch.c D last) z.0 z.1 c.p c.n (add-fits binary64 _ _) z.2 z.3 c.val d.end
      (some (E * L) c.p c.n (mul-le-mul_right L (day-whole (suc n) (omega arith) high).least) c.under) in
      let o3 = le_says L-pos c.val i.2 e.start in
      let o4 = le_says L-pos i.2 q.2 (after-order e.stretch.factor E few' nought-L vy (omega arith) l') in
      subst₂ (λ (z w : Float). T (le z w)) (sym (tai-is a n d x)) (sym (tai-is a (suc n) e y))
      (add_order m.val p.2 m'.val q.2
      (total m.x m'.x (n * L) p.0 p.1 z.0 z.1 c.p c.n i.0 i.1 q.0 q.1 m.is (m'.is ∙ next_midnight n) o1 o2 o3 o4))
    where
      some : (d p n : ℕ) → 10 * L ≤ d → d + 86400 * n ≤ 86400 * p + 43 * h → n ≤ p
      some d p n k j = omega (arith, L-h)

      midnight : (w : Float) (p n c b : ℕ) → T (fits binary64 w) → Val w p n L → p < n + 2 * L → {k : Float} → Val k c b L → T (le (sub binary64 w one) k)
          → b ≤ c → p + b ≤ c + n + L
      midnight w p n c b t vw k vc j s = go (dec_le (n + L) p)
        where
          go : Dec (n + L ≤ p) → p + b ≤ c + n + L
          go (yes r) = end (le_says L-pos (minus_one w p n t vw r k) vc j)
            where
              end : p + b ≤ c + (n + L) → p + b ≤ c + n + L
              end q = omega arith
          go (no r) = omega arith

      total : (x x' N p n z w c b i j q m : ℕ) → x + H ≡ N → x' + H ≡ L + N → p + w ≤ z + n → z + b ≤ c + w + L → c + j ≤ i + b → i + m ≤ q + j
          → x + p + (A + m) ≤ x' + q + (A + n)
      total x x' N p n z w c b i j q m e f g h k l = omega arith
