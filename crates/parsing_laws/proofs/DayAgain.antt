-- The day and the fraction that `julian_to_calendar` finds in midnight and a time to the millisecond: the same day, and a fraction whose milliseconds are those
-- of the time within a part of a thousandth. By whole numbers alone, and then of the floats. Assumes nothing.
use mathlib.Core.Path.{◌≡◌, refl, sym, ap, ◌∙◌, subst}
use mathlib.Core.Bool.{Bool, true, false}
use Prim.Native.Nat.{ℕ, suc, ◌+◌, ◌*◌, ◌^◌, ◌≤◌, ◌<◌}
use native.Mathlib.Nat.{le_trans, le_of_eq, mul_comm, mul_assoc, add-mul, mul-le-mul_right, mul-le-mul_left, zero-mul, one-mul, le_of_lt}
use native.Mathlib.Nat.{le_of_mul-le-mul_right}
use native.Mathlib.Omega.{arith}
use lib.Dec.{T, ltb}
use lib.IntN.{ℤ, pos, negsuc, ◌+ℤ◌, ◌-ℤ◌}
use lib.Ieee.{Float, binary64, fits, of_int, add}
use lib.Ieee.Fits.{add-fits}
use borrow.Author.Tests.{ltb-true, ltb-false}
use Rattle.refusals.specs.Outcome.{answer}
use Rattle.rounding.specs.Value.{Val, Under52, L, plus_z, minus_z, InUnit}
use Rattle.rounding.proofs.Value.{L-pos, val-move, abs-val}
use Rattle.rounding.proofs.Signed.{dist, dist_le}
use Rattle.rounding.proofs.Casts.{add_pair, sub_pair}
use Rattle.rounding.proofs.Compare.{lt_show, lt_says}
use Rattle.rounding.proofs.Range.{power-val}
use Rattle.rounding.proofs.About.{U, L-U}
use Rattle.constants.specs.Constants.{mjd_zero_point}
use Rattle.julian.specs.day_number.DayNumber.{accepted, day_of}
use Rattle.julian.specs.day_number.Answer.{day_number_and_fraction}
use Rattle.julian.specs.day_number.NearDay.{DayNear}
use Rattle.julian.proofs.day_number.Units.{E-L, one-L}
use Rattle.julian.proofs.day_number.JulianRange.{accepts}
use Rattle.julian.proofs.day_number.Answer.{answered}
use Rattle.julian.proofs.day_number.Ranges.{fraction-range}
use Rattle.julian.proofs.day_number.OffGrid.{day-near}
use Rattle.julian.proofs.Midnights.{midnight-sum}
use Rattle.julian.proofs.laws.Steps.{H, L-H, half-val}
use Rattle.parsing_laws.proofs.ClockFraction.{TimeNear}

-- ---- the fraction g = x / L of a day of C milliseconds is worth K of them, within a part of a thousandth
pub record MillisWorth (x K C : ℕ) : Type 0 where
  pub over : 1024 * (x * C) ≤ 1024 * (K * L) + L
  pub under : 1024 * (K * L) ≤ 1024 * (x * C) + L

-- by atoms, each a product: d L C and N L C the days found and meant, x C the fraction found, p C and q C the fraction of the date; v is 2 ^ -51 day
module _ (dLC NLC xC pC qC KL LC v l : ℕ) (over : dLC + xC + qC ≤ pC + NLC + v) (under : pC + NLC ≤ dLC + xC + qC + v) (near : pC ≤ qC + KL + 2 * v)
    (near' : qC + KL ≤ pC + 2 * v)
    (small : 1048576 * v ≤ l) (some : 0 < l) where
  not_later : NLC + LC ≤ dLC → KL + l ≤ LC → ⊥
  not_later h k = omega arith

  not_earlier : dLC + LC ≤ NLC → xC ≤ LC → l ≤ KL → ⊥
  not_earlier h k m = omega arith

  same_over : dLC ≡ NLC → 1024 * xC ≤ 1024 * KL + l
  same_over e = omega arith

  same-under : dLC ≡ NLC → 1024 * KL ≤ 1024 * xC + l
  same-under e = omega arith

-- ---- of the floats: midnight of MJD N and a time of K milliseconds, of a day of c seconds
-- the day found is the day meant, and the fraction is worth the time
pub record Found (N c K : ℕ) (a f : Float) : Type 0 where
  pub x : ℕ
  pub given : day_number_and_fraction a f ≡ answer (day_of a f)
  pub day : (day_of a f).day ≡ pos (2400001 + N)
  pub val : Val (day_of a f).fraction x 0 L
  pub in_unit : InUnit (day_of a f).fraction
  pub worth : MillisWorth x K (1000 * c)

-- a float of less than 2 ^ 52 in size
under-52 : {x : Float} {p n : ℕ} (B : ℕ) → T (fits binary64 x) → Val x p n L → p ≤ n + B → n ≤ p + B → B < 2 ^ 52 * L → Under52 x
under-52 {x} {p} {n} B f v k l b = record { held = f; small = lt_show L-pos (abs-val v) (power-val 52 L) (less (dist p n) (2 ^ 52 * L) (dist_le p n B k l) b) }
  where
    less : (d c : ℕ) → d ≤ B → B < c → d + 0 < c + 0
    less d c q r = omega arith

-- a day below 0 is too far from midnight
not_before : (M x r s a p q l h : ℕ) → r + q ≡ s + (a + p) → x < l → l ≡ 2 * h → 0 < l → 4800001 * h ≤ a → q ≤ p + 2 * l
    → 2 ^ 51 * (r + M) + 2 ^ 50 * l ≤ 2 ^ 51 * (0 * l + x + s) + l → ⊥
not_before M x r s a p q l h g b i y z w c = omega arith

module _ (N c K : ℕ) (f : Float) (held : T (fits binary64 f)) (t : TimeNear f K c) (low : 86399 ≤ c) (high : c ≤ 86401) (few : N ≤ 4000000) (first : 1 ≤ K)
    (last : K < 1000 * c) where
  abbrev J : Float
  J = add binary64 mjd_zero_point (of_int binary64 (pos N))

  abbrev A : ℕ
  A = (4800001 + N * 2) * H

  abbrev C : ℕ
  C = 1000 * c

  abbrev p : ℕ
  p = t.p

  abbrev q : ℕ
  q = t.n

  J-val : Val J A 0 L
  J-val = subst (λ (z : ℕ). Val J A z L) (zero-mul H) (half-val (midnight-sum (pos N) (omega arith)))

  A-most : A ≤ 12800001 * H
  A-most = mul-le-mul_right H (omega arith)

  A-least : 4800001 * H ≤ A
  A-least = mul-le-mul_right H (omega arith)

  -- midnight and half a day are whole days
  A-day : A + H ≡ (2400001 + N) * L
  A-day = ap (λ (z : ℕ). A + z) (sym (one-mul H)) ∙ sym (add-mul (4800001 + N * 2) 1 H) ∙ ap (λ (z : ℕ). z * H) (twice N) ∙ mul_assoc (2400001 + N) 2 H
      ∙ ap (λ (z : ℕ). (2400001 + N) * z) (sym L-H)
    where
      twice : (n : ℕ) → 4800001 + n * 2 + 1 ≡ (2400001 + n) * 2
      twice n = omega arith

  -- ---- products with the milliseconds of the day; v is 2 ^ -51 day
  abbrev v : ℕ
  v = 2 ^ 39 * (U * C)

  LC-v : L * C ≡ 2 ^ 51 * v
  LC-v = ap (λ (z : ℕ). z * C) L-U ∙ mul_assoc (2 ^ 90) U C ∙ mul_assoc (2 ^ 51) (2 ^ 39) (U * C)

  v-small : 1048576 * v ≤ L
  v-small = le_trans (mul-le-mul_left 1048576 (mul-le-mul_left (2 ^ 39) (le_trans (mul-le-mul_left U (omega arith)) (le_of_eq (mul_comm U 86401000)))))
      (le_trans (go U) (le_of_eq (sym L-U)))
    where
      go : (u : ℕ) → 1048576 * (2 ^ 39 * (86401000 * u)) ≤ 2 ^ 90 * u
      go u = omega arith

  KL-low : L ≤ K * L
  KL-low = le_trans (le_of_eq (sym (one-mul L))) (mul-le-mul_right L first)

  KL-high : K * L + L ≤ L * C
  KL-high = le_trans (le_of_eq (ap (λ (z : ℕ). K * L + z) (sym (one-mul L)) ∙ sym (add-mul K 1 L)))
      (le_trans (mul-le-mul_right L (omega arith)) (le_of_eq (mul_comm C L)))

  near-over : p * C ≤ q * C + K * L + 2 * v
  near-over = le_trans t.over (le_of_eq (ap (λ (z : ℕ). q * C + K * L + z) (mul_assoc 2 (2 ^ 39) (U * C))))

  near-under : q * C + K * L ≤ p * C + 2 * v
  near-under = le_trans t.under (le_of_eq (ap (λ (z : ℕ). p * C + z) (mul_assoc 2 (2 ^ 39) (U * C))))

  C-pos : 0 < C
  C-pos = omega arith

  -- the fraction of the date is at most two days in size
  p-size : p ≤ q + 2 * L
  p-size = le_of_mul-le-mul_right {k = C}
      (le_trans (go (p * C) (q * C) (K * L) v L (L * C) near-over KL-high v-small)
      (le_of_eq (sym (add-mul q (2 * L) C ∙ ap (λ (z : ℕ). q * C + z) (mul_assoc 2 L C))))) C-pos
    where
      go : (a b k w l m : ℕ) → a ≤ b + k + 2 * w → k + l ≤ m → 1048576 * w ≤ l → a ≤ b + 2 * m
      go a b k w l m g h i = omega arith

  q-size : q ≤ p + 2 * L
  q-size = le_of_mul-le-mul_right {k = C}
      (le_trans (go (p * C) (q * C) (K * L) v L (L * C) near-under KL-high v-small)
      (le_of_eq (sym (add-mul p (2 * L) C ∙ ap (λ (z : ℕ). p * C + z) (mul_assoc 2 L C))))) C-pos
    where
      go : (a b k w l m : ℕ) → b + k ≤ a + 2 * w → k + l ≤ m → 1048576 * w ≤ l → b ≤ a + 2 * m
      go a b k w l m g h i = omega arith

  -- ---- the calendar takes them, and how near it is
  takes : accepted J f ≡ true
  takes = accepts J f A 0 p q J-val t.val (omega (arith, A-most, p-size, E-L, L-H)) (omega (arith, q-size, E-L, L-H, A-least))

  abbrev j : ℤ
  j = pos p -ℤ pos q

  j-is : plus_z j + q ≡ minus_z j + p
  j-is = omega (arith, sub_pair (pos p) (pos q))

  sum_is : plus_z (pos A +ℤ j) + q ≡ minus_z (pos A +ℤ j) + (A + p)
  sum_is = go (plus_z (pos A +ℤ j)) (minus_z (pos A +ℤ j)) (plus_z j) (minus_z j) (add_pair (pos A) j) j-is
    where
      go : (x y r s : ℕ) → x + (0 + s) ≡ y + (A + r) → r + q ≡ s + p → x + q ≡ y + (A + p)
      go x y r s e g = omega arith

  near : DayNear (pos A +ℤ j) (day_of J f).day (day_of J f).fraction
  near =
      day-near J f
      (under-52 (12800001 * H) (add-fits binary64 mjd_zero_point (of_int binary64 (pos N))) J-val (omega (arith, A-most)) (omega arith) (less H L L-H L-pos))
      (under-52 (2 * L) held t.val p-size q-size (omega (arith, L-pos)))
      (pos A) j J-val (val-move t.val (omega (arith, j-is))) (day_of J f) (answered J f takes)
    where
      less : (h l : ℕ) → l ≡ 2 * h → 0 < l → 12800001 * h < 2 ^ 52 * l
      less h l e g = omega arith

  unit : InUnit (day_of J f).fraction
  unit = fraction-range J f (add-fits binary64 mjd_zero_point (of_int binary64 (pos N))) held (day_of J f) (answered J f takes)

  inside : (x : ℕ) → Val (day_of J f).fraction x 0 L → x < L
  inside x w = omega (arith, lt_says L-pos w one-L unit.high)

  -- ---- the day found
  module _ (d x : ℕ) (below : x < L) (over : d * L + x + q ≤ p + (2400001 + N) * L + 2 ^ 39 * U)
      (under : p + (2400001 + N) * L ≤ d * L + x + q + 2 ^ 39 * U) where
    over-C : d * L * C + x * C + q * C ≤ p * C + (2400001 + N) * L * C + v
    over-C = le_trans (le_of_eq (sym (three (d * L) x q)))
        (le_trans (mul-le-mul_right C over)
        (le_of_eq (three p ((2400001 + N) * L) (2 ^ 39 * U) ∙ ap (λ (z : ℕ). p * C + (2400001 + N) * L * C + z) (mul_assoc (2 ^ 39) U C))))
      where
        three : (a b c : ℕ) → (a + b + c) * C ≡ a * C + b * C + c * C
        three a b c = add-mul (a + b) c C ∙ ap (λ (z : ℕ). z + c * C) (add-mul a b C)

    under-C : p * C + (2400001 + N) * L * C ≤ d * L * C + x * C + q * C + v
    under-C = le_trans (le_of_eq (sym (add-mul p ((2400001 + N) * L) C)))
        (le_trans (mul-le-mul_right C under) (le_of_eq (add-mul (d * L + x + q) (2 ^ 39 * U) C ∙ (λ i. three (d * L) x q i + mul_assoc (2 ^ 39) U C i))))
      where
        three : (a b c : ℕ) → (a + b + c) * C ≡ a * C + b * C + c * C
        three a b c = add-mul (a + b) c C ∙ ap (λ (z : ℕ). z + c * C) (add-mul a b C)

    -- a whole day more is L C more
    day-more : (a b : ℕ) → a + 1 ≤ b → a * L * C + L * C ≤ b * L * C
    day-more a b h = le_trans (le_of_eq
        (ap (λ (z : ℕ). a * L * C + z * C) (sym (one-mul L)) ∙ sym (add-mul (a * L) (1 * L) C) ∙ ap (λ (z : ℕ). z * C) (sym (add-mul a 1 L))))
        (mul-le-mul_right C (mul-le-mul_right L h))

    d_is : d ≡ 2400001 + N
    d_is = go (ltb d (2400001 + N)) refl (ltb (2400001 + N) d) refl
      where
        go : (a : Bool) → ltb d (2400001 + N) ≡ a → (b : Bool) → ltb (2400001 + N) d ≡ b → d ≡ 2400001 + N
        go true e b g =
            absurd (not_earlier (d * L * C) ((2400001 + N) * L * C) (x * C) (p * C) (q * C) (K * L) (L * C) v L over-C under-C near-over near-under v-small
            L-pos
            (day-more d (2400001 + N) (omega (arith, ltb-true d (2400001 + N) e))) (mul-le-mul_right C (le_of_lt below)) KL-low)
        go false e true g =
            absurd (not_later (d * L * C) ((2400001 + N) * L * C) (x * C) (p * C) (q * C) (K * L) (L * C) v L over-C under-C near-over near-under v-small L-pos
            (day-more (2400001 + N) d (omega (arith, ltb-true (2400001 + N) d g))) KL-high)
        go false e false g = omega (arith, ltb-false d (2400001 + N) e, ltb-false (2400001 + N) d g)

    worth-it : MillisWorth x K C
    worth-it =
        let e = ap (λ (z : ℕ). z * L * C) d_is in
        record {
          over = same_over (d * L * C) ((2400001 + N) * L * C) (x * C) (p * C) (q * C) (K * L) (L * C) v L over-C under-C near-over near-under v-small L-pos e;
          under = same-under (d * L * C) ((2400001 + N) * L * C) (x * C) (p * C) (q * C) (K * L) (L * C) v L over-C under-C near-over near-under v-small L-pos
              e;
        }

  pub found : Found N c K J f
  found = go (day_of J f).day refl near
    where
      go : (z : ℤ) → (day_of J f).day ≡ z → DayNear (pos A +ℤ j) z (day_of J f).fraction → Found N c K J f
      go (negsuc m) e k = absurd (not_before (suc m * L) k.units (plus_z (pos A +ℤ j)) (minus_z (pos A +ℤ j)) A p q L H sum_is (inside k.units k.val)
          L-H L-pos A-least q-size k.under)
      go (pos d) e k =
          let o = over (d * L) k.units (plus_z (pos A +ℤ j)) (minus_z (pos A +ℤ j)) ((2400001 + N) * L) (2 ^ 39 * U) A L H sum_is A-day L-H
          (L-U ∙ mul_assoc (2 ^ 51) (2 ^ 39) U) k.over in
          let u = back (d * L) k.units (plus_z (pos A +ℤ j)) (minus_z (pos A +ℤ j)) ((2400001 + N) * L) (2 ^ 39 * U) A L H sum_is A-day L-H
          (L-U ∙ mul_assoc (2 ^ 51) (2 ^ 39) U) k.under in
          record {
            x = k.units;
            given = answered J f takes;
            day = e ∙ ap pos (d_is d k.units (inside k.units k.val) o u);
            val = k.val;
            in_unit = unit;
            worth = worth-it d k.units (inside k.units k.val) o u;
          }
        where
          over : (D x r s M w a l h : ℕ) → r + q ≡ s + (a + p) → a + h ≡ M → l ≡ 2 * h → l ≡ 2 ^ 51 * w
              → 2 ^ 51 * (D + x + s) ≤ 2 ^ 51 * (r + 0 * l) + 2 ^ 50 * l + l → D + x + q ≤ p + M + w
          over D x r s M w a l h g m i y c = omega arith

          back : (D x r s M w a l h : ℕ) → r + q ≡ s + (a + p) → a + h ≡ M → l ≡ 2 * h → l ≡ 2 ^ 51 * w
              → 2 ^ 51 * (r + 0 * l) + 2 ^ 50 * l ≤ 2 ^ 51 * (D + x + s) + l → p + M ≤ D + x + q + w
          back D x r s M w a l h g m i y c = omega arith
