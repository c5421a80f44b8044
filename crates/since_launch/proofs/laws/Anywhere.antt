-- ANYWHERE, for every pair of dates with parts under 2 ^ 52 in size that is answered, the milliseconds are within 0.5 ms and 96 ps of the exact ones.
-- Assumes nothing.
use mathlib.Core.Path.{◌≡◌, refl, sym, ap, ◌∙◌}
use Prim.Native.Nat.{ℕ, ◌+◌, ◌*◌, ◌^◌, ◌≤◌, ◌<◌}
use native.Mathlib.Nat.{add-mul, mul_assoc, mul_comm, mul-le-mul_right}
use native.Mathlib.Omega.{arith}
use mathlib.Core.Bool.{Bool, true, false, cond, ◌&&◌}
use lib.IntN.{ℤ, pos, ◌+ℤ◌, ◌-ℤ◌}
use Rattle.refusals.specs.Outcome.{Outcome, answer, refusal, onward}
use Rattle.rounding.specs.Value.{L, plus_z, minus_z}
use Rattle.rounding.proofs.Value.{val-move, L-pos}
use Rattle.rounding.proofs.Casts.{add_pair, sub_pair}
use Rattle.rounding.proofs.Compare.{lt_says}
use Rattle.julian.specs.declared.JulianDate.{JulianDate}
use Rattle.julian.specs.declared.day_number.DayNumber.{DayNumber}
use Rattle.julian.specs.day_number.Answer.{day_number_and_fraction}
use Rattle.julian.specs.day_number.NearDay.{DayNear}
use Rattle.julian.proofs.day_number.OffGrid.{day-near}
use Rattle.julian.proofs.day_number.Ranges.{day-range, fraction-range}
use Rattle.julian.specs.Finite.{finite_parts}
use Rattle.julian.specs.Worth.{Worth, SmallParts}
use Rattle.time_of_day.specs.TimeShown.{from_zero}
use Rattle.time_of_day.specs.HalfEven.{grid_units}
use Rattle.time_of_day.proofs.Fractions.{one-val}
use Rattle.since_launch.specs.Millis.{place_of, place_in, units_of, count_of, millis_from_to}
use Rattle.since_launch.specs.laws.NearestMillis.{NearestMillis}
use Rattle.since_launch.specs.laws.NearSums.{NearMillis}
use Rattle.since_launch.proofs.Units.{units-floor}
use Rattle.since_launch.proofs.Places.{days-are, fraction-held}
use Rattle.since_launch.proofs.laws.MillisDecided.{count-decided, answered-nearest}

-- p units are within 2 above and 3 below the exact sum and 68570.5 days
pub record PlaceNear (P N p : ℕ) : Type 0 where
  pub over : p * L + 4503599627370496 * N ≤ 4503599627370496 * P + (68570 * 4503599627370496 + 2251799813685248) * L + 2 * L
  pub under : 4503599627370496 * P + (68570 * 4503599627370496 + 2251799813685248) * L ≤ p * L + 4503599627370496 * N + 3 * L

module _ (d : JulianDate) (P N : ℕ) (s : SmallParts d) (w : Worth d P N L) (number : DayNumber)
    (given : day_number_and_fraction d.jd1 d.jd2 ≡ answer number) where
  abbrev i : ℤ
  i = pos w.p -ℤ pos w.n

  abbrev j : ℤ
  j = pos w.q -ℤ pos w.m

  near : DayNear (i +ℤ j) number.day number.fraction
  near = day-near d.jd1 d.jd2 s.first s.second i j (val-move w.first (omega (arith, sub_pair (pos w.p) (pos w.n))))
      (val-move w.second (omega (arith, sub_pair (pos w.q) (pos w.m)))) number given

  is_sum : plus_z (i +ℤ j) + N ≡ P + minus_z (i +ℤ j)
  is_sum = omega (arith, add_pair i j, sub_pair (pos w.p) (pos w.n), sub_pair (pos w.q) (pos w.m), w.total)

  below_one : near.units < L
  below_one =
      let r = fraction-range d.jd1 d.jd2 s.first.held s.second.held number given in
      let h : near.units + 0 < L + 0 = lt_says L-pos near.val (one-val L) r.high in
      omega arith

  pub place-near : PlaceNear P N (units_of (place_of number))
  unfolding place_of
  place-near =
      let u = units-floor number.fraction near.units (fraction-held d.jd1 d.jd2 s.first.held s.second.held number given) near.val
      below_one in
      let a = from_zero (number.day +ℤ pos 68570) in
      let k = grid_units number.fraction in
      let e = times a (minus_z number.day) (plus_z number.day)
      (days-are number.day (day-range d.jd1 d.jd2 s.first.held s.second.held number given)) in
      record {
        over = above (plus_z (i +ℤ j)) (minus_z (i +ℤ j)) near.units (k * L) (a * L) (minus_z number.day * L) (plus_z number.day * L)
            ((a * 4503599627370496 + k) * L) is_sum e (spread a k) u.0 near.over;
        under = below (plus_z (i +ℤ j)) (minus_z (i +ℤ j)) near.units (k * L) (a * L) (minus_z number.day * L) (plus_z number.day * L)
            ((a * 4503599627370496 + k) * L) is_sum e (spread a k) u.1 near.under;
      }
    where
      times : (a n p : ℕ) → a + n ≡ p + 68570 → a * L + n * L ≡ p * L + 68570 * L
      times a n p e = sym (add-mul a n L) ∙ ap (λ (z : ℕ). z * L) e ∙ add-mul p 68570 L

      spread : (a k : ℕ) → (a * 4503599627370496 + k) * L ≡ 4503599627370496 * (a * L) + k * L
      spread a k =
          add-mul (a * 4503599627370496) k L
          ∙ ap (λ (z : ℕ). z * L + k * L) (mul_comm a 4503599627370496) ∙ ap (λ (z : ℕ). z + k * L) (mul_assoc 4503599627370496 a L)

      above : (S R u k a n p t : ℕ) → S + N ≡ P + R → a + n ≡ p + 68570 * L → t ≡ 4503599627370496 * a + k → k ≤ u * 4503599627370496
          → 2 ^ 51 * (p + u + R) ≤ 2 ^ 51 * (S + n) + 2 ^ 50 * L + L
          → t + 4503599627370496 * N ≤ 4503599627370496 * P + (68570 * 4503599627370496 + 2251799813685248) * L + 2 * L
      above S R u k a n p t e f g h o = omega arith

      below : (S R u k a n p t : ℕ) → S + N ≡ P + R → a + n ≡ p + 68570 * L → t ≡ 4503599627370496 * a + k → u * 4503599627370496 < k + L
          → 2 ^ 51 * (S + n) + 2 ^ 50 * L ≤ 2 ^ 51 * (p + u + R) + L
          → 4503599627370496 * P + (68570 * 4503599627370496 + 2251799813685248) * L ≤ t + 4503599627370496 * N + 3 * L
      below S R u k a n p t e f g h o = omega arith

-- ---- what an answered pair comes from
pub record Answered (from to : JulianDate) (r : ℕ) : Type 0 where
  pub n : DayNumber
  pub n' : DayNumber
  pub given : day_number_and_fraction from.jd1 from.jd2 ≡ answer n
  pub given' : day_number_and_fraction to.jd1 to.jd2 ≡ answer n'
  pub count : count_of (units_of (place_of n)) (units_of (place_of n')) ≡ answer r

pub answered-by : (from to : JulianDate) (r : ℕ) → millis_from_to from to ≡ answer r → Answered from to r
unfolding millis_from_to place_in onward
answered-by from to r e =
    go (finite_parts from && finite_parts to) (day_number_and_fraction from.jd1 from.jd2) (day_number_and_fraction to.jd1 to.jd2) refl refl e
  where
    go : (b : Bool) (o o' : Outcome DayNumber) → day_number_and_fraction from.jd1 from.jd2 ≡ o → day_number_and_fraction to.jd1 to.jd2 ≡ o'
        → cond b (onward (onward o (λ n. answer (place_of n))) (λ p. onward (onward o' (λ n. answer (place_of n))) (λ q. count_of (units_of p) (units_of q))))
        (refusal 9) ≡ answer r → Answered from to r
    go false o o' f g h = let z : ◌≡◌ {A = ℕ} 0 1 = cc in absurd (omega arith)
    go true (refusal k) o' f g h = let z : ◌≡◌ {A = ℕ} 0 1 = cc in absurd (omega arith)
    go true (answer n) (refusal k) f g h = let z : ◌≡◌ {A = ℕ} 0 1 = cc in absurd (omega arith)
    go true (answer n) (answer n') f g h = record { n = n; n' = n'; given = f; given' = g; count = h }

-- an answer is below 2 ^ 40
pub answer-small : (from to : JulianDate) (r : ℕ) → millis_from_to from to ≡ answer r → r < 2 ^ 40
answer-small from to r e =
    let g = answered-by from to r e in
    (answered-nearest (count-decided (units_of (place_of g.n)) (units_of (place_of g.n'))) g.count).1

-- ---- times L
lin : (x y z : ℕ) → (8796093022208 * x + 168750 * y + z) * L ≡ 8796093022208 * (x * L) + 168750 * (y * L) + z * L
lin x y z =
    add-mul (8796093022208 * x + 168750 * y) z L
    ∙ ap (λ (t : ℕ). t + z * L) (add-mul (8796093022208 * x) (168750 * y) L ∙ (λ k. mul_assoc 8796093022208 x L k + mul_assoc 168750 y L k))

pub scale : (x y z x' y' z' : ℕ) → 8796093022208 * x + 168750 * y + z ≤ 8796093022208 * x' + 168750 * y' + z'
    → 8796093022208 * (x * L) + 168750 * (y * L) + z * L ≤ 8796093022208 * (x' * L) + 168750 * (y' * L) + z' * L
scale x y z x' y' z' h = omega (arith, lin x y z, lin x' y' z', mul-le-mul_right L h)

-- the places of two dates and the number nearest
pub near-by-places : (P N P' N' p q r : ℕ) → PlaceNear P N p → PlaceNear P' N' q → NearestMillis q p r → NearMillis P N P' N' r
near-by-places P N P' N' p q r a b n =
    record {
      over = above (r * L) (p * L) (q * L) (scale r p 0 0 q 4398046511104 (omega (arith, n.over))) a.under b.over;
      under = below (r * L) (p * L) (q * L) (scale 0 q 0 r p 4398046511104 (omega (arith, n.under))) a.over b.under;
    }
  where
    above : (R p q : ℕ) → 8796093022208 * R + 168750 * p + 0 * L ≤ 8796093022208 * (0 * L) + 168750 * q + 4398046511104 * L
        → 4503599627370496 * P + (68570 * 4503599627370496 + 2251799813685248) * L ≤ p + 4503599627370496 * N + 3 * L
        → q + 4503599627370496 * N' ≤ 4503599627370496 * P' + (68570 * 4503599627370496 + 2251799813685248) * L + 2 * L
        → 2 ^ 43 * (R + 86400000 * (N' + P)) ≤ 2 ^ 43 * (86400000 * (P' + N)) + (2 ^ 42 + 10 * 84375) * L
    above R p q h a b = omega arith

    below : (R p q : ℕ) → 8796093022208 * (0 * L) + 168750 * q + 0 * L ≤ 8796093022208 * R + 168750 * p + 4398046511104 * L
        → p + 4503599627370496 * N ≤ 4503599627370496 * P + (68570 * 4503599627370496 + 2251799813685248) * L + 2 * L
        → 4503599627370496 * P' + (68570 * 4503599627370496 + 2251799813685248) * L ≤ q + 4503599627370496 * N' + 3 * L
        → 2 ^ 43 * (86400000 * (P' + N)) ≤ 2 ^ 43 * (R + 86400000 * (N' + P)) + (2 ^ 42 + 10 * 84375) * L
    below R p q h a b = omega arith

-- (b) within 0.5 ms and 96 ps
pub anywhere_near : (from to : JulianDate) (P N P' N' : ℕ) → SmallParts from → SmallParts to → Worth from P N L → Worth to P' N' L → (r : ℕ)
    → millis_from_to from to ≡ answer r → NearMillis P N P' N' r
anywhere_near from to P N P' N' s s' w w' r e =
    let g = answered-by from to r e in
    near-by-places P N P' N' (units_of (place_of g.n)) (units_of (place_of g.n')) r (place-near from P N s w g.n g.given)
    (place-near to P' N' s' w' g.n' g.given') (answered-nearest (count-decided (units_of (place_of g.n)) (units_of (place_of g.n'))) g.count).0
