-- Off the grid: the day and the fraction of an answered pair of parts under 2 ^ 52 are within 2 ^ -51 day of the exact sum plus one half. Assumes nothing.
use mathlib.Core.Path.{◌≡◌, sym, ap, ◌∙◌, subst}
use mathlib.Core.Bool.{Bool, true, false}
use Prim.Native.Nat.{ℕ, ◌+◌, ◌*◌, ◌^◌, ◌≤◌, ◌<◌}
use native.Mathlib.Nat.{add-mul, lt_of_mul-lt-mul_right}
use native.Mathlib.Omega.{arith}
use lib.Dec.{T}
use lib.IntN.{ℤ, ◌+ℤ◌}
use lib.Ieee.{Float, binary64, fits}
use Rattle.rounding.specs.Value.{Val, Under52, L}
use Rattle.rounding.proofs.Value.{L-pos, val-unique}
use Rattle.rounding.proofs.Signed.{plus-of, minus-of}
use Rattle.rounding.proofs.Casts.{plus_z, minus_z, add_pair}
use Rattle.rounding.proofs.Sizes.{under-size}
use Rattle.refusals.specs.Outcome.{answer}
use Rattle.floats.specs.Whole.{nearest_int}
use Rattle.julian.specs.declared.day_number.DayNumber.{DayNumber}
use Rattle.julian.specs.day_number.DayNumber.{accepted, rest, joined_fractions, total, day_number, fraction_passed, day_of}
use Rattle.julian.specs.day_number.Answer.{day_number_and_fraction}
use Rattle.julian.specs.day_number.NearDay.{DayNear}
use Rattle.julian.proofs.day_number.Units.{H, H-L, W, L-W}
use Rattle.julian.proofs.day_number.SignedUnits.{has-val}
use Rattle.julian.proofs.day_number.NearestNumber.{Numbers}
use Rattle.julian.proofs.day_number.NearestInt.{plain-plus, plain-minus}
use Rattle.julian.proofs.day_number.Pair.{AcceptedSum}
use Rattle.julian.proofs.day_number.Accepted.{accepted-pair}
use Rattle.julian.proofs.day_number.DayInRange.{total-is, number_is}
use Rattle.julian.proofs.day_number.Answer.{answer-is}

-- in units of 2 ^ -1074, of parts p - n and q - m
record NearPair (p n q m : ℕ) (day : ℤ) (fraction : Float) : Type 0 where
  units : ℕ
  val : Val fraction units 0 L
  over : 2 ^ 53 * (units + (n + m) + plus_z day * L) ≤ 2 ^ 53 * (p + q + minus_z day * L) + 2 ^ 52 * L + 4 * L
  under : 2 ^ 53 * (p + q + minus_z day * L) + 2 ^ 52 * L ≤ 2 ^ 53 * (units + (n + m) + plus_z day * L) + 4 * L

size-le : (s : Bool) (X p n K : ℕ) → plus-of s X + n ≡ p + minus-of s X → p ≤ n + K → n ≤ p + K → X ≤ K
size-le false X p n K e h k = omega arith
size-le true X p n K e h k = omega arith

few-whole : (X A : ℕ) → Numbers X A → X ≤ 2 ^ 62 * L → A < 2 ^ 63
few-whole X A g h = lt_of_mul-lt-mul_right L (omega (arith, g.high, L-pos))

times_L : (g K h I D : ℕ) → g + K ≡ h + I → g * D + K * D ≡ h * D + I * D
times_L g K h I D e = sym (add-mul g K D) ∙ ap (λ (z : ℕ). z * D) e ∙ add-mul h I D

module _ (x y : Float) (fx : T (fits binary64 x)) (fy : T (fits binary64 y)) (e : accepted x y ≡ true) (p n q m : ℕ) (vx : Val x p n L) (vy : Val y q m L)
    (h1 : p ≤ n + 2 ^ 62 * L) (h2 : n ≤ p + 2 ^ 62 * L) (h3 : q ≤ m + 2 ^ 62 * L) (h4 : m ≤ q + 2 ^ 62 * L) where
  near-pair : NearPair p n q m (day_number x y) (fraction_passed x y)
  unfolding fraction_passed
  near-pair = go (accepted-pair x y fx fy e)
    where
      go : AcceptedSum x y → NearPair p n q m (day_number x y) (joined_fractions (rest x) (rest y)).fraction
      go o =
          let k = o.near in
          let ex = val-unique (has-val x k.s k.X L k.vx) vx in
          let ey = val-unique (has-val y k.t k.Y L k.vy) vy in
          let sa = few-whole k.X k.A k.wx.numbers (size-le k.s k.X p n (2 ^ 62 * L) ex h1 h2) in
          let sb = few-whole k.Y k.B k.wy.numbers (size-le k.t k.Y q m (2 ^ 62 * L) ey h3 h4) in
          let d = total (nearest_int x) (nearest_int y) o.up o.more o.down in
          let f = ints (plus_z d) (minus_z d) (plus-of k.s k.A) (minus-of k.s k.A) (plus-of k.t k.B) (minus-of k.t k.B) _ _ _ _ o.up
          o.more o.down
          (plain-plus k.s k.A _ sa k.wx.plus) (plain-minus k.s k.A _ sa k.wx.minus) (plain-plus k.t k.B _ sb k.wy.plus)
          (plain-minus k.t k.B _ sb k.wy.minus)
          (total-is (nearest_int x) (nearest_int y) o.up o.more o.down).is in
          subst (λ (z : ℤ). NearPair p n q m z (joined_fractions (rest x) (rest y)).fraction)
          (sym (number_is x y o.up o.more o.down o.carry o.again o.borrow))
          (record {
            units = o.units;
            val = o.val;
            over = fin o.units (plus-of k.s k.X) (minus-of k.s k.X) (plus-of k.t k.Y) (minus-of k.t k.Y)
                (plus-of k.s k.A * L) (minus-of k.s k.A * L) (plus-of k.t k.B * L) (minus-of k.t k.B * L) (o.up * L) (o.more * L)
                (o.down * L) (plus_z d * L) (minus_z d * L) ex ey f k.over;
            under = fin' o.units (plus-of k.s k.X) (minus-of k.s k.X) (plus-of k.t k.Y) (minus-of k.t k.Y)
                (plus-of k.s k.A * L) (minus-of k.s k.A * L) (plus-of k.t k.B * L) (minus-of k.t k.B * L) (o.up * L) (o.more * L)
                (o.down * L) (plus_z d * L) (minus_z d * L) ex ey f k.under;
          })
        where
          ints : (g h i l j o i' l' j' o' up more down : ℕ) → i' ≡ i → l' ≡ l → j' ≡ j → o' ≡ o
              → g + (l' + o' + 0 + (0 + down)) ≡ h + (i' + j' + up + (more + 0))
              → g * L + (l * L + o * L + down * L) ≡ h * L + (i * L + j * L + up * L + more * L)
          ints g h i l j o i' l' j' o' up more down e1 e2 e3 e4 e5 =
              let z : g + (l + o + down) ≡ h + (i + j + up + more) = omega arith in
              simp add-mul at (times_L g (l + o + down) h (i + j + up + more) L z)

          fin : (u P N Q M i l j o up more down g h : ℕ) → P + n ≡ p + N → Q + m ≡ q + M → g + (l + o + down) ≡ h + (i + j + up + more)
              → u + (N + i + (M + j) + up) + more ≤ H + (P + l) + (Q + o) + down + 8 * W
              → 2 ^ 53 * (u + (n + m) + g) ≤ 2 ^ 53 * (p + q + h) + 2 ^ 52 * L + 4 * L
          fin u P N Q M i l j o up more down g h e1 e2 e3 k = omega (arith, H-L, L-W)

          fin' : (u P N Q M i l j o up more down g h : ℕ) → P + n ≡ p + N → Q + m ≡ q + M → g + (l + o + down) ≡ h + (i + j + up + more)
              → H + (P + l) + (Q + o) + down ≤ u + (N + i + (M + j) + up) + more + 8 * W
              → 2 ^ 53 * (p + q + h) + 2 ^ 52 * L ≤ 2 ^ 53 * (u + (n + m) + g) + 4 * L
          fin' u P N Q M i l j o up more down g h e1 e2 e3 k = omega (arith, H-L, L-W)

-- the day and the fraction of every answered pair of parts under 2 ^ 52
pub day-near : (x y : Float) → Under52 x → Under52 y → (i j : ℤ) → Val x (plus_z i) (minus_z i) L → Val y (plus_z j) (minus_z j) L → (d : DayNumber)
    → day_number_and_fraction x y ≡ answer d → DayNear (i +ℤ j) d.day d.fraction
unfolding day_of
day-near x y a b i j v w d e =
    let g = answer-is x y d e in
    let (h1, h2) = bounds x a _ _ v in
    let (h3, h4) = bounds y b _ _ w in
    let k = near-pair x y a.held b.held g.0 (plus_z i) (minus_z i) (plus_z j) (minus_z j) v w h1 h2 h3 h4 in
    let s = add_pair i j in
    subst (λ (z : DayNumber). DayNear (i +ℤ j) z.day z.fraction) g.1
    (record {
      units = k.units;
      val = k.val;
      over = over' (plus_z i) (minus_z i) (plus_z j) (minus_z j) (plus_z (i +ℤ j)) (minus_z (i +ℤ j)) k.units (plus_z (day_number x y) * L)
          (minus_z (day_number x y) * L) s k.over;
      under = under' (plus_z i) (minus_z i) (plus_z j) (minus_z j) (plus_z (i +ℤ j)) (minus_z (i +ℤ j)) k.units (plus_z (day_number x y) * L)
          (minus_z (day_number x y) * L) s k.under;
    })
  where
    bounds : (z : Float) → Under52 z → (p n : ℕ) → Val z p n L → (p ≤ n + 2 ^ 62 * L) × (n ≤ p + 2 ^ 62 * L)
    bounds z u p n v = let s = under-size z 52 u.held u.small in let e = val-unique v s.val in (omega (arith, s.high), omega (arith, s.low))

    over' : (p n q m P N u i j : ℕ) → P + (n + m) ≡ N + (p + q) → 2 ^ 53 * (u + (n + m) + i) ≤ 2 ^ 53 * (p + q + j) + 2 ^ 52 * L + 4 * L
        → 2 ^ 51 * (i + u + N) ≤ 2 ^ 51 * (P + j) + 2 ^ 50 * L + L
    over' p n q m P N u i j e h = omega arith

    under' : (p n q m P N u i j : ℕ) → P + (n + m) ≡ N + (p + q) → 2 ^ 53 * (p + q + j) + 2 ^ 52 * L ≤ 2 ^ 53 * (u + (n + m) + i) + 4 * L
        → 2 ^ 51 * (P + j) + 2 ^ 50 * L ≤ 2 ^ 51 * (i + u + N) + L
    under' p n q m P N u i j e h = omega arith
