-- What is shown of a pair of parts: the days carried and borrowed, that no integer sum wraps, that the fraction is in range, and that day and fraction are
-- within 2 ^ -51 of the exact ones; and here it is shown of two parts below 2 ^ 50. Assumes nothing.
use mathlib.Core.Path.{◌≡◌}
use mathlib.Core.Bool.{Bool}
use Prim.Native.Nat.{ℕ, ◌+◌, ◌*◌, ◌^◌, ◌≤◌, ◌<◌}
use native.Mathlib.Omega.{arith}
use lib.Ieee.{Float, to_signed}
use lib.Ieee.Exact.{HasValue}
use Rattle.rounding.specs.Value.{Val, L}
use Rattle.rounding.proofs.Signed.{plus-of, minus-of}
use Rattle.floats.specs.Whole.{nearest_int}
use Rattle.julian.specs.day_number.Sums.{Sums}
use Rattle.julian.specs.day_number.DayNumber.{rest, sum_fractions, joined_fractions}
use Rattle.julian.proofs.day_number.Units.{H, H-L, W, L-W, E, E-L, E_pos}
use Rattle.julian.proofs.day_number.SplitOffGrid.{split_off}
use Rattle.julian.proofs.day_number.NearestInt.{Whole}
use Rattle.julian.proofs.day_number.JulianRange.{SumInRange}
use Rattle.julian.proofs.day_number.Parts.{rest-fits, left-off, off_size}
use Rattle.julian.proofs.day_number.IntegerSum.{bounded, sums}

-- how near the day and the fraction are: in units of 2 ^ -1074, x = ±X and y = ±Y, and their whole numbers are ±A and ±B
pub record Near (x y : Float) (up more down units : ℕ) : Type 0 where
  pub s : Bool
  pub t : Bool
  pub X : ℕ
  pub Y : ℕ
  pub A : ℕ
  pub B : ℕ
  pub vx : HasValue x s X L
  pub vy : HasValue y t Y L
  pub wx : Whole (nearest_int x) s X A
  pub wy : Whole (nearest_int y) t Y B
  pub over : units + (minus-of s X + plus-of s A * L + (minus-of t Y + plus-of t B * L) + up * L) + more * L ≤ H + (plus-of s X + minus-of s A * L) +
      (plus-of t Y + minus-of t B * L) + down * L + 8 * W
  pub under : H + (plus-of s X + minus-of s A * L) + (plus-of t Y + minus-of t B * L) + down * L ≤ units +
      (minus-of s X + plus-of s A * L + (minus-of t Y + plus-of t B * L) + up * L) + more * L + 8 * W

-- what is shown of every accepted pair
pub record AcceptedSum (x y : Float) : Type 0 where
  pub up : ℕ
  pub few : up ≤ 2
  pub carry : (sum_fractions (rest x) (rest y)).carry ≡ up
  pub more : ℕ
  pub one : more ≤ 1
  pub again : (joined_fractions (rest x) (rest y)).carry ≡ more
  pub down : ℕ
  pub least : down ≤ 1
  pub borrow : (joined_fractions (rest x) (rest y)).borrow ≡ down
  pub ints : Sums (to_signed 63 (nearest_int x)) (to_signed 63 (nearest_int y)) up more down
  pub units : ℕ
  pub val : Val (joined_fractions (rest x) (rest y)).fraction units 0 L
  pub below : units < L
  pub near : Near x y up more down units

small-e : 8 * (8 * W) ≤ L
small-e = omega (arith, L-W)

module _ (x y : Float) (s t : Bool) (X Y A B : ℕ) (vx : HasValue x s X L) (vy : HasValue y t Y L) (wx : Whole (nearest_int x) s X A)
    (wy : Whole (nearest_int y) t Y B)
    (r : SumInRange (plus-of s X + plus-of t Y) (minus-of s X + minus-of t Y)) where
  pub off : X < 2 ^ 50 * L → Y < 2 ^ 50 * L → AcceptedSum x y
  off hx hy =
      let fx = off_size s X A wx.numbers hx in
      let fy = off_size t Y B wy.numbers hy in
      let k = split_off (rest x) (rest y) (rest-fits x) (rest-fits y) (plus-of s X + minus-of s A * L) (minus-of s X + plus-of s A * L)
      (plus-of t Y + minus-of t B * L) (minus-of t Y + plus-of t B * L)
      (left-off x s X A vx wx hx) (left-off y t Y B vy wy hy) fx.0 fx.1 fy.0 fy.1 in
      record {
        up = k.up;
        few = k.few;
        carry = k.carry;
        more = k.more;
        one = k.one;
        again = k.again;
        down = k.down;
        least = k.least;
        borrow = k.borrow;
        ints = sums (to_signed 63 (nearest_int x)) (to_signed 63 (nearest_int y)) s t A B k.up k.more k.down wx.plus wx.minus wy.plus
            wy.minus k.few k.one k.least
            (bounded L H E (8 * W) (plus-of s X) (minus-of s X) (plus-of t Y) (minus-of t Y) (plus-of s A) (minus-of s A) (plus-of t B) (minus-of t B) k.up
            k.more k.down k.units H-L E-L E_pos small-e k.below k.over k.under r.high r.low);
        units = k.units;
        val = k.val;
        below = k.below;
        near = record { s = s; t = t; X = X; Y = Y; A = A; B = B; vx = vx; vy = vy; wx = wx; wy = wy; over = k.over; under = k.under };
      }
