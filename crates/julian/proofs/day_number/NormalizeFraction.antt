-- The compensated sum brought into [0, 1) but for the last carry, in units of 1 / D, where each sum is off by h units at most. Assumes nothing.
use mathlib.Core.Path.{◌≡◌, refl}
use mathlib.Core.Bool.{Bool, true, false, cond}
use Prim.Native.Nat.{ℕ, ◌+◌, ◌*◌, ◌≤◌, ◌<◌}
use native.Mathlib.Omega.{arith}
use lib.Dec.{T}
use lib.Ieee.{Float, binary64, add, sub, lt, fits}
use lib.Ieee.Fits.{add-fits}
use Rattle.floats.specs.Whole.{nought, one}
use Rattle.rounding.specs.Value.{Val}
use Rattle.rounding.proofs.Compare.{lt_true, lt_false}
use Rattle.rounding.proofs.Chain.{ValClose, Adds, exactly, close_move, close_add, close_sub}
use Rattle.julian.specs.declared.day_number.Kahan.{Kahan}
use Rattle.julian.specs.day_number.DayNumber.{kahan_of, beside_borrowed, normalize_fraction, carry_day, borrow_sum, borrow_fraction, borrow_day}

-- what the last carry is handed: the sum s, and the fraction z that it makes, both near A - B
pub record Ready (D h : ℕ) (s z : Float) (A B : ℕ) : Type 0 where
  pub p : ℕ
  pub n : ℕ
  pub val : Val z p n D
  pub over : p + B ≤ n + A + 40 * h
  pub under : n + A ≤ p + B + 40 * h
  pub sum : ValClose D s A B (40 * h)
  pub low : n ≤ p
  pub high : p < n + D + 64 * h

-- the days borrowed for the compensated sum κ, and the sum and the fraction after that
pub record Normal (D h : ℕ) (κ : Kahan) (A B : ℕ) : Type 0 where
  pub borrow : ℕ
  pub few : borrow ≤ 1
  pub sum : Float
  pub fraction : Float
  pub is : normalize_fraction κ ≡ beside_borrowed borrow (carry_day (kahan_of sum fraction) fraction)
  pub ready : Ready D h sum fraction (A + borrow * D) B
  pub sum_fits : T (fits binary64 sum)
  pub fraction-fits : T (fits binary64 fraction)
  pub test : Bool
  pub tested : lt (add binary64 κ.sum κ.correction) nought ≡ test
  pub borrow_is : borrow ≡ cond test 1 0
  pub fraction-is : fraction ≡ cond test (borrow_fraction κ.sum (sub binary64 (add binary64 κ.sum κ.correction) κ.sum))
      (add binary64 κ.sum κ.correction)

module _ (D h : ℕ) (adds : Adds D h) (dpos : 0 < D) (one-val : Val one D 0 D) (nought-val : Val nought 0 0 D) (hs : 1024 * h ≤ D) (κ : Kahan) (A B : ℕ)
    (fs : T (fits binary64 κ.sum)) (a : ValClose D κ.sum A B (4 * h)) (h1 : A < B + D + 3 * h) (h2 : B + 60 * h ≤ A + D) where
  abbrev s : Float
  s = κ.sum

  abbrev z : Float
  z = add binary64 κ.sum κ.correction

  normal_of : (u : Bool) → ValClose D z A B (17 * h) → lt z nought ≡ u
      → normalize_fraction κ ≡ cond u (beside_borrowed 1
      (carry_day (kahan_of (borrow_sum s) (borrow_fraction s (sub binary64 z s))) (borrow_fraction s (sub binary64 z s))))
      (beside_borrowed 0 (carry_day (kahan_of s z) z)) → Normal D h κ A B
  normal_of true v test e =
      let w : v.p + 0 < 0 + v.n = lt_true dpos v.val nought-val test in
      let x : A < B + 17 * h = omega (arith, v.under, w) in
      let c : ValClose D (sub binary64 z s) 0 0 (22 * h) = close_move (close_sub D h adds v a (omega arith) (omega arith)) (omega arith) (omega arith) in
      let s3 : ValClose D (borrow_sum s) (A + D) B (5 * h) =
      close_move (close_add D h adds a (exactly one-val) (omega arith) (omega arith)) (omega arith) (omega arith) in
      let d : ValClose D (add binary64 (sub binary64 one (borrow_sum s)) s) 0 0 (11 * h) =
      close_move (close_add D h adds (close_sub D h adds (exactly one-val) s3 (omega arith) (omega arith)) a (omega arith) (omega arith)) (omega arith)
      (omega arith) in
      let g : ValClose D (borrow_fraction s (sub binary64 z s)) (A + D) B (40 * h) =
      close_move (close_add D h adds s3 (close_add D h adds c d (omega arith) (omega arith)) (omega arith) (omega arith)) (omega arith) (omega arith) in
      record {
        borrow = 1;
        few = omega arith;
        sum = borrow_sum s;
        fraction = borrow_fraction s (sub binary64 z s);
        is = e;
        ready = record {
          p = g.p;
          n = g.n;
          val = g.val;
          over = omega (arith, g.over);
          under = omega (arith, g.under);
          sum =
              close_move s3 (omega arith) (omega arith);
          low = omega (arith, g.under);
          high = omega (arith, g.over);
        };
        sum_fits = add-fits binary64 s one;
        fraction-fits = add-fits binary64 (borrow_sum s) (add binary64 (sub binary64 z s) (add binary64 (sub binary64 one (borrow_sum s)) s));
        test = true;
        tested = test;
        borrow_is = refl;
        fraction-is = refl;
      }
  normal_of false v test e =
      let w : 0 + v.n ≤ v.p + 0 = lt_false dpos v.val nought-val test in
      record {
        borrow = 0;
        few = omega arith;
        sum = s;
        fraction = z;
        is = e;
        ready = record {
          p = v.p;
          n = v.n;
          val = v.val;
          over = omega (arith, v.over);
          under = omega (arith, v.under);
          sum =
              close_move a (omega arith) (omega arith);
          low = omega arith;
          high = omega (arith, v.over);
        };
        sum_fits = fs;
        fraction-fits = add-fits binary64 s κ.correction;
        test = false;
        tested = test;
        borrow_is = refl;
        fraction-is = refl;
      }

  pub normal : ValClose D κ.correction 0 0 (12 * h) → Normal D h κ A B
  unfolding normalize_fraction borrow_day
  normal b = normal_of (lt z nought) (close_move (close_add D h adds a b (omega arith) (omega arith)) (omega arith) (omega arith)) refl refl
