-- The constants that are added to a part or taken from it, each far below 2 ^ 969 in size: a finite f64 stays finite. Assumes nothing.
use Rattle.std.proofs.Common.{◌≡◌, ℕ, ◌+◌, ◌*◌, ◌^◌, ◌≤◌, true, T, sym, subst, arith, lit≤}
use lib.Ieee.{Float, binary64, fits, add, sub}
use lib.Ieee.Scale.{finite}
use Rattle.rounding.specs.Value.{Val, L}
use Rattle.rounding.proofs.Own.{own, own_val}
use Rattle.rounding.proofs.About.{U, About, size-high, size_low}
use Rattle.constants.specs.Constants.{mjd_zero_point, tcg_reference_epoch}
use Rattle.scales.specs.Formulas.{tt_days, tdb0, jd1977, gps_days}
use Rattle.scales.proofs.laws.NoOverflow.{add_stays, sub_stays, from-stays}
use Rattle.scales.proofs.laws.Constants.{gps-about, tt_about, tdb0-about, mjd-about, epoch_about, jd1977-about}

pub record Small (x : Float) : Type 0 where
  pub p : ℕ
  pub n : ℕ
  pub val : Val x p n L
  pub high : p ≤ n + 2 ^ 2043
  pub low : n ≤ p + 2 ^ 2043

small_of : {x : Float} {P N D M e : ℕ} → (M + e) * 2 ^ 984 ≤ 2 ^ 2043 → About x P N D M e → Small x
unfolding U
small_of {x} {P} {N} {D} {M} {e} h a =
    record {
      p = a.p;
      n = a.n;
      val = a.val;
      high = go a.p a.n ((M + e) * 2 ^ 984) (2 ^ 2043) (size-high a) h;
      low =
          go a.n a.p ((M + e) * 2 ^ 984) (2 ^ 2043) (size_low a) h;
    }
  where
    go : (p n X K : ℕ) → p ≤ n + X → X ≤ K → p ≤ n + K
    go p n X K h k = omega arith

-- a finite f64 stays finite
module _ {k : Float} (w : Small k) (x : Float) (f : T (fits binary64 x)) (h : finite x ≡ true) where
  pub added : finite (add binary64 x k) ≡ true
  added = add_stays f (own_val x (own x f (subst T (sym h) tt))) w.val w.high w.low

  pub taken : finite (sub binary64 x k) ≡ true
  taken = sub_stays f (own_val x (own x f (subst T (sym h) tt))) w.val w.high w.low

  pub taken-from : finite (sub binary64 k x) ≡ true
  taken-from = from-stays f (own_val x (own x f (subst T (sym h) tt))) w.val w.high w.low

pub tt_small : Small tt_days
tt_small = small_of (lit≤ tt) tt_about

pub gps-small : Small gps_days
gps-small = small_of (lit≤ tt) gps-about

pub tdb0-small : Small tdb0
tdb0-small = small_of (lit≤ tt) tdb0-about

pub zero_point_small : Small mjd_zero_point
zero_point_small = small_of (lit≤ tt) mjd-about

pub jd1977-small : Small jd1977
jd1977-small = small_of (lit≤ tt) jd1977-about

pub epoch_small : Small tcg_reference_epoch
epoch_small = small_of (lit≤ tt) epoch_about
