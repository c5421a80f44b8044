-- What the two fractions come to, added from 1/2 and brought into [0, 1): the days carried and borrowed, and the units of 1 / D that are left. Assumes nothing.
use mathlib.Core.Path.{◌≡◌}
use mathlib.Core.Bool.{Bool, true, false, cond}
use Prim.Native.Nat.{ℕ, ◌+◌, ◌*◌, ◌≤◌, ◌<◌}
use lib.Dec.{T}
use lib.Ieee.{Float, binary64, add, le, fits}
use lib.Ieee.Fits.{add-fits, sub-fits}
use Rattle.floats.specs.Whole.{one}
use Rattle.rounding.specs.Value.{Val}
use Rattle.julian.specs.declared.day_number.Kahan.{Kahan}
use Rattle.julian.specs.declared.day_number.Summed.{Summed}
use Rattle.julian.specs.declared.day_number.Normalized.{Normalized}
use Rattle.julian.specs.day_number.DayNumber.{kahan_start, add_fraction, sum_fractions}

-- A - B is `up` and `more` days carried, less `down` borrowed, and the fraction, to within e
pub record Split (D e : ℕ) (k : Summed) (r : Normalized) (A B : ℕ) : Type 0 where
  pub up : ℕ
  pub few : up ≤ 2
  pub carry : k.carry ≡ up
  pub more : ℕ
  pub one : more ≤ 1
  pub again : r.carry ≡ more
  pub down : ℕ
  pub least : down ≤ 1
  pub borrow : r.borrow ≡ down
  pub units : ℕ
  pub val : Val r.fraction units 0 D
  pub below : units < D
  pub over : units + (B + up * D) + more * D ≤ A + down * D + e
  pub under : A + down * D ≤ units + (B + up * D) + more * D + e

-- the sum is a float of the format
fit : (u : Bool) (a b : Summed) → T (fits binary64 a.kahan.sum) → T (fits binary64 b.kahan.sum)
    → T (fits binary64 (cond {A = Summed} u a b).kahan.sum)
fit true a b h k = h
fit false a b h k = k

pub sum_fits : (c : ℕ) (κ : Kahan) (f : Float) → T (fits binary64 (add_fraction c κ f).kahan.sum)
unfolding add_fraction
sum_fits c κ f = fit (le one (add binary64 κ.sum f)) _ _ (sub-fits binary64 (add binary64 κ.sum f) one) (add-fits binary64 κ.sum f)

pub both_fits : (f g : Float) → T (fits binary64 (sum_fractions f g).kahan.sum)
unfolding sum_fractions
both_fits f g = sum_fits (add_fraction 0 kahan_start f).carry (add_fraction 0 kahan_start f).kahan g
