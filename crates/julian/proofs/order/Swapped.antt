-- The order of two dates is that of the other way round, exchanged, whatever their parts are. Assumes nothing.
use mathlib.Core.Path.{◌≡◌, refl, sym}
use Prim.Native.Nat.{ℕ, ◌*◌, ◌<◌}
use native.Mathlib.Omega.{arith}
use mathlib.Core.Bool.{Bool, true, false, not, cond, ◌&&◌, true≢false}
use lib.Dec.{ltb}
use lib.Ieee.{Float, nan, inf, fin, up, down, below, lt}
use borrow.Author.Tests.{le-ltb, ltb-true}
use Rattle.julian.specs.declared.JulianDate.{JulianDate}
use Rattle.julian.specs.declared.ExactSum.{ExactSum}
use Rattle.julian.specs.Equality.{sums}
use Rattle.julian.specs.order.Order.{comes_before, same_sum, comes_after, sooner, date_order, swapped}

ltb_once : (a b : ℕ) → ltb a b ≡ true → ltb b a ≡ false
ltb_once a b p = let h : a < b = ltb-true a b p in le-ltb b a (omega arith)

below-once : (s : Bool) (a : ℕ) (t : Bool) (b : ℕ) → below s a t b ≡ true → below t b s a ≡ false
below-once false a false b p = ltb_once a b p
below-once false a true b p = absurd (true≢false (sym p))
below-once true a false b p = refl
below-once true a true b p = ltb_once b a p

infinite_once : (s t : Bool) → s && not t ≡ true → t && not s ≡ false
infinite_once true true p = absurd (true≢false (sym p))
infinite_once true false p = refl
infinite_once false t p = absurd (true≢false (sym p))

not_once : (t : Bool) → not t ≡ true → t ≡ false
not_once true p = absurd (true≢false (sym p))
not_once false p = refl

not_of : (s : Bool) → s ≡ true → not s ≡ false
not_of true p = refl
not_of false p = absurd (true≢false (sym p))

-- of any two floats at most one is less
lt_once : (x y : Float) → lt x y ≡ true → lt y x ≡ false
unfolding lt
lt_once nan y p = absurd (true≢false (sym p))
lt_once (inf s) nan p = absurd (true≢false (sym p))
lt_once (inf s) (inf t) p = infinite_once s t p
lt_once (inf s) (fin t n d) p = not_of s p
lt_once (fin s m e) nan p = absurd (true≢false (sym p))
lt_once (fin s m e) (inf t) p = not_once t p
lt_once (fin s m e) (fin t n d) p = below-once s (m * up e * down d) t (n * up d * down e) p

by_tests : (a b c d : Bool) → (a ≡ true → b ≡ false) → (c ≡ true → d ≡ false) → cond a true (cond b false c) ≡ true → cond b true (cond a false d) ≡ false
by_tests true b c d f g p = rw (f refl)
by_tests false true c d f g p = absurd (true≢false (sym p))
by_tests false false c d f g p = g p

pub sooner-once : (s t : ExactSum) → sooner s t ≡ true → sooner t s ≡ false
unfolding sooner
sooner-once s t p = by_tests (lt s.sum t.sum) (lt t.sum s.sum) (lt s.error t.error) (lt t.error s.error) (lt_once s.sum t.sum)
    (lt_once s.error t.error) p

swap_by : (a b : Bool) → (a ≡ true → b ≡ false) → cond b comes_before (cond a comes_after same_sum) ≡ swapped
    (cond a comes_before (cond b comes_after same_sum))
unfolding swapped
swap_by true true f = absurd (true≢false (f refl))
swap_by true false f = refl
swap_by false true f = refl
swap_by false false f = refl

-- for all floats, NaNs and infinities included
pub order-swapped : (d e : JulianDate) → date_order e d ≡ swapped (date_order d e)
unfolding date_order
order-swapped d e = swap_by (sooner (sums d) (sums e)) (sooner (sums e) (sums d)) (sooner-once (sums d) (sums e))
