-- The offsets and leaps that `leap_days::drift` computes are those of the definition.
-- Assumes nothing.
use mathlib.Core.Path.{◌≡◌, refl, ap, sym, subst, ◌∙◌}
use mathlib.Core.Bool.{Bool, true, false, not}
use Prim.Native.Nat.{ℕ, ◌-◌, ◌≤◌, ◌<◌}
use native.Mathlib.Omega.{arith}
use lib.Dec.{T, eqb, ltb}
use lib.IntN.{ℤ}
use lib.Ieee.{Float, binary64, add, sub, mul, of_int}
use borrow.Author.Tests.{ltb-true, ltb-false, lt-ltb, le-ltb}
use Rattle.rounding.proofs.Quick.{qadd, qsub, qmul, qint, add_is, sub_is, mul_is, int_is}
use Rattle.leap_table.specs.rows.Table.{Row, fixed, starts, reached}
use Rattle.leap_table.specs.offsets.Offset.{seconds_of, start_of, rate_of, offset_at, row_at}
use Rattle.leap_table.specs.offsets.Leap.{two_f, offsets, leap_of, drift_rate, leap_amount}
use Rattle.leap_table.specs.declared.offsets.DayOffsets.{DayOffsets}
use Rattle.leap_table.proofs.rows.Rows.{drifts}
use Rattle.leap_table.proofs.offsets.At.{drifting, steady}
use Rattle.leap_table.proofs.offsets.Years.{one-row, drift-rows, whole-rows, most-rows}
use Rattle.leap_days.specs.drift.Small.{small}
use Rattle.leap_days.proofs.drift.Tests.{then_left, then_right, same_f, same_float}
use Rattle.leap_days.proofs.drift.Drift.{qby, qleap, qamount, leap_test}

-- ---- the leap in both orders
leap_is : (x y z : Float) → qleap x y z ≡ leap_of (offsets x y z)
unfolding qleap leap_of
leap_is x y z =
    sub_is z (qsub (qmul two_f y) x)
    ∙ ap (sub binary64 z) (sub_is (qmul two_f y) x ∙ ap (λ (a : Float). sub binary64 a x) (mul_is two_f y))

amount_is : (x y z : Float) → qamount x y z ≡ leap_amount (offsets x y z)
unfolding qamount leap_amount drift_rate
amount_is x y z =
    sub_is z (qadd x (qmul two_f (qsub y x)))
    ∙ ap (sub binary64 z) (add_is x (qmul two_f (qsub y x)) ∙ ap (add binary64 x) (mul_is two_f (qsub y x) ∙ ap (mul binary64 two_f) (sub_is y x)))

-- small, and the same in both orders
abbrev pub Step : DayOffsets → Type 0
Step o = T (small (leap_of o)) × (leap_amount o ≡ leap_of o)

pub test_is : (x y z : Float) → T (leap_test x y z) → Step (offsets x y z)
unfolding leap_test
test_is x y z t = (
  subst (λ (a : Float). T (small a)) (leap_is x y z) (then_left (small (qleap x y z)) (same_f (qamount x y z) (qleap x y z)) t),
  sym (amount_is x y z) ∙ same_float (qamount x y z) (qleap x y z) (then_right (small (qleap x y z)) (same_f (qamount x y z) (qleap x y z)) t) ∙ leap_is x y z,
)

-- ---- the offset, in a month with a row
drift-is : (s st r : Float) (j : ℤ) (f : Float)
    → qby false s st r (qint j) f ≡ add binary64 s (mul binary64 (sub binary64 (add binary64 (of_int binary64 j) f) st) r)
unfolding qby
drift-is s st r j f =
    add_is s (qmul (qsub (qadd (qint j) f) st) r)
    ∙ ap (add binary64 s)
    (mul_is (qsub (qadd (qint j) f) st) r
    ∙ ap (λ (a : Float). mul binary64 a r)
    (sub_is (qadd (qint j) f) st ∙ ap (λ (a : Float). sub binary64 a st) (add_is (qint j) f ∙ ap (λ (a : Float). add binary64 a f) (int_is j))))

module _ (n : ℕ) (j : ℤ) (f : Float) (l : 23520 ≤ n) where
  abbrev K : ℕ
  K = reached (starts fixed) n

  abbrev R : Row
  R = row_at (reached (starts fixed) n)

  pub quick_drift : n < 23664 → qby false (seconds_of R) (start_of R) (rate_of R) (qint j) f ≡ offset_at fixed n (of_int binary64 j) f
  unfolding offset_at
  quick_drift h = drift-is (seconds_of R) (start_of R) (rate_of R) j f
      ∙ drifting K (of_int binary64 j) f (one-row n l) (omega (arith, one-row n l, drift-rows n h)) (seconds_of R) (start_of R) (rate_of R) refl refl refl

  flag : (b : Bool) → ltb n 23664 ≡ b → eqb R.rate 0 ≡ not b
  flag true e = drifts (K - 1) (omega (arith, most-rows n, one-row n l))
      ∙ ap not (lt-ltb (K - 1) 14 (omega (arith, one-row n l, drift-rows n (ltb-true n 23664 e))))
  flag false e = drifts (K - 1) (omega (arith, most-rows n, one-row n l)) ∙ ap not (le-ltb (K - 1) 14 (omega (arith, whole-rows n (ltb-false n 23664 e))))

  any : (b : Bool) → ltb n 23664 ≡ b → qby (not b) (seconds_of R) (start_of R) (rate_of R) (qint j) f ≡ offset_at fixed n (of_int binary64 j) f
  unfolding qby offset_at
  any true e = quick_drift (ltb-true n 23664 e)
  any false e =
      let w = whole-rows n (ltb-false n 23664 e) in
      steady K (of_int binary64 j) f (omega (arith, w)) (omega (arith, w)) (omega (arith, w, most-rows n)) (seconds_of R) refl

  pub quick_any : qby (eqb R.rate 0) (seconds_of R) (start_of R) (rate_of R) (qint j) f ≡ offset_at fixed n (of_int binary64 j) f
  quick_any =
      ap (λ (b : Bool). qby b (seconds_of R) (start_of R) (rate_of R) (qint j) f) (flag (ltb n 23664) refl) ∙ any (ltb n 23664) refl
