-- Worked examples of the laws, on the floats 1, 3 and 0.1. Assumes nothing.
use mathlib.Core.Path.{refl}
use Prim.Native.Nat.{◌+◌, ◌*◌, ◌^◌}
use mathlib.Core.Bool.{false}
use native.Mathlib.Omega.{arith}
use lib.IntN.{pos}
use lib.Dec.{T, lit≤, lit<}
use lib.Ieee.{Float, fin, binary64, add, sub, div, lt, fits, of_bits}
use Rattle.floats.specs.Whole.{abs}
use Rattle.rounding.specs.Value.{Val, Under52, L}
use Rattle.rounding.proofs.Value.{div_rounds}
use Rattle.rounding.proofs.Exact.{sub_exact}
use Rattle.rounding.proofs.Bound.{Enclosed, rounds-between}
use Rattle.rounding.proofs.TwoSumFloat.{Exact, two-sum-error, two-sum-under}

-- ---- the floats, and their values: (p - n) / d with p, n and d as the law asks for them
zero_float : Float
zero_float = fin false 0 (pos 0)

one_float : Float
one_float = fin false 1 (pos 0)

three-float : Float
three-float = fin false 3 (pos 0)

-- 0.1 is 3602879701896397 * 2 ^ -55
tenth_float : Float
tenth_float = of_bits binary64 0x3fb999999999999a

zero_val : Val zero_float 0 0 L
unfolding zero_float L
zero_val = record { sign = false; size = 0; has = (refl, refl); is = refl }

one-val : Val one_float L 0 L
unfolding one_float L
one-val = record { sign = false; size = 2 ^ 1074; has = (refl, refl); is = refl }

one-whole : Val one_float 1 0 1
unfolding one_float
one-whole = record { sign = false; size = 1; has = (refl, refl); is = refl }

three-whole : Val three-float 3 0 1
unfolding three-float
three-whole = record { sign = false; size = 3; has = (refl, refl); is = refl }

three-val : Val three-float (3 * L) 0 L
unfolding three-float L
three-val = record { sign = false; size = 3 * 2 ^ 1074; has = (refl, refl); is = refl }

tenth_val : Val tenth_float (3602879701896397 * 2 ^ 1019) 0 L
unfolding tenth_float of_bits L
tenth_val = record { sign = false; size = 3602879701896397 * 2 ^ 1019; has = (refl, refl); is = refl }

-- ---- 1 - 3 = -2 exactly
one-less-three : Val (sub binary64 one_float three-float) (1 + 0) (0 + 3) 1
one-less-three = sub_exact 0 (lit≤ tt) (omega arith) (omega arith) one-whole three-whole

-- ---- 1 / 3, rounded, lies between 0 and 1
zero_fits : T (fits binary64 zero_float)
unfolding fits zero_float
zero_fits = tt

one-fits : T (fits binary64 one_float)
unfolding fits one_float
one-fits = tt

third-between : Enclosed (div binary64 one_float three-float) 0 0 L 0
third-between = rounds-between (lit< tt) zero_fits one-fits zero_val one-val (omega arith) (omega arith)
    (div_rounds binary64 (lit< tt) (lit< tt) (lit< tt) one-whole three-whole)

-- ---- 3 + 0.1 is rounded, and two-sum's error is what it lost
three-under : Under52 three-float
unfolding fits lt abs three-float
three-under = record { held = tt; small = tt }

tenth_under : Under52 tenth_float
unfolding fits lt abs tenth_float of_bits
tenth_under = record { held = tt; small = tt }

three-and-tenth : Exact (add binary64 three-float tenth_float) (two-sum-error three-float tenth_float) (3 * L + 3602879701896397 * 2 ^ 1019) (0 + 0)
three-and-tenth = two-sum-under three-under tenth_under three-val tenth_val
