-- The second of a text: a whole number below 2 ^ 53 and a power of ten up to 10 ^ 13 are floats, so that their quotient, rounded once, is the float nearest to
-- the decimal. Assumes nothing.
use Prim.Native.Nat.{ℕ, zero, suc, ◌+◌, ◌*◌, ◌^◌, ◌<◌, ◌≤◌}
use native.Mathlib.Omega.{arith}
use native.Mathlib.Nat.{add-zero, zero-add, one-mul, le_trans, pow-le-pow_right}
use mathlib.Core.Path.{◌≡◌, refl, sym, ap, ◌∙◌}
use mathlib.Core.List.{List, [], ◌∷◌}
use mathlib.Core.Bool.{Bool, true, false}
use lib.ListN.{get_or}
use lib.Dec.{lit<, lit≤}
use lib.IntN.{pos}
use lib.Ieee.{Float, binary64, of_int, round, div, nan}
use Rattle.rounding.specs.Value.{Val, Rounds, Signed}
use Rattle.rounding.proofs.Value.{div_rounds}
use Rattle.rounding.proofs.Casts.{of_int_val}
use Rattle.constants.specs.Constants.{decimal}
use Rattle.parsing.specs.Judging.{quotient}

-- f p, f (p + 1), .. : k values
unfoldable pub values_from : (ℕ → Float) → ℕ → ℕ → List Float
values_from f p zero = []
values_from f p (suc k) = f p ∷ values_from f (suc p) k

pub value-at : (f : ℕ → Float) (k p i : ℕ) (d : Float) → i < k → get_or (values_from f p k) i d ≡ f (p + i)
unfolding values_from
value-at f zero p i d h = absurd (let z : ⊥ = omega arith in z)
value-at f (suc k) p zero d h = ap f (sym (add-zero p))
value-at f (suc k) p (suc i) d h = value-at f k (suc p) i d (omega arith) ∙ ap f (let e : suc p + i ≡ p + suc i = omega arith in e)

unfoldable pub power : ℕ → Float
power p = decimal (10 ^ p) 0

-- a whole number of zero parts: the quotient's zero has no sign
zeros : values_from (quotient 0) 0 14 ≡ values_from (decimal 0) 0 14
unfolding values_from quotient div of_int round
zeros = refl

none : (places : ℕ) → places ≤ 13 → quotient 0 places ≡ decimal 0 places
none places h =
    ap (quotient 0) (sym (zero-add places)) ∙ sym (value-at (quotient 0) 14 0 places nan (omega arith)) ∙ ap (λ (l : List Float). get_or l places nan) zeros
    ∙ value-at (decimal 0) 14 0 places nan (omega arith) ∙ ap (decimal 0) (zero-add places)

-- a power of ten up to 10 ^ 13 is a float
power-val : (places : ℕ) → places ≤ 13 → Val (decimal (10 ^ places) 0) (10 ^ places) 0 1
unfolding of_int
power-val places h = of_int_val (pos (10 ^ places)) (le_trans (pow-le-pow_right {n = 10} (omega arith) h) (lit≤ tt)) (omega arith)

some : (whole places : ℕ) → 0 < whole → Rounds binary64 (quotient whole places) (whole * 1) (0 * 1) (1 * 10 ^ places)
    → quotient whole places ≡ decimal whole places
some whole places h r = go r.sign r.size r.eq r.is
  where
    go : (s : Bool) (a : ℕ) → quotient whole places ≡ round binary64 s a (1 * 10 ^ places) → Signed s a (whole * 1) (0 * 1)
        → quotient whole places ≡ decimal whole places
    go false a e i = e ∙ ap (λ (n : ℕ). round binary64 false n (1 * 10 ^ places)) (let g : a ≡ whole = omega arith in g)
        ∙ ap (round binary64 false whole) (one-mul (10 ^ places))
    go true a e i = absurd (let z : ⊥ = omega arith in z)

pub one-division : (whole places : ℕ) → whole ≤ 1000000000000000 → places ≤ 13 → quotient whole places ≡ decimal whole places
unfolding quotient
one-division zero places w h = none places h
one-division (suc n) places w h =
    some (suc n) places (omega arith)
    (div_rounds binary64 (lit< tt) (lit< tt) (pow-le-pow_right {n = 10} (omega arith) {i = 0} {j = places} (omega arith))
    (of_int_val (pos (suc n)) (omega arith) (omega arith)) (power-val places h))
