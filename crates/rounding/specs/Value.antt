-- The value of a finite float as a scaled whole number: x = (p - n) / d, for natural numbers p, n and d. Written from IEEE 754: a finite float is a fraction,
-- and an operation gives the exact result of its operands, rounded once. The pair (p, n) is free: any two pairs with the same difference say the same value,
-- so +0 and -0 are both worth p - p. Assumes nothing.
use Rattle.std.specs.Prelude.{◌≡◌, ℕ, suc, ◌+◌, ◌^◌, ℤ, pos, negsuc, Bool, true, false, T, Float}
use Rattle.std.specs.Float.{Format, fin, binary64}
use Rattle.std.specs.Float.Ieee.{round, lt, fits, le}
use Rattle.std.specs.Float.Ieee.Exact.{HasValue}
use Rattle.floats.specs.Whole.{abs, nought, one}

-- a with the sign s is p - n: a = p - n, and for the negative sign -a = p - n
abbrev pub Signed : Bool → ℕ → ℕ → ℕ → Type 0
Signed false a p n = a + n ≡ p
Signed true a p n = a + p ≡ n

-- x is finite, and x = (p - n) / d
pub record Val (x : Float) (p n d : ℕ) : Type 0 where
  pub sign : Bool
  pub size : ℕ
  pub has : HasValue x sign size d
  pub is : Signed sign size p n

-- z is (p - n) / d, rounded once to the format f; the sign of a zero is left open
pub record Rounds (f : Format) (z : Float) (p n d : ℕ) : Type 0 where
  pub sign : Bool
  pub size : ℕ
  pub eq : z ≡ round f sign size d
  pub is : Signed sign size p n

-- an f64 under 2 ^ 52 in size
pub record Under52 (x : Float) : Type 0 where
  pub held : T (fits binary64 x)
  pub small : T (lt (abs x) (fin false 1 (pos 52)))

-- 0.0 ≤ x < 1.0, as a fraction of a day is
pub record InUnit (x : Float) : Type 0 where
  pub low : T (le nought x)
  pub high : T (lt x one)

-- an integer z as the pair of plus_z z and minus_z z, of which one is 0: z = plus_z z - minus_z z
abbrev pub plus_z : ℤ → ℕ
plus_z (pos a) = a
plus_z (negsuc a) = 0

abbrev pub minus_z : ℤ → ℕ
minus_z (pos a) = 0
minus_z (negsuc a) = suc a

-- 2 ^ 1074: the smallest f64 above zero is 1 / L, and every finite f64 is a whole number of 1 / L. Shut, so that proofs do not compute it
unfoldable pub L : ℕ
L = 2 ^ 1074

-- a half, in the same units; shut too. L = 2 H
unfoldable pub H : ℕ
H = 2 ^ 1073
