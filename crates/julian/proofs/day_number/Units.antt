-- The units that the proofs count in, and the constants of the code in them. In units of 2 ^ -1074 day, 1.0 is L; in units of 2 ^ -53 it is G, and of 2 ^ -52,
-- the grid's, it is S. Assumes nothing.
use mathlib.Core.Path.{◌≡◌, refl}
use mathlib.Core.Bool.{true, false}
use Prim.Native.Nat.{ℕ, ◌*◌, ◌^◌, ◌≤◌, ◌<◌}
use native.Mathlib.Omega.{arith}
use lib.Dec.{lit<}
use lib.Pow.{pow_pos}
use lib.Ieee.{neg, div, of_bits}
use Rattle.floats.specs.Whole.{nought, half, one}
use Rattle.rounding.specs.Value.{Val, L}
unfoldable pub use Rattle.rounding.specs.Value.{H}
use Rattle.julian.specs.day_number.DayNumber.{c_minus_eps_4, c_minus_eps_2, c_djmin, c_djmax}

abbrev pub G : ℕ
G = 2 ^ 53

abbrev pub S : ℕ
S = 2 ^ 52

-- S C = L
abbrev pub C : ℕ
C = 2 ^ 1022

-- 1/8, 2 ^ -54 and 2 ^ -93 in units of 2 ^ -1074, as H is 1/2; shut, since `omega` takes no number so large
unfoldable pub E : ℕ
E = 2 ^ 1071

unfoldable pub W : ℕ
W = 2 ^ 1020

unfoldable pub Z : ℕ
Z = 2 ^ 981

pub H-L : L ≡ 2 * H
unfolding L H
H-L = refl

pub H-pos : 0 < H
unfolding H
H-pos = pow_pos 1073

pub E-L : L ≡ 8 * E
unfolding L E
E-L = refl

pub E_pos : 0 < E
unfolding E
E_pos = lit< tt

pub L-W : L ≡ 18014398509481984 * W
unfolding L W
L-W = refl

pub H-W : H ≡ 9007199254740992 * W
unfolding H W
H-W = refl

pub W-pos : 0 < W
unfolding W
W-pos = pow_pos 1020

W-Z : W ≡ 549755813888 * Z
unfolding W Z
W-Z = refl

pub Z-W : 16 * Z ≤ W
Z-W = omega (arith, W-Z)

-- ---- in units of 2 ^ -1074
pub one-L : Val one L 0 L
unfolding L
one-L = record { sign = false; size = L; has = (refl, refl); is = refl }

pub half-L : Val half H 0 L
unfolding L H
half-L = record { sign = false; size = H; has = (refl, refl); is = refl }

pub nought-L : Val nought 0 0 L
unfolding L
nought-L = record { sign = false; size = 0; has = (refl, refl); is = refl }

pub minus-eps-4-L : Val c_minus_eps_4 0 W L
unfolding of_bits neg div L W
minus-eps-4-L = record { sign = true; size = W; has = (refl, refl); is = refl }

pub min_L : Val c_djmin 0 (548556 * E) L
unfolding of_bits L E
min_L = record { sign = true; size = 548556 * E; has = (refl, refl); is = refl }

pub max_L : Val c_djmax (8000000000 * E) 0 L
unfolding of_bits L E
max_L = record { sign = false; size = 8000000000 * E; has = (refl, refl); is = refl }

-- ---- in units of 2 ^ -53
pub one-G : Val one G 0 G
one-G = record { sign = false; size = G; has = (refl, refl); is = refl }

pub nought-G : Val nought 0 0 G
nought-G = record { sign = false; size = 0; has = (refl, refl); is = refl }

pub minus-eps-2-G : Val c_minus_eps_2 0 1 G
unfolding of_bits neg div
minus-eps-2-G = record { sign = true; size = 1; has = (refl, refl); is = refl }

-- ---- in units of 2 ^ -52
pub one-S : Val one S 0 S
one-S = record { sign = false; size = S; has = (refl, refl); is = refl }

pub half-S : Val half (2 ^ 51) 0 S
half-S = record { sign = false; size = 2 ^ 51; has = (refl, refl); is = refl }

pub nought-S : Val nought 0 0 S
nought-S = record { sign = false; size = 0; has = (refl, refl); is = refl }

-- ---- in units of 2 ^ -54
pub minus-eps-4 : Val c_minus_eps_4 0 1 (2 ^ 54)
unfolding of_bits neg div
minus-eps-4 = record { sign = true; size = 1; has = (refl, refl); is = refl }
