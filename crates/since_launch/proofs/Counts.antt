-- The milliseconds between two places as the code counts them: a product in two parts, and two days added so that no number is below 0. Assumes nothing.
use Prim.Native.Nat.{ℕ, ◌+◌, ◌-◌, ◌*◌, ◌/◌, ◌%◌, ◌≤◌, ◌<◌}
use native.Mathlib.Omega.{arith}
use mathlib.Core.Path.{◌≡◌}
use borrow.Author.Tests.{le-leb, lt-leb, le-ltb}
use Rattle.refusals.specs.Outcome.{refusal}
use Rattle.since_launch.specs.Millis.{nearest_count, in_range, count_of}

-- a product with 84375 in two parts
pub two-parts : (u : ℕ) → (u / 67108864 * 84375 + (u % 67108864 * 84375 + 2199023255552) / 67108864) / 65536 ≡ nearest_count u
unfolding nearest_count
two-parts u = omega arith

pub count_most : (u : ℕ) → u ≤ 9007199254740992 → nearest_count u ≤ 172800000
unfolding nearest_count
count_most u h = omega arith

-- from a days and x units to b days and y units
module _ (a x b y : ℕ) (hx : x ≤ 4503599627370496) (hy : y ≤ 4503599627370496) where
  pub early : b + 1 < a → refusal 18 ≡ count_of (a * 4503599627370496 + x) (b * 4503599627370496 + y)
  unfolding count_of
  early h = rw (lt-leb (84375 * (a * 4503599627370496 + x)) (84375 * (b * 4503599627370496 + y) + 2199023255552) (omega arith))

  module _ (h : a ≤ b + 1) where
    pub late : 12728 < b + 1 - a → refusal 18 ≡ count_of (a * 4503599627370496 + x) (b * 4503599627370496 + y)
    unfolding count_of in_range
    late k = rw (
      le-leb (84375 * (a * 4503599627370496 + x)) (84375 * (b * 4503599627370496 + y) + 2199023255552) (omega arith),
      le-ltb ((84375 * (b * 4503599627370496 + y) + 2199023255552 - 84375 * (a * 4503599627370496 + x)) / 4398046511104) 1099511627776 (omega arith),
    )

    pub below-0 : (b + 1 - a) * 86400000 + nearest_count (y + 4503599627370496 - x) < 172800000
        → refusal 18 ≡ count_of (a * 4503599627370496 + x) (b * 4503599627370496 + y)
    unfolding count_of nearest_count
    below-0 k = rw (lt-leb (84375 * (a * 4503599627370496 + x)) (84375 * (b * 4503599627370496 + y) + 2199023255552) (omega arith))

    pub counted : (m : ℕ) → m ≡ (b + 1 - a) * 86400000 + nearest_count (y + 4503599627370496 - x) → 172800000 ≤ m
        → in_range (m - 172800000) ≡ count_of (a * 4503599627370496 + x) (b * 4503599627370496 + y)
    unfolding count_of nearest_count
    counted m e k =
        let d : m - 172800000 ≡ (84375 * (b * 4503599627370496 + y) + 2199023255552 - 84375 * (a * 4503599627370496 + x)) / 4398046511104 = omega arith in
        rw (le-leb (84375 * (a * 4503599627370496 + x)) (84375 * (b * 4503599627370496 + y) + 2199023255552) (omega arith), d)
