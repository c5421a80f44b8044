-- THE MILLISECONDS FROM THE LAUNCH AS ASKED, off the grid and of GPS weeks, and that those of one instant are at most one apart. Assumes nothing.
use Prim.Native.Nat.{ℕ, ◌*◌, ◌+◌, ◌^◌, ◌≤◌, ◌<◌}
use native.Mathlib.Nat.{mul-le-mul_right}
use native.Mathlib.Omega.{arith}
use lib.Dec.{ltb}
use mathlib.Core.Bool.{Bool, false, true}
use mathlib.Core.Path.{◌≡◌, refl}
use borrow.Author.Tests.{ltb-false, ltb-true}
use Rattle.rounding.specs.Value.{L}
use Rattle.rounding.specs.Picoseconds.{day_ps}
use Rattle.rounding.proofs.Value.{L-pos}
use Rattle.julian.specs.declared.JulianDate.{JulianDate}
use Rattle.since_launch.specs.laws.SinceLaunch.{AtMostOneApart, NearAnywhere, OneInstantCounted, OwnMilliseconds}
use Rattle.since_launch.specs.laws.NearSums.{NearMillis}
use Rattle.since_launch.proofs.laws.Anywhere.{anywhere_near}
use Rattle.since_launch.proofs.laws.Weeks.{own-millisecond}
use Rattle.since_launch.proofs.laws.WeeksTai.{own-millisecond-tai}

pub near-anywhere : (from to : JulianDate) → NearAnywhere from to
near-anywhere from to P N P' N' r c = anywhere_near from to P N P' N' c.small_from c.small_to c.worth_from c.worth_to r c.given

pub own-milliseconds : (from to : JulianDate) (week ms week' ms' : ℕ) → OwnMilliseconds from to week ms week' ms'
own-milliseconds from to week ms week' ms' = record {
  own = own-millisecond week ms week' ms' from to;
  own_tai = λ p q t t'. own-millisecond-tai week ms week' ms' from to t t' p q;
}

-- ---- one instant: 1 ms less 1 ns, and two times 96 ps, are less than 2 ms less 1 ms; a is for L
not_two : (a r r' P N p n p' n' : ℕ) → 0 < a → r' + 2 ≤ r
    → 2 ^ 43 * (r * a + 86400000 * (n + P)) ≤ 2 ^ 43 * (86400000 * (p + N)) + (2 ^ 42 + 10 * 84375) * a
    → 2 ^ 43 * (86400000 * (p' + N)) ≤ 2 ^ 43 * (r' * a + 86400000 * (n' + P)) + (2 ^ 42 + 10 * 84375) * a
    → day_ps * (n' + p) ≤ day_ps * (p' + n) + 999999000 * a → ⊥
not_two a r r' P N p n p' n' some h over under near =
    let more : (r' + 2) * a ≤ r * a = mul-le-mul_right a h in
    omega (arith, more, over, under, near)

module _ (from x y : JulianDate) (ps r r' : ℕ) (c : OneInstantCounted from x y ps r r') where
  near_x : NearMillis c.P c.N c.apart.p c.apart.n r
  near_x = anywhere_near from x _ _ _ _ c.small_launch c.small_x c.launch c.apart.from r c.given_x

  near_y : NearMillis c.P c.N c.apart.p' c.apart.n' r'
  near_y = anywhere_near from y _ _ _ _ c.small_launch c.small_y c.launch c.apart.to r' c.given_y

  within : ps * (1 * L) ≤ 999999000 * L
  within = let k : ps * L ≤ 999999000 * L = mul-le-mul_right L c.most in omega (arith, k)

  low : r' + 2 ≤ r → ⊥
  low h = not_two L r r' c.P c.N c.apart.p c.apart.n c.apart.p' c.apart.n' L-pos h near_x.over near_y.under
      (omega (arith, within, c.apart.under))

  high : r + 2 ≤ r' → ⊥
  high h = not_two L r' r c.P c.N c.apart.p' c.apart.n' c.apart.p c.apart.n L-pos h near_y.over near_x.under
      (omega (arith, within, c.apart.over))

at_most : (a b : ℕ) → (b + 2 ≤ a → ⊥) → a ≤ b + 1
at_most a b not_so = go (ltb (b + 1) a) refl
  where
    go : (t : Bool) → ltb (b + 1) a ≡ t → a ≤ b + 1
    go true e = absurd (not_so (omega (arith, ltb-true (b + 1) a e)))
    go false e = omega (arith, ltb-false (b + 1) a e)

pub at_most_one_apart : (from x y : JulianDate) → AtMostOneApart from x y
at_most_one_apart from x y ps r r' c = (at_most r r' (low from x y ps r r' c), at_most r' r (high from x y ps r r' c))
