-- The tests of ticks are the reasons, said of the numbers one by one. Assumes nothing.
use Prim.Native.Nat.{ℕ, ◌-◌, ◌%◌}
use native.Mathlib.Omega.{arith}
use mathlib.Core.Path.{◌≡◌}
use mathlib.Core.Bool.{true, ◌&&◌}
use mathlib.Core.Logic.{◌↔◌}
use mathlib.Core.List.{List}
use lib.ListN.{length}
use lib.Dec.{leb}
use borrow.Author.Tests.{eqb-true, leb-true, eq-eqb, le-leb}
use Rattle.ticks.specs.judging.Numbers.{all_rising, inside}
use Rattle.ticks.specs.judging.Refusing.{number_at, numbers_in, whole_numbers, well_counted, usable, both_rising, all_inside}
use Rattle.ticks.specs.Ticks.{passes_of}
use Rattle.std.proofs.lemmas.Bool.{and_parts}
use Rattle.ticks.proofs.judging.Every.{every_at}
use Rattle.ticks.proofs.judging.Checks.{held, small_all, small-each, rising-all, inside-all}
use Rattle.ticks.proofs.judging.ByLast.{rises-of}
use Rattle.ticks.proofs.judging.Ladder.{usable-is}
use Rattle.ticks.specs.laws.Sound.{Sound}
use Rattle.ticks.specs.laws.Reasons.{WholeLists, UsablePasses, RisingPasses, TicksInside}

module _ (ps ms ts : List ℕ) where
  pub whole-test : (whole_numbers ps && (whole_numbers ms && whole_numbers ts) ≡ true) ↔ WholeLists ps ms ts
  whole-test = (to, fro)
    where
      to : whole_numbers ps && (whole_numbers ms && whole_numbers ts) ≡ true → WholeLists ps ms ts
      to e =
          let x = and_parts (whole_numbers ps) _ e in
          let y = and_parts (whole_numbers ms) (whole_numbers ts) x.1 in
          record { passes = eqb-true (length ps % 8) 0 x.0; millis = eqb-true (length ms % 8) 0 y.0; ticks = eqb-true (length ts % 8) 0 y.1 }

      fro : WholeLists ps ms ts → whole_numbers ps && (whole_numbers ms && whole_numbers ts) ≡ true
      fro w = rw (eq-eqb (length ps % 8) 0 w.passes, eq-eqb (length ms % 8) 0 w.millis) (eq-eqb (length ts % 8) 0 w.ticks)

  pub usable-test : (usable ps ms ≡ true) ↔ UsablePasses ps ms
  unfolding usable well_counted
  usable-test = (to, fro)
    where
      to : usable ps ms ≡ true → UsablePasses ps ms
      to e =
          let u = usable-is ps ms e in
          record {
            equal = u.counted.equal;
            two = u.counted.two;
            most = u.counted.most;
            ticks_small = small-each (numbers_in ps) (number_at ps) u.ticks;
            millis_small = small-each (numbers_in ps) (number_at ms) u.millis;
          }

      fro : UsablePasses ps ms → usable ps ms ≡ true
      fro u =
          rw (
            eq-eqb (numbers_in ps) (numbers_in ms) u.equal,
            le-leb 2 (numbers_in ps) u.two,
            le-leb (numbers_in ps) 2000 u.most,
            small_all (numbers_in ps) (number_at ps) u.ticks_small,
          )
          (small_all (numbers_in ps) (number_at ms) u.millis_small)

  pub rising-test : (both_rising ps ms ≡ true) ↔ RisingPasses ps ms
  unfolding both_rising
  rising-test = (to, fro)
    where
      to : both_rising ps ms ≡ true → RisingPasses ps ms
      to e =
          let r = and_parts (all_rising (numbers_in ps) (number_at ps)) _ e in
          record {
            ticks_rise = λ i h. rises-of (numbers_in ps) (number_at ps) r.0 i (omega arith);
            millis-rise = λ i h. rises-of (numbers_in ps) (number_at ms) r.1 i (omega arith);
          }

      fro : RisingPasses ps ms → both_rising ps ms ≡ true
      fro r = rw (rising-all (numbers_in ps) (number_at ps) r.ticks_rise) (rising-all (numbers_in ps) (number_at ms) r.millis-rise)

  pub inside-test : (all_inside ps ts ≡ true) ↔ TicksInside ps ms ts
  unfolding all_inside inside
  inside-test = (to, fro)
    where
      to : all_inside ps ts ≡ true → TicksInside ps ms ts
      to e i h =
          let x = and_parts (leb (number_at ps 0) (number_at ts i)) _
          (every_at (held (number_at ps 0) (number_at ps (numbers_in ps - 1)) (number_at ts)) (numbers_in ts) e i h) in
          record { low = leb-true (number_at ps 0) (number_at ts i) x.0; high = leb-true (number_at ts i) (number_at ps (numbers_in ps - 1)) x.1 }

      fro : TicksInside ps ms ts → all_inside ps ts ≡ true
      fro t = inside-all (numbers_in ts) (number_at ts) (number_at ps 0) (number_at ps (numbers_in ps - 1)) (λ i h. (t i h).low) (λ i h. (t i h).high)

-- passes that can be used and rise are sound
pub sound-by : (ps ms : List ℕ) → UsablePasses ps ms → RisingPasses ps ms → Sound (passes_of ps ms)
sound-by ps ms u s = record {
  two = u.two;
  most = u.most;
  ticks_rise = s.ticks_rise;
  millis-rise = s.millis-rise;
  ticks_small = u.ticks_small;
  millis_small = u.millis_small;
}
