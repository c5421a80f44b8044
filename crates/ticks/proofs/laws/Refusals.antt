-- A call that is not refused has passes and ticks for which the laws hold. Assumes nothing.
use Prim.Native.Nat.{ℕ, ◌+◌, ◌-◌, ◌≤◌, ◌<◌}
use native.Mathlib.Omega.{arith}
use mathlib.Core.Path.{◌≡◌, refl, subst}
use mathlib.Core.List.{List}
use Rattle.ticks.specs.judging.Refusing.{number_at, numbers_in, refused_by}
use Rattle.ticks.specs.Ticks.{passes_of}
use Rattle.ticks.specs.judging.GoodCalls.{GoodCall}
use Rattle.ticks.proofs.judging.Ladder.{ladder_passed, passes-two, all-good}
use Rattle.ticks.specs.laws.Sound.{Sound, Inside}

module _ (ps ms ts : List ℕ) (room : ℕ) (e : refused_by ps ms ts room ≡ 0) where
  good : GoodCall ps ms (numbers_in ps - 2) (numbers_in ts) ts
  good = all-good ps ms ts room (ladder_passed ps ms ts room e) (numbers_in ps - 2) refl

  two : 2 ≤ numbers_in ps
  two = passes-two ps ms ts room (ladder_passed ps ms ts room e)

  -- where nothing is refused the passes are sound
  pub passes-sound : Sound (passes_of ps ms)
  passes-sound =
      record {
        two = two;
        most = omega (arith, good.passes.size, good.passes.few);
        ticks_rise = λ i h. good.passes.ticks_rise i (omega (arith, two));
        millis-rise = λ i h. good.passes.millis-rise i (omega (arith, two));
        ticks_small = λ i h. good.passes.ticks_small i (omega (arith, two));
        millis_small = λ i h. good.passes.millis_small i (omega (arith, two));
      }

  -- and every tick is inside them
  pub ticks-inside : (i : ℕ) → i < numbers_in ts → Inside (passes_of ps ms) (number_at ts i)
  ticks-inside i h =
      let last : numbers_in ps - 2 + 1 ≡ numbers_in ps - 1 = omega (arith, two) in
      record { low = good.low i h; high = subst (λ (x : ℕ). number_at ts i ≤ number_at ps x) last (good.high i h) }
