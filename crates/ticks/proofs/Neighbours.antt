-- The neighbours of a tick among passes that nothing is refused of. Assumes nothing.
use Prim.Native.Nat.{ℕ, ◌+◌, ◌-◌, ◌<◌, ◌≤◌}
use native.Mathlib.Omega.{arith}
use native.Mathlib.Decide.{dec_lt}
use mathlib.Core.Path.{◌≡◌, sym, ap, subst, ◌∙◌}
use mathlib.Core.List.{List}
use Rattle.ticks.specs.judging.Refusing.{number_at, numbers_in}
use Rattle.ticks.specs.Ticks.{passes_of}
use Rattle.ticks.specs.Passes.{last_not_after, millis_between, millis_at}
use Rattle.ticks.specs.judging.GoodCalls.{GoodPasses}
use Rattle.ticks.specs.Asked.{NearPass, TickBetween}
use Rattle.ticks.proofs.Search.{last-low, last-from, last-next}

module _ (ps ms : List ℕ) (k : ℕ) (g : GoodPasses ps ms k) (t : ℕ) (low : number_at ps 0 ≤ t) (high : t ≤ number_at ps (k + 1)) where
  pub near : (j : ℕ) → j ≤ k → NearPass ps k j t
  near j l = record { few = g.few; there = omega (arith, g.ticks_there); near = l; from = low; rises = λ x w. g.ticks_rise x (omega arith) }

  to-next : t ≤ number_at ps (last_not_after (number_at ps) t k + 1)
  to-next = go (dec_lt (last_not_after (number_at ps) t k) k)
    where
      go : Dec (last_not_after (number_at ps) t k < k) → t ≤ number_at ps (last_not_after (number_at ps) t k + 1)
      go (yes w) = omega (arith, last-next (number_at ps) t k w)
      go (no w) =
          let e : k ≡ last_not_after (number_at ps) t k = omega (arith, last-low (number_at ps) t k) in
          subst (λ (x : ℕ). t ≤ number_at ps (x + 1)) e high

  module _ (j : ℕ) (e : j ≡ last_not_after (number_at ps) t k) where
    pub still_near : j ≤ k
    still_near = omega (arith, last-low (number_at ps) t k)

    pub holds : TickBetween ps ms j t
    holds =
        record {
          few = omega (arith, still_near, g.few);
          ticks_there = omega (arith, still_near, g.ticks_there);
          millis_there = omega (arith, still_near, g.millis_there);
          from = subst (λ (x : ℕ). number_at ps x ≤ t) (sym e) (last-from (number_at ps) t (low) k);
          to = subst (λ (x : ℕ). t ≤ number_at ps (x + 1)) (sym e) to-next;
          ticks_rise = g.ticks_rise j (omega (arith, still_near));
          ticks_small = g.ticks_small (j + 1) (omega (arith, still_near));
          millis-rise = omega (arith, g.millis-rise j (omega (arith, still_near)));
          millis_small = g.millis_small (j + 1) (omega (arith, still_near));
        }

    pub millis-is : millis_between (passes_of ps ms) j t ≡ millis_at (passes_of ps ms) t
    unfolding millis_at
    millis-is =
        let s : k ≡ numbers_in ps - 2 = omega (arith, g.size) in
        ap (λ (x : ℕ). millis_between (passes_of ps ms) x t) (e ∙ ap (last_not_after (number_at ps) t) s)
