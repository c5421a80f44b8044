-- What is known of passes and ticks where nothing is refused. Assumes nothing.
use Rattle.std.specs.Prelude.{ℕ, ◌+◌, ◌*◌, ◌≤◌, ◌<◌, ◌≡◌, List, length}
use Rattle.ticks.specs.judging.Numbers.{RisesTo}
use Rattle.ticks.specs.judging.Refusing.{number_at, numbers_in}

-- k + 2 passes that nothing is refused of
pub record GoodPasses (ps ms : List ℕ) (k : ℕ) : Type 0 where
  pub size : numbers_in ps ≡ k + 2
  pub ticks_there : 8 * k + 16 ≤ length ps
  pub millis_there : 8 * k + 16 ≤ length ms
  pub few : k ≤ 1998
  pub ticks_rise : RisesTo (number_at ps) (k + 1)
  pub millis-rise : RisesTo (number_at ms) (k + 1)
  pub ticks_small : (i : ℕ) → i < k + 2 → number_at ps i < 0x100_0000_0000
  pub millis_small : (i : ℕ) → i < k + 2 → number_at ms i < 0x100_0000_0000

-- and n ticks between them
pub record GoodCall (ps ms : List ℕ) (k n : ℕ) (ts : List ℕ) : Type 0 where
  pub passes : GoodPasses ps ms k
  pub there : 8 * n ≤ length ts
  pub low : (i : ℕ) → i < n → number_at ps 0 ≤ number_at ts i
  pub high : (i : ℕ) → i < n → number_at ts i ≤ number_at ps (k + 1)
