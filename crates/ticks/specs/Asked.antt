-- What the functions below the call ask of passes and ticks, and ensure. Assumes nothing.
use Rattle.std.specs.Prelude.{ℕ, ◌+◌, ◌*◌, ◌≤◌, ◌<◌, List, length}
use Rattle.ticks.specs.judging.Numbers.{RisesTo}
use Rattle.ticks.specs.judging.Refusing.{number_at}

-- the search in passes lo to hi
pub record Sought (ps : List ℕ) (lo hi t : ℕ) : Type 0 where
  pub rises : RisesTo (number_at ps) hi
  pub order : lo ≤ hi
  pub few : hi ≤ 1998
  pub there : 8 * hi + 8 ≤ length ps
  pub from : number_at ps lo ≤ t

pub record FoundPass (tick : ℕ → ℕ) (lo hi t r : ℕ) : Type 0 where
  pub low : lo ≤ r
  pub high : r ≤ hi
  pub from : tick r ≤ t
  pub next : r < hi → t < tick (r + 1)

-- the search from the last neighbour on
pub record NearPass (ps : List ℕ) (k j t : ℕ) : Type 0 where
  pub few : k ≤ 1998
  pub there : 8 * k + 8 ≤ length ps
  pub near : j ≤ k
  pub from : number_at ps 0 ≤ t
  pub rises : RisesTo (number_at ps) k

-- two neighbours, the tick between them
pub record TickBetween (ps ms : List ℕ) (j t : ℕ) : Type 0 where
  pub few : j ≤ 1998
  pub ticks_there : 8 * j + 16 ≤ length ps
  pub millis_there : 8 * j + 16 ≤ length ms
  pub from : number_at ps j ≤ t
  pub to : t ≤ number_at ps (j + 1)
  pub ticks_rise : number_at ps j < number_at ps (j + 1)
  pub ticks_small : number_at ps (j + 1) < 0x100_0000_0000
  pub millis-rise : number_at ms j ≤ number_at ms (j + 1)
  pub millis_small : number_at ms (j + 1) < 0x100_0000_0000
