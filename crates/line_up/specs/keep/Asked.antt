-- What `keep_most` asks, and what the functions below it ask and ensure. Assumes nothing.
use Rattle.std.specs.Prelude.{ℕ, ◌-◌, ◌*◌, ◌<◌, ◌≤◌, ◌≡◌, Bool, false, cond, List, [], ◌++◌, eqb, length, get_or, take, drop, set}
use Rattle.std.proofs.Math.Seq.{slice}
use Rattle.line_up.specs.keep.Piles.{piles_before, all_laid, ranks, all_judged}
use Rattle.line_up.specs.keep.Stamps.{unordered_at}
use Rattle.line_up.specs.keep.Cells.{cells}

-- the pile of the stamp at place i can be searched among the first `many` tails: one that is not later than i has none later before it
pub record Searchable (lt : ℕ → ℕ → Bool) (tails : List ℕ) (many i : ℕ) : Type 0 where
  pub room : many ≤ length tails
  pub split : (q : ℕ) → q < many → lt i (get_or tails q 0) ≡ false → q < piles_before lt i (take many tails)

-- the tails after place i went on pile r, counted from 1
abbrev pub tail_put : List ℕ → ℕ → ℕ → List ℕ
tail_put tails r i = cond (eqb r 0) tails (set tails (r - 1) i)

-- a run from place `from` up to `to`, with its work areas
pub record Layable (ns : List ℕ) (from to : ℕ) (tails rs : List ℕ) : Type 0 where
  pub low : from ≤ to
  pub high : to ≤ length ns
  pub small : to ≤ 4294967295
  pub tail_room : to - from ≤ length tails
  pub rank_room : to ≤ length rs

pub record Laid (lt : ℕ → ℕ → Bool) (ns : List ℕ) (from to : ℕ) (rs : List ℕ) (many : ℕ) : Type 0 where
  pub count : many ≡ length (all_laid lt from (slice from to ns) [])
  pub piles : slice from to rs ≡ ranks lt from (slice from to ns) []

pub record Judgeable (ns rs : List ℕ) (from to : ℕ) : Type 0 where
  pub low : from ≤ to
  pub high : to ≤ length ns
  pub rank_room : to ≤ length rs

-- all numbers, after the run from place `from` up to `to` was judged by its piles
abbrev pub run_judged : List ℕ → List ℕ → ℕ → ℕ → ℕ → List ℕ
run_judged ns rs from to many = take from ns ++ (all_judged (slice from to ns) (slice from to rs) many ++ drop to ns)

-- no stamp of the run with number 0 is unordered
abbrev pub NoneUnordered : List ℕ → List ℕ → List ℕ → ℕ → ℕ → Type 0
NoneUnordered js ks ns from to = (p : ℕ) → from ≤ p → p < to → get_or ns p 0 ≡ 0 → unordered_at js ks p ≡ false

-- a run from place `from` up to `to`, with four bytes for each stamp of it in one work area, and for each place up to `to` in the other
pub record Lent (js ks ns : List ℕ) (from to : ℕ) (tails rs : List ℕ) : Type 0 where
  pub low : from ≤ to
  pub high : to ≤ length ns
  pub small : to ≤ 4294967295
  pub tail_room : 4 * (to - from) ≤ length tails
  pub rank_room : 4 * to ≤ length rs
  pub ordered : NoneUnordered js ks ns from to

-- the same of the cells
pub record LentCells (js ks ns : List ℕ) (from to : ℕ) (tails rs : List ℕ) : Type 0 where
  pub layable : Layable ns from to (cells tails) (cells rs)
  pub ordered : NoneUnordered js ks ns from to
