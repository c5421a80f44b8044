-- AN ANSWERED WALK IS RIGHT: each offset is the look-up's, what lies behind stays, and the count is the definition's, for every table that is taken. Assumes
-- nothing.
use Rattle.std.proofs.Common.{◌≡◌, ℕ, Bool, true, false, cond, leb, List, map, length, sym, ap, ◌∙◌, arith}
use lib.Ieee.{Float}
use Rattle.refusals.specs.Outcome.{Outcome, answer, onward, refusal, outcome}
use Rattle.refusals.proofs.Onward.{came}
use Rattle.leap_table.specs.declared.rows.AnnouncedRows.{AnnouncedRows}
use Rattle.leap_table.specs.declared.judging.Triple.{Triple}
use Rattle.leap_table.specs.rows.Table.{Row, starts}
use Rattle.leap_table.specs.rows.Announced.{table_of}
use Rattle.leap_table.specs.judging.Judging.{judged_all}
use Rattle.leap_table.specs.walk.Rows.{compared}
use Rattle.leap_table.specs.walk.Walk.{Walked, month_in, walk_of, walked}
use Rattle.leap_table.specs.walk.Lists.{walk_of_numbers}
use Rattle.leap_table.specs.walk.Due.{triple_numbers}
use Rattle.leap_table.specs.walk.Right.{WalkRight, WalkedBy}
use Rattle.leap_table.proofs.rows.TablesTaken.{when_taken}
use Rattle.leap_table.proofs.rows.TableLaws.{table-rises}
use Rattle.leap_table.proofs.walk.Counts.{compared-closed, most-by-fixed}
use Rattle.leap_table.proofs.walk.OfCall.{numbers-behind, numbers-offset, walk_of-numbers}

-- the rows compared in an answered walk are the definition's count
by-definition : (l : List Row) (ds : List Triple) (places : ℕ) (w : Walked) → walk_of l true ds places ≡ answer w
    → w.rows_compared ≡ compared (starts l) (map month_in ds)
unfolding walk_of
by-definition l ds places w h = go (leb (length ds) places) h
  where
    go : (c : Bool) → cond c (onward (judged_all ds) (λ _. answer (walked l ds))) (refusal 11) ≡ answer w
        → w.rows_compared ≡ compared (starts l) (map month_in ds)
    go true q =
        let (u, v, x) = came (judged_all ds) (λ _. answer (walked l ds)) w q in
        let y : w ≡ walked l ds = cc in
        ap (λ (k : Walked). k.rows_compared) y
    go false q = let z : ◌≡◌ {A = ℕ} 0 1 = cc in absurd (omega arith)

module _ (t : AnnouncedRows) (rows : List Row) (e : table_of t ≡ answer rows) (ds : List Triple) (d : Triple) (before after : List Float) (c : ℕ) where
  counted : WalkedBy t ds before c after → c ≡ compared (starts rows) (map month_in ds)
  unfolding outcome
  counted call =
      let next : List Row → Outcome Walked = λ l. walk_of_numbers l (triple_numbers ds) (length before) in
      let (w, p, q) = came (onward (table_of t) next) (λ k. answer k.rows_compared) c (sym call.says) in
      let (l, u, v) = came (table_of t) next w p in
      let n : w.rows_compared ≡ c = cc in
      let same : l ≡ rows = cc in
      sym n ∙ by-definition l ds (length before) w (sym (walk_of-numbers l ds d (length before)) ∙ v)
      ∙ ap (λ (k : List Row). compared (starts k) (map month_in ds)) same

  pub walk-right : WalkRight t rows ds d before after c
  walk-right = record {
    each = λ call i h. rw (when_taken t rows e).all (numbers-offset t ds d before after c call i h);
    behind = numbers-behind t ds d before after c;
    counted = counted;
    at_most = most-by-fixed;
    each_time = compared-closed _ (table-rises t rows e);
  }
