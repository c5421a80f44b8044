-- The number of rows compared is far below 2^63, so that a caller from C gets it as it is. Assumes nothing.
use Rattle.std.proofs.Common.{◌≡◌, ℕ, ◌+◌, ◌≤◌, Bool, true, false, cond, leb, List, map, length, sym, ap, arith}
use lib.ListN.{length-map}
use Rattle.refusals.specs.Outcome.{answer, refusal, onward}
use Rattle.refusals.proofs.Onward.{came}
use Rattle.leap_table.specs.rows.Table.{Row, starts, most_rows}
use Rattle.leap_table.specs.rows.Announced.{table_of}
use Rattle.leap_table.specs.declared.rows.AnnouncedRows.{AnnouncedRows}
use Rattle.leap_table.specs.declared.judging.Triple.{Triple}
use Rattle.leap_table.specs.walk.Rows.{compared}
use Rattle.leap_table.specs.judging.Judging.{judged_all}
use Rattle.leap_table.specs.walk.Walk.{month_in, Walked, walked, walk_of}
use Rattle.leap_table.proofs.walk.Counts.{most-by-any}

walk_is : (rows : List Row) (b : Bool) (dates : List Triple) (places : ℕ) (w : Walked) → walk_of rows b dates places ≡ answer w
    → w.rows_compared ≡ compared (starts rows) (map month_in dates)
unfolding walk_of
walk_is rows false dates places w e = let z : ◌≡◌ {A = ℕ} 0 1 = cc in absurd (omega arith)
walk_is rows true dates places w e = go (leb (length dates) places) e
  where
    go : (c : Bool) → cond c (onward (judged_all dates) (λ _. answer (walked rows dates))) (refusal 11) ≡ answer w
        → w.rows_compared ≡ compared (starts rows) (map month_in dates)
    go true q =
        let (u, v, x) = came (judged_all dates) (λ _. answer (walked rows dates)) w q in
        let y : w ≡ walked rows dates = cc in
        ap (λ (k : Walked). k.rows_compared) y
    go false q = let z : ◌≡◌ {A = ℕ} 0 1 = cc in absurd (omega arith)

pub count_most : (t : AnnouncedRows) (b : Bool) (dates : List Triple) (places k : ℕ)
    → answer k ≡ onward (onward (table_of t) (λ rows. walk_of rows b dates places)) (λ w. answer w.rows_compared) → k ≤ length dates + most_rows
count_most t b dates places k e =
    let (w, p, q) = came (onward (table_of t) (λ rows. walk_of rows b dates places)) (λ w. answer w.rows_compared) k (sym e) in
    let (rows, p', q') = came (table_of t) (λ rows. walk_of rows b dates places) w p in
    let s : w.rows_compared ≡ k = cc in
    omega (arith, s, walk_is rows b dates places w q', most-by-any t rows p' (map month_in dates), length-map dates month_in)
