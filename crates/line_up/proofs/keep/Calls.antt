-- The call: what is laid and then judged is what is kept. Assumes nothing.
use Prim.Native.Nat.{ℕ}
use mathlib.Core.Path.{◌≡◌, ap, ◌∙◌}
use mathlib.Core.Bool.{Bool}
use mathlib.Core.List.{List, [], ◌++◌}
use lib.ListN.{take, drop}
use lib.Seq.{slice}
use Rattle.line_up.specs.keep.Piles.{ranks, all_judged, most_kept, run_kept}
use Rattle.line_up.specs.keep.Asked.{Laid, run_judged}

pub kept-is : (lt : ℕ → ℕ → Bool) (ns rs now : List ℕ) (from to many : ℕ) → Laid lt ns from to rs many → now ≡ run_judged ns rs from to many
    → now ≡ run_kept lt ns from to
unfolding most_kept
kept-is lt ns rs now from to many l e =
    e
    ∙ ap (λ (q : List ℕ). take from ns ++ (all_judged (slice from to ns) q many ++ drop to ns)) l.piles
    ∙ ap (λ (m : ℕ). take from ns ++ (all_judged (slice from to ns) (ranks lt from (slice from to ns) []) m ++ drop to ns)) l.count
