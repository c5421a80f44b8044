-- The search for a pile. Assumes nothing.
use Prim.Native.Nat.{ℕ, ◌-◌, ◌<◌, ◌≤◌}
use native.Mathlib.Omega.{arith}
use mathlib.Core.Path.{◌≡◌, refl, sym, ap, ◌∙◌}
use mathlib.Core.Bool.{Bool, true, false}
use mathlib.Core.List.{List}
use lib.Dec.{ltb}
use lib.ListN.{get_or, take}
use lib.Seq.{length-take-le, get_or-take}
use borrow.Author.Tests.{ltb-true, ltb-false}
use Rattle.line_up.specs.keep.Piles.{piles_before}
use Rattle.line_up.specs.keep.Asked.{Searchable}
use Rattle.line_up.proofs.keep.Longest.{clash}
use Rattle.line_up.proofs.keep.Rising.{before-low, before-late}

-- the pile is not before `low` and not behind `high`
pub record Searching (lt : ℕ → ℕ → Bool) (tails : List ℕ) (many i low high : ℕ) : Type 0 where
  pub above : low ≤ piles_before lt i (take many tails)
  pub below : piles_before lt i (take many tails) ≤ high
  pub within : high ≤ many

module _ (lt : ℕ → ℕ → Bool) (tails : List ℕ) (many i : ℕ) (s : Searchable lt tails many i) where
  pub before-many : piles_before lt i (take many tails) ≤ many
  before-many = omega (arith, before-low lt i (take many tails), length-take-le many tails s.room)

  pub search_starts : Searching lt tails many i 0 many
  search_starts = record { above = omega arith; below = before-many; within = omega arith }

  later-behind : (c : Bool) (q : ℕ) → q < many → lt i (get_or tails q 0) ≡ true → ltb q (piles_before lt i (take many tails)) ≡ c
      → piles_before lt i (take many tails) ≤ q
  later-behind true q h e f =
      let k : get_or (take many tails) q 0 ≡ get_or tails q 0 = get_or-take many tails q 0 h in
      let l : q < piles_before lt i (take many tails) = ltb-true q (piles_before lt i (take many tails)) f in
      clash (lt i (get_or tails q 0)) e (ap (lt i) (sym k) ∙ before-late lt i (take many tails) q l)
  later-behind false q h e f = ltb-false q (piles_before lt i (take many tails)) f

  -- where the stamp comes before the last of a pile, its own pile is not behind that one
  pub search_below : (low mid high t : ℕ) → t ≡ get_or tails mid 0 → lt i t ≡ true → mid < high → Searching lt tails many i low high
      → Searching lt tails many i low mid
  search_below low mid high t et e k g = record {
    above = g.above;
    below = later-behind (ltb mid (piles_before lt i (take many tails))) mid (omega (arith, g.within)) (ap (lt i) (sym et) ∙ e) refl;
    within = omega (arith, g.within);
  }

  pub none_before : many ≡ 0 → 0 ≡ piles_before lt i (take many tails)
  none_before e = omega (arith, before-many)

  pub last-before : (t : ℕ) → 0 < many → t ≡ get_or tails (many - 1) 0 → lt i t ≡ false → many ≡ piles_before lt i (take many tails)
  last-before t h e f = omega (arith, before-many, s.split (many - 1) (omega arith) (ap (lt i) (sym e) ∙ f))
