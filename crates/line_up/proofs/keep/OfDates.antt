-- What is true of every run whose stamps with number 0 have a place in the order: the kept ones rise by their exact sums, no others that rise are more, and who
-- is left out contradicts a kept one. Assumes nothing.
use Prim.Native.Nat.{ℕ, ◌+◌, ◌-◌, ◌<◌, ◌≤◌}
use mathlib.Core.Path.{◌≡◌, sym, ◌∙◌}
use mathlib.Core.Bool.{true, false}
use mathlib.Core.List.{List}
use lib.ListN.{length, get_or}
use lib.Seq.{slice}
use borrow.Author.Tests.{ltb-true, ltb-false}
use Rattle.rounding.specs.Value.{L}
use Rattle.julian.specs.Worth.{Worth}
use Rattle.line_up.specs.keep.Piles.{run_kept, zeros, Rises, Upward, All, Contradicted}
use Rattle.line_up.proofs.keep.OfRuns as R
use Rattle.julian.specs.stamp_lists.Stamps.{stamp_of}
use Rattle.line_up.specs.keep.Stamps.{unordered_at, sooner_at}
use Rattle.line_up.specs.keep.Asked.{NoneUnordered}
use Rattle.line_up.proofs.keep.Dates.{FiniteAt, finite-at, lt_is, date-order}

-- what `sooner_at` says of two stamps that are not unordered, whose exact sums are (P - N) / L and (Q - M) / L
module _ (js ks : List ℕ) (x y P N Q M : ℕ) (a : unordered_at js ks x ≡ false) (b : unordered_at js ks y ≡ false) (v : Worth (stamp_of js ks x) P N L)
    (w : Worth (stamp_of js ks y) Q M L) where
  pub sooner-exactly : sooner_at js ks x y ≡ true → P + M < Q + N
  sooner-exactly e = ltb-true (P + M) (Q + N) (sym (lt_is js ks x y P N Q M (finite-at js ks x a) (finite-at js ks y b) v w) ∙ e)

  pub not_sooner_exactly : sooner_at js ks x y ≡ false → Q + N ≤ P + M
  not_sooner_exactly e = ltb-false (P + M) (Q + N) (sym (lt_is js ks x y P N Q M (finite-at js ks x a) (finite-at js ks y b) v w) ∙ e)

module _ (js ks ns : List ℕ) (from to : ℕ) (low : from ≤ to) (high : to ≤ length ns) (ordered : NoneUnordered js ks ns from to) where
  -- the numbers after the call, and the places that are kept
  abbrev pub after : List ℕ
  after = run_kept (sooner_at js ks) ns from to

  abbrev pub kept : List ℕ
  kept = zeros from (slice from to after)

  finite : (p : ℕ) → from ≤ p → p < to → get_or ns p 0 ≡ 0 → FiniteAt js ks p
  finite p h k e = finite-at js ks p (ordered p h k e)

  -- (1)
  pub dates_rise : Rises (sooner_at js ks) kept
  dates_rise = R.run-rises (sooner_at js ks) ns from to low high

  -- (2)
  pub dates_most : (xs : List ℕ) → Upward from xs → All (λ (x : ℕ). (x < to) × (get_or ns x 1 ≡ 0)) xs → Rises (sooner_at js ks) xs → length xs ≤ length kept
  dates_most xs u a r = R.run-most (sooner_at js ks) ns from to low high (FiniteAt js ks) (date-order js ks) finite xs u a r

  -- (3)
  pub dates_all : Rises (sooner_at js ks) (zeros from (slice from to ns)) → after ≡ ns
  dates_all r = R.run-all (sooner_at js ks) ns from to low high (FiniteAt js ks) (date-order js ks) finite r

  -- (5)
  pub dates_contradicted : (p : ℕ) → from ≤ p → p < to → get_or ns p 1 ≡ 0 → (get_or (slice from to after) (p - from) 0 ≡ 0 → ⊥)
      → Contradicted (sooner_at js ks) p kept
  dates_contradicted p h k z t = R.run-contradicted (sooner_at js ks) ns from to low high (FiniteAt js ks) (date-order js ks) finite p h k z t
