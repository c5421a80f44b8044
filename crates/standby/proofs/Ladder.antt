-- The ladder of a bill, test by test. Assumes nothing.
use mathlib.Core.Path.{◌≡◌}
use mathlib.Core.Bool.{true, false}
use Prim.Native.Nat.{ℕ, ◌+◌, ◌*◌, ◌≤◌, ◌<◌}
use borrow.Author.Tests.{lt-ltb, le-ltb, eq-eqb, ne_eqb}
use Rattle.refusals.specs.Outcome.{answer, refusal}
use Rattle.standby.specs.Bills.{quarters_between, over_limit, shares, bill_between}

module _ (s e rate a b : ℕ) where
  pub backward : e < s → refusal 26 ≡ bill_between s e rate a b
  unfolding bill_between
  backward h = rw (lt-ltb e s h)

  module _ (h : s ≤ e) where
    pub over : over_limit (quarters_between s e) rate a b ≡ true → refusal 27 ≡ bill_between s e rate a b
    unfolding bill_between
    over p = rw (le-ltb e s h, p)

    module _ (p : over_limit (quarters_between s e) rate a b ≡ false) where
      pub no_line : a + b ≡ 0 → refusal 28 ≡ bill_between s e rate a b
      unfolding bill_between
      no_line z = rw (le-ltb e s h, p, eq-eqb (a + b) 0 z)

      pub billed : (a + b ≡ 0 → ⊥) → answer (shares (quarters_between s e) (quarters_between s e * rate) a b) ≡ bill_between s e rate a b
      unfolding bill_between
      billed z = rw (le-ltb e s h, p, ne_eqb (a + b) 0 z)
