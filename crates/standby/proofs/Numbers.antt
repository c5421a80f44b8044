-- The limits of a bill's numbers. Assumes nothing.
use mathlib.Core.Path.{◌≡◌, refl}
use mathlib.Core.Bool.{Bool, true, false, true≢false, ◌||◌}
use Prim.Native.Nat.{ℕ, ◌≤◌}
use lib.Dec.{ltb}
use borrow.Author.Tests.{ltb-false}
use Rattle.standby.specs.Bills.{over_limit}

module _ (q rate a b : ℕ) where
  -- what is not over a limit
  pub within : over_limit q rate a b ≡ false → (q ≤ 1000000) × (rate ≤ 1000000) × (a ≤ 1000000) × (b ≤ 1000000)
  unfolding over_limit
  within e = go (ltb 1000000 q) refl (ltb 1000000 rate) refl (ltb 1000000 a) refl (ltb 1000000 b) refl e
    where
      go : (s : Bool) → ltb 1000000 q ≡ s → (t : Bool) → ltb 1000000 rate ≡ t → (u : Bool) → ltb 1000000 a ≡ u → (v : Bool) → ltb 1000000 b ≡ v
          → s || (t || (u || v)) ≡ false → (q ≤ 1000000) × (rate ≤ 1000000) × (a ≤ 1000000) × (b ≤ 1000000)
      go false p false r false s false t e = (ltb-false 1000000 q p, ltb-false 1000000 rate r, ltb-false 1000000 a s, ltb-false 1000000 b t)
      go true p t r u s v t' e = absurd (true≢false e)
      go false p true r u s v t' e = absurd (true≢false e)
      go false p false r true s v t' e = absurd (true≢false e)
      go false p false r false s true t' e = absurd (true≢false e)
