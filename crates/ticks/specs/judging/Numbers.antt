-- Tests of the first numbers of a list. Written from document 02, item 10: numbers below 2^40, "passes not strictly rising in both", "a tick outside them".
-- Assumes nothing.
use Rattle.std.specs.Prelude.{ℕ, zero, suc, ◌+◌, ◌-◌, ◌<◌, Bool, true, ◌&&◌, ltb, leb}

-- whether f is true of 0 to n - 1
unfoldable pub holds_below : ℕ → (ℕ → Bool) → Bool
holds_below zero f = true
holds_below (suc n) f = holds_below n f && f n

-- the first n numbers are below 2^40
unfoldable pub all_small : ℕ → (ℕ → ℕ) → Bool
all_small n f = holds_below n (λ i. ltb (f i) 0x100_0000_0000)

-- each of the first n numbers but the last is below the next
unfoldable pub all_rising : ℕ → (ℕ → ℕ) → Bool
all_rising n f = holds_below (n - 1) (λ i. ltb (f i) (f (i + 1)))

-- the first k of some ticks lie from `first` to `last`
unfoldable pub inside : ℕ → ℕ → ℕ → (ℕ → ℕ) → Bool
inside first last k f = holds_below k (λ i. leb first (f i) && leb (f i) last)

-- numbers that rise up to number k
abbrev pub RisesTo : (ℕ → ℕ) → ℕ → Type 0
RisesTo f k = (i : ℕ) → i < k → f i < f (i + 1)
