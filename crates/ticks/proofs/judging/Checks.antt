-- The loops that judge the passes and the ticks: what each turn adds, where it stops, and what the end says. Assumes nothing.
use Prim.Native.Nat.{ℕ, ◌+◌, ◌-◌, ◌<◌, ◌≤◌}
use native.Mathlib.Omega.{arith}
use native.Mathlib.Decide.{dec_lt}
use mathlib.Core.Path.{◌≡◌, refl, sym, subst}
use mathlib.Core.Bool.{Bool, true, false, ◌&&◌}
use lib.Dec.{ltb, leb}
use borrow.Author.Tests.{ltb-true, lt-ltb, le-ltb, le-leb, lt-leb}
use Rattle.ticks.specs.judging.Numbers.{holds_below, all_small, all_rising, inside}
use Rattle.ticks.proofs.judging.Every.{every_more, every_stops, every_all, every_at}

pub none_yet : (f : ℕ → Bool) → holds_below 0 f ≡ true
unfolding holds_below
none_yet f = refl

all-of-them : (f : ℕ → Bool) (n i : ℕ) → i ≤ n → n ≤ i → holds_below i f ≡ true → true ≡ holds_below n f
all-of-them f n i h k e = sym (subst (λ (m : ℕ). holds_below m f ≡ true) (omega arith) e)

abbrev pub below : (ℕ → ℕ) → ℕ → Bool
below f = λ i. ltb (f i) 0x100_0000_0000

abbrev pub step : (ℕ → ℕ) → ℕ → Bool
step f = λ i. ltb (f i) (f (i + 1))

abbrev pub held : ℕ → ℕ → (ℕ → ℕ) → ℕ → Bool
held first last f = λ i. leb first (f i) && leb (f i) last

module _ (f : ℕ → ℕ) (n i r : ℕ) (e : r ≡ f i) where
  pub rising-more : (r' : ℕ) → r' ≡ f (i + 1) → holds_below i (step f) ≡ true → r < r' → holds_below (i + 1) (step f) ≡ true
  rising-more r' e' p h = every_more (step f) i p (lt-ltb (f i) (f (i + 1)) (omega arith))

  pub rising-stops : (r' : ℕ) → r' ≡ f (i + 1) → i < n - 1 → r' ≤ r → false ≡ all_rising n f
  unfolding all_rising
  rising-stops r' e' k h = sym (every_stops (step f) (n - 1) i k (le-ltb (f i) (f (i + 1)) (omega arith)))

  module _ (first last : ℕ) where
    pub inside-more : holds_below i (held first last f) ≡ true → first ≤ r → r ≤ last → holds_below (i + 1) (held first last f) ≡ true
    inside-more p h k = every_more (held first last f) i p (rw (le-leb first (f i) (omega arith)) (le-leb (f i) last (omega arith)))

    pub inside-stops-low : i < n → r < first → false ≡ inside first last n f
    unfolding inside
    inside-stops-low k h = sym (every_stops (held first last f) n i k (rw (lt-leb first (f i) (omega arith))))

    pub inside-stops-high : i < n → first ≤ r → last < r → false ≡ inside first last n f
    unfolding inside
    inside-stops-high k l h = sym (every_stops (held first last f) n i k (rw (le-leb first (f i) (omega arith)) (lt-leb (f i) last (omega arith))))

module _ (f : ℕ → ℕ) (n i : ℕ) where
  pub rising-ends : i ≤ n - 1 → n - 1 ≤ i → holds_below i (step f) ≡ true → true ≡ all_rising n f
  unfolding all_rising
  rising-ends h k e = all-of-them (step f) (n - 1) i h k e

  pub inside-ends : (first last : ℕ) → i ≤ n → n ≤ i → holds_below i (held first last f) ≡ true → true ≡ inside first last n f
  unfolding inside
  inside-ends first last h k e = all-of-them (held first last f) n i h k e

-- ---- numbers below 2^40 lie from 0 to 2^40 - 1
from-zero : (x : ℕ) → leb 0 x && leb x 0xff_ffff_ffff ≡ ltb x 0x100_0000_0000
from-zero x = go (dec_lt x 0x100_0000_0000)
  where
    go : Dec (x < 0x100_0000_0000) → leb 0 x && leb x 0xff_ffff_ffff ≡ ltb x 0x100_0000_0000
    go (yes h) = rw (le-leb 0 x (omega arith), le-leb x 0xff_ffff_ffff (omega arith), lt-ltb x 0x100_0000_0000 h) refl
    go (no h) = rw (le-leb 0 x (omega arith), lt-leb x 0xff_ffff_ffff (omega arith), le-ltb x 0x100_0000_0000 (omega arith)) refl

pub small_inside : (n : ℕ) (f : ℕ → ℕ) → inside 0 0xff_ffff_ffff n f ≡ all_small n f
unfolding inside all_small
small_inside n f i = holds_below n (λ x. from-zero (f x) i)

-- ---- each test of numbers, exactly: `..-all` where it is passed, `..-not` where one number fails it
module _ (n : ℕ) (f : ℕ → ℕ) where
  pub small_all : ((i : ℕ) → i < n → f i < 0x100_0000_0000) → all_small n f ≡ true
  unfolding all_small
  small_all h = every_all (below f) n (λ i k. lt-ltb (f i) 0x100_0000_0000 (h i k))

  pub small-each : all_small n f ≡ true → (i : ℕ) → i < n → f i < 0x100_0000_0000
  unfolding all_small
  small-each e i h = ltb-true (f i) 0x100_0000_0000 (every_at (below f) n e i h)

  pub small-not : (i : ℕ) → i < n → 0x100_0000_0000 ≤ f i → all_small n f ≡ false
  unfolding all_small
  small-not i h k = every_stops (below f) n i h (le-ltb (f i) 0x100_0000_0000 k)

  pub rising-all : ((i : ℕ) → i + 1 < n → f i < f (i + 1)) → all_rising n f ≡ true
  unfolding all_rising
  rising-all h = every_all (step f) (n - 1) (λ i k. lt-ltb (f i) (f (i + 1)) (h i (omega arith)))

  pub rising-not : (i : ℕ) → i + 1 < n → f (i + 1) ≤ f i → all_rising n f ≡ false
  unfolding all_rising
  rising-not i h k = every_stops (step f) (n - 1) i (omega arith) (le-ltb (f i) (f (i + 1)) k)

  pub inside-all : (first last : ℕ) → ((i : ℕ) → i < n → first ≤ f i) → ((i : ℕ) → i < n → f i ≤ last) → inside first last n f ≡ true
  unfolding inside
  inside-all first last l h = every_all (held first last f) n (λ i k. rw (le-leb first (f i) (l i k)) (le-leb (f i) last (h i k)))

  pub inside-not-low : (first last i : ℕ) → i < n → f i < first → inside first last n f ≡ false
  unfolding inside
  inside-not-low first last i h k = every_stops (held first last f) n i h (rw (lt-leb first (f i) k))

  pub inside-not-high : (first last i : ℕ) → i < n → first ≤ f i → last < f i → inside first last n f ≡ false
  unfolding inside
  inside-not-high first last i h l k = every_stops (held first last f) n i h (rw (le-leb first (f i) l) (lt-leb (f i) last k))

-- ---- the same for numbers below 2^40: what each turn adds, where it stops, and what the end says
module _ (f : ℕ → ℕ) (n i r : ℕ) (e : r ≡ f i) where
  pub small-more : holds_below i (below f) ≡ true → r < 0x100_0000_0000 → holds_below (i + 1) (below f) ≡ true
  small-more p h = every_more (below f) i p (lt-ltb (f i) 0x100_0000_0000 (omega arith))

  pub small-stops : i < n → 0x100_0000_0000 ≤ r → false ≡ all_small n f
  unfolding all_small
  small-stops k h = sym (every_stops (below f) n i k (le-ltb (f i) 0x100_0000_0000 (omega arith)))

module _ (f : ℕ → ℕ) (n i : ℕ) where
  pub small-ends : i ≤ n → n ≤ i → holds_below i (below f) ≡ true → true ≡ all_small n f
  unfolding all_small
  small-ends h k e = all-of-them (below f) n i h k e
