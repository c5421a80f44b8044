-- What the two parts leave beside their whole numbers: a first part of whole half days leaves 0 or a half, so that the sum starts exactly at 0 or at a half,
-- and a second part of at most a day leaves at most a half. Assumes nothing.
use mathlib.Core.Path.{◌≡◌, refl, subst}
use mathlib.Core.Logic.{◌⊎◌, inl, inr}
use mathlib.Core.Bool.{Bool, true, false}
use Prim.Native.Nat.{ℕ, ◌+◌, ◌*◌, ◌≤◌}
use native.Mathlib.Nat.{one-mul, zero-mul}
use native.Mathlib.Omega.{arith}
use lib.Dec.{T}
use lib.IntN.{pos, negsuc}
use lib.Ieee.{Float, fin, binary64, add, sub, lt, le, fits, of_bits}
use lib.Ieee.Bits.{of_bits-fits}
use lib.Ieee.Exact.{HasValue}
use Rattle.floats.specs.Whole.{half, nought, abs}
use Rattle.rounding.specs.Value.{Signed, Val, L}
use Rattle.rounding.proofs.Value.{L-pos, rounds-move}
use Rattle.rounding.proofs.Unique.{float-unique}
use Rattle.julian.specs.day_number.DayNumber.{compensation, add_fraction, sum_fractions, joined_fractions}
use Rattle.julian.proofs.day_number.Units.{H, H-L, H-pos}
use Rattle.julian.proofs.day_order.Once.{Once, nought-fits, half-fits, from-nought, from-half}

-- the same value by another pair
pub once-move : {u m d : ℕ} {f : Float} {A B A' B' : ℕ} → Once u m d f A B → A + B' ≡ A' + B → Once u m d f A' B'
once-move {u} {m} {d} {f} {A} {B} {A'} {B'} k e =
    record {
      z = k.z;
      p = k.p;
      n = k.n;
      rounds = rounds-move k.rounds (omega arith);
      val = k.val;
      left = k.left;
      low = omega (arith, k.low);
      high =
          omega (arith, k.high);
    }

-- ---- the floats 0, -0, 1/2 and -1/2
abbrev minus-nought : Float
minus-nought = fin true 0 (pos 0)

abbrev minus-half : Float
minus-half = fin true 1 (negsuc 0)

minus-nought-fits : T (fits binary64 minus-nought)
unfolding of_bits
minus-nought-fits = of_bits-fits binary64 0x8000_0000_0000_0000

minus-half-fits : T (fits binary64 minus-half)
unfolding of_bits
minus-half-fits = of_bits-fits binary64 0xbfe0_0000_0000_0000

nought-has : HasValue nought false 0 L
unfolding L
nought-has = (refl, refl)

minus-nought-has : HasValue minus-nought true 0 L
unfolding L
minus-nought-has = (refl, refl)

half-has : HasValue half false H L
unfolding L H
half-has = (refl, refl)

minus-half-has : HasValue minus-half true H L
unfolding L H
minus-half-has = (refl, refl)

-- ---- what the second fraction is added to
module _ (g : Float) where
  abbrev pub Rounded : Float → ℕ → ℕ → Type 0
  Rounded f A B = Once (sum_fractions f g).carry (joined_fractions f g).carry (joined_fractions f g).borrow (joined_fractions f g).fraction A B

  from-zero-of : sum_fractions nought g ≡ add_fraction 0 (record { sum = half; correction = nought }) g
  unfolding sum_fractions add_fraction compensation le lt abs add sub
  from-zero-of = refl

  from-minus-zero : sum_fractions minus-nought g ≡ add_fraction 0 (record { sum = half; correction = nought }) g
  unfolding sum_fractions add_fraction compensation le lt abs add sub
  from-minus-zero = refl

  from-plus-half : sum_fractions half g ≡ add_fraction 1 (record { sum = nought; correction = nought }) g
  unfolding sum_fractions add_fraction compensation le lt abs add sub
  from-plus-half = refl

  from-minus-half : sum_fractions minus-half g ≡ add_fraction 0 (record { sum = nought; correction = nought }) g
  unfolding sum_fractions add_fraction compensation le lt abs add sub
  from-minus-half = refl

module _ (g : Float) (Q M : ℕ) (fg : T (fits binary64 g)) (vg : Val g Q M L) (g1 : M ≤ Q + H) (g2 : Q ≤ M + H) where
  at_half : (f : Float) → sum_fractions f g ≡ add_fraction 0 (record { sum = half; correction = nought }) g → Rounded g f (0 * L + (H + Q)) M
  unfolding joined_fractions
  at_half f e = rw e (from-half g Q M 0 fg vg g1 g2)

  at_nought : (c : ℕ) (f : Float) → sum_fractions f g ≡ add_fraction c (record { sum = nought; correction = nought }) g → Rounded g f (c * L + Q) M
  unfolding joined_fractions
  at_nought c f e = rw e (from-nought g Q M c fg vg g1 g2)

  -- a first fraction of 0, a half or minus a half
  pub rounded : (f : Float) (P N : ℕ) → T (fits binary64 f) → Val f P N L → (P ≡ N) ⊎ ((P ≡ N + H) ⊎ (N ≡ P + H)) → Rounded g f (H + P + Q) (N + M)
  rounded f P N ff v k = go v.sign v.size v.has v.is k
    where
      by : {x : Float} (A B : ℕ) → f ≡ x → Rounded g x A B → A + (N + M) ≡ H + P + Q + B → Rounded g f (H + P + Q) (N + M)
      by A B e r q = once-move (rw e r) q

      sized : (s : Bool) (a k : ℕ) → a ≡ k → HasValue f s a L → HasValue f s k L
      sized s a k e h = subst (λ (z : ℕ). HasValue f s z L) e h

      go : (s : Bool) (a : ℕ) → HasValue f s a L → Signed s a P N → (P ≡ N) ⊎ ((P ≡ N + H) ⊎ (N ≡ P + H)) → Rounded g f (H + P + Q) (N + M)
      go false a h i (inl e) = by (0 * L + (H + Q)) M (float-unique f nought false 0 L L-pos ff nought-fits (sized false a 0 (omega arith) h) nought-has)
          (at_half nought (from-zero-of g)) (omega (arith, zero-mul L))
      go true a h i (inl e) = by (0 * L + (H + Q)) M
          (float-unique f minus-nought true 0 L L-pos ff minus-nought-fits (sized true a 0 (omega arith) h) minus-nought-has)
          (at_half minus-nought (from-minus-zero g)) (omega (arith, zero-mul L))
      go false a h i (inr (inl e)) = by (1 * L + Q) M (float-unique f half false H L L-pos ff half-fits (sized false a H (omega arith) h) half-has)
          (at_nought 1 half (from-plus-half g)) (omega (arith, one-mul L, H-L))
      go true a h i (inr (inl e)) = let w : ⊥ = omega (arith, H-pos) in absurd w
      go true a h i (inr (inr e)) = by (0 * L + Q) M
          (float-unique f minus-half true H L L-pos ff minus-half-fits (sized true a H (omega arith) h) minus-half-has)
          (at_nought 0 minus-half (from-minus-half g)) (omega (arith, zero-mul L))
      go false a h i (inr (inr e)) = let w : ⊥ = omega (arith, H-pos) in absurd w
