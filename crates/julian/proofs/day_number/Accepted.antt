-- Every accepted pair of floats: either both parts are below 2 ^ 50, or each is so large that it lies on the grid. Assumes nothing.
use mathlib.Core.Path.{◌≡◌, subst}
use mathlib.Core.Bool.{Bool, true, false, not}
use Prim.Native.Nat.{ℕ, ◌+◌, ◌*◌, ◌^◌, ◌≤◌, ◌<◌}
use native.Mathlib.Omega.{arith}
use lib.Dec.{T, leb, leb→le, nleb→lt}
use lib.Ieee.{Float, binary64, fits}
use lib.Ieee.Exact.{HasValue}
use Rattle.rounding.specs.Value.{L}
use Rattle.rounding.proofs.Signed.{plus-of, minus-of}
use Rattle.rounding.proofs.Own.{Rep, own}
use Rattle.floats.specs.Whole.{nearest_int}
use Rattle.julian.specs.day_number.DayNumber.{accepted}
use Rattle.julian.proofs.day_number.Units.{S, C, E-L, E_pos}
use Rattle.julian.proofs.day_number.SignedUnits.{has-val}
use Rattle.julian.proofs.day_number.NearestNumber.{Numbers}
use Rattle.julian.proofs.day_number.NearestInt.{Whole, whole}
use Rattle.julian.proofs.day_number.JulianRange.{SumInRange, exact-sum, accepted-lo, accepted-hi, accepted-finite}
use Rattle.julian.proofs.day_number.Parts.{grid_numbers, on-grid}
use Rattle.julian.proofs.day_number.Pair.{AcceptedSum, off}
use Rattle.julian.proofs.day_number.PairOnGrid.{grid, grid_range}

-- where one part is 2 ^ 50 or more, the other is 2 ^ 49 or more
other : (s t : Bool) (X Y : ℕ) → SumInRange (plus-of s X + plus-of t Y) (minus-of s X + minus-of t Y) → 2 ^ 50 * L ≤ X → 2 ^ 49 * L ≤ Y
other false false X Y r h = let w : ⊥ = omega (arith, r.high, E-L, E_pos) in absurd w
other true true X Y r h = let w : ⊥ = omega (arith, r.low, E-L, E_pos) in absurd w
other false true X Y r h = omega (arith, r.high, E-L, E_pos)
other true false X Y r h = omega (arith, r.low, E-L, E_pos)

swap : (s t : Bool) (X Y : ℕ) → SumInRange (plus-of s X + plus-of t Y) (minus-of s X + minus-of t Y)
    → SumInRange (plus-of t Y + plus-of s X) (minus-of t Y + minus-of s X)
swap s t X Y r = record { high = omega (arith, r.high); low = omega (arith, r.low) }

large : (x y : Float) (s t : Bool) (X Y A B : ℕ) → HasValue x s X L → HasValue y t Y L → Rep X → Rep Y → Whole (nearest_int x) s X A → Whole
    (nearest_int y) t Y B
    → SumInRange (plus-of s X + plus-of t Y) (minus-of s X + minus-of t Y) → 2 ^ 49 * L ≤ X → 2 ^ 49 * L ≤ Y → AcceptedSum x y
large x y s t X Y A B vx vy rx ry wx wy r hx hy = go (on-grid x s X vx rx hx) (on-grid y t Y vy ry hy)
  where
    go : (P : ℕ) × (X ≡ P * C) × HasValue x s P S → (Q : ℕ) × (Y ≡ Q * C) × HasValue y t Q S → AcceptedSum x y
    go (P, e, u) (Q, d, v) =
        grid x y s t X Y P Q A B u v wx wy e d (grid_numbers P A (subst (λ (z : ℕ). Numbers z A) e wx.numbers))
        (grid_numbers Q B (subst (λ (z : ℕ). Numbers z B) d wy.numbers))
        (grid_range s t P Q (subst (λ (z : ℕ). SumInRange (plus-of s (P * C) + plus-of t z) (minus-of s (P * C) + minus-of t z)) d
        (subst (λ (z : ℕ). SumInRange (plus-of s z + plus-of t Y) (minus-of s z + minus-of t Y)) e r)))

pub accepted-pair : (x y : Float) → T (fits binary64 x) → T (fits binary64 y) → accepted x y ≡ true → AcceptedSum x y
accepted-pair x y fx fy e =
    let o = own x fx (accepted-finite x y e).0 in
    let p = own y fy (accepted-finite x y e).1 in
    let a = whole x o.sign o.size fx o.has in
    let b = whole y p.sign p.size fy p.has in
    go o.sign p.sign o.size p.size a.0 b.0 o.has p.has o.rep p.rep a.1 b.1
    (exact-sum x y (plus-of o.sign o.size) (minus-of o.sign o.size) (plus-of p.sign p.size) (minus-of p.sign p.size)
    (has-val x o.sign o.size L o.has) (has-val y p.sign p.size L p.has) (accepted-lo x y e) (accepted-hi x y e))
  where
    go : (s t : Bool) (X Y A B : ℕ) → HasValue x s X L → HasValue y t Y L → Rep X → Rep Y → Whole (nearest_int x) s X A → Whole (nearest_int y) t Y B
        → SumInRange (plus-of s X + plus-of t Y) (minus-of s X + minus-of t Y) → AcceptedSum x y
    go s t X Y A B vx vy rx ry wx wy r =
        pick (leb (2 ^ 50 * L) X) (leb→le (2 ^ 50 * L) X) (nleb→lt (2 ^ 50 * L) X) (leb (2 ^ 50 * L) Y) (leb→le (2 ^ 50 * L) Y) (nleb→lt (2 ^ 50 * L) Y)
      where
        half : (X : ℕ) → 2 ^ 50 * L ≤ X → 2 ^ 49 * L ≤ X
        half X l = omega arith

        pick : (b : Bool) → (T b → 2 ^ 50 * L ≤ X) → (T (not b) → X < 2 ^ 50 * L) → (c : Bool) → (T c → 2 ^ 50 * L ≤ Y) → (T (not c) → Y < 2 ^ 50 * L)
            → AcceptedSum x y
        pick false f g false h k = off x y s t X Y A B vx vy wx wy r (g tt) (k tt)
        pick true f g c h k = large x y s t X Y A B vx vy rx ry wx wy r (half X (f tt)) (other s t X Y r (f tt))
        pick false f g true h k = large x y s t X Y A B vx vy rx ry wx wy r (other t s Y X (swap s t X Y r) (h tt)) (half Y (h tt))
