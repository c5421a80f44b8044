-- Tests that are computed: of every number below a bound, and whether two floats are the same one.
-- Assumes nothing.
use mathlib.Core.Path.{◌≡◌, refl, ap, sym, subst}
use mathlib.Core.Bool.{Bool, true, false}
use Prim.Native.Nat.{ℕ, zero, suc, ◌<◌}
use native.Mathlib.Omega.{arith}
use native.Mathlib.Nat.{not-suc-le-zero}
use borrow.Author.Tests.{eqb-true, eqb-false}
use lib.Dec.{T, eqb}
use lib.IntN.{ℤ, pos, negsuc}
use lib.Ieee.{Float, nan, inf, fin}
use lib.Ieee.Bits.{is_true}

-- a, and then b, which is not looked at where a is false
abbrev pub then : Bool → Bool → Bool
then a b = elim a [ true ↦ b | false ↦ false ]

pub then_left : (a b : Bool) → T (then a b) → T a
then_left true b t = tt
then_left false b t = t

pub then_right : (a b : Bool) → T (then a b) → T b
then_right true b t = t
then_right false b t = absurd t

abbrev pub every : (ℕ → Bool) → ℕ → Bool
every f zero = true
every f (suc n) = elim (f n) [ true ↦ every f n | false ↦ false ]

below : (k n : ℕ) → k < suc n → (k ≡ n → ⊥) → k < n
below k n h e = omega arith

pub each : (f : ℕ → Bool) (n k : ℕ) → k < n → T (every f n) → T (f k)
each f zero k h t = absurd (not-suc-le-zero h)
each f (suc n) k h t = go (eqb k n) refl (λ l. each f n k l (then_right (f n) (every f n) t))
  where
    go : (b : Bool) → eqb k n ≡ b → (k < n → T (f k)) → T (f k)
    go true e i = subst (λ (m : ℕ). T (f m)) (sym (eqb-true k n e)) (then_left (f n) (every f n) t)
    go false e i = i (below k n h (eqb-false k n e))

-- ---- the same float
abbrev same_sign : Bool → Bool → Bool
same_sign true true = true
same_sign true false = false
same_sign false true = false
same_sign false false = true

abbrev same_z : ℤ → ℤ → Bool
same_z (pos a) (pos b) = eqb a b
same_z (pos a) (negsuc b) = false
same_z (negsuc a) (pos b) = false
same_z (negsuc a) (negsuc b) = eqb a b

abbrev pub same_f : Float → Float → Bool
same_f nan y = false
same_f (inf s) y = false
same_f (fin s m e) nan = false
same_f (fin s m e) (inf t) = false
same_f (fin s m e) (fin t n d) = then (same_sign s t) (then (eqb m n) (same_z e d))

same_sign_lem : (s t : Bool) → T (same_sign s t) → s ≡ t
same_sign_lem true true h = refl
same_sign_lem true false h = absurd h
same_sign_lem false true h = absurd h
same_sign_lem false false h = refl

same-z : (a b : ℤ) → T (same_z a b) → a ≡ b
same-z (pos a) (pos b) h = ap pos (eqb-true a b (is_true (eqb a b) h))
same-z (pos a) (negsuc b) h = absurd h
same-z (negsuc a) (pos b) h = absurd h
same-z (negsuc a) (negsuc b) h = ap negsuc (eqb-true a b (is_true (eqb a b) h))

pub same_float : (x y : Float) → T (same_f x y) → x ≡ y
same_float nan y h = absurd h
same_float (inf s) y h = absurd h
same_float (fin s m e) nan h = absurd h
same_float (fin s m e) (inf t) h = absurd h
same_float (fin s m e) (fin t n d) h =
    let r = then_right (same_sign s t) (then (eqb m n) (same_z e d)) h in
    let p = same_sign_lem s t (then_left (same_sign s t) (then (eqb m n) (same_z e d)) h) in
    let q = eqb-true m n (is_true (eqb m n) (then_left (eqb m n) (same_z e d) r)) in
    let o = same-z e d (then_right (eqb m n) (same_z e d) r) in
    (λ i. fin (p i) (q i) (o i))
