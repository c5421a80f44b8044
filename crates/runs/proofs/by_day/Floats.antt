-- A part below 1.0 is the smaller one beside a float from 1.0 on. Assumes nothing.
use mathlib.Core.Path.{◌≡◌, refl}
use mathlib.Core.Bool.{Bool, true, false, false≢true}
use Prim.Native.Nat.{ℕ, ◌+◌, ◌<◌, ◌≤◌}
use native.Mathlib.Omega.{arith}
use lib.Dec.{T}
use lib.Ieee.{Float, nan, inf, fin, binary64, fits, lt, le, eq}
use lib.Ieee.Exact.{HasValue}
use lib.Ieee.Bits.{is_true}
use Rattle.floats.specs.Whole.{abs, nought, one}
use Rattle.rounding.specs.Value.{L}
use Rattle.rounding.proofs.Value.{L-pos, abs-has}
use Rattle.rounding.proofs.Own.{own, plus-of, minus-of}
use Rattle.rounding.proofs.Compare.{lt_true, le_true, le_show}
use Rattle.julian.proofs.day_number.Units.{one-L, nought-L}
use Rattle.julian.proofs.day_number.SignedUnits.{has-val}

below : (x y : Float) (s t : Bool) (X Y : ℕ) → HasValue x s X L → HasValue y t Y L → le one x ≡ true → le nought y ≡ true → lt y one ≡ true → Y ≤ X
below x y s t X Y h k lx ly ty = go s t (le_true L-pos one-L (has-val x s X L h) lx) (le_true L-pos nought-L (has-val y t Y L k) ly)
    (lt_true L-pos (has-val y t Y L k) one-L ty)
  where
    go : (s t : Bool) → L + minus-of s X ≤ plus-of s X + 0 → 0 + minus-of t Y ≤ plus-of t Y + 0 → plus-of t Y + 0 < L + minus-of t Y → Y ≤ X
    go false false p q r = omega arith
    go false true p q r = omega arith
    go true t p q r = let z : ⊥ = omega (arith, L-pos) in absurd z

pub first-larger : (x y : Float) → T (fits binary64 x) → T (fits binary64 y) → le one x ≡ true → le nought y ≡ true → lt y one ≡ true
    → le (abs y) (abs x) ≡ true
unfolding eq le lt abs
first-larger nan y fx fy lx ly ty = absurd (false≢true lx)
first-larger (inf true) y fx fy lx ly ty = absurd (false≢true lx)
first-larger (inf false) nan fx fy lx ly ty = absurd (false≢true ly)
first-larger (inf false) (inf true) fx fy lx ly ty = absurd (false≢true ly)
first-larger (inf false) (inf false) fx fy lx ly ty = absurd (false≢true ty)
first-larger (inf false) (fin t b i) fx fy lx ly ty = refl
first-larger (fin s a d) nan fx fy lx ly ty = absurd (false≢true ly)
first-larger (fin s a d) (inf true) fx fy lx ly ty = absurd (false≢true ly)
first-larger (fin s a d) (inf false) fx fy lx ly ty = absurd (false≢true ty)
first-larger (fin s a d) (fin t b i) fx fy lx ly ty =
    let o = own (fin s a d) fx tt in
    let p = own (fin t b i) fy tt in
    is_true (le (abs (fin t b i)) (abs (fin s a d)))
    (le_show L-pos (has-val (abs (fin t b i)) false p.size L (abs-has (fin t b i) p.sign p.size L p.has))
    (has-val (abs (fin s a d)) false o.size L (abs-has (fin s a d) o.sign o.size L o.has))
    (omega (arith, below (fin s a d) (fin t b i) o.sign p.sign o.size p.size o.has p.has lx ly ty)))
