-- A place of a block is accepted or not, and stands in one of the two lists. Assumes nothing.
use Prim.Native.Nat.{ℕ, zero, suc, ◌+◌, ◌<◌, ◌≤◌}
use native.Mathlib.Omega.{arith}
use mathlib.Core.Path.{◌≡◌, refl, ap, ◌∙◌}
use mathlib.Core.Bool.{Bool, true, false, cond}
use mathlib.Core.List.{List, [], ◌∷◌, ◌++◌, map}
use lib.Dec.{eqb, ltb}
use lib.ListN.{length, get_or, get_or-map, get_or-eq_default}
use borrow.Author.Tests.{ltb-true, ltb-false}
use Rattle.line_up.specs.Runs.{zeros, times_in}
use Rattle.line_up.specs.laws.Claims.{not_in_line, zeros_in}
use Rattle.line_up.proofs.Zeros.{times_in-zeros}

abbrev flip : ℕ → ℕ
flip m = cond (eqb m 0) 1 0

flip_choose : (t : Bool) (i : ℕ) (xs ys : List ℕ) → xs ≡ ys → cond t xs (i ∷ xs) ≡ cond (eqb (cond t 1 0) 0) (i ∷ ys) ys
flip_choose true i xs ys e = e
flip_choose false i xs ys e = ap (λ (l : List ℕ). i ∷ l) e

not_in_line-is : (i : ℕ) (ms : List ℕ) → not_in_line i ms ≡ zeros i (map flip ms)
unfolding not_in_line zeros
not_in_line-is i [] = refl
not_in_line-is i (m ∷ ms) = flip_choose (eqb m 0) i (not_in_line (suc i) ms) (zeros (suc i) (map flip ms)) (not_in_line-is (suc i) ms)

flip_bit : (t : Bool) → ◌≡◌ {A = ℕ} (cond (eqb (cond t 1 0) 0) 1 0) (cond t 0 1)
flip_bit true = refl
flip_bit false = refl

-- past the end the number is read as 0
pub times_in-not_in_line : (p : ℕ) (ms : List ℕ) → times_in p (not_in_line 0 ms) ≡ cond (eqb (get_or ms p 0) 0) 0 1
times_in-not_in_line p ms =
    let e : p ≡ 0 + p = omega arith in
    ap (times_in p) (not_in_line-is 0 ms)
    ∙ ap (λ (k : ℕ). times_in k (zeros 0 (map flip ms))) e
    ∙ times_in-zeros 0 p (map flip ms)
    ∙ ap (λ (m : ℕ). cond (eqb m 0) 1 0) (get_or-map flip ms p 0)
    ∙ flip_bit (eqb (get_or ms p 0) 0)

pub any_default : (l : List ℕ) (j d e : ℕ) → j < length l → get_or l j d ≡ get_or l j e
any_default [] j d e h = let z : ⊥ = omega arith in absurd z
any_default (x ∷ xs) zero d e h = refl
any_default (x ∷ xs) (suc j) d e h = any_default xs j d e (omega arith)

bits : (t : Bool) → ◌≡◌ {A = ℕ} (cond t 1 0 + cond t 0 1) 1
bits true = refl
bits false = refl

once-in : (t : Bool) (p : ℕ) (ms : List ℕ) → ltb p (length ms) ≡ t → cond (eqb (get_or ms p 1) 0) 1 0 + cond (eqb (get_or ms p 0) 0) 0 1 ≡ cond t 1 0
once-in true p ms h = rw (any_default ms p 1 0 (ltb-true p (length ms) h)) (bits (eqb (get_or ms p 0) 0))
once-in false p ms h =
    let k : length ms ≤ p = ltb-false p (length ms) h in
    rw (get_or-eq_default ms 1 {n = p} k, get_or-eq_default ms 0 {n = p} k)

pub two-lists : (p : ℕ) (ms : List ℕ) → cond (eqb (get_or ms p 1) 0) 1 0 + times_in p (not_in_line 0 ms) ≡ cond (ltb p (length ms)) 1 0
two-lists p ms = ap (λ (k : ℕ). cond (eqb (get_or ms p 1) 0) 1 0 + k) (times_in-not_in_line p ms) ∙ once-in (ltb p (length ms)) p ms refl

-- ---- as many places as numbers that are 0

length-one : (t : Bool) (i n : ℕ) (xs : List ℕ) → length xs ≡ n → length (cond t (i ∷ xs) xs) ≡ cond t 1 0 + n
length-one true i n xs h = omega arith
length-one false i n xs h = omega arith

pub zeros-counted : (i : ℕ) (ms : List ℕ) → length (zeros i ms) ≡ zeros_in ms
unfolding zeros zeros_in
zeros-counted i [] = refl
zeros-counted i (m ∷ ms) = length-one (eqb m 0) i (zeros_in ms) (zeros (suc i) ms) (zeros-counted (suc i) ms)

pub zeros_in-append : (ms ns : List ℕ) → zeros_in (ms ++ ns) ≡ zeros_in ms + zeros_in ns
unfolding zeros_in
zeros_in-append [] ns = omega arith
zeros_in-append (m ∷ ms) ns = omega (arith, zeros_in-append ms ns)
