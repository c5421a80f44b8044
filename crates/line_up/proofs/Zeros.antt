-- The places of the numbers that are 0. Assumes nothing.
use Prim.Native.Nat.{ℕ, zero, suc, ◌+◌, ◌<◌, ◌≤◌}
use native.Mathlib.Omega.{arith}
use mathlib.Core.Path.{◌≡◌, refl, sym, ap, ◌∙◌}
use mathlib.Core.Bool.{Bool, true, false, cond}
use mathlib.Core.List.{List, [], ◌∷◌, ◌++◌}
use lib.Dec.{eqb}
use lib.ListN.{length, get_or, take, drop, take-append-drop}
use lib.Seq.{slice, take-take, drop-append-le, length-take-le}
use borrow.Author.Tests.{eq-eqb, ne_eqb}
use Rattle.line_up.specs.Runs.{zeros, times_in}
use Rattle.line_up.proofs.Merges.{Under, From}

-- ---- their bounds

pub from_less : {a b : ℕ} → a ≤ b → (xs : List ℕ) → From b xs → From a xs
from_less h [] f = tt
from_less h (x ∷ xs) f = (omega (arith, h, f.0), from_less h xs f.1)

from-pick : (t : Bool) (i : ℕ) (xs : List ℕ) → From (suc i) xs → From i (cond t (i ∷ xs) xs)
from-pick true i xs f = (omega arith, from_less (omega arith) xs f)
from-pick false i xs f = from_less (omega arith) xs f

pub zeros-from : (i : ℕ) (ms : List ℕ) → From i (zeros i ms)
unfolding zeros
zeros-from i [] = tt
zeros-from i (m ∷ ms) = from-pick (eqb m 0) i (zeros (suc i) ms) (zeros-from (suc i) ms)

under-choose : (t : Bool) (i b : ℕ) (xs : List ℕ) → i < b → Under b xs → Under b (cond t (i ∷ xs) xs)
under-choose true i b xs h u = (h, u)
under-choose false i b xs h u = u

pub zeros-under : (i b : ℕ) (ms : List ℕ) → i + length ms ≤ b → Under b (zeros i ms)
unfolding zeros
zeros-under i b [] h = tt
zeros-under i b (m ∷ ms) h = under-choose (eqb m 0) i b (zeros (suc i) ms) (omega arith) (zeros-under (suc i) b ms (omega arith))

length-choose : (t : Bool) (i n : ℕ) (xs : List ℕ) → length xs ≤ n → length (cond t (i ∷ xs) xs) ≤ suc n
length-choose true i n xs h = omega arith
length-choose false i n xs h = omega arith

pub length-zeros : (i : ℕ) (ms : List ℕ) → length (zeros i ms) ≤ length ms
unfolding zeros
length-zeros i [] = omega arith
length-zeros i (m ∷ ms) = length-choose (eqb m 0) i (length ms) (zeros (suc i) ms) (length-zeros (suc i) ms)

-- ---- how often a place stands there

pub times_in-below : (p b : ℕ) (xs : List ℕ) → p < b → From b xs → times_in p xs ≡ 0
unfolding times_in
times_in-below p b [] h f = refl
times_in-below p b (x ∷ xs) h f = rw (ne_eqb p x (λ e. omega (arith, e, h, f.0))) (omega (arith, times_in-below p b xs h f.1))

times_in-here : (t : Bool) (i p : ℕ) (xs : List ℕ) → p ≡ i → times_in p xs ≡ 0 → times_in p (cond t (i ∷ xs) xs) ≡ cond t 1 0
unfolding times_in
times_in-here true i p xs e h = rw (eq-eqb p i e, h)
times_in-here false i p xs e h = h

times_in-past : (t : Bool) (i p : ℕ) (xs : List ℕ) → i < p → times_in p (cond t (i ∷ xs) xs) ≡ times_in p xs
unfolding times_in
times_in-past true i p xs h = rw (ne_eqb p i (λ e. omega (arith, e, h))) (omega arith)
times_in-past false i p xs h = refl

-- once if its number is 0, and never otherwise; past the end the number is read as 1
pub times_in-zeros : (i j : ℕ) (ms : List ℕ) → times_in (i + j) (zeros i ms) ≡ cond (eqb (get_or ms j 1) 0) 1 0
unfolding zeros times_in
times_in-zeros i j [] = refl
times_in-zeros i zero (m ∷ ms) =
    times_in-here (eqb m 0) i (i + zero) (zeros (suc i) ms) (omega arith)
    (times_in-below (i + zero) (suc i) (zeros (suc i) ms) (omega arith) (zeros-from (suc i) ms))
times_in-zeros i (suc j) (m ∷ ms) =
    times_in-past (eqb m 0) i (i + suc j) (zeros (suc i) ms) (omega arith)
    ∙ ap (λ (p : ℕ). times_in p (zeros (suc i) ms)) (let e : i + suc j ≡ suc i + j = omega arith in e)
    ∙ times_in-zeros (suc i) j ms

-- ---- two parts of a list, one after the other

pub times_in-append : (p : ℕ) (xs ys : List ℕ) → times_in p (xs ++ ys) ≡ times_in p xs + times_in p ys
unfolding times_in
times_in-append p [] ys = omega arith
times_in-append p (x ∷ xs) ys = omega (arith, times_in-append p xs ys)

append_choose : (t : Bool) (i : ℕ) (xs ys zs : List ℕ) → xs ≡ ys ++ zs → cond t (i ∷ xs) xs ≡ cond t (i ∷ ys) ys ++ zs
append_choose true i xs ys zs e = ap (λ (l : List ℕ). i ∷ l) e
append_choose false i xs ys zs e = e

pub zeros-append : (i j : ℕ) (xs ys : List ℕ) → i + length xs ≡ j → zeros i (xs ++ ys) ≡ zeros i xs ++ zeros j ys
unfolding zeros
zeros-append i j [] ys h = ap (λ (k : ℕ). zeros k ys) (let e : i ≡ j = omega arith in e)
zeros-append i j (x ∷ xs) ys h =
    append_choose (eqb x 0) i (zeros (suc i) (xs ++ ys)) (zeros (suc i) xs) (zeros j ys) (zeros-append (suc i) j xs ys (omega arith))

pub slice_split : (f t u : ℕ) (l : List ℕ) → f ≤ t → t ≤ u → u ≤ length l → slice f u l ≡ slice f t l ++ slice t u l
slice_split f t u l h k m =
    let e : take t (take u l) ≡ take t l = take-take t u l k in
    let d : f ≤ length (take t l) = rw (length-take-le t l (omega arith)) h in
    ap (drop f) (sym (take-append-drop t (take u l)) ∙ ap (λ (x : List ℕ). x ++ drop t (take u l)) e) ∙ drop-append-le f (take t l) (drop t (take u l)) d
