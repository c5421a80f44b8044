-- A row's place in a list made of rows. And what is computed over the fixed table: how many rows it has, that they rise, and that the first 14 drift and no
-- other. Assumes nothing.
use Rattle.std.proofs.Common.{◌≡◌, ℕ, zero, suc, ◌+◌, ◌<◌, Bool, true, false, not, ◌&&◌, T, eqb, ltb, List, [], ◌∷◌, map, length, get_or, sym, refl, ◌∙◌, subst}
use Rattle.std.proofs.Common.{le_of_suc-le-suc, not-suc-le-zero, add-zero, add-suc, suc-add, zero-add}
use mathlib.Core.Bool.{beq}
use lib.Ieee.Fits.{and_l, and_r}
use Rattle.leap_table.specs.rows.Table.{Row, fixed, none, starts, rising, fixed_rows}

-- what stands at place i of the list made by f is f of the row at place i
pub place : {A : Type 0} (f : Row → A) (a : A) (rows : List Row) (i : ℕ) → i < length rows → get_or (map f rows) i a ≡ f (get_or rows i none)
place f a [] i h = absurd (not-suc-le-zero h)
place f a (r ∷ rows) zero h = refl
place f a (r ∷ rows) (suc i) h = place f a rows i (le_of_suc-le-suc h)

pub fixed-length : length fixed ≡ fixed_rows
unfolding fixed
fixed-length = refl

pub fixed-rises : T (rising (starts fixed))
unfolding fixed
fixed-rises = tt

-- ---- a test of each row and its place, computed over the whole table
abbrev pub every : (ℕ → Row → Bool) → ℕ → List Row → Bool
every f i [] = true
every f i (r ∷ rows) = f i r && every f (suc i) rows

from : (f : ℕ → Row → Bool) (rows : List Row) (i : ℕ) → T (every f i rows) → (k : ℕ) → k < length rows → T (f (i + k) (get_or rows k none))
from f [] i t k h = absurd (not-suc-le-zero h)
from f (r ∷ rows) i t zero h = subst (λ (m : ℕ). T (f m r)) (sym (add-zero i)) (and_l (f i r) (every f (suc i) rows) t)
from f (r ∷ rows) i t (suc k) h =
    subst (λ (m : ℕ). T (f m (get_or rows k none))) (suc-add i k ∙ sym (add-suc i k))
    (from f rows (suc i) (and_r (f i r) (every f (suc i) rows) t) k (le_of_suc-le-suc h))

pub at : (f : ℕ → Row → Bool) (rows : List Row) → T (every f 0 rows) → (k : ℕ) → k < length rows → T (f k (get_or rows k none))
at f rows t k h = subst (λ (m : ℕ). T (f m (get_or rows k none))) (zero-add k) (from f rows 0 t k h)

-- the rows of places 0 to 13 drift, and no other
drift_test : ℕ → Row → Bool
drift_test k r = beq (ltb k 14) (not (eqb r.rate 0))

same : (a b : Bool) → T (beq a (not b)) → b ≡ not a
same true true t = absurd t
same true false t = refl
same false true t = refl
same false false t = absurd t

pub drifts : (k : ℕ) → k < fixed_rows → eqb (get_or fixed k none).rate 0 ≡ not (ltb k 14)
unfolding fixed drift_test
drifts k h = same (ltb k 14) (eqb (get_or fixed k none).rate 0) (at drift_test fixed tt k h)
