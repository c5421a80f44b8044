-- THE COUNTS: each stamp of a run is of one of the four kinds, so the counts of not finite, refused, left out and ordered add up to its stamps. Assumes
-- nothing.
use Rattle.std.proofs.Common.{◌≡◌, ℕ, zero, suc, ◌+◌, Bool, true, false, cond, eqb, List, get_or, refl, arith}
use Rattle.line_listing.specs.head.Counts.{not_finite, kind_at, kinds_in}

abbrev four : ℕ → ℕ
four k = cond (eqb k 0) 1 0 + cond (eqb k 1) 1 0 + cond (eqb k 2) 1 0 + cond (eqb k 3) 1 0

one-kind : (a b c : Bool) → four (cond a 0 (cond b 3 (cond c 1 2))) ≡ 1
one-kind true b c = refl
one-kind false true c = refl
one-kind false false true = refl
one-kind false false false = refl

kind_once : (js ks ns : List ℕ) (p : ℕ) → four (kind_at js ks ns p) ≡ 1
unfolding kind_at
kind_once js ks ns p = one-kind (eqb (get_or ns p 0) 0) (eqb (get_or ns p 0) 17) (not_finite js ks p)

sums : (a b c d x y z w m n : ℕ) → a + b + c + d ≡ n → x + y + z + w ≡ 1 → (a + x) + (b + y) + (c + z) + (d + w) ≡ suc n
sums a b c d x y z w m n e f = omega arith

-- NOT FINITE, REFUSED, LEFT OUT AND ORDERED are all
pub counts_all : (js ks ns : List ℕ) (from n : ℕ)
    → kinds_in js ks ns 0 from n + kinds_in js ks ns 1 from n + kinds_in js ks ns 2 from n + kinds_in js ks ns 3 from n ≡ n
unfolding kinds_in
counts_all js ks ns from zero = refl
counts_all js ks ns from (suc n) = sums (kinds_in js ks ns 0 from n) (kinds_in js ks ns 1 from n) (kinds_in js ks ns 2 from n) (kinds_in js ks ns 3 from n)
    _ _ _ _ 0 n (counts_all js ks ns from n) (kind_once js ks ns (from + n))
