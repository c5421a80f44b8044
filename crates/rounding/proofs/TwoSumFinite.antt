-- Knuth's two-sum of any two finite f64 whose sum and error come out finite: nothing in between has overflowed, and sum + error is a + b exactly. Assumes
-- nothing.
use mathlib.Core.Path.{sym, subst}
use Prim.Native.Nat.{ℕ, ◌+◌, ◌*◌, ◌^◌, ◌<◌}
use native.Mathlib.Omega.{arith}
use native.Mathlib.Nat.{lt_of_le_of_lt, le_of_eq}
use mathlib.Core.Bool.{Bool, true, false, cond, beq}
use lib.Dec.{T, ltb, ltb→lt}
use lib.Ieee.{Float, nan, inf, fin, binary64, round, units, odd, neg, add, sub}
use lib.Ieee.Exact.{HasValue}
use lib.Ieee.Fits.{round_is}
use lib.Ieee.Order.{drop, kept}
use lib.Ieee.Scale.{overflow, finite}
use Rattle.rounding.specs.Value.{Signed, Val, Rounds, L}
use Rattle.rounding.proofs.Value.{add_rounds, sub_rounds, L-pos}
use Rattle.rounding.proofs.Own.{Rep}
use Rattle.rounding.proofs.Optimal.{step}
use Rattle.rounding.proofs.Relative.{grid_step, step-has}
use Rattle.rounding.proofs.Nearest.{RN}
use Rattle.rounding.proofs.TwoSum.{dist, two-sum}
use Rattle.rounding.proofs.TwoSumFloat.{Exact, two-sum-error}

-- ---- what a finite result says of its operands
pub add_finite_parts : (x y : Float) → T (finite (add binary64 x y)) → T (finite x) × T (finite y)
unfolding add
add_finite_parts nan y h = absurd h
add_finite_parts (inf s) nan h = absurd h
add_finite_parts (inf s) (inf t) h = go (beq s t) h
  where
    go : (b : Bool) → T (finite (cond b (inf s) nan)) → ⊥ × ⊥
    go true h = absurd h
    go false h = absurd h
add_finite_parts (inf s) (fin t n d) h = absurd h
add_finite_parts (fin s m e) nan h = absurd h
add_finite_parts (fin s m e) (inf t) h = absurd h
add_finite_parts (fin s m e) (fin t n d) h = (tt, tt)

neg_finite : (x : Float) → T (finite (neg x)) → T (finite x)
unfolding neg
neg_finite nan h = h
neg_finite (inf s) h = h
neg_finite (fin s m e) h = tt

pub sub_finite_parts : (x y : Float) → T (finite (sub binary64 x y)) → T (finite x) × T (finite y)
unfolding sub
sub_finite_parts x y h = let p = add_finite_parts x (neg y) h in (p.0, neg_finite y p.1)

-- ---- a result that is finite has not overflowed
not_over : (s : Bool) (q k : ℕ) → T (finite (units binary64 s q k)) → q * 2 ^ k < overflow binary64
unfolding units
not_over s q k = go (ltb (q * 2 ^ k) (overflow binary64)) (ltb→lt (q * 2 ^ k) (overflow binary64))
  where
    go : (b : Bool) → (T b → q * 2 ^ k < overflow binary64) → T (finite (cond b (odd 54 s q k 1074) (inf s))) → q * 2 ^ k < overflow binary64
    go true h t = h tt
    go false h t = absurd t

finite-step : (s : Bool) (a : ℕ) → T (finite (round binary64 s a L)) → step a < 2 ^ 2098
finite-step s a h =
    lt_of_le_of_lt (le_of_eq (sym (grid_step a)))
    (not_over s (kept 53 (a * 2 ^ 1074) L) (drop 53 (a * 2 ^ 1074) L) (subst (λ (z : Float). T (finite z)) (round_is binary64 s a L) h))

-- z is (p - n) / L, which is (P - N) / L rounded
record RoundedTo (z : Float) (P N : ℕ) : Type 0 where
  p : ℕ
  n : ℕ
  val : Val z p n L
  rn : RN P N p n

rounded_to : {z : Float} {P N : ℕ} → T (finite z) → Rounds binary64 z P N L → RoundedTo z P N
rounded_to {z} {P} {N} f r =
    go r.sign
    (subst (λ (x : Float). HasValue x r.sign (step r.size) L) (sym r.eq)
    (step-has r.sign r.size (finite-step r.sign r.size (subst (λ (x : Float). T (finite x)) r.eq f))))
    r.is
  where
    go : (s : Bool) → HasValue z s (step r.size) L → Signed s r.size P N → RoundedTo z P N
    go false h i = record {
      p = step r.size;
      n = 0;
      val = record { sign = false; size = step r.size; has = h; is = omega arith };
      rn =
          record { sign = false; size = r.size; is = i; to = omega arith };
    }
    go true h i = record {
      p = 0;
      n = step r.size;
      val = record { sign = true; size = step r.size; has = h; is = omega arith };
      rn =
          record { sign = true; size = r.size; is = i; to = omega arith };
    }

-- ---- the law
pub two-sum-finite : (a b : Float) (p n q m : ℕ) → Val a p n L → Val b q m L → Rep (dist p n) → Rep (dist q m)
    → T (finite (add binary64 a b)) → T (finite (two-sum-error a b)) → Exact (add binary64 a b) (two-sum-error a b) (p + q) (n + m)
two-sum-finite a b p n q m va vb ra rb fs fe =
    let sum = add binary64 a b in
    let bb = sub binary64 sum a in
    let cd = add_finite_parts (sub binary64 a (sub binary64 sum bb)) (sub binary64 b bb) fe in
    let w = sub_finite_parts a (sub binary64 sum bb) cd.0 in
    let v = sub_finite_parts sum bb w.1 in
    let xs = rounded_to {z = sum} fs (add_rounds binary64 L-pos va vb) in
    let xv = rounded_to {z = bb} v.1 (sub_rounds binary64 L-pos xs.val va) in
    let xw = rounded_to {z = sub binary64 sum bb} w.1 (sub_rounds binary64 L-pos xs.val xv.val) in
    let xc = rounded_to {z = sub binary64 a (sub binary64 sum bb)} cd.0 (sub_rounds binary64 L-pos va xw.val) in
    let xd = rounded_to {z = sub binary64 b bb} cd.1 (sub_rounds binary64 L-pos vb xv.val) in
    let xe = rounded_to {z = two-sum-error a b} fe (add_rounds binary64 L-pos xc.val xd.val) in
    record {
      sp = xs.p;
      sn = xs.n;
      ep = xe.p;
      en = xe.n;
      sum = xs.val;
      err = xe.val;
      total = two-sum p n q m xs.p xs.n xv.p xv.n xw.p xw.n xc.p xc.n xd.p xd.n xe.p xe.n ra rb xs.rn xv.rn xw.rn
          xc.rn xd.rn xe.rn;
    }
