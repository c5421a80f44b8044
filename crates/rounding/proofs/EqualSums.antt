-- Sums of equal floats are both finite or both not. Equal floats need not be one float: a -0.0 equals a 0.0, and a `Float` of no format has more than one form.
-- Assumes nothing.
use mathlib.Core.Path.{◌≡◌, refl, sym, ap, ◌∙◌, subst}
use Prim.Native.Nat.{ℕ, zero, suc, ◌+◌, ◌*◌, ◌^◌, ◌<◌}
use native.Mathlib.Nat.{mul_comm, mul-pos}
use native.Mathlib.Omega.{arith}
use mathlib.Core.Bool.{Bool, true, false, cond, true≢false}
use lib.Dec.{T, ltb}
use lib.IntN.{ℤ}
use lib.Ieee.{Float, nan, inf, fin, Format, binary64, prec, low, emax, up, down, round, units, odd, add, eq}
use lib.Ieee.Fits.{down_pos, round_is}
use lib.Ieee.Order.{kept, drop}
use lib.Ieee.Scale.{finite}
use borrow.Author.Tests.{eqb-true}
use Rattle.std.proofs.lemmas.Float.{floats_per}
use Rattle.rounding.specs.Value.{Signed, Val, Rounds}
use Rattle.rounding.proofs.Signed.{plus-of, minus-of, signed_of}
use Rattle.rounding.proofs.Value.{val-scale, add_rounds}
use Rattle.rounding.proofs.Compare.{eq_val}
use Rattle.rounding.proofs.TwoSumFinite.{add_finite_parts}
use Rattle.floats.proofs.Fields.{same_test}

-- ---- whether a rounding overflows does not depend on its sign
by_test : (b s t : Bool) (x y : Float) → finite x ≡ finite y → finite (cond b x (inf s)) ≡ finite (cond b y (inf t))
by_test true s t x y e = e
by_test false s t x y e = refl

odd_sign : (d : ℕ) (s t : Bool) (q k l : ℕ) → finite (odd d s q k l) ≡ finite (odd d t q k l)
unfolding odd
odd_sign d s t zero k l = refl
odd_sign d s t (suc q) k l = refl

units_sign : (f : Format) (s t : Bool) (q k : ℕ) → finite (units f s q k) ≡ finite (units f t q k)
unfolding units
units_sign f s t q k =
    by_test (ltb (q * 2 ^ k) (2 ^ (low f + suc (emax f)))) s t (odd (suc (prec f)) s q k (low f)) (odd (suc (prec f)) t q k (low f))
    (odd_sign (suc (prec f)) s t q k (low f))

round-sign : (f : Format) (s t : Bool) (a c : ℕ) → finite (round f s a c) ≡ finite (round f t a c)
round-sign f s t a c =
    ap finite (round_is f s a c) ∙ units_sign f s t (kept (prec f) (a * 2 ^ low f) c) (drop (prec f) (a * 2 ^ low f) c)
    ∙ sym (ap finite (round_is f t a c))

-- so one number, rounded, is finite or not
rounded-alike : {f : Format} {x y : Float} {P N Q M D : ℕ} → Rounds f x P N D → Rounds f y Q M D → P + M ≡ Q + N → finite x ≡ finite y
rounded-alike {f} {P = P} {N} {Q} {M} {D} r s e =
    ap finite r.eq ∙ round-sign f r.sign s.sign r.size D ∙ ap (λ (a : ℕ). finite (round f s.sign a D)) (sizes r.sign s.sign r.size s.size r.is s.is)
    ∙ sym (ap finite s.eq)
  where
    sizes : (a b : Bool) (A B : ℕ) → Signed a A P N → Signed b B Q M → A ≡ B
    sizes false false A B h k = omega arith
    sizes false true A B h k = omega arith
    sizes true false A B h k = omega arith
    sizes true true A B h k = omega arith

-- ---- two finite floats over one denominator
record Two (x y : Float) : Type 0 where
  pub p : ℕ
  pub n : ℕ
  pub q : ℕ
  pub m : ℕ
  pub d : ℕ
  pub above : 0 < d
  pub first : Val x p n d
  pub second : Val y q m d

own : (s : Bool) (a : ℕ) (e : ℤ) → Val (fin s a e) (plus-of s (a * up e)) (minus-of s (a * up e)) (down e)
own s a e = record { sign = s; size = a * up e; has = (refl, refl); is = signed_of s (a * up e) }

over_one : {x y : Float} {p n q m c d : ℕ} → 0 < c → 0 < d → Val x p n c → Val y q m d → Two x y
over_one {y = y} {p} {n} {q} {m} {c} {d} h k v w = record {
  p = p * d;
  n = n * d;
  q = q * c;
  m = m * c;
  d = c * d;
  above = mul-pos h k;
  first = val-scale d v;
  second = subst (Val y (q * c) (m * c)) (mul_comm d c) (val-scale c w);
}

two : (x y : Float) → T (finite x) → T (finite y) → Two x y
two nan y h k = absurd h
two (inf s) y h k = absurd h
two (fin s a e) nan h k = absurd k
two (fin s a e) (inf t) h k = absurd k
two (fin s a e) (fin t b g) h k = over_one (down_pos e) (down_pos g) (own s a e) (own t b g)

-- ---- sums of equal floats are both finite or both not
equal_finite : (x y : Float) → eq x y ≡ true → T (finite x) → T (finite y)
unfolding eq
equal_finite nan y e h = absurd h
equal_finite (inf s) y e h = absurd h
equal_finite (fin s a e') nan e h = absurd (true≢false (sym e))
equal_finite (fin s a e') (inf t) e h = absurd (true≢false (sym e))
equal_finite (fin s a e') (fin t b g) e h = tt

module _ (a b c d : Float) (e : eq a b ≡ true) (g : eq c d ≡ true) where
  alike : Two a c → Two b d → finite (add binary64 a c) ≡ finite (add binary64 b d)
  alike x y =
      let v : Val b (y.p * x.d) (y.n * x.d) (x.d * y.d) = subst (Val b (y.p * x.d) (y.n * x.d)) (mul_comm y.d x.d) (val-scale x.d y.first) in
      let w : Val d (y.q * x.d) (y.m * x.d) (x.d * y.d) = subst (Val d (y.q * x.d) (y.m * x.d)) (mul_comm y.d x.d) (val-scale x.d y.second) in
      let above = mul-pos x.above y.above in
      let i : x.p * y.d + y.n * x.d ≡ y.p * x.d + x.n * y.d = eqb-true _ _ (sym (eq_val above (val-scale y.d x.first) v) ∙ e) in
      let j : x.q * y.d + y.m * x.d ≡ y.q * x.d + x.m * y.d = eqb-true _ _ (sym (eq_val above (val-scale y.d x.second) w) ∙ g) in
      rounded-alike (add_rounds binary64 above (val-scale y.d x.first) (val-scale y.d x.second)) (add_rounds binary64 above v w) (omega arith)

  forth : T (finite (add binary64 a c)) → T (finite (add binary64 b d))
  forth h =
      let p = add_finite_parts a c h in
      subst T (alike (two a c p.0 p.1) (two b d (equal_finite a b e p.0) (equal_finite c d g p.1))) h

turned : (a b : Float) → eq a b ≡ true → eq b a ≡ true
turned a b e = floats_per.symm b a ∙ e

pub equal-sums-finite : (a b c d : Float) → eq a b ≡ true → eq c d ≡ true → finite (add binary64 a c) ≡ finite (add binary64 b d)
equal-sums-finite a b c d e g =
    same_test (finite (add binary64 a c)) (finite (add binary64 b d)) (forth a b c d e g) (forth b a d c (turned a b e) (turned c d g))
