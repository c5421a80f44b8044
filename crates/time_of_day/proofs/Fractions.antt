-- A fraction of a day and a leap as fractions of whole numbers, and what two ways to write one value have in common. Assumes nothing.
use mathlib.Core.Path.{◌≡◌, refl, sym, ap, ◌∙◌, subst}
use Prim.Native.Nat.{ℕ, ◌+◌, ◌-◌, ◌*◌, ◌≤◌, ◌<◌}
use native.Mathlib.Nat.{le_of_eq, mul_right_comm, mul-one, one-mul, le_of_mul-le-mul_right, le_antisymm, zero-mul, add-zero}
use native.Mathlib.Omega.{arith}
use mathlib.Core.Bool.{Bool, true, false, cond}
use lib.Dec.{T, leb→le}
use lib.Ieee.{Float, nan, inf, fin, binary64, down, of_bits, up, lt, le, eq, fits}
use lib.Ieee.Fits.{down_pos}
use lib.Ieee.Exact.{HasValue}
use lib.Ieee.Scale.{finite}
use Rattle.floats.specs.Whole.{abs, nought, one}
use Rattle.rounding.specs.Value.{Signed, Val, L, InUnit}
use Rattle.rounding.proofs.Value.{val-move, L-pos}
use Rattle.rounding.proofs.Own.{Own, own, own_val, plus-of, minus-of, signed_of}
use Rattle.rounding.proofs.Compare.{lt_says, le_val, le_show, lt_show}
use Rattle.time_of_day.specs.Milliseconds.{whole_leap}
use Rattle.time_of_day.specs.ExactTime.{minus_one_f, Leap, little, second, first, minus_second}

pub le_says : {x y : Float} {p n q m D : ℕ} → 0 < D → Val x p n D → Val y q m D → T (le x y) → p + m ≤ q + n
le_says {x} {y} {p} {n} {q} {m} E v w t = leb→le (p + m) (q + n) (subst T (le_val E v w) t)

pub zero_val : (D : ℕ) → Val nought 0 0 D
unfolding of_bits
zero_val D = record { sign = false; size = 0; has = (refl, zero-mul D ∙ sym (zero-mul 1)); is = refl }

pub one-val : (D : ℕ) → Val one D 0 D
unfolding of_bits
one-val D = record { sign = false; size = D; has = (refl, one-mul D ∙ sym (mul-one D)); is = add-zero D }

pub minus-one-val : (D : ℕ) → Val minus_one_f 0 D D
unfolding of_bits
minus-one-val D = record { sign = true; size = D; has = (refl, one-mul D ∙ sym (mul-one D)); is = add-zero D }

fraction-finite : (x : Float) → InUnit x → T (finite x)
unfolding of_bits le lt eq
fraction-finite nan h = absurd h.low
fraction-finite (inf true) h = absurd h.low
fraction-finite (inf false) h = absurd h.high
fraction-finite (fin s m e) h = tt

-- a fraction in units of 2 ^ -1074
pub record AsUnits (x : Float) : Type 0 where
  pub F : ℕ
  pub val : Val x F 0 L
  pub most : F < L

pub in_units : (x : Float) → T (fits binary64 x) → InUnit x → AsUnits x
in_units x f h = go (plus-of o.sign o.size) (minus-of o.sign o.size) (own_val x o)
  where
    o : Own x
    o = own x f (fraction-finite x h)

    go : (p n : ℕ) → Val x p n L → AsUnits x
    go p n v =
        let a : 0 + n ≤ p + 0 = le_says L-pos (zero_val L) v h.low in
        let b : p + 0 < L + n = lt_says L-pos v (one-val L) h.high in
        record { F = p - n; val = val-move v (omega arith); most = omega arith }

-- what a value says of a fraction, as the calendar's theorems give it
pub fraction-of : (x : Float) (F D : ℕ) → 0 < D → Val x F 0 D → F < D → InUnit x
fraction-of x F D h v l = record { low = le_show h (zero_val D) v (omega arith); high = lt_show h v (one-val D) (omega arith) }

-- a leap that is at most 1 in size
pub record WithinOne (x : Float) : Type 0 where
  pub least : T (le minus_one_f x)
  pub most : T (le x one)

-- and so is the leap that counts, in each of the cases
pub within-one : (x : Float) → Leap x → WithinOne (whole_leap x)
unfolding whole_leap of_bits le lt eq abs
within-one x (little e) = subst WithinOne (sym (ap (λ (b : Bool). cond b x nought) e)) (record { least = tt; most = tt })
within-one x second = record { least = tt; most = tt }
within-one x first = record { least = tt; most = tt }
within-one x minus_second = record { least = tt; most = tt }

-- as some fraction
pub record AsFraction (x : Float) : Type 0 where
  pub B : ℕ
  pub C : ℕ
  pub E : ℕ
  pub val : Val x B C E
  pub some : 0 < E

pub as_fraction : (x : Float) → WithinOne x → AsFraction x
unfolding of_bits le lt eq
as_fraction nan h = absurd h.least
as_fraction (inf true) h = absurd h.least
as_fraction (inf false) h = absurd h.most
as_fraction (fin s m e) h = record {
  B = plus-of s (m * up e);
  C = minus-of s (m * up e);
  E = down e;
  val = record { sign = s; size = m * up e; has = (refl, refl); is = signed_of s (m * up e) };
  some = down_pos e;
}

module _ {x : Float} {B C E : ℕ} (G : 0 < E) (v : Val x B C E) (h : WithinOne x) where
  pub at_most : B ≤ C + E
  at_most = let a : B + 0 ≤ E + C = le_says G v (one-val E) h.most in omega arith

  pub at_least : C ≤ B + E
  at_least = let a : 0 + C ≤ B + E = le_says G (minus-one-val E) v h.least in omega arith

-- ---- two ways to write one value
cross_has : (x : Float) (s t : Bool) (a b D E : ℕ) → HasValue x s a D → HasValue x t b E → a * E ≡ b * D
cross_has nan s t a b D E h k = absurd h
cross_has (inf u) s t a b D E h k = absurd h
cross_has (fin u m e) s t a b D E h k = le_antisymm (cancel (le_of_eq same)) (cancel (le_of_eq (sym same)))
  where
    same : a * E * down e ≡ b * D * down e
    same = mul_right_comm a E (down e) ∙ ap (λ (z : ℕ). z * E) (sym h.1) ∙ mul_right_comm (m * up e) D E ∙ ap (λ (z : ℕ). z * D) k.1
        ∙ mul_right_comm b (down e) D

    cancel : {x y : ℕ} → x * down e ≤ y * down e → x ≤ y
    cancel g = le_of_mul-le-mul_right g (down_pos e)

pub size_is : (s : Bool) (a p : ℕ) → Signed s a p 0 → a ≡ p
size_is false a p h = omega arith
size_is true a p h = omega arith

pub cross : {x : Float} {F G D E : ℕ} → Val x F 0 D → Val x G 0 E → F * E ≡ G * D
cross {x} {F} {G} {D} {E} v w =
    ap (λ (z : ℕ). z * E) (sym (size_is v.sign v.size F v.is)) ∙ cross_has x v.sign w.sign v.size w.size D E v.has w.has
    ∙ ap (λ (z : ℕ). z * D) (size_is w.sign w.size G w.is)
