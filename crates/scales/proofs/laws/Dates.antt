-- From the smaller part to the date: one law for every formula. Assumes nothing.
use Rattle.std.proofs.Common.{◌≡◌, ℕ, ◌+◌, ◌*◌, ◌<◌, ◌≤◌, Bool, true, false, not, T, ltb, ◌⊎◌, sym, refl, ap, ◌∙◌, subst, subst₂, inl, inr, le_trans, le_of_eq}
use Rattle.std.proofs.Common.{add-zero, mul-le-mul_right, mul_assoc, mul_comm, add-mul, mul-add, mul_right_comm, le_of_mul-le-mul_right, arith, ltb→lt, nltb→le}
use lib.Ieee.{Float, lt}
use lib.Ieee.Exact.{HasValue}
use Rattle.floats.specs.Whole.{abs}
use Rattle.rounding.specs.Value.{Val, L}
use Rattle.rounding.proofs.Value.{L-pos, abs-has}
use Rattle.rounding.proofs.Own.{plus-of, minus-of, signed_of}
use Rattle.rounding.proofs.Signed.{signed_le}
use Rattle.rounding.proofs.Compare.{lt_val}
use Rattle.rounding.proofs.About.{U, About, size-high, size_low}
use Rattle.rounding.specs.Picoseconds.{day_ps, Within}
use Rattle.julian.specs.declared.JulianDate.{JulianDate}
use Rattle.julian.specs.shifts.SmallerPart.{first_is_larger, map_smaller_part}
use Rattle.scales.specs.laws.Meaning.{Close}
use Rattle.julian.proofs.shifts.SmallerPart.{map_as, map_is}

-- x is finite, and at most S * 2 ^ -90 in size
pub record Sized (x : Float) (S : ℕ) : Type 0 where
  pub sign : Bool
  pub size : ℕ
  pub has : HasValue x sign size L
  pub most : size ≤ S * U

-- one part is at most S in size, and the other at most s
abbrev pub PartsWithin : ℕ → ℕ → JulianDate → Type 0
PartsWithin S s d = (Sized d.jd1 S × Sized d.jd2 s) ⊎ (Sized d.jd1 s × Sized d.jd2 S)

-- ---- sizes and pairs
side_high : (s : Bool) (a X : ℕ) → a ≤ X → plus-of s a ≤ minus-of s a + X
side_high false a X h = omega arith
side_high true a X h = omega arith

side_low : (s : Bool) (a X : ℕ) → a ≤ X → minus-of s a ≤ plus-of s a + X
side_low false a X h = omega arith
side_low true a X h = omega arith

module _ {x : Float} {S : ℕ} (z : Sized x S) where
  pub above : ℕ
  above = plus-of z.sign z.size

  pub beneath : ℕ
  beneath = minus-of z.sign z.size

  pub value : Val x above beneath L
  unfolding above beneath
  value = record { sign = z.sign; size = z.size; has = z.has; is = signed_of z.sign z.size }

  pub high : above ≤ beneath + S * U
  unfolding above beneath
  high = side_high z.sign z.size (S * U) z.most

  pub low : beneath ≤ above + S * U
  unfolding above beneath
  low = side_low z.sign z.size (S * U) z.most

abs-val : {x : Float} {S : ℕ} (z : Sized x S) → Val (abs x) z.size 0 L
abs-val {x} z = record { sign = false; size = z.size; has = abs-has x z.sign z.size L z.has; is = add-zero z.size }

module _ {x y : Float} {S S' : ℕ} (z : Sized x S) (w : Sized y S') where
  order : lt (abs x) (abs y) ≡ ltb (z.size + 0) (w.size + 0)
  order = lt_val L-pos (abs-val z) (abs-val w)

  pub smaller : lt (abs x) (abs y) ≡ true → z.size ≤ w.size
  smaller h = let l : z.size + 0 < w.size + 0 = ltb→lt (z.size + 0) (w.size + 0) (subst T (sym (sym order ∙ h)) tt) in omega arith

  pub no_smaller : lt (abs x) (abs y) ≡ false → w.size ≤ z.size
  no_smaller h = let l : w.size + 0 ≤ z.size + 0 =
      nltb→le (z.size + 0) (w.size + 0) (subst (λ (b : Bool). T (not b)) (sym (sym order ∙ h)) tt) in omega arith

pub under-as : {x : Float} {S : ℕ} (S' : ℕ) (z : Sized x S) → z.size ≤ S' * U → Sized x S'
under-as S' z h = record { sign = z.sign; size = z.size; has = z.has; most = h }

pub about_sized : (T' : ℕ) {x : Float} {P N D M e : ℕ} → M + e ≤ T' → About x P N D M e → Sized x T'
about_sized T' {x} {P} {N} {D} {M} {e} h a =
    let v = a.val in
    record {
      sign = v.sign;
      size = v.size;
      has = v.has;
      most =
          le_trans (signed_le v.sign v.size a.p a.n ((M + e) * U) v.is (size-high a) (size_low a)) (mul-le-mul_right U h);
    }

-- ---- the larger part is at most S, the smaller at most s
unfoldable pub Chosen : ℕ → ℕ → JulianDate → Type 0
Chosen S s d = ((first_is_larger d ≡ true) × (Sized d.jd1 S × Sized d.jd2 s)) ⊎ ((first_is_larger d ≡ false) × (Sized d.jd2 S × Sized d.jd1 s))

pub chosen : (S s : ℕ) (d : JulianDate) → s ≤ S → PartsWithin S s d → Chosen S s d
unfolding Chosen first_is_larger
chosen S s d l r = go (lt (abs d.jd2) (abs d.jd1)) refl r
  where
    wide : {x : ℕ} → x ≤ s * U → x ≤ S * U
    wide h = le_trans h (mul-le-mul_right U l)

    go : (b : Bool) → lt (abs d.jd2) (abs d.jd1) ≡ b → PartsWithin S s d → Chosen S s d
    go true e (inl z) = inl (e, z)
    go true e (inr z) = inl (e, (under-as S z.0 (wide z.0.most), under-as s z.1 (le_trans (smaller z.1 z.0 e) z.0.most)))
    go false e (inl z) = inr (e, (under-as S z.1 (wide z.1.most), under-as s z.0 (le_trans (no_smaller z.1 z.0 e) z.1.most)))
    go false e (inr z) = inr (e, (z.1, z.0))

-- ---- the date is off by what its smaller part is off
pub record Near (ps a c B B' p n q m : ℕ) (r : Float) : Type 0 where
  pub u : ℕ
  pub v : ℕ
  pub val : Val r u v L
  pub over : day_ps * (c * (p + u) + a * (n + m) + B') ≤ day_ps * (c * (n + v) + a * (p + q) + B) + ps * (c * L)
  pub under : day_ps * (c * (n + v) + a * (p + q) + B) ≤ day_ps * (c * (p + u) + a * (n + m) + B') + ps * (c * L)

-- The larger part stays: so c * (larger + smaller) moves by P - N, which is a * (larger + smaller) + B - B' less c * larger.
whole_le : (ps c u v P N X Y : ℕ) → day_ps * (u * (L * c) + N * L) ≤ day_ps * (v * (L * c) + P * L) + ps * (L * (L * c)) → P + X ≡ N + Y
    → day_ps * (c * u + X) ≤ day_ps * (c * v + Y) + ps * (c * L)
whole_le ps c u v P N X Y h e =
    go (c * u) (c * v) P N X Y (ps * (c * L))
    (le_of_mul-le-mul_right {k = L} (le_trans (le_of_eq (left u N)) (le_trans h (le_of_eq (sym right)))) L-pos) e
  where
    go : (x y P N X Y t : ℕ) → day_ps * (x + N) ≤ day_ps * (y + P) + t → P + X ≡ N + Y → day_ps * (x + X) ≤ day_ps * (y + Y) + t
    go x y P N X Y t f g = omega arith

    term : (u N : ℕ) → (c * u + N) * L ≡ u * (L * c) + N * L
    term u N = add-mul (c * u) N L ∙ ap (λ (z : ℕ). z + N * L) (mul_right_comm c u L ∙ mul_comm (c * L) u ∙ ap (λ (z : ℕ). u * z) (mul_comm c L))

    left : (u N : ℕ) → day_ps * (c * u + N) * L ≡ day_ps * (u * (L * c) + N * L)
    left u N = mul_assoc day_ps (c * u + N) L ∙ ap (λ (z : ℕ). day_ps * z) (term u N)

    right : (day_ps * (c * v + P) + ps * (c * L)) * L ≡ day_ps * (v * (L * c) + P * L) + ps * (L * (L * c))
    right =
        add-mul (day_ps * (c * v + P)) (ps * (c * L)) L ∙ ap (λ (z : ℕ). z + ps * (c * L) * L) (left v P)
        ∙ ap (λ (z : ℕ). day_ps * (v * (L * c) + P * L) + z)
        (mul_assoc ps (c * L) L ∙ ap (λ (z : ℕ). ps * z) (mul_comm (c * L) L ∙ ap (λ (z : ℕ). L * z) (mul_comm c L)))

pub near_of : (ps a c B B' p n q m : ℕ) {r : Float} {P N D : ℕ} → D ≡ L * c → P + (c * p + a * (n + m) + B') ≡ N + (c * n + a * (p + q) + B)
    → Within ps r P N D → Near ps a c B B' p n q m r
near_of ps a c B B' p n q m {r} {P} {N} {D} d e w = record {
  u = w.p;
  v = w.n;
  val = w.val;
  over = subst₂ (λ (s t : ℕ). day_ps * s ≤ day_ps * t + ps * (c * L)) (turn c w.p p (a * (n + m)) B') (turn c w.n n (a * (p + q)) B)
      (whole_le ps c w.p w.n P N (c * p + a * (n + m) + B') (c * n + a * (p + q) + B)
      (subst (λ (z : ℕ). day_ps * (w.p * z + N * L) ≤ day_ps * (w.n * z + P * L) + ps * (L * z)) d w.over) e);
  under = subst₂ (λ (s t : ℕ). day_ps * s ≤ day_ps * t + ps * (c * L)) (turn c w.n n (a * (p + q)) B) (turn c w.p p (a * (n + m)) B')
      (whole_le ps c w.n w.p N P (c * n + a * (p + q) + B) (c * p + a * (n + m) + B')
      (subst (λ (z : ℕ). day_ps * (w.n * z + P * L) ≤ day_ps * (w.p * z + N * L) + ps * (L * z)) d w.under) (sym e));
}
  where
    turn : (c u p x y : ℕ) → c * u + (c * p + x + y) ≡ c * (p + u) + x + y
    turn c u p x y = simp mul-add (omega arith)

-- ---- one law for every formula
unfoldable pub Formula : (ps S s a c B B' : ℕ) → (Float → Float → Float) → Type 0
Formula ps S s a c B B' f =
    (big small : Float) (p n q m : ℕ) → p ≤ n + S * U → n ≤ p + S * U → q ≤ m + s * U → m ≤ q + s * U → Val big p n L → Val small q m L
    → Near ps a c B B' p n q m (f big small)

module _ (ps S s a c B B' : ℕ) (f : Float → Float → Float) (law : Formula ps S s a c B B' f) where
  at : {x y : Float} (z : Sized x S) (w : Sized y s) → Near ps a c B B' (above z) (beneath z) (above w) (beneath w) (f x y)
  unfolding Formula
  at {x} {y} z w = law x y (above z) (beneath z) (above w) (beneath w) (high z) (low z) (high w) (low w) (value z) (value w)

  pub close : (d : JulianDate) → s ≤ S → PartsWithin S s d → Close ps a c B B' d (map_smaller_part f d)
  unfolding Chosen
  close d l r = subst (λ (e : JulianDate). Close ps a c B B' d e) (sym (map_is f d)) (go (chosen S s d l r))
    where
      go : Chosen S s d → Close ps a c B B' d (map_as f d (first_is_larger d))
      go (inl (e, (z, w))) =
          let k = at z w in
          subst (λ (b : Bool). Close ps a c B B' d (map_as f d b)) (sym e)
          (record {
            p = above z + above w;
            n = beneath z + beneath w;
            p' = above z + k.u;
            n' = beneath z + k.v;
            from = record { p = above z; n = beneath z; q = above w; m = beneath w; first = value z; second = value w; total = refl };
            to = record { p = above z; n = beneath z; q = k.u; m = k.v; first = value z; second = k.val; total = refl };
            over = k.over;
            under = k.under;
          })
      go (inr (e, (z, w))) =
          let k = at z w in
          subst (λ (b : Bool). Close ps a c B B' d (map_as f d b)) (sym e)
          (record {
            p = above z + above w;
            n = beneath z + beneath w;
            p' = above z + k.u;
            n' = beneath z + k.v;
            from = record {
              p = above w;
              n = beneath w;
              q = above z;
              m = beneath z;
              first = value w;
              second = value z;
              total =
                  turn (above w) (above z) (beneath w) (beneath z);
            };
            to = record { p = k.u; n = k.v; q = above z; m = beneath z; first = k.val; second = value z; total = turn k.u (above z) k.v (beneath z) };
            over = k.over;
            under = k.under;
          })
        where
          turn : (p q n m : ℕ) → p + q + (m + n) ≡ q + p + (n + m)
          turn p q n m = omega arith
