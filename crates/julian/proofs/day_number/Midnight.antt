-- Where the first fraction is -0.5, that of a midnight, the compensated sum of the fractions is the second fraction alone, and nothing is lost that a
-- correction would find. Assumes nothing.
use mathlib.Core.Path.{◌≡◌, refl, sym, ap, ◌∙◌, subst}
use mathlib.Core.Bool.{Bool, true, false, cond, true≢false}
use Prim.Native.Nat.{ℕ, ◌+◌, ◌*◌, ◌^◌, ◌≤◌, ◌<◌}
use native.Mathlib.Nat.{add-zero, add-mul, mul-le-mul_right}
use native.Mathlib.Omega.{arith}
use lib.Dec.{T, lit<, eqb→eq}
use lib.IntN.{pos, negsuc}
use lib.Ieee.{Float, nan, inf, fin, binary64, round, add, sub, lt, le, eq, fits}
use lib.Ieee.Exact.{HasValue}
use lib.Ieee.Fits.{add-fits}
use lib.Ieee.Scale.{finite}
use lib.Ieee.Bits.{is_true}
use Rattle.floats.specs.Whole.{abs, nought, one}
use Rattle.floats.proofs.Laws.{yes}
use Rattle.rounding.specs.Value.{Signed, Val, Rounds, L, H}
use Rattle.rounding.proofs.Value.{L-pos, val-unique, add_rounds, sub_rounds, rounds-move, val-move}
use Rattle.rounding.proofs.Signed.{dist, dist_le, dist_shift, signed-dist, plus-of, minus-of}
use Rattle.rounding.proofs.Compare.{lt_true, le_true, le_false, lt_show, le_says, eq_val}
use Rattle.rounding.proofs.Bound.{rounds-mono}
use Rattle.rounding.proofs.Own.{Rep, own, own_val, val-rep, val-small}
use Rattle.rounding.proofs.Sterbenz.{rounds-rep}
use Rattle.rounding.proofs.Unique.{float-unique}
use Rattle.rounding.proofs.TwoSumFloat.{Exact}
use Rattle.rounding.proofs.Compensated.{compensated, compensated_either}
use Rattle.julian.specs.declared.day_number.Kahan.{Kahan}
use Rattle.julian.specs.declared.day_number.Summed.{Summed}
use Rattle.julian.specs.declared.day_number.Normalized.{Normalized}
use Rattle.julian.specs.day_number.DayNumber.{compensation, add_fraction, sum_fractions, kahan_of, borrow_fraction, borrow_day, normalize_fraction}
use Rattle.julian.specs.day_number.DayNumber.{c_minus_eps_4}
use Rattle.julian.proofs.day_number.Units.{one-L, nought-L, H-pos}
use Rattle.julian.specs.day_number.MinusZero.{minus_zero}
use Rattle.julian.proofs.day_number.SignedUnits.{has-val}
use Rattle.julian.proofs.day_number.MinusZero.{Unsigned, some_size, add_unsigned}
use Rattle.julian.proofs.day_number.CarryTest.{carry_test}
use Rattle.julian.proofs.day_number.Steps.{skip, borrowed, unborrowed, carry_none}

-- ---- two floats of one value, neither of them -0.0, are the same
pub same-value : (x y : Float) (p n q m : ℕ) → Unsigned x → Unsigned y → Val x p n L → Val y q m L → p + m ≡ q + n → x ≡ y
same-value x y p n q m ux uy v w e = go v.sign w.sign v.size w.size v.has w.has v.is w.is
  where
    level : (s : Bool) (a b : ℕ) → Signed s a p n → Signed s b q m → b ≡ a
    level false a b i j = omega arith
    level true a b i j = omega arith

    like : (s : Bool) (a b : ℕ) → HasValue x s a L → HasValue y s b L → b ≡ a → x ≡ y
    like s a b h k d = float-unique x y s a L L-pos ux.fit uy.fit h (subst (λ (z : ℕ). HasValue y s z L) d k)

    go : (s t : Bool) (a b : ℕ) → HasValue x s a L → HasValue y t b L → Signed s a p n → Signed t b q m → x ≡ y
    go false false a b h k i j = like false a b h k (level false a b i j)
    go true true a b h k i j = like true a b h k (level true a b i j)
    go false true a b h k i j = let o : 0 < b = some_size y b L L-pos uy.sign k in let z : ⊥ = omega arith in absurd z
    go true false a b h k i j = let o : 0 < a = some_size x a L L-pos ux.sign h in let z : ⊥ = omega arith in absurd z

-- ---- a sum that is the value of a float is exact
pub held : {x z : Float} {p n P N : ℕ} → T (fits binary64 x) → Val x p n L → p + N ≡ n + P → Rounds binary64 z P N L → Val z P N L
held {x} {z} {p} {n} {P} {N} f v e r =
    let d : dist p n ≡ r.size = dist_shift p n P N e ∙ signed-dist r.sign r.size P N r.is
    in rounds-rep r (subst Rep d (val-rep f v)) (subst (λ (a : ℕ). a < 2 ^ 2098) d (val-small f v))

-- two roundings of one value above 0 are the same float
same-rounds : (x y : Float) (P N p n : ℕ) → N < P → P + n ≡ p + N → Rounds binary64 x P N L → Rounds binary64 y p n L → x ≡ y
same-rounds x y P N p n h e r q = r.eq ∙ go r.sign q.sign r.size q.size r.is q.is ∙ sym q.eq
  where
    go : (s t : Bool) (a b : ℕ) → Signed s a P N → Signed t b p n → round binary64 s a L ≡ round binary64 t b L
    go false false a b i j = ap (λ (z : ℕ). round binary64 false z L) (level a b i j)
      where
        level : (a b : ℕ) → a + N ≡ P → b + n ≡ p → a ≡ b
        level a b i j = omega arith
    go true t a b i j = let z : ⊥ = omega arith in absurd z
    go false true a b i j = let z : ⊥ = omega arith in absurd z

pub nought-unsigned : Unsigned nought
unfolding fits minus_zero
nought-unsigned = record { fit = tt; sign = refl }

-- ---- the first fraction
abbrev pub minus-half : Float
minus-half = fin true 1 (negsuc 0)

minus-half-has : HasValue minus-half true H L
unfolding L H
minus-half-has = (refl, refl)

minus-half-fits : T (fits binary64 minus-half)
unfolding fits
minus-half-fits = tt

pub is-minus-half : (f : Float) → T (fits binary64 f) → eq f minus-half ≡ true → f ≡ minus-half
unfolding eq
is-minus-half nan t e = absurd (true≢false (sym e))
is-minus-half (inf s) t e = absurd (true≢false (sym e))
is-minus-half (fin s m d) t e = let o = own (fin s m d) t tt in go o.sign o.size o.has
  where
    level : (a : Bool) (c : ℕ) → HasValue (fin s m d) a c L → plus-of a c + H ≡ 0 + minus-of a c
    level a c h = eqb→eq (plus-of a c + H) (0 + minus-of a c)
        (subst T (eq_val L-pos (has-val (fin s m d) a c L h) (has-val minus-half true H L minus-half-has)) (yes e))

    go : (a : Bool) (c : ℕ) → HasValue (fin s m d) a c L → fin s m d ≡ minus-half
    go false c h = let z : ⊥ = omega (arith, level false c h, H-pos) in absurd z
    go true c h = float-unique (fin s m d) minus-half true H L L-pos t minus-half-fits
        (subst (λ (z : ℕ). HasValue (fin s m d) true z L) (size (level true c h)) h) minus-half-has
      where
        size : 0 + H ≡ 0 + c → c ≡ H
        size e = omega arith

-- the sum starts at 0.5, and -0.5 takes that away
abbrev none : Kahan
none = record { sum = nought; correction = nought }

from-none : (g : Float) → add_fraction 0 none g ≡ sum_fractions minus-half g
unfolding sum_fractions add_fraction compensation abs add sub le
from-none g = refl

far : 32 * L < 2 ^ 2098
unfolding L
far = lit< tt

pub one-fits : T (fits binary64 one)
unfolding fits
one-fits = tt

times : (P N Q M : ℕ) → P + M ≤ Q + N → P * L + M * L ≤ Q * L + N * L
times P N Q M h = go (P * L + M * L) (Q * L + N * L) ((P + M) * L) ((Q + N) * L) (add-mul P M L) (add-mul Q N L) (mul-le-mul_right L h)
  where
    go : (x y s t : ℕ) → s ≡ x → t ≡ y → s ≤ t → x ≤ y
    go x y s t e f h = omega arith

nought-rounds : Rounds binary64 nought 0 0 L
unfolding round L
nought-rounds = record { sign = false; size = 0; eq = refl; is = refl }

-- ---- the second fraction g, from -1 to 1
module _ (g : Float) (fg : T (fits binary64 g)) (fin-g : T (finite g)) where
  abbrev Q : ℕ
  Q = plus-of (own g fg fin-g).sign (own g fg fin-g).size

  abbrev M : ℕ
  M = minus-of (own g fg fin-g).sign (own g fg fin-g).size

  abbrev t : Float
  t = add binary64 nought g

  vg : Val g Q M L
  vg = own_val g (own g fg fin-g)

  ut : Unsigned t
  ut = add_unsigned g fg nought-unsigned

  vt : Val t Q M L
  vt = val-move (held fg vg (plain Q M) (add_rounds binary64 L-pos nought-L vg)) (over Q M)
    where
      plain : (a b : ℕ) → a + (0 + b) ≡ b + (0 + a)
      plain a b = omega arith

      over : (a b : ℕ) → 0 + a + b ≡ a + (0 + b)
      over a b = omega arith

  -- ---- what a sum with 0.0 loses is 0
  abbrev lost : Float
  lost = compensation nought g t

  lost_fits : T (fits binary64 lost)
  unfolding compensation
  lost_fits = go (le (abs g) (abs nought))
    where
      go : (b : Bool) → T (fits binary64 (cond b (add binary64 (sub binary64 nought t) g) (add binary64 (sub binary64 g t) nought)))
      go true = add-fits binary64 (sub binary64 nought t) g
      go false = add-fits binary64 (sub binary64 g t) nought

  exactly : Q < M + L → M < Q + L → Exact t lost (0 + Q) (0 + M)
  unfolding compensation
  exactly h l = compensated_either nought-unsigned.fit fg nought-L vg (dist_le 0 0 L (omega arith) (omega arith))
      (dist_le Q M L (omega arith) (omega arith)) far (add_rounds binary64 L-pos nought-L vg)

  no_correction : Q < M + L → M < Q + L → add binary64 nought lost ≡ nought
  no_correction h l =
      let x = exactly h l in
      let u = val-unique x.sum vt in
      same-value (add binary64 nought lost) nought (0 + x.ep) (0 + x.en) 0 0 (add_unsigned lost lost_fits nought-unsigned) nought-unsigned
      (held nought-unsigned.fit nought-L (none_left x.sp x.sn x.ep x.en u x.total) (add_rounds binary64 L-pos nought-L x.err)) nought-L
      (none_over x.sp x.sn x.ep x.en u x.total)
    where
      none_left : (a b c d : ℕ) → a + M ≡ Q + b → a + c + (0 + M) ≡ b + d + (0 + Q) → 0 + (0 + d) ≡ 0 + (0 + c)
      none_left a b c d u v = omega arith

      none_over : (a b c d : ℕ) → a + M ≡ Q + b → a + c + (0 + M) ≡ b + d + (0 + Q) → 0 + c + 0 ≡ 0 + (0 + d)
      none_over a b c d u v = omega arith

  not_carried : Q < M + L → le one t ≡ false
  not_carried h = go (le one t) (λ e. le_true L-pos one-L vt e)
    where
      go : (b : Bool) → (b ≡ true → L + M ≤ Q + 0) → b ≡ false
      go false k = refl
      go true k = let z : ⊥ = omega (arith, k refl) in absurd z

  abbrev pub alone : Summed
  alone = record { carry = 0; kahan = record { sum = t; correction = nought } }

  sum-alone : Q < M + L → M < Q + L → alone ≡ sum_fractions minus-half g
  unfolding add_fraction
  sum-alone h l =
      ap (λ (w : Float). record { carry = 0; kahan = record { sum = t; correction = w } }) (sym (no_correction h l))
      ∙ skip (le one t) _ _ (not_carried h) ∙ from-none g

  -- ---- no day borrowed
  z_is : add binary64 t nought ≡ t
  z_is = same-value (add binary64 t nought) t (Q + 0) (M + 0) Q M (add_unsigned nought nought-unsigned.fit ut) ut
      (held ut.fit vt (one_way Q M) (add_rounds binary64 L-pos vt nought-L)) vt (other Q M)
    where
      one_way : (a b : ℕ) → a + (b + 0) ≡ b + (a + 0)
      one_way a b = omega arith

      other : (a b : ℕ) → a + 0 + b ≡ a + (b + 0)
      other a b = omega arith

  whole : Q < M + L → le nought t ≡ true → ◌≡◌ {A = Normalized} (record { carry = 0; borrow = 0; fraction = t }) (normalize_fraction alone.kahan)
  whole h e = unborrowed alone.kahan
      (ap (λ (w : Float). lt w nought) z_is ∙ not_below (lt t nought) (λ d. lt_true L-pos vt nought-L d) (le_true L-pos nought-L vt e))
      (record { carry = 0; fraction = t })
      (ap (λ (w : Float). record { carry = 0; fraction = w }) (sym z_is) ∙ carry_none (kahan_of t (add binary64 t nought)) (add binary64 t nought)
      (ap (λ (w : Float). lt (sub binary64 w one) c_minus_eps_4) z_is ∙ carry_test t Q M ut.fit vt (low (le_true L-pos nought-L vt e)) (omega arith)
      ∙ is_true (lt t one) (lt_show L-pos vt one-L (omega arith))))
    where
      not_below : (b : Bool) → (b ≡ true → Q + 0 < 0 + M) → 0 + M ≤ Q + 0 → b ≡ false
      not_below false k l = refl
      not_below true k l = let z : ⊥ = omega (arith, k refl) in absurd z

      low : 0 + M ≤ Q + 0 → M ≤ Q
      low l = omega arith

  -- ---- one day borrowed
  abbrev s : Float
  s = add binary64 t one

  s_rounds : Rounds binary64 s (L + Q) (0 + M) L
  s_rounds = rounds-move (add_rounds binary64 L-pos vt one-L) (turn Q M)
    where
      turn : (a b : ℕ) → a + L + (0 + b) ≡ L + a + (b + 0)
      turn a b = omega arith

  -- what the sum with the day loses, and what the code takes it for
  abbrev miss : Float
  miss = add binary64 (sub binary64 one s) t

  found : M < Q + L → Q < M → Exact s miss (L + Q) (0 + M)
  found l h = compensated one-fits ut.fit one-L vt (subst (λ (d : ℕ). dist Q M ≤ d) (sym whole-day) (dist_le Q M L (omega arith) (omega arith)))
      (subst (λ (d : ℕ). d ≤ L) (sym whole-day) (omega arith)) far s_rounds
    where
      whole-day : dist L 0 ≡ L
      whole-day = signed-dist false L L 0 (add-zero L)

  -- the fraction with it is the sum, as both are one value rounded
  fraction-is : M < Q + L → Q < M → borrow_fraction t (sub binary64 (add binary64 t nought) t) ≡ s
  fraction-is l h =
      let x = found l h in
      let z : Val (add binary64 t nought) Q M L = subst (λ (w : Float). Val w Q M L) (sym z_is) vt in
      let c : Val (sub binary64 (add binary64 t nought) t) (Q + M) (M + Q) L =
      held nought-unsigned.fit nought-L (omega arith) (sub_rounds binary64 L-pos z vt) in
      let d : Val (add binary64 (sub binary64 (add binary64 t nought) t) miss) (Q + M + x.ep) (M + Q + x.en) L =
      held (add-fits binary64 (sub binary64 one s) t) x.err (turn x.ep x.en) (add_rounds binary64 L-pos c x.err) in
      same-rounds (borrow_fraction t (sub binary64 (add binary64 t nought) t)) s (x.sp + (Q + M + x.ep)) (x.sn + (M + Q + x.en)) (L + Q) (0 + M)
      (more x.sp x.sn x.ep x.en x.total) (all x.sp x.sn x.ep x.en x.total)
      (add_rounds binary64 L-pos x.sum d) s_rounds
    where
      turn : (a b : ℕ) → a + (M + Q + b) ≡ b + (Q + M + a)
      turn a b = omega arith

      more : (a b c d : ℕ) → a + c + (0 + M) ≡ b + d + (L + Q) → b + (M + Q + d) < a + (Q + M + c)
      more a b c d e = omega arith

      all : (a b c d : ℕ) → a + c + (0 + M) ≡ b + d + (L + Q) → a + (Q + M + c) + (0 + M) ≡ L + Q + (b + (M + Q + d))
      all a b c d e = omega arith

  less : M < Q + L → Q < M → lt s one ≡ true → ◌≡◌ {A = Normalized} (record { carry = 0; borrow = 1; fraction = s }) (normalize_fraction alone.kahan)
  unfolding borrow_day
  less l h e =
      let x = found l h in
      let f = fraction-is l h in
      let n = le_says L-pos nought-L x.sum (rounds-mono L-pos L-pos (times 0 0 (L + Q) (0 + M) (omega arith)) nought-rounds s_rounds) in
      let b = borrow_day (kahan_of t (add binary64 t nought)) in
      borrowed alone.kahan (ap (λ (w : Float). lt w nought) z_is ∙ is_true (lt t nought) (lt_show L-pos vt nought-L (omega arith))) b refl
      (record { carry = 0; fraction = s })
      (ap (λ (w : Float). record { carry = 0; fraction = w }) (sym f) ∙ carry_none b.kahan b.fraction
      (ap (λ (w : Float). lt (sub binary64 w one) c_minus_eps_4) f
      ∙ carry_test s x.sp x.sn (add-fits binary64 t one) x.sum (low x.sp x.sn n) (high x.sp x.sn (lt_true L-pos x.sum one-L e))
      ∙ e))
    where
      low : (a b : ℕ) → 0 + b ≤ a + 0 → b ≤ a
      low a b k = omega arith

      high : (a b : ℕ) → a + 0 < L + b → a < b + 2 * L
      high a b k = omega arith

-- ---- by the code's tests
finite-in : (g : Float) → le nought (add binary64 nought g) ≡ true → lt (add binary64 nought g) one ≡ true → T (finite g)
unfolding le lt eq add
finite-in nan e h = absurd (true≢false (sym e))
finite-in (inf true) e h = absurd (true≢false (sym e))
finite-in (inf false) e h = absurd (true≢false (sym h))
finite-in (fin s m d) e h = tt

abbrev pub minus_one : Float
minus_one = fin true 1 (pos 0)

minus-one-L : Val minus_one 0 L L
unfolding L
minus-one-L = record { sign = true; size = L; has = (refl, refl); is = refl }

finite-under : (g : Float) → le nought (add binary64 nought g) ≡ false → lt minus_one (add binary64 nought g) ≡ true → T (finite g)
unfolding le lt eq add
finite-under nan e h = absurd (true≢false (sym h))
finite-under (inf true) e h = absurd (true≢false (sym h))
finite-under (inf false) e h = absurd (true≢false e)
finite-under (fin s m d) e h = tt

-- the sum and what it comes to, where the fractions are f and g
pub record Quick (f g z : Float) (down : ℕ) : Type 0 where
  pub summed : ◌≡◌ {A = Summed} (record { carry = 0; kahan = record { sum = add binary64 nought g; correction = nought } }) (sum_fractions f g)
  pub normal : ◌≡◌ {A = Normalized} (record { carry = 0; borrow = down; fraction = z })
      (normalize_fraction (record { sum = add binary64 nought g; correction = nought }))

module _ (f g : Float) (ff : T (fits binary64 f)) (fg : T (fits binary64 g)) (e : eq f minus-half ≡ true) where
  pub quick : le nought (add binary64 nought g) ≡ true → lt (add binary64 nought g) one ≡ true → Quick f g (add binary64 nought g) 0
  quick a b =
      let i = finite-in g a b in
      let l = le_true L-pos nought-L (vt g fg i) a in
      let h = lt_true L-pos (vt g fg i) one-L b in
      record {
        summed = sum-alone g fg i (omega arith) (omega (arith, L-pos)) ∙ ap (λ (w : Float). sum_fractions w g) (sym (is-minus-half f ff e));
        normal = whole g fg i (omega arith) a;
      }

  pub quick_borrowed : le nought (add binary64 nought g) ≡ false → lt minus_one (add binary64 nought g) ≡ true
      → lt (add binary64 (add binary64 nought g) one) one ≡ true → Quick f g (add binary64 (add binary64 nought g) one) 1
  quick_borrowed a b c =
      let i = finite-under g a b in
      let l = le_false L-pos nought-L (vt g fg i) a in
      let h = lt_true L-pos minus-one-L (vt g fg i) b in
      record {
        summed = sum-alone g fg i (omega (arith, L-pos)) (omega arith) ∙ ap (λ (w : Float). sum_fractions w g) (sym (is-minus-half f ff e));
        normal = less g fg i (omega arith) (omega arith) c;
      }
