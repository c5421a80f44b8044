-- Off the grid a half goes to the even millisecond of the exact value of the float that document 01's call rounds: what the code finds from twice that float is
-- the float rounded to a whole number by the rule `even`. Assumes nothing.
use mathlib.Core.Path.{◌≡◌, refl, sym, ap, ◌∙◌, subst}
use mathlib.Core.Logic.{◌⊎◌, inl, inr}
use mathlib.Core.Bool.{Bool, true, false, cond}
use Prim.Native.Nat.{ℕ, suc, ◌+◌, ◌*◌, ◌/◌, ◌%◌, ◌^◌, ◌≤◌, ◌<◌}
use native.Mathlib.Nat.{lt_of_lt_of_le, mul_comm, mul_assoc, mul_left_comm, one-mul, add-mul, zero-mul, lt_of_mul-lt-mul_right, div-add-mod', mod-lt, pow-suc}
use native.Mathlib.Omega.{arith}
use lib.Dec.{eqb, lit<, lit≤}
use lib.IntN.{ℤ, pos, negsuc}
use lib.Ieee.{Float, binary64, of_bits, of_int, mul, eq, to_signed}
use lib.Ieee.Fits.{mul-fits}
use lib.Ieee.Exact.{HasValue}
use borrow.Author.Tests.{eq-eqb, ne_eqb, lt-ltb}
use Rattle.floats.specs.Whole.{to_whole}
use Rattle.rounding.specs.Value.{Signed, Val, Rounds, L}
use Rattle.rounding.proofs.Value.{L-pos, mul_rounds, rounds-move, val-scale, val-finite, has-unique}
use Rattle.rounding.proofs.Own.{Rep, Own, own}
use Rattle.rounding.proofs.Sterbenz.{rounds-rep}
use Rattle.rounding.proofs.Casts.{plus_z, minus_z, one_side, of_int_val, Cut, up_cut, down_cut, trunc_val}
use Rattle.rounding.proofs.Compare.{eq_val}
use Rattle.rounding.proofs.Signed.{signed_lt}
use Rattle.time_of_day.specs.Milliseconds.{thousand_f, fraction_seconds, millis_of}
use Rattle.time_of_day.specs.TimeShown.{from_zero, count_by}
use Rattle.time_of_day.specs.HalfEven.{two-f, nearest_even, even, worth, twice, half_millis, of_halves, float_count}
use Rattle.time_of_day.proofs.Rounded.{few, whole_has, cut-is}
use Rattle.time_of_day.proofs.Fractions.{AsUnits, WithinOne}
use Rattle.time_of_day.proofs.Count.{product_between}
use Rattle.time_of_day.proofs.EvenSteps.{at_half, below_half, above_half, halves-even-number, halves-all, halves-more}
use Rattle.time_of_day.proofs.EvenRule.{Side, below, at, above, side, even-nearest}

-- ---- casts
pub from-plus : (z : ℤ) → from_zero z ≡ plus_z z
unfolding from_zero
from-plus (pos a) = refl
from-plus (negsuc a) = refl

pub to-count : (z : ℤ) (k : ℕ) → plus_z z + 0 ≡ minus_z z + k → from_zero z ≡ k
to-count z k e = from-plus z ∙ go (one_side z)
  where
    go : (plus_z z ≡ 0) ⊎ (minus_z z ≡ 0) → plus_z z ≡ k
    go (inl p) = omega arith
    go (inr m) = omega arith

to_none : (z : ℤ) (k : ℕ) → plus_z z + k ≡ minus_z z + 0 → from_zero z ≡ 0
to_none z k e = from-plus z ∙ go (one_side z)
  where
    go : (plus_z z ≡ 0) ⊎ (minus_z z ≡ 0) → plus_z z ≡ 0
    go (inl p) = p
    go (inr m) = omega arith

-- the only whole number under a fraction and less than one below it
pub one-floor : (j m a d : ℕ) → j * d ≤ a → a < j * d + d → m * d ≤ a → a < m * d + d → j ≡ m
one-floor j m a d p q r s = both (lt_of_mul-lt-mul_right d (lower j m p s)) (lt_of_mul-lt-mul_right d (lower m j r q))
  where
    lower : (x y : ℕ) → x * d ≤ a → a < y * d + d → x * d < (y + 1) * d
    lower x y h k = let e : (y + 1) * d ≡ y * d + 1 * d = add-mul y 1 d in omega arith

    both : j < m + 1 → m < j + 1 → j ≡ m
    both u v = omega arith

-- ---- twice the float
two-val : Val two-f 2 0 1
unfolding of_bits
two-val = record { sign = false; size = 2; has = (refl, refl); is = refl }

double_rep : (g : ℕ) → Rep g → Rep (2 * g)
double_rep g r = record {
  q = r.q;
  j = suc r.j;
  is = ap (λ (z : ℕ). 2 * z) r.is ∙ mul_left_comm 2 r.q (2 ^ r.j) ∙ ap (λ (z : ℕ). r.q * z) (mul_comm 2 (2 ^ r.j) ∙ sym (pow-suc 2 r.j));
  small = r.small;
}

most : 4503599627370496 * L ≤ 2 ^ 2098
unfolding L
most = lit≤ tt

double_small : (g : ℕ) → g < 2251799813685248 * L → 2 * g < 2 ^ 2098
double_small g h = lt_of_lt_of_le (go g L h) most
  where
    go : (g l : ℕ) → g < 2251799813685248 * l → 2 * g < 4503599627370496 * l
    go g l h = omega arith

-- exactly twice
double_val : {x : Float} (p n : ℕ) (o : Own x) → o.size < 2251799813685248 * L → Signed o.sign o.size p n → Val (mul binary64 two-f x) (2 * p) (2 * n) L
double_val {x} p n o h i =
    let v : Val x p n L = record { sign = o.sign; size = o.size; has = o.has; is = i } in
    let r = rounds-move (subst (λ (d : ℕ). Rounds binary64 (mul binary64 two-f x) (2 * p + 0 * n) (2 * n + 0 * p) d) (one-mul L)
    (mul_rounds binary64 (lit< tt) L-pos two-val v)) (plain p n) in
    let e : r.size ≡ 2 * o.size = size_of o.sign r.sign o.size r.size i r.is in
    rounds-rep r (subst Rep (sym e) (double_rep o.size o.rep)) (subst (λ (k : ℕ). k < 2 ^ 2098) (sym e) (double_small o.size h))
  where
    plain : (p n : ℕ) → 2 * p + 0 * n + 2 * n ≡ 2 * p + (2 * n + 0 * p)
    plain p n = omega arith

    size_of : (s t : Bool) (a b : ℕ) → Signed s a p n → Signed t b (2 * p) (2 * n) → b ≡ 2 * a
    size_of false false a b e f = omega arith
    size_of false true a b e f = omega arith
    size_of true false a b e f = omega arith
    size_of true true a b e f = omega arith

-- ---- a float of size g / L that is not below 0
module _ (x : Float) (g : ℕ) (h : g < 2251799813685248 * L) (has : HasValue x false g L) (v : Val (mul binary64 two-f x) (2 * g) (2 * 0) L) where
  abbrev z : Float
  z = mul binary64 two-f x

  abbrev j : ℕ
  j = from_zero (to_signed 63 z)

  cuts : (t : ℤ) → Cut (2 * g) (2 * 0) L t → (plus_z t * L ≤ 2 * g) × (2 * g < plus_z t * L + L)
  cuts t (up_cut a b c) = (omega arith, omega arith)
  cuts t (down_cut a b c) = let e : plus_z t * L ≡ 0 = ap (λ (k : ℕ). k * L) a ∙ zero-mul L in (omega arith, omega (arith, L-pos))

  wide : (g l : ℕ) → g < 2251799813685248 * l → 2 * g < 2 * 0 + 9223372036854775808 * l
  wide g l k = omega arith

  floor : (j * L ≤ 2 * g) × (2 * g < j * L + L)
  floor =
      let k = cuts (to_signed 63 z) (trunc_val 63 L-pos (wide g L h) (lt_of_lt_of_le L-pos (go g L)) v) in
      subst (λ (n : ℕ). (n * L ≤ 2 * g) × (2 * g < n * L + L)) (sym (from-plus (to_signed 63 z))) k
    where
      go : (g l : ℕ) → l ≤ 2 * g + 9223372036854775808 * l
      go g l = omega arith

  small : j < 4503599627370496
  small = lt_of_mul-lt-mul_right L (go (j * L) g L floor.0 h)
    where
      go : (a g l : ℕ) → a ≤ 2 * g → g < 2251799813685248 * l → a < 4503599627370496 * l
      go a g l p q = omega arith

  -- they are all exactly where j / 2 is the float
  worth-is : worth j z ≡ eqb (j * L + 2 * 0) (2 * g + 0 * L)
  unfolding worth
  worth-is =
      let w : Val (of_int binary64 (pos j)) (j * L) (0 * L) L =
      subst (λ (d : ℕ). Val (of_int binary64 (pos j)) (j * L) (0 * L) d) (one-mul L)
      (val-scale L (of_int_val (pos j) (omega (arith, small)) (omega arith))) in
      ap (λ (b : Bool). cond b (eq (of_int binary64 (pos j)) z) false) (lt-ltb j 4503599627370496 small) ∙ eq_val L-pos w v

  abbrev q : ℕ
  q = g / L

  abbrev r : ℕ
  r = g % L

  whole : q * L + r ≡ g
  whole = div-add-mod' g L

  rest : r < L
  rest = mod-lt g L-pos

  first : (m : ℕ) → m * L ≤ 2 * g → 2 * g < m * L + L → j ≡ m
  first m a b = one-floor j m (2 * g) L floor.0 floor.1 a b

  twice-q : 2 * q * L ≡ 2 * (q * L)
  twice-q = mul_assoc 2 q L

  more-q : (2 * q + 1) * L ≡ 2 * (q * L) + L
  more-q = add-mul (2 * q) 1 L ∙ (λ i. twice-q i + one-mul L i)

  pub halves_are : Side r L → of_halves j (worth j z) ≡ nearest_even q r L
  halves_are (below s) =
      let e : j ≡ 2 * q = first (2 * q) (omega (arith, twice-q, whole)) (omega (arith, twice-q, whole)) in
      sym (halves-even-number j (worth j z) (omega arith)) ∙ half-q e ∙ below_half q r L s
    where
      half-q : j ≡ 2 * q → j / 2 ≡ q
      half-q e = omega arith
  halves_are (at s) =
      let e : j ≡ 2 * q + 1 = first (2 * q + 1) (omega (arith, more-q, whole)) (omega (arith, more-q, whole, rest)) in
      let f : j * L ≡ 2 * (q * L) + L = ap (λ (k : ℕ). k * L) e ∙ more-q in
      let k : j * L + 2 * 0 ≡ 2 * g + 0 * L = omega (arith, whole) in
      sym (halves-all j (worth j z) (omega arith) (worth-is ∙ eq-eqb _ _ k)) ∙ even-q e ∙ at_half q r L s
    where
      even-q : j ≡ 2 * q + 1 → j / 2 + j / 2 % 2 ≡ q + q % 2
      even-q e = let i : j / 2 ≡ q = omega arith in ap (λ (k : ℕ). k + k % 2) i
  halves_are (above s) =
      let e : j ≡ 2 * q + 1 = first (2 * q + 1) (omega (arith, more-q, whole)) (omega (arith, more-q, whole, rest)) in
      let f : j * L ≡ 2 * (q * L) + L = ap (λ (k : ℕ). k * L) e ∙ more-q in
      sym (halves-more j (worth j z) (omega arith) (worth-is ∙ ne_eqb (j * L + 2 * 0) (2 * g + 0 * L) (λ i. omega (arith, whole)))) ∙ up_q e
      ∙ above_half q r L s
    where
      up_q : j ≡ 2 * q + 1 → j / 2 + 1 ≡ q + 1
      up_q e = omega arith

-- ---- the float rounded by the rule
fits-63 : (k : ℕ) → k < 4503599627370497 → k < 0 + 9223372036854775808 * 1
fits-63 k h = omega arith

above_63 : (k : ℕ) → 0 < k + 9223372036854775808 * 1
above_63 k = omega arith

wider : (g l : ℕ) → g < 2251799813685248 * l → g < 4503599627370496 * l
wider g l h = omega arith

rounded : (x : Float) (g : ℕ) → g < 2251799813685248 * L → HasValue x false g L → from_zero (to_signed 63 (to_whole even x)) ≡ even false g L
rounded x g h has =
    let k = even false g L in
    let v : Val (to_whole even x) k 0 1 = record { sign = false; size = k; has = whole_has even even-nearest g (wider g L h) x false has; is = omega arith } in
    to-count _ k (cut-is k 0 _ (trunc_val 63 (lit< tt) (fits-63 k (few even even-nearest false g (wider g L h))) (above_63 k) v))

rounded_below : (x : Float) (g : ℕ) → g < 2251799813685248 * L → HasValue x true g L → from_zero (to_signed 63 (to_whole even x)) ≡ 0
rounded_below x g h has =
    let k = even true g L in
    let v : Val (to_whole even x) 0 k 1 = record { sign = true; size = k; has = whole_has even even-nearest g (wider g L h) x true has; is = omega arith } in
    to_none _ k (cut-is 0 k _ (trunc_val 63 (lit< tt) (above_63 k) (fits-63 k (few even even-nearest true g (wider g L h))) v))

-- and of a float below 0, or -0.0, no half millisecond is counted
none_below : (g : ℕ) (t : ℤ) → Cut (2 * 0) (2 * g) L t → from_zero t ≡ 0
none_below g t (up_cut a b c) = from-plus t ∙ go (lt_of_mul-lt-mul_right L (less (plus_z t * L) L b L-pos))
  where
    less : (p l : ℕ) → p + 2 * g ≤ 2 * 0 → 0 < l → p < 1 * l
    less p l k m = omega arith

    go : plus_z t < 1 → plus_z t ≡ 0
    go k = omega arith
none_below g t (down_cut a b c) = from-plus t ∙ a

either : (x : Float) (s : Bool) (g : ℕ) → g < 2251799813685248 * L → HasValue x s g L → Rep g
    → of_halves (from_zero (to_signed 63 (mul binary64 two-f x))) (worth (from_zero (to_signed 63 (mul binary64 two-f x))) (mul binary64 two-f x)) ≡ from_zero
    (to_signed 63 (to_whole even x))
either x false g h has rep =
    halves_are x g h has (double_val g 0 (record { sign = false; size = g; has = has; rep = rep }) h (omega arith)) (side (g % L) L) ∙ sym (rounded x g h has)
either x true g h has rep =
    let v = double_val 0 g (record { sign = true; size = g; has = has; rep = rep }) h (omega arith) in
    let e : from_zero (to_signed 63 (mul binary64 two-f x)) ≡ 0 = none_below g _ (trunc_val 63 L-pos (lt_of_lt_of_le L-pos (go g L)) (wide g L h) v) in
    (λ i. of_halves (e i) (worth (e i) (mul binary64 two-f x))) ∙ sym (halves-even-number 0 (worth 0 (mul binary64 two-f x)) refl)
    ∙ sym (rounded_below x g h has)
  where
    go : (g l : ℕ) → l ≤ 2 * g + 9223372036854775808 * l
    go g l = omega arith

    wide : (g l : ℕ) → g < 2251799813685248 * l → 2 * g < 2 * 0 + 9223372036854775808 * l
    wide g l k = omega arith

-- THE COUNT BY THE FLOAT: of every fraction of a day and every leap of at most 1 in size, document 01's float by the rule `even`
pub by-float : (f l : Float) → AsUnits f → WithinOne l → float_count f l ≡ count_by even f l
unfolding float_count half_millis twice count_by millis_of
by-float f l u h =
    let x = mul binary64 thousand_f (fraction_seconds f l) in
    let b = product_between f l u h in
    let o = own x (mul-fits binary64 thousand_f (fraction_seconds f l)) (val-finite b.val) in
    let s : b.val.size ≡ o.size = has-unique x b.val.sign o.sign b.val.size o.size L b.val.has o.has in
    either x o.sign o.size (subst (λ (k : ℕ). k < 2251799813685248 * L) s
    (signed_lt b.val.sign b.val.size b.p b.n (2251799813685248 * L) b.val.is b.high b.low)) o.has o.rep
