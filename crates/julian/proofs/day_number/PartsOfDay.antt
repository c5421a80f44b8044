-- A midnight and a part of its day: the day number and the fraction, found by less than the whole computation. Floats that are equal from 1.0 on are the same.
-- Assumes nothing.
use mathlib.Core.Path.{◌≡◌, refl, sym, ap, subst, ◌∙◌}
use mathlib.Core.Bool.{Bool, true, false, false≢true}
use Prim.Native.Nat.{ℕ, zero, suc, ◌+◌, ◌*◌, ◌^◌, ◌<◌, ◌≤◌, min}
use native.Mathlib.Nat.{zero-mul, mul-le-mul_right, lt_of_le_of_lt, mul-lt-mul_of_pos_right, lt_of_mul-lt-mul_right}
use native.Mathlib.Omega.{arith}
use lib.Dec.{T, eqb→eq, lit<}
use lib.IntN.{ℤ, pos, negsuc, ◌+ℤ◌, ◌-ℤ◌, +ℤ_idr, +ℤ-neg_ℤ_cancel}
use lib.Ieee.{Float, nan, inf, fin, binary64, fits, add, sub, lt, le, eq, of_bits, to_signed}
use lib.Ieee.Exact.{HasValue}
use lib.Ieee.Fits.{sub-fits}
use lib.Ieee.Bits.{is_true}
use lib.Ieee.Scale.{finite}
use borrow.Author.Tests.{lt-leb}
use mir.Syntax.{w64}
use mir.Val.{to_z, of_z}
use Rattle.refusals.specs.Outcome.{answer}
use Rattle.floats.specs.declared.NearestWhole.{NearestWhole}
use Rattle.floats.specs.Whole.{nought, one, nearest_int}
use Rattle.floats.specs.NearestWhole.{nearest_whole}
use Rattle.floats.proofs.Laws.{yes}
use Rattle.rounding.specs.Value.{Val, L, plus_z, minus_z}
use Rattle.rounding.proofs.Value.{L-pos, add_rounds, val-move}
use Rattle.rounding.proofs.Own.{own, plus-of, minus-of}
use Rattle.rounding.proofs.Compare.{lt_true, le_true, le_val, le_show, lt_show, eq_val}
use Rattle.rounding.proofs.Unique.{float-unique}
use Rattle.julian.specs.day_number.DayNumber.{accepted, rest, c_djmax}
use Rattle.julian.specs.day_number.Answer.{day_number_and_fraction}
use Rattle.julian.specs.day_number.Ranges.{InDays}
use Rattle.julian.specs.day_number.Midnights.{day_from, Midnight}
use Rattle.julian.proofs.day_number.Answer.{answered}
use Rattle.julian.proofs.day_number.Ranges.{day-read}
use Rattle.julian.proofs.day_number.Units.{one-L, nought-L}
use Rattle.julian.proofs.day_number.SignedUnits.{has-val}
use Rattle.julian.proofs.day_number.MinusZero.{Unsigned, add_unsigned}
use Rattle.julian.proofs.day_number.NearestInt.{Whole, whole}
use Rattle.julian.proofs.day_number.Parts.{left-off}
use Rattle.julian.proofs.day_number.DayInRange.{gives}
use Rattle.julian.proofs.day_number.Midnight.{Quick, quick, quick_borrowed, minus_one, same-value, held, nought-unsigned, one-fits}

-- ---- equal floats
module _ (x m : Float) (fx : T (fits binary64 x)) (fm : T (fits binary64 m)) (e : eq x m ≡ true) (l : le one m ≡ true) where
  level : (a b : Bool) (c k : ℕ) → HasValue x a c L → HasValue m b k L → plus-of a c + minus-of b k ≡ plus-of b k + minus-of a c
  level a b c k h i = eqb→eq (plus-of a c + minus-of b k) (plus-of b k + minus-of a c) (subst T (eq_val L-pos (has-val x a c L h) (has-val m b k L i)) (yes e))

  large : (b : Bool) (k : ℕ) → HasValue m b k L → L + minus-of b k ≤ plus-of b k + 0
  large b k i = le_true L-pos one-L (has-val m b k L i) l

  by_value : (a b : Bool) (c k : ℕ) → HasValue x a c L → HasValue m b k L → x ≡ m
  by_value false false c k h i =
      float-unique x m false c L L-pos fx fm h (subst (λ (z : ℕ). HasValue m false z L) (same (level false false c k h i)) i)
    where
      same : c + 0 ≡ k + 0 → k ≡ c
      same d = omega arith
  by_value true false c k h i = let z : ⊥ = omega (arith, level true false c k h i, large false k i, L-pos) in absurd z
  by_value a true c k h i = let z : ⊥ = omega (arith, large true k i, L-pos) in absurd z

pub same_float : (x m : Float) → T (fits binary64 x) → T (fits binary64 m) → eq x m ≡ true → le one m ≡ true → x ≡ m
unfolding eq le lt
same_float x nan fx fm e l = absurd (false≢true l)
same_float x (inf true) fx fm e l = absurd (false≢true l)
same_float nan (inf false) fx fm e l = absurd (false≢true e)
same_float (inf true) (inf false) fx fm e l = absurd (false≢true e)
same_float (inf false) (inf false) fx fm e l = refl
same_float (fin s a d) (inf false) fx fm e l = absurd (false≢true e)
same_float nan (fin t b i) fx fm e l = absurd (false≢true e)
same_float (inf s) (fin t b i) fx fm e l = absurd (false≢true e)
same_float (fin s a d) (fin t b i) fx fm e l =
    let o = own (fin s a d) fx tt in
    let p = own (fin t b i) fm tt in
    by_value (fin s a d) (fin t b i) fx fm e l o.sign p.sign o.size p.size o.has p.has

-- ---- the day of a midnight from 1.0 to 1e9
max_L : Val c_djmax (1000000000 * L) 0 L
unfolding L of_bits
max_L = record { sign = false; size = 1000000000 * L; has = (refl, refl); is = refl }

pub day-in-days : (x : Float) → T (fits binary64 x) → le one x ≡ true → le x c_djmax ≡ true → InDays (day_from x)
unfolding eq le lt of_bits day_from
day-in-days nan f l h = absurd (false≢true l)
day-in-days (inf true) f l h = absurd (false≢true l)
day-in-days (inf false) f l h = absurd (false≢true h)
day-in-days (fin s m e) f l h = let o = own (fin s m e) f tt in go o.sign o.size o.has
  where
    go : (a : Bool) (X : ℕ) → HasValue (fin s m e) a X L → InDays (to_signed 63 (nearest_int (fin s m e)))
    go true X v = let z : ⊥ = omega (arith, le_true L-pos one-L (has-val (fin s m e) true X L v) l, L-pos) in absurd z
    go false X v =
        let w = whole (fin s m e) false X f v in
        let b : X ≤ 1000000000 * L = high (le_true L-pos (has-val (fin s m e) false X L v) max_L h) in
        let n : w.0 ≤ 1000000000 = at_most w.0 X b (w.1.numbers.tight (few X b)) in
        record { top = omega (arith, w.1.plus); bottom = omega (arith, w.1.minus) }
      where
        high : X + 0 ≤ 1000000000 * L + 0 → X ≤ 1000000000 * L
        high k = omega arith

        few : (X : ℕ) → X ≤ 1000000000 * L → X < 2 ^ 50 * L
        few X b = lt_of_le_of_lt b (mul-lt-mul_of_pos_right (lit< tt) L-pos)

        at_most : (A X : ℕ) → X ≤ 1000000000 * L → 8 * (A * L) ≤ 8 * X + 5 * L → A ≤ 1000000000
        at_most A X b t = let k : A < 1000000001 = lt_of_mul-lt-mul_right L (omega (arith, L-pos)) in omega arith

-- ---- the day and the fraction by the whole numbers of the parts
no_more : (z : ℤ) → z ≡ z +ℤ pos 0 +ℤ pos 0 +ℤ (pos 0 -ℤ pos 0)
no_more z = sym (+ℤ_idr (z +ℤ pos 0 +ℤ pos 0) ∙ +ℤ_idr (z +ℤ pos 0) ∙ +ℤ_idr z)

one-back : (z : ℤ) → z ≡ z +ℤ pos 1 +ℤ pos 0 +ℤ (pos 0 -ℤ pos 1)
one-back z = sym (ap (λ (u : ℤ). u +ℤ (pos 0 -ℤ pos 1)) (+ℤ_idr (z +ℤ pos 1)) ∙ +ℤ-neg_ℤ_cancel z (pos 1))

module _ (x y : Float) (fx : T (fits binary64 x)) (fy : T (fits binary64 y)) (m : Midnight x) (acc : accepted x y ≡ true) (b : NearestWhole)
    (eb : b ≡ nearest_whole y) (z : Float) where
  abbrev n : ℤ
  n = to_signed 63 (nearest_int x)

  day : (down : ℕ) → Quick (sub binary64 x (nearest_int x)) (sub binary64 y b.value) z down
      → n ≡ to_z w64 (of_z w64 n) +ℤ to_z w64 (of_z w64 b.number) +ℤ pos 0 +ℤ (pos 0 -ℤ pos down)
      → day_number_and_fraction x y ≡ answer (record { day = day_from x; fraction = z })
  unfolding day_from nearest_whole
  day down q e =
      answered x y acc
      ∙ ap answer (sym (gives x y fx fy acc (nearest_whole x) b refl eb _ q.summed _ q.normal n e)
      ∙ ap (λ (u : ℤ). record { day = u; fraction = z }) (day-read n m.in-days))

  pub same_number : Quick (sub binary64 x (nearest_int x)) (sub binary64 y b.value) z 0 → to_z w64 (of_z w64 b.number) ≡ pos 0
      → day_number_and_fraction x y ≡ answer (record { day = day_from x; fraction = z })
  unfolding day_from
  same_number q e = day 0 q
      (no_more n ∙ ap (λ (u : ℤ). u +ℤ pos 0 +ℤ pos 0 +ℤ (pos 0 -ℤ pos 0)) (sym (day-read n m.in-days))
      ∙ ap (λ (u : ℤ). to_z w64 (of_z w64 n) +ℤ u +ℤ pos 0 +ℤ (pos 0 -ℤ pos 0)) (sym e))

  pub next-number : Quick (sub binary64 x (nearest_int x)) (sub binary64 y b.value) z 1 → to_z w64 (of_z w64 b.number) ≡ pos 1
      → day_number_and_fraction x y ≡ answer (record { day = day_from x; fraction = z })
  unfolding day_from
  next-number q e = day 1 q
      (one-back n ∙ ap (λ (u : ℤ). u +ℤ pos 1 +ℤ pos 0 +ℤ (pos 0 -ℤ pos 1)) (sym (day-read n m.in-days))
      ∙ ap (λ (u : ℤ). to_z w64 (of_z w64 n) +ℤ u +ℤ pos 0 +ℤ (pos 0 -ℤ pos 1)) (sym e))

-- ---- a part from 0.0 to below 1.0 is the fraction of the day, without the sign of a zero
integer_of : (z : ℤ) (k : ℕ) → plus_z z ≡ k → minus_z z ≡ 0 → z ≡ pos k
integer_of (pos n) k p q = ap pos p
integer_of (negsuc n) k p q = let w : ⊥ = omega (arith, q) in absurd w

finite-part : (y : Float) → le nought y ≡ true → lt y one ≡ true → T (finite y)
unfolding le lt eq
finite-part nan l h = absurd (false≢true l)
finite-part (inf true) l h = absurd (false≢true l)
finite-part (inf false) l h = absurd (false≢true h)
finite-part (fin s m e) l h = tt

minus-one-L : Val minus_one 0 L L
unfolding L
minus-one-L = record { sign = true; size = L; has = (refl, refl); is = refl }

module _ (x y : Float) (fx : T (fits binary64 x)) (fy : T (fits binary64 y)) (m : Midnight x) (acc : accepted x y ≡ true) where
  abbrev g : Float
  g = rest y

  abbrev t : Float
  t = add binary64 nought g

  fg : T (fits binary64 g)
  unfolding rest
  fg = sub-fits binary64 y (nearest_int y)

  ut : Unsigned t
  ut = add_unsigned g fg nought-unsigned

  t-val : {P N : ℕ} → Val g P N L → Val t P N L
  t-val {P} {N} v = val-move (held fg v (one_way P N) (add_rounds binary64 L-pos nought-L v)) (other P N)
    where
      one_way : (a b : ℕ) → a + (0 + b) ≡ b + (0 + a)
      one_way a b = omega arith

      other : (a b : ℕ) → 0 + a + b ≡ a + (0 + b)
      other a b = omega arith

  -- a float of y's value with no sign of a zero is 0.0 + y
  same : (z : Float) (P N : ℕ) → Unsigned z → Val z P N L → Val y P N L → z ≡ add binary64 nought y
  same z P N u v w = same-value z (add binary64 nought y) P N (0 + P) (0 + N) u (add_unsigned y fy nought-unsigned) v
      (held fy w (one_way P N) (add_rounds binary64 L-pos nought-L w)) (other P N)
    where
      one_way : (a b : ℕ) → a + (0 + b) ≡ b + (0 + a)
      one_way a b = omega arith

      other : (a b : ℕ) → a + (0 + b) ≡ 0 + a + b
      other a b = omega arith

  abbrev Found : Type 0
  Found = day_number_and_fraction x y ≡ answer (record { day = day_from x; fraction = add binary64 nought y })

  read : (k : ℕ) → to_signed 63 (nearest_int y) ≡ pos k → to_z w64 (of_z w64 (nearest_whole y).number) ≡ to_z w64 (of_z w64 (pos k))
  unfolding nearest_whole
  read k e = ap (λ (z : ℤ). to_z w64 (of_z w64 z)) e

  -- the nearest whole number is 0
  at_none : (Y : ℕ) → Val y Y 0 L → Val g Y 0 L → to_signed 63 (nearest_int y) ≡ pos 0 → Y < L → Found
  unfolding rest nearest_whole
  at_none Y vy vg e h =
      same_number x y fx fy m acc (nearest_whole y) refl t
      (quick (sub binary64 x (nearest_int x)) g (sub-fits binary64 x (nearest_int x)) fg m.before_noon
      (is_true (le nought t) (le_show L-pos nought-L (t-val vg) (omega arith)))
      (is_true (lt t one) (lt_show L-pos (t-val vg) one-L (omega arith))))
      (read 0 e)
      ∙ ap (λ (z : Float). answer (record { day = day_from x; fraction = z })) (same t Y 0 ut (t-val vg) vy)

  -- it is 1, and a day is borrowed
  at_one : (Y : ℕ) → Val y Y 0 L → Val g Y L L → to_signed 63 (nearest_int y) ≡ pos 1 → Y < L → 0 < Y → Found
  unfolding rest nearest_whole
  at_one Y vy vg e h k =
      let z = add binary64 t one in
      let vz : Val z Y 0 L = val-move (held fy vy (omega arith) (add_rounds binary64 L-pos (t-val vg) one-L)) (omega arith) in
      next-number x y fx fy m acc (nearest_whole y) refl z
      (quick_borrowed (sub binary64 x (nearest_int x)) g (sub-fits binary64 x (nearest_int x)) fg m.before_noon
      (le_val L-pos nought-L (t-val vg) ∙ lt-leb (0 + L) (Y + 0) (omega arith))
      (is_true (lt minus_one t) (lt_show L-pos minus-one-L (t-val vg) (omega arith)))
      (is_true (lt z one) (lt_show L-pos vz one-L (omega arith))))
      (read 1 e)
      ∙ ap (λ (w : Float). answer (record { day = day_from x; fraction = w })) (same z Y 0 (add_unsigned one one-fits ut) vz vy)

  by_number : (Y A : ℕ) → Val y Y 0 L → Val g Y (A * L) L → to_signed 63 (nearest_int y) ≡ pos A → Y < L → 8 * (A * L) ≤ 8 * Y + 5 * L → Found
  by_number Y zero vy vg e h k = at_none Y vy (val-move vg (omega arith)) e h
  by_number Y (suc zero) vy vg e h k = at_one Y vy (val-move vg (omega arith)) e h (omega (arith, L-pos))
  by_number Y (suc (suc A)) vy vg e h k =
      let l : 2 * L ≤ suc (suc A) * L = mul-le-mul_right L (omega arith) in
      let w : ⊥ = omega (arith, L-pos) in absurd w

  -- a part's sign, size and nearest whole number
  by_size : (s : Bool) (Y A : ℕ) → HasValue y s Y L → Whole (nearest_int y) s Y A → le nought y ≡ true → lt y one ≡ true → Found
  by_size false Y A v w ly ty =
      let vy = has-val y false Y L v in
      let h : Y < L = plain (lt_true L-pos vy one-L ty) in
      let b : Y < 2 ^ 50 * L = few Y h in
      let k = w.numbers.tight b in
      let n : A < 9223372036854775807 = at_most A Y h k in
      by_number Y A vy (val-move (left-off y false Y A v w b) (omega arith))
      (integer_of (to_signed 63 (nearest_int y)) A (w.plus ∙ uncut A n) w.minus) h k
    where
      plain : Y + 0 < L + 0 → Y < L
      plain l = omega arith

      few : (Y : ℕ) → Y < L → Y < 2 ^ 50 * L
      few Y l = omega (arith, L-pos)

      at_most : (A Y : ℕ) → Y < L → 8 * (A * L) ≤ 8 * Y + 5 * L → A < 9223372036854775807
      at_most A Y l k = let q : A < 2 = lt_of_mul-lt-mul_right L (omega (arith, L-pos)) in omega arith

      uncut : (A : ℕ) → A < 9223372036854775807 → min A 9223372036854775807 ≡ A
      uncut A l = omega arith
  by_size true Y A v w ly ty =
      let vy = has-val y true Y L v in
      let z : Y ≡ 0 = plain (le_true L-pos nought-L vy ly) in
      let b : Y < 2 ^ 50 * L = few Y z in
      let k = w.numbers.tight b in
      let n : A ≡ 0 = none A Y z k in
      let o : A * L ≡ 0 = ap (λ (u : ℕ). u * L) n ∙ zero-mul L in
      by_number Y A (val-move vy (omega arith)) (val-move (left-off y true Y A v w b) (omega arith))
      (integer_of (to_signed 63 (nearest_int y)) A (w.plus ∙ sym n) (w.minus ∙ uncut A n)) (omega (arith, L-pos)) k
    where
      plain : 0 + Y ≤ 0 + 0 → Y ≡ 0
      plain l = omega arith

      few : (Y : ℕ) → Y ≡ 0 → Y < 2 ^ 50 * L
      few Y l = omega (arith, L-pos)

      none : (A Y : ℕ) → Y ≡ 0 → 8 * (A * L) ≤ 8 * Y + 5 * L → A ≡ 0
      none A Y l k = let q : A < 1 = lt_of_mul-lt-mul_right L (omega (arith, L-pos)) in omega arith

      uncut : (A : ℕ) → A ≡ 0 → min A 9223372036854775808 ≡ 0
      uncut A l = omega arith

  pub part-of-day : le nought y ≡ true → lt y one ≡ true → Found
  part-of-day ly ty =
      let o = own y fy (finite-part y ly ty) in
      let w = whole y o.sign o.size fy o.has in
      by_size o.sign o.size w.0 o.has w.1 ly ty
