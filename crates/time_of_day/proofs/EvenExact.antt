-- A half millisecond to the even one, in exact numbers: on the grid and on days of whole seconds the count is a nearest whole number of milliseconds, so that
-- the time shown is within 0.5 ms; on 1959-12-31 it is within 0.501 ms. Assumes nothing.
use mathlib.Core.Path.{◌≡◌, refl, sym, ap, ◌∙◌, subst}
use mathlib.Core.Bool.{Bool, true, false, cond}
use Prim.Native.Nat.{ℕ, ◌+◌, ◌*◌, ◌/◌, ◌%◌, ◌^◌, ◌≤◌, ◌<◌}
use native.Mathlib.Nat.{mul_assoc, mul_left_comm, mul_right_comm, add-mul, mul-le-mul_right}
use native.Mathlib.Omega.{arith}
use lib.Dec.{T, lit<, lit≤}
use lib.IntN.{pos}
use lib.Ieee.{Float, binary64, of_bits, of_int, round, mul, lt, eq, fits}
use lib.Ieee.Exact.{HasValue}
use borrow.Author.Tests.{eq-eqb, lt-ltb}
use Rattle.floats.specs.Whole.{abs, nought, one}
use Rattle.rounding.specs.Value.{Val, Rounds}
use Rattle.rounding.proofs.Value.{mul_rounds, rounds-move, val-unscale, val-unique}
use Rattle.rounding.proofs.Exact.{exact-has}
use Rattle.rounding.proofs.Casts.{of_int_val, trunc_val}
use Rattle.rounding.proofs.Compare.{eq_val}
use Rattle.time_of_day.specs.Milliseconds.{whole_leap}
use Rattle.time_of_day.specs.TimeShown.{day_end, count_by}
use Rattle.time_of_day.specs.ExactTime.{minus_one_f, leap1959, Leap, little, second, first, minus_second, DayLength, TimeWithin}
use Rattle.time_of_day.specs.HalfEven.{two52_f, even, grid_units, worth, day_is_whole, in_whole, even_count}
use Rattle.time_of_day.specs.EvenPromise.{even_parts, even_most}
use Rattle.time_of_day.proofs.Rounded.{cut-is}
use Rattle.time_of_day.proofs.Fractions.{in_units, fraction-of, within-one, size_is, zero_val, one-val, minus-one-val}
use Rattle.time_of_day.proofs.Close.{close_501}
use Rattle.time_of_day.proofs.Shows.{count-near}
use Rattle.time_of_day.proofs.EvenSteps.{whole-test, count-in-whole, count-by-float}
use Rattle.time_of_day.proofs.EvenRule.{even-nearest, tie_even}
use Rattle.time_of_day.proofs.EvenFloat.{to-count, by-float}

-- ---- ON THE GRID the units are those of the fraction, and they are all of it
pub two52_val : Val two52_f 4503599627370496 0 1
unfolding of_bits
two52_val = record { sign = false; size = 4503599627370496; has = (refl, refl); is = refl }

module _ (f : Float) (F : ℕ) (v : Val f F 0 4503599627370496) (h : F < 4503599627370496) where
  -- the product with 2 ^ 52 is exact
  product : Val (mul binary64 f two52_f) F 0 1
  product = val-unscale F 1 4503599627370496 (lit< tt) (record { sign = r.sign; size = r.size; has = has; is = r.is })
    where
      plain : (F : ℕ) → F * 4503599627370496 + 0 * 0 + 0 ≡ F * 4503599627370496 + (F * 0 + 0 * 4503599627370496)
      plain F = omega arith

      r : Rounds binary64 (mul binary64 f two52_f) (F * 4503599627370496) 0 4503599627370496
      r = rounds-move (mul_rounds binary64 (lit< tt) (lit< tt) v two52_val) (plain F)

      is-size : r.size ≡ F * 4503599627370496
      is-size = size_is r.sign r.size (F * 4503599627370496) r.is

      has : HasValue (mul binary64 f two52_f) r.sign r.size 4503599627370496
      has =
          subst (λ (x : Float). HasValue x r.sign r.size 4503599627370496) (sym r.eq)
          (subst (λ (k : ℕ). HasValue (round binary64 r.sign k 4503599627370496) r.sign k 4503599627370496) (sym is-size)
          (exact-has r.sign F 52 52 (lit≤ tt) (lit≤ tt) (omega arith)))

  pub units-are : grid_units f ≡ F
  unfolding grid_units
  units-are = to-count _ F (cut-is F 0 _ (trunc_val 63 (lit< tt) (omega arith) (omega arith) product))

  pub all-worth : worth F (mul binary64 f two52_f) ≡ true
  unfolding worth
  all-worth =
      ap (λ (b : Bool). cond b (eq (of_int binary64 (pos F)) (mul binary64 f two52_f)) false) (lt-ltb F 4503599627370496 h)
      ∙ eq_val (lit< tt) (of_int_val (pos F) (omega arith) (omega arith)) product
      ∙ eq-eqb (F + 0) (F + 0) refl

  -- so whole numbers decide on a day of whole seconds, and else the float
  pub decided : (l : Float) → in_whole f l ≡ day_is_whole l
  decided l = whole-test f l F (worth F (mul binary64 f two52_f)) true (sym units-are) refl all-worth

  pub in_whole_numbers : (l : Float) → day_is_whole l ≡ true → even_count f l ≡ even false (F * day_end l) 4503599627370496
  in_whole_numbers l t = sym (count-in-whole f l F (day_end l) (sym units-are) refl (decided l ∙ t))

  -- a tie is even
  pub tie_is_even : (l : Float) → day_is_whole l ≡ true → 2 * (F * day_end l % 4503599627370496) ≡ 4503599627370496 → even_count f l % 2 ≡ 0
  tie_is_even l t e = ap (λ (z : ℕ). z % 2) (in_whole_numbers l t)
      ∙ tie_even (F * day_end l / 4503599627370496) (F * day_end l % 4503599627370496) 4503599627370496 e

-- ---- a nearest whole number of F * M / 2 ^ 52, times E, is within 1 / 2 of the exact time of a day of M ms
near-whole : (F M W E k : ℕ) → M * E ≡ 1000 * W → (2 * (k * 4503599627370496) ≤ 2 * (F * M) + 4503599627370496)
    × (2 * (F * M) ≤ 2 * (k * 4503599627370496) + 4503599627370496)
    → TimeWithin 2 1 (k * E) F (2 ^ 52) W E
near-whole F M W E k e near = record {
  over = go (k * E * 4503599627370496) (1000 * (F * W)) (4503599627370496 * E) _ _ _ left right (add-mul (2 * (F * M)) 4503599627370496 E)
      (mul-le-mul_right E near.0);
  under = go (1000 * (F * W)) (k * E * 4503599627370496) (4503599627370496 * E) _ _ _ right left (add-mul (2 * (k * 4503599627370496)) 4503599627370496 E)
      (mul-le-mul_right E near.1);
}
  where
    left : 2 * (k * 4503599627370496) * E ≡ 2 * (k * E * 4503599627370496)
    left = mul_assoc 2 (k * 4503599627370496) E ∙ ap (λ (z : ℕ). 2 * z) (mul_right_comm k 4503599627370496 E)

    right : 2 * (F * M) * E ≡ 2 * (1000 * (F * W))
    right = mul_assoc 2 (F * M) E ∙ ap (λ (z : ℕ). 2 * z) (mul_assoc F M E ∙ ap (λ (z : ℕ). F * z) e ∙ mul_left_comm F 1000 W)

    go : (a b d x y z : ℕ) → x ≡ 2 * a → y ≡ 2 * b → z ≡ y + d → x ≤ z → 2 * a ≤ 2 * b + 1 * d
    go a b d x y z p q r s = omega arith

-- ---- the days of whole seconds, and 1959-12-31
pub whole-0 : day_is_whole nought ≡ true
unfolding day_is_whole of_bits eq
whole-0 = refl

pub whole-1 : day_is_whole one ≡ true
unfolding day_is_whole of_bits eq abs
whole-1 = refl

pub whole-minus-1 : day_is_whole minus_one_f ≡ true
unfolding day_is_whole of_bits eq abs
whole-minus-1 = refl

pub not_1959 : day_is_whole leap1959 ≡ false
unfolding day_is_whole of_bits eq abs
not_1959 = refl

end-0 : day_end nought ≡ 86400000
unfolding day_end lt
end-0 = refl

end_1 : day_end one ≡ 86401000
unfolding day_end lt
end_1 = refl

end-minus-1 : day_end minus_one_f ≡ 86399000
unfolding day_end of_bits lt
end-minus-1 = refl

counts-one : whole_leap one ≡ one
unfolding whole_leap lt abs
counts-one = refl

counts-minus-one : whole_leap minus_one_f ≡ minus_one_f
unfolding whole_leap of_bits lt abs
counts-minus-one = refl

counts-1959 : whole_leap leap1959 ≡ leap1959
unfolding whole_leap lt abs
counts-1959 = refl

-- the length of a day of whole seconds, from the value of its leap
lasts : (W E p n q m : ℕ) (M : ℕ) → W + n ≡ 86400 * E + p → p + m ≡ q + n → M * E + 1000 * m ≡ 86400000 * E + 1000 * q → M * E ≡ 1000 * W
lasts W E p n q m M e f g = omega arith

module _ (f : Float) (F : ℕ) (t : T (fits binary64 f)) (v : Val f F 0 4503599627370496) (h : F < 4503599627370496) where
  by_whole : (x l : Float) (W E : ℕ) → whole_leap x ≡ l → day_is_whole l ≡ true → day_end l * E ≡ 1000 * W
      → TimeWithin (even_parts x) (even_most x) (even_count f (whole_leap x) * E) F (2 ^ 52) W E
  by_whole x l W E el w e =
      subst (λ (b : Bool). TimeWithin (cond b 2 1000) (cond b 1 501) (even_count f (whole_leap x) * E) F (2 ^ 52) W E) (sym (ap day_is_whole el ∙ w))
      (subst (λ (k : ℕ). TimeWithin 2 1 (k * E) F (2 ^ 52) W E) (sym (ap (even_count f) el ∙ in_whole_numbers f F v h l w))
      (near-whole F (day_end l) W E (even false (F * day_end l) 4503599627370496) e (even-nearest.near false (F * day_end l) 4503599627370496 (lit< tt))))

  -- the leap of a day, and its value in two ways
  long : (x l : Float) (W E q m M : ℕ) → whole_leap x ≡ l → Val l q m E → DayLength x W E → day_end l ≡ M → M * E + 1000 * m ≡ 86400000 * E + 1000 * q
      → day_end l * E ≡ 1000 * W
  long x l W E q m M el w d em g =
      ap (λ (k : ℕ). k * E) em ∙ lasts W E d.p d.n q m M d.is (val-unique (subst (λ (z : Float). Val z d.p d.n E) el d.leap_is) w) g

  -- EVEN EXACT: within 1 / 2 ms on every day of whole seconds, within 0.501 ms on 1959-12-31
  pub even-exact : (x : Float) → Leap x → (W E : ℕ) → 0 < E → DayLength x W E
      → TimeWithin (even_parts x) (even_most x) (even_count f (whole_leap x) * E) F (2 ^ 52) W E
  unfolding whole_leap
  even-exact x (little e) W E G d =
      let el : whole_leap x ≡ nought = ap (λ (b : Bool). cond b x nought) e in
      by_whole x nought W E el whole-0 (long x nought W E 0 0 86400000 el (zero_val E) d end-0 refl)
  even-exact x second W E G d = by_whole one one W E counts-one whole-1 (long one one W E E 0 86401000 counts-one (one-val E) d end_1 (go E))
    where
      go : (E : ℕ) → 86401000 * E + 1000 * 0 ≡ 86400000 * E + 1000 * E
      go E = omega arith
  even-exact x minus_second W E G d =
      by_whole minus_one_f minus_one_f W E counts-minus-one whole-minus-1
      (long minus_one_f minus_one_f W E 0 E 86399000 counts-minus-one (minus-one-val E) d end-minus-1 (go E))
    where
      go : (E : ℕ) → 86399000 * E + 1000 * E ≡ 86400000 * E + 1000 * 0
      go E = omega arith
  even-exact x first W E G d =
      let u = fraction-of f F 4503599627370496 (lit< tt) v h in
      let count : even_count f (whole_leap leap1959) ≡ count_by even f (whole_leap leap1959) =
      sym (count-by-float f (whole_leap leap1959) (decided f F v h (whole_leap leap1959) ∙ ap day_is_whole counts-1959 ∙ not_1959))
      ∙ by-float f (whole_leap leap1959) (in_units f t u) (within-one leap1959 first) in
      subst (λ (b : Bool). TimeWithin (cond b 2 1000) (cond b 1 501) (even_count f (whole_leap leap1959) * E) F (2 ^ 52) W E)
      (sym (ap day_is_whole counts-1959 ∙ not_1959))
      (subst (λ (k : ℕ). TimeWithin 1000 501 (k * E) F (2 ^ 52) W E) (sym count)
      (close_501 (count_by even f (whole_leap leap1959) * E) F (2 ^ 52) W E (count-near even even-nearest f leap1959 t u first F 4503599627370496 W E G v d)))
