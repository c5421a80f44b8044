-- The steps of a half millisecond to the even one: the product of 79 bits in halves of 26, and what each test of the code says. Assumes nothing.
use mathlib.Core.Path.{◌≡◌, refl, sym, ap, ◌∙◌}
use mathlib.Core.Bool.{Bool, true, false, cond}
use Prim.Native.Nat.{ℕ, ◌+◌, ◌*◌, ◌/◌, ◌%◌, ◌≤◌, ◌<◌}
use native.Mathlib.Nat.{mul_comm, mul_assoc, add-mul, mul-le-mul_right, div-add-mod'}
use native.Mathlib.Omega.{arith}
use lib.Ieee.{Float, binary64, of_int, mul, eq, to_signed}
use lib.IntN.{ℤ, pos}
use borrow.Author.Tests.{eq-eqb, ne_eqb, lt-ltb, le-ltb, ltb-true}
use lib.Dec.{ltb}
use Rattle.time_of_day.specs.TimeShown.{from_zero, day_end}
use Rattle.time_of_day.specs.HalfEven.{two52_f, nearest_even, even, grid_units, worth, day_is_whole, twice, half_millis, of_halves, float_count, in_whole}
use Rattle.time_of_day.specs.HalfEven.{even_count}

-- ---- the product in two parts
pub in_parts : (u y : ℕ) → u * y ≡ 67108864 * (u / 67108864 * y) + u % 67108864 * y
in_parts u y = ap (λ (z : ℕ). z * y) (sym (div-add-mod' u 67108864)) ∙ add-mul (u / 67108864 * 67108864) (u % 67108864) y
    ∙ ap (λ (z : ℕ). z + u % 67108864 * y) (ap (λ (z : ℕ). z * y) (mul_comm (u / 67108864) 67108864) ∙ mul_assoc 67108864 (u / 67108864) y)

quotient : (n a b : ℕ) → n ≡ 67108864 * a + b → n / 4503599627370496 ≡ (a + b / 67108864) / 67108864
quotient n a b e = omega arith

remainder : (n a b : ℕ) → n ≡ 67108864 * a + b → n % 4503599627370496 ≡ (a + b / 67108864) % 67108864 * 67108864 + b % 67108864
remainder n a b e = omega arith

module _ (u y : ℕ) where
  abbrev low : ℕ
  low = u % 67108864 * y

  abbrev high : ℕ
  high = u / 67108864 * y

  pub halves-even : nearest_even ((high + low / 67108864) / 67108864) ((high + low / 67108864) % 67108864 * 67108864 + low % 67108864) 4503599627370496 ≡ even
      false (u * y) 4503599627370496
  halves-even = sym (λ i. nearest_even (quotient (u * y) high low (in_parts u y) i) (remainder (u * y) high low (in_parts u y) i) 4503599627370496)

-- a part is at most 2 ^ 26 - 1 times the day
pub part-most : (x y : ℕ) → x < 67108864 → x * y ≤ 67108863 * y
part-most x y h = mul-le-mul_right y (omega arith)

-- ---- what the tests say
module _ (whole r d : ℕ) where
  pub at_half : 2 * r ≡ d → whole + whole % 2 ≡ nearest_even whole r d
  unfolding nearest_even
  at_half e = simp (eq-eqb _ _ e)

  pub below_half : 2 * r < d → whole ≡ nearest_even whole r d
  unfolding nearest_even
  below_half h = simp (ne_eqb (2 * r) d (λ e. omega arith), lt-ltb _ _ h)

  pub above_half : d < 2 * r → whole + 1 ≡ nearest_even whole r d
  unfolding nearest_even
  above_half h = simp (ne_eqb (2 * r) d (λ e. omega arith), le-ltb (2 * r) d (omega arith))

module _ (j : ℕ) (all : Bool) where
  pub halves-even-number : j % 2 ≡ 0 → j / 2 ≡ of_halves j all
  unfolding of_halves
  halves-even-number e = simp (eq-eqb _ _ e)

  pub halves-all : j % 2 ≡ 1 → all ≡ true → j / 2 + j / 2 % 2 ≡ of_halves j all
  unfolding of_halves
  halves-all e t = simp (ne_eqb (j % 2) 0 (λ z. omega arith), t)

  pub halves-more : j % 2 ≡ 1 → all ≡ false → j / 2 + 1 ≡ of_halves j all
  unfolding of_halves
  halves-more e t = simp (ne_eqb (j % 2) 0 (λ z. omega arith), t)

pub worth-small : (n : ℕ) (x : Float) → worth n x ≡ true → n < 4503599627370496
unfolding worth
worth-small n x = go (ltb n 4503599627370496) refl
  where
    go : (b : Bool) → ltb n 4503599627370496 ≡ b → cond b (eq (of_int binary64 (pos n)) x) false ≡ true → n < 4503599627370496
    go true e t = ltb-true n 4503599627370496 e
    go false e t = let z : ◌≡◌ {A = ℕ} 0 1 = cc in absurd (omega arith)

-- ---- what the code's results put together
module _ (f l : Float) where
  pub whole-test : (u : ℕ) (w b : Bool) → u ≡ grid_units f → w ≡ worth u (mul binary64 f two52_f) → w ≡ b → in_whole f l ≡ cond b (day_is_whole l) false
  unfolding in_whole
  whole-test u w b eu ew e = ap (λ (z : Bool). cond z (day_is_whole l) false) (ap (λ (n : ℕ). worth n (mul binary64 f two52_f)) (sym eu) ∙ sym ew ∙ e)

  pub whole-small : in_whole f l ≡ true → grid_units f < 4503599627370496
  unfolding in_whole
  whole-small = go (worth (grid_units f) (mul binary64 f two52_f)) refl
    where
      go : (b : Bool) → worth (grid_units f) (mul binary64 f two52_f) ≡ b → cond b (day_is_whole l) false ≡ true → grid_units f < 4503599627370496
      go true e t = worth-small (grid_units f) (mul binary64 f two52_f) e
      go false e t = let z : ◌≡◌ {A = ℕ} 0 1 = cc in absurd (omega arith)

  pub count-in-whole : (u d : ℕ) → u ≡ grid_units f → d ≡ day_end l → in_whole f l ≡ true → even false (u * d) 4503599627370496 ≡ even_count f l
  unfolding even_count
  count-in-whole u d eu ed t = (λ i. even false (eu i * ed i) 4503599627370496)
      ∙ sym (ap (λ (b : Bool). cond b (even false (grid_units f * day_end l) 4503599627370496) (float_count f l)) t)

  pub count-by-float : in_whole f l ≡ false → float_count f l ≡ even_count f l
  unfolding even_count
  count-by-float t = sym (ap (λ (b : Bool). cond b (even false (grid_units f * day_end l) 4503599627370496) (float_count f l)) t)

  pub float_is : (p : Float) (z : ℤ) (j : ℕ) (w : Bool) → p ≡ twice f l → z ≡ to_signed 63 p → j ≡ from_zero z → w ≡ worth j p → of_halves j w ≡ float_count f l
  unfolding float_count half_millis
  float_is p z j w ep ez ej ew =
      let e : j ≡ from_zero (to_signed 63 (twice f l)) = ej ∙ ap from_zero (ez ∙ ap (to_signed 63) ep) in
      λ i. of_halves (e i) ((ew ∙ (λ k. worth (e k) (ep k))) i)
