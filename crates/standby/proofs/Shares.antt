-- The two parts of a total, both rounded down: they are at most the total, and leave nothing or one cent. Assumes nothing.
use mathlib.Core.Path.{◌≡◌, ap}
use Prim.Native.Nat.{ℕ, ◌+◌, ◌*◌, ◌≤◌, ◌<◌}
use native.Mathlib.Omega.{arith}
use native.Mathlib.Nat.{mul-add, add-mul, div-add-mod', mod-lt, le_of_mul-le-mul_right, lt_of_mul-lt-mul_right}
use borrow.Author.Tests.{lt-ltb, le-ltb}
use Rattle.standby.specs.Bills.{share_down, remainder, cent_left, bill, shares}

module _ (total a b : ℕ) (h : 0 < a + b) where
  abbrev m : ℕ
  m = a + b

  -- the two parts and their remainders, each times all the metres
  first-whole : share_down total a m * m + remainder total a m ≡ total * a
  first-whole = div-add-mod' (total * a) m

  second-whole : share_down total b m * m + remainder total b m ≡ total * b
  second-whole = div-add-mod' (total * b) m

  abbrev both : ℕ
  both = share_down total a m + share_down total b m

  both_whole : both * m + (remainder total a m + remainder total b m) ≡ total * m
  both_whole = omega (arith, first-whole, second-whole, add-mul (share_down total a m) (share_down total b m) m, mul-add total a b)

  pub parts-at-most : both ≤ total
  parts-at-most = le_of_mul-le-mul_right {k = m} (omega (arith, both_whole)) h

  left_is : both + cent_left total a b ≡ total
  left_is = omega (arith, parts-at-most)

  pub left-whole : cent_left total a b * m ≡ remainder total a m + remainder total b m
  left-whole = omega (arith, both_whole, ap (λ (x : ℕ). x * m) left_is, add-mul both (cent_left total a b) m)

  pub left-at-most-one : cent_left total a b ≤ 1
  left-at-most-one =
      let p = mod-lt (total * a) h in
      let q = mod-lt (total * b) h in
      let r : cent_left total a b < 2 = lt_of_mul-lt-mul_right m (omega (arith, left-whole, p, q)) in
      omega (arith, r)

  -- ---- by the order of the remainders
  pub to_second : (q : ℕ) → remainder total a m < remainder total b m
      → bill q (share_down total a m) (share_down total b m + cent_left total a b) ≡ shares q total a b
  unfolding shares
  to_second q g = rw (lt-ltb (remainder total a m) (remainder total b m) g)

  pub to_first : (q : ℕ) → remainder total b m ≤ remainder total a m
      → bill q (share_down total a m + cent_left total a b) (share_down total b m) ≡ shares q total a b
  unfolding shares
  to_first q g = rw (le-ltb (remainder total a m) (remainder total b m) g)
