-- The refusals of the sizes, case by case, and what no refusal says. Assumes nothing.
use Prim.Native.Nat.{ℕ, ◌-◌, ◌/◌, ◌%◌, ◌<◌, ◌≤◌}
use native.Mathlib.Omega.{arith}
use mathlib.Core.Path.{◌≡◌, refl}
use mathlib.Core.Bool.{Bool, true, false, cond, ◌&&◌}
use lib.Dec.{eqb, leb}
use borrow.Author.Tests.{eq-eqb, ne_eqb, le-leb, lt-leb, leb-true}
use Rattle.line_up.specs.LineUp.{eight_each, line_refusal}

-- ---- the refusals of the sizes, by the outcomes of the tests
module _ (size1 size2 n first second room : ℕ) where
  pub broken_first : (size1 % 8 ≡ 0 → ⊥) → 14 ≡ line_refusal size1 size2 n first second room
  unfolding line_refusal
  broken_first a = rw (ne_eqb (size1 % 8) 0 a)

  pub broken_second : size1 % 8 ≡ 0 → (size2 % 8 ≡ 0 → ⊥) → 14 ≡ line_refusal size1 size2 n first second room
  unfolding line_refusal
  broken_second a b = rw (eq-eqb (size1 % 8) 0 a, ne_eqb (size2 % 8) 0 b)

  module _ (a : size1 % 8 ≡ 0) (b : size2 % 8 ≡ 0) where
    pub differs_first : eight_each size1 n ≡ false → 12 ≡ line_refusal size1 size2 n first second room
    unfolding line_refusal
    differs_first c = rw (eq-eqb (size1 % 8) 0 a, eq-eqb (size2 % 8) 0 b, c)

    pub differs_second : eight_each size1 n ≡ true → eight_each size2 n ≡ false → 12 ≡ line_refusal size1 size2 n first second room
    unfolding line_refusal
    differs_second c d = rw (eq-eqb (size1 % 8) 0 a, eq-eqb (size2 % 8) 0 b, c, d)

    module _ (c : eight_each size1 n ≡ true) (d : eight_each size2 n ≡ true) where
      pub past_first : n < first → 14 ≡ line_refusal size1 size2 n first second room
      unfolding line_refusal
      past_first e = rw (eq-eqb (size1 % 8) 0 a, eq-eqb (size2 % 8) 0 b, c, d, lt-leb first n e)

      pub past-second : first ≤ n → n - first < second → 14 ≡ line_refusal size1 size2 n first second room
      unfolding line_refusal
      past-second e f = rw (eq-eqb (size1 % 8) 0 a, eq-eqb (size2 % 8) 0 b, c, d, le-leb first n e, lt-leb second (n - first) f)

      module _ (e : first ≤ n) (f : second ≤ n - first) where
        pub too_many : 4294967295 < n → 13 ≡ line_refusal size1 size2 n first second room
        unfolding line_refusal
        too_many g = rw (eq-eqb (size1 % 8) 0 a, eq-eqb (size2 % 8) 0 b, c, d, le-leb first n e, le-leb second (n - first) f, lt-leb n 4294967295 g)

        pub too_few_places : n ≤ 4294967295 → room / 4 < n → 11 ≡ line_refusal size1 size2 n first second room
        unfolding line_refusal
        too_few_places g h = rw (
          eq-eqb (size1 % 8) 0 a,
          eq-eqb (size2 % 8) 0 b,
          c,
          d,
          le-leb first n e,
          le-leb second (n - first) f,
          le-leb n 4294967295 g,
          lt-leb n (room / 4) h,
        )

        pub not_refused : n ≤ 4294967295 → n ≤ room / 4 → 0 ≡ line_refusal size1 size2 n first second room
        unfolding line_refusal
        not_refused g h = rw (
          eq-eqb (size1 % 8) 0 a,
          eq-eqb (size2 % 8) 0 b,
          c,
          d,
          le-leb first n e,
          le-leb second (n - first) f,
          le-leb n 4294967295 g,
          le-leb n (room / 4) h,
        )

-- ---- what no refusal says

pub record Fine (n first second room : ℕ) : Type 0 where
  pub count1 : first ≤ n
  pub count2 : second ≤ n - first
  pub places : n ≤ room / 4
  pub small : n ≤ 4294967295

module _ (size1 size2 n first second room : ℕ) where
  fine_by : (b0 b1 b2 b3 b4 b5 b6 b7 : Bool) → leb first n ≡ b4 → leb second (n - first) ≡ b5 → leb n 4294967295 ≡ b6 → leb n (room / 4) ≡ b7
      → ◌≡◌ {A = ℕ} (cond (b0 && b1) (cond (b2 && b3) (cond (b4 && b5) (cond b6 (cond b7 0 11) 13) 14) 12) 14) 0 → Fine n first second room
  fine_by true true true true true true true true p4 p5 p6 p7 z = record {
    count1 = leb-true first n p4;
    count2 = leb-true second (n - first) p5;
    places = leb-true n (room / 4) p7;
    small = leb-true n 4294967295 p6;
  }
  fine_by true true true true true true true false p4 p5 p6 p7 z = let w : ⊥ = omega arith in absurd w
  fine_by true true true true true true false b7 p4 p5 p6 p7 z = let w : ⊥ = omega arith in absurd w
  fine_by true true true true true false b6 b7 p4 p5 p6 p7 z = let w : ⊥ = omega arith in absurd w
  fine_by true true true true false b5 b6 b7 p4 p5 p6 p7 z = let w : ⊥ = omega arith in absurd w
  fine_by true true true false b4 b5 b6 b7 p4 p5 p6 p7 z = let w : ⊥ = omega arith in absurd w
  fine_by true true false b3 b4 b5 b6 b7 p4 p5 p6 p7 z = let w : ⊥ = omega arith in absurd w
  fine_by true false b2 b3 b4 b5 b6 b7 p4 p5 p6 p7 z = let w : ⊥ = omega arith in absurd w
  fine_by false b1 b2 b3 b4 b5 b6 b7 p4 p5 p6 p7 z = let w : ⊥ = omega arith in absurd w

  pub fine : line_refusal size1 size2 n first second room ≡ 0 → Fine n first second room
  unfolding line_refusal
  fine z =
      fine_by (eqb (size1 % 8) 0) (eqb (size2 % 8) 0) (eight_each size1 n) (eight_each size2 n) (leb first n) (leb second (n - first)) (leb n 4294967295)
      (leb n (room / 4))
      refl refl refl refl z
