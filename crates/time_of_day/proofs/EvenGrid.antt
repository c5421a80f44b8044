-- Whole numbers decide only for fractions on the grid: where they do, the fraction is exactly so many units of 2 ^ -52. Assumes nothing.
use mathlib.Core.Path.{◌≡◌, refl, sym, ap, ◌∙◌, subst, subst₂}
use mathlib.Core.Bool.{Bool, true, false, cond}
use Prim.Native.Nat.{ℕ, ◌+◌, ◌*◌, ◌^◌, ◌≤◌, ◌<◌}
use native.Mathlib.Nat.{lt_of_lt_of_le, mul_comm, mul_assoc, mul-one, one-mul, zero-mul}
use lib.Pow.{pow-add}
use native.Mathlib.Omega.{arith}
use lib.Dec.{T, ltb, lit<, lit≤}
use lib.IntN.{pos}
use lib.Ieee.{Float, binary64, of_int, mul, eq, fits}
use borrow.Author.Tests.{ltb-true, eqb-true}
use Rattle.rounding.specs.Value.{Val, Rounds, L, InUnit}
use Rattle.rounding.proofs.Value.{L-pos, mul_rounds, rounds-move, val-scale, val-unscale, val-finite, has-unique}
use Rattle.rounding.proofs.Own.{Rep, own}
use Rattle.rounding.proofs.Sterbenz.{rounds-rep}
use Rattle.rounding.proofs.Casts.{of_int_val}
use Rattle.rounding.proofs.Compare.{eq_val}
use Rattle.time_of_day.specs.HalfEven.{two52_f, grid_units, worth, day_is_whole, in_whole}
use Rattle.time_of_day.proofs.Fractions.{AsUnits, in_units, size_is}
use Rattle.time_of_day.proofs.EvenExact.{two52_val}

scaled_rep : (g : ℕ) → Rep g → Rep (g * 4503599627370496)
scaled_rep g r = record {
  q = r.q;
  j = r.j + 52;
  is = ap (λ (z : ℕ). z * 4503599627370496) r.is ∙ mul_assoc r.q (2 ^ r.j) 4503599627370496 ∙ ap (λ (z : ℕ). r.q * z) (sym (pow-add 2 r.j 52));
  small = r.small;
}

most : 4503599627370496 * L ≤ 2 ^ 2098
unfolding L
most = lit≤ tt

module _ (f : Float) (t : T (fits binary64 f)) (i : InUnit f) where
  u : AsUnits f
  u = in_units f t i

  -- the product with 2 ^ 52 is exact, on the grid or off it
  product : Val (mul binary64 f two52_f) (u.F * 4503599627370496) 0 L
  product = rounds-rep r (subst Rep (sym is-size) (scaled_rep u.F rep))
      (subst (λ (k : ℕ). k < 2 ^ 2098) (sym is-size) (lt_of_lt_of_le (go u.F L u.most) most))
    where
      plain : (F : ℕ) → F * 4503599627370496 + 0 * 0 + 0 ≡ F * 4503599627370496 + (F * 0 + 0 * 4503599627370496)
      plain F = omega arith

      go : (F l : ℕ) → F < l → F * 4503599627370496 < 4503599627370496 * l
      go F l h = omega arith

      r : Rounds binary64 (mul binary64 f two52_f) (u.F * 4503599627370496) 0 L
      r = rounds-move (subst (λ (d : ℕ). Rounds binary64 (mul binary64 f two52_f) (u.F * 4503599627370496 + 0 * 0) (u.F * 0 + 0 * 4503599627370496) d)
          (mul-one L) (mul_rounds binary64 L-pos (lit< tt) u.val two52_val)) (plain u.F)

      is-size : r.size ≡ u.F * 4503599627370496
      is-size = size_is r.sign r.size (u.F * 4503599627370496) r.is

      rep : Rep u.F
      rep =
          let o = own f t (val-finite u.val) in
          subst Rep (has-unique f o.sign u.val.sign o.size u.val.size L o.has u.val.has
          ∙ size_is u.val.sign u.val.size u.F u.val.is) o.rep

  on-grid : (n : ℕ) → worth n (mul binary64 f two52_f) ≡ true → Val f n 0 4503599627370496
  unfolding worth
  on-grid n = go (ltb n 4503599627370496) refl
    where
      known : n < 4503599627370496 → eq (of_int binary64 (pos n)) (mul binary64 f two52_f) ≡ true → n * L + 0 ≡ u.F * 4503599627370496 + 0 * L
      known h e =
          let w : Val (of_int binary64 (pos n)) (n * L) (0 * L) L =
          subst (λ (d : ℕ). Val (of_int binary64 (pos n)) (n * L) (0 * L) d) (one-mul L) (val-scale L (of_int_val (pos n) (omega arith) (omega arith))) in
          eqb-true _ _ (sym (eq_val L-pos w product) ∙ e)

      moved : n * L + 0 ≡ u.F * 4503599627370496 + 0 * L → Val f n 0 4503599627370496
      moved e =
          val-unscale n 4503599627370496 L L-pos
          (subst₂ (λ (a d : ℕ). Val f a 0 d) (plain (n * L) (u.F * 4503599627370496) (0 * L) (zero-mul L) e) (mul_comm L 4503599627370496)
          (val-scale 4503599627370496 u.val))
        where
          plain : (a b z : ℕ) → z ≡ 0 → a + 0 ≡ b + z → b ≡ a
          plain a b z p q = omega arith

      go : (b : Bool) → ltb n 4503599627370496 ≡ b → cond b (eq (of_int binary64 (pos n)) (mul binary64 f two52_f)) false ≡ true → Val f n 0 4503599627370496
      go true p e = moved (known (ltb-true n 4503599627370496 p) e)
      go false p e = let z : ◌≡◌ {A = ℕ} 0 1 = cc in absurd (omega arith)

  -- ONLY ON THE GRID: where whole numbers decide, the fraction is exactly its units
  pub only-on-grid : (l : Float) → in_whole f l ≡ true → Val f (grid_units f) 0 4503599627370496
  unfolding in_whole
  only-on-grid l = go (worth (grid_units f) (mul binary64 f two52_f)) refl
    where
      go : (b : Bool) → worth (grid_units f) (mul binary64 f two52_f) ≡ b → cond b (day_is_whole l) false ≡ true → Val f (grid_units f) 0 4503599627370496
      go true p e = on-grid (grid_units f) p
      go false p e = let z : ◌≡◌ {A = ℕ} 0 1 = cc in absurd (omega arith)
