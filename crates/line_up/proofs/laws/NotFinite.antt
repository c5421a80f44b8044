-- A STAMP THAT IS NOT FINITE, by its bits, stands at no place of the order; where nothing refused it before the call it has number 9 after it. Assumes nothing.
use Prim.Native.Nat.{ℕ, ◌+◌, ◌*◌, ◌<◌}
use native.Mathlib.Omega.{arith}
use mathlib.Core.Path.{◌≡◌, refl, sym, ap, ◌∙◌}
use mathlib.Core.Bool.{Bool, true, false, cond}
use mathlib.Core.Logic.{◌⊎◌, inl, inr}
use mathlib.Core.List.{List}
use lib.Dec.{eqb, ltb}
use lib.ListN.{length, get_or}
use borrow.Author.Tests.{ltb-true, ltb-false, ne_eqb, eqb-true, eqb-false}
use Rattle.numerals.specs.little_endian.LittleEndian.{u64_at}
use Rattle.floats.specs.ExponentField.{exponent_field}
use Rattle.floats.proofs.ExponentField.{field_not_finite}
use Rattle.julian.specs.declared.JulianDate.{JulianDate}
use Rattle.julian.specs.stamp_lists.Stamps.{stamp_of}
use Rattle.julian.specs.order.Order.{first_not_finite, second_not_finite}
use Rattle.julian.specs.order.Places.{has_place}
use Rattle.julian.proofs.order.Exactly.{place-not-finite}
use Rattle.line_up.specs.Runs.{times_in}
use Rattle.line_up.specs.LineUp.{LinedUp}
use Rattle.line_up.specs.laws.Claims.{LineVerdict, OneLine, Lined}
use Rattle.line_up.proofs.laws.Once.{any_default}

-- by its bits: the exponent field of a part is all ones
pub bits-without-place : (js ks : List ℕ) (i : ℕ) → (exponent_field (u64_at js (8 * i)) ≡ 2047) ⊎ (exponent_field (u64_at ks (8 * i)) ≡ 2047)
    → has_place (stamp_of js ks i) ≡ false
unfolding stamp_of
bits-without-place js ks i (inl h) = place-not-finite (stamp_of js ks i) (first_not_finite (field_not_finite (u64_at js (8 * i)) h))
bits-without-place js ks i (inr h) = place-not-finite (stamp_of js ks i) (second_not_finite (field_not_finite (u64_at ks (8 * i)) h))

-- ---- of every line: who has no place in the order
module _ (date : ℕ → JulianDate) (ns : List ℕ) (a b : ℕ) (line ms : List ℕ) (right : OneLine date ns a b line ms) (i : ℕ) (h : i < length ns)
    (none : has_place (date i) ≡ false) where
  -- the verdict of its run
  of_run : (P : Type 0) → ((from to : ℕ) → LineVerdict date ns ms from to i → P) → P
  of_run P f = by (ltb i a) refl (ltb i b) refl
    where
      by : (s : Bool) → ltb i a ≡ s → (t : Bool) → ltb i b ≡ t → P
      by true p t q = f 0 a (right.first_run i (ltb-true i a p))
      by false p true q = f a b (right.second_run i (ltb-false i a p) (ltb-true i b q))
      by false p false q = f b (length ns) (right.third_run i (ltb-false i b q) h)

  -- gets 9 where nothing refused it before
  pub placeless_nine : get_or ns i 0 ≡ 0 → get_or ms i 0 ≡ 9
  placeless_nine z = of_run (get_or ms i 0 ≡ 9) (λ from to v. v.unordered z none)

  -- has a number after the call
  pub placeless_numbered : get_or ms i 0 ≡ 0 → ⊥
  placeless_numbered e = by (eqb (get_or ns i 0) 0) refl
    where
      by : (s : Bool) → eqb (get_or ns i 0) 0 ≡ s → ⊥
      by true q = omega (arith, e, placeless_nine (eqb-true (get_or ns i 0) 0 q))
      by false q =
          let k = eqb-false (get_or ns i 0) 0 q in
          k (of_run (get_or ns i 0 ≡ 0) (λ from to v. sym (v.refused k) ∙ e))

  -- and stands at no place of the order
  pub placeless_not_ordered : times_in i line ≡ 0
  placeless_not_ordered =
      right.once i
      ∙ ap (λ (t : Bool). cond {A = ℕ} t 1 0)
      (ne_eqb (get_or ms i 1) 0 (λ e. placeless_numbered (any_default ms i 0 1 (omega (arith, h, right.as_many)) ∙ e)))

-- ---- THE CALL: by the bits of stamp i
module _ (js ks ns : List ℕ) (first second : ℕ) (out : List ℕ) (l : LinedUp) (lined : Lined js ks ns first second out l) (i : ℕ) (h : i < length ns)
    (bits : (exponent_field (u64_at js (8 * i)) ≡ 2047) ⊎ (exponent_field (u64_at ks (8 * i)) ≡ 2047)) where
  -- NINE: where nothing refused it before
  pub not_finite_nine : get_or ns i 0 ≡ 0 → get_or l.numbers i 0 ≡ 9
  not_finite_nine =
      placeless_nine (stamp_of js ks) ns first (first + second) lined.line l.numbers lined.right i h (bits-without-place js ks i bits)

  -- NOT ORDERED: with whatever number it came
  pub not_finite_not_ordered : times_in i lined.line ≡ 0
  not_finite_not_ordered =
      placeless_not_ordered (stamp_of js ks) ns first (first + second) lined.line l.numbers lined.right i h (bits-without-place js ks i bits)
