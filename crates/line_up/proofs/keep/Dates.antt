-- The stamps whose two-sums are finite are in order. Assumes nothing.
use Prim.Native.Nat.{ℕ, ◌+◌, ◌*◌}
use native.Mathlib.Omega.{arith}
use mathlib.Core.Path.{◌≡◌, sym, ◌∙◌, subst}
use mathlib.Core.Bool.{false}
use mathlib.Core.List.{List}
use lib.Dec.{T, ltb}
use lib.Ieee.{binary64}
use lib.Ieee.Bits.{of_bits-fits}
use borrow.Author.Tests.{ltb-true, ltb-false, lt-ltb, le-ltb, not-false}
use Rattle.rounding.specs.Value.{L}
use Rattle.numerals.specs.little_endian.LittleEndian.{u64_at}
use Rattle.julian.specs.Equality.{FiniteSums}
use Rattle.julian.specs.Worth.{Worth}
use Rattle.julian.specs.order.Places.{has_place, is_earlier}
use Rattle.julian.proofs.order.Exactly.{finite-error, sooner-exactly, sum-worth}
use Rattle.line_up.specs.keep.Piles.{OrderLaws}
use Rattle.julian.specs.stamp_lists.Stamps.{stamp_of}
use Rattle.line_up.specs.keep.Stamps.{unordered_at, sooner_at}

module _ (js ks : List ℕ) where
  abbrev pub FiniteAt : ℕ → Type 0
  FiniteAt p = FiniteSums (stamp_of js ks p)

  -- who is not unordered has a finite two-sum
  pub finite-at : (p : ℕ) → unordered_at js ks p ≡ false → FiniteAt p
  unfolding unordered_at stamp_of
  finite-at p e =
      let h : T (has_place (stamp_of js ks p)) = subst T (sym (not-false (has_place (stamp_of js ks p)) e)) tt in
      record {
        first_float = of_bits-fits binary64 (u64_at js (8 * p));
        second_float = of_bits-fits binary64 (u64_at ks (8 * p));
        sum = (finite-error (stamp_of js ks p) h).1.1;
        error = h;
      }

  pub lt_is : (x y P N Q M : ℕ) → FiniteAt x → FiniteAt y → Worth (stamp_of js ks x) P N L → Worth (stamp_of js ks y) Q M L
      → sooner_at js ks x y ≡ ltb (P + M) (Q + N)
  unfolding sooner_at is_earlier
  lt_is x y P N Q M s t v w = sooner-exactly (stamp_of js ks x) (stamp_of js ks y) P N Q M s t v w

  pub date-order : OrderLaws FiniteAt (sooner_at js ks)
  date-order = record {
    less = λ x y z s t u e f.
        let v = sum-worth (stamp_of js ks x) s in
        let w = sum-worth (stamp_of js ks y) t in
        let q = sum-worth (stamp_of js ks z) u in
        let i = ltb-true (v.0 + w.1) (w.0 + v.1) (sym (lt_is x y v.0 v.1 w.0 w.1 s t v.2 w.2) ∙ e) in
        let j = ltb-true (w.0 + q.1) (q.0 + w.1) (sym (lt_is y z w.0 w.1 q.0 q.1 t u w.2 q.2) ∙ f) in
        lt_is x z v.0 v.1 q.0 q.1 s u v.2 q.2 ∙ lt-ltb (v.0 + q.1) (q.0 + v.1) (omega (arith, i, j));
    not_less = λ x y z s t u e f.
        let v = sum-worth (stamp_of js ks x) s in
        let w = sum-worth (stamp_of js ks y) t in
        let q = sum-worth (stamp_of js ks z) u in
        let i = ltb-false (w.0 + v.1) (v.0 + w.1) (sym (lt_is y x w.0 w.1 v.0 v.1 t s w.2 v.2) ∙ e) in
        let j = ltb-false (q.0 + w.1) (w.0 + q.1) (sym (lt_is z y q.0 q.1 w.0 w.1 u t q.2 w.2) ∙ f) in
        lt_is z x q.0 q.1 v.0 v.1 u s q.2 v.2 ∙ le-ltb (q.0 + v.1) (v.0 + q.1) (omega (arith, i, j));
  }
