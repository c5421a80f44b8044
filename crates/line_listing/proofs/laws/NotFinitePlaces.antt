-- A STAMP THAT IS NOT FINITE, by its bits, stands at no place of the order of the listing; where nothing refused it before the call it has number 9 after it.
-- Assumes nothing.
use Rattle.std.proofs.Common.{◌≡◌, ℕ, ◌+◌, ◌<◌, Bool, true, false, List, length, get_or, refl}
use Rattle.refusals.specs.Outcome.{answer}
use Rattle.julian.specs.stamp_lists.Stamps.{stamp_of}
use Rattle.julian.specs.order.Places.{has_place}
use Rattle.runs.specs.laws.NotFiniteStamps.{StampNotFinite}
use Rattle.line_up.specs.Runs.{times_in}
use Rattle.line_up.specs.LineUp.{LinedUp}
use Rattle.line_up.proofs.laws.NotFinite.{bits-without-place, placeless_nine, placeless_numbered, placeless_not_ordered}
use Rattle.line_listing.specs.order.Order.{lines_in_order}
use Rattle.line_listing.specs.laws.Places.{AllListed}
use Rattle.line_listing.proofs.laws.Theorems.{answered-order, listed-order}

module _ (js ks ns : List ℕ) (first second : ℕ) (out : List ℕ) (l : LinedUp) (listed : AllListed (stamp_of js ks) ns first second out l) (i : ℕ)
    (h : i < length ns) (bits : StampNotFinite js ks i) where
  -- NOT ORDERED: with whatever number it came
  pub listed-not-ordered : times_in i listed.line ≡ 0
  listed-not-ordered =
      placeless_not_ordered (stamp_of js ks) ns first (first + second) listed.line l.numbers listed.right i h (bits-without-place js ks i bits)

-- ---- of every call that is answered: EVERY STAMP THAT IS LEFT WITH 0 has a place in the order
pub zero_has_place : (js ks ns : List ℕ) (first second : ℕ) (out : List ℕ) (work1 work2 k : ℕ)
    → (lines_in_order js ks ns first second out work1 work2).answer ≡ answer k → (p : ℕ) → p < length ns
    → get_or (lines_in_order js ks ns first second out work1 work2).numbers p 0 ≡ 0 → has_place (stamp_of js ks p) ≡ true
zero_has_place js ks ns first second out work1 work2 k answers p h z = by (has_place (stamp_of js ks p)) refl
  where
    by : (b : Bool) → has_place (stamp_of js ks p) ≡ b → has_place (stamp_of js ks p) ≡ true
    by true e = e
    by false e =
        let l = lines_in_order js ks ns first second out work1 work2 in
        let listed = listed-order js ks ns first second out work1 work2 (answered-order js ks ns first second out work1 work2 k answers) in
        absurd (placeless_numbered (stamp_of js ks) ns first (first + second) listed.line l.numbers listed.right p h e z)

-- and by its bits
module _ (js ks ns : List ℕ) (first second : ℕ) (out : List ℕ) (work1 work2 k : ℕ)
    (answers : (lines_in_order js ks ns first second out work1 work2).answer ≡ answer k) (i : ℕ) (h : i < length ns) (bits : StampNotFinite js ks i) where
  listed : AllListed (stamp_of js ks) ns first second out (lines_in_order js ks ns first second out work1 work2)
  listed = listed-order js ks ns first second out work1 work2 (answered-order js ks ns first second out work1 work2 k answers)

  -- NINE: where nothing refused it before
  pub listed-nine : get_or ns i 0 ≡ 0 → get_or (lines_in_order js ks ns first second out work1 work2).numbers i 0 ≡ 9
  listed-nine =
      placeless_nine (stamp_of js ks) ns first (first + second) listed.line (lines_in_order js ks ns first second out work1 work2).numbers listed.right i h
      (bits-without-place js ks i bits)

  -- NEVER 0: with whatever number it came, so that its line has no text
  pub listed-numbered : get_or (lines_in_order js ks ns first second out work1 work2).numbers i 0 ≡ 0 → ⊥
  listed-numbered =
      placeless_numbered (stamp_of js ks) ns first (first + second) listed.line (lines_in_order js ks ns first second out work1 work2).numbers
      listed.right i
      h
      (bits-without-place js ks i bits)
