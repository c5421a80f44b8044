-- A DATE THAT IS NOT FINITE AT THE END OF A RUN, as a caller's own numbers may have it, is after the day until which the table is known exactly where the sum
-- of its parts is plus infinity: a NaN never is. By the numbers that an order leaves there is no such end. Assumes nothing.
use Rattle.std.proofs.Common.{◌≡◌, ℕ, ◌+◌, ◌<◌, ◌≤◌, Bool, true, false, not, ◌&&◌, ◌⊎◌, List, length, get_or, ℤ, pos, sym, refl, ap, ◌∙◌, inl, inr, arith}
use Rattle.std.proofs.Common.{eq-eqb}
use lib.Ieee.{Float, nan, inf, fin, binary64, add, lt}
use lib.Ieee.Scale.{finite}
use Rattle.refusals.specs.Outcome.{answer, refusal}
use Rattle.floats.specs.Whole.{nought}
use Rattle.julian.specs.declared.JulianDate.{JulianDate}
use Rattle.julian.specs.JulianDate.{julian, rounded_sum}
use Rattle.julian.specs.Finite.{finite_parts}
use Rattle.julian.specs.stamp_lists.Stamps.{stamp_of}
use Rattle.julian.specs.order.Places.{has_place}
use Rattle.julian.specs.laws.Nan.{HasNan}
use Rattle.time_of_day.specs.TimeShown.{from_zero}
use Rattle.leap_table.specs.rows.Table.{Row}
use Rattle.utc_scales.proofs.laws.NotFinite.{tai-to-utc-not-finite}
use Rattle.line_listing.specs.order.Order.{lines_in_order}
use Rattle.line_listing.specs.summary.Seen.{seen_in, ends_of}
use Rattle.line_listing.specs.summary.Look.{day_after, after_by, is_after}
use Rattle.line_listing.specs.summary.Claims.{Found}
use Rattle.line_listing.proofs.laws.NotFinitePlaces.{zero_has_place}
use Rattle.line_listing.proofs.laws.Looks.{seen-or-none}

-- ---- the day itself is not after, the next is: 2026-06-28 is day 61219 + 2400001
pub after_day : (f : Float) → (day_after 61219 (answer (record { day = pos 2461220; fraction = f })) ≡ false)
    × (day_after 61219 (answer (record { day = pos 2461221; fraction = f })) ≡ true) × (day_after 61219 (refusal 6) ≡ false)
unfolding day_after from_zero
after_day f = (refl, refl, refl)

-- ---- not finite
module _ (rows : List Row) (day : ℕ) where
  -- its TAI to UTC is refused, so the sign of its sum tells
  pub after-not-finite : (d : JulianDate) → finite_parts d ≡ false → is_after rows day d ≡ lt nought (rounded_sum d)
  unfolding is_after after_by
  after-not-finite d h = ap (after_by day d) (tai-to-utc-not-finite rows d h)

  no_second : (a : Bool) → (a && false) ≡ false
  no_second true = refl
  no_second false = refl

  nan_first : (x : Float) → lt nought (add binary64 nan x) ≡ false
  unfolding add lt
  nan_first x = refl

  nan_second : (x : Float) → lt nought (add binary64 x nan) ≡ false
  unfolding add lt
  nan_second nan = refl
  nan_second (inf s) = refl
  nan_second (fin s m e) = refl

  -- A NAN is never after
  pub after-nan : (d : JulianDate) → HasNan d → is_after rows day d ≡ false
  unfolding rounded_sum
  after-nan d (inl e) = after-not-finite d (rw e refl) ∙ rw e (nan_first d.jd2)
  after-nan d (inr e) = after-not-finite d (rw e (no_second (finite d.jd1))) ∙ rw e (nan_second d.jd1)

  -- AN INFINITY is after where it is plus infinity; the sum of two of both signs is a NaN
  pub after-infinite : (s b : Bool) (m : ℕ) (e : ℤ)
      → (is_after rows day (julian (inf s) (fin b m e)) ≡ not s) × (is_after rows day (julian (fin b m e) (inf s)) ≡ not s)
  unfolding rounded_sum add lt
  after-infinite s b m e = (after-not-finite (julian (inf s) (fin b m e)) refl, after-not-finite (julian (fin b m e) (inf s)) refl)

  pub after-two-infinite : (s t : Bool) → is_after rows day (julian (inf s) (inf t)) ≡ (not s && not t)
  unfolding rounded_sum add lt
  after-two-infinite true true = after-not-finite (julian (inf true) (inf true)) refl
  after-two-infinite true false = after-not-finite (julian (inf true) (inf false)) refl
  after-two-infinite false true = after-not-finite (julian (inf false) (inf true)) refl
  after-two-infinite false false = after-not-finite (julian (inf false) (inf false)) refl

-- ---- NO SUCH END by the numbers that an order leaves: both ends of a run have a place in the order
module _ (js ks ns : List ℕ) (first second : ℕ) (out : List ℕ) (work1 work2 k : ℕ)
    (answers : (lines_in_order js ks ns first second out work1 work2).answer ≡ answer k) (from n : ℕ) (inside : from + n ≤ length ns) where
  abbrev ms : List ℕ
  ms = (lines_in_order js ks ns first second out work1 work2).numbers

  pub ends-have-places : (ends_of js ks (lines_in_order js ks ns first second out work1 work2).numbers from n).any ≡ true
      → (has_place (ends_of js ks (lines_in_order js ks ns first second out work1 work2).numbers from n).first ≡ true)
      × (has_place (ends_of js ks (lines_in_order js ks ns first second out work1 work2).numbers from n).last ≡ true)
  unfolding ends_of
  ends-have-places e = by (seen-or-none 0 ms from n)
    where
      by : (((seen_in 0 ms from n).many ≡ 0) × ((q : ℕ) → q < n → get_or ms (from + q) 0 ≡ 0 → ⊥)) ⊎ Found 0 ms from n (seen_in 0 ms from n)
          → (has_place (stamp_of js ks (from + (seen_in 0 ms from n).first)) ≡ true) × (has_place (stamp_of js ks (from + (seen_in 0 ms from n).last)) ≡ true)
      by (inl h) = let y : ◌≡◌ {A = ℕ} 0 1 = cc (sym e ∙ ap not (eq-eqb _ 0 h.0)) in let z : ⊥ = omega arith in absurd z
      by (inr f) = (
        zero_has_place js ks ns first second out work1 work2 k answers (from + (seen_in 0 ms from n).first) (omega (arith, f.first_in)) f.first_is,
        zero_has_place js ks ns first second out work1 work2 k answers (from + (seen_in 0 ms from n).last) (omega (arith, f.last_in)) f.last_is,
      )
