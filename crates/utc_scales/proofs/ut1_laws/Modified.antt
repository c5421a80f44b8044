-- UTC TO UT1 OF A MODIFIED JULIAN DATE: for the split (2400000.5, MJD) and a DUT1 of at most 1 s it is answered, and means UTC and DUT1 in exact numbers to
-- 1,257,347 ps: two roundings of jd2, each up to 628,643 ps, one of TAI and one of UT1. Assumes nothing.
use mathlib.Core.Path.{◌≡◌, sym, subst}
use mathlib.Core.List.{List}
use mathlib.Core.Bool.{true}
use Prim.Native.Nat.{ℕ, ◌+◌, ◌*◌, ◌≤◌, ◌<◌}
use native.Mathlib.Nat.{mul-le-mul_right}
use native.Mathlib.Omega.{arith}
use lib.Dec.{T, lit≤}
use lib.Ieee.{Float, binary64, fits, le}
use lib.Ieee.Bits.{is_true}
use Rattle.refusals.specs.Outcome.{answer}
use Rattle.floats.specs.Whole.{abs, one}
use Rattle.rounding.specs.Value.{L}
use Rattle.rounding.specs.Picoseconds.{day_ps}
use Rattle.rounding.proofs.Value.{L-pos, abs-val}
use Rattle.rounding.proofs.Signed.{dist, dist_le}
use Rattle.rounding.proofs.Compare.{lt_show}
use Rattle.julian.specs.declared.JulianDate.{JulianDate}
use Rattle.julian.specs.JulianDate.{julian}
use Rattle.julian.specs.shifts.SmallerPart.{first_is_larger}
use Rattle.leap_table.specs.declared.rows.AnnouncedRows.{AnnouncedRows}
use Rattle.leap_table.specs.rows.Table.{Row, fixed, most_seconds}
use Rattle.leap_table.specs.rows.Announced.{table_of}
use Rattle.utc_scales.specs.round_trip.Ranges.{ModifiedSplit}
use Rattle.utc_scales.specs.round_trip.UtcDays.{H}
use Rattle.utc_scales.specs.ut1_laws.Ut1.{RightUt1}
use Rattle.utc_scales.proofs.round_trip.Units.{h, L-H, L-h}
use Rattle.utc_scales.proofs.round_trip.DaySeconds.{WholeTable, table-whole, fixed-whole}
use Rattle.utc_scales.proofs.round_trip.Steady.{few_seconds}
use Rattle.utc_scales.proofs.round_trip.Evaluated.{SeenTo}
use Rattle.utc_scales.proofs.round_trip.Modified.{add_coarse, modified_seen, modified_size, from_1972, zero_point, modified_part}
use Rattle.utc_scales.proofs.ut1_laws.Ut1.{SumsTo, ut1-right}

-- all roundings, in picoseconds
in_all : day_ps * (5662510635 * h + 345721 * h + 86400 * (65536 * h)) ≤ 1257347 * (86400 * L)
in_all = subst (λ (z : ℕ). day_ps * (5662510635 * h + 345721 * h + 86400 * (65536 * h)) ≤ 1257347 * (86400 * z)) (sym L-h)
    (go h (mul-le-mul_right h (lit≤ tt)))
  where
    go : (k : ℕ) → 978494407718400000000000000 * k ≤ 978495116660711026694553600 * k
        → day_ps * (5662510635 * k + 345721 * k + 86400 * (65536 * k)) ≤ 1257347 * (86400 * (9007199254740992 * k))
    go k l = omega arith

-- TAI is from 41317 days to 131071 days and a half
t-high : (A up un tp tn w o : ℕ) → up ≤ un + 131071 * L → o ≤ most_seconds * L → 86400 * (tp + A + H) ≤ 86400 * tn + (86400 * w + o) + 5662510635 * h
    → w + un ≤ A + up + H + 4 * h → 2 * tp ≤ 2 * tn + 262143 * L
t-high A up un tp tn w o k l i j = omega (arith, L-h)

t-low : (A up un tp tn w o : ℕ) → 41318 * L + un ≤ up → 86400 * w + o + 86400 * tn ≤ 86400 * (tp + A + H) + 5662510635 * h → A + up + H ≤ w + un + 4 * h
    → tn + 41317 * L ≤ tp
t-low A up un tp tn w o k i j = omega (arith, L-h)

module _ {rows : List Row} (b : WholeTable rows) {d : JulianDate} (s : ModifiedSplit d) where
  abbrev up : ℕ
  up = (modified_size s).p

  abbrev un : ℕ
  un = (modified_size s).n

  abbrev z : SeenTo rows (5662510635 * h) d.jd1 d.jd2 (4800001 * H) up un
  z = modified_seen b (zero_point s) (modified_part s)

  high : 2 * z.tp ≤ 2 * z.tn + 262143 * L
  high = t-high (4800001 * H) up un z.tp z.tn _ _ (modified_size s).high (few_seconds z.day z.f z.seconds z.below).1 z.eval_over
      z.near-over

  low : z.tn + 41317 * L ≤ z.tp
  low = t-low (4800001 * H) up un z.tp z.tn _ _ (from_1972 s) z.eval_under z.near-under

  sums : SumsTo (65536 * h) z.t z.tp z.tn
  sums q p n vq k l = add_coarse (omega (arith, high, L-pos)) (omega (arith, low, L-pos)) z.val vq

  smaller : first_is_larger (julian d.jd1 z.t) ≡ true
  unfolding first_is_larger
  smaller = is_true _ (lt_show L-pos (abs-val z.val) (abs-val (zero_point s).val)
      (go (dist z.tp z.tn) (dist_le z.tp z.tn (131072 * L) (omega (arith, high)) (omega (arith, low)))))
    where
      go : (e : ℕ) → e ≤ 131072 * L → e + 0 < dist (4800001 * H) 0 + 0
      go e k = omega (arith, L-H, L-pos)

  whole-modified : (dut1 : Float) → T (fits binary64 dut1) → T (le (abs dut1) one) → RightUt1 rows 1257347 d dut1
  whole-modified c f k = ut1-right b (zero_point s).val (modified_size s).val z smaller sums 1257347 in_all c f k

-- ---- THE THEOREM, by every table that is taken, and by the fixed one
pub table-utc-to-ut1-modified : (t : AnnouncedRows) (rows : List Row) → table_of t ≡ answer rows → {d : JulianDate} → ModifiedSplit d → (dut1 : Float)
    → T (fits binary64 dut1) → T (le (abs dut1) one) → RightUt1 rows 1257347 d dut1
table-utc-to-ut1-modified t rows e s c f k = whole-modified (table-whole t rows e) s c f k

pub utc-to-ut1-modified : {d : JulianDate} → ModifiedSplit d → (dut1 : Float) → T (fits binary64 dut1) → T (le (abs dut1) one) → RightUt1 fixed 1257347 d dut1
utc-to-ut1-modified s c f k = whole-modified fixed-whole s c f k
