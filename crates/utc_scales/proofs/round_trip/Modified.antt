-- UTC TO TAI OF A MODIFIED JULIAN DATE: for the split (2400000.5, MJD) it is answered, and means the exact relation to 628,704 ps, of which the last rounding
-- is 628,643. Assumes nothing.
use mathlib.Core.Path.{◌≡◌, refl, sym, subst}
use mathlib.Core.List.{List}
use mathlib.Core.Bool.{true, false}
use Prim.Native.Nat.{ℕ, ◌+◌, ◌*◌, ◌^◌, ◌≤◌, ◌<◌}
use native.Mathlib.Nat.{zero-mul, mul-le-mul_right}
use native.Mathlib.Omega.{arith}
use lib.Dec.{T, lit≤}
use lib.Ieee.{Float, binary64, round, add, fits}
use Rattle.constants.specs.Constants.{decimal}
use Rattle.refusals.specs.Outcome.{answer}
use Rattle.rounding.specs.Value.{Val, L}
use Rattle.rounding.proofs.Value.{L-pos}
use Rattle.rounding.proofs.Sizes.{whole_val}
use Rattle.rounding.proofs.Bound.{SizeWithin}
use Rattle.rounding.proofs.Range.{size-at-most}
use Rattle.rounding.proofs.Compare.{le_says}
use Rattle.rounding.proofs.Near.{NearSum, add_near}
use Rattle.rounding.proofs.Chain.{ValClose}
use Rattle.julian.specs.declared.JulianDate.{JulianDate}
use Rattle.julian.specs.JulianDate.{julian}
use Rattle.leap_table.specs.declared.rows.AnnouncedRows.{AnnouncedRows}
use Rattle.leap_table.specs.rows.Table.{Row, fixed}
use Rattle.leap_table.specs.rows.Announced.{table_of}
use Rattle.rounding.specs.Picoseconds.{day_ps}
use Rattle.utc_scales.specs.days.LargerPart.{first_is_kept}
use Rattle.utc_scales.specs.round_trip.Ranges.{ModifiedSplit}
use Rattle.utc_scales.specs.round_trip.UtcDays.{H}
use Rattle.utc_scales.specs.round_trip.Relation.{RightTai}
use Rattle.utc_scales.proofs.round_trip.Units.{h, L-H, L-h, h_small, in_units}
use Rattle.utc_scales.proofs.round_trip.Parts.{HalvesUp, Stamp, parts-joined}
use Rattle.utc_scales.proofs.round_trip.DaySeconds.{WholeTable, table-whole, fixed-whole}
use Rattle.utc_scales.proofs.round_trip.Kept.{first-larger}
use Rattle.utc_scales.proofs.round_trip.Evaluated.{SeenTo, since, day-sum, sum-high, sum_low, seen-to}
use Rattle.utc_scales.proofs.round_trip.Meant.{on-day, utc-meant}

-- ---- a sum of less than 2 ^ 17 days is off by at most 2 ^ 16 h
days-17 : 2 ^ (53 + 1038) ≡ 131072 * L
unfolding L
days-17 = refl

units-17 : 2 ^ 1038 ≡ 131072 * h
unfolding h
units-17 = refl

pub add_coarse : {x y : Float} {p n q k : ℕ} → p + q < n + k + 131072 * L → n + k < p + q + 131072 * L → Val x p n L → Val y q k L
    → ValClose L (add binary64 x y) (p + q) (n + k) (65536 * h)
add_coarse {x} {y} {p} {n} {q} {k} u l v w =
    let s : NearSum (add binary64 x y) (p + q) (n + k) 1038 =
    add_near 1038 (lit≤ tt) (subst (λ (z : ℕ). p + q < n + k + z) (sym days-17) u) (subst (λ (z : ℕ). n + k < p + q + z) (sym days-17) l) v w in
    record {
      p = s.p;
      n = s.n;
      val = s.val;
      over = half (s.p + (n + k)) (s.n + (p + q)) (2 ^ 1038) units-17 s.over;
      under =
          half (s.n + (p + q)) (s.p + (n + k)) (2 ^ 1038) units-17 s.under;
    }
  where
    half : (x y w : ℕ) → w ≡ 131072 * h → 2 * x ≤ 2 * y + w → x ≤ y + 65536 * h
    half x y w e k = omega arith

-- ---- the ends of the range
first-day : Val (decimal 41318 0) (41318 * L) (0 * L) L
unfolding round
first-day = whole_val (record { sign = false; size = 41318; has = (refl, refl); is = refl })

last-day : Val (decimal 131071 0) (131071 * L) 0 L
unfolding round
last-day = subst (λ (z : ℕ). Val (decimal 131071 0) (131071 * L) z L) (zero-mul L)
    (whole_val (record { sign = false; size = 131071; has = (refl, refl); is = refl }))

-- ---- all roundings, in picoseconds
in_all : day_ps * (5662510635 * h + 345604 * h) ≤ 628704 * (86400 * L)
in_all = subst (λ (z : ℕ). day_ps * (5662510635 * h + 345604 * h) ≤ 628704 * (86400 * z)) (sym L-h) (go h (mul-le-mul_right h (lit≤ tt)))
  where
    go : (k : ℕ) → 489270779049600000000000000 * k ≤ 489271294101831606809395200 * k
        → day_ps * (5662510635 * k + 345604 * k) ≤ 628704 * (86400 * (9007199254740992 * k))
    go k l = omega arith

-- ---- a modified Julian date from 41317.5 to 131071.5, as the guesses of TAI to UTC are too
pub record ModifiedPart (u : Float) (up un : ℕ) : Type 0 where
  pub held : T (fits binary64 u)
  pub val : Val u up un L
  pub low : 41317 * L + H + un ≤ up
  pub high : up ≤ un + 131071 * L + H

-- 2400000.5
pub record ZeroPoint (a : Float) : Type 0 where
  pub held : T (fits binary64 a)
  pub val : Val a (4800001 * H) 0 L

-- ---- its parts
module _ {a u : Float} {up un : ℕ} (v : ZeroPoint a) (w : ModifiedPart u up un) where
  days : HalvesUp a (4800001 * H)
  days = record { val = v.val; k = 4800001; halves = refl; high = omega arith }

  pub stamp : Stamp a u (4800001 * H) up un
  stamp = record {
    held1 = v.held;
    held2 = w.held;
    val1 = v.val;
    val2 = w.val;
    most = omega arith;
    over = omega (arith, w.high, L-H, L-pos);
    under = omega (arith, w.low);
    low = omega (arith, w.low, L-H);
    high = omega (arith, w.high, L-H);
  }

  pub modified_larger : first_is_kept (julian a u) ≡ true
  modified_larger = first-larger v.val w.val (omega (arith, w.high, L-H, L-pos)) (omega (arith, w.low, L-H))

-- ---- one evaluation
module _ {rows : List Row} (t : WholeTable rows) {a u : Float} {up un : ℕ} (v : ZeroPoint a) (w : ModifiedPart u up un) where
  pub modified_seen : SeenTo rows (5662510635 * h) a u (4800001 * H) up un
  modified_seen =
      seen-to t (stamp v w) (days v w) (65536 * h) (5662510635 * h) (omega arith) (modified_larger v w)
      (add_coarse
      (sum-high t (stamp v w) (days v w) (131072 * L) (λ i j k l. above _ _ _ _ _ _ _ l i j k))
      (sum_low t (stamp v w) (days v w) (131072 * L) (λ i j k l. below _ _ _ _ _ _ _ l i j k))
      (since t (stamp v w) (days v w)).val (day-sum t (stamp v w) (days v w)).val)
    where
      above : (f N x y z P M : ℕ) → x + H ≡ N → N + f + un ≤ 4800001 * H + up + H + 4 * h → 64 * P ≤ 64 * (M + f) + L → y + M ≤ z + P + h
          → x + y < 4800001 * H + z + 131072 * L
      above f N x y z P M e a b c = omega (arith, w.high, h_small, L-H, L-pos)

      below : (f N x y z P M : ℕ) → x + H ≡ N → 4800001 * H + up + H ≤ N + f + un + 4 * h → 64 * (M + f) ≤ 64 * P + L → z + P ≤ y + M + h
          → 4800001 * H + z < x + y + 131072 * L
      below f N x y z P M e a b c = omega (arith, w.low, h_small, L-H, L-pos)

-- ---- the parts of such a date
module _ {d : JulianDate} (s : ModifiedSplit d) where
  pub modified_size : SizeWithin d.jd2 (131071 * L)
  modified_size = size-at-most s.held.1 last-day s.to

  abbrev u : SizeWithin d.jd2 (131071 * L)
  u = modified_size

  pub from_1972 : 41318 * L + modified_size.n ≤ modified_size.p
  from_1972 = plain (41318 * L) (0 * L) u.p u.n (zero-mul L) (le_says L-pos first-day u.val s.from)
    where
      plain : (f o p n : ℕ) → o ≡ 0 → f + n ≤ p + o → f + n ≤ p
      plain f o p n e k = omega arith

  pub zero_point : ZeroPoint d.jd1
  zero_point = record { held = s.held.0; val = in_units 4800001 2 H L-H s.first }

  pub modified_part : ModifiedPart d.jd2 modified_size.p modified_size.n
  modified_part = record { held = s.held.1; val = u.val; low = omega (arith, from_1972, L-H); high = omega (arith, u.high) }

  whole-modified : {rows : List Row} → WholeTable rows → RightTai rows 628704 d
  whole-modified t =
      let z = stamp zero_point modified_part in
      let o = on-day z in
      let r = utc-meant t z (modified_seen t zero_point modified_part) 628704 in_all o.0 o.1 in
      record {
        n = o.0;
        on = record { p = _; m = _; worth = parts-joined zero_point.val u.val; on = o.1 };
        date = r.date;
        is = r.is;
        means = r.means;
      }

  -- ---- THE THEOREM, by every table that is taken, and by the fixed one
  pub table-utc-to-tai-modified : (t : AnnouncedRows) (rows : List Row) → table_of t ≡ answer rows → RightTai rows 628704 d
  table-utc-to-tai-modified t rows e = whole-modified (table-whole t rows e)

  pub utc-to-tai-modified : RightTai fixed 628704 d
  utc-to-tai-modified = whole-modified fixed-whole
