-- UTC to UT1 from 1972 on, by a DUT1 of at most 1 s: the answer is UTC and DUT1 in exact numbers, to 87 ps. Assumes nothing.
use mathlib.Core.Path.{◌≡◌, refl, sym, ap, ◌∙◌, subst}
use mathlib.Core.List.{List}
use mathlib.Core.Bool.{Bool, true, cond}
use Prim.Native.Nat.{ℕ, suc, ◌+◌, ◌-◌, ◌*◌, ◌^◌, ◌≤◌, ◌<◌}
use native.Mathlib.Nat.{zero-mul, mul-le-mul_right}
use native.Mathlib.Omega.{arith}
use lib.Dec.{T, lit≤, lit<}
use lib.IntN.{ℤ, pos}
use lib.Ieee.{Float, binary64, add, sub, div, fits, le}
use lib.Ieee.Bits.{is_true}
use lib.Ieee.Scale.{finite}
use Rattle.refusals.specs.Outcome.{answer, refusal}
use Rattle.refusals.proofs.Onward.{went}
use Rattle.floats.specs.Whole.{abs, one}
use Rattle.constants.specs.Constants.{seconds_per_day}
use Rattle.rounding.specs.Value.{Val, L}
use Rattle.rounding.proofs.Value.{L-pos, abs-val, val-finite-true, rounds-move, sub_rounds}
use Rattle.rounding.proofs.Signed.{dist, dist_le}
use Rattle.rounding.proofs.Casts.{of_int_val}
use Rattle.rounding.proofs.Compare.{lt_show}
use Rattle.rounding.proofs.Chain.{ValClose}
use Rattle.rounding.proofs.Near.{sum_near}
use Rattle.rounding.proofs.Scaled.{div_near}
use Rattle.rounding.proofs.Sizes.{whole_val}
use Rattle.rounding.proofs.Range.{size-at-most}
use Rattle.calendar.specs.Gregorian.{gregorian_date}
use Rattle.julian.specs.day_number.DayNumber.{day_of}
use Rattle.julian.proofs.day_number.Units.{one-L}
use Rattle.julian.specs.declared.JulianDate.{JulianDate}
use Rattle.julian.specs.JulianDate.{julian}
use Rattle.julian.specs.Finite.{finite_arg}
use Rattle.julian.proofs.laws.UnixTime.{day-val}
use Rattle.leap_table.specs.declared.rows.AnnouncedRows.{AnnouncedRows}
use Rattle.leap_table.specs.rows.Table.{Row, fixed, most_seconds}
use Rattle.leap_table.specs.rows.Announced.{table_of}
use Rattle.leap_table.specs.offsets.Offset.{whole_f}
use Rattle.leap_table.specs.offsets.Leap.{offsets}
use Rattle.julian.specs.shifts.SmallerPart.{first_is_larger}
use Rattle.julian.specs.shifts.Shifts.{plus, days_of}
use Rattle.julian.proofs.shifts.Outcomes.{by-is}
use Rattle.julian.proofs.shifts.SmallerPart.{map_as, map_is}
use Rattle.scales.specs.Conversions.{answer_of}
use Rattle.rounding.specs.Picoseconds.{day_ps}
use Rattle.utc_scales.specs.days.Dates.{offset_at0h, offset_of_date}
use Rattle.utc_scales.specs.to_ut1.UtcUt1.{utc_to_ut1}
use Rattle.utc_scales.proofs.days.Steps.{offset-of-day}
use Rattle.utc_scales.proofs.Steps.{offsets-first}
use Rattle.utc_scales.specs.round_trip.UtcDays.{H, seconds_on, Ending, ends_plain, ends_longer, ends_shorter}
use Rattle.utc_scales.specs.round_trip.Ranges.{HalfDaySplit}
use Rattle.utc_scales.proofs.round_trip.Units.{h, L-H, L-h, h_small, h_pos, add_close}
use Rattle.utc_scales.proofs.round_trip.Parts.{FirstPart, SecondPart, parts-joined, first_part, second-part}
use Rattle.utc_scales.proofs.round_trip.DaySeconds.{WholeTable, table-whole, fixed-whole}
use Rattle.utc_scales.proofs.round_trip.Steady.{share_less}
use Rattle.utc_scales.proofs.round_trip.Evaluated.{SeenTo, Seen, seen}
use Rattle.utc_scales.specs.ut1_laws.Ut1.{ut1_ps, RightUt1}

-- ---- DUT1 less the whole seconds of TAI-UTC, and that in days
size_64 : 2 ^ (53 + 1027) ≡ 64 * L
unfolding L
size_64 = refl

unit_64 : 2 ^ 1027 ≡ 64 * h
unfolding h
unit_64 = refl

pub size-q : 512 * 2 ^ (53 + 1012) ≡ L
unfolding L
size-q = refl

pub unit_q : 512 * 2 ^ 1012 ≡ h
unfolding h
unit_q = refl

pub seconds-val : (D : ℕ) → D ≤ most_seconds → Val (whole_f D) (D * L) 0 L
seconds-val D l = subst (λ (z : ℕ). Val (whole_f D) (D * L) z L) (zero-mul L) (whole_val (of_int_val (pos D) (omega arith) (omega arith)))

-- z is (p - n) / L, and 86400 z is within 117 h of x - y - D L
record Offset (z : Float) (x y d : ℕ) : Type 0 where
  p : ℕ
  n : ℕ
  val : Val z p n L
  over : 86400 * p + y + d ≤ 86400 * n + x + 117 * h
  under : 86400 * n + x ≤ 86400 * p + y + d + 117 * h

offset-days : {c : Float} {x y : ℕ} (D : ℕ) → D ≤ most_seconds → Val c x y L → x ≤ y + L → y ≤ x + L
    → Offset (div binary64 (sub binary64 c (whole_f D)) seconds_per_day) x y (D * L) × (finite (sub binary64 c (whole_f D)) ≡ true)
offset-days {c} {x} {y} D hD v u l =
    let g : D * L ≤ most_seconds * L = mul-le-mul_right L hD in
    let s = sum_near 1027 (lit≤ tt) (subst (λ (i : ℕ). x < y + D * L + i) (sym size_64) (fit x y (D * L) u))
    (subst (λ (i : ℕ). y + D * L < x + i) (sym size_64) (fit' x y (D * L) g l))
    (rounds-move (sub_rounds binary64 L-pos v (seconds-val D hD)) (omega arith)) in
    let o = half s.p s.n x (y + D * L) (2 ^ 1027) unit_64 s.over in
    let w = half s.n s.p (y + D * L) x (2 ^ 1027) unit_64 s.under in
    let q = div_near 1012 86400 (lit< tt) (lit≤ tt) (room s.p s.n x (y + D * L) (2 ^ (53 + 1012)) size-q (more x y (D * L) u) o)
    (room s.n s.p (y + D * L) x (2 ^ (53 + 1012)) size-q (less x y (D * L) g l) w) s.val day-val in (
      record {
        p = q.p;
        n = q.n;
        val = q.val;
        over = end q.p q.n s.p s.n x y (D * L) (2 ^ 1012) unit_q q.over o;
        under =
            end' q.p q.n s.p s.n x y (D * L) (2 ^ 1012) unit_q q.under w;
      },
      val-finite-true s.val,
    )
  where
    fit : (x y d : ℕ) → x ≤ y + L → x < y + d + 64 * L
    fit x y d u = omega (arith, L-pos)

    fit' : (x y d : ℕ) → d ≤ most_seconds * L → y ≤ x + L → y + d < x + 64 * L
    fit' x y d g l = omega (arith, L-pos)

    more : (x y d : ℕ) → x ≤ y + L → x ≤ y + d + suc most_seconds * L
    more x y d u = omega arith

    less : (x y d : ℕ) → d ≤ most_seconds * L → y ≤ x + L → y + d ≤ x + suc most_seconds * L
    less x y d g l = omega arith

    half : (p n X Y w : ℕ) → w ≡ 64 * h → 2 * (p + Y) ≤ 2 * (n + X) + w → p + Y ≤ n + X + 32 * h
    half p n X Y w e k = omega arith

    room : (p n X Y w : ℕ) → 512 * w ≡ L → X ≤ Y + suc most_seconds * L → p + Y ≤ n + X + 32 * h → p < n + w * 86400
    room p n X Y w e k o = omega (arith, h_small, h_pos)

    end : (p n q m x y d w : ℕ) → 512 * w ≡ h → 2 * (86400 * p + 1 * m) ≤ 2 * (86400 * n + 1 * q) + 86400 * w → q + (y + d) ≤ m + x + 32 * h
        → 86400 * p + y + d ≤ 86400 * n + x + 117 * h
    end p n q m x y d w e k o = omega arith

    end' : (p n q m x y d w : ℕ) → 512 * w ≡ h → 2 * (86400 * n + 1 * q) ≤ 2 * (86400 * p + 1 * m) + 86400 * w → m + x ≤ q + (y + d) + 32 * h
        → 86400 * n + x ≤ 86400 * p + y + d + 117 * h
    end' p n q m x y d w e k o = omega arith

-- ---- the sums, with N = n L, d = D L, s leap seconds inserted and r left out
t-high : {s r : ℕ} (d N f A up un tp tn : ℕ) → Ending s r → f < L → d ≤ most_seconds * L
    → 86400 * (tp + A + H) ≤ 86400 * tn + (86400 * (N + f) + (d + s * f - r * f)) + 345622 * h → N + f + un ≤ A + up + H + 4 * h
    → 1024 * up ≤ 1024 * un + 1027 * L → 64 * tp ≤ 64 * tn + 65 * L
t-high d N f A up un tp tn ends_plain b g e i w = omega (arith, h_small)
t-high d N f A up un tp tn ends_longer b g e i w = omega (arith, h_small)
t-high d N f A up un tp tn ends_shorter b g e i w = omega (arith, h_small)

t-low : {s r : ℕ} (d N f A up un tp tn : ℕ) → Ending s r → r * f ≤ d → 86400 * (N + f) + (d + s * f - r * f) + 86400 * tn ≤ 86400 * (tp + A + H) + 345622 * h
    → A + up + H ≤ N + f + un + 4 * h → 1024 * un ≤ 1024 * up + 1027 * L → 64 * tn ≤ 64 * tp + 65 * L
t-low d N f A up un tp tn ends_plain k e i w = omega (arith, h_small)
t-low d N f A up un tp tn ends_longer k e i w = omega (arith, h_small)
t-low d N f A up un tp tn ends_shorter k e i w = omega (arith, h_small)

-- an evaluation off by E / 86400, and a last sum that is rounded by at most e
module _ (E e : ℕ) where
  over-is : {s r : ℕ} (d N f A up un tp tn qp qn rp rn x y : ℕ) → Ending s r → r * f ≤ d
      → 86400 * (tp + A + H) ≤ 86400 * tn + (86400 * (N + f) + (d + s * f - r * f)) + E
      → N + f + un ≤ A + up + H + 4 * h → A + up + H ≤ N + f + un + 4 * h → 86400 * qp + y + d ≤ 86400 * qn + x + 117 * h → rp + (tn + qn) ≤ rn + (tp + qp) + e
      → 86400 * (A + rp) + (86400 + s - r) * un + (y + (s * N + r * H))
      ≤ 86400 * rn + (86400 + s - r) * (A + up) + (x + (s * H + r * N)) + (E + 345721 * h + 86400 * e)
  over-is d N f A up un tp tn qp qn rp rn x y ends_plain k i j o q l = omega arith
  over-is d N f A up un tp tn qp qn rp rn x y ends_longer k i j o q l = omega arith
  over-is d N f A up un tp tn qp qn rp rn x y ends_shorter k i j o q l = omega arith

  under-is : {s r : ℕ} (d N f A up un tp tn qp qn rp rn x y : ℕ) → Ending s r → r * f ≤ d
      → 86400 * (N + f) + (d + s * f - r * f) + 86400 * tn ≤ 86400 * (tp + A + H) + E
      → N + f + un ≤ A + up + H + 4 * h → A + up + H ≤ N + f + un + 4 * h → 86400 * qn + x ≤ 86400 * qp + y + d + 117 * h → rn + (tp + qp) ≤ rp + (tn + qn) + e
      → 86400 * rn + (86400 + s - r) * (A + up) + (x + (s * H + r * N))
      ≤ 86400 * (A + rp) + (86400 + s - r) * un + (y + (s * N + r * H)) + (E + 345721 * h + 86400 * e)
  under-is d N f A up un tp tn qp qn rp rn x y ends_plain k i j o q l = omega arith
  under-is d N f A up un tp tn qp qn rp rn x y ends_longer k i j o q l = omega arith
  under-is d N f A up un tp tn qp qn rp rn x y ends_shorter k i j o q l = omega arith

-- the smaller part t, and a part of less than 1/1024 day, added with a rounding of at most e
abbrev pub SumsTo : ℕ → Float → ℕ → ℕ → Type 0
SumsTo e t tp tn = (q : Float) (p n : ℕ) → Val q p n L → 1024 * p ≤ 1024 * n + L → 1024 * n ≤ 1024 * p + L → ValClose L (add binary64 t q) (tp + p) (tn + n) e

-- ---- one evaluation, by what is seen of UTC (a, u)
module _ {rows : List Row} (b : WholeTable rows) {E e : ℕ} {a u : Float} {A up un : ℕ} (va : Val a A 0 L) (vu : Val u up un L)
    (o : SeenTo rows E a u A up un) (larger : first_is_larger (julian a o.t) ≡ true) (sums : SumsTo e o.t o.tp o.tn) (ps : ℕ)
    (room : day_ps * (E + 345721 * h + 86400 * e) ≤ ps * (86400 * L)) (c : Float) (fc : T (fits binary64 c)) (kc : T (le (abs c) one)) where
  to-picoseconds : (x y : ℕ) → x ≤ y + (E + 345721 * h + 86400 * e) → day_ps * x ≤ day_ps * y + ps * (86400 * L)
  to-picoseconds x y k = omega (arith, room)

  dut : (p : ℕ) × (n : ℕ) × Val c p n L × (p ≤ n + L) × (n ≤ p + L)
  dut = let z = size-at-most fc one-L kc in (z.p, z.n, z.val, z.high, z.low)

  abbrev D : ℕ
  D = seconds_on rows o.day

  few : D ≤ most_seconds
  few = o.seconds.most

  offset-is : offset_of_date rows a u ≡ answer (whole_f (seconds_on rows o.day))
  offset-is =
      offset-of-day rows a u (day_of a u) o.located ∙ ap (λ (z : ℤ). offset_at0h rows (gregorian_date z)) o.found
      ∙ offsets-first rows (gregorian_date (pos o.day))
      (offsets (whole_f (seconds_on rows o.day)) (whole_f (seconds_on rows o.day)) (whole_f (seconds_on rows (suc o.day))))
      (b.day-offsets o.day o.day-low (omega (arith, o.day-high)))

  module _ (x y : ℕ) (vc : Val c x y L) (h1 : x ≤ y + L) (h2 : y ≤ x + L) where
    abbrev q : Float
    q = div binary64 (sub binary64 c (whole_f (seconds_on rows o.day))) seconds_per_day

    z : Offset q x y (D * L)
    z = (offset-days D few vc h1 h2).0

    d_high : D * L ≤ most_seconds * L
    d_high = mul-le-mul_right L few

    r : ValClose L (add binary64 o.t q) (o.tp + z.p) (o.tn + z.n) e
    r = sums q z.p z.n z.val (omega (arith, z.over, h1, h_small, L-pos)) (omega (arith, z.under, d_high, h2, h_small, L-pos))

    arg : finite_arg c ≡ answer c
    unfolding finite_arg
    arg = ap (λ (b : Bool). cond b (answer c) (refusal 10)) (val-finite-true vc)

    is : utc_to_ut1 rows (julian a u) c ≡ answer (julian a (add binary64 o.t q))
    unfolding utc_to_ut1 answer_of plus days_of
    is =
        went _ arg ∙ went _ o.answered ∙ went _ offset-is
        ∙ by-is plus (sub binary64 c (whole_f (seconds_on rows o.day))) (julian a o.t) (val-finite-true va) (val-finite-true o.val)
        (offset-days D few vc h1 h2).1
        ∙ ap answer (map_is (plus (days_of (sub binary64 c (whole_f (seconds_on rows o.day))))) (julian a o.t)
        ∙ ap (map_as (plus (days_of (sub binary64 c (whole_f (seconds_on rows o.day))))) (julian a o.t)) larger)

    right : RightUt1 rows ps (julian a u) c
    right = record {
      x = x;
      y = y;
      offset = vc;
      n = o.day;
      found = o.located;
      day = o.found;
      date = julian a (add binary64 o.t q);
      is = is;
      means = record {
        p = A + up;
        n = un;
        p' = A + r.p;
        n' = r.n;
        from = parts-joined va vu;
        to = parts-joined va r.val;
        over = to-picoseconds _ _ (over-is E e (D * L) (o.day * L) o.f A up un o.tp o.tn z.p z.n r.p r.n x y o.seconds.ending
            (share_less o.day o.f o.seconds o.below) o.eval_over o.near-over o.near-under z.over r.over);
        under = to-picoseconds _ _ (under-is E e (D * L) (o.day * L) o.f A up un o.tp o.tn z.p z.n r.p r.n x y o.seconds.ending
            (share_less o.day o.f o.seconds o.below) o.eval_under o.near-over o.near-under z.under r.under);
      };
    }

  pub ut1-right : RightUt1 rows ps (julian a u) c
  ut1-right = let (x, y, vc, h1, h2) = dut in right x y vc h1 h2

-- ---- for a smaller part of about a day
module _ {rows : List Row} (b : WholeTable rows) {a u : Float} {A up un : ℕ} (v : FirstPart a A) (w : SecondPart u up un) where
  abbrev o : Seen rows a u A up un
  o = seen b v w

  d_most : seconds_on rows o.day * L ≤ most_seconds * L
  d_most = mul-le-mul_right L o.seconds.most

  th : 64 * o.tp ≤ 64 * o.tn + 65 * L
  th = t-high (seconds_on rows o.day * L) (o.day * L) o.f A up un o.tp o.tn o.seconds.ending o.below d_most o.eval_over
      o.near-over w.over

  tl : 64 * o.tn ≤ 64 * o.tp + 65 * L
  tl = t-low (seconds_on rows o.day * L) (o.day * L) o.f A up un o.tp o.tn o.seconds.ending
      (share_less o.day o.f o.seconds o.below) o.eval_under o.near-under w.under

  sum_fits : SumsTo h o.t o.tp o.tn
  sum_fits q p n vq k l = add_close (omega (arith, th, L-pos)) (omega (arith, tl, L-pos)) o.val vq

  smaller : first_is_larger (julian a o.t) ≡ true
  unfolding first_is_larger
  smaller = is_true _ (lt_show L-pos (abs-val o.val) (abs-val v.val)
      (go (dist o.tp o.tn) (dist_le o.tp o.tn (2 * L) (omega (arith, th)) (omega (arith, tl)))))
    where
      go : (e : ℕ) → e ≤ 2 * L → e + 0 < dist A 0 + 0
      go e k = omega (arith, v.low, L-H, L-pos)

  pub one_answer : (c : Float) → T (fits binary64 c) → T (le (abs c) one) → RightUt1 rows ut1_ps (julian a u) c
  one_answer c f k = ut1-right b v.val w.val o smaller sum_fits ut1_ps (omega (arith, L-h)) c f k

-- ---- THE THEOREM: jd1 and jd2 in the range of request 14, and a DUT1 of at most 1 s; by every table that is taken, and by the fixed one
pub table-utc-to-ut1-means : (t : AnnouncedRows) (rows : List Row) → table_of t ≡ answer rows → {d : JulianDate} → HalfDaySplit d → (dut1 : Float)
    → T (fits binary64 dut1) → T (le (abs dut1) one) → RightUt1 rows ut1_ps d dut1
table-utc-to-ut1-means t rows e s c f k = one_answer (table-whole t rows e) (first_part s) (second-part s).2 c f k

pub utc-to-ut1-means : {d : JulianDate} → HalfDaySplit d → (dut1 : Float) → T (fits binary64 dut1) → T (le (abs dut1) one) → RightUt1 fixed ut1_ps d dut1
utc-to-ut1-means s c f k = one_answer fixed-whole (first_part s) (second-part s).2 c f k
