-- THE ORDER OF STAMPS, leap seconds included: two UTC stamps 154 ps or more apart keep their order in TAI, and two TAI stamps 346 ps or more apart keep theirs
-- in UTC. Assumes nothing.
use mathlib.Core.Path.{◌≡◌, sym, subst, ◌∙◌}
use mathlib.Core.Bool.{true}
use mathlib.Core.Logic.{◌⊎◌, inl, inr}
use Prim.Native.Nat.{ℕ, ◌+◌, ◌*◌, ◌≤◌, ◌<◌, ◌-◌}
use native.Mathlib.Nat.{zero-mul}
use native.Mathlib.Omega.{arith}
use native.Mathlib.Decide.{dec_le}
use lib.Ieee.{Float}
use Rattle.refusals.specs.Outcome.{Outcome, answer}
use Rattle.rounding.specs.Value.{Val, L}
use Rattle.rounding.proofs.Value.{L-pos, val-unique}
use Rattle.rounding.proofs.Compare.{le_show}
use Rattle.julian.specs.declared.JulianDate.{JulianDate}
use Rattle.leap_table.specs.rows.Table.{fixed, last_seconds}
use Rattle.rounding.specs.Picoseconds.{day_ps}
use Rattle.scales.specs.laws.Recorders.{NotLater}
use Rattle.scales.proofs.laws.Meant.{worth-unique}
use Rattle.utc_scales.specs.UtcTai.{utc_to_tai, tai_to_utc}
use Rattle.utc_scales.specs.round_trip.Ranges.{HalfDaySplit}
use Rattle.utc_scales.specs.round_trip.UtcDays.{H, ExactDay}
use Rattle.utc_scales.specs.round_trip.Order.{Follows, OrderKept, PartsInOrder}
use Rattle.utc_scales.proofs.round_trip.Parts.{first_part, second-part, stamp-of, parts-worth}
use Rattle.utc_scales.proofs.round_trip.DaySeconds.{fixed-whole}
use Rattle.utc_scales.proofs.round_trip.FixedDays.{FixedDay, fixed-day}
use Rattle.utc_scales.proofs.round_trip.Steady.{tai_utc_at}
use Rattle.utc_scales.proofs.round_trip.Evaluated.{seen}
use Rattle.utc_scales.proofs.round_trip.Meant.{stamp-day, day-of, exact-low, exact-high, day-seconds-of, utc-means-on}
use Rattle.utc_scales.proofs.round_trip.Exactly.{said, relation_rises}
use Rattle.utc_scales.proofs.round_trip.UtcMeant.{UtcFound, utc-found}

-- ---- two dates of one jd1, not before one another by their values: so by their smaller parts
pub in_parts : {x y : JulianDate} → x.jd1 ≡ y.jd1 → Follows 0 x y → NotLater true x y
in_parts {x} {y} e l =
    let v = l.from in
    let w = l.to in
    record {
      larger = e;
      smaller = le_show L-pos v.second w.second
          (go v.p v.n v.q v.m w.p w.n w.q w.m l.p l.n l.p' l.n' (0 * L)
          (val-unique (subst (λ (z : Float). Val z v.p v.n L) e v.first) w.first) v.total w.total l.gap);
    }
  where
    go : (p n q m p' n' q' m' P N P' N' z : ℕ) → p + n' ≡ p' + n → p + q + N ≡ P + (n + m) → p' + q' + N' ≡ P' + (n' + m')
        → day_ps * (P + N') + z ≤ day_ps * (P' + N) → q + m' ≤ q' + m
    go p n q m p' n' q' m' P N P' N' z a b c k = omega arith

-- ---- the exact relation between two stamps: W and W' the dates by UTC, G and G' their TAI-UTC, (p - m) and (p' - m') their TAI
Far : (W W' G G' : ℕ) → Type 0
Far W W' G G' = (G ≤ G') ⊎ ((W + L ≤ W') × (G ≤ G' + (last_seconds - 10) * L))

module _ (p m p' m' W W' G G' : ℕ) where
  to-tai : day_ps * W + 154 * L ≤ day_ps * W' → Far W W' G G' → day_ps * (86400 * (p + H)) ≤ day_ps * (86400 * m + 86400 * W + G) + 86400 * (77 * L)
      → day_ps * (86400 * m' + 86400 * W' + G') ≤ day_ps * (86400 * (p' + H)) + 86400 * (77 * L) → day_ps * (p + m') ≤ day_ps * (p' + m)
  unfolding Far
  to-tai k (inl g) i j = omega arith
  to-tai k (inr g) i j = omega arith

  to-utc : W' < W → Far W' W G' G → day_ps * (86400 * m + 86400 * W + G) ≤ day_ps * (86400 * (p + H)) + 86400 * (173 * L)
      → day_ps * (86400 * (p' + H)) ≤ day_ps * (86400 * m' + 86400 * W' + G') + 86400 * (173 * L) → day_ps * (p + m') + 346 * L ≤ day_ps * (p' + m) → ⊥
  unfolding Far
  to-utc k (inl g) i j l = omega arith
  to-utc k (inr g) i j l = omega (arith, L-pos)

far : (n m f e : ℕ) → FixedDay n → FixedDay m → f < L → e < L → n * L + f ≤ m * L + e → Far (n * L + f) (m * L + e) (tai_utc_at fixed n f)
    (tai_utc_at fixed m e)
unfolding Far
far n m f e t r b c k = relation_rises n m f e t r b c k

-- ---- the dates on their exact days, from the values of the stamps
module _ {d d' : JulianDate} {n m : ℕ} (x : ExactDay d n) (y : ExactDay d' m) where
  dates_later : {ps : ℕ} → Follows ps d d' → day_ps * (n * L + x.on.f) + ps * L ≤ day_ps * (m * L + y.on.f)
  dates_later {ps} l =
      go l.p l.n l.p' l.n' x.p x.m y.p y.m (n * L + x.on.f) (m * L + y.on.f) (ps * L) (worth-unique l.from x.worth)
      (worth-unique l.to y.worth) x.on.is y.on.is l.gap
    where
      go : (P N Q M p k q j W W' z : ℕ) → P + k ≡ p + N → Q + j ≡ q + M → W + k ≡ p + H → W' + j ≡ q + H → day_ps * (P + M) + z ≤ day_ps * (Q + N)
          → day_ps * W + z ≤ day_ps * W'
      go P N Q M p k q j W W' z e f g i l = omega arith

  stamps-later : n * L + x.on.f ≤ m * L + y.on.f → Follows 0 d d'
  stamps-later k = record {
    p = x.p;
    n = x.m;
    p' = y.p;
    n' = y.m;
    from = x.worth;
    to = y.worth;
    gap =
        go x.p x.m y.p y.m (n * L + x.on.f) (m * L + y.on.f) (0 * L) (zero-mul L) x.on.is y.on.is k;
  }
    where
      go : (p k q j W W' z : ℕ) → z ≡ 0 → W + k ≡ p + H → W' + j ≡ q + H → W ≤ W' → day_ps * (p + j) + z ≤ day_ps * (q + k)
      go p k q j W W' z e f g l = omega arith

fixed-day-of : {d : JulianDate} {n : ℕ} → HalfDaySplit d → ExactDay d n → FixedDay n
fixed-day-of {n = n} s x =
    let w = second-part s in
    let z = stamp-of (first_part s) w.2 in
    let o = day-of x (parts-worth (first_part s) w.2) in
    fixed-day n (exact-low z n o) (omega (arith, exact-high z n o))

-- ---- UTC TO TAI KEEPS THE ORDER of stamps 154 ps or more apart
pub utc-order : {d d' : JulianDate} → HalfDaySplit d → HalfDaySplit d' → Follows 154 d d' → OrderKept (utc_to_tai fixed) d d'
utc-order i i' l =
    let x = stamp-day i in
    let x' = stamp-day i' in
    let r = utc-means-on fixed-whole i x.1 in
    let r' = utc-means-on fixed-whole i' x'.1 in
    let t = fixed-day-of i x.1 in
    let t' = fixed-day-of i' x'.1 in
    let s = said (day-seconds-of fixed-whole i x.1) x.1 r.means in
    let s' = said (day-seconds-of fixed-whole i' x'.1) x'.1 r'.means in
    let W = x.0 * L + x.1.on.f in
    let W' = x'.0 * L + x'.1.on.f in
    let g = dates_later x.1 x'.1 l in
    record {
      x = r.date;
      y = r'.date;
      first = r.is;
      second = r'.is;
      in_order = record {
        p = s.p;
        n = s.m;
        p' = s'.p;
        n' = s'.m;
        from = s.worth;
        to = s'.worth;
        gap = none (s.p + s'.m) (s'.p + s.m) (0 * L) (zero-mul L)
            (to-tai s.p s.m s'.p s'.m W W' (tai_utc_at fixed x.0 x.1.on.f) (tai_utc_at fixed x'.0 x'.1.on.f) g
            (far x.0 x'.0 x.1.on.f x'.1.on.f t t' x.1.on.below x'.1.on.below (weak W W' g)) s.over s'.under);
      };
    }
  where
    none : (x y z : ℕ) → z ≡ 0 → day_ps * x ≤ day_ps * y → day_ps * x + z ≤ day_ps * y
    none x y z e k = omega arith

    weak : (x y : ℕ) → day_ps * x + 154 * L ≤ day_ps * y → x ≤ y
    weak x y k = omega arith

-- ---- TAI TO UTC KEEPS THE ORDER of stamps 346 ps or more apart
pub tai-order : {d d' : JulianDate} → HalfDaySplit d → HalfDaySplit d' → Follows 346 d d' → OrderKept (tai_to_utc fixed) d d'
tai-order {d} {d'} i i' l =
    let x = utc-found fixed-whole i in
    let y = utc-found fixed-whole i' in
    record {
      x = x.date;
      y = y.date;
      first = x.is;
      second = y.is;
      in_order =
          stamps-later x.on y.on (go x y (dec_le (x.n * L + x.on.on.f) (y.n * L + y.on.on.f)));
    }
  where
    go : (x : UtcFound fixed d) (y : UtcFound fixed d') → Dec (x.n * L + x.on.on.f ≤ y.n * L + y.on.on.f)
        → x.n * L + x.on.on.f ≤ y.n * L + y.on.on.f
    go x y (yes j) = j
    go x y (no j) =
        let s = x.said in
        let s' = y.said in
        absurd (to-utc s.p s.m s'.p s'.m (x.n * L + x.on.on.f) (y.n * L + y.on.on.f) (tai_utc_at fixed x.n x.on.on.f)
        (tai_utc_at fixed y.n y.on.on.f) (less _ _ j)
        (far y.n x.n y.on.on.f x.on.on.f (fixed-day y.n y.low (omega (arith, y.high)))
        (fixed-day x.n x.low (omega (arith, x.high))) y.on.on.below x.on.on.below (weak _ _ (less _ _ j))) s.under
        s'.over
        (move l.p l.n l.p' l.n' s.p s.m s'.p s'.m (worth-unique l.from s.worth) (worth-unique l.to s'.worth) l.gap))
      where
        less : (x y : ℕ) → (x ≤ y → ⊥) → y < x
        less x y q = omega arith

        weak : (x y : ℕ) → x < y → x ≤ y
        weak x y q = omega arith

        move : (P N Q M p m p' m' : ℕ) → P + m ≡ p + N → Q + m' ≡ p' + M → day_ps * (P + M) + 346 * L ≤ day_ps * (Q + N)
            → day_ps * (p + m') + 346 * L ≤ day_ps * (p' + m)
        move P N Q M p m p' m' e f k = omega arith

-- ---- the same larger part: the smaller parts are in order, as floats
in_parts_too : {f : JulianDate → Outcome JulianDate} {d d' x y : JulianDate} → f d ≡ answer x → f d' ≡ answer y → x.jd1 ≡ y.jd1 → OrderKept f d d'
    → PartsInOrder f d d'
in_parts_too {f} {d} {d'} {x} {y} p q e o =
    let a : o.x ≡ x = same (f d) o.x x o.first p in
    let b : o.y ≡ y = same (f d') o.y y o.second q in
    record {
      x = x;
      y = y;
      first = p;
      second = q;
      in_order =
          in_parts e (subst (λ (z : JulianDate). Follows 0 x z) b (subst (λ (z : JulianDate). Follows 0 z o.y) a o.in_order));
    }
  where
    same : (o : Outcome JulianDate) (x y : JulianDate) → o ≡ answer x → o ≡ answer y → x ≡ y
    same o x y p q = cc

pub utc-order-same : {d d' : JulianDate} → HalfDaySplit d → HalfDaySplit d' → d.jd1 ≡ d'.jd1 → Follows 154 d d' → PartsInOrder (utc_to_tai fixed) d d'
utc-order-same i i' e l = in_parts_too (seen fixed-whole (first_part i) (second-part i).2).answered
    (seen fixed-whole (first_part i') (second-part i').2).answered e
    (utc-order i i' l)

pub tai-order-same : {d d' : JulianDate} → HalfDaySplit d → HalfDaySplit d' → d.jd1 ≡ d'.jd1 → Follows 346 d d' → PartsInOrder (tai_to_utc fixed) d d'
tai-order-same i i' e l = let x = utc-found fixed-whole i in let y = utc-found fixed-whole i' in in_parts_too x.is y.is (x.same ∙ e ∙ sym y.same)
    (tai-order i i' l)
