-- What the customer's recorders need of GPS to TAI: one instant that the GPS recorder and the TAI recorder stamp to e ps comes out within 10 + e ps (0.63
-- microseconds and e ps where the smaller part is a modified Julian date), and the order of stamps that share their larger part is kept. Assumes nothing.
use Rattle.std.proofs.Common.{◌≡◌, ℕ, ◌+◌, ◌*◌, ◌≤◌, Bool, true, false, T, sym, ap, ◌∙◌, subst, mul-le-mul_right, add-mul, one-mul, mul-add, mul_left_comm}
use Rattle.std.proofs.Common.{arith}
use lib.Ieee.{Float, binary64, fits, round, add, lt, le, eq}
use lib.Ieee.Scale.{finite}
use Rattle.floats.specs.Whole.{abs}
use Rattle.rounding.specs.Value.{Val, L}
use Rattle.rounding.proofs.Value.{L-pos, add_rounds}
use Rattle.rounding.proofs.Compare.{le_says}
use Rattle.rounding.proofs.Own.{own, own_val}
use Rattle.rounding.proofs.Bound.{rounds-mono}
use Rattle.refusals.specs.Outcome.{answer}
use Rattle.julian.specs.declared.JulianDate.{JulianDate}
use Rattle.julian.specs.shifts.SmallerPart.{first_is_larger}
use Rattle.scales.specs.Formulas.{gps_days}
use Rattle.scales.specs.Conversions.{gps-tai, offset_of, answer_of}
use Rattle.scales.specs.laws.Ranges.{Held, Practical, Modified, HalfDay}
use Rattle.scales.specs.laws.Picoseconds.{bound_of}
use Rattle.rounding.specs.Picoseconds.{day_ps}
use Rattle.scales.specs.laws.Meaning.{Close, Apart, Means, tai_over_gps, meaning}
use Rattle.scales.specs.laws.Recorders.{NotLater}
use Rattle.julian.proofs.shifts.Outcomes.{and_left, and_right, converted-is}
use Rattle.julian.proofs.shifts.SmallerPart.{map_as, map_is}
use Rattle.scales.proofs.laws.Constants.{gps-about}
use Rattle.scales.proofs.laws.Meant.{Meant, worth-unique, practical, modified}
use Rattle.julian.specs.Finite.{finite_parts}
use Rattle.julian.specs.shifts.Shifts.{plus}

-- ---- one instant
no_offset : HalfDay (offset_of gps-tai)
unfolding offset_of fits le lt eq abs round
no_offset = (tt, tt)

-- what one relation gives, t to e ps and u to c ps: so u is t to c + e ps. Of a relation in seconds of a day, as that of GPS, of UTC and of TAI
pub one-relation : {num more less : ℕ} {d t u : JulianDate} (c e : ℕ) → Close e num 86400 more less d t → Close c num 86400 more less d u → Apart (c + e) t u
one-relation {num} {more} {less} c e v w =
    let o = worth-unique v.from w.from in
    let s = sym (mul-add num v.p w.n) ∙ ap (λ (z : ℕ). num * z) o ∙ mul-add num w.p v.n in
    record {
      p = v.p';
      n = v.n';
      p' = w.p';
      n' = w.n';
      from = v.to;
      to = w.to;
      over = high (num * v.p) (num * v.n) (num * w.p) (num * w.n) v.p' v.n' w.p' w.n' more less (c * L) (e * L) (seconds c) (seconds e) bound
          s v.under w.over;
      under = low (num * v.p) (num * v.n) (num * w.p) (num * w.n) v.p' v.n' w.p' w.n' more less (c * L) (e * L) (seconds c) (seconds e) bound
          s v.over w.under;
    }
  where
    seconds : (k : ℕ) → k * (86400 * L) ≡ 86400 * (k * L)
    seconds k = mul_left_comm k 86400 L

    bound : (c + e) * (1 * L) ≡ c * L + e * L
    bound = ap (λ (z : ℕ). (c + e) * z) (one-mul L) ∙ add-mul c e L

    high : (p n a b p' n' a' b' M S x y : ℕ) {x' y' z : ℕ} → x' ≡ 86400 * x → y' ≡ 86400 * y → z ≡ x + y → p + b ≡ a + n
        → day_ps * (86400 * n' + p + M) ≤ day_ps * (86400 * p' + n + S) + y'
        → day_ps * (86400 * a' + b + S) ≤ day_ps * (86400 * b' + a + M) + x' → day_ps * (1 * a' + 1 * n' + 0) ≤ day_ps * (1 * b' + 1 * p' + 0) + z
    high p n a b p' n' a' b' M S x y e f g o h k = omega arith

    low : (p n a b p' n' a' b' M S x y : ℕ) {x' y' z : ℕ} → x' ≡ 86400 * x → y' ≡ 86400 * y → z ≡ x + y → p + b ≡ a + n
        → day_ps * (86400 * p' + n + S) ≤ day_ps * (86400 * n' + p + M) + y'
        → day_ps * (86400 * b' + a + M) ≤ day_ps * (86400 * a' + b + S) + x' → day_ps * (1 * b' + 1 * p' + 0) ≤ day_ps * (1 * a' + 1 * n' + 0) + z
    low p n a b p' n' a' b' M S x y e f g o h k = omega arith

-- GPS to TAI is 19 s later to 10 ps, and to 0.63 microseconds where the smaller part is a modified Julian date
pub gps-means : (d : JulianDate) → Practical d → Meant 10 tai_over_gps (answer_of gps-tai d) d
unfolding meaning bound_of
gps-means d r = let m = practical gps-tai d r no_offset in record { date = m.date; is = m.is; means = m.means }

pub gps-means-modified : (d : JulianDate) → Modified d → Meant 628643 tai_over_gps (answer_of gps-tai d) d
unfolding meaning bound_of
gps-means-modified d r = let m = modified gps-tai d r no_offset in record { date = m.date; is = m.is; means = m.means }

-- d by GPS and t by TAI stamp one instant to e ps, t = d + 19 s: then gps_to_tai answers for d a date within 10 + e ps of t
pub one_instant : (e : ℕ) (d t : JulianDate) → Practical d → Means e tai_over_gps d t → (u : JulianDate) × (answer_of gps-tai d ≡ answer u) × Apart (10 + e) t u
one_instant e d t r v = let m = gps-means d r in (m.date, m.is, one-relation 10 e v m.means)

-- the same where the smaller part is a modified Julian date: 0.63 microseconds and e ps
pub one-instant-modified : (e : ℕ) (d t : JulianDate) → Modified d → Means e tai_over_gps d t → (u : JulianDate) × (answer_of gps-tai d ≡ answer u)
    × Apart (628643 + e) t u
one-instant-modified e d t r v = let m = gps-means-modified d r in (m.date, m.is, one-relation 628643 e v m.means)

-- ---- the order
adds_in_order : (x y k : Float) → T (fits binary64 x) → T (fits binary64 y) → finite x ≡ true → finite y ≡ true → {q m : ℕ} → Val k q m L → T (le x y)
    → T (le (add binary64 x k) (add binary64 y k))
adds_in_order x y k f g hx hy {q} {m} w l =
    let o = own_val x (own x f (subst T (sym hx) tt)) in
    let o' = own_val y (own y g (subst T (sym hy) tt)) in
    rounds-mono L-pos L-pos (wide _ _ _ _ (le_says L-pos o o' l)) (add_rounds binary64 L-pos o w) (add_rounds binary64 L-pos o' w)
  where
    wide : (p n p' n' : ℕ) → p + n' ≤ p' + n → (p + q) * L + (n' + m) * L ≤ (p' + q) * L + (n + m) * L
    wide p n p' n' h = let s : (p + n') * L ≤ (p' + n) * L = mul-le-mul_right L h in simp add-mul (omega (arith, simp add-mul at s))

-- two stamps whose larger part is the same and stands in the same place, the first not later: nor is its answer
pub order-kept : (b : Bool) (d d' : JulianDate) → Held d → Held d' → finite_parts d ≡ true → finite_parts d' ≡ true → first_is_larger d ≡ b → first_is_larger d'
    ≡ b
    → NotLater b d d'
    → (u : JulianDate) × (u' : JulianDate) × (answer_of gps-tai d ≡ answer u) × (answer_of gps-tai d' ≡ answer u') × NotLater b u u'
unfolding answer_of plus
order-kept b d d' f f' h h' e e' l =
    (map_as (plus gps_days) d b, map_as (plus gps_days) d' b, is d h b e, is d' h' b e', go b l)
  where
    one : (d : JulianDate) → finite_parts d ≡ true → finite d.jd1 ≡ true
    one d h = and_left (finite d.jd1) (finite d.jd2) h

    two : (d : JulianDate) → finite_parts d ≡ true → finite d.jd2 ≡ true
    two d h = and_right (finite d.jd1) (finite d.jd2) h

    is : (d : JulianDate) → finite_parts d ≡ true → (b : Bool) → first_is_larger d ≡ b → answer_of gps-tai d ≡ answer (map_as (plus gps_days) d b)
    is d h b e = converted-is (plus gps_days) d (one d h) (two d h) ∙ ap answer (map_is (plus gps_days) d ∙ ap (map_as (plus gps_days) d) e)

    go : (b : Bool) → NotLater b d d' → NotLater b (map_as (plus gps_days) d b) (map_as (plus gps_days) d' b)
    go true l = record {
      larger = l.larger;
      smaller =
          adds_in_order d.jd2 d'.jd2 gps_days f.1 f'.1 (two d h) (two d' h') gps-about.val l.smaller;
    }
    go false l = record {
      larger = l.larger;
      smaller =
          adds_in_order d.jd1 d'.jd1 gps_days f.0 f'.0 (one d h) (one d' h') gps-about.val l.smaller;
    }
