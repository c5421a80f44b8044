-- All sixteen conversions mean what SOFA's formulas say, to so many picoseconds: one part of the date at most 2 ^ 23 days in size, the other at most 1 day
-- (`practical`) or at most 2 ^ 17 - 1 days (`modified`), and the offset at most half a day. Assumes nothing.
use Rattle.std.proofs.Common.{◌≡◌, ℕ, ◌+◌, ◌*◌, ◌^◌, ◌≤◌, Bool, true, false, sym, refl, ap, ◌∙◌, subst, inl, inr, le_trans, mul-le-mul_right, mul_assoc}
use Rattle.std.proofs.Common.{mul_comm, add-mul, mul-le-mul_left, mul-add, mul_left_comm, arith}
use lib.Ieee.{Float, binary64, round}
use lib.Ieee.Scale.{finite}
use Rattle.rounding.specs.Value.{Val, L}
use Rattle.rounding.proofs.Value.{val-unique}
use Rattle.rounding.proofs.About.{U}
use Rattle.refusals.specs.Outcome.{Outcome, answer, onward}
use Rattle.julian.specs.declared.JulianDate.{JulianDate}
use Rattle.julian.specs.shifts.SmallerPart.{first_is_larger, map_smaller_part}
use Rattle.scales.specs.Formulas.{gps_days, tt_days, tcg_to_tt, tt_to_tcg, tcb_to_tdb, tdb_to_tcb}
use Rattle.scales.specs.Conversions.{Conversion, gps-tai, tai-gps, tai-tt, tt-tai, tcg-tt, tt_tcg, tcb-tdb, tdb-tcb, tai-tcg, tcg-tai, tai-ut1}
use Rattle.scales.specs.Conversions.{ut1-tai, ut1-tt, tt-ut1, tt-tdb, tdb-tt, offset_of, answer_of}
use Rattle.scales.specs.laws.Ranges.{AtMost, power, Practical, Modified, HalfDay}
use Rattle.scales.specs.laws.Picoseconds.{Picoseconds, bound_of, practical_bounds, modified_bounds}
use Rattle.julian.specs.Worth.{Worth}
use Rattle.rounding.specs.Picoseconds.{day_ps}
use Rattle.scales.specs.laws.Meaning.{Close, Meaning, Means, meaning, RightTo, Right, RightModified}
use Rattle.refusals.proofs.Onward.{went}
use Rattle.julian.proofs.shifts.Outcomes.{converted-is, by-is}
use Rattle.julian.proofs.shifts.SmallerPart.{map_as, map_is}
use Rattle.scales.proofs.laws.Dates.{Sized, PartsWithin, above, beneath, value, high, low, under-as, Chosen, chosen, Formula, close}
use Rattle.scales.proofs.laws.Finiteness.{sized_finite, sized_at, power-units}
use Rattle.scales.proofs.laws.Bounds.{half_day, modified_days, Step, Laws, practical_laws, modified_laws}
use Rattle.julian.specs.shifts.Shifts.{plus, minus, days_of, converted, converted_by}

-- ---- a date has one value
pub worth-unique : {d : JulianDate} {p n q m : ℕ} → Worth d p n L → Worth d q m L → p + m ≡ q + n
worth-unique {d} {p} {n} {q} {m} v w =
    go v.p v.n v.q v.m w.p w.n w.q w.m (val-unique v.first w.first) (val-unique v.second w.second) v.total w.total
  where
    go : (p1 n1 p2 n2 q1 m1 q2 m2 : ℕ) → p1 + m1 ≡ q1 + n1 → p2 + m2 ≡ q2 + n2 → p1 + p2 + n ≡ p + (n1 + n2) → q1 + q2 + m ≡ q + (m1 + m2) → p + m ≡ q + n
    go p1 n1 p2 n2 q1 m1 q2 m2 e f a b = omega arith

-- ---- one after the other
chain_le : (s1 s2 s a c a2 c2 B B' B2 B2' X Y X' Y' P N P2 N2 : ℕ) → a2 * s1 + s2 * c2 ≤ s * c2 → X + Y' ≡ X' + Y
    → day_ps * (c * X + a * N + B') ≤ day_ps * (c * Y + a * P + B) + s1 * (c * L)
    → day_ps * (c2 * P2 + a2 * Y' + B2') ≤ day_ps * (c2 * N2 + a2 * X' + B2) + s2 * (c2 * L)
    → day_ps * (c * c2 * P2 + a * a2 * N + (a2 * B' + c * B2')) ≤ day_ps * (c * c2 * N2 + a * a2 * P + (a2 * B + c * B2)) + s * (c * c2 * L)
chain_le s1 s2 s a c a2 c2 B B' B2 B2' X Y X' Y' P N P2 N2 r e h k =
    go (a2 * (c * X)) (a2 * (c * Y)) (c * (a2 * X')) (c * (a2 * Y')) (a * a2 * N) (a * a2 * P) (c * c2 * P2) (c * c2 * N2) (a2 * B') (a2 * B) (c * B2')
    (c * B2) (a2 * (s1 * (c * L))) (c * (s2 * (c2 * L))) (s * (c * c2 * L))
    first second move room
  where
    first : day_ps * (a2 * (c * X) + a * a2 * N + a2 * B') ≤ day_ps * (a2 * (c * Y) + a * a2 * P + a2 * B) + a2 * (s1 * (c * L))
    first = simp (mul-add, mul_assoc, mul_comm, mul_left_comm) (simp (mul-add, mul_assoc, mul_comm, mul_left_comm) at (mul-le-mul_left a2 h))

    second : day_ps * (c * c2 * P2 + c * (a2 * Y') + c * B2') ≤ day_ps * (c * c2 * N2 + c * (a2 * X') + c * B2) + c * (s2 * (c2 * L))
    second = simp (mul-add, mul_assoc, mul_comm, mul_left_comm) (simp (mul-add, mul_assoc, mul_comm, mul_left_comm) at (mul-le-mul_left c k))

    move : a2 * (c * X) + c * (a2 * Y') ≡ c * (a2 * X') + a2 * (c * Y)
    move = simp (mul_left_comm c a2, mul-add) (simp mul-add at (ap (λ (z : ℕ). a2 * (c * z)) e))

    room : a2 * (s1 * (c * L)) + c * (s2 * (c2 * L)) ≤ s * (c * c2 * L)
    room = simp (mul-add, add-mul, mul_assoc, mul_comm, mul_left_comm)
        (simp (mul-add, add-mul, mul_assoc, mul_comm, mul_left_comm) at (mul-le-mul_right (c * L) r))

    go : (x y x' y' n p p2 n2 b' b d' d t1 t2 t : ℕ) → day_ps * (x + n + b') ≤ day_ps * (y + p + b) + t1 → day_ps * (p2 + y' + d') ≤ day_ps * (n2 + x' + d) + t2
        → x + y' ≡ x' + y → t1 + t2 ≤ t
        → day_ps * (p2 + n + (b' + d')) ≤ day_ps * (n2 + p + (b + d)) + t
    go x y x' y' n p p2 n2 b' b d' d t1 t2 t f g u v = omega arith

-- ---- Close after Close
pub close_close : (s1 s2 s : ℕ) {a c a2 c2 B B' B2 B2' : ℕ} {d d1 d2 : JulianDate} → a2 * s1 + s2 * c2 ≤ s * c2 → Close s1 a c B B' d d1
    → Close s2 a2 c2 B2 B2' d1 d2
    → Close s (a * a2) (c * c2) (a2 * B + c * B2) (a2 * B' + c * B2') d d2
close_close s1 s2 s {a} {c} {a2} {c2} {B} {B'} {B2} {B2'} r x y =
    let e = worth-unique x.to y.from in
    record {
      p = x.p;
      n = x.n;
      p' = y.p';
      n' = y.n';
      from = x.from;
      to = y.to;
      over = chain_le s1 s2 s a c a2 c2 B B' B2 B2' x.p' x.n' y.p y.n x.p x.n y.p' y.n' r e x.over y.over;
      under = chain_le s1 s2 s a c a2 c2 B' B B2' B2 x.n' x.p' y.n y.p x.n x.p y.n' y.p' r (turn x.p' x.n' y.p y.n e)
          x.under y.under;
    }
  where
    turn : (p n p' n' : ℕ) → p + n' ≡ p' + n → n + p' ≡ n' + p
    turn p n p' n' h = omega arith

-- ---- the same to more picoseconds
pub more-close : {ps ps' num den more less : ℕ} {d d' : JulianDate} → ps ≤ ps' → Close ps num den more less d d' → Close ps' num den more less d d'
more-close {den = den} k w =
    let e = mul-le-mul_right (den * L) k in
    record { p = w.p; n = w.n; p' = w.p'; n' = w.n'; from = w.from; to = w.to; over = wide _ _ _ _ w.over e; under = wide _ _ _ _ w.under e }
  where
    wide : (x y i j : ℕ) → x ≤ y + i → i ≤ j → x ≤ y + j
    wide x y i j k l = omega arith

-- ---- the range after a first step
range-after : (S s t : ℕ) (f : Float → Float → Float) (d : JulianDate) → s ≤ S → Step S s t f → PartsWithin S s d → PartsWithin S t (map_smaller_part f d)
unfolding Step Chosen
range-after S s t f d l b r = subst (PartsWithin S t) (sym (map_is f d)) (go (chosen S s d l r))
  where
    go : Chosen S s d → PartsWithin S t (map_as f d (first_is_larger d))
    go (inl (e, (z, w))) = subst (λ (x : Bool). PartsWithin S t (map_as f d x)) (sym e) (inl (z, b d.jd1 d.jd2 z w))
    go (inr (e, (z, w))) = subst (λ (x : Bool). PartsWithin S t (map_as f d x)) (sym e) (inr (b d.jd2 d.jd1 z w, z))

-- ---- the theorem, over sizes
pub record Meant (ps : ℕ) (w : Meaning) (a : Outcome JulianDate) (d : JulianDate) : Type 0 where
  pub date : JulianDate
  pub is : a ≡ answer date
  pub means : Means ps w d date

parts-finite : {S s : ℕ} {d : JulianDate} → PartsWithin S s d → (finite d.jd1 ≡ true) × (finite d.jd2 ≡ true)
parts-finite (inl z) = (sized_finite z.0, sized_finite z.1)
parts-finite (inr z) = (sized_finite z.0, sized_finite z.1)

module _ (S t : ℕ) (order : t ≤ S) (ps a c K K' : ℕ) (f : Float → Float → Float) (d : JulianDate) (law : Formula ps S t a c K K' f)
    (r : PartsWithin S t d) where
  met : Close ps a c K K' d (map_smaller_part f d)
  met = close ps S t a c K K' f law d order r

  meant : Meant ps (record { num = a; den = c; more = K; less = K' }) (converted f d) d
  meant = let h = parts-finite r in record { date = map_smaller_part f d; is = converted-is f d h.0 h.1; means = met }

  meant_then : (s2 s a2 c2 K2 K2' : ℕ) (g : Float → Float → Float) → a2 * ps + s2 * c2 ≤ s * c2 → Formula s2 S t a2 c2 K2 K2' g
      → PartsWithin S t (map_smaller_part f d)
      → Meant s (record { num = a * a2; den = c * c2; more = a2 * K + c * K2; less = a2 * K' + c * K2' }) (onward (converted f d) (converted g)) d
  meant_then s2 s a2 c2 K2 K2' g b law2 r2 =
      let h = parts-finite r in
      let h2 = parts-finite r2 in
      record {
        date = map_smaller_part g (map_smaller_part f d);
        is = went (converted g) (converted-is f d h.0 h.1) ∙ converted-is g (map_smaller_part f d) h2.0 h2.1;
        means = close_close ps s2 s b met (close s2 S t a2 c2 K2 K2' g law2 (map_smaller_part f d) order r2);
      }

meant_by : (S t : ℕ) → t ≤ S → (ps K K' : ℕ) (f : Float → Float → Float → Float) (s : Float) (d : JulianDate) → finite s ≡ true
    → Formula ps S t 86400 86400 K K' (f (days_of s)) → PartsWithin S t d
    → Meant ps (record { num = 86400; den = 86400; more = K; less = K' }) (converted_by f s d) d
meant_by S t order ps K K' f s d l law r =
    let h = parts-finite r in
    record { date = map_smaller_part (f (days_of s)) d; is = by-is f s d h.0 h.1 l; means = met S t order ps 86400 86400 K K' (f (days_of s)) d law r }

pub sixteen : (b : Picoseconds) (S s t : ℕ) → Laws b S s t → (k : Conversion) (d : JulianDate) → PartsWithin S s d → (o : Sized (offset_of k) half_day)
    → Meant (bound_of b k) (meaning k (above o) (beneath o)) (answer_of k d) d
unfolding meaning bound_of answer_of offset_of
sixteen b S s t B k d r = go k
  where
    wide : {z : Float} → Sized z s → Sized z t
    wide q = under-as t q (le_trans q.most (mul-le-mul_right U B.first))

    wider : PartsWithin S s d → PartsWithin S t d
    wider (inl z) = inl (z.0, wide z.1)
    wider (inr z) = inr (wide z.0, z.1)

    r' : PartsWithin S t d
    r' = wider r

    go : (k : Conversion) (o : Sized (offset_of k) half_day) → Meant (bound_of b k) (meaning k (above o) (beneath o)) (answer_of k d) d
    go gps-tai _ = meant S t B.order _ _ _ _ _ (plus gps_days) d B.gps-plus r'
    go tai-gps _ = meant S t B.order _ _ _ _ _ (minus gps_days) d B.gps-minus r'
    go tai-tt _ = meant S t B.order _ _ _ _ _ (plus tt_days) d B.tt_plus r'
    go tt-tai _ = meant S t B.order _ _ _ _ _ (minus tt_days) d B.tt_minus r'
    go tcg-tt _ = meant S t B.order _ _ _ _ _ tcg_to_tt d B.tcg-tt r'
    go tt_tcg _ = meant S t B.order _ _ _ _ _ tt_to_tcg d B.tt_tcg r'
    go tcb-tdb _ = meant S t B.order _ _ _ _ _ tcb_to_tdb d B.tcb-tdb r'
    go tdb-tcb _ = meant S t B.order _ _ _ _ _ tdb_to_tcb d B.tdb-tcb r'
    go tai-tcg _ =
        meant_then S t B.order b.fixed _ _ _ _ (plus tt_days) d B.tt_plus r' b.tcg_tt b.tai_tcg _ _ _ _ tt_to_tcg B.tai-tcg B.tt_tcg
        (range-after S s t (plus tt_days) d (le_trans B.first B.order) B.tt_step r)
    go tcg-tai _ =
        meant_then S t B.order b.tcg_tt _ _ _ _ tcg_to_tt d B.tcg-tt r' b.fixed b.tcg_tai _ _ _ _ (minus tt_days) B.tcg-tai B.tt_minus
        (range-after S s t tcg_to_tt d (le_trans B.first B.order) B.tcg-step r)
    go (tai-ut1 s) o = meant_by S t B.order _ _ _ plus s d (sized_finite o) (B.offset-plus s _ _ (high o) (low o) (value o)) r'
    go (ut1-tai s) o = meant_by S t B.order _ _ _ minus s d (sized_finite o) (B.offset-minus s _ _ (high o) (low o) (value o)) r'
    go (ut1-tt s) o = meant_by S t B.order _ _ _ plus s d (sized_finite o) (B.offset-plus s _ _ (high o) (low o) (value o)) r'
    go (tt-ut1 s) o = meant_by S t B.order _ _ _ minus s d (sized_finite o) (B.offset-minus s _ _ (high o) (low o) (value o)) r'
    go (tt-tdb s) o = meant_by S t B.order _ _ _ plus s d (sized_finite o) (B.offset-plus s _ _ (high o) (low o) (value o)) r'
    go (tdb-tt s) o = meant_by S t B.order _ _ _ minus s d (sized_finite o) (B.offset-minus s _ _ (high o) (low o) (value o)) r'

-- ---- the theorem, over tests on floats
half-day : Val (round binary64 false 43200 1) (half_day * U) 0 L
unfolding round L U
half-day = record { sign = false; size = half_day * 2 ^ 984; has = (refl, refl); is = refl }

modified_day : Val (round binary64 false 131071 1) (modified_days * U) 0 L
unfolding round L U
modified_day = record { sign = false; size = modified_days * 2 ^ 984; has = (refl, refl); is = refl }

large : (x : Float) → AtMost (power 23) x → Sized x (2 ^ 113)
large x h = sized_at (power 23) (2 ^ 113) (power-units 23) x h

over-floats : (b : Picoseconds) (s t : ℕ) → Laws b (2 ^ 113) s t → (k : Conversion) (d : JulianDate) → PartsWithin (2 ^ 113) s d → HalfDay (offset_of k)
    → RightTo b k d
over-floats b s t B k d r h =
    let o = sized_at (round binary64 false 43200 1) half_day half-day (offset_of k) h in
    let m = sixteen b (2 ^ 113) s t B k d r o in
    record { x = above o; y = beneath o; offset = value o; date = m.date; is = m.is; means = m.means }

-- the smaller part at most 1 day
pub practical : (k : Conversion) (d : JulianDate) → Practical d → HalfDay (offset_of k) → Right k d
practical k d r h = over-floats practical_bounds (2 ^ 90) (2 ^ 90 + 2 ^ 83) practical_laws k d (go r) h
  where
    one : (x : Float) → AtMost (power 0) x → Sized x (2 ^ 90)
    one x h = sized_at (power 0) (2 ^ 90) (power-units 0) x h

    go : Practical d → PartsWithin (2 ^ 113) (2 ^ 90) d
    go (inl z) = inl (large d.jd1 z.0, one d.jd2 z.1)
    go (inr z) = inr (one d.jd1 z.0, large d.jd2 z.1)

-- the smaller part at most 2 ^ 17 - 1 days
pub modified : (k : Conversion) (d : JulianDate) → Modified d → HalfDay (offset_of k) → RightModified k d
modified k d r h = over-floats modified_bounds modified_days (modified_days + 2 ^ 83) modified_laws k d (go r) h
  where
    small : (x : Float) → AtMost (round binary64 false 131071 1) x → Sized x modified_days
    small x h = sized_at (round binary64 false 131071 1) modified_days modified_day x h

    go : Modified d → PartsWithin (2 ^ 113) modified_days d
    go (inl z) = inl (large d.jd1 z.0, small d.jd2 z.1)
    go (inr z) = inr (small d.jd1 z.0, large d.jd2 z.1)
