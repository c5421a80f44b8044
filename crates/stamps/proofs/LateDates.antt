-- A date whose rounded sum is from 0.0 to 1e9 has a text: its day is -3 or later, long after -4799-01-01, whatever the two floats are. Assumes nothing.
use mathlib.Core.Path.{◌≡◌, refl, sym, ap, ◌∙◌, subst}
use mathlib.Core.Bool.{Bool, true, false, not, cond, ◌&&◌}
use mathlib.Core.List.{List}
use Prim.Native.Nat.{ℕ, ◌+◌, ◌*◌, ◌^◌, ◌≤◌, ◌<◌}
use native.Mathlib.Nat.{add-mul, le_of_eq, lt_of_lt_of_le, lt_of_mul-lt-mul_right}
use native.Mathlib.Omega.{arith}
use lib.Dec.{T, leb, leb→le, nleb→lt, lit<}
use lib.IntN.{ℤ, pos, negsuc}
use lib.Signed.{lt_z}
use lib.Ieee.{Float, nan, inf, fin, binary64, add, lt, le, eq, fits, of_bits}
use lib.Ieee.Bits.{is_true}
use lib.Ieee.Fits.{add-fits}
use lib.Ieee.Scale.{finite}
use borrow.Author.Tests.{le-ltb}
use Rattle.std.specs.Prelude.{Ok}
use Rattle.refusals.specs.Outcome.{outcome}
use Rattle.refusals.specs.Refusal.{refusal_number}
use Rattle.rounding.specs.Value.{Val, L, minus_z}
use Rattle.rounding.proofs.Value.{L-pos, add_rounds}
use Rattle.rounding.proofs.Signed.{plus-of, minus-of, dist, dist_zero}
use Rattle.rounding.proofs.Own.{Rep, rep_flip, own, own_val}
use Rattle.rounding.proofs.Nearest.{rn_le}
use Rattle.rounding.proofs.TwoSumFloat.{At, rounds-at}
use Rattle.rounding.proofs.Compare.{le_true, le_show}
use Rattle.floats.specs.Whole.{nearest_int, nought}
use Rattle.julian.specs.day_number.DayNumber.{c_djmin, c_djmax, in_julian_range, accepted, day_number, day_of}
use Rattle.julian.proofs.day_number.Units.{E, E-L, E_pos, H, H-L, W, L-W, min_L, nought-L}
use Rattle.julian.proofs.day_number.SignedUnits.{has-val}
use Rattle.julian.proofs.day_number.NearestInt.{sat_plus, sat_minus}
use Rattle.julian.proofs.day_number.JulianRange.{exact-sum, far}
use Rattle.julian.proofs.day_number.IntegerSum.{gather3}
use Rattle.julian.proofs.day_number.Pair.{AcceptedSum}
use Rattle.julian.proofs.day_number.Accepted.{accepted-pair}
use Rattle.julian.proofs.day_number.TotalDay.{sides}
use Rattle.julian.proofs.day_number.DayInRange.{total-is, number_is}
use Rattle.julian.proofs.day_number.Answer.{answered}
use Rattle.julian.specs.declared.JulianDate.{JulianDate}
use Rattle.leap_table.specs.rows.Table.{Row}
use Rattle.utc.specs.iso_texts.Expanded.{iso_text_expanded}
use Rattle.stamps.specs.Listing.{one_if_refused}
use Rattle.stamps.proofs.Counts.{day-given}

-- ---- the test as the code makes it
pub record Late (x y : Float) : Type 0 where
  low : le nought (add binary64 x y) ≡ true
  high : le (add binary64 x y) c_djmax ≡ true

pub from_zero : (z : Float) → le nought z ≡ true → le z c_djmax ≡ (le nought z && le z c_djmax)
from_zero z e = sym (ap (λ (b : Bool). b && le z c_djmax) e)

pub below-zero : (z : Float) → le nought z ≡ false → le nought z ≡ (le nought z && le z c_djmax)
below-zero z e = e ∙ sym (ap (λ (b : Bool). b && le z c_djmax) e)

both : (a b : Bool) → true ≡ (a && b) → (a ≡ true) × (b ≡ true)
both true b e = (refl, sym e)
both false b e = let z : ◌≡◌ {A = ℕ} 0 1 = cc in absurd (omega arith)

pub late_of : (x y : Float) → true ≡ (le nought (add binary64 x y) && le (add binary64 x y) c_djmax) → Late x y
late_of x y e = let h = both (le nought (add binary64 x y)) (le (add binary64 x y) c_djmax) e in record { low = h.0; high = h.1 }

-- ---- such a sum is finite and in the range
late-finite : (z : Float) → le nought z ≡ true → le z c_djmax ≡ true → T (finite z)
unfolding le lt eq of_bits
late-finite nan a b = absurd (subst T (sym a) tt)
late-finite (inf true) a b = absurd (subst T (sym a) tt)
late-finite (inf false) a b = absurd (subst T (sym b) tt)
late-finite (fin s m e) a b = tt

module _ (x y : Float) (l : Late x y) where
  late-low : T (le c_djmin (add binary64 x y))
  late-low =
      let v = own_val (add binary64 x y) (own (add binary64 x y) (add-fits binary64 x y) (late-finite (add binary64 x y) l.low l.high)) in
      le_show L-pos min_L v (omega (arith, le_true L-pos nought-L v l.low))

  late-accepted : accepted x y ≡ true
  unfolding accepted in_julian_range
  late-accepted = ap (λ (b : Bool). b && le (add binary64 x y) c_djmax) (is_true (le c_djmin (add binary64 x y)) late-low) ∙ l.high

-- ---- the exact sum is more than -1/8
eighth : Rep (dist 0 E)
unfolding E
eighth = rep_flip E 0 (subst Rep (sym (dist_zero E)) (record { q = 1; j = 1071; is = refl; small = lit< tt }))

module _ (x y : Float) (p n q m : ℕ) (vx : Val x p n L) (vy : Val y q m L) (l : Late x y) where
  late-exact : n + m < p + q + E
  late-exact =
      let r = exact-sum x y p n q m vx vy (late-low x y l) (subst T (sym l.high) tt) in
      let a = rounds-at far (omega (arith, r.high, E-L)) (omega (arith, r.low, E-L)) (add_rounds binary64 L-pos vx vy) in
      by a (le_true L-pos nought-L a.val l.low) (leb (p + q + E) (n + m)) (leb→le (p + q + E) (n + m)) (nleb→lt (p + q + E) (n + m))
    where
      by : (a : At (add binary64 x y) (p + q) (n + m) (2 ^ 64 * L)) → 0 + a.n ≤ a.p + 0
          → (b : Bool) → (T b → p + q + E ≤ n + m) → (T (not b) → n + m < p + q + E) → n + m < p + q + E
      by a h false f g = g tt
      by a h true f g =
          let e : p + q + E ≤ 0 + (n + m) = omega (arith, f tt) in
          let w : a.p + E ≤ 0 + a.n = rn_le 0 E eighth a.rn e in
          let z : ⊥ = omega (arith, E_pos) in absurd z

-- ---- so the days of the parts, with those carried and borrowed, are 0 at least, and -3 where the casts saturate
gather : (a b c d D : ℕ) → (a + b + c + d + 1) * D ≡ a * D + b * D + c * D + d * D + 1 * D
gather a b c d D = simp add-mul

whole-days : (p n q m i k j l up more down units : ℕ) → units < L → n + m < p + q + E
    → H + (p + k * L) + (q + l * L) + down * L ≤ units + (n + i * L + (m + j * L) + up * L) + more * L + 8 * W → k + l + down ≤ i + j + up + more
whole-days p n q m i k j l up more down units below exact under =
    let h : (k + l + down) * L < i * L + j * L + up * L + more * L + 1 * L =
    rw (gather3 k l down L) (two (i * L) (j * L) (up * L) (more * L) (k * L) (l * L) (down * L) under) in
    less (lt_of_mul-lt-mul_right L (lt_of_lt_of_le h (le_of_eq (sym (gather i j up more L)))))
  where
    two : (i j u w k l d : ℕ) → H + (p + k) + (q + l) + d ≤ units + (n + i + (m + j) + u) + w + 8 * W → k + l + d < i + j + u + w + 1 * L
    two i j u w k l d o = omega (arith, H-L, E-L, L-W, E_pos)

    less : k + l + down < i + j + up + more + 1 → k + l + down ≤ i + j + up + more
    less h = omega arith

saturated : (s t : Bool) (A B up more down : ℕ) → up ≤ 2 → more ≤ 1 → down ≤ 1 → minus-of s A + minus-of t B + down ≤ plus-of s A + plus-of t B + up + more
    → sat_minus s A + sat_minus t B + down ≤ sat_plus s A + sat_plus t B + up + more + 3
saturated false false A B up more down h1 h2 h3 k = omega arith
saturated true true A B up more down h1 h2 h3 k = omega arith
saturated false true A B up more down h1 h2 h3 k = omega arith
saturated true false A B up more down h1 h2 h3 k = omega arith

late-day : (x y : Float) → T (fits binary64 x) → T (fits binary64 y) → Late x y → minus_z (day_number x y) ≤ 3
late-day x y fx fy l = go (accepted-pair x y fx fy (late-accepted x y l))
  where
    go : AcceptedSum x y → minus_z (day_number x y) ≤ 3
    go o =
        let k = o.near in
        let exact = late-exact x y _ _ _ _ (has-val x k.s k.X L k.vx) (has-val y k.t k.Y L k.vy) l in
        let days = whole-days (plus-of k.s k.X) (minus-of k.s k.X) (plus-of k.t k.Y) (minus-of k.t k.Y)
        (plus-of k.s k.A) (minus-of k.s k.A) (plus-of k.t k.B) (minus-of k.t k.B)
        o.up o.more o.down o.units o.below exact k.under in
        let cast = saturated k.s k.t k.A k.B o.up o.more o.down o.few o.one o.least days in
        let total = total-is (nearest_int x) (nearest_int y) o.up o.more o.down in
        let z = sides 1000000000 3 total (omega (arith, o.ints.high)) (omega (arith, cast, k.wx.plus, k.wx.minus, k.wy.plus, k.wy.minus)) in
        subst (λ (d : ℤ). minus_z d ≤ 3) (sym (number_is x y o.up o.more o.down o.carry o.again o.borrow)) z.1

-- ---- and it has a text
not_early : (z : ℤ) → minus_z z ≤ 3 → lt_z z (negsuc 31737) ≡ false
not_early (pos n) h = refl
not_early (negsuc n) h = le-ltb 31737 n (omega arith)

pub late-shown : (rows : List Row) (jd : JulianDate) → T (fits binary64 jd.jd1) → T (fits binary64 jd.jd2) → Late jd.jd1 jd.jd2
    → 0 ≡ one_if_refused (iso_text_expanded rows jd)
unfolding outcome day_of refusal_number
late-shown rows jd f1 f2 l =
    let day = day_of jd.jd1 jd.jd2 in
    let given = day-given rows jd (Ok day) (sym (answered jd.jd1 jd.jd2 (late-accepted jd.jd1 jd.jd2 l))) day refl in
    ap (λ (b : Bool). cond {A = ℕ} b 1 0) (sym (not_early (day_number jd.jd1 jd.jd2) (late-day jd.jd1 jd.jd2 f1 f2 l))) ∙ given
