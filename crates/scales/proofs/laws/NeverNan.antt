-- A date whose parts are finite f64's is never answered by a NaN, whatever their size; at the ends of the range a part of the answer may be an infinity.
-- Assumes nothing.
use Rattle.std.proofs.Common.{◌≡◌, ℕ, zero, suc, ◌+◌, ◌-◌, ◌*◌, ◌^◌, Bool, true, false, cond, not, ◌&&◌, T, eqb, ltb, sym, refl, ap, ◌∙◌, subst, true≢false}
use Rattle.std.proofs.Common.{arith}
use mathlib.Core.Bool.{beq}
use lib.Ieee.{Float, nan, inf, fin, Format, binary64, prec, low, emax, up, down, odd, units, round, fits, is_nan, sum, add, sub, mul, div, neg, unlike}
use lib.Ieee.Fits.{round_is, add-fits, sub-fits}
use lib.Ieee.Scale.{finite}
use Rattle.rounding.proofs.Value.{val-finite-true}
use Rattle.constants.specs.Constants.{seconds_per_day, tcg_rate_lg, tcb_rate_lb, tcg_rate_ratio, tcb_rate_ratio, ratio}
use Rattle.refusals.specs.Outcome.{Outcome, answer, refusal, onward}
use Rattle.julian.specs.declared.JulianDate.{JulianDate}
use Rattle.julian.specs.shifts.SmallerPart.{first_is_larger, map_smaller_part}
use Rattle.scales.specs.Formulas.{since, gps_days, tt_days, tdb0, jd1977, tcg_to_tt, tt_to_tcg, tcb_to_tdb, tdb_to_tcb}
use Rattle.scales.specs.Conversions.{Conversion, gps-tai, tai-gps, tai-tt, tt-tai, tcg-tt, tt_tcg, tcb-tdb, tdb-tcb, tai-tcg, tcg-tai, tai-ut1}
use Rattle.scales.specs.Conversions.{ut1-tai, ut1-tt, tt-ut1, tt-tdb, tdb-tt, answer_of}
use Rattle.scales.specs.laws.Ranges.{Held}
use Rattle.julian.specs.Finite.{finite_parts}
use Rattle.julian.proofs.shifts.Outcomes.{and_left, and_right, first, first_by}
use Rattle.julian.proofs.shifts.SmallerPart.{map_as, map_is}
use Rattle.scales.proofs.laws.Shifts.{Small, added, taken, taken-from, gps-small, tt_small, tdb0-small, zero_point_small, epoch_small, jd1977-small}
use Rattle.julian.specs.shifts.Shifts.{plus, minus, days_of, converted, converted_by}

-- ---- the operations
record Number (x : Float) : Type 0 where
  is : is_nan x ≡ false

inf_number : (s : Bool) → Number (inf s)
unfolding is_nan
inf_number s = record { is = refl }

pick : (b : Bool) {x y : Float} → Number x → Number y → Number (cond b x y)
pick true h k = h
pick false h k = k

-- the second of two, by a test that fails
other : (b : Bool) (x : Float) {y : Float} → not b ≡ true → Number y → Number (cond b x y)
other true x h k = absurd (true≢false (sym h))
other false x h k = k

odd_number : (d : ℕ) (s : Bool) (q k l : ℕ) → Number (odd d s q k l)
unfolding odd is_nan
odd_number d s zero k l = record { is = refl }
odd_number d s (suc q) k l = record { is = refl }

units_number : (f : Format) (s : Bool) (q k : ℕ) → Number (units f s q k)
unfolding units
units_number f s q k = pick (ltb (q * 2 ^ k) (2 ^ (low f + suc (emax f)))) (odd_number (suc (prec f)) s q k (low f)) (inf_number s)

round_number : (f : Format) (s : Bool) (a c : ℕ) → Number (round f s a c)
round_number f s a c = subst Number (sym (round_is f s a c)) (units_number f s _ _)

number-not : (x : Float) → Number x → x ≡ nan → ⊥
unfolding is_nan
number-not x h e = true≢false (ap is_nan (sym e) ∙ h.is)

finite_number : (x : Float) → finite x ≡ true → Number x
unfolding is_nan
finite_number nan h = absurd (true≢false (sym h))
finite_number (inf s) h = absurd (true≢false (sym h))
finite_number (fin s m e) h = record { is = refl }

sum_number : (s : Bool) (a : ℕ) (t : Bool) (b c : ℕ) → Number (sum binary64 s a t b c)
unfolding sum
sum_number s a t b c = pick (beq s t) (round_number binary64 s (a + b) c)
    (pick (ltb a b) (round_number binary64 t (b - a) c) (round_number binary64 (s && ltb b a) (a - b) c))

add_number : (x y : Float) → finite x ≡ true → Number y → Number (add binary64 x y)
unfolding add
add_number nan y h k = absurd (true≢false (sym h))
add_number (inf s) y h k = absurd (true≢false (sym h))
add_number (fin s m e) nan h k = absurd (number-not nan k refl)
add_number (fin s m e) (inf t) h k = inf_number t
add_number (fin s m e) (fin t n d) h k = sum_number s (m * up e * down d) t (n * up d * down e) (down e * down d)

neg_number : (y : Float) → Number y → Number (neg y)
unfolding neg is_nan
neg_number nan k = k
neg_number (inf t) k = record { is = refl }
neg_number (fin t n d) k = record { is = refl }

sub_number : (x y : Float) → finite x ≡ true → Number y → Number (sub binary64 x y)
unfolding sub
sub_number x y h k = add_number x (neg y) h (neg_number y k)

-- neither zero nor an infinity
abbrev some : Float → Bool
some nan = false
some (inf s) = false
some (fin s m e) = not (eqb m 0)

mul_number : (x y : Float) → Number x → some y ≡ true → Number (mul binary64 x y)
unfolding mul
mul_number x nan h k = absurd (true≢false (sym k))
mul_number x (inf t) h k = absurd (true≢false (sym k))
mul_number nan (fin t n d) h k = absurd (number-not nan h refl)
mul_number (inf s) (fin t n d) h k = other (eqb n 0) nan k (inf_number (unlike s t))
mul_number (fin s m e) (fin t n d) h k = round_number binary64 (unlike s t) (m * up e * (n * up d)) (down e * down d)

div_number : (x y : Float) → finite x ≡ true → some y ≡ true → Number (div binary64 x y)
unfolding div
div_number x nan h k = absurd (true≢false (sym k))
div_number x (inf t) h k = absurd (true≢false (sym k))
div_number nan (fin t n d) h k = absurd (true≢false (sym h))
div_number (inf s) (fin t n d) h k = absurd (true≢false (sym h))
div_number (fin s m e) (fin t n d) h k =
    other (eqb n 0) (cond (eqb m 0) nan (inf (unlike s t))) k (round_number binary64 (unlike s t) (m * up e * down d) (n * up d * down e))

-- ---- the formulas
small-number : {k : Float} → Small k → Number k
small-number {k} w = finite_number k (val-finite-true w.val)

-- of finite f64's f makes a number
Fine : (Float → Float → Float) → Type 0
Fine f = (big small : Float) → T (fits binary64 big) → T (fits binary64 small) → finite big ≡ true → finite small ≡ true → Number (f big small)

plus-fine : (k : Float) → Number k → Fine (plus k)
unfolding Fine plus
plus-fine k n big small fb fs hb hs = add_number small k hs n

minus-fine : (k : Float) → Number k → Fine (minus k)
unfolding Fine minus
minus-fine k n big small fb fs hb hs = sub_number small k hs n

days-number : (s : Float) → finite s ≡ true → Number (days_of s)
unfolding days_of seconds_per_day round
days-number s h = div_number s (round binary64 false 86400 1) h refl

since-number : {a b : Float} → Small a → Small b → (big small : Float) → T (fits binary64 big) → finite big ≡ true → finite small ≡ true
    → Number (since a b big small)
unfolding since
since-number {a} {b} u v big small f hb hs = add_number (sub binary64 big a) (sub binary64 small b) (taken u big f hb) (sub_number small b hs (small-number v))

lg_some : some tcg_rate_lg ≡ true
unfolding tcg_rate_lg round
lg_some = refl

ratio-lg-some : some tcg_rate_ratio ≡ true
unfolding tcg_rate_ratio ratio tcg_rate_lg sub div round
ratio-lg-some = refl

lb_some : some tcb_rate_lb ≡ true
unfolding tcb_rate_lb round
lb_some = refl

ratio-lb-some : some tcb_rate_ratio ≡ true
unfolding tcb_rate_ratio ratio tcb_rate_lb sub div round
ratio-lb-some = refl

tcg-tt-fine : Fine tcg_to_tt
unfolding Fine tcg_to_tt
tcg-tt-fine big small fb fs hb hs = sub_number small _ hs (mul_number _ tcg_rate_lg (since-number zero_point_small epoch_small big small fb hb hs) lg_some)

tt_tcg_fine : Fine tt_to_tcg
unfolding Fine tt_to_tcg
tt_tcg_fine big small fb fs hb hs =
    add_number small _ hs (mul_number _ tcg_rate_ratio (since-number zero_point_small epoch_small big small fb hb hs) ratio-lg-some)

tcb_tdb_fine : Fine tcb_to_tdb
unfolding Fine tcb_to_tdb
tcb_tdb_fine big small fb fs hb hs =
    sub_number (add binary64 small tdb0) _ (added tdb0-small small fs hs)
    (mul_number _ tcb_rate_lb (since-number jd1977-small tt_small big small fb hb hs) lb_some)

tdb_tcb_fine : Fine tdb_to_tcb
unfolding Fine tdb_to_tcb
tdb_tcb_fine big small fb fs hb hs =
    let x = sub binary64 small tdb0 in
    let h : finite x ≡ true = taken tdb0-small small fs hs in
    sub_number x _ h (mul_number _ tcb_rate_ratio
    (sub_number (sub binary64 jd1977 big) _ (taken-from jd1977-small big fb hb) (sub_number x tt_days h (small-number tt_small))) ratio-lb-some)

-- ---- the dates
NumberDate : JulianDate → Type 0
NumberDate u = Number u.jd1 × Number u.jd2

module _ (d : JulianDate) (g : Held d) (h : finite_parts d ≡ true) where
  one : finite d.jd1 ≡ true
  one = and_left (finite d.jd1) (finite d.jd2) h

  two : finite d.jd2 ≡ true
  two = and_right (finite d.jd1) (finite d.jd2) h

  changed-number : (f : Float → Float → Float) → Fine f → NumberDate (map_smaller_part f d)
  unfolding Fine NumberDate
  changed-number f n = subst NumberDate (sym (map_is f d)) (go (first_is_larger d))
    where
      go : (b : Bool) → NumberDate (map_as f d b)
      go true = (finite_number d.jd1 one, n d.jd1 d.jd2 g.0 g.1 one two)
      go false = (n d.jd2 d.jd1 g.1 g.0 two one, finite_number d.jd2 two)

changed-held : (f : Float → Float → Float) → ((x y : Float) → T (fits binary64 (f x y))) → (d : JulianDate) → Held d → Held (map_smaller_part f d)
changed-held f n d g = subst Held (sym (map_is f d)) (go (first_is_larger d))
  where
    go : (b : Bool) → Held (map_as f d b)
    go true = (g.0, n d.jd1 d.jd2)
    go false = (n d.jd2 d.jd1, g.1)

-- ---- what an answer says of the date
no_answer : {u : JulianDate} {n : ℕ} → refusal n ≡ answer u → ⊥
no_answer h = let z : ◌≡◌ {A = ℕ} 0 1 = cc in omega arith

module _ (u : JulianDate) where
  plain : (f : Float → Float → Float) → Fine f → (d : JulianDate) → Held d → converted f d ≡ answer u → NumberDate u
  plain f n d g e = go (finite_parts d) (λ h. changed-number d g h f n) (sym (first f d) ∙ e)
    where
      go : (b : Bool) → (b ≡ true → NumberDate (map_smaller_part f d)) → cond b (answer (map_smaller_part f d)) (refusal 9) ≡ answer u → NumberDate u
      go true k e = subst NumberDate (cc) (k refl)
      go false k e = absurd (no_answer e)

  then_plain : (f g : Float → Float → Float) → ((x y : Float) → T (fits binary64 (f x y))) → Fine g → (d : JulianDate) → Held d
      → onward (converted f d) (converted g) ≡ answer u → NumberDate u
  unfolding onward
  then_plain f g n m d w e = go (finite_parts d) (ap (λ (o : Outcome JulianDate). onward o (converted g)) (sym (first f d)) ∙ e)
    where
      go : (b : Bool) → onward (cond b (answer (map_smaller_part f d)) (refusal 9)) (converted g) ≡ answer u → NumberDate u
      go true e = plain g m (map_smaller_part f d) (changed-held f n d w) e
      go false e = absurd (no_answer e)

  given : (f : Float → Float → Float → Float) → ((k : Float) → Number k → Fine (f k)) → (s : Float) (d : JulianDate) → Held d → converted_by f s d ≡ answer u
      → NumberDate u
  given f n s d g e = go (finite_parts d) (finite s) (λ h k. changed-number d g h (f (days_of s)) (n (days_of s) (days-number s k))) (sym (first_by f s d) ∙ e)
    where
      go : (b c : Bool) → (b ≡ true → c ≡ true → NumberDate (map_smaller_part (f (days_of s)) d))
          → cond b (cond c (answer (map_smaller_part (f (days_of s)) d)) (refusal 10)) (refusal 9) ≡ answer u → NumberDate u
      go true true k e = subst NumberDate (cc) (k refl refl)
      go true false k e = absurd (no_answer e)
      go false c k e = absurd (no_answer e)

-- ---- the theorem
numbers : (k : Conversion) (d u : JulianDate) → Held d → answer_of k d ≡ answer u → NumberDate u
unfolding answer_of plus tcg_to_tt
numbers gps-tai d u g e = plain u (plus gps_days) (plus-fine gps_days (small-number gps-small)) d g e
numbers tai-gps d u g e = plain u (minus gps_days) (minus-fine gps_days (small-number gps-small)) d g e
numbers tai-tt d u g e = plain u (plus tt_days) (plus-fine tt_days (small-number tt_small)) d g e
numbers tt-tai d u g e = plain u (minus tt_days) (minus-fine tt_days (small-number tt_small)) d g e
numbers tcg-tt d u g e = plain u tcg_to_tt tcg-tt-fine d g e
numbers tt_tcg d u g e = plain u tt_to_tcg tt_tcg_fine d g e
numbers tcb-tdb d u g e = plain u tcb_to_tdb tcb_tdb_fine d g e
numbers tdb-tcb d u g e = plain u tdb_to_tcb tdb_tcb_fine d g e
numbers tai-tcg d u g e = then_plain u (plus tt_days) tt_to_tcg (λ x y. add-fits binary64 y tt_days) tt_tcg_fine d g e
numbers tcg-tai d u g e = then_plain u tcg_to_tt (minus tt_days) (λ x y. sub-fits binary64 y _) (minus-fine tt_days (small-number tt_small)) d g e
numbers (tai-ut1 s) d u g e = given u plus plus-fine s d g e
numbers (ut1-tai s) d u g e = given u minus minus-fine s d g e
numbers (ut1-tt s) d u g e = given u plus plus-fine s d g e
numbers (tt-ut1 s) d u g e = given u minus minus-fine s d g e
numbers (tt-tdb s) d u g e = given u plus plus-fine s d g e
numbers (tdb-tt s) d u g e = given u minus minus-fine s d g e

pub never-nan : (k : Conversion) (d u : JulianDate) → Held d → answer_of k d ≡ answer u → (is_nan u.jd1 ≡ false) × (is_nan u.jd2 ≡ false)
unfolding NumberDate
never-nan k d u g e = let n = numbers k d u g e in (n.0.is, n.1.is)
