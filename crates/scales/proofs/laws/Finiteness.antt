-- Demand 1 of the sixteen conversions, as one theorem: a date whose parts are under 2 ^ 52 in size, with an offset of at most 10 ^ 9 seconds, has an answer,
-- both parts of it finite. `tests/scale_numbers` makes the numbers of the four rates: the places of the roundings (the bit length of what is rounded, less 54),
-- the size of the correction and its error, the last two the least that the laws of `About` allow, in units of 2 ^ -90. Assumes nothing.
use Rattle.std.proofs.Common.{◌≡◌, ℕ, ◌+◌, ◌*◌, ◌^◌, ◌≤◌, Bool, true, false, T, pos, sym, refl, ap, ◌∙◌, subst, le_trans, add-zero, mul-le-mul_right, mul_assoc}
use Rattle.std.proofs.Common.{arith, lit<, lit≤, leb→le}
use lib.Ieee.{Float, fin, binary64, lt, le, eq, round}
use lib.Ieee.Scale.{finite}
use lib.Ieee.Exact.{HasValue}
use Rattle.floats.proofs.Casts.{or_l}
use Rattle.floats.specs.Whole.{abs}
use Rattle.rounding.specs.Value.{Val, Under52, L}
use Rattle.rounding.proofs.Value.{L-pos, abs-has, val-finite-true}
use Rattle.rounding.proofs.Own.{own}
use Rattle.rounding.proofs.Range.{power-val, le_finite}
use Rattle.rounding.proofs.Compare.{le_val}
use Rattle.rounding.proofs.About.{U, L-U, About, about_add, about_sub}
use Rattle.refusals.specs.Outcome.{onward}
use Rattle.julian.specs.declared.JulianDate.{JulianDate}
use Rattle.julian.specs.Worth.{SmallParts}
use Rattle.julian.specs.shifts.SmallerPart.{first_is_larger, map_smaller_part}
use Rattle.scales.specs.Formulas.{gps_days, tt_days, tcg_to_tt, tt_to_tcg, tcb_to_tdb, tdb_to_tcb}
use Rattle.scales.specs.Conversions.{Conversion, gps-tai, tai-gps, tai-tt, tt-tai, tcg-tt, tt_tcg, tcb-tdb, tdb-tcb, tai-tcg, tcg-tai, tai-ut1}
use Rattle.scales.specs.Conversions.{ut1-tai, ut1-tt, tt-ut1, tt-tdb, tdb-tt, offset_of, answer_of}
use Rattle.scales.specs.laws.Ranges.{AtMost, power, Billion, FiniteDate}
use Rattle.refusals.proofs.Onward.{went}
use Rattle.julian.proofs.shifts.Outcomes.{converted-is, by-is}
use Rattle.julian.proofs.shifts.SmallerPart.{map_as, map_is}
use Rattle.scales.proofs.laws.Constants.{gps-about, tt_about, mjd-about, epoch_about, jd1977-about, tt_about_2, tdb0-about, lg_val, ratio-lg-val}
use Rattle.scales.proofs.laws.Constants.{lb_val, ratio-lb-val}
use Rattle.scales.proofs.laws.Formulas.{part, since-about, until-about, rate-less, rate-more, plus-about, minus-about, days-about}
use Rattle.scales.proofs.laws.Dates.{Sized, above, beneath, value, high, low, under-as, about_sized}
use Rattle.julian.specs.shifts.Shifts.{plus, minus, days_of, converted, converted_by}

-- ---- what is sized is finite
pub sized_finite : {x : Float} {S : ℕ} → Sized x S → finite x ≡ true
sized_finite z = val-finite-true (value z)

-- ---- the formulas, over parts of any size up to 2 ^ 53 days

-- f gives at most T' of parts that are at most S
unfoldable pub Bounded : ℕ → ℕ → (Float → Float → Float) → Type 0
Bounded S T' f = (big small : Float) → Sized big S → Sized small S → Sized (f big small) T'

gps-plus-far : Bounded (2 ^ 143) (2 ^ 144) (plus gps_days)
unfolding Bounded
gps-plus-far big small z w = about_sized (2 ^ 144) (lit≤ tt)
    (plus-about 100 86400 (2 ^ 143) big (lit< tt) (lit≤ tt) (lit< tt) (high w) (low w) (value w) gps-about)

tt_plus_far : Bounded (2 ^ 143) (2 ^ 144) (plus tt_days)
unfolding Bounded
tt_plus_far big small z w = about_sized (2 ^ 144) (lit≤ tt)
    (plus-about 100 86400000 (2 ^ 143) big (lit< tt) (lit≤ tt) (lit< tt) (high w) (low w) (value w) tt_about)

gps-minus-far : Bounded (2 ^ 143) (2 ^ 144) (minus gps_days)
unfolding Bounded
gps-minus-far big small z w = about_sized (2 ^ 144) (lit≤ tt)
    (minus-about 100 86400 (2 ^ 143) big (lit< tt) (lit≤ tt) (lit< tt) (high w) (low w) (value w) gps-about)

tt_minus_far : Bounded (2 ^ 143) (2 ^ 144) (minus tt_days)
unfolding Bounded
tt_minus_far big small z w = about_sized (2 ^ 144) (lit≤ tt)
    (minus-about 100 86400000 (2 ^ 143) big (lit< tt) (lit≤ tt) (lit< tt) (high w) (low w) (value w) tt_about)

-- the first step of a conversion through TT
tt_plus_first : Bounded (2 ^ 142) (2 ^ 143) (plus tt_days)
unfolding Bounded
tt_plus_first big small z w = about_sized (2 ^ 143) (lit≤ tt)
    (plus-about 100 86400000 (2 ^ 142) big (lit< tt) (lit≤ tt) (lit< tt) (high w) (low w) (value w) tt_about)

tcg-tt-first : Bounded (2 ^ 142) (2 ^ 143) tcg_to_tt
unfolding Bounded tcg_to_tt
tcg-tt-first big small z w = about_sized (2 ^ 143) (lit≤ tt)
    (rate-less 59 89 6969290134 6740283829902479 10000000000000000000 (2 ^ 83) 314786517965340672 7771018176756206835028886368896228 2338265827361613893
    (lit≤ tt) (lit≤ tt) (lit< tt) (lit< tt) (lit≤ tt) (lit≤ tt) (lit≤ tt) (lit< tt) (lit≤ tt) (lit< tt) lg_val
    (since-about 89 89 90 (lit≤ tt) (lit≤ tt) (lit≤ tt) (lit< tt) (lit< tt) (lit< tt) (part 10000000 (2 ^ 142) (lit< tt) (high z) (low z) (value z))
    (part 10000000 (2 ^ 142) (lit< tt) (high w) (low w) (value w)) mjd-about epoch_about)
    (part 10000000 (2 ^ 142) (lit< tt) (high w) (low w) (value w)))

tcg-tt-far : Bounded (2 ^ 143) (2 ^ 144) tcg_to_tt
unfolding Bounded tcg_to_tt
tcg-tt-far big small z w = about_sized (2 ^ 144) (lit≤ tt)
    (rate-less 60 90 6969290134 6740283829902479 10000000000000000000 (2 ^ 83) 314786517965340672 15542036351404573992887734717204816 4676531654712327088
    (lit≤ tt) (lit≤ tt) (lit< tt) (lit< tt) (lit≤ tt) (lit≤ tt) (lit≤ tt) (lit< tt) (lit≤ tt) (lit< tt) lg_val
    (since-about 90 90 91 (lit≤ tt) (lit≤ tt) (lit≤ tt) (lit< tt) (lit< tt) (lit< tt) (part 10000000 (2 ^ 143) (lit< tt) (high z) (low z) (value z))
    (part 10000000 (2 ^ 143) (lit< tt) (high w) (low w) (value w)) mjd-about epoch_about)
    (part 10000000 (2 ^ 143) (lit< tt) (high w) (low w) (value w)))

tt_tcg_far : Bounded (2 ^ 143) (2 ^ 144) tt_to_tcg
unfolding Bounded tt_to_tcg
tt_tcg_far big small z w = about_sized (2 ^ 144) (lit≤ tt)
    (rate-more 60 90 6969290134 3370141917299989 9999999993030709866 (2 ^ 82) 1971811916238678862 15542036362236270061047983428546945 5513284573188805345
    (lit≤ tt) (lit≤ tt) (lit< tt) (lit< tt) (lit≤ tt) (lit≤ tt) (lit≤ tt) (lit< tt) (lit≤ tt) (lit< tt) ratio-lg-val
    (since-about 90 90 91 (lit≤ tt) (lit≤ tt) (lit≤ tt) (lit< tt) (lit< tt) (lit< tt) (part 10000000 (2 ^ 143) (lit< tt) (high z) (low z) (value z))
    (part 10000000 (2 ^ 143) (lit< tt) (high w) (low w) (value w)) mjd-about epoch_about)
    (part 10000000 (2 ^ 143) (lit< tt) (high w) (low w) (value w)))

tcb_tdb_far : Bounded (2 ^ 143) (2 ^ 144) tcb_to_tdb
unfolding Bounded tcb_to_tdb
tcb_tdb_far big small z w = about_sized (2 ^ 144) (lit≤ tt)
    (rate-less 65 90 1550519768 1171539613348803 100000000000000000 (2 ^ 76) 7664284282519552 345777462761423116341403085772131780 136292482757761003118
    (lit≤ tt) (lit≤ tt) (lit< tt) (lit< tt) (lit≤ tt) (lit≤ tt) (lit≤ tt) (lit< tt) (lit≤ tt) (lit< tt) lb_val
    (since-about 90 90 91 (lit≤ tt) (lit≤ tt) (lit≤ tt) (lit< tt) (lit< tt) (lit< tt) (part 864000000000 (2 ^ 143) (lit< tt) (high z) (low z) (value z))
    (part 864000000000 (2 ^ 143) (lit< tt) (high w) (low w) (value w)) jd1977-about tt_about_2)
    (about_add 90 (lit≤ tt) (lit< tt) (part 864000000000 (2 ^ 143) (lit< tt) (high w) (low w) (value w)) tdb0-about))

tdb_tcb_far : Bounded (2 ^ 143) (2 ^ 144) tdb_to_tcb
unfolding Bounded tdb_to_tcb
tdb_tcb_far big small z w = about_sized (2 ^ 144) (lit≤ tt)
    (rate-less 65 90 1550519768 2343079263027513 99999998449480232 (2 ^ 77) 13538130662120 345777468122771112874867718166824692 132885993515863365225
    (lit≤ tt) (lit≤ tt) (lit< tt) (lit< tt) (lit≤ tt) (lit≤ tt) (lit≤ tt) (lit< tt) (lit≤ tt) (lit< tt) ratio-lb-val
    (until-about 90 90 91 (lit≤ tt) (lit≤ tt) (lit≤ tt) (lit< tt) (lit< tt) (lit< tt) (part 864000000000 (2 ^ 143) (lit< tt) (high z) (low z) (value z))
    (about_sub 90 (lit≤ tt) (lit< tt) (part 864000000000 (2 ^ 143) (lit< tt) (high w) (low w) (value w)) tdb0-about) jd1977-about tt_about_2)
    (about_sub 90 (lit≤ tt) (lit< tt) (part 864000000000 (2 ^ 143) (lit< tt) (high w) (low w) (value w)) tdb0-about))

module _ {seconds : Float} (o : Sized seconds 1237940039285380274899124224000000000) where
  days-far : About (days_of seconds) (above o * 1) (beneath o * 1) (L * 86400) (2 ^ 104) (2 ^ 60)
  days-far = days-about 60 1237940039285380274899124224000000000 (2 ^ 104) (lit≤ tt) (lit≤ tt) (lit< tt) (high o) (low o) (value o)

  offset-plus-far : Bounded (2 ^ 143) (2 ^ 144) (plus (days_of seconds))
  unfolding Bounded
  offset-plus-far big small z w =
      about_sized (2 ^ 144) (lit≤ tt) (plus-about 100 86400 (2 ^ 143) big (lit< tt) (lit≤ tt) (lit< tt) (high w) (low w) (value w) days-far)

  offset-minus-far : Bounded (2 ^ 143) (2 ^ 144) (minus (days_of seconds))
  unfolding Bounded
  offset-minus-far big small z w =
      about_sized (2 ^ 144) (lit≤ tt) (minus-about 100 86400 (2 ^ 143) big (lit< tt) (lit≤ tt) (lit< tt) (high w) (low w) (value w) days-far)

-- ---- the dates

pub changed-sized : (S T' : ℕ) (f : Float → Float → Float) (d : JulianDate) → S ≤ T' → Bounded S T' f → Sized d.jd1 S → Sized d.jd2 S
    → Sized (map_smaller_part f d).jd1 T' × Sized (map_smaller_part f d).jd2 T'
unfolding Bounded
changed-sized S T' f d l b z w = subst (λ (e : JulianDate). Sized e.jd1 T' × Sized e.jd2 T') (sym (map_is f d)) (go (first_is_larger d))
  where
    wide : {x : Float} (y : Sized x S) → Sized x T'
    wide y = under-as T' y (le_trans y.most (mul-le-mul_right U l))

    go : (t : Bool) → Sized (map_as f d t).jd1 T' × Sized (map_as f d t).jd2 T'
    go true = (wide z, b d.jd1 d.jd2 z w)
    go false = (b d.jd2 d.jd1 w z, wide w)

-- ---- from a test on floats to a size
module _ (c : Float) (S : ℕ) (w : Val c (S * U) 0 L) (x : Float) (h : AtMost c x) where
  finite-at : T (finite x)
  finite-at = le_finite x c w.sign w.size w.has h.1

  pub sized_at : Sized x S
  sized_at =
      let o = own x h.0 finite-at in
      record { sign = o.sign; size = o.size; has = o.has; most = go o.sign o.size o.has }
    where
      less : (a b : ℕ) → a + 0 ≤ b + 0 → a ≤ b
      less a b k = omega arith

      go : (s : Bool) (a : ℕ) → HasValue x s a L → a ≤ S * U
      go s a v =
          let e = le_val L-pos (record { sign = false; size = a; has = abs-has x s a L v; is = add-zero a }) w in
          less a (S * U) (leb→le (a + 0) (S * U + 0) (subst T e h.1))

pub power-units : (k : ℕ) → Val (power k) (2 ^ k * 2 ^ 90 * U) 0 L
power-units k = subst (λ (z : ℕ). Val (fin false 1 (pos k)) z 0 L) (ap (λ (z : ℕ). 2 ^ k * z) L-U ∙ sym (mul_assoc (2 ^ k) (2 ^ 90) U)) (power-val k L)

under-at-most : (x : Float) → Under52 x → AtMost (power 52) x
unfolding le
under-at-most x h = (h.held, or_l (lt (abs x) (power 52)) (eq (abs x) (power 52)) h.small)

under-sized : (x : Float) → Under52 x → Sized x (2 ^ 142)
under-sized x h = sized_at (power 52) (2 ^ 142) (power-units 52) x (under-at-most x h)

billion_val : Val (round binary64 false 1000000000 1) (1237940039285380274899124224000000000 * U) 0 L
unfolding round L U
billion_val = record { sign = false; size = 1237940039285380274899124224000000000 * 2 ^ 984; has = (refl, refl); is = refl }

billion_sized : (x : Float) → Billion x → Sized x 1237940039285380274899124224000000000
billion_sized x h = sized_at (round binary64 false 1000000000 1) 1237940039285380274899124224000000000 billion_val x h

-- ---- the theorem
module _ (S T' : ℕ) (f : Float → Float → Float) (d : JulianDate) (l : S ≤ T') (b : Bounded S T' f) (z : Sized d.jd1 S) (w : Sized d.jd2 S) where
  ends : FiniteDate (converted f d)
  ends =
      let k = changed-sized S T' f d l b z w in
      subst FiniteDate (sym (converted-is f d (sized_finite z) (sized_finite w))) (sized_finite k.0, sized_finite k.1)

  ends-then : (R : ℕ) (g : Float → Float → Float) → T' ≤ R → Bounded T' R g → FiniteDate (onward (converted f d) (converted g))
  ends-then R g r c =
      let k = changed-sized S T' f d l b z w in
      let k2 = changed-sized T' R g (map_smaller_part f d) r c k.0 k.1 in
      subst FiniteDate
      (sym (went (converted g) (converted-is f d (sized_finite z) (sized_finite w))
      ∙ converted-is g (map_smaller_part f d) (sized_finite k.0) (sized_finite k.1)))
      (sized_finite k2.0, sized_finite k2.1)

ends_by : (S T' : ℕ) (f : Float → Float → Float → Float) (s : Float) (d : JulianDate) → finite s ≡ true → S ≤ T' → Bounded S T' (f (days_of s))
    → Sized d.jd1 S → Sized d.jd2 S → FiniteDate (converted_by f s d)
ends_by S T' f s d h l b z w =
    let k = changed-sized S T' (f (days_of s)) d l b z w in
    subst FiniteDate (sym (by-is f s d (sized_finite z) (sized_finite w) h)) (sized_finite k.0, sized_finite k.1)

pub finite-dates : (k : Conversion) (d : JulianDate) → SmallParts d → Billion (offset_of k) → FiniteDate (answer_of k d)
unfolding answer_of offset_of
finite-dates k d u = go k
  where
    wide : {x : Float} → Sized x (2 ^ 142) → Sized x (2 ^ 143)
    wide y = under-as (2 ^ 143) y (le_trans y.most (mul-le-mul_right U (lit≤ tt)))

    far : (f : Float → Float → Float) → Bounded (2 ^ 143) (2 ^ 144) f → FiniteDate (converted f d)
    far f b = ends (2 ^ 143) (2 ^ 144) f d (lit≤ tt) b (wide (under-sized d.jd1 u.first)) (wide (under-sized d.jd2 u.second))

    by : (f : Float → Float → Float → Float) (s : Float) → Billion s → Bounded (2 ^ 143) (2 ^ 144) (f (days_of s)) → FiniteDate (converted_by f s d)
    by f s o b = ends_by (2 ^ 143) (2 ^ 144) f s d (sized_finite (billion_sized s o)) (lit≤ tt) b (wide (under-sized d.jd1 u.first))
        (wide (under-sized d.jd2 u.second))

    through : (f g : Float → Float → Float) → Bounded (2 ^ 142) (2 ^ 143) f → Bounded (2 ^ 143) (2 ^ 144) g → FiniteDate (onward (converted f d) (converted g))
    through f g b c = ends-then (2 ^ 142) (2 ^ 143) f d (lit≤ tt) b (under-sized d.jd1 u.first) (under-sized d.jd2 u.second) (2 ^ 144) g (lit≤ tt) c

    go : (k : Conversion) → Billion (offset_of k) → FiniteDate (answer_of k d)
    go gps-tai _ = far (plus gps_days) gps-plus-far
    go tai-gps _ = far (minus gps_days) gps-minus-far
    go tai-tt _ = far (plus tt_days) tt_plus_far
    go tt-tai _ = far (minus tt_days) tt_minus_far
    go tcg-tt _ = far tcg_to_tt tcg-tt-far
    go tt_tcg _ = far tt_to_tcg tt_tcg_far
    go tcb-tdb _ = far tcb_to_tdb tcb_tdb_far
    go tdb-tcb _ = far tdb_to_tcb tdb_tcb_far
    go tai-tcg _ = through (plus tt_days) tt_to_tcg tt_plus_first tt_tcg_far
    go tcg-tai _ = through tcg_to_tt (minus tt_days) tcg-tt-first tt_minus_far
    go (tai-ut1 s) o = by plus s o (offset-plus-far (billion_sized s o))
    go (ut1-tai s) o = by minus s o (offset-minus-far (billion_sized s o))
    go (ut1-tt s) o = by plus s o (offset-plus-far (billion_sized s o))
    go (tt-ut1 s) o = by minus s o (offset-minus-far (billion_sized s o))
    go (tt-tdb s) o = by plus s o (offset-plus-far (billion_sized s o))
    go (tdb-tt s) o = by minus s o (offset-minus-far (billion_sized s o))
