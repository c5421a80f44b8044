-- How far each formula is from its meaning, over any range, and the laws of both ranges: one part at most 2 ^ 23 days in size, and the other at most 1 day, or
-- at most 2 ^ 17 - 1 days; 2 ^ -7 days more after a first step. `tests/scale_numbers` makes the numbers of `practical_laws` and `modified_laws`, as in
-- Finiteness: the places of the roundings, the size of the correction and its error. Assumes nothing.
use Rattle.std.proofs.Common.{◌≡◌, ℕ, ◌+◌, ◌*◌, ◌^◌, ◌<◌, ◌≤◌, refl, subst₂, mul_assoc, mul_comm, mul-one, mul-add, arith, lit<, lit≤}
use lib.Ieee.{Float}
use Rattle.rounding.specs.Value.{Val, L}
use Rattle.rounding.proofs.About.{U, About, about_add, about_sub, about_within}
use Rattle.scales.specs.Formulas.{gps_days, tt_days, tcg_to_tt, tt_to_tcg, tcb_to_tdb, tdb_to_tcb}
use Rattle.scales.specs.laws.Picoseconds.{Picoseconds, practical_bounds, modified_bounds}
use Rattle.scales.proofs.laws.Constants.{gps-about, tt_about, mjd-about, epoch_about, jd1977-about, tt_about_2, tdb0-about, lg_val, ratio-lg-val}
use Rattle.scales.proofs.laws.Constants.{lb_val, ratio-lb-val}
use Rattle.scales.proofs.laws.Formulas.{part, plus-about, minus-about, days-about, Budget, less-since, more-since, less-until}
use Rattle.scales.proofs.laws.Dates.{Sized, value, high, low, near_of, Formula, about_sized}
use Rattle.julian.specs.shifts.Shifts.{plus, minus, days_of}

-- ---- so many days more, or less
turn : (c p n q m K K' : ℕ) → q * c + K + (c * p + c * (n + m) + K') ≡ m * c + K' + (c * n + c * (p + q) + K)
turn c p n q m K K' = simp (mul_comm q c, mul_comm m c, mul-add) (omega arith)

module _ (ps i c S s : ℕ) {days : Float} {K K' M e : ℕ} (C : 0 < c) (I : 985 + i ≤ 2044) (r : s + M + (0 + e) < 2 ^ (54 + i))
    (b : 86400000000000000 * (0 + e + 2 ^ i) ≤ ps * 2 ^ 90)
    (a : About days K K' (L * c) M e) where
  shift_plus : Formula ps S s c c K K' (plus days)
  unfolding Formula
  shift_plus big small p n q m hp hn hq hm vb vs =
      near_of ps c c K K' p n q m refl (turn c p n q m K K') (about_within ps b (plus-about i c s big C I r hq hm vs a))

  shift_minus : Formula ps S s c c K' K (minus days)
  unfolding Formula
  shift_minus big small p n q m hp hn hq hm vb vs =
      near_of ps c c K' K p n q m refl (turn c p n q m K' K) (about_within ps b (minus-about i c s big C I r hq hm vs a))

-- an offset of at most half a day: 43200 seconds, in units of 2 ^ -90
abbrev pub half_day : ℕ
half_day = 53479009697128427875642166476800

days : {seconds : Float} (x y : ℕ) → x ≤ y + half_day * U → y ≤ x + half_day * U → Val seconds x y L → About (days_of seconds) x y (L * 86400) (2 ^ 89) (2 ^ 36)
days {seconds} x y hx hy v =
    subst₂ (λ (p n : ℕ). About (days_of seconds) p n (L * 86400) (2 ^ 89) (2 ^ 36)) (mul-one x) (mul-one y)
    (days-about 36 half_day (2 ^ 89) (lit≤ tt) (lit≤ tt) (lit< tt) hx hy v)

-- ---- the four rates
abbrev Tcg : ℕ → ℕ → Type 0
Tcg S s = Budget S s 0 s 0 2971057332224951945138173036724224 53410922994967731960522714644480 1516091778558004 6969290134 6740283829902479
    10000000000000000000 (2 ^ 83) 314786517965340672

tcg-less : (ps S s : ℕ) (t : Tcg S s) → 86400000000000000 * (0 + t.e + 2 ^ t.i5) ≤ ps * 2 ^ 90
    → Formula ps S s 99999999930307098660000000 100000000000000000000000000 (170269828623824235749150 * L) 0 tcg_to_tt
unfolding Formula tcg_to_tt
tcg-less ps S s t b big small p n q m hp hn hq hm vb vs =
    near_of ps 99999999930307098660000000 100000000000000000000000000 (170269828623824235749150 * L) 0 p n q m (mul_assoc L 10000000 10000000000000000000)
    (omega arith)
    (about_within ps b (less-since t lg_val (part 10000000 S (lit< tt) hp hn vb) (part 10000000 s (lit< tt) hq hm vs) mjd-about epoch_about
    (part 10000000 s (lit< tt) hq hm vs)))

tcg-more : (ps S s : ℕ) (t : Budget S s 0 s 0 2971057332224951945138173036724224 53410922994967731960522714644480 1516091778558004 6969290134 3370141917299989
    9999999993030709866 (2 ^ 82) 1971811916238678862) → 86400000000000000 * (0 + t.e + 2 ^ t.i5) ≤ ps * 2 ^ 90
    → Formula ps S s 100000000000000000000000000 99999999930307098660000000 0 (170269828623824235749150 * L) tt_to_tcg
unfolding Formula tt_to_tcg
tcg-more ps S s t b big small p n q m hp hn hq hm vb vs =
    near_of ps 100000000000000000000000000 99999999930307098660000000 0 (170269828623824235749150 * L) p n q m (mul_assoc L 10000000 9999999993030709866)
    (omega arith)
    (about_within ps b (more-since t ratio-lg-val (part 10000000 S (lit< tt) hp hn vb) (part 10000000 s (lit< tt) hq hm vs) mjd-about epoch_about
    (part 10000000 s (lit< tt) hq hm vs)))

-- i6 is the place of the rounding of the smaller part with TDB_0
tcb_less : (ps S s i6 : ℕ) (t : Budget S s 0 (s + 1152921504606846976) (0 + 70 + 2 ^ i6) 3024467017279880391718420852244480 1208925819614629174706176 65562676
    1550519768 1171539613348803 100000000000000000 (2 ^ 76) 7664284282519552)
    → 985 + i6 ≤ 2044 → s + 1152921504606846976 + (0 + 70) < 2 ^ (54 + i6) → 86400000000000000 * (0 + 70 + 2 ^ i6 + t.e + 2 ^ t.i5) ≤ ps * 2 ^ 90
    → Formula ps S s 86399998660350920448000000000 86400000000000000000000000000 (3272956281136550546133120000 * L) (65500000000000000000 * L) tcb_to_tdb
unfolding Formula tcb_to_tdb
tcb_less ps S s i6 t I r b big small p n q m hp hn hq hm vb vs =
    near_of ps 86399998660350920448000000000 86400000000000000000000000000 (3272956281136550546133120000 * L) (65500000000000000000 * L) p n q m
    (mul_assoc L 864000000000 100000000000000000) (omega arith)
    (about_within ps b (less-since t lb_val (part 864000000000 S (lit< tt) hp hn vb) (part 864000000000 s (lit< tt) hq hm vs) jd1977-about tt_about_2
    (about_add i6 I r (part 864000000000 s (lit< tt) hq hm vs) tdb0-about)))

tdb_less : (ps S s i6 : ℕ) (t : Budget S (s + 1152921504606846976) (0 + 70 + 2 ^ i6) (s + 1152921504606846976) (0 + 70 + 2 ^ i6)
    3024467017279880391718420852244480 1208925819614629174706176 65562676 1550519768 2343079263027513 99999998449480232 (2 ^ 77) 13538130662120)
    → 985 + i6 ≤ 2044 → s + 1152921504606846976 + (0 + 70) < 2 ^ (54 + i6) → 86400000000000000 * (0 + 70 + 2 ^ i6 + t.e + 2 ^ t.i5) ≤ ps * 2 ^ 90
    → Formula ps S s 86400000000000000000000000000 86399998660350920448000000000 (65500000000000000000 * L) (3272956281136550546133120000 * L) tdb_to_tcb
unfolding Formula tdb_to_tcb
tdb_less ps S s i6 t I r b big small p n q m hp hn hq hm vb vs =
    let f = about_sub i6 I r (part 864000000000 s (lit< tt) hq hm vs) tdb0-about in
    near_of ps 86400000000000000000000000000 86399998660350920448000000000 (65500000000000000000 * L) (3272956281136550546133120000 * L) p n q m
    (mul_assoc L 864000000000 99999998449480232) (omega arith)
    (about_within ps b (less-until t ratio-lb-val (part 864000000000 S (lit< tt) hp hn vb) f jd1977-about tt_about_2 f))

-- ---- the first steps of the two conversions through TT: f gives at most t of a smaller part that is at most s
unfoldable pub Step : (S s t : ℕ) → (Float → Float → Float) → Type 0
Step S s t f = (big small : Float) → Sized big S → Sized small s → Sized (f big small) t

tt_first : (i S s t : ℕ) → 985 + i ≤ 2044 → s + 1208925819614629174706176 + (0 + 65562676) < 2 ^ (54 + i)
    → s + 1208925819614629174706176 + (0 + 65562676 + 2 ^ i) ≤ t → Step S s t (plus tt_days)
unfolding Step
tt_first i S s t I r l big small z w = about_sized t l (plus-about i 86400000 s big (lit< tt) I r (high w) (low w) (value w) tt_about)

tcg-first : (S s t : ℕ) (u : Tcg S s) → s + u.M + (0 + u.e + 2 ^ u.i5) ≤ t → Step S s t tcg_to_tt
unfolding Step tcg_to_tt
tcg-first S s t u l big small z w =
    let y = part 10000000 s (lit< tt) (high w) (low w) (value w) in
    about_sized t l (less-since u lg_val (part 10000000 S (lit< tt) (high z) (low z) (value z)) y mjd-about epoch_about y)

-- ---- the laws of one range: the larger part at most S, the smaller at most s, and at most t after a first step
pub record Laws (b : Picoseconds) (S s t : ℕ) : Type 0 where
  pub first : s ≤ t
  pub order : t ≤ S
  pub gps-plus : Formula b.fixed S t 86400 86400 (19 * L) 0 (plus gps_days)
  pub gps-minus : Formula b.fixed S t 86400 86400 0 (19 * L) (minus gps_days)
  pub tt_plus : Formula b.fixed S t 86400000 86400000 (32184 * L) 0 (plus tt_days)
  pub tt_minus : Formula b.fixed S t 86400000 86400000 0 (32184 * L) (minus tt_days)
  pub offset-plus : (seconds : Float) (x y : ℕ) → x ≤ y + half_day * U → y ≤ x + half_day * U → Val seconds x y L
      → Formula b.given S t 86400 86400 x y (plus (days_of seconds))
  pub offset-minus : (seconds : Float) (x y : ℕ) → x ≤ y + half_day * U → y ≤ x + half_day * U → Val seconds x y L
      → Formula b.given S t 86400 86400 y x (minus (days_of seconds))
  pub tcg-tt : Formula b.tcg_tt S t 99999999930307098660000000 100000000000000000000000000 (170269828623824235749150 * L) 0 tcg_to_tt
  pub tt_tcg : Formula b.tcg_tt S t 100000000000000000000000000 99999999930307098660000000 0 (170269828623824235749150 * L) tt_to_tcg
  pub tcb-tdb : Formula b.tcb_tdb S t 86399998660350920448000000000 86400000000000000000000000000 (3272956281136550546133120000 * L)
      (65500000000000000000 * L) tcb_to_tdb
  pub tdb-tcb : Formula b.tdb_tcb S t 86400000000000000000000000000 86399998660350920448000000000 (65500000000000000000 * L)
      (3272956281136550546133120000 * L) tdb_to_tcb
  pub tt_step : Step S s t (plus tt_days)
  pub tcg-step : Step S s t tcg_to_tt
  pub tai-tcg : 100000000000000000000000000 * b.fixed + b.tcg_tt * 99999999930307098660000000 ≤ b.tai_tcg * 99999999930307098660000000
  pub tcg-tai : 86400000 * b.tcg_tt + b.fixed * 86400000 ≤ b.tcg_tai * 86400000

pub practical_laws : Laws practical_bounds (2 ^ 113) (2 ^ 90) (2 ^ 90 + 2 ^ 83)
practical_laws = record {
  first = lit≤ tt;
  order = lit≤ tt;
  gps-plus = shift_plus practical_bounds.fixed 37 86400 (2 ^ 113) (2 ^ 90 + 2 ^ 83) (lit< tt) (lit≤ tt) (lit< tt) (lit≤ tt) gps-about;
  gps-minus = shift_minus practical_bounds.fixed 37 86400 (2 ^ 113) (2 ^ 90 + 2 ^ 83) (lit< tt) (lit≤ tt) (lit< tt) (lit≤ tt) gps-about;
  tt_plus = shift_plus practical_bounds.fixed 37 86400000 (2 ^ 113) (2 ^ 90 + 2 ^ 83) (lit< tt) (lit≤ tt) (lit< tt) (lit≤ tt) tt_about;
  tt_minus = shift_minus practical_bounds.fixed 37 86400000 (2 ^ 113) (2 ^ 90 + 2 ^ 83) (lit< tt) (lit≤ tt) (lit< tt) (lit≤ tt) tt_about;
  offset-plus = λ (seconds : Float) (x y : ℕ) hx hy v. shift_plus practical_bounds.given 37 86400 (2 ^ 113) (2 ^ 90 + 2 ^ 83) (lit< tt) (lit≤ tt) (lit< tt)
      (lit≤ tt) (days x y hx hy v);
  offset-minus = λ (seconds : Float) (x y : ℕ) hx hy v. shift_minus practical_bounds.given 37 86400 (2 ^ 113) (2 ^ 90 + 2 ^ 83) (lit< tt) (lit≤ tt)
      (lit< tt) (lit≤ tt) (days x y hx hy v);
  tcg-tt = tcg-less practical_bounds.tcg_tt (2 ^ 113) (2 ^ 90 + 2 ^ 83)
      (record {
        i1 = 60;
        i2 = 52;
        i3 = 60;
        i4 = 29;
        i5 = 37;
        M = 9345165200463845655389077;
        e = 2191719141;
        I1 = lit≤ tt;
        I2 = lit≤ tt;
        I3 = lit≤ tt;
        I4 =
            lit≤ tt;
        I5 = lit≤ tt;
        r1 = lit< tt;
        r2 = lit< tt;
        r3 = lit< tt;
        F = lit< tt;
        G = lit< tt;
        d1 = lit≤ tt;
        d2 = lit≤ tt;
        m = lit≤ tt;
        r4 = lit< tt;
        b4 =
            lit≤ tt;
        r5 = lit< tt;
      }) (lit≤ tt);
  tt_tcg = tcg-more practical_bounds.tcg_tt (2 ^ 113) (2 ^ 90 + 2 ^ 83)
      (record {
        i1 = 60;
        i2 = 52;
        i3 = 60;
        i4 = 29;
        i5 = 37;
        M = 9345165206976762423147399;
        e = 2694844605;
        I1 = lit≤ tt;
        I2 = lit≤ tt;
        I3 = lit≤ tt;
        I4 =
            lit≤ tt;
        I5 = lit≤ tt;
        r1 = lit< tt;
        r2 = lit< tt;
        r3 = lit< tt;
        F = lit< tt;
        G = lit< tt;
        d1 = lit≤ tt;
        d2 = lit≤ tt;
        m = lit≤ tt;
        r4 = lit< tt;
        b4 =
            lit≤ tt;
        r5 = lit< tt;
      }) (lit≤ tt);
  tcb-tdb = tcb_less practical_bounds.tcb_tdb (2 ^ 113) (2 ^ 90 + 2 ^ 83) 37
      (record {
        i1 = 60;
        i2 = 37;
        i3 = 60;
        i4 = 34;
        i5 = 37;
        M = 207910156752422245879546575;
        e = 66534033459;
        I1 = lit≤ tt;
        I2 = lit≤ tt;
        I3 = lit≤ tt;
        I4 =
            lit≤ tt;
        I5 = lit≤ tt;
        r1 = lit< tt;
        r2 = lit< tt;
        r3 = lit< tt;
        F = lit< tt;
        G = lit< tt;
        d1 = lit≤ tt;
        d2 = lit≤ tt;
        m = lit≤ tt;
        r4 = lit< tt;
        b4 =
            lit≤ tt;
        r5 = lit< tt;
      }) (lit≤ tt) (lit< tt) (lit≤ tt);
  tdb-tcb = tdb_less practical_bounds.tdb_tcb (2 ^ 113) (2 ^ 90 + 2 ^ 83) 37
      (record {
        i1 = 60;
        i2 = 37;
        i3 = 60;
        i4 = 34;
        i5 = 37;
        M = 207910159976110393865838148;
        e = 52944438567;
        I1 = lit≤ tt;
        I2 = lit≤ tt;
        I3 = lit≤ tt;
        I4 =
            lit≤ tt;
        I5 = lit≤ tt;
        r1 = lit< tt;
        r2 = lit< tt;
        r3 = lit< tt;
        F = lit< tt;
        G = lit< tt;
        d1 = lit≤ tt;
        d2 = lit≤ tt;
        m = lit≤ tt;
        r4 = lit< tt;
        b4 =
            lit≤ tt;
        r5 = lit< tt;
      }) (lit≤ tt) (lit< tt) (lit≤ tt);
  tt_step = tt_first 37 (2 ^ 113) (2 ^ 90) (2 ^ 90 + 2 ^ 83) (lit≤ tt) (lit< tt) (lit≤ tt);
  tcg-step = tcg-first (2 ^ 113) (2 ^ 90) (2 ^ 90 + 2 ^ 83)
      (record {
        i1 = 60;
        i2 = 52;
        i3 = 60;
        i4 = 29;
        i5 = 37;
        M = 9345165193723561825486598;
        e = 2191719141;
        I1 = lit≤ tt;
        I2 = lit≤ tt;
        I3 = lit≤ tt;
        I4 =
            lit≤ tt;
        I5 = lit≤ tt;
        r1 = lit< tt;
        r2 = lit< tt;
        r3 = lit< tt;
        F = lit< tt;
        G = lit< tt;
        d1 = lit≤ tt;
        d2 = lit≤ tt;
        m = lit≤ tt;
        r4 = lit< tt;
        b4 =
            lit≤ tt;
        r5 = lit< tt;
      }) (lit≤ tt);
  tai-tcg = lit≤ tt;
  tcg-tai = lit≤ tt;
}

-- (2 ^ 17 - 1) days in units of 2 ^ -90
abbrev pub modified_days : ℕ
modified_days = 131071 * 2 ^ 90

pub modified_laws : Laws modified_bounds (2 ^ 113) modified_days (modified_days + 2 ^ 83)
modified_laws = record {
  first = lit≤ tt;
  order = lit≤ tt;
  gps-plus = shift_plus modified_bounds.fixed 53 86400 (2 ^ 113) (modified_days + 2 ^ 83) (lit< tt) (lit≤ tt) (lit< tt) (lit≤ tt) gps-about;
  gps-minus = shift_minus modified_bounds.fixed 53 86400 (2 ^ 113) (modified_days + 2 ^ 83) (lit< tt) (lit≤ tt) (lit< tt) (lit≤ tt) gps-about;
  tt_plus = shift_plus modified_bounds.fixed 53 86400000 (2 ^ 113) (modified_days + 2 ^ 83) (lit< tt) (lit≤ tt) (lit< tt) (lit≤ tt) tt_about;
  tt_minus = shift_minus modified_bounds.fixed 53 86400000 (2 ^ 113) (modified_days + 2 ^ 83) (lit< tt) (lit≤ tt) (lit< tt) (lit≤ tt) tt_about;
  offset-plus = λ (seconds : Float) (x y : ℕ) hx hy v. shift_plus modified_bounds.given 53 86400 (2 ^ 113) (modified_days + 2 ^ 83) (lit< tt) (lit≤ tt)
      (lit< tt) (lit≤ tt) (days x y hx hy v);
  offset-minus = λ (seconds : Float) (x y : ℕ) hx hy v. shift_minus modified_bounds.given 53 86400 (2 ^ 113) (modified_days + 2 ^ 83) (lit< tt) (lit≤ tt)
      (lit< tt) (lit≤ tt) (days x y hx hy v);
  tcg-tt = tcg-less modified_bounds.tcg_tt (2 ^ 113) (modified_days + 2 ^ 83)
      (record {
        i1 = 60;
        i2 = 54;
        i3 = 60;
        i4 = 29;
        i5 = 53;
        M = 9458246672666766350001033;
        e = 2201663325;
        I1 = lit≤ tt;
        I2 = lit≤ tt;
        I3 = lit≤ tt;
        I4 =
            lit≤ tt;
        I5 = lit≤ tt;
        r1 = lit< tt;
        r2 = lit< tt;
        r3 = lit< tt;
        F = lit< tt;
        G = lit< tt;
        d1 = lit≤ tt;
        d2 = lit≤ tt;
        m = lit≤ tt;
        r4 = lit< tt;
        b4 =
            lit≤ tt;
        r5 = lit< tt;
      }) (lit≤ tt);
  tt_tcg = tcg-more modified_bounds.tcg_tt (2 ^ 113) (modified_days + 2 ^ 83)
      (record {
        i1 = 60;
        i2 = 54;
        i3 = 60;
        i4 = 29;
        i5 = 53;
        M = 9458246679258492876670481;
        e = 2710876875;
        I1 = lit≤ tt;
        I2 = lit≤ tt;
        I3 = lit≤ tt;
        I4 =
            lit≤ tt;
        I5 = lit≤ tt;
        r1 = lit< tt;
        r2 = lit< tt;
        r3 = lit< tt;
        F = lit< tt;
        G = lit< tt;
        d1 = lit≤ tt;
        d2 = lit≤ tt;
        m = lit≤ tt;
        r4 = lit< tt;
        b4 =
            lit≤ tt;
        r5 = lit< tt;
      }) (lit≤ tt);
  tcb-tdb = tcb_less modified_bounds.tcb_tdb (2 ^ 113) (modified_days + 2 ^ 83) 53
      (record {
        i1 = 60;
        i2 = 53;
        i3 = 60;
        i4 = 34;
        i5 = 53;
        M = 210425980526062992464256475;
        e = 66838276473;
        I1 = lit≤ tt;
        I2 = lit≤ tt;
        I3 = lit≤ tt;
        I4 =
            lit≤ tt;
        I5 = lit≤ tt;
        r1 = lit< tt;
        r2 = lit< tt;
        r3 = lit< tt;
        F = lit< tt;
        G = lit< tt;
        d1 = lit≤ tt;
        d2 = lit≤ tt;
        m = lit≤ tt;
        r4 = lit< tt;
        b4 =
            lit≤ tt;
        r5 = lit< tt;
      }) (lit≤ tt) (lit< tt) (lit≤ tt);
  tdb-tcb = tdb_less modified_bounds.tdb_tcb (2 ^ 113) (modified_days + 2 ^ 83) 53
      (record {
        i1 = 60;
        i2 = 53;
        i3 = 60;
        i4 = 34;
        i5 = 53;
        M = 210425983788759485993723505;
        e = 53223896482;
        I1 = lit≤ tt;
        I2 = lit≤ tt;
        I3 = lit≤ tt;
        I4 =
            lit≤ tt;
        I5 = lit≤ tt;
        r1 = lit< tt;
        r2 = lit< tt;
        r3 = lit< tt;
        F = lit< tt;
        G = lit< tt;
        d1 = lit≤ tt;
        d2 = lit≤ tt;
        m = lit≤ tt;
        r4 = lit< tt;
        b4 =
            lit≤ tt;
        r5 = lit< tt;
      }) (lit≤ tt) (lit< tt) (lit≤ tt);
  tt_step = tt_first 53 (2 ^ 113) modified_days (modified_days + 2 ^ 83) (lit≤ tt) (lit< tt) (lit≤ tt);
  tcg-step = tcg-first (2 ^ 113) modified_days (modified_days + 2 ^ 83)
      (record {
        i1 = 60;
        i2 = 54;
        i3 = 60;
        i4 = 29;
        i5 = 53;
        M = 9458246665926482520098554;
        e = 2201663325;
        I1 = lit≤ tt;
        I2 = lit≤ tt;
        I3 = lit≤ tt;
        I4 =
            lit≤ tt;
        I5 = lit≤ tt;
        r1 = lit< tt;
        r2 = lit< tt;
        r3 = lit< tt;
        F = lit< tt;
        G = lit< tt;
        d1 = lit≤ tt;
        d2 = lit≤ tt;
        m = lit≤ tt;
        r4 = lit< tt;
        b4 =
            lit≤ tt;
        r5 = lit< tt;
      }) (lit≤ tt);
  tai-tcg = lit≤ tt;
  tcg-tai = lit≤ tt;
}
