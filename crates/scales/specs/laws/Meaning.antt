-- What each conversion means in exact numbers: the relation of SOFA's Time Scale and Calendar Tools, in exact fractions of its decimals, and what
-- it is for an answer to mean it to so many picoseconds. Assumes nothing.
use Rattle.std.specs.Prelude.{◌≡◌, ℕ, ◌+◌, ◌-◌, ◌*◌, ◌^◌, ◌≤◌}
use Rattle.rounding.specs.Value.{Val, L}
use Rattle.rounding.specs.Picoseconds.{day_ps}
use Rattle.refusals.specs.Outcome.{answer}
use Rattle.julian.specs.declared.JulianDate.{JulianDate}
use Rattle.julian.specs.Worth.{Worth}
use Rattle.scales.specs.Conversions.{Conversion, gps-tai, tai-gps, tai-tt, tt-tai, tcg-tt, tt_tcg, tcb-tdb, tdb-tcb, tai-tcg, tcg-tai, tai-ut1}
use Rattle.scales.specs.Conversions.{ut1-tai, ut1-tt, tt-ut1, tt-tdb, tdb-tt, offset_of, answer_of}
use Rattle.scales.specs.laws.Picoseconds.{Picoseconds, bound_of, practical_bounds, modified_bounds}

-- d' is within ps picoseconds of (num * d + (more - less) / L) / den, the dates taken at their exact values, (p - n) / L and (p' - n') / L days
pub record Close (ps num den more less : ℕ) (d d' : JulianDate) : Type 0 where
  pub p : ℕ
  pub n : ℕ
  pub p' : ℕ
  pub n' : ℕ
  pub from : Worth d p n L
  pub to : Worth d' p' n' L
  pub over : day_ps * (den * p' + num * n + less) ≤ day_ps * (den * n' + num * p + more) + ps * (den * L)
  pub under : day_ps * (den * n' + num * p + more) ≤ day_ps * (den * p' + num * n + less) + ps * (den * L)

-- the exact values differ by at most ps picoseconds
abbrev pub Apart : ℕ → JulianDate → JulianDate → Type 0
Apart ps d d' = Close ps 1 1 0 0 d d'

-- the numbers of `Close`, all but the picoseconds: a relation of two dates
pub record Meaning : Type 0 where
  pub num : ℕ
  pub den : ℕ
  pub more : ℕ
  pub less : ℕ

-- the relation holds to ps picoseconds
abbrev pub Means : ℕ → Meaning → JulianDate → JulianDate → Type 0
Means ps w d d' = Close ps w.num w.den w.more w.less d d'

-- SOFA's decimals, said apart from the code's constants, so that a wrong digit of either is noticed: LG = 6.969290134e-10 over 10 ^ 19, LB = 1.550519768e-8
-- over 10 ^ 17, T0 = 2443144.5003725 days over 10 ^ 7, TDB0 = -6.55e-5 s over 10 ^ 7
abbrev pub LG : ℕ
LG = 6969290134

abbrev pub LB : ℕ
LB = 1550519768

abbrev pub T0 : ℕ
T0 = 24431445003725

abbrev pub TDB0 : ℕ
TDB0 = 655

-- t / q days later
abbrev pub later : ℕ → ℕ → Meaning
later t q = record { num = q; den = q; more = t * L; less = 0 }

-- (x - y) / L seconds later
abbrev pub later_by : ℕ → ℕ → Meaning
later_by x y = record { num = 86400; den = 86400; more = x; less = y }

-- a clock that loses k / c of the time since t / q days: date - k / c * (date - t / q)
abbrev pub slower : ℕ → ℕ → ℕ → ℕ → Meaning
slower k c t q = record { num = q * (c - k); den = q * c; more = k * t * L; less = 0 }

-- the same, and o / q days less
abbrev pub slower_less : ℕ → ℕ → ℕ → ℕ → ℕ → Meaning
slower_less k c t o q = record { num = q * (c - k); den = q * c; more = k * t * L; less = o * c * L }

-- the way back: the same relation, solved for the other date
abbrev pub back : Meaning → Meaning
back w = record { num = w.den; den = w.num; more = w.less; less = w.more }

-- one after the other
abbrev pub then_by : Meaning → Meaning → Meaning
then_by v w = record { num = v.num * w.num; den = v.den * w.den; more = w.num * v.more + v.den * w.more; less = w.num * v.less + v.den * w.less }

-- SOFA's relations, each said once: the date by the scale named first, from the date by the scale named second
abbrev pub tai_over_gps : Meaning
tai_over_gps = later 19 86400

abbrev pub tt_over_tai : Meaning
tt_over_tai = later 32184 86400000

abbrev pub tt_over_tcg : Meaning
tt_over_tcg = slower LG (10 ^ 19) T0 (10 ^ 7)

abbrev pub tdb_over_tcb : Meaning
tdb_over_tcb = slower_less LB (10 ^ 17) (86400 * T0) TDB0 864000000000

-- what each conversion means, where a given offset is (x - y) / L seconds
unfoldable pub meaning : Conversion → ℕ → ℕ → Meaning
meaning gps-tai x y = tai_over_gps
meaning tai-gps x y = back tai_over_gps
meaning tai-tt x y = tt_over_tai
meaning tt-tai x y = back tt_over_tai
meaning tcg-tt x y = tt_over_tcg
meaning tt_tcg x y = back tt_over_tcg
meaning tcb-tdb x y = tdb_over_tcb
meaning tdb-tcb x y = back tdb_over_tcb
meaning tai-tcg x y = then_by tt_over_tai (back tt_over_tcg)
meaning tcg-tai x y = then_by tt_over_tcg (back tt_over_tai)
meaning (tai-ut1 s) x y = later_by x y
meaning (ut1-tai s) x y = back (later_by x y)
meaning (ut1-tt s) x y = later_by x y
meaning (tt-ut1 s) x y = back (later_by x y)
meaning (tt-tdb s) x y = later_by x y
meaning (tdb-tt s) x y = back (later_by x y)

-- the answer is a date, and the date means what it should, to b's picoseconds
pub record RightTo (b : Picoseconds) (k : Conversion) (d : JulianDate) : Type 0 where
  pub x : ℕ
  pub y : ℕ
  pub offset : Val (offset_of k) x y L
  pub date : JulianDate
  pub is : answer_of k d ≡ answer date
  pub means : Means (bound_of b k) (meaning k x y) d date

-- for the dates of `Practical`, and for those of `Modified`
abbrev pub Right : Conversion → JulianDate → Type 0
Right k d = RightTo practical_bounds k d

abbrev pub RightModified : Conversion → JulianDate → Type 0
RightModified k d = RightTo modified_bounds k d
