-- The days that end in a leap second, and what the leap at the end of a day can be. The list is written from the IERS Bulletins C. Assumes nothing.
use Rattle.std.specs.Prelude.{ℕ, ◌≡◌, Bool, false, ◌&&◌, ◌||◌, List, [], ◌∷◌, T, eqb, Float}
use Rattle.floats.specs.Whole.{one}
use Rattle.time_of_day.specs.ExactTime.{leap1959, minus_one_f}
use Rattle.leap_days.specs.drift.Small.{small}

pub record Day : Type 0 where
  pub year : ℕ
  pub month : ℕ
  pub day : ℕ

abbrev pub on : ℕ → ℕ → ℕ → Day
on y m d = record { year = y; month = m; day = d }

unfoldable pub leap_seconds : List Day
leap_seconds =
    (on 1972 6 30) ∷
    (on 1972 12 31) ∷
    (on 1973 12 31) ∷
    (on 1974 12 31) ∷
    (on 1975 12 31) ∷
    (on 1976 12 31) ∷
    (on 1977 12 31) ∷
    (on 1978 12 31) ∷
    (on 1979 12 31) ∷
    (on 1981 6 30) ∷
    (on 1982 6 30) ∷
    (on 1983 6 30) ∷
    (on 1985 6 30) ∷
    (on 1987 12 31) ∷
    (on 1989 12 31) ∷
    (on 1990 12 31) ∷
    (on 1992 6 30) ∷
    (on 1993 6 30) ∷
    (on 1994 6 30) ∷
    (on 1995 12 31) ∷
    (on 1997 6 30) ∷
    (on 1998 12 31) ∷
    (on 2005 12 31) ∷
    (on 2008 12 31) ∷
    (on 2012 6 30) ∷
    (on 2015 6 30) ∷
    (on 2016 12 31) ∷
    []

abbrev pub listed : List Day → ℕ → ℕ → ℕ → Bool
listed [] y m d = false
listed (t ∷ rest) y m d = (eqb y t.year && (eqb m t.month && eqb d t.day)) || listed rest y m d

unfoldable pub is_leap_second : ℕ → ℕ → ℕ → Bool
is_leap_second y m d = listed leap_seconds y m d

-- the leaps that a table gives: fewer than `Leap` of `time_of_day` has, which a text is shown for; the fixed table gives no short day
pub data TableLeap (x : Float) : Type 0 where
  within : T (small x) → TableLeap x
  second : x ≡ one → TableLeap x
  first : x ≡ leap1959 → TableLeap x
  shorter : x ≡ minus_one_f → TableLeap x
