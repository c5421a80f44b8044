-- Every text that is written has document 01's form, whatever the date and the time are. Assumes nothing.
use Prim.Native.Nat.{ℕ, suc, ◌-◌, ◌/◌, ◌≤◌}
use native.Mathlib.Omega.{arith}
use mathlib.Core.Path.{◌≡◌, refl, sym, ◌∙◌, subst}
use mathlib.Core.List.{List, [], ◌∷◌, ◌++◌}
use mathlib.Core.Bool.{Bool, true, false, cond}
use lib.ListN.{length, take, drop}
use lib.IntN.{ℤ, pos, negsuc}
use lib.Dec.{ltb}
use borrow.Author.Tests.{ne_eqb}
use Rattle.calendar.specs.declared.CalendarDate.{CalendarDate}
use Rattle.time_of_day.specs.declared.TimeOfDay.{TimeOfDay}
use Rattle.utc.specs.text.Text.{last, two, three, four, five, six, seven, after_year, year_text, utc_text}
use Rattle.utc.specs.text.ReadBack.{from_end}
use Rattle.utc.specs.text.WellFormed.{AllDigits, Digits, unsigned, RestFormed, WellFormed}
use Rattle.utc.proofs.text.ReadBack.{part_of, front_of}

-- ---- digits
one_more : (n : ℕ) (cs : List ℕ) → AllDigits cs → AllDigits (last n ∷ cs)
unfolding AllDigits
one_more n cs h = (omega arith, omega arith, h)

pub two_digits : (n : ℕ) → AllDigits (two n)
unfolding AllDigits
two_digits n = one_more (n / 10) (last n ∷ []) (one_more n [] tt)

pub three-digits : (n : ℕ) → AllDigits (three n)
three-digits n = one_more (n / 100) (two n) (two_digits n)

pub four-digits : (n : ℕ) → AllDigits (four n)
four-digits n = one_more (n / 1000) (three n) (three-digits n)

five-digits : (n : ℕ) → AllDigits (five n)
five-digits n = one_more (n / 10000) (four n) (four-digits n)

six-digits : (n : ℕ) → AllDigits (six n)
six-digits n = one_more (n / 100000) (five n) (five-digits n)

pub seven-digits : (n : ℕ) → AllDigits (seven n)
seven-digits n = one_more (n / 1000000) (six n) (six-digits n)

-- ---- the year
abbrev YearForm : List ℕ → Type 0
YearForm y = (4 ≤ length y) × AllDigits (unsigned y)

-- a digit is no sign
no_sign : (x : ℕ) (cs : List ℕ) → AllDigits (last x ∷ cs) → AllDigits (unsigned (last x ∷ cs))
unfolding unsigned
no_sign x cs h = subst (λ (b : Bool). AllDigits (cond b cs (last x ∷ cs))) (sym (ne_eqb (last x) 45 (λ e. omega arith))) h

after : (n : ℕ) (a b c : Bool) → YearForm (cond a (four n) (cond b (five n) (cond c (six n) (seven n))))
after n true b c = (omega arith, no_sign (n / 1000) (three n) (four-digits n))
after n false true c = (omega arith, no_sign (n / 10000) (four n) (five-digits n))
after n false false true = (omega arith, no_sign (n / 100000) (five n) (six-digits n))
after n false false false = (omega arith, no_sign (n / 1000000) (six n) (seven-digits n))

before : (n : ℕ) (b : Bool) → YearForm (45 ∷ cond b (three n) (four n))
unfolding unsigned
before n true = (omega arith, three-digits n)
before n false = (omega arith, four-digits n)

year-form : (y : ℤ) → YearForm (year_text y)
unfolding year_text
year-form (pos n) = after n (ltb n 10000) (ltb n 100000) (ltb n 1000000)
year-form (negsuc n) = before (suc n) (ltb (suc n) 1000)

-- ---- what stands behind the year, whatever the year is
module _ (y : List ℕ) (d : CalendarDate) (u : TimeOfDay) where
  abbrev t : List ℕ
  t = after_year d u

  pair : (k : ℕ) → k ≤ 19 → (n : ℕ) → take 2 (drop (19 - k) t) ≡ two n → Digits 2 (from_end k 2 (y ++ t))
  pair k h n e = subst (Digits 2) (sym (part_of y t k 2 h refl ∙ e)) (record { many = refl; all = two_digits n })

  pub rest-formed : RestFormed (y ++ after_year d u)
  rest-formed = record {
    after-year = part_of y t 19 1 (omega arith) refl;
    month = pair 18 (omega arith) d.month refl;
    after_month = part_of y t 16 1 (omega arith) refl;
    day = pair 15 (omega arith) d.day refl;
    after_day = part_of y t 13 1 (omega arith) refl;
    hour = pair 12 (omega arith) u.hour refl;
    after_hour = part_of y t 10 1 (omega arith) refl;
    minute = pair 9 (omega arith) u.minute refl;
    after_minute = part_of y t 7 1 (omega arith) refl;
    second = pair 6 (omega arith) u.second refl;
    after_second = part_of y t 4 1 (omega arith) refl;
    milli = subst (Digits 3) (sym (part_of y t 3 3 (omega arith) refl)) (record { many = refl; all = three-digits u.milli });
  }

-- ---- the whole
pub well_formed : (d : CalendarDate) (u : TimeOfDay) → WellFormed (utc_text d u)
unfolding utc_text
well_formed d u = record {
  year_length = subst (λ (x : List ℕ). 4 ≤ length x) (sym (front_of (year_text d.year) (after_year d u) refl)) (year-form d.year).0;
  year = subst (λ (x : List ℕ). AllDigits (unsigned x)) (sym (front_of (year_text d.year) (after_year d u) refl)) (year-form d.year).1;
  rest = rest-formed (year_text d.year) d u;
}
