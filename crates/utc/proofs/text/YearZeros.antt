-- The year of a text has zeros in front only up to four characters, for the years that the calendar gives. Assumes nothing.
use Prim.Native.Nat.{ℕ, suc, ◌/◌, ◌%◌, ◌≤◌, ◌<◌}
use native.Mathlib.Omega.{arith}
use mathlib.Core.Path.{◌≡◌, refl, sym, subst}
use mathlib.Core.List.{List, ◌∷◌}
use mathlib.Core.Bool.{Bool, true, false, cond}
use lib.ListN.{length}
use lib.IntN.{ℤ, pos, negsuc}
use lib.Signed.{lt_z}
use lib.Dec.{ltb}
use borrow.Author.Tests.{ne_eqb, ltb-true, ltb-false}
use Rattle.calendar.specs.declared.CalendarDate.{CalendarDate}
use Rattle.time_of_day.specs.declared.TimeOfDay.{TimeOfDay}
use Rattle.utc.specs.text.Text.{last, three, four, five, six, seven, after_year, year_text, utc_text}
use Rattle.utc.specs.text.ReadBack.{Writable}
use Rattle.utc.specs.text.WellFormed.{unsigned, NoZeroFirst, YearFilledToFour}
use Rattle.utc.proofs.text.ReadBack.{front_of}

abbrev Filled : List ℕ → Type 0
Filled y = 4 < length y → NoZeroFirst (unsigned y)

-- a digit that is not 0 stands in front, and no sign
front : (x : ℕ) (cs : List ℕ) → 1 ≤ x % 10 → NoZeroFirst (unsigned (last x ∷ cs))
unfolding unsigned NoZeroFirst
front x cs h = subst (λ (b : Bool). NoZeroFirst (cond b cs (last x ∷ cs))) (sym (ne_eqb (last x) 45 (λ e. omega arith))) (λ e. omega arith)

after : (n : ℕ) → n ≤ 2733194 → (a b c : Bool) → ltb n 10000 ≡ a → ltb n 100000 ≡ b → ltb n 1000000 ≡ c
    → Filled (cond a (four n) (cond b (five n) (cond c (six n) (seven n))))
after n h true b c p q r k = let z : ⊥ = omega arith in absurd z
after n h false true c p q r k = let lo = ltb-false n 10000 p in let hi = ltb-true n 100000 q in front (n / 10000) (four n) (omega arith)
after n h false false true p q r k = let lo = ltb-false n 100000 q in let hi = ltb-true n 1000000 r in front (n / 100000) (five n) (omega arith)
after n h false false false p q r k = let lo = ltb-false n 1000000 r in front (n / 1000000) (six n) (omega arith)

before : (n : ℕ) → n ≤ 4900 → (b : Bool) → ltb n 1000 ≡ b → Filled (45 ∷ cond b (three n) (four n))
unfolding unsigned NoZeroFirst
before n h true p k = let z : ⊥ = omega arith in absurd z
before n h false p k = λ e. let lo = ltb-false n 1000 p in omega arith

filled : (y : ℤ) → lt_z y (negsuc 4899) ≡ false → lt_z (pos 2733194) y ≡ false → Filled (year_text y)
unfolding year_text
filled (pos n) low high = after n (ltb-false 2733194 n high) (ltb n 10000) (ltb n 100000) (ltb n 1000000) refl refl refl
filled (negsuc n) low high = let h = ltb-false 4899 n low in before (suc n) (omega arith) (ltb (suc n) 1000) refl

pub year-filled-to-four : (d : CalendarDate) (u : TimeOfDay) → Writable d u → YearFilledToFour (utc_text d u)
unfolding utc_text
year-filled-to-four d u w = subst Filled (sym (front_of (year_text d.year) (after_year d u) refl)) (filled d.year w.year_low w.year_high)
