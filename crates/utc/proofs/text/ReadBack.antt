-- The digits of a text say the date and the time that it was written from, and a text has 23 to 26 bytes. Assumes nothing.
use Prim.Native.Nat.{ℕ, suc, ◌+◌, ◌-◌, ◌*◌, ◌/◌, ◌%◌, ◌<◌, ◌≤◌}
use native.Mathlib.Omega.{arith}
use native.Mathlib.Nat.{div-div-eq-div-mul}
use mathlib.Core.Path.{◌≡◌, refl, sym, ap, ◌∙◌}
use mathlib.Core.List.{List, [], ◌∷◌, ◌++◌}
use mathlib.Core.Bool.{Bool, true, false, not, cond}
use lib.ListN.{length, take, drop, length-append}
use lib.Seq.{drop-append-add, take_at}
use lib.IntN.{ℤ, pos, negsuc, neg_ℤ, nat_abs}
use lib.Signed.{lt_z, non_neg}
use lib.Dec.{T, ltb, ltb→lt}
use borrow.Author.Tests.{ne_eqb, ltb-false}
use Rattle.calendar.specs.declared.CalendarDate.{CalendarDate}
use Rattle.time_of_day.specs.declared.TimeOfDay.{TimeOfDay}
use Rattle.time_of_day.specs.ExactTime.{time_ms}
use Rattle.utc.specs.text.Text.{last, two, three, four, five, six, seven, after_year, year_text, utc_text}
use Rattle.utc.specs.text.ReadBack.{value, number, signed_number, from_end, read_year, read_month, read_day, read_hour, read_minute, read_second}
use Rattle.utc.specs.text.ReadBack.{read_milli, read_ms, ReadsAs, Writable}
use Rattle.utc.specs.text.Layout.{skipped}
use Rattle.utc.proofs.text.Laws.{year_is, wide-length}

-- ---- digits
step : (n : ℕ) (cs : List ℕ) → value (n / 10) (last n ∷ cs) ≡ value n cs
step n cs = let e : 10 * (n / 10) + (48 + n % 10 - 48) ≡ n = omega arith in ap (λ (v : ℕ). value v cs) e

step-at : (n k : ℕ) (cs : List ℕ) → value (n / (k * 10)) (last (n / k) ∷ cs) ≡ value (n / k) cs
step-at n k cs = ap (λ (v : ℕ). value v (last (n / k) ∷ cs)) (sym (div-div-eq-div-mul n k 10)) ∙ step (n / k) cs

all_two : (n : ℕ) → value (n / 100) (two n) ≡ n
all_two n = step-at n 10 (last n ∷ []) ∙ step n []

all_three : (n : ℕ) → value (n / 1000) (three n) ≡ n
all_three n = step-at n 100 (two n) ∙ all_two n

all-four : (n : ℕ) → value (n / 10000) (four n) ≡ n
all-four n = step-at n 1000 (three n) ∙ all_three n

all-five : (n : ℕ) → value (n / 100000) (five n) ≡ n
all-five n = step-at n 10000 (four n) ∙ all-four n

all-six : (n : ℕ) → value (n / 1000000) (six n) ≡ n
all-six n = step-at n 100000 (five n) ∙ all-five n

all-seven : (n : ℕ) → value (n / 10000000) (seven n) ≡ n
all-seven n = step-at n 1000000 (six n) ∙ all-six n

pub two_is : (n : ℕ) → n < 100 → number (two n) ≡ n
two_is n h = let z : n / 100 ≡ 0 = omega arith in rw z at (all_two n)

pub three-is : (n : ℕ) → n < 1000 → number (three n) ≡ n
three-is n h = let z : n / 1000 ≡ 0 = omega arith in rw z at (all_three n)

pub four_is : (n : ℕ) → n < 10000 → number (four n) ≡ n
four_is n h = let z : n / 10000 ≡ 0 = omega arith in rw z at (all-four n)

five-is : (n : ℕ) → n < 100000 → number (five n) ≡ n
five-is n h = let z : n / 100000 ≡ 0 = omega arith in rw z at (all-five n)

six-is : (n : ℕ) → n < 1000000 → number (six n) ≡ n
six-is n h = let z : n / 1000000 ≡ 0 = omega arith in rw z at (all-six n)

pub seven_is : (n : ℕ) → n < 10000000 → number (seven n) ≡ n
seven_is n h = let z : n / 10000000 ≡ 0 = omega arith in rw z at (all-seven n)

-- ---- the year
-- a digit is no sign
pub no_sign : (x n : ℕ) (cs : List ℕ) → number (last x ∷ cs) ≡ n → signed_number (last x ∷ cs) ≡ pos n
unfolding signed_number
no_sign x n cs e = rw (ne_eqb (last x) 45 (λ h. omega arith), ne_eqb (last x) 43 (λ h. omega arith)) (ap pos e)

pub with_sign : (n : ℕ) (cs : List ℕ) → number cs ≡ suc n → signed_number (45 ∷ cs) ≡ negsuc n
unfolding signed_number
with_sign n cs e = ap (λ (k : ℕ). neg_ℤ (pos k)) e

after : (n : ℕ) → n < 10000000 → (a b c : Bool) → (T a → n < 10000) → (T b → n < 100000) → (T c → n < 1000000)
    → signed_number (cond a (four n) (cond b (five n) (cond c (six n) (seven n)))) ≡ pos n
after n h true b c p q r = no_sign (n / 1000) n (three n) (four_is n (p tt))
after n h false true c p q r = no_sign (n / 10000) n (four n) (five-is n (q tt))
after n h false false true p q r = no_sign (n / 100000) n (five n) (six-is n (r tt))
after n h false false false p q r = no_sign (n / 1000000) n (six n) (seven_is n h)

before : (n : ℕ) → suc n < 10000 → (b : Bool) → (T b → suc n < 1000) → signed_number (45 ∷ cond b (three (suc n)) (four (suc n))) ≡ negsuc n
before n h true p = with_sign n (three (suc n)) (three-is (suc n) (p tt))
before n h false p = with_sign n (four (suc n)) (four_is (suc n) h)

pub year-read : (y : ℤ) → lt_z y (negsuc 4899) ≡ false → lt_z (pos 2733194) y ≡ false → signed_number (year_text y) ≡ y
unfolding year_text
year-read (pos n) l h = let k : n ≤ 2733194 =
    ltb-false 2733194 n h in after n (omega arith) (ltb n 10000) (ltb n 100000) (ltb n 1000000) (ltb→lt n 10000) (ltb→lt n 100000) (ltb→lt n 1000000)
year-read (negsuc n) l h = let k : n ≤ 4899 = ltb-false 4899 n l in before n (omega arith) (ltb (suc n) 1000) (ltb→lt (suc n) 1000)

-- ---- the places, counted from the end, whatever the year's width
pub part_of : (y t : List ℕ) (k n : ℕ) → k ≤ 19 → length t ≡ 19 → from_end k n (y ++ t) ≡ take n (drop (19 - k) t)
part_of y t k n h e = ap (take n)
    (ap (λ (m : ℕ). drop m (y ++ t)) (ap (λ (m : ℕ). m - k) (length-append y t) ∙ places (length y) (length t) e) ∙ drop-append-add y t (19 - k))
  where
    places : (a b : ℕ) → b ≡ 19 → a + b - k ≡ a + (19 - k)
    places a b g = omega arith

pub front_of : (y t : List ℕ) → length t ≡ 19 → take (length (y ++ t) - 19) (y ++ t) ≡ y
front_of y t e = take_at y t (length (y ++ t) - 19) (places (length y) (length t) (length (y ++ t)) (length-append y t) e)
  where
    places : (a b n : ℕ) → n ≡ a + b → b ≡ 19 → a ≡ n - 19
    places a b n g h = omega arith

-- behind a year that reads back the rest does
pub year-and-rest : (y : List ℕ) (d : CalendarDate) (u : TimeOfDay) → signed_number y ≡ d.year → Writable d u → ReadsAs (y ++ after_year d u) d u
unfolding read_year read_month read_day read_hour read_minute read_second read_milli
year-and-rest y d u e w = record {
  year = ap signed_number (front_of y t refl) ∙ e;
  month = ap number (part_of y t 18 2 (omega arith) refl) ∙ two_is d.month (omega (arith, w.month));
  day = ap number (part_of y t 15 2 (omega arith) refl) ∙ two_is d.day (omega (arith, w.day));
  hour = ap number (part_of y t 12 2 (omega arith) refl) ∙ two_is u.hour (omega (arith, w.hour));
  minute = ap number (part_of y t 9 2 (omega arith) refl) ∙ two_is u.minute (omega (arith, w.minute));
  second = ap number (part_of y t 6 2 (omega arith) refl) ∙ two_is u.second (omega (arith, w.second));
  milli = ap number (part_of y t 3 3 (omega arith) refl) ∙ three-is u.milli (omega (arith, w.milli));
}
  where
    t : List ℕ
    t = after_year d u

pub reads_back : (d : CalendarDate) (u : TimeOfDay) → Writable d u → ReadsAs (utc_text d u) d u
unfolding utc_text
reads_back d u w = year-and-rest (year_text d.year) d u (year-read d.year w.year_low w.year_high) w

-- the milliseconds that a text shows are those of the time that its digits say
pub said_ms : {t : List ℕ} {d : CalendarDate} {u : TimeOfDay} → ReadsAs t d u → read_ms t ≡ time_ms u
unfolding read_ms
said_ms r = rw (r.hour, r.minute, r.second, r.milli)

-- ---- the length
few : (b : Bool) (n : ℕ) → skipped b n ≤ 3
unfolding skipped
few true n = two_ways (ltb n 1000)
  where
    two_ways : (a : Bool) → cond a 3 2 ≤ 3
    two_ways true = omega arith
    two_ways false = omega arith
few false n = four-ways (ltb n 10000) (ltb n 100000) (ltb n 1000000)
  where
    four-ways : (a b c : Bool) → cond a 3 (cond b 2 (cond c 1 0)) ≤ 3
    four-ways true b c = omega arith
    four-ways false true c = omega arith
    four-ways false false true = omega arith
    four-ways false false false = omega arith

pub written-length : (d : CalendarDate) (u : TimeOfDay) → (23 ≤ length (utc_text d u)) × (length (utc_text d u) ≤ 26)
unfolding utc_text
written-length d u =
    let n = nat_abs d.year in
    let b = not (non_neg d.year) in
    go (length (year_text d.year ++ after_year d u)) (skipped b n)
    (ap (λ (y : List ℕ). length (y ++ after_year d u)) (sym (year_is d.year))
    ∙ wide-length n d u b)
    (few b n)
  where
    go : (l k : ℕ) → l ≡ 26 - k → k ≤ 3 → (23 ≤ l) × (l ≤ 26)
    go l k e h = omega arith
