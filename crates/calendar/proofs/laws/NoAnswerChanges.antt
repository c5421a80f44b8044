-- The Rust's signed expression and `gregorian_date`, which `gregorian_date` computes in unsigned 32-bit numbers, say the same date for every day number that a
-- caller hands over. At -68570, where the shifted number is -1, both say -4900-02-30. Assumes nothing.
use mathlib.Core.Path.{◌≡◌, refl, ap, sym, ◌∙◌}
use mathlib.Core.Bool.{Bool, true, false, cond, true≢false}
use Prim.Native.Nat.{ℕ, zero, suc, ◌+◌, ◌-◌, ◌*◌, ◌/◌, ◌≤◌}
use native.Mathlib.Omega.{arith}
use lib.Dec.{ltb}
use lib.IntN.{ℤ, pos, negsuc, neg_ℤ, sub_ℕ, ◌+ℤ◌, ◌-ℤ◌, ◌*ℤ◌, +ℤ_assoc}
use lib.Signed.{lt_z}
use borrow.Author.Tests.{ltb-true, ltb-false}
use Rattle.calendar.specs.declared.CalendarDate.{CalendarDate}
use Rattle.calendar.specs.Calendar.{date, date_at}
use Rattle.calendar.specs.Gregorian.{gregorian_date}
use Rattle.calendar.proofs.Signs.{raised, sub_at, sub_shift}
use Rattle.calendar.proofs.Divisions.{century_start, c-low, f-low, good}
use Rattle.calendar.proofs.Gregorian.{divisions_give_date, shifted_day_is, gregorian_is_date_of_day}
use Rattle.calendar.specs.laws.RustDate.{RustTriple, from_day_of_year, from_day_of_century, from_shifted, rust_date}

-- ---- differences of natural numbers
minus : (a b : ℕ) → b ≤ a → pos a -ℤ pos b ≡ pos (a - b)
minus a zero h = ap pos (omega arith)
minus a (suc b) h = sub_at a (suc b) h

-- what is taken away and what is left out of it
minus-short : (a f : ℕ) → f ≤ a → pos a -ℤ (pos f -ℤ pos 31) ≡ pos (a + 31 - f)
minus-short a f h = go (ltb f 31) refl
  where
    go : (t : Bool) → ltb f 31 ≡ t → pos a -ℤ cond t (negsuc (31 - suc f)) (pos (f - 31)) ≡ pos (a + 31 - f)
    go true e = ap pos (omega (arith, ltb-true f 31 e))
    go false e = minus a (f - 31) (omega arith) ∙ ap pos (omega (arith, ltb-false f 31 e))

same-difference : (a b c d : ℕ) → a + d ≡ c + b → sub_ℕ a b ≡ sub_ℕ c d
same-difference a b c d e =
    sym (sub_shift a b d) ∙ (λ i. sub_ℕ (e i) (swap i)) ∙ sub_shift c d b
  where
    swap : b + d ≡ d + b
    swap = omega arith

-- the Rust lowers the century by 49, and the code the year by 4900
hundred : (d : ℕ) → 100 * suc d ≡ suc (99 + 100 * d)
hundred d = omega arith

year_is : (n i o : ℕ) → pos 100 *ℤ (pos n -ℤ pos 49) +ℤ pos i +ℤ pos o ≡ sub_ℕ (100 * n + i + o) 4900
year_is n i o = go (ltb n 49) refl
  where
    go : (t : Bool) → ltb n 49 ≡ t → pos 100 *ℤ cond t (negsuc (49 - suc n)) (pos (n - 49)) +ℤ pos i +ℤ pos o ≡ sub_ℕ (100 * n + i + o) 4900
    go true e =
        ap (λ (z : ℕ). neg_ℤ (pos z) +ℤ pos i +ℤ pos o) (hundred (49 - suc n))
        ∙ +ℤ_assoc (negsuc (99 + 100 * (49 - suc n))) (pos i) (pos o)
        ∙ same-difference (i + o) (suc (99 + 100 * (49 - suc n))) (100 * n + i + o) 4900 (omega (arith, ltb-true n 49 e))
    go false e = ap pos (omega (arith, ltb-false n 49 e)) ∙ sym (sub_at (100 * n + i + o) 4900 (omega (arith, ltb-false n 49 e)))

-- a date as the Rust hands it out
abbrev pub as_triple : CalendarDate → RustTriple
as_triple t = record { year = t.year; month = pos t.month; day = pos t.day }

-- ---- the Rust's lines on a shifted number that is not below 0
module _ (l n a i b k : ℕ) (en : n ≡ 4 * l / 146097) (ea : a ≡ l - century_start n) (ei : i ≡ 4000 * (a + 1) / 1461001) (eb : b ≡ a + 31 - 1461 * i / 4)
    (ek : k ≡ 80 * b / 2447) where
  by-century : from_shifted (pos l) ≡ from_day_of_century (pos n) (pos a)
  unfolding from_shifted
  by-century =
      ap (λ (z : ℕ). from_day_of_century (pos z) (pos l -ℤ pos (century_start z))) (sym en)
      ∙ ap (from_day_of_century (pos n)) (minus l (century_start n) (c-low l n a i b k en ea ei eb ek) ∙ ap pos (sym ea))

  by-year : from_day_of_century (pos n) (pos a) ≡ from_day_of_year (pos n) (pos i) (pos b)
  unfolding from_day_of_century
  by-year =
      ap (λ (z : ℕ). from_day_of_year (pos n) (pos z) (pos a -ℤ (pos (1461 * z / 4) -ℤ pos 31))) (sym ei)
      ∙ ap (from_day_of_year (pos n) (pos i)) (minus-short a (1461 * i / 4) (f-low l n a i b k en ea ei eb ek) ∙ ap pos (sym eb))

  month_fits : 12 * (k / 11) ≤ k + 2
  month_fits = omega (arith, (good l n a i b k en ea ei eb ek).m_high)

  day_fits : 2447 * k / 80 ≤ b
  day_fits = go (2447 * k / 80) (good l n a i b k en ea ei eb ek).d_low
    where
      go : (v : ℕ) → 1 ≤ b - v → v ≤ b
      go v h = omega arith

  by_month : from_day_of_year (pos n) (pos i) (pos b) ≡ as_triple (date (sub_ℕ (100 * n + i + k / 11) 4900) (k + 2 - 12 * (k / 11)) (b - 2447 * k / 80))
  unfolding from_day_of_year
  by_month =
      ap (λ (z : ℕ). record {
        year = pos 100 *ℤ (pos n -ℤ pos 49) +ℤ pos i +ℤ pos (z / 11);
        month = pos (z + 2) -ℤ pos (12 * (z / 11));
        day = pos b -ℤ pos (2447 * z / 80);
      }) (sym ek)
      ∙ (λ j. record {
        year = year_is n i (k / 11) j;
        month = minus (k + 2) (12 * (k / 11)) month_fits j;
        day = minus b (2447 * k / 80) day_fits j;
      })

  by_lines : from_shifted (pos l) ≡ as_triple (date_at (l + 109572))
  by_lines = by-century ∙ by-year ∙ by_month ∙ ap as_triple (divisions_give_date l n a i b k en ea ei eb ek)

from_zero : (l : ℕ) → from_shifted (pos l) ≡ as_triple (date_at (l + 109572))
from_zero l = by_lines l _ _ _ _ _ refl refl refl refl refl

-- ---- THE LAW
-- the shifted number -1, by computing
at_minus_one : rust_date (negsuc 68569) ≡ as_triple (gregorian_date (negsuc 68569))
unfolding rust_date from_shifted from_day_of_century from_day_of_year gregorian_date
at_minus_one = refl

above : (jd : ℤ) → lt_z jd (negsuc 68568) ≡ false → lt_z (pos 1000000000) jd ≡ false → rust_date jd ≡ as_triple (gregorian_date jd)
unfolding rust_date
above jd p q =
    let r = raised jd 68568 68569 1000000000 (omega arith) p q in
    ap from_shifted r.is ∙ from_zero r.r ∙ ap as_triple (sym (shifted_day_is jd r.r (sym r.is)) ∙ sym (gregorian_is_date_of_day jd p q))

lowest : (jd : ℤ) → lt_z jd (negsuc 68569) ≡ false → lt_z jd (negsuc 68568) ≡ true → jd ≡ negsuc 68569
lowest (pos n) p q = absurd (true≢false (sym q))
lowest (negsuc n) p q = ap negsuc (omega (arith, ltb-false 68569 n p, ltb-true 68568 n q))

-- no answer changes: from -68570 to 1,000,000,000, all that a caller hands over, the Rust's date is the code's
pub no_answer_changes : (jd : ℤ) → lt_z jd (negsuc 68569) ≡ false → lt_z (pos 1000000000) jd ≡ false → rust_date jd ≡ as_triple (gregorian_date jd)
no_answer_changes jd p q = go (lt_z jd (negsuc 68568)) refl
  where
    go : (t : Bool) → lt_z jd (negsuc 68568) ≡ t → rust_date jd ≡ as_triple (gregorian_date jd)
    go true e = ap rust_date (lowest jd p e) ∙ at_minus_one ∙ ap (λ (z : ℤ). as_triple (gregorian_date z)) (sym (lowest jd p e))
    go false e = above jd e q
