-- The table by years: before 1960 the offset is 0.0, and from 1972 on it is a whole number of seconds at every fraction of the day.
-- Assumes nothing.
use Rattle.std.proofs.Common.{◌≡◌, ℕ, zero, suc, ◌+◌, ◌-◌, ◌<◌, ◌≤◌, true, List, [], ◌∷◌, map, length, get_or, drop, ℤ, pos, negsuc, nat_abs, sym, refl, ap}
use Rattle.std.proofs.Common.{◌∙◌, le_of_suc-le-suc, not-suc-le-zero, add-zero, add-suc, suc-add, zero-add, arith, ltb-true}
use lib.Signed.{lt_z}
use lib.Ieee.{Float, nan, binary64, round, of_int}
use Rattle.refusals.specs.Outcome.{answer}
use Rattle.floats.specs.Whole.{nought}
use Rattle.calendar.proofs.Accepted.{date-accepted}
use Rattle.calendar.proofs.Mjd.{mjd-valid}
use Rattle.leap_table.specs.rows.Table.{Row, fixed, starts, reached, month_of, month_number, none, fixed_rows}
use Rattle.leap_table.specs.offsets.Offset.{seconds_of, offset_at, tai_utc_offset, row_at, whole_f}
use Rattle.leap_table.proofs.rows.Reached.{low, high, at_most}
use Rattle.leap_table.proofs.rows.Rows.{place, fixed-rises}
use Rattle.leap_table.proofs.offsets.At.{absent, steady}
use Rattle.leap_table.proofs.offsets.Offsets.{offset-came}

-- ---- in months: January 1960 is 23520, January 1972 is 23664
no_rows : (n : ℕ) → n < 23520 → reached (starts fixed) n ≡ 0
unfolding fixed
no_rows n h = omega (arith, high (starts fixed) fixed-rises 0 n (omega arith) h)

pub before_1960 : (n : ℕ) (mjd f : Float) → n < 23520 → offset_at fixed n mjd f ≡ nought
unfolding offset_at
before_1960 n mjd f h = sym (absent fixed (reached (starts fixed) n) mjd f (no_rows n h))

pub one-row : (n : ℕ) → 23520 ≤ n → 1 ≤ reached (starts fixed) n
unfolding fixed
one-row n h = low (starts fixed) 0 n (omega arith) h

pub drift-rows : (n : ℕ) → n < 23664 → reached (starts fixed) n ≤ 14
unfolding fixed
drift-rows n h = high (starts fixed) fixed-rises 14 n (omega arith) h

pub whole-rows : (n : ℕ) → 23664 ≤ n → 15 ≤ reached (starts fixed) n
unfolding fixed
whole-rows n h = low (starts fixed) 14 n (omega arith) h

pub most-rows : (n : ℕ) → reached (starts fixed) n ≤ fixed_rows
unfolding fixed
most-rows n = at_most (starts fixed) n

-- ---- the seconds of row 15 are 10, and each later row has one more
abbrev counted : ℕ → ℕ → List ℕ
counted zero s = []
counted (suc n) s = s ∷ counted n (suc s)

counted-at : (n s k : ℕ) → k < n → get_or (map whole_f (counted n s)) k nan ≡ whole_f (s + k)
counted-at zero s k h = absurd (not-suc-le-zero h)
counted-at (suc n) s zero h = ap whole_f (sym (add-zero s))
counted-at (suc n) s (suc k) h = counted-at n (suc s) k (le_of_suc-le-suc h) ∙ ap whole_f (suc-add s k ∙ sym (add-suc s k))

dropped : (rows : List Row) (i k : ℕ) → get_or (drop i rows) k none ≡ get_or rows (i + k) none
dropped rows zero k = ap (λ (j : ℕ). get_or rows j none) (sym (zero-add k))
dropped [] (suc i) k = sym (ap (λ (j : ℕ). get_or [] j none) (suc-add i k))
dropped (r ∷ rows) (suc i) k = dropped rows i k ∙ sym (ap (λ (j : ℕ). get_or (r ∷ rows) j none) (suc-add i k))

listed : map seconds_of (drop 14 fixed) ≡ map whole_f (counted (fixed_rows - 14) 10)
unfolding fixed seconds_of round of_int
listed = refl

in_range : length (drop 14 fixed) ≡ fixed_rows - 14
unfolding fixed
in_range = refl

pub seconds-whole : (k : ℕ) → 15 ≤ k → k ≤ fixed_rows → seconds_of (row_at k) ≡ of_int binary64 (pos (k - 5))
seconds-whole k h l =
    let j = k - 15 in
    ap (λ (i : ℕ). seconds_of (get_or fixed i none)) (place_of k h)
    ∙ ap seconds_of (sym (dropped fixed 14 j))
    ∙ sym (place seconds_of nan (drop 14 fixed) j (omega (arith, in_range)))
    ∙ ap (λ (s : List Float). get_or s j nan) listed
    ∙ counted-at (fixed_rows - 14) 10 j (omega arith)
    ∙ ap whole_f (seconds-of k h)
  where
    place_of : (i : ℕ) → 15 ≤ i → i - 1 ≡ 14 + (i - 15)
    place_of i g = omega arith

    seconds-of : (i : ℕ) → 15 ≤ i → 10 + (i - 15) ≡ i - 5
    seconds-of i g = omega arith

-- at every date and fraction the seconds of the row reached
pub row-seconds : (n : ℕ) → 23664 ≤ n → (mjd f : Float) → seconds_of (row_at (reached (starts fixed) n)) ≡ offset_at fixed n mjd f
unfolding offset_at
row-seconds n h mjd f =
    let k = reached (starts fixed) n in
    let a = whole-rows n h in
    let b = most-rows n in
    steady k mjd f (omega (arith, a)) (omega (arith, a)) (omega (arith, a, b)) (seconds_of (row_at k)) refl

pub whole-seconds : (n : ℕ) (mjd f : Float) → 23664 ≤ n → offset_at fixed n mjd f ≡ of_int binary64 (pos (reached (starts fixed) n - 5))
whole-seconds n mjd f h = sym (row-seconds n h mjd f) ∙ seconds-whole (reached (starts fixed) n) (whole-rows n h) (most-rows n)

-- ---- THE SAME BY DATES
early : (y : ℤ) (m : ℕ) → lt_z y (pos 1960) ≡ true → m ≤ 12 → month_number y m < 23520
unfolding month_number
early (pos y) m e h = omega (arith, ltb-true y 1960 e)
early (negsuc y) m e h = omega arith

pub zero_before_1960 : (y m d : ℤ) (f x : Float) → lt_z y (pos 1960) ≡ true → tai_utc_offset fixed y m d f ≡ answer x → x ≡ nought
zero_before_1960 y m d f x e p =
    let (n, q, r) = offset-came fixed y m d f x p in
    r ∙ before_1960 (month_number y (nat_abs m)) (of_int binary64 n) f (early y (nat_abs m) e (date-accepted y m d (mjd-valid y m d n q)).m_high)

-- from 1972 on: the number of rows reached less 5, at every fraction
pub whole-from-1972 : (y : ℕ) (m d : ℤ) (f x : Float) → 1972 ≤ y → tai_utc_offset fixed (pos y) m d f ≡ answer x
    → x ≡ of_int binary64 (pos (reached (starts fixed) (month_of y (nat_abs m)) - 5))
unfolding month_number
whole-from-1972 y m d f x h p =
    let (n, q, r) = offset-came fixed (pos y) m d f x p in
    r ∙ whole-seconds (month_of y (nat_abs m)) (of_int binary64 n) f (omega (arith, (date-accepted (pos y) m d (mjd-valid (pos y) m d n q)).m_low))
