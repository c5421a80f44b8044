-- A sentence has at most 57 bytes: every one that a call gives. Assumes nothing.
use Prim.Native.Nat.{ℕ, suc, ◌+◌, ◌*◌, ◌≤◌, ◌<◌}
use native.Mathlib.Omega.{arith}
use mathlib.Core.Path.{◌≡◌, refl, sym, subst}
use mathlib.Core.Bool.{Bool, true, false, cond, not, ◌&&◌, ◌||◌}
use mathlib.Core.List.{List, ◌++◌}
use lib.ListN.{length, length-append}
use lib.Dec.{leb, ltb, eqb}
use lib.IntN.{ℤ, pos, negsuc, nat_abs}
use lib.Signed.{lt_z}
use lib.Ieee.{Float, binary64, to_bits}
use lib.Ieee.Scale.{finite}
use borrow.Author.Tests.{leb-true, le-leb, eqb-true}
use Rattle.refusals.specs.Outcome.{answer, refusal, onward}
use Rattle.calendar.specs.Calendar.{days_in_month}
use Rattle.julian.specs.day_number.DayNumber.{in_julian_range}
use Rattle.julian.specs.JulianDate.{julian, rounded_sum}
use Rattle.julian.specs.DayFraction.{time_in_day}
use Rattle.leap_table.specs.offsets.Offset.{in_day}
use Rattle.numerals.specs.digits.Decimal.{digits_of}
use Rattle.numerals.proofs.digits.Decimal.{digits-few}
use Rattle.numerals.proofs.digits.Hexadecimal.{hex_length}
use Rattle.reasons.specs.declared.sentences.Named.{Named}
use Rattle.reasons.specs.declared.sentences.Named.TheVariants.{NoField, Year, Month, Day, Hour, Minute, Second, Sum, Fraction, Nanos, FirstPart}
use Rattle.reasons.specs.declared.sentences.Named.TheVariants.{SecondPart, Offset, SecondSize, Size, WholeLength}
use Rattle.reasons.specs.declared.Values.{Values}
use Rattle.reasons.specs.declared.Values.TheVariants.{NoValues, Date, Time, Parts, Number, Count, Block}
use Rattle.reasons.specs.declared.sentences.Reason.{Reason}
use Rattle.reasons.specs.sentences.Texts.{ascii_bytes, texts, fixed_text}
use Rattle.reasons.specs.Offending.{offending, year_field, month_field, day_field, date_field, time_field, sum_field, part_field, parts_field, float_field}
use Rattle.reasons.specs.Offending.{nanos_field, block_field}
use Rattle.reasons.specs.sentences.Render.{signed_digits, float_digits, named_text, render}
use Rattle.reasons.specs.Sentence.{reason_of, sentence}
use Rattle.reasons.specs.Widths.{OfWidth}
use Rattle.reasons.proofs.sentences.FixedTexts.{text-short}

abbrev In57 : ℕ → Named → Type 0
In57 k f = length (fixed_text k ++ named_text f) ≤ 57

none_in : (k : ℕ) → In57 k NoField
unfolding named_text
none_in k = let h : length (fixed_text k) ≤ 50 = text-short k in simp length-append (omega arith)

wrong_in : (k : ℕ) (b : Bool) (f : Named) → In57 k f → In57 k (cond b f NoField)
wrong_in k true f h = h
wrong_in k false f h = none_in k

all_in : (t w d : List ℕ) (a : ℕ) → leb (length t + length w + a) 57 ≡ true → length d ≤ a → length (t ++ (w ++ d)) ≤ 57
all_in t w d a e h = let l = leb-true (length t + length w + a) 57 e in simp length-append (omega arith)

signed-short : (z : ℤ) → nat_abs z ≤ 2147483648 → length (signed_digits z) ≤ 11
unfolding signed_digits
signed-short (pos n) h = let l = digits-few 9 n (omega arith) in omega arith
signed-short (negsuc n) h = let l = digits-few 9 (suc n) (omega arith) in omega arith

float-short : (x : Float) → length (float_digits x) ≤ 16
float-short x = omega (arith, hex_length (to_bits binary64 x))

count-short : (n : ℕ) → n < 4294967296 → length (digits_of n) ≤ 10
count-short n h = digits-few 9 n (omega arith)

byte_short : (n : ℕ) → n < 256 → length (digits_of n) ≤ 3
byte_short n h = digits-few 2 n (omega arith)

-- the field of number j, where the number is j, and else the next
or_next : (k j : ℕ) (b : Bool) (f g : Named) → eqb k j ≡ b → In57 j f → In57 k g → In57 k (cond b f g)
or_next k j true f g e p q = subst (λ (n : ℕ). In57 n f) (sym (eqb-true k j e)) p
or_next k j false f g e p q = q

module _ (k : ℕ) where
  year-in : (y : ℤ) → nat_abs y ≤ 2147483648 → In57 1 (year_field y)
  unfolding year_field named_text fixed_text texts
  year-in y h = wrong_in 1 (lt_z y (negsuc 4798)) (Year y) (all_in (fixed_text 1) (ascii_bytes ": year ") (signed_digits y) 11 refl (signed-short y h))

  month-in : (m : ℤ) → nat_abs m ≤ 2147483648 → In57 2 (month_field m)
  unfolding month_field named_text fixed_text texts
  month-in m h = wrong_in 2 (lt_z m (pos 1) || lt_z (pos 12) m) (Month m)
      (all_in (fixed_text 2) (ascii_bytes ": month ") (signed_digits m) 11 refl (signed-short m h))

  day-in : (y m d : ℤ) → nat_abs d ≤ 2147483648 → In57 3 (day_field y m d)
  unfolding day_field named_text fixed_text texts
  day-in y m d h = wrong_in 3 (lt_z d (pos 1) || lt_z (pos (days_in_month y m)) d) (Day d)
      (all_in (fixed_text 3) (ascii_bytes ": day ") (signed_digits d) 11 refl (signed-short d h))

  date-in : (y m d : ℤ) → nat_abs y ≤ 2147483648 → nat_abs m ≤ 2147483648 → nat_abs d ≤ 2147483648 → In57 k (date_field k y m d)
  unfolding date_field
  date-in y m d p q r =
      or_next k 1 (eqb k 1) (year_field y) _ refl (year-in y p)
      (or_next k 2 (eqb k 2) (month_field m) _ refl (month-in m q) (or_next k 3 (eqb k 3) (day_field y m d) NoField refl (day-in y m d r) (none_in k)))

  time-in : (hour minute : ℕ) (second leap : Float) → hour < 256 → minute < 256 → In57 4 (time_field hour minute second leap)
  unfolding time_field named_text fixed_text texts
  time-in hour minute second leap h m = go (leb hour 23) (leb minute 59) (not (time_in_day hour minute second leap))
    where
      go : (a b c : Bool) → In57 4 (cond a (cond b (cond c (Second second) NoField) (Minute minute)) (Hour hour))
      go true true c = wrong_in 4 c (Second second) (all_in (fixed_text 4) (ascii_bytes ": seconds ") (float_digits second) 16 refl (float-short second))
      go true false c = all_in (fixed_text 4) (ascii_bytes ": minute ") (digits_of minute) 3 refl (byte_short minute m)
      go false b c = all_in (fixed_text 4) (ascii_bytes ": hour ") (digits_of hour) 3 refl (byte_short hour h)

  sum-in : (a b : Float) → In57 6 (sum_field a b)
  unfolding sum_field named_text fixed_text texts
  sum-in a b =
      let x = rounded_sum (julian a b) in
      wrong_in 6 (not (in_julian_range x)) (Sum x) (all_in (fixed_text 6) (ascii_bytes ": sum ") (float_digits x) 16 refl (float-short x))

  part_in : (a b : Float) → In57 9 (part_field a b)
  unfolding part_field named_text fixed_text texts
  part_in a b = go (finite a) (not (finite b))
    where
      go : (p q : Bool) → In57 9 (cond p (cond q (SecondPart b) NoField) (FirstPart a))
      go true q = wrong_in 9 q (SecondPart b) (all_in (fixed_text 9) (ascii_bytes ": jd2 ") (float_digits b) 16 refl (float-short b))
      go false q = all_in (fixed_text 9) (ascii_bytes ": jd1 ") (float_digits a) 16 refl (float-short a)

  parts_in : (a b : Float) → In57 k (parts_field k a b)
  unfolding parts_field
  parts_in a b = or_next k 6 (eqb k 6) (sum_field a b) _ refl (sum-in a b) (or_next k 9 (eqb k 9) (part_field a b) NoField refl (part_in a b) (none_in k))

  fraction-in : (x : Float) (b : Bool) → In57 7 (cond b (Fraction x) NoField)
  unfolding named_text fixed_text texts
  fraction-in x b = wrong_in 7 b (Fraction x) (all_in (fixed_text 7) (ascii_bytes ": fraction ") (float_digits x) 16 refl (float-short x))

  offset-in : (x : Float) (b : Bool) → In57 10 (cond b (Offset x) NoField)
  unfolding named_text fixed_text texts
  offset-in x b = wrong_in 10 b (Offset x) (all_in (fixed_text 10) (ascii_bytes ": offset ") (float_digits x) 16 refl (float-short x))

  float_in : (x : Float) → In57 k (float_field k x)
  unfolding float_field
  float_in x = or_next k 7 (eqb k 7) _ _ refl (fraction-in x (not (in_day x)))
      (or_next k 10 (eqb k 10) _ NoField refl (offset-in x (not (finite x))) (none_in k))

  nanos-in : (n : ℕ) → n < 4294967296 → In57 8 (nanos_field n)
  unfolding nanos_field named_text fixed_text texts
  nanos-in n h = wrong_in 8 (not (ltb n 1000000000)) (Nanos n) (all_in (fixed_text 8) (ascii_bytes ": nanoseconds ") (digits_of n) 10 refl (count-short n h))

  second-size-in : (n : ℕ) → n < 4294967296 → (b : Bool) → In57 12 (cond b (SecondSize n) NoField)
  unfolding named_text fixed_text texts
  second-size-in n h b = wrong_in 12 b (SecondSize n) (all_in (fixed_text 12) (ascii_bytes ": second size ") (digits_of n) 10 refl (count-short n h))

  size_in : (n : ℕ) → n < 4294967296 → (b : Bool) → In57 13 (cond b (Size n) NoField)
  unfolding named_text fixed_text texts
  size_in n h b = wrong_in 13 b (Size n) (all_in (fixed_text 13) (ascii_bytes ": size ") (digits_of n) 10 refl (count-short n h))

  length-in : (n : ℕ) → n < 18446744073709551616 → (b : Bool) → In57 14 (cond b (WholeLength n) NoField)
  unfolding named_text fixed_text texts
  length-in n h b = wrong_in 14 b (WholeLength n) (all_in (fixed_text 14) (ascii_bytes ": length ") (digits_of n) 20 refl (digits-few 19 n (omega arith)))

  block_in : (n size second : ℕ) → n < 18446744073709551616 → size < 4294967296 → second < 4294967296 → In57 k (block_field k n size second)
  unfolding block_field
  block_in n size second p q r =
      or_next k 12 (eqb k 12) _ _ refl (second-size-in second r (not (eqb size second)))
      (or_next k 13 (eqb k 13) _ _ refl (size_in size q (not (leb size 4000)))
      (or_next k 14 (eqb k 14) _ NoField refl (length-in n p (not (eqb n (8 + 16 * size)))) (none_in k)))

  every_in : (v : Values) → OfWidth v → In57 k (offending k v)
  unfolding offending OfWidth
  every_in NoValues h = none_in k
  every_in (Date y m d) h = date-in y m d h.0 h.1 h.2
  every_in (Time hour minute second leap) h =
      or_next k 4 (eqb k 4) (time_field hour minute second leap) NoField refl (time-in hour minute second leap h.0 h.1) (none_in k)
  every_in (Parts a b) h = parts_in a b
  every_in (Number x) h = float_in x
  every_in (Count n) h = or_next k 8 (eqb k 8) (nanos_field n) NoField refl (nanos-in n h) (none_in k)
  every_in (Block n size second) h = block_in n size second h.0 h.1 h.2

-- every sentence of a reason that the values give
pub reason_short : (k : ℕ) (v : Values) → OfWidth v → length (render (record { number = k; named = offending k v })) ≤ 57
unfolding render
reason_short k v h = every_in k v h

-- a number from 1 to 28 has its sentence
pub sentence-is : (k : ℕ) (v : Values) → 1 ≤ k → k ≤ 28 → sentence k v ≡ answer (render (record { number = k; named = offending k v }))
unfolding sentence reason_of onward
sentence-is k v l h = rw (le-leb 1 k l, le-leb k 28 h)

-- every sentence that a call gives
pub sentence-short : (k : ℕ) (v : Values) → OfWidth v → (t : List ℕ) → sentence k v ≡ answer t → length t ≤ 57
unfolding sentence reason_of render onward
sentence-short k v h t e = go (leb 1 k && leb k 28) e
  where
    go : (b : Bool) → onward (cond b (answer (record { number = k; named = offending k v })) (refusal 18)) (λ (r : Reason). answer (render r)) ≡ answer t
        → length t ≤ 57
    go true q = let z : fixed_text k ++ named_text (offending k v) ≡ t = cc in subst (λ (l : List ℕ). length l ≤ 57) z (every_in k v h)
    go false q = let z : ◌≡◌ {A = ℕ} 0 1 = cc in absurd (omega (arith, z))
