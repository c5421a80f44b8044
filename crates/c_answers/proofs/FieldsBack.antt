-- A date, a Julian date and a calendar answer for C are read back from their bytes, each field at its offset and under its name. Assumes nothing.
use Prim.Native.Nat.{ℕ, ◌+◌, ◌-◌, ◌*◌, ◌/◌, ◌%◌, ◌<◌}
use native.Mathlib.Omega.{arith}
use mathlib.Core.Path.{◌≡◌, refl, ap, ◌∙◌}
use mathlib.Core.List.{List, [], ◌∷◌}
use lib.Dec.{T}
use lib.IntN.{ℤ, pos, negsuc}
use lib.Ieee.{Float, binary64, fits, of_bits, to_bits}
use lib.Ieee.Bits.{to_bits-lt, of_bits-to_bits}
use mir.Syntax.{w32}
use mir.Val.{SFits}
use Rattle.numerals.specs.little_endian.LittleEndian.{four_at, u32_at, u64_at, i32_at, four_bytes, pattern_of, pattern32}
use Rattle.numerals.proofs.little_endian.RoundTrip.{read-written, read-written-4, read-signed-4}
use Rattle.calendar.specs.declared.CalendarDate.{CalendarDate}
use Rattle.julian.specs.declared.JulianDate.{JulianDate}
use Rattle.julian.specs.declared.CalendarFields.{CalendarFields}
use Rattle.c_answers.specs.Fields.{float_bytes, date_bytes, julian_bytes, calendar_bytes}
use Rattle.c_answers.specs.ReadBack.{float_at, DateBack, JulianBack, CalendarBack}

-- ---- one field
pub float_back : (x : Float) → T (fits binary64 x) → float_at (float_bytes x) 0 ≡ x
float_back x h = ap (of_bits binary64) (read-written (to_bits binary64 x) (to_bits-lt binary64 x h)) ∙ of_bits-to_bits binary64 x h

-- of a year's 64 bits the lower half are its 32
whole-turns : (q c : ℕ) → (q + 256 * c) % 256 ≡ q % 256
whole-turns q c = omega arith

low_half : (p : ℕ) → four_bytes (p + 0xffff_ffff_0000_0000) ≡ four_bytes p
low_half p =
    let b : (p + 0xffff_ffff_0000_0000) / 0x100 ≡ p / 0x100 + 256 * 0xffff_ffff_0000 = omega arith in
    let c : (p + 0xffff_ffff_0000_0000) / 0x1_0000 ≡ p / 0x1_0000 + 256 * 0xff_ffff_ff00 = omega arith in
    let d : (p + 0xffff_ffff_0000_0000) / 0x100_0000 ≡ p / 0x100_0000 + 256 * 0xffff_ffff = omega arith in
    let b' : (p + 0xffff_ffff_0000_0000) / 0x100 % 256 ≡ p / 0x100 % 256 = ap (λ (n : ℕ). n % 256) b ∙ whole-turns (p / 0x100) 0xffff_ffff_0000 in
    let c' : (p + 0xffff_ffff_0000_0000) / 0x1_0000 % 256 ≡ p / 0x1_0000 % 256 = ap (λ (n : ℕ). n % 256) c ∙ whole-turns (p / 0x1_0000) 0xff_ffff_ff00 in
    let d' : (p + 0xffff_ffff_0000_0000) / 0x100_0000 % 256 ≡ p / 0x100_0000 % 256 = ap (λ (n : ℕ). n % 256) d ∙ whole-turns (p / 0x100_0000) 0xffff_ffff in
    λ i. whole-turns p 0xff_ffff_ff00_0000 i ∷ b' i ∷ c' i ∷ d' i ∷ []

pub year-back : (z : ℤ) → SFits w32 z → i32_at (four_bytes (pattern_of z)) 0 ≡ z
unfolding pattern_of pattern32
year-back (pos n) f = read-signed-4 (pos n) f
year-back (negsuc k) f =
    let h : k < 2147483648 = f.sfits in
    let e : 0xffff_ffff_ffff_ffff - k ≡ 0xffff_ffff - k + 0xffff_ffff_0000_0000 = omega arith in
    ap (λ (n : ℕ). i32_at (four_bytes n) 0) e ∙ ap (λ (l : List ℕ). i32_at l 0) (low_half (0xffff_ffff - k)) ∙ read-signed-4 (negsuc k) f

-- ---- the answers
module _ (t : CalendarDate) (fits-year : SFits w32 t.year) (fits-month : t.month < 4294967296) (fits-day : t.day < 4294967296) where
  pub date-back : DateBack t (date_bytes t)
  unfolding date_bytes u32_at four_at
  date-back = record {
    year = year-back t.year fits-year;
    month = read-written-4 t.month fits-month;
    day = read-written-4 t.day fits-day;
  }

-- 2016-12-31, byte by byte
pub last-day-of-2016 : date_bytes (record { year = pos 2016; month = 12; day = 31 }) ≡ 224 ∷ 7 ∷ 0 ∷ 0 ∷ 12 ∷ 0 ∷ 0 ∷ 0 ∷ 31 ∷ 0 ∷ 0 ∷ 0 ∷ []
unfolding date_bytes pattern_of
last-day-of-2016 = refl

pub julian-back : (d : JulianDate) → T (fits binary64 d.jd1) → T (fits binary64 d.jd2) → JulianBack d (julian_bytes d) 0
unfolding julian_bytes u64_at four_at
julian-back d f g = record { jd1 = float_back d.jd1 f; jd2 = float_back d.jd2 g }

module _ (f : CalendarFields) (fits-year : SFits w32 f.date.year) (fits-month : f.date.month < 4294967296) (fits-day : f.date.day < 4294967296)
    (fits-fraction : T (fits binary64 f.fraction)) where
  pub calendar-back : CalendarBack f (calendar_bytes f)
  unfolding calendar_bytes date_bytes u32_at u64_at four_at
  calendar-back = record {
    date = record {
      year = year-back f.date.year fits-year;
      month = read-written-4 f.date.month fits-month;
      day = read-written-4 f.date.day fits-day;
    };
    fraction = float_back f.fraction fits-fraction;
  }
