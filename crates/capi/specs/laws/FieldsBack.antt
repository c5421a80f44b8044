-- The fields of a week, of a text that was read, of a bill and of a run's size, read back by a C caller at the offsets of include/celestial_time.h. Written
-- from include/celestial_time.h. Assumes nothing.
use Rattle.std.specs.Prelude.{ℕ, ◌≡◌, true, List}
use Rattle.numerals.specs.little_endian.LittleEndian.{u32_at, u64_at, i32_at}
use Rattle.scales.specs.declared.gps_weeks.WeekTime.{WeekTime}
use Rattle.parsing.specs.declared.ParsedDateTime.{ParsedDateTime}
use Rattle.parsing.specs.declared.ParsedUtc.{ParsedUtc}
use Rattle.standby.specs.declared.Bill.{Bill}
use Rattle.line_listing.specs.declared.taken.RunSize.{RunSize}
use Rattle.c_answers.specs.ReadBack.{float_at, JulianBack}
use Rattle.capi.specs.SummaryDelivery.{run_record}

pub record WeekBack (t : WeekTime) (bytes : List ℕ) : Type 0 where
  pub week : u32_at bytes 0 ≡ t.week
  pub millis : u32_at bytes 4 ≡ t.millis

pub record ReaderBack (p : ParsedDateTime) (bytes : List ℕ) : Type 0 where
  pub year : i32_at bytes 0 ≡ p.year
  pub month : u32_at bytes 4 ≡ p.month
  pub day : u32_at bytes 8 ≡ p.day
  pub hour : u32_at bytes 12 ≡ p.hour
  pub minute : u32_at bytes 16 ≡ p.minute
  pub second : float_at bytes 20 ≡ p.second

-- of a UTC text, the date behind its fields
pub record UtcReaderBack (r : ParsedUtc) (bytes : List ℕ) : Type 0 where
  pub fields : ReaderBack r.fields bytes
  pub date : JulianBack r.date.0 bytes 28

pub record BillBack (b : Bill) (bytes : List ℕ) : Type 0 where
  pub quarters : u64_at bytes 0 ≡ b.quarters
  pub first : u64_at bytes 8 ≡ b.first
  pub second : u64_at bytes 16 ≡ b.second

-- of a run's size, the stamps and the record that the listing and the summary read
pub record SizeBack (z : RunSize) (bytes : List ℕ) : Type 0 where
  pub stamps : u64_at bytes 0 ≡ z.stamps
  pub run : run_record bytes 0 ≡ record { named = true; block = z.blocks; refused = z.refused }
