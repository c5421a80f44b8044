-- A week, a text that was read, a bill and a run's size are read back from their bytes, each field at its offset and under its name; what is asked of a field
-- is that it has its type's width. Assumes nothing.
use Prim.Native.Nat.{◌<◌}
use mathlib.Core.Bool.{true}
use lib.Dec.{T}
use lib.Ieee.{binary64, fits}
use mir.Syntax.{w32}
use mir.Val.{SFits}
use Rattle.numerals.specs.little_endian.LittleEndian.{four_at, u32_at, u64_at}
use Rattle.numerals.proofs.little_endian.RoundTrip.{read-written, read-written-4}
use Rattle.scales.specs.declared.gps_weeks.WeekTime.{WeekTime}
use Rattle.parsing.specs.declared.ParsedDateTime.{ParsedDateTime}
use Rattle.parsing.specs.declared.ParsedUtc.{ParsedUtc}
use Rattle.standby.specs.declared.Bill.{Bill}
use Rattle.line_listing.specs.declared.taken.RunSize.{RunSize}
use Rattle.c_answers.specs.Fields.{julian_bytes}
use Rattle.c_answers.proofs.FieldsBack.{float_back, year-back}
use Rattle.capi.specs.WeekBytes.{week_bytes}
use Rattle.capi.specs.ReaderFields.{parsed_bytes, parsed_utc_bytes}
use Rattle.capi.specs.BillBytes.{bill_bytes}
use Rattle.capi.specs.RunSizeDelivery.{size_bytes}
use Rattle.capi.specs.SummaryDelivery.{run_record}
use Rattle.capi.specs.laws.FieldsBack.{WeekBack, ReaderBack, UtcReaderBack, BillBack, SizeBack}

pub week-back : (t : WeekTime) → t.week < 4294967296 → t.millis < 4294967296 → WeekBack t (week_bytes t)
unfolding week_bytes u32_at four_at
week-back t h k = record { week = read-written-4 t.week h; millis = read-written-4 t.millis k }

pub bill-back : (b : Bill) → b.quarters < 18446744073709551616 → b.first < 18446744073709551616 → b.second < 18446744073709551616 → BillBack b (bill_bytes b)
unfolding bill_bytes u64_at four_at
bill-back b h k l = record { quarters = read-written b.quarters h; first = read-written b.first k; second = read-written b.second l }

pub size_back : (z : RunSize) → z.stamps < 18446744073709551616 → z.blocks < 18446744073709551616 → z.refused < 4294967296 → SizeBack z (size_bytes z)
unfolding size_bytes run_record u64_at u32_at four_at
size_back z h k l = record {
  stamps = read-written z.stamps h;
  run = λ i. record { named = true; block = read-written z.blocks k i; refused = read-written-4 z.refused l i };
}

-- a text's fields by their types' widths
pub record OfWidth (p : ParsedDateTime) : Type 0 where
  pub year : SFits w32 p.year
  pub month : p.month < 4294967296
  pub day : p.day < 4294967296
  pub hour : p.hour < 4294967296
  pub minute : p.minute < 4294967296
  pub second : T (fits binary64 p.second)

pub reader_back : (p : ParsedDateTime) → OfWidth p → ReaderBack p (parsed_bytes p)
unfolding parsed_bytes u32_at u64_at four_at
reader_back p w = record {
  year = year-back p.year w.year;
  month = read-written-4 p.month w.month;
  day = read-written-4 p.day w.day;
  hour = read-written-4 p.hour w.hour;
  minute = read-written-4 p.minute w.minute;
  second = float_back p.second w.second;
}

module _ (r : ParsedUtc) (w : OfWidth r.fields) (fits-first : T (fits binary64 r.date.0.jd1)) (fits-second : T (fits binary64 r.date.0.jd2)) where
  pub utc-reader-back : UtcReaderBack r (parsed_utc_bytes r)
  unfolding parsed_utc_bytes parsed_bytes julian_bytes u32_at u64_at four_at
  utc-reader-back = record {
    fields = record {
      year = year-back r.fields.year w.year;
      month = read-written-4 r.fields.month w.month;
      day = read-written-4 r.fields.day w.day;
      hour = read-written-4 r.fields.hour w.hour;
      minute = read-written-4 r.fields.minute w.minute;
      second = float_back r.fields.second w.second;
    };
    date = record { jd1 = float_back r.date.0.jd1 fits-first; jd2 = float_back r.date.0.jd2 fits-second };
  }
