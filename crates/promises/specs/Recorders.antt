-- What three recorders, their runs, their line and the places of their readings promise beyond the requests. `rows` are those of a table that is taken. From
-- the mission's first sentences: "Each tool will carry three recorders, one on GPS time, one on TAI, one on UTC. I am the data analyst who lines them up".
-- Assumes nothing.
use Rattle.std.specs.Prelude.{ℕ, ◌+◌, ◌-◌, ◌*◌, ◌/◌, ◌^◌, ◌≤◌, ◌<◌, ◌≡◌, List, length, get_or, Result, Ok}
use Rattle.refusals.specs.declared.Refusal.{Refusal}
use Rattle.refusals.specs.Outcome.{answer, refusal}
use Rattle.std.specs.Float.{binary64}
use Rattle.std.specs.Float.Ieee.{of_bits}
use Rattle.rounding.specs.Value.{L, plus_z, minus_z}
use Rattle.julian.specs.declared.JulianDate.{JulianDate}
use Rattle.julian.specs.JulianDate.{julian}
use Rattle.julian.specs.Worth.{Worth, SmallParts}
use Rattle.leap_table.specs.rows.Table.{Row}
use Rattle.scales.specs.laws.Ranges.{Practical}
use Rattle.scales.specs.Conversions.{gps-tai, answer_of}
use Rattle.scales.specs.gps_weeks.WeekDate.{week_date}
use Rattle.since_launch.specs.Millis.{millis_from_to}
use Rattle.since_launch.specs.laws.GridDates.{GridDate, sum_of}
use Rattle.since_launch.specs.laws.NearestMillis.{MillisDecided}
use Rattle.since_launch.specs.laws.NearSums.{NearMillis}
use Rattle.since_launch.specs.laws.OwnMillis.{Own, week_millis}
use Rattle.since_launch.specs.laws.Refusals.{OneNotFinite}
use Rattle.utc_scales.specs.round_trip.Ranges.{HalfDaySplit}
use Rattle.utc_scales.specs.round_trip.Recorders.{OneInstant, Agree}
use Rattle.stamps.specs.Listing.{text_at, refused_in}
use Rattle.stamps.specs.listing_laws.NotFinite.{NotFinite, not_finite_in}
use Rattle.runs.specs.Run.{stamp_answer, converted_run}
use Rattle.runs.specs.laws.Done.{StampDone}
use Rattle.runs.specs.laws.NotFiniteStamps.{StampNotFinite, number_of_not_finite, not_zero_in}
use Rattle.ticks.specs.Ticks.{passes_of}
use Rattle.ticks.specs.laws.Readings.{ReadingsMeaning, IsPlaced}
use Rattle.ticks.specs.laws.Slopes.{SlopeAtMost, TimeBetween, NearExact, ReadingsNear}
use Rattle.ticks.specs.judging.Refusing.{number_at}
use Rattle.line_up.specs.LineUp.{lined_up, line_refusal, least_room}
use Rattle.line_up.specs.laws.Claims.{Lined}

pub record Recorders (rows : List Row) : Type 0 where
  -- one instant, stamped by GPS, TAI and UTC to e ps, comes out in TAI pairwise within 10 + e, 77 + e and 87 + e ps
  pub one_instant : (e : ℕ) (g t : JulianDate) {u : JulianDate} → Practical g → HalfDaySplit u → OneInstant rows e g t u → Agree rows e g t u
  -- a stamp of a block that is not finite, by its bits, is refused, and the count holds them all
  pub block_refuses : (s : List ℕ) (n i : ℕ) → NotFinite s n i → text_at rows s n i ≡ refusal 6
  pub block_counts : (s : List ℕ) (n k : ℕ) → not_finite_in s n k ≤ refused_in rows s n k

-- a run from one scale to another, where the call is not refused: each stamp at its place as the single calls have it, every one that is not finite by its
-- number, and the answer is how many numbers are not 0
pub record ConvertedRun (rows : List Row) (from to : ℕ) (js ks out1 out2 numbers : List ℕ) : Type 0 where
  pub each : (i : ℕ) → i < length js / 8 → StampDone (stamp_answer rows from to js ks i) i out1 out2
      (converted_run (answer rows) from to js ks out1 out2 numbers)
  pub not_finite : (i : ℕ) → i < length js / 8 → StampNotFinite js ks i
      → get_or (converted_run (answer rows) from to js ks out1 out2 numbers).numbers i 0 ≡ number_of_not_finite from to
  pub count : (converted_run (answer rows) from to js ks out1 out2 numbers).answer
      ≡ answer (not_zero_in (length js / 8) (converted_run (answer rows) from to js ks out1 out2 numbers).numbers)

-- the line of three runs: each stamp that is not refused or left out exactly once, rising by exact TAI, ties by recorder and index; the fewest are left out
abbrev pub Line : List ℕ → List ℕ → List ℕ → ℕ → ℕ → List ℕ → ℕ → ℕ → Type 0
Line js ks ns first second out tails ranks = line_refusal (length js) (length ks) (length ns) first second (least_room (length out) tails ranks) ≡ 0
    → Lined js ks ns first second out (lined_up js ks ns first second out tails ranks)

-- the places of a run of readings between marker passes, for every call
pub record Places (ps ls ms ns before : List ℕ) (r : Result ℕ Refusal) (ns' after : List ℕ) : Type 0 where
  -- a number for each reading, 25 exactly outside the passes; its place on the line between them: exact at a pass, never backwards, less than 1 mm below; the
  -- answer is how many numbers are not 0; 14, 12, 11, 23, 24 in this order; what lies behind stays
  pub call : ReadingsMeaning ps ls ms ns before r ns' after
  -- over both steps, by passes nowhere steeper than rise / run mm a ms: a reading whose millisecond is within b ms of its exact time is placed at most b * rise
  -- / run above the exact line at that time, and less than 1 mm more below
  pub over_both : (n : ℕ) → r ≡ Ok n → (rise run : ℕ) → SlopeAtMost (passes_of ps ls) rise run → ReadingsNear ps ls ms ns' after rise run

-- whole milliseconds from the launch to a stamp of the same uniform scale
pub record SinceLaunch : Type 0 where
  -- on the grid the nearest, halves up, and 18 exactly where it is not 0 to 2^40 - 1
  pub nearest : (from to : JulianDate) (a : GridDate from) (b : GridDate to)
      → MillisDecided (plus_z (sum_of b) + minus_z (sum_of a)) (minus_z (sum_of b) + plus_z (sum_of a)) (millis_from_to from to)
  -- and of any dates with parts under 2^52 within half a millisecond and 96 ps of the exact ones
  pub near : (from to : JulianDate) (P N P' N' : ℕ) → SmallParts from → SmallParts to → Worth from P N L → Worth to P' N' L → (r : ℕ)
      → millis_from_to from to ≡ answer r → NearMillis P N P' N' r
  -- two dates made of GPS weeks and milliseconds give the difference of their milliseconds, and so do their TAI
  pub own : (week ms week' ms' : ℕ) (d d' : JulianDate) → week_date week ms ≡ answer d → week_date week' ms' ≡ answer d'
      → Own (week_millis week ms) (week_millis week' ms') (millis_from_to d d')
  pub own_tai : (week ms week' ms' : ℕ) (d d' t t' : JulianDate) → week_date week ms ≡ answer d → week_date week' ms' ≡ answer d'
      → answer_of gps-tai d ≡ answer t → answer_of gps-tai d' ≡ answer t' → Own (week_millis week ms) (week_millis week' ms') (millis_from_to t t')
  -- a part that is not finite, by its bits, is 9, whatever the rest
  pub not_finite : (a b c d : ℕ) → OneNotFinite a b c d
      → millis_from_to (julian (of_bits binary64 a) (of_bits binary64 b)) (julian (of_bits binary64 c) (of_bits binary64 d)) ≡ refusal 9

-- From stamp to place: a reading whose stamp is worth (P' - N') / L days, from a launch of (P - N) / L, at exact time a / d ms between pass j and the next, is
-- placed at most (1/2 ms and 96 ps) * rise / run above the exact line at that time, and less than 1 mm more below.
abbrev pub launch_time : ℕ → ℕ → ℕ → ℕ → ℕ
launch_time P N P' N' = 2 ^ 43 * (86400000 * (P' + N)) - 2 ^ 43 * (86400000 * (N' + P))

abbrev pub StampPlaced : Type 0
StampPlaced = (ps ls ms ns before ns' after : List ℕ) (r : Result ℕ Refusal) → Places ps ls ms ns before r ns' after → (n : ℕ) → r ≡ Ok n
    → (rise run : ℕ) → SlopeAtMost (passes_of ps ls) rise run → (i : ℕ) → IsPlaced ms ns' i → (from to : JulianDate) (P N P' N' : ℕ)
    → SmallParts from → SmallParts to → Worth from P N L → Worth to P' N' L → millis_from_to from to ≡ answer (number_at ms i) → N' + P ≤ P' + N
    → (j : ℕ) → TimeBetween (passes_of ps ls) (launch_time P N P' N') (2 ^ 43 * L) j
    → NearExact (passes_of ps ls) rise run (launch_time P N P' N') (2 ^ 43 * L) ((2 ^ 42 + 10 * 84375) * L) j (number_at after i)
