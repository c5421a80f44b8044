-- What the functions below the calls ask and ensure, by where the three runs end. Assumes nothing.
use Rattle.std.specs.Prelude.{◌≡◌, ℕ, ◌+◌, ◌-◌, ◌<◌, ◌≤◌, Bool, not, ◌||◌, List, ◌++◌, length, ◌==◌}
use Rattle.leap_table.specs.rows.Table.{Row}
use Rattle.leap_table.specs.rows.Announced.{least}
use Rattle.utc.specs.text.Ascii.{ascii_bytes}
use Rattle.line_listing.specs.declared.head.RunEnd.{RunEnd}
use Rattle.line_listing.specs.declared.summary.Seen.{Seen}
use Rattle.line_listing.specs.declared.summary.Ends.{Ends}
use Rattle.line_listing.specs.declared.summary.Runs.{Runs}
use Rattle.line_listing.specs.summary.Seen.{seen_in, ends_of}
use Rattle.line_listing.specs.summary.Known.{known_until}
use Rattle.line_listing.specs.summary.Look.{is_empty, any_after, any_apart, bits}
use Rattle.line_listing.specs.summary.Summary.{run_told}

-- s are those of number k among n stamps
pub record SeenAll (k : ℕ) (ns : List ℕ) (from n : ℕ) (s : Seen) : Type 0 where
  pub seen : s ≡ seen_in k ns from n
  pub few : s.many ≤ n
  pub low : s.first ≤ n
  pub high : s.last ≤ n

-- the runs stand one behind the other
pub record InRuns (r : Runs) : Type 0 where
  pub low : r.end1 ≤ r.end2
  pub high : r.end2 ≤ r.end3
  pub fits : r.end3 < 18446744073709551616

-- the ends of the runs of n stamps
pub record RunsOf (first second n : ℕ) (r : Runs) : Type 0 where
  pub end_1 : r.end1 ≡ least first n
  pub end_2 : r.end2 ≡ least first n + least second (n - least first n)
  pub end_3 : r.end3 ≡ n
  pub inside : InRuns r

-- a test of the ends of the three runs
abbrev pub of_ends : (Ends → Ends → Ends → Bool) → List ℕ → List ℕ → List ℕ → Runs → Bool
of_ends test js ks ns r = test (ends_of js ks ns 0 r.end1) (ends_of js ks ns r.end1 (r.end2 - r.end1)) (ends_of js ks ns r.end2 (r.end3 - r.end2))

abbrev pub left_out_of : List ℕ → Bool
left_out_of ns = not ((seen_in 17 ns 0 (length ns)).many == 0)

abbrev pub look_by : List Row → ℕ → RunEnd → RunEnd → RunEnd → List ℕ → List ℕ → List ℕ → Runs → ℕ
look_by rows known gps tai utc js ks ns r =
    bits (left_out_of ns) (is_empty gps r.end1 || (is_empty tai (r.end2 - r.end1) || is_empty utc (r.end3 - r.end2)))
    (of_ends (any_after rows (known_until rows known)) js ks ns r) (of_ends (any_apart rows) js ks ns r)

abbrev pub runs_by : List Row → RunEnd → RunEnd → RunEnd → List ℕ → List ℕ → List ℕ → Runs → List ℕ
runs_by rows gps tai utc js ks ns r =
    (run_told rows (ascii_bytes "gps ") gps js ks ns 0 r.end1 ++ run_told rows (ascii_bytes "tai ") tai js ks ns r.end1 (r.end2 - r.end1))
    ++ run_told rows (ascii_bytes "utc ") utc js ks ns r.end2 (r.end3 - r.end2)
