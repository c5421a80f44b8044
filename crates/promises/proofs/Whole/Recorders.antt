-- THREE RECORDERS, THEIR RUNS, THEIR LINE AND THEIR PLACES, for every table that is taken. Assumes nothing.
use mathlib.Core.Path.{◌≡◌, sym, ap, ◌∙◌}
use mathlib.Core.List.{List}
use Prim.Native.Nat.{ℕ, ◌+◌, ◌-◌, ◌*◌, ◌^◌, ◌≤◌}
use native.Mathlib.Omega.{arith}
use native.Mathlib.Nat.{mul-add, mul_assoc, mul_comm, mul-le-mul_left, mul-pos}
use lib.Dec.{lit<}
use lib.ListN.{length}
use Rattle.std.specs.Prelude.{Result}
use Rattle.refusals.specs.declared.Refusal.{Refusal}
use Rattle.refusals.specs.Outcome.{answer, outcome}
use Rattle.rounding.specs.Value.{L}
use Rattle.rounding.proofs.Value.{L-pos}
use Rattle.ticks.specs.judging.Refusing.{number_at}
use Rattle.ticks.specs.laws.Slopes.{NearTime}
use Rattle.leap_table.specs.declared.rows.AnnouncedRows.{AnnouncedRows}
use Rattle.leap_table.specs.rows.Table.{Row}
use Rattle.leap_table.specs.rows.Announced.{table_of}
use Rattle.utc_scales.proofs.round_trip.Recorders.{table-three-recorders}
use Rattle.stamps.proofs.listing_laws.NotFinite.{not_finite_refused, not_finite_counted}
use Rattle.runs.specs.Run.{run_refusal}
use Rattle.runs.proofs.laws.Theorems as Runs
use Rattle.line_up.proofs.laws.Theorems as Lines
use Rattle.ticks.specs.places.Places.{places_call, placed_run}
use Rattle.ticks.proofs.laws.Readings.{readings_mean, readings_near}
use Rattle.since_launch.proofs.laws.OnGrid.{on-grid-nearest}
use Rattle.since_launch.proofs.laws.Anywhere.{anywhere_near}
use Rattle.since_launch.proofs.laws.Weeks.{own-millisecond}
use Rattle.since_launch.proofs.laws.WeeksTai.{own-millisecond-tai}
use Rattle.since_launch.proofs.laws.Refusing.{not_finite_is_9}
use Rattle.promises.specs.Recorders.{Recorders, ConvertedRun, Line, Places, SinceLaunch, launch_time, StampPlaced}

pub recorders : (t : AnnouncedRows) (rows : List Row) → table_of t ≡ answer rows → Recorders rows
recorders t rows e = record {
  one_instant = table-three-recorders t rows e;
  block_refuses = not_finite_refused rows;
  block_counts = not_finite_counted rows;
}

pub run : (rows : List Row) (from to : ℕ) (js ks out1 out2 numbers : List ℕ)
    → run_refusal from to (length js) (length ks) (length out1) (length out2) (length numbers) ≡ 0 → ConvertedRun rows from to js ks out1 out2 numbers
run rows from to js ks out1 out2 numbers z = record {
  each = Runs.each-stamp rows from to js ks out1 out2 numbers z;
  not_finite = Runs.not_finite_stamp_numbered rows from to js ks out1 out2 numbers z;
  count = Runs.count-is rows from to js ks out1 out2 numbers z;
}

pub line : (js ks ns : List ℕ) (first second : ℕ) (out : List ℕ) (tails ranks : ℕ) → Line js ks ns first second out tails ranks
line = Lines.lined-up

pub places : (ps ls ms ns before ns' after : List ℕ) (r : Result ℕ Refusal) → places_call (outcome r) after ns' ≡ placed_run ps ls ms before ns
    → Places ps ls ms ns before r ns' after
places ps ls ms ns before ns' after r e = record {
  call = readings_mean ps ls ms ns before ns' after r e;
  over_both = readings_near ps ls ms ns before ns' after r e;
}

pub since-launch : SinceLaunch
since-launch = record {
  nearest = on-grid-nearest;
  near = anywhere_near;
  own = own-millisecond;
  own_tai = own-millisecond-tai;
  not_finite = not_finite_is_9;
}

-- ---- from stamp to place: within half a millisecond and 96 ps is near in time
near-time : (D m r l A B e : ℕ) → D * (r * l + m * B) ≤ D * (m * A) + e → D * (m * A) ≤ D * (r * l + m * B) + e → B ≤ A
    → NearTime r (D * (m * A) - D * (m * B)) (D * l) e
near-time D m r l A B e over under h =
    let parted : D * (r * l + m * B) ≡ D * (r * l) + D * (m * B) = mul-add D (r * l) (m * B) in
    let turned : r * (D * l) ≡ D * (r * l) = sym (mul_assoc r D l) ∙ ap (λ (n : ℕ). n * l) (mul_comm r D) ∙ mul_assoc D r l in
    let low : D * (m * B) ≤ D * (m * A) = mul-le-mul_left D (mul-le-mul_left m h) in
    record { not_late = omega (arith, parted, turned, low, over, under); not_early = omega (arith, parted, turned, low, over, under) }

pub stamp-placed : StampPlaced
stamp-placed ps ls ms ns before ns' after r placed n e rise run slope i has from to P N P' N' s s' w w' given h j between =
    let near = anywhere_near from to P N P' N' s s' w w' (number_at ms i) given in
    (placed.over_both n e rise run slope).each i has (launch_time P N P' N') (2 ^ 43 * L) ((2 ^ 42 + 10 * 84375) * L) j (mul-pos (lit< tt) L-pos) between
    (near-time (2 ^ 43) 86400000 (number_at ms i) L (P' + N) (N' + P) ((2 ^ 42 + 10 * 84375) * L) near.over near.under h)
