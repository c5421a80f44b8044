-- THREE RECORDERS, THEIR RUNS, THEIR LINE AND THEIR PLACES, for every table that is taken. Assumes nothing.
use mathlib.Core.Path.{◌≡◌, ap, refl, sym, ◌∙◌}
use mathlib.Core.Bool.{Bool, false, true}
use mathlib.Core.List.{List}
use Prim.Native.Nat.{ℕ, ◌+◌, ◌-◌, ◌*◌, ◌^◌, ◌≤◌, ◌<◌}
use native.Mathlib.Omega.{arith}
use native.Mathlib.Nat.{mul-add, mul_assoc, mul_comm, mul-le-mul_left, mul-le-mul_right, mul-pos}
use lib.Dec.{leb, lit<}
use borrow.Author.Tests.{leb-false, leb-true}
use Rattle.std.specs.Prelude.{Result, Ok}
use Rattle.refusals.specs.declared.Refusal.{Refusal}
use Rattle.refusals.specs.Outcome.{answer, outcome}
use Rattle.rounding.specs.Value.{L}
use Rattle.rounding.proofs.Value.{L-pos}
use Rattle.julian.specs.declared.JulianDate.{JulianDate}
use Rattle.leap_table.specs.declared.rows.AnnouncedRows.{AnnouncedRows}
use Rattle.leap_table.specs.rows.Table.{Row}
use Rattle.leap_table.specs.rows.Announced.{table_of}
use Rattle.utc_scales.proofs.round_trip.Recorders.{table-three-recorders}
use Rattle.stamps.proofs.listing_laws.Asked.{not_finite_and_count}
use Rattle.runs.proofs.laws.Theorems.{run-converted}
use Rattle.line_up.proofs.laws.Theorems.{lined-up}
use Rattle.line_listing.proofs.laws.Right.{listing-right}
use Rattle.since_launch.specs.laws.SinceLaunch.{CountedTo, OneInstantCounted, exact_millis, millis_off, millis_units}
use Rattle.since_launch.proofs.laws.OnGrid.{on-grid-nearest}
use Rattle.since_launch.proofs.laws.Refusing.{not_finite_is_9}
use Rattle.since_launch.proofs.laws.SinceLaunch.{at_most_one_apart, near-anywhere, own-milliseconds}
use Rattle.ticks.specs.judging.Refusing.{number_at}
use Rattle.ticks.specs.places.Places.{placed_run, places_call}
use Rattle.ticks.specs.Ticks.{passes_of}
use Rattle.ticks.specs.laws.Readings.{IsPlaced, ReadingsRight}
use Rattle.ticks.specs.laws.Slopes.{NearExact, NearTime, SlopeAtMost, TimeBetween}
use Rattle.ticks.proofs.laws.Readings.{readings_mean, readings_near}
use Rattle.promises.specs.Promises.{Places, Recorders, SinceLaunch}

pub recorders : (b : AnnouncedRows) (rows : List Row) → table_of b ≡ answer rows → Recorders rows
recorders b rows k = record {
  one_instant = λ e g t u. table-three-recorders b rows k e g t;
  block = not_finite_and_count rows;
  run = run-converted rows;
  line = lined-up;
  listing = λ sentences. listing-right sentences rows;
}

pub since-launch : (from to : JulianDate) (week ms week' ms' : ℕ) → SinceLaunch from to week ms week' ms'
since-launch from to week ms week' ms' = record {
  nearest = on-grid-nearest from to;
  near = near-anywhere from to;
  own = own-milliseconds from to week ms week' ms';
  not_finite = not_finite_is_9;
  one_apart = at_most_one_apart from to;
}

-- ---- from stamp to place: within half a millisecond and 96 ps is near in time
near-time : (D m r l A B e : ℕ) → D * (r * l + m * B) ≤ D * (m * A) + e → D * (m * A) ≤ D * (r * l + m * B) + e → B ≤ A
    → NearTime r (D * (m * A) - D * (m * B)) (D * l) e
near-time D m r l A B e over under h =
    let parted : D * (r * l + m * B) ≡ D * (r * l) + D * (m * B) = mul-add D (r * l) (m * B) in
    let turned : r * (D * l) ≡ D * (r * l) = sym (mul_assoc r D l) ∙ ap (λ (n : ℕ). n * l) (mul_comm r D) ∙ mul_assoc D r l in
    let low : D * (m * B) ≤ D * (m * A) = mul-le-mul_left D (mul-le-mul_left m h) in
    record { not_late = omega (arith, parted, turned, low, over, under); not_early = omega (arith, parted, turned, low, over, under) }

-- ---- one dent: a later reading's place is at most a millisecond's travel and 1 mm further
less_than_one : (a b run rise u v : ℕ) → b * run + rise * u < (a + 1) * run + rise * v → v ≤ u + 1 → b * run < (a + 1) * run + rise
less_than_one a b run rise u v h k =
    let more : rise * v ≤ rise * (u + 1) = mul-le-mul_left rise k in
    let parted : rise * (u + 1) ≡ rise * u + rise * 1 = mul-add rise u 1 in
    omega (arith, more, parted, h)

module _ (ps ls ms ns before ns' after : List ℕ) (r : Result ℕ Refusal) (call : places_call (outcome r) after ns' ≡ placed_run ps ls ms before ns) where
  pub stamp-placed : (n rise run i j : ℕ) → r ≡ Ok n → SlopeAtMost (passes_of ps ls) rise run → IsPlaced ms ns' i → (from to : JulianDate)
      (P N P' N' : ℕ) → CountedTo from to P N P' N' (number_at ms i) → N' + P ≤ P' + N
      → TimeBetween (passes_of ps ls) (exact_millis P N P' N') millis_units j
      → NearExact (passes_of ps ls) rise run (exact_millis P N P' N') millis_units millis_off j (number_at after i)
  stamp-placed n rise run i j e slope has from to P N P' N' c h between =
      let near = near-anywhere from to P N P' N' (number_at ms i) c in
      (readings_near ps ls ms ns before ns' after r call n e rise run slope).each i has (exact_millis P N P' N') millis_units millis_off j
      (mul-pos (lit< tt) L-pos) between
      (near-time (2 ^ 43) 86400000 (number_at ms i) L (P' + N) (N' + P) millis_off near.over near.under h)

  -- a place that is reached at most a millisecond later is less than a millisecond's travel and 1 mm further
  further : (n rise run i k : ℕ) → r ≡ Ok n → SlopeAtMost (passes_of ps ls) rise run → IsPlaced ms ns' i → IsPlaced ms ns' k
      → number_at ms k ≤ number_at ms i + 1 → number_at after k * run < (number_at after i + 1) * run + rise
  further n rise run i k w slope hi hk apart = go (leb (number_at ms i) (number_at ms k)) refl
    where
      go : (b : Bool) → leb (number_at ms i) (number_at ms k) ≡ b → number_at after k * run < (number_at after i + 1) * run + rise
      go true p =
          less_than_one (number_at after i) (number_at after k) run rise (number_at ms i) (number_at ms k)
          ((readings_near ps ls ms ns before ns' after r call n w rise run slope).two i k hi hk (leb-true (number_at ms i) (number_at ms k) p)) apart
      go false p =
          let back = ((readings_mean ps ls ms ns before ns' after r call).placed n w).1.in_order k i hk hi
          (omega (arith, leb-false (number_at ms i) (number_at ms k) p)) in
          let product : number_at after k * run ≤ number_at after i * run = mul-le-mul_right run back in
          let some = slope.some in
          omega (arith, product)

  pub one_dent : (n rise run i k e : ℕ) (from x y : JulianDate) → r ≡ Ok n → SlopeAtMost (passes_of ps ls) rise run → IsPlaced ms ns' i
      → IsPlaced ms ns' k → OneInstantCounted from x y e (number_at ms i) (number_at ms k)
      → (number_at ms i ≡ number_at ms k → number_at after i ≡ number_at after k) × (number_at after k * run < (number_at after i + 1) * run + rise)
      × (number_at after i * run < (number_at after k + 1) * run + rise)
  one_dent n rise run i k e from x y w slope hi hk c =
      let close = at_most_one_apart from x y e (number_at ms i) (number_at ms k) c in
      (alike, further n rise run i k w slope hi hk close.1, further n rise run k i w slope hk hi close.0)
    where
      placed : ReadingsRight ps ls ms ns before ns' after
      placed = ((readings_mean ps ls ms ns before ns' after r call).placed n w).1

      alike : number_at ms i ≡ number_at ms k → number_at after i ≡ number_at after k
      alike s =
          let one = placed.in_order i k hi hk (omega (arith, s)) in
          let other = placed.in_order k i hk hi (omega (arith, s)) in
          omega arith

  pub places : Places ps ls ms ns before r ns' after
  places = record {
    call = readings_mean ps ls ms ns before ns' after r call;
    over_both = readings_near ps ls ms ns before ns' after r call;
    stamp = stamp-placed;
    one_dent = one_dent;
  }
