-- WHEN A LISTING IS MADE: always where the three runs have at most 4,294,967,295 stamps, and else it is refused by 13. Assumes nothing.
use Rattle.std.proofs.Common.{◌≡◌, ℕ, ◌+◌, ◌*◌, ◌<◌, ◌≤◌, Bool, List, ◌++◌, length, replicate, ap, ◌∙◌, arith, length-append}
use lib.ListN.{length-replicate}
use Rattle.refusals.specs.Outcome.{refusal, onward}
use Rattle.constants.specs.scale_numbers.Scales.{UTC, TAI, GPS}
use Rattle.leap_table.specs.rows.Table.{Row}
use Rattle.runs.specs.by_formula.Run.{RunCall}
use Rattle.line_up.specs.LineUp.{least_room, line_refusal, LinedUp}
use Rattle.line_up.specs.laws.Due.{PartsEach, RoomEach, LineDecision, broken_parts, other_sizes, runs_past, past_four_bytes, no_room, lined}
use Rattle.line_up.proofs.laws.Due.{line-decided}
use Rattle.line_listing.specs.taken.Run.{run_blocks, stamps_of}
use Rattle.line_listing.specs.lines.StampLine.{Stamps}
use Rattle.line_listing.specs.listing.Listing.{NamedRun, bytes_of_named, run_taken, joined_runs, all_taken, stamps_in_order}
use Rattle.line_listing.specs.listing.Listing.{listing_by, line_listing, run_end_of}
use Rattle.line_listing.specs.laws.ListingMade.{ListingMade}
use Rattle.line_listing.proofs.laws.Theorems.{refused-order, listed-order}
use Rattle.line_listing.proofs.laws.NotFiniteCounted.{known-gps, known-tai, known-utc, first-long, second-long, numbers-long}
use Rattle.line_listing.proofs.laws.LinesOfListing.{listing-bytes}

module _ (rows : List Row) (gps tai utc : NamedRun) where
  abbrev all : Stamps
  all = all_taken rows gps tai utc

  abbrev g : RunCall
  g = run_taken rows GPS gps

  abbrev t : RunCall
  t = run_taken rows TAI tai

  abbrev u : RunCall
  u = run_taken rows UTC utc

  abbrev blank : List ℕ
  blank = replicate (4 * length all.numbers) 0

  three : (a b c : List ℕ) → length (a ++ (b ++ c)) ≡ length a + (length b + length c)
  three a b c = length-append a (b ++ c) ∙ ap (λ (n : ℕ). length a + n) (length-append b c)

  -- THE STAMPS are those of the blocks of the three runs
  pub stamps-in-all : length (all_taken rows gps tai utc).numbers
      ≡ stamps_of (run_blocks (bytes_of_named gps)).sizes + (stamps_of (run_blocks (bytes_of_named tai)).sizes + stamps_of
      (run_blocks (bytes_of_named utc)).sizes)
  unfolding all_taken joined_runs
  stamps-in-all = three g.numbers t.numbers u.numbers
      ∙ (λ i. numbers-long rows GPS known-gps gps i + (numbers-long rows TAI known-tai tai i + numbers-long rows UTC known-utc utc i))

  parts-each : PartsEach (length all.jd1s) (length all.jd2s) (length all.numbers)
  unfolding all_taken joined_runs
  parts-each = record {
    first = omega (
      arith,
      three g.out1 t.out1 u.out1,
      three g.numbers t.numbers u.numbers,
      first-long rows GPS known-gps gps,
      first-long rows TAI known-tai tai,
      first-long rows UTC known-utc utc,
      numbers-long rows GPS known-gps gps,
      numbers-long rows TAI known-tai tai,
      numbers-long rows UTC known-utc utc,
    );
    second = omega (
      arith,
      three g.out2 t.out2 u.out2,
      three g.numbers t.numbers u.numbers,
      second-long rows GPS known-gps gps,
      second-long rows TAI known-tai tai,
      second-long rows UTC known-utc utc,
      numbers-long rows GPS known-gps gps,
      numbers-long rows TAI known-tai tai,
      numbers-long rows UTC known-utc utc,
    );
  }

  runs-in : all.first + all.second ≤ length all.numbers
  unfolding all_taken joined_runs
  runs-in = omega (arith, three g.numbers t.numbers u.numbers)

  room : RoomEach (length all.numbers) (length blank) (4 * length all.numbers) (4 * length all.numbers)
  room = record { places = omega (arith, length-replicate {A = ℕ} (4 * length all.numbers) 0); work1 = omega arith; work2 = omega arith }

  -- MADE
  pub listing-made : (s : Bool) → length (all_taken rows gps tai utc).numbers ≤ 4294967295 → ListingMade s rows gps tai utc
  unfolding stamps_in_order
  listing-made s few =
      let listed = listed-order all.jd1s all.jd2s all.numbers all.first all.second blank (4 * length all.numbers)
      (4 * length all.numbers) (record { parts = parts-each; runs = runs-in; most = few; room = room }) in
      record {
        listed = listed;
        bytes = listing-bytes s rows gps tai utc blank (4 * length all.numbers) (4 * length all.numbers)
            (length-replicate {A = ℕ} (4 * length all.numbers) 0) (length listed.line) listed.answers listed;
      }

  -- TOO MANY
  abbrev number : ℕ
  number = line_refusal (length all.jd1s) (length all.jd2s) (length all.numbers) all.first all.second
      (least_room (length blank) (4 * length all.numbers) (4 * length all.numbers))

  thirteen : 4294967295 < length all.numbers → number ≡ 13
  thirteen many = go (line-decided (length all.jd1s) (length all.jd2s) (length all.numbers) all.first all.second (length blank)
      (4 * length all.numbers) (4 * length all.numbers))
    where
      go : LineDecision (length all.jd1s) (length all.jd2s) (length all.numbers) all.first all.second (length blank)
          (4 * length all.numbers) (4 * length all.numbers) number → number ≡ 13
      go (broken_parts h e) = absurd (h (record { first = omega (arith, parts-each.first); second = omega (arith, parts-each.second) }))
      go (other_sizes w h e) = absurd (h parts-each)
      go (runs_past p h e) = let w : ⊥ = omega (arith, h, runs-in) in absurd w
      go (past_four_bytes p r h e) = e
      go (no_room p r h w e) = let z : ⊥ = omega (arith, h, many) in absurd z
      go (lined p r h w e) = let z : ⊥ = omega (arith, h, many) in absurd z

  pub listing-too-many : (s : Bool) → 4294967295 < length (all_taken rows gps tai utc).numbers → line_listing s rows gps tai utc ≡ refusal 13
  unfolding line_listing listing_by onward stamps_in_order
  listing-too-many s many =
      ap (λ (l : LinedUp). listing_by s rows (run_end_of gps) (run_end_of tai) (run_end_of utc) all l)
      (refused-order all.jd1s all.jd2s all.numbers all.first all.second blank (4 * length all.numbers) (4 * length all.numbers) 12
      (thirteen many))
