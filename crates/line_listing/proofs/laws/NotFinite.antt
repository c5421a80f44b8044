-- A STAMP THAT IS NOT FINITE, by its bits in the bytes of its run, is told as `refused 9`, or `refused 6` where its run is in UTC, by numbers and with
-- sentences, and never as a text: whatever the order, the table by which the listing is made, and the other runs are. Assumes nothing.
use Rattle.std.proofs.Common.{◌≡◌, ℕ, zero, suc, ◌+◌, ◌*◌, ◌/◌, ◌%◌, ◌<◌, ◌≤◌, Bool, true, false, cond, eqb, ltb, List, [], ◌∷◌, ◌++◌, length, get_or, take}
use Rattle.std.proofs.Common.{drop, replicate, sym, refl, ap, ◌∙◌, arith, length-append, get_or-append-add, ltb-false, ltb-true, eq-eqb, le-leb}
use lib.ListN.{length-replicate, get_or-append}
use lib.Seq.{slice, length-slice}
use Rattle.refusals.specs.Outcome.{Outcome, answer, refusal}
use Rattle.constants.specs.scale_numbers.Scales.{UTC, TAI, GPS}
use Rattle.numerals.specs.little_endian.LittleEndian.{u32_at}
use Rattle.julian.specs.declared.JulianDate.{JulianDate}
use Rattle.julian.specs.stamp_lists.Stamps.{stamp_of}
use Rattle.leap_table.specs.rows.Table.{Row}
use Rattle.stamps.proofs.Blocks.{block-accepted}
use Rattle.runs.specs.by_formula.Run.{run_written}
use Rattle.runs.specs.ways.Ways.{is_run_scale}
use Rattle.runs.specs.Run.{stamp_answer, run_refusal, run_by, converted_run}
use Rattle.runs.specs.laws.NotFiniteStamps.{StampNotFinite, number_of_not_finite}
use Rattle.runs.proofs.by_formula.Puts.{numbers-length}
use Rattle.runs.proofs.laws.Theorems.{not_finite_stamp_numbered}
use Rattle.line_up.specs.LineUp.{LinedUp}
use Rattle.line_listing.specs.taken.Run.{block_length, first_block, with_block, blocks_in, run_blocks, stamps_of, first_parts, second_parts, taken_run}
use Rattle.line_listing.specs.order.Order.{lines_in_order}
use Rattle.line_listing.specs.lines.StampLine.{Stamps, date_of_place, number_of_place, stamp_told}
use Rattle.line_listing.specs.listing.Listing.{NamedRun, bytes_of_named, run_taken, joined_runs, all_taken, numbered_by}
use Rattle.line_listing.specs.laws.Places.{AllListed}
use Rattle.line_listing.specs.laws.NotFiniteTold.{six_told, nine_told}
use Rattle.line_listing.proofs.laws.Lines.{six-told, nine-told}
use Rattle.line_listing.proofs.laws.Theorems.{answered-order, listed-order}

-- ---- eight bytes of each part for each stamp of a run's blocks
take_less : (k : ℕ) (l : List ℕ) → length (take k l) ≤ length l
take_less zero l = omega arith
take_less (suc k) [] = omega arith
take_less (suc k) (x ∷ xs) = omega (arith, take_less k xs)

abbrev Long : List ℕ → List ℕ → Type 0
Long ns s = (length (first_parts ns s) ≡ 8 * stamps_of ns) × (length (second_parts ns s) ≡ 8 * stamps_of ns)

blocks_long : (most : ℕ) (s : List ℕ) → Long (blocks_in most s).sizes s
unfolding blocks_in with_block first_parts second_parts stamps_of first_block
blocks_long zero s = (refl, refl)
blocks_long (suc most) s = by (eqb (length s) 0) (first_block s) refl (λ n. blocks_long most (drop (block_length n) s))
  where
    by : (b : Bool) (o : Outcome ℕ) → first_block s ≡ o → ((n : ℕ) → Long (blocks_in most (drop (block_length n) s)).sizes (drop (block_length n) s))
        → Long (cond b (record { sizes = []; refused = 0 }) (with_block o (λ (n : ℕ). blocks_in most (drop (block_length n) s)))).sizes s
    by true o e rest = (refl, refl)
    by false (refusal k) e rest = (refl, refl)
    by false (answer n) e rest =
        let a = block-accepted (take (block_length (u32_at s 0)) s) n (sym e) in
        let room : 8 + 16 * n ≤ length s = omega (arith, a.1, take_less (block_length (u32_at s 0)) s) in
        let ns = (blocks_in most (drop (block_length n) s)).sizes in (
          omega (
            arith,
            length-append (slice 8 (8 + 8 * n) s) (first_parts ns (drop (block_length n) s)),
            length-slice 8 (8 + 8 * n) s (omega (arith, room)),
            (rest n).0,
          ),
          omega (
            arith,
            length-append (slice (8 + 8 * n) (8 + 16 * n) s) (second_parts ns (drop (block_length n) s)),
            length-slice (8 + 8 * n) (8 + 16 * n) s (omega (arith, room)),
            (rest n).1,
          ),
        )

run_long : (s : List ℕ) → Long (run_blocks s).sizes s
unfolding run_blocks
run_long s = blocks_long (length s) s

known-gps : is_run_scale 4 ≡ true
unfolding is_run_scale
known-gps = refl

known-tai : is_run_scale 1 ≡ true
unfolding is_run_scale
known-tai = refl

known-utc : is_run_scale 0 ≡ true
unfolding is_run_scale
known-utc = refl

-- ---- the numbers of a run that is taken
module _ (rows : List Row) (scale : ℕ) (known : is_run_scale scale ≡ true) (s : List ℕ) where
  abbrev ns : List ℕ
  ns = (run_blocks s).sizes

  passes : run_refusal scale TAI (length (first_parts ns s)) (length (second_parts ns s)) (length (first_parts ns s)) (length (second_parts ns s))
      (length (replicate {A = ℕ} (stamps_of ns) 0)) ≡ 0
  unfolding run_refusal
  passes =
      let n = stamps_of ns in
      let w : 8 * n % 8 ≡ 0 = omega arith in
      let q : 8 * n / 8 ≡ n = omega arith in
      rw (
        known,
        known-tai,
        (run_long s).0,
        (run_long s).1,
        length-replicate {A = ℕ} n 0,
        w,
        eq-eqb (8 * n) (8 * n) refl,
        le-leb (8 * n) (8 * n) (omega arith),
        q,
        le-leb n n (omega arith),
      ) refl

  numbers-long : length (taken_run rows scale ns s).numbers ≡ stamps_of ns
  unfolding taken_run run_by run_written
  numbers-long =
      let n = stamps_of ns in
      rw (eq-eqb _ 0 passes)
      (numbers-length (stamp_answer rows scale TAI (first_parts ns s) (second_parts ns s)) (length (first_parts ns s) / 8) (replicate {A = ℕ} n 0) ∙
      length-replicate {A = ℕ} n 0)

  pub taken-number : (i : ℕ) → i < stamps_of ns → StampNotFinite (first_parts ns s) (second_parts ns s) i
      → get_or (taken_run rows scale ns s).numbers i 0 ≡ number_of_not_finite scale TAI
  unfolding taken_run converted_run
  taken-number i h d =
      not_finite_stamp_numbered rows scale TAI (first_parts ns s) (second_parts ns s) (first_parts ns s) (second_parts ns s)
      (replicate {A = ℕ} (stamps_of ns) 0)
      passes i
      (omega (arith, (run_long s).0)) d

-- ---- a number that a stamp came with stays
module _ (all : Stamps) (out : List ℕ) (work1 work2 k : ℕ)
    (answers : (lines_in_order all.jd1s all.jd2s all.numbers all.first all.second out work1 work2).answer ≡ answer k) where
  abbrev l : LinedUp
  l = lines_in_order all.jd1s all.jd2s all.numbers all.first all.second out work1 work2

  listed : AllListed (stamp_of all.jd1s all.jd2s) all.numbers all.first all.second out l
  listed = listed-order all.jd1s all.jd2s all.numbers all.first all.second out work1 work2
      (answered-order all.jd1s all.jd2s all.numbers all.first all.second out work1 work2 k answers)

  pub number-stays : (p : ℕ) → p < length all.numbers → (get_or all.numbers p 0 ≡ 0 → ⊥) → get_or l.numbers p 0 ≡ get_or all.numbers p 0
  number-stays p h some = by (ltb p all.first) refl (ltb p (all.first + all.second)) refl
    where
      by : (a : Bool) → ltb p all.first ≡ a → (b : Bool) → ltb p (all.first + all.second) ≡ b → get_or l.numbers p 0 ≡ get_or all.numbers p 0
      by true e b f = (listed.right.first_run p (ltb-true p all.first e)).refused some
      by false e true f =
          (listed.right.second_run p (ltb-false p all.first e) (ltb-true p (all.first + all.second) f)).refused some
      by false e false f = (listed.right.third_run p (ltb-false p (all.first + all.second) f) h).refused some

-- ---- THE LINE
module _ (rows : List Row) (gps tai utc : NamedRun) (out : List ℕ) (work1 work2 k : ℕ) where
  abbrev all : Stamps
  all = all_taken rows gps tai utc

  abbrev up : LinedUp
  up = lines_in_order all.jd1s all.jd2s all.numbers all.first all.second out work1 work2

  abbrev sizes : NamedRun → List ℕ
  sizes r = (run_blocks (bytes_of_named r)).sizes

  -- stamp i of a run, by its bits
  abbrev Bad : NamedRun → ℕ → Type 0
  Bad r i = (i < stamps_of (sizes r)) × StampNotFinite (first_parts (sizes r) (bytes_of_named r)) (second_parts (sizes r) (bytes_of_named r)) i

  -- what is told of the stamp at place p, by numbers and with sentences, by whatever table
  abbrev Says : ℕ → (Bool → JulianDate → List ℕ) → Type 0
  Says p told = (sentences : Bool) (shown : List Row)
      → stamp_told sentences shown (date_of_place (numbered_by all up.numbers) p) (number_of_place (numbered_by all up.numbers) p)
      ≡ told sentences (date_of_place (numbered_by all up.numbers) p)

  of_nine : up.answer ≡ answer k → (p : ℕ) → p < length all.numbers → get_or all.numbers p 0 ≡ 9 → Says p nine_told
  of_nine e p h n s shown =
      nine-told s shown (numbered_by all up.numbers) p
      (number-stays all out work1 work2 k e p h (λ z. let w : ⊥ = omega (arith, n, z) in w) ∙ n)

  of_six : up.answer ≡ answer k → (p : ℕ) → p < length all.numbers → get_or all.numbers p 0 ≡ 6 → Says p six_told
  of_six e p h n s shown =
      six-told s shown (numbered_by all up.numbers) p
      (number-stays all out work1 work2 k e p h (λ z. let w : ⊥ = omega (arith, n, z) in w) ∙ n)

  abbrev g : List ℕ
  g = (run_taken rows GPS gps).numbers

  abbrev t : List ℕ
  t = (run_taken rows TAI tai).numbers

  abbrev u : List ℕ
  u = (run_taken rows UTC utc).numbers

  numbers_are : (all.numbers ≡ g ++ (t ++ u)) × (all.first ≡ length g) × (all.second ≡ length t)
  unfolding all_taken joined_runs
  numbers_are = (refl, refl, refl)

  gps-long : length g ≡ stamps_of (sizes gps)
  unfolding run_taken
  gps-long = numbers-long rows GPS known-gps (bytes_of_named gps)

  tai-long : length t ≡ stamps_of (sizes tai)
  unfolding run_taken
  tai-long = numbers-long rows TAI known-tai (bytes_of_named tai)

  utc-long : length u ≡ stamps_of (sizes utc)
  unfolding run_taken
  utc-long = numbers-long rows UTC known-utc (bytes_of_named utc)

  all-long : length all.numbers ≡ length g + (length t + length u)
  all-long = ap length numbers_are.0 ∙ length-append g (t ++ u) ∙ ap (λ (n : ℕ). length g + n) (length-append t u)

  -- of the GPS run
  pub gps_not_finite : up.answer ≡ answer k → (i : ℕ) → Bad gps i → Says i nine_told
  unfolding run_taken number_of_not_finite
  gps_not_finite e i b =
      of_nine e i (omega (arith, b.0, all-long, gps-long))
      (ap (λ (l : List ℕ). get_or l i 0) numbers_are.0 ∙ get_or-append g (t ++ u) 0 i (omega (arith, b.0, gps-long))
      ∙ taken-number rows GPS known-gps (bytes_of_named gps) i b.0 b.1)

  -- of the TAI run, behind it
  pub tai_not_finite : up.answer ≡ answer k → (i : ℕ) → Bad tai i → Says (all.first + i) nine_told
  unfolding run_taken number_of_not_finite
  tai_not_finite e i b =
      of_nine e (all.first + i) (omega (arith, b.0, all-long, tai-long, numbers_are.1))
      ((λ j. get_or (numbers_are.0 j) (numbers_are.1 j + i) 0) ∙ get_or-append-add g (t ++ u) i 0 ∙ get_or-append t u 0 i (omega (arith, b.0, tai-long))
      ∙ taken-number rows TAI known-tai (bytes_of_named tai) i b.0 b.1)

  -- of the UTC run, behind both
  pub utc_not_finite : up.answer ≡ answer k → (i : ℕ) → Bad utc i → Says (all.first + (all.second + i)) six_told
  unfolding run_taken number_of_not_finite
  utc_not_finite e i b =
      of_six e (all.first + (all.second + i)) (omega (arith, b.0, all-long, utc-long, numbers_are.1, numbers_are.2))
      ((λ j. get_or (numbers_are.0 j) (numbers_are.1 j + (numbers_are.2 j + i)) 0) ∙ get_or-append-add g (t ++ u) (length t + i) 0
      ∙ get_or-append-add t u i 0 ∙ taken-number rows UTC known-utc (bytes_of_named utc) i b.0 b.1)
