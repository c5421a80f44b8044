-- WHAT IS COUNTED AS NOT FINITE: a stamp is of kind 1 exactly where its number is neither 0 nor 17 and a part of it, at its own place, is not finite by its
-- bits; and every stamp that is not finite by the bytes of its run is counted so, for its parts stay as they were recorded. Assumes nothing.
use Rattle.std.proofs.Common.{◌≡◌, ℕ, ◌+◌, ◌*◌, ◌<◌, ◌≤◌, Bool, true, false, cond, ◌||◌, eqb, ◌⊎◌, List, ◌++◌, length, get_or, replicate, sym, refl, ap, ◌∙◌}
use Rattle.std.proofs.Common.{inl, inr, arith, length-append, get_or-append-add, eq-eqb, ne_eqb, eqb-true}
use lib.ListN.{length-replicate, get_or-append}
use borrow.Author.Tests.{eqb-false}
use Rattle.refusals.specs.Outcome.{answer, refusal}
use Rattle.constants.specs.scale_numbers.Scales.{UTC, TAI, GPS}
use Rattle.numerals.specs.little_endian.LittleEndian.{u64_at}
use Rattle.floats.specs.ExponentField.{exponent_field}
use Rattle.leap_table.specs.rows.Table.{Row}
use Rattle.runs.specs.by_formula.Run.{RunCall, run_written, first_part, second_part}
use Rattle.runs.specs.ways.Ways.{is_run_scale}
use Rattle.runs.specs.Run.{stamp_answer, run_refusal, converted_run}
use Rattle.runs.specs.laws.Done.{StampDone}
use Rattle.runs.specs.laws.NotFiniteStamps.{StampNotFinite, number_of_not_finite}
use Rattle.runs.proofs.by_formula.Puts.{parts-length, numbers-length}
use Rattle.runs.proofs.laws.Theorems.{each-stamp, not_finite_stamp_refused}
use Rattle.line_up.specs.LineUp.{LinedUp}
use Rattle.line_listing.specs.taken.Run.{run_blocks, stamps_of, first_parts, second_parts, taken_run}
use Rattle.line_listing.specs.order.Order.{lines_in_order}
use Rattle.line_listing.specs.head.Counts.{not_finite, kind_at}
use Rattle.line_listing.specs.lines.StampLine.{Stamps}
use Rattle.line_listing.specs.listing.Listing.{NamedRun, bytes_of_named, run_taken, joined_runs, all_taken}
use Rattle.line_listing.specs.laws.NotFiniteCounted.{NotFiniteIn, NotFiniteNumbered, EachNotFiniteCounted}
use Rattle.line_listing.proofs.taken.Blocks.{blocks_fit}
use Rattle.line_listing.proofs.taken.Steps.{first-length, second-length, taken-written, taken-passes}
use Rattle.line_listing.proofs.lines.Pages.{eight_same}
use Rattle.line_listing.proofs.laws.NotFinite.{number-stays}

-- ---- by its number and its bits
either : (x y : ℕ) → (x ≡ 2047) ⊎ (y ≡ 2047) → eqb x 2047 || eqb y 2047 ≡ true
either x y (inl e) = ap (λ (b : Bool). b || eqb y 2047) (eq-eqb x 2047 e)
either x y (inr e) = ap (λ (b : Bool). eqb x 2047 || b) (eq-eqb y 2047 e) ∙ or_true (eqb x 2047)
  where
    or_true : (b : Bool) → b || true ≡ true
    or_true true = refl
    or_true false = refl

-- A STAMP WITH SUCH A NUMBER AND SUCH BITS is counted as not finite
pub not_finite_kind : (js ks ns : List ℕ) (p : ℕ) → NotFiniteNumbered js ks ns p → kind_at js ks ns p ≡ 1
unfolding kind_at not_finite
not_finite_kind js ks ns p c = rw (
  ne_eqb (get_or ns p 0) 0 c.not_ordered,
  ne_eqb (get_or ns p 0) 17 c.not_left_out,
  either (exponent_field (u64_at js (8 * p))) (exponent_field (u64_at ks (8 * p))) c.bits,
)

-- AND NO OTHER is
pub kind_not_finite : (js ks ns : List ℕ) (p : ℕ) → kind_at js ks ns p ≡ 1 → NotFiniteNumbered js ks ns p
unfolding kind_at not_finite
kind_not_finite js ks ns p e =
    by (eqb n 0) refl (eqb n 17) refl (eqb x 2047) refl (eqb y 2047) refl e
  where
    n : ℕ
    n = get_or ns p 0

    x : ℕ
    x = exponent_field (u64_at js (8 * p))

    y : ℕ
    y = exponent_field (u64_at ks (8 * p))

    other : (k : ℕ) → (k ≡ 1 → ⊥) → k ≡ 1 → NotFiniteNumbered js ks ns p
    other k h q = absurd (h q)

    by : (a : Bool) → eqb n 0 ≡ a → (b : Bool) → eqb n 17 ≡ b → (c : Bool) → eqb x 2047 ≡ c → (d : Bool) → eqb y 2047 ≡ d
        → ◌≡◌ {A = ℕ} (cond a 0 (cond b 3 (cond (c || d) 1 2))) 1 → NotFiniteNumbered js ks ns p
    by true r b s c t d u q = other 0 (λ z. omega arith) q
    by false r true s c t d u q = other 3 (λ z. omega arith) q
    by false r false s true t d u q = record { not_ordered = eqb-false n 0 r; not_left_out = eqb-false n 17 s; bits = inl (eqb-true x 2047 t) }
    by false r false s false t true u q = record { not_ordered = eqb-false n 0 r; not_left_out = eqb-false n 17 s; bits = inr (eqb-true y 2047 u) }
    by false r false s false t false u q = other 2 (λ z. omega arith) q

-- ---- a run that is taken: the parts of a stamp that is not finite stay as they were recorded
module _ (rows : List Row) (scale : ℕ) (known : is_run_scale scale ≡ true) (r : NamedRun) where
  abbrev s : List ℕ
  s = bytes_of_named r

  abbrev sizes : List ℕ
  sizes = (run_blocks s).sizes

  abbrev many : ℕ
  many = stamps_of (run_blocks s).sizes

  abbrev js : List ℕ
  js = first_parts (run_blocks s).sizes s

  abbrev ks : List ℕ
  ks = second_parts (run_blocks s).sizes s

  abbrev c : RunCall
  c = run_taken rows scale r

  written : c ≡ run_written (stamp_answer rows scale TAI js ks) many js ks (replicate many 0)
  unfolding run_taken
  written = taken-written rows scale known sizes s (blocks_fit s)

  pub first-long : length c.out1 ≡ 8 * many
  unfolding run_written
  first-long =
      ap (λ (x : RunCall). length x.out1) written ∙ parts-length first_part (stamp_answer rows scale TAI js ks) many js
      ∙ first-length sizes s (blocks_fit s)

  pub second-long : length c.out2 ≡ 8 * many
  unfolding run_written
  second-long =
      ap (λ (x : RunCall). length x.out2) written ∙ parts-length second_part (stamp_answer rows scale TAI js ks) many ks
      ∙ second-length sizes s (blocks_fit s)

  pub numbers-long : length c.numbers ≡ many
  unfolding run_written
  numbers-long =
      ap (λ (x : RunCall). length x.numbers) written ∙ numbers-length (stamp_answer rows scale TAI js ks) many (replicate many 0)
      ∙ length-replicate many 0

  passes : run_refusal scale TAI (length js) (length ks) (length js) (length ks) (length (replicate {A = ℕ} many 0)) ≡ 0
  passes = taken-passes scale known sizes s (blocks_fit s)

  done : (i : ℕ) → i < many → StampDone (stamp_answer rows scale TAI js ks i) i js ks c
  unfolding converted_run run_taken taken_run
  done i h = each-stamp rows scale TAI js ks js ks (replicate many 0) passes i (omega (arith, first-length sizes s (blocks_fit s)))

  is-refused : (i : ℕ) → StampNotFinite js ks i → stamp_answer rows scale TAI js ks i ≡ refusal (number_of_not_finite scale TAI)
  is-refused i d = not_finite_stamp_refused rows scale TAI js ks js ks (replicate many 0) passes i d

  number_is : (i : ℕ) → NotFiniteIn r i → get_or c.numbers i 0 ≡ number_of_not_finite scale TAI
  number_is i b = (done i b.0).numbered (number_of_not_finite scale TAI) (is-refused i b.1)

  -- THE RECORDED BITS stand in its places
  pub recorded_bits : (i : ℕ) → NotFiniteIn r i
      → (u64_at (run_taken rows scale r).out1 (8 * i) ≡ u64_at (first_parts (run_blocks (bytes_of_named r)).sizes (bytes_of_named r)) (8 * i))
      × (u64_at (run_taken rows scale r).out2 (8 * i) ≡ u64_at (second_parts (run_blocks (bytes_of_named r)).sizes (bytes_of_named r)) (8 * i))
  recorded_bits i b =
      let h = b.0 in (
        eight_same c.out1 js (8 * i) (8 * i) (omega (arith, first-long)) (omega (arith, first-length sizes s (blocks_fit s)))
            (λ k g. (done i b.0).first_stays (number_of_not_finite scale TAI) (is-refused i b.1) k g),
        eight_same c.out2 ks (8 * i) (8 * i) (omega (arith, second-long)) (omega (arith, second-length sizes s (blocks_fit s)))
            (λ k g. (done i b.0).second_stays (number_of_not_finite scale TAI) (is-refused i b.1) k g),
      )

  bits-stay : (i : ℕ) → NotFiniteIn r i → StampNotFinite c.out1 c.out2 i
  bits-stay i b = go b.1
    where
      go : StampNotFinite js ks i → StampNotFinite c.out1 c.out2 i
      go (inl e) = inl (ap exponent_field (recorded_bits i b).0 ∙ e)
      go (inr e) = inr (ap exponent_field (recorded_bits i b).1 ∙ e)

-- ---- the same eight bytes in front and behind
front : (a b : List ℕ) (i : ℕ) → 8 * i + 8 ≤ length a → u64_at (a ++ b) (8 * i) ≡ u64_at a (8 * i)
front a b i h = eight_same (a ++ b) a (8 * i) (8 * i) (omega (arith, length-append a b)) h (λ k g. get_or-append a b 0 (8 * i + k) (omega arith))

behind : (a b : List ℕ) (n i : ℕ) → length a ≡ 8 * n → 8 * i + 8 ≤ length b → u64_at (a ++ b) (8 * (n + i)) ≡ u64_at b (8 * i)
behind a b n i e h =
    eight_same (a ++ b) b (8 * (n + i)) (8 * i) (omega (arith, length-append a b)) h
    (λ k g. ap (λ (j : ℕ). get_or (a ++ b) j 0) (let q : 8 * (n + i) + k ≡ length a + (8 * i + k) = omega arith in q) ∙ get_or-append-add a b (8 * i + k) 0)

bits-front : (a b c d : List ℕ) (i : ℕ) → 8 * i + 8 ≤ length a → 8 * i + 8 ≤ length c → StampNotFinite a c i → StampNotFinite (a ++ b) (c ++ d) i
bits-front a b c d i h g (inl e) = inl (ap exponent_field (front a b i h) ∙ e)
bits-front a b c d i h g (inr e) = inr (ap exponent_field (front c d i g) ∙ e)

bits-behind : (a b c d : List ℕ) (n i : ℕ) → length a ≡ 8 * n → length c ≡ 8 * n → 8 * i + 8 ≤ length b → 8 * i + 8 ≤ length d → StampNotFinite b d i
    → StampNotFinite (a ++ b) (c ++ d) (n + i)
bits-behind a b c d n i p q h g (inl e) = inl (ap exponent_field (behind a b n i p h) ∙ e)
bits-behind a b c d n i p q h g (inr e) = inr (ap exponent_field (behind c d n i q g) ∙ e)

pub known-gps : is_run_scale GPS ≡ true
unfolding is_run_scale
known-gps = refl

pub known-tai : is_run_scale TAI ≡ true
unfolding is_run_scale
known-tai = refl

pub known-utc : is_run_scale UTC ≡ true
unfolding is_run_scale
known-utc = refl

-- ---- the three runs, one behind the other
module _ (rows : List Row) (gps tai utc : NamedRun) (out : List ℕ) (work1 work2 k : ℕ) where
  abbrev all : Stamps
  all = all_taken rows gps tai utc

  abbrev up : LinedUp
  up = lines_in_order all.jd1s all.jd2s all.numbers all.first all.second out work1 work2

  abbrev g : RunCall
  g = run_taken rows GPS gps

  abbrev t : RunCall
  t = run_taken rows TAI tai

  abbrev u : RunCall
  u = run_taken rows UTC utc

  firsts : all.jd1s ≡ g.out1 ++ (t.out1 ++ u.out1)
  unfolding all_taken joined_runs
  firsts = refl

  seconds : all.jd2s ≡ g.out2 ++ (t.out2 ++ u.out2)
  unfolding all_taken joined_runs
  seconds = refl

  numbers : all.numbers ≡ g.numbers ++ (t.numbers ++ u.numbers)
  unfolding all_taken joined_runs
  numbers = refl

  in_first : all.first ≡ length g.numbers
  unfolding all_taken joined_runs
  in_first = refl

  in_second : all.second ≡ length t.numbers
  unfolding all_taken joined_runs
  in_second = refl

  all-long : length all.numbers ≡ length g.numbers + (length t.numbers + length u.numbers)
  all-long = ap length numbers ∙ length-append g.numbers (t.numbers ++ u.numbers)
      ∙ ap (λ (n : ℕ). length g.numbers + n) (length-append t.numbers u.numbers)

  abbrev Bits : ℕ → Type 0
  Bits p = StampNotFinite all.jd1s all.jd2s p

  counted : up.answer ≡ answer k → (p m : ℕ) → p < length all.numbers → get_or all.numbers p 0 ≡ m → (m ≡ 0 → ⊥) → (m ≡ 17 → ⊥) → Bits p
      → kind_at all.jd1s all.jd2s up.numbers p ≡ 1
  counted e p m h n some other b =
      let stays : get_or up.numbers p 0 ≡ m = number-stays all out work1 work2 k e p h (λ z. some (sym n ∙ z)) ∙ n in
      not_finite_kind all.jd1s all.jd2s up.numbers p
      (record { not_ordered = λ z. some (sym stays ∙ z); not_left_out = λ z. other (sym stays ∙ z); bits = b })

  -- their bits
  gps-bits : (i : ℕ) → NotFiniteIn gps i → Bits i
  unfolding all_taken joined_runs
  gps-bits i b =
      let h = b.0 in
      bits-front g.out1 (t.out1 ++ u.out1) g.out2 (t.out2 ++ u.out2) i (omega (arith, first-long rows GPS known-gps gps))
      (omega (arith, second-long rows GPS known-gps gps)) (bits-stay rows GPS known-gps gps i b)

  tai-bits : (i : ℕ) → NotFiniteIn tai i → Bits (all.first + i)
  unfolding all_taken joined_runs
  tai-bits i b =
      let h = b.0 in
      let p = first-long rows TAI known-tai tai in
      let q = second-long rows TAI known-tai tai in
      bits-behind g.out1 (t.out1 ++ u.out1) g.out2 (t.out2 ++ u.out2) (length g.numbers) i
      (omega (arith, first-long rows GPS known-gps gps, numbers-long rows GPS known-gps gps))
      (omega (arith, second-long rows GPS known-gps gps, numbers-long rows GPS known-gps gps))
      (omega (arith, length-append t.out1 u.out1)) (omega (arith, length-append t.out2 u.out2))
      (bits-front t.out1 u.out1 t.out2 u.out2 i (omega arith) (omega arith) (bits-stay rows TAI known-tai tai i b))

  utc-bits : (i : ℕ) → NotFiniteIn utc i → Bits (all.first + (all.second + i))
  unfolding all_taken joined_runs
  utc-bits i b =
      let h = b.0 in
      let p = first-long rows UTC known-utc utc in
      let q = second-long rows UTC known-utc utc in
      let n = numbers-long rows TAI known-tai tai in
      let x = first-long rows TAI known-tai tai in
      let y = second-long rows TAI known-tai tai in
      bits-behind g.out1 (t.out1 ++ u.out1) g.out2 (t.out2 ++ u.out2) (length g.numbers) (length t.numbers + i)
      (omega (arith, first-long rows GPS known-gps gps, numbers-long rows GPS known-gps gps))
      (omega (arith, second-long rows GPS known-gps gps, numbers-long rows GPS known-gps gps))
      (omega (arith, length-append t.out1 u.out1)) (omega (arith, length-append t.out2 u.out2))
      (bits-behind t.out1 u.out1 t.out2 u.out2 (length t.numbers) i (omega arith) (omega arith) (omega arith) (omega arith)
      (bits-stay rows UTC known-utc utc i b))

  -- EACH STAMP THAT IS NOT FINITE, by the bytes of its run, is counted as not finite at its place
  pub all-not-finite-counted : up.answer ≡ answer k → EachNotFiniteCounted gps tai utc all up.numbers
  unfolding number_of_not_finite
  all-not-finite-counted e = record {
    gps_counted = λ i b.
        let h = b.0 in
        let n = numbers-long rows GPS known-gps gps in
        counted e i 9 (omega (arith, all-long))
        (ap (λ (l : List ℕ). get_or l i 0) numbers ∙ get_or-append g.numbers (t.numbers ++ u.numbers) 0 i (omega arith)
        ∙ number_is rows GPS known-gps gps i b)
        (λ z. omega (arith, z)) (λ z. omega (arith, z)) (gps-bits i b);
    tai_counted = λ i b.
        let h = b.0 in
        let n = numbers-long rows TAI known-tai tai in
        counted e (all.first + i) 9 (omega (arith, all-long, in_first))
        ((λ j. get_or (numbers j) (in_first j + i) 0) ∙ get_or-append-add g.numbers (t.numbers ++ u.numbers) i 0
        ∙ get_or-append t.numbers u.numbers 0 i (omega arith) ∙ number_is rows TAI known-tai tai i b)
        (λ z. omega (arith, z)) (λ z. omega (arith, z)) (tai-bits i b);
    utc_counted = λ i b.
        let h = b.0 in
        let n = numbers-long rows UTC known-utc utc in
        counted e (all.first + (all.second + i)) 6 (omega (arith, all-long, in_first, in_second))
        ((λ j. get_or (numbers j) (in_first j + (in_second j + i)) 0) ∙ get_or-append-add g.numbers (t.numbers ++ u.numbers) (length t.numbers + i) 0
        ∙ get_or-append-add t.numbers u.numbers i 0 ∙ number_is rows UTC known-utc utc i b)
        (λ z. omega (arith, z)) (λ z. omega (arith, z)) (utc-bits i b);
  }
