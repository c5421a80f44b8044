-- WHAT IS TAKEN OF A RUN: when a call is answered, and by which number each other is refused; that a refused call writes nothing; and of an answered one
-- what is
-- left of each stamp, behind the last, and the count. A stamp that is not finite gets 6 where it was recorded in UTC, and else 9. Assumes nothing.
use Rattle.std.proofs.Common.{◌≡◌, ℕ, zero, suc, ◌+◌, ◌-◌, ◌*◌, ◌/◌, ◌<◌, ◌≤◌, Bool, true, false, cond, ◌&&◌, eqb, leb, List, ◌++◌, length, get_or, drop}
use Rattle.std.proofs.Common.{replicate, sym, refl, ap, ◌∙◌, subst, arith, get_or-drop, get_or-append-add, le-leb, leb-false, leb-true}
use lib.ListN.{length-replicate, get_or-append}
use Rattle.refusals.specs.Outcome.{Outcome, answer, refusal}
use Rattle.constants.specs.scale_numbers.Scales.{TAI}
use Rattle.numerals.specs.little_endian.Written.{all_bytes}
use Rattle.julian.specs.declared.JulianDate.{JulianDate}
use Rattle.leap_table.specs.rows.Table.{Row}
use Rattle.stamps.specs.listing_laws.Writer.{Stamp, stamp_date, first_bytes, second_bytes}
use Rattle.runs.specs.by_formula.Run.{RunCall, run_call, run_written, first_part, second_part}
use Rattle.runs.specs.Run.{stamp_answer, run_refusal, converted_run}
use Rattle.runs.specs.ways.Ways.{is_run_scale, way_of}
use Rattle.runs.specs.laws.Answered.{Five, PlacesFor}
use Rattle.runs.specs.laws.Done.{StampDone, SpareStays}
use Rattle.runs.specs.laws.NotFiniteStamps.{StampNotFinite, number_of_not_finite, not_zero_in}
use Rattle.runs.proofs.by_formula.Puts.{parts-length, numbers-length}
use Rattle.runs.proofs.laws.Answered.{scale_taken}
use Rattle.runs.proofs.laws.Refusing.{five}
use Rattle.runs.proofs.laws.Theorems.{each-stamp, count-is, not_finite_stamp_refused}
use Rattle.line_listing.specs.taken.Run.{run_blocks, stamps_of, first_parts, second_parts, taken_run}
use Rattle.line_listing.specs.taken.Call.{take_refusal, taken_written, taken_by, taken_call}
use Rattle.line_listing.specs.laws.TakenRuns.{run_bytes, all_stamps, counts, AllFit, TakeDecision, table-first, other_scale, no_room, run-taken}
use Rattle.line_listing.proofs.taken.Blocks.{blocks_fit}
use Rattle.line_listing.proofs.taken.Steps.{first-length, second-length, taken-written, noughts, taken-passes}
use Rattle.line_listing.proofs.laws.TakenBlocks.{stamps-all, first-parts-back, second-parts-back, stamp-of-all}

-- ---- A REFUSED CALL writes nothing
pub refused-writes-nothing : (o : Outcome (List Row)) (scale : ℕ) (s out1 out2 numbers : List ℕ) (k : ℕ)
    → (taken_call o scale s out1 out2 numbers).answer ≡ refusal k → taken_call o scale s out1 out2 numbers ≡ run_call (refusal k) out1 out2 numbers
unfolding taken_call taken_by take_refusal run_written
refused-writes-nothing (refusal m) scale s out1 out2 numbers k e = ap (λ (x : Outcome ℕ). run_call x out1 out2 numbers) e
refused-writes-nothing (answer rows) scale s out1 out2 numbers k e =
    by (is_run_scale scale) refl (leb (8 * many) (length out1) && (leb (8 * many) (length out2) && leb many (length numbers))) e
  where
    many : ℕ
    many = stamps_of (run_blocks s).sizes

    call : ℕ → RunCall
    call n = cond (eqb n 0) (taken_written many (taken_run rows scale (run_blocks s).sizes s) out1 out2 numbers) (run_call (refusal n) out1 out2 numbers)

    answers : is_run_scale scale ≡ true → (taken_run rows scale (run_blocks s).sizes s).answer ≡ refusal k → ⊥
    answers known q =
        let w : answer _ ≡ refusal k = sym (ap (λ (c : RunCall). c.answer) (written_is known)) ∙ q in
        let z : ◌≡◌ {A = ℕ} 0 1 = cc w in omega arith
      where
        written_is : (known : is_run_scale scale ≡ true) → taken_run rows scale (run_blocks s).sizes s ≡ run_written
            (stamp_answer rows scale TAI (first_parts (run_blocks s).sizes s) (second_parts (run_blocks s).sizes s)) many (first_parts (run_blocks s).sizes s)
            (second_parts (run_blocks s).sizes s) (replicate many 0)
        written_is known = taken-written rows scale known (run_blocks s).sizes s (blocks_fit s)

    by : (a : Bool) → is_run_scale scale ≡ a → (b : Bool) → (call (cond a (cond b 0 11) 18)).answer ≡ refusal k
        → call (cond a (cond b 0 11) 18) ≡ run_call (refusal k) out1 out2 numbers
    by false p b q = ap (λ (x : Outcome ℕ). run_call x out1 out2 numbers) q
    by true p false q = ap (λ (x : Outcome ℕ). run_call x out1 out2 numbers) q
    by true p true q = absurd (answers p q)

-- ---- WHEN A CALL IS ANSWERED, and the order of the refusals
pub take_decided : (o : Outcome (List Row)) (scale : ℕ) (s out1 out2 numbers : List ℕ) → TakeDecision o scale (stamps_of (run_blocks s).sizes) (length out1)
    (length out2) (length numbers) (taken_call o scale s out1 out2 numbers).answer
unfolding taken_call taken_by take_refusal run_written
take_decided (refusal k) scale s out1 out2 numbers = table-first k refl refl
take_decided (answer rows) scale s out1 out2 numbers =
    by (is_run_scale scale) (leb (8 * many) (length out1)) (leb (8 * many) (length out2)) (leb many (length numbers)) refl refl refl refl
  where
    many : ℕ
    many = stamps_of (run_blocks s).sizes

    call : ℕ → RunCall
    call n = cond (eqb n 0) (taken_written many (taken_run rows scale (run_blocks s).sizes s) out1 out2 numbers) (run_call (refusal n) out1 out2 numbers)

    Found : Outcome ℕ → Type 0
    Found = TakeDecision (answer rows) scale many (length out1) (length out2) (length numbers)

    -- a test that fails
    fails : (a b : ℕ) → leb a b ≡ false → a ≤ b → ⊥
    fails a b e h = omega (arith, leb-false a b e)

    by : (a b c d : Bool) → is_run_scale scale ≡ a → leb (8 * many) (length out1) ≡ b → leb (8 * many) (length out2) ≡ c → leb many (length numbers) ≡ d
        → Found (call (cond a (cond (b && (c && d)) 0 11) 18)).answer
    by false b c d p q r t = other_scale rows refl
        (λ f. let z : ◌≡◌ {A = ℕ} 0 1 = ap (λ (x : Bool). cond x 0 1) (sym (scale_taken scale f) ∙ p) in omega arith) refl
    by true false c d p q r t = no_room rows refl (five scale p) (λ h. fails (8 * many) (length out1) q h.first) refl
    by true true false d p q r t = no_room rows refl (five scale p) (λ h. fails (8 * many) (length out2) r h.second) refl
    by true true true false p q r t = no_room rows refl (five scale p) (λ h. fails many (length numbers) t h.third) refl
    by true true true true p q r t = run-taken rows refl (five scale p)
        (record { first = leb-true (8 * many) (length out1) q; second = leb-true (8 * many) (length out2) r; third = leb-true many (length numbers) t }) _
        (ap (λ (c : RunCall). c.answer) (taken-written rows scale p (run_blocks s).sizes s (blocks_fit s)))

-- THE ORDER, by calls that break each rule and all behind it: the scale before the places
pub take_order : (take_refusal 2 1 0 0 0 ≡ 18) × (take_refusal 0 1 7 8 1 ≡ 11) × (take_refusal 1 1 8 7 1 ≡ 11) × (take_refusal 3 1 8 8 0 ≡ 11)
    × (take_refusal 4 1 8 8 1 ≡ 0) × (take_refusal 5 0 0 0 0 ≡ 0) × (take_refusal 6 0 0 0 0 ≡ 18)
unfolding take_refusal is_run_scale
take_order = (refl, refl, refl, refl, refl, refl, refl)

-- ---- what is written, and what stood behind it
module _ (n : ℕ) (c : RunCall) (x y z : List ℕ) (len1 : length c.out1 ≡ 8 * n) (len2 : length c.out2 ≡ 8 * n) (len3 : length c.numbers ≡ n) where
  stamp-lifted : (o : Outcome JulianDate) (i : ℕ) (l m : List ℕ) → i < n → StampDone o i l m c → StampDone o i l m (taken_written n c x y z)
  stamp-lifted o i l m h d = record {
    answered = λ j e. third ∙ d.answered j e;
    numbered = λ j e. third ∙ d.numbered j e;
    first = λ j e k b. first k b ∙ d.first j e k b;
    second = λ j e k b. second k b ∙ d.second j e k b;
    first_stays = λ j e k b. first k b ∙ d.first_stays j e k b;
    second_stays = λ j e k b. second k b ∙ d.second_stays j e k b;
  }
    where
      first : (k : ℕ) → k < 8 → get_or (c.out1 ++ drop (8 * n) x) (8 * i + k) 0 ≡ get_or c.out1 (8 * i + k) 0
      first k b = get_or-append c.out1 (drop (8 * n) x) 0 (8 * i + k) (omega arith)

      second : (k : ℕ) → k < 8 → get_or (c.out2 ++ drop (8 * n) y) (8 * i + k) 0 ≡ get_or c.out2 (8 * i + k) 0
      second k b = get_or-append c.out2 (drop (8 * n) y) 0 (8 * i + k) (omega arith)

      third : get_or (c.numbers ++ drop n z) i 0 ≡ get_or c.numbers i 0
      third = get_or-append c.numbers (drop n z) 0 i (omega arith)

  behind : (a l : List ℕ) (m j : ℕ) → length a ≡ m → m ≤ j → get_or (a ++ drop m l) j 0 ≡ get_or l j 0
  behind a l m j e h =
      let p : j ≡ length a + (j - m) = omega arith in
      let q : m + (j - m) ≡ j = omega arith in
      ap (λ (k : ℕ). get_or (a ++ drop m l) k 0) p ∙ get_or-append-add a (drop m l) (j - m) 0 ∙ get_or-drop m l (j - m) 0 ∙ ap (λ (k : ℕ). get_or l k 0) q

  spare-lifted : SpareStays n x y z (taken_written n c x y z)
  spare-lifted = record {
    first = λ j h. behind c.out1 x (8 * n) j len1 h;
    second = λ j h. behind c.out2 y (8 * n) j len2 h;
    third = λ j h. behind c.numbers z n j len3 h;
  }

  not_zero_front : (m : ℕ) (l : List ℕ) → m ≤ n → not_zero_in m (c.numbers ++ l) ≡ not_zero_in m c.numbers
  unfolding not_zero_in
  not_zero_front zero l h = refl
  not_zero_front (suc m) l h = λ i. not_zero_front m l (omega arith) i + cond (eqb (get_or-append c.numbers l 0 m (omega arith) i) 0) 0 1

-- ---- A CALL THAT IS ANSWERED
module _ (rows : List Row) (scale : ℕ) (f : Five scale) (s out1 out2 numbers : List ℕ)
    (room : PlacesFor (stamps_of (run_blocks s).sizes) (length out1) (length out2) (length numbers)) where
  abbrev sizes : List ℕ
  sizes = (run_blocks s).sizes

  abbrev many : ℕ
  many = stamps_of (run_blocks s).sizes

  abbrev js : List ℕ
  js = first_parts (run_blocks s).sizes s

  abbrev ks : List ℕ
  ks = second_parts (run_blocks s).sizes s

  known : is_run_scale scale ≡ true
  known = scale_taken scale f

  passes : run_refusal scale TAI (length js) (length ks) (length js) (length ks) (length (noughts many)) ≡ 0
  passes = taken-passes scale known sizes s (blocks_fit s)

  call-is : taken_call (answer rows) scale s out1 out2 numbers ≡ taken_written many (taken_run rows scale sizes s) out1 out2 numbers
  unfolding taken_call taken_by take_refusal
  call-is = rw (
    known,
    le-leb (8 * many) (length out1) room.first,
    le-leb (8 * many) (length out2) room.second,
    le-leb many (length numbers) room.third,
  )

  length1 : length (taken_run rows scale sizes s).out1 ≡ 8 * many
  unfolding run_written
  length1 = ap (λ (c : RunCall). length c.out1) (taken-written rows scale known sizes s (blocks_fit s))
      ∙ parts-length first_part (stamp_answer rows scale TAI js ks) many js ∙ first-length sizes s (blocks_fit s)

  length2 : length (taken_run rows scale sizes s).out2 ≡ 8 * many
  unfolding run_written
  length2 = ap (λ (c : RunCall). length c.out2) (taken-written rows scale known sizes s (blocks_fit s))
      ∙ parts-length second_part (stamp_answer rows scale TAI js ks) many ks ∙ second-length sizes s (blocks_fit s)

  length3 : length (taken_run rows scale sizes s).numbers ≡ many
  unfolding run_written
  length3 = ap (λ (c : RunCall). length c.numbers) (taken-written rows scale known sizes s (blocks_fit s))
      ∙ numbers-length (stamp_answer rows scale TAI js ks) many (replicate many 0) ∙ length-replicate many 0

  in-run : (i : ℕ) → i < many → i < length js / 8
  in-run i h = omega (arith, first-length sizes s (blocks_fit s))

  -- EACH STAMP'S TAI is that of the single calls on its way, and its number is 0 or that of its refusal; a refused one is as it was recorded
  pub stamp-taken : (i : ℕ) → i < many → StampDone (stamp_answer rows scale TAI js ks i) i js ks (taken_call (answer rows) scale s out1 out2 numbers)
  unfolding converted_run taken_run
  stamp-taken i h = subst (StampDone (stamp_answer rows scale TAI js ks i) i js ks) (sym call-is)
      (stamp-lifted many (taken_run rows scale sizes s) out1 out2 numbers length1 length2 length3 (stamp_answer rows scale TAI js ks i) i js ks h
      (each-stamp rows scale TAI js ks js ks (replicate many 0) passes i (in-run i h)))

  -- what lies behind the last stamp's places stays
  pub spare-stays : SpareStays many out1 out2 numbers (taken_call (answer rows) scale s out1 out2 numbers)
  spare-stays = subst (SpareStays many out1 out2 numbers) (sym call-is)
      (spare-lifted many (taken_run rows scale sizes s) out1 out2 numbers length1 length2 length3)

  -- THE ANSWER is the number of numbers that are not 0
  pub count-is-of-numbers : (taken_call (answer rows) scale s out1 out2 numbers).answer
      ≡ answer (not_zero_in many (taken_call (answer rows) scale s out1 out2 numbers).numbers)
  unfolding converted_run taken_run
  count-is-of-numbers = subst (λ (c : RunCall). c.answer ≡ answer (not_zero_in many c.numbers)) (sym call-is)
      (count-is rows scale TAI js ks js ks (replicate many 0) passes
      ∙ ap (λ (n : ℕ). answer (not_zero_in n (taken_run rows scale sizes s).numbers))
      (let q : length js / 8 ≡ many = omega (arith, first-length sizes s (blocks_fit s)) in q)
      ∙ ap answer (sym (not_zero_front many (taken_run rows scale sizes s) out1 out2 numbers length1 length2 length3 many (drop many numbers) (omega arith))))

  -- EVERY STAMP THAT IS NOT FINITE gets 6 where it was recorded in UTC, and else 9 (`number-not-finite`)
  pub not_finite_numbered : (i : ℕ) → i < many → StampNotFinite js ks i
      → get_or (taken_call (answer rows) scale s out1 out2 numbers).numbers i 0 ≡ number_of_not_finite scale TAI
  not_finite_numbered i h d = (stamp-taken i h).numbered (number_of_not_finite scale TAI)
      (not_finite_stamp_refused rows scale TAI js ks js ks (replicate many 0) passes i d)

pub number-not-finite : (number_of_not_finite 0 TAI ≡ 6) × (number_of_not_finite 1 TAI ≡ 9) × (number_of_not_finite 3 TAI ≡ 9) ×
    (number_of_not_finite 4 TAI ≡ 9)
    × (number_of_not_finite 5 TAI ≡ 9)
unfolding number_of_not_finite
number-not-finite = (refl, refl, refl, refl, refl)

-- ---- EACH STAMP OF LISTS THAT WERE WRITTEN BLOCK BY BLOCK is taken at its place: stamp i of the run is the i-th of all. The bytes behind the blocks are
-- any that
-- end the run (`run-ended`, `run-whole`)
pub lists-taken : (rows : List Row) (scale : ℕ) → Five scale → (xss : List (List Stamp)) → AllFit (all_stamps xss) → (rest : List ℕ)
    → (run_blocks (run_bytes xss ++ rest)).sizes ≡ counts xss → (out1 out2 numbers : List ℕ)
    → PlacesFor (length (all_stamps xss)) (length out1) (length out2) (length numbers) → (i : ℕ) (d : Stamp) → i < length (all_stamps xss)
    → StampDone (way_of rows scale TAI (stamp_date (get_or (all_stamps xss) i d))) i (all_bytes first_bytes (all_stamps xss))
    (all_bytes second_bytes (all_stamps xss))
    (taken_call (answer rows) scale (run_bytes xss ++ rest) out1 out2 numbers)
lists-taken rows scale f xss fit rest e out1 out2 numbers room i d h =
    subst (λ (o : Outcome JulianDate). StampDone o i j k call) (ap (way_of rows scale TAI) (stamp-of-all (all_stamps xss) fit i d h))
    (subst (λ (m : List ℕ). StampDone (stamp_answer rows scale TAI j m i) i j m call) parts2
    (subst (λ (m : List ℕ). StampDone (stamp_answer rows scale TAI m (second_parts (run_blocks s).sizes s) i) i m (second_parts (run_blocks s).sizes s) call)
    parts1
    (stamp-taken rows scale f s out1 out2 numbers (subst (λ (n : ℕ). PlacesFor n (length out1) (length out2) (length numbers)) (sym all) room) i
    (subst (λ (n : ℕ). i < n) (sym all) h))))
  where
    s : List ℕ
    s = run_bytes xss ++ rest

    call : RunCall
    call = taken_call (answer rows) scale s out1 out2 numbers

    j : List ℕ
    j = all_bytes first_bytes (all_stamps xss)

    k : List ℕ
    k = all_bytes second_bytes (all_stamps xss)

    all : stamps_of (run_blocks s).sizes ≡ length (all_stamps xss)
    all = ap stamps_of e ∙ stamps-all xss

    parts1 : first_parts (run_blocks s).sizes s ≡ j
    parts1 = ap (λ (l : List ℕ). first_parts l s) e ∙ first-parts-back xss rest

    parts2 : second_parts (run_blocks s).sizes s ≡ k
    parts2 = ap (λ (l : List ℕ). second_parts l s) e ∙ second-parts-back xss rest
