-- WHAT A PROGRAM COLLECTS IS THE LISTING: the records as ct_run_size writes them, the runs as ct_take_run takes them, the order as ct_lines_in_order leaves it;
-- then the parts that ct_line_listing_part writes, each asked for with the cursor that the call before left, are the whole listing one behind the other, and no
-- call is refused. Runs have less than 2^64 bytes, and there are as many buffers of 550 bytes or more as stamps, and two. Assumes nothing.
use Prim.Native.Nat.{ℕ, ◌+◌, ◌-◌, ◌*◌, ◌≤◌, ◌<◌}
use native.Mathlib.Omega.{arith}
use mathlib.Core.Path.{◌≡◌, refl, sym, ap, ◌∙◌}
use mathlib.Core.Bool.{Bool, true}
use mathlib.Core.List.{List, [], ◌∷◌, ◌++◌, append-nil}
use lib.Dec.{eqb}
use lib.ListN.{length, drop, replicate, length-append, length-drop, length-replicate, drop_of_length-le}
use borrow.Author.Tests.{eq-eqb, le-leb}
use Rattle.refusals.specs.Outcome.{Outcome, answer, onward}
use Rattle.numerals.specs.little_endian.LittleEndian.{four_at, u64_at}
use Rattle.leap_table.specs.rows.Table.{Row}
use Rattle.leap_table.specs.rows.Announced.{least, unless_refused}
use Rattle.runs.specs.by_formula.Run.{RunCall, run_call, run_written}
use Rattle.runs.specs.Run.{stamp_answer}
use Rattle.runs.specs.ways.Ways.{is_run_scale}
use Rattle.runs.proofs.by_formula.Puts.{numbers-length}
use Rattle.line_up.specs.Runs.{all_tested}
use Rattle.line_up.specs.LineUp.{unordered_at, sooner_at, LinedUp}
use Rattle.line_up.specs.laws.Due.{LineDue}
use Rattle.line_up.proofs.Places.{after-length}
use Rattle.line_up.proofs.Testing.{tested-length}
use Rattle.line_up.proofs.laws.Due.{none-refused}
use Rattle.line_listing.specs.taken.Run.{run_blocks, stamps_of, first_parts, second_parts, taken_run}
use Rattle.line_listing.specs.taken.Call.{take_refusal, taken_written, taken_by, taken_call}
use Rattle.line_listing.specs.order.Order.{lines_in_order, put_in_order, order_written}
use Rattle.line_listing.specs.lines.StampLine.{Stamps, stamps}
use Rattle.line_listing.specs.lines.Parts.{lines_of_order}
use Rattle.line_listing.specs.listing.Listing.{NamedRun, bytes_of_named, run_taken, run_end_of, joined_runs, all_taken, numbered_by, line_listing}
use Rattle.line_listing.specs.listing.Part.{Step, part_from, listing_refusal}
use Rattle.line_listing.specs.laws.Joined.{all_parts_joined, RoomyParts}
use Rattle.line_listing.proofs.taken.Blocks.{blocks_fit}
use Rattle.line_listing.proofs.taken.Steps.{taken-written}
use Rattle.line_listing.proofs.lines.Whole.{least-left, least-right}
use Rattle.line_listing.proofs.laws.Theorems.{answered-order, listed-order}
use Rattle.line_listing.proofs.laws.Joined as J
use Rattle.line_listing.proofs.laws.Listing.{never-refused, parts-are-listing}
use Rattle.c_answers.specs.table.TableBytes.{table_bytes}
use Rattle.capi.specs.SummaryDelivery.{runs_refusal}
use Rattle.capi.specs.LineListingDelivery.{asked_refusal, part_asked, cursor_moved}
use Rattle.capi.specs.laws.Summary as R
use Rattle.capi.specs.laws.LineListing.{ToldBy, numbers_alone, with_sentences}
use Rattle.capi.specs.laws.RunRecords.{records_of}
use Rattle.capi.specs.laws.CollectedListing.{collected, RunTaken, RunsInOrder}
use Rattle.capi.proofs.laws.Summary.{runs-decided}
use Rattle.capi.proofs.laws.LineListing.{moved-long, cursor_back}
use Rattle.capi.proofs.laws.RunRecords.{records-long, ends-back, counts-back}

-- ---- a taken run has a number for each stamp
run-many : (rows : List Row) (scale : ℕ) → is_run_scale scale ≡ true → (run : NamedRun)
    → length (run_taken rows scale run).numbers ≡ stamps_of (run_blocks (bytes_of_named run)).sizes
unfolding run_taken run_written
run-many rows scale known run =
    let s = bytes_of_named run in
    let sizes = (run_blocks s).sizes in
    ap (λ (c : RunCall). length c.numbers) (taken-written rows scale known sizes s (blocks_fit s))
    ∙ numbers-length (stamp_answer rows scale 1 (first_parts sizes s) (second_parts sizes s)) (stamps_of sizes) (replicate (stamps_of sizes) 0)
    ∙ length-replicate (stamps_of sizes) 0

known-scales : (is_run_scale 4 ≡ true) × (is_run_scale 1 ≡ true) × (is_run_scale 0 ≡ true)
unfolding is_run_scale
known-scales = (refl, refl, refl)

-- ---- a lining up that is answered keeps one number for each stamp
pub numbers-long : (js ks ns : List ℕ) (first second : ℕ) (out : List ℕ) (work1 work2 : ℕ)
    → LineDue (length js) (length ks) (length ns) first second (length out) work1 work2
    → length (lines_in_order js ks ns first second out work1 work2).numbers ≡ length ns
unfolding lines_in_order put_in_order order_written
numbers-long js ks ns first second out work1 work2 due =
    let come = all_tested (unordered_at js ks) 0 ns in
    let long = tested-length (unordered_at js ks) 0 ns in
    rw (none-refused (length js) (length ks) (length ns) first second (length out) work1 work2 due)
    (after-length (sooner_at js ks) come first (first + second) (length come) (omega arith) (omega (arith, due.runs, long)) (omega arith) ∙ long)

-- ---- records and lists that fit have no number
runs-zero : (runs js ks ns : List ℕ) → length runs ≡ 96 → R.ListsFit runs js ks ns → runs_refusal runs (length js) (length ks) (length ns) ≡ 0
runs-zero runs js ks ns h f = by (runs_refusal runs (length js) (length ks) (length ns)) (runs-decided runs js ks ns)
  where
    by : (k : ℕ) → R.RunsDecision runs js ks ns k → k ≡ 0
    by k (R.other_records n e) = absurd (n h)
    by k (R.other_lists r n e) = absurd (n f)
    by k (R.lists_fit r g e) = e

asked_zero : (reasons : ℕ) (s : Bool) → ToldBy reasons s → (runs js ks ns cursor : List ℕ) → length cursor ≡ 16 → length runs ≡ 96
    → R.ListsFit runs js ks ns → asked_refusal reasons runs (length js) (length ks) (length ns) (length cursor) ≡ 0
unfolding asked_refusal
asked_zero _ _ numbers_alone runs js ks ns cursor c h f = rw (eq-eqb (length cursor) 16 c) (runs-zero runs js ks ns h f)
asked_zero _ _ with_sentences runs js ks ns cursor c h f = rw (eq-eqb (length cursor) 16 c) (runs-zero runs js ks ns h f)

told_is : (reasons : ℕ) (s : Bool) → ToldBy reasons s → eqb reasons 1 ≡ s
told_is _ _ numbers_alone = refl
told_is _ _ with_sentences = refl

-- ---- three runs, taken and in order
module _ (reasons : ℕ) (s : Bool) (told : ToldBy reasons s) (rows : List Row) (gps tai utc : NamedRun)
    (gps-short : length gps.bytes < 18446744073709551616) (tai-short : length tai.bytes < 18446744073709551616)
    (utc-short : length utc.bytes < 18446744073709551616) (out : List ℕ) (work1 work2 : ℕ)
    (exact : length out ≡ 4 * length (all_taken rows gps tai utc).numbers) (k : ℕ)
    (answers : (lines_in_order (all_taken rows gps tai utc).jd1s (all_taken rows gps tai utc).jd2s (all_taken rows gps tai utc).numbers
    (all_taken rows gps tai utc).first (all_taken rows gps tai utc).second out work1 work2).answer ≡ answer k) where
  abbrev all : Stamps
  all = all_taken rows gps tai utc

  abbrev up : LinedUp
  up = lines_in_order all.jd1s all.jd2s all.numbers all.first all.second out work1 work2

  abbrev runs : List ℕ
  runs = records_of gps tai utc

  abbrev n : ℕ
  n = lines_of_order up.out

  abbrev ask : List ℕ → ℕ → Outcome Step
  ask cursor room = part_asked reasons runs all.jd1s all.jd2s up.numbers up.out cursor room (answer rows)

  abbrev part : ℕ → ℕ → ℕ → Step
  part line textless room =
      part_from s rows (run_end_of gps) (run_end_of tai) (run_end_of utc) (numbered_by all up.numbers) up.out line textless room

  due : LineDue (length all.jd1s) (length all.jd2s) (length all.numbers) all.first all.second (length out) work1 work2
  due = answered-order all.jd1s all.jd2s all.numbers all.first all.second out work1 work2 k answers

  long : length up.numbers ≡ length all.numbers
  long = numbers-long all.jd1s all.jd2s all.numbers all.first all.second out work1 work2 due

  few : n ≤ 4294967295
  unfolding lines_of_order
  few =
      let e = (listed-order all.jd1s all.jd2s all.numbers all.first all.second out work1 work2 due).spare in
      let m = 4 * length all.numbers in
      let f : length (drop m up.out) ≡ length (drop m out) = ap length e in
      omega (arith, f, length-drop m up.out, length-drop m out, due.most)

  small : n < 18446744073709551616
  small = omega (arith, few)

  -- the counts of the records are those of the runs
  first_is : u64_at runs 0 ≡ all.first
  unfolding all_taken joined_runs
  first_is = (counts-back gps tai utc gps-short tai-short utc-short).0 ∙ sym (run-many rows 4 known-scales.0 gps)

  second_is : u64_at runs 32 ≡ all.second
  unfolding all_taken joined_runs
  second_is = (counts-back gps tai utc gps-short tai-short utc-short).1 ∙ sym (run-many rows 1 known-scales.1 tai)

  together-is : u64_at runs 0 + u64_at runs 32 + u64_at runs 64 ≡ length all.numbers
  unfolding all_taken joined_runs
  together-is =
      let c = counts-back gps tai utc gps-short tai-short utc-short in
      let g = (run_taken rows 4 gps).numbers in
      let t = (run_taken rows 1 tai).numbers in
      let u = (run_taken rows 0 utc).numbers in
      omega (
        arith,
        c.0 ∙ sym (run-many rows 4 known-scales.0 gps),
        c.1 ∙ sym (run-many rows 1 known-scales.1 tai),
        c.2 ∙ sym (run-many rows 0 known-scales.2 utc),
        length-append g (t ++ u),
        length-append t u,
      )

  fit : R.ListsFit runs all.jd1s all.jd2s up.numbers
  fit = record {
    first = due.parts.first ∙ ap (λ (m : ℕ). 8 * m) (sym long);
    second = due.parts.second ∙ ap (λ (m : ℕ). 8 * m) (sym long);
    together = together-is ∙ sym long;
  }

  -- ONE CALL: its part is that of the listing
  pub asked_part : (cursor : List ℕ) (room : ℕ) → length cursor ≡ 16 → 550 ≤ room → ask cursor room ≡ answer (part (u64_at cursor 0) (u64_at cursor 8) room)
  unfolding part_asked onward
  asked_part cursor room c h =
      let b : eqb reasons 1 ≡ s = told_is reasons s told in
      let a = asked_zero reasons s told runs all.jd1s all.jd2s up.numbers cursor c (records-long gps tai utc) fit in
      let z : listing_refusal (eqb reasons 1) (length up.numbers) up.out (u64_at cursor 0) room ≡ 0 =
      ap (λ (x : Bool). listing_refusal x (length up.numbers) up.out (u64_at cursor 0) room) b
      ∙ never-refused all out work1 work2 exact k answers s (u64_at cursor 0) room h in
      let e = ends-back gps tai utc gps-short tai-short utc-short in
      λ i. onward (unless_refused (a i) rows) (λ same. unless_refused (z i)
      (part_from (b i) same (e.0 i) (e.1 i) (e.2 i) (stamps all.jd1s all.jd2s up.numbers (first_is i) (second_is i)) up.out (u64_at cursor 0)
      (u64_at cursor 8) room))

  abbrev none : ℕ → ℕ
  none = J.none s rows (run_end_of gps) (run_end_of tai) (run_end_of utc) (numbered_by all up.numbers) up.out small

  none-few : (line : ℕ) → none line ≤ n
  unfolding J.none
  none-few line =
      omega (
        arith,
        J.count_most rows (numbered_by all up.numbers) up.out 0 (least (line - 1) n),
        least-right (line - 1) n,
      )

  none_yet : none 0 ≡ 0
  unfolding J.none
  none_yet =
      omega (arith, J.count_most rows (numbered_by all up.numbers) up.out 0 (least (0 - 1) n), least-left (0 - 1) n)

  -- ALL CALLS, from any cursor that a call leaves
  all-calls : (line : ℕ) → line ≤ n + 2 → (cursor : List ℕ) → length cursor ≡ 16 → u64_at cursor 0 ≡ line → u64_at cursor 8 ≡ none line
      → (rooms : List ℕ) → RoomyParts rooms → collected ask cursor rooms ≡ answer (all_parts_joined part line (none line) rooms).bytes
  unfolding collected all_parts_joined onward
  all-calls line h cursor c a b [] r = refl
  all-calls line h cursor c a b (room ∷ rooms) r =
      let p = part line (none line) room in
      let g = J.one-part s rows (run_end_of gps) (run_end_of tai) (run_end_of utc) (numbered_by all up.numbers) up.out small line room h r.0 in
      let here : ask cursor room ≡ answer p = asked_part cursor room c r.0 ∙ (λ i. answer (part (a i) (b i) room)) in
      let moved = cursor_moved (answer p) cursor in
      let back = cursor_back p cursor c (omega (arith, g.within, few)) (omega (arith, g.counted, none-few p.line, few)) in
      let next : collected ask moved rooms ≡ answer (all_parts_joined part p.line (none p.line) rooms).bytes =
      all-calls p.line g.within moved (moved-long p cursor c) back.0 (back.1 ∙ g.counted) rooms r.1 in
      (λ i. onward (here i) (λ x. onward (collected ask (cursor_moved (here i) cursor) rooms) (λ rest. answer (x.bytes ++ rest))))
      ∙ ap (λ (o : Outcome (List ℕ)). onward o (λ rest. answer (p.bytes ++ rest))) next
      ∙ ap (λ (m : ℕ). answer (p.bytes ++ (all_parts_joined part p.line m rooms).bytes)) (sym g.counted)

  -- FROM 16 ZERO BYTES ON: the whole listing
  pub parts-collected : (rooms : List ℕ) → RoomyParts rooms → length all.numbers + 2 ≤ length rooms
      → collected ask (replicate 16 0) rooms ≡ line_listing s rows gps tai utc
  unfolding u64_at four_at
  parts-collected rooms r h =
      all-calls 0 (omega arith) (replicate 16 0) refl refl (sym none_yet) rooms r
      ∙ ap (λ (m : ℕ). answer (all_parts_joined part 0 m rooms).bytes) none_yet
      ∙ sym (parts-are-listing s rows gps tai utc out work1 work2 exact k answers rooms r h)

-- ---- a run taken into places of exactly its size is the run of the listing
run_is : (rows : List Row) (scale : ℕ) → is_run_scale scale ≡ true → (run : NamedRun) (c : RunCall) → RunTaken rows scale run c → c ≡ run_taken rows scale run
unfolding taken_call taken_by take_refusal run_taken
run_is rows scale known run c r =
    let s = bytes_of_named run in
    let sizes = (run_blocks s).sizes in
    let many = stamps_of sizes in
    let d = taken_run rows scale sizes s in
    let none1 : drop (8 * many) r.out1 ≡ [] = drop_of_length-le r.out1 {i = 8 * many} (omega (arith, r.room1)) in
    let none2 : drop (8 * many) r.out2 ≡ [] = drop_of_length-le r.out2 {i = 8 * many} (omega (arith, r.room2)) in
    let none3 : drop many r.numbers ≡ [] = drop_of_length-le r.numbers {i = many} (omega (arith, r.room)) in
    let call : taken_call (answer rows) scale s r.out1 r.out2 r.numbers ≡ taken_written many d r.out1 r.out2 r.numbers = rw (
      known,
      le-leb (8 * many) (length r.out1) (omega (arith, r.room1)),
      le-leb (8 * many) (length r.out2) (omega (arith, r.room2)),
      le-leb many (length r.numbers) (omega (arith, r.room)),
    ) in
    r.taken ∙ call
    ∙ (λ i. run_call d.answer ((ap (λ (l : List ℕ). d.out1 ++ l) none1 ∙ append-nil d.out1) i)
    ((ap (λ (l : List ℕ). d.out2 ++ l) none2 ∙ append-nil d.out2) i) ((ap (λ (l : List ℕ). d.numbers ++ l) none3 ∙ append-nil d.numbers) i))

-- ---- THE CALLS ARE THE LISTING, from the bytes of the runs to its own
module _ (reasons : ℕ) (s : Bool) (told : ToldBy reasons s) (rows : List Row) (table : List ℕ) (lent : table_bytes table ≡ answer rows)
    (gps tai utc : NamedRun) (gps-short : length gps.bytes < 18446744073709551616) (tai-short : length tai.bytes < 18446744073709551616)
    (utc-short : length utc.bytes < 18446744073709551616) (js ks ns order : List ℕ) (o : RunsInOrder rows gps tai utc js ks ns order) where
  g-is : o.g ≡ run_taken rows 4 gps
  g-is = run_is rows 4 known-scales.0 gps o.g o.taken_gps

  t-is : o.t ≡ run_taken rows 1 tai
  t-is = run_is rows 1 known-scales.1 tai o.t o.taken_tai

  u-is : o.u ≡ run_taken rows 0 utc
  u-is = run_is rows 0 known-scales.2 utc o.u o.taken_utc

  pub js_are : js ≡ (all_taken rows gps tai utc).jd1s
  unfolding all_taken joined_runs
  js_are = o.firsts ∙ (λ i. (g-is i).out1 ++ ((t-is i).out1 ++ (u-is i).out1))

  pub ks_are : ks ≡ (all_taken rows gps tai utc).jd2s
  unfolding all_taken joined_runs
  ks_are = o.seconds ∙ (λ i. (g-is i).out2 ++ ((t-is i).out2 ++ (u-is i).out2))

  pub numbers_are : o.g.numbers ++ (o.t.numbers ++ o.u.numbers) ≡ (all_taken rows gps tai utc).numbers
  unfolding all_taken joined_runs
  numbers_are = λ i. (g-is i).numbers ++ ((t-is i).numbers ++ (u-is i).numbers)

  counts-are : (u64_at (records_of gps tai utc) 0 ≡ (all_taken rows gps tai utc).first) ×
      (u64_at (records_of gps tai utc) 32 ≡ (all_taken rows gps tai utc).second)
  unfolding all_taken joined_runs
  counts-are =
      let c = counts-back gps tai utc gps-short tai-short utc-short in
      (c.0 ∙ sym (run-many rows 4 known-scales.0 gps), c.1 ∙ sym (run-many rows 1 known-scales.1 tai))

  abbrev left : LinedUp
  left = lines_in_order (all_taken rows gps tai utc).jd1s (all_taken rows gps tai utc).jd2s (all_taken rows gps tai utc).numbers
      (all_taken rows gps tai utc).first (all_taken rows gps tai utc).second o.out o.work1 o.work2

  pub lined_is : o.lined ≡ left
  lined_is =
      o.lined_is ∙ (λ i. lines_in_order (js_are i) (ks_are i) (numbers_are i) (counts-are.0 i) (counts-are.1 i) o.out o.work1 o.work2)

  pub calls_are_listing : (rooms : List ℕ) → RoomyParts rooms → length ns + 2 ≤ length rooms
      → collected (λ cursor room. part_asked reasons (records_of gps tai utc) js ks ns order cursor room (table_bytes table)) (replicate 16 0) rooms
      ≡ line_listing s rows gps tai utc
  calls_are_listing rooms r h =
      let answers : left.answer ≡ answer o.many = sym (ap (λ (l : LinedUp). l.answer) lined_is) ∙ o.answers in
      let exact : length o.out ≡ 4 * length (all_taken rows gps tai utc).numbers =
      o.exact ∙ ap (λ (l : List ℕ). 4 * length l) numbers_are in
      let ns_are : ns ≡ left.numbers = o.numbers_are ∙ ap (λ (l : LinedUp). l.numbers) lined_is in
      let order_is : order ≡ left.out = o.order_is ∙ ap (λ (l : LinedUp). l.out) lined_is in
      let due = answered-order (all_taken rows gps tai utc).jd1s (all_taken rows gps tai utc).jd2s (all_taken rows gps tai utc).numbers
      (all_taken rows gps tai utc).first (all_taken rows gps tai utc).second o.out o.work1 o.work2 o.many answers in
      let long = numbers-long (all_taken rows gps tai utc).jd1s (all_taken rows gps tai utc).jd2s (all_taken rows gps tai utc).numbers
      (all_taken rows gps tai utc).first (all_taken rows gps tai utc).second o.out o.work1 o.work2 due in
      (λ i. collected (λ cursor room. part_asked reasons (records_of gps tai utc) (js_are i) (ks_are i) (ns_are i) (order_is i) cursor room (lent i))
      (replicate 16 0) rooms)
      ∙ parts-collected reasons s told rows gps tai utc gps-short tai-short utc-short o.out o.work1 o.work2 exact o.many answers rooms r
      (omega (arith, h, ap length ns_are, long))
