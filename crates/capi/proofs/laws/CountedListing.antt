-- A PROGRAM THAT COUNTS BYTES HAS THE WHOLE LISTING: it asks with the cursor that the call before left, keeps as many bytes of its buffer as the call returned,
-- and stops at 0. No call is refused, at most as many as stamps and two return bytes, and what was kept until a call returned 0 is the listing, whatever the
-- buffers of 550 bytes or more and their number are. The runs have less than 2^64 bytes. Assumes nothing.
use Prim.Native.Nat.{ℕ, zero, suc, ◌+◌, ◌-◌, ◌*◌, ◌≤◌, ◌<◌}
use native.Mathlib.Omega.{arith}
use mathlib.Core.Path.{◌≡◌, refl, sym, ap, subst, ◌∙◌}
use mathlib.Core.Bool.{Bool, true, false, cond}
use mathlib.Core.List.{List, [], ◌++◌}
use lib.Dec.{leb}
use lib.IntN.{ℤ, pos}
use lib.ListN.{length, get_or, take, drop, replicate, length-drop, length-replicate}
use borrow.Author.Tests.{ne_eqb, lt-leb, leb-true, leb-false}
use Rattle.refusals.specs.Outcome.{Outcome, answer}
use Rattle.numerals.specs.little_endian.LittleEndian.{four_at, u64_at}
use Rattle.leap_table.specs.rows.Table.{Row}
use Rattle.leap_table.specs.rows.Announced.{least}
use Rattle.line_up.specs.LineUp.{LinedUp}
use Rattle.line_up.specs.laws.Due.{LineDue}
use Rattle.line_listing.specs.taken.Run.{run_blocks}
use Rattle.line_listing.specs.order.Order.{lines_in_order}
use Rattle.line_listing.specs.lines.StampLine.{Stamps}
use Rattle.line_listing.specs.lines.Parts.{lines_of_order}
use Rattle.line_listing.specs.listing.Listing.{NamedRun, bytes_of_named, run_end_of, all_taken, numbered_by, listing_text, line_listing}
use Rattle.line_listing.specs.listing.Part.{Step, ordered_of, part_from}
use Rattle.line_listing.specs.laws.Joined.{RoomyParts}
use Rattle.line_listing.specs.laws.PartFits.{EndHeld}
use Rattle.line_listing.proofs.taken.Blocks.{blocks_fit, stamps-fit}
use Rattle.line_listing.proofs.lines.Whole.{least-left, least-right}
use Rattle.line_listing.proofs.laws.Theorems.{answered-order, listed-order}
use Rattle.line_listing.proofs.laws.Joined as J
use Rattle.line_listing.proofs.laws.Listing.{never-refused, parts-are-listing}
use Rattle.line_listing.proofs.laws.PartBytes.{no_bytes, empty-at-end}
use Rattle.line_listing.proofs.laws.PartFits.{part-fits}
use Rattle.c_answers.specs.table.TableBytes.{table_bytes}
use Rattle.capi.specs.LineListingDelivery.{part_asked, cursor_moved, PartDelivered}
use Rattle.capi.specs.laws.LineListing.{ToldBy, PartRead}
use Rattle.capi.specs.laws.RunRecords.{records_of}
use Rattle.capi.specs.laws.CollectedListing.{RunsInOrder}
use Rattle.capi.specs.laws.CountedListing.{PartsKept, begun, next}
use Rattle.capi.proofs.laws.LineListing.{moved-long, part-read}
use Rattle.capi.proofs.laws.RunRecords.{low-in}
use Rattle.capi.proofs.laws.NumberBytes.{taken-bytes, lined-bytes}
use Rattle.capi.proofs.laws.CollectedListing.{numbers-long, asked_part, js_are, ks_are, numbers_are, lined_is}

-- ---- the end of a run of less than 2^64 bytes has numbers of 64 bits
end-held : (run : NamedRun) → length run.bytes < 18446744073709551616 → EndHeld (run_end_of run)
unfolding run_end_of run_blocks
end-held run h =
    let s = bytes_of_named run in
    let low = shorter run.named in
    record {
      block = omega (arith, blocks_fit s, stamps-fit (run_blocks s).sizes, low, h);
      refused = omega (arith, low-in (length s) s);
    }
  where
    shorter : (b : Bool) → length (cond b run.bytes []) ≤ length run.bytes
    shorter true = omega arith
    shorter false = omega arith

-- as many buffers of 550 bytes as one likes
roomy : (k : ℕ) → RoomyParts (replicate k 550)
roomy zero = tt
roomy (suc k) = (omega arith, roomy k)

-- ---- three runs, taken and in order
module _ (reasons : ℕ) (s : Bool) (told : ToldBy reasons s) (rows : List Row) (gps tai utc : NamedRun)
    (gps-short : length gps.bytes < 18446744073709551616) (tai-short : length tai.bytes < 18446744073709551616)
    (utc-short : length utc.bytes < 18446744073709551616) (out : List ℕ) (work1 work2 : ℕ)
    (exact : length out ≡ 4 * length (all_taken rows gps tai utc).numbers) (k : ℕ)
    (answers : (lines_in_order (all_taken rows gps tai utc).jd1s (all_taken rows gps tai utc).jd2s (all_taken rows gps tai utc).numbers
    (all_taken rows gps tai utc).first (all_taken rows gps tai utc).second out work1 work2).answer ≡ answer k) where
  abbrev all : Stamps
  all = all_taken rows gps tai utc

  abbrev up : LinedUp
  up = lines_in_order all.jd1s all.jd2s all.numbers all.first all.second out work1 work2

  abbrev n : ℕ
  n = lines_of_order up.out

  abbrev marked : Stamps
  marked = numbered_by all up.numbers

  abbrev ask : List ℕ → ℕ → Outcome Step
  ask cursor room = part_asked reasons (records_of gps tai utc) all.jd1s all.jd2s up.numbers up.out cursor room (answer rows)

  abbrev part : ℕ → ℕ → ℕ → Step
  part line textless room = part_from s rows (run_end_of gps) (run_end_of tai) (run_end_of utc) marked up.out line textless room

  due : LineDue (length all.jd1s) (length all.jd2s) (length all.numbers) all.first all.second (length out) work1 work2
  due = answered-order all.jd1s all.jd2s all.numbers all.first all.second out work1 work2 k answers

  -- the order has not more lines than there are stamps
  lines-low : n ≤ length all.numbers
  unfolding lines_of_order
  lines-low =
      let e = (listed-order all.jd1s all.jd2s all.numbers all.first all.second out work1 work2 due).spare in
      let m = 4 * length all.numbers in
      let f : length (drop m up.out) ≡ length (drop m out) = ap length e in
      omega (arith, f, length-drop m up.out, length-drop m out, exact)

  few : n ≤ 4294967295
  few = omega (arith, lines-low, due.most)

  small : n < 18446744073709551616
  small = omega (arith, few)

  abbrev none : ℕ → ℕ
  none = J.none s rows (run_end_of gps) (run_end_of tai) (run_end_of utc) marked up.out small

  abbrev before-line : ℕ → List ℕ
  before-line = J.told s rows (run_end_of gps) (run_end_of tai) (run_end_of utc) marked up.out small

  none-few : (line : ℕ) → none line ≤ n
  unfolding J.none
  none-few line = omega (arith, J.count_most rows marked up.out 0 (least (line - 1) n), least-right (line - 1) n)

  none_yet : none 0 ≡ 0
  unfolding J.none
  none_yet = omega (arith, J.count_most rows marked up.out 0 (least (0 - 1) n), least-left (0 - 1) n)

  nothing_yet : before-line 0 ≡ []
  unfolding J.told
  nothing_yet = refl

  all_lines : before-line (n + 2) ≡ listing_text s rows (run_end_of gps) (run_end_of tai) (run_end_of utc) marked up.out (ordered_of marked)
  unfolding J.told
  all_lines =
      let z : n + 2 ≡ 0 → ⊥ = λ q. let w : ⊥ = omega (arith, q) in w in
      rw (ne_eqb (n + 2) 0 z, lt-leb (n + 2) (n + 1) (omega arith))

  -- which is the listing
  listing-is : line_listing s rows gps tai utc ≡ answer (before-line (n + 2))
  listing-is =
      let rooms : List ℕ = replicate (length all.numbers + 2) 550 in
      let long : length rooms ≡ length all.numbers + 2 = length-replicate (length all.numbers + 2) 550 in
      let r = roomy (length all.numbers + 2) in
      parts-are-listing s rows gps tai utc out work1 work2 exact k answers rooms r (omega (arith, long))
      ∙ ap answer (J.parts-are-whole s rows (run_end_of gps) (run_end_of tai) (run_end_of utc) marked up.out small rooms r (omega (arith, long, lines-low))).0
      ∙ ap answer (sym all_lines)

  -- ---- where a program stands: the line of its cursor, and what is told before that
  record Stands (calls : ℕ) (cursor text : List ℕ) : Type 0 where
    line : ℕ
    long : length cursor ≡ 16
    at_line : u64_at cursor 0 ≡ line
    at_count : u64_at cursor 8 ≡ none line
    within : line ≤ n + 2
    kept : text ≡ before-line line
    gone : calls ≤ line

  at_start : Stands 0 (replicate 16 0) []
  unfolding u64_at four_at
  at_start = record {
    line = 0;
    long = refl;
    at_line = refl;
    at_count = sym none_yet;
    within = omega arith;
    kept = sym nothing_yet;
    gone = omega arith;
  }

  bytes : (i : ℕ) → get_or up.numbers i 0 < 256
  bytes = lined-bytes all.jd1s all.jd2s all.numbers (taken-bytes rows gps tai utc) all.first all.second out work1 work2 due

  numbers-few : length up.numbers < 4294967296
  numbers-few =
      omega (arith, numbers-long all.jd1s all.jd2s all.numbers all.first all.second out work1 work2 due, due.most)

  -- ---- one more call, from where it stands
  module _ (calls : ℕ) (cursor text : List ℕ) (at : Stands calls cursor text) (before : List ℕ) (enough : 550 ≤ length before) (r : ℤ)
      (cursor' after : List ℕ) (d : PartDelivered (ask cursor (length before)) cursor before r cursor' after) where
    abbrev p : Step
    p = part at.line (none at.line) (length before)

    here : ask cursor (length before) ≡ answer p
    here =
        asked_part reasons s told rows gps tai utc gps-short tai-short utc-short out work1 work2 exact k answers cursor (length before) at.long enough
        ∙ (λ i. answer (part (at.at_line i) (at.at_count i) (length before)))

    on : J.GoesOn s rows (run_end_of gps) (run_end_of tai) (run_end_of utc) marked up.out small at.line p
    on = J.one-part s rows (run_end_of gps) (run_end_of tai) (run_end_of utc) marked up.out small at.line (length before) at.within enough

    fits : length p.bytes ≤ length before
    fits =
        part-fits s rows (run_end_of gps) (run_end_of tai) (run_end_of utc) marked up.out (end-held gps gps-short) (end-held tai tai-short)
        (end-held utc utc-short) bytes numbers-few at.line (none at.line) (length before) (omega (arith, none-few at.line, few))
        (never-refused all out work1 work2 exact k answers s at.line (length before) enough)

    read : PartRead p before r cursor' after
    read =
        part-read (ask cursor (length before)) cursor before r cursor' after d p here at.long fits (omega (arith, on.within, few))
        (omega (arith, on.counted, none-few p.line, few))

    still_long : length cursor' ≡ 16
    still_long = ap length (d.moved ∙ ap (λ (o : Outcome Step). cursor_moved o cursor) here) ∙ moved-long p cursor at.long

    -- a part with bytes brings it on
    moves : 0 < length p.bytes → at.line < p.line
    moves h = by (leb (n + 2) at.line) refl
      where
        by : (t : Bool) → leb (n + 2) at.line ≡ t → at.line < p.line
        by true e =
            let z = no_bytes s rows (run_end_of gps) (run_end_of tai) (run_end_of utc) marked up.out (none at.line) (length before) at.line
            (leb-true (n + 2) at.line e) in
            let w : ⊥ = omega (arith, h, ap (λ (x : Step). length x.bytes) z) in
            absurd w
        by false e = on.on (leb-false (n + 2) at.line e)

    one_more : (m : ℕ) → r ≡ pos m → 0 < m → Stands (suc calls) cursor' (text ++ take m after)
    one_more m e h =
        let many : m ≡ length p.bytes = cc (sym e ∙ read.many) in
        record {
          line = p.line;
          long = still_long;
          at_line = read.line;
          at_count = read.textless ∙ on.counted;
          within = on.within;
          kept = (λ i. at.kept i ++ take (many i) after) ∙ ap (λ (l : List ℕ). before-line at.line ++ l) read.bytes ∙ on.bytes;
          gone = omega (arith, at.gone, moves (omega (arith, h, many)));
        }

    the_whole : r ≡ pos 0 → line_listing s rows gps tai utc ≡ answer text
    the_whole e =
        let many : 0 ≡ length p.bytes = cc (sym e ∙ read.many) in
        let end = empty-at-end s rows (run_end_of gps) (run_end_of tai) (run_end_of utc) marked up.out (none at.line) (length before) at.line enough
        (sym many) in
        let last : at.line ≡ n + 2 = omega (arith, end, at.within) in
        listing-is ∙ ap answer (sym (at.kept ∙ ap before-line last))

  stands : {calls : ℕ} {cursor text : List ℕ} → PartsKept ask calls cursor text → Stands calls cursor text
  stands begun = at_start
  stands (next {calls} {m} {cursor} {text} {before} {cursor'} {after} l enough some d) =
      one_more calls cursor text (stands l) before enough (pos m) cursor' after d m refl some

  taken-few : {calls : ℕ} {cursor text : List ℕ} → PartsKept ask calls cursor text → calls ≤ length all.numbers + 2
  taken-few l = omega (arith, (stands l).gone, (stands l).within, lines-low)

  taken-answers : {calls : ℕ} {cursor text before cursor' after : List ℕ} {r : ℤ} → PartsKept ask calls cursor text → 550 ≤ length before
      → PartDelivered (ask cursor (length before)) cursor before r cursor' after → (m : ℕ) × (r ≡ pos m)
  taken-answers {calls} {cursor} {text} {before} {cursor'} {after} {r} l enough d =
      (_, (read calls cursor text (stands l) before enough r cursor' after d).many)

  taken-whole : {calls : ℕ} {cursor text before cursor' after : List ℕ} → PartsKept ask calls cursor text → 550 ≤ length before
      → PartDelivered (ask cursor (length before)) cursor before (pos 0) cursor' after → line_listing s rows gps tai utc ≡ answer text
  taken-whole {calls} {cursor} {text} {before} {cursor'} {after} l enough d =
      the_whole calls cursor text (stands l) before enough (pos 0) cursor' after d refl

-- ---- A PROGRAM'S CALLS, from the bytes of the runs to the listing
module _ (reasons : ℕ) (s : Bool) (told : ToldBy reasons s) (rows : List Row) (table : List ℕ) (lent : table_bytes table ≡ answer rows)
    (gps tai utc : NamedRun) (gps-short : length gps.bytes < 18446744073709551616) (tai-short : length tai.bytes < 18446744073709551616)
    (utc-short : length utc.bytes < 18446744073709551616) (js ks ns order : List ℕ) (o : RunsInOrder rows gps tai utc js ks ns order) where
  abbrev asked : List ℕ → ℕ → Outcome Step
  asked cursor room = part_asked reasons (records_of gps tai utc) js ks ns order cursor room (table_bytes table)

  abbrev left : LinedUp
  left = lines_in_order (all_taken rows gps tai utc).jd1s (all_taken rows gps tai utc).jd2s (all_taken rows gps tai utc).numbers
      (all_taken rows gps tai utc).first (all_taken rows gps tai utc).second o.out o.work1 o.work2

  left_is : o.lined ≡ left
  left_is = lined_is reasons s told rows table lent gps tai utc gps-short tai-short utc-short js ks ns order o

  answered : left.answer ≡ answer o.many
  answered = sym (ap (λ (l : LinedUp). l.answer) left_is) ∙ o.answers

  as_long : length o.out ≡ 4 * length (all_taken rows gps tai utc).numbers
  as_long =
      o.exact
      ∙ ap (λ (l : List ℕ). 4 * length l) (numbers_are reasons s told rows table lent gps tai utc gps-short tai-short utc-short js ks ns order o)

  ns_are : ns ≡ left.numbers
  ns_are = o.numbers_are ∙ ap (λ (l : LinedUp). l.numbers) left_is

  ns_long : length ns ≡ length (all_taken rows gps tai utc).numbers
  ns_long =
      ap length ns_are
      ∙ numbers-long (all_taken rows gps tai utc).jd1s (all_taken rows gps tai utc).jd2s (all_taken rows gps tai utc).numbers
      (all_taken rows gps tai utc).first (all_taken rows gps tai utc).second o.out o.work1 o.work2
      (due reasons s told rows gps tai utc gps-short tai-short utc-short o.out o.work1 o.work2 as_long o.many answered)

  -- the calls are those of the runs as they are taken
  same : asked ≡ (λ cursor room. part_asked reasons (records_of gps tai utc) (all_taken rows gps tai utc).jd1s (all_taken rows gps tai utc).jd2s
      left.numbers left.out cursor room (answer rows))
  same =
      let a = js_are reasons s told rows table lent gps tai utc gps-short tai-short utc-short js ks ns order o in
      let b = ks_are reasons s told rows table lent gps tai utc gps-short tai-short utc-short js ks ns order o in
      let c : order ≡ left.out = o.order_is ∙ ap (λ (l : LinedUp). l.out) left_is in
      λ i. λ cursor room. part_asked reasons (records_of gps tai utc) (a i) (b i) (ns_are i) (c i) cursor room (lent i)

  module _ {calls : ℕ} {cursor text : List ℕ}
      (l : PartsKept (λ cursor room. part_asked reasons (records_of gps tai utc) js ks ns order cursor room (table_bytes table)) calls cursor text) where
    kept-so : PartsKept (λ cursor room. part_asked reasons (records_of gps tai utc) (all_taken rows gps tai utc).jd1s (all_taken rows gps tai utc).jd2s
        left.numbers left.out cursor room (answer rows)) calls cursor text
    kept-so = subst (λ (a : List ℕ → ℕ → Outcome Step). PartsKept a calls cursor text) same l

    -- its loop ends: at most as many calls as stamps and two return bytes
    pub counted-few : calls ≤ length ns + 2
    counted-few =
        omega (
          arith,
          ns_long,
          taken-few reasons s told rows gps tai utc gps-short tai-short utc-short o.out o.work1 o.work2 as_long o.many answered kept-so,
        )

    -- no call is refused
    pub counted-answered : {before cursor' after : List ℕ} {r : ℤ} → 550 ≤ length before
        → PartDelivered (part_asked reasons (records_of gps tai utc) js ks ns order cursor (length before) (table_bytes table)) cursor before r cursor' after
        → (m : ℕ) × (r ≡ pos m)
    counted-answered {before} {cursor'} {after} {r} enough d =
        taken-answers reasons s told rows gps tai utc gps-short tai-short utc-short o.out o.work1 o.work2 as_long o.many answered
        kept-so enough (subst (λ (a : List ℕ → ℕ → Outcome Step). PartDelivered (a cursor (length before)) cursor before r cursor' after) same d)

    -- AND WHERE A CALL RETURNS 0, what it has kept is the whole listing
    pub counted-whole : {before cursor' after : List ℕ} → 550 ≤ length before
        → PartDelivered (part_asked reasons (records_of gps tai utc) js ks ns order cursor (length before) (table_bytes table)) cursor before
        (pos 0) cursor' after
        → line_listing s rows gps tai utc ≡ answer text
    counted-whole {before} {cursor'} {after} enough d =
        taken-whole reasons s told rows gps tai utc gps-short tai-short utc-short o.out o.work1 o.work2 as_long o.many answered
        kept-so enough (subst (λ (a : List ℕ → ℕ → Outcome Step). PartDelivered (a cursor (length before)) cursor before (pos 0) cursor' after) same d)
