-- A PART OF THE LISTING OF THREE RECORDERS, for C: when it is answered, and by which number each other call is refused, in their order; and the cursor that an
-- answered call leaves is read back as the line and the count behind the part. Assumes nothing.
use Prim.Native.Nat.{ℕ, zero, suc, ◌+◌, ◌-◌, ◌≤◌, ◌<◌}
use native.Mathlib.Omega.{arith}
use mathlib.Core.Path.{◌≡◌, refl, sym, ap, ◌∙◌}
use mathlib.Core.Bool.{Bool, true, false, cond, ◌&&◌}
use mathlib.Core.List.{List, [], ◌∷◌, ◌++◌}
use lib.Dec.{eqb, leb, ltb}
use lib.IntN.{ℤ}
use lib.ListN.{length, take, drop, replicate, length-append, length-drop, drop_of_length-le}
use lib.Seq.{sets-eq, drop-drop, take_at, drop_at}
use borrow.Author.Tests.{eqb-true, eqb-false, leb-true, leb-false, ltb-true, ltb-false, le-leb, lt-leb}
use Rattle.refusals.specs.Outcome.{Outcome, answer, refusal, onward}
use Rattle.numerals.specs.digits.Decimal.{digits_in, digits_of}
use Rattle.numerals.specs.little_endian.LittleEndian.{four_at, u32_at, u64_at, eight_bytes, with_nth64}
use Rattle.numerals.proofs.little_endian.RoundTrip.{read-written}
use Rattle.numerals.proofs.little_endian.Puts.{put-64-is}
use Rattle.leap_table.specs.rows.Table.{Row}
use Rattle.leap_table.specs.rows.Announced.{unless_refused}
use Rattle.utc.specs.text.Ascii.{ascii_bytes}
use Rattle.utc.specs.text.Answer.{buffer_after}
use Rattle.utc.specs.iso_texts.TextCall.{buffer_holds}
use Rattle.c_answers.specs.Delivery.{code}
use Rattle.line_listing.specs.lines.StampLine.{stamps, line_in_order}
use Rattle.line_listing.specs.lines.Parts.{listed_count, places_there, absent_refusal}
use Rattle.line_listing.specs.head.Counts.{not_finite, kind_at, kinds_in, first_end, second_end}
use Rattle.line_listing.specs.head.Head as H
use Rattle.line_listing.specs.head.Head.{block_end, run_line, run_if_named, one_if_named, head_text}
use Rattle.line_listing.specs.listing.Part.{Step, step, head_step, part_from, listing_refusal}
use Rattle.line_listing.proofs.listing.Steps as L
use Rattle.capi.specs.SummaryDelivery.{run_record, eight_for_each, runs_refusal}
use Rattle.capi.specs.LineListingDelivery.{asked_refusal, part_asked, cursor_moved, PartDelivered}
use Rattle.capi.specs.laws.Summary as R
use Rattle.capi.specs.laws.LineListing.{ToldBy, numbers_alone, with_sentences, Fitting, StampGone, PartDecision, table-first, other_reasons, other_cursor}
use Rattle.capi.specs.laws.LineListing.{other_records, other_lists, stamp_gone, no_room, part_told, PartRead}
use Rattle.capi.proofs.laws.Summary.{runs-decided}

-- ---- THE ORDER of the arguments' refusals, by calls that break each rule and all behind it; the nearest that fit beside those that do not. One stamp in GPS,
-- one in TAI, two in UTC
abbrev counted : ℕ → List ℕ
counted n = eight_bytes n ++ (eight_bytes 0 ++ (eight_bytes 0 ++ eight_bytes 1))

abbrev four-stamps : List ℕ
four-stamps = counted 1 ++ (counted 1 ++ counted 2)

pub asked_in_order : (asked_refusal 2 (replicate 95 0) 1 1 1 15 ≡ 18) × (asked_refusal 1 (replicate 95 0) 1 1 1 15 ≡ 14)
    × (asked_refusal 0 four-stamps 32 32 4 15 ≡ 14) × (asked_refusal 0 four-stamps 32 32 4 17 ≡ 14) × (asked_refusal 1 (replicate 95 0) 0 0 0 16 ≡ 14)
    × (asked_refusal 1 (replicate 97 0) 0 0 0 16 ≡ 14) × (asked_refusal 0 four-stamps 31 32 4 16 ≡ 12) × (asked_refusal 0 four-stamps 24 32 4 16 ≡ 12)
    × (asked_refusal 0 four-stamps 32 33 4 16 ≡ 12) × (asked_refusal 0 four-stamps 32 40 4 16 ≡ 12) × (asked_refusal 0 four-stamps 24 24 3 16 ≡ 12)
    × (asked_refusal 0 four-stamps 40 40 5 16 ≡ 12) × (asked_refusal 0 four-stamps 32 32 4 16 ≡ 0) × (asked_refusal 1 four-stamps 32 32 4 16 ≡ 0)
    × (asked_refusal 2 four-stamps 32 32 4 16 ≡ 18)
unfolding asked_refusal runs_refusal eight_for_each u64_at four_at
asked_in_order = (refl, refl, refl, refl, refl, refl, refl, refl, refl, refl, refl, refl, refl, refl, refl)

-- ---- whether a line of the part names a stamp that is not there
one-gone : (order : List ℕ) (n line k : ℕ) → places_there order n line k ≡ false → (i : ℕ) × (i < k) × (n ≤ line_in_order order (line + i))
unfolding places_there
one-gone order n line zero e = let z : ◌≡◌ {A = ℕ} 1 0 = ap (λ (x : Bool). cond x 1 0) e in let w : ⊥ = omega arith in absurd w
one-gone order n line (suc k) e = by (one-gone order n line k) (places_there order n line k) (ltb (line_in_order order (line + k)) n) refl refl e
  where
    by : (places_there order n line k ≡ false → (i : ℕ) × (i < k) × (n ≤ line_in_order order (line + i))) → (a b : Bool) → places_there order n line k ≡ a
        → ltb (line_in_order order (line + k)) n ≡ b → a && b ≡ false → (i : ℕ) × (i < suc k) × (n ≤ line_in_order order (line + i))
    by before false b p q r = let (i, h, g) = before p in (i, omega arith, g)
    by before true false p q r = (k, omega arith, ltb-false _ _ q)
    by before true true p q r = let z : ◌≡◌ {A = ℕ} 1 0 = ap (λ (x : Bool). cond x 1 0) r in let w : ⊥ = omega arith in absurd w

none-gone : (order : List ℕ) (n line k : ℕ) → places_there order n line k ≡ true → (i : ℕ) → i < k → line_in_order order (line + i) < n
unfolding places_there
none-gone order n line zero e i h = let w : ⊥ = omega arith in absurd w
none-gone order n line (suc k) e i h =
    by (none-gone order n line k) (places_there order n line k) (ltb (line_in_order order (line + k)) n) (ltb i k) refl refl refl e
  where
    by : (places_there order n line k ≡ true → (i : ℕ) → i < k → line_in_order order (line + i) < n) → (a b c : Bool) → places_there order n line k ≡ a
        → ltb (line_in_order order (line + k)) n ≡ b → ltb i k ≡ c → a && b ≡ true → line_in_order order (line + i) < n
    by before true true true p q r t = before p i (ltb-true _ _ r)
    by before true true false p q r t =
        let j : i ≡ k = omega (arith, ltb-false i k r) in
        let g : line_in_order order (line + k) < n = ltb-true _ _ q in
        rw j g
    by before true false c p q r t = let z : ◌≡◌ {A = ℕ} 1 0 = ap (λ (x : Bool). cond x 0 1) t in let w : ⊥ = omega arith in absurd w
    by before false b c p q r t = let z : ◌≡◌ {A = ℕ} 1 0 = ap (λ (x : Bool). cond x 0 1) t in let w : ⊥ = omega arith in absurd w

-- the part's own number, behind the arguments'
data OwnNumber (s : Bool) (n : ℕ) (order : List ℕ) (line room k : ℕ) : Type 0 where
  own-gone : StampGone s n order line room → k ≡ 18 → OwnNumber s n order line room k
  own_room : (StampGone s n order line room → ⊥) → room < 550 → k ≡ 11 → OwnNumber s n order line room k
  own-none : (StampGone s n order line room → ⊥) → 550 ≤ room → k ≡ 0 → OwnNumber s n order line room k

own-decided : (s : Bool) (n : ℕ) (order : List ℕ) (line room : ℕ) → OwnNumber s n order line room (listing_refusal s n order line room)
unfolding absent_refusal
own-decided s n order zero room = by (leb 550 room) refl
  where
    none : StampGone s n order zero room → ⊥
    none g = omega (arith, g.behind_head)

    by : (b : Bool) → leb 550 room ≡ b → OwnNumber s n order zero room (listing_refusal s n order zero room)
    by true e = own-none none (leb-true _ _ e) (sym (L.no_lines_yet s n order zero room 0 refl (L.room-there room (leb-true _ _ e))))
    by false e = own_room none (leb-false _ _ e) (sym (L.no_lines_yet s n order zero room 11 refl (L.room-short room (leb-false _ _ e))))
own-decided s n order (suc m) room = by (places_there order n (suc m - 1) count) (leb 550 room) refl refl
  where
    count : ℕ
    count = listed_count s order (suc m - 1) room

    some : suc m ≡ 0 → ⊥
    some q = omega (arith, q)

    by : (a b : Bool) → places_there order n (suc m - 1) count ≡ a → leb 550 room ≡ b → OwnNumber s n order (suc m) room
        (listing_refusal s n order (suc m) room)
    by false b p q =
        let (i, h, g) = one-gone order n (suc m - 1) count p in
        own-gone (record { behind_head = omega arith; which = i; in_part = h; gone = g })
        (sym (L.gone s n order (suc m) room 18 some (sym (ap (λ (x : Bool). cond {A = ℕ} x 0 18) p)) (λ z. let w : ⊥ = omega (arith, z) in w)))
    by true b p q = there b q
      where
        none : StampGone s n order (suc m) room → ⊥
        none g = omega (arith, none-gone order n (suc m - 1) count p g.which g.in_part, g.gone)

        absent : ◌≡◌ {A = ℕ} 0 (absent_refusal s n order (suc m - 1) room)
        absent = sym (ap (λ (x : Bool). cond {A = ℕ} x 0 18) p)

        there : (b : Bool) → leb 550 room ≡ b → OwnNumber s n order (suc m) room (listing_refusal s n order (suc m) room)
        there true e = own-none none (leb-true _ _ e) (sym (L.all_there s n order (suc m) room 0 0 some absent refl (L.room-there room (leb-true _ _ e))))
        there false e = own_room none (leb-false _ _ e) (sym (L.all_there s n order (suc m) room 0 11 some absent refl (L.room-short room (leb-false _ _ e))))

-- ---- WHEN A PART IS ANSWERED, and the order of the refusals: the table's, 18, 14, 14, 12, and the part's own, 18 and 11
module _ (runs js ks ns order cursor : List ℕ) (room : ℕ) where
  abbrev Found : ℕ → List Row → Outcome Step → Type 0
  Found reasons rows = PartDecision reasons runs js ks ns order cursor room (answer rows)

  -- the part, where the arguments' number is k and its own is l
  abbrev made : Bool → List Row → ℕ → ℕ → Outcome Step
  made s rows k l =
      onward (unless_refused k rows) (λ same. unless_refused l
      (part_from s same (run_record runs 0) (run_record runs 32) (run_record runs 64) (stamps js ks ns (u64_at runs 0) (u64_at runs 32)) order
      (u64_at cursor 0) (u64_at cursor 8) room))

  own : (reasons : ℕ) (s : Bool) (rows : List Row) → Fitting reasons s runs js ks ns cursor → (l : ℕ)
      → OwnNumber s (length ns) order (u64_at cursor 0) room l → Found reasons rows (made s rows 0 l)
  unfolding onward
  own reasons s rows f l (own-gone g e) = stamp_gone rows s refl f g (ap (made s rows 0) e)
  own reasons s rows f l (own_room g h e) = no_room rows s refl f g h (ap (made s rows 0) e)
  own reasons s rows f l (own-none g h e) = part_told rows s refl f g h (ap (made s rows 0) e)

  with_runs : (reasons : ℕ) (s : Bool) (rows : List Row) → ToldBy reasons s → reasons ≤ 1 → length cursor ≡ 16 → (k : ℕ) → R.RunsDecision runs js ks ns k
      → Found reasons rows (made s rows k (listing_refusal s (length ns) order (u64_at cursor 0) room))
  unfolding onward
  with_runs reasons s rows t h c k (R.other_records n e) =
      other_records rows refl h c n (ap (λ (x : ℕ). made s rows x (listing_refusal s (length ns) order (u64_at cursor 0) room)) e)
  with_runs reasons s rows t h c k (R.other_lists r n e) =
      other_lists rows refl h c r n (ap (λ (x : ℕ). made s rows x (listing_refusal s (length ns) order (u64_at cursor 0) room)) e)
  with_runs reasons s rows t h c k (R.lists_fit r f e) =
      rw e (own reasons s rows (record { told = t; cursor_long = c; records = r; lists = f }) (listing_refusal s (length ns) order (u64_at cursor 0) room)
      (own-decided s (length ns) order (u64_at cursor 0) room))

  with_cursor : (reasons : ℕ) (s : Bool) (rows : List Row) → ToldBy reasons s → reasons ≤ 1 → (b : Bool) → eqb (length cursor) 16 ≡ b
      → Found reasons rows (made s rows (cond b (runs_refusal runs (length js) (length ks) (length ns)) 14)
      (listing_refusal s (length ns) order (u64_at cursor 0) room))
  unfolding onward
  with_cursor reasons s rows t h true e =
      with_runs reasons s rows t h (eqb-true _ _ e) (runs_refusal runs (length js) (length ks) (length ns)) (runs-decided runs js ks ns)
  with_cursor reasons s rows t h false e = other_cursor rows refl h (eqb-false _ _ e) refl

  pub part-decided : (reasons : ℕ) (table : Outcome (List Row))
      → PartDecision reasons runs js ks ns order cursor room table (part_asked reasons runs js ks ns order cursor room table)
  unfolding part_asked asked_refusal onward
  part-decided reasons (refusal k) = table-first k refl refl
  part-decided reasons (answer rows) = by reasons
    where
      by : (reasons : ℕ) → Found reasons rows (part_asked reasons runs js ks ns order cursor room (answer rows))
      by zero = with_cursor 0 false rows numbers_alone (omega arith) (eqb (length cursor) 16) refl
      by (suc zero) = with_cursor 1 true rows with_sentences (omega arith) (eqb (length cursor) 16) refl
      by (suc (suc m)) = other_reasons rows refl (omega arith) (rw (lt-leb (suc (suc m)) 1 (omega arith)))

-- ---- THE CURSOR IS READ BACK: the line and the count behind the part, of 64 bits each
module _ (step : Step) (cursor : List ℕ) (long : length cursor ≡ 16) where
  moved-is : cursor_moved (answer step) cursor ≡ eight_bytes step.line ++ eight_bytes step.textless
  unfolding cursor_moved
  moved-is =
      let a = step.line in
      let b = step.textless in
      let one : with_nth64 cursor 0 a ≡ eight_bytes a ++ drop 8 cursor = put-64-is cursor 0 a (omega arith) ∙ sets-eq (eight_bytes a) cursor 0 (omega arith) in
      let rest : drop 16 cursor ≡ [] = drop_of_length-le cursor {i = 16} (omega arith) in
      ap (λ (l : List ℕ). with_nth64 l 1 b) one ∙ two a b rest
    where
      two : (a b : ℕ) → drop 16 cursor ≡ [] → with_nth64 (eight_bytes a ++ drop 8 cursor) 1 b ≡ eight_bytes a ++ eight_bytes b
      two a b rest =
          let l = eight_bytes a ++ drop 8 cursor in
          let e = length-append (eight_bytes a) (drop 8 cursor) in
          let f = length-drop 8 cursor in
          put-64-is l 1 b (omega (arith, e, f)) ∙ sets-eq (eight_bytes b) l 8 (omega (arith, e, f))
          ∙ ap (λ (x : List ℕ). (eight_bytes a ++ eight_bytes b) ++ x) (drop-drop 8 8 cursor ∙ rest)

  pub moved-long : length (cursor_moved (answer step) cursor) ≡ 16
  moved-long = ap length moved-is

  pub cursor_back : step.line < 18446744073709551616 → step.textless < 18446744073709551616
      → (u64_at (cursor_moved (answer step) cursor) 0 ≡ step.line) × (u64_at (cursor_moved (answer step) cursor) 8 ≡ step.textless)
  unfolding u64_at four_at
  cursor_back h g = (
    ap (λ (l : List ℕ). u64_at l 0) moved-is ∙ read-written step.line h,
    ap (λ (l : List ℕ). u64_at l 8) moved-is ∙ read-written step.textless g,
  )

-- byte by byte: line 258, which is 2 and 256, and a count of 3
pub cursor_bytes : cursor_moved (answer (step [] 258 3)) (replicate 16 7) ≡ 2 ∷ 1 ∷ 0 ∷ 0 ∷ 0 ∷ 0 ∷ 0 ∷ 0 ∷ 3 ∷ 0 ∷ 0 ∷ 0 ∷ 0 ∷ 0 ∷ 0 ∷ 0 ∷ []
unfolding cursor_moved with_nth64
cursor_bytes = refl

-- ---- THE FIRST PART, worked: two stamps in GPS, one of a run that is not named, one in UTC, each record with its own blocks and refusal
abbrev one-run : ℕ → ℕ → ℕ → ℕ → List ℕ
one-run n blocks refused named = eight_bytes n ++ (eight_bytes blocks ++ (eight_bytes refused ++ eight_bytes named))

pub head-told : (rows : List Row) → part_asked 0 (one-run 2 5 0 1 ++ (one-run 1 6 12 0 ++ one-run 1 7 14 1)) (replicate 32 0) (replicate 32 0)
    (17 ∷ 0 ∷ 17 ∷ 17 ∷ []) [] (replicate 16 0) 550 (answer rows)
    ≡ answer (step (ascii_bytes "line up 2 runs\ngps 2 not finite 0 refused 0 left out 1\nutc 1 not finite 0 refused 0 left out 1 block 7 refused 14\n") 1 0)
unfolding part_asked onward asked_refusal runs_refusal eight_for_each listing_refusal part_from head_step head_text H.counted block_end run_line run_if_named
    one_if_named
    kinds_in kind_at not_finite first_end second_end run_record u64_at u32_at four_at digits_of digits_in
head-told rows = refl

-- ---- WHAT A CALLER HAS: of a refused call a number, and nothing is changed; of an answered one the part, and its cursor
module _ (o : Outcome Step) (cursor before : List ℕ) (r : ℤ) (cursor' after : List ℕ) (d : PartDelivered o cursor before r cursor' after) where
  pub refused-leaves : (k : ℕ) → o ≡ refusal k → (r ≡ code (refusal k)) × (cursor' ≡ cursor) × (after ≡ before)
  unfolding onward cursor_moved buffer_holds
  refused-leaves k e = (
    d.returned ∙ ap (λ (x : Outcome Step). code (onward x (λ s. answer (length s.bytes)))) e,
    d.moved ∙ ap (λ (x : Outcome Step). cursor_moved x cursor) e,
    d.written ∙ ap (λ (x : Outcome Step). buffer_holds (onward x (λ s. answer s.bytes)) before) e,
  )

  pub part-read : (part : Step) → o ≡ answer part → length cursor ≡ 16 → length part.bytes ≤ length before → part.line < 18446744073709551616
      → part.textless < 18446744073709551616 → PartRead part before r cursor' after
  unfolding onward buffer_holds buffer_after code
  part-read part e c h g f =
      let there : after ≡ part.bytes ++ drop (length part.bytes) before =
      d.written ∙ ap (λ (x : Outcome Step). buffer_holds (onward x (λ s. answer s.bytes)) before) e
      ∙ ap (λ (b : Bool). cond b (part.bytes ++ drop (length part.bytes) before) before) (le-leb _ _ h) in
      let moved : cursor' ≡ cursor_moved (answer part) cursor = d.moved ∙ ap (λ (x : Outcome Step). cursor_moved x cursor) e in
      let back = cursor_back part cursor c g f in
      record {
        many = d.returned ∙ ap (λ (x : Outcome Step). code (onward x (λ s. answer (length s.bytes)))) e;
        bytes = ap (take (length part.bytes)) there ∙ take_at part.bytes (drop (length part.bytes) before) (length part.bytes) refl;
        rest = ap (drop (length part.bytes)) there ∙ drop_at part.bytes (drop (length part.bytes) before) (length part.bytes) refl;
        line = ap (λ (l : List ℕ). u64_at l 0) moved ∙ back.0;
        textless = ap (λ (l : List ℕ). u64_at l 8) moved ∙ back.1;
      }
