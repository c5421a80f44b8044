-- The part from a cursor on: by its case, and what the calls leave. Assumes nothing.
use Rattle.std.proofs.Common.{◌≡◌, ℕ, zero, suc, ◌+◌, ◌-◌, ◌%◌, ◌<◌, ◌≤◌, Bool, true, false, cond, eqb, leb, List, [], ◌++◌, length, drop, sym, refl, ap, ◌∙◌}
use Rattle.std.proofs.Common.{subst, arith, eq-eqb, ne_eqb, le-leb, leb-true}
use borrow.Author.Tests.{lt-leb}
use Rattle.std.specs.Prelude.{Result, Ok, Err, IsErrAnd}
use Rattle.refusals.specs.Refusal.{refusal_number}
use Rattle.refusals.specs.declared.Refusal.{Refusal}
use Rattle.refusals.specs.Outcome.{Outcome, answer, refusal, onward, outcome, number_said}
use Rattle.refusals.proofs.Handed.{handed_on, number_low}
use Rattle.numerals.specs.digits.Placed.{pasted}
use Rattle.numerals.proofs.digits.Places.{placed-as, nothing}
use Rattle.leap_table.specs.rows.Table.{Row}
use Rattle.leap_table.specs.rows.Announced.{unless_refused}
use Rattle.utc.specs.text.Answer.{buffer_after}
use Rattle.utc.specs.iso_texts.TextCall.{buffer_holds}
use Rattle.line_listing.specs.declared.head.RunEnd.{RunEnd}
use Rattle.line_listing.specs.declared.lines.Part.{Part}
use Rattle.line_listing.specs.head.Head.{head_text, end_text}
use Rattle.line_listing.specs.head.Asked.{PlacedIn}
use Rattle.line_listing.specs.lines.StampLine.{Stamps}
use Rattle.line_listing.specs.lines.Parts.{lines_of_order, listed_lines, textless_from, listed_count, listed_part, places_there, absent_refusal}
use Rattle.line_listing.specs.lines.Asked.{LinesPlaced}
use Rattle.line_listing.specs.listing.Part.{Step, step, ordered_of, head_step, lines_step, end_step, part_from, listing_refusal, step_answered, ListingCall}
use Rattle.line_listing.specs.listing.Asked.{StepWritten}

-- ---- each kind of part
pub head_stepped : (gps tai utc : RunEnd) (all : Stamps) (textless : ℕ) (before after : List ℕ) (w : ℕ) → 550 ≤ length before
    → PlacedIn before 0 (head_text gps tai utc all) 550 w after
    → StepWritten (head_step gps tai utc all textless) before (record { written = w; line = 1; textless = textless }) after
unfolding head_step
head_stepped gps tai utc all textless before after w h p =
    record { placed = p.placed; next = refl; counted = refl; within = omega (arith, p.within) }

pub end-stepped : (all : Stamps) (line textless many : ℕ) (before after : List ℕ) (w : ℕ) → many ≡ ordered_of all → 64 ≤ length before
    → PlacedIn before 0 (end_text many textless) 64 w after
    → StepWritten (end_step all line textless) before (record { written = w; line = line + 1; textless = textless }) after
unfolding end_step
end-stepped all line textless many before after w e h p =
    record { placed = placed-as (ap (λ (k : ℕ). end_text k textless) e) p.placed; next = refl; counted = refl; within = omega (arith, p.within) }

pub none-stepped : (line textless : ℕ) (before : List ℕ)
    → StepWritten (step [] line textless) before (record { written = 0; line = line; textless = textless }) before
none-stepped line textless before = record { placed = nothing before; next = refl; counted = refl; within = omega arith }

pub lines-stepped : (s : Bool) (rows : List Row) (all : Stamps) (order : List ℕ) (line textless : ℕ) (before after : List ℕ) (count : ℕ) (p : Part) (w : ℕ)
    → count ≡ listed_count s order (line - 1) (length before) → LinesPlaced s rows all order (line - 1) count before p after
    → w ≡ (textless + p.textless) % 18446744073709551616
    → StepWritten (lines_step s rows all order line textless (length before)) before (record { written = p.written; line = line + count; textless = w }) after
unfolding lines_step listed_part
lines-stepped s rows all order line textless before after count p w e q f = record {
  placed = placed-as (ap (listed_lines s rows all order (line - 1)) e) q.placed;
  next = ap (λ (k : ℕ). line + k) e;
  counted = f ∙ ap (λ (k : ℕ). (textless + k) % 18446744073709551616) (q.counted ∙ ap (textless_from rows all order (line - 1)) e);
  within = q.within;
}

-- ---- the part by its case
module _ (s : Bool) (rows : List Row) (gps tai utc : RunEnd) (all : Stamps) (order : List ℕ) (line textless room : ℕ) where
  pub at_head : line ≡ 0 → head_step gps tai utc all textless ≡ part_from s rows gps tai utc all order line textless room
  unfolding part_from
  at_head e = sym (rw (eq-eqb line 0 e))

  pub at_lines : (line ≡ 0 → ⊥) → line ≤ lines_of_order order
      → lines_step s rows all order line textless room ≡ part_from s rows gps tai utc all order line textless room
  unfolding part_from
  at_lines n h = sym (rw (ne_eqb line 0 n, le-leb line (lines_of_order order) h))

  pub at_end : line ≡ lines_of_order order + 1 → end_step all line textless ≡ part_from s rows gps tai utc all order line textless room
  unfolding part_from
  at_end e =
      let n : line ≡ 0 → ⊥ = λ q. let w : ⊥ = omega arith in w in
      sym (rw (ne_eqb line 0 n, lt-leb line (lines_of_order order) (omega arith), eq-eqb line (lines_of_order order + 1) e))

  pub at_nothing : lines_of_order order + 1 < line → step [] line textless ≡ part_from s rows gps tai utc all order line textless room
  unfolding part_from
  at_nothing h =
      let n : line ≡ 0 → ⊥ = λ q. let w : ⊥ = omega arith in w in
      let m : line ≡ lines_of_order order + 1 → ⊥ = λ q. let w : ⊥ = omega arith in w in
      sym (rw (ne_eqb line 0 n, lt-leb line (lines_of_order order) (omega arith), ne_eqb line (lines_of_order order + 1) m))

-- ---- the refusal
pub room-short : (room : ℕ) → room < 550 → ◌≡◌ {A = ℕ} 11 (cond (leb 550 room) 0 11)
room-short room h = sym (rw (lt-leb 550 room h))

pub room-there : (room : ℕ) → 550 ≤ room → ◌≡◌ {A = ℕ} 0 (cond (leb 550 room) 0 11)
room-there room h = sym (rw (le-leb 550 room h))

refused_on : (r : Result Unit Refusal) (k : Refusal) → IsErrAnd r (λ e. e ≡ k) → number_said r ≡ refusal_number k
unfolding number_said
refused_on (Err e) k p = ap refusal_number p
refused_on (Ok u) k p = absurd p

module _ (s : Bool) (n : ℕ) (order : List ℕ) (line room : ℕ) where
  pub no_lines_yet : (r : ℕ) → line ≡ 0 → r ≡ cond (leb 550 room) 0 11 → r ≡ listing_refusal s n order line room
  unfolding listing_refusal
  no_lines_yet r e f = f ∙ sym (rw (eq-eqb line 0 e))

  pub gone : (k : ℕ) → (line ≡ 0 → ⊥) → k ≡ absent_refusal s n order (line - 1) room → (k ≡ 0 → ⊥) → 18 ≡ listing_refusal s n order line room
  unfolding listing_refusal
  gone k h e m = sym (rw (ne_eqb line 0 h, sym e, ne_eqb k 0 m))

  pub all_there : (k r : ℕ) → (line ≡ 0 → ⊥) → k ≡ absent_refusal s n order (line - 1) room → k ≡ 0 → r ≡ cond (leb 550 room) 0 11
      → r ≡ listing_refusal s n order line room
  unfolding listing_refusal
  all_there k r h e z f = f ∙ sym (rw (ne_eqb line 0 h, sym e, eq-eqb k 0 z))

  -- 18 that `?` hands on
  pub gone-on : (r : Result Unit Refusal) (k : Refusal) → (line ≡ 0 → ⊥) → number_said {A = Unit} (Err k) ≡ absent_refusal s n order (line - 1) room
      → IsErrAnd r (λ e. e ≡ k) → number_said r ≡ listing_refusal s n order line room
  unfolding absent_refusal number_said
  gone-on r k h e p =
      refused_on r k p ∙ eighteen (places_there order n (line - 1) (listed_count s order (line - 1) room)) e
      ∙ gone (refusal_number k) h e (λ z. let w : ⊥ = omega (arith, z, number_low k) in w)
    where
      eighteen : (b : Bool) → refusal_number k ≡ cond b 0 18 → refusal_number k ≡ 18
      eighteen true z = let w : ⊥ = omega (arith, z, number_low k) in absurd w
      eighteen false z = z

  -- a part that is not refused has room
  pub room_for : (k : ℕ) → k ≡ listing_refusal s n order line room → k ≡ 0 → 550 ≤ room
  unfolding listing_refusal
  room_for k e z = go (eqb (cond (eqb line 0) 0 (absent_refusal s n order (line - 1) room)) 0) (leb 550 room) refl (sym z ∙ e)
    where
      go : (a b : Bool) → leb 550 room ≡ b → ◌≡◌ {A = ℕ} 0 (cond a (cond b 0 11) 18) → 550 ≤ room
      go true true q w = leb-true 550 room q
      go true false q w = let x : ⊥ = omega (arith, w) in absurd x
      go false b q w = let x : ⊥ = omega (arith, w) in absurd x

-- ---- an answer is not a refusal
not_lines : {A : Type 0} (r : Result Part Refusal) (k : Refusal) (p : Part) → IsErrAnd r (λ e. e ≡ k) → r ≡ Ok p → A
not_lines (Err e) k p h q = cc
not_lines (Ok a) k p h q = absurd h

one-lines : (p q : Part) → ◌≡◌ {A = Result Part Refusal} (Ok p) (Ok q) → p ≡ q
unfolding outcome
one-lines p q e = let z : answer p ≡ answer q = ap outcome e in cc z

unless_is : {A : Type 0} (n : ℕ) (a : A) → 1 ≤ n → refusal n ≡ unless_refused n a
unless_is zero a h = let w : ⊥ = omega arith in absurd w
unless_is (suc n) a h = refl

-- ---- the call
module _ (s : Bool) (rows : List Row) (gps tai utc : RunEnd) (all : Stamps) (order : List ℕ) (line textless : ℕ) (before : List ℕ) where
  abbrev part : Step
  part = part_from s rows gps tai utc all order line textless (length before)

  pub call-refused : (r : Result Part Refusal) (k : Refusal) → number_said {A = Unit} (Err k) ≡ listing_refusal s (length all.numbers) order line
      (length before)
      → IsErrAnd r (λ e. e ≡ k) → ListingCall s (answer rows) gps tai utc all order line textless before r before
  unfolding number_said onward buffer_holds
  call-refused r k e p = record {
    says = handed_on r k p ∙ unless_is (refusal_number k) (step_answered part) (number_low k) ∙ ap (λ (j : ℕ). unless_refused j (step_answered part)) e;
    holds = ap (λ (o : Outcome (List ℕ)). buffer_holds o before)
        (unless_is (refusal_number k) part.bytes (number_low k) ∙ ap (λ (j : ℕ). unless_refused j part.bytes) e);
    fits = λ q w. not_lines r k q p w;
  }

  pub call-done : (st : Step) (r : Part) (after : List ℕ) → 0 ≡ listing_refusal s (length all.numbers) order line (length before)
      → st ≡ part_from s rows gps tai utc all order line textless (length before) → StepWritten st before r after
      → ListingCall s (answer rows) gps tai utc all order line textless before (Ok r) after
  unfolding outcome onward buffer_holds buffer_after pasted
  call-done st r after e same p =
      let z : 0 + length st.bytes ≡ length st.bytes = omega arith in
      let fits : length st.bytes ≤ length before = omega (arith, p.placed.ends, p.within) in
      record {
        says = (λ i. answer (record { written = (p.placed.ends ∙ z) i; line = p.next i; textless = p.counted i }))
            ∙ ap (λ (x : Step). answer (step_answered x)) same
            ∙ ap (λ (j : ℕ). unless_refused j (step_answered part)) e;
        holds = p.placed.holds ∙ ap (λ (j : ℕ). st.bytes ++ drop j before) z
            ∙ sym (rw (le-leb (length st.bytes) (length before) fits) refl)
            ∙ ap (λ (x : Step). buffer_holds (answer x.bytes) before) same
            ∙ ap (λ (j : ℕ). buffer_holds (unless_refused j part.bytes) before) e;
        fits = λ q i. subst (λ (x : Part). x.written ≤ length before) (one-lines r q i) p.within;
      }

  -- the table is refused before that
  pub table-refused : (o : Outcome (List Row)) (r : Result Part Refusal) (k : Refusal) → refusal (refusal_number k) ≡ o → IsErrAnd r (λ e. e ≡ k)
      → ListingCall s o gps tai utc all order line textless before r before
  unfolding onward buffer_holds
  table-refused o r k e p =
      subst (λ (x : Outcome (List Row)). ListingCall s x gps tai utc all order line textless before r before) e
      (record { says = handed_on r k p; holds = refl; fits = λ q w. not_lines r k q p w })

  pub table_taken : (o : Outcome (List Row)) (r : Result Part Refusal) (after : List ℕ) → answer rows ≡ o
      → ListingCall s (answer rows) gps tai utc all order line textless before r after
      → ListingCall s o gps tai utc all order line textless before r after
  table_taken o r after e p = subst (λ (x : Outcome (List Row)). ListingCall s x gps tai utc all order line textless before r after) e p
