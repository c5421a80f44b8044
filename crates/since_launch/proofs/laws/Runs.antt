-- WHAT A RUN MEANS, for every run of every length: when the call is answered, each stamp's milliseconds and number, the count, and the stamps that are not
-- finite. Assumes nothing.
use Prim.Native.Nat.{ℕ, ◌*◌, ◌/◌, ◌%◌, ◌<◌, ◌≤◌}
use native.Mathlib.Omega.{arith}
use mathlib.Core.Path.{◌≡◌, refl, sym, ap, subst, ◌∙◌}
use mathlib.Core.Logic.{◌⊎◌, inl, inr}
use mathlib.Core.Bool.{Bool, true, false, cond, ◌&&◌}
use mathlib.Core.List.{List}
use lib.Dec.{eqb}
use lib.ListN.{length, get_or}
use lib.Ieee.{binary64, of_bits}
use lib.Ieee.Scale.{finite}
use borrow.Author.Tests.{eq-eqb}
use Rattle.refusals.specs.Outcome.{Outcome, answer, refusal, onward}
use Rattle.floats.specs.ExponentField.{exponent_field}
use Rattle.floats.proofs.ExponentField.{field_not_finite}
use Rattle.numerals.specs.little_endian.LittleEndian.{u64_at, eight_bytes}
use Rattle.numerals.specs.little_endian.Written.{all_bytes}
use Rattle.numerals.proofs.little_endian.Items.{written-length}
use Rattle.julian.specs.declared.JulianDate.{JulianDate}
use Rattle.julian.specs.JulianDate.{julian}
use Rattle.julian.specs.Finite.{finite_parts, finite_jd}
use Rattle.julian.specs.stamp_lists.Stamps.{stamp_of}
use Rattle.julian.proofs.stamp_lists.Written.{stamp-of-lists}
use Rattle.since_launch.specs.declared.Place.{Place}
use Rattle.since_launch.specs.Millis.{place_in, place_at, units_of, count_of, since_launch, millis_from_to}
use Rattle.since_launch.specs.Run.{stamp_millis, millis_number_byte, MillisCall, millis_call, millis_written, run_lengths_refusal, millis_by}
use Rattle.since_launch.specs.Run.{millis_from, millis_of_run}
use Rattle.since_launch.specs.laws.RunDone.{MillisDone, MillisSpareStays, millis_not_zero, RunLengthsDue}
use Rattle.since_launch.proofs.Calls.{fitting, none-refused}
use Rattle.since_launch.proofs.laws.Refusing.{numbers-given}
use Rattle.since_launch.proofs.laws.RunBytes.{all-beyond, answered-at, refused-at, numbers-beyond, number-at, counted}

-- ---- ANSWERED EXACTLY WHEN the parts are n of each, with room for n results and n numbers
module _ (size1 size2 room1 room2 : ℕ) where
  pub due_answered : (n : ℕ) → RunLengthsDue n size1 size2 room1 room2 → run_lengths_refusal size1 size2 room1 room2 ≡ 0
  due_answered n d =
      let w : size1 % 8 ≡ 0 = omega (arith, d.first) in
      let w2 : size2 % 8 ≡ 0 = omega (arith, d.second) in
      let s : size1 ≡ size2 = omega (arith, d.first, d.second) in
      let q : size1 / 8 ≡ n = omega (arith, d.first) in
      sym (none-refused size1 size2 room1 room2 w w2 s (omega (arith, d.first, d.places)) (omega (arith, d.bytes)))

  pub answered-due : run_lengths_refusal size1 size2 room1 room2 ≡ 0 → RunLengthsDue (size1 / 8) size1 size2 room1 room2
  answered-due z =
      let f = fitting size1 size2 room1 room2 z in
      record {
        first = omega (arith, f.whole1);
        second = omega (arith, f.whole1, f.same);
        places = omega (arith, f.whole1, f.places);
        bytes = f.bytes;
      }

-- a witness at each end: one stamp, and nine million; then the order, by lengths that break each rule and all behind it
pub refusals_in_order :
    (run_lengths_refusal 8 8 8 1 ≡ 0) × (run_lengths_refusal 8 8 7 1 ≡ 11) × (run_lengths_refusal 8 8 8 0 ≡ 11)
    × (run_lengths_refusal 72000000 72000000 72000000 9000000 ≡ 0) × (run_lengths_refusal 72000000 72000000 71999999 9000000 ≡ 11)
    × (run_lengths_refusal 72000000 72000000 72000000 8999999 ≡ 11) × (run_lengths_refusal 0 0 0 0 ≡ 0)
    × (run_lengths_refusal 7 0 0 0 ≡ 14) × (run_lengths_refusal 8 15 0 0 ≡ 14) × (run_lengths_refusal 8 0 0 0 ≡ 12) × (run_lengths_refusal 8 16 0 0 ≡ 12)
unfolding run_lengths_refusal
refusals_in_order = (refl, refl, refl, refl, refl, refl, refl, refl, refl, refl, refl)

-- ---- A REFUSED CALL writes nothing
by-writes-nothing : (p : Place) (js ks out numbers : List ℕ) (k : ℕ) → (millis_by p js ks out numbers).answer ≡ refusal k
    → millis_by p js ks out numbers ≡ millis_call (refusal k) out numbers
unfolding millis_by millis_written
by-writes-nothing p js ks out numbers k e = go (eqb (run_lengths_refusal (length js) (length ks) (length out) (length numbers)) 0) e
  where
    go : (b : Bool) → (cond b (millis_written (stamp_millis p js ks) (length js / 8) out numbers)
        (millis_call (refusal (run_lengths_refusal (length js) (length ks) (length out) (length numbers))) out numbers)).answer ≡ refusal k
        → cond b (millis_written (stamp_millis p js ks) (length js / 8) out numbers)
        (millis_call (refusal (run_lengths_refusal (length js) (length ks) (length out) (length numbers))) out numbers) ≡ millis_call (refusal k) out numbers
    go true q = let z : ◌≡◌ {A = ℕ} 0 1 = cc q in let w : ⊥ = omega arith in absurd w
    go false q = ap (λ (x : Outcome ℕ). millis_call x out numbers) q

pub refused-writes-nothing : (from : JulianDate) (js ks out numbers : List ℕ) (k : ℕ) → (millis_of_run from js ks out numbers).answer ≡ refusal k
    → millis_of_run from js ks out numbers ≡ millis_call (refusal k) out numbers
unfolding millis_of_run millis_from
refused-writes-nothing from js ks out numbers k e = go (place_at from) e
  where
    go : (o : Outcome Place) → (millis_from o js ks out numbers).answer ≡ refusal k → millis_from o js ks out numbers ≡ millis_call (refusal k) out numbers
    go (answer p) q = by-writes-nothing p js ks out numbers k q
    go (refusal m) q = ap (λ (x : Outcome ℕ). millis_call x out numbers) q

-- the launch first: its 9 or 6 is that of the whole call, whatever the lengths
pub launch-first : (from : JulianDate) (js ks out numbers : List ℕ) (k : ℕ) → place_at from ≡ refusal k
    → millis_of_run from js ks out numbers ≡ millis_call (refusal k) out numbers
unfolding millis_of_run millis_from
launch-first from js ks out numbers k e = rw e

-- ---- AS THE SINGLE CALL has it, from a launch that has a place
pub as_single : (from to : JulianDate) (p : Place) → place_at from ≡ answer p → since_launch p to ≡ millis_from_to from to
unfolding since_launch millis_from_to place_at finite_jd onward
as_single from to p e = go (finite_parts from) (finite_parts to) refl refl e
  where
    go : (b c : Bool) → finite_parts from ≡ b → finite_parts to ≡ c → onward (cond b (answer from) (refusal 9)) place_in ≡ answer p
        → onward (onward (cond c (answer to) (refusal 9)) place_in) (λ q. count_of (units_of p) (units_of q))
        ≡ cond (b && c) (onward (place_in from) (λ p. onward (place_in to) (λ q. count_of (units_of p) (units_of q)))) (refusal 9)
    go true true f g h = rw h
    go true false f g h = refl
    go false c f g h = let z : ◌≡◌ {A = ℕ} 0 1 = cc in absurd (omega arith)

-- ---- a call that is not refused, on n stamps
module _ (from : JulianDate) (p : Place) (launch : place_at from ≡ answer p) (js ks out numbers : List ℕ) (n : ℕ)
    (due : RunLengthsDue n (length js) (length ks) (length out) (length numbers)) where
  abbrev f : ℕ → Outcome ℕ
  f = stamp_millis p js ks

  abbrev call : MillisCall
  call = millis_of_run from js ks out numbers

  done : call ≡ millis_written f n out numbers
  unfolding millis_of_run millis_from millis_by
  done =
      let q : length js / 8 ≡ n = omega (arith, due.first) in
      rw (launch, eq-eqb _ 0 (due_answered (length js) (length ks) (length out) (length numbers) n due), q)

  -- the numbers 9, 6 and 18 are their bytes
  small-number : (i k : ℕ) → f i ≡ refusal k → k % 256 ≡ k
  small-number i k e = by (numbers-given from (stamp_of js ks i) k (sym (as_single from (stamp_of js ks i) p launch) ∙ e))
    where
      by : (k ≡ 9) ⊎ ((k ≡ 6) ⊎ (k ≡ 18)) → k % 256 ≡ k
      by (inl h) = omega arith
      by (inr (inl h)) = omega arith
      by (inr (inr h)) = omega arith

  written : (i : ℕ) → i < n → MillisDone (f i) i out (millis_written f n out numbers)
  unfolding millis_written millis_number_byte
  written i h = record {
    answered = λ m e. number-at f numbers n i h due.bytes ∙ ap millis_number_byte e;
    numbered = λ k e. number-at f numbers n i h due.bytes ∙ ap millis_number_byte e ∙ small-number i k e;
    written = λ m e k b. answered-at f out n i k h b m e due.places;
    stays = λ r e k b. refused-at f out n i k h b r e;
  }

  -- EACH STAMP's milliseconds are those of the single call from the same launch, at its place, with its number
  pub each-stamp : (i : ℕ) → i < n → MillisDone (millis_from_to from (stamp_of js ks i)) i out call
  each-stamp i h =
      subst (λ (o : Outcome ℕ). MillisDone o i out call) (as_single from (stamp_of js ks i) p launch) (subst (MillisDone (f i) i out) (sym done) (written i h))

  -- what lies behind the last stamp's places stays
  spare : MillisSpareStays n out numbers (millis_written f n out numbers)
  unfolding millis_written
  spare = record { first = λ j h. all-beyond f out n j h; second = λ j h. numbers-beyond f numbers n j h }

  pub spare-stays : MillisSpareStays n out numbers call
  spare-stays = subst (MillisSpareStays n out numbers) (sym done) spare

  -- THE COUNT is of the numbers that are not 0: the refused stamps, by `each-stamp`
  counts : (millis_written f n out numbers).answer ≡ answer (millis_not_zero n (millis_written f n out numbers).numbers)
  unfolding millis_written
  counts = ap answer (counted f numbers n n (omega arith) due.bytes)

  pub count-is : call.answer ≡ answer (millis_not_zero n call.numbers)
  count-is = subst (λ (c : MillisCall). c.answer ≡ answer (millis_not_zero n c.numbers)) (sym done) counts

  -- EVERY STAMP THAT IS NOT FINITE, by the bits of its parts, has number 9
  pub not_finite_numbered : (i : ℕ) → i < n → (exponent_field (u64_at js (8 * i)) ≡ 2047) ⊎ (exponent_field (u64_at ks (8 * i)) ≡ 2047)
      → get_or call.numbers i 0 ≡ 9
  unfolding stamp_of millis_from_to
  not_finite_numbered i h d = (each-stamp i h).numbered 9 (rw (by d))
    where
      last : (a b c : Bool) → (b ≡ false) ⊎ (c ≡ false) → a && (b && c) ≡ false
      last true b c (inl e) = rw e
      last true true c (inr e) = e
      last true false c (inr e) = refl
      last false b c e = refl

      by : (exponent_field (u64_at js (8 * i)) ≡ 2047) ⊎ (exponent_field (u64_at ks (8 * i)) ≡ 2047)
          → finite_parts from && (finite (of_bits binary64 (u64_at js (8 * i))) && finite (of_bits binary64 (u64_at ks (8 * i)))) ≡ false
      by (inl e) = last (finite_parts from) (finite (of_bits binary64 (u64_at js (8 * i)))) (finite (of_bits binary64 (u64_at ks (8 * i))))
          (inl (field_not_finite (u64_at js (8 * i)) e))
      by (inr e) = last (finite_parts from) (finite (of_bits binary64 (u64_at js (8 * i)))) (finite (of_bits binary64 (u64_at ks (8 * i))))
          (inr (field_not_finite (u64_at ks (8 * i)) e))

-- ---- PLACE BY PLACE against the writer: of two lists of n patterns that are written number by number, the milliseconds of place i are those of the date of
-- the i-th pattern of each
module _ (from : JulianDate) (p : Place) (launch : place_at from ≡ answer p) (js ks out numbers : List ℕ) (same : length ks ≡ length js)
    (places : 8 * length js ≤ length out) (bytes : length js ≤ length numbers) where
  abbrev all : List ℕ → List ℕ
  all l = all_bytes eight_bytes l

  lists-due : RunLengthsDue (length js) (length (all js)) (length (all ks)) (length out) (length numbers)
  lists-due = record {
    first = written-length eight_bytes 8 (λ x. refl) js;
    second = written-length eight_bytes 8 (λ x. refl) ks ∙ ap (λ (m : ℕ). 8 * m) same;
    places = places;
    bytes = bytes;
  }

  pub stamp-of-list : (i : ℕ) → i < length js → get_or js i 0 < 18446744073709551616 → get_or ks i 0 < 18446744073709551616
      → MillisDone (millis_from_to from (julian (of_bits binary64 (get_or js i 0)) (of_bits binary64 (get_or ks i 0)))) i out
      (millis_of_run from (all js) (all ks) out numbers)
  stamp-of-list i h small low =
      subst (λ (o : Outcome ℕ). MillisDone o i out (millis_of_run from (all js) (all ks) out numbers))
      (ap (millis_from_to from) (stamp-of-lists js ks i h (omega arith) small low))
      (each-stamp from p launch (all js) (all ks) out numbers (length js) lists-due i h)
