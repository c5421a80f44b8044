-- THE CALL: what `place_readings` means, from its contract alone. Assumes nothing.
use Prim.Native.Nat.{ℕ, ◌-◌, ◌*◌, ◌/◌, ◌≤◌, ◌<◌}
use native.Mathlib.Omega.{arith}
use native.Mathlib.Decide.{dec_lt}
use mathlib.Core.Path.{◌≡◌, refl, sym, ap, subst, ◌∙◌}
use mathlib.Core.Bool.{Bool, true, false, ◌&&◌, true≢false}
use mathlib.Core.Logic.{◌↔◌}
use mathlib.Core.List.{List}
use lib.Dec.{eqb, leb}
use lib.ListN.{length, get_or, take, drop}
use lib.Seq.{take_all}
use borrow.Author.Tests.{eqb-true, eqb-false, leb-true, eq-eqb, ne_eqb, le-leb}
use Rattle.std.specs.Prelude.{Result, Ok}
use Rattle.refusals.specs.declared.Refusal.{Refusal}
use Rattle.refusals.specs.Outcome.{Outcome, answer, refusal, outcome}
use Rattle.numerals.specs.little_endian.LittleEndian.{u64_at}
use Rattle.numerals.proofs.little_endian.Parts.{eight_in_part}
use Rattle.numerals.proofs.little_endian.RoundTrip.{read-written}
use Rattle.ticks.specs.judging.Refusing.{number_at, numbers_in, whole_numbers, usable, both_rising, passes_refusal}
use Rattle.ticks.specs.Passes.{Passes, millis_at}
use Rattle.ticks.specs.Ticks.{passes_of}
use Rattle.ticks.specs.places.Places.{within, placed_reading, number_of, with_places, with_reading_numbers, without_place, reading_at}
use Rattle.ticks.specs.places.Places.{places_refusal, PlacesCall, places_call, readings_written, placed_run}
use Rattle.std.proofs.lemmas.Bool.{and_parts}
use Rattle.ticks.proofs.places.Ladder.{Taken, taken}
use Rattle.ticks.proofs.places.Puts.{is-kept, is-outside, is-placed, places-length, numbers-length}
use Rattle.ticks.specs.laws.Sound.{Sound, Inside, JustBelow}
use Rattle.ticks.specs.laws.Reasons.{WholeLists, HasPlaces, UsablePasses, RisingPasses}
use Rattle.ticks.specs.laws.Readings.{not_zeros, NumberEach, ReadingNumber, IsPlaced, ReadingsRight, ReadingsMeaning}
use Rattle.ticks.specs.laws.Slopes.{SlopeAtMost, NearExact, ReadingsNear}
use Rattle.ticks.proofs.laws.Slopes.{near-exact, near-each-other}
use Rattle.ticks.proofs.laws.Tests.{whole-test, usable-test, rising-test, sound-by}
use Rattle.ticks.proofs.laws.Steps.{Apart, Steps, steps, through}
use Rattle.ticks.proofs.laws.Exactly.{written_out}
use Rattle.ticks.proofs.laws.Laws.{on_line, at_a_pass, never-earlier, just_below}
use Rattle.ticks.proofs.laws.Blocks.{block, due, places_behind, places-at, number-at, counted}

-- ---- one reading
pub within-test : (p : Passes) (m : ℕ) → (within p m ≡ true) ↔ Inside p m
unfolding within
within-test p m = (to, fro)
  where
    to : leb (p.tick 0) m && leb m (p.tick (p.size - 1)) ≡ true → Inside p m
    to e = let x = and_parts (leb (p.tick 0) m) _ e in record { low = leb-true (p.tick 0) m x.0; high = leb-true m (p.tick (p.size - 1)) x.1 }

    fro : Inside p m → leb (p.tick 0) m && leb m (p.tick (p.size - 1)) ≡ true
    fro i = rw (le-leb (p.tick 0) m i.low) (le-leb m (p.tick (p.size - 1)) i.high)

-- what the answer of a reading is, which comes with a number at millisecond m
data Said (p : Passes) (number m : ℕ) (o : Outcome ℕ) : Type 0 where
  has-place : number ≡ 0 → Inside p m → o ≡ answer (millis_at p m) → Said p number m o
  lies_outside : number ≡ 0 → (Inside p m → ⊥) → o ≡ refusal 25 → Said p number m o
  keeps : (number ≡ 0 → ⊥) → o ≡ refusal number → Said p number m o

said : (p : Passes) (number m : ℕ) → Said p number m (placed_reading p number m)
said p number m = go (eqb number 0) (within p m) refl refl
  where
    go : (a b : Bool) → eqb number 0 ≡ a → within p m ≡ b → Said p number m (placed_reading p number m)
    go true true e w = has-place (eqb-true number 0 e) ((within-test p m).0 w) (is-placed p number m (eqb-true number 0 e) w)
    go true false e w = lies_outside (eqb-true number 0 e) (λ i. true≢false (sym ((within-test p m).1 i) ∙ w)) (is-outside p number m (eqb-true number 0 e) w)
    go false b e w = keeps (eqb-false number 0 e) (is-kept p number m (eqb-false number 0 e))

-- ---- the call
apart : Apart 14 12 11 23 24
apart = record {
  ab = λ z. omega arith;
  ac = λ z. omega arith;
  ad = λ z. omega arith;
  ae = λ z. omega arith;
  bc = λ z. omega arith;
  bd = λ z. omega arith;
  be = λ z. omega arith;
  cd = λ z. omega arith;
  ce = λ z. omega arith;
  de = λ z. omega arith;
  a0 = λ z. omega arith;
  b0 = λ z. omega arith;
  c0 = λ z. omega arith;
  d0 = λ z. omega arith;
  e0 = λ z. omega arith;
}

module _ (ps ls ms ns before ns' after : List ℕ) (r : Result ℕ Refusal) (call : places_call (outcome r) after ns' ≡ placed_run ps ls ms before ns) where
  abbrev k : ℕ
  k = places_refusal ps ls ms (length ns) (length before)

  abbrev f : ℕ → Outcome ℕ
  f = reading_at ps ls ms ns

  abbrev p : Passes
  p = passes_of ps ls

  is-refused : (k ≡ 0 → ⊥) → places_call (outcome r) after ns' ≡ places_call (refusal k) before ns
  unfolding placed_run
  is-refused h = call ∙ rw (ne_eqb k 0 h)

  is-written : k ≡ 0
      → places_call (outcome r) after ns' ≡ places_call (answer (without_place f (numbers_in ms))) (with_places f (numbers_in ms) before)
      (with_reading_numbers f (numbers_in ms) ns)
  unfolding placed_run readings_written
  is-written h = call ∙ rw (eq-eqb k 0 h)

  says : (o : Outcome ℕ) (out numbers : List ℕ) → places_call (outcome r) after ns' ≡ places_call o out numbers → outcome r ≡ o
  says o out numbers e = ap (λ (c : PlacesCall). c.answer) e

  called : (n : ℕ) → (n ≡ 0 → ⊥) → (outcome r ≡ refusal n) ↔ (k ≡ n)
  called n nz = (to (dec_lt 0 k), fro)
    where
      to : Dec (0 < k) → outcome r ≡ refusal n → k ≡ n
      to (yes z) e = let w : ◌≡◌ {A = Outcome ℕ} (refusal k) (refusal n) = sym (says _ _ _ (is-refused (λ y. omega arith))) ∙ e in cc
      to (no z) e = let w : answer (without_place f (numbers_in ms)) ≡ refusal n = sym (says _ _ _ (is-written (omega arith))) ∙ e in
          let y : ◌≡◌ {A = ℕ} 0 1 = cc in absurd (omega arith)

      fro : k ≡ n → outcome r ≡ refusal n
      fro e = says _ _ _ (is-refused (λ z. nz (sym e ∙ z))) ∙ ap refusal e

  answered-only : (n : ℕ) → r ≡ Ok n → k ≡ 0
  unfolding outcome
  answered-only n e = go (dec_lt 0 k)
    where
      go : Dec (0 < k) → k ≡ 0
      go (yes z) = let w : refusal k ≡ answer n = sym (says _ _ _ (is-refused (λ y. omega arith))) ∙ ap outcome e in
          let y : ◌≡◌ {A = ℕ} 0 1 = cc in absurd (omega arith)
      go (no z) = omega arith

  unchanged : (n : ℕ) → outcome r ≡ refusal n → (ns' ≡ ns) × (after ≡ before)
  unchanged n e = go (dec_lt 0 k)
    where
      go : Dec (0 < k) → (ns' ≡ ns) × (after ≡ before)
      go (yes z) = let w = is-refused (λ y. omega arith) in (ap (λ (c : PlacesCall). c.numbers) w, ap (λ (c : PlacesCall). c.out) w)
      go (no z) = let w : answer (without_place f (numbers_in ms)) ≡ refusal n = sym (says _ _ _ (is-written (omega arith))) ∙ e in
          let y : ◌≡◌ {A = ℕ} 0 1 = cc in absurd (omega arith)

  module _ (z : k ≡ 0) where
    t : Taken ps ls ms (length ns) (length before)
    t = taken ps ls ms (length ns) (length before) z

    room : 8 * numbers_in ms ≤ length before
    room = omega (arith, t.fits)

    out-is : after ≡ with_places f (numbers_in ms) before
    out-is = ap (λ (c : PlacesCall). c.out) (is-written z)

    numbers_are : ns' ≡ with_reading_numbers f (numbers_in ms) ns
    numbers_are = ap (λ (c : PlacesCall). c.numbers) (is-written z)

    out-length : length after ≡ length before
    out-length = ap length out-is ∙ places-length f (numbers_in ms) before

    ns_length : length ns' ≡ length ns
    ns_length = ap length numbers_are ∙ numbers-length f (numbers_in ms) ns

    pub count-is : without_place f (numbers_in ms) ≡ not_zeros ns'
    count-is =
        sym (counted f ns (numbers_in ms) (omega (arith, t.as_many))) ∙ ap (λ (l : List ℕ). not_zeros (take (numbers_in ms) l)) (sym numbers_are)
        ∙ ap not_zeros (take_all (numbers_in ms) ns' (omega (arith, ns_length, t.as_many)))

    number_is : (i : ℕ) → i < numbers_in ms → get_or ns' i 0 ≡ number_of (f i)
    number_is i h = ap (λ (l : List ℕ). get_or l i 0) numbers_are ∙ number-at f ns (numbers_in ms) (omega (arith, t.as_many)) i h

    bytes-are : (i : ℕ) → i < numbers_in ms → block i after ≡ due (f i) (block i before)
    bytes-are i h = ap (block i) out-is ∙ places-at f before (numbers_in ms) room i h

    each : (i : ℕ) → i < numbers_in ms → ReadingNumber ps ls ms ns before ns' after i
    unfolding number_of
    each i h = go (f i) (number_is i h) (bytes-are i h) (said p (get_or ns i 0) (number_at ms i))
      where
        go : (o : Outcome ℕ) → get_or ns' i 0 ≡ number_of o → block i after ≡ due o (block i before) → Said p (get_or ns i 0) (number_at ms i) o
            → ReadingNumber ps ls ms ns before ns' after i
        go o e b (has-place c d g) =
            let v : get_or ns' i 0 ≡ 0 = e ∙ ap number_of g in
            record {
              kept = λ x. absurd (x c);
              is_25 = λ x. (λ y. absurd (omega arith), λ y. absurd (y d));
              is_0 = (λ x. (c, d), λ x. v);
              stays = λ x. absurd (x v);
            }
        go o e b (lies_outside c d g) =
            let v : get_or ns' i 0 ≡ 25 = e ∙ ap number_of g in
            record {
              kept = λ x. absurd (x c);
              is_25 = λ x. (λ y. d, λ y. v);
              is_0 = (λ x. absurd (omega arith), λ x. absurd (d x.1));
              stays = λ x. b ∙ ap (λ (q : Outcome ℕ). due q (block i before)) g;
            }
        go o e b (keeps c g) =
            let v : get_or ns' i 0 ≡ get_or ns i 0 = e ∙ ap number_of g in
            record {
              kept = λ x. v;
              is_25 = λ x. absurd (c x);
              is_0 = (λ x. absurd (c (sym v ∙ x)), λ x. absurd (c x.0));
              stays = λ x. b ∙ ap (λ (q : Outcome ℕ). due q (block i before)) g;
            }

    module _ (u : UsablePasses ps ls) (v : RisingPasses ps ls) where
      sound : Sound p
      sound = sound-by ps ls u v

      lies_in : (i : ℕ) → IsPlaced ms ns' i → Inside p (number_at ms i)
      lies_in i h = ((each i h.there).is_0.0 h.none).1

      below : (i : ℕ) → IsPlaced ms ns' i → JustBelow p (number_at ms i) (millis_at p (number_at ms i))
      below i h = just_below p sound (number_at ms i) (lies_in i h)

      place_is : (i : ℕ) → IsPlaced ms ns' i → number_at after i ≡ millis_at p (number_at ms i)
      unfolding number_of
      place_is i h = go (f i) (bytes-are i h.there) (said p (get_or ns i 0) (number_at ms i))
        where
          go : (o : Outcome ℕ) → block i after ≡ due o (block i before) → Said p (get_or ns i 0) (number_at ms i) o
              → number_at after i ≡ millis_at p (number_at ms i)
          go o b (has-place c d g) =
              sym (eight_in_part after (8 * i) (omega (arith, out-length, room, h.there)))
              ∙ ap (λ (s : List ℕ). u64_at s 0) (b ∙ ap (λ (q : Outcome ℕ). due q (block i before)) g)
              ∙ read-written (millis_at p (number_at ms i)) (omega (arith, (below i h).small))
          go o b (lies_outside c d g) = absurd (d (lies_in i h))
          go o b (keeps c g) = absurd (c ((each i h.there).is_0.0 h.none).0)

      right : ReadingsRight ps ls ms ns before ns' after
      right =
          record {
            as_long = out-length;
            numbers_as_long = ns_length;
            spare = ap (drop (8 * numbers_in ms)) out-is ∙ places_behind f before (numbers_in ms) room (8 * numbers_in ms) (omega arith);
            each = each;
            on_any_line = λ i j h n a b. place_is i h
                ∙ sym (on_line p sound (number_at ms i) _ (record { j = j; next = n; from = a; to = b; is = refl }));
            at_passes = λ i j h n e. place_is i h ∙ ap (millis_at p) e ∙ at_a_pass p sound j n;
            in_order = λ i i' h h' l. omega
                (arith, place_is i h, place_is i' h', never-earlier p sound (number_at ms i) (number_at ms i') (lies_in i h) (lies_in i' h') l);
            near_line = λ i h. subst (JustBelow p (number_at ms i)) (sym (place_is i h)) (below i h);
          }

  all-steps : Steps 14 12 11 23 24 (WholeLists ps ls ms) (NumberEach ms ns) (HasPlaces ms (length before)) (UsablePasses ps ls) (RisingPasses ps ls) k
  unfolding places_refusal passes_refusal
  all-steps = steps 14 12 11 23 24 apart (whole_numbers ps && (whole_numbers ls && whole_numbers ms)) (eqb (numbers_in ms) (length ns))
      (leb (numbers_in ms) (length before / 8)) (usable ps ls) (both_rising ps ls)
      (whole-test ps ls ms)
      (eqb-true (numbers_in ms) (length ns), eq-eqb (numbers_in ms) (length ns))
      (leb-true (numbers_in ms) (length before / 8), le-leb (numbers_in ms) (length before / 8))
      (usable-test ps ls ms)
      (rising-test ps ls ms)

  -- from `place_readings`'s contract: everything that was asked of the call
  pub readings_mean : ReadingsMeaning ps ls ms ns before r ns' after
  readings_mean =
      record {
        decided = record {
          is_14 = through (called 14 (λ z. omega arith)) all-steps.at_a;
          is_12 = through (called 12 (λ z. omega arith)) all-steps.at_b;
          is_11 = through (called 11 (λ z. omega arith)) all-steps.at_c;
          is_23 = through (called 23 (λ z. omega arith)) all-steps.at_d;
          is_24 = through (called 24 (λ z. omega arith)) all-steps.at_e;
          is_answer = through (answered-only (not_zeros ns'), answered) all-steps.at_0;
        };
        refused = unchanged;
        placed = λ n e. let z = answered-only n e in let g = all-steps.at_0.0 z in (count n e z, right z g.3 g.4);
      }
    where
      answered : k ≡ 0 → r ≡ Ok (not_zeros ns')
      answered z = written_out r (not_zeros ns') (says _ _ _ (is-written z) ∙ ap answer (count-is z))

      count : (n : ℕ) → r ≡ Ok n → k ≡ 0 → n ≡ not_zeros ns'
      count n e z = let w : Ok n ≡ Ok (not_zeros ns') = sym e ∙ answered z in cc

  -- over both steps, where the passes are nowhere steeper than rise / run
  pub readings_near : (n : ℕ) → r ≡ Ok n → (rise run : ℕ) → SlopeAtMost p rise run → ReadingsNear ps ls ms ns' after rise run
  readings_near n e rise run slope = record {
    each = λ i h a d b j ds x near. subst (NearExact p rise run a d b j) (sym (place_is z u v i h))
        (near-exact p (sound z u v) rise run slope (number_at ms i) (lies_in z u v i h) a d b j ds x near);
    two = λ i i' h h' l. rw (place_is z u v i h, place_is z u v i' h')
        (near-each-other p (sound z u v) rise run slope (number_at ms i) (number_at ms i') (lies_in z u v i h) (lies_in z u v i' h') l);
  }
    where
      z : k ≡ 0
      z = answered-only n e

      u : UsablePasses ps ls
      u = (all-steps.at_0.0 z).3

      v : RisingPasses ps ls
      v = (all-steps.at_0.0 z).4
