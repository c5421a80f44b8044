-- EACH PASS, EACH READING AND EACH PLACE AT ITS OWN BYTES: of lists that are written number by number the call's answer is that of the lists, and the eight
-- bytes from 8 i on read back as the millimetre of the i-th reading. Assumes nothing.
use Prim.Native.Nat.{ℕ, ◌*◌, ◌<◌}
use native.Mathlib.Omega.{arith}
use mathlib.Core.Path.{◌≡◌, sym, ap, subst, ◌∙◌}
use mathlib.Core.List.{List}
use lib.ListN.{length, get_or, drop}
use Rattle.std.specs.Prelude.{Result, Ok}
use Rattle.refusals.specs.Outcome.{outcome}
use Rattle.refusals.specs.declared.Refusal.{Refusal}
use Rattle.numerals.specs.little_endian.LittleEndian.{u64_at, eight_bytes}
use Rattle.numerals.specs.little_endian.Written.{all_bytes, Numbers64}
use Rattle.numerals.proofs.little_endian.Numbers.{eight-each, number-back}
use Rattle.ticks.specs.Passes.{millis_at, OnSomeLine}
use Rattle.ticks.specs.judging.Refusing.{number_at, numbers_in}
use Rattle.ticks.specs.Ticks.{passes_of}
use Rattle.ticks.specs.places.Places.{places_call, placed_run}
use Rattle.ticks.specs.laws.Sound.{Sound, Inside}
use Rattle.ticks.specs.laws.Reasons.{WholeLists, HasPlaces, UsablePasses}
use Rattle.ticks.specs.laws.Writer.{listed_passes}
use Rattle.ticks.specs.laws.Readings.{not_zeros, NumberEach, ReadingNumber, ReadingsRight, ReadingsMeaning}
use Rattle.ticks.specs.laws.ListedReadings.{ListedPlacing, ListedReading, ListedReadings}
use Rattle.ticks.proofs.laws.Laws.{is-on-line}
use Rattle.ticks.proofs.laws.Tests.{sound-by}
use Rattle.ticks.proofs.laws.Written.{as_many, passes-are}
use Rattle.ticks.proofs.laws.Readings.{readings_mean}

module _ (ps ls ms ns before ns' after : List ℕ) (r : Result ℕ Refusal) (pass-bits : Numbers64 ps) (place-bits : Numbers64 ls) (milli-bits : Numbers64 ms)
    (call : places_call (outcome r) after ns' ≡ placed_run (all_bytes eight_bytes ps) (all_bytes eight_bytes ls) (all_bytes eight_bytes ms) before ns)
  where
    abbrev pb : List ℕ
    pb = all_bytes eight_bytes ps

    abbrev lb : List ℕ
    lb = all_bytes eight_bytes ls

    abbrev mb : List ℕ
    mb = all_bytes eight_bytes ms

    means : ReadingsMeaning pb lb mb ns before r ns' after
    means = readings_mean pb lb mb ns before ns' after r call

    the_passes : passes_of pb lb ≡ listed_passes ps ls
    the_passes = passes-are ps ls pass-bits place-bits

    -- ---- the answer
    good : r ≡ Ok (not_zeros ns') → ListedPlacing ps ls ms ns (length before)
    good e =
        let g = means.decided.is_answer.0 e in
        record {
          numbers = sym (as_many ms) ∙ g.1;
          places = omega (arith, g.2, as_many ms);
          equal = sym (as_many ps) ∙ g.3.equal ∙ as_many ls;
          sound = subst Sound the_passes (sound-by pb lb g.3 g.4);
        }

    taken : ListedPlacing ps ls ms ns (length before) → r ≡ Ok (not_zeros ns')
    taken c =
        let s : Sound (passes_of pb lb) = subst Sound (sym the_passes) c.sound in
        let w : WholeLists pb lb mb =
        record { passes = omega (arith, eight-each ps); millis = omega (arith, eight-each ls); ticks = omega (arith, eight-each ms) } in
        let n : NumberEach mb ns = as_many ms ∙ c.numbers in
        let h : HasPlaces mb (length before) = omega (arith, as_many ms, c.places) in
        let u : UsablePasses pb lb =
        record {
          equal = as_many ps ∙ c.equal ∙ sym (as_many ls);
          two = s.two;
          most = s.most;
          ticks_small = s.ticks_small;
          millis_small = s.millis_small;
        } in
        means.decided.is_answer.1 (w, n, h, u, record { ticks_rise = s.ticks_rise; millis-rise = s.millis-rise })

    -- ---- each reading
    module _ (n : ℕ) (e : r ≡ Ok n) (i : ℕ) (h : i < length ms) where
      right : ReadingsRight pb lb mb ns before ns' after
      right = (means.placed n e).1

      sound : Sound (passes_of pb lb)
      sound = let g = means.decided.is_answer.0 (e ∙ ap Ok (means.placed n e).0) in sound-by pb lb g.3 g.4

      there : i < numbers_in mb
      there = omega (arith, as_many ms)

      number : ReadingNumber pb lb mb ns before ns' after i
      number = right.each i there

      -- inside the passes of the bytes is inside those of the lists
      same : Inside (passes_of pb lb) (number_at mb i) ≡ Inside (listed_passes ps ls) (get_or ms i 0)
      same x = Inside (the_passes x) (number-back ms milli-bits i x)

      into : Inside (listed_passes ps ls) (get_or ms i 0) → Inside (passes_of pb lb) (number_at mb i)
      into v = subst (λ (X : Type 0). X) (sym same) v

      out_of : Inside (passes_of pb lb) (number_at mb i) → Inside (listed_passes ps ls) (get_or ms i 0)
      out_of v = subst (λ (X : Type 0). X) same v

      place : get_or ns' i 0 ≡ 0 → Inside (passes_of pb lb) (number_at mb i) → u64_at after (8 * i) ≡ millis_at (listed_passes ps ls) (get_or ms i 0)
      place z v =
          let o : OnSomeLine (passes_of pb lb) (number_at mb i) (millis_at (passes_of pb lb) (number_at mb i)) = is-on-line (passes_of pb lb) sound
          (number_at mb i) v in
          right.on_any_line i o.j (record { there = there; none = z }) o.next o.from o.to ∙ sym o.is
          ∙ (λ x. millis_at (the_passes x) (number-back ms milli-bits i x))

      reading : ListedReading ps ls ms ns before ns' after i
      reading = record {
        kept = λ z. let v = number.kept z in (v, number.stays (λ y. z (sym v ∙ y)));
        outside = λ z o. let v = (number.is_25 z).1 (λ y. o (out_of y)) in (v, number.stays (λ y. omega arith));
        placed = λ z y. let v = number.is_0.1 (z, into y) in (v, place v (into y));
      }

    pub readings_of_lists : ListedReadings ps ls ms ns before r ns' after
    readings_of_lists = record {
      answered = (good, taken);
      stays = means.refused;
      each = reading;
      spare = λ n e. subst (λ (x : ℕ). drop (8 * x) after ≡ drop (8 * x) before) (as_many ms) (means.placed n e).1.spare;
    }
