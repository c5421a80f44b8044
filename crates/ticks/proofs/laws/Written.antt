-- EACH PASS, EACH TICK AND EACH RESULT AT ITS OWN BYTES: of lists that are written number by number the call's answer is that of the lists, and the eight bytes
-- from 8 i on read back as the millisecond of the i-th tick. Assumes nothing.
use Prim.Native.Nat.{ℕ, zero, suc, ◌+◌, ◌*◌, ◌≤◌, ◌<◌}
use native.Mathlib.Omega.{arith}
use mathlib.Core.Path.{◌≡◌, refl, sym, ap, subst, ◌∙◌}
use mathlib.Core.Logic.{◌↔◌}
use mathlib.Core.List.{List, [], ◌∷◌}
use lib.ListN.{length, get_or, drop}
use Rattle.std.specs.Prelude.{Result, Ok}
use Rattle.refusals.specs.declared.Refusal.{Refusal}
use Rattle.refusals.specs.Outcome.{answer}
use Rattle.numerals.specs.little_endian.LittleEndian.{four_at, u64_at, eight_bytes}
use Rattle.numerals.specs.little_endian.Written.{all_bytes, Numbers64}
use Rattle.numerals.proofs.little_endian.Numbers.{eight-each, number-back}
use Rattle.ticks.specs.Line.{line_at}
use Rattle.ticks.specs.Passes.{Passes, last_not_after, millis_at, OnSomeLine}
use Rattle.ticks.specs.judging.Numbers.{holds_below, all_small, all_rising, inside}
use Rattle.ticks.specs.judging.Refusing.{number_at, numbers_in, well_counted, usable, both_rising, all_inside, refused_by}
use Rattle.ticks.specs.Ticks.{passes_of, bytes_of, placed_ticks, TicksCall}
use Rattle.ticks.specs.laws.Sound.{Sound, Inside}
use Rattle.ticks.specs.laws.Reasons.{WholeLists, HasPlaces, UsablePasses, TicksInside, TicksMeaning}
use Rattle.ticks.specs.laws.Writer.{listed_passes, ListedGood, ListedTicks, count_up}
use Rattle.ticks.proofs.laws.Laws.{is-on-line}
use Rattle.ticks.proofs.laws.Tests.{sound-by}
use Rattle.ticks.proofs.laws.Call.{call-means}

pub as_many : (ns : List ℕ) → numbers_in (all_bytes eight_bytes ns) ≡ length ns
as_many ns = omega (arith, eight-each ns)

-- THE PASSES of two lists
pub passes-are : (ps ms : List ℕ) → Numbers64 ps → Numbers64 ms → passes_of (all_bytes eight_bytes ps) (all_bytes eight_bytes ms) ≡ listed_passes ps ms
passes-are ps ms a b j = record { size = as_many ps j; tick = λ (i : ℕ). number-back ps a i j; milli = λ (i : ℕ). number-back ms b i j }

-- ---- THE CALL over lists of numbers
module _ (ps ms ts before after : List ℕ) (r : Result ℕ Refusal) (pass-bits : Numbers64 ps) (milli-bits : Numbers64 ms) (tick-bits : Numbers64 ts)
    (call : TicksCall (placed_ticks (all_bytes eight_bytes ps) (all_bytes eight_bytes ms) (all_bytes eight_bytes ts) (length before)) before r after) where
  abbrev pb : List ℕ
  pb = all_bytes eight_bytes ps

  abbrev mb : List ℕ
  mb = all_bytes eight_bytes ms

  abbrev tb : List ℕ
  tb = all_bytes eight_bytes ts

  means : TicksMeaning pb mb tb before r after
  means = call-means pb mb tb before after r call

  the_passes : passes_of pb mb ≡ listed_passes ps ms
  the_passes = passes-are ps ms pass-bits milli-bits

  all-written : r ≡ Ok (8 * length ts) → r ≡ Ok (length tb)
  all-written e = e ∙ ap Ok (sym (eight-each ts))

  sound-bytes : r ≡ Ok (8 * length ts) → Sound (passes_of pb mb)
  sound-bytes e = let g = means.decided.is_answer.0 (all-written e) in sound-by pb mb g.2 g.3

  inside-bytes : r ≡ Ok (8 * length ts) → TicksInside pb mb tb
  inside-bytes e = (means.decided.is_answer.0 (all-written e)).4

  good : r ≡ Ok (8 * length ts) → ListedGood ps ms ts (length before)
  good e =
      let g = means.decided.is_answer.0 (all-written e) in
      record {
        places = omega (arith, g.1, as_many ts);
        equal = sym (as_many ps) ∙ g.2.equal ∙ as_many ms;
        sound = subst Sound the_passes (sound-bytes e);
        inside = λ i h. subst (λ (p : Passes). Inside p (get_or ts i 0)) the_passes
            (subst (Inside (passes_of pb mb)) (number-back ts tick-bits i) (inside-bytes e i (omega (arith, as_many ts))));
      }

  taken : ListedGood ps ms ts (length before) → r ≡ Ok (8 * length ts)
  taken c =
      let s : Sound (passes_of pb mb) = subst Sound (sym the_passes) c.sound in
      let w : WholeLists pb mb tb =
      record { passes = omega (arith, eight-each ps); millis = omega (arith, eight-each ms); ticks = omega (arith, eight-each ts) } in
      let h : HasPlaces tb (length before) = omega (arith, as_many ts, c.places) in
      let u : UsablePasses pb mb =
      record {
        equal = as_many ps ∙ c.equal ∙ sym (as_many ms);
        two = s.two;
        most = s.most;
        ticks_small = s.ticks_small;
        millis_small = s.millis_small;
      } in
      let i : TicksInside pb mb tb = λ i h. subst (Inside (passes_of pb mb)) (sym (number-back ts tick-bits i))
      (subst (λ (p : Passes). Inside p (get_or ts i 0)) (sym the_passes) (c.inside i (omega (arith, as_many ts)))) in
      means.decided.is_answer.1 (w, h, u, record { ticks_rise = s.ticks_rise; millis-rise = s.millis-rise }, i) ∙ ap Ok (eight-each ts)

  result : r ≡ Ok (8 * length ts) → (i : ℕ) → i < length ts → u64_at after (8 * i) ≡ millis_at (listed_passes ps ms) (get_or ts i 0)
  result e i h =
      let k : i < numbers_in tb = omega (arith, as_many ts) in
      let o : OnSomeLine (passes_of pb mb) (number_at tb i) (millis_at (passes_of pb mb) (number_at tb i)) =
      is-on-line (passes_of pb mb) (sound-bytes e) (number_at tb i) (inside-bytes e i k) in
      (means.placed (all-written e)).on_any_line i o.j k o.next o.from o.to ∙ sym o.is
      ∙ ap (millis_at (passes_of pb mb)) (number-back ts tick-bits i) ∙ ap (λ (p : Passes). millis_at p (get_or ts i 0)) the_passes

  pub ticks-of-lists : ListedTicks ps ms ts before r after
  ticks-of-lists = record {
    answered = (good, taken);
    stays = means.refused;
    each = result;
    spare = λ e. subst (λ (n : ℕ). drop (8 * n) after ≡ drop (8 * n) before) (as_many ts) (means.placed (all-written e)).spare;
  }

-- ---- HOW MANY PASSES are taken, from the least to the most

counted : (a n : ℕ) → length (count_up a n) ≡ n
unfolding count_up
counted a zero = refl
counted a (suc n) = ap suc (counted (suc a) n)

count_at : (a n i : ℕ) → i < n → get_or (count_up a n) i 0 ≡ a + i
unfolding count_up
count_at a zero i h = let w : ⊥ = omega arith in absurd w
count_at a (suc n) zero h = omega arith
count_at a (suc n) (suc i) h = count_at (suc a) n i (omega arith) ∙ omega arith

count_bits : (n : ℕ) → n < 18446744073709551616 → Numbers64 (count_up 0 n)
count_bits n few i h = omega (arith, counted 0 n, count_at 0 n i (omega (arith, counted 0 n)))

count-sound : (n : ℕ) → 2 ≤ n → n ≤ 2000 → Sound (listed_passes (count_up 0 n) (count_up 0 n))
count-sound n two most = record {
  two = omega (arith, counted 0 n);
  most = omega (arith, counted 0 n);
  ticks_rise = rise;
  millis-rise = rise;
  ticks_small = small;
  millis_small = small;
}
  where
    rise : (i : ℕ) → i + 1 < length (count_up 0 n) → get_or (count_up 0 n) i 0 < get_or (count_up 0 n) (i + 1) 0
    rise i h = omega (arith, count_at 0 n i (omega (arith, counted 0 n)), count_at 0 n (i + 1) (omega (arith, counted 0 n)))

    small : (i : ℕ) → i < length (count_up 0 n) → get_or (count_up 0 n) i 0 < 0x100_0000_0000
    small i h = omega (arith, counted 0 n, count_at 0 n i (omega (arith, counted 0 n)))

-- of n passes at the ticks and milliseconds 0 to n - 1, and no tick, the call is answered exactly for 2 to 2,000
pub two-to-2000 : (n : ℕ) → n < 18446744073709551616 → (before after : List ℕ) (r : Result ℕ Refusal)
    → TicksCall (placed_ticks (all_bytes eight_bytes (count_up 0 n)) (all_bytes eight_bytes (count_up 0 n)) (all_bytes eight_bytes []) (length before)) before r
    after
    → (r ≡ Ok 0) ↔ ((2 ≤ n) × (n ≤ 2000))
two-to-2000 n few before after r call = (to, fro)
  where
    listed : ListedTicks (count_up 0 n) (count_up 0 n) [] before r after
    listed = ticks-of-lists (count_up 0 n) (count_up 0 n) [] before after r (count_bits n few) (count_bits n few) (λ i h. absurd (omega arith)) call

    to : r ≡ Ok 0 → (2 ≤ n) × (n ≤ 2000)
    to e = let g = listed.answered.0 e in (omega (arith, g.sound.two, counted 0 n), omega (arith, g.sound.most, counted 0 n))

    fro : (2 ≤ n) × (n ≤ 2000) → r ≡ Ok 0
    fro h = listed.answered.1 (record { places = omega arith; equal = refl; sound = count-sound n h.0 h.1; inside = λ i l. absurd (omega arith) })

-- ---- the lowest byte first and each tick its own, worked: passes at the ticks 0 and 1000 and the milliseconds 5000 and 7000; the ticks 256 and 1, whose bytes
-- are the same in another order, are at 5512 and 5002
pub second-tick : placed_ticks (0 ∷ 0 ∷ 0 ∷ 0 ∷ 0 ∷ 0 ∷ 0 ∷ 0 ∷ 0xe8 ∷ 3 ∷ 0 ∷ 0 ∷ 0 ∷ 0 ∷ 0 ∷ 0 ∷ [])
    (0x88 ∷ 0x13 ∷ 0 ∷ 0 ∷ 0 ∷ 0 ∷ 0 ∷ 0 ∷ 0x58 ∷ 0x1b ∷ 0 ∷ 0 ∷ 0 ∷ 0 ∷ 0 ∷ 0 ∷ [])
    (0 ∷ 1 ∷ 0 ∷ 0 ∷ 0 ∷ 0 ∷ 0 ∷ 0 ∷ 1 ∷ 0 ∷ 0 ∷ 0 ∷ 0 ∷ 0 ∷ 0 ∷ 0 ∷ []) 16
    ≡ answer (0x88 ∷ 0x15 ∷ 0 ∷ 0 ∷ 0 ∷ 0 ∷ 0 ∷ 0 ∷ 0x8a ∷ 0x13 ∷ 0 ∷ 0 ∷ 0 ∷ 0 ∷ 0 ∷ 0 ∷ [])
unfolding placed_ticks refused_by well_counted usable both_rising all_inside holds_below all_small all_rising inside last_not_after millis_at line_at bytes_of
    four_at u64_at
second-tick = refl
