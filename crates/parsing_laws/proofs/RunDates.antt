-- WHAT THE DATES OF A RUN OF TEXTS MEAN, for every run of every length: when the call is answered, each text's date and number, the count, the numbers of
-- refused texts, and each text of a list that is laid out. Assumes nothing.
use Prim.Native.Nat.{ℕ, zero, suc, ◌+◌, ◌*◌, ◌/◌, ◌%◌, ◌<◌, ◌≤◌}
use native.Mathlib.Omega.{arith}
use mathlib.Core.Path.{◌≡◌, refl, sym, ap, subst, ◌∙◌}
use mathlib.Core.Bool.{Bool, true, false, cond}
use mathlib.Core.List.{List, [], ◌∷◌, ◌++◌, map, append-nil}
use lib.Dec.{eqb, leb}
use lib.ListN.{length, get_or, take, drop, length-append}
use lib.Seq.{length-take-le, take_at, take-take}
use borrow.Author.Tests.{eq-eqb, le-leb}
use Rattle.refusals.specs.Outcome.{Outcome, answer, refusal, onward}
use Rattle.numerals.proofs.little_endian.Items.{written-length, item_at}
use Rattle.julian.specs.declared.JulianDate.{JulianDate}
use Rattle.leap_table.specs.rows.Table.{Row}
use Rattle.runs.specs.by_formula.Run.{RunCall, run_call, run_written}
use Rattle.runs.specs.laws.NotFiniteStamps.{not_zero_in}
use Rattle.runs.specs.laws.Done.{StampDone, SpareStays}
use Rattle.runs.proofs.laws.Written.{stamp-written, spare-kept, count-written}
use Rattle.parsing.specs.declared.ParsedUtc.{ParsedUtc}
use Rattle.parsing.specs.Parsed.{parsed_utc}
use Rattle.parsing.specs.run_dates.RunDates.{date_read, text_in_place, text_date, dates_refusal, dates_by, dates_of_texts}
use Rattle.parsing.proofs.run_dates.Calls.{fitting, none-refused}
use Rattle.parsing_laws.specs.RunDates.{DatesDue, laid_out, InPlaces}
use Rattle.parsing_laws.proofs.Ladder.{ReaderNumber, fifteen, sixteen, two, three, four}
use Rattle.parsing_laws.proofs.UtcLadder.{utc-only-numbers}

-- ---- ANSWERED EXACTLY WHEN there are n texts and n lengths, with room for n dates and n numbers
module _ (size1 size2 room1 room2 room3 : ℕ) where
  pub due_answered : (n : ℕ) → DatesDue n size1 size2 room1 room2 room3 → dates_refusal size1 size2 room1 room2 room3 ≡ 0
  due_answered n d =
      let w : size1 % 27 ≡ 0 = omega (arith, d.texts) in
      let q : size1 / 27 ≡ size2 = omega (arith, d.texts, d.lengths) in
      sym (none-refused size1 size2 room1 room2 room3 w q (omega (arith, d.places1, d.lengths)) (omega (arith, d.places2, d.lengths))
      (omega (arith, d.bytes, d.lengths)))

  pub answered-due : dates_refusal size1 size2 room1 room2 room3 ≡ 0 → DatesDue size2 size1 size2 room1 room2 room3
  answered-due z =
      let f = fitting size1 size2 room1 room2 room3 z in
      record { texts = f.whole; lengths = refl; places1 = f.places1; places2 = f.places2; bytes = f.bytes }

-- ---- A REFUSED CALL writes nothing
pub refused-writes-nothing : (o : Outcome (List Row)) (texts lengths out1 out2 numbers : List ℕ) (k : ℕ)
    → (dates_of_texts o texts lengths out1 out2 numbers).answer ≡ refusal k
    → dates_of_texts o texts lengths out1 out2 numbers ≡ run_call (refusal k) out1 out2 numbers
unfolding dates_of_texts dates_by run_written
refused-writes-nothing (refusal m) texts lengths out1 out2 numbers k e = ap (λ (x : Outcome ℕ). run_call x out1 out2 numbers) e
refused-writes-nothing (answer rows) texts lengths out1 out2 numbers k e = go (eqb number 0) e
  where
    number : ℕ
    number = dates_refusal (length texts) (length lengths) (length out1) (length out2) (length numbers)

    go : (b : Bool) → (cond b (run_written (text_date rows texts lengths) (length lengths) out1 out2 numbers)
        (run_call (refusal number) out1 out2 numbers)).answer ≡ refusal k
        → cond b (run_written (text_date rows texts lengths) (length lengths) out1 out2 numbers)
        (run_call (refusal number) out1 out2 numbers) ≡ run_call (refusal k) out1 out2 numbers
    go true q = let z : ◌≡◌ {A = ℕ} 0 1 = cc q in let w : ⊥ = omega arith in absurd w
    go false q = ap (λ (x : Outcome ℕ). run_call x out1 out2 numbers) q

-- ---- THE NUMBERS of refused texts are 15, 16, 2, 3 and 4, and no other
date-number : (o : Outcome ParsedUtc) (k : ℕ) → onward o (λ (r : ParsedUtc). answer r.date.0) ≡ refusal k → o ≡ refusal k
unfolding onward
date-number (answer r) k e = let z : ◌≡◌ {A = ℕ} 0 1 = cc e in let w : ⊥ = omega arith in absurd w
date-number (refusal n) k e = let z : n ≡ k = cc e in ap refusal z

read_number : (rows : List Row) (t : List ℕ) (k : ℕ) → date_read rows t ≡ refusal k → ReaderNumber k
unfolding date_read
read_number rows t k e = utc-only-numbers rows t k (date-number (parsed_utc rows t) k e)

pub text-refusals : (rows : List Row) (texts lengths : List ℕ) (i k : ℕ) → text_date rows texts lengths i ≡ refusal k → ReaderNumber k
unfolding text_date
text-refusals rows texts lengths i k e = go (leb (get_or lengths i 0) 27) e
  where
    go : (b : Bool) → cond b (date_read rows (text_in_place texts lengths i)) (refusal 15) ≡ refusal k → ReaderNumber k
    go true q = read_number rows (text_in_place texts lengths i) k q
    go false q = let z : 15 ≡ k = cc q in subst ReaderNumber z fifteen

-- so that a byte holds each
below-256 : (k : ℕ) → ReaderNumber k → k < 256
below-256 _ fifteen = omega arith
below-256 _ sixteen = omega arith
below-256 _ two = omega arith
below-256 _ three = omega arith
below-256 _ four = omega arith

-- ---- a call that is not refused, on n texts
module _ (rows : List Row) (texts lengths out1 out2 numbers : List ℕ) (n : ℕ)
    (due : DatesDue n (length texts) (length lengths) (length out1) (length out2) (length numbers)) where
  abbrev f : ℕ → Outcome JulianDate
  f = text_date rows texts lengths

  abbrev call : RunCall
  call = dates_of_texts (answer rows) texts lengths out1 out2 numbers

  done : call ≡ run_written f n out1 out2 numbers
  unfolding dates_of_texts dates_by
  done = rw (eq-eqb _ 0 (due_answered (length texts) (length lengths) (length out1) (length out2) (length numbers) n due), due.lengths)

  -- EACH TEXT'S DATE is that of the single call, at its place, with its number
  pub each-date : (i : ℕ) → i < n → StampDone (f i) i out1 out2 call
  each-date i h =
      subst (StampDone (f i) i out1 out2) (sym done)
      (stamp-written f n out1 out2 numbers due.places1 due.places2 due.bytes i h (λ k e. below-256 k (text-refusals rows texts lengths i k e)))

  -- what lies behind the last text's places stays
  pub spare-stays : SpareStays n out1 out2 numbers call
  spare-stays = subst (SpareStays n out1 out2 numbers) (sym done) (spare-kept f n out1 out2 numbers due.places1 due.places2 due.bytes)

  -- THE COUNT is of the numbers that are not 0: the refused texts, by `each-date`
  pub count-is : call.answer ≡ answer (not_zero_in n call.numbers)
  count-is =
      subst (λ (c : RunCall). c.answer ≡ answer (not_zero_in n c.numbers)) (sym done)
      (count-written f n out1 out2 numbers due.places1 due.places2 due.bytes)

-- ---- PLACE BY PLACE against the writer: of a list of texts, each at the start of its place, place i has the date of the i-th text
length-of : (ts : List (List ℕ)) (i : ℕ) → i < length ts → get_or (map length ts) i 0 ≡ length (get_or ts i [])
length-of [] i h = let w : ⊥ = omega arith in absurd w
length-of (t ∷ ts) zero h = refl
length-of (t ∷ ts) (suc i) h = length-of ts i (omega arith)

map_length : (ts : List (List ℕ)) → length (map length ts) ≡ length ts
map_length [] = refl
map_length (t ∷ ts) = ap suc (map_length ts)

module _ (filling : List ℕ) (full : 27 ≤ length filling) where
  abbrev place : List ℕ → List ℕ
  place t = take 27 (t ++ filling)

  place-sized : (t : List ℕ) → length (place t) ≡ 27
  place-sized t = length-take-le 27 (t ++ filling) (omega (arith, length-append t filling))

  module _ (ts : List (List ℕ)) (i : ℕ) (h : i < length ts) (few : length (get_or ts i []) ≤ 27) where
    abbrev t : List ℕ
    t = get_or ts i []

    found : text_in_place (laid_out filling ts) (map length ts) i ≡ t
    found =
        let all = laid_out filling ts in
        let none_before : 27 * i ≡ 0 + 27 * i = omega arith in
        let at : take 27 (drop (27 * i) all) ≡ place t =
        ap (λ (l : List ℕ). take 27 (drop (27 * i) l)) (sym (append-nil all))
        ∙ ap (λ (m : ℕ). take 27 (drop m (all ++ []))) none_before ∙ item_at place 27 place-sized [] ts [] i [] h in
        ap (λ (m : ℕ). take m (drop (27 * i) all)) (length-of ts i h)
        ∙ sym (take-take (length t) 27 (drop (27 * i) all) few)
        ∙ ap (take (length t)) at
        ∙ take-take (length t) 27 (t ++ filling) few
        ∙ take_at t filling (length t) refl

    text-is : (rows : List Row) → text_date rows (laid_out filling ts) (map length ts) i ≡ date_read rows t
    unfolding text_date
    text-is rows =
        ap (λ (b : Bool). cond b (date_read rows (text_in_place (laid_out filling ts) (map length ts) i)) (refusal 15))
        (ap (λ (m : ℕ). leb m 27) (length-of ts i h) ∙ le-leb (length t) 27 few)
        ∙ ap (date_read rows) found

  module _ (rows : List Row) (ts : List (List ℕ)) (out1 out2 numbers : List ℕ) (fit : InPlaces ts) (room1 : 8 * length ts ≤ length out1)
      (room2 : 8 * length ts ≤ length out2) (room3 : length ts ≤ length numbers) where
    list_due : DatesDue (length ts) (length (laid_out filling ts)) (length (map length ts)) (length out1) (length out2) (length numbers)
    list_due = record {
      texts = written-length place 27 place-sized ts;
      lengths = map_length ts;
      places1 = room1;
      places2 = room2;
      bytes = room3;
    }

    pub date-of-list : (i : ℕ) → i < length ts
        → StampDone (date_read rows (get_or ts i [])) i out1 out2 (dates_of_texts (answer rows) (laid_out filling ts) (map length ts) out1 out2 numbers)
    date-of-list i h =
        subst (λ (o : Outcome JulianDate). StampDone o i out1 out2 (dates_of_texts (answer rows) (laid_out filling ts) (map length ts) out1 out2 numbers))
        (text-is ts i h (fit i h) rows)
        (each-date rows (laid_out filling ts) (map length ts) out1 out2 numbers (length ts) list_due i h)
