-- The call as a whole: the refusals of the lengths, what no refusal says, and the answer. Assumes nothing.
use Prim.Native.Nat.{ℕ, ◌*◌, ◌/◌, ◌%◌, ◌<◌, ◌≤◌}
use native.Mathlib.Omega.{arith}
use mathlib.Core.Path.{◌≡◌, refl, sym, ap, subst, ◌∙◌}
use mathlib.Core.Bool.{Bool, true, false, cond, ◌&&◌}
use mathlib.Core.List.{List}
use lib.Dec.{eqb, leb}
use lib.ListN.{length, get_or, take, drop}
use borrow.Author.Tests.{eq-eqb, ne_eqb, le-leb, lt-leb, eqb-true, leb-true}
use Rattle.std.specs.Prelude.{Result, Ok, Err}
use Rattle.refusals.specs.declared.Refusal.{Refusal}
use Rattle.refusals.specs.Refusal.{refusal_number}
use Rattle.refusals.specs.Outcome.{Outcome, answer, refusal, number_said}
use Rattle.refusals.proofs.Handed.{number_low}
use Rattle.julian.specs.declared.JulianDate.{JulianDate}
use Rattle.leap_table.specs.rows.Table.{Row}
use Rattle.runs.specs.by_formula.Run.{refused_among, run_call, run_written}
use Rattle.runs.specs.by_formula.Asked.{HasPlace, StampPut, RunPut}
use Rattle.runs.proofs.by_formula.Puts.{Putting, at_most, put_refused, put_same, len1, len2, len3}
use Rattle.parsing.specs.run_dates.RunDates.{date_read, text_in_place, text_date, dates_refusal, dates_by, dates_of_texts}
use Rattle.parsing.specs.run_dates.Asked.{RoomForDates, TextThere}

-- ---- no refusal, by the tests
pub none-refused : (size1 size2 room1 room2 room3 : ℕ) → size1 % 27 ≡ 0 → size1 / 27 ≡ size2 → size2 ≤ room1 / 8 → size2 ≤ room2 / 8 → size2 ≤ room3
    → 0 ≡ dates_refusal size1 size2 room1 room2 room3
unfolding dates_refusal
none-refused size1 size2 room1 room2 room3 c e f g h =
    let first : 8 * size2 ≤ room1 = omega arith in
    let second : 8 * size2 ≤ room2 = omega arith in
    rw (
      eq-eqb (size1 % 27) 0 c,
      eq-eqb (size1 / 27) size2 e,
      le-leb (8 * size2) room1 first,
      le-leb (8 * size2) room2 second,
      le-leb size2 room3 h,
    )

-- ---- what no refusal says
pub record Fitting (size1 size2 room1 room2 room3 : ℕ) : Type 0 where
  pub whole : size1 ≡ 27 * size2
  pub places1 : 8 * size2 ≤ room1
  pub places2 : 8 * size2 ≤ room2
  pub bytes : size2 ≤ room3

module _ (size1 size2 room1 room2 room3 : ℕ) where
  fitting_by : (b1 b2 b3 b4 b5 : Bool) → eqb (size1 % 27) 0 ≡ b1 → eqb (size1 / 27) size2 ≡ b2 → leb (8 * size2) room1 ≡ b3 → leb (8 * size2) room2 ≡ b4
      → leb size2 room3 ≡ b5 → ◌≡◌ {A = ℕ} (cond b1 (cond b2 (cond (b3 && (b4 && b5)) 0 11) 12) 14) 0 → Fitting size1 size2 room1 room2 room3
  fitting_by true true true true true p1 p2 p3 p4 p5 z = record {
    whole = omega (arith, eqb-true (size1 % 27) 0 p1, eqb-true (size1 / 27) size2 p2);
    places1 = leb-true (8 * size2) room1 p3;
    places2 = leb-true (8 * size2) room2 p4;
    bytes = leb-true size2 room3 p5;
  }
  fitting_by true true true true false p1 p2 p3 p4 p5 z = let w : ⊥ = omega arith in absurd w
  fitting_by true true true false b5 p1 p2 p3 p4 p5 z = let w : ⊥ = omega arith in absurd w
  fitting_by true true false b4 b5 p1 p2 p3 p4 p5 z = let w : ⊥ = omega arith in absurd w
  fitting_by true false b3 b4 b5 p1 p2 p3 p4 p5 z = let w : ⊥ = omega arith in absurd w
  fitting_by false b2 b3 b4 b5 p1 p2 p3 p4 p5 z = let w : ⊥ = omega arith in absurd w

  pub fitting : dates_refusal size1 size2 room1 room2 room3 ≡ 0 → Fitting size1 size2 room1 room2 room3
  unfolding dates_refusal
  fitting z =
      fitting_by (eqb (size1 % 27) 0) (eqb (size1 / 27) size2) (leb (8 * size2) room1) (leb (8 * size2) room2) (leb size2 room3) refl refl refl refl refl z

-- ---- one text
module _ (rows : List Row) (texts lengths : List ℕ) (i long : ℕ) (e : long ≡ get_or lengths i 0) where
  pub too_long : (number : ℕ) (out1 out2 : List ℕ) → 27 < long → number ≡ 15 → StampPut (text_date rows texts lengths i) i out1 out2 number
      out1 out2
  unfolding text_date
  too_long number out1 out2 h n =
      put_refused (text_date rows texts lengths i) 15 i number out1 out2 (rw (lt-leb (get_or lengths i 0) 27 (subst (λ (m : ℕ). 27 < m) e h))) n

  -- k is the number of bytes that are lent
  pub text_read : {r : ℕ} {out1 out2 out1' out2' : List ℕ} {o : Outcome JulianDate} (k : ℕ) → long ≤ 27 → k ≡ long
      → o ≡ date_read rows (take k (drop (27 * i) texts)) → StampPut o i out1 out2 r out1' out2'
      → StampPut (text_date rows texts lengths i) i out1 out2 r out1' out2'
  unfolding text_date
  text_read k h ek eo p =
      put_same (eo ∙ ap (λ (m : ℕ). date_read rows (take m (drop (27 * i) texts))) (ek ∙ e)
      ∙ sym (ap (λ (b : Bool). cond b (date_read rows (text_in_place texts lengths i)) (refusal 15))
      (le-leb (get_or lengths i 0) 27 (subst (λ (m : ℕ). m ≤ 27) e h)))) p

-- ---- the places of text i of n
module _ {f : ℕ → Outcome JulianDate} {n : ℕ} {texts lengths out1₀ out2₀ numbers₀ out1 out2 numbers : List ℕ} {number_said i : ℕ}
    (room : RoomForDates n texts lengths out1₀ out2₀ numbers₀) (p : Putting f n out1₀ out2₀ numbers₀ out1 out2 numbers number_said i) (h : i < n) where
  pub has-places : HasPlace i out1 out2
  has-places = (omega (arith, h, room.places1, len1 p), omega (arith, h, room.places2, len2 p))

  pub has-byte : i < length numbers
  has-byte = omega (arith, h, room.places3, len3 p)

  pub has-text : TextThere i texts lengths
  has-text = (omega (arith, h, room.bytes_there), omega (arith, h, room.lengths_there))

-- ---- the call, by the result r of the judging of its lengths
module _ (rows : List Row) (texts lengths out1 out2 numbers : List ℕ) (r : Result Unit Refusal)
    (er : number_said r ≡ dates_refusal (length texts) (length lengths) (length out1) (length out2) (length numbers)) where
  pub run-refused : (k : Refusal) → r ≡ Err k → run_call (refusal (refusal_number k)) out1 out2 numbers ≡ dates_by rows texts lengths out1 out2 numbers
  unfolding dates_by number_said
  run-refused k p =
      let en : refusal_number k ≡ dates_refusal (length texts) (length lengths) (length out1) (length out2) (length numbers) = sym (ap number_said p) ∙ er in
      rw (← en, ne_eqb (refusal_number k) 0 (λ z. omega (arith, number_low k)))

  module _ (u : Unit) (p : r ≡ Ok u) where
    none : 0 ≡ dates_refusal (length texts) (length lengths) (length out1) (length out2) (length numbers)
    unfolding number_said
    none = sym (ap number_said p) ∙ er

    fits : Fitting (length texts) (length lengths) (length out1) (length out2) (length numbers)
    fits = fitting (length texts) (length lengths) (length out1) (length out2) (length numbers) (sym none)

    pub roomy : RoomForDates (length lengths) texts lengths out1 out2 numbers
    roomy = record {
      bytes_there = omega (arith, fits.whole);
      lengths_there = omega arith;
      places1 = fits.places1;
      places2 = fits.places2;
      places3 = fits.bytes;
    }

    pub run_ends : (n : ℕ) (out1' out2' numbers' : List ℕ) → RunPut (text_date rows texts lengths) (length lengths) out1 out2 numbers n out1' out2' numbers'
        → run_call (answer n) out1' out2' numbers' ≡ dates_by rows texts lengths out1 out2 numbers
    unfolding dates_by run_written
    run_ends n out1' out2' numbers' q = rw (← none, q.count, q.first, q.second, q.third)

-- ---- at most all texts are refused
pub run-count : (rows : List Row) (texts lengths out1 out2 numbers : List ℕ) (k : ℕ) → answer k ≡ (dates_by rows texts lengths out1 out2 numbers).answer
    → k ≤ length lengths
unfolding dates_by run_written
run-count rows texts lengths out1 out2 numbers k e = go (eqb number 0) e
  where
    number : ℕ
    number = dates_refusal (length texts) (length lengths) (length out1) (length out2) (length numbers)

    go : (b : Bool) → answer k ≡ (cond b (run_written (text_date rows texts lengths) (length lengths) out1 out2 numbers)
        (run_call (refusal number) out1 out2 numbers)).answer → k ≤ length lengths
    go true q =
        let same : k ≡ refused_among (text_date rows texts lengths) (length lengths) = cc q in
        omega (arith, same, at_most (text_date rows texts lengths) (length lengths))
    go false q = let z : ◌≡◌ {A = ℕ} 0 1 = cc q in let w : ⊥ = omega arith in absurd w

-- ---- the call that tests its table
pub table-refused : (o : Outcome (List Row)) (k : ℕ) → refusal k ≡ o → (texts lengths out1 out2 numbers : List ℕ)
    → run_call (refusal k) out1 out2 numbers ≡ dates_of_texts o texts lengths out1 out2 numbers
unfolding dates_of_texts
table-refused o k e texts lengths out1 out2 numbers = ap (λ (x : Outcome (List Row)). dates_of_texts x texts lengths out1 out2 numbers) e

pub table_taken : (o : Outcome (List Row)) (rows : List Row) → answer rows ≡ o → (texts lengths out1 out2 numbers : List ℕ)
    → dates_by rows texts lengths out1 out2 numbers ≡ dates_of_texts o texts lengths out1 out2 numbers
unfolding dates_of_texts
table_taken o rows e texts lengths out1 out2 numbers = ap (λ (x : Outcome (List Row)). dates_of_texts x texts lengths out1 out2 numbers) e
