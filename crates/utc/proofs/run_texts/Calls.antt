-- The call as a whole: the refusals of the lengths, what no refusal says, and the answer. Assumes nothing.
use Prim.Native.Nat.{ℕ, ◌*◌, ◌/◌, ◌%◌, ◌≤◌}
use native.Mathlib.Omega.{arith}
use native.Mathlib.Nat.{div-mul-le_self}
use mathlib.Core.Path.{◌≡◌, refl, sym, ap, ◌∙◌}
use mathlib.Core.Bool.{Bool, true, false, cond, ◌&&◌}
use mathlib.Core.List.{List}
use lib.Dec.{eqb, leb}
use lib.ListN.{length}
use borrow.Author.Tests.{eq-eqb, ne_eqb, le-leb, eqb-true, leb-true}
use Rattle.std.specs.Prelude.{Result, Ok, Err}
use Rattle.refusals.specs.declared.Refusal.{Refusal}
use Rattle.refusals.specs.Refusal.{refusal_number}
use Rattle.refusals.specs.Outcome.{Outcome, answer, refusal, number_said}
use Rattle.refusals.proofs.Handed.{number_low}
use Rattle.leap_table.specs.rows.Table.{Row}
use Rattle.utc.specs.iso_texts.TextForm.{TextForm}
use Rattle.utc.specs.run_texts.RunTexts.{stamp_text, texts_refused, texts_call, texts_written, texts_refusal, texts_by, texts_of_run}
use Rattle.utc.specs.run_texts.Asked.{RoomForTexts, TextsPlaced}
use Rattle.utc.proofs.run_texts.Puts.{at_most}

-- ---- no refusal, by the tests
pub none-refused : (size1 size2 room1 room2 room3 : ℕ) → size1 % 8 ≡ 0 → size2 % 8 ≡ 0 → size1 ≡ size2 → size1 / 8 ≤ room1 / 27 → size1 / 8 ≤ room2
    → size1 / 8 ≤ room3 → 0 ≡ texts_refusal size1 size2 room1 room2 room3
unfolding texts_refusal
none-refused size1 size2 room1 room2 room3 c d e f g h =
    let enough : 27 * (size1 / 8) ≤ room1 = omega arith in
    rw (
      eq-eqb (size1 % 8) 0 c,
      eq-eqb (size2 % 8) 0 d,
      eq-eqb size1 size2 e,
      le-leb (27 * (size1 / 8)) room1 enough,
      le-leb (size1 / 8) room2 g,
      le-leb (size1 / 8) room3 h,
    )

-- ---- what no refusal says
pub record Fitting (size1 size2 room1 room2 room3 : ℕ) : Type 0 where
  pub whole1 : size1 % 8 ≡ 0
  pub whole2 : size2 % 8 ≡ 0
  pub same : size1 ≡ size2
  pub places : 27 * (size1 / 8) ≤ room1
  pub bytes : size1 / 8 ≤ room2
  pub bytes2 : size1 / 8 ≤ room3

module _ (size1 size2 room1 room2 room3 : ℕ) where
  fitting_by : (b2 b3 b4 b5 b6 b7 : Bool) → eqb (size1 % 8) 0 ≡ b2 → eqb (size2 % 8) 0 ≡ b3 → eqb size1 size2 ≡ b4 → leb (27 * (size1 / 8)) room1 ≡ b5
      → leb (size1 / 8) room2 ≡ b6 → leb (size1 / 8) room3 ≡ b7
      → ◌≡◌ {A = ℕ} (cond (b2 && b3) (cond b4 (cond (b5 && (b6 && b7)) 0 11) 12) 14) 0 → Fitting size1 size2 room1 room2 room3
  fitting_by true true true true true true p2 p3 p4 p5 p6 p7 z = record {
    whole1 = eqb-true (size1 % 8) 0 p2;
    whole2 = eqb-true (size2 % 8) 0 p3;
    same = eqb-true size1 size2 p4;
    places = leb-true (27 * (size1 / 8)) room1 p5;
    bytes = leb-true (size1 / 8) room2 p6;
    bytes2 = leb-true (size1 / 8) room3 p7;
  }
  fitting_by true true true true true false p2 p3 p4 p5 p6 p7 z = let w : ⊥ = omega arith in absurd w
  fitting_by true true true true false b7 p2 p3 p4 p5 p6 p7 z = let w : ⊥ = omega arith in absurd w
  fitting_by true true true false b6 b7 p2 p3 p4 p5 p6 p7 z = let w : ⊥ = omega arith in absurd w
  fitting_by true true false b5 b6 b7 p2 p3 p4 p5 p6 p7 z = let w : ⊥ = omega arith in absurd w
  fitting_by true false b4 b5 b6 b7 p2 p3 p4 p5 p6 p7 z = let w : ⊥ = omega arith in absurd w
  fitting_by false b3 b4 b5 b6 b7 p2 p3 p4 p5 p6 p7 z = let w : ⊥ = omega arith in absurd w

  pub fitting : texts_refusal size1 size2 room1 room2 room3 ≡ 0 → Fitting size1 size2 room1 room2 room3
  unfolding texts_refusal
  fitting z =
      fitting_by (eqb (size1 % 8) 0) (eqb (size2 % 8) 0) (eqb size1 size2) (leb (27 * (size1 / 8)) room1) (leb (size1 / 8) room2) (leb (size1 / 8) room3)
      refl refl refl refl refl refl z

-- ---- the call, by the result r of the judging of its lengths
module _ (textForm : TextForm) (rows : List Row) (js ks texts lengths numbers : List ℕ) (r : Result Unit Refusal)
    (er : number_said r ≡ texts_refusal (length js) (length ks) (length texts) (length lengths) (length numbers)) where
  pub run-refused : (k : Refusal) → r ≡ Err k → texts_call (refusal (refusal_number k)) texts lengths numbers ≡ texts_by textForm rows js ks texts lengths
      numbers
  unfolding texts_by number_said
  run-refused k p =
      let en : refusal_number k ≡ texts_refusal (length js) (length ks) (length texts) (length lengths) (length numbers) = sym (ap number_said p) ∙ er in
      rw (← en, ne_eqb (refusal_number k) 0 (λ z. omega (arith, number_low k)))

  module _ (u : Unit) (p : r ≡ Ok u) where
    none : 0 ≡ texts_refusal (length js) (length ks) (length texts) (length lengths) (length numbers)
    unfolding number_said
    none = sym (ap number_said p) ∙ er

    fits : Fitting (length js) (length ks) (length texts) (length lengths) (length numbers)
    fits = fitting (length js) (length ks) (length texts) (length lengths) (length numbers) (sym none)

    pub roomy : RoomForTexts (length js / 8) js texts lengths numbers
    roomy = record {
      stamps = omega (arith, div-mul-le_self (length js) 8);
      places = fits.places;
      bytes = fits.bytes;
      bytes2 = fits.bytes2;
    }

    pub run_ends : (n : ℕ) (texts' lengths' numbers' : List ℕ)
        → TextsPlaced (stamp_text textForm rows js ks) (length js / 8) texts lengths numbers n texts' lengths' numbers'
        → texts_call (answer n) texts' lengths' numbers' ≡ texts_by textForm rows js ks texts lengths numbers
    unfolding texts_by texts_written
    run_ends n texts' lengths' numbers' q = rw (← none, q.count, q.first, q.second, q.third)

-- ---- at most all stamps are refused
pub run-count : (textForm : TextForm) (rows : List Row) (js ks texts lengths numbers : List ℕ) (k : ℕ)
    → answer k ≡ (texts_by textForm rows js ks texts lengths numbers).answer → k ≤ length js / 8
unfolding texts_by texts_written
run-count textForm rows js ks texts lengths numbers k e = go (eqb number 0) e
  where
    number : ℕ
    number = texts_refusal (length js) (length ks) (length texts) (length lengths) (length numbers)

    go : (b : Bool) → answer k ≡ (cond b (texts_written (stamp_text textForm rows js ks) (length js / 8) texts lengths numbers)
        (texts_call (refusal number) texts lengths numbers)).answer → k ≤ length js / 8
    go true q =
        let same : k ≡ texts_refused (stamp_text textForm rows js ks) (length js / 8) = cc q in
        omega (arith, same, at_most (stamp_text textForm rows js ks) (length js / 8))
    go false q = let z : ◌≡◌ {A = ℕ} 0 1 = cc q in let w : ⊥ = omega arith in absurd w

-- ---- the call that tests its table
pub table-refused : (o : Outcome (List Row)) (k : ℕ) → refusal k ≡ o → (textForm : TextForm) (js ks texts lengths numbers : List ℕ)
    → texts_call (refusal k) texts lengths numbers ≡ texts_of_run textForm o js ks texts lengths numbers
unfolding texts_of_run
table-refused o k e textForm js ks texts lengths numbers = ap (λ (x : Outcome (List Row)). texts_of_run textForm x js ks texts lengths numbers) e

pub table_taken : (o : Outcome (List Row)) (rows : List Row) → answer rows ≡ o → (textForm : TextForm) (js ks texts lengths numbers : List ℕ)
    → texts_by textForm rows js ks texts lengths numbers ≡ texts_of_run textForm o js ks texts lengths numbers
unfolding texts_of_run
table_taken o rows e textForm js ks texts lengths numbers = ap (λ (x : Outcome (List Row)). texts_of_run textForm x js ks texts lengths numbers) e
