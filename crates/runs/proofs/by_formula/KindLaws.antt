-- The kind of a formula is that of the way between its two scales. Assumes nothing.
use Prim.Native.Nat.{ℕ}
use mathlib.Core.Path.{◌≡◌, refl}
use mathlib.Core.Bool.{Bool, true, false, ◌&&◌, ◌||◌, true≢false}
use lib.Dec.{eqb}
use lib.Ieee.{Float, sub, neg}
use borrow.Author.Tests.{eqb-true}
use Rattle.refusals.specs.Outcome.{onward}
use Rattle.julian.specs.shifts.Shifts.{plus, minus}
use Rattle.julian.proofs.shifts.Outcomes.{and_left, and_right}
use Rattle.scales.specs.Formulas.{gps_days, tt_days, tdb_to_tcb}
use Rattle.scales.specs.Conversions.{answer_of}
use Rattle.runs.specs.by_formula.Formula.{formula_of, by_formula, takes_offset, lengths_refusal, formula_refusal}
use Rattle.runs.specs.declared.by_formula.pairs.Kind.{Kind}
use Rattle.runs.specs.declared.by_formula.pairs.Kind.TheVariants as K
use Rattle.runs.specs.by_formula.Asked.{kind_number, change_of, answer_of_kind, size_due, kind_refusal, IsFormula, needs_none}

-- ---- each pair of scales
pub gps_to_tai : IsFormula 4 1 3 gps_days
unfolding formula_of by_formula takes_offset lengths_refusal formula_refusal change_of answer_of_kind size_due kind_refusal answer_of onward
gps_to_tai = record { answers = λ s d. refl; refuses = λ a b c d e f. refl }

pub tai_to_gps : IsFormula 1 4 3 (neg gps_days)
unfolding formula_of by_formula takes_offset lengths_refusal formula_refusal change_of answer_of_kind size_due kind_refusal answer_of onward plus minus sub
tai_to_gps = record { answers = λ s d. refl; refuses = λ a b c d e f. refl }

pub tai_to_tt : IsFormula 1 3 3 tt_days
unfolding formula_of by_formula takes_offset lengths_refusal formula_refusal change_of answer_of_kind size_due kind_refusal answer_of onward
tai_to_tt = record { answers = λ s d. refl; refuses = λ a b c d e f. refl }

pub tt_to_tai : IsFormula 3 1 3 (neg tt_days)
unfolding formula_of by_formula takes_offset lengths_refusal formula_refusal change_of answer_of_kind size_due kind_refusal answer_of onward plus minus sub
tt_to_tai = record { answers = λ s d. refl; refuses = λ a b c d e f. refl }

module _ (days : Float) where
  pub tt-to-tcg : IsFormula 3 5 4 days
  unfolding formula_of by_formula takes_offset lengths_refusal formula_refusal change_of answer_of_kind size_due kind_refusal answer_of onward
  tt-to-tcg = record { answers = λ s d. refl; refuses = λ a b c d e f. refl }

  pub tcg-to-tt : IsFormula 5 3 5 days
  unfolding formula_of by_formula takes_offset lengths_refusal formula_refusal change_of answer_of_kind size_due kind_refusal answer_of onward
  tcg-to-tt = record { answers = λ s d. refl; refuses = λ a b c d e f. refl }

  pub tcb-to-tdb : IsFormula 6 7 6 days
  unfolding formula_of by_formula takes_offset lengths_refusal formula_refusal change_of answer_of_kind size_due kind_refusal answer_of onward
  tcb-to-tdb = record { answers = λ s d. refl; refuses = λ a b c d e f. refl }

  pub tdb-to-tcb : IsFormula 7 6 7 days
  unfolding formula_of by_formula takes_offset lengths_refusal formula_refusal change_of answer_of_kind size_due kind_refusal answer_of onward
  tdb-to-tcb = record { answers = λ s d. refl; refuses = λ a b c d e f. refl }

  pub tai_to_ut1 : IsFormula 1 2 1 days
  unfolding formula_of by_formula takes_offset lengths_refusal formula_refusal answer_of_kind size_due kind_refusal answer_of onward
  tai_to_ut1 = record { answers = λ s d. refl; refuses = λ a b c d e f. refl }

  pub ut1_to_tai : IsFormula 2 1 2 days
  unfolding formula_of by_formula takes_offset lengths_refusal formula_refusal answer_of_kind size_due kind_refusal answer_of onward
  ut1_to_tai = record { answers = λ s d. refl; refuses = λ a b c d e f. refl }

  pub ut1_to_tt : IsFormula 2 3 1 days
  unfolding formula_of by_formula takes_offset lengths_refusal formula_refusal answer_of_kind size_due kind_refusal answer_of onward
  ut1_to_tt = record { answers = λ s d. refl; refuses = λ a b c d e f. refl }

  pub tt_to_ut1 : IsFormula 3 2 2 days
  unfolding formula_of by_formula takes_offset lengths_refusal formula_refusal answer_of_kind size_due kind_refusal answer_of onward
  tt_to_ut1 = record { answers = λ s d. refl; refuses = λ a b c d e f. refl }

  pub tt_to_tdb : IsFormula 3 7 1 days
  unfolding formula_of by_formula takes_offset lengths_refusal formula_refusal answer_of_kind size_due kind_refusal answer_of onward
  tt_to_tdb = record { answers = λ s d. refl; refuses = λ a b c d e f. refl }

  pub tdb_to_tt : IsFormula 7 3 2 days
  unfolding formula_of by_formula takes_offset lengths_refusal formula_refusal answer_of_kind size_due kind_refusal answer_of onward
  tdb_to_tt = record { answers = λ s d. refl; refuses = λ a b c d e f. refl }

-- ---- two scales of which a test said which they are
pub found : {from to : ℕ} (a b kind : ℕ) {r : ℕ} {days x : Float} → (eqb from a && eqb to b) ≡ true → r ≡ kind → x ≡ days → IsFormula a b kind days
    → IsFormula from to r x
found {from} {to} a b kind h e q is =
    let f : from ≡ a = eqb-true from a (and_left (eqb from a) (eqb to b) h) in
    let g : to ≡ b = eqb-true to b (and_right (eqb from a) (eqb to b) h) in
    rw (f, g, e, q) is

-- ---- no pair at all
module _ (from to : ℕ) (days : Float) (h : needs_none from to ≡ false) where
  pub no_formula : (eqb from 1 && eqb to 2) ≡ false → (eqb from 2 && eqb to 1) ≡ false → (eqb from 2 && eqb to 3) ≡ false → (eqb from 3 && eqb to 2) ≡ false
      → (eqb from 3 && eqb to 7) ≡ false → (eqb from 7 && eqb to 3) ≡ false
      → IsFormula from to 0 days
  unfolding formula_of by_formula lengths_refusal formula_refusal answer_of_kind kind_refusal onward needs_none
  no_formula p q r s t u =
      go (eqb from 4 && eqb to 1) (eqb from 1 && eqb to 4) (eqb from 1 && eqb to 3) (eqb from 3 && eqb to 1) (eqb from 3 && eqb to 5) (eqb from 5 && eqb to 3)
      (eqb from 6 && eqb to 7) (eqb from 7 && eqb to 6) refl refl refl refl refl refl refl refl h
    where
      go : (c1 c2 c3 c4 c5 c6 c7 c8 : Bool) → (eqb from 4 && eqb to 1) ≡ c1 → (eqb from 1 && eqb to 4) ≡ c2 → (eqb from 1 && eqb to 3) ≡ c3
          → (eqb from 3 && eqb to 1) ≡ c4
          → (eqb from 3 && eqb to 5) ≡ c5 → (eqb from 5 && eqb to 3) ≡ c6 → (eqb from 6 && eqb to 7) ≡ c7 → (eqb from 7 && eqb to 6) ≡ c8
          → (c1 || (c2 || (c3 || (c4 || (c5 || (c6 || (c7 || c8))))))) ≡ false → IsFormula from to 0 days
      go false false false false false false false false e1 e2 e3 e4 e5 e6 e7 e8 z = record {
        answers = λ seconds d. rw (e1, e2, e3, e4, e5, e6, e7, e8, p, q, r, s, t, u);
        refuses = λ size1 size2 size3 room1 room2 room. rw (e1, e2, e3, e4, e5, e6, e7, e8, p, q, r, s, t, u);
      }
      go true c2 c3 c4 c5 c6 c7 c8 e1 e2 e3 e4 e5 e6 e7 e8 z = absurd (true≢false z)
      go false true c3 c4 c5 c6 c7 c8 e1 e2 e3 e4 e5 e6 e7 e8 z = absurd (true≢false z)
      go false false true c4 c5 c6 c7 c8 e1 e2 e3 e4 e5 e6 e7 e8 z = absurd (true≢false z)
      go false false false true c5 c6 c7 c8 e1 e2 e3 e4 e5 e6 e7 e8 z = absurd (true≢false z)
      go false false false false true c6 c7 c8 e1 e2 e3 e4 e5 e6 e7 e8 z = absurd (true≢false z)
      go false false false false false true c7 c8 e1 e2 e3 e4 e5 e6 e7 e8 z = absurd (true≢false z)
      go false false false false false false true c8 e1 e2 e3 e4 e5 e6 e7 e8 z = absurd (true≢false z)
      go false false false false false false false true e1 e2 e3 e4 e5 e6 e7 e8 z = absurd (true≢false z)

-- a kind that was found, and days that it does not read
pub kept : {from to r kind : ℕ} {x days : Float} → r ≡ kind → x ≡ days → ((y : Float) → IsFormula from to kind y) → IsFormula from to r x
kept {x = x} e q is = rw e (is x)

-- ---- what a kind is not
pub some_kind : (k : Kind) → (k ≡ K.NoFormula → ⊥) → eqb (kind_number k) 0 ≡ false
some_kind K.NoFormula h0 = absurd (h0 refl)
some_kind K.Later h0 = refl
some_kind K.Earlier h0 = refl
some_kind K.Shift h0 = refl
some_kind K.TtToTcg h0 = refl
some_kind K.TcgToTt h0 = refl
some_kind K.TcbToTdb h0 = refl
some_kind K.TdbToTcb h0 = refl

pub no_offset : (k : Kind) → (k ≡ K.Later → ⊥) → (k ≡ K.Earlier → ⊥) → (eqb (kind_number k) 1 || eqb (kind_number k) 2) ≡ false
no_offset K.NoFormula h0 h1 = refl
no_offset K.Later h0 h1 = absurd (h0 refl)
no_offset K.Earlier h0 h1 = absurd (h1 refl)
no_offset K.Shift h0 h1 = refl
no_offset K.TtToTcg h0 h1 = refl
no_offset K.TcgToTt h0 h1 = refl
no_offset K.TcbToTdb h0 h1 = refl
no_offset K.TdbToTcb h0 h1 = refl

pub last_change : (k : Kind) (days : Float) → (k ≡ K.Shift → ⊥) → (k ≡ K.TtToTcg → ⊥) → (k ≡ K.TcgToTt → ⊥) → (k ≡ K.TcbToTdb → ⊥)
    → change_of (kind_number k) days ≡ tdb_to_tcb
unfolding change_of
last_change K.NoFormula days h0 h1 h2 h3 = refl
last_change K.Later days h0 h1 h2 h3 = refl
last_change K.Earlier days h0 h1 h2 h3 = refl
last_change K.Shift days h0 h1 h2 h3 = absurd (h0 refl)
last_change K.TtToTcg days h0 h1 h2 h3 = absurd (h1 refl)
last_change K.TcgToTt days h0 h1 h2 h3 = absurd (h2 refl)
last_change K.TcbToTdb days h0 h1 h2 h3 = absurd (h3 refl)
last_change K.TdbToTcb days h0 h1 h2 h3 = refl

pub ruleset kinds = (some_kind, no_offset, last_change)
