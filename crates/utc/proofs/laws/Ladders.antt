-- Going up an order of refusals, test by test: the first reason that there is stops, and with none the call answers; the table's three tests, a date's three,
-- and those of two parts. Assumes nothing.
use mathlib.Core.Path.{◌≡◌, refl, sym, ap, ◌∙◌}
use mathlib.Core.Bool.{Bool, true, false, cond, ◌||◌, true≢false}
use mathlib.Core.Logic.{◌⊎◌, inl, inr}
use mathlib.Core.List.{List}
use Prim.Native.Nat.{ℕ, ◌≤◌, ◌<◌}
use native.Mathlib.Omega.{arith}
use lib.Dec.{eqb}
use lib.IntN.{ℤ, pos, negsuc}
use lib.Signed.{lt_z}
use lib.Ieee.{Float}
use borrow.Author.Tests.{eqb-true, eqb-false}
use Rattle.refusals.specs.Outcome.{Outcome, answer, refusal}
use Rattle.refusals.proofs.Onward.{went, stopped}
use Rattle.calendar.specs.Calendar.{days_in_month}
use Rattle.calendar.specs.Refusals.{valid_date}
use Rattle.calendar.specs.declared.CalendarDate.{CalendarDate}
use Rattle.calendar.proofs.Years.{valid_of, gregorian_refusal}
use Rattle.calendar.proofs.Accepted.{date-accepted}
use Rattle.julian.specs.day_number.DayNumber.{accepted, day_of}
use Rattle.julian.proofs.day_number.Answer.{answered, refused}
use Rattle.julian.specs.declared.CalendarFields.{CalendarFields}
use Rattle.julian.specs.Calendar.{fields, julian_to_calendar}
use Rattle.leap_table.specs.declared.rows.AnnouncedRows.{AnnouncedRows}
use Rattle.leap_table.specs.rows.Table.{Row}
use Rattle.leap_table.specs.rows.Announced.{rows_of, later_at, StepAt, table_of, Decision, sizes, order, step, taken}
use Rattle.leap_table.proofs.rows.TableLaws.{table-decided}
use Rattle.utc.specs.laws.Ladder.{Ladder, done, refuse, FirstReason, Decided}
use Rattle.utc.specs.laws.Ladders.{WrongSizes, RowNotLater, NotOneStep, table_first, date_then, date_in, parts_then}

differ : {X : Type 0} (m n : ℕ) → (m ≡ n → ⊥) → ◌≡◌ {A = Outcome X} (refusal m) (refusal n) → ⊥
differ m n h e = h (cc)

-- a date that is refused by 1 is of a year before -4799
refused-early : (y m d : ℤ) → valid_date y m d ≡ refusal 1 → lt_z y (negsuc 4798) ≡ true
unfolding valid_date
refused-early y m d e = go (lt_z y (negsuc 4798)) (lt_z m (pos 1) || lt_z (pos 12) m) (lt_z d (pos 1) || lt_z (pos (days_in_month y m)) d) e
  where
    go : (a b c : Bool) → ◌≡◌ {A = Outcome Unit} (cond a (refusal 1) (cond b (refusal 2) (cond c (refusal 3) (answer tt)))) (refusal 1) → a ≡ true
    go true b c h = refl
    go false true c h = absurd (differ 2 1 (λ z. omega arith) h)
    go false false true h = absurd (differ 3 1 (λ z. omega arith) h)
    go false false false h = let z : ◌≡◌ {A = ℕ} 0 1 = cc in absurd (omega arith)

-- ---- a table that is taken has none of the table's reasons
module _ (t : AnnouncedRows) where
  right-sizes : t.months_size ≡ t.seconds_size → t.months_size ≤ 16 → WrongSizes t → ⊥
  right-sizes p q (inl f) = f p
  right-sizes p q (inr f) = omega arith

  all-later : ((i : ℕ) → i < t.months_size → later_at t i ≡ true) → RowNotLater t → ⊥
  all-later h (i, g, e) = true≢false (sym (h i g) ∙ e)

  all-steps : ((i : ℕ) → i < t.months_size → StepAt t i) → NotOneStep t → ⊥
  all-steps h (i, g, f) = f (h i g)

module _ {A : Type 0} {o : Outcome A} where
  not_both : {a : A} {n : ℕ} → o ≡ answer a → o ≡ refusal n → ⊥
  not_both p q = let z : ◌≡◌ {A = ℕ} 0 1 = cc in omega arith

  -- ---- the three steps
  pub reaches : (a : A) → o ≡ answer a → Decided o done
  reaches a e = record { refuses = λ k f. absurd f; only = λ k r. not_both e r; answers = λ u. (a, e); no_reason = λ b f. tt }

  module _ {n : ℕ} {C : Type 0} {l : Ladder} where
    pub stops : C → o ≡ refusal n → Decided o (refuse n C l)
    stops c e = record { refuses = to; only = λ k r. inl (c, cc); answers = λ u. absurd (u.0 c); no_reason = λ a f. absurd (not_both f e) }
      where
        to : (k : ℕ) → FirstReason k (refuse n C l) → o ≡ refusal k
        to k (inl f) = e ∙ ap refusal (sym f.1)
        to k (inr f) = absurd (f.0 c)

    pub passes : (C → ⊥) → Decided o l → Decided o (refuse n C l)
    passes c d = record { refuses = to; only = λ k r. inr (c, d.only k r); answers = λ u. d.answers u.1; no_reason = λ a f. (c, d.no_reason a f) }
      where
        to : (k : ℕ) → FirstReason k (refuse n C l) → o ≡ refusal k
        to k (inl f) = absurd (c f.0)
        to k (inr f) = d.refuses k f.1

    -- back: past a reason that there is not
    pub past : (C → ⊥) → Decided o (refuse n C l) → Decided o l
    past c d = record {
      refuses = λ k f. d.refuses k (inr (c, f));
      only = λ k r. back k (d.only k r);
      answers = λ u. d.answers (c, u);
      no_reason =
          λ a f. (d.no_reason a f).1;
    }
      where
        back : (k : ℕ) → FirstReason k (refuse n C l) → FirstReason k l
        back k (inl f) = absurd (c f.0)
        back k (inr f) = f.1

  -- by a test of two answers
  pub by-test : {n : ℕ} {l : Ladder} (b w : Bool) → (b ≡ w → o ≡ refusal n) → ((b ≡ w → ⊥) → Decided o l) → Decided o (refuse n (b ≡ w) l)
  by-test true true p q = stops refl (p refl)
  by-test false false p q = stops refl (p refl)
  by-test true false p q = passes true≢false (q true≢false)
  by-test false true p q = passes other (q other)
    where
      other : ◌≡◌ {A = Bool} false true → ⊥
      other e = true≢false (sym e)

  -- ---- the table's three
  module _ (t : AnnouncedRows) (l : Ladder) (not_taken : (n : ℕ) → table_of t ≡ refusal n → o ≡ refusal n) where
    abbrev M : ℕ
    M = t.months_size

    abbrev S : ℕ
    S = t.seconds_size

    wrong_sizes : (M ≡ S → 16 < M) → WrongSizes t
    wrong_sizes h = go (eqb M S) refl
      where
        go : (b : Bool) → eqb M S ≡ b → WrongSizes t
        go true e = inr (h (eqb-true M S e))
        go false e = inl (eqb-false M S e)

    pub under_table : (table_of t ≡ answer (rows_of t) → Decided o l) → Decided o (table_first t l)
    under_table h = go (table-decided t)
      where
        go : Decision t → Decided o (table_first t l)
        go (sizes f e) = stops (wrong_sizes f) (not_taken 20 e)
        go (order p q i g f e) = passes (right-sizes t p q) (stops (i, g, f) (not_taken 21 e))
        go (step p q r i g f e) = passes (right-sizes t p q) (passes (all-later t r) (stops (i, g, f) (not_taken 22 e)))
        go (taken p q r s e) = passes (right-sizes t p q) (passes (all-later t r) (passes (all-steps t s) (h e)))

  -- ---- a date's three
  module _ (y m d : ℤ) (l : Ladder) (date_refused : (n : ℕ) → valid_date y m d ≡ refusal n → o ≡ refusal n) where
    pub by-date : (valid_date y m d ≡ answer tt → Decided o l) → Decided o (date_then y m d l)
    unfolding valid_date
    by-date h = go (lt_z y (negsuc 4798)) (lt_z m (pos 1) || lt_z (pos 12) m) (lt_z d (pos 1) || lt_z (pos (days_in_month y m)) d) refl
      where
        v : Outcome Unit
        v = valid_date y m d

        no : ◌≡◌ {A = Bool} false true → ⊥
        no e = true≢false (sym e)

        go : (a b c : Bool) → v ≡ cond a (refusal 1) (cond b (refusal 2) (cond c (refusal 3) (answer tt)))
            → Decided o (refuse 1 (a ≡ true) (refuse 2 (b ≡ true) (refuse 3 (c ≡ true) l)))
        go true b c e = stops refl (date_refused 1 e)
        go false true c e = passes no (stops refl (date_refused 2 e))
        go false false true e = passes no (passes no (stops refl (date_refused 3 e)))
        go false false false e = passes no (passes no (passes no (h e)))

  -- ---- the year's, of a date whose month and day are good
  pub by-year : (t : CalendarDate) (l : Ladder) → (valid_of t ≡ answer tt) ⊎ (valid_of t ≡ refusal 1) → (valid_of t ≡ refusal 1 → o ≡ refusal 1)
      → (valid_of t ≡ answer tt → Decided o l) → Decided o (refuse 1 (lt_z t.year (negsuc 4798) ≡ true) l)
  by-year t l (inl v) early h = passes (λ e. true≢false (sym e ∙ (date-accepted t.year (pos t.month) (pos t.day) v).year)) (h v)
  by-year t l (inr v) early h = stops (refused-early t.year (pos t.month) (pos t.day) v) (early v)

  -- ---- those of two parts
  module _ (x y : Float) (l : Ladder) (no_date : julian_to_calendar x y ≡ refusal 6 → o ≡ refusal 6) where
    abbrev c : CalendarFields
    c = fields (date_in x y) (day_of x y).fraction

    given : accepted x y ≡ true → julian_to_calendar x y ≡ answer c
    unfolding julian_to_calendar
    given e = went _ (answered x y e)

    pub by_parts : (julian_to_calendar x y ≡ answer c → valid_of (date_in x y) ≡ refusal 1 → o ≡ refusal 1)
        → (julian_to_calendar x y ≡ answer c → valid_of (date_in x y) ≡ answer tt → Decided o l) → Decided o (parts_then x y l)
    unfolding julian_to_calendar
    by_parts early h = go (accepted x y) refl
      where
        not_false : (b : Bool) → b ≡ true → b ≡ false → ⊥
        not_false b p q = true≢false (sym p ∙ q)

        go : (b : Bool) → accepted x y ≡ b → Decided o (parts_then x y l)
        go false e = stops e (no_date (stopped _ (refused x y e)))
        go true e = passes (not_false (accepted x y) e) (by-year (date_in x y) l (gregorian_refusal (day_of x y).day) (early (given e)) (h (given e)))

-- ---- of a table that is taken only what comes after decides
pub after_table : {A : Type 0} {o : Outcome A} {l : Ladder} (t : AnnouncedRows) (rows : List Row) → table_of t ≡ answer rows → Decided o (table_first t l)
    → Decided o l
after_table {o = o} {l} t rows e d = go (table-decided t)
  where
    go : Decision t → Decided o l
    go (sizes g p) = absurd (not_both e p)
    go (order a b i g h p) = absurd (not_both e p)
    go (step a b c i g h p) = absurd (not_both e p)
    go (taken a b c f p) = past (all-steps t f) (past (all-later t c) (past (right-sizes t a b) d))
