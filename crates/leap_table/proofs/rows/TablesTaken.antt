-- A table is refused by its number or taken with all its rows: what a call that tests the table answers, and what is known of a table that is taken.
-- Assumes nothing.
use Rattle.std.proofs.Common.{◌≡◌, ℕ, zero, suc, ◌<◌, ◌≤◌, Bool, true, false, cond, ◌&&◌, eqb, leb, List, sym, refl, ap, ◌∙◌, not-suc-le-zero}
use Rattle.std.proofs.Common.{arith, eq-eqb, ne_eqb, eqb-true, le-leb, leb-true}
use borrow.Author.Tests.{lt-leb}
use Rattle.std.specs.Prelude.{Result, Ok, Err}
use Rattle.refusals.specs.declared.Refusal.{Refusal}
use Rattle.refusals.specs.Refusal.{refusal_number}
use Rattle.refusals.specs.Outcome.{Outcome, answer, refusal, onward, number_said}
use Rattle.refusals.proofs.Handed.{number_low}
use Rattle.leap_table.specs.declared.rows.AnnouncedRows.{AnnouncedRows}
use Rattle.leap_table.specs.rows.Table.{Row, fixed, starts, rising}
use Rattle.leap_table.specs.rows.Announced.{rows_to, announced_size, rows_of, sizes_fit, by_seconds, table_of, unless_refused}
use Rattle.leap_table.proofs.rows.TableTests.{rises-none, steps-none}

-- ---- the number of a table's refusal, and a call that goes on with its rows
module _ {B : Type 0} (t : AnnouncedRows) (n : ℕ) (e : unless_refused n (rows_of t) ≡ table_of t) (next : List Row → Outcome B) where
  pub not_taken : (n ≡ 0 → ⊥) → refusal n ≡ onward (table_of t) next
  unfolding onward
  not_taken h = go n h ∙ ap (λ (o : Outcome (List Row)). onward o next) e
    where
      go : (k : ℕ) → (k ≡ 0 → ⊥) → refusal k ≡ onward (unless_refused k (rows_of t)) next
      go zero h = absurd (h refl)
      go (suc k) h = refl

  pub taken : n ≡ 0 → next (rows_of t) ≡ onward (table_of t) next
  unfolding onward
  taken h = ap (λ (k : ℕ). onward (unless_refused k (rows_of t)) next) (sym h) ∙ ap (λ (o : Outcome (List Row)). onward o next) e

-- ---- the same by the result of `judge_table`
module _ (t : AnnouncedRows) (r : Result Unit Refusal) (e : unless_refused (number_said r) (rows_of t) ≡ table_of t) where
  is-refused : (k : Refusal) → r ≡ Err k → number_said r ≡ refusal_number k
  unfolding number_said
  is-refused k p = ap number_said p

  is_not : (u : Unit) → r ≡ Ok u → number_said r ≡ 0
  unfolding number_said
  is_not u p = ap number_said p

  pub table_refused : (k : Refusal) → r ≡ Err k → refusal (refusal_number k) ≡ table_of t
  table_refused k p = go (refusal_number k) (number_low k) ∙ ap (λ (j : ℕ). unless_refused j (rows_of t)) (sym (is-refused k p)) ∙ e
    where
      go : (j : ℕ) → 1 ≤ j → refusal j ≡ unless_refused j (rows_of t)
      go zero h = absurd (not-suc-le-zero h)
      go (suc j) h = refl

  pub table_answered : (u : Unit) → r ≡ Ok u → answer (rows_of t) ≡ table_of t
  table_answered u p = ap (λ (j : ℕ). unless_refused j (rows_of t)) (sym (is_not u p)) ∙ e

  module _ {B : Type 0} (next : List Row → Outcome B) where
    pub call_refused : (k : Refusal) → r ≡ Err k → refusal (refusal_number k) ≡ onward (table_of t) next
    unfolding onward
    call_refused k p = ap (λ (o : Outcome (List Row)). onward o next) (table_refused k p)

    pub call_taken : (u : Unit) → r ≡ Ok u → next (rows_of t) ≡ onward (table_of t) next
    unfolding onward
    call_taken u p = ap (λ (o : Outcome (List Row)). onward o next) (table_answered u p)

-- ---- the three tests, as the code makes them
module _ (t : AnnouncedRows) where
  abbrev M : ℕ
  M = t.months_size

  abbrev S : ℕ
  S = t.seconds_size

  pub sizes-differ : (M ≡ S → ⊥) → refusal 20 ≡ table_of t
  unfolding table_of
  sizes-differ h = rw (ne_eqb M S h)

  pub sizes-large : M ≡ S → 16 < M → refusal 20 ≡ table_of t
  unfolding table_of
  sizes-large e h = rw (eq-eqb M S e, lt-leb M 16 h)

  sizes-fit : M ≡ S → M ≤ 16 → sizes_fit t ≡ true
  sizes-fit e h = rw (eq-eqb M S e, le-leb M 16 h)

  pub all-count : M ≡ S → M ≤ 16 → announced_size t ≡ M
  unfolding announced_size
  all-count e h = rw (le-leb M S (omega arith), le-leb M 16 h)

  module _ (e : M ≡ S) (h : M ≤ 16) where
    by_size : (f : List Row → Bool) (b : Bool) → b ≡ f (rows_to t M) → f (rows_of t) ≡ b
    by_size f b p = ap (λ (k : ℕ). f (rows_to t k)) (all-count e h) ∙ sym p

    pub not_rising : false ≡ rising (starts (rows_to t M)) → refusal 21 ≡ table_of t
    unfolding table_of
    not_rising p = rw (sizes-fit e h, by_size (λ l. rising (starts l)) false p)

    pub not_by_seconds : true ≡ rising (starts (rows_to t M)) → false ≡ by_seconds (rows_to t M) → refusal 22 ≡ table_of t
    unfolding table_of
    not_by_seconds p q = rw (sizes-fit e h, by_size (λ l. rising (starts l)) true p, by_size by_seconds false q)

    pub all_right : true ≡ rising (starts (rows_to t M)) → true ≡ by_seconds (rows_to t M) → answer (rows_of t) ≡ table_of t
    unfolding table_of
    all_right p q = rw (sizes-fit e h, by_size (λ l. rising (starts l)) true p, by_size by_seconds true q)

-- ---- with no announced rows the table is the fixed one, whatever the places hold
pub table_none : (t : AnnouncedRows) → t.months_size ≡ 0 → t.seconds_size ≡ 0 → table_of t ≡ answer fixed
unfolding rows_to
table_none t p q =
    let e : t.months_size ≡ t.seconds_size = cc in
    let h : t.months_size ≤ 16 = omega arith in
    sym (all_right t e h
    (sym (ap (λ (k : ℕ). rising (starts (rows_to t k))) p ∙ rises-none t))
    (sym (ap (λ (k : ℕ). by_seconds (rows_to t k)) p ∙ steps-none t)))
    ∙ ap (λ (k : ℕ). answer (rows_to t k)) (all-count t e h ∙ p)

-- ---- a table that is taken
pub record Taken (t : AnnouncedRows) (rows : List Row) : Type 0 where
  pub all : rows ≡ rows_of t
  pub one_size : t.months_size ≡ t.seconds_size
  pub most : t.months_size ≤ 16
  pub in_order : rising (starts (rows_of t)) ≡ true
  pub by_ones : by_seconds (rows_of t) ≡ true

pub when_taken : (t : AnnouncedRows) (rows : List Row) → table_of t ≡ answer rows → Taken t rows
unfolding table_of
when_taken t rows e = go (eqb t.months_size t.seconds_size) refl (leb t.months_size 16) refl (rising (starts (rows_of t))) refl
    (by_seconds (rows_of t)) refl e
  where
    go : (a : Bool) → eqb t.months_size t.seconds_size ≡ a → (b : Bool) → leb t.months_size 16 ≡ b → (c : Bool)
        → rising (starts (rows_of t)) ≡ c → (d : Bool) → by_seconds (rows_of t) ≡ d
        → cond (a && b) (cond c (cond d (answer (rows_of t)) (refusal 22)) (refusal 21)) (refusal 20) ≡ answer rows → Taken t rows
    go true p true q true r true s z = record { all = cc; one_size = eqb-true _ _ p; most = leb-true _ _ q; in_order = r; by_ones = s }
    go true p true q true r false s z = let y : ◌≡◌ {A = ℕ} 0 1 = cc in absurd (omega arith)
    go true p true q false r d s z = let y : ◌≡◌ {A = ℕ} 0 1 = cc in absurd (omega arith)
    go true p false q c r d s z = let y : ◌≡◌ {A = ℕ} 0 1 = cc in absurd (omega arith)
    go false p b q c r d s z = let y : ◌≡◌ {A = ℕ} 0 1 = cc in absurd (omega arith)

pub none_rows : (t : AnnouncedRows) → table_of t ≡ answer fixed → rows_of t ≡ fixed
none_rows t e = sym (when_taken t fixed e).all
