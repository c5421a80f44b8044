-- The call as a whole: its refusals in their order, what is known where nothing is refused, and what the lent list holds. Assumes nothing.
use Rattle.std.proofs.Common.{◌≡◌, ℕ, ◌≤◌, Bool, true, false, cond, T, leb, List, ◌++◌, map, length, drop, sym, refl, ap, ◌∙◌, subst, arith}
use Rattle.std.proofs.Common.{leb-true}
use lib.Ieee.{Float}
use Rattle.std.specs.Prelude.{Result, Ok}
use Rattle.refusals.specs.declared.Refusal.{Refusal}
use Rattle.refusals.specs.Outcome.{Outcome, answer, refusal, onward, outcome}
use Rattle.refusals.proofs.Onward.{came}
use Rattle.leap_table.specs.rows.Table.{Row, starts, rising}
use Rattle.leap_table.specs.rows.Announced.{rows_of, table_of}
use Rattle.leap_table.specs.declared.rows.AnnouncedRows.{AnnouncedRows}
use Rattle.leap_table.proofs.rows.TablesTaken.{when_taken}
use Rattle.leap_table.proofs.rows.TableLaws.{table-rises}
use Rattle.leap_table.specs.declared.judging.Triple.{Triple}
use Rattle.leap_table.specs.walk.Rows.{compared}
use Rattle.leap_table.specs.judging.Judging.{judged_all, judged_list}
use Rattle.leap_table.specs.walk.Walk.{month_in, triple_offset, Walked, walked, walk_of}
use Rattle.leap_table.specs.walk.Call.{list_after, WalkCall}
use Rattle.leap_table.specs.rows.Announced.{unless_refused}
use Rattle.std.proofs.Common.{zero, suc}

module _ (rows : List Row) (dates : List Triple) (places : ℕ) where
  -- the dates are judged, and then there is the walk
  pub judged-first : (b : Bool) → onward (judged_list b dates places) (λ _. answer (walked rows dates)) ≡ walk_of rows b dates places
  unfolding walk_of judged_list onward
  judged-first true = go (leb (length dates) places)
    where
      go : (c : Bool) → onward (cond c (judged_all dates) (refusal 11)) (λ _. answer (walked rows dates)) ≡ cond c
          (onward (judged_all dates) (λ _. answer (walked rows dates))) (refusal 11)
      go true = refl
      go false = refl
  judged-first false = refl

  pub record Through : Type 0 where
    pub fits : length dates ≤ places
    pub good : judged_all dates ≡ answer tt

  pub through : (b : Bool) (x : Walked) → walk_of rows b dates places ≡ answer x → Through
  unfolding walk_of
  through true x e = go (leb (length dates) places) refl e
    where
      go : (c : Bool) → leb (length dates) places ≡ c → cond c (onward (judged_all dates) (λ _. answer (walked rows dates))) (refusal 11) ≡ answer x → Through
      go true p q = let (u, v, w) = came (judged_all dates) (λ _. answer (walked rows dates)) x q in record
          { fits = leb-true (length dates) places p; good = v }
      go false p q = let z : ◌≡◌ {A = ℕ} 0 1 = cc in absurd (omega arith)
  through false x e = let z : ◌≡◌ {A = ℕ} 0 1 = cc in absurd (omega arith)

-- ---- with the table
module _ (t : AnnouncedRows) (b : Bool) (dates : List Triple) (places : ℕ) where
  abbrev next : List Row → Outcome Walked
  next rows = walk_of rows b dates places

  abbrev whole : Outcome Walked
  whole = onward (table_of t) next

  -- the number by which the list is refused is that of the walk
  abbrev judged : Outcome Unit
  judged = onward (table_of t) (λ _. judged_list b dates places)

  pub judged-walk : onward judged (λ _. answer (walked (rows_of t) dates)) ≡ whole
  unfolding onward
  judged-walk = go (table_of t) refl
    where
      go : (o : Outcome (List Row)) → table_of t ≡ o → onward (onward o (λ _. judged_list b dates places)) (λ _. answer (walked (rows_of t) dates))
          ≡ onward o next
      go (answer rows) p = ap (λ (l : List Row). onward (judged_list b dates places) (λ _. answer (walked l dates))) (sym (when_taken t rows p).all)
          ∙ judged-first rows dates places b
      go (refusal j) p = refl

  abbrev then_walked : Outcome Unit → Outcome Walked
  then_walked o = onward o (λ _. answer (walked (rows_of t) dates))

  is_walked : answer tt ≡ judged → whole ≡ answer (walked (rows_of t) dates)
  unfolding onward
  is_walked e = sym (ap then_walked e ∙ judged-walk)

  pub record Passed : Type 0 where
    pub order : T (rising (starts (rows_of t)))
    pub fits : length dates ≤ places
    pub good : judged_all dates ≡ answer tt

  pub passed : answer tt ≡ judged → Passed
  passed e =
      let (rows, p, q) = came (table_of t) next (walked (rows_of t) dates) (is_walked e) in
      let r = through rows dates places b (walked (rows_of t) dates) q in
      record {
        order = subst (λ (l : List Row). T (rising (starts l))) (when_taken t rows p).all (table-rises t rows p);
        fits = r.fits;
        good = r.good;
      }

  module _ {A : Type 0} (write : List Float → List A) (before : List A) where
    pub refused-call : (k : ℕ) → refusal k ≡ judged → (r : Result ℕ Refusal) → outcome r ≡ refusal k → WalkCall write whole before r before
    unfolding onward list_after
    refused-call k e r p = rw (sym (ap then_walked e ∙ judged-walk)) (record { says = p; holds = refl })

    pub walked_call : answer tt ≡ judged → (c : ℕ) (after : List A) (room : ℕ)
        → c ≡ compared (starts (rows_of t)) (map month_in dates) → after ≡ write (map (triple_offset (rows_of t)) dates) ++ drop room before
        → length (write (map (triple_offset (rows_of t)) dates)) ≡ room → WalkCall write whole before (Ok c) after
    unfolding outcome onward list_after
    walked_call e c after room p q r =
        rw (is_walked e)
        (record { says = ap answer p; holds = q ∙ ap (λ (n : ℕ). write (map (triple_offset (rows_of t)) dates) ++ drop n before) (sym r) })

-- the number 0 refuses nothing
pub answered-any : {A : Type 0} (k : ℕ) (a : A) → k ≡ 0 → unless_refused k a ≡ answer a
answered-any k a e = ap (λ (x : ℕ). unless_refused x a) e

-- ---- the walk, and what is known where nothing is refused, by such a number
by_number : {A : Type 0} (k : ℕ) (a : A) → unless_refused k a ≡ onward (unless_refused {A = Unit} k tt) (λ _. answer a)
unfolding onward
by_number zero a = refl
by_number (suc k) a = refl

module _ (t : AnnouncedRows) (b : Bool) (dates : List Triple) (places : ℕ) where
  pub walk_by_number : (k : ℕ) → unless_refused k tt ≡ judged t b dates places
      → unless_refused k (walked (rows_of t) dates) ≡ whole t b dates places
  walk_by_number k e = by_number k (walked (rows_of t) dates) ∙ ap (then_walked t b dates places) e ∙ judged-walk t b dates places

  pub passed_by_number : (k : ℕ) → unless_refused k tt ≡ judged t b dates places → k ≡ 0 → Passed t b dates places
  passed_by_number k e z = passed t b dates places (sym (answered-any k tt z) ∙ e)
