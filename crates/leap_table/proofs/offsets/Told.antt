-- WHICH ROW A RULE NAMES and what offset it gives, for every table that is taken. Assumes nothing.
use Rattle.std.proofs.Common.{◌≡◌, ℕ, List, get_or, ℤ, nat_abs, sym, ap, ◌∙◌, inl, inr}
use lib.Ieee.{Float}
use Rattle.refusals.specs.Outcome.{Outcome, answer, refusal}
use Rattle.refusals.proofs.Onward.{came}
use Rattle.leap_table.specs.declared.rows.AnnouncedRows.{AnnouncedRows}
use Rattle.leap_table.specs.declared.offsets.Rule.{Rule}
use Rattle.leap_table.specs.rows.Table.{Row, month_number, none}
use Rattle.leap_table.specs.rows.Announced.{rows_of, table_of}
use Rattle.leap_table.specs.offsets.Offset.{by_row, offset_at, tai_utc_offset}
use Rattle.leap_table.specs.offsets.Rule.{offset_by_rule, rule_at, rule_of, with_rule}
use Rattle.leap_table.specs.offsets.Told.{NamesLastBegun, NamesRow, RuleTold}
use Rattle.leap_table.proofs.rows.TablesTaken.{when_taken}
use Rattle.leap_table.proofs.offsets.Rules.{offset-forgets}
use Rattle.leap_table.proofs.offsets.RuleLaws as Rules

-- ---- the look-up's rule
look_up_tells : (rows : List Row) (y m d : ℤ) (f x : Float) (r : Rule) → offset_by_rule rows y m d f ≡ answer (x, r)
    → answer (rule_of rows (month_number y (nat_abs m))) ≡ answer r
unfolding offset_by_rule with_rule rule_at
look_up_tells rows y m d f x r e =
    let (a, u, v) = came (tai_utc_offset rows y m d f) (λ a. answer (a, rule_at rows y m)) (x, r) e in
    ap (λ (o : Outcome (Float × Rule)). answer (rule_in o)) v
  where
    rule_in : Outcome (Float × Rule) → Rule
    rule_in (answer p) = p.1
    rule_in (refusal k) = r

-- ---- the row named
pub names-last-begun : (rows : List Row) (n i : ℕ) → NamesLastBegun rows n i
names-last-begun rows n i (inl e) = Rules.drifting-last-begun rows n i e
names-last-begun rows n i (inr e) = Rules.whole-last-begun rows n i e

row_given : (rows : List Row) (n i : ℕ) (x f : Float) → NamesRow rows n i → offset_at rows n x f ≡ by_row (get_or rows i none) x f
row_given rows n i x f (inl e) = Rules.drifting-offset rows n i e x f
row_given rows n i x f (inr e) = Rules.whole-offset rows n i e x f

module _ (t : AnnouncedRows) (rows : List Row) (e : table_of t ≡ answer rows) where
  of_rows : (n : ℕ) → rule_of (rows_of t) n ≡ rule_of rows n
  of_rows n = ap (λ (l : List Row). rule_of l n) (sym (when_taken t rows e).all)

  pub rule_told : (n i : ℕ) (y m d : ℤ) (f x : Float) → RuleTold rows n i y m d f x
  rule_told n i y m d f x = record {
    told = (offset-forgets rows y m d f, look_up_tells rows y m d f);
    absent = (λ p. Rules.absent-before-1960 t n (of_rows n ∙ p), Rules.before-1960-absent t rows e n);
    drifting = λ p. Rules.drifting-below-14 t n i (of_rows n ∙ p);
    whole = λ p. Rules.whole-from-14 t n i (of_rows n ∙ p);
    none_given = λ p. Rules.absent-offset rows n p x f;
    row_given = row_given rows n i x f;
  }
