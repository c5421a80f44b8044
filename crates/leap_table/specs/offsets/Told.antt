-- What a rule says. Written from document 02, item 5: "absent (before 1960, no row), drifting (rows 0 to 13) or whole". Assumes nothing.
use Rattle.std.specs.Prelude.{◌≡◌, ℕ, ◌<◌, ◌≤◌, ◌⊎◌, ◌↔◌, List, ℤ, slice_index_or, unsigned_abs, Float}
use Rattle.refusals.specs.Outcome.{Outcome, answer}
use Rattle.floats.specs.Whole.{nought}
use Rattle.leap_table.specs.declared.offsets.Rule.{Rule}
use Rattle.leap_table.specs.declared.offsets.Rule.TheVariants.{Absent, Drifting, Whole}
use Rattle.leap_table.specs.rows.Table.{LastBegun, Row, month_number, none, starts}
use Rattle.leap_table.specs.offsets.Offset.{by_row, offset_at, tai_utc_offset}
use Rattle.leap_table.specs.offsets.Rule.{forget, offset_by_rule, rule_of}

-- without its rule o is p, and its rule is q
abbrev pub WithRule : {A : Type 0} → Outcome (A × Rule) → Outcome A → Outcome Rule → Type 0
WithRule {A} o p q = (forget o ≡ p) × ((a : A) (r : Rule) → o ≡ answer (a, r) → q ≡ answer r)

-- the rule of month n names row i
abbrev pub NamesRow : List Row → ℕ → ℕ → Type 0
NamesRow rows n i = (rule_of rows n ≡ Drifting i) ⊎ (rule_of rows n ≡ Whole i)

-- the look-up tells the rule of its month; and which rule month n has, and what offset it gives: January 1960 is month 23520
pub record RuleTold (rows : List Row) (n i : ℕ) (y m d : ℤ) (f x : Float) : Type 0 where
  pub told : WithRule (offset_by_rule rows y m d f) (tai_utc_offset rows y m d f) (answer (rule_of rows (month_number y (unsigned_abs m))))
  pub absent : (rule_of rows n ≡ Absent) ↔ (n < 23520)
  pub drifting : rule_of rows n ≡ Drifting i → i < 14
  pub whole : rule_of rows n ≡ Whole i → 14 ≤ i
  pub none_given : rule_of rows n ≡ Absent → offset_at rows n x f ≡ nought
  pub row_given : NamesRow rows n i → offset_at rows n x f ≡ by_row (slice_index_or rows i none) x f

-- the row named is the last whose month has begun
abbrev pub NamesLastBegun : List Row → ℕ → ℕ → Type 0
NamesLastBegun rows n i = NamesRow rows n i → LastBegun (starts rows) n i
