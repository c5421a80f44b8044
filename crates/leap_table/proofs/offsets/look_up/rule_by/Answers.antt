-- `leap_table::offsets::look_up::rule_by` meets its contract: the rows of places 0 to 13 drift, and no other. Assumes nothing.
use Rattle.std.proofs.Common.{◌≡◌, ℕ, ◌-◌, ◌<◌, not, ap, ◌∙◌, arith, le-ltb, lt-ltb}
use Rattle.leap_table.specs.declared.offsets.Rule.TheVariants.{Whole}
use Rattle.leap_table.specs.rows.Announced.{announced_size, rows_of}
use Rattle.leap_table.proofs.rows.Tables.{table-drifts}
use Rattle.leap_table.proofs.offsets.Rules.{rule-absent, rule-drifts, rule-whole}
use Rattle.leap_table.proofs.offsets.look_up.rule_by.Goals as goal

above : (k : ℕ) → (k ≡ 0 → ⊥) → 0 < k
above k h = omega arith

named : (r k : ℕ) → r ≡ k - 1 → Whole r ≡ Whole (k - 1)
named r k e = ap Whole e

pub returns-then-rows-eq0 : goal.returns-then-rows-eq0
returns-then-rows-eq0 c t h = rule-absent (rows_of t) c.args.rows c.if-rows-eq0.true

pub returns-then-row-lt14 : goal.returns-then-row-lt14
returns-then-row-lt14 c t h =
    let k = c.args.rows in
    let a = above _ c.if-rows-eq0.false in
    rule-drifts (rows_of t) k a (table-drifts t (announced_size t) (k - 1) (omega (arith, a, h)) ∙ ap not (lt-ltb (k - 1) 14 c.if-row-lt14.true))

pub returns : goal.returns
returns c t h =
    let k = c.args.rows in
    let a = above _ c.if-rows-eq0.false in
    named _ k (omega arith)
    ∙ rule-whole (rows_of t) k a (table-drifts t (announced_size t) (k - 1) (omega (arith, a, h)) ∙ ap not (le-ltb (k - 1) 14 c.if-row-lt14.false))
