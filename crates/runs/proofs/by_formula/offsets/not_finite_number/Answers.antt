-- `runs::by_formula::offsets::not_finite_number` meets its contract. Assumes nothing.
use Prim.Native.Nat.{ℕ}
use mathlib.Core.Path.{sym, ap, ◌∙◌}
use lib.Ieee.{binary64, of_bits}
use lib.Ieee.Scale.{finite}
use Rattle.runs.specs.by_formula.Asked.{number_of_not_finite_at}
use Rattle.runs.proofs.by_formula.offsets.not_finite_number.Goals as goal

pub returns-then-not-is_number : goal.returns-then-not-is_number
unfolding number_of_not_finite_at
returns-then-not-is_number c = rw (ap (λ (b : ℕ). finite (of_bits binary64 b)) (sym c.pattern_at.ensures) ∙ sym c.is_number.ensures
    ∙ c.if-not-is_number.true)

pub returns-then-not-is_number-2 : goal.returns-then-not-is_number-2
unfolding number_of_not_finite_at
returns-then-not-is_number-2 c = rw (
  ap (λ (b : ℕ). finite (of_bits binary64 b)) (sym c.pattern_at.ensures)
      ∙ sym c.is_number.ensures ∙ c.if-not-is_number.false,
  ap (λ (b : ℕ). finite (of_bits binary64 b)) (sym c.pattern_at-2.ensures) ∙ sym c.is_number-2.ensures
      ∙ c.if-not-is_number-2.true,
)

pub returns : goal.returns
unfolding number_of_not_finite_at
returns c = rw (
  ap (λ (b : ℕ). finite (of_bits binary64 b)) (sym c.pattern_at.ensures)
      ∙ sym c.is_number.ensures ∙ c.if-not-is_number.false,
  ap (λ (b : ℕ). finite (of_bits binary64 b)) (sym c.pattern_at-2.ensures) ∙ sym c.is_number-2.ensures
      ∙ c.if-not-is_number-2.false,
)
