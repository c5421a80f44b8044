-- `julian::second_limit` meets its contract. Assumes nothing.
use mathlib.Core.Logic.{⊎_elim}
use lib.Ieee.{of_bits, round}
use borrow.Author.Tests.{eq-eqb, ne_eqb}
use Rattle.julian.specs.DayFraction.{second_limit}
use Rattle.julian.proofs.second_limit.Goals as goal

pub returns-then-minute-eq59 : goal.returns-then-minute-eq59
unfolding second_limit of_bits round
returns-then-minute-eq59 c = rw (eq-eqb c.args.hour 23 c.if-hour-eq23.true, eq-eqb c.args.minute 59 c.if-minute-eq59.true)

pub returns-else-hour-eq23 : goal.returns-else-hour-eq23
unfolding second_limit of_bits round
returns-else-hour-eq23 c =
    ⊎_elim (λ w. rw (eq-eqb c.args.hour 23 w.0, ne_eqb c.args.minute 59 w.1)) (λ w. rw (ne_eqb c.args.hour 23 w)) c.else-hour-eq23.either
