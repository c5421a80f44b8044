-- `julian::shifts::smaller_part::earlier` meets its contract. Assumes nothing.
use Rattle.julian.specs.shifts.Shifts.{minus}
use Rattle.julian.proofs.shifts.Shifted.{of-date, of-refusal}
use Rattle.julian.proofs.shifts.smaller_part.earlier.Goals as goal

pub returns-in_err-a : goal.returns-in_err-a
returns-in_err-a g c = of-refusal (minus c.args.days) _ _ _ c.in_err-a.was c.from_residual.ensures.1

pub returns : goal.returns
returns g c = of-date (minus c.args.days) _ _ _ c.in_ok-a.was c.subtract_days.ensures
