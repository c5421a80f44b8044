-- `utc_scales::from_ut1::after_step` meets its contract. Assumes nothing.
use lib.Ieee.{of_bits}
use Rattle.constants.proofs.Bits.{seconds-per-day}
use Rattle.utc_scales.specs.from_ut1.Ut1Utc.{after_step}
use Rattle.utc_scales.proofs.from_ut1.after_step.Goals as goal

pub returns-then-past : goal.returns-then-past
unfolding after_step of_bits
returns-then-past c = rw (c.if-past.true, c.at_most_one-fraction.ensures, seconds-per-day)
