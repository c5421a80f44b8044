-- `utc::shown::whole_leap` meets its contract. Assumes nothing.
use mathlib.Core.Path.{◌≡◌, sym, ap, ◌∙◌}
use mathlib.Core.Bool.{Bool, true, false, cond}
use lib.Ieee.{Float, lt, of_bits}
use Rattle.floats.specs.Whole.{abs, nought, half}
use Rattle.time_of_day.specs.Milliseconds.{whole_leap}
use Rattle.utc.proofs.shown.whole_leap.Goals as goal

-- what the test saw is what the definition tests
picks : (b : Bool) (x r : Float) → r ≡ abs x → lt half r ≡ b → cond b x nought ≡ whole_leap x
unfolding whole_leap
picks b x r e t = ap (λ (z : Bool). cond z x nought) (sym t ∙ ap (λ (v : Float). lt half v) e)

pub returns-then-fabs : goal.returns-then-fabs
unfolding of_bits
returns-then-fabs c = picks true c.args.leap c.fabs.result c.fabs.ensures c.if-fabs.true

pub returns-else-fabs : goal.returns-else-fabs
unfolding of_bits
returns-else-fabs c = picks false c.args.leap c.fabs.result c.fabs.ensures c.if-fabs.false
