-- `listing::one_if_refused` meets its contract: a late date, the refusal of the day number, or the place of the day. Assumes nothing.
use mathlib.Core.Path.{refl, sym, ◌∙◌}
use native.Mathlib.Omega.{arith}
use borrow.Author.Rules.{rules}
use Rattle.stamps.proofs.Counts.{day-refused, day-given, day-test}
use Rattle.stamps.proofs.LateDates.{late_of, late-shown}
use Rattle.stamps.proofs.listing.one_if_refused.Goals as goal

pub returns-then-surely_shown : goal.returns-then-surely_shown
returns-then-surely_shown c = (
  (λ rows. late-shown rows c.args.jd (search rules) (search rules) (late_of _ _ (sym c.if-surely_shown.true ∙ c.surely_shown.ensures))),
  omega arith,
)

pub returns-in-Err : goal.returns-in-Err
returns-in-Err c = ((λ rows. day-refused rows c.args.jd _ c.day_number_and_fraction.ensures _ c.in-Err.is), omega arith)

pub returns-in-Ok : goal.returns-in-Ok
returns-in-Ok c =
    let p = c.one_if_early.ensures in
    let n = c.in-Ok.found in (
      (λ rows. p.0 ∙ day-test n.day _ (search rules) refl ∙ day-given rows c.args.jd _ c.day_number_and_fraction.ensures n c.in-Ok.is),
      p.1,
    )
