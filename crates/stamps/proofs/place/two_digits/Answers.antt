-- `place::two_digits` meets its contract: one digit, or those of a tenth and one more. Assumes nothing.
use Rattle.numerals.proofs.digits.Places.{placed-as}
use Rattle.stamps.proofs.Places.{one-digit, more-digits, first-digit}
use Rattle.stamps.proofs.place.two_digits.Goals as goal

pub returns-then-n-lt10 : goal.returns-then-n-lt10
returns-then-n-lt10 c = let p = one-digit _ 1 c.if-n-lt10.true c.digit.ensures in record { placed = p.0; upper_bound = p.1 }

pub returns : goal.returns
returns c =
    let p = more-digits _ 1 c.if-n-lt10.false c.requires (placed-as (first-digit _) c.digit-next.ensures) c.digit-2.ensures in
    record { placed = p.0; upper_bound = p.1 }
