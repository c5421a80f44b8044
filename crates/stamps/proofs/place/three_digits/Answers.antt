-- `place::three_digits` meets its contract: one digit, or those of a tenth and one more. Assumes nothing.
use Rattle.stamps.proofs.Places.{one-digit, more-digits}
use Rattle.stamps.proofs.place.three_digits.Goals as goal

pub returns-then-n-lt10 : goal.returns-then-n-lt10
returns-then-n-lt10 c = let p = one-digit _ 2 c.if-n-lt10.true c.digit.ensures in record { placed = p.0; upper_bound = p.1 }

pub returns : goal.returns
returns c =
    let p = more-digits _ 2 c.if-n-lt10.false c.requires c.two_digits-next.ensures.placed c.digit-2.ensures in
    record { placed = p.0; upper_bound = p.1 }
