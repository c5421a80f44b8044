-- `place::digit` meets its contract. Assumes nothing.
use mathlib.Core.Path.{refl}
use Rattle.numerals.proofs.digits.Places.{digit_put}
use Rattle.stamps.proofs.place.digit.Goals as goal

pub returns : goal.returns
returns c = digit_put c.args.dst.now c.args.at _ _ c.requires refl
