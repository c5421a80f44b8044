-- The code's own form of |x|: the larger of x and -x, which for a zero may be -0.0. No public contract cites it. Assumes nothing.
use Rattle.std.specs.Prelude.{cond, Float}
use Rattle.std.specs.Float.Ieee.{neg, lt}

unfoldable pub size : Float → Float
unfolding lt neg
size x = cond (lt (neg x) x) x (neg x)
