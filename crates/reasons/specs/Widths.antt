-- Values that the calls' types hold: 32 bits with a sign for a date, 8 bits for hour and minute, 32 and 64 for counts. Every value of the code is one. Assumes
-- nothing.
use Rattle.std.specs.Prelude.{◌<◌, ◌≤◌, nat_abs}
use Rattle.reasons.specs.declared.Values.{Values}
use Rattle.reasons.specs.declared.Values.TheVariants.{NoValues, Date, Time, Parts, Number, Count, Block}

unfoldable pub OfWidth : Values → Type 0
OfWidth NoValues = Unit
OfWidth (Date y m d) = (nat_abs y ≤ 2147483648) × (nat_abs m ≤ 2147483648) × (nat_abs d ≤ 2147483648)
OfWidth (Time hour minute second leap) = (hour < 256) × (minute < 256)
OfWidth (Parts a b) = Unit
OfWidth (Number x) = Unit
OfWidth (Count n) = n < 4294967296
OfWidth (Block length size second) = (length < 18446744073709551616) × (size < 4294967296) × (second < 4294967296)
