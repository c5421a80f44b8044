-- What the functions below the call ask and ensure. Assumes nothing.
use Rattle.std.specs.Prelude.{ℕ, Bool, ◌&&◌, ◌||◌, eqb}
use Rattle.constants.specs.scale_numbers.Scales.{TAI, TT, GPS, TCG}

-- the pairs of scales whose way is one formula: GPS and TAI, TT and TAI, TT and TCG, both ways
unfoldable pub is_short : ℕ → ℕ → Bool
is_short from to =
    (eqb from GPS && eqb to TAI) || ((eqb from TAI && eqb to GPS) ||
    ((eqb from TAI && eqb to TT) || ((eqb from TT && eqb to TAI) || ((eqb from TT && eqb to TCG) || (eqb from TCG && eqb to TT)))))
