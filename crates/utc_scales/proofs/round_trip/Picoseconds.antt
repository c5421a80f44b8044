-- How many picoseconds what comes back may lie from what was given, from the bound in the parts of a day that the residuals have. Assumes nothing.
use Rattle.std.proofs.Common.{◌≡◌, ℕ, ◌+◌, ◌*◌, ◌≤◌, arith}
use Rattle.utc_scales.proofs.round_trip.Residuals.{back_again}

abbrev pub picoseconds_back : ℕ
picoseconds_back = 173

pub over : (A bp bn rp rn Q h : ℕ) → Q ≡ 9007199254740992 * h → 86400 * (rp + bn) ≤ 86400 * (rn + bp) + back_again * h
    → 86400000000000000 * (1 * (A + rp) + 1 * bn + 0) ≤ 86400000000000000 * (1 * rn + 1 * (A + bp) + 0) + picoseconds_back * (1 * Q)
over A bp bn rp rn Q h e k = omega arith

pub under : (A bp bn rp rn Q h : ℕ) → Q ≡ 9007199254740992 * h → 86400 * (rn + bp) ≤ 86400 * (rp + bn) + back_again * h
    → 86400000000000000 * (1 * rn + 1 * (A + bp) + 0) ≤ 86400000000000000 * (1 * (A + rp) + 1 * bn + 0) + picoseconds_back * (1 * Q)
under A bp bn rp rn Q h e k = omega arith
