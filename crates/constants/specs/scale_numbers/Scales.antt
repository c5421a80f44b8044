-- The scales by number, in the order of document 01 and of include/celestial_time.h. Assumes nothing.
use Rattle.std.specs.Prelude.{ℕ}

abbrev pub UTC : ℕ
UTC = 0

abbrev pub TAI : ℕ
TAI = 1

abbrev pub UT1 : ℕ
UT1 = 2

abbrev pub TT : ℕ
TT = 3

abbrev pub GPS : ℕ
GPS = 4

abbrev pub TCG : ℕ
TCG = 5

abbrev pub TCB : ℕ
TCB = 6

abbrev pub TDB : ℕ
TDB = 7
