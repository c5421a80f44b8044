-- The leap of every day of 1960 to 1971 is at most 0.5 s in size, and the same in both orders of rounding: computed, day by day.
-- Assumes nothing.
use mathlib.Core.Bool.{Bool, true, false}
use Prim.Native.Nat.{ℕ, suc, ◌+◌, ◌-◌, ◌*◌, ◌/◌, ◌%◌}
use lib.Dec.{T, eqb, ltb}
use lib.ListN.{get_or}
use lib.IntN.{ℤ, pos, suc_ℤ}
use lib.Ieee.{Float, round}
use Rattle.floats.specs.Whole.{nought, half}
use Rattle.calendar.specs.Calendar.{lengths, leap_size}
use Rattle.calendar.specs.DayCount.{civil_count, mjd_number}
use Rattle.rounding.proofs.Quick.{qadd, qsub, qmul, qint}
use Rattle.leap_table.specs.rows.Table.{Row, fixed, starts, reached, none}
use Rattle.leap_table.specs.offsets.Offset.{seconds_of, start_of, rate_of}
use Rattle.leap_table.specs.offsets.Leap.{two_f}
use Rattle.leap_days.specs.drift.Small.{small}
use Rattle.leap_days.proofs.drift.Tests.{then, every, same_f}

-- the offset by a row's floats; a row of whole seconds does not drift
unfoldable pub qby : Bool → Float → Float → Float → Float → Float → Float
unfolding qadd qsub qmul
qby true s st r j f = s
qby false s st r j f = qadd s (qmul (qsub (qadd j f) st) r)

unfoldable pub qleap : Float → Float → Float → Float
unfolding qsub qmul
qleap x y z = qsub z (qsub (qmul two_f y) x)

unfoldable pub qamount : Float → Float → Float → Float
unfolding qadd qsub qmul
qamount x y z = qsub z (qadd x (qmul two_f (qsub y x)))

abbrev pub both_test : Float → Float → Bool
both_test a b = then (small a) (same_f b a)

unfoldable pub leap_test : Float → Float → Float → Bool
unfolding qleap qamount
leap_test x y z = both_test (qleap x y z) (qamount x y z)

-- a day by the floats of its row and of the next day's row, and of the two Modified Julian Dates
unfoldable pub one_day : Float → Float → Float → Bool → Float → Float → Float → Float → Float → Bool
unfolding leap_test qby
one_day s st r w s' st' r' j j' = leap_test (qby false s st r j nought) (qby false s st r j half) (qby w s' st' r' j' nought)

-- true: the next day is of the same month
unfoldable pub day_test : Bool → Float → Float → Float → Bool → Float → Float → Float → ℤ → Bool
unfolding one_day qint
day_test true s st r w s' st' r' j = one_day s st r false s st r (qint j) (qint (suc_ℤ j))
day_test false s st r w s' st' r' j = one_day s st r w s' st' r' (qint j) (qint (suc_ℤ j))

unfoldable pub days_test : Float → Float → Float → Bool → Float → Float → Float → ℕ → ℕ → Bool
unfolding day_test mjd_number civil_count lengths leap_size
days_test s st r w s' st' r' y m = every (λ d. day_test (ltb (suc d) (lengths (leap_size y) m)) s st r w s' st' r' (mjd_number (pos y) (pos m) (pos (suc d))))
    31

unfoldable pub rows_test : Row → Row → ℕ → ℕ → Bool
unfolding days_test seconds_of start_of rate_of round
rows_test r r' y m = days_test (seconds_of r) (start_of r) (rate_of r) (eqb r'.rate 0) (seconds_of r') (start_of r') (rate_of r') y m

-- month i of 1960 to 1971
unfoldable pub month_test : ℕ → Bool
unfolding rows_test fixed reached
month_test i = rows_test (get_or fixed (reached (starts fixed) (23520 + i) - 1) none) (get_or fixed (reached (starts fixed) (23521 + i) - 1) none)
    (1960 + i / 12)
    (i % 12 + 1)

-- in parts, each within the prover's limit of steps
abbrev pub part : ℕ → Type 0
part b = T (every (λ i. month_test (24 * b + i)) 24)

pub from-1960 : part 0
unfolding month_test
from-1960 = tt

pub from-1962 : part 1
unfolding month_test
from-1962 = tt

pub from-1964 : part 2
unfolding month_test
from-1964 = tt

pub from-1966 : part 3
unfolding month_test
from-1966 = tt

pub from-1968 : part 4
unfolding month_test
from-1968 = tt

pub from-1970 : part 5
unfolding month_test
from-1970 = tt
