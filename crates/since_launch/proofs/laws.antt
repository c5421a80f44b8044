-- What the milliseconds mean. MillisDecided: a count is the nearest, and 18 exactly outside the range. OnGrid: the theorems on the grid.
pub mod MillisDecided
pub mod OnGrid
-- Anywhere: how near they are off the grid. Refusing: which number is given exactly when.
pub mod Anywhere
pub mod Refusing
-- RunBytes: which bytes of a run are whose. Runs: the theorems on a run. Cases: worked by computation.
-- OwnCounts: dates near a whole millisecond. Weeks, WeeksTai: those of a GPS week and millisecond, and in TAI.
pub mod OwnCounts
pub mod Weeks
pub mod WeeksTai
pub mod RunBytes
pub mod Runs
pub mod Cases
-- SinceLaunch: what is asked of the milliseconds, in one place.
pub mod SinceLaunch
