-- What the laws ask of the passes, and say of a result: of ticks, of readings, and over both steps.
pub mod Sound
pub mod Reasons
pub mod Writer
pub mod Readings
pub mod ListedReadings
pub mod Slopes
