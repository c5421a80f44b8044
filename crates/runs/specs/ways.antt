-- What the contracts of `runs::ways` cite: the way of a date from scale to scale.
pub mod Ways
pub mod Asked
