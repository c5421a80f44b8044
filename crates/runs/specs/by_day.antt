-- What the contracts of `runs::by_day` cite.
pub mod Hand
