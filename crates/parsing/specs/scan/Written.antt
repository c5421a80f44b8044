-- What a text says, as plain numbers: six fields, of which the second is whole / 10 ^ places, and whether a Z stands behind them. Written from document 02,
-- item 1 ("so it is one whole number divided once by a power of ten"). Assumes nothing.
use Rattle.std.specs.Prelude.{ℕ, Bool}

pub record Written : Type 0 where
  pub year : ℕ
  pub month : ℕ
  pub day : ℕ
  pub hour : ℕ
  pub minute : ℕ
  pub whole : ℕ
  pub places : ℕ
  pub zulu : Bool
