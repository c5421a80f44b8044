-- What the functions below the call ask. Assumes nothing.
use Rattle.std.specs.Prelude.{ℕ, ◌+◌, ◌*◌, ◌<◌, ◌≤◌, List, length}

-- n texts are there with their lengths, and places for their dates and numbers
pub record RoomForDates (n : ℕ) (texts lengths out1 out2 numbers : List ℕ) : Type 0 where
  pub bytes_there : 27 * n ≤ length texts
  pub lengths_there : n ≤ length lengths
  pub places1 : 8 * n ≤ length out1
  pub places2 : 8 * n ≤ length out2
  pub places3 : n ≤ length numbers

-- the place of text i and its length are there
abbrev pub TextThere : ℕ → List ℕ → List ℕ → Type 0
TextThere i texts lengths = (27 * i + 27 ≤ length texts) × (i < length lengths)
