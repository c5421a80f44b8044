-- The six fields that a text is read as, spelled out by the digits that stand in it. Written from document 02, item 1: the second with its fraction "is one
-- whole number divided once by a power of ten". Assumes nothing.
use Rattle.std.specs.Prelude.{ℕ, ◌^◌, ◌≤◌, ◌≡◌, List, ◌++◌, Bool, length, pos, Float}
use Rattle.std.specs.Float.{binary64}
use Rattle.std.specs.Float.Ieee.{of_int, div}
use Rattle.numerals.specs.digits.Decimal.{number}
use Rattle.parsing.specs.declared.ParsedDateTime.{ParsedDateTime}
use Rattle.parsing.specs.scan.Written.{Written}
use Rattle.parsing.specs.Grammar.{Reads}

-- a whole number of digits, and one division
abbrev pub divided_once : List ℕ → ℕ → Float
divided_once digits places = div binary64 (of_int binary64 (pos (number digits))) (of_int binary64 (pos (10 ^ places)))

pub record SixFields (utc : Bool) (t : List ℕ) (f : ParsedDateTime) : Type 0 where
  pub says : Written
  pub reading : Reads utc t says
  pub few : length reading.pieces.digits ≤ 13
  pub year : f.year ≡ pos (number reading.pieces.year)
  pub month : f.month ≡ number reading.pieces.month
  pub day : f.day ≡ number reading.pieces.day
  pub hour : f.hour ≡ number reading.pieces.hour
  pub minute : f.minute ≡ number reading.pieces.minute
  pub second : f.second ≡ divided_once (reading.pieces.second ++ reading.pieces.digits) (length reading.pieces.digits)
