-- The first and the last year whose texts are read back: so the range of the law is 1972 to 9999, and no less. Assumes nothing.
use mathlib.Core.Path.{refl}
use mathlib.Core.List.{List}
use Prim.Native.Nat.{ℕ}
use Rattle.utc.specs.text.Ascii.{ascii_bytes}
use Rattle.utc.specs.text.ReadBack.{signed_number, read_year}
use Rattle.parsing_laws.specs.Shown.{YearShown}

abbrev pub first-text : List ℕ
first-text = ascii_bytes "1972-01-01T00:00:00.000"

pub first-year : YearShown first-text
unfolding signed_number read_year
first-year = record { from = refl; to = refl }

abbrev pub last-text : List ℕ
last-text = ascii_bytes "9999-12-31T23:59:59.999"

pub last-year : YearShown last-text
unfolding signed_number read_year
last-year = record { from = refl; to = refl }
