-- Stamps as lists of patterns, 64 bits for each part, and what a caller reads off the places' bytes: apart from what reads and writes them. From
-- include/celestial_time.h, ct_line_up: part i is the eight bytes from 8 i on, place i the four bytes from 4 i on. Assumes nothing.
use Rattle.std.specs.Prelude.{ℕ, ◌+◌, ◌*◌, ◌<◌, ◌≡◌, List, length, get_or, drop}
use Rattle.std.specs.Float.{binary64}
use Rattle.std.specs.Float.Ieee.{of_bits}
use Rattle.refusals.specs.Outcome.{answer}
use Rattle.numerals.specs.little_endian.LittleEndian.{u32_at}
use Rattle.julian.specs.JulianDate.{julian}
use Rattle.line_up.specs.LineUp.{LinedUp}
use Rattle.line_up.specs.laws.Claims.{OneLine, zeros_in}

-- what a call leaves of stamps with the patterns js and ks and the numbers ns: `line` are the places that a caller reads, each from its own four bytes, and the
-- stamp at place i is the date of the i-th patterns
pub record ListedLine (js ks ns : List ℕ) (first second : ℕ) (out : List ℕ) (l : LinedUp) : Type 0 where
  pub line : List ℕ
  pub answers : l.answer ≡ answer (length line)
  pub counted : length line ≡ zeros_in l.numbers
  pub place_at : (i : ℕ) → i < length line → u32_at l.out (4 * i) ≡ get_or line i 0
  pub spare : drop (4 * length line) l.out ≡ drop (4 * length line) out
  pub right : OneLine (λ (i : ℕ). julian (of_bits binary64 (get_or js i 0)) (of_bits binary64 (get_or ks i 0))) ns first (first + second) line l.numbers
