-- The places before i are read. Assumes nothing.
use Prim.Native.Nat.{ℕ, ◌+◌, ◌*◌, ◌<◌}
use mathlib.Core.Path.{◌≡◌}
use lib.IntN.{pos}
use lib.ListN.{length, get_or}
use Rattle.numerals.specs.little_endian.LittleEndian.{i32_at}
use Rattle.c_answers.proofs.table.arrays.put_numbers.Given as goal

abbrev pub invariant-loop-i : goal.invariant-loop-i
invariant-loop-i l =
    (length l.numbers ≡ 16) × ((k : ℕ) → k < l.i → get_or l.numbers k (pos 0) ≡ i32_at l.fn.bytes (l.fn.at + 4 * k))
