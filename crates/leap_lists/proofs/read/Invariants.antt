-- What is held of the lines so far: the text is read as the lines that are left.
use Rattle.std.proofs.Common.{◌≡◌, ◌<◌, length, drop, eqb}
use Rattle.std.specs.List.{slice_split}
use Rattle.leap_lists.specs.Reading.{read_from, read_of}
use Rattle.leap_lists.proofs.read.Given as goal

abbrev pub invariant-loop-i : goal.invariant-loop-i
invariant-loop-i l =
    (l.held.second < 2147483648)
    × (read_from l.held (length l.yielded) (drop (length l.yielded) (slice_split (λ b. eqb b 10) l.text)) ≡ read_of l.text)
