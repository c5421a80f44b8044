-- The bytes before place i are blanks. Assumes nothing.
use Rattle.std.proofs.Common.{◌≡◌, drop}
use Rattle.parsing.specs.scan.Form.{after_blanks}
use Rattle.parsing.proofs.scan.blanks_end.Given as goal

abbrev pub invariant-loop-i : goal.invariant-loop-i
invariant-loop-i l = after_blanks (drop l.i l.text) ≡ after_blanks (drop l.at l.text)
