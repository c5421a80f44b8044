-- The loop of `leap_lists::lines::behind_blanks`: what is before i are blanks.
use Rattle.std.proofs.Common.{◌≡◌, drop}
use Rattle.leap_lists.specs.lines.Scan.{behind_blanks}
use Rattle.leap_lists.proofs.lines.behind_blanks.Given as goal

abbrev pub invariant-loop-i : goal.invariant-loop-i
invariant-loop-i l = behind_blanks l.returns (drop l.i l.s) ≡ behind_blanks l.returns l.s
