-- The places before i are there. Assumes nothing.
use Rattle.std.proofs.Common.{◌≡◌, true}
use Rattle.line_listing.specs.lines.Parts.{places_there}
use Rattle.line_listing.proofs.lines.places_there.Given as goal

abbrev pub invariant-loop-i : goal.invariant-loop-i
invariant-loop-i l = places_there l.order l.stamps l.line l.i ≡ true
