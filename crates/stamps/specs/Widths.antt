-- What the machine hands over where sentences are reported: counts of 32 and 64 bits. Where numbers are reported nothing is asked. No contract cites it.
-- Assumes nothing.
use Rattle.std.specs.Prelude.{List, ℕ}
use Rattle.reasons.specs.declared.Values.{Values}
use Rattle.reasons.specs.Widths.{OfWidth}
use Rattle.stamps.specs.declared.Reporting.{Reporting}
use Rattle.stamps.specs.declared.Reporting.TheVariants.{Numbers, Sentences}
use Rattle.stamps.specs.Listing.{block_values}

unfoldable pub Wide : Reporting → Values → Type 0
Wide Numbers v = Unit
Wide (Sentences n) v = OfWidth v

-- of a block
abbrev pub InWidth : Reporting → List ℕ → Type 0
InWidth how s = Wide how (block_values how s)
