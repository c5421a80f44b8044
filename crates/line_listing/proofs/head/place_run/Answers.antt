-- `head::place_run` meets its contract: four counts, the block and the line's end. Assumes nothing.
use Rattle.std.proofs.Common.{ap, arith}
use Rattle.line_listing.specs.head.Head.{counted, run_line}
use Rattle.line_listing.proofs.head.Pieces.{and_then, in_as, piece, at_most}
use Rattle.utc.specs.text.Ascii.{ascii_bytes}
use Rattle.line_listing.proofs.head.place_run.Goals as goal

pub returns : goal.returns
unfolding run_line
returns c =
    let a = c.place_count-a.ensures in
    let b = in_as (ap (counted (ascii_bytes " not finite ")) c.count_of.ensures.0) c.place_count-b.ensures in
    let d = in_as (ap (counted (ascii_bytes " refused ")) c.count_of-2.ensures.0) c.place_count-c.ensures in
    let e = in_as (ap (counted (ascii_bytes " left out ")) c.count_of-3.ensures.0) c.place_count-d.ensures in
    let f = c.place_end-e.ensures in
    let g = piece c.place_bytes.ensures (omega (
      arith,
      c.requires.0,
      c.requires.2,
      a.within,
      b.within,
      d.within,
      e.within,
      f.within,
      a.long,
      b.long,
      d.long,
      e.long,
      f.long,
    )) in
    at_most (omega (arith, c.requires.0))
    (and_then (and_then (and_then (and_then (and_then a b (omega (arith, c.requires.0, c.requires.2))) d (omega (arith, c.requires.0, c.requires.2))) e
    (omega (arith, c.requires.0, c.requires.2))) f (omega (arith, c.requires.0, c.requires.2))) g (omega (arith, c.requires.0, c.requires.2)))
