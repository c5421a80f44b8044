-- `summary::place_day` meets its contract. Assumes nothing.
use Rattle.std.proofs.Common.{ap, ◌∙◌, arith, to_z-of_z, w32}
use Rattle.utc.specs.text.Ascii.{ascii_bytes}
use Rattle.line_listing.specs.head.Head.{counted}
use Rattle.line_listing.specs.summary.Summary as S
use Rattle.line_listing.proofs.head.Pieces.{and_then, in_as, at_most}
use Rattle.line_listing.proofs.summary.Tests as X
use Rattle.line_listing.proofs.summary.place_day.Goals as goal

pub returns : goal.returns
unfolding S.day_told
returns c =
    let p0 = in_as (ap (counted (ascii_bytes " known until "))
    (c.natural-year.ensures.0 ∙ ap X.natural-of (to_z-of_z {w = w32} {z = c.args.date.year} (record {
      sfits = c.struct_told-1.given.0.1;
    })))) c.place_count-a.ensures in
    let p1 = c.place_two-b.ensures in
    let p2 = c.place_two-c.ensures in
    let p3 = c.place_words.ensures in at_most (omega (arith, c.requires))
    (and_then (and_then (and_then p0 p1 (omega (arith, c.requires))) p2 (omega (arith, c.requires))) p3 (omega (arith, c.requires)))
