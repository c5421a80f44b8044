-- `reported::place_block_reported` meets its contract, by either way of reporting. Assumes nothing.
use native.Mathlib.Omega.{arith}
use borrow.Author.Rules.{rules}
use Rattle.numerals.proofs.digits.Places.{placed-as}
use Rattle.stamps.proofs.Reportings.{numbers-room, numbers-reported, sentences_room, sentences_reported, block-values, block-width}
use Rattle.stamps.proofs.reported.place_block_reported.Goals as goal

pub place_number-requires : goal.place_number-requires
place_number-requires c = omega (arith, numbers-room c.args.reporting c.in-Numbers.is, c.requires)

pub place_sentence-requires : goal.place_sentence-requires
place_sentence-requires c =
    (block-width _ _ _ (search rules) (search rules) (search rules), omega (arith, sentences_room c.args.reporting _ c.in-Sentences.is, c.requires))

pub returns-in-Numbers : goal.returns-in-Numbers
returns-in-Numbers c =
    let e = c.in-Numbers.is in
    let p = c.place_number.ensures in
    record {
      placed = placed-as (numbers-reported c.args.reporting e _ _) p.placed;
      result_bound = omega (arith, p.upper_bound, numbers-room c.args.reporting e);
    }

pub returns-in-Sentences : goal.returns-in-Sentences
returns-in-Sentences c =
    let e = c.in-Sentences.is in
    let p = c.place_sentence.ensures in
    let v = block-values c.args.reporting _ e c.args.block.now _ _ c.u32_at-size.ensures c.u32_at-second.ensures in
    record {
      placed = placed-as (sentences_reported c.args.reporting _ e _ _ _ v) p.placed;
      result_bound = omega (arith, p.upper_bound, sentences_room c.args.reporting _ e);
    }
