-- `reported::place_date_refused` meets its contract, by either way of reporting. Assumes nothing.
use mathlib.Core.Path.{sym, subst}
use native.Mathlib.Omega.{arith}
use Rattle.numerals.proofs.digits.Places.{placed-as}
use Rattle.reasons.specs.Widths.{OfWidth}
use Rattle.stamps.proofs.Texts.{refused-wide}
use Rattle.stamps.proofs.Reportings.{numbers-room, numbers-reported, sentences_room, sentences_reported}
use Rattle.stamps.proofs.reported.place_date_refused.Goals as goal

pub place_number-requires : goal.place_number-requires
place_number-requires c = omega (arith, numbers-room c.args.reporting c.in-Numbers.is, c.requires)

pub place_sentence-requires : goal.place_sentence-requires
place_sentence-requires c =
    (subst OfWidth (sym c.refused_values.ensures) (refused-wide c.args.jd), omega (arith, sentences_room c.args.reporting _ c.in-Sentences.is, c.requires))

pub returns-in-Numbers : goal.returns-in-Numbers
returns-in-Numbers c =
    let e = c.in-Numbers.is in
    let p = c.place_number.ensures in
    record {
      placed = placed-as (numbers-reported c.args.reporting e _ _) p.placed;
      result_bound = omega (arith, p.upper_bound, numbers-room c.args.reporting e);
    }

pub returns-in-Sentences : goal.returns-in-Sentences
returns-in-Sentences c =
    let e = c.in-Sentences.is in
    let p = c.place_sentence.ensures in
    record {
      placed = placed-as (sentences_reported c.args.reporting _ e _ _ _ c.refused_values.ensures) p.placed;
      result_bound = omega (arith, p.upper_bound, sentences_room c.args.reporting _ e);
    }
