-- `runs::by_day::convert_with` meets its contract. Assumes nothing.
use mathlib.Core.Path.{◌∙◌}
use Rattle.leap_table.specs.rows.Announced.{rows_of}
use borrow.Author.Tests.{ne_eqb}
use Rattle.runs.proofs.ways.Steps.{other_to, way_out_of_utc, way_into_utc}
use Rattle.runs.proofs.by_day.convert_with.Goals as goal

pub out_of_utc-requires : goal.out_of_utc-requires
out_of_utc-requires c =
    (c.requires.0, other_to c.args.from c.args.to c.if-from-eq-UTC.true c.requires.1)

pub returns-then-from-eq-UTC : goal.returns-then-from-eq-UTC
returns-then-from-eq-UTC c =
    let a = c.args in
    c.out_of_utc.ensures
    ∙ way_out_of_utc a.from a.to (rows_of a.table.now) a.jd c.if-from-eq-UTC.true c.requires.1

pub into_utc-requires : goal.into_utc-requires
into_utc-requires c =
    (c.requires.0, ne_eqb c.args.from 0 c.if-from-eq-UTC.false)

pub returns : goal.returns
returns c =
    let a = c.args in
    c.into_utc.ensures
    ∙ way_into_utc a.from a.to (rows_of a.table.now) a.jd c.if-from-eq-UTC.false c.requires.1
