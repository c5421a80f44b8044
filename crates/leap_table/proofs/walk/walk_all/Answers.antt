-- `leap_table::walk::walk_all` meets its contract. Assumes nothing.
use Rattle.std.proofs.Common.{ap, ◌∙◌, arith}
use lib.Ieee.{binary64, of_int}
use Rattle.floats.specs.Whole.{nought}
use Rattle.calendar.specs.DayCount.{mjd_number}
use Rattle.leap_table.specs.rows.Announced.{rows_of}
use Rattle.leap_table.specs.offsets.Forward.{by_terms}
use Rattle.leap_table.specs.declared.judging.Triple.{Triple}
use Rattle.leap_table.specs.walk.Walk.{month_in, triple_offset}
use Rattle.leap_table.specs.walk.Asked.{counting}
use Rattle.leap_table.specs.judging.Lists.{triple_at}
use Rattle.leap_table.proofs.walk.Pacing.{pacing_goes, offset-is, pacing_ends}
use Rattle.leap_table.proofs.walk.Floats.{float-goes, float-ends}
use Rattle.leap_table.proofs.walk.walk_all.Goals as goal

pub loop-i-preserved : goal.loop-i-preserved
loop-i-preserved c =
    let s = c.args in
    let rows = rows_of s.table in
    let f = triple_at s.dates.now in
    let i = c.loop-i.i in
    let h = c.loop-i-test.true in
    let v = c.loop-i.invariant in
    let (m, x) = c.next_offset.ensures in
    let e = ap month_in c.triple_at-t.ensures in
    record {
      paced = pacing_goes rows f s.n i _ c.loop-i.w _ v.paced h e m.stepped c.requires.0 _ m.counts;
      put = float-goes (triple_offset rows) f s.n s.out.now i c.loop-i.out c.next_offset.result h v.put
          (x ∙ ap (λ (y : Triple). by_terms c.next_offset.new.w.terms (of_int binary64 (mjd_number y.year y.month y.day)) nought) c.triple_at-t.ensures
          ∙ offset-is rows f s.n i _ c.loop-i.w (counting c.next_offset.new.w m.passed) v.paced h e m.stepped c.requires.1)
          (omega (arith, v.put.long, h, c.requires.3));
    }

pub returns : goal.returns
returns c =
    let s = c.args in
    let rows = rows_of s.table in
    let f = triple_at s.dates.now in
    let v = c.loop-i.invariant in (
      pacing_ends rows f s.n c.loop-i.i c.loop-i.w v.paced c.loop-i-test.false,
      float-ends (triple_offset rows) f s.n s.out.now c.loop-i.i c.loop-i.out v.paced.within c.loop-i-test.false v.put,
    )
