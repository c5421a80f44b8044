-- `leap_table::rows::announced::tests_of` meets its contract. Assumes nothing.
use Rattle.std.proofs.Common.{get_or, pos, sym, refl, ◌∙◌, w32, to_z, of_z, arith, rules}
use Rattle.leap_table.proofs.rows.Naturals.{read-natural}
use Rattle.leap_table.proofs.rows.TableTests.{rises-none, rises_next, steps-none, steps_next}
use Rattle.leap_table.proofs.rows.announced.tests_of.Goals as goal

pub loop-i-init : goal.loop-i-init
loop-i-init c = record {
  small = omega arith;
  second_is = refl;
  steps_are = sym (steps-none c.args.table.now);
  rises_are = sym (rises-none c.args.table.now);
  month_is = λ e. refl;
}

pub loop-i-preserved : goal.loop-i-preserved
loop-i-preserved c =
    let t = c.args.table.now in
    let i = c.loop-i.i in
    let v = c.loop-i.invariant in
    let z = get_or t.months i (pos 0) in
    let (a, b) = steps_next t i c.loop-i.second c.natural-next_second.result c.loop-i.steps v.steps_are v.second_is
    (c.natural-next_second.ensures.0 ∙ read-natural (get_or t.seconds i (pos 0)) (search rules)) in
    let (p, q) = rises_next t i (to_z w32 c.loop-i.month-bits)
    (to_z w32 (of_z w32 z)) c.loop-i.rises v.rises_are v.month_is
    (read-natural z (search rules)) in
    record {
      small = c.natural-next_second.ensures.1;
      second_is = b;
      steps_are = c.and_one_apart-steps.ensures ∙ a;
      rises_are = c.and_later-rises.ensures ∙ p;
      month_is = λ e. q (sym c.and_later-rises.ensures ∙ e);
    }
