-- `line_listing::order::lines_in_order` meets its contract. Assumes nothing.
use Rattle.std.proofs.Common.{length, ◌∙◌}
use native.Mathlib.Omega.{arith}
use Rattle.line_listing.proofs.order.Calls.{order-refused, sum_fits, copy_fits, lines_fit, order-ends}
use Rattle.line_listing.proofs.order.lines_in_order.Goals as goal

pub returns-in_err-count : goal.returns-in_err-count
returns-in_err-count c =
    let a = c.args in
    let o = c.line_up in
    order-refused a.jd1s.now a.jd2s.now a.numbers.now a.first a.second a.order.now (length a.work1.now) (length a.work2.now)
    o.new.numbers o.new.out o.result o.ensures _ _ c.in_err-count.was c.from_residual.ensures.1

pub overflow_add-rest : goal.overflow_add-rest
overflow_add-rest c =
    let a = c.args in
    let o = c.line_up in
    record {
      fits = omega (
        arith,
        sum_fits a.jd1s.now a.jd2s.now a.numbers.now a.first a.second a.order.now (length a.work1.now) (length a.work2.now)
            o.new.numbers o.new.out o.result o.ensures _ c.in_ok-count.was,
      );
    }

pub copy_cells-requires : goal.copy_cells-requires
copy_cells-requires c =
    let a = c.args in
    let o = c.line_up in
    copy_fits a.jd1s.now a.jd2s.now a.numbers.now a.first a.second a.order.now (length a.work1.now) (length a.work2.now)
    o.new.numbers o.new.out o.result o.ensures _ c.in_ok-count.was o.auto.out
    o.new.tails o.auto.tails

pub put_lines-requires : goal.put_lines-requires
put_lines-requires c =
    let a = c.args in
    let o = c.line_up in
    lines_fit a.jd1s.now a.jd2s.now a.numbers.now a.first a.second a.order.now (length a.work1.now) (length a.work2.now)
    o.new.numbers o.new.out o.result o.ensures _ c.in_ok-count.was o.auto.out
    c.copy_cells.new.to (c.copy_cells.auto.to ∙ o.auto.tails) c.copy_cells.ensures

pub returns : goal.returns
returns c =
    let a = c.args in
    let o = c.line_up in
    order-ends a.jd1s.now a.jd2s.now a.numbers.now a.first a.second a.order.now (length a.work1.now) (length a.work2.now)
    o.new.numbers o.new.out o.result o.ensures _ c.in_ok-count.was o.auto.out
    c.copy_cells.new.to (c.copy_cells.auto.to ∙ o.auto.tails) c.copy_cells.ensures c.put_lines.new.out c.put_lines.ensures
