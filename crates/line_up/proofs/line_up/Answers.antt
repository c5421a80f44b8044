-- `line_up::line_up` meets its contract. Assumes nothing.
use native.Mathlib.Omega.{arith}
use Rattle.std.proofs.Common.{length, refl, ◌∙◌}
use Rattle.refusals.proofs.Handed.{handed_on}
use Rattle.line_up.proofs.Calls.{least_is, line_refused, counts-fit, range-1, range-2, range-3, merge-fits, many-fit, line-ends}
use Rattle.line_up.proofs.line_up.Goals as goal

pub returns-in_err-line_refusal : goal.returns-in_err-line_refusal
returns-in_err-line_refusal c =
    line_refused _ _ _ _ _ c.args.out.now (length c.args.tails.now) (length c.args.ranks.now) _
    (least_is _ _ _ _ _ c.min-room.ensures c.min.ensures) _ _ (handed_on _ _ c.from_residual.ensures.1)
    c.in_err-line_refusal.ensures

pub overflow_add-rest : goal.overflow_add-rest
overflow_add-rest c =
    record {
      fits = omega (
        arith,
        counts-fit _ _ _ _ _ c.args.out.now (length c.args.tails.now) (length c.args.ranks.now) _
            (least_is _ _ _ _ _ c.min-room.ensures c.min.ensures) c.in_ok-line_refusal.ensures,
        c.well_formed,
      );
    }

pub keep_most-requires : goal.keep_most-requires
keep_most-requires c =
    range-1 _ _ _ _ _ c.args.out.now (length c.args.tails.now) (length c.args.ranks.now) _
    (least_is _ _ _ _ _ c.min-room.ensures c.min.ensures) c.in_ok-line_refusal.ensures
    _ c.refuse_unordered.ensures _ _ refl refl

pub keep_most-requires-2 : goal.keep_most-requires-2
keep_most-requires-2 c =
    range-2 _ _ _ _ _ c.args.out.now (length c.args.tails.now) (length c.args.ranks.now) _
    (least_is _ _ _ _ _ c.min-room.ensures c.min.ensures) c.in_ok-line_refusal.ensures
    _ c.refuse_unordered.ensures _ c.keep_most.ensures
    _ _ c.keep_most.auto.tails c.keep_most.auto.ranks

pub keep_most-requires-3 : goal.keep_most-requires-3
keep_most-requires-3 c =
    range-3 _ _ _ _ _ c.args.out.now (length c.args.tails.now) (length c.args.ranks.now) _
    (least_is _ _ _ _ _ c.min-room.ensures c.min.ensures) c.in_ok-line_refusal.ensures
    _ c.refuse_unordered.ensures _ c.keep_most.ensures _ c.keep_most-2.ensures
    _ _ (c.keep_most-2.auto.tails ∙ c.keep_most.auto.tails) (c.keep_most-2.auto.ranks ∙ c.keep_most.auto.ranks)

pub merge-many-requires : goal.merge-many-requires
merge-many-requires c =
    merge-fits _ _ _ _ _ c.args.out.now (length c.args.tails.now) (length c.args.ranks.now) _
    (least_is _ _ _ _ _ c.min-room.ensures c.min.ensures) c.in_ok-line_refusal.ensures
    _ c.refuse_unordered.ensures _ c.keep_most.ensures _ c.keep_most-2.ensures _ c.keep_most-3.ensures

pub overflow_cast-many : goal.overflow_cast-many
overflow_cast-many c =
    record {
      fits = omega (
        arith,
        many-fit _ _ _ _ _ c.args.out.now (length c.args.tails.now) (length c.args.ranks.now) _
            (least_is _ _ _ _ _ c.min-room.ensures c.min.ensures) c.in_ok-line_refusal.ensures
            _ c.refuse_unordered.ensures _ c.keep_most.ensures _ c.keep_most-2.ensures _ c.keep_most-3.ensures
            _ _ c.merge-many.ensures,
      );
    }

pub returns : goal.returns
returns c =
    line-ends _ _ _ _ _ c.args.out.now (length c.args.tails.now) (length c.args.ranks.now) _
    (least_is _ _ _ _ _ c.min-room.ensures c.min.ensures) c.in_ok-line_refusal.ensures
    _ c.refuse_unordered.ensures _ c.keep_most.ensures _ c.keep_most-2.ensures _ c.keep_most-3.ensures
    _ _ c.merge-many.ensures
