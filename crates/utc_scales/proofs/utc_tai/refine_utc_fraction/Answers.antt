-- `utc_scales::utc_tai::refine_utc_fraction` meets its contract. Assumes nothing.
use mathlib.Core.Path.{◌∙◌}
use Rattle.refusals.specs.Outcome.{outcome}
use Rattle.refusals.proofs.Handed.{stops_seen, seen_goes}
use Rattle.leap_table.specs.rows.Announced.{rows_of}
use Rattle.utc_scales.specs.Known.{RightKnown, RightPart}
use Rattle.utc_scales.specs.UtcTai.{rounds, refine_utc_fraction}
use Rattle.utc_scales.proofs.utc_tai.refine_utc_fraction.Goals as goal

pub refined-requires : goal.refined-requires
unfolding RightKnown
refined-requires c = tt

pub refined-requires-2 : goal.refined-requires-2
unfolding RightKnown RightPart
refined-requires-2 c = c.in_ok-one.ensures.1

pub refined-requires-3 : goal.refined-requires-3
unfolding RightKnown RightPart
refined-requires-3 c = c.in_ok-two.ensures.1

pub returns-in_err-one : goal.returns-in_err-one
unfolding refine_utc_fraction rounds
returns-in_err-one c =
    let go = rounds (rows_of c.args.table.now) c.args.big c.args.small in
    stops_seen _ _ _ _ (go 2) c.from_residual.ensures.1 c.in_err-one.ensures.0

pub returns-in_err-two : goal.returns-in_err-two
unfolding refine_utc_fraction rounds
returns-in_err-two c =
    let go = rounds (rows_of c.args.table.now) c.args.big c.args.small in
    stops_seen _ _ _ _ (go 1) c.from_residual-in_err-two.ensures.1 c.in_err-two.ensures.0 ∙ seen_goes _ _ _ (go 2) c.in_ok-one.ensures.0

pub returns-in_err-three : goal.returns-in_err-three
unfolding refine_utc_fraction rounds
returns-in_err-three c =
    let go = rounds (rows_of c.args.table.now) c.args.big c.args.small in
    stops_seen _ _ _ _ (go 0) c.from_residual-in_err-three.ensures.1 c.in_err-three.ensures.0
    ∙ seen_goes _ _ _ (go 1) c.in_ok-two.ensures.0
    ∙ seen_goes _ _ _ (go 2) c.in_ok-one.ensures.0

pub returns : goal.returns
unfolding outcome refine_utc_fraction rounds
returns c =
    let go = rounds (rows_of c.args.table.now) c.args.big c.args.small in
    seen_goes _ _ _ (go 0) c.in_ok-three.ensures.0 ∙ seen_goes _ _ _ (go 1) c.in_ok-two.ensures.0 ∙ seen_goes _ _ _ (go 2) c.in_ok-one.ensures.0
