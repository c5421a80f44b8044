-- `floats::round` meets its contract: each range of the exponent is one law of Ranges or of Halves.
use Rattle.std.proofs.Common.{◌+◌, ◌^◌, lit≤}
use lib.Ieee.{binary64, to_bits}
use lib.Ieee.Compare.{differs_from_itself}
use Rattle.floats.specs.Whole.{away}
use Rattle.floats.proofs.Laws.{yes, equals_itself, nan_stays, away-one, away-same}
use Rattle.floats.proofs.Fields.{digits}
use Rattle.floats.proofs.Ranges.{high, low, low-no-nan, sum_lt, mid, mid_no_nan}
use Rattle.floats.proofs.Halves.{under-half, half_up, half_down, unit_half_lt, taken-nearer}
use Rattle.floats.proofs.round.Goals as goal

pub returns-then-x : goal.returns-then-x
returns-then-x c = nan_stays away c.args.x (differs_from_itself c.args.x (yes c.if-x.true))

pub float_to_bits-b : goal.float_to_bits-b
float_to_bits-b c = equals_itself c.args.x c.if-x.false

pub float_from_bits-result : goal.float_from_bits-result
float_from_bits-result c = low-no-nan c.args.x (yes c.well_formed.0.1) (equals_itself c.args.x c.if-x.false)

pub overflow_add-result : goal.overflow_add-result
overflow_add-result c =
    let lo = c.if-e-lt-ONE.false in
    let hi = c.if-e-ge-ALL_WHOLE.false in
    record { fits = sum_lt c.args.x (yes c.well_formed.0.1) (equals_itself c.args.x c.if-x.false) lo hi _ (unit_half_lt _ lo hi) }

pub float_from_bits-result-else-e-lt-ONE : goal.float_from_bits-result-else-e-lt-ONE
float_from_bits-result-else-e-lt-ONE c =
    let lo = c.if-e-lt-ONE.false in
    let hi = c.if-e-ge-ALL_WHOLE.false in
    mid_no_nan c.args.x (yes c.well_formed.0.1) (equals_itself c.args.x c.if-x.false) lo hi _ (unit_half_lt _ lo hi)

pub returns-then-e-ge-ALL_WHOLE : goal.returns-then-e-ge-ALL_WHOLE
returns-then-e-ge-ALL_WHOLE c = high c.args.x (yes c.well_formed.0.1) (equals_itself c.args.x c.if-x.false) away away-one c.if-e-ge-ALL_WHOLE.true

pub returns-then-e-lt-HALF : goal.returns-then-e-lt-HALF
returns-then-e-lt-HALF c =
    low c.args.x (yes c.well_formed.0.1) (equals_itself c.args.x c.if-x.false) away away-same 1021 (lit≤ tt) under-half c.if-e-lt-HALF.true

pub returns-then-b-lt9223372036854775808 : goal.returns-then-b-lt9223372036854775808
returns-then-b-lt9223372036854775808 c =
    half_up c.args.x (yes c.well_formed.0.1) (equals_itself c.args.x c.if-x.false)
    c.if-e-lt-HALF.false c.if-e-lt-ONE.true c.if-b-lt9223372036854775808.true

pub returns-else-b-lt9223372036854775808 : goal.returns-else-b-lt9223372036854775808
returns-else-b-lt9223372036854775808 c =
    half_down c.args.x (yes c.well_formed.0.1) (equals_itself c.args.x c.if-x.false)
    c.if-e-lt-HALF.false c.if-e-lt-ONE.true c.if-b-lt9223372036854775808.false

pub returns-else-e-lt-ONE : goal.returns-else-e-lt-ONE
returns-else-e-lt-ONE c =
    let lo = c.if-e-lt-ONE.false in
    let hi = c.if-e-ge-ALL_WHOLE.false in
    mid c.args.x (yes c.well_formed.0.1) (equals_itself c.args.x c.if-x.false) lo hi _ (unit_half_lt _ lo hi) away away-same
    (taken-nearer _ lo hi (2 ^ 52 + digits (to_bits binary64 c.args.x)))
