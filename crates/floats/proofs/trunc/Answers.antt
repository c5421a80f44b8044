-- `floats::trunc` meets its contract: each of the three ranges of the exponent is one law of Ranges, with nothing added before the cut.
use Rattle.std.proofs.Common.{◌≡◌, ℕ, ◌+◌, ◌-◌, ◌*◌, ◌/◌, ◌%◌, ◌^◌, ◌<◌, ◌≤◌, not, T, ap, subst, add-zero, lit≤, pow_pos}
use native.Mathlib.Nat.{div-eq_of_lt}
use lib.Bits.{bit_and}
use lib.Ieee.{Float, binary64, fits, is_nan, of_bits, to_bits, nan_bits}
use lib.Ieee.Compare.{differs_from_itself}
use Rattle.floats.specs.Whole.{to_whole, cut}
use Rattle.floats.proofs.Laws.{yes, equals_itself, nan_stays, cut-one, cut-same}
use Rattle.floats.proofs.Fields.{digits}
use Rattle.floats.proofs.Ranges.{high, low, low-no-nan, mid, mid_no_nan}
use Rattle.floats.proofs.trunc.Goals as goal

-- nothing is added: b + 0 is b
module _ (x : Float) (F : T (fits binary64 x)) (N : T (not (is_nan x))) (lo : 1023 ≤ bit_and (to_bits binary64 x / 2 ^ 52) 2047)
    (hi : bit_and (to_bits binary64 x / 2 ^ 52) 2047 < 1075) where
  abbrev b : ℕ
  b = to_bits binary64 x

  abbrev k : ℕ
  k = 1075 - bit_and (b / 2 ^ 52) 2047

  middle : of_bits binary64 (b / 2 ^ k * 2 ^ k % 2 ^ 64) ≡ to_whole cut x
  middle =
      subst (λ (z : ℕ). of_bits binary64 (z / 2 ^ k * 2 ^ k % 2 ^ 64) ≡ to_whole cut x) (add-zero b)
      (mid x F N lo hi 0 (pow_pos k) cut cut-same (λ s. ap (λ (z : ℕ). z / 2 ^ k) (add-zero (2 ^ 52 + digits b))))

  middle-no-nan : T (not (nan_bits binary64 (b / 2 ^ k * 2 ^ k % 2 ^ 64)))
  middle-no-nan = subst (λ (z : ℕ). T (not (nan_bits binary64 (z / 2 ^ k * 2 ^ k % 2 ^ 64)))) (add-zero b) (mid_no_nan x F N lo hi 0 (pow_pos k))

pub returns-then-x : goal.returns-then-x
returns-then-x c = nan_stays cut c.args.x (differs_from_itself c.args.x (yes c.if-x.true))

pub float_to_bits-b : goal.float_to_bits-b
float_to_bits-b c = equals_itself c.args.x c.if-x.false

pub float_from_bits-result : goal.float_from_bits-result
float_from_bits-result c = low-no-nan c.args.x (yes c.well_formed.0.1) (equals_itself c.args.x c.if-x.false)

pub float_from_bits-result-else-e-lt-ONE : goal.float_from_bits-result-else-e-lt-ONE
float_from_bits-result-else-e-lt-ONE c =
    middle-no-nan c.args.x (yes c.well_formed.0.1) (equals_itself c.args.x c.if-x.false) c.if-e-lt-ONE.false c.if-e-ge-ALL_WHOLE.false

pub returns-then-e-ge-ALL_WHOLE : goal.returns-then-e-ge-ALL_WHOLE
returns-then-e-ge-ALL_WHOLE c =
    high c.args.x (yes c.well_formed.0.1) (equals_itself c.args.x c.if-x.false) cut cut-one c.if-e-ge-ALL_WHOLE.true

pub returns-then-e-lt-ONE : goal.returns-then-e-lt-ONE
returns-then-e-lt-ONE c =
    low c.args.x (yes c.well_formed.0.1) (equals_itself c.args.x c.if-x.false) cut cut-same 1022 (lit≤ tt) (λ s a. div-eq_of_lt) c.if-e-lt-ONE.true

pub returns-else-e-lt-ONE : goal.returns-else-e-lt-ONE
returns-else-e-lt-ONE c =
    middle c.args.x (yes c.well_formed.0.1) (equals_itself c.args.x c.if-x.false) c.if-e-lt-ONE.false c.if-e-ge-ALL_WHOLE.false
