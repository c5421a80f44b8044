-- `scales::gps_weeks::millis_of` meets its contract: one cast from 1 to 2^52, and outside it the two plain calls. Assumes nothing.
use Rattle.std.proofs.Common.{◌≡◌, ℕ, ◌≤◌, sym, ap, ◌∙◌, subst, to_z-of_z, w64}
use lib.Ieee.{Float, binary64, mul, of_bits, to_signed}
use Rattle.floats.specs.Whole.{to_whole, away}
use Rattle.floats.proofs.NearestWholes.{in_cast}
use Rattle.time_of_day.specs.TimeShown.{from_zero}
use Rattle.scales.specs.gps_weeks.WeekOf.{product_of, day_millis}
use Rattle.scales.proofs.gps_weeks.Parts.{day-millis, short-cast, from-zero-most}
use Rattle.scales.proofs.gps_weeks.millis_of.Goals as goal

-- the count of the float that `round` gives
is : (f r : Float) → r ≡ to_whole away (mul binary64 f (of_bits binary64 0x4194_9970_0000_0000)) → from_zero (to_signed 63 r) ≡ day_millis f
unfolding day_millis product_of
is f r e = ap (λ (x : Float). from_zero (to_signed 63 x)) (e ∙ ap (λ (x : Float). to_whole away (mul binary64 f x)) day-millis)

pub truncating_f64_to_u64-requires : goal.truncating_f64_to_u64-requires
unfolding of_bits
truncating_f64_to_u64-requires c =
    let h = in_cast _ c.if-rounded.true c.if-rounded-2.true in
    record { lower_bound = h.0; upper_bound = h.1 }

pub returns-then-rounded-2 : goal.returns-then-rounded-2
unfolding of_bits
returns-then-rounded-2 c =
    let s = short-cast c.round-rounded.result c.if-rounded-2.true c.truncating_f64_to_u64.result
    c.truncating_f64_to_u64.ensures in
    (s.0 ∙ is _ _ c.round-rounded.ensures, s.1)

pub returns : goal.returns
returns c =
    let z = to_z-of_z {w = w64} {z = c.saturating_i64.result} (record { sfits = c.saturating_i64.type_inv }) in (
      c.from_zero.ensures ∙ ap from_zero (z ∙ c.saturating_i64.ensures) ∙ is _ _ c.round-rounded.ensures,
      subst (λ (k : ℕ). k ≤ 9223372036854775807) (sym (c.from_zero.ensures ∙ ap from_zero z))
          (from-zero-most c.saturating_i64.result (record { sfits = c.saturating_i64.type_inv })),
    )
