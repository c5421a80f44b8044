-- `julian::JulianDate::from_unix_time` meets its contract: the machine's quotient and remainder are the definition's, and their casts lose nothing. Assumes
-- nothing.
use mathlib.Core.Path.{◌≡◌, sym, ap, ◌∙◌, subst}
use Prim.Native.Nat.{◌<◌}
use lib.Dec.{lit<}
use lib.IntN.{ℤ, pos}
use lib.Signed.{quot_z, rem_z}
use mir.Syntax.{w64}
use mir.Val.{SFits, to_z, of_z}
use mir.Facts.{to_z-of_z}
use Rattle.constants.proofs.Bits.{seconds-per-day, nanoseconds-per-second, unix-epoch-jd}
use Rattle.julian.specs.UnixTime.{days_toward_zero, seconds_left, second_of_day, from_unix_time}
use Rattle.julian.proofs.Seconds.{quotient_is, remainder_is, days-fit, left-fit, days-in-float, left-in-float}
use Rattle.julian.proofs.JulianDate.from_unix_time.Goals as goal

-- the quotient as the machine takes it, of a number read back from its bits
days-read : (z : ℤ) → SFits w64 z → quot_z (to_z w64 (of_z w64 z)) (pos 86400) ≡ days_toward_zero z
days-read z f = ap (λ (x : ℤ). quot_z x (pos 86400)) (to_z-of_z f) ∙ quotient_is z

left-read : (z : ℤ) → SFits w64 z → rem_z (to_z w64 (of_z w64 z)) (pos 86400) ≡ seconds_left z
left-read z f = ap (λ (x : ℤ). rem_z x (pos 86400)) (to_z-of_z f) ∙ remainder_is z

divides : (z : ℤ) → SFits w64 z → (0 < 86400) × SFits w64 (quot_z (to_z w64 (of_z w64 z)) (pos 86400))
divides z f = (lit< tt, subst (SFits w64) (sym (days-read z f)) (days-fit z f))

pub int_to_float-days : goal.int_to_float-days
int_to_float-days c =
    rw (days-read c.args.seconds c.ranges.seconds, to_z-of_z (days-fit c.args.seconds c.ranges.seconds))
    (days-in-float c.args.seconds c.ranges.seconds)

pub int_to_float-rest : goal.int_to_float-rest
int_to_float-rest c =
    rw (left-read c.args.seconds c.ranges.seconds, to_z-of_z (left-fit c.args.seconds)) (left-in-float c.args.seconds)

pub returns : goal.returns
unfolding from_unix_time second_of_day
returns c =
    cc (
      days-read c.args.seconds c.ranges.seconds,
      left-read c.args.seconds c.ranges.seconds,
      to_z-of_z (days-fit c.args.seconds c.ranges.seconds),
      to_z-of_z (left-fit c.args.seconds),
      seconds-per-day,
      nanoseconds-per-second,
      unix-epoch-jd,
    )
