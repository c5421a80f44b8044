-- `capi::date_calls::ct_from_unix_time` meets its contract. Assumes nothing.
use mathlib.Core.Path.{ap, ◌∙◌}
use lib.IntN.{ℤ}
use mir.Facts.{to_z-of_z}
use Rattle.julian.specs.UnixTime.{from_unix_time}
use Rattle.c_answers.specs.Fields.{julian_bytes}
use Rattle.c_answers.proofs.Deliveries.{same_bytes}
use Rattle.capi.proofs.date_calls.ct_from_unix_time.Goals as goal

pub returns : goal.returns
returns c =
    same_bytes c.put_julian.type_inv
    (ap julian_bytes (c.from_unix_time.ensures ∙ ap (λ (z : ℤ). from_unix_time z c.args.nanos) (to_z-of_z c.ranges.seconds)))
    c.put_julian.ensures
