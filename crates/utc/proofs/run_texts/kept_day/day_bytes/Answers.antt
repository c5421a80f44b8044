-- `utc::run_texts::kept_day::day_bytes` meets its contract. Assumes nothing.
use Prim.Native.Nat.{ℕ, ◌-◌, ◌*◌, ◌/◌, ◌%◌}
use native.Mathlib.Omega.{arith}
use mathlib.Core.Path.{◌≡◌, ap, ◌∙◌}
use mathlib.Core.List.{List, ◌++◌}
use Rattle.time_of_day.specs.TimeShown.{minute_of, time_of}
use Rattle.utc.specs.run_texts.Kept.{eleven, time_characters}
use Rattle.utc.proofs.run_texts.KeptDays.{time-written}
use Rattle.utc.proofs.run_texts.kept_day.day_bytes.Goals as goal

pub returns : goal.returns
unfolding time_of
returns c =
    let a = c.args in
    let m = c.minute_of_day-minute.result in
    let k = a.millis in
    let e : m ≡ minute_of k = c.minute_of_day-minute.ensures in
    ap (λ (z : List ℕ). eleven a.d ++ z) (time-written m (k - m * 60000) (omega (arith, e)) (omega (arith, e, c.requires))
    ∙ ap (λ (n : ℕ). time_characters (record { hour = n / 60; minute = n % 60; second = (k - n * 60000) / 1000; milli = (k - n * 60000) % 1000 })) e)
