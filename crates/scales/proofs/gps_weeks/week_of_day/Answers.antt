-- `scales::gps_weeks::week_of_day` meets its contract. Assumes nothing.
use Rattle.std.proofs.Common.{◌≡◌, ℕ, ◌+◌, ◌-◌, ◌*◌, ◌/◌, ◌<◌, ◌≤◌, true, false, ℤ, pos, negsuc, refl, ap, ◌∙◌, subst, arith, to_z-of_z, w64, ltb-true}
use Rattle.std.proofs.Common.{le-ltb}
use lib.Signed.{lt_z}
use borrow.Author.Tests.{lt-leb}
use Rattle.refusals.specs.Refusal.{refusal_number}
use Rattle.refusals.specs.Outcome.{refusal, outcome}
use Rattle.time_of_day.specs.TimeShown.{from_zero}
use Rattle.scales.specs.gps_weeks.WeekOf.{week_at, week_of_day}
use Rattle.scales.proofs.gps_weeks.week_of_day.Goals as goal

before_day_0 : (z : ℤ) (ms : ℕ) → lt_z z (pos 0) ≡ true → refusal 18 ≡ week_of_day z ms
unfolding week_of_day
before_day_0 (pos n) ms t = let h : n < 0 = ltb-true n 0 t in absurd (omega arith)
before_day_0 (negsuc n) ms t = refl

from-day-0 : (z : ℤ) (ms : ℕ) → lt_z z (pos 0) ≡ false → week_at (from_zero z * 86400000 + ms) ≡ week_of_day z ms
unfolding week_of_day from_zero
from-day-0 (pos n) ms t = refl
from-day-0 (negsuc n) ms t = let z : ◌≡◌ {A = ℕ} 0 1 = cc in absurd (omega arith)

past : (count : ℕ) → 4000000 * 86400000 ≤ count → refusal 18 ≡ week_at count
unfolding week_at
past count h = rw (le-ltb count 211182768000000 (omega arith), lt-leb ((count - 211182768000000) / 604800000) 100000 (omega arith))

module _ (day z : ℤ) (n ms k : ℕ) (same : z ≡ day) (left : lt_z z (pos 0) ≡ false) (is : n ≡ from_zero z) (ems : k ≡ ms) where
  in-days : week_at (n * 86400000 + k) ≡ week_of_day day ms
  in-days = rw (is, ems) (from-day-0 z ms left) ∙ ap (λ (x : ℤ). week_of_day x ms) same

  past_all : 4000000 ≤ n → refusal 18 ≡ week_of_day day ms
  past_all h = past (n * 86400000 + k) (omega arith) ∙ in-days

pub returns-then-day-lt0 : goal.returns-then-day-lt0
unfolding outcome refusal_number
returns-then-day-lt0 c = before_day_0 _ _ (subst (λ (x : ℤ). lt_z x (pos 0) ≡ true) (to_z-of_z {w = w64} c.ranges.day) c.if-day-lt0.true)

pub returns-then-days-ge-PAST_ALL_WEEKS : goal.returns-then-days-ge-PAST_ALL_WEEKS
unfolding outcome refusal_number
returns-then-days-ge-PAST_ALL_WEEKS c = past_all _ _ c.from_zero-days.result _ _ (to_z-of_z {w = w64} c.ranges.day) c.if-day-lt0.false
    c.from_zero-days.ensures refl c.if-days-ge-PAST_ALL_WEEKS.true

pub returns : goal.returns
returns c =
    c.week_at.ensures
    ∙ in-days _ _ c.from_zero-days.result _ c.millis_of.result (to_z-of_z {w = w64} c.ranges.day) c.if-day-lt0.false
    c.from_zero-days.ensures c.millis_of.ensures.0
