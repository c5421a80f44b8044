-- What a count shows, as the code finds it: the time of the day, or the next day's midnight. Assumes nothing.
use mathlib.Core.Path.{◌≡◌, sym, ap, ◌∙◌}
use mathlib.Core.Bool.{Bool, cond}
use Prim.Native.Nat.{ℕ, ◌<◌, ◌≤◌}
use lib.Dec.{ltb}
use lib.Ieee.{Float}
use borrow.Author.Tests.{lt-ltb, le-ltb}
use Rattle.time_of_day.specs.declared.TimeOfDay.{TimeOfDay}
use Rattle.time_of_day.specs.declared.TimeShown.TheVariants.{At, NextMidnight}
use Rattle.time_of_day.specs.Milliseconds.{whole_leap}
use Rattle.time_of_day.specs.TimeShown.{time_of, day_end, shown_at, shown_by}

module _ (count : Float → Float → ℕ) (fraction leap stretch : Float) (k d : ℕ) (el : stretch ≡ whole_leap leap) (ek : k ≡ count fraction stretch)
    (ed : d ≡ day_end stretch) where
  is : shown_at stretch k ≡ shown_by count fraction leap
  unfolding shown_by
  is = ap (shown_at stretch) ek ∙ ap (λ (l : Float). shown_at l (count fraction l)) el

  pub at-time : (t : TimeOfDay) → t ≡ time_of k → k < d → At t ≡ shown_by count fraction leap
  unfolding shown_at
  at-time t e h = ap At e ∙ sym (ap (λ (b : Bool). cond b (At (time_of k)) NextMidnight) (ap (ltb k) (sym ed) ∙ lt-ltb k d h)) ∙ is

  pub at_end : d ≤ k → NextMidnight ≡ shown_by count fraction leap
  unfolding shown_at
  at_end h = sym (ap (λ (b : Bool). cond b (At (time_of k)) NextMidnight) (ap (ltb k) (sym ed) ∙ le-ltb k d h)) ∙ is
