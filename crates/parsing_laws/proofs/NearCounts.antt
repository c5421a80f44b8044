-- The milliseconds that each form of text counts, of any fraction of a day and not of the grid's alone: within 0.501 ms of the exact time of day. Assumes
-- nothing.
use mathlib.Core.Path.{◌≡◌, refl, sym, subst, ◌∙◌}
use mathlib.Core.Bool.{Bool, true, false, cond}
use Prim.Native.Nat.{ℕ, ◌+◌, ◌*◌, ◌^◌, ◌≤◌, ◌<◌}
use native.Mathlib.Omega.{arith}
use lib.Dec.{T, lit<}
use lib.Ieee.{Float, binary64, fits}
use Rattle.floats.specs.Whole.{away}
use Rattle.rounding.specs.Value.{Val, InUnit}
use Rattle.time_of_day.specs.Milliseconds.{whole_leap}
use Rattle.time_of_day.specs.TimeShown.{count_by}
use Rattle.time_of_day.specs.Nearest.{Nearest}
use Rattle.time_of_day.specs.HalfEven.{even, even_count, in_whole, grid_units, day_is_whole}
use Rattle.time_of_day.specs.ExactTime.{Leap, DayLength, TimeWithin}
use Rattle.time_of_day.proofs.Rounded.{away-nearest}
use Rattle.time_of_day.proofs.Fractions.{in_units, within-one, cross}
use Rattle.time_of_day.proofs.Close.{close_move, close_501}
use Rattle.time_of_day.proofs.Shows.{count-near}
use Rattle.time_of_day.proofs.EvenRule.{even-nearest}
use Rattle.time_of_day.proofs.EvenFloat.{by-float}
use Rattle.time_of_day.proofs.EvenGrid.{only-on-grid}
use Rattle.time_of_day.proofs.EvenExact.{even-exact}
use Rattle.time_of_day.proofs.EvenSteps.{whole-small, count-by-float}
use Rattle.utc.specs.iso_texts.TextForm.{TextForm}
use Rattle.utc.specs.iso_texts.IsoText.{standard_form}
use Rattle.utc.specs.iso_texts.Expanded.{expanded_form}
use Rattle.utc.specs.iso_texts.HalfEven.{half_even_form}

-- within 0.501 ms, whatever fractions F / D and W / E the fraction and the day length are written as
abbrev pub CountsNear : TextForm → Type 0
CountsNear textForm =
    (f x : Float) → T (fits binary64 f) → InUnit f → Leap x → (F D W E : ℕ) → 0 < E → Val f F 0 D → DayLength x W E
    → TimeWithin 1000 501 (textForm.count f (whole_leap x) * E) F D W E

by_rule : (how : Bool → ℕ → ℕ → ℕ) → Nearest how → (f x : Float) → T (fits binary64 f) → InUnit f → Leap x → (F D W E : ℕ) → 0 < E → Val f F 0 D
    → DayLength x W E
    → TimeWithin 1000 501 (count_by how f (whole_leap x) * E) F D W E
by_rule how rule f x t i s F D W E G v d = close_501 (count_by how f (whole_leap x) * E) F D W E (count-near how rule f x t i s F D W E G v d)

pub near01 : CountsNear standard_form
near01 = by_rule away away-nearest

pub near-expanded : CountsNear expanded_form
near-expanded = by_rule away away-nearest

-- half a millisecond is within 0.501 ms
looser : (b : Bool) (s F D W E : ℕ) → TimeWithin (cond b 2 1000) (cond b 1 501) s F D W E → TimeWithin 1000 501 s F D W E
looser true s F D W E k = record { over = go (s * D) (1000 * (F * W)) (D * E) k.over; under = go (1000 * (F * W)) (s * D) (D * E) k.under }
  where
    go : (a b d : ℕ) → 2 * a ≤ 2 * b + 1 * d → 1000 * a ≤ 1000 * b + 501 * d
    go a b d h = omega arith
looser false s F D W E k = k

pub near_even : CountsNear half_even_form
near_even f x t i s F D W E G v d = go (in_whole f (whole_leap x)) refl
  where
    go : (b : Bool) → in_whole f (whole_leap x) ≡ b → TimeWithin 1000 501 (even_count f (whole_leap x) * E) F D W E
    go true e =
        let u = only-on-grid f t i (whole_leap x) e in
        close_move 1000 501 (even_count f (whole_leap x) * E) F D (grid_units f) (2 ^ 52) W E (lit< tt) (cross u v)
        (looser (day_is_whole (whole_leap x)) (even_count f (whole_leap x) * E) (grid_units f) (2 ^ 52) W E
        (even-exact f (grid_units f) t u (whole-small f (whole_leap x) e) x s W E G d))
    go false e =
        subst (λ (k : ℕ). TimeWithin 1000 501 (k * E) F D W E)
        (sym (by-float f (whole_leap x) (in_units f t i) (within-one x s)) ∙ count-by-float f (whole_leap x) e)
        (by_rule even even-nearest f x t i s F D W E G v d)
