-- The numbers of a round of TAI to UTC. Counted in units of which Q are a day, H half a day and h 2 ^ -53 day: b = bp - bn and t = tp - tn the smaller parts in
-- TAI, u = up - un the guess of the one in UTC, A the larger part, v the date of the guess from midnight to midnight and g its TAI-UTC times 86400, as one
-- evaluation of UTC to TAI gives them. The residual of the guess is 86400 * (b + A + H) - (86400 * v + g). Assumes nothing.
use mathlib.Core.Path.{◌≡◌}
use mathlib.Core.Logic.{◌⊎◌, inl, inr}
use Prim.Native.Nat.{ℕ, ◌+◌, ◌*◌, ◌≤◌, ◌<◌, ◌/◌}
use native.Mathlib.Omega.{arith}
use Rattle.leap_table.specs.rows.Table.{most_seconds}
use Rattle.utc_scales.proofs.round_trip.Steady.{Slow}

-- the residual is at most P in size
pub record Residual (H A bp bn v g P : ℕ) : Type 0 where
  pub high : 86400 * (bp + A + H) ≤ 86400 * bn + (86400 * v + g) + P
  pub low : 86400 * bn + (86400 * v + g) ≤ 86400 * (bp + A + H) + P

-- v is A + u + H within 4 h
pub record DateNear (h H A up un v : ℕ) : Type 0 where
  pub high : v + un ≤ A + up + H + 4 * h
  pub low : A + up + H ≤ v + un + 4 * h

-- 86400 * (t + A + H) is 86400 * v + g within E
pub record TaiNear (E H A tp tn v g : ℕ) : Type 0 where
  pub high : 86400 * (tp + A + H) ≤ 86400 * tn + (86400 * v + g) + E
  pub low : 86400 * v + g + 86400 * tn ≤ 86400 * (tp + A + H) + E

-- the next guess u' is u + b - t within e
pub record GuessMoved (e bp bn tp tn up un up' un' : ℕ) : Type 0 where
  pub high : up' + (un + (bn + tp)) ≤ un' + (up + (bp + tn)) + e
  pub low : un' + (up + (bp + tn)) ≤ up' + (un + (bn + tp)) + e

-- The bounds of the residual in units of h, 2 ^ -53 s: at first TAI-UTC, and after each round 86400 times less, but for the rounding; and of what comes back.
-- They are 477381560501618176, 5525250752479, 65159298, 1210391 and 1556013 where TAI-UTC is at most 53 s.
abbrev pub at_first : ℕ
at_first = most_seconds * 9007199254740992 + 345600

abbrev pub after_one : ℕ
after_one = (at_first + 104512550422) / 86400 + 1

abbrev pub after_two : ℕ
after_two = (after_one + 104512550422) / 86400 + 1

abbrev pub after_three : ℕ
after_three = (after_two + 104512550422) / 86400 + 1

abbrev pub back_again : ℕ
back_again = after_three + 345622

module _ (h Q H A bp bn : ℕ) where
  -- the first guess is b itself: its residual is TAI-UTC
  pub start : (v g : ℕ) → Q ≡ 9007199254740992 * h → g ≤ most_seconds * Q → DateNear h H A bp bn v → Residual H A bp bn v g (at_first * h)
  start v g e k n = record { high = omega (arith, n.high, n.low); low = omega (arith, n.high, n.low) }

  -- the moved guess against the TAI-UTC of the guess before: M is what an evaluation and a move are off together
  pub moved-residual : (E e M tp tn up un up' un' v g v' : ℕ) → E + 86400 * (8 * h + e) ≤ M → TaiNear E H A tp tn v g → DateNear h H A up un v
      → GuessMoved e bp bn tp tn up un up' un' → DateNear h H A up' un' v' → Residual H A bp bn v' g M
  moved-residual E e M tp tn up un up' un' v g v' k i n m n' = record { high = omega arith; low = omega arith }

  -- the two guesses are less than a day apart
  pub day-apart : (v g v' P M : ℕ) → Q ≡ 9007199254740992 * h → 0 < h → P ≤ at_first * h → M ≤ 6000000000 * h → Residual H A bp bn v g P
      → Residual H A bp bn v' g M → (v' < v + Q) × (v < v' + Q)
  day-apart v g v' P M e z k l o o' = within (P + M) (small P Q e z k) (gap v g v' P o o').0 (gap v g v' P o o').1
    where
      gap : (v g v' P : ℕ) → Residual H A bp bn v g P → Residual H A bp bn v' g M → (86400 * v' ≤ 86400 * v + (P + M)) × (86400 * v ≤ 86400 * v' + (P + M))
      gap v g v' P o o' = omega arith

      small : (P Q : ℕ) → Q ≡ 9007199254740992 * h → 0 < h → P ≤ at_first * h → P + M < 86400 * Q
      small P Q e z k = omega (arith, l)

      within : (X : ℕ) → X < 86400 * Q → 86400 * v' ≤ 86400 * v + X → 86400 * v ≤ 86400 * v' + X → (v' < v + Q) × (v < v' + Q)
      within X k a b = omega arith

  -- the residual of the moved guess is 86400 times less, but for the rounding
  pub shrinks : (v g v' g' P M P' : ℕ) → P + 86401 * M ≤ 86400 * P' → Residual H A bp bn v g P → Residual H A bp bn v' g M → Slow v g v' g'
      ⊎ Slow v' g' v g → Residual H A bp bn v' g' P'
  shrinks v g v' g' P M P' k o o' (inl r) = record { high = omega arith; low = omega arith }
  shrinks v g v' g' P M P' k o o' (inr r) = record { high = omega arith; low = omega arith }

  -- how far the guess is moved
  pub move_size : (E tp tn v g P : ℕ) → Q ≡ 9007199254740992 * h → E ≤ 6000000000 * h → P ≤ at_first * h → TaiNear E H A tp tn v g → Residual H A bp bn v g P
      → (1536 * (bp + tn) ≤ 1536 * (bn + tp) + Q) × (1536 * (bn + tp) ≤ 1536 * (bp + tn) + Q)
  move_size E tp tn v g P e l k i o = omega arith

  -- what comes back
  pub end : (tp tn v g : ℕ) → TaiNear (345622 * h) H A tp tn v g → Residual H A bp bn v g (after_three * h)
      → (86400 * (tp + bn) ≤ 86400 * (tn + bp) + back_again * h)
      × (86400 * (tn + bp) ≤ 86400 * (tp + bn) + back_again * h)
  end tp tn v g i o = omega arith
