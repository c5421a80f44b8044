-- The day of a Unix time and the seconds since its midnight are the Euclidean quotient and remainder; how large they are; and how they follow from the day
-- and the seconds toward zero, one day and 86,400 s moved where something below 0 is left. Assumes nothing.
use Rattle.std.proofs.Common.{◌≡◌, refl, sym, ap, ◌∙◌, ◌+◌, ◌-◌, ◌/◌, ◌%◌, ◌^◌, ◌≤◌, ◌<◌, ℕ, zero, suc, ℤ, pos, negsuc, true, false, SFits, w64, arith}
use mathlib.Core.Bool.{true≢false}
use lib.Dec.{T}
use lib.IntN.{neg_ℤ, ◌+ℤ◌, ◌-ℤ◌}
use lib.Ieee.{binary64, in_float}
use lib.Signed.{mag, lt_z}
use borrow.Author.Tests.{ltb-true}
use Rattle.std.specs.Int.{int_div_euclid, int_rem_euclid}
use Rattle.calendar.proofs.Signs.{sub_at}
use Rattle.julian.specs.UnixTime.{days_toward_zero, seconds_left}
use Rattle.julian.proofs.Integers.{in-float}
use Rattle.utc.specs.UnixTime.{unix_day, second_of_unix_day}

pub day_is : (z : ℤ) → int_div_euclid z (pos 86400) ≡ unix_day z
unfolding unix_day
day_is (pos s) = refl
day_is (negsuc s) = refl

pub second_is : (z : ℤ) → int_rem_euclid z (pos 86400) ≡ pos (second_of_unix_day z)
unfolding second_of_unix_day
second_is (pos s) = refl
second_is (negsuc s) = refl

-- ---- the size
pub day-size : (z : ℤ) → SFits w64 z → mag (unix_day z) ≤ 2 ^ 47
unfolding unix_day
day-size (pos s) f = omega (arith, f.sfits)
day-size (negsuc s) f = omega (arith, f.sfits)

pub day_fits : (z : ℤ) → SFits w64 z → SFits w64 (unix_day z)
day_fits z f = record { sfits = omega (arith, day-size z f) }

pub day-in-float : (z : ℤ) → SFits w64 z → T (in_float binary64 (unix_day z))
day-in-float z f = in-float (unix_day z) (omega (arith, day-size z f))

pub seconds-most : (z : ℤ) → second_of_unix_day z < 86400
unfolding second_of_unix_day
seconds-most (pos s) = omega arith
seconds-most (negsuc s) = omega arith

-- ---- the sign of what is left
some_left : (r : ℕ) → lt_z (neg_ℤ (pos r)) (pos 0) ≡ true → 1 ≤ r
some_left zero e = absurd (true≢false (sym e))
some_left (suc r) e = omega arith

none_left : (r : ℕ) → lt_z (neg_ℤ (pos r)) (pos 0) ≡ false → r ≡ 0
none_left zero e = refl
none_left (suc r) e = absurd (true≢false e)

-- ---- the day
one_less : (q : ℕ) → neg_ℤ (pos q) -ℤ pos 1 ≡ negsuc q
one_less zero = refl
one_less (suc q) = ap negsuc (more q)
  where
    more : (q : ℕ) → suc (q + 0) ≡ suc q
    more q = omega arith

pub day-before : (z : ℤ) → lt_z (seconds_left z) (pos 0) ≡ true → days_toward_zero z -ℤ pos 1 ≡ unix_day z
unfolding unix_day
day-before (pos s) e = absurd (omega (arith, ltb-true (s % 86400) 0 e))
day-before (negsuc s) e = one_less (suc s / 86400) ∙ ap negsuc (same s (some_left (suc s % 86400) e))
  where
    same : (s : ℕ) → 1 ≤ suc s % 86400 → suc s / 86400 ≡ s / 86400
    same s h = omega arith

pub same-day : (z : ℤ) → lt_z (seconds_left z) (pos 0) ≡ false → days_toward_zero z ≡ unix_day z
unfolding unix_day
same-day (pos s) e = refl
same-day (negsuc s) e = ap (λ (q : ℕ). neg_ℤ (pos q)) (next s (none_left (suc s % 86400) e))
  where
    next : (s : ℕ) → suc s % 86400 ≡ 0 → suc s / 86400 ≡ suc (s / 86400)
    next s h = omega arith

-- ---- the seconds
raised : (r : ℕ) → 1 ≤ r → r ≤ 86400 → neg_ℤ (pos r) +ℤ pos 86400 ≡ pos (86400 - r)
raised (suc r) h l = sub_at 86400 (suc r) l
raised zero h l = absurd (omega arith)

pub from-midnight-before : (z : ℤ) → lt_z (seconds_left z) (pos 0) ≡ true → seconds_left z +ℤ pos 86400 ≡ pos (second_of_unix_day z)
unfolding second_of_unix_day
from-midnight-before (pos s) e = absurd (omega (arith, ltb-true (s % 86400) 0 e))
from-midnight-before (negsuc s) e =
    let h = some_left (suc s % 86400) e in
    raised (suc s % 86400) h (omega arith) ∙ ap pos (same s h)
  where
    same : (s : ℕ) → 1 ≤ suc s % 86400 → 86400 - suc s % 86400 ≡ 86399 - s % 86400
    same s h = omega arith

pub from-midnight : (z : ℤ) → lt_z (seconds_left z) (pos 0) ≡ false → seconds_left z ≡ pos (second_of_unix_day z)
unfolding second_of_unix_day
from-midnight (pos s) e = refl
from-midnight (negsuc s) e =
    let h = none_left (suc s % 86400) e in
    ap (λ (r : ℕ). neg_ℤ (pos r)) h ∙ ap pos (same s h)
  where
    same : (s : ℕ) → suc s % 86400 ≡ 0 → 0 ≡ 86399 - s % 86400
    same s h = omega arith
