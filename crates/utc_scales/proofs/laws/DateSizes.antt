-- Dates of moderate size and what is computed of them with no table: parts that are at most a power of two, the seconds that are added, and UT1 to UTC near a
-- step. Assumes nothing.
use mathlib.Core.Path.{◌≡◌, refl, ap}
use mathlib.Core.Bool.{Bool, true, false, cond}
use Prim.Native.Nat.{ℕ, ◌+◌, ◌*◌, ◌^◌, ◌≤◌}
use native.Mathlib.Omega.{arith}
use lib.Dec.{lit≤}
use lib.IntN.{ℤ}
use lib.Ieee.{Float, binary64, round, add, mul, div, lt, le}
use Rattle.refusals.specs.Outcome.{Outcome, answer, refusal}
use Rattle.floats.specs.Whole.{nought, one}
use Rattle.rounding.specs.Value.{Val, L}
use Rattle.rounding.proofs.Range.{size-at-most}
use Rattle.rounding.proofs.Bound.{within_more}
use Rattle.rounding.proofs.Sizes.{Size, size-finite, size-add, size-sub, size-mul, size-div, size-more, power_size, under-size, whole_val}
use Rattle.constants.specs.Constants.{seconds_per_day, decimal}
use Rattle.julian.specs.day_number.Ranges.{InDays}
use Rattle.julian.specs.declared.JulianDate.{JulianDate}
use Rattle.julian.specs.Worth.{SmallParts}
use Rattle.julian.specs.Finite.{finite_jd, finite_arg}
use Rattle.julian.specs.shifts.SmallerPart as S
use Rattle.scales.specs.Conversions.{answer_of, tai-ut1}
use Rattle.scales.specs.laws.Ranges.{Held, Billion, FiniteParts}
use Rattle.julian.proofs.shifts.Outcomes.{by-is}
use Rattle.utc_scales.specs.days.LargerPart.{first_is_kept, kept_as, kept_parts, beside_as, put_beside, placed, change_smaller}
use Rattle.utc_scales.specs.from_ut1.Ut1Utc.{before_step, time_past_leap, at_most_one, after_step, near_step, Scanned, noStep, step, until_step}
use Rattle.utc_scales.specs.laws.Claims.{Holds, answers, SixOrOne, Fits}
use Rattle.utc_scales.proofs.days.Midnights.{midnight_of_day}
use Rattle.utc_scales.proofs.laws.Outcomes.{holds-answer, holds-onward}
use Rattle.utc_scales.proofs.laws.OffsetSizes.{day-size, day-above, day-more-above, zero_point_size}
use Rattle.utc_scales.proofs.laws.DaySizes.{midnight-size}
use Rattle.julian.specs.shifts.Shifts.{plus, days_of}

-- room for one conversion, from parts of 2 ^ k to parts of 2 ^ (k + 3), and for a round of the way back, to 2 ^ (k + 6)
pub record Room (k : ℕ) : Type 0 where
  pub least : 2 ^ 52 ≤ 2 ^ k
  pub a : 2 ^ 22 + 2 ^ k ≤ 2 ^ (k + 1)
  pub b : 2 ^ (k + 1) + 2 ^ 31 ≤ 2 ^ (k + 2)
  pub c : 2 ^ (k + 2) + 2 ^ 37 ≤ 2 ^ (k + 3)
  pub wide : 2 ^ k ≤ 2 ^ (k + 3)
  pub d : 2 ^ k + 2 ^ (k + 3) ≤ 2 ^ (k + 4)
  pub e : 2 ^ k + 2 ^ (k + 4) ≤ 2 ^ (k + 5)
  pub f : 2 ^ (k + 5) + 2 ^ (k + 4) ≤ 2 ^ (k + 6)
  pub top1 : 2 ^ (k + 1) ≤ 2 ^ 1000
  pub top2 : 2 ^ (k + 2) ≤ 2 ^ 1000
  pub top3 : 2 ^ (k + 3) ≤ 2 ^ 1000
  pub top4 : 2 ^ (k + 4) ≤ 2 ^ 1000
  pub top5 : 2 ^ (k + 5) ≤ 2 ^ 1000
  pub top6 : 2 ^ (k + 6) ≤ 2 ^ 1000

pub room52 : Room 52
room52 = record {
  least = lit≤ tt;
  a = lit≤ tt;
  b = lit≤ tt;
  c = lit≤ tt;
  wide = lit≤ tt;
  d = lit≤ tt;
  e = lit≤ tt;
  f = lit≤ tt;
  top1 = lit≤ tt;
  top2 =
      lit≤ tt;
  top3 = lit≤ tt;
  top4 = lit≤ tt;
  top5 = lit≤ tt;
  top6 = lit≤ tt;
}

pub room58 : Room 58
room58 = record {
  least = lit≤ tt;
  a = lit≤ tt;
  b = lit≤ tt;
  c = lit≤ tt;
  wide = lit≤ tt;
  d = lit≤ tt;
  e = lit≤ tt;
  f = lit≤ tt;
  top1 = lit≤ tt;
  top2 =
      lit≤ tt;
  top3 = lit≤ tt;
  top4 = lit≤ tt;
  top5 = lit≤ tt;
  top6 = lit≤ tt;
}

pub room64 : Room 64
room64 = record {
  least = lit≤ tt;
  a = lit≤ tt;
  b = lit≤ tt;
  c = lit≤ tt;
  wide = lit≤ tt;
  d = lit≤ tt;
  e = lit≤ tt;
  f = lit≤ tt;
  top1 = lit≤ tt;
  top2 =
      lit≤ tt;
  top3 = lit≤ tt;
  top4 = lit≤ tt;
  top5 = lit≤ tt;
  top6 = lit≤ tt;
}

-- a date whose parts are at most 2 ^ k
pub record Sized (k : ℕ) (d : JulianDate) : Type 0 where
  pub first : Size d.jd1 k
  pub second : Size d.jd2 k

pub parts-size : (k : ℕ) (d : JulianDate) → Sized k d → Size (kept_parts d).larger k × Size (kept_parts d).smaller k
unfolding kept_parts
parts-size k d s = go (first_is_kept d)
  where
    go : (b : Bool) → Size (kept_as d b).larger k × Size (kept_as d b).smaller k
    go true = (s.first, s.second)
    go false = (s.second, s.first)

put-size : (k : ℕ) (d : JulianDate) (x : Float) → Size (kept_parts d).larger k → Size x k → Sized k (put_beside (kept_parts d) x)
unfolding put_beside
put-size k d x s w = go (kept_parts d).first
  where
    go : (b : Bool) → Sized k (beside_as b (kept_parts d).larger x)
    go true = record { first = s; second = w }
    go false = record { first = w; second = s }

pub changed-size : (k : ℕ) {R : ℕ → Type 0} (f : Float → Float → Outcome Float) (d : JulianDate) → Size (kept_parts d).larger k
    → Holds (λ z. Size z k) R (f (kept_parts d).larger (kept_parts d).smaller) → Holds (Sized k) R (change_smaller f d)
unfolding change_smaller placed
changed-size k f d s h = holds-onward _ h (λ x w. answers (put-size k d x s w))

-- ---- TAI to UTC
pub record Guess (k : ℕ) (x : Float) : Type 0 where
  pub fits : Fits x
  pub size : Size x k

pub finite-parts : (k : ℕ) (d : JulianDate) → Sized k d → FiniteParts d
finite-parts k d s = (size-finite d.jd1 (2 ^ k * L) s.first, size-finite d.jd2 (2 ^ k * L) s.second)

pub small_size : (d : JulianDate) → SmallParts d → Sized 52 d
small_size d h = record {
  first = under-size d.jd1 52 h.first.held h.first.small;
  second =
      under-size d.jd2 52 h.second.held h.second.small;
}

pub held : (d : JulianDate) → SmallParts d → Held d
held d h = (h.first.held, h.second.held)

-- ---- UTC to UT1: so never 9, and 10 for DUT1 alone
billion_val : Val (decimal 1000000000 0) (1000000000 * L) 0 L
unfolding round L
billion_val = whole_val {p = 1000000000} {n = 0} (record { sign = false; size = 1000000000; has = (refl, refl); is = refl })

pub billion_size : (x : Float) → Billion x → Size x 30
billion_size x h = within_more (most L) (size-at-most h.0 billion_val h.1)
  where
    most : (l : ℕ) → 1000000000 * l ≤ 2 ^ 30 * l
    most l = omega arith

-- the date that many seconds later
later-size : (d : JulianDate) (s : Float) → Sized 55 d → Size s 31 → Sized 56 (S.map_smaller_part (plus (days_of s)) d)
unfolding S.map_smaller_part S.put_back S.parts_of plus days_of
later-size d s z w = go (S.first_is_larger d)
  where
    moves : {x : Float} → Size x 55 → Size (add binary64 x (div binary64 s seconds_per_day)) 56
    moves v = size-add 55 31 56 (lit≤ tt) (lit≤ tt) v (size-div 31 (lit≤ tt) w day-above)

    go : (b : Bool) → Sized 56 (S.put_as d (plus (days_of s) (S.parts_as d b).larger (S.parts_as d b).smaller) b)
    go true = record { first = size-more 55 56 (lit≤ tt) z.first; second = moves z.second }
    go false = record { first = moves z.first; second = size-more 55 56 (lit≤ tt) z.second }

pub later-finite : (d : JulianDate) (s : Float) → Sized 55 d → Size s 31 → Holds FiniteParts SixOrOne (answer_of (tai-ut1 s) d)
unfolding answer_of
later-finite d s z w =
    let f = finite-parts 55 d z in
    holds-answer _ (by-is plus s d f.0 f.1 (size-finite s (2 ^ 31 * L) w)) (finite-parts 56 _ (later-size d s z w))

pub offset_answers : (x : Float) (k : ℕ) → Size x k → finite_arg x ≡ answer x
unfolding finite_arg
offset_answers x k s = ap (λ (b : Bool). cond b (answer x) (refusal 10)) (size-finite x (2 ^ k * L) s)

-- ---- UT1 to UTC
either_size : (b : Bool) (k : ℕ) {x y : Float} → Size x k → Size y k → Size (cond b x y) k
either_size true k s t = s
either_size false k s t = t

module _ (big small dut1 : Float) (sb : Size big 52) (ss : Size small 52) (sd : Size dut1 30) where
  before-size : (delta : Float) → Size delta 12 → Size (before_step delta dut1) 31
  unfolding before_step
  before-size delta s = either_size (le nought (mul binary64 delta dut1)) 31 (size-sub 30 12 31 (lit≤ tt) (lit≤ tt) sd s) (size-more 30 31 (lit≤ tt) sd)

  past-size : (n : ℤ) → InDays n → (x : Float) → Size x 31 → Size (time_past_leap big small (midnight_of_day n) x) 54
  unfolding time_past_leap
  past-size n r x t =
      size-add 53 53 54 (lit≤ tt) (lit≤ tt) (size-sub 52 22 53 (lit≤ tt) (lit≤ tt) sb zero_point_size)
      (size-sub 52 33 53 (lit≤ tt) (lit≤ tt) ss
      (size-add 32 31 33 (lit≤ tt) (lit≤ tt) (size-sub 31 0 32 (lit≤ tt) (lit≤ tt) (midnight-size n r) (power_size 0)) (size-div 31 (lit≤ tt) t day-above)))

  pub step-size : (delta : Float) (n : ℤ) → Size delta 12 → InDays n → Size (near_step big small dut1 delta (midnight_of_day n)) 84
  unfolding near_step after_step at_most_one
  step-size delta n s r =
      let d = before-size delta s in
      either_size (lt nought (time_past_leap big small (midnight_of_day n) (before_step delta dut1))) 84
      (size-add 31 83 84 (lit≤ tt) (lit≤ tt) d
      (size-mul 12 71 (lit≤ tt) s
      (either_size (lt (div binary64 (mul binary64 (time_past_leap big small (midnight_of_day n) (before_step delta dut1)) seconds_per_day)
      (add binary64 seconds_per_day delta)) one) 71
      (size-div 71 (lit≤ tt) (size-mul 54 17 (lit≤ tt) (past-size n r _ d) day-size) (day-more-above s)) (size-more 0 71 (lit≤ tt) (power_size 0)))))
      (size-more 31 84 (lit≤ tt) d)

-- a day of the scan: TAI-UTC where there is no step, or the DUT1 to take away
abbrev pub ScanSize : Scanned → Type 0
ScanSize (noStep x) = Size x 11
ScanSize (step x) = Size x 84

pub until-size : (next : Float → Outcome Float) → ((x : Float) → Size x 11 → Holds (λ z. Size z 84) SixOrOne (next x)) → (s : Scanned) → ScanSize s
    → Holds (λ z. Size z 84) SixOrOne (until_step next s)
unfolding until_step
until-size next h (noStep x) s = h x s
until-size next h (step x) s = answers s

pub date-answers : (d : JulianDate) → Sized 52 d → finite_jd d ≡ answer d
unfolding finite_jd
date-answers d s = let f = finite-parts 52 d s in rw (f.0, f.1)
