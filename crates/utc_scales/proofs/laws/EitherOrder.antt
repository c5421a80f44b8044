-- The rounded sum of two floats does not depend on their order, and so neither does whether a pair of parts is accepted. Assumes nothing.
use mathlib.Core.Path.{◌≡◌, refl, sym, ap, ◌∙◌}
use mathlib.Core.Bool.{Bool, true, false, cond, ◌&&◌}
use Prim.Native.Nat.{ℕ, ◌-◌, ◌*◌, ◌≤◌, ◌<◌}
use native.Mathlib.Nat.{add_comm, mul_comm}
use native.Mathlib.Omega.{arith}
use lib.Dec.{ltb}
use lib.Ieee.{Float, nan, inf, fin, Format, binary64, up, down, round, sum, add}
use borrow.Author.Tests.{ltb-true, ltb-false}
use Rattle.julian.specs.day_number.DayNumber.{in_julian_range, accepted}
use Rattle.julian.specs.declared.JulianDate.{JulianDate}
use Rattle.utc_scales.specs.days.LargerPart.{first_is_kept, kept_as, kept_parts}

-- -a / c + b / c
unlike_turned : (f : Format) (a b c : ℕ) → sum f true a false b c ≡ sum f false b true a c
unfolding sum
unlike_turned f a b c = go (ltb a b) refl (ltb b a) refl
  where
    both : a < b → b < a → ⊥
    both h k = omega arith

    level : b ≤ a → a ≤ b → a - b ≡ b - a
    level h k = omega arith

    go : (s : Bool) → ltb a b ≡ s → (t : Bool) → ltb b a ≡ t
        → cond s (round f false (b - a) c) (round f (true && t) (a - b) c) ≡ cond t (round f true (a - b) c) (round f (false && s) (b - a) c)
    go true e true g = absurd (both (ltb-true a b e) (ltb-true b a g))
    go true e false g = refl
    go false e true g = refl
    go false e false g = ap (λ (n : ℕ). round f false n c) (level (ltb-false a b e) (ltb-false b a g))

sum-turned : (f : Format) (s t : Bool) (a b c : ℕ) → sum f s a t b c ≡ sum f t b s a c
unfolding sum
sum-turned f true true a b c = ap (λ (n : ℕ). round f true n c) (add_comm a b)
sum-turned f false false a b c = ap (λ (n : ℕ). round f false n c) (add_comm a b)
sum-turned f true false a b c = unlike_turned f a b c
sum-turned f false true a b c = sym (unlike_turned f b a c)

pub add_turned : (f : Format) (x y : Float) → add f x y ≡ add f y x
unfolding add
add_turned f nan nan = refl
add_turned f nan (inf t) = refl
add_turned f nan (fin t n d) = refl
add_turned f (inf s) nan = refl
add_turned f (inf true) (inf true) = refl
add_turned f (inf true) (inf false) = refl
add_turned f (inf false) (inf true) = refl
add_turned f (inf false) (inf false) = refl
add_turned f (inf s) (fin t n d) = refl
add_turned f (fin s m e) nan = refl
add_turned f (fin s m e) (inf t) = refl
add_turned f (fin s m e) (fin t n d) =
    (sum-turned f s t (m * up e * down d) (n * up d * down e) (down e * down d))
    ∙ ap (λ (c : ℕ). sum f t (n * up d * down e) s (m * up e * down d) c) (mul_comm (down e) (down d))

-- the larger part first, or jd1 first
pub accepted-either : (d : JulianDate) → accepted (kept_parts d).larger (kept_parts d).smaller ≡ accepted d.jd1 d.jd2
unfolding kept_parts accepted
accepted-either d = go (first_is_kept d)
  where
    go : (b : Bool) → in_julian_range (add binary64 (kept_as d b).larger (kept_as d b).smaller) ≡ in_julian_range (add binary64 d.jd1 d.jd2)
    go true = refl
    go false = ap in_julian_range (add_turned binary64 d.jd2 d.jd1)
