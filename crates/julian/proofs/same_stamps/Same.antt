-- Two stamps are the same exactly where they are one record, so the test is reflexive (on a NaN's pattern too), symmetric and transitive. Assumes nothing.
use mathlib.Core.Path.{◌≡◌, refl, sym, ap, ◌∙◌}
use Prim.Native.Nat.{ℕ, ◌^◌, ◌<◌}
use mathlib.Core.Bool.{Bool, true, false, not, ◌&&◌}
use lib.Dec.{T, eqb, eqb→eq}
use lib.Ieee.{binary64, is_nan, of_bits, to_bits}
use lib.Ieee.Bits.{to_bits-of_bits}
use borrow.Author.Tests.{eq-eqb}
use Rattle.floats.proofs.Laws.{yes}
use Rattle.julian.specs.declared.same_stamps.Stamp.{Stamp}
use Rattle.julian.specs.same_stamps.Same.{same}

pub split : (a b : Bool) → a && b ≡ true → (a ≡ true) × (b ≡ true)
split true true e = (refl, refl)
split true false e = (refl, e)
split false b e = (e, absurd (yes e))

number : (m n : ℕ) → eqb m n ≡ true → m ≡ n
number m n e = eqb→eq m n (yes e)

-- the same stamp is the same scale and the same two patterns, and nothing else
pub same_is : (a b : Stamp) → same a b ≡ true → a ≡ b
unfolding same
same_is a b e =
    let u = split (eqb a.scale b.scale) (eqb a.jd1 b.jd1 && eqb a.jd2 b.jd2) e in
    let v = split (eqb a.jd1 b.jd1) (eqb a.jd2 b.jd2) u.1 in
    λ i. record { scale = number a.scale b.scale u.0 i; jd1 = number a.jd1 b.jd1 v.0 i; jd2 = number a.jd2 b.jd2 v.1 i }

pub same-itself : (a : Stamp) → same a a ≡ true
unfolding same
same-itself a = rw (eq-eqb a.scale a.scale refl, eq-eqb a.jd1 a.jd1 refl, eq-eqb a.jd2 a.jd2 refl)

pub is_same : (a b : Stamp) → a ≡ b → same a b ≡ true
is_same a b e = rw (← e) (same-itself a)

pub same-turned : (a b : Stamp) → same a b ≡ true → same b a ≡ true
same-turned a b e = is_same b a (sym (same_is a b e))

pub same-onward : (a b c : Stamp) → same a b ≡ true → same b c ≡ true → same a c ≡ true
same-onward a b c e f = is_same a c (same_is a b e ∙ same_is b c f)

-- a pattern of 64 bits that is no NaN's is one float's alone, -0.0 and 0.0 being two: such patterns that differ are different floats
pub patterns_apart : (m n : ℕ) → m < 2 ^ 64 → n < 2 ^ 64 → T (not (is_nan (of_bits binary64 m))) → T (not (is_nan (of_bits binary64 n)))
    → of_bits binary64 m ≡ of_bits binary64 n → m ≡ n
patterns_apart m n h k u v e = sym (to_bits-of_bits binary64 m h u) ∙ ap (to_bits binary64) e ∙ to_bits-of_bits binary64 n k v
