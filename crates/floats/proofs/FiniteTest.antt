-- The finite test: only a finite float less itself is zero.
use Rattle.std.proofs.Common.{◌≡◌, ℕ, ◌-◌, ◌*◌, ◌<◌, Bool, true, false, cond, ltb, refl, ap, ◌∙◌, mul-pos, arith, lit<}
use lib.Ieee.{Float, nan, inf, fin, binary64, up, down, round, neg, add, sub, sum, eq}
use lib.Ieee.Fits.{down_pos}
use lib.Ieee.Scale.{finite, round_same}
use Rattle.floats.specs.Whole.{nought}

zero_eq : (s : Bool) → eq (round binary64 s 0 1) nought ≡ true
unfolding eq round
zero_eq true = refl
zero_eq false = refl

module _ (x c : ℕ) (C : 0 < c) where
  none : (s : Bool) → round binary64 s (x - x) c ≡ round binary64 s 0 1
  none s = round_same binary64 s (x - x) c 0 1 C (lit< tt) (go x c)
    where
      go : (x c : ℕ) → (x - x) * 1 ≡ 0 * c
      go x c = omega arith

  gone : (b : Bool) (s t : Bool) → eq (cond b (round binary64 s (x - x) c) (round binary64 t (x - x) c)) nought ≡ true
  gone true s t = ap (λ (v : Float). eq v nought) (none s) ∙ zero_eq s
  gone false s t = ap (λ (v : Float). eq v nought) (none t) ∙ zero_eq t

pub less-itself : (x : Float) → eq (sub binary64 x x) nought ≡ finite x
unfolding sub add neg eq sum
less-itself nan = refl
less-itself (inf true) = refl
less-itself (inf false) = refl
less-itself (fin true m e) = let a = m * up e * down e in gone a (down e * down e) (mul-pos (down_pos e) (down_pos e)) (ltb a a) false (ltb a a)
less-itself (fin false m e) = let a = m * up e * down e in gone a (down e * down e) (mul-pos (down_pos e) (down_pos e)) (ltb a a) true false
