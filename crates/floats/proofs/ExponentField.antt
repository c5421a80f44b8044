-- The values that are not finite are those whose exponent field is all ones. Assumes nothing.
use Rattle.std.proofs.Common.{◌≡◌, ℕ, zero, suc, ◌+◌, ◌^◌, Bool, true, false, cond, not, eqb, refl, ap, ◌∙◌, eq-eqb}
use lib.Pow.{field}
use lib.Ieee.{nan, inf, binary64, odd, of_fields, of_bits}
use lib.Ieee.Scale.{finite}
use Rattle.floats.specs.ExponentField.{exponent_field}
use Rattle.floats.proofs.Fields.{expo, of_bits_is}

odd_finite : (d : ℕ) (s : Bool) (q k l : ℕ) → finite (odd d s q k l) ≡ true
unfolding odd
odd_finite d s zero k l = refl
odd_finite d s (suc q) k l = refl

fields-finite : (s : Bool) (e t : ℕ) → finite (of_fields binary64 s e t) ≡ not (eqb e 2047)
unfolding of_fields
fields-finite s zero t = odd_finite 53 s t 0 1074
fields-finite s (suc e) t = by (eqb (suc e) 2047) (eqb t 0)
  where
    by : (a b : Bool) → finite (cond a (cond b (inf s) nan) (odd 53 s (2 ^ 52 + t) e 1074)) ≡ not a
    by true true = refl
    by true false = refl
    by false b = odd_finite 53 s (2 ^ 52 + t) e 1074

pub finite-field : (b : ℕ) → finite (of_bits binary64 b) ≡ not (eqb (exponent_field b) 2047)
finite-field b = ap finite (of_bits_is b) ∙ fields-finite _ (expo b) _ ∙ ap (λ (e : ℕ). not (eqb e 2047)) (field b 11 52)

pub field_not_finite : (b : ℕ) → exponent_field b ≡ 2047 → finite (of_bits binary64 b) ≡ false
field_not_finite b e = finite-field b ∙ ap not (eq-eqb (exponent_field b) 2047 e)
