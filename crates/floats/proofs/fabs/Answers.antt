-- `floats::fabs` meets its contract: with the sign's bit cleared, the same fields are read as |x|.
use Rattle.std.proofs.Common.{◌≡◌, ℕ, zero, suc, ◌+◌, ◌-◌, ◌/◌, ◌%◌, ◌^◌, Bool, true, false, cond, not, T, eqb, sym, refl, ap, ◌∙◌, subst, mod-lt, pow_pos}
use native.Mathlib.Nat.{mod-mod}
use lib.Arith.{lt→nleb}
use lib.Pow.{mod-mod-pow}
use lib.Bits.{bit_and, and_mask}
use lib.Ieee.{Float, nan, inf, fin, binary64, odd, fits, is_nan, of_fields, of_bits, to_bits}
use lib.Ieee.Bits.{of_bits-to_bits, nan_bits_is, is_false}
use lib.Ieee.Compare.{differs_from_itself}
use Rattle.floats.specs.Whole.{abs}
use Rattle.floats.proofs.Laws.{yes, equals_itself}
use Rattle.floats.proofs.Fields.{sign, expo, digits, of_bits_is}
use Rattle.floats.proofs.fabs.Goals as goal

nan_stays : (x : Float) → x ≡ nan → x ≡ abs x
unfolding abs
nan_stays x h = h ∙ sym (ap abs h)

abs-odd : (d : ℕ) (s : Bool) (q k l : ℕ) → odd d false q k l ≡ abs (odd d s q k l)
unfolding odd abs
abs-odd d s zero k l = refl
abs-odd d s (suc q) k l = refl

abs-top : (a z s : Bool) (v w : Float) → v ≡ abs w → cond a (cond z (inf false) nan) v ≡ abs (cond a (cond z (inf s) nan) w)
unfolding abs
abs-top true true s v w h = refl
abs-top true false s v w h = refl
abs-top false z s v w h = h

abs-fields : (s : Bool) (e t : ℕ) → of_fields binary64 false e t ≡ abs (of_fields binary64 s e t)
unfolding of_fields
abs-fields s zero t = abs-odd 53 s t 0 1074
abs-fields s (suc e) t = abs-top (eqb (suc e) 2047) (eqb t 0) s (odd 53 false (2 ^ 52 + t) e 1074) (odd 53 s (2 ^ 52 + t) e 1074)
    (abs-odd 53 s (2 ^ 52 + t) e 1074)

cleared : (b : ℕ) → of_bits binary64 (bit_and b (2 ^ 63 - 1)) ≡ abs (of_bits binary64 b)
cleared b =
    let c = b % 2 ^ 63 in
    ap (of_bits binary64) (and_mask b 63)
    ∙ of_bits_is c
    ∙ ap (λ (s : Bool). of_fields binary64 s (expo c) (digits c)) (is_false (sign c) (lt→nleb (2 ^ 63) c (mod-lt b (pow_pos 63))))
    ∙ ap (λ (z : ℕ). of_fields binary64 false (z / 2 ^ 52) (digits c)) (mod-mod b (2 ^ 63))
    ∙ ap (λ (z : ℕ). of_fields binary64 false (expo b) z) (mod-mod-pow b 11 52)
    ∙ abs-fields (sign b) (expo b) (digits b)
    ∙ ap abs (sym (of_bits_is b))

is : (x : Float) → T (fits binary64 x) → of_bits binary64 (bit_and (to_bits binary64 x) (2 ^ 63 - 1)) ≡ abs x
is x f = cleared (to_bits binary64 x) ∙ ap abs (of_bits-to_bits binary64 x f)

abs-no-nan : (x : Float) → T (not (is_nan x)) → T (not (is_nan (abs x)))
unfolding abs is_nan
abs-no-nan nan h = h
abs-no-nan (inf s) h = tt
abs-no-nan (fin s m e) h = tt

pub returns-then-x : goal.returns-then-x
returns-then-x c = nan_stays c.args.x (differs_from_itself c.args.x (yes c.if-x.true))

pub float_to_bits-result : goal.float_to_bits-result
float_to_bits-result c = equals_itself c.args.x c.if-x.false

pub float_from_bits-result : goal.float_from_bits-result
float_from_bits-result c =
    let x = c.args.x in
    subst (λ (z : Bool). T (not z)) (sym (nan_bits_is binary64 (bit_and (to_bits binary64 x) (2 ^ 63 - 1))))
    (subst (λ (v : Float). T (not (is_nan v))) (sym (is x (yes c.well_formed.0.1))) (abs-no-nan x (equals_itself x c.if-x.false)))

pub returns : goal.returns
returns c = is c.args.x (yes c.well_formed.0.1)
