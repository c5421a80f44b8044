-- No fraction of a day is -0.0, whatever the two floats were: the sum that it comes from starts at 0.5. Assumes nothing.
use mathlib.Core.Path.{◌≡◌, refl, subst}
use mathlib.Core.Bool.{Bool, true, false, cond}
use Prim.Native.Nat.{ℕ, ◌+◌}
use lib.Dec.{T}
use lib.Ieee.{Float, binary64, add, sub, le, lt, fits}
use lib.Ieee.Fits.{add-fits, sub-fits}
use Rattle.julian.specs.declared.day_number.Kahan.{Kahan}
use Rattle.julian.specs.declared.day_number.Summed.{Summed}
use Rattle.julian.specs.declared.day_number.Carried.{Carried}
use Rattle.julian.specs.declared.day_number.Normalized.{Normalized}
use Rattle.julian.specs.day_number.DayNumber.{c_minus_eps_4, c_minus_eps_2, compensation, kahan_start, kahan_of, add_fraction, sum_fractions}
use Rattle.julian.specs.day_number.DayNumber.{borrow_sum, borrow_fraction, borrow_day, carry_day, carry_end, beside_borrowed, normalize_fraction}
use Rattle.julian.specs.day_number.DayNumber.{joined_fractions, rest, fraction_passed, day_of}
use Rattle.julian.specs.declared.day_number.DayNumber.{DayNumber}
use Rattle.julian.specs.day_number.Answer.{day_number_and_fraction}
use Rattle.julian.specs.day_number.MinusZero.{minus_zero}
use Rattle.refusals.specs.Outcome.{answer}
use Rattle.floats.specs.Whole.{nought, half, one}
use Rattle.julian.proofs.day_number.Answer.{answer-is}
use Rattle.julian.proofs.day_number.Parts.{rest-fits}
use Rattle.julian.proofs.day_number.MinusZero.{Unsigned, add_unsigned, sub_unsigned}

one-fits : T (fits binary64 one)
unfolding fits
one-fits = tt

half-unsigned : Unsigned half
unfolding fits minus_zero
half-unsigned = record { fit = tt; sign = refl }

nought-unsigned : Unsigned nought
unfolding fits minus_zero
nought-unsigned = record { fit = tt; sign = refl }

-- a compensated sum that is not -0.0
record Started (κ : Kahan) : Type 0 where
  sum : Unsigned κ.sum
  correction : T (fits binary64 κ.correction)

add_step : (c : ℕ) (κ : Kahan) (f : Float) → T (fits binary64 f) → Started κ → Started (add_fraction c κ f).kahan
unfolding add_fraction
add_step c κ f ff k = go (le one temp)
  where
    temp : Float
    temp = add binary64 κ.sum f

    fixed : Float
    fixed = add binary64 κ.correction (compensation κ.sum f temp)

    go : (b : Bool) → Started (cond {A = Summed} b (record { carry = c + 1; kahan = record { sum = sub binary64 temp one; correction = fixed } })
        (record { carry = c; kahan = record { sum = temp; correction = fixed } })).kahan
    go true = record {
      sum = sub_unsigned one one-fits (add_unsigned f ff k.sum);
      correction =
          add-fits binary64 κ.correction (compensation κ.sum f temp);
    }
    go false = record { sum = add_unsigned f ff k.sum; correction = add-fits binary64 κ.correction (compensation κ.sum f temp) }

both : (f g : Float) → T (fits binary64 f) → T (fits binary64 g) → Started (sum_fractions f g).kahan
unfolding sum_fractions
both f g ff fg = add_step (add_fraction 0 kahan_start f).carry (add_fraction 0 kahan_start f).kahan g fg
    (add_step 0 kahan_start f ff (record { sum = half-unsigned; correction = nought-unsigned.fit }))

carry_step : (κ : Kahan) (z : Float) → Unsigned z → Started κ → Unsigned (carry_day κ z).fraction
unfolding carry_day carry_end
carry_step κ z u k = go (lt (sub binary64 z one) c_minus_eps_4) (lt c_minus_eps_2 left) (lt nought left)
  where
    left : Float
    left = add binary64 (sub binary64 κ.sum one) (add binary64 κ.correction (sub binary64 (sub binary64 κ.sum (sub binary64 κ.sum one)) one))

    some : Unsigned left
    some = add_unsigned _ (add-fits binary64 κ.correction (sub binary64 (sub binary64 κ.sum (sub binary64 κ.sum one)) one))
        (sub_unsigned one one-fits k.sum)

    go : (a b c : Bool) → Unsigned (cond {A = Carried} a (record { carry = 0; fraction = z })
        (cond b (record { carry = 1; fraction = cond c left nought }) (record { carry = 0; fraction = left }))).fraction
    go true b c = u
    go false true true = some
    go false true false = nought-unsigned
    go false false c = some

normal_step : (κ : Kahan) → Started κ → Unsigned (normalize_fraction κ).fraction
unfolding normalize_fraction borrow_day
normal_step κ k = go (lt z nought)
  where
    s : Float
    s = κ.sum

    z : Float
    z = add binary64 κ.sum κ.correction

    rest' : Float
    rest' = sub binary64 z κ.sum

    w : Float
    w = borrow_fraction κ.sum rest'

    more : Unsigned (borrow_sum κ.sum)
    more = add_unsigned one one-fits k.sum

    borrowed : Unsigned w
    borrowed = add_unsigned _ (add-fits binary64 rest' (add binary64 (sub binary64 one (borrow_sum s)) s)) more

    go : (b : Bool) → Unsigned (cond {A = Normalized} b (beside_borrowed 1 (carry_day (kahan_of (borrow_sum s) w) w))
        (beside_borrowed 0 (carry_day (kahan_of s z) z))).fraction
    go true = carry_step (kahan_of (borrow_sum s) w) w borrowed (record { sum = more; correction = sub-fits binary64 w (borrow_sum s) })
    go false = carry_step (kahan_of s z) z (add_unsigned κ.correction k.correction k.sum) (record { sum = k.sum; correction = sub-fits binary64 z s })

pub fraction-unsigned : (x y : Float) → Unsigned (fraction_passed x y)
unfolding fraction_passed joined_fractions
fraction-unsigned x y = normal_step (sum_fractions (rest x) (rest y)).kahan (both (rest x) (rest y) (rest-fits x) (rest-fits y))

-- the fraction of every answered pair of floats
pub fraction-sign : (x y : Float) (d : DayNumber) → day_number_and_fraction x y ≡ answer d → minus_zero d.fraction ≡ false
unfolding day_of
fraction-sign x y d e = subst (λ (z : DayNumber). minus_zero z.fraction ≡ false) (answer-is x y d e).1 (fraction-unsigned x y).sign
