-- The day and the fraction that the code computes of an accepted pair are the definition's. Assumes nothing.
use mathlib.Core.Path.{◌≡◌, sym, ap, ◌∙◌, subst}
use mathlib.Core.Bool.{true}
use Prim.Native.Nat.{ℕ, ◌+◌}
use lib.Dec.{T}
use lib.IntN.{ℤ, pos, ◌+ℤ◌, ◌-ℤ◌}
use mir.Syntax.{w64}
use mir.ValLaws.{to_z-of_z}
use lib.Ieee.{Float, binary64, sub, fits, to_signed}
use Rattle.rounding.proofs.Casts.{plus_z, minus_z}
use Rattle.rounding.proofs.Ints.{Int, int_own, int_add, int_sub}
use Rattle.floats.specs.declared.NearestWhole.{NearestWhole}
use Rattle.floats.specs.Whole.{nearest_int}
use Rattle.floats.specs.NearestWhole.{nearest_whole}
use Rattle.julian.specs.declared.day_number.Summed.{Summed}
use Rattle.julian.specs.declared.day_number.Normalized.{Normalized}
use Rattle.julian.specs.declared.day_number.DayNumber.{DayNumber}
use Rattle.julian.specs.day_number.DayNumber.{accepted, sum_fractions, normalize_fraction, joined_fractions, rest, total, day_number, fraction_passed, day_of}
use Rattle.julian.specs.day_number.Sums.{Sums}
use Rattle.julian.proofs.day_number.Pair.{AcceptedSum}
use Rattle.julian.proofs.day_number.Accepted.{accepted-pair}
use Rattle.julian.proofs.day_number.TotalDay.{R, read_a, read-b, s4}

-- ---- the day number as a sum of plain counts
pub total-is : (a b : Float) (up more down : ℕ)
    → Int (total a b up more down) (plus_z (to_signed 63 a) + plus_z (to_signed 63 b) + up + (more + 0))
    (minus_z (to_signed 63 a) + minus_z (to_signed 63 b) + 0 + (0 + down))
total-is a b up more down = int_add (int_add (int_add (int_own (to_signed 63 a)) (int_own (to_signed 63 b))) (int_own (pos up)))
    (int_sub (int_own (pos more)) (int_own (pos down)))

pub number_is : (x y : Float) (up more down : ℕ) → (sum_fractions (rest x) (rest y)).carry ≡ up → (joined_fractions (rest x) (rest y)).carry ≡ more
    → (joined_fractions (rest x) (rest y)).borrow ≡ down → day_number x y ≡ total (nearest_int x) (nearest_int y) up more down
unfolding day_number
number_is x y up more down e f g =
    ap (λ (z : ℕ). total (nearest_int x) (nearest_int y) z (joined_fractions (rest x) (rest y)).carry (joined_fractions (rest x) (rest y)).borrow) e
    ∙ ap (λ (z : ℕ). total (nearest_int x) (nearest_int y) up z (joined_fractions (rest x) (rest y)).borrow) f
    ∙ ap (λ (z : ℕ). total (nearest_int x) (nearest_int y) up more z) g

-- ---- the code
module _ (x y : Float) (fx : T (fits binary64 x)) (fy : T (fits binary64 y)) (acc : accepted x y ≡ true) (a b : NearestWhole) (ea : a ≡ nearest_whole x)
    (eb : b ≡ nearest_whole y)
    (k : Summed) (ek : k ≡ sum_fractions (sub binary64 x a.value) (sub binary64 y b.value)) (f : Normalized) (ef : f ≡ normalize_fraction k.kahan) where
  ek' : k ≡ sum_fractions (rest x) (rest y)
  unfolding rest nearest_whole
  ek' = ek ∙ ap (λ (z : NearestWhole). sum_fractions (sub binary64 x z.value) (sub binary64 y b.value)) ea
      ∙ ap (λ (z : NearestWhole). sum_fractions (rest x) (sub binary64 y z.value)) eb

  ef' : f ≡ joined_fractions (rest x) (rest y)
  unfolding joined_fractions
  ef' = ef ∙ ap (λ (z : Summed). normalize_fraction z.kahan) ek'

  o : AcceptedSum x y
  o = accepted-pair x y fx fy acc

  h : Sums (to_signed 63 (nearest_int x)) (to_signed 63 (nearest_int y)) o.up o.more o.down
  h = o.ints

  ei' : R a.number ≡ to_signed 63 (nearest_int x)
  unfolding nearest_whole
  ei' = ap (λ (z : NearestWhole). R z.number) ea ∙ read_a (to_signed 63 (nearest_int x)) (to_signed 63 (nearest_int y)) o.up o.more o.down h

  ej' : R b.number ≡ to_signed 63 (nearest_int y)
  unfolding nearest_whole
  ej' = ap (λ (z : NearestWhole). R z.number) eb ∙ read-b (to_signed 63 (nearest_int x)) (to_signed 63 (nearest_int y)) o.up o.more o.down h

  eu' : k.carry ≡ o.up
  eu' = ap (λ (z : Summed). z.carry) ek' ∙ o.carry

  em' : f.carry ≡ o.more
  em' = ap (λ (z : Normalized). z.carry) ef' ∙ o.again

  ed' : f.borrow ≡ o.down
  ed' = ap (λ (z : Normalized). z.borrow) ef' ∙ o.borrow

  pub asks : Sums (R a.number) (R b.number) k.carry f.carry f.borrow
  asks =
      subst (λ (z : ℤ). Sums z (R b.number) k.carry f.carry f.borrow) (sym ei')
      (subst (λ (z : ℤ). Sums (to_signed 63 (nearest_int x)) z k.carry f.carry f.borrow) (sym ej')
      (subst (λ (z : ℕ). Sums (to_signed 63 (nearest_int x)) (to_signed 63 (nearest_int y)) z f.carry f.borrow) (sym eu')
      (subst (λ (z : ℕ). Sums (to_signed 63 (nearest_int x)) (to_signed 63 (nearest_int y)) o.up z f.borrow) (sym em')
      (subst (λ (z : ℕ). Sums (to_signed 63 (nearest_int x)) (to_signed 63 (nearest_int y)) o.up o.more z) (sym ed') h))))

  number : (d : ℤ) → d ≡ R a.number +ℤ R b.number +ℤ pos k.carry +ℤ (pos f.carry -ℤ pos f.borrow) → R d ≡ day_number x y
  number d e =
      ap R (e ∙ ap (λ (z : ℤ). z +ℤ R b.number +ℤ pos k.carry +ℤ (pos f.carry -ℤ pos f.borrow)) ei'
      ∙ ap (λ (z : ℤ). to_signed 63 (nearest_int x) +ℤ z +ℤ pos k.carry +ℤ (pos f.carry -ℤ pos f.borrow)) ej'
      ∙ ap (λ (z : ℕ). total (nearest_int x) (nearest_int y) z f.carry f.borrow) eu'
      ∙ ap (λ (z : ℕ). total (nearest_int x) (nearest_int y) o.up z f.borrow) em'
      ∙ ap (λ (z : ℕ). total (nearest_int x) (nearest_int y) o.up o.more z) ed')
      ∙ to_z-of_z w64 _ (s4 (to_signed 63 (nearest_int x)) (to_signed 63 (nearest_int y)) o.up o.more o.down h)
      ∙ sym (number_is x y o.up o.more o.down o.carry o.again o.borrow)

  part : f.fraction ≡ fraction_passed x y
  unfolding fraction_passed
  part = ap (λ (z : Normalized). z.fraction) ef'

  pub gives : (d : ℤ) → d ≡ R a.number +ℤ R b.number +ℤ pos k.carry +ℤ (pos f.carry -ℤ pos f.borrow)
      → ◌≡◌ {A = DayNumber} (record { day = R d; fraction = f.fraction }) (day_of x y)
  unfolding day_of
  gives d e = ap (λ (z : ℤ). record { day = z; fraction = f.fraction }) (number d e) ∙ ap (λ (z : Float). record { day = day_number x y; fraction = z }) part
