-- A number of a listing is below 10,000, so that its numeral is all its digits and reads back. Assumes nothing.
use Prim.Native.Nat.{ℕ, zero, suc, ◌*◌, ◌/◌, ◌^◌, ◌<◌, ◌≤◌}
use native.Mathlib.Omega.{arith}
use native.Mathlib.Nat.{pow-suc}
use mathlib.Core.Path.{◌≡◌, refl, ap, ◌∙◌}
use mathlib.Core.Bool.{Bool, true, false}
use mathlib.Core.List.{List, [], ◌∷◌, ◌++◌}
use lib.Dec.{ltb}
use borrow.Author.Tests.{ltb-false}
use Rattle.refusals.specs.Outcome.{Outcome, answer, refusal}
use Rattle.numerals.specs.digits.Decimal.{number, last, digits_in, digits_of}
use Rattle.numerals.proofs.digits.Decimal.{number_digits}
use Rattle.leap_table.specs.rows.Table.{Row}
use Rattle.stamps.specs.Listing.{numeral, text_at, one_if_refused, refused_in}

-- ---- with room for all its digits a number has the same whatever the room
either : (a b n : ℕ) → (10 ≤ n → digits_in a (n / 10) ≡ digits_in b (n / 10)) → (t : Bool) → ltb n 10 ≡ t → digits_in (suc a) n ≡ digits_in (suc b) n
unfolding digits_in
either a b n less true e = rw e refl
either a b n less false e = rw e (ap (λ (l : List ℕ). l ++ (last n ∷ [])) (less (ltb-false n 10 e)))

tenth : (n P : ℕ) → n < P * 10 → n / 10 < P
tenth n P h = omega arith

enough : (a b n : ℕ) → n < 10 ^ suc a → n < 10 ^ suc b → digits_in (suc a) n ≡ digits_in (suc b) n
enough zero zero n h g = refl
enough zero (suc b) n h g = either zero (suc b) n (λ k. absurd (let z : ⊥ = omega arith in z)) (ltb n 10) refl
enough (suc a) zero n h g = either (suc a) zero n (λ k. absurd (let z : ⊥ = omega arith in z)) (ltb n 10) refl
enough (suc a) (suc b) n h g =
    either (suc a) (suc b) n (λ k. enough a b (n / 10) (tenth n (10 ^ suc a) (rw (pow-suc 10 (suc a)) at h))
    (tenth n (10 ^ suc b) (rw (pow-suc 10 (suc b)) at g))) (ltb n 10) refl

below_power : (n : ℕ) → n < 10 ^ suc n
below_power zero = omega arith
below_power (suc n) = rw (pow-suc 10 (suc n)) (step (10 ^ suc n) (below_power n))
  where
    step : (P : ℕ) → n < P → suc n < P * 10
    step P h = omega arith

pub digits-whole : (k n : ℕ) → n < 10 ^ suc k → digits_in (suc k) n ≡ digits_of n
unfolding digits_of
digits-whole k n h = enough k n n h (below_power n)

pub numeral-whole : (n : ℕ) → n < 10000 → numeral n ≡ digits_of n
numeral-whole n h = digits-whole 3 n h

pub numeral_reads : (n : ℕ) → n < 10000 → number (numeral n) ≡ n
numeral_reads n h = ap number (numeral-whole n h) ∙ number_digits n

-- ---- the count of a header is at most the number of stamps
one-most : (o : Outcome (List ℕ)) → one_if_refused o ≤ 1
unfolding one_if_refused
one-most (answer t) = omega arith
one-most (refusal k) = omega arith

pub refused-most : (rows : List Row) (s : List ℕ) (n k : ℕ) → refused_in rows s n k ≤ k
unfolding refused_in
refused-most rows s n zero = omega arith
refused-most rows s n (suc k) = omega (arith, refused-most rows s n k, one-most (text_at rows s n k))
