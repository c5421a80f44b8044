-- Hexadecimal digits: a number below 2 ^ 64 reads back from its 16 digits as itself, so that two with the same digits are one. Assumes nothing.
use Prim.Native.Nat.{ℕ, zero, suc, ◌+◌, ◌-◌, ◌*◌, ◌/◌, ◌%◌, ◌^◌, ◌<◌, ◌≤◌}
use native.Mathlib.Omega.{arith}
use native.Mathlib.Nat.{pow-suc}
use mathlib.Core.Path.{◌≡◌, refl, sym, ap, ◌∙◌}
use mathlib.Core.List.{List, [], ◌∷◌, ◌++◌}
use mathlib.Core.Bool.{Bool, true, false, cond}
use lib.ListN.{length, length-append}
use lib.Dec.{ltb}
use borrow.Author.Tests.{ltb-true, ltb-false, lt-ltb, le-ltb}
use Rattle.numerals.specs.digits.Hexadecimal.{hex_digit, hex_worth, hex_value, hex_number, hex_digits, hex16}

value-append : (v : ℕ) (cs ds : List ℕ) → hex_value v (cs ++ ds) ≡ hex_value (hex_value v cs) ds
value-append v [] ds = refl
value-append v (c ∷ cs) ds = value-append (16 * v + hex_worth c) cs ds

-- a digit is worth what it was written for
pub digit_worth : (d : ℕ) → d < 16 → hex_worth (hex_digit d) ≡ d
unfolding hex_worth hex_digit
digit_worth d h = either (ltb d 10) refl
  where
    small : d < 10 → 48 + d - 48 ≡ d
    small k = omega arith

    large : 10 ≤ d → 87 + d - 87 ≡ d
    large k = omega arith

    either : (b : Bool) → ltb d 10 ≡ b → cond (ltb (cond b (48 + d) (87 + d)) 58) (cond b (48 + d) (87 + d) - 48) (cond b (48 + d) (87 + d) - 87) ≡ d
    either true e = let k : 48 + d < 58 = omega (arith, ltb-true d 10 e) in simp (lt-ltb _ _ k) (small (ltb-true _ _ e))
    either false e = let k : 58 ≤ 87 + d = omega (arith, ltb-false d 10 e) in simp (le-ltb _ _ k) (large (ltb-false _ _ e))

reads_in : (k n : ℕ) → n < 16 ^ k → hex_number (hex_digits k n) ≡ n
unfolding hex_digits
reads_in zero n h = omega arith
reads_in (suc k) n h =
    value-append 0 (hex_digits k (n / 16)) (hex_digit (n % 16) ∷ [])
    ∙ ap (λ (v : ℕ). 16 * v + hex_worth (hex_digit (n % 16))) (reads_in k (n / 16) (part (16 ^ k) (rw (pow-suc 16 k) at h)))
    ∙ ap (λ (d : ℕ). 16 * (n / 16) + d) (digit_worth (n % 16) (omega arith))
    ∙ whole
  where
    part : (P : ℕ) → n < P * 16 → n / 16 < P
    part P g = omega arith

    whole : 16 * (n / 16) + n % 16 ≡ n
    whole = omega arith

pub number-hex : (n : ℕ) → n < 2 ^ 64 → hex_number (hex16 n) ≡ n
unfolding hex16
number-hex n h = reads_in 16 n h

pub hex_injective : (m n : ℕ) → m < 2 ^ 64 → n < 2 ^ 64 → hex16 m ≡ hex16 n → m ≡ n
hex_injective m n h k e = sym (number-hex m h) ∙ ap hex_number e ∙ number-hex n k

length-in : (k n : ℕ) → length (hex_digits k n) ≡ k
unfolding hex_digits
length-in zero n = refl
length-in (suc k) n = let e : length (hex_digits k (n / 16)) ≡ k = length-in k (n / 16) in simp length-append (omega arith)

pub hex_length : (n : ℕ) → length (hex16 n) ≡ 16
unfolding hex16
hex_length n = length-in 16 n
