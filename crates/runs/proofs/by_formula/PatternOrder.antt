-- Of two finite numbers the larger in size is the one with the larger pattern, without the sign's bit. Assumes nothing.
use Prim.Native.Nat.{ℕ, zero, suc, ◌+◌, ◌*◌, ◌%◌, ◌^◌, ◌<◌, ◌≤◌}
use native.Mathlib.Omega.{arith}
use native.Mathlib.Nat.{add-mul, suc-mul, mul-le-mul_right, pow-succ'}
use mathlib.Core.Path.{◌≡◌, refl, sym, ap, subst, ◌∙◌}
use mathlib.Core.Bool.{Bool, true, false, not}
use lib.Dec.{eqb, ltb}
use lib.Pow.{field, mod-pow-add, pow_pos, pow_mono}
use lib.Ieee.{Float, nan, inf, fin, binary64, lt, of_bits, of_fields}
use lib.Ieee.Exact.{HasValue}
use lib.Ieee.Scale.{finite}
use borrow.Author.Tests.{ltb-true, ltb-false, lt-ltb, le-ltb, eqb-false, not-true}
use Rattle.floats.specs.Whole.{abs}
use Rattle.floats.proofs.Fields.{sign, expo, digits, of_bits_is, digits_lt, normal, subnormal}
use Rattle.rounding.specs.Value.{Val}
use Rattle.rounding.proofs.Compare.{lt_val}
use Rattle.floats.proofs.ExponentField.{finite-field}

-- the value of the exponent's field e and the digits t, in units of the smallest number
worth : ℕ → ℕ → ℕ
worth zero t = t * 2 ^ 0
worth (suc j) t = (2 ^ 52 + t) * 2 ^ j

-- ---- it grows with the exponent, and then with the digits
module _ (t : ℕ) (small : t < 2 ^ 52) where
  under : (e : ℕ) → worth e t < 2 ^ 52 * 2 ^ e
  unfolding worth
  under zero = omega arith
  under (suc j) =
      let most : t * 2 ^ j ≤ 4503599627370495 * 2 ^ j = mul-le-mul_right (2 ^ j) (omega arith) in
      let twice : 2 ^ suc j ≡ 2 * 2 ^ j = pow-succ' 2 j in
      omega (arith, add-mul (2 ^ 52) t (2 ^ j), most, twice, pow_pos j)

above : (e t i : ℕ) → i < e → 2 ^ 52 * 2 ^ i ≤ worth e t
unfolding worth
above zero t i h = let w : ⊥ = omega arith in absurd w
above (suc j) t i h =
    let more : 2 ^ i ≤ 2 ^ j = pow_mono (omega arith) in
    omega (arith, add-mul (2 ^ 52) t (2 ^ j), more)

by-exponent : (e t f u : ℕ) → t < 2 ^ 52 → e < f → worth e t < worth f u
by-exponent e t f u small h = omega (arith, under t small e, above f u e h)

by_digits : (e t u : ℕ) → t < u → worth e t < worth e u
unfolding worth
by_digits zero t u h = omega arith
by_digits (suc j) t u h =
    let more : suc t * 2 ^ j ≤ u * 2 ^ j = mul-le-mul_right (2 ^ j) h in
    omega (arith, add-mul (2 ^ 52) t (2 ^ j), add-mul (2 ^ 52) u (2 ^ j), suc-mul t (2 ^ j), more, pow_pos j)

grows : (e t f u : ℕ) → t < 2 ^ 52 → u < 2 ^ 52 → e * 2 ^ 52 + t < f * 2 ^ 52 + u → worth e t < worth f u
grows e t f u small small' h = go (ltb e f) refl
  where
    same : f ≡ e → worth e t < worth f u
    same q = subst (λ (x : ℕ). worth e t < worth x u) (sym q) (by_digits e t u (omega arith))

    go : (b : Bool) → ltb e f ≡ b → worth e t < worth f u
    go true p = by-exponent e t f u small (ltb-true e f p)
    go false p =
        let k : f ≤ e = ltb-false e f p in
        same (omega arith)

alike : (e t f u : ℕ) → t < 2 ^ 52 → u < 2 ^ 52 → ltb (e * 2 ^ 52 + t) (f * 2 ^ 52 + u) ≡ ltb (worth e t) (worth f u)
alike e t f u small small' = go (ltb (e * 2 ^ 52 + t) (f * 2 ^ 52 + u)) refl
  where
    equal : e ≡ f → t ≡ u → worth f u ≤ worth e t
    equal p q = subst (λ (x : ℕ). worth f u ≤ worth x t) (sym p) (subst (λ (y : ℕ). worth f u ≤ worth f y) (sym q) (omega arith))

    back : (c : Bool) → ltb (f * 2 ^ 52 + u) (e * 2 ^ 52 + t) ≡ c → f * 2 ^ 52 + u ≤ e * 2 ^ 52 + t → worth f u ≤ worth e t
    back true p k = let m : worth f u < worth e t = grows f u e t small' small (ltb-true (f * 2 ^ 52 + u) (e * 2 ^ 52 + t) p) in omega arith
    back false p k =
        let m : e * 2 ^ 52 + t ≤ f * 2 ^ 52 + u = ltb-false (f * 2 ^ 52 + u) (e * 2 ^ 52 + t) p in
        equal (omega arith) (omega arith)

    go : (c : Bool) → ltb (e * 2 ^ 52 + t) (f * 2 ^ 52 + u) ≡ c → c ≡ ltb (worth e t) (worth f u)
    go true p = sym (lt-ltb (worth e t) (worth f u) (grows e t f u small small' (ltb-true (e * 2 ^ 52 + t) (f * 2 ^ 52 + u) p)))
    go false p = sym (le-ltb (worth e t) (worth f u) (back (ltb (f * 2 ^ 52 + u) (e * 2 ^ 52 + t)) refl (ltb-false (e * 2 ^ 52 + t) (f * 2 ^ 52 + u) p)))

-- ---- the value of a finite number's pattern
value : (b : ℕ) → expo b < 2047 → HasValue (of_bits binary64 b) (sign b) (worth (expo b) (digits b)) (2 ^ 1074)
unfolding worth
value b h = subst (λ (x : Float). HasValue x (sign b) (worth (expo b) (digits b)) (2 ^ 1074)) (sym (of_bits_is b)) (go (expo b) h)
  where
    go : (e : ℕ) → e < 2047 → HasValue (of_fields binary64 (sign b) e (digits b)) (sign b) (worth e (digits b)) (2 ^ 1074)
    go zero k = subnormal (sign b) (digits b)
    go (suc j) k = normal (sign b) j (digits b) k

size-value : (x : Float) (s : Bool) (a d : ℕ) → HasValue x s a d → Val (abs x) a 0 d
unfolding abs
size-value nan s a d h = absurd h
size-value (inf t) s a d h = absurd h
size-value (fin t m e) s a d h = record { sign = false; size = a; has = (refl, h.1); is = omega arith }

not_ones : (b : ℕ) → expo b ≤ 2047 → finite (of_bits binary64 b) ≡ true → expo b < 2047
not_ones b most h =
    let e : not (eqb (expo b) 2047) ≡ true = ap (λ (n : ℕ). not (eqb n 2047)) (field b 11 52) ∙ sym (finite-field b) ∙ h in
    let q : expo b ≡ 2047 → ⊥ = eqb-false (expo b) 2047 (not-true (eqb (expo b) 2047) e) in
    go (ltb (expo b) 2047) refl q
  where
    go : (c : Bool) → ltb (expo b) 2047 ≡ c → (expo b ≡ 2047 → ⊥) → expo b < 2047
    go true p q = ltb-true (expo b) 2047 p
    go false p q = let k : 2047 ≤ expo b = ltb-false (expo b) 2047 p in absurd (q (omega arith))

split : (b : ℕ) → b % 0x8000_0000_0000_0000 ≡ expo b * 2 ^ 52 + digits b
split b = mod-pow-add b 11 52 ∙ ap (λ (n : ℕ). n * 2 ^ 52 + digits b) (sym (field b 11 52))

module _ (a b : ℕ) (ma : expo a ≤ 2047) (mb : expo b ≤ 2047) (ha : finite (of_bits binary64 a) ≡ true) (hb : finite (of_bits binary64 b) ≡ true) where
  by_value : lt (abs (of_bits binary64 b)) (abs (of_bits binary64 a)) ≡ ltb (worth (expo b) (digits b)) (worth (expo a) (digits a))
  by_value =
      let e : worth (expo b) (digits b) + 0 ≡ worth (expo b) (digits b) = omega arith in
      let f : worth (expo a) (digits a) + 0 ≡ worth (expo a) (digits a) = omega arith in
      lt_val (pow_pos 1074) (size-value (of_bits binary64 b) (sign b) _ (2 ^ 1074) (value b (not_ones b mb hb)))
      (size-value (of_bits binary64 a) (sign a) _ (2 ^ 1074) (value a (not_ones a ma ha)))
      ∙ (λ k. ltb (e k) (f k))

  pub larger-pattern : ltb (b % 0x8000_0000_0000_0000) (a % 0x8000_0000_0000_0000) ≡ lt (abs (of_bits binary64 b)) (abs (of_bits binary64 a))
  larger-pattern = (λ k. ltb (split b k) (split a k)) ∙ alike (expo b) (digits b) (expo a) (digits a) (digits_lt b) (digits_lt a) ∙ sym by_value
