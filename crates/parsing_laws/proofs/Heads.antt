-- The nineteen bytes YYYY-MM-DDThh:mm:ss: which lists they are, what makes them right, and what their digits say. Assumes nothing.
use Prim.Native.Nat.{ℕ, ◌+◌, ◌*◌, ◌≤◌}
use native.Mathlib.Omega.{arith}
use mathlib.Core.Path.{◌≡◌, refl, sym, ap, ◌∙◌, subst}
use mathlib.Core.List.{List, [], ◌∷◌}
use mathlib.Core.Bool.{Bool, true, false, ◌||◌, and-eq-true_iff}
use lib.ListN.{length, drop, get_or-eq_default}
use lib.Seq.{drop-cons}
use lib.Dec.{ltb, eqb}
use borrow.Author.Tests.{ltb-true, ltb-false, eqb-true}
use Rattle.numerals.specs.digits.Decimal.{number, is_digit, AllDigits, Digits}
use Rattle.numerals.proofs.digits.Decimal.{digit_bounds, digit_within}
use Rattle.parsing.specs.Grammar.{Separator, letter, space}
use Rattle.parsing.specs.scan.Form.{byte_at, two_digits, two_say, is_separator, date_right, time_right}
use Rattle.parsing.proofs.scan.Runs.{worth-of}

-- ---- digits as bytes
pub record Two (cs : List ℕ) : Type 0 where
  pub a : ℕ
  pub b : ℕ
  pub is : cs ≡ a ∷ b ∷ []
  pub a-digit : is_digit a ≡ true
  pub b-digit : is_digit b ≡ true

pub two-of : (cs : List ℕ) → Digits 2 cs → Two cs
unfolding AllDigits
two-of [] k = absurd (let z : ⊥ = omega (arith, k.many) in z)
two-of (a ∷ []) k = absurd (let z : ⊥ = omega (arith, k.many) in z)
two-of (a ∷ b ∷ []) k = record {
  a = a;
  b = b;
  is = refl;
  a-digit = digit_within a k.all.0 k.all.1;
  b-digit =
      digit_within b k.all.2.0 k.all.2.1;
}
two-of (a ∷ b ∷ c ∷ cs) k = absurd (let z : ⊥ = omega (arith, k.many) in z)

pub record Four (cs : List ℕ) : Type 0 where
  pub a : ℕ
  pub b : ℕ
  pub c : ℕ
  pub d : ℕ
  pub is : cs ≡ a ∷ b ∷ c ∷ d ∷ []
  pub first : two_digits a b ≡ true
  pub second : two_digits c d ≡ true

pub both : (a b : ℕ) → is_digit a ≡ true → is_digit b ≡ true → two_digits a b ≡ true
unfolding two_digits
both a b e f = rw (e, f)

pub apart : (a b : ℕ) → two_digits a b ≡ true → (is_digit a ≡ true) × (is_digit b ≡ true)
unfolding two_digits
apart a b e = (and-eq-true_iff (is_digit a) (is_digit b)).0 e

pub four-of : (cs : List ℕ) → Digits 4 cs → Four cs
unfolding AllDigits
four-of [] k = absurd (let z : ⊥ = omega (arith, k.many) in z)
four-of (a ∷ []) k = absurd (let z : ⊥ = omega (arith, k.many) in z)
four-of (a ∷ b ∷ []) k = absurd (let z : ⊥ = omega (arith, k.many) in z)
four-of (a ∷ b ∷ c ∷ []) k = absurd (let z : ⊥ = omega (arith, k.many) in z)
four-of (a ∷ b ∷ c ∷ d ∷ []) k = record {
  a = a;
  b = b;
  c = c;
  d = d;
  is = refl;
  first = both a b (digit_within a k.all.0 k.all.1) (digit_within b k.all.2.0 k.all.2.1);
  second = both c d (digit_within c k.all.2.2.0 k.all.2.2.1) (digit_within d k.all.2.2.2.0 k.all.2.2.2.1);
}
four-of (a ∷ b ∷ c ∷ d ∷ e ∷ cs) k = absurd (let z : ⊥ = omega (arith, k.many) in z)

-- and back
pub two_digits_lem : (a b : ℕ) → two_digits a b ≡ true → Digits 2 (a ∷ b ∷ [])
unfolding AllDigits
two_digits_lem a b e =
    let k = apart a b e in
    let x = digit_bounds a k.0 in
    let y = digit_bounds b k.1 in
    record { many = refl; all = (x.0, x.1, (y.0, y.1, tt)) }

pub four-digits : (a b c d : ℕ) → two_digits a b ≡ true → two_digits c d ≡ true → Digits 4 (a ∷ b ∷ c ∷ d ∷ [])
unfolding AllDigits
four-digits a b c d e f =
    let k = apart a b e in
    let l = apart c d f in
    let x = digit_bounds a k.0 in
    let y = digit_bounds b k.1 in
    let z = digit_bounds c l.0 in
    let w = digit_bounds d l.1 in
    record { many = refl; all = (x.0, x.1, (y.0, y.1, (z.0, z.1, (w.0, w.1, tt)))) }

-- ---- what they say
pub two-say : (a b : ℕ) → two_digits a b ≡ true → two_say a b ≡ number (a ∷ b ∷ [])
two-say a b e = let k = apart a b e in rw (worth-of a k.0, worth-of b k.1) (omega arith)

pub four-say : (a b c d : ℕ) → two_digits a b ≡ true → two_digits c d ≡ true → 100 * two_say a b + two_say c d ≡ number (a ∷ b ∷ c ∷ d ∷ [])
four-say a b c d e f =
    let k = apart a b e in
    let l = apart c d f in
    rw (worth-of a k.0, worth-of b k.1, worth-of c l.0, worth-of d l.1) (omega arith)

-- ---- the separator
pub separator-is : (c : ℕ) → Separator c → is_separator c ≡ true
unfolding is_separator
separator-is c letter = refl
separator-is c space = refl

pub is-separator : (c : ℕ) → is_separator c ≡ true → Separator c
unfolding is_separator
is-separator c e = either (eqb c 84) refl e
  where
    either : (b : Bool) → eqb c 84 ≡ b → (b || eqb c 32) ≡ true → Separator c
    either true k h = subst Separator (sym (eqb-true c 84 k)) letter
    either false k h = subst Separator (sym (eqb-true c 32 h)) space

-- ---- the bytes in their places
module _ (y0 y1 y2 y3 m0 m1 d0 d1 sep h0 h1 n0 n1 s0 s1 : ℕ) (rest : List ℕ) where
  abbrev pub head : List ℕ
  head = y0 ∷ y1 ∷ y2 ∷ y3 ∷ 45 ∷ m0 ∷ m1 ∷ 45 ∷ d0 ∷ d1 ∷ sep ∷ h0 ∷ h1 ∷ 58 ∷ n0 ∷ n1 ∷ 58 ∷ s0 ∷ s1 ∷ rest

  pub date-right : two_digits y0 y1 ≡ true → two_digits y2 y3 ≡ true → two_digits m0 m1 ≡ true → two_digits d0 d1 ≡ true → date_right head ≡ true
  unfolding date_right
  date-right a b c d = rw (a, b, c, d)

  pub time-right : is_separator sep ≡ true → two_digits h0 h1 ≡ true → two_digits n0 n1 ≡ true → two_digits s0 s1 ≡ true → time_right head ≡ true
  unfolding time_right
  time-right a b c d = rw (a, b, c, d)

-- ---- what a right date and a right time show
pub record DateBytes (s : List ℕ) : Type 0 where
  pub year : two_digits (byte_at s 0) (byte_at s 1) ≡ true
  pub year-end : two_digits (byte_at s 2) (byte_at s 3) ≡ true
  pub after-year : byte_at s 4 ≡ 45
  pub month : two_digits (byte_at s 5) (byte_at s 6) ≡ true
  pub after_month : byte_at s 7 ≡ 45
  pub day : two_digits (byte_at s 8) (byte_at s 9) ≡ true

pub date-bytes : (s : List ℕ) → date_right s ≡ true → DateBytes s
unfolding date_right
date-bytes s e =
    let a = (and-eq-true_iff (two_digits (byte_at s 0) (byte_at s 1)) _).0 e in
    let b = (and-eq-true_iff (two_digits (byte_at s 2) (byte_at s 3)) _).0 a.1 in
    let c = (and-eq-true_iff (eqb (byte_at s 4) 45) _).0 b.1 in
    let d = (and-eq-true_iff (two_digits (byte_at s 5) (byte_at s 6)) _).0 c.1 in
    let f = (and-eq-true_iff (eqb (byte_at s 7) 45) _).0 d.1 in
    record { year = a.0; year-end = b.0; after-year = eqb-true _ _ c.0; month = d.0; after_month = eqb-true _ _ f.0; day = f.1 }

pub record TimeBytes (s : List ℕ) : Type 0 where
  pub separator : is_separator (byte_at s 10) ≡ true
  pub hour : two_digits (byte_at s 11) (byte_at s 12) ≡ true
  pub after_hour : byte_at s 13 ≡ 58
  pub minute : two_digits (byte_at s 14) (byte_at s 15) ≡ true
  pub after_minute : byte_at s 16 ≡ 58
  pub second : two_digits (byte_at s 17) (byte_at s 18) ≡ true

pub time-bytes : (s : List ℕ) → time_right s ≡ true → TimeBytes s
unfolding time_right
time-bytes s e =
    let a = (and-eq-true_iff (is_separator (byte_at s 10)) _).0 e in
    let b = (and-eq-true_iff (two_digits (byte_at s 11) (byte_at s 12)) _).0 a.1 in
    let c = (and-eq-true_iff (eqb (byte_at s 13) 58) _).0 b.1 in
    let d = (and-eq-true_iff (two_digits (byte_at s 14) (byte_at s 15)) _).0 c.1 in
    let f = (and-eq-true_iff (eqb (byte_at s 16) 58) _).0 d.1 in
    record { separator = a.0; hour = b.0; after_hour = eqb-true _ _ c.0; minute = d.0; after_minute = eqb-true _ _ f.0; second = f.1 }

-- so there are nineteen
pub nineteen : (s : List ℕ) → TimeBytes s → 19 ≤ length s
nineteen s k = either (ltb 18 (length s)) refl
  where
    either : (b : Bool) → ltb 18 (length s) ≡ b → 19 ≤ length s
    either true e = ltb-true 18 (length s) e
    either false e =
        let d = digit_bounds (byte_at s 18) (apart (byte_at s 17) (byte_at s 18) k.second).1 in
        let z : byte_at s 18 ≡ 0 = get_or-eq_default s 0 (ltb-false 18 (length s) e) in
        absurd (let y : ⊥ = omega (arith, d.0) in y)

pub all-nineteen : (s : List ℕ) → 19 ≤ length s
    → s ≡ byte_at s 0 ∷ byte_at s 1 ∷ byte_at s 2 ∷ byte_at s 3 ∷ byte_at s 4 ∷ byte_at s 5 ∷ byte_at s 6 ∷ byte_at s 7 ∷ byte_at s 8 ∷ byte_at s 9 ∷ byte_at s
    10 ∷
    byte_at s 11 ∷ byte_at s 12 ∷ byte_at s 13 ∷ byte_at s 14 ∷ byte_at s 15 ∷ byte_at s 16 ∷ byte_at s 17 ∷ byte_at s 18 ∷ drop 19 s
all-nineteen s h = drop-cons s 0 0 (omega arith)
    ∙ ap (λ (l : List ℕ). byte_at s 0 ∷ l)
    (drop-cons s 1 0 (omega arith) ∙ ap (λ (l : List ℕ). byte_at s 1 ∷ l)
    (drop-cons s 2 0 (omega arith) ∙ ap (λ (l : List ℕ). byte_at s 2 ∷ l)
    (drop-cons s 3 0 (omega arith) ∙ ap (λ (l : List ℕ). byte_at s 3 ∷ l)
    (drop-cons s 4 0 (omega arith) ∙ ap (λ (l : List ℕ). byte_at s 4 ∷ l)
    (drop-cons s 5 0 (omega arith) ∙ ap (λ (l : List ℕ). byte_at s 5 ∷ l)
    (drop-cons s 6 0 (omega arith) ∙ ap (λ (l : List ℕ). byte_at s 6 ∷ l)
    (drop-cons s 7 0 (omega arith) ∙ ap (λ (l : List ℕ). byte_at s 7 ∷ l)
    (drop-cons s 8 0 (omega arith) ∙ ap (λ (l : List ℕ). byte_at s 8 ∷ l)
    (drop-cons s 9 0 (omega arith) ∙ ap (λ (l : List ℕ). byte_at s 9 ∷ l)
    (drop-cons s 10 0 (omega arith)
    ∙ ap (λ (l : List ℕ). byte_at s 10 ∷ l)
    (drop-cons s 11 0 (omega arith)
    ∙ ap (λ (l : List ℕ). byte_at s 11 ∷ l)
    (drop-cons s 12 0 (omega arith)
    ∙ ap (λ (l : List ℕ). byte_at s 12 ∷ l)
    (drop-cons s 13 0 (omega arith)
    ∙ ap (λ (l : List ℕ). byte_at s 13 ∷ l)
    (drop-cons s 14 0 (omega arith)
    ∙ ap (λ (l : List ℕ). byte_at s 14 ∷ l)
    (drop-cons s 15 0 (omega arith)
    ∙ ap (λ (l : List ℕ). byte_at s 15 ∷ l)
    (drop-cons s 16 0 (omega arith)
    ∙ ap (λ (l : List ℕ). byte_at s 16 ∷ l)
    (drop-cons s 17 0 (omega arith) ∙ ap (λ (l : List ℕ). byte_at s 17 ∷ l) (drop-cons s 18 0 (omega arith)))))))))))))))))))
