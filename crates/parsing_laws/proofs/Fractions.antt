-- The fraction, the zone and the blanks behind the seconds: read as the grammar says, both ways. Assumes nothing.
use Prim.Native.Nat.{ℕ, zero, suc, ◌+◌, ◌≤◌, ◌<◌}
use native.Mathlib.Omega.{arith}
use mathlib.Core.Path.{◌≡◌, refl, sym, ap, ◌∙◌, subst}
use mathlib.Core.List.{List, [], ◌∷◌, ◌++◌}
use mathlib.Core.Bool.{Bool, true, false, cond, ◌&&◌, and-false, and-eq-true_iff}
use mathlib.Core.Logic.{◌⊎◌, inl, inr}
use lib.ListN.{length, drop}
use lib.Seq.{drop-append_seam}
use lib.Dec.{eqb}
use borrow.Author.Tests.{eqb-true, eqb-false, ne_eqb}
use Rattle.numerals.specs.digits.Decimal.{is_digit, AllDigits}
use Rattle.numerals.proofs.digits.Decimal.{digit_bounds, digit_within}
use Rattle.parsing.specs.Grammar.{Blank, AllBlank, Fraction, none, some, Zone, plain, zulu}
use Rattle.parsing.specs.scan.Form.{after_blanks, byte_at, leading, fraction_digits, after_fraction, zulu_first, end_right}
use Rattle.parsing.proofs.Judgement.{leading-digits}
use Rattle.parsing_laws.proofs.Blanks.{all-skipped, none_left}

-- a byte below 48 or above 57 is no digit
pub no_digit : (c : ℕ) → (c < 48) ⊎ (57 < c) → is_digit c ≡ false
no_digit c h = either (is_digit c) refl h
  where
    either : (b : Bool) → is_digit c ≡ b → (c < 48) ⊎ (57 < c) → b ≡ false
    either true e (inl l) = let k = digit_bounds c e in absurd (let z : ⊥ = omega (arith, k.0) in z)
    either true e (inr g) = let k = digit_bounds c e in absurd (let z : ⊥ = omega (arith, k.1) in z)
    either false e h = refl

-- ---- digits in front
leading-none : (s : List ℕ) → is_digit (byte_at s 0) ≡ false → leading s ≡ []
unfolding leading
leading-none [] e = refl
leading-none (c ∷ cs) e = rw e

pub leading-append : (ds s : List ℕ) → AllDigits ds → is_digit (byte_at s 0) ≡ false → leading (ds ++ s) ≡ ds
unfolding leading AllDigits
leading-append [] s h e = leading-none s e
leading-append (c ∷ cs) s h e = rw (digit_within c h.0 h.1) (ap (λ (l : List ℕ). c ∷ l) (leading-append cs s h.2 e))

leading-split : (s : List ℕ) → s ≡ leading s ++ drop (length (leading s)) s
unfolding leading
leading-split [] = refl
leading-split (c ∷ cs) = either (is_digit c) (leading-split cs)
  where
    either : (b : Bool) → cs ≡ leading cs ++ drop (length (leading cs)) cs → c ∷ cs ≡ cond b (c ∷ leading cs) []
        ++ drop (length (cond b (c ∷ leading cs) [])) (c ∷ cs)
    either true h = ap (λ (l : List ℕ). c ∷ l) h
    either false h = refl

-- ---- what may follow a fraction: nothing, a blank or a Z, so neither a digit nor a point
pub record Tail (s : List ℕ) : Type 0 where
  pub no_digit : is_digit (byte_at s 0) ≡ false
  pub no_point : eqb (byte_at s 0) 46 ≡ false

pub tail_of : (utc : Bool) {z : List ℕ} {b : Bool} (after : List ℕ) → Zone utc z b → AllBlank after → Tail (z ++ after)
unfolding AllBlank is_digit
tail_of utc [] plain h = record { no_digit = refl; no_point = refl }
tail_of utc (c ∷ cs) plain h = of_blank c h.0
  where
    of_blank : (c : ℕ) → Blank c → Tail (c ∷ cs)
    of_blank c (inl k) = record { no_digit = no_digit c (inl (omega (arith, k.1))); no_point = ne_eqb c 46 (λ e. omega (arith, k.1)) }
    of_blank c (inr e) = record { no_digit = no_digit c (inl (omega arith)); no_point = ne_eqb c 46 (λ k. omega arith) }
tail_of utc after (zulu e) h = record { no_digit = refl; no_point = refl }

-- ---- the fraction
pub digits_of : {f ds : List ℕ} (s : List ℕ) → Fraction f ds → Tail s → fraction_digits (f ++ s) ≡ ds
unfolding fraction_digits
digits_of s none k = rw k.no_point
digits_of s (some {digits} h l) k = leading-append digits s h k.no_digit

pub after-of : {f ds : List ℕ} (s : List ℕ) → Fraction f ds → Tail s → after_fraction (f ++ s) ≡ s
unfolding after_fraction
after-of s none k = let e : length (fraction_digits s) ≡ 0 = ap length (digits_of s none k) in rw e
after-of s (some {digits} h l) k =
    let d : fraction_digits (46 ∷ (digits ++ s)) ≡ digits = digits_of s (some h l) k in
    let n : eqb (length digits) 0 ≡ false = ne_eqb (length digits) 0 (λ e. omega arith) in
    let m : 1 + length digits ≡ suc (length digits) = omega arith in
    rw (d, n, m) (drop-append_seam digits s)

pub fraction_bytes : List ℕ → List ℕ
fraction_bytes s = cond (eqb (length (fraction_digits s)) 0) [] (46 ∷ fraction_digits s)

empty : (l : List ℕ) → length l ≡ 0 → l ≡ []
empty [] e = refl
empty (c ∷ cs) e = absurd (let z : ⊥ = omega arith in z)

-- with a digit, there is a point in front
pointed : (s : List ℕ) → (length (fraction_digits s) ≡ 0 → ⊥) → (r : List ℕ) × (s ≡ 46 ∷ r) × (fraction_digits s ≡ leading r)
unfolding fraction_digits
pointed [] n = absurd (n refl)
pointed (c ∷ cs) n = either (eqb c 46) refl n
  where
    either : (b : Bool) → eqb c 46 ≡ b → (length (cond b (leading cs) []) ≡ 0 → ⊥) → (r : List ℕ) × (c ∷ cs ≡ 46 ∷ r) × (cond b (leading cs) [] ≡ leading r)
    either true e m = (cs, ap (λ (x : ℕ). x ∷ cs) (eqb-true c 46 e), refl)
    either false e m = absurd (m refl)

pub fraction-of : (s : List ℕ) → Fraction (fraction_bytes s) (fraction_digits s)
unfolding fraction_bytes
fraction-of s = either (eqb (length (fraction_digits s)) 0) refl
  where
    either : (b : Bool) → eqb (length (fraction_digits s)) 0 ≡ b → Fraction (cond b [] (46 ∷ fraction_digits s)) (fraction_digits s)
    either true e = subst (Fraction []) (sym (empty (fraction_digits s) (eqb-true _ _ e))) none
    either false e =
        let p = pointed s (eqb-false _ _ e) in
        let n : length (fraction_digits s) ≡ 0 → ⊥ = eqb-false _ _ e in
        some (subst AllDigits (sym p.2) (leading-digits p.0)) (positive (length (fraction_digits s)) n)
      where
        positive : (n : ℕ) → (n ≡ 0 → ⊥) → 1 ≤ n
        positive zero h = absurd (h refl)
        positive (suc n) h = omega arith

pub fraction-split : (s : List ℕ) → s ≡ fraction_bytes s ++ after_fraction s
unfolding fraction_bytes after_fraction
fraction-split s = either (eqb (length (fraction_digits s)) 0) refl
  where
    either : (b : Bool) → eqb (length (fraction_digits s)) 0 ≡ b → s ≡ cond b [] (46 ∷ fraction_digits s) ++ cond b s (drop (1 + length (fraction_digits s)) s)
    either true e = refl
    either false e =
        let p = pointed s (eqb-false _ _ e) in
        let m : 1 + length (leading p.0) ≡ suc (length (leading p.0)) = omega arith in
        let k : 46 ∷ p.0 ≡ 46 ∷ (leading p.0 ++ drop (1 + length (leading p.0)) (46 ∷ p.0)) =
        rw m (ap (λ (l : List ℕ). 46 ∷ l) (leading-split p.0)) in
        p.1 ∙ k ∙ sym (λ i. 46 ∷ (p.2 i ++ drop (1 + length (p.2 i)) (p.1 i)))

-- ---- the zone and the end
no_zulu : (utc : Bool) (after : List ℕ) → AllBlank after → zulu_first utc after ≡ false
unfolding AllBlank
no_zulu utc [] h = and-false utc
no_zulu utc (c ∷ cs) h = ap (λ (b : Bool). utc && b) (of_blank c h.0) ∙ and-false utc
  where
    of_blank : (c : ℕ) → Blank c → eqb c 90 ≡ false
    of_blank c (inl k) = ne_eqb c 90 (λ e. omega (arith, k.1))
    of_blank c (inr e) = ne_eqb c 90 (λ k. omega arith)

pub end_of : (utc : Bool) {z : List ℕ} {b : Bool} (after : List ℕ) → Zone utc z b → AllBlank after → (end_right utc (z ++ after) ≡ true)
    × (zulu_first utc (z ++ after) ≡ b)
unfolding end_right
end_of utc after plain h =
    let n : zulu_first utc after ≡ false = no_zulu utc after h in
    let e : length (after_blanks after) ≡ 0 = ap length (all-skipped after h) in
    (rw (n, e), n)
end_of utc after (zulu u) h =
    let n : zulu_first utc (90 ∷ after) ≡ true = rw u in
    let e : length (after_blanks after) ≡ 0 = ap length (all-skipped after h) in
    (rw (n, e), n)

pub zone_bytes : Bool → List ℕ → List ℕ
zone_bytes utc s = cond (zulu_first utc s) (90 ∷ []) []

pub after_zone : Bool → List ℕ → List ℕ
after_zone utc s = cond (zulu_first utc s) (drop 1 s) s

pub zone-of : (utc : Bool) (s : List ℕ) → Zone utc (zone_bytes utc s) (zulu_first utc s)
unfolding zone_bytes
zone-of utc s = either (zulu_first utc s) refl
  where
    either : (b : Bool) → zulu_first utc s ≡ b → Zone utc (cond b (90 ∷ []) []) b
    either true e = zulu ((and-eq-true_iff utc (eqb (byte_at s 0) 90)).0 e).0
    either false e = plain

pub zone-split : (utc : Bool) (s : List ℕ) → s ≡ zone_bytes utc s ++ after_zone utc s
unfolding zone_bytes after_zone
zone-split utc s = either s (zulu_first utc s) refl
  where
    either : (s : List ℕ) (b : Bool) → zulu_first utc s ≡ b → s ≡ cond b (90 ∷ []) [] ++ cond b (drop 1 s) s
    either [] true e = absurd (let z : ◌≡◌ {A = ℕ} 0 90 = eqb-true 0 90 ((and-eq-true_iff utc (eqb 0 90)).0 e).1 in let y : ⊥ = omega arith in y)
    either (c ∷ cs) true e = ap (λ (x : ℕ). x ∷ cs) (eqb-true c 90 ((and-eq-true_iff utc (eqb c 90)).0 e).1)
    either s false e = refl

pub end-blank : (utc : Bool) (s : List ℕ) → end_right utc s ≡ true → AllBlank (after_zone utc s)
unfolding end_right after_zone
end-blank utc s e = none_left (cond (zulu_first utc s) (drop 1 s) s) (eqb-true _ _ e)
