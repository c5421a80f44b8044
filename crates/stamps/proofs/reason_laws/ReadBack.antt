-- The reader gives every reason back from its sentence. So two sentences are the same only if number, field and value are the same. Assumes nothing.
use Prim.Native.Nat.{ℕ, suc, ◌≤◌}
use native.Mathlib.Omega.{arith}
use mathlib.Core.Path.{◌≡◌, refl, sym, ap, ◌∙◌}
use mathlib.Core.List.{List, [], ◌∷◌, ◌++◌}
use lib.ListN.{length, drop}
use lib.Seq.{drop-append_seam}
use lib.Dec.{T}
use lib.IntN.{ℤ, pos, negsuc, neg_ℤ}
use lib.Ieee.{Float, binary64, to_bits, of_bits, fits}
use lib.Ieee.Bits.{to_bits-lt, of_bits-to_bits}
use borrow.Author.Tests.{ne_eqb}
use Rattle.numerals.specs.digits.Decimal.{number, AllDigits, digits_of}
use Rattle.numerals.proofs.digits.Decimal.{number_digits, digits-all, digits-some}
use Rattle.numerals.proofs.digits.Hexadecimal.{number-hex}
use Rattle.reasons.proofs.sentences.Each.{EachBelow, from_each}
use Rattle.reasons.specs.declared.sentences.Named.{Named}
use Rattle.reasons.specs.declared.sentences.Named.TheVariants.{NoField, Year, Month, Day, Hour, Minute, Second, Sum, Fraction, Nanos, FirstPart}
use Rattle.reasons.specs.declared.sentences.Named.TheVariants.{SecondPart, Offset, SecondSize, Size, WholeLength}
use Rattle.reasons.specs.declared.sentences.Reason.{Reason}
use Rattle.reasons.specs.sentences.Texts.{texts, fixed_text}
use Rattle.reasons.specs.sentences.Render.{signed_digits, float_digits, named_text, render}
use Rattle.stamps.specs.reason_laws.Reader.{starts_with, beginning, number_in, read_signed, float_in, field_by, read_sentence, OfMachine}

-- ---- the number
abbrev NumberRead : ℕ → Type 0
NumberRead k = 1 ≤ k → (t : List ℕ) → number_in (fixed_text k ++ t) ≡ k

no_zero : NumberRead 0
no_zero l t = absurd (omega arith)

numbers-read : EachBelow NumberRead 29
unfolding number_in beginning starts_with fixed_text texts
numbers-read = (
  (
    (
      (
        (
          (
            (
              (
                (
                  (
                    (
                      (
                        (
                          (
                            (
                              (
                                (
                                  (
                                    (
                                      (
                                        (
                                          (
                                            (((((((tt, no_zero), λ l t. refl), λ l t. refl), λ l t. refl), λ l t. refl), λ l t. refl), λ l t. refl),
                                            λ l t. refl,
                                          ),
                                          λ l t. refl,
                                        ),
                                        λ l t. refl,
                                      ),
                                      λ l t. refl,
                                    ),
                                    λ l t. refl,
                                  ),
                                  λ l t. refl,
                                ),
                                λ l t. refl,
                              ),
                              λ l t. refl,
                            ),
                            λ l t. refl,
                          ),
                          λ l t. refl,
                        ),
                        λ l t. refl,
                      ),
                      λ l t. refl,
                    ),
                    λ l t. refl,
                  ),
                  λ l t. refl,
                ),
                λ l t. refl,
              ),
              λ l t. refl,
            ),
            λ l t. refl,
          ),
          λ l t. refl,
        ),
        λ l t. refl,
      ),
      λ l t. refl,
    ),
    λ l t. refl,
  ),
  λ l t. refl,
)

pub number_read : (k : ℕ) → 1 ≤ k → k ≤ 28 → (t : List ℕ) → number_in (fixed_text k ++ t) ≡ k
number_read k l h t = from_each NumberRead 29 numbers-read k (omega arith) l t

-- ---- the value
plain : (cs : List ℕ) → AllDigits cs → 1 ≤ length cs → read_signed cs ≡ pos (number cs)
unfolding read_signed AllDigits
plain [] h l = absurd (omega arith)
plain (c ∷ cs) h l = let k : 48 ≤ c = h.0 in rw (ne_eqb c 45 (λ e. omega arith))

pub signed-read : (z : ℤ) → read_signed (signed_digits z) ≡ z
unfolding read_signed signed_digits
signed-read (pos n) = plain (digits_of n) (digits-all n) (digits-some n) ∙ ap pos (number_digits n)
signed-read (negsuc n) = ap (λ (k : ℕ). neg_ℤ (pos k)) (number_digits (suc n))

pub float_read : (x : Float) → T (fits binary64 x) → float_in (float_digits x) ≡ x
float_read x h = ap (of_bits binary64) (number-hex (to_bits binary64 x) (to_bits-lt binary64 x h)) ∙ of_bits-to_bits binary64 x h

-- ---- the field
pub named-read : (f : Named) → OfMachine f → field_by (named_text f) ≡ f
unfolding field_by starts_with named_text OfMachine
named-read NoField h = refl
named-read (Year n) h = ap Year (signed-read n)
named-read (Month n) h = ap Month (signed-read n)
named-read (Day n) h = ap Day (signed-read n)
named-read (Hour n) h = ap Hour (number_digits n)
named-read (Minute n) h = ap Minute (number_digits n)
named-read (Second x) h = ap Second (float_read x h)
named-read (Sum x) h = ap Sum (float_read x h)
named-read (Fraction x) h = ap Fraction (float_read x h)
named-read (Nanos n) h = ap Nanos (number_digits n)
named-read (FirstPart x) h = ap FirstPart (float_read x h)
named-read (SecondPart x) h = ap SecondPart (float_read x h)
named-read (Offset x) h = ap Offset (float_read x h)
named-read (SecondSize n) h = ap SecondSize (number_digits n)
named-read (Size n) h = ap Size (number_digits n)
named-read (WholeLength n) h = ap WholeLength (number_digits n)

-- ---- the sentence
module _ (r : Reason) (l : 1 ≤ r.number) (h : r.number ≤ 28) (m : OfMachine r.named) where
  pub read_back : read_sentence (render r) ≡ r
  unfolding read_sentence render
  read_back = λ i. record { number = which i; named = field i }
    where
      t : List ℕ
      t = named_text r.named

      which : number_in (fixed_text r.number ++ t) ≡ r.number
      which = number_read r.number l h t

      field : field_by (drop (length (fixed_text (number_in (fixed_text r.number ++ t)))) (fixed_text r.number ++ t)) ≡ r.named
      field =
          ap (λ (k : ℕ). field_by (drop (length (fixed_text k)) (fixed_text r.number ++ t))) which
          ∙ ap field_by (drop-append_seam (fixed_text r.number) t)
          ∙ named-read r.named m

-- two sentences are the same only if number, field and value are the same; a NaN has one value
pub same-sentence : (r s : Reason) → 1 ≤ r.number → r.number ≤ 28 → OfMachine r.named → 1 ≤ s.number → s.number ≤ 28 → OfMachine s.named
    → render r ≡ render s → r ≡ s
same-sentence r s l h m l' h' m' e = sym (read_back r l h m) ∙ ap read_sentence e ∙ read_back s l' h' m'
