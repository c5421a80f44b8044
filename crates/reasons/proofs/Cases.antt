-- 18 EXACTLY WHERE a number is 0 or above 28, whatever its values; the characters of hexadecimal digits; and closed cases. Assumes nothing.
use mathlib.Core.Path.{◌≡◌, refl}
use mathlib.Core.Bool.{Bool, true, false}
use mathlib.Core.List.{[], ◌∷◌, map}
use mathlib.Core.Logic.{inl, inr}
use Prim.Native.Nat.{ℕ}
use native.Mathlib.Omega.{arith}
use lib.Dec.{leb}
use lib.Ieee.{nan, to_bits}
use borrow.Author.Tests.{leb-true, leb-false}
use Rattle.refusals.specs.Outcome.{refusal, onward}
use Rattle.numerals.specs.digits.Hexadecimal.{hex_digit, hex_digits, hex16}
use Rattle.reasons.specs.declared.Values.{Values}
use Rattle.reasons.specs.sentences.Texts.{ascii_bytes}
use Rattle.reasons.specs.sentences.Render.{float_digits, render}
use Rattle.reasons.specs.Sentence.{reason_of, sentence}
use Rattle.reasons.specs.Decision.{SentenceDecision, told, no_sentence}

pub sentence-decided : (k : ℕ) (v : Values) → SentenceDecision k v
unfolding sentence reason_of onward render
sentence-decided k v = go (leb 1 k) refl (leb k 28) refl
  where
    go : (a : Bool) → leb 1 k ≡ a → (b : Bool) → leb k 28 ≡ b → SentenceDecision k v
    go true p true q = told (leb-true 1 k p) (leb-true k 28 q) (rw (p, q))
    go true p false q = no_sentence (inr (omega (arith, leb-false k 28 q))) (rw (p, q))
    go false p b q = no_sentence (inl (omega (arith, leb-false 1 k p))) (rw p)

pub nought-refused : (v : Values) → sentence 0 v ≡ refusal 18
unfolding sentence reason_of onward
nought-refused v = refl

pub twenty_nine_refused : (v : Values) → sentence 29 v ≡ refusal 18
unfolding sentence reason_of onward
twenty_nine_refused v = refl

-- 0 to 9 and a to f
pub hex_characters : map hex_digit (0 ∷ 1 ∷ 2 ∷ 3 ∷ 4 ∷ 5 ∷ 6 ∷ 7 ∷ 8 ∷ 9 ∷ 10 ∷ 11 ∷ 12 ∷ 13 ∷ 14 ∷ 15 ∷ []) ≡ ascii_bytes "0123456789abcdef"
unfolding hex_digit
hex_characters = refl

-- the highest digit first
pub hex_order : hex16 0x0123_4567_89ab_cdef ≡ ascii_bytes "0123456789abcdef"
unfolding hex16 hex_digits hex_digit
hex_order = refl

pub nan_digits : float_digits nan ≡ ascii_bytes "7ff8000000000000"
unfolding hex16 hex_digits hex_digit to_bits
nan_digits = refl
