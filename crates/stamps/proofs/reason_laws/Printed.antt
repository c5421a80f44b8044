-- A sentence is printable ASCII, with no line end; that it has at most 57 bytes is proved beside its writer (reasons/proofs/SentenceLengths). Assumes nothing.
use Prim.Native.Nat.{ℕ, zero, suc, ◌+◌, ◌/◌, ◌%◌, ◌≤◌, ◌<◌}
use native.Mathlib.Omega.{arith}
use mathlib.Core.Path.{◌≡◌, refl}
use mathlib.Core.Bool.{Bool, true, false, cond, ◌&&◌, and-eq-true_iff}
use mathlib.Core.List.{List, [], ◌∷◌, ◌++◌}
use lib.ListN.{get_or}
use lib.Dec.{leb, ltb}
use lib.IntN.{ℤ, pos, negsuc}
use lib.Ieee.{Float, binary64, to_bits}
use borrow.Author.Tests.{leb-true}
use Rattle.numerals.specs.digits.Decimal.{AllDigits, digits_of}
use Rattle.numerals.proofs.digits.Decimal.{digits-all}
use Rattle.numerals.specs.digits.Hexadecimal.{hex_digit, hex_digits, hex16}
use Rattle.reasons.specs.declared.sentences.Named.{Named}
use Rattle.reasons.specs.declared.sentences.Named.TheVariants.{NoField, Year, Month, Day, Hour, Minute, Second, Sum, Fraction, Nanos, FirstPart}
use Rattle.reasons.specs.declared.sentences.Named.TheVariants.{SecondPart, Offset, SecondSize, Size, WholeLength}
use Rattle.reasons.specs.declared.sentences.Reason.{Reason}
use Rattle.reasons.specs.sentences.Texts.{ascii_bytes, texts, fixed_text}
use Rattle.reasons.specs.sentences.Render.{signed_digits, float_digits, named_text, render}
use Rattle.stamps.specs.reason_laws.Printable.{Printable}

-- ---- printable
pub printable_append : (a b : List ℕ) → Printable a → Printable b → Printable (a ++ b)
unfolding Printable
printable_append [] b p q = q
printable_append (c ∷ cs) b p q = (p.0, p.1, printable_append cs b p.2 q)

printable_test : List ℕ → Bool
printable_test [] = true
printable_test (c ∷ cs) = (leb 32 c && leb c 126) && printable_test cs

by-test : (cs : List ℕ) → printable_test cs ≡ true → Printable cs
unfolding Printable printable_test
by-test [] e = tt
by-test (c ∷ cs) e =
    let k = (and-eq-true_iff (leb 32 c && leb c 126) (printable_test cs)).0 e in
    let j = (and-eq-true_iff (leb 32 c) (leb c 126)).0 k.0 in
    (leb-true 32 c j.0, leb-true c 126 j.1, by-test cs k.1)

digits-printable : (cs : List ℕ) → AllDigits cs → Printable cs
unfolding Printable AllDigits
digits-printable [] h = tt
digits-printable (c ∷ cs) h =
    let l : 48 ≤ c = h.0 in
    let u : c ≤ 57 = h.1 in
    (omega arith, omega arith, digits-printable cs h.2)

hex-digit : (d : ℕ) → d < 16 → Printable (hex_digit d ∷ [])
unfolding Printable hex_digit
hex-digit d h = go (ltb d 10)
  where
    go : (b : Bool) → (32 ≤ cond b (48 + d) (87 + d)) × (cond b (48 + d) (87 + d) ≤ 126) × Printable []
    go true = (omega arith, omega arith, tt)
    go false = (omega arith, omega arith, tt)

hex_printable : (k n : ℕ) → Printable (hex_digits k n)
unfolding Printable hex_digits
hex_printable zero n = tt
hex_printable (suc k) n = printable_append (hex_digits k (n / 16)) (hex_digit (n % 16) ∷ []) (hex_printable k (n / 16)) (hex-digit (n % 16) (omega arith))

float-printable : (x : Float) → Printable (float_digits x)
unfolding hex16
float-printable x = hex_printable 16 (to_bits binary64 x)

signed-printable : (z : ℤ) → Printable (signed_digits z)
unfolding Printable signed_digits
signed-printable (pos n) = digits-printable (digits_of n) (digits-all n)
signed-printable (negsuc n) = (omega arith, omega arith, digits-printable (digits_of (suc n)) (digits-all (suc n)))

-- every text, by a computed test
texts_test : List (List ℕ) → Bool
texts_test [] = true
texts_test (t ∷ ts) = printable_test t && texts_test ts

each-text : (ts : List (List ℕ)) → texts_test ts ≡ true → (k : ℕ) → Printable (get_or ts k [])
unfolding texts_test Printable
each-text [] e k = tt
each-text (t ∷ ts) e zero = by-test t ((and-eq-true_iff (printable_test t) (texts_test ts)).0 e).0
each-text (t ∷ ts) e (suc k) = each-text ts ((and-eq-true_iff (printable_test t) (texts_test ts)).0 e).1 k

pub text-printable : (k : ℕ) → Printable (fixed_text k)
unfolding fixed_text texts_test texts printable_test
text-printable k = each-text texts refl k

word_printable : (w d : List ℕ) → printable_test w ≡ true → Printable d → Printable (w ++ d)
word_printable w d e p = printable_append w d (by-test w e) p

pub named-printable : (f : Named) → Printable (named_text f)
unfolding named_text Printable printable_test
named-printable NoField = tt
named-printable (Year n) = word_printable (ascii_bytes ": year ") (signed_digits n) refl (signed-printable n)
named-printable (Month n) = word_printable (ascii_bytes ": month ") (signed_digits n) refl (signed-printable n)
named-printable (Day n) = word_printable (ascii_bytes ": day ") (signed_digits n) refl (signed-printable n)
named-printable (Hour n) = word_printable (ascii_bytes ": hour ") (digits_of n) refl (digits-printable (digits_of n) (digits-all n))
named-printable (Minute n) = word_printable (ascii_bytes ": minute ") (digits_of n) refl (digits-printable (digits_of n) (digits-all n))
named-printable (Second x) = word_printable (ascii_bytes ": seconds ") (float_digits x) refl (float-printable x)
named-printable (Sum x) = word_printable (ascii_bytes ": sum ") (float_digits x) refl (float-printable x)
named-printable (Fraction x) = word_printable (ascii_bytes ": fraction ") (float_digits x) refl (float-printable x)
named-printable (Nanos n) = word_printable (ascii_bytes ": nanoseconds ") (digits_of n) refl (digits-printable (digits_of n) (digits-all n))
named-printable (FirstPart x) = word_printable (ascii_bytes ": jd1 ") (float_digits x) refl (float-printable x)
named-printable (SecondPart x) = word_printable (ascii_bytes ": jd2 ") (float_digits x) refl (float-printable x)
named-printable (Offset x) = word_printable (ascii_bytes ": offset ") (float_digits x) refl (float-printable x)
named-printable (SecondSize n) = word_printable (ascii_bytes ": second size ") (digits_of n) refl (digits-printable (digits_of n) (digits-all n))
named-printable (Size n) = word_printable (ascii_bytes ": size ") (digits_of n) refl (digits-printable (digits_of n) (digits-all n))
named-printable (WholeLength n) = word_printable (ascii_bytes ": length ") (digits_of n) refl (digits-printable (digits_of n) (digits-all n))

-- every sentence, of any reason
pub sentence-printable : (r : Reason) → Printable (render r)
unfolding render
sentence-printable r = printable_append (fixed_text r.number) (named_text r.named) (text-printable r.number) (named-printable r.named)
