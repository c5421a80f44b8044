-- A code is the one that the outcome names, and what was put is delivered; an outcome handed on keeps both. Assumes nothing.
use Prim.Native.Nat.{ℕ, zero, suc, ◌-◌, ◌<◌, ◌≤◌, ◌^◌}
use native.Mathlib.Omega.{arith}
use mathlib.Core.Path.{◌≡◌, refl, sym, ap, subst, ◌∙◌}
use mathlib.Core.List.{List, ◌++◌}
use lib.ListN.{length, take, drop}
use lib.Seq.{take-length}
use lib.IntN.{ℤ, pos, negsuc, neg_ℤ, ◌-ℤ◌}
use lib.Signed.{mag}
use mir.Syntax.{w32, w64}
use mir.Val.{Fits, SFits, to_z, of_z}
use mir.Facts.{to_z-of_z, to_z_pos}
use borrow.Author.Tests.{lt-ltb, le-leb, lt-leb}
use Rattle.refusals.specs.declared.Refusal.TheVariants as R
use Rattle.refusals.specs.Refusal.{refusal_number}
use Rattle.refusals.specs.Outcome.{Outcome, answer, refusal, onward}
use Rattle.utc.specs.text.Answer.{text_written, buffer_after}
use Rattle.utc.specs.iso_texts.TextCall.{written, buffer_holds}
use Rattle.c_answers.specs.Delivery.{code, done, in_bytes, Delivered}

-- ---- a refusal's code: 0 less its number
minus : (k : ℕ) → pos 0 -ℤ pos k ≡ neg_ℤ (pos k)
minus zero = refl
minus (suc k) = simp (lt-ltb 0 (suc k) (positive k)) (ap negsuc (one_less k))
  where
    positive : (k : ℕ) → 0 < suc k
    positive k = omega arith

    one_less : (k : ℕ) → suc k - 1 ≡ k
    one_less k = omega arith

negative_fits : (k : ℕ) → Fits w32 k → SFits w64 (neg_ℤ (pos k))
negative_fits zero f = record { sfits = omega arith }
negative_fits (suc k) f = record { sfits = omega (arith, f.fits) }

module _ (k : ℕ) (f : Fits w32 k) where
  less : pos 0 -ℤ to_z w64 k ≡ neg_ℤ (pos k)
  less = ap (λ (z : ℤ). pos 0 -ℤ z) (to_z_pos w64 {n = k} (omega (arith, f.fits))) ∙ minus k

  pub minus-fits : SFits w64 (pos 0 -ℤ to_z w64 k)
  minus-fits = subst (SFits w64) (sym less) (negative_fits k f)

  pub minus_is : to_z w64 (of_z w64 (pos 0 -ℤ to_z w64 k)) ≡ code (refusal k)
  unfolding code
  minus_is = to_z-of_z {w = w64} minus-fits ∙ less

-- ---- bytes put into a buffer
pub too_short : (t l : List ℕ) (r : ℤ) → length l < length t → r ≡ code (refusal (refusal_number R.NoRoom)) → Delivered (answer t) l r l
unfolding written onward text_written buffer_holds buffer_after refusal_number
too_short t l r h e =
    let w : written (answer t) (length l) ≡ refusal 11 = simp (lt-leb _ _ h) in
    record { returned = e ∙ sym (ap code w); holds = simp (lt-leb _ _ h) }

-- after the copy of n bytes, all that t has
pub copied : (t l out : List ℕ) (n : ℕ) → n ≡ length t → length t ≤ 64 → out ≡ take (length t) t ++ drop (length t) l → length t ≤ length l
    → Delivered (answer t) l (to_z w64 n) out
unfolding written onward text_written buffer_holds buffer_after code
copied t l out n e few eo h =
    let w : written (answer t) (length l) ≡ answer (length t) = simp (le-leb _ _ h) in
    record {
      returned = to_z_pos w64 {n = n} (omega arith) ∙ ap pos e ∙ sym (ap code w);
      holds = eo ∙ ap (λ (x : List ℕ). x ++ drop (length t) l) (take-length t) ∙ simp (le-leb _ _ h);
    }

-- ---- an outcome handed on: the code of the call below is read back from its bits
pub code-back : {r : ℤ} → mag r < 2 ^ 63 → to_z w64 (of_z w64 r) ≡ r
code-back {r} ok = to_z-of_z {w = w64} {z = r} (record { sfits = ok })

-- the refusal of what does not fit
pub no_room : (t : List ℕ) {l : List ℕ} {r : ℤ} → mag r < 2 ^ 63 → length l < length t → r ≡ code (refusal (refusal_number R.NoRoom))
    → Delivered (answer t) l (to_z w64 (of_z w64 r)) l
no_room t {l} ok h e = too_short t l _ h (code-back ok ∙ e)

back : {o : Outcome (List ℕ)} {l out : List ℕ} {r : ℤ} → mag r < 2 ^ 63 → Delivered o l r out → Delivered o l (to_z w64 (of_z w64 r)) out
back {o} {l} {out} ok p = subst (λ (x : ℤ). Delivered o l x out) (sym (code-back ok)) p

pub same_bytes : {s t l out : List ℕ} {r : ℤ} → mag r < 2 ^ 63 → s ≡ t → Delivered (answer s) l r out → Delivered (answer t) l (to_z w64 (of_z w64 r)) out
same_bytes {s} {t} {l} {out} {r} ok e p = back ok (subst (λ (x : List ℕ). Delivered (answer x) l r out) e p)

module _ {A : Type 0} (bytes : A → List ℕ) {r : ℤ} (ok : mag r < 2 ^ 63) where
  pub delivered_answer : {o : Outcome A} {l out : List ℕ} (a : A) → o ≡ answer a → Delivered (answer (bytes a)) l r out
      → Delivered (in_bytes bytes o) l (to_z w64 (of_z w64 r)) out
  unfolding in_bytes onward
  delivered_answer {o} {l} {out} a e p = back ok (subst (λ (x : Outcome A). Delivered (in_bytes bytes x) l r out) (sym e) p)

  pub refused-on : {o : Outcome A} {l : List ℕ} (k : ℕ) → o ≡ refusal k → r ≡ code (refusal k) → Delivered (in_bytes bytes o) l (to_z w64 (of_z w64 r)) l
  unfolding in_bytes onward written buffer_holds
  refused-on {o} {l} k e c = back ok (subst (λ (x : Outcome A). Delivered (in_bytes bytes x) l r l) (sym e) (record { returned = c; holds = refl }))

  pub same_outcome : {o o' : Outcome A} {l out : List ℕ} → o ≡ o' → Delivered (in_bytes bytes o) l r out
      → Delivered (in_bytes bytes o') l (to_z w64 (of_z w64 r)) out
  same_outcome {o} {o'} {l} {out} e p = back ok (subst (λ (x : Outcome A). Delivered (in_bytes bytes x) l r out) e p)

-- ---- a call that answers nothing but that it refuses nothing
pub nothing-refused : {o : Outcome Unit} → o ≡ answer tt → pos 0 ≡ code (done o)
unfolding code done onward
nothing-refused e = sym (ap (λ (x : Outcome Unit). code (done x)) e)

pub some-refused : {o : Outcome Unit} {r : ℤ} (k : ℕ) → mag r < 2 ^ 63 → o ≡ refusal k → r ≡ code (refusal k) → to_z w64 (of_z w64 r) ≡ code (done o)
unfolding done onward
some-refused k ok e c = code-back ok ∙ c ∙ sym (ap (λ (x : Outcome Unit). code (done x)) e)
