-- A text call is delivered: the code is its answer's, and the buffer is the one that it left. Assumes nothing.
use Prim.Native.Nat.{ℕ, ◌≤◌, ◌<◌, ◌^◌}
use native.Mathlib.Omega.{arith}
use mathlib.Core.Path.{◌≡◌, sym, ap, subst, ◌∙◌}
use mathlib.Core.Bool.{Bool, true, false, cond}
use mathlib.Core.List.{List}
use lib.ListN.{length}
use lib.Dec.{leb}
use lib.IntN.{ℤ}
use lib.Signed.{mag}
use mir.Syntax.{w64}
use mir.Val.{to_z, of_z}
use mir.Facts.{to_z_pos}
use borrow.Author.Tests.{leb-true}
use Rattle.std.specs.Prelude.{Result, Ok, Err}
use Rattle.refusals.specs.declared.Refusal.{Refusal}
use Rattle.refusals.specs.Refusal.{refusal_number}
use Rattle.refusals.specs.Outcome.{Outcome, answer, refusal, onward}
use Rattle.refusals.proofs.Handed.{answered, handed}
use Rattle.utc.specs.text.Answer.{text_written}
use Rattle.utc.specs.iso_texts.TextCall.{written, TextCall}
use Rattle.c_answers.specs.Delivery.{code, Delivered}
use Rattle.c_answers.proofs.Deliveries.{code-back}

-- no more bytes than the buffer has
fits_in : (o : Outcome (List ℕ)) (m n : ℕ) → written o m ≡ answer n → n ≤ m
unfolding written onward text_written
fits_in (refusal k) m n e = absurd (let z : ◌≡◌ {A = ℕ} 0 1 = cc in let no : ⊥ = omega arith in no)
fits_in (answer t) m n e = go (leb (length t) m) (leb-true (length t) m) e
  where
    go : (b : Bool) → (b ≡ true → length t ≤ m) → cond b (answer (length t)) (refusal 11) ≡ answer n → n ≤ m
    go true h p = let z : length t ≡ n = cc in omega (arith, h refl_true)
      where
        refl_true : true ≡ true
        refl_true = cc
    go false h p = absurd (let z : ◌≡◌ {A = ℕ} 0 1 = cc in let no : ⊥ = omega arith in no)

module _ {o : Outcome (List ℕ)} {l out : List ℕ} {res : Result ℕ Refusal} (p : TextCall o l res out) where
  pub text-count : (n : ℕ) → res ≡ Ok n → n ≤ length l
  text-count n i = fits_in o (length l) n (sym p.says ∙ answered i)

  pub text-put : (n : ℕ) → res ≡ Ok n → n < 2 ^ 63 → Delivered o l (to_z w64 n) out
  unfolding code
  text-put n i h = record { returned = to_z_pos w64 {n = n} h ∙ ap code (sym (answered i) ∙ p.says); holds = p.holds }

  pub text_refused : {r : ℤ} (k : Refusal) → mag r < 2 ^ 63 → res ≡ Err k → r ≡ code (refusal (refusal_number k)) → Delivered o l (to_z w64 (of_z w64 r)) out
  text_refused k ok i e = record { returned = code-back ok ∙ e ∙ ap code (sym (handed i) ∙ p.says); holds = p.holds }

-- handed on by another call
pub delivered_on : {o o' : Outcome (List ℕ)} {l out : List ℕ} {r : ℤ} → mag r < 2 ^ 63 → o ≡ o' → Delivered o l r out → Delivered o' l
    (to_z w64 (of_z w64 r)) out
delivered_on {o} {o'} {l} {out} {r} ok e p = record { returned = code-back ok ∙ moved.returned; holds = moved.holds }
  where
    moved : Delivered o' l r out
    moved = subst (λ (x : Outcome (List ℕ)). Delivered x l r out) e p
