-- Ticks that were placed are delivered. Assumes nothing.
use Prim.Native.Nat.{ℕ, ◌≤◌, ◌<◌, ◌^◌}
use native.Mathlib.Omega.{arith}
use mathlib.Core.Path.{◌≡◌, refl, sym, ap, ◌∙◌}
use mathlib.Core.List.{List}
use lib.ListN.{length}
use lib.IntN.{ℤ, pos}
use lib.Signed.{mag}
use mir.Syntax.{w64}
use mir.Val.{to_z, of_z}
use mir.Facts.{to_z_pos}
use borrow.Author.Tests.{le-leb}
use Rattle.std.specs.Prelude.{Result, Ok, Err}
use Rattle.refusals.specs.Refusal.{refusal_number}
use Rattle.refusals.specs.declared.Refusal.{Refusal}
use Rattle.refusals.specs.Outcome.{Outcome, answer, refusal, onward, outcome}
use Rattle.utc.specs.text.Answer.{text_written, buffer_after}
use Rattle.utc.specs.iso_texts.TextCall.{written, buffer_holds}
use Rattle.ticks.specs.Ticks.{lent_after, TicksCall}
use Rattle.c_answers.specs.Delivery.{code, Delivered}
use Rattle.c_answers.proofs.Deliveries.{code-back}

-- as many bytes as the answer has
count-is : (b l out : List ℕ) (res : Result ℕ Refusal) → TicksCall (answer b) l res out → (n : ℕ) → res ≡ Ok n → n ≡ length b
unfolding outcome onward
count-is b l out res p n i =
    let e : answer n ≡ answer (length b) = sym (ap outcome i) ∙ p.says in
    cc

none_written : (k : ℕ) (l out : List ℕ) (res : Result ℕ Refusal) → TicksCall (refusal k) l res out → (n : ℕ) → res ≡ Ok n → ⊥
unfolding outcome onward
none_written k l out res p n i =
    let e : answer n ≡ refusal k = sym (ap outcome i) ∙ p.says in
    let z : ◌≡◌ {A = ℕ} 0 1 = cc in
    omega arith

none-refused : (b l out : List ℕ) (res : Result ℕ Refusal) → TicksCall (answer b) l res out → (n : Refusal) → res ≡ Err n → ⊥
unfolding outcome onward
none-refused b l out res p n i =
    let e : refusal (refusal_number n) ≡ answer (length b) = sym (ap outcome i) ∙ p.says in
    let z : ◌≡◌ {A = ℕ} 0 1 = cc in
    omega arith

same-refusal : (k : ℕ) (l out : List ℕ) (res : Result ℕ Refusal) → TicksCall (refusal k) l res out → (n : Refusal) → res ≡ Err n → refusal_number n ≡ k
unfolding outcome onward
same-refusal k l out res p n i =
    let e : ◌≡◌ {A = Outcome ℕ} (refusal (refusal_number n)) (refusal k) = sym (ap outcome i) ∙ p.says in
    cc

pub ticks-count : (o : Outcome (List ℕ)) (l out : List ℕ) (res : Result ℕ Refusal) → ((b : List ℕ) → o ≡ answer b → length b ≤ length l) → TicksCall o l res out
    → (n : ℕ) → res ≡ Ok n → n ≤ length l
ticks-count (answer b) l out res fits p n i = omega (arith, count-is b l out res p n i, fits b refl)
ticks-count (refusal k) l out res fits p n i = absurd (none_written k l out res p n i)

pub ticks-put : (o : Outcome (List ℕ)) (l out : List ℕ) (res : Result ℕ Refusal) → ((b : List ℕ) → o ≡ answer b → length b ≤ length l) → TicksCall o l res out
    → (n : ℕ) → res ≡ Ok n → n < 2 ^ 63 → Delivered o l (to_z w64 n) out
unfolding written onward buffer_holds text_written buffer_after code lent_after
ticks-put (answer b) l out res fits p n i h =
    let w : written (answer b) (length l) ≡ answer (length b) = simp (le-leb (length b) (length l) (fits b refl)) in
    record {
      returned = to_z_pos w64 {n = n} h ∙ ap pos (count-is b l out res p n i) ∙ sym (ap code w);
      holds = p.holds ∙ simp (le-leb (length b) (length l) (fits b refl));
    }
ticks-put (refusal k) l out res fits p n i h = absurd (none_written k l out res p n i)

pub ticks-refused : (o : Outcome (List ℕ)) (l out : List ℕ) (res : Result ℕ Refusal) → TicksCall o l res out → {r : ℤ} (n : Refusal) → mag r < 2 ^ 63
    → res ≡ Err n
    → r ≡ code (refusal (refusal_number n)) → Delivered o l (to_z w64 (of_z w64 r)) out
unfolding written onward buffer_holds lent_after
ticks-refused (answer b) l out res p n ok i e = absurd (none-refused b l out res p n i)
ticks-refused (refusal k) l out res p n ok i e =
    record { returned = code-back ok ∙ e ∙ ap (λ (x : ℕ). code (refusal x)) (same-refusal k l out res p n i); holds = p.holds }
