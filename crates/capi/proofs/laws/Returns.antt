-- What a C caller gets is what the call below gives: demand 3 of UTC text holds of the three text calls, and a negative return leaves the buffer. Assumes
-- nothing.
use Prim.Native.Nat.{ℕ, zero, suc}
use native.Mathlib.Omega.{arith}
use mathlib.Core.Path.{◌≡◌, refl, sym, ap, ◌∙◌}
use mathlib.Core.Bool.{Bool, true, false, cond}
use mathlib.Core.Logic.{◌⊎◌, inl, inr}
use mathlib.Core.List.{List, ◌++◌}
use lib.ListN.{length, drop}
use lib.Dec.{leb}
use lib.IntN.{ℤ, negsuc}
use Rattle.std.specs.Prelude.{Result, Ok, Err}
use Rattle.refusals.specs.Refusal.{refusal_number}
use Rattle.refusals.specs.declared.Refusal.{Refusal}
use Rattle.refusals.specs.declared.Refusal.TheVariants as R
use Rattle.refusals.specs.Outcome.{Outcome, answer, refusal, onward, outcome}
use Rattle.julian.specs.declared.JulianDate.{JulianDate}
use Rattle.leap_table.specs.rows.Table.{Row}
use Rattle.utc.specs.text.Answer.{text_written, buffer_after}
use Rattle.utc.specs.iso_texts.TextForm.{TextForm}
use Rattle.utc.specs.iso_texts.IsoText.{iso_text_by}
use Rattle.utc.specs.laws.OneText.{Division, EveryCall}
use Rattle.utc.specs.iso_texts.TextCall.{written, buffer_holds, TextCall}
use Rattle.utc.proofs.laws.Numbers.{text-numbers-by}
use Rattle.c_answers.specs.Delivery.{code, Delivered}

-- ---- a delivery is a text call with this answer, whose code is returned: what `TextCall` says of a `Result`, said of any outcome
pub text-call : {o : Outcome (List ℕ)} {l out : List ℕ} {r : ℤ} → Delivered o l r out
    → (a : Outcome ℕ) × (a ≡ written o (length l)) × (out ≡ buffer_holds o l) × (r ≡ code a)
text-call {o} {l} p = (written o (length l), refl, p.holds, p.returned)

-- ---- what a call with room for m bytes answers, where each number that is refused is a refusal's
answer_of : (o : Outcome (List ℕ)) (m : ℕ) → ((k : ℕ) → o ≡ refusal k → (c : Refusal) × (refusal_number c ≡ k))
    → (a : Result ℕ Refusal) × (outcome a ≡ written o m)
unfolding outcome written onward text_written refusal_number
answer_of (refusal k) m f = let (c, e) = f k refl in (Err c, ap (λ (n : ℕ). refusal n) e)
answer_of (answer t) m f = go (leb (length t) m)
  where
    go : (b : Bool) → (a : Result ℕ Refusal) × (outcome a ≡ cond b (answer (length t)) (refusal 11))
    go true = (Ok (length t), refl)
    go false = (Err R.NoRoom, refl)

-- and such a delivery is a text call with an answer of that type
pub text-answered : {o : Outcome (List ℕ)} {l out : List ℕ} {r : ℤ} → ((k : ℕ) → o ≡ refusal k → (c : Refusal) × (refusal_number c ≡ k))
    → Delivered o l r out → (a : Result ℕ Refusal) × TextCall o l a out × (r ≡ code (outcome a))
text-answered {o} {l} {out} {r} f p =
    let (a, e) = answer_of o (length l) f in (a, record { says = e; holds = p.holds }, p.returned ∙ ap code (sym e))

-- a text is refused by 6 or 1 alone
of_text : (textForm : TextForm) (rows : List Row) (jd : JulianDate) (k : ℕ) → iso_text_by textForm rows jd ≡ refusal k
    → (c : Refusal) × (refusal_number c ≡ k)
unfolding refusal_number
of_text textForm rows jd k e = go (text-numbers-by textForm rows jd k e)
  where
    go : (k ≡ 6) ⊎ (k ≡ 1) → (c : Refusal) × (refusal_number c ≡ k)
    go (inl p) = (R.DateOutOfRange, sym p)
    go (inr p) = (R.YearBeforeFirst, sym p)

-- so what holds of every call for the text of a date holds of every call from C: with utc's `text-for-every-buffer`, DEMAND 3
pub every_return : (textForm : TextForm) (rows : List Row) (sum : ℤ) (P : List ℕ → Result ℕ Refusal → List ℕ → Type 0) → EveryCall textForm rows sum P
    → (jd : JulianDate) → Division sum jd → (l out : List ℕ) (r : ℤ) → Delivered (iso_text_by textForm rows jd) l r out
    → (a : Result ℕ Refusal) × P l a out × (r ≡ code (outcome a))
every_return textForm rows sum P f jd d l out r p = let (a, c, e) = text-answered (of_text textForm rows jd) p in (a, f jd d l a out c, e)

-- ---- a negative return is a refusal's number, and leaves the buffer
pub negative-number : {o : Outcome (List ℕ)} {l out : List ℕ} {m : ℕ} → Delivered o l (negsuc m) out → written o (length l) ≡ refusal (suc m)
unfolding code
negative-number {o} {l} {out} {m} p = go (written o (length l)) p.returned
  where
    go : (w : Outcome ℕ) → negsuc m ≡ code w → w ≡ refusal (suc m)
    go (answer n) e = let z : ◌≡◌ {A = ℕ} 0 1 = cc in absurd (omega arith)
    go (refusal zero) e = let z : ◌≡◌ {A = ℕ} 0 1 = cc in absurd (omega arith)
    go (refusal (suc k)) e = cc

pub negative-leaves : {o : Outcome (List ℕ)} {l out : List ℕ} {m : ℕ} → Delivered o l (negsuc m) out → out ≡ l
unfolding code written buffer_holds onward text_written buffer_after
negative-leaves {o} {l} {out} {m} p = p.holds ∙ go o p.returned
  where
    fits : (t : List ℕ) (b : Bool) → negsuc m ≡ code (cond b (answer (length t)) (refusal 11)) → cond b (t ++ drop (length t) l) l ≡ l
    fits t true e = let z : ◌≡◌ {A = ℕ} 0 1 = cc in absurd (omega arith)
    fits t false e = refl

    go : (o : Outcome (List ℕ)) → negsuc m ≡ code (written o (length l)) → buffer_holds o l ≡ l
    go (answer t) e = fits t (leb (length t) (length l)) e
    go (refusal k) e = refl
