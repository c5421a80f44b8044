-- DEMAND 3, first half: all divisions of one date on the grid are alike in UTC text. And what demand 3 says of a call with a buffer. Assumes nothing.
use mathlib.Core.Path.{◌≡◌, refl, sym, ap, ◌∙◌, subst}
use mathlib.Core.Bool.{Bool, true, false, cond}
use mathlib.Core.List.{List, ◌++◌}
use Prim.Native.Nat.{ℕ}
use native.Mathlib.Omega.{arith}
use lib.Dec.{T, leb}
use lib.IntN.{ℤ}
use lib.ListN.{length, take, drop}
use lib.Seq.{take_at, drop_at}
use lib.Ieee.{Float, binary64, fits}
use Rattle.std.specs.Prelude.{Result, Ok, Err}
use Rattle.refusals.specs.Refusal.{refusal_number}
use Rattle.refusals.specs.declared.Refusal.{Refusal}
use Rattle.refusals.specs.Outcome.{Outcome, answer, refusal, onward, outcome}
use Rattle.julian.specs.day_number.ExactDay.{OnGrid, grid_sum}
use Rattle.julian.specs.declared.CalendarFields.{CalendarFields}
use Rattle.julian.specs.JulianDate.{julian}
use Rattle.julian.proofs.laws.CalendarDays.{one-outcome}
use Rattle.leap_table.specs.rows.Table.{Row}
use Rattle.utc.specs.text.Answer.{text_written, buffer_after}
use Rattle.utc.specs.iso_texts.TextForm.{TextForm}
use Rattle.utc.specs.iso_texts.IsoText.{day_text_by, iso_text_by, iso_text, standard_form}
use Rattle.utc.specs.iso_texts.TextCall.{written, buffer_holds, TextCall, Alike}
use Rattle.utc.specs.laws.Shows.{Promise, too_early, TextDemand}
use Rattle.utc.proofs.laws.Refusals.{same_refusal}

-- ---- one text, or one refusal, for all divisions
pub one-text : (textForm : TextForm) (rows : List Row) (x y x' y' : Float) → T (fits binary64 x) → T (fits binary64 y) → T (fits binary64 x')
    → T (fits binary64 y') → (a : OnGrid x) (b : OnGrid y) (a' : OnGrid x') (b' : OnGrid y')
    → grid_sum a b ≡ grid_sum a' b' → iso_text_by textForm rows (julian x y) ≡ iso_text_by textForm rows (julian x' y')
unfolding iso_text_by
one-text textForm rows x y x' y' fx fy fx' fy' a b a' b' e =
    ap (λ (o : Outcome CalendarFields). onward o (λ c. day_text_by textForm rows c.date c.fraction)) (one-outcome x y x' y' fx fy fx' fy' a b a' b' e)

-- ---- a call, by its outcome
same_answer : (r s : Result ℕ Refusal) → outcome r ≡ outcome s → r ≡ s
unfolding outcome
same_answer (Ok m) (Ok n) e = ap Ok (let p : m ≡ n = cc in p)
same_answer (Ok m) (Err n) e = cc
same_answer (Err m) (Ok n) e = cc
same_answer (Err m) (Err n) e = ap Err (same_refusal m n (let p : refusal_number m ≡ refusal_number n = cc in p))

-- where n bytes are written they are the text, and the rest of the buffer stays
module _ (o : Outcome (List ℕ)) (l out : List ℕ) (n : ℕ) (c : TextCall o l (Ok n) out) where
  pub text-put : (t : List ℕ) × (o ≡ answer t) × (n ≡ length t) × (out ≡ t ++ drop (length t) l)
  unfolding outcome written buffer_holds text_written buffer_after onward
  text-put = go o refl c.says c.holds
    where
      fits_in : (t : List ℕ) (b : Bool) → o ≡ answer t → answer n ≡ cond b (answer (length t)) (refusal 11) → out ≡ cond b (t ++ drop (length t) l) l
          → (s : List ℕ) × (o ≡ answer s) × (n ≡ length s) × (out ≡ s ++ drop (length s) l)
      fits_in t true p e q = (t, p, (let k : n ≡ length t = cc in k), q)
      fits_in t false p e q = let z : ◌≡◌ {A = ℕ} 0 1 = cc in absurd (omega arith)

      go : (x : Outcome (List ℕ)) → o ≡ x → answer n ≡ onward x (λ t. text_written t (length l)) → out ≡ buffer_holds x l → (s : List ℕ) × (o ≡ answer s)
          × (n ≡ length s) × (out ≡ s ++ drop (length s) l)
      go (answer t) p e q = fits_in t (leb (length t) (length l)) p e q
      go (refusal k) p e q = let z : ◌≡◌ {A = ℕ} 0 1 = cc in absurd (omega arith)

-- A REFUSED CALL changes no byte of its buffer
pub nothing_written : (o : Outcome (List ℕ)) (l out : List ℕ) (k : Refusal) → TextCall o l (Err k) out → out ≡ l
unfolding outcome written buffer_holds text_written buffer_after onward
nothing_written o l out k c = go o c.says c.holds
  where
    longer : (t : List ℕ) (b : Bool) → refusal (refusal_number k) ≡ cond b (answer (length t)) (refusal 11) → out ≡ cond b (t ++ drop (length t) l) l → out ≡ l
    longer t true e q = let z : ◌≡◌ {A = ℕ} 0 1 = cc in absurd (omega arith)
    longer t false e q = q

    go : (x : Outcome (List ℕ)) → refusal (refusal_number k) ≡ onward x (λ t. text_written t (length l)) → out ≡ buffer_holds x l → out ≡ l
    go (answer t) e q = longer t (leb (length t) (length l)) e q
    go (refusal j) e q = q

-- ---- two calls for one text, with buffers of one length
pub alike : (o : Outcome (List ℕ)) (l out l' out' : List ℕ) (r r' : Result ℕ Refusal) → length l ≡ length l' → TextCall o l r out → TextCall o l' r' out'
    → Alike l r out l' r' out'
alike o l out l' out' r r' e c c' = record {
  answers = one;
  bytes = λ n p. let (t, a, b, d) = text-put o l out n (subst (λ (s : Result ℕ Refusal). TextCall o l s out) p c) in let (t', a', b', d') =
      text-put o l' out' n (other (Ok n) p) in starts t t' n (drop (length t) l) (drop (length t') l') (same t t' a a') b d d';
  rest = λ n p. let (t, a, b, d) = text-put o l out n (subst (λ (s : Result ℕ Refusal). TextCall o l s out) p c) in let (t', a', b', d') =
      text-put o l' out' n (other (Ok n) p) in (ends t l out n b d, ends t' l' out' n b' d');
  refused = λ k p. (nothing_written o l out k (subst (λ (s : Result ℕ Refusal). TextCall o l s out) p c), nothing_written o l' out' k (other (Err k) p));
}
  where
    one : r ≡ r'
    one = same_answer r r' (c.says ∙ ap (written o) e ∙ sym c'.says)

    other : (s : Result ℕ Refusal) → r ≡ s → TextCall o l' s out'
    other s p = subst (λ (z : Result ℕ Refusal). TextCall o l' z out') (sym one ∙ p) c'

    same : (t t' : List ℕ) → o ≡ answer t → o ≡ answer t' → t ≡ t'
    same t t' p q = cc

    starts : (t t' : List ℕ) (n : ℕ) (u u' : List ℕ) → t ≡ t' → n ≡ length t → out ≡ t ++ u → out' ≡ t' ++ u' → take n out ≡ take n out'
    starts t t' n u u' p b d d' = ap (take n) d ∙ take_at t u n (sym b) ∙ p ∙ sym (ap (take n) d' ∙ take_at t' u' n (sym (b ∙ ap length p)))

    ends : (t x y : List ℕ) (n : ℕ) → n ≡ length t → y ≡ t ++ drop (length t) x → drop n y ≡ drop n x
    ends t x y n b d = ap (drop n) d ∙ drop_at t (drop (length t) x) n (sym b) ∙ ap (λ (k : ℕ). drop k x) (sym b)

-- ---- THE REFUSALS of a call, exactly: 1 where the year is before -4799, else 11 where the text is longer than the buffer, else none
module _ (p : Promise) (rows : List Row) (sum : ℤ) (o : Outcome (List ℕ)) (l out : List ℕ) (r : Result ℕ Refusal) (d : TextDemand p rows sum o)
    (c : TextCall o l r out) where
  pub exactly : outcome r ≡ cond (too_early sum) (refusal 1) (cond (leb (length d.text) (length l)) (answer (length d.text)) (refusal 11))
  unfolding written text_written onward
  exactly = c.says ∙ ap (λ (x : Outcome (List ℕ)). onward x (λ t. text_written t (length l))) d.is ∙ go (too_early sum)
    where
      go : (b : Bool) → onward (cond b (refusal 1) (answer d.text)) (λ t. text_written t (length l)) ≡ cond b (refusal 1)
          (cond (leb (length d.text) (length l)) (answer (length d.text)) (refusal 11))
      go true = refl
      go false = refl

  pub buffer : out ≡ cond (too_early sum) l (cond (leb (length d.text) (length l)) (d.text ++ drop (length d.text) l) l)
  unfolding buffer_holds buffer_after
  buffer = c.holds ∙ ap (λ (x : Outcome (List ℕ)). buffer_holds x l) d.is ∙ go (too_early sum)
    where
      go : (b : Bool) → buffer_holds (cond b (refusal 1) (answer d.text)) l ≡ cond b l
          (cond (leb (length d.text) (length l)) (d.text ++ drop (length d.text) l) l)
      go true = refl
      go false = refl

-- ---- DEMAND 3: all divisions of one date on the grid are alike in text for buffers of one length, in any form
module _ (textForm : TextForm) (rows : List Row) (x y x' y' : Float) (fx : T (fits binary64 x)) (fy : T (fits binary64 y)) (fx' : T (fits binary64 x'))
    (fy' : T (fits binary64 y'))
    (a : OnGrid x) (b : OnGrid y) (a' : OnGrid x') (b' : OnGrid y') (e : grid_sum a b ≡ grid_sum a' b') (l out l' out' : List ℕ) (r r' : Result ℕ Refusal)
    (h : length l ≡ length l') where
  pub divisions_alike_by : TextCall (iso_text_by textForm rows (julian x y)) l r out → TextCall (iso_text_by textForm rows (julian x' y')) l' r' out'
      → Alike l r out l' r' out'
  divisions_alike_by c c' =
      alike (iso_text_by textForm rows (julian x y)) l out l' out' r r' h c
      (subst (λ (o : Outcome (List ℕ)). TextCall o l' r' out') (sym (one-text textForm rows x y x' y' fx fy fx' fy' a b a' b' e)) c')

pub divisions_alike : (rows : List Row) (x y x' y' : Float) → T (fits binary64 x) → T (fits binary64 y) → T (fits binary64 x') → T (fits binary64 y')
    → (a : OnGrid x) (b : OnGrid y) (a' : OnGrid x') (b' : OnGrid y')
    → grid_sum a b ≡ grid_sum a' b' → (l out l' out' : List ℕ) (r r' : Result ℕ Refusal) → length l ≡ length l'
    → TextCall (iso_text rows (julian x y)) l r out → TextCall (iso_text rows (julian x' y')) l' r' out' → Alike l r out l' r' out'
divisions_alike = divisions_alike_by standard_form
