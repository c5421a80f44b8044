-- What a line is put together from: an index in decimal, a text that was written or a refusal, one after the other. Assumes nothing.
use mathlib.Core.Path.{◌≡◌, refl, sym, ap, ◌∙◌, subst}
use mathlib.Core.Bool.{Bool, true, false, cond}
use mathlib.Core.List.{List, ◌++◌}
use mathlib.Core.Logic.{◌⊎◌, inl, inr}
use Prim.Native.Nat.{ℕ, ◌≤◌, ◌<◌}
use native.Mathlib.Nat.{zero-add}
use native.Mathlib.Omega.{arith}
use lib.Dec.{leb}
use lib.ListN.{length, take, drop, length-append}
use lib.Seq.{length-take-le}
use borrow.Author.Tests.{le-leb, lt-leb}
use Rattle.std.specs.Prelude.{Result, Ok, Err}
use Rattle.refusals.specs.Refusal.{refusal_number}
use Rattle.refusals.specs.declared.Refusal.{Refusal}
use Rattle.refusals.specs.declared.Refusal.TheVariants as R
use Rattle.refusals.specs.Outcome.{Outcome, answer, refusal, onward, outcome}
use Rattle.julian.specs.declared.JulianDate.{JulianDate}
use Rattle.leap_table.specs.rows.Table.{Row}
use Rattle.utc.specs.text.Answer.{text_written, buffer_after}
use Rattle.utc.specs.iso_texts.TextCall.{written, buffer_holds, TextCall}
use Rattle.utc.specs.iso_texts.Expanded.{iso_text_expanded}
use Rattle.utc.specs.iso_texts.ByRule.{expanded_by_rule, TextRuleCall}
use Rattle.utc.proofs.iso_texts.TextRules.{rule-call-forgets, expanded-forgets}
use Rattle.leap_table.specs.declared.offsets.Rule.{Rule}
use Rattle.leap_table.specs.offsets.Rule.{forget}
use Rattle.utc.proofs.laws.ExpandedTexts.{expanded-text-length}
use Rattle.parsing.specs.declared.ParsedUtc.{ParsedUtc}
use Rattle.parsing.specs.Parsed.{parsed_utc}
use Rattle.numerals.specs.digits.Placed.{pasted, Placed, Placing}
use Rattle.numerals.proofs.digits.Places.{then}
use Rattle.reasons.proofs.sentences.Placing.{placed-length, decimal-placed}
use Rattle.readings.specs.Reading.{reading, reading_words, LineCall}

-- ---- the index and the blank, at the start of a buffer with room for a line
pub index_put : {d s d' t d'' : List ℕ} {r r2 : ℕ} → Placing d 0 s r d' → length s ≤ 20 → Placing d' r t r2 d'' → length t ≤ 1 → 50 ≤ length d
    → (Placed d 0 (s ++ t) r2 d'') × (r2 ≤ 21) × (length d'' ≡ length d)
index_put index few blank one room =
    let p = decimal-placed index few (omega arith) in
    let m = placed-length p.0 (omega arith) in
    let q = blank.written (omega arith) in
    let n = placed-length q (omega arith) in
    (then p.0 q (omega arith), omega arith, omega arith)

-- ---- what the text call answered
abbrev Short : Outcome (List ℕ) → Type 0
Short o = (t : List ℕ) → o ≡ answer t → length t ≤ 27

short : (rows : List Row) (jd : JulianDate) → Short (iso_text_expanded rows jd)
short rows jd t e = of (expanded-text-length rows jd t e)
  where
    of : (length t ≡ 23) ⊎ (length t ≡ 27) → length t ≤ 27
    of (inl h) = omega arith
    of (inr h) = omega arith

written-by : (t p : List ℕ) (n : ℕ) (b : Bool) → cond b (answer (length t)) (refusal 11) ≡ answer n → (n ≡ length t)
    × (cond b (t ++ drop (length t) p) p ≡ t ++ drop (length t) p)
written-by t p n true e = (cc, refl)
written-by t p n false e = let z : ◌≡◌ {A = ℕ} 0 1 = cc in absurd (omega arith)

answer-written : (o : Outcome (List ℕ)) (p : List ℕ) (n : ℕ) → Short o → written o (length p) ≡ answer n
    → (n ≡ length (reading_words o)) × (buffer_holds o p ≡ reading_words o ++ drop (length (reading_words o)) p) × (n ≤ 27)
unfolding written buffer_holds reading_words onward text_written buffer_after
answer-written (answer t) p n s e = let w = written-by t p n (leb (length t) (length p)) e in let m = s t refl in (w.0, w.1, omega (arith, w.0))
answer-written (refusal k) p n s e = let z : ◌≡◌ {A = ℕ} 0 1 = cc in absurd (omega arith)

refused-by : (t : List ℕ) (p : List ℕ) (k : ℕ) → length t ≤ length p → text_written t (length p) ≡ refusal k → ⊥
unfolding text_written
refused-by t p k h e =
    let g : ◌≡◌ {A = Outcome ℕ} (answer (length t)) (refusal k) = simp (le-leb _ _ h) at e in
    let z : ◌≡◌ {A = ℕ} 0 1 = cc in omega arith

refusal-written : (o : Outcome (List ℕ)) (p : List ℕ) (k : ℕ) → Short o → 27 ≤ length p → written o (length p) ≡ refusal k → (o ≡ refusal k)
    × (buffer_holds o p ≡ p)
unfolding written buffer_holds onward
refusal-written (answer t) p k s h e = let m = s t refl in absurd (refused-by t p k (omega arith) e)
refusal-written (refusal j) p k s h e = let same : j ≡ k = cc in (ap refusal same, refl)

module _ (rows : List Row) (jd : JulianDate) {p ys : List ℕ} {res : Result (ℕ × Rule) Refusal} (call : TextRuleCall (expanded_by_rule rows jd) p res ys) where
  -- without the rule
  as_call : (t : Result ℕ Refusal) → outcome t ≡ forget (outcome res) → TextCall (iso_text_expanded rows jd) p t ys
  as_call t e = subst (λ (o : Outcome (List ℕ)). TextCall o p t ys) (expanded-forgets rows jd) (rule-call-forgets (expanded_by_rule rows jd) p ys res t e call)

  pub text-written : (n : ℕ) (rule : Rule) → res ≡ Ok (n, rule)
      → (n ≡ length (reading_words (iso_text_expanded rows jd)))
      × (ys ≡ reading_words (iso_text_expanded rows jd) ++ drop (length (reading_words (iso_text_expanded rows jd))) p) × (n ≤ 27)
  unfolding outcome forget onward
  text-written n rule e =
      let c : TextCall (iso_text_expanded rows jd) p (Ok n) ys = as_call (Ok n) (ap (λ (x : Result (ℕ × Rule) Refusal). forget (outcome x)) (sym e)) in
      let w = answer-written (iso_text_expanded rows jd) p n (short rows jd) (sym c.says) in (w.0, c.holds ∙ w.1, w.2)

  pub text_refused : (k : Refusal) → res ≡ Err k → 27 ≤ length p → (iso_text_expanded rows jd ≡ refusal (refusal_number k)) × (ys ≡ p)
  unfolding outcome forget onward
  text_refused k e h =
      let c : TextCall (iso_text_expanded rows jd) p (Err k) ys = as_call (Err k) (ap (λ (x : Result (ℕ × Rule) Refusal). forget (outcome x)) (sym e)) in
      let w = refusal-written (iso_text_expanded rows jd) p (refusal_number k) (short rows jd) h (sym c.says) in (w.0, c.holds ∙ w.1)

-- ---- what the reader answered
module _ (rows : List Row) (s : List ℕ) (a : Result ParsedUtc Refusal) (is : outcome a ≡ parsed_utc rows s) where
  pub read-refused : (k : Refusal) → a ≡ Err k → reading rows s ≡ refusal (refusal_number k)
  unfolding reading onward outcome
  read-refused k e = ap (λ (o : Outcome ParsedUtc). onward o (λ r. iso_text_expanded rows r.date.0)) (sym is ∙ ap outcome e)

  pub read-dated : (r : ParsedUtc) → a ≡ Ok r → reading rows s ≡ iso_text_expanded rows r.date.0
  unfolding reading onward outcome
  read-dated r e = ap (λ (o : Outcome ParsedUtc). onward o (λ r. iso_text_expanded rows r.date.0)) (sym is ∙ ap outcome e)

-- ---- the whole line
pub no_room : (line before : List ℕ) → length before < 50 → LineCall line before (Err R.NoRoom) before
unfolding outcome refusal_number
no_room line before h = record {
  says = sym (ap (λ (b : Bool). cond b (answer (length line)) (refusal 11)) (lt-leb 50 (length before) h));
  holds =
      sym (ap (λ (b : Bool). cond b (line ++ drop (length line) before) before) (lt-leb 50 (length before) h));
}

at_start : (line before : List ℕ) → pasted before 0 line ≡ line ++ drop (length line) before
unfolding pasted
at_start line before = ap (λ (k : ℕ). line ++ drop k before) (zero-add (length line))

pub line-put : (line before : List ℕ) (n : ℕ) (after : List ℕ) → 50 ≤ length before → Placed before 0 line n after → LineCall line before (Ok n) after
unfolding outcome refusal_number
line-put line before n after h p = record {
  says = ap answer (p.ends ∙ zero-add (length line)) ∙ sym (ap (λ (b : Bool). cond b (answer (length line)) (refusal 11)) (le-leb 50 (length before) h));
  holds = p.holds ∙ at_start line before ∙ sym (ap (λ (b : Bool). cond b (line ++ drop (length line) before) before) (le-leb 50 (length before) h));
}

-- what was written is within the buffer
pub line-within : {line before after : List ℕ} {r : Result ℕ Refusal} → LineCall line before r after → (n : ℕ) → r ≡ Ok n → (n ≤ length after)
    × (n ≡ length (take n after))
unfolding outcome refusal_number
line-within {line} {before} {after} c n is = let h =
    go (leb 50 (length before)) (sym (ap outcome is) ∙ c.says) c.holds in (h, sym (length-take-le n after h))
  where
    go : (b : Bool) → answer n ≡ cond b (answer (length line)) (refusal 11) → after ≡ cond b (line ++ drop (length line) before) before → n ≤ length after
    go true e h = let m : n ≡ length line = cc in subst (λ (l : List ℕ). n ≤ length l) (sym h) (simp length-append (omega arith))
    go false e h = let z : ◌≡◌ {A = ℕ} 0 1 = cc in absurd (omega arith)
