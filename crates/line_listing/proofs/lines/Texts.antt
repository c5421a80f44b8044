-- What the calls that write a text or a sentence left in a buffer that surely holds it. Assumes nothing.
use Rattle.std.proofs.Common.{◌≡◌, ℕ, zero, suc, ◌+◌, ◌-◌, ◌≤◌, List, [], ◌∷◌, ◌++◌, length, take, drop, sym, refl, ap, subst, arith}
use Rattle.std.specs.Prelude.{Result, Ok}
use Rattle.std.specs.Result.{result_unwrap_or}
use Rattle.refusals.specs.declared.Refusal.{Refusal}
use Rattle.refusals.specs.Outcome.{Outcome, answer, refusal, onward, outcome}
use Rattle.numerals.specs.digits.Placed.{Placed}
use Rattle.numerals.proofs.digits.Places.{part-put}
use Rattle.julian.specs.declared.JulianDate.{JulianDate}
use Rattle.leap_table.specs.rows.Table.{Row}
use Rattle.leap_table.specs.declared.offsets.Rule.{Rule}
use Rattle.leap_table.specs.offsets.Rule.{forget}
use Rattle.utc.specs.text.Answer.{TextPut}
use Rattle.utc.specs.iso_texts.ByRule.{expanded_by_rule, TextRuleCall}
use Rattle.utc.specs.iso_texts.Expanded.{iso_text_expanded}
use Rattle.utc.specs.iso_texts.TextCall.{written, buffer_holds, TextCall}
use Rattle.utc.proofs.iso_texts.TextCalls.{call-as}
use Rattle.utc.proofs.iso_texts.TextRules.{rule-call-forgets, expanded-forgets}
use Rattle.stamps.proofs.Texts.{given-written, given-whole}

-- ---- a text that is surely there
module _ {t p ys : List ℕ} {res : Result ℕ Refusal} (put : TextPut t p res ys) where
  call : TextCall (answer t) p res ys
  unfolding written buffer_holds onward
  call = record { says = put.says; holds = put.holds }

  pub put-whole : length t ≤ length p → (n : ℕ) → n ≡ result_unwrap_or res 0 → (n ≡ length t) × (ys ≡ t ++ drop (length t) p)
  put-whole h n e = given-whole call h n e

-- ---- a text in a page of texts, lent as texts[at .. at + n]
pub part-is : (texts : List ℕ) (at n m : ℕ) → n ≡ m → take (at + n - at) (drop at texts) ≡ take m (drop at texts)
part-is texts at n m e = ap (λ (k : ℕ). take k (drop at texts)) (let w : at + n - at ≡ m = omega (arith, e) in w)

pub part-short : (texts : List ℕ) (at n : ℕ) → n ≤ 27 → length (take (at + n - at) (drop at texts)) ≤ 27
part-short texts at n h = omega (arith, take_most (at + n - at) (drop at texts))
  where
    take_most : (k : ℕ) (l : List ℕ) → length (take k l) ≤ k
    take_most zero l = omega arith
    take_most (suc k) [] = omega arith
    take_most (suc k) (x ∷ xs) = omega (arith, take_most k xs)

-- ---- the text of a UTC date that was written
module _ (rows : List Row) (jd : JulianDate) {p ys : List ℕ} {res : Result (ℕ × Rule) Refusal} (call : TextRuleCall (expanded_by_rule rows jd) p res ys) where
  -- the call without the rule
  plain : (t : Result ℕ Refusal) → outcome t ≡ forget (outcome res) → TextCall (iso_text_expanded rows jd) p t ys
  plain t e = call-as _ _ _ _ _ (sym (expanded-forgets rows jd)) (rule-call-forgets _ _ _ _ _ e call)

  pub text-there : (n : ℕ) (rule : Rule) → res ≡ Ok (n, rule)
      → (t : List ℕ) × (iso_text_expanded rows jd ≡ answer t) × (n ≡ length t) × (ys ≡ t ++ drop (length t) p)
  unfolding outcome forget onward written
  text-there n rule e = go (iso_text_expanded rows jd) refl (plain (Ok n) (ap (λ (x : Result (ℕ × Rule) Refusal). forget (outcome x)) (sym e)))
    where
      go : (o : Outcome (List ℕ)) → iso_text_expanded rows jd ≡ o → TextCall (iso_text_expanded rows jd) p (Ok n) ys
          → (t : List ℕ) × (iso_text_expanded rows jd ≡ answer t) × (n ≡ length t) × (ys ≡ t ++ drop (length t) p)
      go (answer t) q c =
          let w = given-written (subst (λ (o : Outcome (List ℕ)). TextCall o p (Ok n) ys) q c) n refl in
          (t, q, w.0, w.1)
      go (refusal k) q c =
          let says = (subst (λ (o : Outcome (List ℕ)). TextCall o p (Ok n) ys) q c).says in
          let z : ◌≡◌ {A = ℕ} 0 1 = cc says in
          let w : ⊥ = omega arith in absurd w

-- ---- a text of n bytes that was put into the part d[at..]
pub part_placed : (d : List ℕ) (at : ℕ) → at ≤ length d → (t ys : List ℕ) (n : ℕ) → n ≡ length t
    → ys ≡ t ++ drop (length t) (take (length d - at) (drop at d)) → Placed d at t (at + n) (take at d ++ (ys ++ drop (length d - at) (drop at d)))
part_placed d at h t ys n e f = record { ends = ap (λ (k : ℕ). at + k) e; holds = part-put d at h t ys f }
