-- A text call from C that is lent a rule's 8 bytes, or no byte for it, delivers its form's text into its first buffer, as if it had no second one: so what is
-- proved of that text holds of it. Assumes nothing.
use Prim.Native.Nat.{ℕ, zero, suc, ◌≤◌}
use native.Mathlib.Omega.{arith}
use mathlib.Core.Path.{◌≡◌, refl, ◌∙◌, subst}
use mathlib.Core.Logic.{◌⊎◌, inl, inr}
use mathlib.Core.Bool.{Bool, true, false, cond, ◌&&◌}
use mathlib.Core.List.{List}
use lib.Dec.{leb}
use lib.ListN.{length}
use lib.IntN.{ℤ}
use borrow.Author.Tests.{le-leb}
use Rattle.refusals.specs.Outcome.{Outcome, answer, refusal, onward}
use Rattle.julian.specs.declared.JulianDate.{JulianDate}
use Rattle.leap_table.specs.declared.offsets.Rule.{Rule}
use Rattle.leap_table.specs.rows.Table.{Row}
use Rattle.leap_table.specs.offsets.Rule.{forget}
use Rattle.utc.specs.text.Answer.{text_written, buffer_after}
use Rattle.utc.specs.iso_texts.TextCall.{written, buffer_holds}
use Rattle.utc.specs.iso_texts.TextForm.{TextForm}
use Rattle.utc.specs.iso_texts.IsoText.{iso_text_by}
use Rattle.utc.specs.iso_texts.ByRule.{text_by_rule}
use Rattle.utc.proofs.iso_texts.TextRules.{text-forgets}
use Rattle.c_answers.specs.Delivery.{code, Delivered}
use Rattle.c_answers.specs.TwoBuffers.{both_fit, DeliveredTwo}
use Rattle.capi.specs.TextRule.{asked_rule, ruled}

abbrev both : List ℕ → List ℕ → List ℕ × List ℕ
both t u = (t, u)

module _ (before second : List ℕ) (r : ℤ) (after after_second : List ℕ) (room : (length second ≡ 0) ⊎ (8 ≤ length second)) where
  fits_both : (t u : List ℕ) (b : Bool) → leb (length t) (length before) ≡ b → leb (length u) (length second) ≡ true
      → r ≡ code (onward (cond (b && leb (length u) (length second)) (answer (both t u)) (refusal 11)) (λ p. answer (length p.0)))
      → after ≡ buffer_holds (onward (cond (b && leb (length u) (length second)) (answer (both t u)) (refusal 11)) (λ p. answer p.0)) before
      → Delivered (answer t) before r after
  unfolding written onward buffer_holds text_written buffer_after
  fits_both t u true e f p q = record { returned = p ∙ rw (e, f); holds = q ∙ rw f }
  fits_both t u false e f p q = record { returned = p ∙ rw e; holds = q ∙ rw e }

  rule_fits : (n : ℕ) (rule : Rule) → (n ≡ 0) ⊎ (8 ≤ n) → leb (length (asked_rule n rule)) n ≡ true
  unfolding asked_rule
  rule_fits zero rule h = refl
  rule_fits (suc n) rule (inl e) = absurd (let no : ⊥ = omega (arith, e) in no)
  rule_fits (suc n) rule (inr h) = le-leb 8 (suc n) h

  pub text-delivered : (o : Outcome (List ℕ × Rule)) → DeliveredTwo (ruled (length second) o) before second r after after_second
      → Delivered (forget o) before r after
  unfolding ruled forget onward both_fit written buffer_holds
  text-delivered (answer t) d = fits_both t.0 (asked_rule (length second) t.1) (leb (length t.0) (length before)) refl
      (rule_fits (length second) t.1 room) d.returned d.holds
  text-delivered (refusal k) d = record { returned = d.returned; holds = d.holds }

  -- by the rows of a table, or with what it is refused by
  pub iso_delivered : (textForm : TextForm) (table : Outcome (List Row)) (jd : JulianDate)
      → DeliveredTwo (ruled (length second) (onward table (λ rows. text_by_rule textForm rows jd))) before second r after after_second
      → Delivered (onward table (λ rows. iso_text_by textForm rows jd)) before r after
  unfolding onward forget
  iso_delivered textForm (answer rows) jd d =
      subst (λ (o : Outcome (List ℕ)). Delivered o before r after) (text-forgets textForm rows jd) (text-delivered (text_by_rule textForm rows jd) d)
  iso_delivered textForm (refusal k) jd d = text-delivered (refusal k) d
