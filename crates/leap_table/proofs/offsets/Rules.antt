-- An answer with its rule: made, and without the rule again the answer that it was made of, refusals included. Assumes nothing.
use Rattle.std.proofs.Common.{◌≡◌, ℕ, zero, suc, ◌-◌, ◌<◌, Bool, true, false, cond, eqb, List, get_or, ℤ, sym, refl, ap, ◌∙◌, not-suc-le-zero, arith}
use lib.Ieee.{Float}
use Rattle.refusals.specs.Outcome.{Outcome, answer, refusal, onward}
use Rattle.leap_table.specs.declared.offsets.Rule.{Rule}
use Rattle.leap_table.specs.declared.offsets.Rule.TheVariants.{Absent, Drifting, Whole}
use Rattle.leap_table.specs.rows.Table.{Row, none}
use Rattle.leap_table.specs.offsets.Offset.{tai_utc_offset}
use Rattle.leap_table.specs.offsets.Leap.{day_offsets, leap_of, leap_at_end_of_day}
use Rattle.leap_table.specs.offsets.Rule.{rule_by, with_rule, forget, offset_by_rule, day_by_rule, leap_by_rule}

module _ {A : Type 0} (o : Outcome A) (r : Rule) where
  pub told : (a : A) (r' : Rule) → answer a ≡ o → r' ≡ r → answer (a, r') ≡ with_rule o r
  unfolding with_rule onward
  told a r' p q = (λ i. answer (a, q i)) ∙ ap (λ (x : Outcome A). onward x (λ y. answer (y, r))) p

  pub not_told : (k : ℕ) → refusal k ≡ o → refusal k ≡ with_rule o r
  unfolding with_rule onward
  not_told k p = ap (λ (x : Outcome A). onward x (λ y. answer (y, r))) p

-- ---- FORGOTTEN, the rule leaves the outcome of before
pub forgets : {A : Type 0} (o : Outcome A) (r : Rule) → forget (with_rule o r) ≡ o
unfolding with_rule forget onward
forgets (answer a) r = refl
forgets (refusal k) r = refl

module _ (rows : List Row) (y m d : ℤ) where
  pub offset-forgets : (f : Float) → forget (offset_by_rule rows y m d f) ≡ tai_utc_offset rows y m d f
  unfolding offset_by_rule
  offset-forgets f = forgets (tai_utc_offset rows y m d f) _

  pub day-forgets : forget (day_by_rule rows y m d) ≡ day_offsets rows y m d
  unfolding day_by_rule
  day-forgets = forgets (day_offsets rows y m d) _

  pub leap-forgets : forget (leap_by_rule rows y m d) ≡ leap_at_end_of_day rows y m d
  unfolding leap_by_rule
  leap-forgets = forgets (leap_at_end_of_day rows y m d) _

-- ---- taken apart
-- the rule of an answer; of a refusal r
abbrev pub rule_in : {A : Type 0} → Rule → Outcome (A × Rule) → Rule
rule_in r (answer p) = p.1
rule_in r (refusal k) = r

module _ {A : Type 0} (o : Outcome A) (r : Rule) where
  pub apart : (a : A) (s : Rule) → with_rule o r ≡ answer (a, s) → (o ≡ answer a) × (r ≡ s)
  unfolding with_rule forget onward
  apart a s e = go o e
    where
      go : (u : Outcome A) → with_rule u r ≡ answer (a, s) → (u ≡ answer a) × (r ≡ s)
      go (answer x) h = (ap forget h, ap (rule_in r) h)
      go (refusal k) h = let z : ◌≡◌ {A = ℕ} 0 1 = cc in absurd (omega arith)

  pub refused-apart : (k : ℕ) → with_rule o r ≡ refusal k → o ≡ refusal k
  unfolding with_rule forget onward
  refused-apart k e = sym (forgets o r) ∙ ap forget e

-- ---- a leap by the offsets of its day
through : {A B : Type 0} (f : A → B) (o : Outcome A) (r : Rule)
    → with_rule (onward o (λ a. answer (f a))) r ≡ onward (with_rule o r) (λ p. answer (f p.0, p.1))
unfolding with_rule onward
through f (answer a) r = refl
through f (refusal k) r = refl

pub leap-by-day : (rows : List Row) (y m d : ℤ) → leap_by_rule rows y m d ≡ onward (day_by_rule rows y m d) (λ p. answer (leap_of p.0, p.1))
unfolding leap_by_rule day_by_rule leap_at_end_of_day
leap-by-day rows y m d = through leap_of (day_offsets rows y m d) _

-- ---- the rule by the number of rows reached, in its three cases: none, a row that drifts, a row of whole seconds
module _ (rows : List Row) (k : ℕ) where
  pub rule-absent : k ≡ 0 → Absent ≡ rule_by rows k
  unfolding rule_by
  rule-absent z = sym (ap (rule_by rows) z)

  abbrev by_rate : ℕ → Bool → Rule
  by_rate i b = cond b (Whole i) (Drifting i)

  by_place : 0 < k → rule_by rows k ≡ by_rate (k - 1) (eqb (get_or rows (k - 1) none).rate 0)
  unfolding rule_by
  by_place h = go k h
    where
      step : (j : ℕ) → j ≡ suc j - 1
      step j = omega arith

      placed : (i : ℕ) → rule_by rows (suc i) ≡ by_rate (suc i - 1) (eqb (get_or rows (suc i - 1) none).rate 0)
      placed i = ap (λ (j : ℕ). by_rate j (eqb (get_or rows j none).rate 0)) (step i)

      go : (j : ℕ) → 0 < j → rule_by rows j ≡ by_rate (j - 1) (eqb (get_or rows (j - 1) none).rate 0)
      go zero g = absurd (not-suc-le-zero g)
      go (suc i) g = placed i

  pub rule-drifts : 0 < k → eqb (get_or rows (k - 1) none).rate 0 ≡ false → Drifting (k - 1) ≡ rule_by rows k
  rule-drifts p h = sym (by_place p ∙ ap (by_rate (k - 1)) h)

  pub rule-whole : 0 < k → eqb (get_or rows (k - 1) none).rate 0 ≡ true → Whole (k - 1) ≡ rule_by rows k
  rule-whole p h = sym (by_place p ∙ ap (by_rate (k - 1)) h)
