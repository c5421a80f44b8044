-- The text of a stamp has at most 27 bytes, so where there is room for them the text call refuses only what the conversion refuses; and what is shown of a
-- stamp, or reported of a refusal, leaves of a line's room the bytes before and after it. Assumes nothing.
use Prim.Native.Nat.{ℕ, ◌+◌, ◌≤◌}
use native.Mathlib.Omega.{arith}
use mathlib.Core.Path.{◌≡◌, refl, sym, ap, ◌∙◌}
use mathlib.Core.Logic.{◌⊎◌, inl, inr}
use mathlib.Core.List.{List, ◌++◌}
use mathlib.Core.Bool.{Bool, true, false, cond}
use lib.ListN.{length, drop}
use lib.Dec.{leb}
use lib.IntN.{ℤ, pos, negsuc, nat_abs}
use lib.Signed.{lt_z}
use borrow.Author.Tests.{le-leb, ltb-false}
use Rattle.std.specs.Prelude.{Result, Ok, Err}
use Rattle.std.specs.Result.{result_unwrap_or}
use Rattle.refusals.specs.declared.Refusal.{Refusal}
use Rattle.refusals.specs.Refusal.{refusal_number}
use Rattle.refusals.specs.Outcome.{Outcome, answer, refusal, onward, outcome}
use Rattle.julian.specs.declared.JulianDate.{JulianDate}
use Rattle.julian.specs.declared.CalendarFields.{CalendarFields}
use Rattle.julian.specs.Calendar.{julian_to_calendar}
use Rattle.leap_table.specs.rows.Table.{Row}
use Rattle.utc.specs.text.Answer.{text_written, buffer_after}
use Rattle.leap_table.specs.declared.offsets.Rule.{Rule}
use Rattle.leap_table.specs.offsets.Rule.{forget}
use Rattle.utc.specs.iso_texts.ByRule.{expanded_by_rule, TextRuleCall}
use Rattle.utc.specs.iso_texts.Expanded.{expanded_form, iso_text_expanded}
use Rattle.utc.specs.iso_texts.TextCall.{written, buffer_holds, TextCall}
use Rattle.julian.proofs.Dates.{date-in-range}
use Rattle.utc.proofs.iso_texts.TextCalls.{call-as}
use Rattle.utc.proofs.iso_texts.TextRules.{rule-call-forgets, expanded-forgets}
use Rattle.utc.proofs.laws.Numbers.{text-numbers-by}
use Rattle.utc.proofs.laws.ExpandedTexts.{expanded-text-length}
use Rattle.reasons.specs.declared.Values.{Values}
use Rattle.reasons.specs.Widths.{OfWidth}
use Rattle.reasons.proofs.SentenceLengths.{reason_short}
use Rattle.stamps.specs.declared.Reporting.{Reporting}
use Rattle.stamps.specs.declared.Reporting.TheVariants.{Numbers, Sentences}
use Rattle.stamps.specs.Listing.{line_room, reported, values_by, refused_values, shown}
use Rattle.stamps.specs.Widths.{Wide}
use Rattle.stamps.proofs.Places.{digits-most}

-- ---- the room of a line
pub room-low : (how : Reporting) → 33 ≤ line_room how
unfolding line_room
room-low Numbers = omega arith
room-low (Sentences n) = omega arith

pub room-high : (how : Reporting) → line_room how ≤ 64
unfolding line_room
room-high Numbers = omega arith
room-high (Sentences n) = omega arith

-- ---- a refusal
pub reported-most : (how : Reporting) (k : ℕ) (v : Values) → Wide how v → length (reported how k v) + 7 ≤ line_room how
unfolding reported line_room Wide
reported-most Numbers k v w = omega (arith, digits-most 4 k)
reported-most (Sentences n) k v w = omega (arith, reason_short k v w)

year-within : (y : ℤ) → lt_z y (negsuc 4899) ≡ false → lt_z (pos 2733194) y ≡ false → nat_abs y ≤ 2147483648
year-within (pos n) l h = omega (arith, ltb-false 2733194 n h)
year-within (negsuc n) l h = omega (arith, ltb-false 4899 n l)

values_wide : (jd : JulianDate) (o : Outcome CalendarFields) → julian_to_calendar jd.jd1 jd.jd2 ≡ o → OfWidth (values_by jd o)
unfolding OfWidth values_by
values_wide jd (answer c) e =
    let r = date-in-range jd.jd1 jd.jd2 c e in
    (year-within c.date.year r.year_low r.year_high, omega (arith, r.month-high), omega (arith, r.day-high))
values_wide jd (refusal k) e = tt

pub refused-wide : (jd : JulianDate) → OfWidth (refused_values jd)
refused-wide jd = values_wide jd (julian_to_calendar jd.jd1 jd.jd2) refl

date-wide : (how : Reporting) (jd : JulianDate) → Wide how (refused_values jd)
unfolding Wide
date-wide Numbers jd = tt
date-wide (Sentences n) jd = refused-wide jd

-- a date is refused by a number that has a sentence
pub date-number : (rows : List Row) (jd : JulianDate) (k : ℕ) → iso_text_expanded rows jd ≡ refusal k → (1 ≤ k) × (k ≤ 28)
date-number rows jd k e = by (text-numbers-by expanded_form rows jd k e)
  where
    by : (k ≡ 6) ⊎ (k ≡ 1) → (1 ≤ k) × (k ≤ 28)
    by (inl h) = (omega arith, omega arith)
    by (inr h) = (omega arith, omega arith)

-- an outcome whose text, where it is one, has at most 27 bytes
abbrev pub Brief : Outcome (List ℕ) → Type 0
Brief o = (t : List ℕ) → o ≡ answer t → length t ≤ 27

pub brief : (rows : List Row) (jd : JulianDate) → Brief (iso_text_expanded rows jd)
brief rows jd t e = by (expanded-text-length rows jd t e)
  where
    by : (length t ≡ 23) ⊎ (length t ≡ 27) → length t ≤ 27
    by (inl h) = omega arith
    by (inr h) = omega arith

-- ---- what the text call answered
pub shown-most : (how : Reporting) (jd : JulianDate) (o : Outcome (List ℕ)) → Brief o → length (shown how jd o) + 6 ≤ line_room how
unfolding shown
shown-most how jd (answer t) b = omega (arith, b t refl, room-low how)
shown-most how jd (refusal k) b = omega (arith, reported-most how k (refused_values jd) (date-wide how jd))

written-by : (t p : List ℕ) (n : ℕ) (b : Bool) → cond b (answer (length t)) (refusal 11) ≡ answer n
    → (n ≡ length t) × (cond b (t ++ drop (length t) p) p ≡ t ++ drop (length t) p)
written-by t p n true e = (cc, refl)
written-by t p n false e = let z : ◌≡◌ {A = ℕ} 0 1 = cc in absurd (omega arith)

reported-written : (how : Reporting) (jd : JulianDate) (o : Outcome (List ℕ)) (p : List ℕ) (n : ℕ) → written o (length p) ≡ answer n
    → (n ≡ length (shown how jd o)) × (buffer_holds o p ≡ shown how jd o ++ drop (length (shown how jd o)) p)
unfolding written buffer_holds shown onward text_written buffer_after
reported-written how jd (answer t) p n e = written-by t p n (leb (length t) (length p)) e
reported-written how jd (refusal k) p n e = let z : ◌≡◌ {A = ℕ} 0 1 = cc in absurd (omega arith)

refused-by : (t : List ℕ) (p : List ℕ) (k : ℕ) → length t ≤ length p → text_written t (length p) ≡ refusal k → ⊥
unfolding text_written
refused-by t p k h e =
    let g : ◌≡◌ {A = Outcome ℕ} (answer (length t)) (refusal k) = simp (le-leb _ _ h) at e in
    let z : ◌≡◌ {A = ℕ} 0 1 = cc in omega arith

reported-refused : (o : Outcome (List ℕ)) (p : List ℕ) (k : ℕ) → Brief o → 27 ≤ length p → written o (length p) ≡ refusal k
    → (o ≡ refusal k) × (buffer_holds o p ≡ p)
unfolding written buffer_holds onward
reported-refused (answer t) p k b h e = let m = b t refl in absurd (refused-by t p k (omega arith) e)
reported-refused (refusal j) p k b h e = let same : j ≡ k = cc in (ap refusal same, refl)

module _ (rows : List Row) (jd : JulianDate) {p ys : List ℕ} {res : Result (ℕ × Rule) Refusal} (call : TextRuleCall (expanded_by_rule rows jd) p res ys) where
  -- the call without the rule
  plain : (t : Result ℕ Refusal) → outcome t ≡ forget (outcome res) → TextCall (iso_text_expanded rows jd) p t ys
  plain t e = call-as _ _ _ _ _ (sym (expanded-forgets rows jd)) (rule-call-forgets _ _ _ _ _ e call)

  pub text-written : (how : Reporting) (n : ℕ) (rule : Rule) → res ≡ Ok (n, rule) → (n ≡ length (shown how jd (iso_text_expanded rows jd)))
      × (ys ≡ shown how jd (iso_text_expanded rows jd) ++ drop (length (shown how jd (iso_text_expanded rows jd))) p)
  unfolding outcome forget onward
  text-written how n rule e =
      let call' = plain (Ok n) (ap (λ (x : Result (ℕ × Rule) Refusal). forget (outcome x)) (sym e)) in
      let w = reported-written how jd (iso_text_expanded rows jd) p n (sym call'.says) in
      (w.0, call'.holds ∙ w.1)

  pub text_refused : (k : Refusal) → res ≡ Err k → 27 ≤ length p → (iso_text_expanded rows jd ≡ refusal (refusal_number k)) × (ys ≡ p)
  unfolding outcome forget onward
  text_refused k e h =
      let call' = plain (Err k) (ap (λ (x : Result (ℕ × Rule) Refusal). forget (outcome x)) (sym e)) in
      let w = reported-refused (iso_text_expanded rows jd) p (refusal_number k) (brief rows jd) h (sym call'.says) in
      (w.0, call'.holds ∙ w.1)

-- ---- a text that is surely there
module _ {t p ys : List ℕ} {res : Result ℕ Refusal} (call : TextCall (answer t) p res ys) where
  pub given-written : (n : ℕ) → res ≡ Ok n → (n ≡ length t) × (ys ≡ t ++ drop (length t) p)
  unfolding outcome written buffer_holds onward text_written buffer_after
  given-written n e = let w = written-by t p n (leb (length t) (length p)) (sym call.says ∙ ap outcome e) in (w.0, call.holds ∙ w.1)

  pub given-fits : (k : Refusal) → res ≡ Err k → length t ≤ length p → ⊥
  unfolding outcome written onward
  given-fits k e h = refused-by t p (refusal_number k) h (sym call.says ∙ ap outcome e)

  -- where it fits, its length stands for the answer
  pub given-whole : length t ≤ length p → (n : ℕ) → n ≡ result_unwrap_or res 0 → (n ≡ length t) × (ys ≡ t ++ drop (length t) p)
  given-whole h n e = by res refl
    where
      by : (x : Result ℕ Refusal) → res ≡ x → (n ≡ length t) × (ys ≡ t ++ drop (length t) p)
      by (Ok m) q = let w = given-written m q in (e ∙ ap (λ (x : Result ℕ Refusal). result_unwrap_or x 0) q ∙ w.0, w.1)
      by (Err k) q = absurd (given-fits k q h)
