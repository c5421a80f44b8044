-- The text call with its rule: what is put into the two buffers, and the refusals. Assumes nothing.
use Prim.Native.Nat.{ℕ, zero, suc, ◌≤◌, ◌<◌, ◌^◌}
use native.Mathlib.Omega.{arith}
use mathlib.Core.Path.{◌≡◌, refl, sym, ap, subst, ◌∙◌}
use mathlib.Core.Bool.{Bool, true, false, true≢false, cond, ◌&&◌}
use mathlib.Core.List.{List, [], ◌∷◌}
use lib.ListN.{length}
use lib.Dec.{leb}
use lib.IntN.{ℤ, pos}
use lib.Signed.{mag}
use mir.Syntax.{w64}
use mir.Val.{SFits, to_z, of_z}
use mir.Facts.{to_z_pos}
use borrow.Author.Tests.{le-leb, lt-leb, leb-true}
use Rattle.std.specs.Prelude.{Result, Ok, Err}
use Rattle.refusals.specs.declared.Refusal.{Refusal}
use Rattle.refusals.specs.declared.Refusal.TheVariants as R
use Rattle.refusals.specs.Refusal.{refusal_number}
use Rattle.refusals.specs.Outcome.{Outcome, answer, refusal, onward}
use Rattle.refusals.proofs.Handed.{answered, handed}
use Rattle.julian.specs.declared.JulianDate.{JulianDate}
use Rattle.leap_table.specs.declared.offsets.Rule.{Rule}
use Rattle.leap_table.specs.rows.Table.{Row}
use Rattle.leap_table.specs.offsets.Rule.{with_rule, forget}
use Rattle.leap_table.proofs.offsets.Rules.{rule_in}
use Rattle.utc.specs.text.Answer.{text_written, buffer_after}
use Rattle.utc.specs.declared.iso_texts.NamedForm.{NamedForm}
use Rattle.utc.specs.iso_texts.TextCall.{buffer_holds}
use Rattle.utc.specs.iso_texts.Named.{form_named}
use Rattle.utc.specs.iso_texts.ByRule.{text_by_rule, written_by_rule, TextRuleCall}
use Rattle.utc.proofs.iso_texts.TextRules.{text-forgets}
use Rattle.utc.proofs.laws.NamedTexts.{named-text-few}
use Rattle.c_answers.specs.Delivery.{code, Delivered}
use Rattle.c_answers.specs.rules.RuleFields.{rule_bytes}
use Rattle.c_answers.specs.TwoBuffers.{both_fit, DeliveredTwo}
use Rattle.c_answers.proofs.Deliveries.{code-back}
use Rattle.capi.specs.TextRule.{asked_rule, ruled, no_room}

-- ---- the rule has no room
nothing-reported : (o : Outcome (List ℕ × Rule)) (m k : ℕ) → written_by_rule o m ≡ refusal k → refusal k ≡ no_room o
unfolding written_by_rule no_room with_rule text_written onward
nothing-reported (refusal j) m k e = let z : j ≡ k = cc in ap refusal (sym z)
nothing-reported (answer t) m k e = go (leb (length t.0) m) e
  where
    go : (b : Bool) → with_rule (cond b (answer (length t.0)) (refusal 11)) t.1 ≡ refusal k → ◌≡◌ {A = Outcome ℕ} (refusal k) (refusal 11)
    go true p = absurd (let z : ◌≡◌ {A = ℕ} 0 1 = cc in let no : ⊥ = omega arith in no)
    go false p = let z : ◌≡◌ {A = ℕ} 11 k = cc in ap refusal (sym z)

eleven-reported : (o : Outcome (List ℕ × Rule)) (m n : ℕ) (rule : Rule) → written_by_rule o m ≡ answer (n, rule) → refusal 11 ≡ no_room o
unfolding written_by_rule no_room onward
eleven-reported (refusal j) m n rule e = absurd (let z : ◌≡◌ {A = ℕ} 0 1 = cc in let no : ⊥ = omega arith in no)
eleven-reported (answer t) m n rule e = refl

module _ (o : Outcome (List ℕ × Rule)) {l out : List ℕ} {res : Result (ℕ × Rule) Refusal} (p : TextRuleCall o l res out) where
  pub no_room_refused : {k : Refusal} {r : ℤ} → mag r < 2 ^ 63 → res ≡ Err k → r ≡ code (refusal (refusal_number k)) → to_z w64 (of_z w64 r) ≡ code (no_room o)
  no_room_refused {k} ok is c = code-back ok ∙ c ∙ ap code (nothing-reported o (length l) (refusal_number k) (sym p.says ∙ handed is))

  pub no_room_written : {n : ℕ} {rule : Rule} {r : ℤ} → mag r < 2 ^ 63 → res ≡ Ok (n, rule) → r ≡ code (refusal (refusal_number R.NoRoom))
      → to_z w64 (of_z w64 r) ≡ code (no_room o)
  unfolding refusal_number
  no_room_written {n} {rule} ok is c = code-back ok ∙ c ∙ ap code (eleven-reported o (length l) n rule (sym p.says ∙ answered is))

-- ---- two buffers: the rule has no room, and both stay as they were
abbrev eleven-for : List ℕ × Rule → Outcome (List ℕ × List ℕ)
eleven-for t = refusal 11

eleven : (o : Outcome (List ℕ × Rule)) (m n : ℕ) → n < 8 → (n ≡ 0 → ⊥) → both_fit (ruled n o) m n ≡ onward o eleven-for
unfolding both_fit ruled asked_rule onward
eleven (refusal k) m n h some = refl
eleven (answer t) m zero h some = absurd (some refl)
eleven (answer t) m (suc n) h some = go (leb (length t.0) m)
  where
    go : (x : Bool) → cond {A = Outcome (List ℕ × List ℕ)} (x && leb 8 (suc n)) (answer (t.0, rule_bytes t.1)) (refusal 11) ≡ refusal 11
    go true = rw (lt-leb 8 (suc n) h)
    go false = refl

pub short-rule : (o : Outcome (List ℕ × Rule)) (b b' : List ℕ) {r : ℤ} → mag r < 2 ^ 63 → length b' < 8 → (length b' ≡ 0 → ⊥) → r ≡ code (no_room o)
    → DeliveredTwo (ruled (length b') o) b b' (to_z w64 (of_z w64 r)) b b'
unfolding no_room onward buffer_holds
short-rule o b b' ok h some c =
    let e = eleven o (length b) (length b') h some in
    record {
      returned = code-back ok ∙ c ∙ ap code (sym (ap (λ (x : Outcome (List ℕ × List ℕ)). onward x (λ p. answer (length p.0))) e ∙ none o));
      holds = sym (ap (λ (x : Outcome (List ℕ × List ℕ)). buffer_holds (onward x (λ p. answer p.0)) b) e ∙ stays o);
      holds_second = sym (ap (λ (x : Outcome (List ℕ × List ℕ)). buffer_holds (onward x (λ p. answer p.1)) b') e ∙ stays-second o);
    }
  where
    none : (o : Outcome (List ℕ × Rule)) → onward (onward o eleven-for) (λ p. answer (length p.0)) ≡ onward o (λ t. refusal 11)
    none (answer t) = refl
    none (refusal k) = refl

    stays : (o : Outcome (List ℕ × Rule)) → buffer_holds (onward (onward o eleven-for) (λ p. answer p.0)) b ≡ b
    stays (answer t) = refl
    stays (refusal k) = refl

    stays-second : (o : Outcome (List ℕ × Rule)) → buffer_holds (onward (onward o eleven-for) (λ p. answer p.1)) b' ≡ b'
    stays-second (answer t) = refl
    stays-second (refusal k) = refl

-- ---- the rule has room: the text fits
record Fitted (o : Outcome (List ℕ × Rule)) (m n : ℕ) (rule : Rule) : Type 0 where
  text : List ℕ
  same : o ≡ answer (text, rule)
  count : length text ≡ n
  within : length text ≤ m

fitted : (o : Outcome (List ℕ × Rule)) (m n : ℕ) (rule : Rule) → written_by_rule o m ≡ answer (n, rule) → Fitted o m n rule
unfolding written_by_rule with_rule text_written forget onward
fitted (refusal j) m n rule e = absurd (let z : ◌≡◌ {A = ℕ} 0 1 = cc in let no : ⊥ = omega arith in no)
fitted (answer t) m n rule e = go (leb (length t.0) m) refl e
  where
    go : (x : Bool) → leb (length t.0) m ≡ x → with_rule (cond x (answer (length t.0)) (refusal 11)) t.1 ≡ answer (n, rule) → Fitted (answer t) m n rule
    go true p q =
        let r : t.1 ≡ rule = ap (rule_in rule) q in
        let f : ◌≡◌ {A = Outcome ℕ} (answer (length t.0)) (answer n) = ap forget q in
        let c : length t.0 ≡ n = cc in
        record { text = t.0; same = λ i. answer (t.0, r i); count = c; within = leb-true (length t.0) m p }
    go false p q = absurd (let z : ◌≡◌ {A = ℕ} 0 1 = cc in let no : ⊥ = omega arith in no)

both : (t : List ℕ) (rule : Rule) (m n : ℕ) → length t ≤ m → 8 ≤ n → both_fit (ruled n (answer (t, rule))) m n ≡ answer (t, rule_bytes rule)
unfolding both_fit ruled asked_rule onward
both t rule m zero h g = absurd (let no : ⊥ = omega (arith, g) in no)
both t rule m (suc n) h g = simp (le-leb (length t) m h) (go (leb 8 (suc n)) (le-leb 8 (suc n) g))
  where
    go : (x : Bool) → x ≡ true → cond {A = Outcome (List ℕ × List ℕ)} (true && x) (answer (t, rule_bytes rule)) (refusal 11) ≡ answer (t, rule_bytes rule)
    go true e = refl
    go false e = absurd (true≢false (sym e))

alone : (t : List ℕ) (rule : Rule) (m : ℕ) → length t ≤ m → both_fit (ruled 0 (answer (t, rule))) m 0 ≡ answer (t, [])
unfolding both_fit ruled asked_rule onward
alone t rule m h = simp (le-leb (length t) m h) refl

-- ---- or it is refused, by itself or by 11
not_fitted : (o : Outcome (List ℕ × Rule)) (l : List ℕ) (n k : ℕ) → written_by_rule o (length l) ≡ refusal k
    → (both_fit (ruled n o) (length l) n ≡ refusal k) × (buffer_holds (forget o) l ≡ l)
unfolding written_by_rule with_rule text_written forget onward both_fit ruled buffer_holds buffer_after
not_fitted (refusal j) l n k e = let z : j ≡ k = cc in (ap refusal z, refl)
not_fitted (answer t) l n k e = go (leb (length t.0) (length l)) refl e
  where
    go : (x : Bool) → leb (length t.0) (length l) ≡ x → with_rule (cond x (answer (length t.0)) (refusal 11)) t.1 ≡ refusal k
        → (cond {A = Outcome (List ℕ × List ℕ)} (leb (length t.0) (length l) && leb (length (asked_rule n t.1)) n) (answer (t.0, asked_rule n t.1))
        (refusal 11) ≡ refusal k)
        × (buffer_after t.0 l ≡ l)
    go true p q = absurd (let z : ◌≡◌ {A = ℕ} 0 1 = cc in let no : ⊥ = omega arith in no)
    go false p q = let z : ◌≡◌ {A = ℕ} 11 k = cc in (rw p (ap refusal z), rw p)

module _ (o : Outcome (List ℕ × Rule)) (few : (t : List ℕ) → forget o ≡ answer t → length t ≤ 64) {l out : List ℕ} {res : Result (ℕ × Rule) Refusal}
    (p : TextRuleCall o l res out) where
  module _ {n : ℕ} {rule : Rule} (is : res ≡ Ok (n, rule)) where
    fit : Fitted o (length l) n rule
    fit = fitted o (length l) n rule (sym p.says ∙ answered is)

    small : n ≤ 64
    unfolding forget onward
    small = omega (arith, few fit.text (ap forget fit.same), fit.count)

    pub count_fits : SFits w64 (pos n)
    count_fits = record { sfits = omega (arith, small) }

    pub two-written : {b' out' : List ℕ} {r : ℤ} → 8 ≤ length b' → Delivered (answer (rule_bytes rule)) b' r out'
        → DeliveredTwo (ruled (length b') o) l b' (to_z w64 n) out out'
    unfolding onward code buffer_holds forget
    two-written {b'} {out'} room d =
        let f = fit in
        let e : both_fit (ruled (length b') o) (length l) (length b') ≡ answer (f.text, rule_bytes rule)
        = ap (λ (x : Outcome (List ℕ × Rule)). both_fit (ruled (length b') x) (length l) (length b')) f.same
        ∙ both f.text rule (length l) (length b') f.within room in
        record {
          returned = to_z_pos w64 {n = n} (omega (arith, small)) ∙ ap pos (sym f.count)
              ∙ sym (ap (λ (x : Outcome (List ℕ × List ℕ)). code (onward x (λ q. answer (length q.0)))) e);
          holds = p.holds ∙ ap (λ (x : Outcome (List ℕ × Rule)). buffer_holds (forget x) l) f.same
              ∙ sym (ap (λ (x : Outcome (List ℕ × List ℕ)). buffer_holds (onward x (λ q. answer q.0)) l) e);
          holds_second = d.holds ∙ sym (ap (λ (x : Outcome (List ℕ × List ℕ)). buffer_holds (onward x (λ q. answer q.1)) b') e);
        }

    -- no rule is asked for
    pub alone_written : DeliveredTwo (ruled 0 o) l [] (to_z w64 n) out []
    unfolding onward code buffer_holds buffer_after forget
    alone_written =
        let f = fit in
        let e : both_fit (ruled 0 o) (length l) 0 ≡ answer (f.text, [])
        = ap (λ (x : Outcome (List ℕ × Rule)). both_fit (ruled 0 x) (length l) 0) f.same ∙ alone f.text rule (length l) f.within in
        record {
          returned = to_z_pos w64 {n = n} (omega (arith, small)) ∙ ap pos (sym f.count)
              ∙ sym (ap (λ (x : Outcome (List ℕ × List ℕ)). code (onward x (λ q. answer (length q.0)))) e);
          holds = p.holds ∙ ap (λ (x : Outcome (List ℕ × Rule)). buffer_holds (forget x) l) f.same
              ∙ sym (ap (λ (x : Outcome (List ℕ × List ℕ)). buffer_holds (onward x (λ q. answer q.0)) l) e);
          holds_second = sym (ap (λ (x : Outcome (List ℕ × List ℕ)). buffer_holds (onward x (λ q. answer q.1)) []) e);
        }

  pub two-refused : {k : Refusal} {r : ℤ} (b' : List ℕ) → mag r < 2 ^ 63 → res ≡ Err k → r ≡ code (refusal (refusal_number k))
      → DeliveredTwo (ruled (length b') o) l b' (to_z w64 (of_z w64 r)) out b'
  unfolding onward buffer_holds
  two-refused {k} b' ok is c =
      let (e, f) = not_fitted o l (length b') (refusal_number k) (sym p.says ∙ handed is) in
      record {
        returned = code-back ok ∙ c ∙ sym (ap (λ (x : Outcome (List ℕ × List ℕ)). code (onward x (λ q. answer (length q.0)))) e);
        holds = p.holds ∙ f ∙ sym (ap (λ (x : Outcome (List ℕ × List ℕ)). buffer_holds (onward x (λ q. answer q.0)) l) e);
        holds_second = sym (ap (λ (x : Outcome (List ℕ × List ℕ)). buffer_holds (onward x (λ q. answer q.1)) b') e);
      }

-- a text has at most 27 bytes
pub text-few : (textForm : NamedForm) (rows : List Row) (jd : JulianDate) (t : List ℕ) → forget (text_by_rule (form_named textForm) rows jd) ≡ answer t
    → length t ≤ 64
text-few textForm rows jd t e = omega (arith, named-text-few textForm rows jd t (sym (text-forgets (form_named textForm) rows jd) ∙ e))

-- ---- fewer bytes for the rule than it has
no_length : (b : List ℕ) → length b ≡ 0 → [] ≡ b
no_length [] e = refl
no_length (x ∷ b) e = absurd (let no : ⊥ = omega (arith, e) in no)

pub none_lent : (o : Outcome (List ℕ × Rule)) (l out b : List ℕ) (room : ℕ) {r : ℤ} → mag r < 2 ^ 63 → room ≡ 0 → length b ≡ room
    → DeliveredTwo (ruled 0 o) l [] r out [] → DeliveredTwo (ruled room o) l b (to_z w64 (of_z w64 r)) out b
none_lent o l out b room {r} ok none e d =
    subst (λ (z : ℤ). DeliveredTwo (ruled room o) l b z out b) (sym (code-back ok))
    (subst (λ (k : ℕ). DeliveredTwo (ruled k o) l b r out b) (sym none)
    (subst (λ (x : List ℕ). DeliveredTwo (ruled 0 o) l x r out x) (no_length b (e ∙ none)) d))

pub few-lent : (o : Outcome (List ℕ × Rule)) (l b : List ℕ) (room : ℕ) {r : ℤ} → mag r < 2 ^ 63 → room < 8 → (room ≡ 0 → ⊥) → length b ≡ room
    → r ≡ code (no_room o) → DeliveredTwo (ruled room o) l b (to_z w64 (of_z w64 r)) l b
few-lent o l b room {r} ok few some e c =
    subst (λ (k : ℕ). DeliveredTwo (ruled k o) l b (to_z w64 (of_z w64 r)) l b) e
    (short-rule o l b ok (omega (arith, few, e)) (λ z. some (sym e ∙ z)) c)

pub short-lent : (o : Outcome (List ℕ × Rule)) (l out b : List ℕ) {r : ℤ} → mag r < 2 ^ 63
    → ((b' : List ℕ) → length b' ≡ length b → DeliveredTwo (ruled (length b) o) l b' r out b')
    → DeliveredTwo (ruled (length b) o) l b (to_z w64 (of_z w64 r)) out b
short-lent o l out b {r} ok d = subst (λ (z : ℤ). DeliveredTwo (ruled (length b) o) l b z out b) (sym (code-back ok)) (d b refl)
