-- A line from its fields: what is told by the mark of the conversion, and the writes of a line joined. Assumes nothing.
use Rattle.std.proofs.Common.{◌≡◌, ℕ, ◌≤◌, Bool, true, false, cond, eqb, List, [], ◌++◌, get_or, sym, refl, ap, ◌∙◌, arith, eq-eqb}
use Rattle.std.proofs.Common.{ne_eqb, eqb-true}
use borrow.Author.Tests.{eqb-false}
use Rattle.std.specs.Prelude.{Result, Ok, Err}
use Rattle.refusals.specs.declared.Refusal.{Refusal}
use Rattle.refusals.specs.Outcome.{Outcome, answer, refusal, onward, outcome}
use Rattle.numerals.proofs.digits.Places.{placed-as}
use Rattle.julian.specs.declared.JulianDate.{JulianDate}
use Rattle.leap_table.specs.rows.Table.{Row}
use Rattle.stamps.specs.Listing.{one_if_refused}
use Rattle.stamps.proofs.Texts.{date-number}
use Rattle.utc_scales.specs.UtcTai.{tai_to_utc}
use Rattle.utc.specs.text.Ascii.{ascii_bytes}
use Rattle.reasons.specs.declared.Values.TheVariants.{Parts}
use Rattle.reasons.specs.declared.sentences.Reason.{Reason}
use Rattle.reasons.specs.sentences.Render.{render}
use Rattle.reasons.specs.Sentence.{reason_of, sentence}
use Rattle.utc.specs.iso_texts.Expanded.{iso_text_expanded}
use Rattle.line_listing.specs.lines.StampLine.{as_sentence, sentence_behind, no_text}
use Rattle.line_listing.specs.lines.StampLine.{refused, text_told, utc_told, stamp_told, line_by, no_text_count}
use Rattle.line_listing.specs.lines.Asked.{answer_by, text_by, none_by, told_by, textless_by, line_told, page_text, TextAt, ToldAt}
use Rattle.line_listing.specs.declared.lines.Told.{Told}
use Rattle.std.proofs.Common.{◌-◌, ◌<◌, le-ltb, lt-ltb}
use Rattle.line_listing.specs.lines.StampLine.{recorder, index_in}

-- ---- the sentence behind a number
module _ (k : ℕ) (d : JulianDate) (res : Result Reason Refusal) (call : outcome res ≡ reason_of k (Parts d.jd1 d.jd2)) where
  from-reason : sentence_behind true k d ≡ as_sentence (onward (outcome res) (λ r. answer (render r)))
  unfolding sentence_behind sentence
  from-reason = ap (λ (o : Outcome Reason). as_sentence (onward o (λ r. answer (render r)))) (sym call)

  pub reason_told : (r : Reason) → res ≡ Ok r → ascii_bytes ": " ++ render r ≡ sentence_behind true k d
  unfolding as_sentence onward outcome
  reason_told r e = sym (from-reason ∙ ap (λ (x : Result Reason Refusal). as_sentence (onward (outcome x) (λ y. answer (render y)))) e)

  refused_reason : (n : Refusal) → res ≡ Err n → [] ≡ sentence_behind true k d
  unfolding as_sentence onward outcome
  refused_reason n e = sym (from-reason ∙ ap (λ (x : Result Reason Refusal). as_sentence (onward (outcome x) (λ y. answer (render y)))) e)

  pub no_reason : ((r : Reason) → res ≡ Ok r → ⊥) → [] ≡ sentence_behind true k d
  no_reason h = by res refl
    where
      by : (x : Result Reason Refusal) → res ≡ x → [] ≡ sentence_behind true k d
      by (Ok r) q = absurd (h r q)
      by (Err n) q = refused_reason n q

-- ---- the mark of a conversion
pub marked : (m : ℕ) (d : JulianDate) (o : Outcome JulianDate) → (m ≡ 0 → ⊥) → answer_by m d ≡ o → o ≡ refusal m
unfolding answer_by
marked m d o h e = sym e ∙ rw (ne_eqb m 0 h)

pub unmarked : (m : ℕ) (d : JulianDate) (o : Outcome JulianDate) → m ≡ 0 → answer_by m d ≡ o → o ≡ answer d
unfolding answer_by
unmarked m d o h e = sym e ∙ rw (eq-eqb m 0 h)

pub told-as : {d after : List ℕ} {at none none' : ℕ} {t t' : List ℕ} {r : Told} → t ≡ t' → none ≡ none' → ToldAt d at t none r after → ToldAt d at t' none' r
    after
told-as e f p = record { placed = placed-as e p.placed; counted = p.counted ∙ f }

-- ---- what is told by the numbers of the conversion and of the text
module _ (s : Bool) (m : ℕ) (tai date : JulianDate) (text : List ℕ) (n : ℕ) where
  pub mark_told : (m ≡ 0 → ⊥) → no_text s m tai ≡ text_by s m tai date text n
  unfolding text_by
  mark_told h = sym (rw (ne_eqb m 0 h))

  pub none_told : m ≡ 0 → (n ≡ 0 → ⊥) → no_text s n date ≡ text_by s m tai date text n
  unfolding text_by
  none_told e h = sym (rw (eq-eqb m 0 e, ne_eqb n 0 h))

  pub text-told : m ≡ 0 → n ≡ 0 → text ≡ text_by s m tai date text n
  unfolding text_by
  text-told e f = sym (rw (eq-eqb m 0 e, eq-eqb n 0 f))

module _ (m n : ℕ) where
  pub mark_counted : (m ≡ 0 → ⊥) → 1 ≡ none_by m n
  unfolding none_by
  mark_counted h = sym (rw (ne_eqb m 0 h))

  pub none-counted : m ≡ 0 → (n ≡ 0 → ⊥) → 1 ≡ none_by m n
  unfolding none_by
  none-counted e h = sym (rw (eq-eqb m 0 e, ne_eqb n 0 h))

  pub text-counted : m ≡ 0 → n ≡ 0 → 0 ≡ none_by m n
  unfolding none_by
  text-counted e f = sym (rw (eq-eqb m 0 e, eq-eqb n 0 f))

-- ---- of any stamp
module _ (s : Bool) (k m : ℕ) (tai date : JulianDate) (text : List ℕ) (n : ℕ) where
  pub refused-is : (k ≡ 0 → ⊥) → refused s k tai ≡ told_by s k m tai date text n
  unfolding told_by
  refused-is h = sym (rw (ne_eqb k 0 h))

  pub ordered-is : k ≡ 0 → text_by s m tai date text n ≡ told_by s k m tai date text n
  unfolding told_by
  ordered-is h = sym (rw (eq-eqb k 0 h))

module _ (k m n : ℕ) where
  pub refused_none : (k ≡ 0 → ⊥) → 0 ≡ textless_by k m n
  unfolding textless_by
  refused_none h = sym (rw (ne_eqb k 0 h))

  pub ordered-none : k ≡ 0 → none_by m n ≡ textless_by k m n
  unfolding textless_by
  ordered-none h = sym (rw (eq-eqb k 0 h))

  pub count-one : textless_by k m n ≤ 1
  unfolding textless_by none_by
  count-one = go (eqb k 0) (eqb m 0) (eqb n 0)
    where
      go : (a b d : Bool) → cond a (cond b (cond d 0 1) 1) 0 ≤ 1
      go true true true = omega arith
      go true true false = omega arith
      go true false d = omega arith
      go false b d = omega arith

-- ---- THE TEXT OF A PAGE is that of the stamp: by its conversion, and by the text of its UTC
module _ (s : Bool) (rows : List Row) (tai date : JulianDate) (m : ℕ) (conv : answer_by m date ≡ tai_to_utc rows tai) (i : ℕ) (texts lengths nones : List ℕ)
    (there : TextAt (iso_text_expanded rows date) i texts lengths nones) where
  abbrev n : ℕ
  n = get_or nones i 0

  abbrev text : List ℕ
  text = page_text texts lengths i

  by_utc : (o : Outcome (List ℕ)) → iso_text_expanded rows date ≡ o → m ≡ 0 → (text_by s m tai date text n ≡ text_told s date o) ×
      (none_by m n ≡ one_if_refused o)
  unfolding text_told one_if_refused
  by_utc (answer t) e z =
      let w = there.there t e in
      (sym (text-told s m tai date text n z w.0) ∙ w.1, sym (text-counted m n z w.0))
  by_utc (refusal k) e z =
      let w = there.none k e in
      let some : n ≡ 0 → ⊥ = λ q. let b : ⊥ = omega (arith, (date-number rows date k e).0, w, q) in b in
      (sym (none_told s m tai date text n z some) ∙ ap (λ (j : ℕ). no_text s j date) w, sym (none-counted m n z some))

  by-mark : (b : Bool) → eqb m 0 ≡ b
      → (text_by s m tai date text n ≡ utc_told s rows tai (tai_to_utc rows tai)) ×
      (none_by m n ≡ one_if_refused (onward (tai_to_utc rows tai) (iso_text_expanded rows)))
  unfolding utc_told onward one_if_refused
  by-mark true e =
      let z = eqb-true m 0 e in
      let u = unmarked m date (tai_to_utc rows tai) z conv in
      let w = by_utc (iso_text_expanded rows date) refl z in
      (w.0 ∙ sym (ap (utc_told s rows tai) u), w.1 ∙ sym (ap (λ (o : Outcome JulianDate). one_if_refused (onward o (iso_text_expanded rows))) u))
  by-mark false e =
      let h = eqb-false m 0 e in
      let u = marked m date (tai_to_utc rows tai) h conv in (
        sym (mark_told s m tai date text n h) ∙ sym (ap (utc_told s rows tai) u),
        sym (mark_counted m n h) ∙ sym (ap (λ (o : Outcome JulianDate). one_if_refused (onward o (iso_text_expanded rows))) u),
      )

  pub told_is : (k : ℕ) → told_by s k m tai date text n ≡ stamp_told s rows tai k
  unfolding told_by stamp_told
  told_is k = ap (λ (l : List ℕ). cond (eqb k 0) l (refused s k tai)) (by-mark (eqb m 0) refl).0

  pub count-is : (k : ℕ) → textless_by k m n ≡ no_text_count rows tai k
  unfolding textless_by no_text_count
  count-is k = ap (λ (j : ℕ). cond (eqb k 0) j 0) (by-mark (eqb m 0) refl).1

  pub line-is : (first second p k : ℕ) → line_told first second p (told_by s k m tai date text n) ≡ line_by s rows first second p tai k
  unfolding line_told line_by
  line-is first second p k = ap (line_told first second p) (told_is k)

-- ---- the recorder: its word and its own number of a stamp
module _ (first second p : ℕ) where
  pub gps-word : p < first → ascii_bytes "gps " ≡ recorder first second p
  unfolding recorder
  gps-word h = sym (rw (lt-ltb p first h))

  pub tai-word : first ≤ p → p - first < second → ascii_bytes "tai " ≡ recorder first second p
  unfolding recorder
  tai-word h g = sym (rw (le-ltb p first h, lt-ltb (p - first) second g))

  pub utc-word : first ≤ p → second ≤ p - first → ascii_bytes "utc " ≡ recorder first second p
  unfolding recorder
  utc-word h g = sym (rw (le-ltb p first h, le-ltb (p - first) second g))

  pub gps-index : p < first → p ≡ index_in first second p
  unfolding index_in
  gps-index h = sym (rw (lt-ltb p first h))

  pub tai-index : first ≤ p → p - first < second → p - first ≡ index_in first second p
  unfolding index_in
  tai-index h g = sym (rw (le-ltb p first h, lt-ltb (p - first) second g))

  pub utc-index : first ≤ p → second ≤ p - first → p - first - second ≡ index_in first second p
  unfolding index_in
  utc-index h g = sym (rw (le-ltb p first h, le-ltb (p - first) second g))
