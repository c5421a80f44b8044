-- The texts of a run put one after the other. Assumes nothing.
use Prim.Native.Nat.{ℕ, zero, suc, ◌+◌, ◌*◌, ◌%◌, ◌≤◌}
use native.Mathlib.Omega.{arith}
use native.Mathlib.Numerals.{add-one}
use mathlib.Core.Path.{◌≡◌, refl, sym, ap, subst, ◌∙◌}
use mathlib.Core.Bool.{Bool, true, false, cond}
use mathlib.Core.List.{List, ◌++◌, append_assoc}
use lib.Dec.{eqb}
use lib.ListN.{length, set, length-set, take, drop, length-drop, take-append-drop}
use lib.Seq.{sets, sets-eq, length-sets, length-take-le, drop-append-le, drop-drop}
use borrow.Rule.Slice.PartMut.{mid_of, post_of, put_mid}
use borrow.Author.Tests.{le-leb}
use Rattle.std.specs.Prelude.{Result, Ok, Err}
use Rattle.refusals.specs.Refusal.{refusal_number}
use Rattle.refusals.specs.declared.Refusal.{Refusal}
use Rattle.refusals.specs.Outcome.{Outcome, answer, refusal, onward, outcome}
use Rattle.julian.specs.declared.JulianDate.{JulianDate}
use Rattle.julian.specs.stamp_lists.Stamps.{stamp_of}
use Rattle.leap_table.specs.declared.offsets.Rule.{Rule}
use Rattle.leap_table.specs.rows.Table.{Row}
use Rattle.leap_table.specs.offsets.Rule.{with_rule, forget}
use Rattle.utc.specs.text.Answer.{text_written, buffer_after}
use Rattle.utc.specs.declared.iso_texts.NamedForm.{NamedForm}
use Rattle.utc.specs.iso_texts.IsoText.{iso_text_by}
use Rattle.utc.specs.iso_texts.TextCall.{buffer_holds}
use Rattle.utc.specs.iso_texts.ByRule.{text_by_rule, written_by_rule, TextRuleCall}
use Rattle.utc.specs.iso_texts.Named.{form_named}
use Rattle.utc.specs.declared.run_texts.Beside.{Beside}
use Rattle.utc.specs.run_texts.RunTexts.{stamp_text, length_byte, refusal_byte, with_text, with_texts, with_bytes, texts_refused}
use Rattle.utc.specs.run_texts.Asked.{TextBeside, TextPlaced, TextsPlaced}
use Rattle.utc.proofs.iso_texts.TextRules.{text-forgets}
use Rattle.utc.proofs.laws.NamedTexts.{named-text-few}
use Prim.Native.Nat.{◌<◌}

-- ---- lengths
pub text-kept : (o : Outcome (List ℕ)) (i : ℕ) (l : List ℕ) → length (with_text o i l) ≡ length l
unfolding with_text
text-kept (answer t) i l = length-sets l (27 * i) t
text-kept (refusal k) i l = refl

pub texts-kept : (f : ℕ → Outcome (List ℕ)) (n : ℕ) (l : List ℕ) → length (with_texts f n l) ≡ length l
unfolding with_texts
texts-kept f zero l = refl
texts-kept f (suc n) l = text-kept (f n) n (with_texts f n l) ∙ texts-kept f n l

pub bytes-kept : (byte : Outcome (List ℕ) → ℕ) (f : ℕ → Outcome (List ℕ)) (n : ℕ) (l : List ℕ) → length (with_bytes byte f n l) ≡ length l
unfolding with_bytes
bytes-kept byte f zero l = refl
bytes-kept byte f (suc n) l = length-set (with_bytes byte f n l) n (byte (f n)) ∙ bytes-kept byte f n l

-- ---- a text in a part of 27 bytes from `at` on
module _ (l t : List ℕ) (at : ℕ) (h : at + 27 ≤ length l) (few : length t ≤ 27) where
  part_length : length (mid_of at 27 l) ≡ 27
  part_length = length-take-le 27 (drop at l) (omega (arith, length-drop at l))

  rest : drop (length t) (mid_of at 27 l) ++ post_of at 27 l ≡ drop (at + length t) l
  rest =
      sym (drop-append-le (length t) (mid_of at 27 l) (post_of at 27 l) (omega (arith, part_length)))
      ∙ ap (drop (length t)) (take-append-drop 27 (drop at l)) ∙ drop-drop (length t) at l

  pub text_in_part : put_mid at 27 l (buffer_after t (mid_of at 27 l)) ≡ sets l at t
  unfolding buffer_after
  text_in_part =
      simp (le-leb (length t) (length (mid_of at 27 l)) (omega (arith, part_length)))
      (ap (λ (x : List ℕ). take at l ++ x) (append_assoc t (drop (length t) (mid_of at 27 l)) (post_of at 27 l))
      ∙ ap (λ (x : List ℕ). take at l ++ (t ++ x)) rest
      ∙ sym (append_assoc (take at l) t (drop (at + length t) l))
      ∙ sym (sets-eq t l at (omega arith)))

-- what lies in its place is put back as it was
pub part-as-it-was : (l : List ℕ) (at : ℕ) → put_mid at 27 l (mid_of at 27 l) ≡ l
part-as-it-was l at = ap (λ (x : List ℕ). take at l ++ x) (take-append-drop 27 (drop at l)) ∙ take-append-drop at l

pub part-unchanged : (l : List ℕ) (at k : ℕ) (out : List ℕ) → k ≡ 27 → out ≡ mid_of at k l → put_mid at k l out ≡ l
part-unchanged l at k out ek e =
    ap (put_mid at k l) e ∙ ap (λ (x : ℕ). put_mid at x l (mid_of at x l)) ek ∙ part-as-it-was l at

pub part_room : (l : List ℕ) (at k : ℕ) → k ≡ 27 → at + 27 ≤ length l → 27 ≤ length (mid_of at k l)
part_room l at k ek h = subst (λ (x : ℕ). 27 ≤ length (mid_of at x l)) (sym ek) (omega (arith, length-take-le 27 (drop at l) (omega (arith, length-drop at l))))

-- ---- one stamp: what stands beside its text, by what the text call answers
unfoldable pub beside_of : Result (ℕ × Rule) Refusal → Beside
beside_of (Ok (n, rule)) = record { length = n % 256; number = 0 }
beside_of (Err k) = record { length = 0; number = refusal_number k % 256 }

beside-refused : (r : Result (ℕ × Rule) Refusal) (k : ℕ) → outcome r ≡ refusal k → beside_of r ≡ record { length = 0; number = k % 256 }
unfolding beside_of outcome
beside-refused (Ok (n, rule)) k e = let z : ◌≡◌ {A = ℕ} 0 1 = cc e in let w : ⊥ = omega arith in absurd w
beside-refused (Err j) k e = let z : refusal_number j ≡ k = cc e in ap (λ (x : ℕ). record { length = 0; number = x % 256 }) z

-- the bytes that are said to be written
abbrev written_count : Outcome (ℕ × Rule) → ℕ
written_count (answer p) = p.0
written_count (refusal k) = 0

beside-written : (r : Result (ℕ × Rule) Refusal) (n : ℕ) (rule : Rule) → n ≤ 27 → outcome r ≡ answer (n, rule) → beside_of r ≡ record { length = n; number = 0 }
unfolding beside_of outcome
beside-written (Err j) n rule h e = let z : ◌≡◌ {A = ℕ} 0 1 = cc e in let w : ⊥ = omega arith in absurd w
beside-written (Ok (m, rule')) n rule h e =
    let z : m ≡ n = ap written_count e in
    let small : m % 256 ≡ n = omega arith in
    ap (λ (x : ℕ). record { length = x; number = 0 }) small

-- the call writes into a buffer of 27 bytes or more; o is the text with the rule of its day
pub text-beside : (l : List ℕ) → 27 ≤ length l → (o : Outcome (List ℕ × Rule)) (r : Result (ℕ × Rule) Refusal) (out : List ℕ)
    → ((t : List ℕ) → forget o ≡ answer t → length t ≤ 27) → TextRuleCall o l r out → TextBeside (forget o) l (beside_of r) out
unfolding written_by_rule with_rule text_written forget onward length_byte refusal_byte
text-beside l h (refusal k) r out few p =
    let e = beside-refused r k p.says in
    record { length = ap (λ (b : Beside). b.length) e; number = ap (λ (b : Beside). b.number) e; holds = p.holds }
text-beside l h (answer u) r out few p =
    let most : length u.0 ≤ 27 = few u.0 refl in
    let room : length u.0 ≤ length l = omega arith in
    let says : outcome r ≡ answer (length u.0, u.1) = p.says ∙ rw (le-leb (length u.0) (length l) room) in
    let e = beside-written r (length u.0) u.1 most says in
    record { length = ap (λ (b : Beside). b.length) e; number = ap (λ (b : Beside). b.number) e; holds = p.holds }

-- in the part of stamp i
pub beside_placed : (l : List ℕ) (i : ℕ) → 27 * i + 27 ≤ length l → (o : Outcome (List ℕ)) (b : Beside) (out : List ℕ)
    → ((t : List ℕ) → o ≡ answer t → length t ≤ 27) → TextBeside o (mid_of (27 * i) 27 l) b out → TextPlaced o i l b (put_mid (27 * i) 27 l out)
unfolding buffer_holds with_text
beside_placed l i h (refusal k) b out few p =
    record { length = p.length; number = p.number; text = ap (put_mid (27 * i) 27 l) p.holds ∙ part-as-it-was l (27 * i) }
beside_placed l i h (answer t) b out few p =
    record { length = p.length; number = p.number; text = ap (put_mid (27 * i) 27 l) p.holds ∙ text_in_part l t (27 * i) h (few t refl) }

-- ---- a run
one_at_most : (b : Bool) → cond b 0 1 ≤ 1
one_at_most true = omega arith
one_at_most false = omega arith

pub at_most : (f : ℕ → Outcome (List ℕ)) (n : ℕ) → texts_refused f n ≤ n
unfolding texts_refused
at_most f zero = omega arith
at_most f (suc n) = omega (arith, at_most f n, one_at_most (eqb (refusal_byte (f n)) 0))

-- i stamps are put
module _ {f : ℕ → Outcome (List ℕ)} {texts₀ lengths₀ numbers₀ : List ℕ} where
  pub putting_starts : TextsPlaced f 0 texts₀ lengths₀ numbers₀ 0 texts₀ lengths₀ numbers₀
  unfolding with_texts with_bytes texts_refused
  putting_starts = record { count = refl; first = refl; second = refl; third = refl }

  module _ {texts lengths numbers : List ℕ} {refused i : ℕ} (p : TextsPlaced f i texts₀ lengths₀ numbers₀ refused texts lengths numbers) where
    pub few : refused ≤ i
    few = omega (arith, p.count, at_most f i)

    pub putting_goes : {texts' : List ℕ} {r : Beside} → TextPlaced (f i) i texts r texts' → (refused' : ℕ) → refused' ≡ refused + cond (eqb r.number 0) 0 1
        → TextsPlaced f (i + 1) texts₀ lengths₀ numbers₀ refused' texts' (set lengths i r.length) (set numbers i r.number)
    unfolding with_texts with_bytes texts_refused
    putting_goes {texts'} {r} s refused' e =
        subst (λ (j : ℕ). TextsPlaced f j texts₀ lengths₀ numbers₀ refused' texts' (set lengths i r.length) (set numbers i r.number))
        (sym (add-one i))
        (record {
          count = e ∙ (λ k. p.count k + cond (eqb (s.number k) 0) 0 1);
          first = s.text ∙ ap (with_text (f i) i) p.first;
          second = (λ k. set (p.second k) i (s.length k));
          third = (λ k. set (p.third k) i (s.number k));
        })

-- ---- a date by the text call of its form
pub date-beside : (textForm : NamedForm) (rows : List Row) (d : JulianDate) (l : List ℕ) (r : Result (ℕ × Rule) Refusal) (out : List ℕ) (b : Beside)
    → 27 ≤ length l → b ≡ beside_of r → TextRuleCall (text_by_rule (form_named textForm) rows d) l r out
    → TextBeside (iso_text_by (form_named textForm) rows d) l b out
date-beside textForm rows d l r out b h e p =
    let f = text-forgets (form_named textForm) rows d in
    subst (λ (x : Beside). TextBeside (iso_text_by (form_named textForm) rows d) l x out) (sym e)
    (subst (λ (x : Outcome (List ℕ)). TextBeside x l (beside_of r) out) f
    (text-beside l h (text_by_rule (form_named textForm) rows d) r out (λ t g. named-text-few textForm rows d t (sym f ∙ g)) p))

-- ---- the stamp at place i: d is its date, k the bytes of its part
pub stamp-placed : (textForm : NamedForm) (rows : List Row) (js ks l : List ℕ) (i k : ℕ) (d : JulianDate) (b : Beside) (out : List ℕ)
    → k ≡ 27 → d ≡ stamp_of js ks i → 27 * i + 27 ≤ length l → TextBeside (iso_text_by (form_named textForm) rows d) (mid_of (27 * i) k l) b out
    → TextPlaced (stamp_text (form_named textForm) rows js ks i) i l b (put_mid (27 * i) k l out)
stamp-placed textForm rows js ks l i k d b out ek ed h p =
    subst (λ (x : ℕ). TextPlaced (stamp_text (form_named textForm) rows js ks i) i l b (put_mid (27 * i) x l out)) (sym ek)
    (subst (λ (x : JulianDate). TextPlaced (iso_text_by (form_named textForm) rows x) i l b (put_mid (27 * i) 27 l out)) ed
    (beside_placed l i h (iso_text_by (form_named textForm) rows d) b out (λ t e. named-text-few textForm rows d t e)
    (subst (λ (x : ℕ). TextBeside (iso_text_by (form_named textForm) rows d) (mid_of (27 * i) x l) b out) ek p)))

-- the same after a part that was lent and came back as it was
pub stamp-placed-again : (textForm : NamedForm) (rows : List Row) (js ks l l' : List ℕ) (i k : ℕ) (d : JulianDate) (b : Beside) (out : List ℕ)
    → k ≡ 27 → d ≡ stamp_of js ks i → 27 * i + 27 ≤ length l → l' ≡ l → TextBeside (iso_text_by (form_named textForm) rows d) (mid_of (27 * i) k l') b out
    → TextPlaced (stamp_text (form_named textForm) rows js ks i) i l b (put_mid (27 * i) k l' out)
stamp-placed-again textForm rows js ks l l' i k d b out ek ed h e p =
    subst (λ (x : List ℕ). TextPlaced (stamp_text (form_named textForm) rows js ks i) i l b (put_mid (27 * i) k x out)) (sym e)
    (stamp-placed textForm rows js ks l i k d b out ek ed h
    (subst (λ (x : List ℕ). TextBeside (iso_text_by (form_named textForm) rows d) (mid_of (27 * i) k x) b out) e p))

-- ---- i stamps of n are put: the three lists keep their lengths, and where no stamp is left all are put
pub record Putting (f : ℕ → Outcome (List ℕ)) (n : ℕ) (texts₀ lengths₀ numbers₀ texts lengths numbers : List ℕ) (refused i : ℕ) : Type 0 where
  pub high : i ≤ n
  pub put : TextsPlaced f i texts₀ lengths₀ numbers₀ refused texts lengths numbers

module _ (f : ℕ → Outcome (List ℕ)) (n : ℕ) (texts₀ lengths₀ numbers₀ : List ℕ) where
  pub none_put : Putting f n texts₀ lengths₀ numbers₀ texts₀ lengths₀ numbers₀ 0 0
  none_put = record { high = omega arith; put = putting_starts }

  module _ (texts lengths numbers : List ℕ) (refused i : ℕ) (p : Putting f n texts₀ lengths₀ numbers₀ texts lengths numbers refused i) where
    pub len1 : length texts ≡ length texts₀
    len1 = ap length p.put.first ∙ texts-kept f i texts₀

    pub len2 : length lengths ≡ length lengths₀
    len2 = ap length p.put.second ∙ bytes-kept length_byte f i lengths₀

    pub len3 : length numbers ≡ length numbers₀
    len3 = ap length p.put.third ∙ bytes-kept refusal_byte f i numbers₀

    pub one_more_put : (texts' : List ℕ) (r : Beside) (one : ℕ) → i < n → TextPlaced (f i) i texts r texts' → one ≡ cond (eqb r.number 0) 0 1
        → Putting f n texts₀ lengths₀ numbers₀ texts' (set lengths i r.length) (set numbers i r.number) (refused + one) (i + 1)
    one_more_put texts' r one h s e = record { high = omega arith; put = putting_goes p.put s (refused + one) (ap (λ (x : ℕ). refused + x) e) }

    pub putting_ends : n ≤ i → TextsPlaced f n texts₀ lengths₀ numbers₀ refused texts lengths numbers
    putting_ends h =
        let e : i ≡ n = omega (arith, p.high) in
        subst (λ (j : ℕ). TextsPlaced f j texts₀ lengths₀ numbers₀ refused texts lengths numbers) e p.put
