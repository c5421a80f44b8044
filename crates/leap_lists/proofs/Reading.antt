-- A text read line by line. Assumes nothing.
use Rattle.std.proofs.Common.{◌≡◌, ℕ, ◌+◌, ◌<◌, ◌≤◌, List, [], ◌∷◌, ◌++◌, length, get_or, drop, cond, eqb, ◌⊎◌, inl, inr, refl, sym, ap, subst, ◌∙◌}
use Rattle.std.proofs.Common.{arith, eq-eqb, ne_eqb}
use Rattle.std.proofs.lemmas.List.{at_drop_more, at_drop_all}
use Rattle.std.proofs.lemmas.List.FromFn.{length-enumerate_from, get_or-enumerate_from}
use Rattle.std.specs.List.{enumerate_from}
use Rattle.std.specs.Prelude.{Result, Ok, Err, IsErrAnd, MatchResult}
use Rattle.refusals.specs.declared.Refusal.{Refusal}
use Rattle.refusals.specs.Refusal.{refusal_number}
use Rattle.refusals.specs.Outcome.{number_said}
use Rattle.refusals.proofs.Handed.{number_low}
use Rattle.leap_lists.specs.declared.ListRead.{ListRead}
use Rattle.leap_lists.specs.declared.ListFault.{ListFault}
use Rattle.leap_lists.specs.declared.held.Held.{Held}
use Rattle.leap_lists.specs.lines.Scan.{behind_blanks, ended}
use Rattle.leap_lists.specs.lines.Lines.{line_from, line_says}
use Rattle.leap_lists.specs.Held.{none_held, line_fault, with_line}
use Rattle.leap_lists.specs.Texts.{lines_of}
use Rattle.leap_lists.specs.Reading.{ListAnswer, list_told, answered, refused_at, read_from, read_of}
use Rattle.leap_lists.proofs.Texts.{parts, parts-are}
use Rattle.std.proofs.Common.{suc, ◌-◌, take, Bool, true, false, ltb}
use lib.ListN.{length-drop, drop_of_length-le}
use lib.Seq.{drop-drop}
use borrow.Author.Tests.{ltb-true, ltb-false}
use Rattle.leap_lists.proofs.Texts.{first_line, Behind, first_part, lines-first}

-- ---- what is judged of a line, by the number that its definition gives
pub at_fault : {r : Result Unit Refusal} {k : Refusal} {n : ℕ} → r ≡ Err k → number_said r ≡ n → (refusal_number k ≡ 0 → ⊥) × (refusal_number k ≡ n)
unfolding number_said
at_fault {k = k} e f = ((λ z. let low = number_low k in omega arith), sym (ap number_said e) ∙ f)

pub taken : {r : Result Unit Refusal} {u : Unit} {n : ℕ} → r ≡ Ok u → number_said r ≡ n → n ≡ 0
unfolding number_said
taken e f = sym f ∙ ap number_said e

module _ (h : Held) (n : ℕ) (l : List ℕ) (ls : List (List ℕ)) where
  pub fault_there : (k : ℕ) → (k ≡ 0 → ⊥) → k ≡ line_fault h (line_says l) → read_from h n (l ∷ ls) ≡ refused_at k (n + 1)
  unfolding read_from
  fault_there k z e = let no : line_fault h (line_says l) ≡ 0 → ⊥ = λ g. z (e ∙ g) in rw (ne_eqb _ _ no, e)

  pub no_fault : line_fault h (line_says l) ≡ 0 → read_from h n (l ∷ ls) ≡ read_from (with_line h (line_says l)) (n + 1) ls
  unfolding read_from
  no_fault e = rw (eq-eqb _ _ e)

-- ---- a text by the parts between its newlines: an empty one behind the last says nothing
blank-last : (h : Held) (n : ℕ) (ls : List (List ℕ)) → read_from h n (ls ++ ([] ∷ [])) ≡ read_from h n ls
unfolding read_from line_says line_from ended behind_blanks line_fault with_line
blank-last h n [] = refl
blank-last h n (l ∷ ls) =
    ap (λ (r : ListAnswer). cond (eqb (line_fault h (line_says l)) 0) r (refused_at (line_fault h (line_says l)) (n + 1)))
    (blank-last (with_line h (line_says l)) (n + 1) ls)

pub by_parts : (t : List ℕ) → read_from none_held 0 (parts t) ≡ read_of t
unfolding read_of
by_parts t = either (parts-are t)
  where
    either : (parts t ≡ lines_of t) ⊎ (parts t ≡ lines_of t ++ ([] ∷ [])) → read_from none_held 0 (parts t) ≡ read_from none_held 0 (lines_of t)
    either (inl e) = ap (read_from none_held 0) e
    either (inr e) = ap (read_from none_held 0) e ∙ blank-last none_held 0 (lines_of t)

-- the part that a turn of the loop has, and those behind it
pub turned : (h : Held) (ls : List (List ℕ)) (k i : ℕ) (l : List ℕ)
    → (k < length (enumerate_from 0 ls)) × ((i, l) ≡ get_or (enumerate_from 0 ls) k (i, l))
    → (i ≡ k) × (read_from h k (drop k ls) ≡ read_from h k (l ∷ drop (k + 1) ls))
turned h ls k i l t =
    let lt : k < length ls = omega (arith, t.0, length-enumerate_from 0 ls) in
    let e = t.1 ∙ get_or-enumerate_from 0 ls k (i, l) lt in (
      ap (λ (p : ℕ × List ℕ). p.0) e ∙ (let z : 0 + k ≡ k = omega arith in z),
      at_drop_more (read_from h k) ls k l lt ∙ ap (λ (p : ℕ × List ℕ). read_from h k (p.1 ∷ drop (k + 1) ls)) (sym e),
    )

pub all_read : (h : Held) (n k : ℕ) (ls : List (List ℕ)) → length ls ≤ k → answered h ≡ read_from h n (drop k ls)
unfolding read_from
all_read h n k ls e = sym (at_drop_all (read_from h n) ls k e)

-- what `map_err` makes of what is judged
pub at_err : (j : Result Unit Refusal) (m : Result Unit ListFault) (f : ListFault) (made : Refusal → ListFault → Type 0)
    → MatchResult j (λ x. m ≡ Ok x) (λ e. IsErrAnd m (made e)) → m ≡ Err f → (k : Refusal) × (j ≡ Err k) × made k f
at_err (Ok x) m f made a e = let z : ◌≡◌ {A = Result Unit ListFault} (Ok x) (Err f) = sym a ∙ e in let y : ◌≡◌ {A = ℕ} 0 1 = cc in absurd (omega arith)
at_err (Err k) m f made a e = (k, refl, subst (λ (r : Result Unit ListFault). IsErrAnd r (made k)) e a)

pub at_ok : (j : Result Unit Refusal) (m : Result Unit ListFault) (u : Unit) (made : Refusal → ListFault → Type 0)
    → MatchResult j (λ x. m ≡ Ok x) (λ e. IsErrAnd m (made e)) → m ≡ Ok u → (v : Unit) × (j ≡ Ok v)
at_ok (Ok x) m u made a e = (x, refl)
at_ok (Err k) m u made a e = absurd (subst (λ (r : Result Unit ListFault). IsErrAnd r (made k)) e a)

pub told_err : (r : Result ListRead ListFault) (f : ListFault) → IsErrAnd r (λ e. e ≡ f) → list_told r ≡ refused_at (refusal_number f.refusal) f.line
unfolding list_told
told_err (Err e) f p = ap (λ (x : ListFault). refused_at (refusal_number x.refusal) x.line) p
told_err (Ok x) f p = absurd p

-- ---- a text from an index on: it is read from its first byte, and where nothing is left it is all read
pub from_first : (t : List ℕ) → read_from none_held 0 (lines_of (drop 0 t)) ≡ read_of t
unfolding read_of
from_first t = refl

pub text-read : (h : Held) (n : ℕ) (t : List ℕ) (at : ℕ) → length t ≤ at → answered h ≡ read_from h n (lines_of (drop at t))
unfolding read_from lines_of
text-read h n t at e = rw (drop_of_length-le t e)

-- ---- the line from index `at` to `end`, and those behind it
module _ (t : List ℕ) (at end : ℕ) (h : at < length t) (e : end ≡ at + length (first_line (drop at t))) where
  pub this_line : take (end - at) (drop at t) ≡ first_line (drop at t)
  this_line = let n : end - at ≡ length (first_line (drop at t)) = omega arith in ap (λ (k : ℕ). take k (drop at t)) n ∙ first_part (drop at t)

  pub lines-on : (r : ℕ) → drop r t ≡ drop (end + 1) t → lines_of (drop at t) ≡ take (end - at) (drop at t) ∷ lines_of (drop r t)
  lines-on r g =
      let some : 0 < length (drop at t) = (rw (length-drop at t) (omega arith)) in
      let n : at + suc (length (first_line (drop at t))) ≡ end + 1 = omega arith in
      let d : drop (suc (length (first_line (drop at t)))) (drop at t) ≡ drop r t =
      drop-drop (suc (length (first_line (drop at t)))) at t ∙ ap (λ (k : ℕ). drop k t) n ∙ sym g in
      lines-first (drop at t) some ∙ (λ i. sym this_line i ∷ lines_of (d i))

-- the next line begins further on
pub further : (t : List ℕ) (at end r : ℕ) → at < length t → at ≤ end → Behind t end r → at < r
further t at end r h f b = either (ltb end (length t)) refl
  where
    either : (x : Bool) → ltb end (length t) ≡ x → at < r
    either true g = omega (arith, b.later (ltb-true end (length t) g))
    either false g = omega (arith, b.not_before, ltb-false end (length t) g)
