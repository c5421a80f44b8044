-- A text is read where no line is at fault, and else refused at the first that is. Assumes nothing.
use Prim.Native.Nat.{ℕ, zero, suc, ◌+◌, ◌<◌}
use native.Mathlib.Omega.{arith}
use mathlib.Core.Path.{◌≡◌, refl, ap, ◌∙◌}
use mathlib.Core.List.{List, [], ◌∷◌}
use mathlib.Core.Bool.{Bool, true, false}
use lib.ListN.{length}
use lib.Dec.{eqb}
use borrow.Author.Tests.{eqb-true, eqb-false}
use Rattle.leap_lists.specs.declared.held.Held.{Held}
use Rattle.leap_lists.specs.lines.Lines.{line_says}
use Rattle.leap_lists.specs.Held.{none_held, line_fault, with_line}
use Rattle.leap_lists.specs.Texts.{lines_of}
use Rattle.leap_lists.specs.Reading.{refused_at, read_from, read_of}
use Rattle.leap_lists.specs.Verdict.{held_to, fault_at, ListVerdict, taken, refused}
use Rattle.leap_lists.proofs.Reading.{fault_there, no_fault}

-- one line more in front
module _ (h : Held) (n : ℕ) (l : List ℕ) (ls : List (List ℕ)) (z : line_fault h (line_says l) ≡ 0) where
  under : (f : (i : ℕ) → i < length ls → fault_at (with_line h (line_says l)) ls i ≡ 0) (i : ℕ) → i < suc (length ls) → fault_at h (l ∷ ls) i ≡ 0
  unfolding held_to
  under f zero g = z
  under f (suc i) g = f i (omega arith)

  below : (k : ℕ) (f : (i : ℕ) → i < k → fault_at (with_line h (line_says l)) ls i ≡ 0) (i : ℕ) → i < suc k → fault_at h (l ∷ ls) i ≡ 0
  unfolding held_to
  below k f zero g = z
  below k f (suc i) g = f i (omega arith)

  more : ListVerdict (with_line h (line_says l)) (n + 1) ls (read_from (with_line h (line_says l)) (n + 1) ls) → ListVerdict h n (l ∷ ls)
      (read_from h n (l ∷ ls))
  unfolding held_to
  more (taken f e) = taken (under f) (no_fault h n l ls z ∙ e)
  more (refused i g f k e) =
      refused (suc i) (omega arith) (below i f) k
      (no_fault h n l ls z ∙ e ∙ ap (refused_at (fault_at (with_line h (line_says l)) ls i)) (let s : n + 1 + suc i ≡ n + suc (suc i) = omega arith in s))

at_first : (h : Held) (n : ℕ) (l : List ℕ) (ls : List (List ℕ)) → (line_fault h (line_says l) ≡ 0 → ⊥) → ListVerdict h n (l ∷ ls) (read_from h n (l ∷ ls))
unfolding held_to
at_first h n l ls k =
    refused 0 (omega arith) (λ j g. absurd (let no : ⊥ = omega arith in no)) k (fault_there h n l ls (line_fault h (line_says l)) k refl)

pub verdict : (h : Held) (n : ℕ) (ls : List (List ℕ)) → ListVerdict h n ls (read_from h n ls)
unfolding read_from held_to
verdict h n [] = taken (λ i g. absurd (let no : ⊥ = omega arith in no)) refl
verdict h n (l ∷ ls) = either (eqb (line_fault h (line_says l)) 0) refl (verdict (with_line h (line_says l)) (n + 1) ls)
  where
    either : (b : Bool) → eqb (line_fault h (line_says l)) 0 ≡ b
        → ListVerdict (with_line h (line_says l)) (n + 1) ls (read_from (with_line h (line_says l)) (n + 1) ls) → ListVerdict h n (l ∷ ls)
        (read_from h n (l ∷ ls))
    either true e v = more h n l ls (eqb-true _ _ e) v
    either false e v = at_first h n l ls (eqb-false _ _ e)

-- of a whole text
pub text-verdict : (t : List ℕ) → ListVerdict none_held 0 (lines_of t) (read_of t)
unfolding read_of
text-verdict t = verdict none_held 0 (lines_of t)
