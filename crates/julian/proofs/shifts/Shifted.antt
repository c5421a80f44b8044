-- What a shifted date is and says, where it may be refused: of the refusals by number, and of another type's by whatever numbering. Assumes nothing.
use Rattle.std.proofs.Common.{◌≡◌, refl, ap, sym, ◌∙◌, ℕ}
use Rattle.std.specs.Prelude.{Float, Result, Ok, Err, IsErrAnd}
use Rattle.refusals.specs.declared.Refusal.{Refusal}
use Rattle.refusals.specs.Outcome.{Outcome, answer, refusal, onward, outcome, seen}
use Rattle.refusals.proofs.Handed.{answered, handed, seen_handed_on}
use Rattle.julian.specs.declared.JulianDate.{JulianDate}
use Rattle.julian.specs.shifts.SmallerPart.{map_smaller_part}
use Rattle.julian.specs.shifts.Shifts.{changed, shifted}

pub shifted_says : (f : Float → Float → Float) (a : Result JulianDate Refusal) → outcome (shifted f a) ≡ onward (outcome a) (changed f)
unfolding outcome onward changed shifted
shifted_says f (Ok d) = refl
shifted_says f (Err r) = refl

-- what a result says, where its refusals are numbered by k
abbrev pub outcome_by : {A E : Type 0} → (E → ℕ) → Result A E → Outcome A
outcome_by k (Ok a) = answer a
outcome_by k (Err e) = refusal (k e)

pub shifted_says_by : {E : Type 0} (k : E → ℕ) (f : Float → Float → Float) (a : Result JulianDate E)
    → outcome_by k (shifted f a) ≡ onward (outcome_by k a) (changed f)
unfolding onward changed shifted
shifted_says_by k f (Ok d) = refl
shifted_says_by k f (Err e) = refl

-- a date that may be refused by its two cases, as `later` and `earlier` find them
pub of-date : {E : Type 0} (f : Float → Float → Float) (a : Result JulianDate E) (d x : JulianDate) → a ≡ Ok d → x ≡ map_smaller_part f d
    → Ok x ≡ shifted f a
unfolding shifted
of-date f a d x is e = ap Ok e ∙ sym (ap (shifted f) is)

pub of-refusal : {E : Type 0} (f : Float → Float → Float) (a s : Result JulianDate E) (k : E) → a ≡ Err k → IsErrAnd s (λ e. e ≡ k) → s ≡ shifted f a
unfolding shifted
of-refusal f a (Err e) k is p = ap Err p ∙ sym (ap (shifted f) is)
of-refusal f a (Ok d) k is p = absurd p

-- ---- what a call says that shifts a date which was tested before, and sees the answer by g
pub shifted-refused : {B : Type 0} (g : B → JulianDate) (f : Float → Float → Float) (a r : Result JulianDate Refusal) (s : Result B Refusal) (k : Refusal)
    (o : Outcome JulianDate) → outcome a ≡ o → r ≡ shifted f a → r ≡ Err k → IsErrAnd s (λ e. e ≡ k) → seen g s ≡ onward o (changed f)
shifted-refused g f a r s k o h e is p =
    seen_handed_on g s k p ∙ sym (handed is) ∙ ap outcome e ∙ shifted_says f a ∙ ap (λ (x : Outcome JulianDate). onward x (changed f)) h

pub shifted-answered : (f : Float → Float → Float) (a r : Result JulianDate Refusal) (d : JulianDate) (o : Outcome JulianDate)
    → outcome a ≡ o → r ≡ shifted f a → r ≡ Ok d → answer d ≡ onward o (changed f)
shifted-answered f a r d o h e is = sym (answered is) ∙ ap outcome e ∙ shifted_says f a ∙ ap (λ (x : Outcome JulianDate). onward x (changed f)) h
