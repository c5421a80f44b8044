-- The date in another scale, taken out of its wrapper by `map`, and what its definition answers. Assumes nothing.
use mathlib.Core.Path.{◌≡◌, ap}
use Rattle.std.specs.Prelude.{Result, Ok, Err, IsOkAnd, MatchResult}
use Rattle.refusals.specs.declared.Refusal.{Refusal}
use Rattle.refusals.specs.Outcome.{answer, outcome, seen}
use Rattle.refusals.proofs.Handed.{handed}

pub mapped : {A B : Type 0} (f : A → B) (s : Result A Refusal) (m : Result B Refusal) {P : A → B → Type 0}
    → MatchResult s (λ x. IsOkAnd m (P x)) (λ e. m ≡ Err e) → ((x : A) (y : B) → P x y → y ≡ f x) → outcome m ≡ seen f s
unfolding outcome seen
mapped f (Ok a) (Ok b) e h = ap answer (h a b e)
mapped f (Ok a) (Err k) e h = absurd e
mapped f (Err k) m e h = handed e
