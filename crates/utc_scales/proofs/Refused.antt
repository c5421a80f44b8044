-- What `?` hands on is the refusal that it met, whatever is asked of a refusal. Assumes nothing.
use Rattle.std.specs.Prelude.{◌≡◌, Result, Ok, Err, IsErrAnd}
use Rattle.std.proofs.Common.{sym, subst}
use Rattle.refusals.specs.declared.Refusal.{Refusal}

pub where_err : {A : Type 0} (P : Result A Refusal → Type 0) (r : Result A Refusal) (k : Refusal) → IsErrAnd r (λ e. e ≡ k) → P (Err k) → P r
where_err P (Err e) k p x = subst (λ (y : Refusal). P (Err y)) (sym p) x
where_err P (Ok a) k p x = absurd p
