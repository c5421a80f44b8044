-- A date whose first part is the larger one, and a change of its smaller part: the first part is handed back, and the second is changed. Assumes nothing.
use mathlib.Core.Path.{◌≡◌, ap, ◌∙◌}
use mathlib.Core.Bool.{Bool, true}
use Prim.Native.Nat.{ℕ, ◌+◌, ◌-◌, ◌≤◌}
use native.Mathlib.Omega.{arith}
use lib.Ieee.{Float}
use borrow.Author.Tests.{le-leb}
use Rattle.refusals.specs.Outcome.{Outcome, answer, onward}
use Rattle.refusals.proofs.Onward.{went}
use Rattle.rounding.specs.Value.{Val, L}
use Rattle.rounding.proofs.Value.{L-pos, abs-val}
use Rattle.rounding.proofs.Signed.{dist}
use Rattle.rounding.proofs.Compare.{le_val}
use Rattle.julian.specs.JulianDate.{julian}
use Rattle.utc_scales.specs.days.LargerPart.{first_is_kept, kept_as, kept_parts, put_beside, placed, change_smaller}

-- |b| is at most a
pub first-larger : {a b : Float} {A bp bn : ℕ} → Val a A 0 L → Val b bp bn L → bp ≤ bn + A → bn ≤ bp + A → first_is_kept (julian a b) ≡ true
unfolding first_is_kept
first-larger {a} {b} {A} {bp} {bn} va vb k l = le_val L-pos (abs-val vb) (abs-val va) ∙ le-leb (dist bp bn + 0) (dist A 0 + 0) (go A bp bn k l)
  where
    go : (A p n : ℕ) → p ≤ n + A → n ≤ p + A → (p - n) + (n - p) + 0 ≤ (A - 0) + (0 - A) + 0
    go A p n k l = omega arith

pub kept-changed : (f : Float → Float → Outcome Float) (a b x : Float) → first_is_kept (julian a b) ≡ true → f a b ≡ answer x
    → change_smaller f (julian a b) ≡ answer (julian a x)
unfolding change_smaller kept_parts placed put_beside
kept-changed f a b x e k =
    (ap (λ (c : Bool). onward (f (kept_as (julian a b) c).larger (kept_as (julian a b) c).smaller) (placed (kept_as (julian a b) c))) e)
    ∙ went (placed (kept_as (julian a b) true)) k
