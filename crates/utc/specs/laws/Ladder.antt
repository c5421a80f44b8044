-- An order of refusals, each with the reason for it, and what it is for a call to refuse by that order and in no other way. Written from document 01, "Refusals
-- by number": a call tests in an order, and gives the number of the first test that fails. Assumes nothing.
use Rattle.std.specs.Prelude.{◌≡◌, ◌⊎◌, ℕ}
use Rattle.refusals.specs.Outcome.{Outcome, answer, refusal}

-- numbers with their reasons, the first test first
pub data Ladder : Type 1 where
  done : Ladder
  refuse : (number : ℕ) → (reason : Type 0) → Ladder → Ladder

-- k is the number of the first reason that there is
abbrev pub FirstReason : ℕ → Ladder → Type 0
FirstReason k done = ⊥
FirstReason k (refuse number reason later) = (reason × (k ≡ number)) ⊎ ((reason → ⊥) × FirstReason k later)

abbrev pub NoReason : Ladder → Type 0
NoReason done = Unit
NoReason (refuse number reason later) = (reason → ⊥) × NoReason later

-- the call refuses by k exactly where k's reason is the first that there is, and answers exactly where there is none
pub record Decided {A : Type 0} (o : Outcome A) (l : Ladder) : Type 0 where
  pub refuses : (k : ℕ) → FirstReason k l → o ≡ refusal k
  pub only : (k : ℕ) → o ≡ refusal k → FirstReason k l
  pub answers : NoReason l → (a : A) × (o ≡ answer a)
  pub no_reason : (a : A) → o ≡ answer a → NoReason l
