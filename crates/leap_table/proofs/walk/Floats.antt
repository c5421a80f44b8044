-- Offsets written as floats, one place each. Assumes nothing.
use Rattle.std.proofs.Common.{◌≡◌, ℕ, ◌+◌, ◌-◌, ◌<◌, ◌≤◌, List, [], ◌∷◌, ◌++◌, map, length, drop, set, refl, ◌∙◌, arith}
use lib.ListN.{length-map}
use lib.Ieee.{Float}
use Rattle.leap_table.specs.declared.judging.Triple.{Triple}
use Rattle.leap_table.specs.judging.Lists.{dates_from}
use Rattle.leap_table.specs.walk.Call.{as_floats}
use Rattle.leap_table.proofs.judging.Judges.{how_many}
use Rattle.leap_table.proofs.walk.Writes.{Putting, one-put, writing_goes, writing_ends}

module _ (off : Triple → Float) (f : ℕ → Triple) (n : ℕ) (before : List Float) where
  abbrev pub whole_f : List Float
  whole_f = map off (dates_from f 0 n) ++ drop n before

  abbrev pub rest_f : ℕ → List Float
  rest_f i = map off (dates_from f i (n - i)) ++ drop n before

  pub float-goes : (i : ℕ) (now : List Float) (x : Float) → i < n → Putting whole_f (rest_f i) before now i → x ≡ off (f i) → i < length now
      → Putting whole_f (rest_f (i + 1)) before (set now i x) (i + 1)
  float-goes i now x h p e l = writing_goes as_floats (λ x. x ∷ []) 1 (λ i. i) refl (λ i. refl) refl (λ x l. refl) (λ x. refl) off f n before i now
      (set now i x) x h p e (one-put now i x l) (omega arith)

  pub float-ends : (i : ℕ) (now : List Float) → i ≤ n → n ≤ i → Putting whole_f (rest_f i) before now i → now ≡ whole_f
  float-ends i now h g p = writing_ends as_floats (λ x. x ∷ []) 1 (λ i. i) refl (λ i. refl) refl (λ x l. refl) (λ x. refl) off f n before i now h g p

pub float-length : (off : Triple → Float) (f : ℕ → Triple) (n : ℕ) → length (as_floats (map off (dates_from f 0 n))) ≡ n
float-length off f n = length-map (dates_from f 0 n) off ∙ how_many f n 0
