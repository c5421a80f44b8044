-- The loop that turns unordered stamps away. Assumes nothing.
use Prim.Native.Nat.{ℕ, zero, suc, ◌+◌, ◌<◌, ◌≤◌}
use native.Mathlib.Omega.{arith}
use native.Mathlib.Numerals.{add-one}
use mathlib.Core.Path.{◌≡◌, refl, sym, ap, ◌∙◌}
use mathlib.Core.Bool.{Bool}
use mathlib.Core.List.{List, [], ◌∷◌, ◌++◌, append_assoc}
use lib.ListN.{length, get_or, take, drop, set, length-set, drop_of_length-le, take-append-drop}
use lib.Seq.{take-suc-set, drop-set-lt, drop-drop, get_or-drop}
use Rattle.line_up.specs.Runs.{tested, all_tested}

pub tested-length : (unordered : ℕ → Bool) (i : ℕ) (ns : List ℕ) → length (all_tested unordered i ns) ≡ length ns
unfolding all_tested
tested-length unordered i [] = refl
tested-length unordered i (n ∷ ns) = ap suc (tested-length unordered (suc i) ns)

-- the first of what is left is tested next
drop_cons : (i : ℕ) (ns : List ℕ) → i < length ns → drop i ns ≡ get_or ns i 0 ∷ drop (suc i) ns
drop_cons zero [] h = let z : ⊥ = omega arith in absurd z
drop_cons zero (n ∷ ns) h = refl
drop_cons (suc i) [] h = let z : ⊥ = omega arith in absurd z
drop_cons (suc i) (n ∷ ns) h = drop_cons i ns (omega arith)

-- the numbers before place i are tested, and the others are as they were
pub record Testing (unordered : ℕ → Bool) (ns : List ℕ) (now : List ℕ) (i : ℕ) : Type 0 where
  pub len : length now ≡ length ns
  pub high : i ≤ length ns
  pub rest : drop i now ≡ drop i ns
  pub whole : take i now ++ all_tested unordered i (drop i ns) ≡ all_tested unordered 0 ns

module _ (unordered : ℕ → Bool) (ns : List ℕ) where
  module _ (now : List ℕ) (i m : ℕ) (t : Testing unordered ns now i) (h : i < length ns) (e : m ≡ tested unordered (get_or now i 0) i) where
    same_number : get_or now i 0 ≡ get_or ns i 0
    same_number =
        let k : i + 0 ≡ i = omega arith in
        ap (λ (j : ℕ). get_or now j 0) (sym k) ∙ sym (get_or-drop i now 0 0) ∙ ap (λ (l : List ℕ). get_or l 0 0) t.rest ∙ get_or-drop i ns 0 0
        ∙ ap (λ (j : ℕ). get_or ns j 0) k

    next-tested : all_tested unordered i (drop i ns) ≡ m ∷ all_tested unordered (suc i) (drop (suc i) ns)
    unfolding all_tested
    next-tested =
        ap (all_tested unordered i) (drop_cons i ns h)
        ∙ ap (λ (k : ℕ). k ∷ all_tested unordered (suc i) (drop (suc i) ns)) (ap (λ (k : ℕ). tested unordered k i) (sym same_number) ∙ sym e)

    pub testing_goes : Testing unordered ns (set now i m) (i + 1)
    testing_goes =
        let k : i < length now = omega (arith, h, t.len) in
        let g : take (i + 1) (set now i m) ≡ take i now ++ (m ∷ []) = ap (λ (j : ℕ). take j (set now i m)) (add-one i) ∙ take-suc-set now i m k in
        record {
          len = length-set now i m ∙ t.len;
          high = omega arith;
          rest = drop-set-lt (i + 1) now i m (omega arith) ∙ sym (drop-drop 1 i now) ∙ ap (drop 1) t.rest ∙ drop-drop 1 i ns;
          whole = ap (λ (l : List ℕ). l ++ all_tested unordered (i + 1) (drop (i + 1) ns)) g
              ∙ ap (λ (j : ℕ). (take i now ++ (m ∷ [])) ++ all_tested unordered j (drop j ns)) (add-one i)
              ∙ append_assoc (take i now) (m ∷ []) (all_tested unordered (suc i) (drop (suc i) ns))
              ∙ ap (λ (l : List ℕ). take i now ++ l) (sym next-tested)
              ∙ t.whole;
        }

  pub testing_ends : (now : List ℕ) (i : ℕ) → Testing unordered ns now i → length ns ≤ i → now ≡ all_tested unordered 0 ns
  unfolding all_tested
  testing_ends now i t h =
      let d : drop i ns ≡ [] = drop_of_length-le ns {i = i} h in
      sym (take-append-drop i now)
      ∙ ap (λ (l : List ℕ). take i now ++ l) (t.rest ∙ d)
      ∙ ap (λ (l : List ℕ). take i now ++ all_tested unordered i l) (sym d)
      ∙ t.whole
