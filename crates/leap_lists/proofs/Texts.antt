-- The lines of a text are what is between its newlines, but for an empty part behind the last. Assumes nothing.
use Rattle.std.proofs.Common.{◌≡◌, ℕ, List, [], ◌∷◌, ◌++◌, Bool, true, false, cond, eqb, ◌⊎◌, inl, inr, refl, ap, ◌∙◌}
use Rattle.std.specs.List.{slice_split, onto_first}
use Rattle.leap_lists.specs.Texts.{on_first, lines_of}
use Rattle.std.proofs.Common.{suc, ◌+◌, ◌≤◌, ◌<◌, length, take, drop, arith}

-- what is between newlines
abbrev pub parts : List ℕ → List (List ℕ)
parts t = slice_split (λ (b : ℕ). eqb b 10) t

same-first : (c : ℕ) (ls : List (List ℕ)) → onto_first c ls ≡ on_first c ls
unfolding on_first
same-first c [] = refl
same-first c (l ∷ ls) = refl

pub parts-are : (t : List ℕ) → (parts t ≡ lines_of t) ⊎ (parts t ≡ lines_of t ++ ([] ∷ []))
unfolding lines_of on_first
parts-are [] = inr refl
parts-are (c ∷ cs) = either (eqb c 10) (parts-are cs)
  where
    onto : (ls : List (List ℕ)) → (onto_first c (ls ++ ([] ∷ [])) ≡ on_first c ls) ⊎ (onto_first c (ls ++ ([] ∷ [])) ≡ on_first c ls ++ ([] ∷ []))
    onto [] = inl refl
    onto (l ∷ ls) = inr refl

    joined : (ls : List (List ℕ)) → ls ≡ lines_of cs ++ ([] ∷ []) → (x : (onto_first c (lines_of cs ++ ([] ∷ [])) ≡ on_first c (lines_of cs)) ⊎ (onto_first c
        (lines_of cs ++ ([] ∷ [])) ≡ on_first c (lines_of cs) ++ ([] ∷ [])))
        → (onto_first c ls ≡ on_first c (lines_of cs)) ⊎ (onto_first c ls ≡ on_first c (lines_of cs) ++ ([] ∷ []))
    joined ls e (inl f) = inl (ap (onto_first c) e ∙ f)
    joined ls e (inr f) = inr (ap (onto_first c) e ∙ f)

    either : (b : Bool) → (parts cs ≡ lines_of cs) ⊎ (parts cs ≡ lines_of cs ++ ([] ∷ []))
        → (cond b ([] ∷ parts cs) (onto_first c (parts cs)) ≡ cond b ([] ∷ lines_of cs) (on_first c (lines_of cs)))
        ⊎ (cond b ([] ∷ parts cs) (onto_first c (parts cs)) ≡ cond b ([] ∷ lines_of cs) (on_first c (lines_of cs)) ++ ([] ∷ []))
    either true (inl e) = inl (ap (λ (l : List (List ℕ)). [] ∷ l) e)
    either true (inr e) = inr (ap (λ (l : List (List ℕ)). [] ∷ l) e)
    either false (inl e) = inl (ap (onto_first c) e ∙ same-first c (lines_of cs))
    either false (inr e) = joined (parts cs) e (onto (lines_of cs))

-- ---- a text from an index on: its first line, and the lines behind it
-- what stands before the first newline
unfoldable pub first_line : List ℕ → List ℕ
first_line [] = []
first_line (c ∷ cs) = cond (eqb c 10) [] (c ∷ first_line cs)

-- r is where the line begins behind the one that ends at `end`; the end of the text where there is none
pub record Behind (t : List ℕ) (end r : ℕ) : Type 0 where
  pub rest : drop r t ≡ drop (end + 1) t
  pub later : end < length t → end < r
  pub not_before : end ≤ r
  pub within : r ≤ length t

pub first_part : (s : List ℕ) → take (length (first_line s)) s ≡ first_line s
unfolding first_line
first_part [] = refl
first_part (c ∷ cs) = either (eqb c 10) (first_part cs)
  where
    either : (b : Bool) → take (length (first_line cs)) cs ≡ first_line cs → take (length (cond b [] (c ∷ first_line cs))) (c ∷ cs) ≡ cond b []
        (c ∷ first_line cs)
    either true h = refl
    either false h = ap (λ (l : List ℕ). c ∷ l) h

-- one line more in front, where its bytes are those of a line or the last
pub lines-first : (s : List ℕ) → 0 < length s → lines_of s ≡ first_line s ∷ lines_of (drop (suc (length (first_line s))) s)
unfolding lines_of first_line on_first
lines-first [] h = absurd (let no : ⊥ = omega arith in no)
lines-first (c ∷ []) h = either (eqb c 10)
  where
    either : (b : Bool) → cond b ([] ∷ lines_of []) (on_first c (lines_of [])) ≡ cond b [] (c ∷ []) ∷ lines_of
        (drop (suc (length (cond b [] (c ∷ [])))) (c ∷ []))
    either true = refl
    either false = refl
lines-first (c ∷ (d ∷ ds)) h = either (eqb c 10) (lines-first (d ∷ ds) (omega arith))
  where
    s : List ℕ
    s = d ∷ ds

    either : (b : Bool) → lines_of s ≡ first_line s ∷ lines_of (drop (suc (length (first_line s))) s)
        → cond b ([] ∷ lines_of s) (on_first c (lines_of s)) ≡ cond b [] (c ∷ first_line s) ∷ lines_of
        (drop (suc (length (cond b [] (c ∷ first_line s)))) (c ∷ s))
    either true g = refl
    either false g = ap (on_first c) g
