-- Bytes written one after the other, and what a slice is after a part of it was lent. Assumes nothing.
use Prim.Native.Nat.{ℕ, ◌+◌, ◌-◌, ◌≤◌, ◌<◌}
use native.Mathlib.Omega.{arith}
use native.Mathlib.Nat.{le_refl}
use native.Mathlib.Numerals.{add-one}
use mathlib.Core.Path.{◌≡◌, refl, sym, ap, ◌∙◌, subst}
use mathlib.Core.List.{List, [], ◌∷◌, ◌++◌, append_assoc, append-nil}
use lib.ListN.{length, take, drop, set, length-drop, length-append, take-append-drop}
use lib.Seq.{take_all, take-length, drop-length, drop-drop, take_at, drop-append-add, length-take-le, set_split}
use Rattle.numerals.specs.digits.Placed.{pasted, Placed, Placing, Copying}

-- ---- a part that was lent, d[at..], and is back as ys
module _ (d : List ℕ) (at : ℕ) (le : at ≤ length d) where
  all-of-it : length d - at ≡ length (drop at d)
  all-of-it = sym (length-drop at d)

  pub lent : take (length d - at) (drop at d) ≡ drop at d
  lent = take_all (length d - at) (drop at d) (rw all-of-it (le_refl _))

  none_after : drop (length d - at) (drop at d) ≡ []
  none_after = rw all-of-it (drop-length (drop at d))

  pub lent_length : length (take (length d - at) (drop at d)) ≡ length d - at
  lent_length = ap length lent ∙ length-drop at d

  pub part-put : (t ys : List ℕ) → ys ≡ t ++ drop (length t) (take (length d - at) (drop at d)) → take at d
      ++ (ys ++ drop (length d - at) (drop at d)) ≡ pasted d at t
  unfolding pasted
  part-put t ys e =
      let y : ys ≡ t ++ drop (at + length t) d = e ∙ ap (λ (l : List ℕ). t ++ drop (length t) l) lent
      ∙ ap (λ (l : List ℕ). t ++ l) (drop-drop (length t) at d) in
      ap (λ (l : List ℕ). take at d ++ (ys ++ l)) none_after ∙ ap (λ (l : List ℕ). take at d ++ l) (append-nil ys ∙ y)

  pub part-kept : (ys : List ℕ) → ys ≡ take (length d - at) (drop at d) → take at d ++ (ys ++ drop (length d - at) (drop at d)) ≡ d
  part-kept ys e =
      ap (λ (l : List ℕ). take at d ++ (ys ++ l)) none_after
      ∙ ap (λ (l : List ℕ). take at d ++ l) (append-nil ys ∙ e ∙ lent)
      ∙ take-append-drop at d

  -- a copy into d[at..]
  pub copied_behind : (src ys : List ℕ) (n : ℕ) → Copying src (take (length d - at) (drop at d)) n ys
      → Placing d at src (at + n) (take at d ++ (ys ++ drop (length d - at) (drop at d)))
  copied_behind src ys n c = record { written = fits; left = no }
    where
      fits : at + length src ≤ length d → Placed d at src (at + n) (take at d ++ (ys ++ drop (length d - at) (drop at d)))
      fits h =
          let e = c.copied (omega (arith, lent_length)) in
          record {
            ends = ap (λ (k : ℕ). at + k) e.0;
            holds = part-put src ys (e.1 ∙ ap (λ (l : List ℕ). l ++ drop (length src) (take (length d - at) (drop at d))) (take-length src));
          }

      no : length d < at + length src → (at + n ≡ at) × (take at d ++ (ys ++ drop (length d - at) (drop at d)) ≡ d)
      no h = let e = c.left (omega (arith, lent_length)) in (omega (arith, e.0), part-kept ys e.1)

-- ---- with room
module _ {d t : List ℕ} {at : ℕ} where
  pub all_room : {r : ℕ} {d' : List ℕ} → at + length t ≤ length d → Placed d at t r d' → Placing d at t r d'
  all_room h p = record { written = λ _. p; left = λ g. let no : ⊥ = omega arith in absurd no }

-- ---- two writes
module _ {d s t d' d'' : List ℕ} {at r r2 : ℕ} where
  pub then : Placed d at s r d' → Placed d' r t r2 d'' → r2 ≤ length d → Placed d at (s ++ t) r2 d''
  unfolding pasted
  then a b le =
      let p : List ℕ = take at d ++ s in
      let rest : List ℕ = drop (at + length s) d in
      let ea : r ≡ at + length s = a.ends in
      let eb : r2 ≡ r + length t = b.ends in
      let np : length p ≡ r = length-append (take at d) s ∙ ap (λ (k : ℕ). k + length s) (length-take-le at d (omega arith)) ∙ sym ea in
      let e : d' ≡ p ++ rest = a.holds ∙ sym (append_assoc (take at d) s rest) in
      let n : at + length (s ++ t) ≡ r2 = ap (λ (k : ℕ). at + k) (length-append s t) ∙ omega arith in
      let m : at + length s + length t ≡ at + length (s ++ t) = omega arith in
      let front : take r d' ≡ p = ap (take r) e ∙ take_at p rest r np in
      let back : drop (r + length t) d' ≡ drop (at + length (s ++ t)) d =
      ap (drop (r + length t)) e
      ∙ ap (λ (k : ℕ). drop (k + length t) (p ++ rest)) (sym np)
      ∙ drop-append-add p rest (length t)
      ∙ drop-drop (length t) (at + length s) d
      ∙ ap (λ (k : ℕ). drop k d) m in
      record {
        ends = sym n;
        holds = b.holds
            ∙ ap (λ (l : List ℕ). l ++ (t ++ drop (r + length t) d')) front
            ∙ ap (λ (l : List ℕ). p ++ (t ++ l)) back
            ∙ append_assoc (take at d) s (t ++ drop (at + length (s ++ t)) d)
            ∙ ap (λ (l : List ℕ). take at d ++ l) (sym (append_assoc s t (drop (at + length (s ++ t)) d)));
      }

-- what was placed at the start is there
pub placed_first : {d t d' : List ℕ} {r : ℕ} → Placed d 0 t r d' → take r d' ≡ t
unfolding pasted
placed_first {d} {t} {d'} {r} p =
    let e : length t ≡ r = omega (arith, p.ends) in
    ap (take r) p.holds ∙ take_at t (drop (0 + length t) d) r e

pub nothing : (d : List ℕ) → Placed d 0 [] 0 d
unfolding pasted
nothing d = record { ends = refl; holds = refl }

pub nothing-at : (d : List ℕ) (at : ℕ) → at ≤ length d → Placed d at [] at d
unfolding pasted
nothing-at d at h =
    let z : at ≡ at + 0 = omega arith in
    record { ends = z; holds = sym (take-append-drop at d) ∙ ap (λ (k : ℕ). take at d ++ drop k d) z }

module _ {d d' : List ℕ} {at r : ℕ} where
  pub placed-as : {s t : List ℕ} → s ≡ t → Placed d at s r d' → Placed d at t r d'
  placed-as e p = subst (λ (l : List ℕ). Placed d at l r d') e p

pub placed-into : {d e d' t : List ℕ} {at r : ℕ} → d ≡ e → Placed d at t r d' → Placed e at t r d'
placed-into {d} {e} {d'} {t} {at} {r} q p = subst (λ (l : List ℕ). Placed l at t r d') q p

-- one digit, written by its index
pub digit_put : (d : List ℕ) (at c x : ℕ) → at < length d → c ≡ x → Placed d at (x ∷ []) (at + 1) (set d at c)
unfolding pasted
digit_put d at c x h e = record { ends = refl; holds = rw (set_split d at c h, e, add-one) refl }
