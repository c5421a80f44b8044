-- What was placed into a slice with room for it: decimals, and the text of a number that has none. Assumes nothing.
use Prim.Native.Nat.{ℕ, suc, ◌+◌, ◌≤◌}
use native.Mathlib.Omega.{arith}
use mathlib.Core.Path.{◌≡◌, sym, ap, subst}
use mathlib.Core.List.{List, ◌++◌}
use lib.ListN.{length, take, drop, length-append, length-drop}
use lib.Seq.{length-take-le}
use Rattle.numerals.specs.digits.Placed.{pasted, Placed, Placing}
use Rattle.numerals.proofs.digits.Places.{all_room, nothing}
use Rattle.reasons.specs.sentences.Texts.{fixed_text}
use Rattle.reasons.proofs.sentences.Each.{EachBelow}
use Rattle.reasons.proofs.sentences.FixedTexts.{text-none}

-- the slice is as long as before
pub placed-length : {d t d' : List ℕ} {at r : ℕ} → Placed d at t r d' → at + length t ≤ length d → length d' ≡ length d
unfolding pasted
placed-length {d} {t} {d'} {at} {r} p h =
    let a : length (take at d) ≡ at = length-take-le at d (omega arith) in
    omega (
      arith,
      ap length p.holds,
      length-append (take at d) (t ++ drop (at + length t) d),
      length-append t (drop (at + length t) d),
      length-drop (at + length t) d,
      a,
    )

pub placing_as : {d s t d' : List ℕ} {at r : ℕ} → s ≡ t → Placing d at s r d' → Placing d at t r d'
placing_as {d} {s} {t} {d'} {at} {r} e p = subst (λ (l : List ℕ). Placing d at l r d') e p

-- at most 20 digits, with room for them
pub decimal-placed : {d t d' : List ℕ} {at r : ℕ} → Placing d at t r d' → length t ≤ 20 → at + 20 ≤ length d → (Placed d at t r d') × (r ≤ at + 20)
decimal-placed {d} {t} {d'} {at} {r} p few room = let q : Placed d at t r d' = p.written (omega arith) in (q, omega (arith, q.ends))

-- ---- the text of a number that has none
pub no_text : (n : ℕ) (d : List ℕ) → EachBelow (λ k. n ≡ suc k → ⊥) 28 → Placing d 0 (fixed_text n) 0 d
no_text n d h = subst (λ (t : List ℕ). Placing d 0 t 0 d) (sym (text-none n h)) (all_room (omega arith) (nothing d))
