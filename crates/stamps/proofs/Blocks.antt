-- When a block has too many stamps and when all of them are there, witnesses at 4,000 and 4,001 stamps, and what an accepted block has. Assumes nothing.
use Prim.Native.Nat.{ℕ, ◌+◌, ◌*◌, ◌<◌, ◌≤◌}
use native.Mathlib.Omega.{arith}
use mathlib.Core.Path.{◌≡◌, refl, sym}
use mathlib.Core.Bool.{Bool, true, false, cond}
use mathlib.Core.List.{List, ◌∷◌}
use lib.ListN.{length}
use lib.Dec.{ltb, leb, eqb}
use borrow.Author.Tests.{le-ltb, le-leb, lt-leb, eq-eqb, leb-true, eqb-true}
use Rattle.refusals.specs.Outcome.{Outcome, answer, refusal}
use Rattle.numerals.specs.little_endian.LittleEndian.{four_at, u32_at}
use Rattle.stamps.specs.Block.{block_of}
use Rattle.stamps.specs.Parts.{lines_in}
use borrow.Author.Tests.{lt-ltb, ne_eqb}

module _ (s : List ℕ) (n m : ℕ) (en : n ≡ u32_at s 0) (em : m ≡ u32_at s 4) (h : 8 ≤ length s) where
  pub too_large : n ≡ m → 4000 < n → refusal 13 ≡ block_of s
  unfolding block_of
  too_large e l = simp (← en, ← em, le-ltb _ _ h, eq-eqb n m e, lt-leb _ _ l)

  pub all_there : n ≡ m → n ≤ 4000 → length s ≡ 8 + 16 * n → answer n ≡ block_of s
  unfolding block_of
  all_there e l d = simp (← en, ← em, le-ltb _ _ h, eq-eqb n m e, le-leb _ _ l, eq-eqb _ _ d)

four-there : (s : List ℕ) (at : ℕ) → at + 4 ≤ length s → four_at s at ≡ u32_at s at
unfolding u32_at
four-there s at h = simp (le-leb _ _ h)

-- ---- A WITNESS AT EACH END: 4,000 stamps, the most that are taken, and one more, for all bytes behind the sizes. 4,000 is 160 + 15 * 256
pub block-of-4000 : (t : List ℕ) → length t ≡ 64000 → block_of (160 ∷ 15 ∷ 0 ∷ 0 ∷ 160 ∷ 15 ∷ 0 ∷ 0 ∷ t) ≡ answer 4000
unfolding four_at
block-of-4000 t e =
    let s : List ℕ = 160 ∷ 15 ∷ 0 ∷ 0 ∷ 160 ∷ 15 ∷ 0 ∷ 0 ∷ t in
    sym (all_there s 4000 4000 (four-there s 0 (omega arith)) (four-there s 4 (omega arith)) (omega arith) refl (omega arith) (omega (arith, e)))

pub block-of-4001 : (t : List ℕ) → block_of (161 ∷ 15 ∷ 0 ∷ 0 ∷ 161 ∷ 15 ∷ 0 ∷ 0 ∷ t) ≡ refusal 13
unfolding four_at
block-of-4001 t =
    let s : List ℕ = 161 ∷ 15 ∷ 0 ∷ 0 ∷ 161 ∷ 15 ∷ 0 ∷ 0 ∷ t in
    sym (too_large s 4001 4001 (four-there s 0 (omega arith)) (four-there s 4 (omega arith)) (omega arith) refl (omega arith))

accepted-by : (s : List ℕ) (n : ℕ) (a b c d : Bool) → leb (u32_at s 0) 4000 ≡ c → eqb (length s) (8 + 16 * u32_at s 0) ≡ d
    → answer n ≡ cond a (refusal 14) (cond b (cond c (cond d (answer (u32_at s 0)) (refusal 14)) (refusal 13)) (refusal 12))
    → (n ≤ 4000) × (length s ≡ 8 + 16 * n)
accepted-by s n false true true true ec ed e =
    let m : n ≡ u32_at s 0 = cc in
    let le : u32_at s 0 ≤ 4000 = leb-true _ _ ec in
    let l : length s ≡ 8 + 16 * u32_at s 0 = eqb-true _ _ ed in
    (omega arith, omega arith)
accepted-by s n false true true false ec ed e = let z : ◌≡◌ {A = ℕ} 0 1 = cc in absurd (omega arith)
accepted-by s n false true false d ec ed e = let z : ◌≡◌ {A = ℕ} 0 1 = cc in absurd (omega arith)
accepted-by s n false false c d ec ed e = let z : ◌≡◌ {A = ℕ} 0 1 = cc in absurd (omega arith)
accepted-by s n true b c d ec ed e = let z : ◌≡◌ {A = ℕ} 0 1 = cc in absurd (omega arith)

pub block-accepted : (s : List ℕ) (n : ℕ) → answer n ≡ block_of s → (n ≤ 4000) × (length s ≡ 8 + 16 * n)
unfolding block_of
block-accepted s n e = accepted-by s n (ltb (length s) 8) (eqb (u32_at s 0) (u32_at s 4)) (leb (u32_at s 0) 4000)
    (eqb (length s) (8 + 16 * u32_at s 0)) refl refl e

few-by : (s : List ℕ) (o : Outcome ℕ) → o ≡ block_of s → lines_in o ≤ 4001
unfolding lines_in
few-by s (answer n) e = let a = block-accepted s n e in omega (arith, a.0)
few-by s (refusal k) e = omega arith

-- a listing has at most 4,001 lines
pub few-lines : (s : List ℕ) → lines_in (block_of s) ≤ 4001
few-lines s = few-by s (block_of s) refl

-- ---- the refusals of a block, each by the tests that lead to it
pub short : (s : List ℕ) → length s < 8 → refusal 14 ≡ block_of s
unfolding block_of
short s h = simp (lt-ltb _ _ h)

module _ (s : List ℕ) (n m : ℕ) (en : n ≡ u32_at s 0) (em : m ≡ u32_at s 4) (h : 8 ≤ length s) where
  pub sizes-differ : (n ≡ m → ⊥) → refusal 12 ≡ block_of s
  unfolding block_of
  sizes-differ d = simp (← en, ← em, le-ltb _ _ h, ne_eqb n m d)

  pub length-wrong : n ≡ m → n ≤ 4000 → (length s ≡ 8 + 16 * n → ⊥) → refusal 14 ≡ block_of s
  unfolding block_of
  length-wrong e l d = simp (← en, ← em, le-ltb _ _ h, eq-eqb n m e, le-leb _ _ l, ne_eqb _ _ d)

number_by : (n k : ℕ) (a b c d : Bool) → refusal k ≡ cond a (refusal 14) (cond b (cond c (cond d (answer n) (refusal 14)) (refusal 13)) (refusal 12))
    → (1 ≤ k) × (k ≤ 28)
number_by n k true b c d e = let m : k ≡ 14 = cc in (omega arith, omega arith)
number_by n k false false c d e = let m : k ≡ 12 = cc in (omega arith, omega arith)
number_by n k false true false d e = let m : k ≡ 13 = cc in (omega arith, omega arith)
number_by n k false true true false e = let m : k ≡ 14 = cc in (omega arith, omega arith)
number_by n k false true true true e = let z : ◌≡◌ {A = ℕ} 0 1 = cc in absurd (omega arith)

-- a block is refused by a number that has a sentence
pub block-number : (s : List ℕ) (k : ℕ) → refusal k ≡ block_of s → (1 ≤ k) × (k ≤ 28)
unfolding block_of
block-number s k e = number_by (u32_at s 0) k (ltb (length s) 8) (eqb (u32_at s 0) (u32_at s 4)) (leb (u32_at s 0) 4000)
    (eqb (length s) (8 + 16 * u32_at s 0)) e
