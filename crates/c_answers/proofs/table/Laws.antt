-- A table in bytes: what becomes of it, which bytes count, and the table of no rows; and a call that goes on with its rows. Assumes nothing.
use Prim.Native.Nat.{ℕ, ◌+◌, ◌*◌, ◌<◌}
use native.Mathlib.Omega.{arith}
use mathlib.Core.Path.{◌≡◌, refl, sym, ap, ◌∙◌}
use mathlib.Core.Bool.{Bool, true, false, cond}
use mathlib.Core.Logic.{◌⊎◌, inl, inr}
use mathlib.Core.List.{List, [], ◌∷◌, ◌++◌}
use lib.Dec.{eqb, leb}
use lib.ListN.{length, get_or, replicate}
use borrow.Author.Tests.{eq-eqb, eqb-true}
use Rattle.std.specs.Prelude.{Result, Ok, Err}
use Rattle.refusals.specs.declared.Refusal.{Refusal}
use Rattle.refusals.specs.Refusal.{refusal_number}
use Rattle.refusals.specs.Outcome.{Outcome, answer, refusal, onward, seen}
use Rattle.refusals.proofs.Handed.{seen_handed, seen_answered}
use Rattle.numerals.specs.little_endian.LittleEndian.{four_at, u32_at, four_bytes, signed32, i32_at}
use Rattle.leap_table.specs.rows.Table.{Row, fixed, last_month, last_seconds}
use Rattle.leap_table.specs.rows.Announced.{least, rows_to, announced_size, table_of, Decision, sizes, order, step, taken}
use Rattle.leap_table.proofs.rows.Tables.{least-right}
use Rattle.leap_table.proofs.rows.TableLaws.{table-decided}
use Rattle.leap_table.proofs.rows.TablesTaken.{table_none}
use Rattle.c_answers.specs.table.TableBytes.{signed_from, record_in, of_length, table_bytes}
use Rattle.c_answers.proofs.table.Reading.{place_of, same-table}
use Prim.Native.Nat.{zero, suc}
use Rattle.leap_table.specs.rows.Announced.{unless_refused}

-- a judge that does not refuse, as the code after an `if let Err(..)` has it
pub not-refused : (r : Result Unit Refusal) → ((k : Refusal) → r ≡ Err k → ⊥) → r ≡ Ok tt
not-refused (Ok u) h = refl
not-refused (Err k) h = absurd (h k refl)

-- ---- a table that is judged, or read and judged: what a call refuses by it, and what a call goes on with. `rows` gives the rows of what is answered.
module _ {A : Type 0} (rows : A → List Row) (r : Result A Refusal) {o : Outcome (List Row)} (e : seen rows r ≡ o) where
  pub refused_by : (k : Refusal) → r ≡ Err k → refusal (refusal_number k) ≡ o
  refused_by k p = sym (seen_handed rows p) ∙ e

  pub taken_by : (a : A) → r ≡ Ok a → answer (rows a) ≡ o
  taken_by a p = sym (seen_answered rows p) ∙ e

  module _ {B : Type 0} (next : List Row → Outcome B) where
    pub not_taken : (k : Refusal) → r ≡ Err k → onward o next ≡ refusal (refusal_number k)
    unfolding onward
    not_taken k p = sym (ap (λ (x : Outcome (List Row)). onward x next) (refused_by k p))

    pub gone-on : (a : A) → r ≡ Ok a → next (rows a) ≡ onward o next
    unfolding onward
    gone-on a p = ap (λ (x : Outcome (List Row)). onward x next) (taken_by a p)

-- ---- 14, 20, 21 and 22 occur, and no other number
pub numbers : (s : List ℕ) (k : ℕ) → table_bytes s ≡ refusal k → (k ≡ 14) ⊎ ((k ≡ 20) ⊎ ((k ≡ 21) ⊎ (k ≡ 22)))
unfolding table_bytes of_length
numbers s k e = go (eqb (length s) 136) e
  where
    of_table : Decision (record_in s) → table_of (record_in s) ≡ refusal k → (k ≡ 14) ⊎ ((k ≡ 20) ⊎ ((k ≡ 21) ⊎ (k ≡ 22)))
    of_table (sizes h p) q = inr (inl (let z : k ≡ 20 = cc in z))
    of_table (order a b i h l p) q = inr (inr (inl (let z : k ≡ 21 = cc in z)))
    of_table (step a b m i h l p) q = inr (inr (inr (let z : k ≡ 22 = cc in z)))
    of_table (taken a b m l p) q = absurd (let z : ◌≡◌ {A = ℕ} 0 1 = cc in let no : ⊥ = omega arith in no)

    go : (b : Bool) → cond b (table_of (record_in s)) (refusal 14) ≡ refusal k → (k ≡ 14) ⊎ ((k ≡ 20) ⊎ ((k ≡ 21) ⊎ (k ≡ 22)))
    go true q = of_table (table-decided (record_in s)) q
    go false q = inl (let z : k ≡ 14 = cc in z)

-- ---- the length comes first
pub other_length : (s : List ℕ) → (length s ≡ 136 → ⊥) → table_bytes s ≡ refusal 14
unfolding table_bytes of_length
other_length s h = go (eqb (length s) 136) refl
  where
    go : (b : Bool) → eqb (length s) 136 ≡ b → cond (eqb (length s) 136) (table_of (record_in s)) (refusal 14) ≡ refusal 14
    go true p = absurd (h (eqb-true (length s) 136 p))
    go false p = rw p

-- ---- WHICH BYTES COUNT: the two sizes, and of both arrays as many places as the first size says, 16 at the most; what stands behind them is neither read nor
-- judged
module _ (s s' : List ℕ) (same_length : length s ≡ length s') where
  same_number : (at : ℕ) → ((i : ℕ) → i < 4 → get_or s (at + i) 0 ≡ get_or s' (at + i) 0) → u32_at s at ≡ u32_at s' at
  unfolding u32_at four_at
  same_number at h =
      let p : get_or s at 0 ≡ get_or s' at 0 = ap (λ (n : ℕ). get_or s n 0) (none at) ∙ h 0 (omega arith) ∙ ap (λ (n : ℕ). get_or s' n 0) (sym (none at)) in
      let q = h 1 (omega arith) in
      let r = h 2 (omega arith) in
      let t = h 3 (omega arith) in
      λ i. cond (leb (at + 4) (same_length i)) (p i + 256 * q i + 65536 * r i + 16777216 * t i) 0
    where
      none : (a : ℕ) → a ≡ a + 0
      none a = omega arith

  pub spare-bytes : ((i : ℕ) → i < 8 → get_or s i 0 ≡ get_or s' i 0)
      → ((i : ℕ) → i < 4 * least (u32_at s 0) 16 → (get_or s (8 + i) 0 ≡ get_or s' (8 + i) 0) × (get_or s (72 + i) 0 ≡ get_or s' (72 + i) 0))
      → table_bytes s ≡ table_bytes s'
  unfolding table_bytes
  spare-bytes h g = λ i. of_length (same_length i) (same i)
    where
      within : (n i j : ℕ) → i < n → j < 4 → 4 * i + j < 4 * n
      within n i j a b = omega arith

      placed : (at i j : ℕ) → at + 4 * i + j ≡ at + (4 * i + j)
      placed at i j = omega arith

      read : (at i : ℕ) → ((j : ℕ) → j < 4 → get_or s (at + (4 * i + j)) 0 ≡ get_or s' (at + (4 * i + j)) 0) → i32_at s (at + 4 * i) ≡ i32_at s' (at + 4 * i)
      read at i k = ap signed32 (same_number (at + 4 * i)
          (λ j l. ap (λ (n : ℕ). get_or s n 0) (placed at i j) ∙ k j l ∙ ap (λ (n : ℕ). get_or s' n 0) (sym (placed at i j))))

      same : table_of (record_in s) ≡ table_of (record_in s')
      same = same-table s' (record_in s)
          (same_number 0 (λ i l. ap (λ (n : ℕ). get_or s n 0) (zeroth i) ∙ h i (omega arith) ∙ ap (λ (n : ℕ). get_or s' n 0) (sym (zeroth i))))
          (same_number 4 (λ i l. h (4 + i) (omega arith)))
          (λ i l. place_of s 8 16 i (omega (arith, least-right (u32_at s 0) 16)) ∙ read 8 i (λ j k. (g (4 * i + j) (within (least (u32_at s 0) 16) i j l k)).0))
          (λ i l. place_of s 72 16 i (omega (arith, least-right (u32_at s 0) 16)) ∙ read 72 i
          (λ j k. (g (4 * i + j) (within (least (u32_at s 0) 16) i j l k)).1))
        where
          zeroth : (i : ℕ) → 0 + i ≡ i
          zeroth i = omega arith

-- ---- two sizes of 0 lend no rows, whatever stands behind them; 136 bytes of 0 are such a table
pub lends_none : (s : List ℕ) → length s ≡ 136 → u32_at s 0 ≡ 0 → u32_at s 4 ≡ 0 → table_bytes s ≡ answer fixed
unfolding table_bytes of_length
lends_none s e p q = rw (eq-eqb (length s) 136 e) (table_none (record_in s) p q)

pub no_rows_bytes : table_bytes (replicate 136 0) ≡ answer fixed
unfolding u32_at four_at
no_rows_bytes = lends_none (replicate 136 0) refl refl refl

-- ---- closed cases: a row ten years after the last fixed one, with a second more; its month start read with a sign; its seconds; the length before the sizes
abbrev pub row_bytes : ℕ → ℕ → ℕ → List ℕ
row_bytes size month seconds = four_bytes 1 ++ (four_bytes size ++ (four_bytes month ++ (replicate 60 0 ++ (four_bytes seconds ++ replicate 60 0))))

abbrev ten_years : ℕ
ten_years = last_month + 120

pub one-row : table_bytes (row_bytes 1 ten_years (last_seconds + 1))
    ≡ answer (fixed ++ (record { month = ten_years; units = 10000000 * (last_seconds + 1); start = 0; rate = 0 } ∷ []))
unfolding table_bytes of_length table_of announced_size rows_to fixed signed_from signed32 u32_at four_at
one-row = refl

pub month-below-zero : table_bytes (row_bytes 1 0xffff_ffff (last_seconds + 1)) ≡ refusal 21
unfolding table_bytes of_length table_of announced_size rows_to fixed signed_from signed32 u32_at four_at
month-below-zero = refl

pub two-seconds : table_bytes (row_bytes 1 ten_years (last_seconds + 2)) ≡ refusal 22
unfolding table_bytes of_length table_of announced_size rows_to fixed signed_from signed32 u32_at four_at
two-seconds = refl

pub unequal_sizes : table_bytes (row_bytes 2 ten_years (last_seconds + 1)) ≡ refusal 20
unfolding table_bytes of_length table_of announced_size rows_to fixed signed_from signed32 u32_at four_at
unequal_sizes = refl

pub one-byte-more : table_bytes (row_bytes 2 ten_years (last_seconds + 1) ++ (0 ∷ [])) ≡ refusal 14
unfolding table_bytes of_length
one-byte-more = refl

-- ---- a call by its table, where the table is judged by a number, 0 for none refused
module _ {B : Type 0} (rows : List Row) {o : Outcome (List Row)} (n : ℕ) (e : unless_refused n rows ≡ o) (next : List Row → Outcome B) where
  pub not_taken_by_number : (n ≡ 0 → ⊥) → onward o next ≡ refusal n
  unfolding onward
  not_taken_by_number h = sym (go n h ∙ ap (λ (p : Outcome (List Row)). onward p next) e)
    where
      go : (k : ℕ) → (k ≡ 0 → ⊥) → refusal k ≡ onward (unless_refused k rows) next
      go zero h = absurd (h refl)
      go (suc k) h = refl

  pub gone-on-by-number : n ≡ 0 → next rows ≡ onward o next
  unfolding onward
  gone-on-by-number h = ap (λ (k : ℕ). onward (unless_refused k rows) next) (sym h) ∙ ap (λ (p : Outcome (List Row)). onward p next) e
