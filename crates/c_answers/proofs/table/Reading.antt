-- What the code reads is the table of the bytes: the places that count, and no other. Assumes nothing.
use Prim.Native.Nat.{ℕ, zero, suc, ◌+◌, ◌*◌, ◌≤◌, ◌<◌}
use native.Mathlib.Omega.{arith}
use native.Mathlib.Nat.{not-suc-le-zero}
use mathlib.Core.Path.{◌≡◌, refl, sym, ap, subst, ◌∙◌}
use mathlib.Core.Bool.{Bool, true, false, true≢false, cond, ◌&&◌}
use mathlib.Core.List.{List}
use lib.Dec.{eqb, leb}
use lib.IntN.{ℤ, pos}
use lib.ListN.{length, get_or, set, length-set}
use lib.Seq.{get_or-set_same, get_or-set_other}
use borrow.Author.Count.{below_more}
use borrow.Author.Tests.{eq-eqb, ne_eqb, eqb-true, leb-true, leb-false}
use Rattle.std.specs.Prelude.{Result, Ok, Err}
use Rattle.refusals.specs.declared.Refusal.{Refusal}
use Rattle.refusals.specs.Refusal.{refusal_number}
use Rattle.refusals.specs.Outcome.{Outcome, answer, refusal, seen, number_said}
use Rattle.refusals.proofs.Handed.{number_low}
use Rattle.numerals.specs.little_endian.LittleEndian.{u32_at, i32_at}
use Rattle.leap_table.specs.declared.rows.AnnouncedRows.{AnnouncedRows}
use Rattle.leap_table.specs.rows.Table.{Row, fixed}
use Rattle.leap_table.specs.rows.Announced.{least, announced_size, rows_of, announced_table, table_of, unless_refused}
use Rattle.leap_table.proofs.rows.Tables.{least-right}
use Rattle.leap_table.proofs.rows.TableLaws.{spare-unread}
use Rattle.leap_table.proofs.rows.TablesTaken.{sizes-differ, sizes-large, table_none, none_rows}
use Rattle.c_answers.specs.table.TableBytes.{signed_from, record_in, of_length, table_bytes}
use Rattle.leap_table.specs.rows.Announced.{announced_row, rows_to, rows_in, Judged}
use Rattle.leap_table.proofs.rows.ByParts.{least-low, rows_in_lem}
use mathlib.Core.List.{[], ◌∷◌, ◌++◌}
use Rattle.leap_table.proofs.rows.TablesTaken.{when_taken}

-- ---- the numbers of an array by their places
pub place_of : (s : List ℕ) (at n i : ℕ) → i < n → get_or (signed_from s at n) i (pos 0) ≡ i32_at s (at + 4 * i)
unfolding signed_from
place_of s at zero i h = absurd (not-suc-le-zero h)
place_of s at (suc n) zero h = ap (i32_at s) (first at)
  where
    first : (a : ℕ) → a ≡ a + 4 * 0
    first a = omega arith
place_of s at (suc n) (suc i) h = place_of s (at + 4) n i (omega arith) ∙ ap (i32_at s) (later at i)
  where
    later : (a j : ℕ) → a + 4 + 4 * j ≡ a + 4 * suc j
    later a j = omega arith

-- one place more is read
pub one-more-read : (s : List ℕ) (at i : ℕ) (l : List ℤ) (z : ℤ) → length l ≡ 16 → i < 16 → z ≡ i32_at s (at + 4 * i)
    → ((k : ℕ) → k < i → get_or l k (pos 0) ≡ i32_at s (at + 4 * k))
    → (length (set l i z) ≡ 16) × ((k : ℕ) → k < i + 1 → get_or (set l i z) k (pos 0) ≡ i32_at s (at + 4 * k))
one-more-read s at i l z n h e all = (
  length-set l i z ∙ n,
  below_more (λ k. get_or (set l i z) k (pos 0) ≡ i32_at s (at + 4 * k)) i (λ k g. get_or-set_other l i k z (pos 0) (λ (p : k ≡ i). omega arith) ∙ all k g)
      (get_or-set_same l i z (pos 0) (omega arith) ∙ e),
)

-- ---- a record that has the sizes of the bytes and their numbers as far as the first size goes has their table
fewer : (m n : ℕ) → least (least m n) 16 ≤ least m 16
fewer m n = go (leb m n) refl (leb m 16) refl
  where
    go : (a : Bool) → leb m n ≡ a → (b : Bool) → leb m 16 ≡ b → cond (leb (cond a m n) 16) (cond a m n) 16 ≤ cond b m 16
    go true p true q = rw q (omega arith)
    go true p false q = rw q (omega arith)
    go false p true q = other (leb n 16) refl
      where
        other : (c : Bool) → leb n 16 ≡ c → cond c n 16 ≤ m
        other true r = omega (arith, leb-false m n p)
        other false r = omega (arith, leb-false n 16 r, leb-false m n p, leb-true m 16 q)
    go false p false q = other (leb n 16) refl
      where
        other : (c : Bool) → leb n 16 ≡ c → cond c n 16 ≤ 16
        other true r = leb-true n 16 r
        other false r = omega arith

abbrev Reads : List ℕ → ℕ → ℕ → List ℤ → Type 0
Reads s at n l = (i : ℕ) → i < n → get_or l i (pos 0) ≡ i32_at s (at + 4 * i)

pub same-table : (s : List ℕ) (t : AnnouncedRows) → t.months_size ≡ u32_at s 0 → t.seconds_size ≡ u32_at s 4
    → Reads s 8 (least t.months_size 16) t.months → Reads s 72 (least t.months_size 16) t.seconds → table_of t ≡ table_of (record_in s)
unfolding announced_size
same-table s t p q ms ss =
    let most : announced_size t ≤ least t.months_size 16 = fewer t.months_size t.seconds_size in
    let few : least t.months_size 16 ≤ 16 = least-right t.months_size 16 in
    spare-unread t (record_in s) p q (λ i h.
    let k : i < least t.months_size 16 = omega arith in
    (ms i k ∙ sym (place_of s 8 16 i (omega arith)), ss i k ∙ sym (place_of s 72 16 i (omega arith))))

-- ---- by the length
pub of_136 : (s : List ℕ) (t : AnnouncedRows) → length s ≡ 136 → table_of t ≡ table_of (record_in s) → of_length (length s) (table_of t) ≡ table_bytes s
unfolding table_bytes
of_136 s t e p = ap (of_length (length s)) p

pub of_length_136 : (n : ℕ) (o : Outcome (List Row)) → n ≡ 136 → o ≡ of_length n o
unfolding of_length
of_length_136 n o h = rw (eq-eqb n 136 h)

pub wrong_length : (n : ℕ) (o : Outcome (List Row)) → (n ≡ 136 → ⊥) → refusal 14 ≡ of_length n o
unfolding of_length
wrong_length n o h = rw (ne_eqb n 136 h)

pub of_another : (s : List ℕ) (o : Outcome (List Row)) → (length s ≡ 136 → ⊥) → of_length (length s) o ≡ table_bytes s
unfolding table_bytes of_length
of_another s o h = rw (ne_eqb (length s) 136 h)

-- ---- two sizes of 0 lend no rows
both_none : (a b : ℕ) → eqb a 0 && eqb b 0 ≡ true → (a ≡ 0) × (b ≡ 0)
both_none a b e = go (eqb a 0) refl e
  where
    go : (x : Bool) → eqb a 0 ≡ x → x && eqb b 0 ≡ true → (a ≡ 0) × (b ≡ 0)
    go true p q = (eqb-true a 0 p, eqb-true b 0 q)
    go false p q = absurd (true≢false (sym q))

pub reads_none : (s : List ℕ) (t : AnnouncedRows) (a b : ℕ) → a ≡ u32_at s 0 → b ≡ u32_at s 4 → eqb a 0 && eqb b 0 ≡ true → table_of t ≡ answer fixed
    → table_of t ≡ table_of (record_in s)
reads_none s t a b p q e f =
    let (x, y) = both_none a b e in
    f ∙ sym (table_none (record_in s) (sym p ∙ x) (sym q ∙ y))

pub refuses-none : (n : ℕ) (t : AnnouncedRows) → n ≡ 136 → eqb t.months_size 0 && eqb t.seconds_size 0 ≡ true
    → answer (rows_of t) ≡ of_length n (table_of t)
refuses-none n t h e =
    let (x, y) = both_none t.months_size t.seconds_size e in
    let f = table_none t x y in
    ap answer (none_rows t f) ∙ sym f ∙ of_length_136 n (table_of t) h

-- ---- the places of both arrays are read whole
module _ (s : List ℕ) (t : AnnouncedRows) (p : t.months_size ≡ u32_at s 0) (q : t.seconds_size ≡ u32_at s 4) (ms : Reads s 8 16 t.months)
    (ss : Reads s 72 16 t.seconds) where
  pub all_read : table_of t ≡ table_of (record_in s)
  all_read =
      same-table s t p q (λ i h. ms i (omega (arith, least-right t.months_size 16))) (λ i h. ss i (omega (arith, least-right t.months_size 16)))

  pub whole-table : length s ≡ 136 → table_of t ≡ table_bytes s
  whole-table h = of_length_136 (length s) (table_of t) h ∙ of_136 s t h all_read

-- ---- what is read into two arrays and judged is the table of the bytes
pub wrong_bytes : (s : List ℕ) → (length s ≡ 136 → ⊥) → refusal 14 ≡ table_bytes s
unfolding table_bytes
wrong_bytes s h = wrong_length (length s) (table_of (record_in s)) h

-- sizes that differ, and sizes above 16, are refused whatever the places hold
module _ (s : List ℕ) (a b : ℕ) (p : a ≡ u32_at s 0) (q : b ≡ u32_at s 4) (h : length s ≡ 136) where
  by-sizes : refusal 20 ≡ table_of (record_in s) → refusal 20 ≡ table_bytes s
  unfolding table_bytes
  by-sizes e = e ∙ of_length_136 (length s) (table_of (record_in s)) h

  pub read-two-sizes : (a ≡ b → ⊥) → refusal 20 ≡ table_bytes s
  read-two-sizes e = by-sizes (sizes-differ (record_in s) (λ g. e (p ∙ g ∙ sym q)))

  pub read-large : a ≡ b → 16 < a → refusal 20 ≡ table_bytes s
  read-large e g = by-sizes (sizes-large (record_in s) (sym p ∙ e ∙ q) (subst (λ (k : ℕ). 16 < k) p g))

  -- no rows, whatever the places hold
  pub read_none : (m l : List ℤ) → eqb a 0 && eqb b 0 ≡ true → answer (rows_of (announced_table a b m l)) ≡ table_bytes s
  read_none m l e =
      let t = announced_table a b m l in
      let (x, y) = both_none a b e in
      let f = table_none t x y in
      ap answer (none_rows t f) ∙ sym f ∙ of_length_136 (length s) (table_of t) h ∙ of_136 s t h (reads_none s t a b p q e f)

-- ---- what a table's judge says, with the rows that it was asked about
pub as_seen : {A : Type 0} (a : A) (r : Result Unit Refusal) → seen (λ (u : Unit). a) r ≡ unless_refused (number_said r) a
unfolding seen number_said
as_seen a (Ok u) = refl
as_seen a (Err k) = go (refusal_number k) (number_low k)
  where
    go : (j : ℕ) → 1 ≤ j → refusal j ≡ unless_refused j a
    go zero h = absurd (not-suc-le-zero h)
    go (suc j) h = refl

-- ---- a size and two arrays that are judged by number: where the table is taken, their rows are its rows
pub by-arrays : (t : AnnouncedRows) (n : ℕ) → unless_refused n (rows_of t) ≡ table_of t
    → unless_refused n (rows_in (least t.months_size 16) t.months t.seconds) ≡ table_of t
by-arrays t (suc k) e = e
by-arrays t zero e =
    let k = when_taken t (rows_of t) (sym e) in
    ap answer (rows_in_lem t (least t.months_size 16)
    (least-low t.months_size 16 k.most ∙ sym (least-low t.months_size t.seconds_size (omega (arith, k.one_size))))) ∙ e

-- by the sizes a and b that were read
module _ (n a b a' b' : ℕ) (m l : List ℤ) (p : a ≡ a') (q : b ≡ b') (h : n ≡ 136) where
  pub arrays_judged : (number : ℕ) → Judged number (announced_table a b m l)
      → unless_refused number (rows_in (least a' 16) m l) ≡ of_length n (table_of (announced_table a' b' m l))
  arrays_judged number e =
      by-arrays (announced_table a' b' m l) number
      (subst (λ (x : ℕ). Judged number (announced_table x b' m l)) p (subst (λ (y : ℕ). Judged number (announced_table a y m l)) q e))
      ∙ of_length_136 n (table_of (announced_table a' b' m l)) h

-- how many places of both arrays are read: as many as the first size says, at most 16
abbrev pub size_in : List ℕ → ℕ
size_in s = least (u32_at s 0) 16

-- these places of an array hold the numbers from `at` on
abbrev pub ReadFrom : List ℕ → ℕ → List ℤ → Type 0
ReadFrom s at l = (i : ℕ) → i < size_in s → get_or l i (pos 0) ≡ i32_at s (at + 4 * i)

-- what was read of the bytes is their table
pub arrays_of_bytes : (s : List ℕ) (m l : List ℤ) → ReadFrom s 8 m → ReadFrom s 72 l
    → of_length (length s) (table_of (announced_table (u32_at s 0) (u32_at s 4) m l)) ≡ table_bytes s
unfolding table_bytes
arrays_of_bytes s m l p q = ap (of_length (length s)) (same-table s (announced_table (u32_at s 0) (u32_at s 4) m l) refl refl p q)

pub read-14 : (s : List ℕ) (rows : List Row) → (length s ≡ 136 → ⊥) → unless_refused 14 rows ≡ table_bytes s
unfolding table_bytes of_length
read-14 s rows h = rw (ne_eqb (length s) 136 h)

module _ (s : List ℕ) (a b : ℕ) (m l : List ℤ) (p : a ≡ u32_at s 0) (q : b ≡ u32_at s 4) (h : length s ≡ 136) where
  pub read-judged : (size number : ℕ) → size ≡ least a 16 → ((i : ℕ) → i < size → get_or m i (pos 0) ≡ i32_at s (8 + 4 * i))
      → ((i : ℕ) → i < size → get_or l i (pos 0) ≡ i32_at s (72 + 4 * i))
      → Judged number (announced_table a b m l) → unless_refused number (rows_in size m l) ≡ table_bytes s
  read-judged size number e ms ss j =
      let k : size ≡ size_in s = e ∙ ap (λ (x : ℕ). least x 16) p in
      ap (λ (x : ℕ). unless_refused number (rows_in x m l)) k
      ∙ arrays_judged (length s) a b (u32_at s 0) (u32_at s 4) m l p q h number j
      ∙ arrays_of_bytes s m l (λ i g. ms i (subst (λ (x : ℕ). i < x) (sym k) g)) (λ i g. ss i (subst (λ (x : ℕ). i < x) (sym k) g))

  pub read_none_by_number : eqb a 0 && eqb b 0 ≡ true → unless_refused 0 (rows_in 0 m l) ≡ table_bytes s
  read_none_by_number e =
      let (x, y) = both_none a b e in
      let f = table_none (announced_table a b m l) x y in
      read-judged 0 0 (none_of x) (λ i g. absurd (not-suc-le-zero g)) (λ i g. absurd (not-suc-le-zero g))
      (ap answer (none_rows (announced_table a b m l) f) ∙ sym f)
    where
      none_of : a ≡ 0 → 0 ≡ least a 16
      none_of x = ap (λ (k : ℕ). least k 16) (sym x)
