-- What is written is read back: a record from its 136 bytes. Assumes nothing.
use Prim.Native.Nat.{ℕ, zero, suc, ◌+◌, ◌*◌, ◌/◌, ◌%◌, ◌<◌}
use native.Mathlib.Omega.{arith}
use native.Mathlib.Nat.{not-suc-le-zero, div-div-eq-div-mul}
use mathlib.Core.Path.{◌≡◌, refl, sym, ap, subst, ◌∙◌}
use mathlib.Core.List.{List, [], ◌∷◌, ◌++◌, map}
use lib.IntN.{ℤ, pos}
use lib.ListN.{length, get_or, length-append, length-map, get_or-append}
use lib.Seq.{get_or-append-add, ext_get_or}
use mir.Syntax.{w32}
use mir.Val.{SFits}
use borrow.Author.Tests.{le-leb, eq-eqb}
use Rattle.numerals.specs.little_endian.LittleEndian.{four_at, u32_at, signed32, i32_at}
use Rattle.leap_table.specs.declared.rows.AnnouncedRows.{AnnouncedRows}
use Rattle.leap_table.specs.rows.Announced.{table_of}
use Rattle.c_answers.specs.Fields.{four_bytes}
use Rattle.c_answers.specs.table.TableBytes.{signed_from, record_in, of_length, table_bytes}
use Rattle.c_answers.specs.table.RecordBytes.{pattern32, in_fours, record_bytes, MachineRecord}
use Rattle.c_answers.proofs.table.Signed32.{signed_back, pattern_small}
use Rattle.c_answers.proofs.table.Reading.{place_of}

-- ---- a number from its four bytes
split : (a : ℕ) → a ≡ a % 256 + 256 * (a / 256)
split a = omega arith

next_place : (n k m : ℕ) → k * 256 ≡ m → n / k ≡ n / k % 256 + 256 * (n / m)
next_place n k m e = split (n / k) ∙ ap (λ (z : ℕ). n / k % 256 + 256 * z) (div-div-eq-div-mul n k 256 ∙ ap (λ (z : ℕ). n / z) e)

sum4 : (n a1 a2 a3 r0 r1 r2 r3 : ℕ) → n ≡ r0 + 256 * a1 → a1 ≡ r1 + 256 * a2 → a2 ≡ r2 + 256 * a3 → a3 ≡ r3 → r0 + 256 * r1 + 65536 * r2 + 16777216 * r3 ≡ n
sum4 n a1 a2 a3 r0 r1 r2 r3 e0 e1 e2 e3 = omega arith

last_byte : (n : ℕ) → n < 4294967296 → n / 0x100_0000 ≡ n / 0x100_0000 % 256
last_byte n h = omega arith

first-four : (n : ℕ) (rest : List ℕ) → n < 4294967296 → four_at (four_bytes n ++ rest) 0 ≡ n
unfolding four_at
first-four n rest h = sum4 n (n / 0x100) (n / 0x1_0000) (n / 0x100_0000) (n % 256) (n / 0x100 % 256) (n / 0x1_0000 % 256) (n / 0x100_0000 % 256)
    (split n) (next_place n 0x100 0x1_0000 refl) (next_place n 0x1_0000 0x100_0000 refl) (last_byte n h)

-- ---- and number k of those behind each other
later-four : (n : ℕ) (rest : List ℕ) (at at' : ℕ) → at ≡ 4 + at' → four_at (four_bytes n ++ rest) at ≡ four_at rest at'
unfolding four_at
later-four n rest at at' e =
    let p : (j : ℕ) → get_or (four_bytes n ++ rest) (at + j) 0 ≡ get_or rest (at' + j) 0
    = λ j. ap (λ (m : ℕ). get_or (four_bytes n ++ rest) m 0) (moved at at' j e) ∙ get_or-append-add (four_bytes n) rest (at' + j) 0 in
    let q : get_or (four_bytes n ++ rest) at 0 ≡ get_or rest at' 0 = ap (λ (m : ℕ). get_or (four_bytes n ++ rest) m 0) e ∙ get_or-append-add
    (four_bytes n) rest at' 0 in
    λ i. q i + 256 * p 1 i + 65536 * p 2 i + 16777216 * p 3 i
  where
    moved : (a b j : ℕ) → a ≡ 4 + b → a + j ≡ 4 + (b + j)
    moved a b j e = omega arith

fours_length : (l : List ℕ) → length (in_fours l) ≡ 4 * length l
unfolding in_fours
fours_length [] = refl
fours_length (n ∷ l) = more (length (in_fours l)) (length l) (fours_length l)
  where
    more : (a b : ℕ) → a ≡ 4 * b → suc (suc (suc (suc a))) ≡ 4 * suc b
    more a b e = omega arith

number-at : (l : List ℕ) (k : ℕ) → k < length l → get_or l k 0 < 4294967296 → four_at (in_fours l) (4 * k) ≡ get_or l k 0
unfolding in_fours
number-at [] k h f = absurd (not-suc-le-zero h)
number-at (n ∷ l) zero h f = first-four n (in_fours l) f
number-at (n ∷ l) (suc k) h f = later-four n (in_fours l) (4 * suc k) (4 * k) (four-more k) ∙ number-at l k (omega arith) f
  where
    four-more : (j : ℕ) → 4 * suc j ≡ 4 + 4 * j
    four-more j = omega arith

pub in_place : (l : List ℕ) (k at : ℕ) → at ≡ 4 * k → k < length l → get_or l k 0 < 4294967296 → u32_at (in_fours l) at ≡ get_or l k 0
unfolding u32_at
in_place l k at e h f = simp (le-leb (at + 4) (length (in_fours l)) (omega (arith, fours_length l))) (ap (four_at (in_fours l)) e ∙ number-at l k h f)

-- ---- the patterns of an array
pub at_map : (l : List ℤ) (i : ℕ) → i < length l → get_or (map pattern32 l) i 0 ≡ pattern32 (get_or l i (pos 0))
at_map [] i h = absurd (not-suc-le-zero h)
at_map (z ∷ l) zero h = refl
at_map (z ∷ l) (suc i) h = at_map l i (omega arith)

from-length : (s : List ℕ) (at n : ℕ) → length (signed_from s at n) ≡ n
unfolding signed_from
from-length s at zero = refl
from-length s at (suc n) = ap suc (from-length s (at + 4) n)

module _ (t : AnnouncedRows) (held : MachineRecord t) where
  abbrev ms : List ℕ
  ms = map pattern32 t.months

  abbrev ss : List ℕ
  ss = map pattern32 t.seconds

  abbrev l : List ℕ
  l = t.months_size ∷ (t.seconds_size ∷ (ms ++ ss))

  ms_length : length ms ≡ 16
  ms_length = length-map t.months pattern32 ∙ held.sixteen_months

  ss_length : length ss ≡ 16
  ss_length = length-map t.seconds pattern32 ∙ held.sixteen_seconds

  both_length : length (ms ++ ss) ≡ 32
  both_length = length-append ms ss ∙ (λ i. ms_length i + ss_length i)

  all-length : length l ≡ 34
  all-length = λ i. suc (suc (both_length i))

  pub bytes-136 : length (record_bytes t) ≡ 136
  bytes-136 = fours_length l ∙ ap (λ (n : ℕ). 4 * n) all-length

  month-pattern : (i : ℕ) → i < 16 → get_or l (suc (suc i)) 0 ≡ pattern32 (get_or t.months i (pos 0))
  month-pattern i h = get_or-append ms ss 0 i (omega (arith, ms_length)) ∙ at_map t.months i (omega (arith, held.sixteen_months))

  second-pattern : (i : ℕ) → i < 16 → get_or l (suc (suc (16 + i))) 0 ≡ pattern32 (get_or t.seconds i (pos 0))
  second-pattern i h =
      ap (λ (n : ℕ). get_or (ms ++ ss) (n + i) 0) (sym ms_length)
      ∙ get_or-append-add ms ss i 0
      ∙ at_map t.seconds i (omega (arith, held.sixteen_seconds))

  read_number : (k at : ℕ) (z : ℤ) → SFits w32 z → at ≡ 4 * k → k < 34 → get_or l k 0 ≡ pattern32 z → i32_at (record_bytes t) at ≡ z
  read_number k at z f e h p =
      ap signed32 (in_place l k at e (omega (arith, all-length)) (subst (λ (n : ℕ). n < 4294967296) (sym p) (pattern_small z f)) ∙ p) ∙ signed_back z f

  months_back : signed_from (record_bytes t) 8 16 ≡ t.months
  months_back = ext_get_or (pos 0) _ _ (from-length (record_bytes t) 8 16 ∙ sym held.sixteen_months) (λ i h.
      let k : i < 16 = omega (arith, from-length (record_bytes t) 8 16) in
      place_of (record_bytes t) 8 16 i k
      ∙ read_number (suc (suc i)) (8 + 4 * i) (get_or t.months i (pos 0)) (held.months_fit i) (place i) (omega arith) (month-pattern i k))
    where
      place : (i : ℕ) → 8 + 4 * i ≡ 4 * suc (suc i)
      place i = omega arith

  seconds-back : signed_from (record_bytes t) 72 16 ≡ t.seconds
  seconds-back = ext_get_or (pos 0) _ _ (from-length (record_bytes t) 72 16 ∙ sym held.sixteen_seconds) (λ i h.
      let k : i < 16 = omega (arith, from-length (record_bytes t) 72 16) in
      place_of (record_bytes t) 72 16 i k
      ∙ read_number (suc (suc (16 + i))) (72 + 4 * i) (get_or t.seconds i (pos 0)) (held.seconds_fit i) (place i) (omega arith) (second-pattern i k))
    where
      place : (i : ℕ) → 72 + 4 * i ≡ 4 * suc (suc (16 + i))
      place i = omega arith

  -- THE RECORD IN THE BYTES OF A RECORD is this record
  pub record_back : record_in (record_bytes t) ≡ t
  record_back = λ i. record {
    months_size = in_place l 0 0 refl (omega (arith, all-length)) held.months-size i;
    seconds_size = in_place l 1 4 refl (omega (arith, all-length)) held.seconds-size i;
    months = months_back i;
    seconds = seconds-back i;
  }

  pub table-back : table_bytes (record_bytes t) ≡ table_of t
  unfolding table_bytes of_length
  table-back = rw (eq-eqb (length (record_bytes t)) 136 bytes-136) (ap table_of record_back)
