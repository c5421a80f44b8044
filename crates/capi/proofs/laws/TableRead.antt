-- A TABLE THAT IS READ FROM A TEXT, for C: when it is answered, what a refused call leaves and what stays behind the bytes that an answered one writes, the day
-- until which the text says that it is known, and which line is at fault. The table's own bytes are TableBack's. Assumes nothing.
use Prim.Native.Nat.{ℕ, zero, suc, ◌+◌, ◌-◌, ◌*◌, ◌≤◌, ◌<◌}
use native.Mathlib.Omega.{arith}
use mathlib.Core.Path.{◌≡◌, refl, sym, ap, ◌∙◌}
use mathlib.Core.Bool.{Bool, true, false, cond}
use mathlib.Core.List.{List, [], ◌∷◌, ◌++◌}
use lib.Dec.{eqb, leb, ltb}
use lib.IntN.{ℤ, pos}
use lib.ListN.{length, take, drop, get_or, length-append}
use lib.Seq.{sets, sets-eq, length-take-le, drop-drop, drop-append-add}
use borrow.Author.Tests.{eq-eqb, eqb-true, eqb-false, le-leb, leb-true, ltb-true, ltb-false, le-ltb}
use Rattle.refusals.specs.Outcome.{Outcome, answer, refusal}
use Rattle.numerals.specs.little_endian.LittleEndian.{four_bytes, u32_at, with_u32, with_nth32}
use Rattle.numerals.proofs.little_endian.Parts.{four-in-part}
use Rattle.numerals.proofs.little_endian.RoundTrip.{read-written-4}
use Rattle.leap_table.specs.declared.rows.AnnouncedRows.{AnnouncedRows}
use Rattle.leap_table.specs.rows.Announced.{natural, announced_table}
use Rattle.leap_table.proofs.rows.ByParts.{least-low}
use Rattle.leap_lists.specs.Held.{none_held}
use Rattle.leap_lists.specs.Texts.{lines_of}
use Rattle.leap_lists.specs.Reading.{ListAnswer, answered, refused_at, read_of}
use Rattle.leap_lists.specs.Verdict.{ListVerdict, taken, refused}
use Rattle.leap_lists.proofs.Verdicts.{text-verdict}
use Rattle.capi.specs.ListDelivery.{put_to, with_table, rows_read, where_read, fault_line, TableRead}
use Rattle.capi.specs.laws.TableRead.{RowsDecision, text_refused, no_table_room, no_day_room, rows_counted, FaultDecision, text_read, line-told}

-- ---- WHEN A TABLE IS ANSWERED, and the order of the refusals: the number of the text, the table's room, the day's
pub rows-decided : (a : ListAnswer) (m n : ℕ) → RowsDecision a m n (rows_read a m n)
unfolding rows_read
rows-decided a m n = by (eqb a.number 0) (ltb m 136) (ltb n 4) refl refl refl
  where
    by : (x y z : Bool) → eqb a.number 0 ≡ x → ltb m 136 ≡ y → ltb n 4 ≡ z
        → RowsDecision a m n (cond x (cond y (refusal 11) (cond z (refusal 11) (answer a.table.months_size))) (refusal a.number))
    by false y z p q r = text_refused (eqb-false _ _ p) refl
    by true true z p q r = no_table_room (eqb-true _ _ p) (ltb-true _ _ q) refl
    by true false true p q r = no_day_room (eqb-true _ _ p) (ltb-false _ _ q) (ltb-true _ _ r) refl
    by true false false p q r = rows_counted (eqb-true _ _ p) (ltb-false _ _ q) (ltb-false _ _ r) refl

-- the last lengths that are refused and the first that are taken, of a text with one row; and the number of a refused text before both
abbrev one-row : ℕ → ListAnswer
one-row number = record { number = number; line = number; known_until = 61400; table = announced_table 1 1 (pos 108000 ∷ []) (pos 38 ∷ []) }

pub rooms_at_their_ends : (rows_read (one-row 0) 136 4 ≡ answer 1) × (rows_read (one-row 0) 135 4 ≡ refusal 11) × (rows_read (one-row 0) 136 3 ≡ refusal 11)
    × (rows_read (one-row 15) 135 3 ≡ refusal 15)
unfolding rows_read
rooms_at_their_ends = (refl, refl, refl, refl)

-- ---- what stays
behind-bytes : (l bs : List ℕ) (i k : ℕ) → i + length bs ≤ length l → i + length bs ≤ k → drop k (sets l i bs) ≡ drop k l
behind-bytes l bs i k h g =
    let front = take i l ++ bs in
    let e : length front ≡ i + length bs = length-append (take i l) bs ∙ ap (λ (n : ℕ). n + length bs) (length-take-le i l (omega arith)) in
    let j : k ≡ length front + (k - (i + length bs)) = omega arith in
    let m : i + length bs + (k - (i + length bs)) ≡ k = omega arith in
    ap (drop k) (sets-eq bs l i h) ∙ ap (λ (n : ℕ). drop n (front ++ drop (i + length bs) l)) j
    ∙ drop-append-add front (drop (i + length bs) l) (k - (i + length bs)) ∙ drop-drop (k - (i + length bs)) (i + length bs) l
    ∙ ap (λ (n : ℕ). drop n l) m

behind-place : (l : List ℕ) (i n : ℕ) → i < 34 → drop 136 (with_nth32 l i n) ≡ drop 136 l
unfolding with_nth32
behind-place l i n h = either (leb (4 * i + 4) (length l)) refl
  where
    either : (b : Bool) → leb (4 * i + 4) (length l) ≡ b → drop 136 (cond b (sets l (4 * i) (four_bytes n)) l) ≡ drop 136 l
    either true e = behind-bytes l (four_bytes n) (4 * i) 136 (leb-true _ _ e) (omega arith)
    either false e = refl

behind_places : (l : List ℕ) (from : ℕ) (ns : List ℤ) (n : ℕ) → from + n ≤ 34 → drop 136 (put_to l from ns n) ≡ drop 136 l
unfolding put_to
behind_places l from ns zero h = refl
behind_places l from ns (suc n) h =
    behind-place (put_to l from ns n) (from + n) (natural (get_or ns n (pos 0))) (omega arith) ∙ behind_places l from ns n (omega arith)

behind-table : (l : List ℕ) (t : AnnouncedRows) → drop 136 (with_table l t) ≡ drop 136 l
unfolding with_table
behind-table l t =
    behind_places _ 18 t.seconds 16 (omega arith) ∙ behind_places _ 2 t.months 16 (omega arith) ∙ behind-place _ 1 t.seconds_size (omega arith)
    ∙ behind-place l 0 t.months_size (omega arith)

behind-day : (l : List ℕ) (n : ℕ) → drop 4 (with_u32 l n) ≡ drop 4 l
unfolding with_u32
behind-day l n = either (leb 4 (length l))
  where
    either : (b : Bool) → drop 4 (cond b (four_bytes n ++ drop 4 l) l) ≡ drop 4 l
    either true = refl
    either false = refl

-- ---- the call
module _ (a : ListAnswer) (table known : List ℕ) (r : ℤ) (table' known' : List ℕ) (d : TableRead a table known r table' known') where
  -- A REFUSED CALL writes nothing
  pub refused-writes-nothing : (k : ℕ) → rows_read a (length table) (length known) ≡ refusal k → (table' ≡ table) × (known' ≡ known)
  unfolding where_read
  refused-writes-nothing k e = (
    d.table_holds ∙ ap (λ (o : Outcome ℕ). where_read o (with_table table a.table) table) e,
    d.known_holds ∙ ap (λ (o : Outcome ℕ). where_read o (with_u32 known a.known_until) known) e,
  )

  -- WHAT STANDS BEHIND the table's 136 bytes, and behind the day's four, stays
  pub spare-stays : (drop 136 table' ≡ drop 136 table) × (drop 4 known' ≡ drop 4 known)
  unfolding where_read
  spare-stays = by (rows_read a (length table) (length known)) d.table_holds d.known_holds
    where
      by : (o : Outcome ℕ) → table' ≡ where_read o (with_table table a.table) table → known' ≡ where_read o (with_u32 known a.known_until) known
          → (drop 136 table' ≡ drop 136 table) × (drop 4 known' ≡ drop 4 known)
      by (answer n) p q = (ap (drop 136) p ∙ behind-table table a.table, ap (drop 4) q ∙ behind-day known a.known_until)
      by (refusal k) p q = (ap (drop 136) p, ap (drop 4) q)

  -- of a text that is read, into 136 bytes and four, or more
  module _ (z : a.number ≡ 0) (h : 136 ≤ length table) (g : 4 ≤ length known) where
    answers : rows_read a (length table) (length known) ≡ answer a.table.months_size
    unfolding rows_read
    answers = rw (eq-eqb _ _ z, le-ltb _ _ h, le-ltb _ _ g)

    -- the table is that of TableBack
    pub table_is : table' ≡ with_table table a.table
    unfolding where_read
    table_is = d.table_holds ∙ ap (λ (o : Outcome ℕ). where_read o (with_table table a.table) table) answers

    -- THE DAY IS READ BACK from its four bytes
    pub known-back : a.known_until < 4294967296 → u32_at known' 0 ≡ a.known_until
    unfolding where_read with_u32
    known-back w =
        let n = a.known_until in
        let there : known' ≡ four_bytes n ++ drop 4 known =
        d.known_holds ∙ ap (λ (o : Outcome ℕ). where_read o (with_u32 known n) known) answers
        ∙ ap (λ (b : Bool). cond b (four_bytes n ++ drop 4 known) known) (le-leb _ _ g) in
        ap (λ (l : List ℕ). u32_at l 0) there
        ∙ sym (four-in-part (four_bytes n ++ drop 4 known) 0 (omega (arith, length-append (four_bytes n) (drop 4 known))))
        ∙ read-written-4 n w

-- ---- THE LINE AT FAULT is 0 exactly where the text is read, and else the first line at fault
pub fault_back : (text : List ℕ) → FaultDecision text (fault_line (read_of text))
unfolding fault_line answered refused_at
fault_back text = by (text-verdict text)
  where
    by : ListVerdict none_held 0 (lines_of text) (read_of text) → FaultDecision text (fault_line (read_of text))
    by (taken f e) = text_read (ap (λ (a : ListAnswer). a.number) e) (ap (λ (a : ListAnswer). fault_line a) e)
    by (refused i h f g e) =
        line-told i h f g (ap (λ (a : ListAnswer). a.number) e)
        (λ s. let z : 0 + suc i ≡ suc i = omega arith in
        ap (λ (a : ListAnswer). fault_line a) e ∙ ap pos (least-low (0 + suc i) 9223372036854775807 (omega arith) ∙ z))
        (λ s. some (leb (0 + suc i) 9223372036854775807) (sym (ap (λ (a : ListAnswer). fault_line a) e) ∙ s))
      where
        some : (b : Bool) → pos (cond b (0 + suc i) 9223372036854775807) ≡ pos 0 → ⊥
        some true q = let z : 0 + suc i ≡ 0 = cc q in omega arith
        some false q = let z : ◌≡◌ {A = ℕ} 9223372036854775807 0 = cc q in omega arith

-- the last line that is told by its number, and the first that is not
pub fault_at_its_end : (fault_line (refused_at 15 9223372036854775807) ≡ pos 9223372036854775807) × (fault_line (refused_at 15 9223372036854775806)
    ≡ pos 9223372036854775806) × (fault_line (refused_at 15 9223372036854775808) ≡ pos 9223372036854775807) × (fault_line (refused_at 15 65536) ≡ pos 65536)
unfolding fault_line refused_at
fault_at_its_end = (refl, refl, refl, refl)
