-- Every table that is read is one that the library takes: `table_of` answers it. Assumes nothing.
use Prim.Native.Nat.{ℕ, zero, suc, ◌+◌, ◌≤◌, ◌<◌}
use native.Mathlib.Omega.{arith}
use native.Mathlib.Numerals.{add-one}
use mathlib.Core.Path.{◌≡◌, refl, ap, ◌∙◌}
use mathlib.Core.List.{List, [], ◌∷◌}
use mathlib.Core.Logic.{◌⊎◌, inl, inr}
use mathlib.Core.Bool.{Bool, true, false, cond}
use lib.ListN.{length, get_or, set, length-set}
use lib.Seq.{get_or-set_same, get_or-set_other}
use lib.IntN.{ℤ, pos}
use lib.Signed.{lt_z}
use lib.Dec.{leb, ltb, eqb}
use borrow.Author.Tests.{ltb-true, ltb-false, lt-ltb, leb-false, eqb-true, eqb-false}
use Rattle.refusals.specs.Outcome.{answer}
use Rattle.leap_table.specs.declared.rows.AnnouncedRows.{AnnouncedRows}
use Rattle.leap_table.specs.rows.Table.{last_month, last_seconds}
use Rattle.leap_table.specs.rows.Announced.{announced_table, rows_of, table_of, before, OneStep, one_apart, Decision, sizes, order, step}
use Rattle.leap_table.specs.rows.Announced.{rows_of, taken}
use Rattle.leap_table.proofs.rows.TableLaws.{near, table-decided}
use Rattle.leap_lists.specs.declared.held.Held.{Held}
use Rattle.leap_lists.specs.declared.lines.Line.{Line}
use Rattle.leap_lists.specs.declared.lines.Line.TheVariants as K
use Rattle.leap_lists.specs.lines.Lines.{line_says}
use Rattle.leap_lists.specs.Held.{none_held, library_row, later_fault, line_fault, with_row, with_line}
use Rattle.leap_lists.specs.Texts.{lines_of}
use Rattle.leap_lists.specs.Reading.{ListAnswer, answered, refused_at, read_from, read_of}

-- what is held is rising and goes by one second, and its last row is the one that is told
pub record Good (h : Held) : Type 0 where
  pub many : h.size ≤ 16
  pub all-months : length h.months ≡ 16
  pub all-seconds : length h.seconds ≡ 16
  pub last-month : before (pos last_month) h.months h.size ≡ pos h.month
  pub last-second : before (pos last_seconds) h.seconds h.size ≡ pos h.second
  pub rises : (i : ℕ) → i < h.size → lt_z (before (pos last_month) h.months i) (get_or h.months i (pos 0)) ≡ true
  pub steps : (i : ℕ) → i < h.size → OneStep (before (pos last_seconds) h.seconds i) (get_or h.seconds i (pos 0))

pub good_start : Good none_held
unfolding none_held
good_start = record {
  many = omega arith;
  all-months = refl;
  all-seconds = refl;
  last-month = refl;
  last-second = refl;
  rises = λ i g. absurd (let no : ⊥ = omega arith in no);
  steps = λ i g. absurd (let no : ⊥ = omega arith in no);
}

-- ---- one place more
module _ (z : ℤ) (l : List ℤ) (n : ℕ) (v : ℤ) (h : n < length l) where
  before-kept : (i : ℕ) → i ≤ n → before z (set l n v) i ≡ before z l i
  before-kept zero g = refl
  before-kept (suc i) g = get_or-set_other l n i v (pos 0) (λ e. omega arith)

  before-new : before z (set l n v) (n + 1) ≡ v
  before-new = ap (before z (set l n v)) (add-one n) ∙ get_or-set_same l n v (pos 0) h

-- ---- a later row that is not refused
pub record Fits (h : Held) (m s : ℕ) : Type 0 where
  pub has_room : h.size < 16
  pub later : h.month < m
  pub one-second : one_apart h.second s ≡ true

pub row_fits : (h : Held) (m s : ℕ) → later_fault h m s ≡ 0 → Fits h m s
unfolding later_fault
row_fits h m s e = by (leb 16 h.size) refl (leb m h.month) refl (one_apart h.second s) refl e
  where
    by : (a : Bool) → leb 16 h.size ≡ a → (b : Bool) → leb m h.month ≡ b → (c : Bool) → one_apart h.second s ≡ c
        → ◌≡◌ {A = ℕ} (cond a 20 (cond b 21 (cond c 0 22))) 0 → Fits h m s
    by true p b q c r g = absurd (let no : ⊥ = omega arith in no)
    by false p true q c r g = absurd (let no : ⊥ = omega arith in no)
    by false p false q false r g = absurd (let no : ⊥ = omega arith in no)
    by false p false q true r g = record { has_room = leb-false _ _ p; later = leb-false _ _ q; one-second = r }

one-step : (b n : ℕ) → one_apart b n ≡ true → OneStep (pos b) (pos n)
one-step b n e = go (near b n e)
  where
    go : (n ≡ b + 1) ⊎ (b ≡ n + 1) → OneStep (pos b) (pos n)
    go (inl p) = inl (ap pos (p ∙ add-one b))
    go (inr p) = inr (ap pos (p ∙ add-one n))

pub good_more : (h : Held) (m s : ℕ) → Good h → Fits h m s → Good (with_row h m s)
good_more h m s g f =
    let n = h.size in
    let rm : n < length h.months = omega (arith, g.all-months, f.has_room) in
    let rs : n < length h.seconds = omega (arith, g.all-seconds, f.has_room) in
    record {
      many = omega (arith, f.has_room);
      all-months = length-set h.months n (pos m) ∙ g.all-months;
      all-seconds = length-set h.seconds n (pos s) ∙ g.all-seconds;
      last-month = before-new (pos last_month) h.months n (pos m) rm;
      last-second = before-new (pos last_seconds) h.seconds n (pos s) rs;
      rises = λ i k. rise i (ltb i n) refl k rm;
      steps = λ i k. step-at i (ltb i n) refl k rs;
    }
  where
    rise : (i : ℕ) (b : Bool) → ltb i h.size ≡ b → i < h.size + 1 → h.size < length h.months
        → lt_z (before (pos last_month) (set h.months h.size (pos m)) i) (get_or (set h.months h.size (pos m)) i (pos 0)) ≡ true
    rise i true p k r =
        let less : i < h.size = ltb-true i h.size p in
        (λ j. lt_z (before-kept (pos last_month) h.months h.size (pos m) r i (omega arith) j)
        (get_or-set_other h.months h.size i (pos m) (pos 0) (λ e. omega arith) j)) ∙ g.rises i less
    rise i false p k r =
        let same : i ≡ h.size = omega (arith, ltb-false i h.size p) in
        (λ j. lt_z ((before-kept (pos last_month) h.months h.size (pos m) r i (omega arith) ∙ ap (before (pos last_month) h.months) same
        ∙ g.last-month) j)
        ((ap (λ (x : ℕ). get_or (set h.months h.size (pos m)) x (pos 0)) same ∙ get_or-set_same h.months h.size (pos m) (pos 0) r) j))
        ∙ lt-ltb h.month m f.later

    step-at : (i : ℕ) (b : Bool) → ltb i h.size ≡ b → i < h.size + 1 → h.size < length h.seconds
        → OneStep (before (pos last_seconds) (set h.seconds h.size (pos s)) i) (get_or (set h.seconds h.size (pos s)) i (pos 0))
    step-at i true p k r =
        let less : i < h.size = ltb-true i h.size p in
        rw (
          before-kept (pos last_seconds) h.seconds h.size (pos s) r i (omega arith),
          get_or-set_other h.seconds h.size i (pos s) (pos 0) (λ e. omega arith),
        ) (g.steps i less)
    step-at i false p k r =
        let same : i ≡ h.size = omega (arith, ltb-false i h.size p) in
        rw (
          before-kept (pos last_seconds) h.seconds h.size (pos s) r i (omega arith),
          same,
          g.last-second,
          get_or-set_same h.seconds h.size (pos s) (pos 0) r,
        ) (one-step h.second s f.one-second)

-- ---- a line that is not refused
pub good-line : (h : Held) (l : Line) → Good h → line_fault h l ≡ 0 → Good (with_line h l)
unfolding with_line line_fault
good-line h K.Blank g e = g
good-line h (K.Row m s) g e = either (ltb last_month m) e
  where
    either : (b : Bool) → ◌≡◌ {A = ℕ} (cond b (later_fault h m s) (cond (library_row m s) 0 22)) 0 → Good (cond b (with_row h m s) h)
    either true p = good_more h m s g (row_fits h m s p)
    either false p = g
good-line h (K.Expiry d) g e = record {
  many = g.many;
  all-months = g.all-months;
  all-seconds = g.all-seconds;
  last-month = g.last-month;
  last-second = g.last-second;
  rises = g.rises;
  steps = g.steps;
}
good-line h K.Outside g e = g

-- ---- so the table of a good reading is taken
pub good-taken : (h : Held) → Good h → table_of (announced_table h.size h.size h.months h.seconds)
    ≡ answer (rows_of (announced_table h.size h.size h.months h.seconds))
good-taken h g = by (table-decided (announced_table h.size h.size h.months h.seconds))
  where
    t : AnnouncedRows
    t = announced_table h.size h.size h.months h.seconds

    by : Decision t → table_of t ≡ answer (rows_of t)
    by (sizes n e) = absurd (let m = n refl in let no : ⊥ = omega (arith, g.many, m) in no)
    by (order p q i l f e) =
        absurd (let y : lt_z (before (pos last_month) h.months i) (get_or h.months i (pos 0)) ≡ true = g.rises i l in
        let z : ◌≡◌ {A = ℕ} 0 1 = cc in let no : ⊥ = omega arith in no)
    by (step p q r i l f e) = absurd (f (g.steps i l))
    by (taken p q r s e) = e

refused-number : (k n : ℕ) → (refused_at k n).number ≡ 0 → k ≡ 0
unfolding refused_at
refused-number k n e = e

lines-taken : (h : Held) (n : ℕ) (ls : List (List ℕ)) → Good h → (read_from h n ls).number ≡ 0
    → table_of (read_from h n ls).table ≡ answer (rows_of (read_from h n ls).table)
unfolding read_from answered
lines-taken h n [] g e = good-taken h g
lines-taken h n (l ∷ ls) g e =
    either (eqb (line_fault h (line_says l)) 0) refl (λ k. lines-taken (with_line h (line_says l)) (n + 1) ls (good-line h (line_says l) g k)) e
  where
    on : ListAnswer
    on = read_from (with_line h (line_says l)) (n + 1) ls

    off : ListAnswer
    off = refused_at (line_fault h (line_says l)) (n + 1)

    either : (b : Bool) → eqb (line_fault h (line_says l)) 0 ≡ b
        → (line_fault h (line_says l) ≡ 0 → on.number ≡ 0 → table_of on.table ≡ answer (rows_of on.table))
        → (cond b on off).number ≡ 0 → table_of (cond b on off).table ≡ answer (rows_of (cond b on off).table)
    either true p next q = next (eqb-true _ _ p) q
    either false p next q = absurd (eqb-false _ _ p (refused-number _ _ q))

-- EVERY TABLE THAT IS READ IS TAKEN
pub read_taken : (t : List ℕ) → (read_of t).number ≡ 0 → table_of (read_of t).table ≡ answer (rows_of (read_of t).table)
unfolding read_of
read_taken t e = lines-taken none_held 0 (lines_of t) good_start e

-- ---- and has two arrays of 16, and at most 16 rows
pub record Sixteen (t : AnnouncedRows) : Type 0 where
  pub few : t.months_size ≤ 16
  pub alike : t.seconds_size ≡ t.months_size
  pub months : length t.months ≡ 16
  pub seconds : length t.seconds ≡ 16

lines-sixteen : (h : Held) (n : ℕ) (ls : List (List ℕ)) → Good h → Sixteen (read_from h n ls).table
unfolding read_from answered refused_at
lines-sixteen h n [] g = record { few = g.many; alike = refl; months = g.all-months; seconds = g.all-seconds }
lines-sixteen h n (l ∷ ls) g =
    either (eqb (line_fault h (line_says l)) 0) refl (λ k. lines-sixteen (with_line h (line_says l)) (n + 1) ls (good-line h (line_says l) g k))
  where
    on : ListAnswer
    on = read_from (with_line h (line_says l)) (n + 1) ls

    off : ListAnswer
    off = refused_at (line_fault h (line_says l)) (n + 1)

    either : (b : Bool) → eqb (line_fault h (line_says l)) 0 ≡ b → (line_fault h (line_says l) ≡ 0 → Sixteen on.table) → Sixteen (cond b on off).table
    either true p next = next (eqb-true _ _ p)
    either false p next = record { few = omega arith; alike = refl; months = refl; seconds = refl }

pub read-sixteen : (t : List ℕ) → Sixteen (read_of t).table
unfolding read_of
read-sixteen t = lines-sixteen none_held 0 (lines_of t) good_start
