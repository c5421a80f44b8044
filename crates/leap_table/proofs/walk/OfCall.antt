-- WHAT A CALL WRITES: where a call over the bytes, or the numbers, written from any list of dates is answered, it writes as many offsets as there are dates, at
-- place i the one that the look-up gives for date i, and leaves the places behind them. Assumes nothing.
use Rattle.std.proofs.Common.{◌≡◌, ℕ, zero, suc, ◌+◌, ◌*◌, ◌/◌, ◌%◌, ◌<◌, Bool, true, false, cond, leb, List, [], ◌∷◌, map, length, get_or, take, drop, pos}
use Rattle.std.proofs.Common.{sym, refl, ap, ◌∙◌, arith, drop_at, eq-eqb}
use lib.Ieee.{Float}
use lib.ListN.{length-map, get_or-append, get_or-map}
use Rattle.std.specs.Prelude.{Ok}
use Rattle.refusals.specs.Outcome.{Outcome, answer, refusal, onward, outcome}
use Rattle.refusals.proofs.Onward.{came}
use Rattle.numerals.specs.little_endian.Written.{all_bytes}
use Rattle.numerals.specs.little_endian.LittleEndian.{pattern32}
use Rattle.leap_table.specs.rows.Table.{Row, fixed}
use Rattle.leap_table.specs.rows.Announced.{rows_of, table_of}
use Rattle.leap_table.specs.declared.rows.AnnouncedRows.{AnnouncedRows}
use Rattle.floats.specs.Whole.{nought}
use Rattle.leap_table.specs.offsets.Offset.{tai_utc_offset}
use Rattle.leap_table.specs.declared.judging.Triple.{Triple}
use Rattle.calendar.specs.Calendar.{leap_size, lengths, days_in_month}
use Rattle.calendar.specs.Refusals.{valid_date}
use Rattle.leap_table.specs.judging.Judging.{triple, earlier, judged_next, judged_after, judged_all}
use Rattle.leap_table.specs.judging.Lists.{dates_from, triple_at}
use Rattle.leap_table.specs.walk.Walk.{triple_offset, Walked, walked, walk_of}
use Rattle.leap_table.specs.walk.Call.{as_floats, list_after, WalkCall}
use Rattle.leap_table.specs.walk.Lists.{walk_of_numbers, walk_of_bytes, in_eights}
use Rattle.leap_table.specs.walk.Writer.{triple_bytes, DateFits, offset_bytes}
use Rattle.leap_table.specs.walk.Due.{triple_numbers}
use Rattle.leap_table.proofs.rows.TablesTaken.{when_taken}
use Rattle.leap_table.proofs.walk.LookUp.{offset-of-look-up}
use Rattle.leap_table.proofs.walk.Due.{all-good}
use Rattle.leap_table.proofs.walk.Written.{dates_are, walk_of-list, offset_at}

-- what is answered of a list of dates, and that none of them is refused
record Answered (rows : List Row) (ds : List Triple) (w : Walked) : Type 0 where
  all : w ≡ walked rows ds
  good : judged_all ds ≡ answer tt

answered : (rows : List Row) (b : Bool) (ds : List Triple) (places : ℕ) (w : Walked) → walk_of rows b ds places ≡ answer w → Answered rows ds w
unfolding walk_of
answered rows false ds places w e = let z : ◌≡◌ {A = ℕ} 0 1 = cc in absurd (omega arith)
answered rows true ds places w e = go (leb (length ds) places) e
  where
    go : (c : Bool) → cond c (onward (judged_all ds) (λ _. answer (walked rows ds))) (refusal 11) ≡ answer w → Answered rows ds w
    go true q = let (u, v, x) = came (judged_all ds) (λ _. answer (walked rows ds)) w q in record { all = cc; good = v }
    go false q = let z : ◌≡◌ {A = ℕ} 0 1 = cc in absurd (omega arith)

-- ---- dates as numbers
three-each : (ds : List Triple) → length (triple_numbers ds) ≡ 3 * length ds
unfolding triple_numbers
three-each [] = refl
three-each (t ∷ ds) = let h = three-each ds in omega arith

number-at : (t : Triple) (ds : List Triple) (n m : ℕ) → n ≡ 3 + m → get_or (triple_numbers (t ∷ ds)) n (pos 0) ≡ get_or (triple_numbers ds) m (pos 0)
unfolding triple_numbers
number-at t ds n m e = ap (λ (k : ℕ). get_or (triple_numbers (t ∷ ds)) k (pos 0)) (e ∙ three m)
  where
    three : (k : ℕ) → 3 + k ≡ suc (suc (suc k))
    three k = omega arith

-- EACH DATE AT ITS PLACE: date i is the numbers at 3·i, 3·i + 1 and 3·i + 2
pub date-of-numbers : (ds : List Triple) (i : ℕ) (d : Triple) → i < length ds → triple_at (triple_numbers ds) i ≡ get_or ds i d
unfolding triple_numbers
date-of-numbers [] i d h = let w : ⊥ = omega arith in absurd w
date-of-numbers (t ∷ ds) zero d h = refl
date-of-numbers (t ∷ ds) (suc i) d h =
    (λ j. triple (number-at t ds (3 * suc i) (3 * i) (omega arith) j) (number-at t ds (3 * suc i + 1) (3 * i + 1) (omega arith) j)
    (number-at t ds (3 * suc i + 2) (3 * i + 2) (omega arith) j))
    ∙ date-of-numbers ds i d (omega arith)

-- THE WALK OVER A LIST OF DATES in numbers, of any length
pub walk_of-numbers : (rows : List Row) (ds : List Triple) (d : Triple) (places : ℕ) → walk_of_numbers rows (triple_numbers ds) places
    ≡ walk_of rows true ds places
walk_of-numbers rows ds d places =
    let n = three-each ds in
    let whole : length (triple_numbers ds) % 3 ≡ 0 = omega arith in
    let many : length (triple_numbers ds) / 3 ≡ length ds = omega arith in
    let dates : dates_from (triple_at (triple_numbers ds)) 0 (length (triple_numbers ds) / 3) ≡ ds =
    ap (dates_from (triple_at (triple_numbers ds)) 0) many
    ∙ dates_are (triple_at (triple_numbers ds)) 0 ds d (λ j k. ap (triple_at (triple_numbers ds)) (none j) ∙ date-of-numbers ds j d k) in
    (λ j. walk_of rows (eq-eqb (length (triple_numbers ds) % 3) 0 whole j) (dates j) places)
  where
    none : (j : ℕ) → 0 + j ≡ j
    none j = omega arith

-- what the look-up gives for one date at 0h
abbrev looked_up : List Row → Triple → Outcome Float
looked_up rows t = tai_utc_offset rows t.year t.month t.day nought

-- ---- the call with its table: what is answered is the walk over the dates by the rows of the table
module _ {A : Type 0} (write : List Float → List A) (t : AnnouncedRows) (next : List Row → Outcome Walked) (ds : List Triple) (places : ℕ)
    (is : (rows : List Row) → next rows ≡ walk_of rows true ds places) (before after : List A) (c : ℕ)
    (call : WalkCall write (onward (table_of t) next) before (Ok c) after) where
  walk_given : (onward (table_of t) next ≡ answer (walked (rows_of t) ds)) × (judged_all ds ≡ answer tt)
  unfolding outcome
  walk_given =
      let (w, p, q) = came (onward (table_of t) next) (λ w. answer w.rows_compared) c (sym call.says) in
      let (rows, u, v) = came (table_of t) next w p in
      let a : Answered rows ds w = answered rows true ds places w (sym (is rows) ∙ v) in
      (p ∙ ap answer a.all ∙ ap (λ (l : List Row). answer (walked l ds)) (when_taken t rows u).all, a.good)

  lent : after ≡ list_after write (answer (walked (rows_of t) ds)) before
  lent = call.holds ∙ ap (λ (o : Outcome Walked). list_after write o before) walk_given.0

  -- each date is one, and its offset that of the look-up of one date
  looked : (d : Triple) (i : ℕ) → i < length ds → looked_up (rows_of t) (get_or ds i d) ≡ answer (triple_offset (rows_of t) (get_or ds i d))
  looked d i h = offset-of-look-up (rows_of t) (get_or ds i d) (all-good ds d walk_given.1 i h)

eights_long : (fs : List Float) → length (in_eights fs) ≡ 8 * length fs
unfolding in_eights
eights_long [] = refl
eights_long (x ∷ fs) = let h = eights_long fs in omega arith

-- AS MANY OFFSETS AS DATES, over bytes and over numbers
pub bytes-offsets : (rows : List Row) (ds : List Triple) (d : Triple) (room : ℕ) (w : Walked) → ((i : ℕ) → i < length ds → DateFits (get_or ds i d))
    → walk_of_bytes rows (all_bytes triple_bytes ds) room ≡ answer w → length w.offsets ≡ length ds
bytes-offsets rows ds d room w fits e =
    ap (λ (v : Walked). length v.offsets) (answered rows true ds (room / 8) w (sym (walk_of-list rows ds d room fits) ∙ e)).all
    ∙ length-map ds (triple_offset rows)

pub numbers-offsets : (rows : List Row) (ds : List Triple) (d : Triple) (places : ℕ) (w : Walked)
    → walk_of_numbers rows (triple_numbers ds) places ≡ answer w → length w.offsets ≡ length ds
numbers-offsets rows ds d places w e =
    ap (λ (v : Walked). length v.offsets) (answered rows true ds places w (sym (walk_of-numbers rows ds d places) ∙ e)).all
    ∙ length-map ds (triple_offset rows)

-- AN ANSWERED CALL OVER BYTES: by the contract of `offsets_at_0h_bytes`
module _ (t : AnnouncedRows) (ds : List Triple) (d : Triple) (fits : (i : ℕ) → i < length ds → DateFits (get_or ds i d)) (before after : List ℕ) (c : ℕ)
    (call : WalkCall in_eights (onward (table_of t) (λ rows. walk_of_bytes rows (all_bytes triple_bytes ds) (length before))) before (Ok c) after) where
  abbrev held : after ≡ list_after in_eights (answer (walked (rows_of t) ds)) before
  held = lent in_eights t (λ rows. walk_of_bytes rows (all_bytes triple_bytes ds) (length before)) ds (length before / 8)
      (λ rows. walk_of-list rows ds d (length before) fits) before after c call

  -- the eight bytes from 8·i on are the offset that the look-up gives for date i at 0h
  pub bytes-offset : (i : ℕ) → i < length ds → (x : Float) × (looked_up (rows_of t) (get_or ds i d) ≡ answer x) × (take 8 (drop (8 * i) after) ≡ offset_bytes x)
  bytes-offset i h = (
    triple_offset (rows_of t) (get_or ds i d),
    looked in_eights t (λ rows. walk_of_bytes rows (all_bytes triple_bytes ds) (length before)) ds (length before / 8)
        (λ rows. walk_of-list rows ds d (length before) fits) before after c call d i h,
    ap (λ (l : List ℕ). take 8 (drop (8 * i) l)) held ∙ offset_at (rows_of t) ds before i d h,
  )

  -- eight bytes for each date are written, and no more
  pub bytes-behind : drop (8 * length ds) after ≡ drop (8 * length ds) before
  unfolding list_after
  bytes-behind =
      let fs = map (triple_offset (rows_of t)) ds in
      let n : length (in_eights fs) ≡ 8 * length ds = eights_long fs ∙ ap (λ (k : ℕ). 8 * k) (length-map ds (triple_offset (rows_of t))) in
      ap (drop (8 * length ds)) held ∙ drop_at (in_eights fs) (drop (length (in_eights fs)) before) (8 * length ds) n
      ∙ ap (λ (k : ℕ). drop k before) n

-- AN ANSWERED CALL OVER NUMBERS: by the contract of `offsets_at_0h`
module _ (t : AnnouncedRows) (ds : List Triple) (d : Triple) (before after : List Float) (c : ℕ)
    (call : WalkCall as_floats (onward (table_of t) (λ rows. walk_of_numbers rows (triple_numbers ds) (length before))) before (Ok c) after) where
  abbrev given : after ≡ list_after as_floats (answer (walked (rows_of t) ds)) before
  given = lent as_floats t (λ rows. walk_of_numbers rows (triple_numbers ds) (length before)) ds (length before)
      (λ rows. walk_of-numbers rows ds d (length before)) before after c call

  place : (i : ℕ) → i < length ds → get_or after i (triple_offset (rows_of t) d) ≡ triple_offset (rows_of t) (get_or ds i d)
  unfolding list_after
  place i h =
      let g = triple_offset (rows_of t) in
      let fs = map g ds in
      ap (λ (l : List Float). get_or l i (g d)) given
      ∙ get_or-append fs (drop (length fs) before) (g d) i (omega (arith, length-map ds g))
      ∙ get_or-map g ds i d

  -- offset i is the one that the look-up gives for date i at 0h
  pub numbers-offset : (i : ℕ) → i < length ds → looked_up (rows_of t) (get_or ds i d) ≡ answer (get_or after i (triple_offset (rows_of t) d))
  numbers-offset i h =
      looked as_floats t (λ rows. walk_of_numbers rows (triple_numbers ds) (length before)) ds (length before)
      (λ rows. walk_of-numbers rows ds d (length before)) before after c call d i h
      ∙ ap answer (sym (place i h))

  pub numbers-behind : drop (length ds) after ≡ drop (length ds) before
  unfolding list_after
  numbers-behind =
      let fs = map (triple_offset (rows_of t)) ds in
      let n : length fs ≡ length ds = length-map ds (triple_offset (rows_of t)) in
      ap (drop (length ds)) given ∙ drop_at fs (drop (length fs) before) (length ds) n ∙ ap (λ (k : ℕ). drop k before) n

-- ---- worked: month and day differ, in the numbers read and written and in the bytes
abbrev date : ℕ → ℕ → ℕ → Triple
date y m d = triple (pos y) (pos m) (pos d)

pub numbers-read : dates_from (triple_at (pos 2017 ∷ pos 3 ∷ pos 4 ∷ pos 2018 ∷ pos 5 ∷ pos 6 ∷ [])) 0 2 ≡ date 2017 3 4 ∷ date 2018 5 6 ∷ []
unfolding dates_from
numbers-read = refl

pub numbers-written : triple_numbers (date 2017 3 4 ∷ []) ≡ pos 2017 ∷ pos 3 ∷ pos 4 ∷ []
unfolding triple_numbers
numbers-written = refl

pub date-written : triple_bytes (date 2017 3 4) ≡ 225 ∷ 7 ∷ 0 ∷ 0 ∷ 3 ∷ 0 ∷ 0 ∷ 0 ∷ 4 ∷ 0 ∷ 0 ∷ 0 ∷ []
unfolding triple_bytes pattern32
date-written = refl

-- of three dates all are walked: three offsets, none of them left out
pub three-offsets : onward (walk_of fixed true (date 2016 12 31 ∷ date 2017 1 1 ∷ date 2017 1 2 ∷ []) 3) (λ w. answer (length w.offsets)) ≡ answer 3
unfolding walk_of judged_all judged_after judged_next earlier onward valid_date days_in_month lengths leap_size
three-offsets = refl
