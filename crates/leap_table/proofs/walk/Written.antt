-- DATES AND OFFSETS PLACE BY PLACE: the walk over the bytes that are written from any list of dates is the walk over that list, however long it is, and the
-- eight bytes at place i of its answer are the offset of date i. Assumes nothing.
use Rattle.std.proofs.Common.{◌≡◌, ℕ, zero, suc, ◌+◌, ◌*◌, ◌/◌, ◌%◌, ◌<◌, ◌≤◌, true, List, [], ◌∷◌, ◌++◌, map, length, get_or, take, drop, sym, refl, ap, ◌∙◌}
use Rattle.std.proofs.Common.{append-nil, arith, eq-eqb}
use lib.Ieee.{Float}
use Rattle.refusals.specs.Outcome.{answer}
use Rattle.numerals.specs.little_endian.LittleEndian.{four_at, u32_at, i32_at, signed32}
use Rattle.numerals.specs.little_endian.Written.{all_bytes}
use Rattle.numerals.proofs.little_endian.Items.{written-length, item_at, item_u32}
use Rattle.numerals.proofs.little_endian.RoundTrip.{read-signed-4}
use Rattle.leap_table.specs.declared.judging.Triple.{Triple}
use Rattle.leap_table.specs.rows.Table.{Row}
use Rattle.leap_table.specs.judging.Lists.{dates_from, triple_in}
use Rattle.leap_table.specs.walk.Walk.{triple_offset, walked, walk_of}
use Rattle.leap_table.specs.walk.Call.{list_after}
use Rattle.leap_table.specs.walk.Lists.{walk_of_bytes, in_eights}
use Rattle.leap_table.specs.walk.Writer.{triple_bytes, DateFits, offset_bytes}

twelve : (t : Triple) → length (triple_bytes t) ≡ 12
unfolding triple_bytes
twelve t = refl

-- the three fields of a date's own bytes
module _ (t : Triple) (f : DateFits t) where
  field_0 : i32_at (triple_bytes t) 0 ≡ t.year
  unfolding triple_bytes u32_at four_at
  field_0 = read-signed-4 t.year f.year_fits

  field_4 : i32_at (triple_bytes t) 4 ≡ t.month
  unfolding triple_bytes u32_at four_at
  field_4 = read-signed-4 t.month f.month_fits

  field_8 : i32_at (triple_bytes t) 8 ≡ t.day
  unfolding triple_bytes u32_at four_at
  field_8 = read-signed-4 t.day f.day_fits

-- EACH DATE AT ITS PLACE
module _ (ds : List Triple) (i : ℕ) (d : Triple) (h : i < length ds) (f : DateFits (get_or ds i d)) where
  abbrev bytes : List ℕ
  bytes = all_bytes triple_bytes ds

  field : (o : ℕ) → o + 4 ≤ 12 → (n : ℕ) → n ≡ 12 * i + o → i32_at bytes n ≡ i32_at (triple_bytes (get_or ds i d)) o
  field o k n e =
      let a : n ≡ length {A = ℕ} [] + 12 * i + o = omega arith in
      ap signed32 (ap (u32_at bytes) a ∙ ap (λ (s : List ℕ). u32_at s (length {A = ℕ} [] + 12 * i + o)) (sym (append-nil bytes))
      ∙ item_u32 triple_bytes 12 twelve [] ds [] i d h o k)

  pub date-back : triple_in bytes i ≡ get_or ds i d
  date-back j = record {
    year = (field 0 (omega arith) (12 * i) (omega arith) ∙ field_0 (get_or ds i d) f) j;
    month = (field 4 (omega arith) (12 * i + 4) refl ∙ field_4 (get_or ds i d) f) j;
    day = (field 8 (omega arith) (12 * i + 8) refl ∙ field_8 (get_or ds i d) f) j;
  }

-- the dates of a reader that has each of them
pub dates_are : (f : ℕ → Triple) (i : ℕ) (ds : List Triple) (d : Triple) → ((j : ℕ) → j < length ds → f (i + j) ≡ get_or ds j d) → dates_from f i (length ds)
    ≡ ds
unfolding dates_from
dates_are f i [] d h = refl
dates_are f i (t ∷ ds) d h =
    ap (λ (x : Triple). x ∷ dates_from f (suc i) (length ds)) (ap f (sym (plain i)) ∙ h 0 (omega arith))
    ∙ ap (λ (l : List Triple). t ∷ l) (dates_are f (suc i) ds d (λ j k. ap f (next i j) ∙ h (suc j) (omega arith)))
  where
    plain : (n : ℕ) → n + 0 ≡ n
    plain n = omega arith

    next : (n j : ℕ) → suc n + j ≡ n + suc j
    next n j = omega arith

-- THE WALK OVER A LIST OF DATES in bytes, of any length
pub walk_of-list : (rows : List Row) (ds : List Triple) (d : Triple) (room : ℕ) → ((i : ℕ) → i < length ds → DateFits (get_or ds i d))
    → walk_of_bytes rows (all_bytes triple_bytes ds) room ≡ walk_of rows true ds (room / 8)
walk_of-list rows ds d room f =
    let n : length (all_bytes triple_bytes ds) ≡ 12 * length ds = written-length triple_bytes 12 twelve ds in
    let whole : length (all_bytes triple_bytes ds) % 12 ≡ 0 = omega arith in
    let many : length (all_bytes triple_bytes ds) / 12 ≡ length ds = omega arith in
    let dates : dates_from (triple_in (all_bytes triple_bytes ds)) 0 (length (all_bytes triple_bytes ds) / 12) ≡ ds =
    ap (dates_from (triple_in (all_bytes triple_bytes ds)) 0) many
    ∙ dates_are (triple_in (all_bytes triple_bytes ds)) 0 ds d (λ j k. ap (triple_in (all_bytes triple_bytes ds)) (none j) ∙ date-back ds j d k (f j k)) in
    (λ j. walk_of rows (eq-eqb (length (all_bytes triple_bytes ds) % 12) 0 whole j) (dates j) (room / 8))
  where
    none : (j : ℕ) → 0 + j ≡ j
    none j = omega arith

-- THE OFFSETS, each at its place
eights_written : (fs : List Float) → in_eights fs ≡ all_bytes offset_bytes fs
unfolding in_eights all_bytes
eights_written [] = refl
eights_written (x ∷ fs) = ap (λ (l : List ℕ). offset_bytes x ++ l) (eights_written fs)

offset-of : (g : Triple → Float) (ds : List Triple) (i : ℕ) (d : Triple) → i < length ds → get_or (map g ds) i (g d) ≡ g (get_or ds i d)
offset-of g [] i d h = refl
offset-of g (t ∷ ds) zero d h = refl
offset-of g (t ∷ ds) (suc i) d h = offset-of g ds i d (omega arith)

as_many : (g : Triple → Float) (ds : List Triple) → length (map g ds) ≡ length ds
as_many g [] = refl
as_many g (t ∷ ds) = ap suc (as_many g ds)

-- whatever the lent bytes held: the eight from 8 times i on are the offset of date i
pub offset_at : (rows : List Row) (ds : List Triple) (before : List ℕ) (i : ℕ) (d : Triple) → i < length ds
    → take 8 (drop (8 * i) (list_after in_eights (answer (walked rows ds)) before)) ≡ offset_bytes (triple_offset rows (get_or ds i d))
unfolding list_after
offset_at rows ds before i d h =
    let fs = map (triple_offset rows) ds in
    let rest = drop (length (in_eights fs)) before in
    let e : 8 * i ≡ length {A = ℕ} [] + 8 * i = omega arith in
    ap (λ (s : List ℕ). take 8 (drop (8 * i) (s ++ rest))) (eights_written fs)
    ∙ ap (λ (n : ℕ). take 8 (drop n (all_bytes offset_bytes fs ++ rest))) e
    ∙ item_at offset_bytes 8 (λ x. refl) [] fs rest i (triple_offset rows d) (omega (arith, as_many (triple_offset rows) ds))
    ∙ ap offset_bytes (offset-of (triple_offset rows) ds i d h)
