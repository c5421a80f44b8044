-- What ct_read_table writes of a text that it reads is a table that every call takes, with the text's rows: the first 136 bytes are the table's own, whatever
-- stood there. Assumes nothing.
use Prim.Native.Nat.{ℕ, zero, suc, ◌+◌, ◌*◌, ◌≤◌, ◌<◌}
use native.Mathlib.Omega.{arith}
use mathlib.Core.Path.{◌≡◌, refl, sym, ap, subst, ◌∙◌}
use mathlib.Core.List.{List, [], ◌∷◌, ◌++◌, map, append_assoc, append-nil}
use lib.IntN.{ℤ, pos}
use lib.Dec.{leb, ltb}
use lib.ListN.{length, take, get_or, length-map, length-append, get_or-append}
use lib.Seq.{sets, length-sets, get_or-append-add, ext_get_or, take_all}
use native.Mathlib.Numerals.{add-one}
use mathlib.Core.Bool.{Bool, true, false, cond}
use borrow.Author.Tests.{ltb-true, ltb-false}
use mir.Syntax.{w32}
use mir.Val.{SFits}
use Rattle.refusals.specs.Outcome.{answer}
use Rattle.numerals.specs.little_endian.LittleEndian.{four_bytes, with_nth32, pattern32}
use Rattle.numerals.proofs.little_endian.Puts.{put-32-is}
use Rattle.line_up.proofs.Merging.{put-take}
use Rattle.leap_table.specs.declared.rows.AnnouncedRows.{AnnouncedRows}
use Rattle.leap_table.specs.rows.Announced.{natural, rows_of}
use Rattle.leap_lists.specs.Reading.{read_of}
use Rattle.leap_lists.proofs.Taken.{Sixteen, read_taken, read-sixteen}
use Rattle.leap_lists.proofs.Ranges.{AllSmall, SmallPlaces, read_small}
use Rattle.c_answers.specs.table.TableBytes.{table_bytes}
use Rattle.c_answers.specs.table.RecordBytes.{in_fours, record_bytes, MachineRecord}
use Rattle.c_answers.proofs.table.ReadBack.{at_map, table-back}
use Rattle.capi.specs.ListDelivery.{put_to, with_table}

-- ---- numbers of four bytes, one after the other: the first ones of a list are these
record Begun (l : List ℕ) (n : ℕ) (front : List ℕ) : Type 0 where
  pub long : 136 ≤ length l
  pub is : take (4 * n) l ≡ in_fours front
  pub many : length front ≡ n

fours_more : (front : List ℕ) (n : ℕ) → in_fours (front ++ (n ∷ [])) ≡ in_fours front ++ four_bytes n
unfolding in_fours
fours_more [] n = append-nil (four_bytes n)
fours_more (x ∷ front) n = ap (λ (l : List ℕ). four_bytes x ++ l) (fours_more front n) ∙ sym (append_assoc (four_bytes x) (in_fours front) (four_bytes n))

one_more : (l : List ℕ) (k n : ℕ) (front : List ℕ) → k < 34 → Begun l k front → Begun (with_nth32 l k n) (k + 1) (front ++ (n ∷ []))
one_more l k n front h b =
    let room : 4 * k + 4 ≤ length l = omega (arith, b.long) in
    let w : with_nth32 l k n ≡ sets l (4 * k) (four_bytes n) = put-32-is l k n room in
    let q : 4 * (k + 1) ≡ 4 * k + 4 = omega arith in
    record {
      long = omega (arith, b.long, ap length w, length-sets l (4 * k) (four_bytes n));
      is = ap (λ (j : ℕ). take j (with_nth32 l k n)) q ∙ ap (take (4 * k + 4)) w ∙ put-take l (4 * k) n room
          ∙ ap (λ (x : List ℕ). x ++ four_bytes n) b.is ∙ sym (fours_more front n);
      many = length-append front (n ∷ []) ∙ ap (λ (j : ℕ). j + 1) b.many;
    }

place-long : (l : List ℕ) (i n : ℕ) → length (with_nth32 l i n) ≡ length l
unfolding with_nth32
place-long l i n = either (leb (4 * i + 4) (length l))
  where
    either : (b : Bool) → length (cond b (sets l (4 * i) (four_bytes n)) l) ≡ length l
    either true = length-sets l (4 * i) (four_bytes n)
    either false = refl

-- the first n patterns of a list
first_of : List ℤ → ℕ → List ℕ
first_of ns zero = []
first_of ns (suc n) = first_of ns n ++ (natural (get_or ns n (pos 0)) ∷ [])

all-put : (l : List ℕ) (from n : ℕ) (ns : List ℤ) (front : List ℕ) → from + n ≤ 34 → Begun l from front → Begun (put_to l from ns n) (from + n) (front ++
    first_of ns n)
unfolding put_to first_of
all-put l from zero ns front h b = record {
  long = b.long;
  is = ap (λ (j : ℕ). take (4 * j) l) (let z : from + 0 ≡ from = omega arith in z) ∙ b.is
      ∙ ap in_fours (sym (append-nil front));
  many = length-append front [] ∙ ap (λ (j : ℕ). j + 0) b.many;
}
all-put l from (suc n) ns front h b =
    let o = one_more (put_to l from ns n) (from + n) (natural (get_or ns n (pos 0))) (front ++ first_of ns n) (omega arith) (all-put l from n ns front (omega
    arith) b) in
    let s : from + n + 1 ≡ from + suc n = omega arith in
    let a = append_assoc front (first_of ns n) (natural (get_or ns n (pos 0)) ∷ []) in
    record {
      long = o.long;
      is = ap (λ (j : ℕ). take (4 * j) (with_nth32 (put_to l from ns n) (from + n) (natural (get_or ns n (pos 0))))) (sym s) ∙ o.is ∙ ap in_fours a;
      many = sym (ap length a) ∙ o.many ∙ s;
    }

-- and none is added or lost
put-long : (l : List ℕ) (from n : ℕ) (ns : List ℤ) → length (put_to l from ns n) ≡ length l
unfolding put_to
put-long l from zero ns = refl
put-long l from (suc n) ns = place-long (put_to l from ns n) (from + n) (natural (get_or ns n (pos 0))) ∙ put-long l from n ns

table-long : (l : List ℕ) (t : AnnouncedRows) → length (with_table l t) ≡ length l
unfolding with_table
table-long l t =
    put-long _ 18 16 t.seconds ∙ put-long _ 2 16 t.months ∙ place-long _ 1 t.seconds_size ∙ place-long l 0 t.months_size

-- of a list of n numbers that are not below 0 these are its patterns
first-many : (ns : List ℤ) (n : ℕ) → length (first_of ns n) ≡ n
unfolding first_of
first-many ns zero = refl
first-many ns (suc n) = length-append (first_of ns n) (natural (get_or ns n (pos 0)) ∷ []) ∙ ap (λ (j : ℕ). j + 1) (first-many ns n) ∙ add-one n

first-at : (ns : List ℤ) (n i : ℕ) → i < n → get_or (first_of ns n) i 0 ≡ natural (get_or ns i (pos 0))
unfolding first_of
first-at ns zero i h = absurd (let no : ⊥ = omega arith in no)
first-at ns (suc n) i h = either (ltb i n) refl (first-at ns n i)
  where
    either : (b : Bool) → ltb i n ≡ b → (i < n → get_or (first_of ns n) i 0 ≡ natural (get_or ns i (pos 0)))
        → get_or (first_of ns n ++ (natural (get_or ns n (pos 0)) ∷ [])) i 0 ≡ natural (get_or ns i (pos 0))
    either true g next = get_or-append (first_of ns n) _ 0 i (omega (arith, first-many ns n, ltb-true i n g)) ∙ next (ltb-true i n g)
    either false g next =
        let e : i ≡ n = omega (arith, ltb-false i n g) in
        let p : i ≡ length (first_of ns n) + 0 = omega (arith, first-many ns n) in
        ap (λ (j : ℕ). get_or (first_of ns n ++ (natural (get_or ns n (pos 0)) ∷ [])) j 0) p
        ∙ get_or-append-add (first_of ns n) (natural (get_or ns n (pos 0)) ∷ []) 0 0
        ∙ ap (λ (j : ℕ). natural (get_or ns j (pos 0))) (sym e)

pattern_natural : (z : ℤ) → z ≡ pos (natural z) → pattern32 z ≡ natural z
unfolding pattern32
pattern_natural z e = ap pattern32 e

firsts : (ns : List ℤ) (n : ℕ) → length ns ≡ n → AllSmall ns → first_of ns n ≡ map pattern32 ns
firsts ns n e f = ext_get_or 0 _ _ (first-many ns n ∙ sym e ∙ sym (length-map ns pattern32)) (λ i h.
    let k : i < n = omega (arith, first-many ns n) in
    first-at ns n i k ∙ sym (pattern_natural (get_or ns i (pos 0)) (f i).0) ∙ sym (at_map ns i (omega arith)))

-- ---- the whole table
module _ (t : AnnouncedRows) (s : Sixteen t) (f : SmallPlaces t.months t.seconds) where
  fits : (z : ℤ) → (z ≡ pos (natural z)) × (natural z < 2147483648) → SFits w32 z
  fits z p = subst (SFits w32) (sym p.0) (record { sfits = p.1 })

  pub machine : MachineRecord t
  machine = record {
    months-size = omega (arith, s.few);
    seconds-size = omega (arith, s.few, s.alike);
    sixteen_months = s.months;
    sixteen_seconds = s.seconds;
    months_fit = λ i. fits _ (f.in_months i);
    seconds_fit = λ i. fits _ (f.in_seconds i);
  }

  pub written : (l : List ℕ) → 136 ≤ length l → take 136 (with_table l t) ≡ record_bytes t
  unfolding with_table in_fours
  written l e =
      let b0 : Begun l 0 [] = record { long = e; is = refl; many = refl } in
      let b1 = one_more l 0 t.months_size [] (omega arith) b0 in
      let b2 = one_more _ 1 t.seconds_size _ (omega arith) b1 in
      let b3 = all-put _ 2 16 t.months _ (omega arith) b2 in
      let b4 = all-put _ 18 16 t.seconds _ (omega arith) b3 in
      b4.is
      ∙ (λ i. in_fours (t.months_size ∷ (t.seconds_size ∷ (firsts t.months 16 s.months f.in_months i
      ++ firsts t.seconds 16 s.seconds f.in_seconds i))))

-- THE TABLE THAT IS WRITTEN IS TAKEN, with the rows of the text: from the first 136 bytes of a longer slice, and from all of 136
pub table-first-back : (text l : List ℕ) → (read_of text).number ≡ 0 → 136 ≤ length l
    → table_bytes (take 136 (with_table l (read_of text).table)) ≡ answer (rows_of (read_of text).table)
table-first-back text l e h =
    let s = read-sixteen text in
    let f = read_small text in
    ap table_bytes (written (read_of text).table s f l h) ∙ table-back (read_of text).table (machine (read_of text).table s f) ∙ read_taken text e

pub table-read-back : (text l : List ℕ) → (read_of text).number ≡ 0 → length l ≡ 136 → table_bytes (with_table l (read_of text).table) ≡ answer
    (rows_of (read_of
    text).table)
table-read-back text l e h =
    ap table_bytes (sym (take_all 136 (with_table l (read_of text).table) (omega (arith, h, table-long l (read_of text).table))))
    ∙ table-first-back text l e (omega arith)
