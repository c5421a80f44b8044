-- The lines of a part one behind the other. Assumes nothing.
use Rattle.std.proofs.Common.{◌≡◌, ℕ, zero, suc, ◌+◌, ◌-◌, ◌*◌, ◌/◌, ◌<◌, ◌≤◌, Bool, true, false, cond, ◌&&◌, eqb, ltb, leb, ◌⊎◌, List, ◌++◌, length, get_or}
use Rattle.std.proofs.Common.{drop, sym, refl, ap, ◌∙◌, subst, inl, inr, eq-or-lt_of_le, add-one, arith, le-ltb, lt-ltb, le-leb, leb-false, leb-true}
use Rattle.std.specs.Prelude.{Result, Ok, IsErrAnd}
use Rattle.refusals.specs.declared.Refusal.{Refusal}
use Rattle.refusals.specs.Refusal.{refusal_number}
use Rattle.refusals.specs.Outcome.{Outcome, answer, refusal, onward, outcome}
use Rattle.refusals.proofs.Handed.{handed_on}
use Rattle.leap_table.specs.rows.Announced.{least}
use Rattle.stamps.specs.Listing.{one_if_refused}
use Rattle.utc_scales.specs.UtcTai.{tai_to_utc}
use Rattle.utc.specs.iso_texts.Expanded.{iso_text_expanded}
use Rattle.utc.specs.text.Answer.{buffer_after}
use Rattle.utc.specs.iso_texts.TextCall.{buffer_holds}
use Rattle.numerals.specs.digits.Placed.{pasted, Placed}
use Rattle.numerals.proofs.digits.Places.{then, placed-as, nothing}
use Rattle.julian.specs.declared.JulianDate.{JulianDate}
use Rattle.julian.specs.stamp_lists.Stamps.{stamp_of}
use Rattle.leap_table.specs.rows.Table.{Row}
use Rattle.line_listing.specs.declared.lines.Told.{Told}
use Rattle.line_listing.specs.declared.lines.Part.{Part}
use Rattle.line_listing.specs.lines.StampLine.{Stamps, line_in_order, date_of_place, number_of_place, place_line, no_text_count}
use Rattle.line_listing.specs.lines.Parts.{longest_line, listed_lines, textless_from, listed_count, places_there, absent_refusal, listed_part}
use Rattle.line_listing.specs.lines.Parts.{part_answered, ListedCall}
use Rattle.line_listing.specs.lines.Asked.{told_by, textless_by, line_told, Page, page_text, Converted, Texts, page_line, page_count, lines_joined, summed}
use Rattle.line_listing.specs.lines.Asked.{ToldAt, PagePlaced, LinesPlaced}
use Rattle.line_listing.proofs.lines.Line.{count-one, count-is, line-is}

-- ---- one line more of a page
module _ (s : Bool) (all : Stamps) (order : List ℕ) (line i : ℕ) (pg : Page) (p k m : ℕ) (tai date : JulianDate) (text : List ℕ) (n : ℕ)
    (place : p ≡ line_in_order order (line + i)) (number : k ≡ number_of_place all p) (mark : m ≡ get_or pg.marks i 0) (tai-is : tai ≡ date_of_place all p)
    (date-is : date ≡ stamp_of pg.utc1 pg.utc2 i) (text-is : text ≡ page_text pg.texts pg.lengths i) (none : n ≡ get_or pg.nones i 0) where
  the_line : line_told all.first all.second p (told_by s k m tai date text n) ≡ page_line s all order line pg i
  unfolding page_line
  the_line = rw (tai-is, number, place, mark, date-is, text-is, none)

  pub lines_more : {out₀ out out' : List ℕ} {at next : ℕ} → Placed out₀ 0 (lines_joined (page_line s all order line pg) i) at out
      → Placed out at (line_told all.first all.second p (told_by s k m tai date text n)) next out' → next ≤ length out₀
      → Placed out₀ 0 (lines_joined (page_line s all order line pg) (i + 1)) next out'
  unfolding lines_joined
  lines_more a b h = placed-as (ap (λ (l : List ℕ). lines_joined (page_line s all order line pg) i ++ l) the_line ∙ more) (then a b h)
    where
      more : lines_joined (page_line s all order line pg) i ++ page_line s all order line pg i ≡ lines_joined (page_line s all order line pg) (i + 1)
      more = ap (lines_joined (page_line s all order line pg)) (sym (add-one i))

  pub textless-more : (a b : ℕ) → a ≡ summed (page_count all order line pg) i → b ≡ textless_by k m n → a + b ≡ summed (page_count all order line pg) (i + 1)
  unfolding summed page_count
  textless-more a b e f =
      (λ j. e j + (f ∙ the_count) j) ∙ ap (summed (page_count all order line pg)) (sym (add-one i))
    where
      the_count : textless_by k m n ≡ page_count all order line pg i
      the_count = rw (number, place, mark, none)

-- no more stamps than lines are without text
pub told-one : (k m n : ℕ) {d t after : List ℕ} {at : ℕ} {r : Told} → ToldAt d at t (textless_by k m n) r after → r.textless ≤ 1
told-one k m n p = subst (λ (j : ℕ). j ≤ 1) (sym p.counted) (count-one k m n)

one_at_most : (o : Outcome (List ℕ)) → one_if_refused o ≤ 1
unfolding one_if_refused
one_at_most (answer t) = omega arith
one_at_most (refusal k) = omega arith

pub without_one : (rows : List Row) (d : JulianDate) (k : ℕ) → no_text_count rows d k ≤ 1
unfolding no_text_count
without_one rows d k = go (eqb k 0)
  where
    go : (b : Bool) → cond b (one_if_refused (onward (tai_to_utc rows d) (iso_text_expanded rows))) 0 ≤ 1
    go true = one_at_most (onward (tai_to_utc rows d) (iso_text_expanded rows))
    go false = omega arith

-- ---- THE LINES OF A PAGE are those of its stamps
module _ (s : Bool) (rows : List Row) (all : Stamps) (order : List ℕ) (line : ℕ) (pg : Page) (n : ℕ)
    (converted : Converted rows all.jd1s all.jd2s order line n pg.utc1 pg.utc2 pg.marks)
    (texts : Texts rows pg.utc1 pg.utc2 n pg.texts pg.lengths pg.nones) where
  each_line : (i : ℕ) → i < n → page_line s all order line pg i ≡ place_line s rows all (line_in_order order (line + i))
  unfolding page_line place_line
  each_line i h = line-is s rows (date_of_place all (line_in_order order (line + i))) (stamp_of pg.utc1 pg.utc2 i) (get_or pg.marks i 0) (converted i h) i
      pg.texts pg.lengths pg.nones (texts i h) all.first all.second (line_in_order order (line + i))
      (number_of_place all (line_in_order order (line + i)))

  each-count : (i : ℕ) → i < n → page_count all order line pg i
      ≡ no_text_count rows (date_of_place all (line_in_order order (line + i))) (number_of_place all (line_in_order order (line + i)))
  unfolding page_count
  each-count i h = count-is s rows (date_of_place all (line_in_order order (line + i))) (stamp_of pg.utc1 pg.utc2 i) (get_or pg.marks i 0) (converted i h) i
      pg.texts pg.lengths pg.nones (texts i h) (number_of_place all (line_in_order order (line + i)))

  lines_same : (k : ℕ) → k ≤ n → lines_joined (page_line s all order line pg) k ≡ listed_lines s rows all order line k
  unfolding lines_joined listed_lines
  lines_same zero h = refl
  lines_same (suc k) h = λ j. lines_same k (omega arith) j ++ each_line k (omega arith) j

  counts_same : (k : ℕ) → k ≤ n → summed (page_count all order line pg) k ≡ textless_from rows all order line k
  unfolding summed textless_from
  counts_same zero h = refl
  counts_same (suc k) h = λ j. counts_same k (omega arith) j + each-count k (omega arith) j

  pub page-lines : (before after : List ℕ) (r : Part) → PagePlaced s all order line n pg before r after → LinesPlaced s rows all order line n before r after
  page-lines before after r p = record {
    placed = placed-as (lines_same n (omega arith)) p.placed;
    next = p.next;
    counted = p.counted ∙ counts_same n (omega arith);
    within = p.within;
  }

-- ---- room for the lines that are left
pub room-start : (s : Bool) (count len : ℕ) → count * longest_line s ≤ len → 0 + (count - 0) * longest_line s ≤ len
unfolding longest_line
room-start true count len h = omega arith
room-start false count len h = omega arith

pub room-now : (s : Bool) (count i at len : ℕ) → i < count → at + (count - i) * longest_line s ≤ len → at + longest_line s ≤ len
unfolding longest_line
room-now true count i at len b h = omega arith
room-now false count i at len b h = omega arith

pub room_next : (s : Bool) (count i at len next : ℕ) → i < count → at + (count - i) * longest_line s ≤ len → next ≤ at + longest_line s
    → next + (count - (i + 1)) * longest_line s ≤ len
unfolding longest_line
room_next true count i at len next b h m = omega arith
room_next false count i at len next b h m = omega arith

pub room-enough : (s : Bool) (count len : ℕ) → count ≤ len / longest_line s → count * longest_line s ≤ len
unfolding longest_line
room-enough true count len h = omega arith
room-enough false count len h = omega arith

-- ---- how many lines
pub least-left : (a b : ℕ) → least a b ≤ a
least-left a b = go (leb a b) refl
  where
    go : (t : Bool) → leb a b ≡ t → cond t a b ≤ a
    go true e = omega arith
    go false e = omega (arith, leb-false a b e)

pub least-right : (a b : ℕ) → least a b ≤ b
least-right a b = go (leb a b) refl
  where
    go : (t : Bool) → leb a b ≡ t → cond t a b ≤ b
    go true e = omega (arith, leb-true a b e)
    go false e = omega arith

pub few-lines : (s : Bool) (lines line room n : ℕ) → n ≡ least (least (lines - line) 256) (room / longest_line s)
    → (n ≤ 256) × (0 < n → line < lines) × (n * longest_line s ≤ room)
few-lines s lines line room n e =
    let l = least-left (least (lines - line) 256) (room / longest_line s) in
    let r = least-right (least (lines - line) 256) (room / longest_line s) in
    let a = least-left (lines - line) 256 in
    let b = least-right (lines - line) 256 in
    (omega (arith, e, l, b), λ h. omega (arith, e, l, a, h), room-enough s n room (omega (arith, e, r)))

-- ---- the call
pub no_lines : (s : Bool) (rows : List Row) (all : Stamps) (order : List ℕ) (line n : ℕ) (before : List ℕ) → n ≡ 0
    → LinesPlaced s rows all order line n before (record { written = 0; line = line; textless = 0 }) before
unfolding listed_lines textless_from
no_lines s rows all order line n before e =
    subst (λ (m : ℕ). LinesPlaced s rows all order line m before (record { written = 0; line = line; textless = 0 }) before) (sym e)
    (record { placed = nothing before; next = omega arith; counted = refl; within = omega arith })

module _ (s : Bool) (rows : List Row) (all : Stamps) (order : List ℕ) (line : ℕ) (before after : List ℕ) (r : Part) where
  abbrev text : List ℕ
  text = listed_lines s rows all order line (listed_count s order line (length before))

  by_rows : LinesPlaced s rows all order line (listed_count s order line (length before)) before r after
      → ListedCall s (answer rows) all order line before (Ok r) after
  unfolding outcome part_answered listed_part onward buffer_holds buffer_after pasted
  by_rows p =
      let z : 0 + length text ≡ length text = omega arith in
      let fits : length text ≤ length before = omega (arith, p.placed.ends, p.within) in
      record {
        says = λ i. answer (record { written = (p.placed.ends ∙ z) i; line = p.next i; textless = p.counted i });
        holds = p.placed.holds ∙ ap (λ (k : ℕ). text ++ drop k before) z ∙ sym (rw (le-leb (length text) (length before) fits) refl);
      }

  pub part-done : (o : Outcome (List Row)) (n : ℕ) → answer rows ≡ o → n ≡ listed_count s order line (length before)
      → LinesPlaced s rows all order line n before r after → ListedCall s o all order line before (Ok r) after
  part-done o n e f p =
      subst (λ (x : Outcome (List Row)). ListedCall s x all order line before (Ok r) after) e
      (by_rows (subst (λ (m : ℕ). LinesPlaced s rows all order line m before r after) f p))

pub part-refused : (s : Bool) (all : Stamps) (order : List ℕ) (line : ℕ) (before : List ℕ) (o : Outcome (List Row)) (r : Result Part Refusal) (k : Refusal)
    → refusal (refusal_number k) ≡ o → IsErrAnd r (λ e. e ≡ k) → ListedCall s o all order line before r before
unfolding onward buffer_holds
part-refused s all order line before o r k e p =
    subst (λ (x : Outcome (List Row)). ListedCall s x all order line before r before) e (record { says = handed_on r k p; holds = refl })

-- ---- the places of the lines
module _ (order : List ℕ) (n line : ℕ) where
  and_false : (a b : Bool) → b ≡ false → a && b ≡ false
  and_false true b e = e
  and_false false b e = refl

  pub place-gone : (i k : ℕ) → i < k → n ≤ line_in_order order (line + i) → false ≡ places_there order n line k
  unfolding places_there
  place-gone i zero h g = let w : ⊥ = omega arith in absurd w
  place-gone i (suc k) h g = by (eq-or-lt_of_le (let w : i ≤ k = omega arith in w)) (λ b. place-gone i k b g)
    where
      by : (i ≡ k) ⊎ (i < k) → (i < k → false ≡ places_there order n line k) → false ≡ places_there order n line k && ltb (line_in_order order (line + k)) n
      by (inl e) rest =
          sym (and_false (places_there order n line k) (ltb (line_in_order order (line + k)) n)
          (ap (λ (j : ℕ). ltb (line_in_order order (line + j)) n) (sym e) ∙ le-ltb (line_in_order order (line + i)) n g))
      by (inr b) rest = rw (sym (rest b)) refl

  pub place-more : (i p : ℕ) → p ≡ line_in_order order (line + i) → places_there order n line i ≡ true → p < n → places_there order n line (i + 1) ≡ true
  unfolding places_there
  place-more i p e a h =
      ap (places_there order n line) (add-one i)
      ∙ (λ j. a j && (ap (λ (x : ℕ). ltb x n) (sym e) ∙ lt-ltb p n h) j)

  pub places-by : (s : Bool) (room c : ℕ) (b : Bool) → c ≡ listed_count s order line room → b ≡ places_there order n line c
      → cond b 0 18 ≡ absent_refusal s n order line room
  unfolding absent_refusal
  places-by s room c b e f = ap (λ (t : Bool). cond {A = ℕ} t 0 18) f ∙ ap (λ (k : ℕ). cond {A = ℕ} (places_there order n line k) 0 18) e

  pub places-none : (s : Bool) (room c : ℕ) → c ≡ listed_count s order line room → c ≡ 0 → 0 ≡ absent_refusal s n order line room
  unfolding places_there
  places-none s room c e z = places-by s room c true e (ap (places_there order n line) (sym z))

-- the rows of a table, which are read by parts
-- all lines are there
pub lines_end : (s : Bool) (all : Stamps) (order : List ℕ) (line count i : ℕ) (pg : Page) (before after : List ℕ) (at n : ℕ) → i ≡ count
    → Placed before 0 (lines_joined (page_line s all order line pg) i) at after → n ≡ summed (page_count all order line pg) i → at ≤ length before
    → PagePlaced s all order line count pg before (record { written = at; line = line + count; textless = n }) after
lines_end s all order line count i pg before after at n e p f h =
    subst (λ (m : ℕ). PagePlaced s all order line m pg before (record { written = at; line = line + m; textless = n }) after) e
    (record { placed = p; next = refl; counted = f; within = h })

-- where no line is left none goes into the part
pub none_left : (s : Bool) (lines line room : ℕ) → lines ≤ line → 0 ≡ least (least (lines - line) 256) (room / longest_line s)
none_left s lines line room h =
    let z : lines - line ≡ 0 = omega arith in
    let l = least-left (least (lines - line) 256) (room / longest_line s) in
    let m = least-left (lines - line) 256 in
    omega (arith, l, m, z)

-- lines are placed by any rows that are equal to those of the table
pub rows_same : (s : Bool) (rows rows' : List Row) (all : Stamps) (order : List ℕ) (line n : ℕ) (before : List ℕ) (r : Part) (after : List ℕ) → rows ≡ rows'
    → LinesPlaced s rows all order line n before r after → LinesPlaced s rows' all order line n before r after
rows_same s rows rows' all order line n before r after e p = subst (λ (x : List Row). LinesPlaced s x all order line n before r after) e p
