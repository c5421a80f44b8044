-- A line of a listing has one line end; so a part has as many line ends as lines, and a caller that counts them knows the next line. Assumes nothing.
use Prim.Native.Nat.{ℕ, zero, suc, ◌+◌, ◌-◌, ◌/◌, ◌%◌, ◌<◌, ◌≤◌}
use native.Mathlib.Omega.{arith}
use native.Mathlib.Nat.{add_assoc, zero-add}
use mathlib.Core.Path.{◌≡◌, refl, sym, ap, ◌∙◌}
use mathlib.Core.Bool.{Bool, true, false, cond}
use mathlib.Core.List.{List, [], ◌∷◌, ◌++◌}
use lib.ListN.{length}
use lib.Dec.{ltb, eqb}
use lib.IntN.{ℤ, pos, negsuc}
use borrow.Author.Tests.{ne_eqb}
use Rattle.refusals.specs.Outcome.{Outcome, answer, refusal, onward}
use Rattle.numerals.specs.digits.Decimal.{digits_in}
use Rattle.floats.specs.Whole.{away}
use Rattle.calendar.specs.declared.CalendarDate.{CalendarDate}
use Rattle.julian.specs.declared.JulianDate.{JulianDate}
use Rattle.leap_table.specs.rows.Table.{Row}
use Rattle.time_of_day.specs.declared.TimeOfDay.{TimeOfDay}
use Rattle.time_of_day.specs.declared.TimeShown.{TimeShown}
use Rattle.time_of_day.specs.declared.TimeShown.TheVariants.{At, NextMidnight}
use Rattle.time_of_day.specs.TimeShown.{shown_of}
use Rattle.utc.specs.text.Text.{last, four, seven, after_year}
use Rattle.utc.specs.text.Expanded.{expanded_year, expanded_text}
use Rattle.utc.specs.iso_texts.IsoText.{midnight, next_midnight_text_by, shown_text_by, day_text_by, iso_text_by}
use Rattle.utc.specs.iso_texts.Expanded.{iso_text_expanded}
use Rattle.reasons.specs.declared.Values.{Values}
use Rattle.reasons.specs.Offending.{offending}
use Rattle.stamps.specs.reason_laws.Printable.{Printable}
use Rattle.stamps.proofs.reason_laws.Printed.{sentence-printable}
use Rattle.stamps.specs.declared.Reporting.{Reporting}
use Rattle.stamps.specs.declared.Reporting.TheVariants.{Numbers, Sentences}
use Rattle.stamps.specs.Block.{block_of}
use Rattle.stamps.specs.Listing.{refused_word, utc_listing_words, block_word, line_room, reported, text_at, refused_values, shown, stamp_line, refused_in}
use Rattle.stamps.specs.Listing.{header, block_refused}
use Rattle.stamps.specs.Parts.{line_of, lines_in, lines_from, part_lines, part_text}
use Rattle.stamps.specs.listing_laws.LineEnds.{line_ends}
use Rattle.stamps.proofs.Parts.{held-some}

pub ends-append : (a b : List ℕ) → line_ends (a ++ b) ≡ line_ends a + line_ends b
unfolding line_ends
ends-append [] b = sym (zero-add (line_ends b))
ends-append (c ∷ a) b = ap (λ (n : ℕ). cond (eqb c 10) 1 0 + n) (ends-append a b) ∙ sym (add_assoc (cond (eqb c 10) 1 0) (line_ends a) (line_ends b))

one-most : (b : Bool) → cond b 1 0 ≤ 1
one-most true = omega arith
one-most false = omega arith

pub ends-most : (l : List ℕ) → line_ends l ≤ length l
unfolding line_ends
ends-most [] = omega arith
ends-most (c ∷ l) = omega (arith, one-most (eqb c 10), ends-most l)

-- ---- numbers and texts have no line end
digit : (n : ℕ) → eqb (48 + n % 10) 10 ≡ false
digit n = ne_eqb (48 + n % 10) 10 (λ e. (let no : ⊥ = omega arith in no))

digits-none : (k n : ℕ) → line_ends (digits_in k n) ≡ 0
unfolding digits_in line_ends
digits-none zero n = refl
digits-none (suc k) n = by (ltb n 10) (digits-none k (n / 10))
  where
    by : (b : Bool) → line_ends (digits_in k (n / 10)) ≡ 0 → line_ends (cond b (last n ∷ []) (digits_in k (n / 10) ++ (last n ∷ []))) ≡ 0
    by true h = simp digit
    by false h = ends-append (digits_in k (n / 10)) (last n ∷ []) ∙ simp (h, digit)

plus-by : (n : ℕ) (b : Bool) → line_ends (cond b (four n) (43 ∷ seven n)) ≡ 0
unfolding line_ends
plus-by n true = simp digit
plus-by n false = simp digit

minus-by : (n : ℕ) → line_ends (45 ∷ seven n) ≡ 0
unfolding line_ends
minus-by n = simp digit

year-none : (y : ℤ) → line_ends (expanded_year y) ≡ 0
unfolding expanded_year
year-none (pos n) = plus-by n (ltb n 10000)
year-none (negsuc n) = minus-by (suc n)

after_none : (d : CalendarDate) (t : TimeOfDay) → line_ends (after_year d t) ≡ 0
unfolding line_ends
after_none d t = simp digit

text-none : (d : CalendarDate) (t : TimeOfDay) → line_ends (expanded_text d t) ≡ 0
unfolding expanded_text
text-none d t = let e = ends-append (expanded_year d.year) (after_year d t) in omega (arith, year-none d.year, after_none d t)

-- ---- nor has what is shown of a stamp
printable_none : (cs : List ℕ) → Printable cs → line_ends cs ≡ 0
unfolding Printable line_ends
printable_none [] p = refl
printable_none (c ∷ cs) p =
    let low : 32 ≤ c = p.0 in
    let none : eqb c 10 ≡ false = ne_eqb c 10 (λ e. (let no : ⊥ = omega arith in no)) in
    rw none (omega (arith, printable_none cs p.2))

pub reported-none : (how : Reporting) (k : ℕ) (v : Values) → line_ends (reported how k v) ≡ 0
unfolding reported line_ends
reported-none Numbers k v = simp (digits-none 4)
reported-none (Sentences n) k v = printable_none _ (sentence-printable (record { number = k; named = offending k v }))

module _ (how : Reporting) (jd : JulianDate) where
  shown-onward : {A : Type 0} (o : Outcome A) (f : A → Outcome (List ℕ)) → ((a : A) → line_ends (shown how jd (f a)) ≡ 0)
      → line_ends (shown how jd (onward o f)) ≡ 0
  unfolding onward shown
  shown-onward (answer a) f h = h a
  shown-onward (refusal k) f h = reported-none how k (refused_values jd)

  day-none : (d : CalendarDate) (r : TimeShown) → line_ends (shown how jd (shown_text_by expanded_text d r)) ≡ 0
  unfolding shown_text_by next_midnight_text_by shown
  day-none d (At t) = text-none d t
  day-none d NextMidnight = shown-onward _ _ (λ t. text-none t midnight)

  shown-none : (rows : List Row) → line_ends (shown how jd (iso_text_expanded rows jd)) ≡ 0
  unfolding iso_text_by day_text_by
  shown-none rows = shown-onward _ _ (λ c. shown-onward _ _ (λ leap. day-none c.date (shown_of away c.fraction leap)))

-- ---- a line has one
blank : line_ends (32 ∷ []) ≡ 0
unfolding line_ends
blank = refl

end : line_ends (10 ∷ []) ≡ 1
unfolding line_ends
end = refl

words : (line_ends utc_listing_words ≡ 0) × (line_ends (32 ∷ refused_word) ≡ 0) × (line_ends block_word ≡ 0)
unfolding line_ends
words = (refl, refl, refl)

stamp-one : (how : Reporting) (rows : List Row) (s : List ℕ) (n i : ℕ) → line_ends (stamp_line how rows s n i) ≡ 1
unfolding stamp_line text_at
stamp-one how rows s n i = simp (ends-append, digits-none 4, shown-none, blank, end)

header-one : (n k : ℕ) → line_ends (header n k) ≡ 1
unfolding header
header-one n k = simp (ends-append, digits-none 4, words.0, words.1, end)

refused-one : (how : Reporting) (s : List ℕ) (k : ℕ) → line_ends (block_refused how s k) ≡ 1
unfolding block_refused
refused-one how s k = simp (ends-append, reported-none, words.2, end)

line-one : (how : Reporting) (rows : List Row) (o : Outcome ℕ) (s : List ℕ) (line : ℕ) → line_ends (line_of how rows o s line) ≡ 1
unfolding line_of
line-one how rows (refusal k) s line = refused-one how s k
line-one how rows (answer n) s line = by (eqb line 0)
  where
    by : (b : Bool) → line_ends (cond b (header n (refused_in rows s n n)) (stamp_line how rows s n (line - 1))) ≡ 1
    by true = header-one n (refused_in rows s n n)
    by false = stamp-one how rows s n (line - 1)

lines-ends : (how : Reporting) (rows : List Row) (s : List ℕ) (line k : ℕ) → line_ends (lines_from how rows s line k) ≡ k
unfolding lines_from line_ends
lines-ends how rows s line zero = refl
lines-ends how rows s line (suc k) =
    let e = ends-append (lines_from how rows s line k) (line_of how rows (block_of s) s (line + k)) in
    omega (arith, lines-ends how rows s line k, line-one how rows (block_of s) s (line + k))

-- ---- what a caller learns of a part by its bytes alone
-- the line ends of a part are its lines
pub part-ends : (how : Reporting) (rows : List Row) (s : List ℕ) (line room : ℕ) → line_ends (part_text how rows s line room) ≡ part_lines how rows s line room
unfolding part_text
part-ends how rows s line room = lines-ends how rows s line (part_lines how rows s line room)

-- where a line is left, the room of a line holds one
pub part-some : (how : Reporting) (rows : List Row) (s : List ℕ) (line room : ℕ) → line < lines_in (block_of s) → line_room how ≤ room
    → 1 ≤ part_lines how rows s line room
unfolding part_lines
part-some how rows s line room h enough = held-some how rows s line room (lines_in (block_of s) - line) enough (omega arith)
