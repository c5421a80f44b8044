-- A listing by an announced table: which stamps are refused, and so the header, is the same by all rows; a call with a taken table gives the part by its rows,
-- one with no announced rows the part by the fixed table. Assumes nothing.
use Prim.Native.Nat.{ℕ, zero, suc}
use native.Mathlib.Omega.{arith}
use mathlib.Core.Path.{◌≡◌, refl, ap, ◌∙◌}
use mathlib.Core.Logic.{◌⊎◌, inl, inr}
use mathlib.Core.List.{List}
use lib.ListN.{length}
use Rattle.std.specs.Prelude.{Result, Ok, Err}
use Rattle.refusals.specs.declared.Refusal.{Refusal}
use Rattle.refusals.specs.Outcome.{Outcome, answer, refusal, onward, outcome}
use Rattle.calendar.proofs.Years.{valid_of}
use Rattle.julian.specs.declared.JulianDate.{JulianDate}
use Rattle.julian.specs.declared.CalendarFields.{CalendarFields}
use Rattle.julian.specs.Calendar.{julian_to_calendar}
use Rattle.leap_table.specs.declared.rows.AnnouncedRows.{AnnouncedRows}
use Rattle.leap_table.specs.rows.Table.{Row, fixed}
use Rattle.leap_table.specs.rows.Announced.{table_of}
use Rattle.leap_table.proofs.rows.TablesTaken.{table_none}
use Rattle.utc.specs.iso_texts.Expanded.{expanded_form, iso_text_expanded}
use Rattle.julian.proofs.Dates.{date-in-range}
use Rattle.utc.proofs.iso_texts.TextCalls.{fields-refused-by, fields-given-by}
use Rattle.utc.proofs.laws.DayTexts.{text-refused-by, has-text-by}
use Rattle.utc.proofs.laws.Numbers.{not_both, one_number, date-refusal}
use Rattle.stamps.specs.declared.Reporting.{Reporting}
use Rattle.stamps.specs.declared.Part.{Part}
use Rattle.stamps.specs.Block.{block_of, stamp_at}
use Rattle.stamps.specs.Listing.{text_at, stamp_line, one_if_refused, refused_in, header}
use Rattle.stamps.specs.Parts.{line_of, scratch_holds, part_of, part_text, PartPlaced, PartCall}

-- ---- refusals read no row: what one table refuses every other refuses, by the same number
module _ (a b : List Row) where
  text-refused-alike : (jd : JulianDate) (k : ℕ) → iso_text_expanded a jd ≡ refusal k → iso_text_expanded b jd ≡ refusal k
  text-refused-alike jd k e = go (julian_to_calendar jd.jd1 jd.jd2) refl
    where
      go : (o : Outcome CalendarFields) → julian_to_calendar jd.jd1 jd.jd2 ≡ o → iso_text_expanded b jd ≡ refusal k
      go (refusal n) p = fields-refused-by expanded_form b jd n p
          ∙ ap refusal (one_number (iso_text_expanded a jd) n k (fields-refused-by expanded_form a jd n p) e)
      go (answer c) p = by-date (date-refusal jd.jd1 jd.jd2 c p)
        where
          by-date : (valid_of c.date ≡ answer tt) ⊎ (valid_of c.date ≡ refusal 1) → iso_text_expanded b jd ≡ refusal k
          by-date (inl v) = absurd (not_both (iso_text_expanded a jd) _ k
              (fields-given-by expanded_form a jd c p
              ∙ has-text-by a c.date v (date-in-range jd.jd1 jd.jd2 c p).year_high expanded_form c.fraction) e)
          by-date (inr v) =
              fields-given-by expanded_form b jd c p
              ∙ text-refused-by b c.date expanded_form c.fraction 1 v
              ∙ ap refusal (one_number (iso_text_expanded a jd) 1 k
              (fields-given-by expanded_form a jd c p ∙ text-refused-by a c.date expanded_form c.fraction 1 v) e)

  pub refused-alike : (s : List ℕ) (n i k : ℕ) → text_at a s n i ≡ refusal k → text_at b s n i ≡ refusal k
  unfolding text_at
  refused-alike s n i k e = text-refused-alike (stamp_at s n i) k e

one_alike : (o p : Outcome (List ℕ)) → ((k : ℕ) → o ≡ refusal k → p ≡ refusal k) → ((k : ℕ) → p ≡ refusal k → o ≡ refusal k) → one_if_refused o
    ≡ one_if_refused p
unfolding one_if_refused
one_alike (answer t) (answer u) f g = refl
one_alike (answer t) (refusal k) f g = absurd (not_both (answer t) t k refl (g k refl))
one_alike (refusal k) (answer u) f g = absurd (not_both (answer u) u k refl (f k refl))
one_alike (refusal k) (refusal j) f g = refl

-- so the count is the same
pub count-alike : (a b : List Row) (s : List ℕ) (n k : ℕ) → refused_in a s n k ≡ refused_in b s n k
unfolding refused_in
count-alike a b s n zero = refl
count-alike a b s n (suc k) =
    let before = count-alike a b s n k in
    let one = one_alike (text_at a s n k) (text_at b s n k) (refused-alike a b s n k) (refused-alike b a s n k) in
    omega arith

-- and the header, which is written without a look at the table, is right for each
pub header-alike : (how : Reporting) (a b : List Row) (s : List ℕ) → line_of how a (block_of s) s 0 ≡ line_of how b (block_of s) s 0
unfolding line_of
header-alike how a b s = go (block_of s)
  where
    go : (o : Outcome ℕ) → line_of how a o s 0 ≡ line_of how b o s 0
    go (answer n) = ap (header n) (count-alike a b s n n)
    go (refusal k) = refl

-- the lines of stamps that are refused too
pub refused-lines-alike : (how : Reporting) (a b : List Row) (s : List ℕ) (n i k : ℕ) → text_at a s n i ≡ refusal k
    → stamp_line how a s n i ≡ stamp_line how b s n i
unfolding stamp_line
refused-lines-alike how a b s n i k e = rw (e, refused-alike a b s n i k e)

-- ---- a call: what it does with a table that is taken, and with one that is refused
module _ {how : Reporting} {table : Outcome (List Row)} {s before after : List ℕ} {line : ℕ} {r : Result Part Refusal}
    (c : PartCall how table s line before r after) where
  pub part-of-taken : (rows : List Row) → table ≡ answer rows → (p : Part) × (r ≡ Ok p) × PartPlaced how rows s line before p after
  unfolding outcome scratch_holds onward
  part-of-taken rows e = go r (c.says ∙ ap (λ (o : Outcome (List Row)). onward o (λ rows. answer (part_of how rows s line (length before)))) e)
    where
      go : (x : Result Part Refusal) → outcome x ≡ answer (part_of how rows s line (length before)) → (p : Part) × (x ≡ Ok p)
          × PartPlaced how rows s line before p after
      go (Ok p) q = (
        p,
        refl,
        record {
          says = cc;
          holds = c.holds
              ∙ ap (λ (o : Outcome (List Row)). scratch_holds (onward o (λ rows. answer (part_text how rows s line (length before)))) before) e;
        },
      )
      go (Err k) q = let z : ◌≡◌ {A = ℕ} 0 1 = cc in absurd (omega arith)

  pub part-of-refused : (k : ℕ) → table ≡ refusal k → (outcome r ≡ refusal k) × (after ≡ before)
  unfolding scratch_holds onward
  part-of-refused k e = (
    c.says ∙ ap (λ (o : Outcome (List Row)). onward o (λ rows. answer (part_of how rows s line (length before)))) e,
    c.holds ∙ ap (λ (o : Outcome (List Row)). scratch_holds (onward o (λ rows. answer (part_text how rows s line (length before)))) before) e,
  )

-- with no announced rows, whatever the places hold, every byte is that of the fixed table
pub part-without-rows : (t : AnnouncedRows) → t.months_size ≡ 0 → t.seconds_size ≡ 0
    → {how : Reporting} {s before after : List ℕ} {line : ℕ} {r : Result Part Refusal}
    → PartCall how (table_of t) s line before r after → (p : Part) × (r ≡ Ok p) × PartPlaced how fixed s line before p after
part-without-rows t m z c = part-of-taken c fixed (table_none t m z)
