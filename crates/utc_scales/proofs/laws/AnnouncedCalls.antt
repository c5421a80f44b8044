-- THE TWENTY CONVERSIONS WHERE A TABLE IS LENT: a table that is refused gives its number whatever the date, and one that is taken the answer and the refusals
-- of its rows, those of document 01 and no others. With no announced rows every answer stays. Assumes nothing.
use mathlib.Core.Path.{◌≡◌, refl, sym, subst, ◌∙◌}
use mathlib.Core.Bool.{Bool, true, false, true≢false}
use mathlib.Core.Logic.{inl, inr}
use mathlib.Core.List.{List}
use Prim.Native.Nat.{ℕ}
use lib.Ieee.Scale.{finite}
use Rattle.refusals.specs.Outcome.{Outcome, answer, refusal}
use Rattle.refusals.proofs.Onward.{went, stopped}
use Rattle.julian.specs.declared.JulianDate.{JulianDate}
use Rattle.julian.specs.Finite.{finite_parts}
use Rattle.julian.specs.Worth.{SmallParts}
use Rattle.leap_table.specs.declared.rows.AnnouncedRows.{AnnouncedRows}
use Rattle.leap_table.specs.rows.Table.{Row, fixed}
use Rattle.leap_table.specs.rows.Announced.{rows_of, table_of, Decision, sizes, order, step, taken}
use Rattle.leap_table.proofs.rows.TablesTaken.{table_none}
use Rattle.leap_table.proofs.rows.TableLaws.{table-decided}
use Rattle.leap_table.proofs.rows.NoRows.{none-announced, fixed-taken}
use Rattle.scales.specs.Conversions.{Conversion, answer_of}
use Rattle.scales.specs.laws.Ranges.{Held, Billion, FiniteParts}
use Rattle.scales.proofs.laws.Refuses.{refusals}
use Rattle.utc_scales.specs.laws.Claims.{Holds, Any, SixOrOne, OfTable, WithTable}
use Rattle.utc_scales.specs.laws.Twenty.{Twenty, by-formula, utc_tai, tai_utc, utc-ut1, ut1-utc, answer_of_any, announced_answer, reads_table}
use Rattle.utc_scales.specs.laws.Twenty.{numbers_of, not_finite_number, given_offset}
use Rattle.utc_scales.proofs.laws.Outcomes.{holds-answer, holds-refusal, holds_more}
use Rattle.utc_scales.proofs.laws.Refusals.{utc-to-tai-refuses, tai-to-utc-refuses, utc-to-ut1-refuses, ut1-to-utc-refuses}
use Rattle.utc_scales.proofs.laws.NotFinite.{utc-to-tai-not-finite, tai-to-utc-not-finite, utc-to-ut1-not-finite, ut1-to-utc-not-finite}
use Rattle.utc_scales.proofs.laws.AllTwenty.{table-no-nan-no-infinity}

-- ---- by any rows: the numbers of each call, and the one of a date that is not finite
by-formula-refuses : (k : Conversion) (d : JulianDate) → Held d → Holds Any (numbers_of (by-formula k)) (answer_of k d)
by-formula-refuses k d h = go (answer_of k d) refl
  where
    go : (o : Outcome JulianDate) → answer_of k d ≡ o → Holds Any (numbers_of (by-formula k)) (answer_of k d)
    go (answer u) e = holds-answer u e tt
    go (refusal n) e = holds-refusal n e ((refusals k d h).only n e)

pub rows-refuse : (rows : List Row) (k : Twenty) (d : JulianDate) → Held d → Holds Any (numbers_of k) (answer_of_any rows k d)
unfolding answer_of_any
rows-refuse rows (by-formula k) d h = by-formula-refuses k d h
rows-refuse rows utc_tai d h = utc-to-tai-refuses rows d h
rows-refuse rows tai_utc d h = tai-to-utc-refuses rows d h
rows-refuse rows (utc-ut1 dut1) d h = utc-to-ut1-refuses rows d dut1 h
rows-refuse rows (ut1-utc dut1) d h = ut1-to-utc-refuses rows d dut1 h

pub rows-not-finite : (rows : List Row) (k : Twenty) (d : JulianDate) → reads_table k ≡ true → finite (given_offset k) ≡ true → finite_parts d ≡ false
    → answer_of_any rows k d ≡ refusal (not_finite_number k)
unfolding answer_of_any given_offset
rows-not-finite rows (by-formula k) d r f h = absurd (true≢false (sym r))
rows-not-finite rows utc_tai d r f h = utc-to-tai-not-finite rows d h
rows-not-finite rows tai_utc d r f h = tai-to-utc-not-finite rows d h
rows-not-finite rows (utc-ut1 dut1) d r f h = utc-to-ut1-not-finite rows d dut1 f h
rows-not-finite rows (ut1-utc dut1) d r f h = ut1-to-utc-not-finite rows d dut1 f h

module _ (t : AnnouncedRows) where
  -- ---- A TABLE THAT IS TURNED AWAY gives its number whatever the date
  pub table-first : (k : Twenty) (d : JulianDate) (n : ℕ) → reads_table k ≡ true → table_of t ≡ refusal n → announced_answer t k d ≡ refusal n
  unfolding announced_answer
  table-first (by-formula k) d n r e = absurd (true≢false (sym r))
  table-first utc_tai d n r e = stopped _ e
  table-first tai_utc d n r e = stopped _ e
  table-first (utc-ut1 dut1) d n r e = stopped _ e
  table-first (ut1-utc dut1) d n r e = stopped _ e

  -- ---- ONE THAT IS TAKEN the answer by its rows
  pub by-its-rows : (rows : List Row) → table_of t ≡ answer rows → (k : Twenty) (d : JulianDate) → announced_answer t k d ≡ answer_of_any rows k d
  unfolding announced_answer answer_of_any
  by-its-rows rows e (by-formula k) d = refl
  by-its-rows rows e utc_tai d = went _ e
  by-its-rows rows e tai_utc d = went _ e
  by-its-rows rows e (utc-ut1 dut1) d = went _ e
  by-its-rows rows e (ut1-utc dut1) d = went _ e

  pub announced_not_finite : (rows : List Row) → table_of t ≡ answer rows → (k : Twenty) (d : JulianDate) → reads_table k ≡ true → finite (given_offset k)
      ≡ true
      → finite_parts d ≡ false → announced_answer t k d ≡ refusal (not_finite_number k)
  announced_not_finite rows e k d r f h = by-its-rows rows e k d ∙ rows-not-finite rows k d r f h

  -- ---- THE NUMBERS: those of document 01, and 20, 21 and 22 where the call reads a table
  under : {A : JulianDate → Type 0} {R : ℕ → Type 0} (k : Twenty) (d : JulianDate)
      → ((u : AnnouncedRows) (rows : List Row) → table_of u ≡ answer rows → Holds A R (answer_of_any rows k d))
      → Holds A (WithTable (reads_table k) R) (announced_answer t k d)
  unfolding announced_answer answer_of_any
  under {A} {R} k d h = go (table-decided t)
    where
      away : (k : Twenty) → ((u : AnnouncedRows) (rows : List Row) → table_of u ≡ answer rows → Holds A R (answer_of_any rows k d)) → (n : ℕ) → OfTable n
          → table_of t ≡ refusal n → Holds A (WithTable (reads_table k) R) (announced_answer t k d)
      away (by-formula k) h n o e = h none-announced fixed fixed-taken
      away utc_tai h n o e = holds-refusal n (table-first utc_tai d n refl e) (inl o)
      away tai_utc h n o e = holds-refusal n (table-first tai_utc d n refl e) (inl o)
      away (utc-ut1 dut1) h n o e = holds-refusal n (table-first (utc-ut1 dut1) d n refl e) (inl o)
      away (ut1-utc dut1) h n o e = holds-refusal n (table-first (ut1-utc dut1) d n refl e) (inl o)

      wider : (b : Bool) (n : ℕ) → R n → WithTable b R n
      wider true n r = inr r
      wider false n r = r

      go : Decision t → Holds A (WithTable (reads_table k) R) (announced_answer t k d)
      go (sizes _ e) = away k h 20 (inl refl) e
      go (order _ _ _ _ _ e) = away k h 21 (inr (inl refl)) e
      go (step _ _ _ _ _ _ e) = away k h 22 (inr (inr refl)) e
      go (taken _ _ _ _ e) =
          subst (λ (o : Outcome JulianDate). Holds A (WithTable (reads_table k) R) o) (sym (by-its-rows (rows_of t) e k d))
          (holds_more (λ x a. a) (wider (reads_table k)) (h t (rows_of t) e))

  pub announced_refuses : (k : Twenty) (d : JulianDate) → Held d → Holds Any (WithTable (reads_table k) (numbers_of k)) (announced_answer t k d)
  announced_refuses k d h = under k d (λ u rows e. rows-refuse rows k d h)

  -- ---- DEMAND 1: no NaN and no infinity, whatever is lent
  pub announced_no_nan_no_infinity : (k : Twenty) (d : JulianDate) → SmallParts d → Billion (given_offset k)
      → Holds FiniteParts (WithTable (reads_table k) SixOrOne) (announced_answer t k d)
  announced_no_nan_no_infinity k d h b = under k d (λ u rows e. table-no-nan-no-infinity u rows e k d h b)

-- ---- with no announced rows every answer stays
pub announced_none : (t : AnnouncedRows) → t.months_size ≡ 0 → t.seconds_size ≡ 0 → (k : Twenty) (d : JulianDate)
    → announced_answer t k d ≡ answer_of_any fixed k d
announced_none t p q = by-its-rows t fixed (table_none t p q)
