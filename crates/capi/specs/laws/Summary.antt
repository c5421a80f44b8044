-- When the summary of three lined up runs reaches a C caller, and what to look at. Written from include/celestial_time.h, ct_line_summary and ct_line_look: the
-- table first, then 14 for records of another length than 96, 12 for other than 8 bytes of jd1, 8 of jd2 and 1 of numbers for each stamp of the runs, and of
-- the summary 11 last. Assumes nothing.
use Rattle.std.specs.Prelude.{ℕ, suc, ◌+◌, ◌*◌, ◌≤◌, ◌<◌, ◌≡◌, List, ◌++◌, ℤ, pos, length, drop}
use Rattle.refusals.specs.Outcome.{Outcome, answer, refusal}
use Rattle.numerals.specs.little_endian.LittleEndian.{u64_at}
use Rattle.leap_table.specs.rows.Table.{Row}
use Rattle.c_answers.specs.Delivery.{code}
use Rattle.line_listing.specs.lines.StampLine.{stamps}
use Rattle.line_listing.specs.summary.Look.{look_of}
use Rattle.line_listing.specs.summary.Summary.{summary_text}
use Rattle.capi.specs.SummaryDelivery.{run_record}

-- the lists have what the records count: the first eight bytes of each record are the stamps of its run
pub record ListsFit (runs js ks ns : List ℕ) : Type 0 where
  pub first : length js ≡ 8 * length ns
  pub second : length ks ≡ 8 * length ns
  pub together : u64_at runs 0 + u64_at runs 32 + u64_at runs 64 ≡ length ns

-- the number of records and lists, 0 for none
pub data RunsDecision (runs js ks ns : List ℕ) (k : ℕ) : Type 0 where
  other_records : (length runs ≡ 96 → ⊥) → k ≡ 14 → RunsDecision runs js ks ns k
  other_lists : length runs ≡ 96 → (ListsFit runs js ks ns → ⊥) → k ≡ 12 → RunsDecision runs js ks ns k
  lists_fit : length runs ≡ 96 → ListsFit runs js ks ns → k ≡ 0 → RunsDecision runs js ks ns k

-- ---- what to look at, and the text, of fitting records and lists: GPS, TAI and UTC in this order
abbrev pub look_in : List Row → ℕ → List ℕ → List ℕ → List ℕ → List ℕ → ℕ
look_in rows known runs js ks ns =
    look_of rows known (run_record runs 0) (run_record runs 32) (run_record runs 64) (stamps js ks ns (u64_at runs 0) (u64_at runs 32))

abbrev pub text_in : List Row → ℕ → List ℕ → List ℕ → List ℕ → List ℕ → List ℕ
text_in rows known runs js ks ns =
    summary_text rows known (run_record runs 0) (run_record runs 32) (run_record runs 64) (stamps js ks ns (u64_at runs 0) (u64_at runs 32))

-- what ct_line_look answers: the cases shut each other out
pub data LookDecision (table : Outcome (List Row)) (known : ℕ) (runs js ks ns : List ℕ) (o : Outcome ℕ) : Type 0 where
  look_table : (k : ℕ) → table ≡ refusal k → o ≡ refusal k → LookDecision table known runs js ks ns o
  look_refused : (rows : List Row) → table ≡ answer rows → (k : ℕ) → RunsDecision runs js ks ns (suc k) → o ≡ refusal (suc k)
      → LookDecision table known runs js ks ns o
  look_told : (rows : List Row) → table ≡ answer rows → RunsDecision runs js ks ns 0 → o ≡ answer (look_in rows known runs js ks ns)
      → LookDecision table known runs js ks ns o

-- what ct_line_summary returns, and what the buffer, which held `before`, holds
pub data SummaryDecision (table : Outcome (List Row)) (known : ℕ) (runs js ks ns before : List ℕ) (r : ℤ) (after : List ℕ) : Type 0 where
  text_table : (k : ℕ) → table ≡ refusal k → r ≡ code (refusal k) → after ≡ before → SummaryDecision table known runs js ks ns before r after
  text_refused : (rows : List Row) → table ≡ answer rows → (k : ℕ) → RunsDecision runs js ks ns (suc k) → r ≡ code (refusal (suc k)) → after ≡ before
      → SummaryDecision table known runs js ks ns before r after
  no_room : (rows : List Row) → table ≡ answer rows → RunsDecision runs js ks ns 0 → length before < length (text_in rows known runs js ks ns)
      → r ≡ code (refusal 11) → after ≡ before → SummaryDecision table known runs js ks ns before r after
  text-told : (rows : List Row) → table ≡ answer rows → RunsDecision runs js ks ns 0 → length (text_in rows known runs js ks ns) ≤ length before
      → r ≡ pos (length (text_in rows known runs js ks ns))
      → after ≡ text_in rows known runs js ks ns ++ drop (length (text_in rows known runs js ks ns)) before
      → SummaryDecision table known runs js ks ns before r after
