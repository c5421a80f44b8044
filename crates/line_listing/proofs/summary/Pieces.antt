-- The lines of the summary joined, and the answers of its calls. Assumes nothing.
use Rattle.std.proofs.Common.{◌≡◌, ℕ, ◌+◌, ◌%◌, true, false, List, [], ◌++◌, length, pos, sym, refl, ap, ◌∙◌, subst, eq-eqb, ne_eqb}
use Rattle.std.specs.Prelude.{Result}
use Rattle.refusals.specs.declared.Refusal.{Refusal}
use Rattle.refusals.specs.Outcome.{Outcome, answer, refusal, onward, outcome}
use Rattle.calendar.specs.declared.CalendarDate.{CalendarDate}
use Rattle.calendar.specs.Gregorian.{gregorian_date}
use Rattle.leap_table.specs.rows.Table.{Row}
use Rattle.utc.specs.text.Ascii.{ascii_bytes}
use Rattle.utc.specs.text.Answer.{TextPut}
use Rattle.utc.specs.iso_texts.TextCall.{written, buffer_holds, TextCall}
use Rattle.line_listing.specs.declared.head.RunEnd.{RunEnd}
use Rattle.line_listing.specs.declared.summary.Seen.{Seen}
use Rattle.line_listing.specs.declared.summary.Ends.{Ends}
use Rattle.line_listing.specs.declared.summary.Runs.{Runs}
use Rattle.line_listing.specs.lines.StampLine.{Stamps, stamps}
use Rattle.line_listing.specs.head.Counts.{first_end, second_end}
use Rattle.line_listing.specs.head.Head.{counted}
use Rattle.line_listing.specs.summary.Seen.{seen_in, ends_of}
use Rattle.line_listing.specs.summary.Known.{last_month_of, lent_rows, known_until}
use Rattle.line_listing.specs.summary.Look.{left_out, no_stamp, after_known, scales_apart, look_of}
use Rattle.line_listing.specs.summary.Summary as S
use Rattle.line_listing.specs.summary.Asked.{RunsOf, look_by, runs_by}
use Rattle.std.specs.Prelude.{Ok, Err}
use Rattle.julian.specs.declared.JulianDate.{JulianDate}
use Rattle.utc_scales.specs.UtcTai.{tai_to_utc}
use Rattle.utc.specs.iso_texts.Expanded.{iso_text_expanded}

-- ---- a stamp's text
pub text-is : (o : Outcome (List ℕ)) (t : List ℕ) → o ≡ answer t → t ≡ S.text_or o
unfolding S.text_or
text-is o t e = sym (ap S.text_or e)

pub text-none : (o : Outcome (List ℕ)) (k : ℕ) → o ≡ refusal k → ascii_bytes "no text" ≡ S.text_or o
unfolding S.text_or
text-none o k e = sym (ap S.text_or e)

-- ---- a run
module _ (name : List ℕ) (out : Seen) where
  pub none_out : out.many ≡ 0 → [] ≡ S.out_line name out
  unfolding S.out_line
  none_out h = sym (rw (eq-eqb out.many 0 h))

  abbrev out-words : List ℕ
  out-words = ((name ++ counted (ascii_bytes "left out ") out.many) ++ counted (ascii_bytes " first ") out.first) ++ ascii_bytes "\n"

  pub some_out : (out.many ≡ 0 → ⊥) → out-words ≡ S.out_line name out
  unfolding S.out_line
  some_out h = sym (rw (ne_eqb out.many 0 h))

module _ (rows : List Row) (name : List ℕ) (run : RunEnd) (js ks ns : List ℕ) (from n : ℕ) where
  pub run-not-named : run.named ≡ false → [] ≡ S.run_told rows name run js ks ns from n
  unfolding S.run_told
  run-not-named h = sym (rw h)

  pub run-named : (e : Ends) (s : Seen) → run.named ≡ true → e ≡ ends_of js ks ns from n → s ≡ seen_in 17 ns from n
      → S.ends_line rows name e ++ S.out_line name s ≡ S.run_told rows name run js ks ns from n
  unfolding S.run_told
  run-named e s h f g = rw (f, g) (sym (rw h))

-- ---- the table
pub table_is : (rows : List Row) (known count month seconds lent day : ℕ) (date : CalendarDate) → count ≡ length rows → month ≡ last_month_of rows
    → seconds ≡ S.row_seconds rows month → lent ≡ lent_rows rows → day ≡ known_until rows known → date ≡ gregorian_date (pos (day + 2400001))
    → (S.rows_told count month ++ S.seconds_told seconds lent) ++ S.day_told date ≡ S.table_told rows known
unfolding S.table_told
table_is rows known count month seconds lent day date e f g h i j = rw (j, i, h, g, f, e) refl

-- ---- words where a bit is set
module _ (bit : ℕ) (words : List ℕ) where
  pub bit_set : bit % 2 ≡ 1 → words ≡ S.if_set bit words
  unfolding S.if_set
  bit_set h = sym (rw (eq-eqb _ 1 h))

  pub bit_not_set : (bit % 2 ≡ 1 → ⊥) → [] ≡ S.if_set bit words
  unfolding S.if_set
  bit_not_set h = sym (rw (ne_eqb _ 1 h))

-- ---- all by where the runs end
module _ (rows : List Row) (known : ℕ) (gps tai utc : RunEnd) (js ks ns : List ℕ) (first second : ℕ) (r : Runs) (e : RunsOf first second (length ns) r) where
  abbrev all : Stamps
  all = stamps js ks ns first second

  pub look_is : look_by rows known gps tai utc js ks ns r ≡ look_of rows known gps tai utc all
  unfolding look_of left_out no_stamp after_known scales_apart first_end second_end
  look_is = rw (e.end_1, e.end_2, e.end_3) refl

  pub runs-are : runs_by rows gps tai utc js ks ns r ≡ S.runs_told rows gps tai utc all
  unfolding S.runs_told first_end second_end
  runs-are = rw (e.end_1, e.end_2, e.end_3) refl

  pub summary_is : (look : ℕ) → look ≡ look_by rows known gps tai utc js ks ns r
      → (runs_by rows gps tai utc js ks ns r ++ S.table_told rows known) ++ S.looks_told look ≡ S.summary_text rows known gps tai utc all
  unfolding S.summary_text
  summary_is look h =
      ap (λ (t : List ℕ). (t ++ S.table_told rows known) ++ S.looks_told look) runs-are
      ∙ ap (λ (k : ℕ). (S.runs_told rows gps tai utc all ++ S.table_told rows known) ++ S.looks_told k) (h ∙ look_is)

-- ---- the answers
pub put-call : {t p ys : List ℕ} {r : Result ℕ Refusal} (o : Outcome (List ℕ)) → answer t ≡ o → TextPut t p r ys → TextCall o p r ys
unfolding written buffer_holds onward
put-call {t} {p} {ys} {r} o e put = subst (λ (q : Outcome (List ℕ)). TextCall q p r ys) e (record { says = put.says; holds = put.holds })

pub call-refused : (k : ℕ) (p : List ℕ) (r : Result ℕ Refusal) (o : Outcome (List ℕ)) → outcome r ≡ refusal k → refusal k ≡ o → TextCall o p r p
unfolding written buffer_holds onward
call-refused k p r o h e = subst (λ (q : Outcome (List ℕ)). TextCall q p r p) e (record { says = h; holds = refl })

-- ---- the text of a date in TAI
module _ (rows : List Row) (tai : JulianDate) where
  pub date-is : (u : JulianDate) → answer u ≡ tai_to_utc rows tai → S.text_or (iso_text_expanded rows u) ≡ S.date_told rows tai
  unfolding S.date_told onward
  date-is u e = ap (λ (o : Outcome JulianDate). S.text_or (onward o (iso_text_expanded rows))) e

  pub date-none : (k : ℕ) → refusal k ≡ tai_to_utc rows tai → ascii_bytes "no text" ≡ S.date_told rows tai
  unfolding S.date_told S.text_or onward
  date-none k e = ap (λ (o : Outcome JulianDate). S.text_or (onward o (iso_text_expanded rows))) e

-- ---- a time
module _ (o : Outcome ℕ) (r : Result ℕ Refusal) (e : outcome r ≡ o) where
  pub span_is : (m : ℕ) → r ≡ Ok m → S.span_by (answer m) ≡ S.span_by o
  unfolding outcome
  span_is m g = ap S.span_by (sym (ap outcome g) ∙ e)

  pub span_none : (k : Refusal) → r ≡ Err k → ascii_bytes " span unknown" ≡ S.span_by o
  unfolding outcome S.span_by
  span_none k g = ap S.span_by (sym (ap outcome g) ∙ e)

-- ---- the ends of a run, where some stamp is ordered and where none is
module _ (rows : List Row) (e : Ends) where
  pub some-ordered : e.any ≡ true → S.ends_told rows e ≡ S.ordered_told rows e
  unfolding S.ordered_told
  some-ordered h = sym (rw h)

  pub none-ordered : e.any ≡ false → ascii_bytes "no stamp is ordered" ≡ S.ordered_told rows e
  unfolding S.ordered_told
  none-ordered h = sym (rw h)
