-- WHICH ROW A RULE NAMES, WHICH FIELD A SENTENCE NAMES, and what a rule passed on is, for every table that is taken. Assumes nothing.
use mathlib.Core.Path.{◌≡◌, refl, sym, ap, ◌∙◌}
use mathlib.Core.Bool.{Bool, true, false, cond}
use mathlib.Core.Logic.{◌⊎◌, inl, inr}
use mathlib.Core.List.{List, map}
use Prim.Native.Nat.{ℕ, ◌+◌, ◌*◌, ◌<◌}
use native.Mathlib.Omega.{arith}
use lib.Dec.{ltb, leb}
use lib.IntN.{ℤ, nat_abs}
use lib.ListN.{length}
use lib.Ieee.{Float, lt, of_bits}
use borrow.Author.Tests.{ltb-true, ltb-false, lt-leb}
use Rattle.std.specs.Prelude.{Result}
use Rattle.refusals.specs.declared.Refusal.{Refusal}
use Rattle.refusals.specs.Outcome.{Outcome, answer, refusal, onward, outcome}
use Rattle.refusals.proofs.Onward.{came, went}
use Rattle.julian.specs.declared.CalendarFields.{CalendarFields}
use Rattle.julian.specs.declared.JulianDate.{JulianDate}
use Rattle.julian.specs.Calendar.{julian_to_calendar}
use Rattle.leap_table.specs.declared.offsets.Rule.{Rule}
use Rattle.leap_table.specs.declared.offsets.Rule.TheVariants.{Drifting, Whole}
use Rattle.leap_table.specs.declared.rows.AnnouncedRows.{AnnouncedRows}
use Rattle.leap_table.specs.declared.judging.Triple.{Triple}
use Rattle.leap_table.specs.rows.Table.{Row, starts, month_number, LastBegun}
use Rattle.leap_table.specs.rows.Announced.{table_of}
use Rattle.leap_table.specs.offsets.Offset.{tai_utc_offset}
use Rattle.leap_table.specs.offsets.Rule.{rule_of, rule_at, rule_on, with_rule, offset_by_rule}
use Rattle.leap_table.specs.judging.Judging.{judged_all}
use Rattle.leap_table.specs.walk.Walk.{Walked, month_in, walked, walk_of}
use Rattle.leap_table.specs.walk.Rows.{compared}
use Rattle.leap_table.specs.walk.Lists.{walk_of_numbers}
use Rattle.leap_table.specs.walk.Due.{triple_numbers}
use Rattle.leap_table.proofs.walk.OfCall.{walk_of-numbers, numbers-offset, numbers-behind}
use Rattle.leap_table.proofs.offsets.RuleLaws as Rules
use Rattle.leap_table.proofs.offsets.Rules.{offset-forgets}
use Rattle.time_of_day.specs.declared.TimeOfDay.{TimeOfDay}
use Rattle.time_of_day.specs.ExactTime.{GoodTime, minus_one_f}
use Rattle.utc_scales.specs.ByRule.{utc_to_tai_by_rule}
use Rattle.utc_scales.specs.UtcTai.{utc_to_tai}
use Rattle.utc_scales.specs.days.DateRule.{rule_of_date}
use Rattle.utc_scales.specs.days.LargerPart.{kept_parts}
use Rattle.utc_scales.specs.to_ut1.ByRule.{utc_to_ut1_by_rule}
use Rattle.utc_scales.specs.to_ut1.UtcUt1.{utc_to_ut1}
use Rattle.utc_scales.proofs.days.Rules.{taken-apart}
use Rattle.utc_scales.proofs.Rules.{utc-to-tai-forgets}
use Rattle.utc_scales.proofs.to_ut1.Rules.{utc-to-ut1-forgets}
use Rattle.utc.specs.text.Answer.{text_written}
use Rattle.utc.specs.iso_texts.TextCall.{written, TextCall}
use Rattle.utc.specs.iso_texts.IsoText.{day_text_by}
use Rattle.utc.specs.iso_texts.TextForm.{TextForm}
use Rattle.utc.specs.iso_texts.ByRule.{text_by_rule}
use Rattle.utc.proofs.iso_texts.TextRules.{text-forgets}
use Rattle.reasons.specs.declared.Values.{Values}
use Rattle.reasons.specs.Sentence.{sentence}
use Rattle.stamps.proofs.listing_laws.Sentences as Second
use Rattle.stamps.proofs.reason_laws.Names as Reported
use Rattle.promises.specs.Terms.{Walks, WalkRight, PassedOn, WithoutRule, RuleNames, FieldNamed, NoneNamed, SentencesPrinted}

-- ---- a rule passed on is that of the calendar's date
module _ (rows : List Row) where
  pub tai-passes-on : (d x : JulianDate) (r : Rule) → utc_to_tai_by_rule rows d ≡ answer (x, r)
      → rule_of_date rows (kept_parts d).larger (kept_parts d).smaller ≡ answer r
  unfolding utc_to_tai_by_rule
  tai-passes-on d x r e = (taken-apart (utc_to_tai rows d) (rule_of_date rows (kept_parts d).larger (kept_parts d).smaller) x r e).1

  pub ut1-passes-on : (d x : JulianDate) (s : Float) (r : Rule) → utc_to_ut1_by_rule rows d s ≡ answer (x, r) → rule_of_date rows d.jd1 d.jd2 ≡ answer r
  unfolding utc_to_ut1_by_rule
  ut1-passes-on d x s r e = (taken-apart (utc_to_ut1 rows d s) (rule_of_date rows d.jd1 d.jd2) x r e).1

  pub texts-pass-on : (form : TextForm) (d : JulianDate) (s : List ℕ) (r : Rule) → text_by_rule form rows d ≡ answer (s, r)
      → rule_of_date rows d.jd1 d.jd2 ≡ answer r
  unfolding text_by_rule with_rule rule_of_date onward
  texts-pass-on form d s r e =
      let (c, p, q) =
      came (julian_to_calendar d.jd1 d.jd2) (λ c. with_rule (day_text_by form rows c.date c.fraction) (rule_on rows c.date)) (s, r) e in
      let (a, u, v) = came (day_text_by form rows c.date c.fraction) (λ a. answer (a, rule_on rows c.date)) (s, r) q in
      went (λ (f : CalendarFields). answer (rule_on rows f.date)) p ∙ ap (λ (o : Outcome (List ℕ × Rule)). onward o (λ w. answer w.1)) v

  pub look_up_tells : (y m d : ℤ) (f x : Float) (r : Rule) → offset_by_rule rows y m d f ≡ answer (x, r) → rule_of rows (month_number y (nat_abs m)) ≡ r
  unfolding offset_by_rule with_rule rule_at
  look_up_tells y m d f x r e =
      let (a, u, v) = came (tai_utc_offset rows y m d f) (λ a. answer (a, rule_at rows y m)) (x, r) e in
      ap (λ (o : Outcome (Float × Rule)). rule_in o) v
    where
      rule_in : Outcome (Float × Rule) → Rule
      rule_in (answer p) = p.1
      rule_in (refusal k) = r

-- ---- the rows compared in an answered walk are the definition's count
module _ (t : AnnouncedRows) (rows : List Row) (e : table_of t ≡ answer rows) where
  by-definition : (l : List Row) (ds : List Triple) (places : ℕ) (w : Walked) → walk_of l true ds places ≡ answer w
      → w.rows_compared ≡ compared (starts l) (map month_in ds)
  unfolding walk_of
  by-definition l ds places w h = go (leb (length ds) places) h
    where
      go : (c : Bool) → cond c (onward (judged_all ds) (λ _. answer (walked l ds))) (refusal 11) ≡ answer w
          → w.rows_compared ≡ compared (starts l) (map month_in ds)
      go true q =
          let (u, v, x) = came (judged_all ds) (λ _. answer (walked l ds)) w q in
          let y : w ≡ walked l ds = cc in
          ap (λ (k : Walked). k.rows_compared) y
      go false q = let z : ◌≡◌ {A = ℕ} 0 1 = cc in absurd (omega arith)

  pub rows_counted : (ds : List Triple) (d : Triple) (before after : List Float) (c : ℕ) → Walks t ds before c after
      → c ≡ compared (starts rows) (map month_in ds)
  unfolding outcome
  rows_counted ds d before after c call =
      let next : List Row → Outcome Walked = λ l. walk_of_numbers l (triple_numbers ds) (length before) in
      let (w, p, q) = came (onward (table_of t) next) (λ k. answer k.rows_compared) c (sym call.says) in
      let (l, u, v) = came (table_of t) next w p in
      let n : w.rows_compared ≡ c = cc in
      let same : l ≡ rows = cc in
      sym n ∙ by-definition l ds (length before) w (sym (walk_of-numbers l ds d (length before)) ∙ v)
      ∙ ap (λ (k : List Row). compared (starts k) (map month_in ds)) same

-- ---- a sentence that is longer than its buffer
pub too_long : (k : ℕ) (v : Values) (s before after : List ℕ) (r : Result ℕ Refusal) → sentence k v ≡ answer s → length before < length s
    → TextCall (sentence k v) before r after → outcome r ≡ refusal 11
unfolding written text_written
too_long k v s before after r e h call =
    call.says ∙ went (λ (x : List ℕ). text_written x (length before)) e
    ∙ ap (λ (b : Bool). cond b (answer (length s)) (refusal 11)) (lt-leb (length s) (length before) h)

-- ---- a day that ends a second early
pub short-day-ends : (u : TimeOfDay) → GoodTime u minus_one_f → 3600000 * u.hour + 60000 * u.minute + 1000 * u.second + u.milli < 86399000
unfolding lt of_bits
short-day-ends u g = go (ltb u.hour 23) refl (ltb u.minute 59) refl
  where
    go : (a : Bool) → ltb u.hour 23 ≡ a → (b : Bool) → ltb u.minute 59 ≡ b
        → 3600000 * u.hour + 60000 * u.minute + 1000 * u.second + u.milli < 86399000
    go true e b f =
        let n = ltb-true u.hour 23 e in
        let m = g.minute in
        let s = g.second in
        let l = g.milli in
        omega arith
    go false e true f =
        let n = ltb-true u.minute 59 f in
        let h = g.hour in
        let s = g.second in
        let l = g.milli in
        omega arith
    go false e false f =
        let p = ltb-false u.hour 23 e in
        let q = ltb-false u.minute 59 f in
        let h = g.hour in
        let m = g.minute in
        let l = g.milli in
        let k = g.shorter tt (omega arith) (omega arith) in
        omega arith

-- ---- fields
pub field_named : (rows : List Row) → FieldNamed rows
field_named rows = record {
  year = Reported.year-reported;
  month = Reported.month-reported;
  day = Reported.day-reported;
  hour = Reported.hour-reported;
  minute = Reported.minute-reported;
  second = Reported.second-reported;
  rounded-sum = Reported.sum-reported;
  fraction = Reported.fraction-reported rows;
  nanos = Reported.unix_nanos_reported rows;
  bad_part = Reported.part-reported;
  offset = Reported.offset-reported;
  second_size = Reported.second-size-reported;
  size = Reported.size-reported;
  whole_length = Reported.length-reported;
}

pub none_named : (rows : List Row) → NoneNamed rows
none_named rows = record {
  other_number = Reported.other_number;
  date = Reported.date-passes;
  time = Reported.time-passes;
  rounded-sum = Reported.sum-passes;
  fraction = Reported.fraction-passes rows;
  nanos = Reported.unix_nanos_pass rows;
  parts = Reported.parts-pass;
  offset = Reported.offset-passes;
  block = Reported.block-passes;
}

pub sentences_printed : (rows : List Row) → SentencesPrinted rows
sentences_printed rows = record {
  stamp_by_6 = λ m s n i. Second.sum-line m rows s n i;
  stamp_by_1 = λ m s n i. Second.year-line m rows s n i;
  block_by_12 = λ m s line. Second.second-size-line m rows s line;
  block_by_13 = λ m s line. Second.size-line m rows s line;
  block_by_14 = Second.length-line rows;
  with-text = λ how other. Second.text-line-shared how other rows;
  header = λ how other. Second.header-shared how other rows;
}

-- ---- walks
pub walk-right : (t : AnnouncedRows) (rows : List Row) → table_of t ≡ answer rows → (ds : List Triple) (d : Triple) (before after : List Float) (c : ℕ)
    → Walks t ds before c after → WalkRight t rows ds d before after c
walk-right t rows e ds d before after c call = record {
  offset = numbers-offset t ds d before after c call;
  spare = numbers-behind t ds d before after c call;
  counted = rows_counted t rows e ds d before after c call;
}

-- ---- rules
pub passed_on : (rows : List Row) → PassedOn rows
passed_on rows = record { by_tai = tai-passes-on rows; by_ut1 = ut1-passes-on rows; by_texts = texts-pass-on rows }

pub without_rule : (rows : List Row) → WithoutRule rows
without_rule rows = record {
  offset = offset-forgets rows;
  tai = utc-to-tai-forgets rows;
  ut1 = utc-to-ut1-forgets rows;
  text = λ form. text-forgets form rows;
}

pub last_begun : (rows : List Row) (n i : ℕ) → (rule_of rows n ≡ Drifting i) ⊎ (rule_of rows n ≡ Whole i) → LastBegun (starts rows) n i
last_begun rows n i (inl e) = Rules.drifting-last-begun rows n i e
last_begun rows n i (inr e) = Rules.whole-last-begun rows n i e

pub rule-names : (t : AnnouncedRows) (rows : List Row) → table_of t ≡ answer rows → (n : ℕ) → RuleNames t rows n
rule-names t rows e n = record {
  before_1960 = Rules.before-1960-absent t rows e n;
  absent = Rules.absent-before-1960 t n;
  drifting = Rules.drifting-below-14 t n;
  whole = Rules.whole-from-14 t n;
  none_given = Rules.absent-offset rows n;
  drifting_given = Rules.drifting-offset rows n;
  whole_given = Rules.whole-offset rows n;
}
