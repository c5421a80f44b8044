-- DEMAND 3 of UTC text, whole: for every division of a date on the grid and every buffer. Its parts are Demand3, Alike and DayLengths. Assumes nothing.
use mathlib.Core.Path.{◌≡◌, refl, sym, ap, ◌∙◌}
use mathlib.Core.Bool.{Bool, true, false, cond}
use mathlib.Core.List.{List, ◌++◌}
use Prim.Native.Nat.{ℕ}
use lib.Dec.{leb}
use lib.IntN.{ℤ}
use lib.ListN.{length, drop}
use lib.Ieee.{Float}
use borrow.Author.Tests.{leb-true, leb-false}
use Rattle.std.specs.Prelude.{Result}
use Rattle.refusals.specs.declared.Refusal.{Refusal}
use Rattle.refusals.specs.Outcome.{answer, refusal, outcome}
use Rattle.julian.specs.day_number.ExactDay.{GridSumInRange}
use Rattle.julian.specs.declared.JulianDate.{JulianDate}
use Rattle.leap_table.specs.declared.rows.AnnouncedRows.{AnnouncedRows}
use Rattle.leap_table.specs.rows.Table.{Row, fixed}
use Rattle.leap_table.specs.rows.Announced.{table_of}
use Rattle.leap_table.specs.offsets.Leap.{leap_at_end_of_day}
use Rattle.time_of_day.specs.ExactTime.{Leap}
use Rattle.utc.specs.iso_texts.TextForm.{TextForm}
use Rattle.utc.specs.iso_texts.IsoText.{iso_text_by, standard_form}
use Rattle.utc.specs.iso_texts.TextCall.{TextCall}
use Rattle.utc.specs.laws.Shows.{Promise, promise01, too_early, TextDemand}
use Rattle.utc.specs.laws.GoodForm.{GoodForm}
use Rattle.utc.specs.laws.OneText.{Division, Put, fits_in, too_long, OneText}
use Rattle.utc.proofs.iso_texts.TextCalls.{call-as}
use Rattle.utc.proofs.laws.Sums.{sum_text, of_sum}
use Rattle.utc.proofs.laws.TextForms.{good01}
use Rattle.utc.proofs.laws.Demand3.{sum-demand, fixed-leaps, table-leaps}
use Rattle.utc.proofs.laws.DayLengths.{a-length}
use Rattle.utc.proofs.laws.Alike.{alike, exactly, buffer}

-- ---- one call, by its two equations
case : {A : Type 0} (b c : Bool) (x y : A) → b ≡ c → cond b x y ≡ cond c x y
case b c x y e = ap (λ (d : Bool). cond d x y) e

put : (t l out : List ℕ) (r : Result ℕ Refusal) → outcome r ≡ cond (leb (length t) (length l)) (answer (length t)) (refusal 11)
    → out ≡ cond (leb (length t) (length l)) (t ++ drop (length t) l) l → Put t l r out
put t l out r = go (leb (length t) (length l)) refl
  where
    go : (b : Bool) → leb (length t) (length l) ≡ b → outcome r ≡ cond b (answer (length t)) (refusal 11) → out ≡ cond b (t ++ drop (length t) l) l
        → Put t l r out
    go true p e q = fits_in (leb-true (length t) (length l) p) e q
    go false p e q = too_long (leb-false (length t) (length l) p) e q

module _ (rows : List Row) (cases : (y m d : ℤ) (x : Float) → leap_at_end_of_day rows y m d ≡ answer x → Leap x) (textForm : TextForm) (p : Promise)
    (good : GoodForm textForm p) (sum : ℤ) (range : GridSumInRange sum) where
  demand : TextDemand p rows sum (sum_text textForm rows sum)
  demand = sum-demand rows cases textForm p good sum range

  -- a call for a division is one for the sum
  as_sum : (jd : JulianDate) → Division sum jd → (l : List ℕ) (r : Result ℕ Refusal) (out : List ℕ) → TextCall (iso_text_by textForm rows jd) l r out
      → TextCall (sum_text textForm rows sum) l r out
  as_sum jd d l r out c = call-as _ _ l out r (sym (of_sum textForm rows sum range jd d)) c

  pub text-for-every-buffer-by : OneText textForm p rows sum
  text-for-every-buffer-by = record {
    early = λ e jd d l r out c.
        let s = as_sum jd d l r out c in
        record {
          says = exactly p rows sum (sum_text textForm rows sum) l out r demand s ∙ case (too_early sum) true (refusal 1) _ e;
          holds = buffer p rows sum (sum_text textForm rows sum) l out r demand s ∙ case (too_early sum) true l _ e;
        };
    shown = λ e. (
      demand.text,
      record {
        leap = demand.leap;
        leap_is = demand.leap_is e;
        has_length = a-length demand.leap (cases _ _ _ demand.leap (demand.leap_is e));
        right = demand.right e;
      },
      λ jd d l r out c.
          let s = as_sum jd d l r out c in
          put demand.text l out r
          (exactly p rows sum (sum_text textForm rows sum) l out r demand s ∙ case (too_early sum) false (refusal 1) _ e)
          (buffer p rows sum (sum_text textForm rows sum) l out r demand s ∙ case (too_early sum) false l _ e),
    );
    alike = λ jd d l r out c jd' d' l' r' out' c' h. alike (sum_text textForm rows sum) l out l' out' r r' h (as_sum jd d l r out c)
        (as_sum jd' d' l' r' out' c');
  }

pub table-text-for-every-buffer : (t : AnnouncedRows) (rows : List Row) → table_of t ≡ answer rows → (sum : ℤ) → GridSumInRange sum
    → OneText standard_form promise01 rows sum
table-text-for-every-buffer t rows p = text-for-every-buffer-by rows (table-leaps t rows p) standard_form promise01 good01

pub text-for-every-buffer : (sum : ℤ) → GridSumInRange sum → OneText standard_form promise01 fixed sum
text-for-every-buffer = text-for-every-buffer-by fixed fixed-leaps standard_form promise01 good01
