-- `leap_table::judging::in_bytes::judge_bytes` meets its contract. Assumes nothing.
use Rattle.std.proofs.Common.{◌≡◌, ℕ, ◌/◌, ◌%◌, Bool, length, sym, ap, ◌∙◌, arith, eq-eqb, ne_eqb, rules}
use Rattle.refusals.specs.Refusal.{refusal_number}
use Rattle.refusals.specs.Outcome.{Outcome, outcome}
use Rattle.refusals.proofs.Handed.{handed_on}
use Rattle.leap_table.specs.declared.judging.Triple.{Triple}
use Rattle.leap_table.specs.judging.Judging.{judged_all, judged_list}
use Rattle.leap_table.specs.judging.Lists.{dates_from, triple_in}
use Rattle.leap_table.proofs.rows.TablesTaken.{call_refused, call_taken}
use Rattle.leap_table.proofs.judging.Judges.{how_many}
use Rattle.leap_table.proofs.judging.Refused.{broken, no-places, by-dates}
use Rattle.leap_table.proofs.judging.in_bytes.judge_bytes.Goals as goal

pub returns-in_err-judge_table : goal.returns-in_err-judge_table
returns-in_err-judge_table c =
    handed_on _ _ c.from_residual.ensures.1 ∙ call_refused c.args.table c.judge_table.result c.judge_table.ensures _ _ c.in_err-judge_table.was

pub returns-then-dates-ne0 : goal.returns-then-dates-ne0
unfolding outcome refusal_number
returns-then-dates-ne0 c =
    let l = c.args.dates.now in
    let d = dates_from (triple_in l) 0 (length l / 12) in
    broken d (c.args.room / 8)
    ∙ ap (λ (b : Bool). judged_list b d (c.args.room / 8)) (sym (ne_eqb (length l % 12) 0 c.if-dates-ne0.true))
    ∙ call_taken c.args.table c.judge_table.result c.judge_table.ensures _ _ c.in_ok-judge_table.was

pub returns-then-room-n : goal.returns-then-room-n
unfolding outcome refusal_number
returns-then-room-n c =
    let l = c.args.dates.now in
    let d = dates_from (triple_in l) 0 (length l / 12) in
    no-places d (c.args.room / 8) (length l / 12) (how_many (triple_in l) (length l / 12) 0) c.if-room-n.true
    ∙ ap (λ (b : Bool). judged_list b d (c.args.room / 8)) (sym (eq-eqb (length l % 12) 0 c.if-dates-ne0.false))
    ∙ call_taken c.args.table c.judge_table.result c.judge_table.ensures _ _ c.in_ok-judge_table.was

-- as many dates are judged as there are
judged : (f : ℕ → Triple) (m n : ℕ) (o : Outcome Unit) → m ≡ n → o ≡ judged_all (dates_from f 0 m) → o ≡ judged_all (dates_from f 0 n)
judged f m n o e p = p ∙ ap (λ (k : ℕ). judged_all (dates_from f 0 k)) e

pub returns : goal.returns
returns c =
    let l = c.args.dates.now in
    let d = dates_from (triple_in l) 0 (length l / 12) in
    by-dates d (c.args.room / 8) (length l / 12) (how_many (triple_in l) (length l / 12) 0) c.if-room-n.false _
    (judged (triple_in l) _ (length l / 12) _ (omega arith) (c.judge_all.ensures (triple_in l) (λ i t h p. search rules)))
    ∙ ap (λ (b : Bool). judged_list b d (c.args.room / 8)) (sym (eq-eqb (length l % 12) 0 c.if-dates-ne0.false))
    ∙ call_taken c.args.table c.judge_table.result c.judge_table.ensures _ _ c.in_ok-judge_table.was
