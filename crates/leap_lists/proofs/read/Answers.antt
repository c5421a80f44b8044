-- `leap_lists::read` meets its contract: line by line the text is read as its definition says. Assumes nothing.
use Rattle.std.proofs.Common.{rules, tests, ◌≡◌, ℕ, eqb, ◌+◌, length, drop, sym, ap, ◌∙◌, arith}
use Rattle.std.proofs.lemmas.List.{length_push}
use Rattle.std.proofs.lemmas.List.FromFn.{length-enumerate_from}
use Rattle.std.proofs.lemmas.Iterator.Consumers.{YieldsList-turn, YieldsList-end, YieldsList-from_enumerate}
use Rattle.std.proofs.lemmas.Iterator.Splits.{YieldsList-from_slice_split}
use Rattle.refusals.specs.Refusal.{refusal_number}
use Rattle.leap_lists.specs.declared.ListFault.{ListFault}
use Rattle.leap_lists.specs.declared.held.Held.{Held}
use Rattle.leap_lists.specs.Held.{line_fault, with_line}
use Rattle.leap_lists.specs.Reading.{list_told, answered, refused_at, read_from}
use Rattle.leap_lists.proofs.held.Tests.{small-second, small_start}
use Rattle.leap_lists.proofs.Texts.{parts}
use Rattle.leap_lists.proofs.Reading.{at_fault, taken, fault_there, no_fault, by_parts, turned, all_read, at_err, at_ok, told_err}
use Rattle.leap_lists.proofs.read.Goals as goal

pub loop-i-init : goal.loop-i-init
loop-i-init c =
    let h = c.none_held-held.ensures in
    (rw h small_start, ap (λ (x : Held). read_from x 0 (parts c.args.text.now)) h ∙ by_parts c.args.text.now)

pub returns-in_err-map_err : goal.returns-in_err-map_err
returns-in_err-map_err c =
    let t = turned c.loop-i.held (parts c.args.text.now) (length c.loop-i.yielded) c.in-Some.i c.in-Some.line.now
    (YieldsList-turn
    (YieldsList-from_enumerate
    (YieldsList-from_slice_split _ (λ (b : ℕ). eqb b 10) c.args.text.now (cc) (cc) (cc) (λ x r q k. search (rules, tests))) (cc))
    c.loop-i.yielded _ c.loop-i.yielded_by _ _ _ c.in-Some.is c.next.ensures.steps) in
    let found = at_err _ _ _ _ c.map_err.ensures.cases c.in_err-map_err.was in
    let made : c.in_err-map_err.field-0.0 ≡ record { refusal = found.0; line = c.in-Some.i + 1 } = let m = found.2 in search (rules, tests) in
    let k = at_fault found.1 (c.judge.ensures ∙ ap (line_fault c.loop-i.held) c.read_line-found.ensures.0) in
    told_err _ _ c.from_residual.ensures.1
    ∙ ap (λ (f : ListFault). refused_at (refusal_number f.refusal) f.line) made
    ∙ ap (λ (n : ℕ). refused_at (refusal_number found.0) (n + 1)) t.0
    ∙ sym (t.1 ∙ fault_there c.loop-i.held (length c.loop-i.yielded) _ _ (refusal_number found.0) k.0 k.1)
    ∙ c.loop-i.invariant.1

pub add_line-requires : goal.add_line-requires
add_line-requires c =
    (taken (at_ok _ _ _ _ c.map_err.ensures.cases c.in_ok-map_err.was).1 c.judge.ensures, c.read_line-found.ensures.1)

pub loop-i-preserved : goal.loop-i-preserved
loop-i-preserved c =
    let n = length c.loop-i.yielded in
    let t = turned c.loop-i.held (parts c.args.text.now) (length c.loop-i.yielded) c.in-Some.i c.in-Some.line.now
    (YieldsList-turn
    (YieldsList-from_enumerate
    (YieldsList-from_slice_split _ (λ (b : ℕ). eqb b 10) c.args.text.now (cc) (cc) (cc) (λ x r q k. search (rules, tests))) (cc))
    c.loop-i.yielded _ c.loop-i.yielded_by _ _ _ c.in-Some.is c.next.ensures.steps) in
    let k = c.read_line-found.ensures.0 in
    let fault = ap (line_fault c.loop-i.held) (sym k) ∙ taken (at_ok _ _ _ _ c.map_err.ensures.cases c.in_ok-map_err.was).1 c.judge.ensures in
    let next = c.add_line.ensures ∙ ap (with_line c.loop-i.held) k in (
      rw c.add_line.ensures (small-second c.loop-i.held c.read_line-found.result c.loop-i.invariant.0 c.read_line-found.ensures.1),
      ap (λ (m : ℕ). read_from c.add_line.new.held m (drop m (parts c.args.text.now))) (length_push c.loop-i.yielded (c.in-Some.i, c.in-Some.line))
          ∙ ap (λ (x : Held). read_from x (n + 1) (drop (n + 1) (parts c.args.text.now))) next
          ∙ sym (no_fault c.loop-i.held n _ (drop (n + 1) (parts c.args.text.now)) fault)
          ∙ sym t.1
          ∙ c.loop-i.invariant.1,
    )

pub returns : goal.returns
unfolding list_told answered
returns c =
    let e = YieldsList-end
    (YieldsList-from_enumerate
    (YieldsList-from_slice_split _ (λ (b : ℕ). eqb b 10) c.args.text.now (cc) (cc) (cc) (λ x r q k. search (rules, tests))) (cc))
    c.loop-i.yielded _ c.loop-i.yielded_by _ _ c.in-None.is c.next.ensures.steps in
    let n = length c.loop-i.yielded in
    all_read c.loop-i.held n n (parts c.args.text.now) (omega (arith, e.1, length-enumerate_from 0 (parts c.args.text.now))) ∙ c.loop-i.invariant.1
