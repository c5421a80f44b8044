-- `standby::bill_between` meets its contract: each test is one of the ladder's. Assumes nothing.
use Rattle.std.proofs.Common.{rules, ◌≡◌, ℕ, zero, suc, ◌*◌, ◌<◌, ◌≤◌, refl, ap, sym, ◌∙◌, arith}
use Rattle.refusals.specs.Refusal.{refusal_number}
use Rattle.refusals.specs.Outcome.{answer, outcome}
use Rattle.standby.specs.Bills.{over_limit, shares}
use Rattle.standby.specs.Instants.{instant_ms}
use Rattle.standby.proofs.Numbers.{within}
use Rattle.standby.proofs.Ladder.{backward, over, no_line, billed}
use Rattle.standby.proofs.bill_between.Goals as goal

pub returns-then-lt : goal.returns-then-lt
unfolding outcome refusal_number
returns-then-lt c =
    let a = c.args in
    let h : instant_ms a.end < instant_ms a.start = search rules in
    backward (instant_ms a.start) (instant_ms a.end) a.rate a.first_metres a.second_metres h

pub returns-then-over_limit : goal.returns-then-over_limit
unfolding outcome refusal_number
returns-then-over_limit c =
    let a = c.args in
    let h : instant_ms a.start ≤ instant_ms a.end = search rules in
    over (instant_ms a.start) (instant_ms a.end) a.rate a.first_metres a.second_metres h
    (ap (λ (q : ℕ). over_limit q a.rate a.first_metres a.second_metres) (sym c.quarters_between-quarters.ensures) ∙ sym c.over_limit.ensures
    ∙ c.if-over_limit.true)

pub overflow_add-first_metres : goal.overflow_add-first_metres
overflow_add-first_metres c =
    let w = within _ _ _ _ (sym c.over_limit.ensures ∙ c.if-over_limit.false) in record { fits = omega (arith, w.2, w.3) }

pub returns-then-first_metres-second_metres-eq0 : goal.returns-then-first_metres-second_metres-eq0
unfolding outcome refusal_number
returns-then-first_metres-second_metres-eq0 c =
    let a = c.args in
    let h : instant_ms a.start ≤ instant_ms a.end = search rules in
    no_line (instant_ms a.start) (instant_ms a.end) a.rate a.first_metres a.second_metres h
    (ap (λ (q : ℕ). over_limit q a.rate a.first_metres a.second_metres) (sym c.quarters_between-quarters.ensures) ∙ sym c.over_limit.ensures
    ∙ c.if-over_limit.false)
    c.if-first_metres-second_metres-eq0.true

positive : (n : ℕ) → (n ≡ 0 → ⊥) → 0 < n
positive zero h = absurd (h refl)
positive (suc n) h = omega arith

pub shared-requires : goal.shared-requires
shared-requires c =
    let w = within _ _ _ _ (sym c.over_limit.ensures ∙ c.if-over_limit.false) in
    record { few_quarters = w.0; low_rate = w.1; short_first = w.2; short_second = w.3; some_line = positive _ c.if-first_metres-second_metres-eq0.false }

pub returns : goal.returns
unfolding outcome
returns c =
    let a = c.args in
    let h : instant_ms a.start ≤ instant_ms a.end = search rules in
    ap answer (c.shared.ensures ∙ ap (λ (k : ℕ). shares k (k * a.rate) a.first_metres a.second_metres) c.quarters_between-quarters.ensures)
    ∙ billed (instant_ms a.start) (instant_ms a.end) a.rate a.first_metres a.second_metres h
    (ap (λ (q : ℕ). over_limit q a.rate a.first_metres a.second_metres) (sym c.quarters_between-quarters.ensures) ∙ sym c.over_limit.ensures
    ∙ c.if-over_limit.false)
    c.if-first_metres-second_metres-eq0.false
