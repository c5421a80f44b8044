-- `since_launch::count_of` meets its contract. Assumes nothing.
use mathlib.Core.Path.{sym, ap, ◌∙◌}
use Prim.Native.Nat.{ℕ, ◌+◌, ◌-◌, ◌*◌}
use native.Mathlib.Omega.{arith}
use borrow.Author.Tests.{le-ltb, lt-ltb}
use Rattle.refusals.specs.Outcome.{outcome}
use Rattle.refusals.specs.Refusal.{refusal_number}
use Rattle.since_launch.specs.Millis.{in_range}
use Rattle.since_launch.proofs.Counts.{early, late, below-0, counted}
use Rattle.since_launch.proofs.count_of.Goals as goal

pub returns-then-to-from : goal.returns-then-to-from
unfolding outcome refusal_number
returns-then-to-from c =
    let p = c.args.from in
    let q = c.args.to in
    early p.days p.units q.days q.units c.requires.0.units c.requires.1.units c.if-to-from.true

pub returns-then-days-gt-MOST_DAYS : goal.returns-then-days-gt-MOST_DAYS
unfolding outcome refusal_number
returns-then-days-gt-MOST_DAYS c =
    let p = c.args.from in
    let q = c.args.to in
    late p.days p.units q.days q.units c.requires.0.units c.requires.1.units (omega (arith, c.if-to-from.false))
    c.if-days-gt-MOST_DAYS.true

pub returns-then-count : goal.returns-then-count
unfolding outcome refusal_number
returns-then-count c =
    let p = c.args.from in
    let q = c.args.to in
    below-0 p.days p.units q.days q.units c.requires.0.units c.requires.1.units
    (omega (arith, c.if-to-from.false))
    (omega (arith, c.if-count.true, c.nearest_count.ensures.0))

pub returns-then-millis-ge-TOO_MANY : goal.returns-then-millis-ge-TOO_MANY
unfolding outcome in_range refusal_number
returns-then-millis-ge-TOO_MANY c =
    let p = c.args.from in
    let q = c.args.to in
    let m = (q.days + 1 - p.days) * 86400000 + c.nearest_count.result in
    sym (rw (le-ltb (m - 172800000) 1099511627776 c.if-millis-ge-TOO_MANY.true))
    ∙ counted p.days p.units q.days q.units c.requires.0.units c.requires.1.units
    (omega (arith, c.if-to-from.false)) m
    (ap (λ (k : ℕ). (q.days + 1 - p.days) * 86400000 + k) c.nearest_count.ensures.0) c.if-count.false

pub returns : goal.returns
unfolding outcome in_range refusal_number
returns c =
    let p = c.args.from in
    let q = c.args.to in
    let m = (q.days + 1 - p.days) * 86400000 + c.nearest_count.result in
    sym (rw (lt-ltb (m - 172800000) 1099511627776 c.if-millis-ge-TOO_MANY.false))
    ∙ counted p.days p.units q.days q.units c.requires.0.units c.requires.1.units
    (omega (arith, c.if-to-from.false)) m
    (ap (λ (k : ℕ). (q.days + 1 - p.days) * 86400000 + k) c.nearest_count.ensures.0) c.if-count.false
