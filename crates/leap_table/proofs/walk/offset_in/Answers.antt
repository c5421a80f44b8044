-- `leap_table::walk::offset_in` meets its contract: a date that is judged has a day number. Assumes nothing.
use Rattle.std.proofs.Common.{◌≡◌, ℕ, ℤ, w32, SFits, sym, refl, ap, ◌∙◌, arith, rules}
use lib.Ieee.{binary64, of_int, of_bits}
use borrow.Author.Tests.{not-true, not-false}
use Rattle.std.specs.Prelude.{Result, Ok, Err, IsOk}
use Rattle.refusals.specs.declared.Refusal.{Refusal}
use Rattle.calendar.proofs.Mjd.{mjd-given, same_answer}
use Rattle.leap_table.proofs.offsets.Mjd.{mjd-small, read, float_fits, mjd-is, no_mjd}
use Rattle.leap_table.proofs.walk.Forward.{stays, goes}
use Rattle.leap_table.proofs.walk.offset_in.Goals as goal

pub returns-then-not-terms : goal.returns-then-not-terms
returns-then-not-terms c = stays c.args.terms _ _ (not-true _ c.if-not-terms.true)

is-ok : (r : Result ℤ Refusal) → ((k : Refusal) → r ≡ Err k → ⊥) → IsOk r
is-ok (Ok a) h = refl
is-ok (Err k) h = absurd (h k refl)

pub unwrap-n-requires : goal.unwrap-n-requires
unwrap-n-requires c =
    let t = c.args.t in
    is-ok c.modified_julian_day.result (λ k p.
    let r = no_mjd t.year t.month t.day (search rules) (search rules)
    (search rules) c.modified_julian_day.result c.modified_julian_day.ensures k p in
    let g = mjd-given t.year t.month t.day c.requires in
    let z : ◌≡◌ {A = ℕ} 0 1 = cc in
    omega arith)

pub int_to_float-result : goal.int_to_float-result
int_to_float-result c =
    let t = c.args.t in
    let f : SFits w32 t.year = search rules in
    let mjd = mjd-is t.year t.month t.day f (search rules) (search rules)
    c.modified_julian_day.result c.modified_julian_day.ensures _ c.unwrap-n.ensures in
    float_fits c.unwrap-n.result (mjd-small t.year t.month t.day _ f mjd)

pub returns : goal.returns
unfolding of_bits
returns c =
    let t = c.args.t in
    let f : SFits w32 t.year = search rules in
    let mjd = mjd-is t.year t.month t.day f (search rules) (search rules)
    c.modified_julian_day.result c.modified_julian_day.ensures _ c.unwrap-n.ensures in
    let is = same_answer (sym mjd ∙ mjd-given t.year t.month t.day c.requires) in
    goes c.args.terms _ _ (not-false _ c.if-not-terms.false) _ _
    (ap (of_int binary64) (read c.unwrap-n.result (mjd-small t.year t.month t.day _ f mjd) ∙ is)) refl
