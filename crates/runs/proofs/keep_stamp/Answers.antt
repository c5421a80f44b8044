-- `runs::keep_stamp` meets its contract: the patterns tell whether the parts are finite, and a finite number's pattern is the one read. Assumes nothing.
use Rattle.std.proofs.Common.{◌≡◌, refl, sym, ◌∙◌}
use Rattle.std.specs.Float.{binary64}
use Rattle.std.specs.Float.Ieee.{of_bits}
use Rattle.refusals.specs.Outcome.{answer, refusal}
use Rattle.julian.specs.JulianDate.{julian}
use Rattle.julian.specs.Finite.{finite_jd}
use Rattle.runs.proofs.by_formula.Judged.{pattern_back}
use Rattle.runs.proofs.by_formula.Puts.{put_refused, put-patterns}
use Rattle.runs.proofs.keep_stamp.Goals as goal
use Rattle.runs.proofs.keep_stamp.Goals.{then-not-is_number-via-then-not-is_number, then-not-is_number-via-else-not-is_number+then-not-is_number-2}

pub returns-then-not-is_number : goal.returns-then-not-is_number
unfolding finite_jd
returns-then-not-is_number c =
    let a = c.args in
    let nine : finite_jd (julian (of_bits binary64 a.a) (of_bits binary64 a.b)) ≡ refusal 9 = elim c.then-not-is_number.branch [
      | then-not-is_number-via-then-not-is_number w ↦ rw (sym c.is_number.ensures ∙ w.if-not-is_number.true)
      | then-not-is_number-via-else-not-is_number+then-not-is_number-2 w ↦ rw (
        sym c.is_number.ensures ∙ w.if-not-is_number.false,
        sym w.is_number-else-not-is_number.ensures ∙ w.if-not-is_number-2.true,
      )
    ] in
    put_refused _ 9 a.i _ a.out1.now a.out2.now nine refl

pub returns : goal.returns
unfolding finite_jd
returns c =
    let a = c.args in
    let first = sym c.is_number.ensures ∙ c.if-not-is_number.false in
    let second = sym c.is_number-else-not-is_number.ensures ∙ c.if-not-is_number-2.false in
    let date = julian (of_bits binary64 a.a) (of_bits binary64 a.b) in
    let kept : finite_jd date ≡ answer date = rw (first, second) in
    put-patterns _ date a.i a.out1.now a.out2.now _ _ _ _ kept
    (sym (pattern_back a.a c.ranges.a.fits first)) (sym (pattern_back a.b c.ranges.b.fits second)) c.put_pattern.ensures c.put_pattern-2.ensures
