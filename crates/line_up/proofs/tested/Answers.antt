-- A stamp that nothing refused and that has no place in the order gets 9: by hand, so that another number is seen to differ.
use Rattle.std.proofs.Common.{◌≡◌, ℕ, List, Bool, true, sym, ap, ◌∙◌}
use mathlib.Core.Bool.{not}
use borrow.Author.Tests.{eq-eqb}
use Rattle.julian.specs.declared.JulianDate.{JulianDate}
use Rattle.julian.specs.order.Places.{has_place}
use Rattle.julian.specs.stamp_lists.Stamps.{stamp_of}
use Rattle.line_up.specs.Runs.{tested}
use Rattle.line_up.specs.keep.Stamps.{unordered_at}
use Rattle.line_up.proofs.tested.Goals as goal

unordered-is : (js ks : List ℕ) (i : ℕ) (a : JulianDate) (r : Bool) → a ≡ stamp_of js ks i → r ≡ has_place a → not r ≡ unordered_at js ks i
unfolding unordered_at
unordered-is js ks i a r p q = rw (q, p)

nine : (unordered : ℕ → Bool) (number i : ℕ) → number ≡ 0 → unordered i ≡ true → 9 ≡ tested unordered number i
unfolding tested
nine unordered number i e f = rw (eq-eqb number 0 e, f)

pub returns-then-not-has_place : goal.returns-then-not-has_place
returns-then-not-has_place c =
    let a = c.args in
    nine (unordered_at a.jd1s.now a.jd2s.now) a.number a.i c.if-number-eq0.true
    (sym (unordered-is a.jd1s.now a.jd2s.now a.i c.stamp_of.result c.has_place.result c.stamp_of.ensures c.has_place.ensures)
    ∙ ap not c.if-not-has_place.true)
