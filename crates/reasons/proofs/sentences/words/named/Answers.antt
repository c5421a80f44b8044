-- `words::named` meets its contract: no field is no word, and the check finds the words of the fields alone, but for the second size. Assumes nothing.
use native.Mathlib.Omega.{arith}
use mathlib.Core.Path.{sym, ap}
use Rattle.numerals.proofs.digits.Places.{nothing-at, placed-as}
use Rattle.reasons.specs.sentences.Render.{named_text}
use Rattle.reasons.proofs.sentences.words.named.Goals as goal

pub returns-in-NoField-clause-placed : goal.returns-in-NoField-clause-placed
unfolding named_text
returns-in-NoField-clause-placed c = placed-as (sym (ap named_text c.in-NoField.is)) (nothing-at _ _ (omega (arith, c.requires)))

pub returns-in-SecondSize-clause-placed : goal.returns-in-SecondSize-clause-placed
unfolding named_text
returns-in-SecondSize-clause-placed c = placed-as (sym (ap named_text c.in-SecondSize.is)) c.whole-in-SecondSize.ensures.placed
