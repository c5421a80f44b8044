-- `words::text` meets its contract: the check finds each number's text alone, and no other number has one. Assumes nothing.
use borrow.Author.Rules.{rules}
use Rattle.reasons.proofs.sentences.Placing.{no_text}
use Rattle.reasons.proofs.sentences.words.text.Goals as goal

pub returns-in_default : goal.returns-in_default
returns-in_default c = no_text _ _ (search rules)
