-- `numbers::hex_digit` meets its contract: the table has the digits in turn. Assumes nothing.
use Rattle.reasons.proofs.sentences.Digits.{in_turn}
use Rattle.reasons.proofs.sentences.numbers.hex_digit.Goals as goal

pub returns : goal.returns
returns c = in_turn c.args.d c.requires
