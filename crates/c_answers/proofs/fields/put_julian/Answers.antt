-- `c_answers::fields::put_julian` meets its contract. Assumes nothing.
use mathlib.Core.Path.{◌∙◌}
use mathlib.Core.List.{◌++◌}
use Rattle.numerals.specs.little_endian.LittleEndian.{eight_bytes}
use Rattle.c_answers.specs.Fields.{julian_bytes}
use Rattle.c_answers.proofs.Deliveries.{same_bytes}
use Rattle.c_answers.proofs.fields.put_julian.Goals as goal

pub returns : goal.returns
unfolding julian_bytes
returns c =
    same_bytes c.put.type_inv (c.two_patterns-all.ensures ∙ λ i. eight_bytes (c.to_bits.ensures i) ++ eight_bytes (c.to_bits-2.ensures i)) c.put.ensures
