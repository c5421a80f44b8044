-- `leap_table::rows::announced::announced_size` meets its contract. Assumes nothing.
use Rattle.std.proofs.Common.{ℕ, ap, ◌∙◌}
use Rattle.leap_table.specs.rows.Announced.{least, announced_size}
use Rattle.leap_table.proofs.rows.announced.announced_size.Goals as goal

pub returns : goal.returns
unfolding announced_size
returns c = (c.at_most_16.ensures.0 ∙ ap (λ (n : ℕ). least n 16) c.size_of.ensures, c.at_most_16.ensures.1)
