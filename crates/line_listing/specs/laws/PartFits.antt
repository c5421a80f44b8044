-- What the law of a part's length asks of a run's end: its numbers are of 64 bits, as those of every record that ct_run_size writes are. Assumes nothing.
use Rattle.std.specs.Prelude.{◌<◌}
use Rattle.line_listing.specs.declared.head.RunEnd.{RunEnd}

pub record EndHeld (end : RunEnd) : Type 0 where
  pub block : end.block < 18446744073709551616
  pub refused : end.refused < 18446744073709551616
