-- An instant of the code in milliseconds. Written from document 02, item 11. Assumes nothing.
use Rattle.std.specs.Prelude.{ℕ, ◌+◌, ◌*◌}
use Rattle.standby.specs.declared.Instant.{Instant}

abbrev pub instant_ms : Instant → ℕ
instant_ms i = 1000 * i.seconds + i.millis
