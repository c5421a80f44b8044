-- The Rust's nearest_int with its `as i64`, as utc_tai/calendar.rs uses them. Assumes nothing.
use Rattle.std.specs.Prelude.{Float}
use Rattle.std.specs.Float.Ieee.{to_signed}
use Rattle.floats.specs.declared.NearestWhole.{NearestWhole}
use Rattle.floats.specs.Whole.{nearest_int}

unfoldable pub nearest_whole : Float → NearestWhole
nearest_whole a = record { value = nearest_int a; number = to_signed 63 (nearest_int a) }
