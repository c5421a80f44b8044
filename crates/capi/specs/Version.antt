-- A version as one number. Written from include/celestial_time.h, ct_version. Assumes nothing.
use Rattle.std.specs.Prelude.{ℕ, ◌+◌, ◌*◌}

abbrev pub version : ℕ → ℕ → ℕ → ℕ
version major minor patch = major * 1000000 + minor * 1000 + patch
