-- How many stamps of a run are of each kind. Written from the comment at the head of programs/line_up.c: `not finite` counts the stamps that are not ordered
-- and not left out, and one of whose parts is not finite by its bits; `refused` the others of these; `left out` those of number 17. The runs stand one after
-- the other and end at `first` and `first + second`, at the latest where the numbers end. Assumes nothing.
use Rattle.std.specs.Prelude.{ℕ, zero, suc, ◌+◌, ◌-◌, ◌*◌, Bool, cond, ◌||◌, List, length, ◌==◌, slice_index}
use Rattle.numerals.specs.little_endian.LittleEndian.{u64_at}
use Rattle.floats.specs.ExponentField.{exponent_field}
use Rattle.leap_table.specs.rows.Announced.{least}
use Rattle.line_listing.specs.lines.StampLine.{Stamps}

-- the stamp at a place has a part whose exponent field is all ones
unfoldable pub not_finite : List ℕ → List ℕ → ℕ → Bool
not_finite js ks p = exponent_field (u64_at js (8 * p)) == 2047 || exponent_field (u64_at ks (8 * p)) == 2047

-- ---- the kinds of stamps: 0 ordered, 1 not finite, 2 refused, 3 left out
unfoldable pub kind_at : List ℕ → List ℕ → List ℕ → ℕ → ℕ
kind_at js ks ns p = cond (slice_index ns p == 0) 0 (cond (slice_index ns p == 17) 3 (cond (not_finite js ks p) 1 2))

-- how many of the n stamps from `from` on are of a kind
unfoldable pub kinds_in : List ℕ → List ℕ → List ℕ → ℕ → ℕ → ℕ → ℕ
kinds_in js ks ns kind from zero = 0
kinds_in js ks ns kind from (suc n) = kinds_in js ks ns kind from n + cond (kind_at js ks ns (from + n) == kind) 1 0

-- ---- where the first run and the second end
unfoldable pub first_end : Stamps → ℕ
first_end all = least all.first (length all.numbers)

unfoldable pub second_end : Stamps → ℕ
second_end all = first_end all + least all.second (length all.numbers - first_end all)
