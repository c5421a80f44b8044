-- What document 02, items 6 and 12, and the first demand ask of a listing. Assumes nothing.
use Rattle.std.specs.Prelude.{◌≡◌, List, ℕ, ◌≤◌, length}
use Rattle.refusals.specs.Outcome.{answer, refusal}
use Rattle.leap_table.specs.rows.Table.{Row}
use Rattle.utc.specs.iso_texts.Expanded.{iso_text_expanded}
use Rattle.stamps.specs.declared.Reporting.{Reporting}
use Rattle.stamps.specs.declared.Reporting.TheVariants.{Numbers}
use Rattle.stamps.specs.Block.{block_of, stamp_at}
use Rattle.stamps.specs.Listing.{refused_in, text_at}
use Rattle.stamps.specs.Parts.{line_of, lines_in, parts_joined}
use Rattle.stamps.specs.listing_laws.NotFinite.{NotFinite, not_finite_in}

-- the lister writes item 6's text
abbrev pub ListsExpanded : List Row → List ℕ → ℕ → ℕ → Type 0
ListsExpanded rows s n i = text_at rows s n i ≡ iso_text_expanded rows (stamp_at s n i)

-- no line is longer than 33 bytes, and one is as long
abbrev pub LongestIs33 : List Row → List ℕ → ℕ → Type 0
LongestIs33 rows s line = (length (line_of Numbers rows (block_of s) s line) ≤ 33)
    × ((s : List ℕ) × (line : ℕ) × (block_of s ≡ answer 1001) × (length (line_of Numbers rows (block_of s) s line) ≡ 33))

-- through a scratch of 64 bytes the same comes out as through 4,096
abbrev pub AlikeThrough64 : List Row → List ℕ → ℕ → Type 0
AlikeThrough64 rows s k = (how : Reporting) → lines_in (block_of s) ≤ k → parts_joined how rows s 64 k ≡ parts_joined how rows s 4096 k

-- stamp i of n that is not finite, by its bits, is refused, and the count of refused stamps holds them all
abbrev pub NotFiniteCounted : List Row → List ℕ → ℕ → ℕ → Type 0
NotFiniteCounted rows s n i = (NotFinite s n i → text_at rows s n i ≡ refusal 6) × (not_finite_in s n i ≤ refused_in rows s n i)
