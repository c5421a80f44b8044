-- What the theorems of the listing's parts say: the parts of many calls, joined. Written from include/celestial_time.h, ct_line_listing_part: a caller begins
-- with a cursor of two zeros, and calls with any buffers of 550 bytes or more until a part is empty. Assumes nothing.
use Rattle.std.specs.Prelude.{ℕ, ◌≤◌, List, [], ◌∷◌, ◌++◌}
use Rattle.line_up.specs.laws.Claims.{Each}
use Rattle.line_listing.specs.listing.Part.{Step, step}

-- the part of a call by its cursor and its room
abbrev pub Parting : Type 0
Parting = ℕ → ℕ → ℕ → Step

-- the bytes of the parts into buffers of these sizes, from a cursor on, and the cursor behind them
unfoldable pub all_parts_joined : Parting → ℕ → ℕ → List ℕ → Step
all_parts_joined part line textless [] = step [] line textless
all_parts_joined part line textless (room ∷ rooms) =
    step ((part line textless room).bytes ++ (all_parts_joined part (part line textless room).line (part line textless room).textless rooms).bytes)
    (all_parts_joined part (part line textless room).line (part line textless room).textless rooms).line
    (all_parts_joined part (part line textless room).line (part line textless room).textless rooms).textless

abbrev pub RoomyParts : List ℕ → Type 0
RoomyParts rooms = Each (λ (room : ℕ). 550 ≤ room) rooms
