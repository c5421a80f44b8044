-- What the functions below the call ask and ensure. `cells` are the numbers in each four bytes. Assumes nothing.
use Rattle.std.specs.Prelude.{◌≡◌, ℕ, suc, ◌+◌, ◌*◌, ◌<◌, ◌≤◌, List, [], ◌∷◌, ◌++◌, length, take, drop}
use Rattle.line_up.specs.keep.Cells.{cells}
use Rattle.line_up.specs.LineUp.{places_bytes}
use Rattle.line_listing.specs.order.Order.{behind, run_starts, line_order}

-- the places ps are written from place k on, up to r, and all else stays
pub record PlacesPut (out out' : List ℕ) (k : ℕ) (ps : List ℕ) (r : ℕ) : Type 0 where
  pub len : length out' ≡ length out
  pub many : r ≡ k + length ps
  pub written : take (4 * r) out' ≡ take (4 * k) out ++ places_bytes ps
  pub rest : drop (4 * r) out' ≡ drop (4 * r) out

pub record Puttable (ms : List ℕ) (from to : ℕ) (out : List ℕ) (k : ℕ) : Type 0 where
  pub high : to ≤ length ms
  pub small : length ms ≤ 4294967295
  pub room : 4 * (k + length (behind ms from to)) ≤ length out

-- a place and those behind it
pub record OnePuttable (ms : List ℕ) (p to : ℕ) (out : List ℕ) (k : ℕ) : Type 0 where
  pub low : p < length ms
  pub high : to ≤ length ms
  pub small : length ms ≤ 4294967295
  pub room : 4 * (k + length (p ∷ behind ms (suc p) to)) ≤ length out

pub record StartsPuttable (ms : List ℕ) (end1 end2 : ℕ) (out : List ℕ) : Type 0 where
  pub low : end1 ≤ end2
  pub high : end2 ≤ length ms
  pub small : length ms ≤ 4294967295
  pub room : 4 * length (run_starts ms end1 end2) ≤ length out

-- both areas have `many` cells
pub record Copyable (from to : List ℕ) (many : ℕ) : Type 0 where
  pub source : many ≤ length (cells from)
  pub room : many ≤ length (cells to)

-- each is a place of one of so many
abbrev pub Below : ℕ → List ℕ → Type 0
Below n [] = Unit
Below n (x ∷ xs) = (x < n) × Below n xs

-- `many` ordered places stand in the work area, and all lines have room
pub record Listable (ms : List ℕ) (end1 end2 : ℕ) (places : List ℕ) (many : ℕ) (out : List ℕ) : Type 0 where
  pub low : end1 ≤ end2
  pub high : end2 ≤ length ms
  pub small : length ms ≤ 4294967295
  pub there : many ≤ length (cells places)
  pub below : Below (length ms) (take many (cells places))
  pub whole : length (line_order ms end1 end2 (take many (cells places))) ≡ length ms
  pub room : 4 * length ms ≤ length out
