-- What the theorems of the summary say. Assumes nothing.
use Rattle.std.specs.Prelude.{◌≡◌, ℕ, ◌+◌, ◌/◌, ◌%◌, ◌<◌, ◌≤◌, true, false, List, ◌≢◌, nat_eq, slice_index, slice_index_or}
use Rattle.julian.specs.stamp_lists.Stamps.{stamp_of}
use Rattle.leap_table.specs.rows.Table.{Row}
use Rattle.line_listing.specs.declared.head.RunEnd.{RunEnd}
use Rattle.line_listing.specs.declared.summary.Seen.{Seen}
use Rattle.line_listing.specs.declared.summary.Ends.{Ends}
use Rattle.line_listing.specs.lines.StampLine.{Stamps}
use Rattle.line_listing.specs.summary.Look.{left_out, no_stamp, after_known, scales_apart}

-- the bits of a number, one for each thing to look at
pub record Told (rows : List Row) (known : ℕ) (gps tai utc : RunEnd) (all : Stamps) (look : ℕ) : Type 0 where
  pub left_out : nat_eq (look % 2) 1 ≡ left_out all
  pub no-stamp : nat_eq (look / 2 % 2) 1 ≡ no_stamp gps tai utc all
  pub after-known : nat_eq (look / 4 % 2) 1 ≡ after_known rows known all
  pub scales-apart : nat_eq (look / 8 % 2) 1 ≡ scales_apart rows all

-- of the n stamps from `from` on there are some of number k, and these are the index of the first and of the last of them
pub record Found (k : ℕ) (ns : List ℕ) (from n : ℕ) (s : Seen) : Type 0 where
  pub some : 1 ≤ s.many
  pub first_in : s.first < n
  pub first_is : slice_index_or ns (from + s.first) 0 ≡ k
  pub none_before : (q : ℕ) → q < s.first → slice_index ns (from + q) ≢ k
  pub last_in : s.last < n
  pub last_is : slice_index_or ns (from + s.last) 0 ≡ k
  pub none_behind : (q : ℕ) → s.last < q → q < n → slice_index ns (from + q) ≢ k

-- ---- of the run from place `from` up to `to`: p is its first ordered place, or its last
pub record FirstOrdered (ns : List ℕ) (from to p : ℕ) : Type 0 where
  pub low : from ≤ p
  pub high : p < to
  pub ordered : slice_index_or ns p 0 ≡ 0
  pub none_before : (q : ℕ) → from ≤ q → q < p → slice_index ns q ≢ 0

pub record LastOrdered (ns : List ℕ) (from to p : ℕ) : Type 0 where
  pub low : from ≤ p
  pub high : p < to
  pub ordered : slice_index_or ns p 0 ≡ 0
  pub none_behind : (q : ℕ) → p < q → q < to → slice_index ns q ≢ 0

-- these are its ends: the stamps at those places; without an ordered place it has none
pub record RunEnds (js ks ns : List ℕ) (from to : ℕ) (e : Ends) : Type 0 where
  pub begins : (p : ℕ) → FirstOrdered ns from to p → (e.any ≡ true) × (e.first ≡ stamp_of js ks p)
  pub ends : (p : ℕ) → LastOrdered ns from to p → (e.any ≡ true) × (e.last ≡ stamp_of js ks p)
  pub none : ((p : ℕ) → from ≤ p → p < to → slice_index ns p ≢ 0) → e.any ≡ false
