-- The stamps of a run that have a number: how many, and the index in the run of the first and of the last of them. Written from the request for a summary of
-- three recorders' runs: an ordered stamp has number 0, one that is left out 17. Assumes nothing.
use Rattle.std.specs.Prelude.{ℕ, zero, suc, ◌+◌, cond, not, List, ◌==◌, slice_index}
use Rattle.julian.specs.stamp_lists.Stamps.{stamp_of}
use Rattle.line_listing.specs.declared.summary.Seen.{Seen}
use Rattle.line_listing.specs.declared.summary.Ends.{Ends}

-- one more, at index i
unfoldable pub one_more : Seen → ℕ → Seen
one_more s i = record { many = s.many + 1; first = cond (s.many == 0) i s.first; last = i }

-- of the n stamps from `from` on those of number k
unfoldable pub seen_in : ℕ → List ℕ → ℕ → ℕ → Seen
seen_in k ns from zero = record { many = 0; first = 0; last = 0 }
seen_in k ns from (suc n) = cond (slice_index ns (from + n) == k) (one_more (seen_in k ns from n) n) (seen_in k ns from n)

-- the first and the last ordered stamp of the run; its first stamp where none is ordered
unfoldable pub ends_of : List ℕ → List ℕ → List ℕ → ℕ → ℕ → Ends
ends_of js ks ns from n = record {
  any = not ((seen_in 0 ns from n).many == 0);
  first = stamp_of js ks (from + (seen_in 0 ns from n).first);
  last = stamp_of js ks (from + (seen_in 0 ns from n).last);
}
