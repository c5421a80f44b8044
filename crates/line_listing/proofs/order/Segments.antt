-- The places before the first ordered one of a run, one by one. Assumes nothing.
use Rattle.std.proofs.Common.{◌≡◌, ℕ, suc, ◌<◌, ◌≤◌, cond, eqb, List, [], ◌∷◌, length, get_or, take, ap, arith, drop_of_length-le, length-take-le}
use lib.Seq.{slice-cons}
use Rattle.line_listing.specs.order.Order.{until_zero, behind}

module _ (ms : List ℕ) (to : ℕ) (tn : to ≤ length ms) where
  pub behind-none : (i : ℕ) → to ≤ i → behind ms i to ≡ []
  unfolding until_zero
  behind-none i h = let k : length (take to ms) ≤ i = omega (arith, length-take-le to ms tn) in rw (drop_of_length-le (take to ms) k)

  pub behind-cons : (i : ℕ) → i < to → behind ms i to ≡ cond (eqb (get_or ms i 0) 0) [] (i ∷ behind ms (suc i) to)
  unfolding until_zero
  behind-cons i h = ap (until_zero i) (slice-cons i to ms 0 h tn)
