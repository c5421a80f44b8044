-- What is asked of the two shares of a bill. Written from document 02, item 11: "The shares add up to quarters × rate, and each is within one cent of its exact
-- part", "a cent left over goes to the larger remainder, a tie to the first". Assumes nothing.
use Rattle.std.specs.Prelude.{ℕ, ◌+◌, ◌*◌, ◌≤◌, ◌<◌, ◌≡◌}
use Rattle.standby.specs.declared.Bill.{Bill}
use Rattle.standby.specs.Bills.{share_down, remainder}

-- x cents are less than one cent away from total × metres / all, both sides times all
pub record WithinACent (total metres all x : ℕ) : Type 0 where
  pub over : x * all < total * metres + all
  pub under : total * metres < x * all + all

pub record Shared (q total a b : ℕ) (r : Bill) : Type 0 where
  pub quarters : r.quarters ≡ q
  pub sum : r.first + r.second ≡ total
  pub first_near : WithinACent total a (a + b) r.first
  pub second_near : WithinACent total b (a + b) r.second

-- where the cent went
pub data Cent (total a b : ℕ) (r : Bill) : Type 0 where
  none : share_down total a (a + b) + share_down total b (a + b) ≡ total → r.first ≡ share_down total a (a + b) → r.second ≡ share_down total b (a + b)
      → Cent total a b r
  to_first : share_down total a (a + b) + share_down total b (a + b) + 1 ≡ total → remainder total b (a + b) ≤ remainder total a (a + b)
      → r.first ≡ share_down total a (a + b) + 1 → r.second ≡ share_down total b (a + b) → Cent total a b r
  to_second : share_down total a (a + b) + share_down total b (a + b) + 1 ≡ total → remainder total a (a + b) < remainder total b (a + b)
      → r.first ≡ share_down total a (a + b) → r.second ≡ share_down total b (a + b) + 1 → Cent total a b r
