-- The order of two UTC times by their seven fields, the first that differs. Assumes nothing.
use Rattle.std.specs.Prelude.{ℕ, Bool, false, cond, List, [], ◌∷◌, ltb, eqb, nat_abs}
use Rattle.standby.specs.declared.UtcTime.{UtcTime}

-- years from 1972 on are their own size
abbrev pub seven_fields : UtcTime → List ℕ
seven_fields t = nat_abs t.year ∷ t.month ∷ t.day ∷ t.hour ∷ t.minute ∷ t.second ∷ t.millis ∷ []

-- the first element that differs is less
abbrev pub less_by : List ℕ → List ℕ → Bool
less_by [] m = false
less_by (a ∷ l) [] = false
less_by (a ∷ l) (b ∷ m) = cond (eqb a b) (less_by l m) (ltb a b)
