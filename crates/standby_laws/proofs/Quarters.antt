-- THE QUARTERS: the least number of 900 s that holds the time, and never fewer for a later end. Assumes nothing.
use mathlib.Core.Path.{◌≡◌}
use Prim.Native.Nat.{ℕ, ◌+◌, ◌*◌, ◌≤◌}
use native.Mathlib.Omega.{arith}
use Rattle.standby.specs.Bills.{quarters, quarters_between}

pub quarters-hold : (e : ℕ) → e ≤ 900000 * quarters e
unfolding quarters
quarters-hold e = omega arith

pub quarters-least : (e q : ℕ) → e ≤ 900000 * q → quarters e ≤ q
unfolding quarters
quarters-least e q h = omega arith

-- a full quarter costs one, and no time costs none
pub full_quarters : (q : ℕ) → quarters (900000 * q) ≡ q
unfolding quarters
full_quarters q = omega arith

pub no_time_no_quarter : (s : ℕ) → quarters_between s s ≡ 0
unfolding quarters
no_time_no_quarter s = omega arith

pub started-quarter : (q : ℕ) → quarters (900000 * q + 1) ≡ q + 1
unfolding quarters
started-quarter q = omega arith

pub later-end : (s e e' : ℕ) → e ≤ e' → quarters_between s e ≤ quarters_between s e'
unfolding quarters
later-end s e e' h = omega arith

pub earlier-start : (s s' e : ℕ) → s ≤ s' → quarters_between s' e ≤ quarters_between s e
unfolding quarters
earlier-start s s' e h = omega arith
