-- A disjunction by its first half, as the laws of rounding and of scales cite it. Assumes nothing.
use Rattle.std.proofs.Common.{Bool, true, false, ◌||◌, T}

pub or_l : (p q : Bool) → T p → T (p || q)
or_l true q h = tt
or_l false q h = absurd h
