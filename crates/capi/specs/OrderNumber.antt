-- The order of two dates as a number, for C: 0 before, 1 equal, 2 after. Written from include/celestial_time.h. Assumes nothing.
use Rattle.std.specs.Prelude.{ℕ}
use Rattle.refusals.specs.Outcome.{Outcome, answer, onward}
use Rattle.julian.specs.order.Order.{Order, comes_before, same_sum, comes_after}

unfoldable pub order_number : Order → ℕ
order_number comes_before = 0
order_number same_sum = 1
order_number comes_after = 2

unfoldable pub numbered : Outcome Order → Outcome ℕ
numbered o = onward o (λ x. answer (order_number x))
