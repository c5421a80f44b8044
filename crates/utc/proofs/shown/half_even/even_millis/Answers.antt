-- `utc::shown::half_even::even_millis` meets its contract. Assumes nothing.
use mathlib.Core.Path.{◌∙◌}
use Prim.Native.Nat.{◌%◌, ◌/◌}
use native.Mathlib.Omega.{arith}
use Rattle.time_of_day.proofs.EvenSteps.{part-most, halves-even}
use Rattle.utc.proofs.shown.half_even.even_millis.Goals as goal

pub overflow_mul-low : goal.overflow_mul-low
overflow_mul-low c = record { fits = omega (arith, part-most (c.args.units % 67108864) c.args.day (omega arith), c.requires.1) }

pub overflow_mul-high : goal.overflow_mul-high
overflow_mul-high c = record { fits = omega (arith, part-most (c.args.units / 67108864) c.args.day (omega (arith, c.requires.0)), c.requires.1) }

pub overflow_add-high : goal.overflow_add-high
overflow_add-high c = record {
  fits = omega (
    arith,
    part-most (c.args.units % 67108864) c.args.day (omega arith),
    part-most (c.args.units / 67108864) c.args.day (omega (arith, c.requires.0)),
    c.requires.1,
  );
}

pub nearest_even-requires : goal.nearest_even-requires
nearest_even-requires c = omega (
  arith,
  part-most (c.args.units % 67108864) c.args.day (omega arith),
  part-most (c.args.units / 67108864) c.args.day (omega (arith, c.requires.0)),
  c.requires.1,
)

pub returns : goal.returns
returns c = c.nearest_even.ensures ∙ halves-even c.args.units c.args.day
