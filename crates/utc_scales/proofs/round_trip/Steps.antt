-- THE STEPS OF TAI-UTC at the start of each row of the table, and the rates of its drift, are those that the IERS tells. Assumes nothing.
use mathlib.Core.Path.{◌≡◌, refl}
use Rattle.calendar.specs.DayCount.{mjd_number, civil_count}
use Rattle.leap_table.specs.rows.Table.{fixed}
use Rattle.leap_days.specs.Leaps.{leap_seconds}
use Rattle.utc_scales.specs.round_trip.Steps.{units_at, step_to, steps_from, steps, published_steps, rates_after, rates, published_rates}

pub steps-are : steps fixed ≡ published_steps
unfolding steps steps_from step_to units_at published_steps fixed leap_seconds mjd_number civil_count
steps-are = refl

pub rates-are : rates fixed ≡ published_rates
unfolding rates rates_after published_rates fixed
rates-are = refl
