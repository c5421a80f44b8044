-- `day_by_sums` meets its contract. Assumes nothing.
use Rattle.floats.proofs.Laws.{yes}
use Rattle.julian.proofs.day_number.DayInRange.{asks, gives}
use Rattle.julian.proofs.day_number.day_by_sums.Goals as goal

pub total_day-day-requires : goal.total_day-day-requires
total_day-day-requires c =
    asks c.args.jd1 c.args.jd2 (yes c.well_formed.0.1) (yes c.well_formed.1.0.1) c.requires.0 c.args.first c.args.second c.requires.1 c.requires.2
    c.sum_fractions-summed.result c.sum_fractions-summed.ensures c.normalize_fraction-end.result c.normalize_fraction-end.ensures

pub returns : goal.returns
returns c =
    gives c.args.jd1 c.args.jd2 (yes c.well_formed.0.1) (yes c.well_formed.1.0.1) c.requires.0 c.args.first c.args.second c.requires.1 c.requires.2
    c.sum_fractions-summed.result c.sum_fractions-summed.ensures c.normalize_fraction-end.result c.normalize_fraction-end.ensures c.total_day-day.result
    c.total_day-day.ensures
