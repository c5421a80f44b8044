-- TAI-UTC at 0h of the day of a date, by its parts. Assumes nothing.
use mathlib.Core.Path.{◌≡◌, refl, sym, ap, ◌∙◌}
use mathlib.Core.Bool.{Bool, true, false, cond}
use mathlib.Core.List.{List}
use Rattle.julian.specs.declared.JulianDate.{JulianDate}
use Rattle.leap_table.specs.rows.Table.{Row}
use Rattle.utc_scales.specs.declared.days.Parts.{Parts}
use Rattle.utc_scales.specs.days.LargerPart.{first_is_kept, kept_as, kept_parts}
use Rattle.utc_scales.specs.days.DateRule.{offset_of_date_by_rule}
use Rattle.utc_scales.specs.to_ut1.ByRule.{offset_of_parts}

pub parts-offset : (rows : List Row) (p : Parts) (b : Bool) → p.first ≡ b
    → cond b (offset_of_date_by_rule rows p.larger p.smaller) (offset_of_date_by_rule rows p.smaller p.larger) ≡ offset_of_parts rows p
unfolding offset_of_parts
parts-offset rows p b e = ap (λ (c : Bool). cond c (offset_of_date_by_rule rows p.larger p.smaller) (offset_of_date_by_rule rows p.smaller p.larger))
    (sym e)

pub date-offset : (rows : List Row) (d : JulianDate) (p : Parts) → p ≡ kept_parts d → offset_of_parts rows p ≡ offset_of_date_by_rule rows d.jd1 d.jd2
unfolding kept_parts offset_of_parts
date-offset rows d p e = ap (offset_of_parts rows) e ∙ go (first_is_kept d)
  where
    go : (b : Bool) → offset_of_parts rows (kept_as d b) ≡ offset_of_date_by_rule rows d.jd1 d.jd2
    go true = refl
    go false = refl
