-- What document 02, item 4, promises of the time shown with a half millisecond to the even one: within 0.5 ms of the exact one on the grid, on days of 86,400,
-- 86,401 or 86,399 s; on 1959-12-31, which the float decides, document 01's 0.501 ms. Assumes nothing.
use Rattle.std.specs.Prelude.{ℕ, cond, Float}
use Rattle.time_of_day.specs.Milliseconds.{whole_leap}
use Rattle.time_of_day.specs.HalfEven.{day_is_whole}

-- within even_most / even_parts milliseconds on a day with this leap
abbrev pub even_parts : Float → ℕ
even_parts leap = cond (day_is_whole (whole_leap leap)) 2 1000

abbrev pub even_most : Float → ℕ
even_most leap = cond (day_is_whole (whole_leap leap)) 1 501
