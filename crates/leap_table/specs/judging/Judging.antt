-- Which lists of dates are refused, and by which number. Written from document 02, item 2: "14 for a broken triple, then 11 for fewer offset places than dates;
-- then, date by date, a bad one by its own number, then 17 for one earlier than the one before it". Assumes nothing.
use Rattle.std.specs.Prelude.{ℕ, Bool, true, false, cond, List, [], ◌∷◌, length, ℤ, int_lt, nat_le}
use Rattle.refusals.specs.Outcome.{Outcome, answer, refusal, onward}
use Rattle.calendar.specs.Refusals.{valid_date}
use Rattle.leap_table.specs.declared.judging.Triple.{Triple}

abbrev pub triple : ℤ → ℤ → ℤ → Triple
triple y m d = record { year = y; month = m; day = d }

-- by the first field in which they differ
abbrev pub by_first : ℤ → ℤ → Bool → Bool
by_first a b rest = cond (int_lt a b) true (cond (int_lt b a) false rest)

-- whether date a is earlier than date b: by year, then month, then day
unfoldable pub earlier : Triple → Triple → Bool
earlier a b = by_first a.year b.year (by_first a.month b.month (int_lt a.day b.day))

-- 1 to 3: the numbers of a date
abbrev pub valid_triple : Triple → Outcome Unit
valid_triple t = valid_date t.year t.month t.day

-- a date after another: its own number, then 17
unfoldable pub judged_next : Triple → Triple → Outcome Unit
judged_next before t = onward (valid_triple t) (λ _. cond (earlier t before) (refusal 17) (answer tt))

-- dates after another
unfoldable pub judged_after : Triple → List Triple → Outcome Unit
judged_after before [] = answer tt
judged_after before (t ∷ dates) = onward (judged_next before t) (λ _. judged_after t dates)

-- all dates, the first of which has none before it
unfoldable pub judged_all : List Triple → Outcome Unit
judged_all [] = answer tt
judged_all (t ∷ dates) = onward (valid_triple t) (λ _. judged_after t dates)

-- and before them the list as it is; `whole`: there is no broken triple
unfoldable pub judged_list : Bool → List Triple → ℕ → Outcome Unit
judged_list whole dates places = cond whole (cond (nat_le (length dates) places) (judged_all dates) (refusal 11)) (refusal 14)
