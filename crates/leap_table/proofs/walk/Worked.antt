-- Lists of dates worked out to the end: what the closed form says of real dates. Assumes nothing.
use Rattle.std.proofs.Common.{◌≡◌, ℕ, ◌+◌, true, false, [], ◌∷◌, pos, refl}
use Rattle.refusals.specs.Outcome.{answer, refusal, onward}
use Rattle.leap_table.specs.rows.Table.{fixed, fixed_rows, month_number}
use Rattle.calendar.specs.Calendar.{leap_size, lengths, days_in_month}
use Rattle.calendar.specs.Refusals.{valid_date}
use Rattle.leap_table.specs.declared.judging.Triple.{Triple}
use Rattle.leap_table.specs.walk.Rows.{held_against, left, compared}
use Rattle.leap_table.specs.judging.Judging.{triple, earlier, judged_next, judged_after, judged_all}
use Rattle.leap_table.specs.walk.Walk.{walk_of}
use Rattle.leap_table.specs.walk.Call.{list_after}

abbrev date : ℕ → ℕ → ℕ → Triple
date y m d = triple (pos y) (pos m) (pos d)

-- the last day without a row, the first row's first day, and both sides of the start of 2017's row: of so many fixed rows
pub four-dates : onward (walk_of fixed true (date 1959 12 31 ∷ date 1960 1 1 ∷ date 2016 12 31 ∷ date 2017 1 1 ∷ []) 4) (λ w. answer w.rows_compared) ≡
    answer (fixed_rows + 3)
unfolding walk_of judged_all judged_after judged_next earlier onward valid_date days_in_month lengths leap_size compared held_against left fixed month_number
four-dates = refl

-- the leap second of 2016: 42 rows to 2016-12-31, and one to 2017-01-01, or two where a later row is left
pub last-leap : onward (walk_of fixed true (date 2016 12 31 ∷ date 2017 1 1 ∷ []) 2) (λ w. answer w.rows_compared) ≡ answer (fixed_rows + 1)
unfolding walk_of judged_all judged_after judged_next earlier onward valid_date days_in_month lengths leap_size compared held_against left fixed month_number
last-leap = refl

-- exchanged, 17; with no place, 11, though the date is none; a date that is none and earlier too, its own number
pub exchanged : walk_of fixed true (date 2017 1 1 ∷ date 2016 12 31 ∷ []) 2 ≡ refusal 17
unfolding walk_of judged_all judged_after judged_next earlier onward valid_date days_in_month lengths leap_size
exchanged = refl

pub no_place : walk_of fixed true (date 1999 2 29 ∷ []) 0 ≡ refusal 11
unfolding walk_of judged_all onward valid_date days_in_month lengths leap_size
no_place = refl

pub none-and-earlier : walk_of fixed true (date 2016 12 31 ∷ date 1999 2 29 ∷ []) 2 ≡ refusal 3
unfolding walk_of judged_all judged_after judged_next earlier onward valid_date days_in_month lengths leap_size
none-and-earlier = refl

-- equal dates pass, and the second is held against the same row again; a broken triple is 14 before the places are counted; 17 of an earlier date comes before
-- a later date's own number
pub equal-pass : onward (walk_of fixed true (date 2016 12 31 ∷ date 2016 12 31 ∷ []) 2) (λ w. answer w.rows_compared) ≡ answer 43
unfolding walk_of judged_all judged_after judged_next earlier onward valid_date days_in_month lengths leap_size compared held_against left fixed month_number
equal-pass = refl

pub broken_first : walk_of fixed false (date 2017 1 1 ∷ []) 0 ≡ refusal 14
unfolding walk_of
broken_first = refl

pub earlier-before-later : walk_of fixed true (date 2017 1 1 ∷ date 2016 12 31 ∷ date 1999 2 29 ∷ []) 3 ≡ refusal 17
unfolding walk_of judged_all judged_after judged_next earlier onward valid_date days_in_month lengths leap_size
earlier-before-later = refl

-- no offset is due: what the lent list holds stays
pub spare-place-stays : list_after {A = ℕ} (λ _. []) (answer (record { rows_compared = 0; offsets = [] })) (7 ∷ []) ≡ 7 ∷ []
unfolding list_after
spare-place-stays = refl
