-- The fixed texts of the sentences, as lists of bytes. Written from document 02, item 13 ("Compose an English sentence for each refusal from fixed parts"), and
-- the refusals' own words in document 01's table and document 02. No text begins another, and no word of a field begins another, so that a sentence says its
-- number and its field in plain English (`read_back` in stamps::reason_laws). Assumes nothing.
use Rattle.std.specs.Prelude.{ℕ, List, [], ◌∷◌, get_or}
pub use Rattle.utc.specs.text.Ascii.{ascii_bytes}

-- the texts by number; 0 has none
unfoldable pub texts : List (List ℕ)
texts =
    [] ∷
    ascii_bytes "year is before -4799, in a bill 1972" ∷
    ascii_bytes "month is not 1 to 12" ∷
    ascii_bytes "day is not in the month" ∷
    ascii_bytes "time is not in the day" ∷
    ascii_bytes "there is no next day" ∷
    ascii_bytes "date is outside the calendar" ∷
    ascii_bytes "fraction is not 0 to 1" ∷
    ascii_bytes "nanoseconds are a second or more" ∷
    ascii_bytes "part or sum of a date is not finite" ∷
    ascii_bytes "offset is not finite" ∷
    ascii_bytes "answer is longer than its buffer" ∷
    ascii_bytes "the two sizes differ" ∷
    ascii_bytes "there are too many stamps" ∷
    ascii_bytes "the number of bytes is wrong" ∷
    ascii_bytes "text is not an ISO 8601 time" ∷
    ascii_bytes "second has more than 13 digits after its point" ∷
    ascii_bytes "date is out of time order" ∷
    ascii_bytes "number or GPS week is out of its range" ∷
    ascii_bytes "two weeks are equally near the reference week" ∷
    ascii_bytes "table sizes differ or are above 16" ∷
    ascii_bytes "table row is not later than the one before it" ∷
    ascii_bytes "table row does not step by one second" ∷
    ascii_bytes "passes are unequal, too few, too many or too large" ∷
    ascii_bytes "passes do not rise in both lists" ∷
    ascii_bytes "tick or reading is outside the passes" ∷
    ascii_bytes "end of the standby is before its start" ∷
    ascii_bytes "number of the bill is over its limit" ∷
    ascii_bytes "both lengths of line are 0" ∷
    []

-- the text of a number; a number past 28 has none
unfoldable pub fixed_text : ℕ → List ℕ
fixed_text k = get_or texts k []
