-- What the functions below the call ask and ensure. Assumes nothing.
use Rattle.std.specs.Prelude.{◌≡◌, ℕ, zero, suc, ◌+◌, ◌*◌, ◌<◌, ◌≤◌, Bool, cond, List, [], ◌∷◌, ◌++◌, length, take, drop, ◌==◌, slice_index, slice_index_or}
use Rattle.refusals.specs.Outcome.{Outcome, answer, refusal}
use Rattle.numerals.specs.digits.Placed.{Placed}
use Rattle.numerals.specs.digits.Decimal.{digits_of}
use Rattle.numerals.specs.little_endian.LittleEndian.{u64_at}
use Rattle.julian.specs.declared.JulianDate.{JulianDate}
use Rattle.julian.specs.stamp_lists.Stamps.{stamp_of}
use Rattle.leap_table.specs.rows.Table.{Row}
use Rattle.utc_scales.specs.UtcTai.{tai_to_utc}
use Rattle.utc.specs.iso_texts.Expanded.{iso_text_expanded}
use Rattle.line_listing.specs.declared.lines.Told.{Told}
use Rattle.line_listing.specs.declared.lines.Part.{Part}
use Rattle.line_listing.specs.lines.StampLine.{Stamps, line_in_order, date_of_place, number_of_place, recorder, index_in, no_text, refused}
use Rattle.line_listing.specs.lines.Parts.{listed_lines, textless_from}

-- the answer of a conversion by its number in one byte and its date
unfoldable pub answer_by : ℕ → JulianDate → Outcome JulianDate
answer_by mark d = cond (mark == 0) (answer d) (refusal mark)

-- ---- what is told of a stamp by the number of its conversion, its date in UTC, its text and the number of that: 0 where there is one
unfoldable pub text_by : Bool → ℕ → JulianDate → JulianDate → List ℕ → ℕ → List ℕ
text_by sentences mark tai date text none = cond (mark == 0) (cond (none == 0) text (no_text sentences none date)) (no_text sentences mark tai)

unfoldable pub none_by : ℕ → ℕ → ℕ
none_by mark none = cond (mark == 0) (cond (none == 0) 0 1) 1

unfoldable pub told_by : Bool → ℕ → ℕ → JulianDate → JulianDate → List ℕ → ℕ → List ℕ
told_by sentences k mark tai date text none = cond (k == 0) (text_by sentences mark tai date text none) (refused sentences k tai)

unfoldable pub textless_by : ℕ → ℕ → ℕ → ℕ
textless_by k mark none = cond (k == 0) (none_by mark none) 0

-- the line of a stamp of which t is told
unfoldable pub line_told : ℕ → ℕ → ℕ → List ℕ → List ℕ
line_told first second p t = (((recorder first second p ++ digits_of (index_in first second p)) ++ (32 ∷ [])) ++ t) ++ (10 ∷ [])

-- ---- the areas of a page of n lines
pub record PartsRoom (n : ℕ) (l m : List ℕ) : Type 0 where
  pub first : length l ≡ 8 * n
  pub second : length m ≡ 8 * n

pub record TextsRoom (n : ℕ) (texts lengths nones : List ℕ) : Type 0 where
  pub places : length texts ≡ 27 * n
  pub sizes : length lengths ≡ n
  pub marks : length nones ≡ n

abbrev pub ShortTexts : ℕ → List ℕ → Type 0
ShortTexts n lengths = (i : ℕ) → i < n → slice_index lengths i ≤ 27

-- what the areas hold: the UTC of the stamps of the lines, the numbers of the conversions, the texts with their lengths and their numbers
pub record Page : Type 0 where
  pub utc1 : List ℕ
  pub utc2 : List ℕ
  pub marks : List ℕ
  pub texts : List ℕ
  pub lengths : List ℕ
  pub nones : List ℕ

abbrev pub page : List ℕ → List ℕ → List ℕ → List ℕ → List ℕ → List ℕ → Page
page u v m t l n = record { utc1 = u; utc2 = v; marks = m; texts = t; lengths = l; nones = n }

-- the text of line i
abbrev pub page_text : List ℕ → List ℕ → ℕ → List ℕ
page_text texts lengths i = take (slice_index lengths i) (drop (27 * i) texts)

-- the parts of the stamps of n lines from `line` on
abbrev pub Gathered : List ℕ → List ℕ → ℕ → ℕ → List ℕ → Type 0
Gathered jds order line n out = (i : ℕ) → i < n → u64_at out (8 * i) ≡ u64_at jds (8 * line_in_order order (line + i))

-- their UTC
abbrev pub Converted : List Row → List ℕ → List ℕ → List ℕ → ℕ → ℕ → List ℕ → List ℕ → List ℕ → Type 0
Converted rows js ks order line n utc1 utc2 marks =
    (i : ℕ) → i < n → answer_by (slice_index marks i) (stamp_of utc1 utc2 i) ≡ tai_to_utc rows (stamp_of js ks (line_in_order order (line + i)))

-- a text o is at place i, or its number
pub record TextAt (o : Outcome (List ℕ)) (i : ℕ) (texts lengths nones : List ℕ) : Type 0 where
  pub there : (t : List ℕ) → o ≡ answer t → (slice_index nones i ≡ 0) × (page_text texts lengths i ≡ t)
  pub none : (k : ℕ) → o ≡ refusal k → slice_index nones i ≡ k
  pub short : slice_index_or lengths i 0 ≤ 27

abbrev pub Texts : List Row → List ℕ → List ℕ → ℕ → List ℕ → List ℕ → List ℕ → Type 0
Texts rows utc1 utc2 n texts lengths nones = (i : ℕ) → i < n → TextAt (iso_text_expanded rows (stamp_of utc1 utc2 i)) i texts lengths nones

-- ---- the lines of a page: line i of them, and 1 where its stamp is ordered and has no text
unfoldable pub page_line : Bool → Stamps → List ℕ → ℕ → Page → ℕ → List ℕ
page_line sentences all order line pg i =
    line_told all.first all.second (line_in_order order (line + i))
    (told_by sentences (number_of_place all (line_in_order order (line + i))) (slice_index pg.marks i) (date_of_place all (line_in_order order (line + i)))
    (stamp_of pg.utc1 pg.utc2 i) (page_text pg.texts pg.lengths i) (slice_index pg.nones i))

unfoldable pub page_count : Stamps → List ℕ → ℕ → Page → ℕ → ℕ
page_count all order line pg i = textless_by (number_of_place all (line_in_order order (line + i))) (slice_index pg.marks i) (slice_index pg.nones i)

-- the first n of them joined, and the sum
unfoldable pub lines_joined : (ℕ → List ℕ) → ℕ → List ℕ
lines_joined f zero = []
lines_joined f (suc n) = lines_joined f n ++ f n

unfoldable pub summed : (ℕ → ℕ) → ℕ → ℕ
summed f zero = 0
summed f (suc n) = summed f n + f n

-- t was written from `at` on, with so many more stamps without text
pub record ToldAt (d : List ℕ) (at : ℕ) (t : List ℕ) (none : ℕ) (r : Told) (after : List ℕ) : Type 0 where
  pub placed : Placed d at t r.next after
  pub counted : r.textless ≡ none

-- n lines of a page were written at the start
pub record PagePlaced (sentences : Bool) (all : Stamps) (order : List ℕ) (line n : ℕ) (pg : Page) (d : List ℕ) (r : Part) (after : List ℕ) : Type 0 where
  pub placed : Placed d 0 (lines_joined (page_line sentences all order line pg) n) r.written after
  pub next : r.line ≡ line + n
  pub counted : r.textless ≡ summed (page_count all order line pg) n
  pub within : r.written ≤ length d

-- `count` lines from `line` on were written at the start
pub record LinesPlaced (sentences : Bool) (rows : List Row) (all : Stamps) (order : List ℕ) (line count : ℕ) (d : List ℕ) (r : Part) (after : List ℕ) :
    Type 0 where
  pub placed : Placed d 0 (listed_lines sentences rows all order line count) r.written after
  pub next : r.line ≡ line + count
  pub counted : r.textless ≡ textless_from rows all order line count
  pub within : r.written ≤ length d
