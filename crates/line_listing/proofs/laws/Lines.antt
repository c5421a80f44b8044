-- THE LINES: a stamp that is not finite has no text, whatever the order, the table and the other runs are; and parts from line to line join to the whole.
-- Assumes nothing.
use Rattle.std.proofs.Common.{◌≡◌, ℕ, zero, suc, ◌+◌, Bool, true, false, List, [], ◌∷◌, ◌++◌, sym, refl, ap, ◌∙◌, append_assoc, append-nil, arith, ne_eqb}
use Rattle.numerals.specs.digits.Decimal.{digits_in, digits_of}
use Rattle.refusals.specs.Outcome.{onward}
use Rattle.reasons.specs.Offending.{offending, parts_field}
use Rattle.reasons.specs.sentences.Render.{render}
use Rattle.reasons.specs.sentences.Texts.{fixed_text, texts}
use Rattle.reasons.specs.Sentence.{reason_of, sentence}
use Rattle.leap_table.specs.rows.Table.{Row}
use Rattle.line_listing.specs.lines.StampLine.{Stamps, line_in_order, date_of_place, number_of_place, recorder, index_in}
use Rattle.line_listing.specs.lines.StampLine.{as_sentence, sentence_behind, number_told, refused, stamp_told, line_by, place_line}
use Rattle.line_listing.specs.lines.Parts.{listed_lines}
use Rattle.line_listing.specs.laws.NotFiniteTold.{six_told, nine_told}

-- A STAMP WITH A NUMBER is told by it, and never by a text
pub numbered-told : (s : Bool) (rows : List Row) (all : Stamps) (p : ℕ) → (number_of_place all p ≡ 0 → ⊥)
    → stamp_told s rows (date_of_place all p) (number_of_place all p) ≡ refused s (number_of_place all p) (date_of_place all p)
unfolding stamp_told
numbered-told s rows all p h = rw (ne_eqb (number_of_place all p) 0 h)

-- so the table does not matter
pub numbered-by-any-rows : (s : Bool) (rows rows' : List Row) (all : Stamps) (p : ℕ) → (number_of_place all p ≡ 0 → ⊥)
    → place_line s rows all p ≡ place_line s rows' all p
unfolding place_line line_by
numbered-by-any-rows s rows rows' all p h =
    ap (λ (t : List ℕ). (((recorder all.first all.second p ++ digits_of (index_in all.first all.second p)) ++ (32 ∷ [])) ++ t) ++ (10 ∷ []))
    (numbered-told s rows all p h ∙ sym (numbered-told s rows' all p h))

-- PARTS JOIN: j lines from a line on and k lines from where they end are the j + k lines
pub parts_join : (s : Bool) (rows : List Row) (all : Stamps) (order : List ℕ) (line j k : ℕ)
    → listed_lines s rows all order line (j + k) ≡ listed_lines s rows all order line j ++ listed_lines s rows all order (line + j) k
unfolding listed_lines
parts_join s rows all order line j zero =
    ap (listed_lines s rows all order line) (let e : j + 0 ≡ j = omega arith in e) ∙ sym (append-nil (listed_lines s rows all order line j))
parts_join s rows all order line j (suc k) =
    ap (listed_lines s rows all order line) (let e : j + suc k ≡ suc (j + k) = omega arith in e)
    ∙ ap (λ (l : List ℕ). l ++ place_line s rows all (line_in_order order (line + (j + k)))) (parts_join s rows all order line j k)
    ∙ ap (λ (n : ℕ). (listed_lines s rows all order line j ++ listed_lines s rows all order (line + j) k) ++ place_line s rows all (line_in_order order n))
    (let e : line + (j + k) ≡ line + j + k = omega arith in e)
    ∙ append_assoc (listed_lines s rows all order line j) (listed_lines s rows all order (line + j) k)
    (place_line s rows all (line_in_order order (line + j + k)))

-- A STAMP OF NUMBER 6 OR 9, as every one that is not finite has it, by whatever rows, in whatever order and runs, by numbers and with sentences
pub six-told : (s : Bool) (rows : List Row) (all : Stamps) (p : ℕ) → number_of_place all p ≡ 6
    → stamp_told s rows (date_of_place all p) (number_of_place all p) ≡ six_told s (date_of_place all p)
unfolding stamp_told refused number_told sentence_behind as_sentence sentence reason_of onward offending parts_field render fixed_text texts digits_of digits_in
    six_told
six-told s rows all p e = ap (stamp_told s rows (date_of_place all p)) e ∙ by s
  where
    by : (s : Bool) → stamp_told s rows (date_of_place all p) 6 ≡ six_told s (date_of_place all p)
    by true = refl
    by false = refl

pub nine-told : (s : Bool) (rows : List Row) (all : Stamps) (p : ℕ) → number_of_place all p ≡ 9
    → stamp_told s rows (date_of_place all p) (number_of_place all p) ≡ nine_told s (date_of_place all p)
unfolding stamp_told refused number_told sentence_behind as_sentence sentence reason_of onward offending parts_field render fixed_text texts digits_of digits_in
    nine_told
nine-told s rows all p e = ap (stamp_told s rows (date_of_place all p)) e ∙ by s
  where
    by : (s : Bool) → stamp_told s rows (date_of_place all p) 9 ≡ nine_told s (date_of_place all p)
    by true = refl
    by false = refl
