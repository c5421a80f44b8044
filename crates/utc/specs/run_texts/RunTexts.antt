-- The texts of a run of UTC dates in one call: what is answered and what the three lent slices hold. Each text is the single call's: document 01's, "UTC text",
-- or one of document 02's items 4 and 6. This project's own, for the customer's nine million stamps of one recorder: texts at equal distances of 27 bytes, the
-- length of the longest text. Refusals by documents 01's and 02's numbers: 14 a broken length, 12 sizes that differ, 11 too few places. Assumes nothing.
use Rattle.std.specs.Prelude.{ℕ, zero, suc, ◌+◌, ◌*◌, ◌/◌, ◌%◌, cond, ◌&&◌, List, eqb, leb, length, set}
use Rattle.std.proofs.lemmas.List.Edits.{sets}
use Rattle.refusals.specs.Outcome.{Outcome, answer, refusal}
use Rattle.julian.specs.stamp_lists.Stamps.{stamp_of}
use Rattle.leap_table.specs.rows.Table.{Row}
use Rattle.utc.specs.iso_texts.TextForm.{TextForm}
use Rattle.utc.specs.iso_texts.IsoText.{iso_text_by}

-- ---- one stamp

-- the text of the stamp at place i: eight bytes of each part
abbrev pub stamp_text : TextForm → List Row → List ℕ → List ℕ → ℕ → Outcome (List ℕ)
stamp_text textForm rows js ks i = iso_text_by textForm rows (stamp_of js ks i)

-- its length in one byte, at most 27: 0 where it is refused
unfoldable pub length_byte : Outcome (List ℕ) → ℕ
length_byte (answer t) = length t
length_byte (refusal k) = 0

-- its number in one byte: 0 where it is answered. The refusals of a text, 1 and 6, are below 256
unfoldable pub refusal_byte : Outcome (List ℕ) → ℕ
refusal_byte (answer t) = 0
refusal_byte (refusal k) = k % 256

-- its bytes from byte 27 i on; those behind it stay, and all of a refused one
unfoldable pub with_text : Outcome (List ℕ) → ℕ → List ℕ → List ℕ
with_text (answer t) i l = sets l (27 * i) t
with_text (refusal k) i l = l

-- ---- the first n stamps, whose texts are f 0, f 1, ..

unfoldable pub with_texts : (ℕ → Outcome (List ℕ)) → ℕ → List ℕ → List ℕ
with_texts f zero l = l
with_texts f (suc k) l = with_text (f k) k (with_texts f k l)

-- a byte for each of them: the length, or the number
unfoldable pub with_bytes : (Outcome (List ℕ) → ℕ) → (ℕ → Outcome (List ℕ)) → ℕ → List ℕ → List ℕ
with_bytes byte f zero l = l
with_bytes byte f (suc k) l = set (with_bytes byte f k l) k (byte (f k))

-- how many are refused
unfoldable pub texts_refused : (ℕ → Outcome (List ℕ)) → ℕ → ℕ
texts_refused f zero = 0
texts_refused f (suc k) = texts_refused f k + cond (eqb (refusal_byte (f k)) 0) 0 1

-- ---- the call

-- the answer, and what is left in the slices that are written
pub record TextsCall : Type 0 where
  pub answer : Outcome ℕ
  pub texts : List ℕ
  pub lengths : List ℕ
  pub numbers : List ℕ

abbrev pub texts_call : Outcome ℕ → List ℕ → List ℕ → List ℕ → TextsCall
texts_call o texts lengths numbers = record { answer = o; texts = texts; lengths = lengths; numbers = numbers }

-- n stamps with these texts
unfoldable pub texts_written : (ℕ → Outcome (List ℕ)) → ℕ → List ℕ → List ℕ → List ℕ → TextsCall
texts_written f n texts lengths numbers =
    texts_call (answer (texts_refused f n)) (with_texts f n texts) (with_bytes length_byte f n lengths) (with_bytes refusal_byte f n numbers)

-- the refusal of the lengths in bytes: of the parts, and of the places for texts, lengths and numbers; 0 for none
unfoldable pub texts_refusal : ℕ → ℕ → ℕ → ℕ → ℕ → ℕ
texts_refusal size1 size2 room1 room2 room3 =
    cond (eqb (size1 % 8) 0 && eqb (size2 % 8) 0)
    (cond (eqb size1 size2)
    (cond (leb (27 * (size1 / 8)) room1 && (leb (size1 / 8) room2 && leb (size1 / 8) room3)) 0 11)
    12)
    14

-- by the rows of a table
unfoldable pub texts_by : TextForm → List Row → List ℕ → List ℕ → List ℕ → List ℕ → List ℕ → TextsCall
texts_by textForm rows js ks texts lengths numbers =
    cond (eqb (texts_refusal (length js) (length ks) (length texts) (length lengths) (length numbers)) 0)
    (texts_written (stamp_text textForm rows js ks) (length js / 8) texts lengths numbers)
    (texts_call (refusal (texts_refusal (length js) (length ks) (length texts) (length lengths) (length numbers))) texts lengths numbers)

-- by a table that may be refused, before all else
unfoldable pub texts_of_run : TextForm → Outcome (List Row) → List ℕ → List ℕ → List ℕ → List ℕ → List ℕ → TextsCall
texts_of_run textForm (answer rows) js ks texts lengths numbers = texts_by textForm rows js ks texts lengths numbers
texts_of_run textForm (refusal k) js ks texts lengths numbers = texts_call (refusal k) texts lengths numbers
