-- What the functions below the call ask and ensure. Assumes nothing.
use Rattle.std.specs.Prelude.{ℕ, ◌*◌, ◌≤◌, ◌≡◌, List, length}
use Rattle.refusals.specs.Outcome.{Outcome}
use Rattle.utc.specs.declared.run_texts.Beside.{Beside}
use Rattle.utc.specs.iso_texts.TextCall.{buffer_holds}
use Rattle.utc.specs.run_texts.RunTexts.{length_byte, refusal_byte, with_text, with_texts, with_bytes, texts_refused}

-- n stamps are there, and places for them
pub record RoomForTexts (n : ℕ) (js texts lengths numbers : List ℕ) : Type 0 where
  pub stamps : 8 * n ≤ length js
  pub places : 27 * n ≤ length texts
  pub bytes : n ≤ length lengths
  pub bytes2 : n ≤ length numbers

-- the text o is put into a buffer of 27 bytes or more: r has its length and its number
pub record TextBeside (o : Outcome (List ℕ)) (out : List ℕ) (r : Beside) (out' : List ℕ) : Type 0 where
  pub length : r.length ≡ length_byte o
  pub number : r.number ≡ refusal_byte o
  pub holds : out' ≡ buffer_holds o out

-- the text o of stamp i is put: r has its length and its number
pub record TextPlaced (o : Outcome (List ℕ)) (i : ℕ) (texts : List ℕ) (r : Beside) (texts' : List ℕ) : Type 0 where
  pub length : r.length ≡ length_byte o
  pub number : r.number ≡ refusal_byte o
  pub text : texts' ≡ with_text o i texts

-- the texts f 0, f 1, .. of n stamps are put, r of them refused
pub record TextsPlaced (f : ℕ → Outcome (List ℕ)) (n : ℕ) (texts lengths numbers : List ℕ) (r : ℕ) (texts' lengths' numbers' : List ℕ) : Type 0 where
  pub count : r ≡ texts_refused f n
  pub first : texts' ≡ with_texts f n texts
  pub second : lengths' ≡ with_bytes length_byte f n lengths
  pub third : numbers' ≡ with_bytes refusal_byte f n numbers
