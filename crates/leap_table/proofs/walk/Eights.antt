-- Offsets written as bytes, eight places each. Assumes nothing.
use Rattle.std.proofs.Common.{◌≡◌, ℕ, ◌+◌, ◌-◌, ◌*◌, ◌<◌, ◌≤◌, List, [], ◌∷◌, ◌++◌, map, length, take, drop, refl, ◌∙◌, append_assoc, arith}
use lib.Seq.{sets, sets-eq}
use lib.Ieee.{Float, binary64, to_bits}
use Rattle.numerals.specs.little_endian.LittleEndian.{eight_bytes}
use Rattle.leap_table.specs.declared.judging.Triple.{Triple}
use Rattle.leap_table.specs.judging.Lists.{dates_from}
use Rattle.leap_table.specs.walk.Lists.{in_eights}
use Rattle.leap_table.proofs.walk.Writes.{Putting, writing_goes, writing_ends, written-length}

abbrev put : Float → List ℕ
put x = eight_bytes (to_bits binary64 x)

abbrev place : ℕ → ℕ
place i = 8 * i

next_place : (i : ℕ) → 8 * (i + 1) ≡ 8 * i + 8
next_place i = omega arith

nil : in_eights [] ≡ []
unfolding in_eights
nil = refl

cons : (x : Float) (l : List Float) → in_eights (x ∷ l) ≡ put x ++ in_eights l
unfolding in_eights
cons x l = refl

module _ (off : Triple → Float) (f : ℕ → Triple) (n : ℕ) (before : List ℕ) where
  abbrev pub whole_e : List ℕ
  whole_e = in_eights (map off (dates_from f 0 n)) ++ drop (8 * n) before

  abbrev pub rest_e : ℕ → List ℕ
  rest_e i = in_eights (map off (dates_from f i (n - i))) ++ drop (8 * n) before

  pub eights_go : (i : ℕ) (now now' : List ℕ) (x : Float) → i < n → Putting whole_e (rest_e i) before now (8 * i) → x ≡ off (f i)
      → now' ≡ sets now (8 * i) (put x) → 8 * i + 8 ≤ length now → Putting whole_e (rest_e (i + 1)) before now' (8 * (i + 1))
  eights_go i now now' x h p e o l =
      writing_goes in_eights put 8 place refl next_place nil cons (λ x. refl) off f n before i now now' x h p e
      (o ∙ sets-eq (put x) now (8 * i) l ∙ append_assoc (take (8 * i) now) (put x) (drop (8 * i + 8) now)) l

  pub eights_end : (i : ℕ) (now : List ℕ) → i ≤ n → n ≤ i → Putting whole_e (rest_e i) before now (8 * i) → now ≡ whole_e
  eights_end i now h g p = writing_ends in_eights put 8 place refl next_place nil cons (λ x. refl) off f n before i now h g p

pub eights_length : (off : Triple → Float) (f : ℕ → Triple) (n : ℕ) → length (in_eights (map off (dates_from f 0 n))) ≡ 8 * n
eights_length off f n = written-length in_eights put 8 place refl next_place nil cons (λ x. refl) off f n [] n 0
