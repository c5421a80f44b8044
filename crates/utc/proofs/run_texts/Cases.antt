-- Worked cases of the texts of a run, by computation: which stamp a text is of, and the bytes of three stamps, of which the second is refused by 6. Assumes
-- nothing.
use Prim.Native.Nat.{ℕ, zero, suc}
use mathlib.Core.Path.{◌≡◌, refl}
use mathlib.Core.List.{List, [], ◌∷◌, ◌++◌}
use lib.Ieee.{of_bits, binary64}
use Rattle.refusals.specs.Outcome.{Outcome, answer, refusal}
use Rattle.numerals.specs.little_endian.LittleEndian.{four_at, u64_at, eight_bytes}
use Rattle.numerals.specs.little_endian.Written.{all_bytes}
use Rattle.julian.specs.JulianDate.{julian}
use Rattle.julian.specs.stamp_lists.Stamps.{stamp_of}
use Rattle.leap_table.specs.rows.Table.{Row}
use Rattle.utc.specs.iso_texts.TextForm.{TextForm}
use Rattle.utc.specs.iso_texts.IsoText.{iso_text_by}
use Rattle.utc.specs.run_texts.RunTexts.{stamp_text, length_byte, refusal_byte, with_text, with_texts, with_bytes, texts_refused, texts_call, texts_written}

-- the second text is that of the second stamp, (3.0, 4.0), and not of (1.0, 2.0)
pub second-text : (textForm : TextForm) (rows : List Row)
    → stamp_text textForm rows (all_bytes eight_bytes (0x3ff0_0000_0000_0000 ∷ 0x4008_0000_0000_0000 ∷ []))
    (all_bytes eight_bytes (0x4000_0000_0000_0000 ∷ 0x4010_0000_0000_0000 ∷ [])) 1
    ≡ iso_text_by textForm rows (julian (of_bits binary64 0x4008_0000_0000_0000) (of_bits binary64 0x4010_0000_0000_0000))
unfolding stamp_of all_bytes u64_at four_at
second-text textForm rows = refl

-- three texts: of 2 bytes, refused, and of 1 byte
abbrev three : ℕ → Outcome (List ℕ)
three zero = answer (50 ∷ 48 ∷ [])
three (suc zero) = refusal 6
three (suc (suc k)) = answer (49 ∷ [])

-- so many bytes 9
abbrev nines : ℕ → List ℕ
nines zero = []
nines (suc k) = 9 ∷ nines k

pub three-stamps : texts_written three 3 (nines 82) (nines 4) (nines 4)
    ≡ texts_call (answer 1) (50 ∷ 48 ∷ (nines 52 ++ (49 ∷ nines 27))) (2 ∷ 0 ∷ 1 ∷ 9 ∷ []) (0 ∷ 6 ∷ 0 ∷ 9 ∷ [])
unfolding texts_written with_texts with_text with_bytes length_byte refusal_byte texts_refused
three-stamps = refl
