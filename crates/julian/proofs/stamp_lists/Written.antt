-- EACH STAMP AT ITS PLACE: stamp i of two lists that are written number by number has the i-th pattern of each. Assumes nothing.
use Prim.Native.Nat.{ℕ, ◌*◌, ◌<◌}
use mathlib.Core.Path.{◌≡◌, refl, ap, ◌∙◌}
use mathlib.Core.List.{List, [], ◌∷◌}
use lib.ListN.{length, get_or}
use lib.Ieee.{of_bits, binary64}
use Rattle.numerals.specs.little_endian.LittleEndian.{four_at, u64_at, eight_bytes}
use Rattle.numerals.specs.little_endian.Written.{all_bytes, Numbers64}
use Rattle.numerals.proofs.little_endian.Numbers.{number-there, number-back}
use Rattle.julian.specs.JulianDate.{julian}
use Rattle.julian.specs.stamp_lists.Stamps.{stamp_of}

module _ (js ks : List ℕ) (i : ℕ) (h : i < length js) (k : i < length ks) (small : get_or js i 0 < 18446744073709551616)
    (low : get_or ks i 0 < 18446744073709551616) where
  pub stamp-of-lists : stamp_of (all_bytes eight_bytes js) (all_bytes eight_bytes ks) i ≡ julian (of_bits binary64 (get_or js i 0))
      (of_bits binary64 (get_or ks i 0))
  unfolding stamp_of
  stamp-of-lists = ap (λ (n : ℕ). julian (of_bits binary64 n) (of_bits binary64 (u64_at (all_bytes eight_bytes ks) (8 * i)))) (number-there js i h small)
      ∙ ap (λ (n : ℕ). julian (of_bits binary64 (get_or js i 0)) (of_bits binary64 n)) (number-there ks i k low)

-- of numbers of 64 bits every stamp is, past their ends too
pub stamps-of-lists : (js ks : List ℕ) → Numbers64 js → Numbers64 ks → (i : ℕ)
    → stamp_of (all_bytes eight_bytes js) (all_bytes eight_bytes ks) i ≡ julian (of_bits binary64 (get_or js i 0)) (of_bits binary64 (get_or ks i 0))
unfolding stamp_of
stamps-of-lists js ks a b i = rw (number-back js a i, number-back ks b i)

-- the second of two stamps, worked: 1.0 and 2.0 stand at place 0, 3.0 and 4.0 at place 1
pub second-stamp : stamp_of (all_bytes eight_bytes (0x3ff0_0000_0000_0000 ∷ 0x4008_0000_0000_0000 ∷ []))
    (all_bytes eight_bytes (0x4000_0000_0000_0000 ∷ 0x4010_0000_0000_0000 ∷ [])) 1
    ≡ julian (of_bits binary64 0x4008_0000_0000_0000) (of_bits binary64 0x4010_0000_0000_0000)
unfolding stamp_of all_bytes u64_at four_at
second-stamp = refl
