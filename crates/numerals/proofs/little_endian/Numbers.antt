-- EACH NUMBER AT ITS OWN BYTES: of a list that is written number by number the eight bytes from 8 i on read back as the i-th, also past its end, where no bytes
-- are read as 0. Assumes nothing.
use Prim.Native.Nat.{ℕ, ◌+◌, ◌*◌, ◌≤◌, ◌<◌}
use native.Mathlib.Omega.{arith}
use mathlib.Core.Path.{◌≡◌, refl, sym, ap, ◌∙◌}
use mathlib.Core.Bool.{Bool, true, false}
use mathlib.Core.List.{List, [], append-nil}
use lib.Dec.{ltb}
use lib.ListN.{length, get_or, get_or-eq_default}
use borrow.Author.Tests.{ltb-true, ltb-false, lt-leb}
use Rattle.numerals.specs.little_endian.LittleEndian.{u64_at, eight_bytes}
use Rattle.numerals.specs.little_endian.Written.{all_bytes, Numbers64}
use Rattle.numerals.proofs.little_endian.Items.{written-length, item_u64}
use Rattle.numerals.proofs.little_endian.RoundTrip.{read-written}

pub eight-each : (ns : List ℕ) → length (all_bytes eight_bytes ns) ≡ 8 * length ns
eight-each ns = written-length eight_bytes 8 (λ n. refl) ns

-- a number of the list
pub number-there : (ns : List ℕ) (i : ℕ) → i < length ns → get_or ns i 0 < 18446744073709551616 → u64_at (all_bytes eight_bytes ns) (8 * i) ≡ get_or ns i 0
number-there ns i h small =
    let e : 8 * i ≡ length {A = ℕ} [] + 8 * i + 0 = omega arith in
    ap (u64_at (all_bytes eight_bytes ns)) e
    ∙ ap (λ (s : List ℕ). u64_at s (length {A = ℕ} [] + 8 * i + 0)) (sym (append-nil (all_bytes eight_bytes ns)))
    ∙ item_u64 eight_bytes 8 (λ n. refl) [] ns [] i 0 h 0 (omega arith) ∙ read-written (get_or ns i 0) small

past_end : (ns : List ℕ) (i : ℕ) → length ns ≤ i → u64_at (all_bytes eight_bytes ns) (8 * i) ≡ get_or ns i 0
unfolding u64_at
past_end ns i h =
    let w : length (all_bytes eight_bytes ns) < 8 * i + 8 = omega (arith, eight-each ns) in
    rw (lt-leb (8 * i + 8) (length (all_bytes eight_bytes ns)) w) (sym (get_or-eq_default ns 0 {n = i} h))

-- NUMBER i is the i-th of the list
pub number-back : (ns : List ℕ) → Numbers64 ns → (i : ℕ) → u64_at (all_bytes eight_bytes ns) (8 * i) ≡ get_or ns i 0
number-back ns bits i = go (ltb i (length ns)) refl
  where
    go : (t : Bool) → ltb i (length ns) ≡ t → u64_at (all_bytes eight_bytes ns) (8 * i) ≡ get_or ns i 0
    go true e = let h : i < length ns = ltb-true i (length ns) e in number-there ns i h (bits i h)
    go false e = past_end ns i (ltb-false i (length ns) e)
