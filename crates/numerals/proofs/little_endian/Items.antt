-- WHERE AN ITEM OF A LIST STANDS IN BYTES: item i of a list of items of one size is the bytes from size times i on, whatever stands before and behind the list.
-- Assumes nothing.
use Prim.Native.Nat.{ℕ, zero, suc, ◌+◌, ◌*◌, ◌≤◌, ◌<◌}
use native.Mathlib.Nat.{mul-suc, mul-le-mul_left}
use native.Mathlib.Omega.{arith}
use mathlib.Core.Path.{◌≡◌, refl, sym, ap, ◌∙◌}
use mathlib.Core.List.{List, [], ◌∷◌, ◌++◌, append_assoc}
use lib.ListN.{length, take, drop, get_or, length-append}
use lib.Seq.{take_at, take-take, drop-append-add, drop-drop}
use Rattle.numerals.specs.little_endian.LittleEndian.{u32_at, u64_at}
use Rattle.numerals.specs.little_endian.Written.{all_bytes, Sized}
use Rattle.numerals.proofs.little_endian.Parts.{four-in-part, eight_in_part}

-- a part of a part
part_of : (k o n : ℕ) (l : List ℕ) → o + k ≤ n → take k (drop o (take n l)) ≡ take k (drop o l)
part_of k zero n l h = take-take k n l (omega arith)
part_of k (suc o) zero l h = let w : ⊥ = omega arith in absurd w
part_of k (suc o) (suc n) [] h = refl
part_of k (suc o) (suc n) (x ∷ l) h = part_of k o n l (omega arith)

module _ {A : Type 0} (bytes : A → List ℕ) (size : ℕ) (sized : Sized bytes size) where
  -- how long the list is
  pub written-length : (xs : List A) → length (all_bytes bytes xs) ≡ size * length xs
  unfolding all_bytes
  written-length [] = omega arith
  written-length (x ∷ xs) = length-append (bytes x) (all_bytes bytes xs) ∙ ap (λ (n : ℕ). n + length (all_bytes bytes xs)) (sized x)
      ∙ ap (λ (n : ℕ). size + n) (written-length xs) ∙ omega (arith, mul-suc size (length xs))

  -- what stands from size times i on begins with item i
  item_first : (xs : List A) (rest : List ℕ) (i : ℕ) (d : A) → i < length xs
      → take size (drop (size * i) (all_bytes bytes xs ++ rest)) ≡ bytes (get_or xs i d)
  unfolding all_bytes
  item_first [] rest i d h = let w : ⊥ = omega arith in absurd w
  item_first (x ∷ xs) rest zero d h =
      let z : size * zero ≡ 0 = omega arith in
      ap (λ (n : ℕ). take size (drop n ((bytes x ++ all_bytes bytes xs) ++ rest))) z
      ∙ ap (take size) (append_assoc (bytes x) (all_bytes bytes xs) rest)
      ∙ take_at (bytes x) (all_bytes bytes xs ++ rest) size (sized x)
  item_first (x ∷ xs) rest (suc i) d h =
      let e : size * suc i ≡ length (bytes x) + size * i = omega (arith, mul-suc size i, sized x) in
      ap (λ (n : ℕ). take size (drop n ((bytes x ++ all_bytes bytes xs) ++ rest))) e
      ∙ ap (λ (l : List ℕ). take size (drop (length (bytes x) + size * i) l)) (append_assoc (bytes x) (all_bytes bytes xs) rest)
      ∙ ap (take size) (drop-append-add (bytes x) (all_bytes bytes xs ++ rest) (size * i))
      ∙ item_first xs rest i d (omega arith)

  -- THE PLACE OF AN ITEM
  pub item_at : (front : List ℕ) (xs : List A) (rest : List ℕ) (i : ℕ) (d : A) → i < length xs
      → take size (drop (length front + size * i) (front ++ (all_bytes bytes xs ++ rest))) ≡ bytes (get_or xs i d)
  item_at front xs rest i d h = ap (take size) (drop-append-add front (all_bytes bytes xs ++ rest) (size * i)) ∙ item_first xs rest i d h

  module _ (front : List ℕ) (xs : List A) (rest : List ℕ) (i : ℕ) (d : A) (h : i < length xs) where
    abbrev all : List ℕ
    all = front ++ (all_bytes bytes xs ++ rest)

    abbrev start : ℕ
    start = length front + size * i

    item_fits : start + size ≤ length all
    item_fits =
        let l = length-append front (all_bytes bytes xs ++ rest) in
        let m = length-append (all_bytes bytes xs) rest in
        let n : size * suc i ≤ size * length xs = mul-le-mul_left size (omega arith) in
        omega (arith, l, m, written-length xs, mul-suc size i)

    -- bytes of an item, from `o` on
    part_at : (k o : ℕ) → o + k ≤ size → take k (drop (start + o) all) ≡ take k (drop o (bytes (get_or xs i d)))
    part_at k o f =
        ap (take k) (sym (drop-drop o start all)) ∙ sym (part_of k o size (drop start all) f)
        ∙ ap (λ (l : List ℕ). take k (drop o l)) (item_at front xs rest i d h)

    -- A NUMBER OF AN ITEM, of eight bytes and of four
    pub item_u64 : (o : ℕ) → o + 8 ≤ size → u64_at all (start + o) ≡ u64_at (bytes (get_or xs i d)) o
    item_u64 o f =
        sym (eight_in_part all (start + o) (omega (arith, item_fits))) ∙ ap (λ (l : List ℕ). u64_at l 0) (part_at 8 o f)
        ∙ eight_in_part (bytes (get_or xs i d)) o (omega (arith, sized (get_or xs i d)))

    pub item_u32 : (o : ℕ) → o + 4 ≤ size → u32_at all (start + o) ≡ u32_at (bytes (get_or xs i d)) o
    item_u32 o f =
        sym (four-in-part all (start + o) (omega (arith, item_fits))) ∙ ap (λ (l : List ℕ). u32_at l 0) (part_at 4 o f)
        ∙ four-in-part (bytes (get_or xs i d)) o (omega (arith, sized (get_or xs i d)))
