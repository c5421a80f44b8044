-- The bytes of a number put at the start of a list, in a part of one, and in one of the places of a list of numbers. Assumes nothing.
use Prim.Native.Nat.{ℕ, ◌+◌, ◌-◌, ◌*◌, ◌<◌, ◌≤◌}
use native.Mathlib.Omega.{arith}
use mathlib.Core.Path.{◌≡◌, sym, ap, ◌∙◌}
use mathlib.Core.List.{List, [], ◌++◌, append_assoc, append-nil}
use lib.ListN.{length, take, drop, length-drop}
use lib.Seq.{sets, sets-eq, length-take-le, drop-drop, drop-length}
use borrow.Rule.Slice.PartMut.{mid_of, post_of, put_mid}
use borrow.Author.Tests.{le-leb, lt-leb}
use Rattle.numerals.specs.little_endian.LittleEndian.{four_bytes, eight_bytes, with_u32, with_u64, with_nth32, with_nth64}
use mathlib.Core.List.{◌∷◌}
use lib.ListN.{get_or}

pub too_few : (l : List ℕ) (n : ℕ) → length l < 8 → l ≡ with_u64 l n
unfolding with_u64
too_few l n h = simp (lt-leb _ _ h)

pub put_at_start : (l b : List ℕ) (n : ℕ) → b ≡ eight_bytes n → 8 ≤ length l → b ++ drop 8 l ≡ with_u64 l n
unfolding with_u64
put_at_start l b n e h = ap (λ (x : List ℕ). x ++ drop 8 l) e ∙ simp (le-leb _ _ h)

pub too_few_4 : (l : List ℕ) (n : ℕ) → length l < 4 → l ≡ with_u32 l n
unfolding with_u32
too_few_4 l n h = simp (lt-leb _ _ h)

pub put_4_at_start : (l b : List ℕ) (n : ℕ) → b ≡ four_bytes n → 4 ≤ length l → b ++ drop 4 l ≡ with_u32 l n
unfolding with_u32
put_4_at_start l b n e h = ap (λ (x : List ℕ). x ++ drop 4 l) e ∙ simp (le-leb _ _ h)

-- ---- a part of k bytes from `at` on, all of which are written
module _ (l : List ℕ) (at k : ℕ) (h : at + k ≤ length l) where
  part_length : length (mid_of at k l) ≡ k
  part_length = length-take-le k (drop at l) (omega (arith, length-drop at l))

  part_none : drop k (mid_of at k l) ≡ []
  part_none = ap (λ (j : ℕ). drop j (mid_of at k l)) (sym part_length) ∙ drop-length (mid_of at k l)

  part_room : k ≤ length (mid_of at k l)
  part_room = omega (arith, part_length)

pub put-part : (l part bs : List ℕ) (at k : ℕ) → k ≡ length bs → at + length bs ≤ length l → part ≡ bs → put_mid at k l part ≡ sets l at bs
put-part l part bs at k ek h e =
    (λ i. take at l ++ (e i ++ post_of at (ek i) l))
    ∙ ap (λ (x : List ℕ). take at l ++ (bs ++ x)) (drop-drop (length bs) at l)
    ∙ sym (append_assoc (take at l) bs (drop (at + length bs) l))
    ∙ sym (sets-eq bs l at h)

whole-8 : (l : List ℕ) (at n : ℕ) → at + 8 ≤ length l → with_u64 (mid_of at 8 l) n ≡ eight_bytes n
unfolding with_u64
whole-8 l at n h = simp (le-leb _ _ (part_room l at 8 h)) (ap (λ (x : List ℕ). eight_bytes n ++ x) (part_none l at 8 h) ∙ append-nil (eight_bytes n))

whole-4 : (l : List ℕ) (at n : ℕ) → at + 4 ≤ length l → with_u32 (mid_of at 4 l) n ≡ four_bytes n
unfolding with_u32
whole-4 l at n h = simp (le-leb _ _ (part_room l at 4 h)) (ap (λ (x : List ℕ). four_bytes n ++ x) (part_none l at 4 h) ∙ append-nil (four_bytes n))

-- a part that is eight bytes long, and one of four
pub put_in_place : (l part : List ℕ) (at k n : ℕ) → k ≡ 8 → at + 8 ≤ length l → part ≡ with_u64 (mid_of at k l) n → put_mid at k l part ≡ sets l at
    (eight_bytes n)
put_in_place l part at k n ek h e = put-part l part (eight_bytes n) at k ek h (e ∙ ap (λ (j : ℕ). with_u64 (mid_of at j l) n) ek ∙ whole-8 l at n h)

pub put-4-in-place : (l part : List ℕ) (at k n : ℕ) → k ≡ 4 → at + 4 ≤ length l → part ≡ with_u32 (mid_of at k l) n → put_mid at k l part ≡ sets l at
    (four_bytes n)
put-4-in-place l part at k n ek h e = put-part l part (four_bytes n) at k ek h (e ∙ ap (λ (j : ℕ). with_u32 (mid_of at j l) n) ek ∙ whole-4 l at n h)

-- ---- a list of numbers, one of which is written
module _ (l : List ℕ) (i n : ℕ) where
  pub no_place_64 : length l < 8 * i + 8 → l ≡ with_nth64 l i n
  unfolding with_nth64
  no_place_64 h = simp (lt-leb _ _ h)

  pub nth_put_64 : (part : List ℕ) → part ≡ with_u64 (mid_of (8 * i) (8 * i + 8 - 8 * i) l) n → 8 * i + 8 ≤ length l
      → put_mid (8 * i) (8 * i + 8 - 8 * i) l part ≡ with_nth64 l i n
  unfolding with_nth64
  nth_put_64 part e h = put_in_place l part (8 * i) (8 * i + 8 - 8 * i) n (omega arith) h e ∙ simp (le-leb _ _ h)

  pub no_place_32 : length l < 4 * i + 4 → l ≡ with_nth32 l i n
  unfolding with_nth32
  no_place_32 h = simp (lt-leb _ _ h)

  pub nth_put_32 : (part : List ℕ) → part ≡ with_u32 (mid_of (4 * i) (4 * i + 4 - 4 * i) l) n → 4 * i + 4 ≤ length l
      → put_mid (4 * i) (4 * i + 4 - 4 * i) l part ≡ with_nth32 l i n
  unfolding with_nth32
  nth_put_32 part e h = put-4-in-place l part (4 * i) (4 * i + 4 - 4 * i) n (omega arith) h e ∙ simp (le-leb _ _ h)

  -- what a caller who knows that the place is there reads off
  pub put-64-is : 8 * i + 8 ≤ length l → with_nth64 l i n ≡ sets l (8 * i) (eight_bytes n)
  unfolding with_nth64
  put-64-is h = simp (le-leb _ _ h)

  pub put-32-is : 4 * i + 4 ≤ length l → with_nth32 l i n ≡ sets l (4 * i) (four_bytes n)
  unfolding with_nth32
  put-32-is h = simp (le-leb _ _ h)

-- ---- the same with the bytes set one by one, from a place on: what stands after them stays as it is
-- eight bytes one by one
abbrev pub eight_of : List ℕ → List ℕ
eight_of b = get_or b 0 0 ∷ get_or b 1 0 ∷ get_or b 2 0 ∷ get_or b 3 0 ∷ get_or b 4 0 ∷ get_or b 5 0 ∷ get_or b 6 0 ∷ get_or b 7 0 ∷ []

pub put-at-start : (l b : List ℕ) (n : ℕ) → 8 ≤ length l → b ≡ eight_bytes n → sets l 0 (eight_of b) ≡ with_u64 l n
unfolding with_u64
put-at-start l b n h e = sets-eq (eight_of b) l 0 h ∙ ap (λ (x : List ℕ). eight_of x ++ drop 8 l) e ∙ simp (le-leb _ _ h)

pub put-4-at-start : (l : List ℕ) (n : ℕ) → 4 ≤ length l → sets l 0 (four_bytes n) ≡ with_u32 l n
unfolding with_u32
put-4-at-start l n h = sets-eq (four_bytes n) l 0 h ∙ simp (le-leb _ _ h)

module _ (l : List ℕ) (i n : ℕ) where
  pub placed-64 : (l' : List ℕ) → 8 * i + 8 ≤ length l → l' ≡ sets l (8 * i) (eight_bytes n) → l' ≡ with_nth64 l i n
  unfolding with_nth64
  placed-64 l' h e = e ∙ simp (le-leb _ _ h)

  pub placed-32 : (l' : List ℕ) → 4 * i + 4 ≤ length l → l' ≡ sets l (4 * i) (four_bytes n) → l' ≡ with_nth32 l i n
  unfolding with_nth32
  placed-32 l' h e = e ∙ simp (le-leb _ _ h)
