-- Numbers as the code writes them: decimal digits from the last on, signs, and hexadecimal digits. Assumes nothing.
use Prim.Native.Nat.{ℕ, zero, suc, ◌+◌, ◌-◌, ◌/◌, ◌%◌, ◌<◌, ◌≤◌}
use native.Mathlib.Omega.{arith}
use mathlib.Core.Path.{◌≡◌, refl, sym, ap, ◌∙◌}
use mathlib.Core.List.{List, [], ◌∷◌, ◌++◌, append_assoc, append-nil}
use mathlib.Core.Bool.{Bool, true, false, cond}
use lib.ListN.{length, take, drop, set, length-append, length-drop, length-set, get_or}
use lib.Seq.{take_all, drop-length, set_split, drop_at, length-take-le}
use lib.IntN.{ℤ, pos, negsuc, nat_abs}
use lib.Signed.{lt_z, mag}
use mir.Syntax.{w32}
use mir.Val.{to_z, of_z}
use mir.Facts.{to_z-of_z}
use lib.Dec.{ltb}
use borrow.Author.Tests.{ltb-true, ltb-false, lt-ltb, le-ltb}
use Rattle.numerals.specs.digits.Decimal.{last, digits_in, digits_of}
use Rattle.numerals.proofs.digits.Decimal.{digits-few, digits-some}
use Rattle.numerals.specs.digits.Hexadecimal.{hex_digit}
use Rattle.reasons.proofs.sentences.Each.{EachBelow, from_each}
use Rattle.reasons.specs.sentences.Texts.{ascii_bytes}
use Rattle.reasons.specs.sentences.Render.{signed_digits}

-- ---- digits: room for more of them changes nothing
same-either : (a b n : ℕ) → (10 ≤ n → digits_in a (n / 10) ≡ digits_in b (n / 10)) → (t : Bool) → ltb n 10 ≡ t
    → cond t (last n ∷ []) (digits_in a (n / 10) ++ (last n ∷ [])) ≡ cond t (last n ∷ []) (digits_in b (n / 10) ++ (last n ∷ []))
same-either a b n less true e = refl
same-either a b n less false e = ap (λ (l : List ℕ). l ++ (last n ∷ [])) (less (ltb-false n 10 e))

same_in : (a b n : ℕ) → n < a → n < b → digits_in a n ≡ digits_in b n
unfolding digits_in
same_in zero b n h k = absurd (omega arith)
same_in (suc a) zero n h k = absurd (omega arith)
same_in (suc a) (suc b) n h k = same-either a b n (λ m. same_in a b (n / 10) (omega arith) (omega arith)) (ltb n 10) refl

pub one-digit : (n : ℕ) → n < 10 → digits_of n ≡ last n ∷ []
unfolding digits_of digits_in
one-digit n h = rw (lt-ltb n 10 h)

pub one_more : (n : ℕ) → 10 ≤ n → digits_of n ≡ digits_of (n / 10) ++ (last n ∷ [])
unfolding digits_of digits_in
one_more n h = rw (le-ltb n 10 h) (ap (λ (l : List ℕ). l ++ (last n ∷ [])) (same_in n (suc (n / 10)) (n / 10) (omega arith) (omega arith)))

-- ---- the digits of n, of which those from `rest` are still to be written, and the others stand in `all` from i on
pub record Behind (n rest i : ℕ) (all : List ℕ) : Type 0 where
  pub long : length all ≡ 20
  pub within : i ≤ 20
  pub says : digits_of n ≡ digits_of rest ++ drop i all

pub begun : (n : ℕ) (all : List ℕ) → length all ≡ 20 → Behind n n 20 all
begun n all e =
    record {
      long = e;
      within = omega arith;
      says = sym (append-nil (digits_of n)) ∙ ap (λ (l : List ℕ). digits_of n ++ l) (sym (drop-length all) ∙ ap (λ (k : ℕ). drop k all) e);
    }

module _ {n rest i : ℕ} {all : List ℕ} (w : Behind n rest i all) where
  pub room-left : n < 18446744073709551616 → 1 ≤ i
  room-left h =
      let few : length (digits_of n) ≤ 20 = digits-few 19 n (omega arith) in
      let some : 1 ≤ length (digits_of rest) = digits-some rest in
      let l : length (digits_of n) ≡ length (digits_of rest) + (20 - i) =
      ap length w.says ∙ length-append (digits_of rest) (drop i all)
      ∙ ap (λ (k : ℕ). length (digits_of rest) + k) (length-drop i all ∙ ap (λ (k : ℕ). k - i) w.long) in
      let b : i ≤ 20 = w.within in
      omega arith

  module _ (h : 1 ≤ i) where
    put-before : (v : ℕ) → drop (i - 1) (set all (i - 1) v) ≡ v ∷ drop i all
    put-before v =
        let b : i ≤ 20 = w.within in
        let l : length all ≡ 20 = w.long in
        let k : i - 1 < length all = omega arith in
        let s : suc (i - 1) ≡ i = omega arith in
        ap (drop (i - 1)) (set_split all (i - 1) v k)
        ∙ drop_at (take (i - 1) all) (v ∷ drop (suc (i - 1)) all) (i - 1) (length-take-le (i - 1) all (omega arith))
        ∙ ap (λ (j : ℕ). v ∷ drop j all) s

    pub one_written : 10 ≤ rest → Behind n (rest / 10) (i - 1) (set all (i - 1) (last rest))
    one_written m =
        let b : i ≤ 20 = w.within in
        record {
          long = length-set all (i - 1) (last rest) ∙ w.long;
          within = omega arith;
          says = w.says
              ∙ ap (λ (l : List ℕ). l ++ drop i all) (one_more rest m)
              ∙ append_assoc (digits_of (rest / 10)) (last rest ∷ []) (drop i all)
              ∙ ap (λ (l : List ℕ). digits_of (rest / 10) ++ l) (sym (put-before (last rest)));
        }

    pub all-written : rest < 10 → drop (i - 1) (set all (i - 1) (last rest)) ≡ digits_of n
    all-written m = put-before (last rest) ∙ sym (w.says ∙ ap (λ (l : List ℕ). l ++ drop i all) (one-digit rest m))

    pub part-written : rest < 10 → take (20 - (i - 1)) (drop (i - 1) (set all (i - 1) (last rest))) ≡ digits_of n
    part-written m =
        take_all (20 - (i - 1)) (drop (i - 1) (set all (i - 1) (last rest)))
        (omega (arith, length-drop (i - 1) (set all (i - 1) (last rest)), length-set all (i - 1) (last rest), w.long))
        ∙ all-written m

    pub few-digits : rest < 10 → length (digits_of n) ≤ 20
    few-digits m = omega (
      arith,
      ap length (sym (all-written m)),
      length-drop (i - 1) (set all (i - 1) (last rest)),
      length-set all (i - 1) (last rest),
      w.long,
    )

-- two digits at a time
pub two-written : {n rest i : ℕ} {all : List ℕ} → Behind n rest i all → 1 ≤ i → 1 ≤ i - 1 → 100 ≤ rest
    → Behind n (rest / 100) (i - 1 - 1) (set (set all (i - 1) (48 + rest % 100 % 10)) (i - 1 - 1) (48 + rest % 100 / 10))
two-written {n} {rest} {i} {all} w h1 h2 m =
    let a : rest % 100 % 10 ≡ rest % 10 = omega arith in
    let b : rest % 100 / 10 ≡ rest / 10 % 10 = omega arith in
    let c : rest / 100 ≡ rest / 10 / 10 = omega arith in
    rw (a, b, c) (one_written (one_written w h1 (omega arith)) h2 (omega arith))

-- ---- signs
-- a signed number is its bits, read back
pub back : (z : ℤ) → mag z < 2147483648 → to_z w32 (of_z w32 z) ≡ z
back z h = to_z-of_z {w = w32} (record { sfits = h })

pub signed_below : (z : ℤ) → lt_z z (pos 0) ≡ true → 45 ∷ digits_of (nat_abs z) ≡ signed_digits z
unfolding signed_digits
signed_below (pos n) e = absurd (omega (arith, ltb-true n 0 e))
signed_below (negsuc n) e = refl

pub signed-from : (z : ℤ) → lt_z z (pos 0) ≡ false → digits_of (nat_abs z) ≡ signed_digits z
unfolding signed_digits
signed-from (pos n) e = refl
signed-from (negsuc n) e = let z : ◌≡◌ {A = ℕ} 0 1 = cc in absurd (omega (arith, z))

-- ---- the hexadecimal digits in turn
abbrev pub hex_digits_in_turn : List ℕ
hex_digits_in_turn = ascii_bytes "0123456789abcdef"

abbrev InTurn : ℕ → Type 0
InTurn d = get_or hex_digits_in_turn d 0 ≡ hex_digit d

each-in-turn : EachBelow InTurn 16
unfolding hex_digit
each-in-turn = ((((((((((((((((tt, refl), refl), refl), refl), refl), refl), refl), refl), refl), refl), refl), refl), refl), refl), refl), refl)

pub in_turn : (d : ℕ) → d < 16 → get_or hex_digits_in_turn d 0 ≡ hex_digit d
in_turn d h = from_each InTurn 16 each-in-turn d h
