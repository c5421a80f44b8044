-- Blanks and digits in front of what is left of a line, one byte at a time. Assumes nothing.
use Prim.Native.Nat.{ℕ, zero, suc, ◌+◌, ◌*◌, ◌^◌, ◌<◌, ◌≤◌}
use native.Mathlib.Omega.{arith}
use native.Mathlib.Nat.{pow-suc, pow-le-pow_right}
use native.Mathlib.Numerals.{add-one}
use mathlib.Core.Path.{◌≡◌, refl, ap, subst, ◌∙◌}
use mathlib.Core.List.{List, [], ◌∷◌}
use mathlib.Core.Bool.{Bool, true, false, cond}
use lib.ListN.{length, take, drop, get_or}
use Rattle.std.specs.List.{take_while}
use Rattle.std.proofs.lemmas.List.Sums.{take_while-cons}
use Rattle.numerals.specs.digits.Decimal.{is_digit, AllDigits}
use Rattle.numerals.proofs.digits.Decimal.{digit_bounds}
use Rattle.leap_lists.specs.lines.Scan.{line_blank, behind_blanks, first_digits}
use Prim.Native.Nat.{◌-◌}
use mathlib.Core.Path.{sym}
use lib.ListN.{drop_of_length-le, get_or-eq_default}
use lib.Seq.{drop-cons}
use lib.Dec.{ltb}
use borrow.Author.Tests.{ltb-true, ltb-false}
use Rattle.numerals.specs.digits.Decimal.{value, number}
use Rattle.numerals.proofs.digits.Decimal.{number-below}

-- ---- digits in front
pub none_first : (k c : ℕ) (cs : List ℕ) → is_digit c ≡ false → first_digits k (c ∷ cs) ≡ []
unfolding first_digits
none_first zero c cs e = refl
none_first (suc k) c cs e = rw e

pub none_left : (k : ℕ) → first_digits k [] ≡ []
unfolding first_digits
none_left zero = refl
none_left (suc k) = refl

-- what is read is digits, not more than asked for
pub all-leading : (k : ℕ) (s : List ℕ) → AllDigits (first_digits k s)
unfolding first_digits AllDigits
all-leading zero s = tt
all-leading (suc k) [] = tt
all-leading (suc k) (c ∷ cs) = either (is_digit c) refl (all-leading k cs)
  where
    either : (b : Bool) → is_digit c ≡ b → AllDigits (first_digits k cs) → AllDigits (cond b (c ∷ first_digits k cs) [])
    either true e h = let g = digit_bounds c e in (g.0, g.1, h)
    either false e h = tt

-- ---- blanks and digits counted by the library, which no contract cites
pub blanks_counted : (r : Bool) (s : List ℕ) → drop (length (take_while (line_blank r) s)) s ≡ behind_blanks r s
unfolding behind_blanks
blanks_counted r [] = refl
blanks_counted r (c ∷ cs) =
    ap (λ (l : List ℕ). drop (length l) (c ∷ cs)) (take_while-cons (line_blank r) c cs) ∙ either (line_blank r c) (blanks_counted r cs)
  where
    either : (b : Bool) → drop (length (take_while (line_blank r) cs)) cs ≡ behind_blanks r cs
        → drop (length (cond b (c ∷ take_while (line_blank r) cs) [])) (c ∷ cs) ≡ cond b (behind_blanks r cs) (c ∷ cs)
    either true h = h
    either false h = refl

pub digits_counted : (k : ℕ) (s : List ℕ) → take_while is_digit (take k s) ≡ first_digits k s
unfolding first_digits
digits_counted zero s = refl
digits_counted (suc k) [] = refl
digits_counted (suc k) (c ∷ cs) = take_while-cons is_digit c (take k cs) ∙ ap (λ (l : List ℕ). cond (is_digit c) (c ∷ l) []) (digits_counted k cs)

pub digits_taken : (k : ℕ) (s : List ℕ) → take (length (first_digits k s)) s ≡ first_digits k s
unfolding first_digits
digits_taken zero s = refl
digits_taken (suc k) [] = refl
digits_taken (suc k) (c ∷ cs) = either (is_digit c) (digits_taken k cs)
  where
    either : (b : Bool) → take (length (first_digits k cs)) cs ≡ first_digits k cs
        → take (length (cond b (c ∷ first_digits k cs) [])) (c ∷ cs) ≡ cond b (c ∷ first_digits k cs) []
    either true h = ap (λ (l : List ℕ). c ∷ l) h
    either false h = refl

-- ---- a digit of many
pub digit_at : (s : List ℕ) (i : ℕ) → AllDigits s → i < length s → (48 ≤ get_or s i 0) × (get_or s i 0 ≤ 57)
unfolding AllDigits
digit_at [] i a h = absurd (let no : ⊥ = omega arith in no)
digit_at (c ∷ cs) zero a h = (a.0, a.1)
digit_at (c ∷ cs) (suc i) a h = digit_at cs i a.2 (omega arith)

-- a number of fewer than 12 digits has room for one more
pub room_for_one : (v i : ℕ) → i < 12 → v < 10 ^ i → v < 100000000000
room_for_one v i h e = let top : 10 ^ i ≤ 10 ^ 11 = pow-le-pow_right {n = 10} (omega arith) {i = i} {j = 11} (omega arith) in omega (arith, e)

pub tenfold : (v d i : ℕ) → v < 10 ^ i → d ≤ 9 → 10 * v + d < 10 ^ (i + 1)
tenfold v d i h k = rw (add-one i, pow-suc 10 i) (more v d (10 ^ i) h k)
  where
    more : (w d P : ℕ) → w < P → d ≤ 9 → 10 * w + d < P * 10
    more w d P h k = omega arith

pub of_four : (v n : ℕ) → v < 10 ^ n → n ≡ 4 → v < 10000
of_four v n h e = subst (λ (k : ℕ). v < 10 ^ k) e h

-- ---- a text read by an index, one byte at a time
-- what is left from i on, where there is a byte
pub byte_first : (t : List ℕ) (i : ℕ) → i < length t → drop i t ≡ get_or t i 0 ∷ drop (i + 1) t
byte_first t i h = rw (add-one i) (drop-cons t i 0 h)

-- a byte that is not 0 stands inside
pub inside : (t : List ℕ) (i c : ℕ) → 0 < c → get_or t i 0 ≡ c → i < length t
inside t i c p e = either (ltb i (length t)) refl
  where
    either : (b : Bool) → ltb i (length t) ≡ b → i < length t
    either true g = ltb-true i (length t) g
    either false g =
        let z : get_or t i 0 ≡ 0 = get_or-eq_default t 0 (ltb-false i (length t) g) in
        let no : ⊥ = omega arith in absurd no

-- ---- blanks
blank_first : (r : Bool) (c : ℕ) (cs : List ℕ) → line_blank r c ≡ true → behind_blanks r (c ∷ cs) ≡ behind_blanks r cs
unfolding behind_blanks
blank_first r c cs e = rw e

no_blank_first : (r : Bool) (c : ℕ) (cs : List ℕ) → line_blank r c ≡ false → behind_blanks r (c ∷ cs) ≡ c ∷ cs
unfolding behind_blanks
no_blank_first r c cs e = rw e

pub blank_skipped : (r : Bool) (t : List ℕ) (i : ℕ) → i < length t → line_blank r (get_or t i 0) ≡ true
    → behind_blanks r (drop i t) ≡ behind_blanks r (drop (i + 1) t)
blank_skipped r t i h e = ap (behind_blanks r) (byte_first t i h) ∙ blank_first r (get_or t i 0) (drop (i + 1) t) e

pub blanks-stop : (r : Bool) (t : List ℕ) (i : ℕ) → i < length t → line_blank r (get_or t i 0) ≡ false → drop i t ≡ behind_blanks r (drop i t)
blanks-stop r t i h e = byte_first t i h ∙ sym (ap (behind_blanks r) (byte_first t i h) ∙ no_blank_first r (get_or t i 0) (drop (i + 1) t) e)

pub blanks-out : (r : Bool) (t : List ℕ) (i : ℕ) → length t ≤ i → drop i t ≡ behind_blanks r (drop i t)
unfolding behind_blanks
blanks-out r t i h = rw (drop_of_length-le t h)

-- ---- digits
one-longer : (k c : ℕ) (cs : List ℕ) → is_digit c ≡ true → first_digits (suc k) (c ∷ cs) ≡ c ∷ first_digits k cs
unfolding first_digits
one-longer k c cs e = rw e

pub none_more : (s : List ℕ) → first_digits 0 s ≡ []
unfolding first_digits
none_more s = refl

pub digit_inside : (t : List ℕ) (i : ℕ) → is_digit (get_or t i 0) ≡ true → i < length t
digit_inside t i e = let k = digit_bounds (get_or t i 0) e in inside t i (get_or t i 0) (omega (arith, k.0)) refl

pub leading-more : (t : List ℕ) (i k : ℕ) → is_digit (get_or t i 0) ≡ true → first_digits (suc k) (drop i t) ≡ get_or t i 0 ∷ first_digits k (drop (i + 1) t)
leading-more t i k e = ap (first_digits (suc k)) (byte_first t i (digit_inside t i e)) ∙ one-longer k (get_or t i 0) (drop (i + 1) t) e

pub leading-stop : (t : List ℕ) (i k : ℕ) → is_digit (get_or t i 0) ≡ false → first_digits k (drop i t) ≡ []
leading-stop t i k e = either (ltb i (length t)) refl
  where
    either : (b : Bool) → ltb i (length t) ≡ b → first_digits k (drop i t) ≡ []
    either true g = ap (first_digits k) (byte_first t i (ltb-true i (length t) g)) ∙ none_first k (get_or t i 0) (drop (i + 1) t) e
    either false g = ap (first_digits k) (drop_of_length-le t (ltb-false i (length t) g)) ∙ none_left k

-- ---- a run of digits: v is read, up to index i, and `left` more may follow
pub record RunsOn (most at : ℕ) (t : List ℕ) (v i left : ℕ) : Type 0 where
  pub said : value v (first_digits left (drop i t)) ≡ number (first_digits most (drop at t))
  pub many : i + length (first_digits left (drop i t)) ≡ at + length (first_digits most (drop at t))
  pub inside : i ≤ length t
  pub few : left ≤ most
  pub small : v < 10 ^ (most - left)

pub run-start : (most at : ℕ) (t : List ℕ) → at ≤ length t → RunsOn most at t 0 at most
run-start most at t h =
    record { said = refl; many = refl; inside = h; few = omega arith; small = (let z : most - most ≡ 0 = omega arith in rw z (omega arith)) }

-- the number stays below 10 ^ 12
pub run_small : (most at : ℕ) (t : List ℕ) (v i left : ℕ) → most ≤ 12 → RunsOn most at t v i left → v < 1000000000000
run_small most at t v i left h r =
    let top : 10 ^ (most - left) ≤ 10 ^ 12 = pow-le-pow_right {n = 10} (omega arith) {i = most - left} {j = 12} (omega arith) in omega (arith, r.small)

ten_and : (w d P : ℕ) → w < P → d ≤ 9 → 10 * w + d < P * 10
ten_and w d P h k = omega arith

pub run_on : (most at : ℕ) (t : List ℕ) (v i left next : ℕ) → is_digit (get_or t i 0) ≡ true → next ≡ 10 * v + (get_or t i 0 - 48)
    → RunsOn most at t v i (suc left) → RunsOn most at t next (i + 1) left
run_on most at t v i left next d e r =
    let more = leading-more t i left d in
    let bounds = digit_bounds (get_or t i 0) d in
    let in-it = digit_inside t i d in
    let p : most - left ≡ suc (most - suc left) = omega (arith, r.few) in
    record {
      said = ap (λ (n : ℕ). value n (first_digits left (drop (i + 1) t))) e ∙ sym (ap (value v) more) ∙ r.said;
      many = omega (arith, ap length more, r.many);
      inside = omega arith;
      few = omega (arith, r.few);
      small = rw (e, p, pow-suc 10 (most - suc left)) (ten_and v (get_or t i 0 - 48) (10 ^ (most - suc left)) r.small (omega (arith, bounds.1)));
    }

-- a number that is read, and the index behind its digits
pub record Run : Type 0 where
  pub value : ℕ
  pub end : ℕ

-- r tells of the digits in front of what t has from `at` on
pub record DigitsAt (most at : ℕ) (t : List ℕ) (r : Run) : Type 0 where
  pub value : r.value ≡ number (first_digits most (drop at t))
  pub end : r.end ≡ at + length (first_digits most (drop at t))
  pub within : r.end ≤ length t

-- nothing more is read
pub run_ends : (most at : ℕ) (t : List ℕ) (v i left : ℕ) → first_digits left (drop i t) ≡ [] → RunsOn most at t v i left
    → DigitsAt most at t (record { value = v; end = i })
run_ends most at t v i left e r =
    record { value = sym (ap (value v) e) ∙ r.said; end = omega (arith, ap length e, r.many); within = r.inside }

pub few-leading : (k : ℕ) (s : List ℕ) → length (first_digits k s) ≤ k
unfolding first_digits
few-leading zero s = omega arith
few-leading (suc k) [] = omega arith
few-leading (suc k) (c ∷ cs) = either (is_digit c) (few-leading k cs)
  where
    either : (b : Bool) → length (first_digits k cs) ≤ k → length (cond b (c ∷ first_digits k cs) []) ≤ suc k
    either true h = omega arith
    either false h = omega arith

pub leading-small : (k : ℕ) (s : List ℕ) → number (first_digits k s) < 10 ^ k
leading-small k s =
    let top : 10 ^ length (first_digits k s) ≤ 10 ^ k = pow-le-pow_right {n = 10} (omega arith) (few-leading k s) in
    omega (arith, number-below (first_digits k s) (all-leading k s))
