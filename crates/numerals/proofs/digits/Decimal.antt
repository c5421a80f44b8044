-- Decimal digits: a written number reads back as itself, has only digits and as many as its size, and a longer text of digits is worth its parts.
-- Assumes nothing.
use Prim.Native.Nat.{ℕ, zero, suc, ◌+◌, ◌-◌, ◌*◌, ◌/◌, ◌%◌, ◌^◌, ◌<◌, ◌≤◌}
use native.Mathlib.Omega.{arith}
use native.Mathlib.Nat.{add-mul, mul_assoc, mul-le-mul_right, pow-suc}
use mathlib.Core.Path.{◌≡◌, refl, sym, ap, ◌∙◌}
use mathlib.Core.List.{List, [], ◌∷◌, ◌++◌}
use mathlib.Core.Bool.{Bool, true, false, cond, and-eq-true_iff}
use lib.ListN.{length, length-append}
use lib.Dec.{leb, ltb}
use borrow.Author.Tests.{leb-true, ltb-true, ltb-false, le-leb, lt-ltb, le-ltb}
use Rattle.numerals.specs.digits.Decimal.{value, number, is_digit, AllDigits, last, digits_in, digits_of}

-- ---- a digit's byte
pub digit_bounds : (c : ℕ) → is_digit c ≡ true → (48 ≤ c) × (c ≤ 57)
unfolding is_digit
digit_bounds c e = let k = (and-eq-true_iff (leb 48 c) (leb c 57)).0 e in (leb-true 48 c k.0, leb-true c 57 k.1)

pub digit_within : (c : ℕ) → 48 ≤ c → c ≤ 57 → is_digit c ≡ true
unfolding is_digit
digit_within c l h = rw (le-leb 48 c l, le-leb c 57 h)

-- ---- reading
pub value-append : (v : ℕ) (cs ds : List ℕ) → value v (cs ++ ds) ≡ value (value v cs) ds
value-append v [] ds = refl
value-append v (c ∷ cs) ds = value-append (10 * v + (c - 48)) cs ds

pub all_append : (cs ds : List ℕ) → AllDigits cs → AllDigits ds → AllDigits (cs ++ ds)
unfolding AllDigits
all_append [] ds h k = k
all_append (c ∷ cs) ds h k = (h.0, h.1, all_append cs ds h.2 k)

-- a digit d, before digits that are worth n and count up to P
tens : (v d P n a b : ℕ) → a ≡ (10 * v + d) * P + n → b ≡ (0 + d) * P + n → a ≡ v * (P * 10) + b
tens v d P n a b e f = omega (arith, add-mul (10 * v) d P, mul_assoc 10 v P, mul_assoc v P 10)

-- what stands in front counts ten times for each digit behind it
pub value-split : (v : ℕ) (cs : List ℕ) → value v cs ≡ v * 10 ^ length cs + number cs
value-split v [] = omega arith
value-split v (c ∷ cs) =
    tens v (c - 48) (10 ^ length cs) (number cs) _ _ (value-split (10 * v + (c - 48)) cs) (value-split (0 + (c - 48)) cs)
    ∙ ap (λ (P : ℕ). v * P + number (c ∷ cs)) (sym (pow-suc 10 (length cs)))

-- and the digits are less than one of it
below : (d P n m : ℕ) → d ≤ 9 → m ≡ (0 + d) * P + n → n < P → m < P * 10
below d P n m k e b = let g : d * P ≤ 9 * P = mul-le-mul_right P k in omega arith

pub number-below : (cs : List ℕ) → AllDigits cs → number cs < 10 ^ length cs
unfolding AllDigits
number-below [] h = omega arith
number-below (c ∷ cs) h =
    let k : c ≤ 57 = h.1 in
    rw (pow-suc 10 (length cs)) (below (c - 48) (10 ^ length cs) (number cs) (number (c ∷ cs)) (omega arith) (value-split (0 + (c - 48)) cs)
    (number-below cs h.2))

-- ---- writing
-- one digit more
pub digit_added : (n : ℕ) (cs : List ℕ) → number cs ≡ n / 10 → number (cs ++ (last n ∷ [])) ≡ n
digit_added n cs e = value-append 0 cs (last n ∷ []) ∙ ap (λ (v : ℕ). value v (last n ∷ [])) e ∙ back
  where
    back : 10 * (n / 10) + (48 + n % 10 - 48) ≡ n
    back = omega arith

module _ (n : ℕ) where
  first : (most : ℕ) → n < 10 → digits_in (suc most) n ≡ last n ∷ []
  unfolding digits_in
  first most h = simp (lt-ltb _ _ h)

  more : (most : ℕ) → 10 ≤ n → digits_in (suc most) n ≡ digits_in most (n / 10) ++ (last n ∷ [])
  unfolding digits_in
  more most h = simp (le-ltb _ _ h)

-- with room for n + 1 digits or more, the digits of n say n
reads-either : (most n : ℕ) → (10 ≤ n → number (digits_in most (n / 10)) ≡ n / 10) → (b : Bool) → ltb n 10 ≡ b → number (digits_in (suc most) n) ≡ n
reads-either most n back true e = ap number (first n most (ltb-true _ _ e)) ∙ one (ltb-true _ _ e)
  where
    one : n < 10 → 10 * 0 + (48 + n % 10 - 48) ≡ n
    one k = omega arith
reads-either most n back false e = ap number (more n most (ltb-false _ _ e)) ∙ digit_added n (digits_in most (n / 10)) (back (ltb-false _ _ e))

reads_in : (most n : ℕ) → n < most → number (digits_in most n) ≡ n
reads_in zero n h = omega arith
reads_in (suc most) n h = reads-either most n (λ k. reads_in most (n / 10) (omega arith)) (ltb n 10) refl

-- every number reads back
pub number_digits : (n : ℕ) → number (digits_of n) ≡ n
unfolding digits_of
number_digits n = reads_in (suc n) n (omega arith)

-- so two numbers with the same digits are one
pub digits-injective : (m n : ℕ) → digits_of m ≡ digits_of n → m ≡ n
digits-injective m n e = sym (number_digits m) ∙ ap number e ∙ number_digits n

-- ---- what is written
one-digit : (n : ℕ) → AllDigits (last n ∷ [])
unfolding AllDigits
one-digit n = (omega arith, omega arith, tt)

all_either : (most n : ℕ) → AllDigits (digits_in most (n / 10)) → (b : Bool) → AllDigits (cond b (last n ∷ []) (digits_in most (n / 10) ++ (last n ∷ [])))
all_either most n h true = one-digit n
all_either most n h false = all_append (digits_in most (n / 10)) (last n ∷ []) h (one-digit n)

all_in : (most n : ℕ) → AllDigits (digits_in most n)
unfolding digits_in AllDigits
all_in zero n = tt
all_in (suc most) n = all_either most n (all_in most (n / 10)) (ltb n 10)

pub digits-all : (n : ℕ) → AllDigits (digits_of n)
unfolding digits_of
digits-all n = all_in (suc n) n

-- as many digits as the size asks for: a number below 10 ^ (k + 1) has at most k + 1
few-either : (most k n : ℕ) → (10 ≤ n → length (digits_in most (n / 10)) ≤ k) → (b : Bool) → ltb n 10 ≡ b → length (digits_in (suc most) n) ≤ suc k
few-either most k n less true e = rw (first n most (ltb-true _ _ e)) (omega arith)
few-either most k n less false e =
    let h : length (digits_in most (n / 10)) ≤ k = less (ltb-false _ _ e) in
    rw (more n most (ltb-false _ _ e)) (simp length-append (omega arith))

few-in : (most k n : ℕ) → n < 10 ^ suc k → length (digits_in most n) ≤ suc k
unfolding digits_in
few-in zero k n h = omega arith
few-in (suc most) zero n h = few-either most zero n (λ g. omega arith) (ltb n 10) refl
few-in (suc most) (suc k) n h = few-either most (suc k) n (λ g. few-in most k (n / 10) (tenth (10 ^ suc k) (rw (pow-suc 10 (suc k)) at h))) (ltb n 10) refl
  where
    tenth : (P : ℕ) → n < P * 10 → n / 10 < P
    tenth P g = omega arith

pub digits-few : (k n : ℕ) → n < 10 ^ suc k → length (digits_of n) ≤ suc k
unfolding digits_of
digits-few k n h = few-in (suc n) k n h

-- never none
pub digits-some : (n : ℕ) → 1 ≤ length (digits_of n)
unfolding digits_of
digits-some n = either (ltb n 10) refl
  where
    either : (b : Bool) → ltb n 10 ≡ b → 1 ≤ length (digits_in (suc n) n)
    either true e = rw (first n n (ltb-true _ _ e)) (omega arith)
    either false e = rw (more n n (ltb-false _ _ e)) (simp length-append (omega arith))
