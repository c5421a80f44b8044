-- Casts between a float and an integer z, with z as the pair (plus_z z, minus_z z): an integer of at most 2 ^ 53 is exact as a float, and
-- a float cast to an integer loses its fraction. Sums and differences of integers, over pairs. Assumes nothing.
use mathlib.Core.Path.{◌≡◌, refl, sym, subst}
use Prim.Native.Nat.{ℕ, zero, suc, ◌+◌, ◌-◌, ◌*◌, ◌/◌, ◌%◌, ◌^◌, ◌≤◌, ◌<◌, min}
use native.Mathlib.Nat.{div-add-mod', mod-lt, div-lt_iff_lt-mul}
use native.Mathlib.Omega.{arith}
use mathlib.Core.Bool.{Bool, true, false, not, cond}
use lib.IntN.{ℤ, pos, negsuc, neg_ℤ, sub_ℕ, ◌+ℤ◌, ◌-ℤ◌}
use lib.Signed.{mag}
use lib.Dec.{T, ltb, ltb→lt, nltb→le}
use mathlib.Core.Logic.{◌⊎◌, inl, inr}
use lib.Ieee.{Float, nan, inf, fin, binary64, up, down, of_int, to_signed}
use lib.Ieee.Fits.{down_pos}
use lib.Ieee.Back.{round_whole}
use lib.Ieee.Nearest.{div_same}
use lib.Ieee.Exact.{HasValue}
use Rattle.rounding.specs.Value.{Signed, Val}
pub use Rattle.rounding.specs.Value.{plus_z, minus_z}
use Rattle.rounding.proofs.Signed.{signed_lt}

-- exact, up to 2 ^ 53
pub of_int_val : (z : ℤ) → plus_z z ≤ 2 ^ 53 → minus_z z ≤ 2 ^ 53 → Val (of_int binary64 z) (plus_z z) (minus_z z) 1
unfolding of_int
of_int_val (pos a) h k = record { sign = false; size = a; has = round_whole binary64 false a h; is = omega arith }
of_int_val (negsuc a) h k = record { sign = true; size = suc a; has = round_whole binary64 true (suc a) k; is = omega arith }

-- z is (p - n) / d without its fraction: what is cut off has the value's own sign, and is less than 1
pub data Cut (p n d : ℕ) (z : ℤ) : Type 0 where
  up_cut : minus_z z ≡ 0 → plus_z z * d + n ≤ p → p < plus_z z * d + n + d → Cut p n d z
  down_cut : plus_z z ≡ 0 → minus_z z * d + p ≤ n → n < minus_z z * d + p + d → Cut p n d z

capped : (a c : ℕ) → a < c → min a (c - 1) ≡ a
capped a c h = omega arith

capped' : (a c : ℕ) → a < c → min a c ≡ a
capped' a c h = omega arith

neg_plus : (a : ℕ) → plus_z (neg_ℤ (pos a)) ≡ 0
neg_plus zero = refl
neg_plus (suc a) = refl

neg_minus : (a : ℕ) → minus_z (neg_ℤ (pos a)) ≡ a
neg_minus zero = refl
neg_minus (suc a) = refl

quot : (m : ℕ) (e : ℤ) (A D : ℕ) → 0 < D → m * up e * D ≡ A * down e → m * up e / down e ≡ A / D
quot m e A D E h = div_same (m * up e) (down e) A D (down_pos e) E h

trunc_has : (h : ℕ) (x : Float) (s : Bool) (A D p n : ℕ) → 0 < D → A < 2 ^ h * D → HasValue x s A D → Signed s A p n → Cut p n D (to_signed h x)
unfolding to_signed
trunc_has h nan s A D p n E l v i = absurd v
trunc_has h (inf t) s A D p n E l v i = absurd v
trunc_has h (fin t m e) s A D p n E l v i = go t (subst (λ (b : Bool). Signed b A p n) (sym v.0) i)
  where
    q : m * up e / down e ≡ A / D
    q = quot m e A D E v.1

    small : A / D < 2 ^ h
    small = (div-lt_iff_lt-mul E).1 l

    parts : A / D * D + A % D ≡ A
    parts = div-add-mod' A D

    rest : A % D < D
    rest = mod-lt A E

    go : (b : Bool) → Signed b A p n → Cut p n D (cond b (neg_ℤ (pos (min (m * up e / down e) (2 ^ h)))) (pos (min (m * up e / down e) (2 ^ h - 1))))
    go false j =
        subst (λ (x : ℕ). Cut p n D (pos (min x (2 ^ h - 1)))) (sym q)
        (subst (λ (x : ℕ). Cut p n D (pos x)) (sym (capped (A / D) (2 ^ h) small)) (up_cut refl (omega (arith, parts)) (omega (arith, parts, rest))))
    go true j =
        subst (λ (x : ℕ). Cut p n D (neg_ℤ (pos (min x (2 ^ h))))) (sym q)
        (subst (λ (x : ℕ). Cut p n D (neg_ℤ (pos x))) (sym (capped' (A / D) (2 ^ h) small))
        (down_cut (neg_plus (A / D)) (rw neg_minus (omega (arith, parts))) (rw neg_minus (omega (arith, parts, rest)))))

-- to_signed 63 is Rust's cast to i64: a float below 2 ^ h in size loses its fraction, and nothing else
pub trunc_val : (h : ℕ) {x : Float} {p n D : ℕ} → 0 < D → p < n + 2 ^ h * D → n < p + 2 ^ h * D → Val x p n D → Cut p n D (to_signed h x)
trunc_val h {x} {p} {n} {D} E u l v = trunc_has h x v.sign v.size D p n E (signed_lt v.sign v.size p n (2 ^ h * D) v.is u l) v.has v.is

-- ---- integers over pairs, for `omega`
sub_n_pair : (a b : ℕ) → plus_z (sub_ℕ a b) + b ≡ minus_z (sub_ℕ a b) + a
sub_n_pair a b = go (ltb a b) (ltb→lt a b) (nltb→le a b)
  where
    go : (u : Bool) → (T u → a < b) → (T (not u) → b ≤ a)
        → plus_z (cond u (negsuc (b - suc a)) (pos (a - b))) + b ≡ minus_z (cond u (negsuc (b - suc a)) (pos (a - b))) + a
    go true h k = let l : a < b = h tt in omega arith
    go false h k = let l : b ≤ a = k tt in omega arith

-- a + b, over pairs
pub add_pair : (a b : ℤ) → plus_z (a +ℤ b) + (minus_z a + minus_z b) ≡ minus_z (a +ℤ b) + (plus_z a + plus_z b)
add_pair (pos a) (pos b) = omega arith
add_pair (pos a) (negsuc b) = let e : plus_z (sub_ℕ a (suc b)) + suc b ≡ minus_z (sub_ℕ a (suc b)) + a = sub_n_pair a (suc b) in omega arith
add_pair (negsuc a) (pos b) = let e : plus_z (sub_ℕ b (suc a)) + suc a ≡ minus_z (sub_ℕ b (suc a)) + b = sub_n_pair b (suc a) in omega arith
add_pair (negsuc a) (negsuc b) = omega arith

neg_pair : (z : ℤ) → (plus_z (neg_ℤ z) ≡ minus_z z) × (minus_z (neg_ℤ z) ≡ plus_z z)
neg_pair (pos zero) = (refl, refl)
neg_pair (pos (suc a)) = (refl, refl)
neg_pair (negsuc a) = (refl, refl)

-- a - b, over pairs
pub sub_pair : (a b : ℤ) → plus_z (a -ℤ b) + (minus_z a + plus_z b) ≡ minus_z (a -ℤ b) + (plus_z a + minus_z b)
sub_pair a b = omega (arith, add_pair a (neg_ℤ b), (neg_pair b).0, (neg_pair b).1)

-- one of the two is 0
pub one_side : (z : ℤ) → (plus_z z ≡ 0) ⊎ (minus_z z ≡ 0)
one_side (pos a) = inr refl
one_side (negsuc a) = inl refl

-- -B ≤ z < B, as the machine's range of a signed integer has it
pub mag_pair : (z : ℤ) (B : ℕ) → plus_z z < B → minus_z z ≤ B → mag z < B
mag_pair (pos a) B h k = h
mag_pair (negsuc a) B h k = k

-- where z = a - b, its two sides are at most a and b
pub pair_le : (z : ℤ) (a b : ℕ) → plus_z z + b ≡ minus_z z + a → (plus_z z ≤ a) × (minus_z z ≤ b)
pair_le z a b e = go (one_side z)
  where
    go : (plus_z z ≡ 0) ⊎ (minus_z z ≡ 0) → (plus_z z ≤ a) × (minus_z z ≤ b)
    go (inl s) = omega arith
    go (inr s) = omega arith

-- the sides of a difference
pub sub_le : (a b : ℤ) → (plus_z (a -ℤ b) ≤ plus_z a + minus_z b) × (minus_z (a -ℤ b) ≤ minus_z a + plus_z b)
sub_le a b = pair_le (a -ℤ b) (plus_z a + minus_z b) (minus_z a + plus_z b) (sub_pair a b)
