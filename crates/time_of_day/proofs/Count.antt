-- The count of milliseconds of a fraction of a day: it is not below 0, and within 1 / 2 + 2 ^ -24 of the exact time of day. Assumes nothing.
use mathlib.Core.Path.{◌≡◌, refl, sym, ap, ◌∙◌, subst}
use mathlib.Core.Logic.{◌⊎◌, inl, inr}
use Prim.Native.Nat.{ℕ, ◌+◌, ◌*◌, ◌≤◌, ◌<◌}
use native.Mathlib.Nat.{le_trans, le_of_eq, le_of_lt, lt_of_le_of_lt, lt_of_lt_of_le, mul_comm, mul_assoc, mul_left_comm, mul-add, add-mul, mul-pos}
use native.Mathlib.Nat.{mul-le-mul_left, le_of_mul-le-mul_right, lt_of_mul-lt-mul_right, zero-mul}
use native.Mathlib.Omega.{arith}
use mathlib.Core.Bool.{Bool}
use lib.IntN.{ℤ, pos, negsuc}
use lib.Ieee.{Float, binary64, mul}
use Rattle.rounding.specs.Value.{Val, L}
use Rattle.rounding.proofs.Casts.{plus_z, minus_z, one_side}
use Rattle.rounding.proofs.Range.{Between}
use Rattle.time_of_day.specs.Milliseconds.{thousand_f, fraction_seconds, millis_of}
use Rattle.time_of_day.specs.Nearest.{Nearest}
use Rattle.time_of_day.specs.ExactTime.{TimeWithin}
use Rattle.time_of_day.proofs.Chain.{U, U_pos, L-is-U, u-small, leap-part, Chained, chained}
use Rattle.time_of_day.proofs.Rounded.{IsWhole, rounded}
use Rattle.time_of_day.proofs.Fractions.{AsUnits, WithinOne, as_fraction, at_most, at_least}

-- ---- the count is not below 0
not_below : (p n u l m k : ℕ) → l ≡ 9007199254740992 * u → 0 < u → n ≤ p + 305445864 * u → k ≡ 0 → 2 * (m + p) ≤ 2 * (k + n) + l → m < 1 * l
not_below p n u l m k e h g f i = omega arith

pos_of : (z : ℤ) → minus_z z ≡ 0 → z ≡ pos (plus_z z)
pos_of (pos a) h = refl
pos_of (negsuc a) h = let w : ⊥ = omega arith in absurd w

lt_one : (m : ℕ) → m < 1 → m ≡ 0
lt_one m h = omega arith

no_minus : (z : ℤ) (p n : ℕ) → IsWhole z p n → n ≤ p + 305445864 * U → minus_z z ≡ 0
no_minus z p n w h = go (one_side z)
  where
    go : (plus_z z ≡ 0) ⊎ (minus_z z ≡ 0) → minus_z z ≡ 0
    go (inl e) = lt_one (minus_z z) (lt_of_mul-lt-mul_right L
        (not_below p n U L (minus_z z * L) (plus_z z * L) L-is-U U_pos h (ap (λ (x : ℕ). x * L) e ∙ zero-mul L) w.under))
    go (inr e) = e

-- ---- the chain's result, rounded
module _ (F B C E p n k : ℕ) (G : 0 < E) (hf : F < L) (hb : B ≤ C + E) (hc : C ≤ B + E)
    (over : E * p + 1000 * (F * C) ≤ E * n + 86400000 * (E * F) + 1000 * (F * B) + 305445864 * (E * U))
    (under : E * n + 86400000 * (E * F) + 1000 * (F * B) ≤ E * p + 1000 * (F * C) + 305445864 * (E * U)) where
  E-L : E * L ≡ 9007199254740992 * (E * U)
  E-L = ap (λ (z : ℕ). E * z) L-is-U ∙ mul_left_comm E 9007199254740992 U

  E-small : 1000000000 * (E * U) ≤ E * L
  E-small = le_trans (le_of_eq (mul_left_comm 1000000000 E U)) (mul-le-mul_left E u-small)

  fb : F * B ≤ F * C + E * L
  fb = le_trans (leap-part F B C E hf hb) (le_of_eq (ap (λ (z : ℕ). F * C + z) (mul_comm L E)))

  fc : F * C ≤ F * B + E * F
  fc = le_trans (mul-le-mul_left F hc) (le_of_eq (mul-add F B E ∙ ap (λ (z : ℕ). F * B + z) (mul_comm F E)))

  ef : E * F ≤ E * L
  ef = mul-le-mul_left E (le_of_lt hf)

  E_pos : 0 < E * U
  E_pos = mul-pos G U_pos

  pub high-51 : p < n + 2251799813685248 * L
  high-51 = lt_of_mul-lt-mul_right E
      (lt_of_lt_of_le (lt_of_le_of_lt (le_of_eq (mul_comm p E)) (go (E * p) (E * n) (E * F) (F * B) (F * C) (E * U) (E * L) over ef fb E-small E_pos))
      (le_of_eq (sym (add-mul n (2251799813685248 * L) E ∙ ap (λ (z : ℕ). z + 2251799813685248 * L * E) (mul_comm n E)
      ∙ ap (λ (z : ℕ). E * n + z) (mul_assoc 2251799813685248 L E ∙ ap (λ (z : ℕ). 2251799813685248 * z) (mul_comm L E))))))
    where
      go : (p n f b c u l : ℕ) → p + 1000 * c ≤ n + 86400000 * f + 1000 * b + 305445864 * u → f ≤ l → b ≤ c + l → 1000000000 * u ≤ l → 0 < u
          → p < n + 2251799813685248 * l
      go p n f b c u l a d h e g = omega arith

  pub high : p < n + 4503599627370496 * L
  high = go p n L high-51
    where
      go : (p n l : ℕ) → p < n + 2251799813685248 * l → p < n + 4503599627370496 * l
      go p n l h = omega arith

  pub low : n ≤ p + 305445864 * U
  low = le_of_mul-le-mul_right {k = E}
      (le_trans (le_of_eq (mul_comm n E))
      (le_trans (go (E * p) (E * n) (E * F) (F * B) (F * C) (E * U) under fc)
      (le_of_eq (sym (add-mul p (305445864 * U) E ∙ ap (λ (z : ℕ). z + 305445864 * U * E) (mul_comm p E)
      ∙ ap (λ (z : ℕ). E * p + z) (mul_assoc 305445864 U E ∙ ap (λ (z : ℕ). 305445864 * z) (mul_comm U E))))))) G
    where
      go : (p n f b c u : ℕ) → n + 86400000 * f + 1000 * b ≤ p + 1000 * c + 305445864 * u → c ≤ b + f → n ≤ p + 305445864 * u
      go p n f b c u a d = omega arith

  pub low-51 : n < p + 2251799813685248 * L
  low-51 = go p n U L low u-small U_pos
    where
      go : (p n u l : ℕ) → n ≤ p + 305445864 * u → 1000000000 * u ≤ l → 0 < u → n < p + 2251799813685248 * l
      go p n u l a e g = omega arith

  pub low' : n < p + 4503599627370496 * L
  low' = go p n L low-51
    where
      go : (p n l : ℕ) → n < p + 2251799813685248 * l → n < p + 4503599627370496 * l
      go p n l h = omega arith

  module _ (w-over : 2 * (k * L + n) ≤ 2 * (0 * L + p) + L) (w-under : 2 * (0 * L + p) ≤ 2 * (k * L + n) + L) (W : ℕ) (long : W + C ≡ 86400 * E + B) where
    nought : (p : ℕ) → 0 * L + p ≡ p
    nought p = omega arith

    term : (k n : ℕ) → E * (2 * (k * L + n)) ≡ 2 * (E * (k * L)) + 2 * (E * n)
    term k n = mul_left_comm E 2 (k * L + n) ∙ ap (λ (z : ℕ). 2 * z) (mul-add E (k * L) n) ∙ mul-add 2 (E * (k * L)) (E * n)

    -- E times the rounding
    t-over : 2 * (E * (k * L)) + 2 * (E * n) ≤ 2 * (E * p) + E * L
    t-over = le_trans (le_of_eq (sym (term k n)))
        (le_trans (mul-le-mul_left E w-over)
        (le_of_eq (mul-add E (2 * (0 * L + p)) L ∙ ap (λ (z : ℕ). z + E * L) (mul_left_comm E 2 (0 * L + p) ∙ ap (λ (z : ℕ). 2 * (E * z)) (nought p)))))

    t-under : 2 * (E * p) ≤ 2 * (E * (k * L)) + 2 * (E * n) + E * L
    t-under = le_trans (le_of_eq (sym (mul_left_comm E 2 (0 * L + p) ∙ ap (λ (z : ℕ). 2 * (E * z)) (nought p))))
        (le_trans (mul-le-mul_left E w-under) (le_of_eq (mul-add E (2 * (k * L + n)) L ∙ ap (λ (z : ℕ). z + E * L) (term k n))))

    exact-is : 1000 * (F * W) + 1000 * (F * C) ≡ 86400000 * (E * F) + 1000 * (F * B)
    exact-is = go (F * W) (F * C) (E * F) (F * B)
        (sym (mul-add F W C) ∙ ap (λ (z : ℕ). F * z) long ∙ mul-add F (86400 * E) B
        ∙ ap (λ (z : ℕ). z + F * B) (mul_left_comm F 86400 E ∙ ap (λ (z : ℕ). 86400 * z) (mul_comm F E)))
      where
        go : (w c f b : ℕ) → w + c ≡ 86400 * f + b → 1000 * w + 1000 * c ≡ 86400000 * f + 1000 * b
        go w c f b e = omega arith

    shift : k * E * L ≡ E * (k * L)
    shift = ap (λ (z : ℕ). z * L) (mul_comm k E) ∙ mul_assoc E k L

    pub close : TimeWithin 16777216 8388609 (k * E) F L W E
    close = record {
      over = go (k * E * L) (1000 * (F * W)) (L * E) (E * (k * L)) (E * n) (E * p) (E * F) (F * B) (F * C) (E * U) (E * L) shift exact-is (mul_comm L E)
          t-over over E-L;
      under = go' (k * E * L) (1000 * (F * W)) (L * E) (E * (k * L)) (E * n) (E * p) (E * F) (F * B) (F * C) (E * U) (E * L) shift exact-is (mul_comm L E)
          t-under under E-L;
    }
      where
        go : (a x d a' n p f b c u l : ℕ) → a ≡ a' → x + 1000 * c ≡ 86400000 * f + 1000 * b → d ≡ l → 2 * a' + 2 * n ≤ 2 * p + l
            → p + 1000 * c ≤ n + 86400000 * f + 1000 * b + 305445864 * u → l ≡ 9007199254740992 * u
            → 16777216 * a ≤ 16777216 * x + 8388609 * d
        go a x d a' n p f b c u l e g h i j m = omega arith

        go' : (a x d a' n p f b c u l : ℕ) → a ≡ a' → x + 1000 * c ≡ 86400000 * f + 1000 * b → d ≡ l → 2 * p ≤ 2 * a' + 2 * n + l
            → n + 86400000 * f + 1000 * b ≤ p + 1000 * c + 305445864 * u → l ≡ 9007199254740992 * u
            → 16777216 * x ≤ 16777216 * a + 8388609 * d
        go' a x d a' n p f b c u l e g h i j m = omega arith

-- ---- what the count is
pub record CountedTo (how : Bool → ℕ → ℕ → ℕ) (f l : Float) (u : AsUnits f) : Type 0 where
  pub k : ℕ
  pub is : millis_of how f l ≡ pos k
  pub close : (B C E W : ℕ) → 0 < E → Val l B C E → W + C ≡ 86400 * E + B → TimeWithin 16777216 8388609 (k * E) u.F L W E

module _ (how : Bool → ℕ → ℕ → ℕ) (rule : Nearest how) (f l : Float) (u : AsUnits f) (h : WithinOne l) where
  module _ (B C E : ℕ) (G : 0 < E) (v : Val l B C E) where
    c : Chained (mul binary64 thousand_f (fraction_seconds f l)) u.F B C E
    c = chained u.F B C E f l u.val v G u.most (at_most G v h) (at_least G v h)

    w : IsWhole (millis_of how f l) c.p c.n
    unfolding millis_of
    w = rounded how rule c.val (high u.F B C E c.p c.n 0 G u.most (at_most G v h) (at_least G v h) c.over c.under)
        (low' u.F B C E c.p c.n 0 G u.most (at_most G v h) (at_least G v h) c.over c.under)

    none : minus_z (millis_of how f l) ≡ 0
    none = no_minus (millis_of how f l) c.p c.n w (low u.F B C E c.p c.n 0 G u.most (at_most G v h) (at_least G v h) c.over c.under)

    wo : 2 * (plus_z (millis_of how f l) * L + c.n) ≤ 2 * (0 * L + c.p) + L
    wo = subst (λ (m : ℕ). 2 * (plus_z (millis_of how f l) * L + c.n) ≤ 2 * (m * L + c.p) + L) none w.over

    wu : 2 * (0 * L + c.p) ≤ 2 * (plus_z (millis_of how f l) * L + c.n) + L
    wu = subst (λ (m : ℕ). 2 * (m * L + c.p) ≤ 2 * (plus_z (millis_of how f l) * L + c.n) + L) none w.under

    close_at : (W : ℕ) → W + C ≡ 86400 * E + B → TimeWithin 16777216 8388609 (plus_z (millis_of how f l) * E) u.F L W E
    close_at W long = close u.F B C E c.p c.n (plus_z (millis_of how f l)) G u.most (at_most G v h) (at_least G v h) c.over c.under wo wu W long

  pub counted : CountedTo how f l u
  counted =
      let a = as_fraction l h in
      record {
        k = plus_z (millis_of how f l);
        is = pos_of (millis_of how f l) (none a.B a.C a.E a.some a.val);
        close =
            λ B C E W G v long. close_at B C E G v W long;
      }

-- ---- the product itself is below 2 ^ 51 in size
pub product_between : (f l : Float) (u : AsUnits f) → WithinOne l → Between (mul binary64 thousand_f (fraction_seconds f l)) 51
product_between f l u h =
    let a = as_fraction l h in
    let B = a.B in
    let C = a.C in
    let E = a.E in
    let G = a.some in
    let c = chained u.F B C E f l u.val a.val G u.most (at_most G a.val h) (at_least G a.val h) in
    record {
      p = c.p;
      n = c.n;
      val = c.val;
      high = high-51 u.F B C E c.p c.n 0 G u.most (at_most G a.val h) (at_least G a.val h) c.over c.under;
      low = low-51 u.F B C E c.p c.n 0 G u.most (at_most G a.val h) (at_least G a.val h) c.over c.under;
    }
