-- A finite f64 stays finite when a number of at most 2 ^ 969 in size is added to it or taken from it: the largest f64 is 2 ^ 971 below the next power of 2.
-- Assumes nothing.
use Rattle.std.proofs.Common.{◌≡◌, ℕ, ◌+◌, ◌-◌, ◌*◌, ◌^◌, ◌<◌, ◌≤◌, Bool, true, false, not, T, leb, sym, refl, subst, le_trans, le_of_eq, lt_of_lt_of_le}
use Rattle.std.proofs.Common.{lt_of_le_of_lt, mul-le-mul_right, lt_of_mul-lt-mul_right, arith, lit<, lit≤, leb→le}
use lib.Dec.{nleb→lt}
use lib.Ieee.{Float, binary64, add, sub, fits}
use lib.Ieee.Scale.{finite}
use lib.Ieee.Exact.{HasValue}
use Rattle.rounding.specs.Value.{Val, Rounds, L}
use Rattle.rounding.proofs.Signed.{dist, dist_up, signed_le, signed_of, plus-of, minus-of}
use Rattle.rounding.proofs.Value.{L-pos, val-finite-true, add_rounds, sub_rounds}
use Rattle.rounding.proofs.Own.{Rep, val-rep, val-small}
use Rattle.rounding.proofs.Optimal.{step, multiple, step-optimal}
use Rattle.rounding.proofs.Relative.{step-has}

-- the largest f64, in units of 1 / L
abbrev largest : ℕ
largest = 9007199254740991 * 2 ^ 2045

largest_rep : Rep largest
largest_rep = record { q = 9007199254740991; j = 2045; is = refl; small = lit< tt }

rep_largest : (a : ℕ) → Rep a → a < 2 ^ 2098 → a ≤ largest
rep_largest a r h = go (leb (2 ^ 2097) a) (leb→le (2 ^ 2097) a) (nleb→lt (2 ^ 2097) a)
  where
    few : (d : ℕ) → a ≡ d * 2 ^ 2045 → a ≤ largest
    few d e =
        let l : d * 2 ^ 2045 < 9007199254740992 * 2 ^ 2045 = subst (λ (x : ℕ). x < 9007199254740992 * 2 ^ 2045) e (lt_of_lt_of_le h (lit≤ tt)) in
        le_trans (le_of_eq e) (mul-le-mul_right (2 ^ 2045) (less d (lt_of_mul-lt-mul_right (2 ^ 2045) l)))
      where
        less : (d : ℕ) → d < 9007199254740992 → d ≤ 9007199254740991
        less d k = omega arith

    under : (x y z : ℕ) → x < y → y ≤ z → x ≤ z
    under x y z k l = omega arith

    go : (b : Bool) → (T b → 2 ^ 2097 ≤ a) → (T (not b) → a < 2 ^ 2097) → a ≤ largest
    go true f g = let m = multiple 2045 a r (f tt) in few m.0 m.1
    go false f g = under a (2 ^ 2097) largest (g tt) (lit≤ tt)

-- what is at most 2 ^ 2043 units above the largest f64 is rounded down to it
rounded_down : (a : ℕ) → a ≤ largest + 2 ^ 2043 → step a < 2 ^ 2098
rounded_down a h = lt_of_le_of_lt (go a largest (step a) (2 ^ 2043) h (step-optimal a largest largest_rep)) (lit< tt)
  where
    go : (a y s K : ℕ) → a ≤ y + K → (s - a) + (a - s) ≤ (y - a) + (a - y) → s ≤ y + 2 * K
    go a y s K h k = omega arith

pub stays : {z : Float} {P N : ℕ} → P ≤ N + (largest + 2 ^ 2043) → N ≤ P + (largest + 2 ^ 2043) → Rounds binary64 z P N L → finite z ≡ true
stays {z} {P} {N} u l r =
    let h = step-has r.sign r.size (rounded_down r.size (signed_le r.sign r.size P N (largest + 2 ^ 2043) r.is u l)) in
    has-finite-true z r.sign (step r.size) (subst (λ (x : Float). HasValue x r.sign (step r.size) L) (sym r.eq) h)
  where
    has-finite-true : (x : Float) (s : Bool) (a : ℕ) → HasValue x s a L → finite x ≡ true
    has-finite-true x s a v = val-finite-true {x = x} {p = plus-of s a} {n = minus-of s a} {d = L} (record { sign = s; size = a; has = v; is = signed_of s a })

near : (p n q m d B : ℕ) → p ≤ n + d → d ≤ B → q ≤ m + 2 ^ 2043 → p + q ≤ n + m + (B + 2 ^ 2043)
near p n q m d B h k l = go p n q m d B (2 ^ 2043) h k l
  where
    go : (p n q m d B K : ℕ) → p ≤ n + d → d ≤ B → q ≤ m + K → p + q ≤ n + m + (B + K)
    go p n q m d B K h k l = omega arith

-- y is at most 2 ^ 2043 units, 2 ^ 969, in size
module _ {x y : Float} {p n q m : ℕ} (f : T (fits binary64 x)) (v : Val x p n L) (w : Val y q m L) (hq : q ≤ m + 2 ^ 2043) (hm : m ≤ q + 2 ^ 2043) where
  top : dist p n ≤ largest
  top = rep_largest (dist p n) (val-rep f v) (val-small f v)

  pub add_stays : finite (add binary64 x y) ≡ true
  add_stays = stays (near p n q m (dist p n) largest (dist_up p n).0 top hq) (near n p m q (dist p n) largest (dist_up p n).1 top hm)
      (add_rounds binary64 L-pos v w)

  pub sub_stays : finite (sub binary64 x y) ≡ true
  sub_stays = stays (near p n m q (dist p n) largest (dist_up p n).0 top hm) (near n p q m (dist p n) largest (dist_up p n).1 top hq)
      (sub_rounds binary64 L-pos v w)

  pub from-stays : finite (sub binary64 y x) ≡ true
  from-stays = stays (turn q m n p (near n p q m (dist p n) largest (dist_up p n).1 top hq))
      (turn m q p n (near p n m q (dist p n) largest (dist_up p n).0 top hm)) (sub_rounds binary64 L-pos w v)
    where
      turn : (a b c d : ℕ) → c + a ≤ d + b + (largest + 2 ^ 2043) → a + c ≤ b + d + (largest + 2 ^ 2043)
      turn a b c d h = go a b c d (largest + 2 ^ 2043) h
        where
          go : (a b c d K : ℕ) → c + a ≤ d + b + K → a + c ≤ b + d + K
          go a b c d K h = omega arith
