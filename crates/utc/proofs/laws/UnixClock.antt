-- The time of a Unix second on its day: hour, minute and second are always good, and the second is below 60; so a time is outside its day only in the last
-- minute of a day that ends in a step back, from 60 s plus the leap on; with a leap of -1.0 s that is second 86399. Assumes nothing.
use mathlib.Core.Path.{◌≡◌, refl, sym, ap, ◌∙◌, subst₂}
use mathlib.Core.Bool.{Bool, true, false, true≢false}
use Prim.Native.Nat.{ℕ, ◌+◌, ◌*◌, ◌/◌, ◌%◌, ◌≤◌, ◌<◌}
use native.Mathlib.Nat.{add-mul, mul-le-mul_right}
use native.Mathlib.Omega.{arith}
use lib.Dec.{T, eqb, leb, lit<}
use lib.IntN.{pos}
use lib.Ieee.{Float, nan, inf, fin, binary64, fits, round, of_bits, of_int, add, div, lt, le, eq}
use lib.Ieee.Fits.{add-fits, div-fits}
use lib.Ieee.Scale.{finite}
use borrow.Author.Tests.{le-leb, le-ltb, leb-true, leb-false, eqb-true, eqb-false, eq-eqb}
use Rattle.floats.specs.Whole.{nought}
use Rattle.rounding.specs.Value.{Val, Rounds, L}
use Rattle.rounding.proofs.Value.{L-pos, add_rounds, div_rounds}
use Rattle.rounding.proofs.Bound.{rounds-mono}
use Rattle.rounding.proofs.Own.{own, own_val}
use Rattle.rounding.proofs.Compare.{lt_val, lt_says, le_says, lt_show, lt_false}
use Rattle.rounding.proofs.Sizes.{whole_val}
use Rattle.rounding.proofs.Casts.{of_int_val}
use Rattle.constants.specs.Constants.{decimal, nanoseconds_per_second}
use Rattle.julian.specs.DayFraction.{second_limit, time_in_day}
use Rattle.time_of_day.specs.ExactTime.{minus_one_f}
use Rattle.utc.specs.UnixTime.{second_with_nanos}

-- ---- floats in order
is_true : (b : Bool) → T b → b ≡ true
is_true true t = refl
is_true false t = absurd t

between-finite : (x c : Float) → T (finite c) → T (le nought x) → T (le x c) → T (finite x)
unfolding le lt eq
between-finite nan c f h k = absurd h
between-finite (inf true) c f h k = absurd h
between-finite (inf false) nan f h k = absurd f
between-finite (inf false) (inf s) f h k = absurd f
between-finite (inf false) (fin s m e) f h k = absurd k
between-finite (fin s m e) c f h k = tt

below_by : (x y z : Float) → T (fits binary64 x) → T (fits binary64 y) → T (fits binary64 z) → T (finite x) → T (finite y) → T (finite z) → T (lt x y)
    → T (le y z) → T (lt x z)
below_by x y z f g h a b c p q =
    let v = own_val x (own x f a) in
    let w = own_val y (own y g b) in
    let u = own_val z (own z h c) in
    lt_show L-pos v u (chain _ _ _ _ _ _ (lt_says L-pos v w p) (le_says L-pos w u q))
  where
    chain : (p n q m r o : ℕ) → p + m < q + n → q + o ≤ r + m → p + o < r + n
    chain p n q m r o h k = omega arith

below-any : (x y z : Float) → T (fits binary64 x) → T (fits binary64 y) → T (fits binary64 z) → T (finite x) → T (finite y) → T (lt x y) → T (le y z)
    → T (lt x z)
unfolding le lt eq
below-any nan y z f g h a b p q = absurd a
below-any (inf s) y z f g h a b p q = absurd a
below-any (fin s m e) nan z f g h a b p q = absurd b
below-any (fin s m e) (inf t) z f g h a b p q = absurd b
below-any (fin s m e) (fin t n d) nan f g h a b p q = absurd q
below-any (fin s m e) (fin t n d) (inf true) f g h a b p q = absurd q
below-any (fin s m e) (fin t n d) (inf false) f g h a b p q = tt
below-any (fin s m e) (fin t n d) (fin u o c) f g h a b p q = below_by (fin s m e) (fin t n d) (fin u o c) f g h a b tt p q

first_below : (x y z : Float) → T (fits binary64 x) → T (fits binary64 y) → T (fits binary64 z) → T (finite x) → T (finite y) → T (finite z) → T (le x y)
    → T (lt y z) → T (lt x z)
first_below x y z f g h a b c p q =
    let v = own_val x (own x f a) in
    let w = own_val y (own y g b) in
    let u = own_val z (own z h c) in
    lt_show L-pos v u (chain _ _ _ _ _ _ (le_says L-pos v w p) (lt_says L-pos w u q))
  where
    chain : (p n q m r o : ℕ) → p + m ≤ q + n → q + o < r + m → p + o < r + n
    chain p n q m r o h k = omega arith

not_below : (x y : Float) → T (fits binary64 x) → T (fits binary64 y) → T (finite x) → T (finite y) → T (le y x) → lt x y ≡ false
not_below x y f g a b p =
    let v = own_val x (own x f a) in
    let w = own_val y (own y g b) in
    lt_val L-pos v w ∙ le-ltb _ _ (turn _ _ _ _ (le_says L-pos w v p))
  where
    turn : (p n q m : ℕ) → q + n ≤ p + m → q + n ≤ p + m
    turn p n q m h = h

nought-rounds : Rounds binary64 nought 0 0 1
unfolding round
nought-rounds = record { sign = false; size = 0; eq = refl; is = refl }

nought-val : Val nought (0 * L) (0 * L) L
nought-val = whole_val (record { sign = false; size = 0; has = (refl, refl); is = refl })

-- ---- the nanoseconds of a second, below 1
billion_val : Val nanoseconds_per_second 1000000000 0 1
unfolding nanoseconds_per_second round
billion_val = record { sign = false; size = 1000000000; has = (refl, refl); is = refl }

abbrev part : ℕ → Float
part nanos = div binary64 (of_int binary64 (pos nanos)) nanoseconds_per_second

part-rounds : (nanos : ℕ) → nanos ≤ 999999999 → Rounds binary64 (part nanos) (nanos * 1) (0 * 1) (1 * 1000000000)
part-rounds nanos h = div_rounds binary64 (lit< tt) (lit< tt) (lit< tt) (of_int_val (pos nanos) (omega arith) (omega arith)) billion_val

abbrev most : Float
most = part 999999999

most-finite : T (finite most)
unfolding div of_int round nanoseconds_per_second
most-finite = tt

part_low : (nanos : ℕ) → nanos ≤ 999999999 → T (le nought (part nanos))
part_low nanos h = rounds-mono (lit< tt) (lit< tt) (omega arith) nought-rounds (part-rounds nanos h)

part-high : (nanos : ℕ) → nanos ≤ 999999999 → T (le (part nanos) most)
part-high nanos h = rounds-mono (lit< tt) (lit< tt) (omega arith) (part-rounds nanos h) (part-rounds 999999999 (omega arith))

-- ---- the second with them, below 60
abbrev sum : ℕ → ℕ → Float
sum k nanos = add binary64 (of_int binary64 (pos k)) (part nanos)

whole : (k : ℕ) → k ≤ 59 → Val (of_int binary64 (pos k)) (k * L) (0 * L) L
whole k h = whole_val (of_int_val (pos k) (omega arith) (omega arith))

abbrev last : Float
last = sum 59 999999999

last-finite : T (finite last)
unfolding add div of_int round nanoseconds_per_second
last-finite = tt

last-below : T (lt last (decimal 60 0))
unfolding add div of_int round lt nanoseconds_per_second
last-below = tt

sixty-finite : T (finite (decimal 60 0))
unfolding round
sixty-finite = tt

sixty-fits : T (fits binary64 (decimal 60 0))
unfolding round fits
sixty-fits = tt

-- the same of 59
second-last-finite : T (finite (sum 58 999999999))
unfolding add div of_int round nanoseconds_per_second
second-last-finite = tt

second-last-below : T (lt (sum 58 999999999) (decimal 59 0))
unfolding add div of_int round lt nanoseconds_per_second
second-last-below = tt

fifty_nine_finite : T (finite (decimal 59 0))
unfolding round
fifty_nine_finite = tt

fifty_nine_fits : T (fits binary64 (decimal 59 0))
unfolding round fits
fifty_nine_fits = tt

fifty_nine_rounds : Rounds binary64 (decimal 59 0) 59 0 1
fifty_nine_rounds = record { sign = false; size = 59; eq = refl; is = refl }

fifty_nine : add binary64 (decimal 60 0) minus_one_f ≡ decimal 59 0
unfolding add round of_bits
fifty_nine = refl

module _ (k nanos : ℕ) (hk : k ≤ 59) (hn : nanos ≤ 999999999) where
  abbrev q : Float
  q = part nanos

  q-finite : T (finite q)
  q-finite = between-finite q most most-finite (part_low nanos hn) (part-high nanos hn)

  sum_low : T (le nought (sum k nanos))
  sum_low =
      let v = own_val q (own q (div-fits binary64 _ _) q-finite) in
      rounds-mono (lit< tt) L-pos (low _ _ (le_says L-pos nought-val v (part_low nanos hn))) nought-rounds (add_rounds binary64 L-pos (whole k hk) v)
    where
      low : (p n : ℕ) → 0 * L + n ≤ p + 0 * L → 0 * L + (0 * L + n) * 1 ≤ (k * L + p) * 1 + 0 * L
      low p n h = omega arith

  up_to : (K : ℕ) → K ≤ 59 → k ≤ K → T (le (sum k nanos) (sum K 999999999))
  up_to K hK h =
      let v = own_val q (own q (div-fits binary64 _ _) q-finite) in
      let w = own_val most (own most (div-fits binary64 _ _) most-finite) in
      rounds-mono L-pos L-pos (high _ _ _ _ (le_says L-pos v w (part-high nanos hn))) (add_rounds binary64 L-pos (whole k hk) v)
      (add_rounds binary64 L-pos (whole K hK) w)
    where
      joined : (p n P N : ℕ) → k * L ≤ K * L → p + N ≤ P + n → (k * L + p) + (0 * L + N) ≤ (K * L + P) + (0 * L + n)
      joined p n P N g h = omega arith

      high : (p n P N : ℕ) → p + N ≤ P + n → (k * L + p) * L + (0 * L + N) * L ≤ (K * L + P) * L + (0 * L + n) * L
      high p n P N g =
          subst₂ (λ (a b : ℕ). a ≤ b) (add-mul (k * L + p) (0 * L + N) L) (add-mul (K * L + P) (0 * L + n) L)
          (mul-le-mul_right L (joined p n P N (mul-le-mul_right L h) g))

  sum-high : T (le (sum k nanos) last)
  sum-high = up_to 59 (omega arith) hk

  sum-finite : T (finite (sum k nanos))
  sum-finite = between-finite (sum k nanos) last last-finite sum_low sum-high

  below-60 : T (lt (sum k nanos) (decimal 60 0))
  below-60 = first_below (sum k nanos) last (decimal 60 0) (add-fits binary64 _ _) (add-fits binary64 _ _) sixty-fits sum-finite last-finite sixty-finite
      sum-high last-below

  below-59 : k ≤ 58 → T (lt (sum k nanos) (decimal 59 0))
  below-59 h =
      first_below (sum k nanos) (sum 58 999999999) (decimal 59 0) (add-fits binary64 _ _) (add-fits binary64 _ _) fifty_nine_fits sum-finite
      second-last-finite fifty_nine_finite (up_to 58 (omega arith) h) second-last-below

  from-59 : k ≡ 59 → lt (sum k nanos) (decimal 59 0) ≡ false
  from-59 e =
      let v = own_val q (own q (div-fits binary64 _ _) q-finite) in
      not_below (sum k nanos) (decimal 59 0) (add-fits binary64 _ _) fifty_nine_fits sum-finite fifty_nine_finite
      (rounds-mono (lit< tt) L-pos (low _ _ (ap (λ (j : ℕ). j * L) e) (le_says L-pos nought-val v (part_low nanos hn))) fifty_nine_rounds
      (add_rounds binary64 L-pos (whole k hk) v))
    where
      low : (p n : ℕ) → k * L ≡ 59 * L → 0 * L + n ≤ p + 0 * L → 59 * L + (0 * L + n) * 1 ≤ (k * L + p) * 1 + 0 * L
      low p n g h = omega arith

  -- below 60 s and a leap that is not below 0
  below_more : (x : Float) → T (fits binary64 x) → T (finite x) → lt x nought ≡ false → T (lt (sum k nanos) (add binary64 (decimal 60 0) x))
  unfolding round
  below_more x f g e = below-any (sum k nanos) (decimal 60 0) (add binary64 (decimal 60 0) x) (add-fits binary64 _ _) sixty-fits (add-fits binary64 _ _)
      sum-finite sixty-finite below-60 up-from
    where
      sixty-rounds : Rounds binary64 (decimal 60 0) 60 0 1
      sixty-rounds = record { sign = false; size = 60; eq = refl; is = refl }

      sixty-val : Val (decimal 60 0) (60 * L) (0 * L) L
      sixty-val = whole_val (record { sign = false; size = 60; has = (refl, refl); is = refl })

      up-from : T (le (decimal 60 0) (add binary64 (decimal 60 0) x))
      up-from =
          let v = own_val x (own x f g) in
          rounds-mono (lit< tt) L-pos (more _ _ (lt_false L-pos v nought-val e)) sixty-rounds (add_rounds binary64 L-pos sixty-val v)
        where
          more : (p n : ℕ) → 0 * L + n ≤ p + 0 * L → 60 * L + (0 * L + n) * 1 ≤ (60 * L + p) * 1 + 0 * L
          more p n h = omega arith

-- ---- THE TIME ON THE DAY
module _ (s nanos : ℕ) (hs : s < 86400) (hn : nanos < 1000000000) where
  abbrev second : Float
  second = second_with_nanos s nanos

  low : le nought second ≡ true
  unfolding second_with_nanos
  low = is_true _ (sum_low (s % 60) nanos (omega arith) (omega arith))

  high : lt second (decimal 60 0) ≡ true
  unfolding second_with_nanos
  high = is_true _ (below-60 (s % 60) nanos (omega arith) (omega arith))

  hours : leb (s / 3600) 23 ≡ true
  hours = le-leb (s / 3600) 23 (omega arith)

  minutes : leb (s % 3600 / 60) 59 ≡ true
  minutes = le-leb (s % 3600 / 60) 59 (omega arith)

  by-limit : (x z : Float) → T (finite x) → second_limit (s / 3600) (s % 3600 / 60) x ≡ z → time_in_day (s / 3600) (s % 3600 / 60) second x ≡ lt second z
  unfolding time_in_day
  by-limit x z f e = rw (hours, minutes, is_true (finite x) f, low, e)

  pub in_last_minute : 86340 ≤ s → (x : Float) → T (finite x) → time_in_day (s / 3600) (s % 3600 / 60) second x ≡ lt second (add binary64 (decimal 60 0) x)
  unfolding second_limit
  in_last_minute h x f = by-limit x (add binary64 (decimal 60 0) x) f (rw (eq-eqb (s / 3600) 23 (omega arith), eq-eqb (s % 3600 / 60) 59 (omega arith)))

  pub not_in_day : (x : Float) → T (finite x) → time_in_day (s / 3600) (s % 3600 / 60) second x ≡ false
      → (86340 ≤ s) × (lt second (add binary64 (decimal 60 0) x) ≡ false)
  unfolding second_limit
  not_in_day x f e = go (eqb (s / 3600) 23) refl (eqb (s % 3600 / 60) 59) refl
    where
      short : second_limit (s / 3600) (s % 3600 / 60) x ≡ decimal 60 0 → (86340 ≤ s) × (lt second (add binary64 (decimal 60 0) x) ≡ false)
      short p = absurd (true≢false (sym high ∙ sym (by-limit x (decimal 60 0) f p) ∙ e))

      go : (a : Bool) → eqb (s / 3600) 23 ≡ a → (b : Bool) → eqb (s % 3600 / 60) 59 ≡ b → (86340 ≤ s) × (lt second (add binary64 (decimal 60 0) x) ≡ false)
      go true p true q = let h : 86340 ≤ s = omega (arith, eqb-true (s / 3600) 23 p, eqb-true (s % 3600 / 60) 59 q) in (h, sym (in_last_minute h x f) ∙ e)
      go true p false q = short (rw (p, q))
      go false p b q = short (rw p)

  -- with a leap that is a number and not below 0 it is in the day
  pub steps_back : (x : Float) → T (fits binary64 x) → T (finite x) → lt second (add binary64 (decimal 60 0) x) ≡ false → lt x nought ≡ true
  unfolding second_with_nanos
  steps_back x f g e = go (lt x nought) refl
    where
      go : (b : Bool) → lt x nought ≡ b → lt x nought ≡ true
      go true p = p
      go false p = absurd (true≢false (sym (is_true _ (below_more (s % 60) nanos (omega arith) (omega arith) x f g p)) ∙ e))

  -- ---- with a leap of -1.0 it is past the day's end in second 86399 and no other
  pub only-last-second : 86340 ≤ s → lt second (add binary64 (decimal 60 0) minus_one_f) ≡ false → s ≡ 86399
  unfolding second_with_nanos
  only-last-second h e = go (eqb (s % 60) 59) refl
    where
      go : (b : Bool) → eqb (s % 60) 59 ≡ b → s ≡ 86399
      go true p = omega (arith, eqb-true (s % 60) 59 p)
      go false p =
          absurd (true≢false (sym (is_true _ (below-59 (s % 60) nanos (omega arith) (omega arith) (fewer (s % 60) (omega arith) (eqb-false (s % 60) 59 p))))
          ∙ sym (ap (lt (second_with_nanos s nanos)) fifty_nine) ∙ e))
        where
          fewer : (k : ℕ) → k ≤ 59 → (k ≡ 59 → ⊥) → k ≤ 58
          fewer k g n = go_by (leb k 58) refl
            where
              go_by : (b : Bool) → leb k 58 ≡ b → k ≤ 58
              go_by true q = leb-true k 58 q
              go_by false q = absurd (n (omega (arith, leb-false k 58 q)))

  pub last-second-past : s ≡ 86399 → lt second (add binary64 (decimal 60 0) minus_one_f) ≡ false
  unfolding second_with_nanos
  last-second-past h = ap (lt (second_with_nanos s nanos)) fifty_nine ∙ from-59 (s % 60) nanos (omega arith) (omega arith) (omega arith)
