-- The day and the fraction of two parts on the grid are document 01's exact day and exact fraction, which are fixed by the parts' exact sum. Assumes nothing.
use mathlib.Core.Path.{◌≡◌, refl, sym, ap, ◌∙◌, subst}
use mathlib.Core.Bool.{Bool, true, false, true≢false}
use Prim.Native.Nat.{ℕ, suc, ◌+◌, ◌*◌, ◌^◌, ◌<◌}
use native.Mathlib.Nat.{div-add-mod', mod-lt, add-zero, mul-one}
use native.Mathlib.Omega.{arith}
use lib.Dec.{T, lit≤}
use lib.Pow.{pow_pos}
use lib.IntN.{ℤ, pos, negsuc, ◌+ℤ◌}
use lib.Ieee.{Float, binary64, add, le, fits, round, of_bits}
use lib.Ieee.Exact.{HasValue}
use lib.Ieee.Fits.{round-fits}
use Rattle.rounding.specs.Value.{Signed, Val, Rounds}
use Rattle.rounding.proofs.Value.{add_rounds, rounds-move}
use Rattle.rounding.proofs.Exact.{exact-has}
use Rattle.rounding.proofs.Casts.{plus_z, minus_z, add_pair}
use Rattle.refusals.specs.Outcome.{answer}
use Rattle.julian.specs.declared.day_number.DayNumber.{DayNumber}
use Rattle.julian.specs.day_number.DayNumber.{in_julian_range, accepted, day_number, fraction_passed, day_of}
use Rattle.julian.specs.day_number.Answer.{day_number_and_fraction}
use Rattle.julian.specs.day_number.ExactDay.{OnGrid, OnWideGrid, grid_sum, GridSumInRange, whole_days, units_left, exact_day, exact_fraction}
use Rattle.julian.specs.day_number.ExactDay.{exact_day_number, fraction_of, DayAt}
use Rattle.julian.specs.day_number.MinusZero.{minus_zero}
use Rattle.julian.proofs.day_number.Answer.{answered, refused}
use Rattle.julian.proofs.day_number.GridPairs.{Exactly, grid_pair, grid_accepted}
use Rattle.julian.proofs.day_number.MinusZero.{Unsigned, some_size}
use Rattle.julian.proofs.day_number.FractionSign.{fraction-unsigned}
use Rattle.rounding.proofs.Unique.{float-unique}

-- ---- the exact day is the floor, and the exact fraction is what is left; nothing else is
floor_rest : (z : ℤ) → (units_left z < 2 ^ 52) × (plus_z z + minus_z (whole_days z) * 2 ^ 52 ≡ minus_z z + plus_z (whole_days z) * 2 ^ 52 + units_left z)
unfolding whole_days units_left
floor_rest (pos n) = (mod-lt n (pow_pos 52), omega (arith, div-add-mod' n (2 ^ 52)))
floor_rest (negsuc n) = (omega (arith, mod-lt n (pow_pos 52)), omega (arith, div-add-mod' n (2 ^ 52), mod-lt n (pow_pos 52)))

pub exact-day : (sum : ℤ) → DayAt sum (exact_day sum) (exact_fraction sum)
exact-day sum =
    let z = sum +ℤ pos (2 ^ 51) in
    let f = floor_rest z in
    record { below = f.0; total = omega (arith, f.1, add_pair sum (pos (2 ^ 51))) }

same_int : (a b : ℤ) → plus_z a + minus_z b ≡ plus_z b + minus_z a → a ≡ b
same_int (pos a) (pos b) e = ap pos (plain a b e)
  where
    plain : (a b : ℕ) → a + 0 ≡ b + 0 → a ≡ b
    plain a b e = omega arith
same_int (negsuc a) (negsuc b) e = ap negsuc (plain a b e)
  where
    plain : (a b : ℕ) → 0 + suc b ≡ 0 + suc a → a ≡ b
    plain a b e = omega arith
same_int (pos a) (negsuc b) e = let w : ⊥ = omega arith in absurd w
same_int (negsuc a) (pos b) e = let w : ⊥ = omega arith in absurd w

pub only : {sum day : ℤ} {units : ℕ} → DayAt sum day units → (day ≡ exact_day sum) × (units ≡ exact_fraction sum)
only {sum} {day} {units} a =
    let b = exact-day sum in
    let e : plus_z day + minus_z (exact_day sum) ≡ plus_z (exact_day sum) + minus_z day = omega (arith, a.total, b.total, a.below, b.below) in
    (same_int day (exact_day sum) e, omega (arith, a.total, b.total, a.below, b.below))

-- ---- the float of a fraction is exact
fraction-has : (u : ℕ) → u < 2 ^ 52 → HasValue (fraction_of u) false u (2 ^ 52)
unfolding fraction_of
fraction-has u h = subst (λ (x : ℕ). HasValue (round binary64 false x (2 ^ 52)) false x (2 ^ 52)) (mul-one u)
    (exact-has false u 0 52 (lit≤ tt) (lit≤ tt) (omega arith))

pub fraction-exact : (u : ℕ) → u < 2 ^ 52 → Val (fraction_of u) u 0 (2 ^ 52)
fraction-exact u h = record { sign = false; size = u; has = fraction-has u h; is = add-zero u }

-- a float that is not -0.0 and has that value is this one
plus-has : (f : Float) (s : Bool) (a u : ℕ) → minus_zero f ≡ false → HasValue f s a (2 ^ 52) → Signed s a u 0 → HasValue f false u (2 ^ 52)
plus-has f false a u z v i = subst (λ (n : ℕ). HasValue f false n (2 ^ 52)) (sym (add-zero a) ∙ i) v
plus-has f true a u z v i = let p : 0 < a = some_size f a (2 ^ 52) (pow_pos 52) z v in let w : ⊥ = omega arith in absurd w

fraction-is : (f : Float) (u : ℕ) → u < 2 ^ 52 → Unsigned f → Val f u 0 (2 ^ 52) → f ≡ fraction_of u
unfolding fraction_of
fraction-is f u h k v = float-unique f (fraction_of u) false u (2 ^ 52) (pow_pos 52) k.fit (round-fits binary64 false u (2 ^ 52))
    (plus-has f v.sign v.size u k.sign v.has v.is) (fraction-has u h)

-- ---- an accepted pair on the wide grid, and so on the grid
day_is : (x y : Float) → T (fits binary64 x) → T (fits binary64 y) → (a : OnWideGrid x) (b : OnWideGrid y) → accepted x y ≡ true
    → day_of x y ≡ exact_day_number (a.units +ℤ b.units)
unfolding day_of
day_is x y fx fy a b e = go (grid_pair x y fx fy e (plus_z a.units) (minus_z a.units) (plus_z b.units) (minus_z b.units) a.val b.val
    (omega (arith, a.high)) (omega (arith, a.low)) (omega (arith, b.high)) (omega (arith, b.low)))
  where
    go : Exactly (plus_z a.units) (minus_z a.units) (plus_z b.units) (minus_z b.units) (day_number x y) (fraction_passed x y)
        → ◌≡◌ {A = DayNumber} (record { day = day_number x y; fraction = fraction_passed x y }) (exact_day_number (a.units +ℤ b.units))
    go k =
        let d : DayAt (a.units +ℤ b.units) (day_number x y) k.units =
        record { below = k.below; total = omega (arith, k.total, add_pair a.units b.units) } in
        let o = only d in
        ap (λ (z : ℤ). record { day = z; fraction = fraction_passed x y }) o.0
        ∙ ap (λ (z : Float). record { day = exact_day (a.units +ℤ b.units); fraction = z })
        (fraction-is (fraction_passed x y) k.units k.below (fraction-unsigned x y) k.val ∙ ap fraction_of o.1)

wide : {x : Float} → OnGrid x → OnWideGrid x
wide a = record { units = a.units; val = a.val; high = omega (arith, a.high); low = omega (arith, a.low) }

-- two parts on the wide grid, up to 2 ^ 62 days in size, whose exact sum is from -68569.5 to 10 ^ 9, are answered with the exact day and the exact fraction
pub exact-to-2-62 : (x y : Float) → T (fits binary64 x) → T (fits binary64 y) → (a : OnWideGrid x) (b : OnWideGrid y) → GridSumInRange (a.units +ℤ b.units)
    → day_number_and_fraction x y ≡ answer (exact_day_number (a.units +ℤ b.units))
exact-to-2-62 x y fx fy a b r =
    let s = add_pair a.units b.units in
    let e = grid_accepted x y (plus_z a.units) (minus_z a.units) (plus_z b.units) (minus_z b.units) a.val b.val (omega (arith, r.low, s))
    (omega (arith, r.high, s)) in
    answered x y e ∙ ap answer (day_is x y fx fy a b e)

-- the same on document 01's grid
pub exact : (x y : Float) → T (fits binary64 x) → T (fits binary64 y) → (a : OnGrid x) (b : OnGrid y) → GridSumInRange (grid_sum a b)
    → day_number_and_fraction x y ≡ answer (exact_day_number (grid_sum a b))
unfolding wide
exact x y fx fy a b r = exact-to-2-62 x y fx fy (wide a) (wide b) r

-- ---- the range test sees only the exact sum
zero_in : (s : Bool) (a : ℕ) → a ≡ 0 → in_julian_range (round binary64 s a (2 ^ 52)) ≡ true
unfolding in_julian_range round le of_bits
zero_in s a e = ap (λ (n : ℕ). in_julian_range (round binary64 s n (2 ^ 52))) e ∙ go s
  where
    go : (s : Bool) → in_julian_range (round binary64 s 0 (2 ^ 52)) ≡ true
    go true = refl
    go false = refl

same_test : {z z' : Float} {P N : ℕ} → Rounds binary64 z P N (2 ^ 52) → Rounds binary64 z' P N (2 ^ 52) → in_julian_range z ≡ in_julian_range z'
same_test {z} {z'} {P} {N} r r' = ap in_julian_range r.eq ∙ go r.sign r'.sign r.size r'.size r.is r'.is ∙ ap in_julian_range (sym r'.eq)
  where
    go : (s t : Bool) (a b : ℕ) → Signed s a P N → Signed t b P N → in_julian_range (round binary64 s a (2 ^ 52)) ≡ in_julian_range
        (round binary64 t b (2 ^ 52))
    go false false a b i j = ap (λ (n : ℕ). in_julian_range (round binary64 false n (2 ^ 52))) (plain a b i j)
      where
        plain : (a b : ℕ) → a + N ≡ P → b + N ≡ P → a ≡ b
        plain a b i j = omega arith
    go true true a b i j = ap (λ (n : ℕ). in_julian_range (round binary64 true n (2 ^ 52))) (plain a b i j)
      where
        plain : (a b : ℕ) → a + P ≡ N → b + P ≡ N → a ≡ b
        plain a b i j = omega arith
    go false true a b i j = zero_in false a (plain a b i j).0 ∙ sym (zero_in true b (plain a b i j).1)
      where
        plain : (a b : ℕ) → a + N ≡ P → b + P ≡ N → (a ≡ 0) × (b ≡ 0)
        plain a b i j = omega arith
    go true false a b i j = zero_in true a (plain a b i j).0 ∙ sym (zero_in false b (plain a b i j).1)
      where
        plain : (a b : ℕ) → a + P ≡ N → b + N ≡ P → (a ≡ 0) × (b ≡ 0)
        plain a b i j = omega arith

sum-test : {x y : Float} (a : OnGrid x) (b : OnGrid y) → Rounds binary64 (add binary64 x y) (plus_z (grid_sum a b)) (minus_z (grid_sum a b)) (2 ^ 52)
sum-test a b = rounds-move (add_rounds binary64 (pow_pos 52) a.val b.val) (omega (arith, add_pair a.units b.units))

-- two divisions of one exact sum on the grid have one outcome, to the bit
pub alike : (x y x' y' : Float) → T (fits binary64 x) → T (fits binary64 y) → T (fits binary64 x') → T (fits binary64 y')
    → (a : OnGrid x) (b : OnGrid y) (a' : OnGrid x') (b' : OnGrid y')
    → grid_sum a b ≡ grid_sum a' b' → day_number_and_fraction x y ≡ day_number_and_fraction x' y'
unfolding accepted wide
alike x y x' y' fx fy fx' fy' a b a' b' e = go (accepted x y) refl (accepted x' y') refl
  where
    test : accepted x y ≡ accepted x' y'
    test = same_test (sum-test a b) (subst (λ (s : ℤ). Rounds binary64 (add binary64 x' y') (plus_z s) (minus_z s) (2 ^ 52)) (sym e) (sum-test a' b'))

    go : (u : Bool) → accepted x y ≡ u → (v : Bool) → accepted x' y' ≡ v → day_number_and_fraction x y ≡ day_number_and_fraction x' y'
    go true p true q = answered x y p
        ∙ ap answer (day_is x y fx fy (wide a) (wide b) p ∙ ap exact_day_number e ∙ sym (day_is x' y' fx' fy' (wide a') (wide b') q)) ∙ sym (answered x' y' q)
    go false p false q = refused x y p ∙ sym (refused x' y' q)
    go true p false q = absurd (true≢false (sym p ∙ test ∙ q))
    go false p true q = absurd (true≢false (sym q ∙ sym test ∙ p))
