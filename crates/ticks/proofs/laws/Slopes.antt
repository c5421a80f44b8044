-- OVER BOTH STEPS: a whole millisecond that is near an exact time has a place that is near the exact line there, by the steepest piece between the passes; and
-- two milliseconds that are near each other have places that are. Assumes nothing.
use Prim.Native.Nat.{ℕ, zero, suc, ◌+◌, ◌-◌, ◌*◌, ◌<◌, ◌≤◌}
use native.Mathlib.Omega.{arith}
use native.Mathlib.Nat.{le_refl, mul_comm, mul_assoc, add-mul, mul-add, mul_right_comm, mul-mul-mul_comm, mul-le-mul_left, mul-le-mul_right}
use native.Mathlib.Nat.{mul-lt-mul_of_pos_right, mul-pos, le_of_mul-le-mul_right, lt_of_mul-lt-mul_right}
use native.Mathlib.Decide.{dec_lt}
use mathlib.Core.Path.{◌≡◌, sym, ap, subst, ◌∙◌}
use Rattle.ticks.specs.Passes.{Passes, millis_at}
use Rattle.ticks.proofs.judging.ByLast.{rises-to}
use Rattle.ticks.specs.laws.Sound.{Sound, Inside, ticks_between, JustBelow}
use Rattle.ticks.specs.laws.Slopes.{millis_rise, SlopeAtMost, TimeBetween, NearTime, line_dividend, NearExact}
use Rattle.ticks.proofs.laws.Laws.{just_below}

-- ---- products
module _ (u M Q S : ℕ) (h : M * Q ≤ S) where
  steep : u * M * Q ≤ u * S
  steep = omega (arith, mul_assoc u M Q, mul-le-mul_left u h)

turn : (x d T : ℕ) → x * (d * T) ≡ x * T * d
turn x d T = ap (λ (y : ℕ). x * y) (mul_comm d T) ∙ sym (mul_assoc x T d)

-- a piece of length T and rise M, no steeper than P / Q, whose line is at m + ρ M / T after ρ of its milliseconds: held against its ends
module _ (m M T Q P : ℕ) (some : 0 < T) (flat : M * Q ≤ P * T) where
  by-start : (v ρ : ℕ) → v * T ≤ m * T + ρ * M → v * Q ≤ m * Q + ρ * P
  by-start v ρ h = le_of_mul-le-mul_right
      (omega (
        arith,
        mul_right_comm v Q T,
        mul-le-mul_right Q h,
        add-mul (m * T) (ρ * M) Q,
        mul_right_comm m T Q,
        steep ρ M Q (P * T) flat,
        mul_assoc ρ P T,
        add-mul (m * Q) (ρ * P) T,
      ))
      some

  by_end : (y ρ σ : ℕ) → 0 < Q → T ≡ ρ + σ → m * T + ρ * M < y * T → (m + M) * Q < y * Q + σ * P
  by_end y ρ σ q e h =
      let a : (m + M) * T ≡ m * T + M * T = add-mul m M T in
      let b : M * T ≡ M * ρ + M * σ = ap (λ (x : ℕ). M * x) e ∙ mul-add M ρ σ in
      let c : (m + M) * T < y * T + σ * M = omega (arith, mul_comm M ρ, mul_comm M σ) in
      lt_of_mul-lt-mul_right T
      (omega (
        arith,
        mul_right_comm (m + M) Q T,
        mul-lt-mul_of_pos_right c q,
        add-mul (y * T) (σ * M) Q,
        mul_right_comm y T Q,
        steep σ M Q (P * T) flat,
        mul_assoc σ P T,
        add-mul (y * Q) (σ * P) T,
      ))

  by_both : (v y ρ δ : ℕ) → 0 < Q → v * T ≤ m * T + (ρ + δ) * M → m * T + ρ * M < y * T → v * Q < y * Q + δ * P
  by_both v y ρ δ q h l =
      let c : v * T < y * T + δ * M = omega (arith, add-mul ρ δ M) in
      lt_of_mul-lt-mul_right T
      (omega (
        arith,
        mul_right_comm v Q T,
        mul-lt-mul_of_pos_right c q,
        add-mul (y * T) (δ * M) Q,
        mul_right_comm y T Q,
        steep δ M Q (P * T) flat,
        mul_assoc δ P T,
        add-mul (y * Q) (δ * P) T,
      ))

-- the exact time lies in the piece, u after its start times d; the millisecond lies in it too
module _ (m M T Q S d u e : ℕ) (flat : M * Q ≤ S) where
  same_above : (v ρ : ℕ) → v * T ≤ m * T + ρ * M → ρ * d ≤ u + e → v * (d * T) * Q ≤ (m * (d * T) + u * M) * Q + e * S
  same_above v ρ h near =
      let a : v * (d * T) ≤ m * (d * T) + u * M + e * M =
      omega (
        arith,
        turn v d T,
        turn m d T,
        mul-le-mul_right d h,
        add-mul (m * T) (ρ * M) d,
        mul_right_comm ρ M d,
        mul-le-mul_right M near,
        add-mul u e M,
      ) in
      omega (arith, mul-le-mul_right Q a, add-mul (m * (d * T) + u * M) (e * M) Q, steep e M Q S flat)

  same-below : (y ρ : ℕ) → 0 < d → 0 < Q → m * T + ρ * M < y * T → u ≤ ρ * d + e → (m * (d * T) + u * M) * Q < y * (d * T) * Q + e * S
  same-below y ρ ds q h near =
      let a : m * (d * T) + u * M < y * (d * T) + e * M =
      omega (
        arith,
        turn y d T,
        turn m d T,
        mul-lt-mul_of_pos_right h ds,
        add-mul (m * T) (ρ * M) d,
        mul_right_comm ρ M d,
        mul-le-mul_right M near,
        add-mul (ρ * d) e M,
      ) in
      omega (arith, mul-lt-mul_of_pos_right a q, add-mul (y * (d * T)) (e * M) Q, steep e M Q S flat)

-- the millisecond lies in another piece: x and y held against each other by the slope, in the exact time's denominator
mix : (x y Q P d T : ℕ) → (x * Q + P * y) * (d * T) ≡ x * (d * T) * Q + y * d * (P * T)
mix x y Q P d T =
    let a : P * y * (d * T) ≡ y * d * (P * T) = ap (λ (z : ℕ). z * (d * T)) (mul_comm P y) ∙ mul-mul-mul_comm y P d T in
    omega (arith, add-mul (x * Q) (P * y) (d * T), mul_right_comm x Q (d * T))

module _ (M T Q P d a e : ℕ) (flat : M * Q ≤ P * T) where
  later-above : (v t₁ m₁ r w N : ℕ) → v * Q + P * t₁ ≤ m₁ * Q + P * r → t₁ * d ≡ a + w → r * d ≤ a + e → m₁ * (d * T) ≡ N + w * M
      → v * (d * T) * Q ≤ N * Q + e * (P * T)
  later-above v t₁ m₁ r w N h tw near n =
      let b : t₁ * d * (P * T) ≡ a * (P * T) + w * (P * T) = ap (λ (z : ℕ). z * (P * T)) tw ∙ add-mul a w (P * T) in
      let c : m₁ * (d * T) * Q ≡ N * Q + w * M * Q = ap (λ (z : ℕ). z * Q) n ∙ add-mul N (w * M) Q in
      omega (
        arith,
        mul-le-mul_right (d * T) h,
        mix v t₁ Q P d T,
        mix m₁ r Q P d T,
        steep w M Q (P * T) flat,
        mul-le-mul_right (P * T) near,
        add-mul a e (P * T),
      )

  earlier-below : (y t₀ m₀ r u : ℕ) → 0 < d * T → m₀ * Q + P * r < y * Q + P * t₀ → t₀ * d + u ≡ a → a ≤ r * d + e
      → (m₀ * (d * T) + u * M) * Q < y * (d * T) * Q + e * (P * T)
  earlier-below y t₀ m₀ r u some h tu near =
      let b : a * (P * T) ≡ t₀ * d * (P * T) + u * (P * T) = ap (λ (z : ℕ). z * (P * T)) (sym tu) ∙ add-mul (t₀ * d) u (P * T) in
      omega (
        arith,
        mul-lt-mul_of_pos_right h some,
        mix m₀ r Q P d T,
        mix y t₀ Q P d T,
        add-mul (m₀ * (d * T)) (u * M) Q,
        steep u M Q (P * T) flat,
        mul-le-mul_right (P * T) near,
        add-mul (r * d) e (P * T),
      )

-- ---- the passes
-- place v of millisecond t, which lies from pass i to the next: on the line there, rounded down
record On (p : Passes) (t v i : ℕ) : Type 0 where
  next : i + 1 < p.size
  from : p.tick i ≤ t
  to : t ≤ p.tick (i + 1)
  above : v * ticks_between p i ≤ p.milli i * ticks_between p i + (t - p.tick i) * millis_rise p i
  below : p.milli i * ticks_between p i + (t - p.tick i) * millis_rise p i < (v + 1) * ticks_between p i
  least : p.milli i ≤ v
  most : v ≤ p.milli (i + 1)

module _ (p : Passes) (s : Sound p) where
  on : (t v : ℕ) (b : JustBelow p t v) → On p t v b.j
  on t v b = record {
    next = b.next;
    from = b.from;
    to = b.to;
    above = b.not_above;
    below = b.less_than_one;
    least = b.least;
    most = b.most;
  }

  milli-up : (x y : ℕ) → x ≤ y → y < p.size → p.milli x ≤ p.milli y
  milli-up x y a b = rises-to p.milli (p.size - 1) (λ i h. s.millis-rise i (omega arith)) x y a (omega arith)

  tick-up : (x y : ℕ) → x ≤ y → y < p.size → p.tick x ≤ p.tick y
  tick-up x y a b = rises-to p.tick (p.size - 1) (λ i h. s.ticks_rise i (omega arith)) x y a (omega arith)

  module _ (rise run : ℕ) (slope : SlopeAtMost p rise run) where
    step : (j : ℕ) → j + 1 < p.size → p.milli (j + 1) * run + rise * p.tick j ≤ p.milli j * run + rise * p.tick (j + 1)
    step j h =
        let a : p.milli (j + 1) ≡ p.milli j + millis_rise p j = omega (arith, s.millis-rise j h) in
        let b : p.tick (j + 1) ≡ p.tick j + ticks_between p j = omega (arith, s.ticks_rise j h) in
        let c : p.milli (j + 1) * run ≡ p.milli j * run + millis_rise p j * run = ap (λ (x : ℕ). x * run) a ∙ add-mul (p.milli j) (millis_rise p j) run in
        let e : rise * p.tick (j + 1) ≡ rise * p.tick j + rise * ticks_between p j =
        ap (λ (x : ℕ). rise * x) b ∙ mul-add rise (p.tick j) (ticks_between p j) in
        omega (arith, slope.each j h)

    climb : (i n : ℕ) → i + n < p.size → p.milli (i + n) * run + rise * p.tick i ≤ p.milli i * run + rise * p.tick (i + n)
    climb i zero h =
        let e : i ≡ i + 0 = omega arith in
        subst (λ (x : ℕ). p.milli x * run + rise * p.tick i ≤ p.milli i * run + rise * p.tick x) e (le_refl _)
    climb i (suc n) h =
        let e : i + n + 1 ≡ i + suc n = omega arith in
        subst (λ (x : ℕ). p.milli x * run + rise * p.tick i ≤ p.milli i * run + rise * p.tick x) e
        (omega (arith, climb i n (omega arith), step (i + n) (omega arith)))

    hop : (i k : ℕ) → i ≤ k → k < p.size → p.milli k * run + rise * p.tick i ≤ p.milli i * run + rise * p.tick k
    hop i k h l =
        let e : i + (k - i) ≡ k = omega arith in
        subst (λ (x : ℕ). p.milli x * run + rise * p.tick i ≤ p.milli i * run + rise * p.tick x) e (climb i (k - i) (omega arith))

    module _ (t v i : ℕ) (o : On p t v i) where
      some : 0 < ticks_between p i
      some = omega (arith, s.ticks_rise i o.next)

      up : v * run + rise * p.tick i ≤ p.milli i * run + rise * t
      up =
          let a : t ≡ p.tick i + (t - p.tick i) = omega (arith, o.from) in
          let b : rise * t ≡ rise * p.tick i + rise * (t - p.tick i) = ap (λ (x : ℕ). rise * x) a ∙ mul-add rise (p.tick i) (t - p.tick i) in
          omega (
            arith,
            mul_comm rise (t - p.tick i),
            by-start (p.milli i) (millis_rise p i) (ticks_between p i) run rise some (slope.each i o.next) v (t - p.tick i) o.above,
          )

      down : p.milli (i + 1) * run + rise * t < (v + 1) * run + rise * p.tick (i + 1)
      down =
          let a : p.tick (i + 1) ≡ t + (p.tick (i + 1) - t) = omega (arith, o.to) in
          let b : rise * p.tick (i + 1) ≡ rise * t + rise * (p.tick (i + 1) - t) = ap (λ (x : ℕ). rise * x) a ∙ mul-add rise t (p.tick (i + 1) - t) in
          let c : p.milli i + millis_rise p i ≡ p.milli (i + 1) = omega (arith, s.millis-rise i o.next) in
          let e : (p.milli i + millis_rise p i) * run ≡ p.milli (i + 1) * run = ap (λ (x : ℕ). x * run) c in
          omega (
            arith,
            mul_comm rise (p.tick (i + 1) - t),
            by_end (p.milli i) (millis_rise p i) (ticks_between p i) run rise some (slope.each i o.next) (v + 1) (t - p.tick i) (p.tick (i + 1) - t)
                slope.some (omega (arith, o.from, o.to)) o.below,
          )

    -- ---- a millisecond near an exact time
    module _ (t v a d e j : ℕ) (ds : 0 < d) (x : TimeBetween p a d j) (near : NearTime t a d e) where
      abbrev T : ℕ
      T = ticks_between p j

      abbrev M : ℕ
      M = millis_rise p j

      long : 0 < d * T
      long = mul-pos ds (omega (arith, s.ticks_rise j x.next))

      begun : p.tick j * d + (a - p.tick j * d) ≡ a
      begun = omega (arith, x.from)

      left : p.tick (j + 1) * d ≡ a + (p.tick (j + 1) * d - a)
      left = omega (arith, x.to)

      -- the end of the piece, seen from the exact time
      its_end : p.milli (j + 1) * (d * T) ≡ line_dividend p j a d + (p.tick (j + 1) * d - a) * M
      its_end =
          let u = a - p.tick j * d in
          let w = p.tick (j + 1) * d - a in
          let b : p.milli (j + 1) ≡ p.milli j + M = omega (arith, s.millis-rise j x.next) in
          let c : p.tick (j + 1) ≡ p.tick j + T = omega (arith, s.ticks_rise j x.next) in
          let f : p.tick (j + 1) * d ≡ p.tick j * d + T * d = ap (λ (y : ℕ). y * d) c ∙ add-mul (p.tick j) T d in
          let g : d * T ≡ u + w = omega (arith, mul_comm d T, x.from, x.to) in
          let h : M * (d * T) ≡ u * M + w * M = ap (λ (y : ℕ). M * y) g ∙ mul_comm M (u + w) ∙ add-mul u w M in
          ap (λ (y : ℕ). y * (d * T)) b ∙ add-mul (p.milli j) M (d * T) ∙ omega arith

      -- in an earlier piece
      earlier : (i : ℕ) → On p t v i → i < j → NearExact p rise run a d e j v
      earlier i o h = record {
        not_above = omega (arith, mul-le-mul_right run first);
        not_below = earlier-below M T run rise d a e (slope.each j x.next) (v + 1) (p.tick j) (p.milli j) t (a - p.tick j * d) long
            (omega (arith, down t v i o, hop (i + 1) j (omega arith) (omega (arith, x.next)))) begun near.not_early;
      }
        where
          first : v * (d * T) ≤ line_dividend p j a d
          first = omega (
            arith,
            mul-le-mul_right {m = v} {n = p.milli j} (d * T) (omega (arith, o.most, milli-up (i + 1) j (omega arith) (omega (arith, x.next)))),
          )

      -- in a later piece
      later : (i : ℕ) → On p t v i → j < i → NearExact p rise run a d e j v
      later i o h = record {
        not_above = later-above M T run rise d a e (slope.each j x.next) v (p.tick (j + 1)) (p.milli (j + 1)) t (p.tick (j + 1) * d - a)
            (line_dividend p j a d)
            (omega (arith, up t v i o, hop (j + 1) i (omega arith) (omega (arith, o.next)))) left near.not_late its_end;
        not_below = omega (arith, mul-lt-mul_of_pos_right last slope.some);
      }
        where
          last : line_dividend p j a d < (v + 1) * (d * T)
          last = omega (
            arith,
            its_end,
            long,
            add-mul v 1 (d * T),
            mul-le-mul_right {m = p.milli (j + 1)} {n = v} (d * T) (omega (arith, o.least, milli-up (j + 1) i (omega arith) (omega (arith, o.next)))),
          )

      -- in the same piece
      same : On p t v j → NearExact p rise run a d e j v
      same o = record {
        not_above = same_above (p.milli j) M T run (rise * T) d (a - p.tick j * d) e (slope.each j x.next) v (t - p.tick j) o.above
            (omega (arith, far, near.not_late, x.from));
        not_below = same-below (p.milli j) M T run (rise * T) d (a - p.tick j * d) e (slope.each j x.next) (v + 1) (t - p.tick j) ds
            slope.some o.below
            (omega (arith, far, near.not_early, x.from));
      }
        where
          far : t * d ≡ p.tick j * d + (t - p.tick j) * d
          far =
              let b : t ≡ p.tick j + (t - p.tick j) = omega (arith, o.from) in
              ap (λ (y : ℕ). y * d) b ∙ add-mul (p.tick j) (t - p.tick j) d

      near_line : (i : ℕ) → On p t v i → NearExact p rise run a d e j v
      near_line i o = by (dec_lt i j) (dec_lt j i)
        where
          by : Dec (i < j) → Dec (j < i) → NearExact p rise run a d e j v
          by (yes h) g = earlier i o h
          by (no h) (yes g) = later i o g
          by (no h) (no g) = let q : i ≡ j = omega arith in same (subst (On p t v) q o)

    -- THE PLACE of a millisecond that is at most e / d from time a / d: at most e / d * rise / run above the exact line at that time, and less than 1 mm more
    -- below it
    pub near-exact : (t : ℕ) → Inside p t → (a d e j : ℕ) → 0 < d → TimeBetween p a d j → NearTime t a d e → NearExact p rise run a d e j (millis_at p t)
    near-exact t i a d e j ds x near = let b = just_below p s t i in near_line t (millis_at p t) a d e j ds x near b.j (on t (millis_at p t) b)

    -- TWO MILLISECONDS: the later's place is less than 1 mm and the slope times the time between them further
    pub near-each-other : (t t' : ℕ) → Inside p t → Inside p t' → t ≤ t' → millis_at p t' * run + rise * t < (millis_at p t + 1) * run + rise * t'
    near-each-other t t' i i' h = let b = just_below p s t i in let b' = just_below p s t' i' in go b.j b'.j (on t _ b) (on t' _ b')
      where
        go : (k k' : ℕ) → On p t (millis_at p t) k → On p t' (millis_at p t') k' → millis_at p t' * run + rise * t < (millis_at p t + 1) * run + rise * t'
        go k k' o o' = by (dec_lt k k') (dec_lt k' k)
          where
            by : Dec (k < k') → Dec (k' < k) → millis_at p t' * run + rise * t < (millis_at p t + 1) * run + rise * t'
            by (yes l) g = omega (arith, down t (millis_at p t) k o, up t' (millis_at p t') k' o', hop (k + 1) k' (omega arith) (omega (arith, o'.next)))
            by (no l) (yes g) =
                let q : t' ≡ t = omega (arith, o'.to, o.from, tick-up (k' + 1) k (omega arith) (omega (arith, o.next))) in
                let w : millis_at p t' ≡ millis_at p t = ap (millis_at p) q in
                let z : millis_at p t' * run ≡ millis_at p t * run = ap (λ (y : ℕ). y * run) w in
                omega (arith, slope.some, add-mul (millis_at p t) 1 run, ap (λ (y : ℕ). rise * y) q)
            by (no l) (no g) =
                let q : k' ≡ k = omega arith in
                let o₂ : On p t' (millis_at p t') k = subst (On p t' (millis_at p t')) q o' in
                let a : t' ≡ t + (t' - t) = omega arith in
                let b : rise * t' ≡ rise * t + rise * (t' - t) = ap (λ (y : ℕ). rise * y) a ∙ mul-add rise t (t' - t) in
                let c : t' - p.tick k ≡ t - p.tick k + (t' - t) = omega (arith, o.from) in
                omega (
                  arith,
                  mul_comm rise (t' - t),
                  by_both (p.milli k) (millis_rise p k) (ticks_between p k) run rise (some t (millis_at p t) k o) (slope.each k o.next) (millis_at p t')
                      (millis_at p t + 1) (t - p.tick k) (t' - t) slope.some
                      (subst
                      (λ (y : ℕ). millis_at p t' * ticks_between p k ≤ p.milli k * ticks_between p k + y * millis_rise p k) c o₂.above)
                      o.below,
                )
