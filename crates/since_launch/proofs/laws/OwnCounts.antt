-- Two dates that are each within 1/1000 ms of a whole millisecond are exactly so many milliseconds apart. Assumes nothing.
use mathlib.Core.Path.{◌≡◌, ap, ◌∙◌}
use Prim.Native.Nat.{ℕ, ◌+◌, ◌*◌, ◌^◌, ◌≤◌, ◌<◌}
use native.Mathlib.Nat.{add-mul, one-mul, lt_of_mul-lt-mul_right}
use native.Mathlib.Omega.{arith}
use Rattle.refusals.specs.Outcome.{Outcome}
use Rattle.rounding.specs.Value.{L}
use Rattle.rounding.proofs.Value.{L-pos}
use Rattle.since_launch.specs.Millis.{count_of}
use Rattle.since_launch.specs.laws.NearestMillis.{NearestMillis, MillisDecided}
use Rattle.since_launch.specs.laws.NearestMillis as D
use Rattle.since_launch.specs.laws.NearSums.{NearMillis}
use Rattle.since_launch.specs.laws.OwnMillis.{Own, since, before, past}
use Rattle.since_launch.proofs.laws.MillisDecided.{count-decided}
use Rattle.since_launch.proofs.laws.Anywhere.{PlaceNear, scale, near-by-places}

-- a date worth (P - N) / L days is within 1/1000 ms of T milliseconds since midnight of day 0, both sides times 1000 L
pub record MillisNear (P N T : ℕ) : Type 0 where
  pub over : 1000 * (86400000 * P + 43200000 * L) ≤ 1000 * (86400000 * N + T * L) + L
  pub under : 1000 * (86400000 * N + T * L) ≤ 1000 * (86400000 * P + 43200000 * L) + L

module _ (P N P' N' p q T T' : ℕ) (a : PlaceNear P N p) (b : PlaceNear P' N' q) (t : MillisNear P N T) (t' : MillisNear P' N' T') where
  -- (x + y) * L
  two : (x y : ℕ) → (x + y) * L ≡ x * L + y * L
  two x y = add-mul x y L

  -- fewer than one more
  high : (r : ℕ) → NearMillis P N P' N' r → r + T < T' + 1
  high r n = lt_of_mul-lt-mul_right L (go (r * L) (T * L) (T' * L) _ _ (two r T) (two T' 1 ∙ ap (λ (x : ℕ). T' * L + x) (one-mul L)) n.over t.over
      t'.under t'.over t.under)
    where
      go : (R u v x y : ℕ) → x ≡ R + u → y ≡ v + L → 2 ^ 43 * (R + 86400000 * (N' + P)) ≤ 2 ^ 43 * (86400000 * (P' + N)) + (2 ^ 42 + 10 * 84375) * L
          → 1000 * (86400000 * P + 43200000 * L) ≤ 1000 * (86400000 * N + u) + L → 1000 * (86400000 * N' + v) ≤ 1000 * (86400000 * P' + 43200000 * L) + L
          → 1000 * (86400000 * P' + 43200000 * L) ≤ 1000 * (86400000 * N' + v) + L → 1000 * (86400000 * N + u) ≤ 1000 * (86400000 * P + 43200000 * L) + L
          → x < y
      go R u v x y e f o c d g h = omega (arith, L-pos)

  low : (r : ℕ) → NearMillis P N P' N' r → T' < r + T + 1
  low r n = lt_of_mul-lt-mul_right L (go (r * L) (T * L) (T' * L) _ (two (r + T) 1 ∙ (λ k. two r T k + one-mul L k)) n.under t.under t'.over
      t'.under t.over)
    where
      go : (R u v y : ℕ) → y ≡ R + u + L → 2 ^ 43 * (86400000 * (P' + N)) ≤ 2 ^ 43 * (R + 86400000 * (N' + P)) + (2 ^ 42 + 10 * 84375) * L
          → 1000 * (86400000 * N + u) ≤ 1000 * (86400000 * P + 43200000 * L) + L → 1000 * (86400000 * P' + 43200000 * L) ≤ 1000 * (86400000 * N' + v) + L
          → 1000 * (86400000 * N' + v) ≤ 1000 * (86400000 * P' + 43200000 * L) + L → 1000 * (86400000 * P + 43200000 * L) ≤ 1000 * (86400000 * N + u) + L
          → v < y
      go R u v y f o c d g h = omega (arith, L-pos)

  early : 2 * 84375 * q + 2 ^ 42 < 2 * 84375 * p → T' < T
  early h = lt_of_mul-lt-mul_right L (go (p * L) (q * L) (T * L) (T' * L) (scale 0 q 4398046511104 0 p 0 (omega arith)) a.over b.under t.over
      t'.under t.under t'.over)
    where
      go : (x y u v : ℕ) → 8796093022208 * (0 * L) + 168750 * y + 4398046511104 * L ≤ 8796093022208 * (0 * L) + 168750 * x + 0 * L
          → x + 4503599627370496 * N ≤ 4503599627370496 * P + (68570 * 4503599627370496 + 2251799813685248) * L + 2 * L
          → 4503599627370496 * P' + (68570 * 4503599627370496 + 2251799813685248) * L ≤ y + 4503599627370496 * N' + 3 * L
          → 1000 * (86400000 * P + 43200000 * L) ≤ 1000 * (86400000 * N + u) + L → 1000 * (86400000 * N' + v) ≤ 1000 * (86400000 * P' + 43200000 * L) + L
          → 1000 * (86400000 * N + u) ≤ 1000 * (86400000 * P + 43200000 * L) + L → 1000 * (86400000 * P' + 43200000 * L) ≤ 1000 * (86400000 * N' + v) + L
          → v < u
      go x y u v h a b c d e f = omega (arith, L-pos)

  late : 2 ^ 41 * 2 ^ 42 + 2 * 84375 * p ≤ 2 * 84375 * q + 2 ^ 42 → T + 2 ^ 40 < T' + 1
  late h = lt_of_mul-lt-mul_right L (go (p * L) (q * L) (T * L) (T' * L) _ _ (two T (2 ^ 40)) (two T' 1 ∙ ap (λ (x : ℕ). T' * L + x) (one-mul L))
      (scale (2 ^ 40) p 0 0 q 4398046511104 (omega arith)) a.under b.over t.under t'.over t.over t'.under)
    where
      go : (x y u v X Y : ℕ) → X ≡ u + 2 ^ 40 * L → Y ≡ v + L
          → 8796093022208 * (2 ^ 40 * L) + 168750 * x + 0 * L ≤ 8796093022208 * (0 * L) + 168750 * y + 4398046511104 * L
          → 4503599627370496 * P + (68570 * 4503599627370496 + 2251799813685248) * L ≤ x + 4503599627370496 * N + 3 * L
          → y + 4503599627370496 * N' ≤ 4503599627370496 * P' + (68570 * 4503599627370496 + 2251799813685248) * L + 2 * L
          → 1000 * (86400000 * N + u) ≤ 1000 * (86400000 * P + 43200000 * L) + L → 1000 * (86400000 * P' + 43200000 * L) ≤ 1000 * (86400000 * N' + v) + L
          → 1000 * (86400000 * P + 43200000 * L) ≤ 1000 * (86400000 * N + u) + L → 1000 * (86400000 * N' + v) ≤ 1000 * (86400000 * P' + 43200000 * L) + L
          → X < Y
      go x y u v X Y e g h a b c d i j = omega (arith, L-pos)

  pub own-count : Own T T' (count_of p q)
  own-count = go (count_of p q) (count-decided p q)
    where
      go : (o : Outcome ℕ) → MillisDecided q p o → Own T T' o
      go _ (D.within r h n) =
          let k = near-by-places P N P' N' p q r a b n in
          let x = high r k in
          let y = low r k in
          since r h (omega arith)
      go _ (D.before h) = before (early h)
      go _ (D.past h) = let x = late h in past (omega arith)

-- the same milliseconds later
pub own-move : {T T' : ℕ} {o : Outcome ℕ} (c : ℕ) → Own (T + c) (T' + c) o → Own T T' o
own-move c (since r h e) = since r h (omega arith)
own-move c (before h) = before (omega arith)
own-move c (past h) = past (omega arith)
