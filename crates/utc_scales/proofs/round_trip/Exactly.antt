-- The exact relation of a day without its products: with V = n L + f the date and G = tai_utc_at n f its TAI-UTC, TAI is V + G / 86400 - 1/2; and by
-- the fixed table it rises with the date. Assumes nothing.
use mathlib.Core.Path.{◌≡◌}
use mathlib.Core.List.{List}
use mathlib.Core.Logic.{◌⊎◌, inl, inr}
use Prim.Native.Nat.{ℕ, ◌+◌, ◌*◌, ◌≤◌, ◌<◌, ◌-◌}
use native.Mathlib.Nat.{mul_left_comm}
use native.Mathlib.Omega.{arith}
use native.Mathlib.Decide.{dec_le}
use Rattle.leap_table.specs.rows.Table.{Row, fixed, last_seconds}
use Rattle.rounding.specs.Value.{L}
use Rattle.julian.specs.declared.JulianDate.{JulianDate}
use Rattle.julian.specs.Worth.{Worth}
use Rattle.rounding.specs.Picoseconds.{day_ps}
use Rattle.scales.specs.laws.Meaning.{Means}
use Rattle.utc_scales.specs.round_trip.UtcDays.{
  H,
  seconds_on,
  leap_after,
  short_after,
  Ending,
  ends_plain,
  ends_longer,
  ends_shorter,
  WholeSeconds,
  ExactDay,
}
use Rattle.utc_scales.specs.round_trip.Relation.{tai_over_utc}
use Rattle.utc_scales.proofs.round_trip.Steady.{tai_utc_at, share_less}
use Rattle.utc_scales.proofs.round_trip.FixedDays.{FixedDay, fixed-few, fixed-rises}
use Rattle.utc_scales.proofs.round_trip.Meant.{day-of}

-- ---- t is the TAI of the fraction f of day n, to ps picoseconds
pub record Said (rows : List Row) (ps n f : ℕ) (t : JulianDate) : Type 0 where
  pub p : ℕ
  pub m : ℕ
  pub worth : Worth t p m L
  pub over : day_ps * (86400 * (p + H)) ≤ day_ps * (86400 * m + 86400 * (n * L + f) + tai_utc_at rows n f) + 86400 * (ps * L)
  pub under : day_ps * (86400 * m + 86400 * (n * L + f) + tai_utc_at rows n f) ≤ day_ps * (86400 * (p + H)) + 86400 * (ps * L)

-- the products of the relation, gathered
gathered : {s r : ℕ} (d N f p m : ℕ) → Ending s r → r * f ≤ d → N + f + m ≡ p + H
    → (86400 + s - r) * p + (d + (s * H + r * N)) + 86400 * H ≡ 86400 * (N + f) + (d + s * f - r * f) + ((86400 + s - r) * m + (s * N + r * H))
gathered d N f p m ends_plain k e = omega arith
gathered d N f p m ends_longer k e = omega arith
gathered d N f p m ends_shorter k e = omega arith

pub said : {rows : List Row} {ps n : ℕ} {u t : JulianDate} → WholeSeconds rows n → (x : ExactDay u n) → Means ps (tai_over_utc rows n) u t
    → Said rows ps n x.on.f t
unfolding day-of
said {rows} {ps} {n} {u} {t} b x w =
    let o = day-of x w.from in
    let e = gathered (seconds_on rows n * L) (n * L) o.f w.p w.n b.ending (share_less n o.f b o.below) o.is in
    record {
      p = w.p';
      m = w.n';
      worth = w.to;
      over = high ((86400 + leap_after rows n - short_after rows n) * w.p) ((86400 + leap_after rows n - short_after rows n) * w.n)
          (seconds_on rows n * L + (leap_after rows n * H + short_after rows n * (n * L)))
          (leap_after rows n * (n * L) + short_after rows n * H) w.p' w.n'
          (n * L + o.f) (tai_utc_at rows n o.f) (ps * L) (mul_left_comm ps 86400 L) e w.over;
      under = low ((86400 + leap_after rows n - short_after rows n) * w.p) ((86400 + leap_after rows n - short_after rows n) * w.n)
          (seconds_on rows n * L + (leap_after rows n * H + short_after rows n * (n * L)))
          (leap_after rows n * (n * L) + short_after rows n * H) w.p' w.n'
          (n * L + o.f) (tai_utc_at rows n o.f) (ps * L) (mul_left_comm ps 86400 L) e w.under;
    }
  where
    high : (P N M S p m W G x : ℕ) {y : ℕ} → y ≡ 86400 * x → P + M + 86400 * H ≡ 86400 * W + G + (N + S)
        → day_ps * (86400 * p + N + S) ≤ day_ps * (86400 * m + P + M) + y
        → day_ps * (86400 * (p + H)) ≤ day_ps * (86400 * m + 86400 * W + G) + 86400 * x
    high P N M S p m W G x e g k = omega arith

    low : (P N M S p m W G x : ℕ) {y : ℕ} → y ≡ 86400 * x → P + M + 86400 * H ≡ 86400 * W + G + (N + S)
        → day_ps * (86400 * m + P + M) ≤ day_ps * (86400 * p + N + S) + y
        → day_ps * (86400 * m + 86400 * W + G) ≤ day_ps * (86400 * (p + H)) + 86400 * x
    low P N M S p m W G x e g k = omega arith

-- and back
pub means-of : {rows : List Row} {ps n : ℕ} {u t : JulianDate} → WholeSeconds rows n → (x : ExactDay u n) → Said rows ps n x.on.f t
    → Means ps (tai_over_utc rows n) u t
means-of {rows} {ps} {n} {u} {t} b x w =
    let e = gathered (seconds_on rows n * L) (n * L) x.on.f x.p x.m b.ending (share_less n x.on.f b x.on.below) x.on.is in
    record {
      p = x.p;
      n = x.m;
      p' = w.p;
      n' = w.m;
      from = x.worth;
      to = w.worth;
      over = high ((86400 + leap_after rows n - short_after rows n) * x.p) ((86400 + leap_after rows n - short_after rows n) * x.m)
          (seconds_on rows n * L + (leap_after rows n * H + short_after rows n * (n * L)))
          (leap_after rows n * (n * L) + short_after rows n * H) w.p w.m
          (n * L + x.on.f) (tai_utc_at rows n x.on.f) (ps * L) (mul_left_comm ps 86400 L) e w.over;
      under = low ((86400 + leap_after rows n - short_after rows n) * x.p) ((86400 + leap_after rows n - short_after rows n) * x.m)
          (seconds_on rows n * L + (leap_after rows n * H + short_after rows n * (n * L)))
          (leap_after rows n * (n * L) + short_after rows n * H) w.p w.m
          (n * L + x.on.f) (tai_utc_at rows n x.on.f) (ps * L) (mul_left_comm ps 86400 L) e w.under;
    }
  where
    high : (P N M S p m W G x : ℕ) {y : ℕ} → y ≡ 86400 * x → P + M + 86400 * H ≡ 86400 * W + G + (N + S)
        → day_ps * (86400 * (p + H)) ≤ day_ps * (86400 * m + 86400 * W + G) + 86400 * x
        → day_ps * (86400 * p + N + S) ≤ day_ps * (86400 * m + P + M) + y
    high P N M S p m W G x e g k = omega arith

    low : (P N M S p m W G x : ℕ) {y : ℕ} → y ≡ 86400 * x → P + M + 86400 * H ≡ 86400 * W + G + (N + S)
        → day_ps * (86400 * m + 86400 * W + G) ≤ day_ps * (86400 * (p + H)) + 86400 * x
        → day_ps * (86400 * m + P + M) ≤ day_ps * (86400 * p + N + S) + y
    low P N M S p m W G x e g k = omega arith

-- ---- the exact relation of the fixed table rises with the date: by no less than the date, less than a day apart; and by no less than 86373 s, a day or more
-- apart
pub relation_rises : (n m f e : ℕ) → FixedDay n → FixedDay m → f < L → e < L → n * L + f ≤ m * L + e
    → (tai_utc_at fixed n f ≤ tai_utc_at fixed m e) ⊎ ((n * L + f + L ≤ m * L + e) × (tai_utc_at fixed n f ≤ tai_utc_at fixed m e + (last_seconds - 10) * L))
relation_rises n m f e t r b c k = go (dec_le (n * L + f + L) (m * L + e))
  where
    go : Dec (n * L + f + L ≤ m * L + e) → (tai_utc_at fixed n f ≤ tai_utc_at fixed m e)
        ⊎ ((n * L + f + L ≤ m * L + e) × (tai_utc_at fixed n f ≤ tai_utc_at fixed m e + (last_seconds - 10) * L))
    go (yes j) = inr (j, end (tai_utc_at fixed n f) (tai_utc_at fixed m e) (fixed-few n f t b).1 (fixed-few m e r c).0)
      where
        end : (G K : ℕ) → G ≤ last_seconds * L → 10 * L ≤ K → G ≤ K + (last_seconds - 10) * L
        end G K x y = omega arith
    go (no j) = inl (fixed-rises n m f e t r b c k (less (n * L + f + L) (m * L + e) j))
      where
        less : (x y : ℕ) → (x ≤ y → ⊥) → y < x
        less x y q = omega arith
