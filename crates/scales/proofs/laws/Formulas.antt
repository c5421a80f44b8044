-- What each formula computes, near what it means: the errors added up once, over variables. i is the place of the last digit that a rounding may move: 2 ^ i in
-- units of 2 ^ -90. Assumes nothing.
use Rattle.std.proofs.Common.{ℕ, ◌+◌, ◌*◌, ◌^◌, ◌<◌, ◌≤◌, false, refl, ap, subst, add_comm, arith, lit<}
use lib.Ieee.{Float, binary64, add, sub, mul, round}
use Rattle.rounding.specs.Value.{Val, L}
use Rattle.rounding.proofs.About.{U, About, about_own, about_scale, about_add, about_sub, about_mul, about_div}
use Rattle.constants.specs.Constants.{seconds_per_day}
use Rattle.scales.specs.Formulas.{since}
use Rattle.julian.specs.shifts.Shifts.{plus, minus, days_of}

-- a part of at most S units, its value (p - n) / L written over L * c
pub part : (c S : ℕ) {x : Float} {p n : ℕ} → 0 < c → p ≤ n + S * U → n ≤ p + S * U → Val x p n L → About x (p * c) (n * c) (L * c) S 0
part c S C h k v = about_scale c C (about_own S h k v)

-- ---- so many days more, or less
module _ (i c S : ℕ) {small days : Float} (big : Float) {p n K K' M e : ℕ} (C : 0 < c) (I : 985 + i ≤ 2044) (r : S + M + (0 + e) < 2 ^ (54 + i))
    (h : p ≤ n + S * U) (k : n ≤ p + S * U) (v : Val small p n L) (a : About days K K' (L * c) M e) where
  pub plus-about : About (plus days big small) (p * c + K) (n * c + K') (L * c) (S + M) (0 + e + 2 ^ i)
  unfolding plus
  plus-about = about_add i I r (part c S C h k v) a

  pub minus-about : About (minus days big small) (p * c + K') (n * c + K) (L * c) (S + M) (0 + e + 2 ^ i)
  unfolding minus
  minus-about = about_sub i I r (part c S C h k v) a

-- seconds as days
day-val : Val (round binary64 false 86400 1) 86400 0 1
unfolding round
day-val = record { sign = false; size = 86400; has = (refl, refl); is = refl }

pub days-about : (i S M : ℕ) {seconds : Float} {p n : ℕ} → 985 + i ≤ 2044 → S ≤ M * 86400 → S + 0 < 2 ^ (54 + i) * 86400 → p ≤ n + S * U → n ≤ p + S * U
    → Val seconds p n L
    → About (days_of seconds) (p * 1) (n * 1) (L * 86400) M (2 ^ i)
unfolding days_of seconds_per_day
days-about i S M I m r h k v = about_div i 86400 M (2 ^ i) I (lit< tt) m r (go (2 ^ i)) day-val (about_own S h k v)
  where
    go : (t : ℕ) → 0 + t * 86400 ≤ t * 86400
    go t = omega arith

-- ---- the days since 1977
module _ (i1 i2 i3 : ℕ) {a b big y : Float} {P N Q R K H D M1 M2 M3 M4 e1 e2 e3 e4 : ℕ} (I1 : 985 + i1 ≤ 2044) (I2 : 985 + i2 ≤ 2044) (I3 : 985 + i3 ≤ 2044)
    (r1 : M1 + M3 + (e1 + e3) < 2 ^ (54 + i1)) (r2 : M2 + M4 + (e2 + e4) < 2 ^ (54 + i2))
    (r3 : M1 + M3 + (M2 + M4) + (e1 + e3 + 2 ^ i1 + (e2 + e4 + 2 ^ i2)) < 2 ^ (54 + i3))
    (vb : About big P N D M1 e1) (vy : About y Q R D M2 e2) (va : About a K 0 D M3 e3) (vc : About b H 0 D M4 e4) where
  pub since-about : About (since a b big y) (P + 0 + (Q + 0)) (N + K + (R + H)) D (M1 + M3 + (M2 + M4)) (e1 + e3 + 2 ^ i1 + (e2 + e4 + 2 ^ i2) + 2 ^ i3)
  unfolding since
  since-about = about_add i3 I3 r3 (about_sub i1 I1 r1 vb va) (about_sub i2 I2 r2 vy vc)

  -- the same with the other sign
  pub until-about : About (sub binary64 (sub binary64 a big) (sub binary64 y b)) (K + N + (R + H)) (0 + P + (Q + 0)) D (M3 + M1 + (M2 + M4))
      (e3 + e1 + 2 ^ i1 + (e2 + e4 + 2 ^ i2) + 2 ^ i3)
  until-about = about_sub i3 I3 (other M1 M3 (M2 + M4) e1 e3 (2 ^ i1) (e2 + e4 + 2 ^ i2) (2 ^ (54 + i3)) r3)
      (about_sub i1 I1 (turn M1 M3 e1 e3 (2 ^ (54 + i1)) r1) va vb) (about_sub i2 I2 r2 vy vc)
    where
      turn : (a b c d w : ℕ) → a + b + (c + d) < w → b + a + (d + c) < w
      turn a b c d w h = omega arith

      other : (a b c d e f g w : ℕ) → a + b + c + (d + e + f + g) < w → b + a + c + (e + d + f + g) < w
      other a b c d e f g w h = omega arith

-- ---- one law for the rates: z less x * k, and z and x * k, for a float k = B / E that stands for A / C
module _ (i4 i5 A B C E Δ M' e' : ℕ) {k x z : Float} {P N Q R D M e Mz ez : ℕ} (I4 : 985 + i4 ≤ 2044) (I5 : 985 + i5 ≤ 2044) (F : 0 < E) (G : 0 < C)
    (d1 : B * C ≤ A * E + Δ) (d2 : A * E ≤ B * C + Δ) (m : M * A ≤ M' * C) (r4 : (M + e) * B < 2 ^ (54 + i4) * E)
    (b4 : e * (B * C) + Δ * M + 2 ^ i4 * (E * C) ≤ e' * (E * C))
    (r5 : Mz + M' + (ez + e') < 2 ^ (54 + i5)) (kv : Val k B 0 E) (a : About x P N D M e) (b : About z Q R D Mz ez) where
  pub rate-less : About (sub binary64 z (mul binary64 x k)) (Q * C + N * A) (R * C + P * A) (D * C) (Mz + M') (ez + e' + 2 ^ i5)
  rate-less = about_sub i5 I5 r5 (about_scale C G b) (about_mul i4 A B C E Δ M' e' I4 F G d1 d2 m r4 b4 kv a)

  pub rate-more : About (add binary64 z (mul binary64 x k)) (Q * C + P * A) (R * C + N * A) (D * C) (Mz + M') (ez + e' + 2 ^ i5)
  rate-more = about_add i5 I5 r5 (about_scale C G b) (about_mul i4 A B C E Δ M' e' I4 F G d1 d2 m r4 b4 kv a)

-- ---- the same over any range: the larger part is at most S in size; y, from which the days since 1977 are counted, and z, which is corrected, at most My and
-- Mz, with the errors ey and ez; the two constants at most Ma and Mb, the second with the error eb. M and e are the size and the error of the correction.
pub record Budget (S My ey Mz ez Ma Mb eb A B C E Δ : ℕ) : Type 0 where
  pub i1 : ℕ
  pub i2 : ℕ
  pub i3 : ℕ
  pub i4 : ℕ
  pub i5 : ℕ
  pub M : ℕ
  pub e : ℕ
  pub I1 : 985 + i1 ≤ 2044
  pub I2 : 985 + i2 ≤ 2044
  pub I3 : 985 + i3 ≤ 2044
  pub I4 : 985 + i4 ≤ 2044
  pub I5 : 985 + i5 ≤ 2044
  pub r1 : S + Ma + (0 + 0) < 2 ^ (54 + i1)
  pub r2 : My + Mb + (ey + eb) < 2 ^ (54 + i2)
  pub r3 : S + Ma + (My + Mb) + (0 + 0 + 2 ^ i1 + (ey + eb + 2 ^ i2)) < 2 ^ (54 + i3)
  pub F : 0 < E
  pub G : 0 < C
  pub d1 : B * C ≤ A * E + Δ
  pub d2 : A * E ≤ B * C + Δ
  pub m : (S + Ma + (My + Mb)) * A ≤ M * C
  pub r4 : (S + Ma + (My + Mb) + (0 + 0 + 2 ^ i1 + (ey + eb + 2 ^ i2) + 2 ^ i3)) * B < 2 ^ (54 + i4) * E
  pub b4 : (0 + 0 + 2 ^ i1 + (ey + eb + 2 ^ i2) + 2 ^ i3) * (B * C) + Δ * (S + Ma + (My + Mb)) + 2 ^ i4 * (E * C) ≤ e * (E * C)
  pub r5 : Mz + M + (ez + e) < 2 ^ (54 + i5)

module _ {S My ey Mz ez Ma Mb eb A B C E Δ : ℕ} (t : Budget S My ey Mz ez Ma Mb eb A B C E Δ) {k a b big y z : Float} {P N Q R K H D X Y : ℕ}
    (kv : Val k B 0 E) (vb : About big P N D S 0) (vy : About y Q R D My ey) (va : About a K 0 D Ma 0) (vc : About b H 0 D Mb eb)
    (vz : About z X Y D Mz ez) where
  pub less-since : About (sub binary64 z (mul binary64 (since a b big y) k)) (X * C + (N + K + (R + H)) * A) (Y * C + (P + 0 + (Q + 0)) * A) (D * C)
      (Mz + t.M) (ez + t.e + 2 ^ t.i5)
  less-since = rate-less t.i4 t.i5 A B C E Δ t.M t.e t.I4 t.I5 t.F t.G t.d1 t.d2 t.m t.r4 t.b4 t.r5 kv
      (since-about t.i1 t.i2 t.i3 t.I1 t.I2 t.I3 t.r1 t.r2 t.r3 vb vy va vc) vz

  pub more-since : About (add binary64 z (mul binary64 (since a b big y) k)) (X * C + (P + 0 + (Q + 0)) * A) (Y * C + (N + K + (R + H)) * A) (D * C)
      (Mz + t.M) (ez + t.e + 2 ^ t.i5)
  more-since = rate-more t.i4 t.i5 A B C E Δ t.M t.e t.I4 t.I5 t.F t.G t.d1 t.d2 t.m t.r4 t.b4 t.r5 kv
      (since-about t.i1 t.i2 t.i3 t.I1 t.I2 t.I3 t.r1 t.r2 t.r3 vb vy va vc) vz

  pub less-until : About (sub binary64 z (mul binary64 (sub binary64 (sub binary64 a big) (sub binary64 y b)) k)) (X * C + (0 + P + (Q + 0)) * A)
      (Y * C + (K + N + (R + H)) * A) (D * C) (Mz + t.M) (ez + t.e + 2 ^ t.i5)
  less-until = rate-less t.i4 t.i5 A B C E Δ t.M t.e t.I4 t.I5 t.F t.G t.d1 t.d2 t.m t.r4 t.b4 t.r5 kv
      (subst (λ (w : ℕ). About (sub binary64 (sub binary64 a big) (sub binary64 y b)) (K + N + (R + H)) (0 + P + (Q + 0)) D w
      (0 + 0 + 2 ^ t.i1 + (ey + eb + 2 ^ t.i2) + 2 ^ t.i3))
      (ap (λ (w : ℕ). w + (My + Mb)) (add_comm Ma S)) (until-about t.i1 t.i2 t.i3 t.I1 t.I2 t.I3 t.r1 t.r2 t.r3 vb vy va vc)) vz
