-- The two fractions off the grid, each of 5/8 at most in size: the day's fraction is within 2 ^ -51 of the exact one. Assumes nothing.
use mathlib.Core.Path.{◌≡◌, refl, sym, ap, ◌∙◌, subst}
use mathlib.Core.Bool.{Bool, true, false, cond}
use Prim.Native.Nat.{ℕ, zero, suc, ◌+◌, ◌-◌, ◌*◌, ◌≤◌, ◌<◌}
use native.Mathlib.Nat.{add-mul}
use native.Mathlib.Omega.{arith}
use lib.Dec.{T}
use lib.Ieee.{Float, binary64, add, sub, lt, fits, of_bits}
use lib.Ieee.Bits.{of_bits-fits}
use Rattle.floats.specs.Whole.{nought}
use Rattle.rounding.specs.Value.{Val, L}
use Rattle.rounding.proofs.Value.{L-pos, val-move, val-unique}
use Rattle.rounding.proofs.Chain.{ValClose}
use Rattle.julian.specs.declared.day_number.Summed.{Summed}
use Rattle.julian.specs.declared.day_number.Normalized.{Normalized}
use Rattle.julian.specs.day_number.DayNumber.{kahan_start, kahan_of, add_fraction, sum_fractions, beside_borrowed, carry_day, joined_fractions, borrow_fraction}
use Rattle.julian.proofs.day_number.Units.{H, H-L, W, L-W, W-pos, Z, Z-W, one-L, half-L, nought-L}
use Rattle.julian.proofs.day_number.SumFractions.{Stage, Both, first, both}
use Rattle.julian.proofs.day_number.NormalizeFraction.{Normal, normal}
use Rattle.julian.proofs.day_number.CarryDay.{Settled, settled}
use Rattle.julian.proofs.day_number.Compensated.{law2, Tot, tight, kept_near, borrowed_near}
use Rattle.julian.proofs.day_number.Split.{Split, sum_fits, both_fits}

module _ (f g : Float) (ff : T (fits binary64 f)) (fg : T (fits binary64 g)) (P N Q M : ℕ) (vf : Val f P N L) (vg : Val g Q M L) (f1 : 8 * N ≤ 8 * P + 5 * L)
    (f2 : 8 * P ≤ 8 * N + 5 * L) (g1 : 8 * M ≤ 8 * Q + 5 * L) (g2 : 8 * Q ≤ 8 * M + 5 * L) where
  start : Stage L (2 * W) (add_fraction 0 kahan_start f) 0 (H + P) (0 + N) 0 0
  start = first L H (2 * W) law2 L-pos H-L one-L half-L nought-L (omega (arith, L-W)) f g P N Q M vf vg (omega (arith, H-L)) (omega (arith, H-L, L-W))
      (omega (arith, H-L, L-W)) (omega (arith, H-L, L-W)) (omega (arith, H-L, L-W))

  one_more : (up : ℕ) × ((add_fraction 0 kahan_start f).carry ≡ 0 + up) × Tot (add_fraction 0 kahan_start f) up (H + 0 + P) (0 + 0 + N) Z
  unfolding of_bits
  one_more = tight kahan_start f (of_bits-fits binary64 0x3fe0_0000_0000_0000) ff H 0 0 0 P N half-L nought-L vf (omega (arith, H-L)) (omega (arith, H-L))
      (omega arith) (omega arith) (omega arith) (omega arith)
      (omega (arith, H-L, L-W, W-pos)) (omega (arith, H-L, L-W, W-pos)) 0

  -- the sum and its correction, together
  two-more : (up : ℕ) × ((sum_fractions f g).carry ≡ up) × Tot (sum_fractions f g) up (H + P + Q) (N + M) (2 * Z)
  unfolding sum_fractions
  two-more = go start one_more
    where
      go : Stage L (2 * W) (add_fraction 0 kahan_start f) 0 (H + P) (0 + N) 0 0 → (up : ℕ) × ((add_fraction 0 kahan_start f).carry ≡ 0 + up)
          × Tot (add_fraction 0 kahan_start f) up (H + 0 + P) (0 + 0 + N) Z
          → (up : ℕ) × ((add_fraction (add_fraction 0 kahan_start f).carry (add_fraction 0 kahan_start f).kahan g).carry ≡ up)
          × Tot (add_fraction (add_fraction 0 kahan_start f).carry (add_fraction 0 kahan_start f).kahan g) up (H + P + Q) (N + M) (2 * Z)
      go a (u, e, o) =
          let x = val-unique a.sum.val o.sum in
          let y = val-unique a.correction.val o.correction in
          let r = ranges a.up a.sum.p a.sum.n o.p o.n x a.few a.sum.over a.sum.under a.high a.reach in
          let c = corrections a.correction.p a.correction.n o.a o.b y a.correction.over a.correction.under in
          last u e o.p o.n o.a o.b o.over o.under
          (tight (add_fraction 0 kahan_start f).kahan g (sum_fits 0 kahan_start f) fg o.p o.n o.a o.b Q M o.sum o.correction vg
          (omega (arith, r.0, L-W, W-pos)) (omega (arith, r.1, L-W, W-pos)) (omega arith) (omega arith) (omega (arith, c.0)) (omega (arith, c.1))
          (omega (arith, r.0, L-W, W-pos)) (omega (arith, r.1, L-W, W-pos)) (add_fraction 0 kahan_start f).carry)
        where
          plain : (u : ℕ) → 0 + u ≡ u
          plain u = omega arith

          -- 8 s ≤ 8 + 1, 8 s ≥ -2
          ranges : (u p n x y : ℕ) → p + y ≡ x + n → u ≤ 1 → p + (0 + N + u * L) ≤ n + (H + P) + (0 + 2 * (2 * W))
              → n + (H + P) ≤ p + (0 + N + u * L) + (0 + 2 * (2 * W)) → H + P < 0 + N + u * L + L + (0 + 2 * W) → (1 ≤ u → 0 + N + u * L ≤ H + P + (0 + 2 * W))
              → (x < y + L + 8 * W) × (8 * y ≤ 8 * x + L + 64 * W)
          ranges zero p n x y e l o v h r = omega (arith, H-L)
          ranges (suc u) p n x y e l o v h r = let z : 0 + N + suc u * L ≤ H + P + (0 + 2 * W) = r (omega arith) in omega (arith, H-L)

          corrections : (p n x y : ℕ) → p + y ≡ x + n → p + 0 ≤ n + 0 + (0 + 2 * 0 + 4 * (2 * W)) → n + 0 ≤ p + 0 + (0 + 2 * 0 + 4 * (2 * W))
              → (x ≤ y + 8 * W) × (y ≤ x + 8 * W)
          corrections p n x y e o v = omega arith

          join : (u v : ℕ) (r : Summed) (p n a b : ℕ) → p + a + (0 + 0 + N + u * L) ≤ n + b + (H + 0 + P) + Z
              → n + b + (H + 0 + P) ≤ p + a + (0 + 0 + N + u * L) + Z → Tot r v (p + a + Q) (n + b + M) Z → Tot r (u + v) (H + P + Q) (N + M) (2 * Z)
          join u v r p n a b o w t = record {
            p = t.p;
            n = t.n;
            a = t.a;
            b = t.b;
            sum = t.sum;
            correction = t.correction;
            over =
                simp add-mul (omega (arith, t.over));
            under = simp add-mul (omega (arith, t.under));
          }

          last : (u : ℕ) → (add_fraction 0 kahan_start f).carry ≡ 0 + u → (p n a b : ℕ) → p + a + (0 + 0 + N + u * L) ≤ n + b + (H + 0 + P) + Z
              → n + b + (H + 0 + P) ≤ p + a + (0 + 0 + N + u * L) + Z
              → (v : ℕ) × ((add_fraction (add_fraction 0 kahan_start f).carry (add_fraction 0 kahan_start f).kahan g).carry ≡
              (add_fraction 0 kahan_start f).carry +
              v) × Tot (add_fraction (add_fraction 0 kahan_start f).carry (add_fraction 0 kahan_start f).kahan g) v (p + a + Q) (n + b + M) Z
              → (up : ℕ) × ((add_fraction (add_fraction 0 kahan_start f).carry (add_fraction 0 kahan_start f).kahan g).carry ≡ up)
              × Tot (add_fraction (add_fraction 0 kahan_start f).carry (add_fraction 0 kahan_start f).kahan g) up (H + P + Q) (N + M) (2 * Z)
          last u e p n a b o w (v, c, t) = (u + v, c ∙ ap (λ (z : ℕ). z + v) (e ∙ plain u), join u v _ p n a b o w t)

  -- the fraction that the last step takes
  close_fraction : (b : Both L (2 * W) (sum_fractions f g) (H + P + Q) (N + M))
      → (n : Normal L (2 * W) (sum_fractions f g).kahan (H + P + Q) (N + M + b.up * L))
      → ValClose L n.fraction (H + P + Q + n.borrow * L) (N + M + b.up * L) (8 * W)
  close_fraction b n = go two-more
    where
      go : (up : ℕ) × ((sum_fractions f g).carry ≡ up) × Tot (sum_fractions f g) up (H + P + Q) (N + M) (2 * Z)
          → ValClose L n.fraction (H + P + Q + n.borrow * L) (N + M + b.up * L) (8 * W)
      go (u, e, o) =
          let x = val-unique b.sum.val o.sum in
          let y = val-unique b.correction.val o.correction in
          let q : b.up ≡ u = sym b.carry ∙ e in
          let r = sizes (b.up * L) b.sum.p b.sum.n o.p o.n x b.sum.over b.sum.under b.high b.low in
          let c = corrections b.correction.p b.correction.n o.a o.b y b.correction.over b.correction.under in
          which n.test n.tested n.borrow n.borrow_is n.fraction n.fraction-is b.up o.p o.n o.a o.b o.sum o.correction
          c.0 c.1 r.0 r.1
          (subst (λ (i : ℕ). o.p + o.a + (N + M + i * L) ≤ o.n + o.b + (H + P + Q) + (2 * Z)) (sym q) o.over)
          (subst (λ (i : ℕ). o.n + o.b + (H + P + Q) ≤ o.p + o.a + (N + M + i * L) + (2 * Z)) (sym q) o.under)
        where
          corrections : (p n x y : ℕ) → p + y ≡ x + n → p + 0 ≤ n + 0 + 12 * (2 * W) → n + 0 ≤ p + 0 + 12 * (2 * W) → (x ≤ y + 64 * W) × (y ≤ x + 64 * W)
          corrections p n x y e o v = omega arith

          sizes : (w p n x y : ℕ) → p + y ≡ x + n → p + (N + M + w) ≤ n + (H + P + Q) + 4 * (2 * W) → n + (H + P + Q) ≤ p + (N + M + w) + 4 * (2 * W)
              → H + P + Q < N + M + w + L + 3 * (2 * W) → N + M + w + 60 * (2 * W) ≤ H + P + Q + L
              → (x < y + L + 64 * W) × (y + 100 * W < x + L)
          sizes w p n x y e o v h l = omega (arith, W-pos)

          which : (t : Bool) → lt (add binary64 (sum_fractions f g).kahan.sum (sum_fractions f g).kahan.correction) nought ≡ t → (bo : ℕ) → bo ≡ cond t 1 0
              → (z : Float)
              → z ≡ cond t (borrow_fraction (sum_fractions f g).kahan.sum
              (sub binary64 (add binary64 (sum_fractions f g).kahan.sum (sum_fractions f g).kahan.correction) (sum_fractions f g).kahan.sum))
              (add binary64 (sum_fractions f g).kahan.sum (sum_fractions f g).kahan.correction)
              → (up p n a b : ℕ) → Val (sum_fractions f g).kahan.sum p n L → Val (sum_fractions f g).kahan.correction a b L → a ≤ b + 64 * W
              → b ≤ a + 64 * W → p < n + L + 64 * W → n + 100 * W < p + L
              → p + a + (N + M + up * L) ≤ n + b + (H + P + Q) + (2 * Z) → n + b + (H + P + Q) ≤ p + a + (N + M + up * L) + (2 * Z)
              → ValClose L z (H + P + Q + bo * L) (N + M + up * L) (8 * W)
          which true test bo eb z ez up p n a b vs vk k1 k2 s1 s2 o v =
              let c = borrowed_near (sum_fractions f g).kahan.sum (sum_fractions f g).kahan.correction p n a b vs vk k1 k2 s1 s2 test in
              subst (λ (i : Float). ValClose L i (H + P + Q + bo * L) (N + M + up * L) (8 * W)) (sym ez)
              (subst (λ (i : ℕ). ValClose L (borrow_fraction (sum_fractions f g).kahan.sum
              (sub binary64 (add binary64 (sum_fractions f g).kahan.sum (sum_fractions f g).kahan.correction) (sum_fractions f g).kahan.sum))
              (H + P + Q + i * L) (N + M + up * L) (8 * W)) (sym eb)
              (record { p = c.p; n = c.n; val = c.val; over = omega (arith, c.over, Z-W); under = omega (arith, c.under, Z-W) }))
          which false test bo eb z ez up p n a b vs vk k1 k2 s1 s2 o v =
              let c = kept_near (sum_fractions f g).kahan.sum (sum_fractions f g).kahan.correction p n a b vs vk k1 k2 s1 s2 in
              subst (λ (i : Float). ValClose L i (H + P + Q + bo * L) (N + M + up * L) (8 * W)) (sym ez)
              (subst (λ (i : ℕ). ValClose L (add binary64 (sum_fractions f g).kahan.sum (sum_fractions f g).kahan.correction) (H + P + Q + i * L)
              (N + M + up * L) (8 * W)) (sym eb)
              (record { p = c.p; n = c.n; val = c.val; over = omega (arith, c.over, Z-W); under = omega (arith, c.under, Z-W) }))

  pub split_off : Split L (8 * W) (sum_fractions f g) (joined_fractions f g) (H + P + Q) (N + M)
  unfolding joined_fractions
  split_off =
      let b = both L H (2 * W) law2 L-pos H-L one-L half-L nought-L (omega (arith, L-W)) f g P N Q M vf vg (omega (arith, H-L)) (omega (arith, H-L, L-W))
      (omega (arith, H-L, L-W)) (omega (arith, H-L, L-W)) (omega (arith, H-L, L-W)) in
      let k = sum_fractions f g in
      go b (normal L (2 * W) law2 L-pos one-L nought-L (omega (arith, L-W)) k.kahan (H + P + Q) (N + M + b.up * L) (both_fits f g) b.sum b.high
      b.low b.correction)
    where
      go : (b : Both L (2 * W) (sum_fractions f g) (H + P + Q) (N + M)) → (n : Normal L (2 * W) (sum_fractions f g).kahan (H + P + Q) (N + M + b.up * L))
          → Split L (8 * W) (sum_fractions f g) (joined_fractions f g) (H + P + Q) (N + M)
      go b n = let t = close_fraction b n in let w =
          val-unique t.val n.ready.val in fin n.ready.sum.p n.ready.sum.n n.ready.p n.ready.n
          (closer t.p t.n n.ready.p n.ready.n (H + P + Q + n.borrow * L) (N + M + b.up * L) w t.over)
          (closer' t.p t.n n.ready.p n.ready.n (H + P + Q + n.borrow * L) (N + M + b.up * L) w t.under)
          (settled n.sum n.fraction n.ready.p n.ready.n n.ready.sum.p n.ready.sum.n n.sum_fits n.fraction-fits n.ready.val
          n.ready.sum.val n.ready.low
          (top n.ready.p n.ready.n n.ready.high)
          (near n.ready.p n.ready.n n.ready.sum.p n.ready.sum.n (H + P + Q + n.borrow * L) (N + M + b.up * L) n.ready.over
          n.ready.sum.under)
          (near n.ready.n n.ready.p n.ready.sum.n n.ready.sum.p (N + M + b.up * L) (H + P + Q + n.borrow * L) n.ready.under
          n.ready.sum.over))
        where
          closer : (p n x y X Y : ℕ) → p + y ≡ x + n → p + Y ≤ n + X + 8 * W → x + Y ≤ y + X + 8 * W
          closer p n x y X Y e h = omega arith

          closer' : (p n x y X Y : ℕ) → p + y ≡ x + n → n + X ≤ p + Y + 8 * W → y + X ≤ x + Y + 8 * W
          closer' p n x y X Y e h = omega arith

          top : (p n : ℕ) → p < n + L + 64 * (2 * W) → p < n + L + 2048 * W
          top p n h = omega arith

          near : (p n a b X Y : ℕ) → p + Y ≤ n + X + 40 * (2 * W) → b + X ≤ a + Y + 40 * (2 * W) → p + b ≤ n + a + 2048 * W
          near p n a b X Y x y = omega arith

          fin : (a c x y : ℕ) → x + (N + M + b.up * L) ≤ y + (H + P + Q + n.borrow * L) + 8 * W
              → y + (H + P + Q + n.borrow * L) ≤ x + (N + M + b.up * L) + 8 * W
              → Settled (carry_day (kahan_of n.sum n.fraction) n.fraction) n.fraction x y
              → Split L (8 * W) (sum_fractions f g) (joined_fractions f g) (H + P + Q) (N + M)
          fin a c x y o u k =
              let e : joined_fractions f g ≡ beside_borrowed n.borrow (carry_day (kahan_of n.sum n.fraction) n.fraction) = n.is in
              subst (λ (r : Normalized). Split L (8 * W) (sum_fractions f g) r (H + P + Q) (N + M)) (sym e) (record {
                up = b.up;
                few = b.few;
                carry = b.carry;
                more = k.up;
                one = k.few;
                again = k.carry;
                down = n.borrow;
                least = n.few;
                borrow = refl;
                units = x - (y + k.up * L);
                val = val-move k.val (take x (y + k.up * L) k.low);
                below = under' x (y + k.up * L) k.high k.low;
                over = over' x y (k.up * L) (N + M + b.up * L) (H + P + Q + n.borrow * L) k.low o;
                under = over'' x y (k.up * L) (N + M + b.up * L) (H + P + Q + n.borrow * L) k.low u;
              })
            where
              take : (x z : ℕ) → z ≤ x → x + 0 ≡ x - z + z
              take x z h = omega arith

              under' : (x z : ℕ) → x < z + L → z ≤ x → x - z < L
              under' x z h l = omega arith

              over' : (x y m Y X : ℕ) → y + m ≤ x → x + Y ≤ y + X + 8 * W → x - (y + m) + Y + m ≤ X + 8 * W
              over' x y m Y X h l = omega arith

              over'' : (x y m Y X : ℕ) → y + m ≤ x → y + X ≤ x + Y + 8 * W → X ≤ x - (y + m) + Y + m + 8 * W
              over'' x y m Y X h l = omega arith
