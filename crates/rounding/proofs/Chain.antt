-- A chain of sums and differences, in units of 1 / D. Each is off by h units at most, as long as it is below 2 in size (`Adds`), and the errors add up.
-- Assumes nothing.
use mathlib.Core.Path.{◌≡◌}
use Prim.Native.Nat.{ℕ, ◌+◌, ◌*◌, ◌≤◌, ◌<◌}
use native.Mathlib.Omega.{arith}
use lib.Ieee.{Float, binary64, add, sub, neg}
use Rattle.rounding.specs.Value.{Val}
use Rattle.rounding.proofs.Value.{neg_val}

-- z is within e / D of (P - N) / D
pub record ValClose (D : ℕ) (z : Float) (P N e : ℕ) : Type 0 where
  pub p : ℕ
  pub n : ℕ
  pub val : Val z p n D
  pub over : p + N ≤ n + P + e
  pub under : n + P ≤ p + N + e

-- a value is close to itself, with no error
pub exactly : {D : ℕ} {z : Float} {P N : ℕ} → Val z P N D → ValClose D z P N 0
exactly {P = P} {N = N} v = record { p = P; n = N; val = v; over = omega arith; under = omega arith }

-- the same number by another pair, and a larger bound
pub close_move : {D : ℕ} {z : Float} {P N e P' N' e' : ℕ} → ValClose D z P N e → P + N' ≡ P' + N → e ≤ e' → ValClose D z P' N' e'
close_move c h k = record { p = c.p; n = c.n; val = c.val; over = omega (arith, c.over); under = omega (arith, c.under) }

-- -z
pub close_neg : {D : ℕ} {z : Float} {P N e : ℕ} → ValClose D z P N e → ValClose D (neg z) N P e
close_neg c = record { p = c.n; n = c.p; val = neg_val c.val; over = omega (arith, c.under); under = omega (arith, c.over) }

-- a sum below 2 in size is off by h / D at most
abbrev pub Adds : ℕ → ℕ → Type 0
Adds D h = (x y : Float) (p n q m : ℕ) → p + q < n + m + 2 * D → n + m < p + q + 2 * D → Val x p n D → Val y q m D
    → ValClose D (add binary64 x y) (p + q) (n + m) h

module _ (D h : ℕ) (adds : Adds D h) where
  -- the errors of the parts, and h
  pub close_add : {x y : Float} {P N Q M e e' : ℕ} → ValClose D x P N e → ValClose D y Q M e' → P + Q + (e + e') < N + M + 2 * D
      → N + M + (e + e') < P + Q + 2 * D → ValClose D (add binary64 x y) (P + Q) (N + M) (e + e' + h)
  close_add {x} {y} {P} {N} {Q} {M} {e} {e'} a b u l =
      let k = adds x y a.p a.n b.p b.n (room a.p a.n b.p b.n P N Q M a.over b.over u)
      (room a.n a.p b.n b.p N P M Q a.under b.under l) a.val b.val in
      record {
        p = k.p;
        n = k.n;
        val = k.val;
        over = grow k.p k.n a.p a.n b.p b.n P N Q M k.over a.over b.over;
        under =
            grow k.n k.p a.n a.p b.n b.p N P M Q k.under a.under b.under;
      }
    where
      room : (p n q m P N Q M : ℕ) → p + N ≤ n + P + e → q + M ≤ m + Q + e' → P + Q + (e + e') < N + M + 2 * D → p + q < n + m + 2 * D
      room p n q m P N Q M x y z = omega arith

      grow : (s t p n q m P N Q M : ℕ) → s + (n + m) ≤ t + (p + q) + h → p + N ≤ n + P + e → q + M ≤ m + Q + e' → s + (N + M) ≤ t + (P + Q) + (e + e' + h)
      grow s t p n q m P N Q M x y z = omega arith

  pub close_sub : {x y : Float} {P N Q M e e' : ℕ} → ValClose D x P N e → ValClose D y Q M e' → P + M + (e + e') < N + Q + 2 * D
      → N + Q + (e + e') < P + M + 2 * D → ValClose D (sub binary64 x y) (P + M) (N + Q) (e + e' + h)
  unfolding sub
  close_sub a b u l = close_add a (close_neg b) u l
