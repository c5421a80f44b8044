-- One round on floats: of the guess u, the given part b and the part t that UTC to TAI gives for the guess, the next guess is u + b - t, rounded twice, each
-- time by at most 2 ^ -53 day; the larger part takes no part in it. Assumes nothing.
use mathlib.Core.Path.{◌≡◌}
use Prim.Native.Nat.{ℕ, ◌+◌, ◌*◌, ◌^◌, ◌≤◌, ◌<◌}
use native.Mathlib.Omega.{arith}
use lib.Dec.{T, lit≤}
use lib.Ieee.{Float, binary64, add, sub, fits}
use lib.Ieee.Fits.{add-fits}
use Rattle.rounding.specs.Value.{Val, L}
use Rattle.rounding.proofs.Value.{L-pos, val-move, rounds-move, add_rounds}
use Rattle.rounding.proofs.Exact.{sub_exact}
use Rattle.rounding.proofs.Chain.{ValClose, exactly, close_add, close_sub}
use Rattle.julian.proofs.day_order.Once.{again}
use Rattle.julian.specs.JulianDate.{julian}
use Rattle.utc_scales.specs.UtcTai.{moved}
use Rattle.utc_scales.proofs.round_trip.Units.{h, L-h, h_pos, adds}
use Rattle.utc_scales.proofs.round_trip.Residuals.{GuessMoved}

-- ---- the larger part cancels
pub none : {a : Float} {A : ℕ} → Val a A 0 L → Val (sub binary64 a a) 0 0 L
unfolding L
none {a} {A} v = val-move (sub_exact 1074 (lit≤ tt) (room A (2 ^ 53)) (room' A (2 ^ 53)) v v) (same A)
  where
    room : (A k : ℕ) → A + 0 ≤ 0 + A + k
    room A k = omega arith

    room' : (A k : ℕ) → 0 + A ≤ A + 0 + k
    room' A k = omega arith

    same : (A : ℕ) → A + 0 + 0 ≡ 0 + (0 + A)
    same A = omega arith

pub kept : {x z : Float} {p n : ℕ} → T (fits binary64 x) → Val x p n L → Val z 0 0 L → Val (add binary64 x z) p n L
kept {x} {z} {p} {n} t v w = again t v (rounds-move (add_rounds binary64 L-pos v w) (same p n))
  where
    same : (p n : ℕ) → p + 0 + n ≡ p + (n + 0)
    same p n = omega arith

-- ---- the next guess
pub record Next (a b u t : Float) (bp bn tp tn up un : ℕ) : Type 0 where
  pub p : ℕ
  pub n : ℕ
  pub val : Val (moved a b u (julian a t)) p n L
  pub held : T (fits binary64 (moved a b u (julian a t)))
  pub by : GuessMoved (2 * h) bp bn tp tn up un p n

pub next-guess : {a b u t : Float} {A bp bn tp tn up un : ℕ} → Val a A 0 L → Val b bp bn L → Val t tp tn L → T (fits binary64 u) → Val u up un L
    → 1536 * (bp + tn) ≤ 1536 * (bn + tp) + L → 1536 * (bn + tp) ≤ 1536 * (bp + tn) + L → 1024 * up ≤ 1024 * un + 1027 * L → 1024 * un ≤ 1024 * up + 1027 * L
    → Next a b u t bp bn tp tn up un
unfolding moved
next-guess {a} {b} {u} {t} {A} {bp} {bn} {tp} {tn} {up} {un} va vb vt fu vu k l r r' =
    let d : ValClose L (sub binary64 b t) (bp + tn) (bn + tp) (0 + 0 + h) =
    close_sub L h adds (exactly vb) (exactly vt) (room L (bp + tn) (bn + tp) L-pos k) (room L (bn + tp) (bp + tn) L-pos l) in
    let w : Val (add binary64 u (sub binary64 a a)) up un L = kept fu vu (none va) in
    let c = close_add L h adds (exactly w) d (wide L h L-h h_pos up un (bp + tn) (bn + tp) k r) (wide L h L-h h_pos un up (bn + tp) (bp + tn) l r') in
    record {
      p = c.p;
      n = c.n;
      val = c.val;
      held = add-fits binary64 _ _;
      by =
          record {
            high = two (c.p + (un + (bn + tp))) (c.n + (up + (bp + tn))) c.over;
            low =
                two (c.n + (up + (bp + tn))) (c.p + (un + (bn + tp))) c.under;
          };
    }
  where
    room : (Q x y : ℕ) → 0 < Q → 1536 * x ≤ 1536 * y + Q → x + (0 + 0) < y + 2 * Q
    room Q x y p k = omega arith

    wide : (Q h : ℕ) → Q ≡ 9007199254740992 * h → 0 < h → (up un x y : ℕ) → 1536 * x ≤ 1536 * y + Q → 1024 * up ≤ 1024 * un + 1027 * Q
        → up + x + (0 + (0 + 0 + h)) < un + y + 2 * Q
    wide Q h e p up un x y k l = omega arith

    two : (x y : ℕ) → x ≤ y + (0 + (0 + 0 + h) + h) → x ≤ y + 2 * h
    two x y k = omega arith
