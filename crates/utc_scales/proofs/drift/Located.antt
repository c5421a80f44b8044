-- The day and the fraction of a date that is given by its midnight and a fraction: the calendar finds just these. Assumes nothing.
use mathlib.Core.Path.{◌≡◌, sym, ap, ◌∙◌, subst, subst₂}
use mathlib.Core.Bool.{Bool, true, false, not}
use Prim.Native.Nat.{ℕ, suc, ◌+◌, ◌-◌, ◌*◌, ◌≤◌, ◌<◌}
use native.Mathlib.Nat.{add-mul, one-mul, zero-mul, mul_assoc, lt_of_mul-lt-mul_right, mul-le-mul_right}
use native.Mathlib.Omega.{arith}
use lib.Dec.{T, leb, leb→le, nleb→lt}
use lib.IntN.{ℤ, pos, negsuc}
use lib.Ieee.{Float, nan, inf, fin, binary64, le, lt}
use lib.Ieee.Scale.{finite}
use Rattle.refusals.specs.Outcome.{answer}
use Rattle.floats.specs.Whole.{abs, one}
use Rattle.rounding.specs.Value.{Val, Rounds, InUnit, L, plus_z, minus_z}
use Rattle.rounding.proofs.Value.{L-pos, val-move, val-scale, val-unique, abs-val, rounds-move}
use Rattle.rounding.proofs.Own.{own, own_val}
use Rattle.rounding.proofs.Compare.{le_says, lt_says, le_show}
use Rattle.julian.specs.day_number.DayNumber.{accepted, day_number, fraction_passed, day_of}
use Rattle.julian.specs.day_number.Answer.{day_number_and_fraction}
use Rattle.julian.specs.day_number.Ranges.{InDays}
use Rattle.julian.proofs.day_number.Units.{H, H-L, E, E-L, one-L, nought-L}
use Rattle.julian.proofs.day_number.JulianRange.{accepts}
use Rattle.julian.proofs.day_number.Answer.{answered}
use Rattle.julian.proofs.day_number.Ranges.{day-range, fraction-range}
use Rattle.julian.specs.day_order.Order.{WholeHalves}
use Rattle.julian.proofs.day_order.Once.{again, one-fits}
use Rattle.julian.proofs.day_order.Place.{Place, place}
use Rattle.julian.specs.declared.JulianDate.{JulianDate}
use Rattle.utc_scales.specs.drift.Drift.{DriftDate}

pub record Located (a b : Float) (n : ℕ) : Type 0 where
  pub f : ℕ
  pub second : Val b f 0 L
  pub below : f < L
  pub given : day_number_and_fraction a b ≡ answer (day_of a b)
  pub in-days : InDays (day_of a b).day
  pub day : (day_of a b).day ≡ pos n
  pub val : Val (day_of a b).fraction f 0 L

is_finite : (x : Float) → InUnit x → T (finite x)
unfolding le lt
is_finite nan k = absurd k.low
is_finite (inf true) k = absurd k.low
is_finite (inf false) k = absurd k.high
is_finite (fin s m e) k = tt

module _ (n : ℕ) {d : JulianDate} (k : DriftDate n d) where
  abbrev a : Float
  a = d.jd1

  abbrev b : Float
  b = d.jd2

  parts : (f : ℕ) × (Val b f 0 L) × (f < L)
  parts = go _ _ (own_val b (own b k.second_held (is_finite b k.inside)))
    where
      go : (p m : ℕ) → Val b p m L → (f : ℕ) × (Val b f 0 L) × (f < L)
      go p m v =
          let l : 0 + m ≤ p + 0 = le_says L-pos nought-L v k.inside.low in
          let h : p + 0 < L + m = lt_says L-pos v one-L k.inside.high in
          (p - m, val-move v (omega arith), omega arith)

  -- the midnight, in units
  first : Val a ((2 * n - 1) * H) 0 L
  first = subst₂ (λ (m q : ℕ). Val a ((2 * n - 1) * H) m q) (zero-mul H) (sym H-L) (val-scale H k.midnight)

  noon : (2 * n - 1) * H + H ≡ n * L
  noon = ap (λ (x : ℕ). (2 * n - 1) * H + x) (sym (one-mul H)) ∙ sym (add-mul (2 * n - 1) 1 H) ∙ ap (λ (x : ℕ). x * H) (back n (omega (arith, k.low)))
      ∙ mul_assoc n 2 H ∙ ap (λ (x : ℕ). n * x) (sym H-L)
    where
      back : (n : ℕ) → 1 ≤ n → 2 * n - 1 + 1 ≡ n * 2
      back n g = omega arith

  halves : WholeHalves a
  halves = record { held = k.first_held; halves = pos (2 * n - 1); val = k.midnight }

  days-high : n * L ≤ 2441316 * L
  days-high = mul-le-mul_right L k.high

  module _ (f : ℕ) (v : Val b f 0 L) (l : f < L) where
    taken : accepted a b ≡ true
    taken = accepts a b ((2 * n - 1) * H) 0 f 0 first v (go ((2 * n - 1) * H) (n * L) noon days-high) (omega arith)
      where
        go : (x y : ℕ) → x + H ≡ y → y ≤ 2441316 * L → x + f ≤ 0 + 0 + 8000000000 * E
        go x y e h = omega (arith, E-L)

    small : T (le (abs b) one)
    small = le_show L-pos (abs-val v) one-L (omega arith)

    found : Place a b ((2 * n - 1) * H + f) (0 + 0)
    found = place a b halves k.second_held small taken _ _ _ _ first v

    -- what was rounded is held exactly
    exactly : (tp tn zp zn : ℕ) (z : Float) → Rounds binary64 z ((2 * n - 1) * H + f + H + tn * L) (0 + 0 + tp * L) L → Val z zp zn L
        → 0 + 0 + tp * L ≤ (2 * n - 1) * H + f + H + tn * L → (2 * n - 1) * H + f + H + tn * L ≤ 0 + 0 + tp * L + L
        → zp + tp * L ≡ zn + (n * L + f + tn * L)
    exactly tp tn zp zn z r w low high =
        which (leb (n + tn) tp) (leb→le (n + tn) tp) (nleb→lt (n + tn) tp)
      where
        most : tp < suc (n + tn)
        most = lt_of_mul-lt-mul_right L
            (subst (λ (x : ℕ). tp * L < x) (sym
            (ap (λ (x : ℕ). x * L) (one_more (n + tn)) ∙ add-mul 1 (n + tn) L ∙ ap (λ (x : ℕ). x + (n + tn) * L) (one-mul L)
            ∙ ap (λ (x : ℕ). L + x) (add-mul n tn L))) (go (tp * L) (tn * L) (n * L) ((2 * n - 1) * H) noon low))
          where
            one_more : (x : ℕ) → suc x ≡ 1 + x
            one_more x = omega arith

            go : (p q y x : ℕ) → x + H ≡ y → 0 + 0 + p ≤ x + f + H + q → p < L + (y + q)
            go p q y x e h = omega arith

        same : n + tn ≡ tp → zp + tp * L ≡ zn + (n * L + f + tn * L)
        same e =
            let q : n * L + tn * L ≡ tp * L = sym (add-mul n tn L) ∙ ap (λ (x : ℕ). x * L) e in
            go (n * L) (tn * L) (tp * L) q (val-unique w (again k.second_held v (rounds-move r (shift ((2 * n - 1) * H) (n * L) (tn * L) (tp * L) noon q))))
          where
            shift : (x y i j : ℕ) → x + H ≡ y → y + i ≡ j → x + f + H + i + 0 ≡ f + (0 + 0 + j)
            shift x y i j e q = omega arith

            go : (y i j : ℕ) → y + i ≡ j → zp + 0 ≡ f + zn → zp + j ≡ zn + (y + f + i)
            go y i j q e = omega arith

        before : tp < n + tn → zp + tp * L ≡ zn + (n * L + f + tn * L)
        before g =
            let q : tp * L + L ≤ n * L + tn * L =
            subst₂ (λ (x y : ℕ). x ≤ y) (add-mul tp 1 L ∙ ap (λ (x : ℕ). tp * L + x) (one-mul L)) (add-mul n tn L)
            (mul-le-mul_right L (next tp (n + tn) g)) in
            go (n * L) (tn * L) (tp * L) ((2 * n - 1) * H) q noon high
            (val-unique w (again one-fits one-L (rounds-move r (shift ((2 * n - 1) * H) (n * L) (tn * L) (tp * L) noon q high))))
          where
            next : (x y : ℕ) → x < y → x + 1 ≤ y
            next x y g = omega arith

            shift : (x y i j : ℕ) → x + H ≡ y → j + L ≤ y + i → x + f + H + i ≤ 0 + 0 + j + L → x + f + H + i + 0 ≡ L + (0 + 0 + j)
            shift x y i j e q h = omega arith

            go : (y i j x : ℕ) → j + L ≤ y + i → x + H ≡ y → x + f + H + i ≤ 0 + 0 + j + L → zp + 0 ≡ L + zn → zp + j ≡ zn + (y + f + i)
            go y i j x q e h g = omega arith

        which : (c : Bool) → (T c → n + tn ≤ tp) → (T (not c) → tp < n + tn) → zp + tp * L ≡ zn + (n * L + f + tn * L)
        which true g h = same (plain (n + tn) tp (g tt) most)
          where
            plain : (x y : ℕ) → x ≤ y → y < suc x → x ≡ y
            plain x y g h = omega arith
        which false g h = before (h tt)

    sum : plus_z (day_number a b) * L + found.units ≡ minus_z (day_number a b) * L + (n * L + f)
    sum = go _ _ _ _ _ _ _ found.sum
        (exactly found.tp found.tn found.zp found.zn found.z found.rounds found.z_val found.low found.high)
      where
        go : (d e u zn tn zp tp : ℕ) → d + u + (zn + tn) ≡ e + (zp + tp) → zp + tp ≡ zn + (n * L + f + tn) → d + u ≡ e + (n * L + f)
        go d e u zn tn zp tp p q = omega arith

    pub located_at : Located a b n
    unfolding day_of
    located_at =
        let below = plain found.units
        (lt_says L-pos found.val one-L (fraction-range a b k.first_held k.second_held (day_of a b) (answered a b taken)).high) in
        let r = only (day_number a b) found.units below sum in
        record {
          f = f;
          second = v;
          below = l;
          given = answered a b taken;
          in-days = day-range a b k.first_held k.second_held (day_of a b) (answered a b taken);
          day = r.0;
          val = subst (λ (u : ℕ). Val (fraction_passed a b) u 0 L) r.1 found.val;
        }
      where
        plain : (u : ℕ) → u + 0 < L + 0 → u < L
        plain u h = omega arith

        only : (z : ℤ) (u : ℕ) → u < L → plus_z z * L + u ≡ minus_z z * L + (n * L + f) → (z ≡ pos n) × (u ≡ f)
        only (negsuc m) u h e = let x : suc m * L ≡ L + m * L = ap (λ (x : ℕ). x * L) (one_more m) ∙ add-mul 1 m L
            ∙ ap (λ (x : ℕ). x + m * L) (one-mul L) in absurd (no (suc m * L) (m * L) (n * L) (0 * L) (zero-mul L) x e)
          where
            one_more : (x : ℕ) → suc x ≡ 1 + x
            one_more x = omega arith

            no : (s m y o : ℕ) → o ≡ 0 → s ≡ L + m → o + u ≡ s + (y + f) → ⊥
            no s m y o z e g = omega arith
        only (pos i) u h e = let q : i ≡ n =
            equal i n (less i n u f l (plain' (i * L) (n * L) (0 * L) (zero-mul L) e))
            (less n i f u h (sym (plain' (i * L) (n * L) (0 * L) (zero-mul L)
            e))) in (ap pos q, last (i * L) (n * L) (0 * L) (zero-mul L) (ap (λ (x : ℕ). x * L) q) e)
          where
            plain' : (x y o : ℕ) → o ≡ 0 → x + u ≡ o + (y + f) → x + u ≡ y + f
            plain' x y o z e = omega arith

            equal : (i j : ℕ) → i ≤ j → j ≤ i → i ≡ j
            equal i j x y = omega arith

            last : (x y o : ℕ) → o ≡ 0 → x ≡ y → x + u ≡ o + (y + f) → u ≡ f
            last x y o z q e = omega arith

            less : (i j u f : ℕ) → f < L → i * L + u ≡ j * L + f → i ≤ j
            less i j u f h e = back i j (lt_of_mul-lt-mul_right L
                (subst (λ (x : ℕ). i * L < x) (sym (ap (λ (x : ℕ). x * L) (more j) ∙ add-mul 1 j L ∙ ap (λ (x : ℕ). x + j * L) (one-mul L)))
                (under (i * L) (j * L) e)))
              where
                more : (x : ℕ) → suc x ≡ 1 + x
                more x = omega arith

                back : (i j : ℕ) → i < suc j → i ≤ j
                back i j h = omega arith

                under : (x y : ℕ) → x + u ≡ y + f → x < L + y
                under x y e = omega arith

  pub located : Located a b n
  located = let (f, v, l) = parts in located_at f v l
