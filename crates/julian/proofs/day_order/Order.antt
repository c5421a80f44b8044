-- The calendar keeps the order: of two dates with one first part, a whole number of half days, and second parts of at most a day, the one with the larger
-- second part has no earlier day and fraction, to the last bit. Assumes nothing.
use mathlib.Core.Path.{◌≡◌, sym, ap, ◌∙◌, subst, subst₂}
use mathlib.Core.Bool.{Bool, true, false, not}
use Prim.Native.Nat.{ℕ, ◌+◌, ◌*◌, ◌≤◌, ◌<◌}
use native.Mathlib.Nat.{add-mul, one-mul, mul-le-mul_right}
use native.Mathlib.Omega.{arith}
use lib.Dec.{T, leb, leb→le, nleb→lt}
use lib.Ieee.{Float, binary64, le, fits}
use Rattle.refusals.specs.Outcome.{answer}
use Rattle.floats.specs.Whole.{one, abs}
use Rattle.rounding.specs.Value.{Val, Rounds, L, plus_z, minus_z}
use Rattle.rounding.proofs.Value.{L-pos, val-unique}
use Rattle.rounding.proofs.Own.{val-rep, own, own_val}
use Rattle.rounding.proofs.Nearest.{rn_le, rn_ge}
use Rattle.rounding.proofs.TwoSumFloat.{rounds-at}
use Rattle.rounding.proofs.Bound.{rounds-mono}
use Rattle.rounding.proofs.Compare.{le_says}
use Rattle.julian.specs.declared.day_number.DayNumber.{DayNumber}
use Rattle.julian.specs.day_number.DayNumber.{day_number, day_of}
use Rattle.julian.specs.day_number.Answer.{day_number_and_fraction}
use Rattle.julian.proofs.day_number.Units.{H, one-L, nought-L}
use Rattle.julian.proofs.day_number.Answer.{answer-is}
use Rattle.julian.proofs.day_number.JulianRange.{accepted-finite}
use Rattle.julian.specs.day_order.Order.{WholeHalves, NoLater}
use Rattle.julian.proofs.day_order.Once.{nought-fits, one-fits, far2}
use Rattle.julian.proofs.day_order.Place.{Place, place}

-- ---- the rounded rest of one date
record Rest (D E zp zn : ℕ) : Type 0 where
  low : zn ≤ zp
  high : zp ≤ zn + L
  none : D ≤ E → zp ≤ zn
  whole : E + L ≤ D → zn + L ≤ zp

rest_of : {z : Float} {D E zp zn : ℕ} → Rounds binary64 z D E L → Val z zp zn L → E ≤ D → D ≤ E + L → Rest D E zp zn
rest_of {z} {D} {E} {zp} {zn} r v low high =
    let f = rounds-at far2 (omega arith) (omega arith) r in
    let e = val-unique v f.val in
    record {
      low = up f.p f.n e (rn_ge 0 0 (val-rep nought-fits nought-L) f.rn (omega arith));
      high = down f.p f.n e (rn_le L 0 (val-rep one-fits one-L) f.rn (omega arith));
      none = λ h. zero f.p f.n e (rn_le 0 0 (val-rep nought-fits nought-L) f.rn (omega arith));
      whole = λ h. full f.p f.n e (rn_ge L 0 (val-rep one-fits one-L) f.rn (omega arith));
    }
  where
    up : (x y : ℕ) → zp + y ≡ x + zn → 0 + y ≤ x + 0 → zn ≤ zp
    up x y e h = omega arith

    down : (x y : ℕ) → zp + y ≡ x + zn → x + 0 ≤ L + y → zp ≤ zn + L
    down x y e h = omega arith

    zero : (x y : ℕ) → zp + y ≡ x + zn → x + 0 ≤ 0 + y → zp ≤ zn
    zero x y e h = omega arith

    full : (x y : ℕ) → zp + y ≡ x + zn → L + y ≤ x + 0 → zn + L ≤ zp
    full x y e h = omega arith

-- ---- two dates, of which the first is no later
module _ {a b b' : Float} {p n p' n' : ℕ} (x : Place a b p n) (y : Place a b' p' n') (h : p + n' ≤ p' + n) where
  abbrev u : Rest (p + H + x.tn * L) (n + x.tp * L) x.zp x.zn
  u = rest_of x.rounds x.z_val x.low x.high

  abbrev v : Rest (p' + H + y.tn * L) (n' + y.tp * L) y.zp y.zn
  v = rest_of y.rounds y.z_val y.low y.high

  abbrev InTurn : Type 0
  InTurn = x.zp + x.tp * L + (y.zn + y.tn * L) ≤ y.zp + y.tp * L + (x.zn + x.tn * L)

  times : (i j : ℕ) → i ≤ j → i * L ≤ j * L
  times i j l = mul-le-mul_right L l

  -- one whole number: the rounding keeps the order
  same : x.tp + y.tn ≡ y.tp + x.tn → InTurn
  same e =
      let m : T (le x.z y.z) = rounds-mono L-pos L-pos (scaled _ _ _ _ (sums (x.tp * L) (y.tp * L) (x.tn * L) (y.tn * L) q)) x.rounds
      y.rounds in
      last x.zp x.zn y.zp y.zn (x.tp * L) (y.tp * L) (x.tn * L) (y.tn * L) q (le_says L-pos x.z_val y.z_val m)
    where
      q : x.tp * L + y.tn * L ≡ y.tp * L + x.tn * L
      q = sym (add-mul x.tp y.tn L) ∙ ap (λ (i : ℕ). i * L) e ∙ add-mul y.tp x.tn L

      sums : (i i' j j' : ℕ) → i + j' ≡ i' + j → p + H + j + (n' + i') ≤ p' + H + j' + (n + i)
      sums i i' j j' e = omega arith

      scaled : (A B C D : ℕ) → A + B ≤ C + D → A * L + B * L ≤ C * L + D * L
      scaled A B C D l = subst₂ (λ (i j : ℕ). i ≤ j) (add-mul A B L) (add-mul C D L) (times (A + B) (C + D) l)

      last : (zp zn zp' zn' i i' j j' : ℕ) → i + j' ≡ i' + j → zp + zn' ≤ zp' + zn → zp + i + (zn' + j') ≤ zp' + i' + (zn + j)
      last zp zn zp' zn' i i' j j' e l = omega arith

  by_one : (i j : ℕ) → i < j → i * L + L ≤ j * L
  by_one i j l = subst (λ (k : ℕ). k ≤ j * L) (add-mul i 1 L ∙ ap (λ (k : ℕ). i * L + k) (one-mul L)) (times (i + 1) j (next i j l))
    where
      next : (i j : ℕ) → i < j → i + 1 ≤ j
      next i j l = omega arith

  -- a whole number between the two
  earlier : x.tp + y.tn < y.tp + x.tn → InTurn
  earlier l = last x.zp x.zn y.zp y.zn (x.tp * L) (y.tp * L) (x.tn * L) (y.tn * L)
      (subst₂ (λ (i j : ℕ). i + L ≤ j) (add-mul x.tp y.tn L) (add-mul y.tp x.tn L) (by_one _ _ l)) u.high v.low
    where
      last : (zp zn zp' zn' i i' j j' : ℕ) → i + j' + L ≤ i' + j → zp ≤ zn + L → zn' ≤ zp' → zp + i + (zn' + j') ≤ zp' + i' + (zn + j)
      last zp zn zp' zn' i i' j j' e l m = omega arith

  -- the other way round only at one midnight, to which both come
  later : y.tp + x.tn < x.tp + y.tn → InTurn
  later l =
      let q = subst₂ (λ (i j : ℕ). i + L ≤ j) (add-mul y.tp x.tn L) (add-mul x.tp y.tn L) (by_one _ _ l) in
      last x.zp x.zn y.zp y.zn (x.tp * L) (y.tp * L) (x.tn * L) (y.tn * L) x.low y.high
      (u.none (none (x.tp * L) (y.tp * L) (x.tn * L) (y.tn * L) q y.high))
      (v.whole (whole (x.tp * L) (y.tp * L) (x.tn * L) (y.tn * L) q x.low))
    where
      none : (i i' j j' : ℕ) → i' + j + L ≤ i + j' → p' + H + j' ≤ n' + i' + L → p + H + j ≤ n + i
      none i i' j j' q k = omega arith

      whole : (i i' j j' : ℕ) → i' + j + L ≤ i + j' → n + i ≤ p + H + j → n' + i' + L ≤ p' + H + j'
      whole i i' j j' q k = omega arith

      last : (zp zn zp' zn' i i' j j' : ℕ) → n + i ≤ p + H + j → p' + H + j' ≤ n' + i' + L → zp ≤ zn → zn' + L ≤ zp' → zp + i + (zn' + j') ≤ zp' + i' + (zn + j)
      last zp zn zp' zn' i i' j j' k m e f = omega arith

  in_turn : InTurn
  in_turn = go (leb (x.tp + y.tn) (y.tp + x.tn)) (leb→le _ _) (nleb→lt _ _) (leb (y.tp + x.tn) (x.tp + y.tn)) (leb→le _ _) (nleb→lt _ _)
    where
      equal : (i j : ℕ) → i ≤ j → j ≤ i → i ≡ j
      equal i j k l = omega arith

      go : (c : Bool) → (T c → x.tp + y.tn ≤ y.tp + x.tn) → (T (not c) → y.tp + x.tn < x.tp + y.tn) → (e : Bool)
          → (T e → y.tp + x.tn ≤ x.tp + y.tn) → (T (not e) → x.tp + y.tn < y.tp + x.tn) → InTurn
      go true f g true k l = same (equal _ _ (f tt) (k tt))
      go true f g false k l = earlier (l tt)
      go false f g e k l = later (g tt)

  days-in-turn : plus_z (day_number a b) * L + x.units + minus_z (day_number a b') * L ≤ plus_z (day_number a b') * L + y.units + minus_z (day_number a b) * L
  days-in-turn = go _ _ _ _ _ _ _ _ _ _ x.sum y.sum in_turn
    where
      go : (d e d' e' w w' A B A' B' : ℕ) → d + w + B ≡ e + A → d' + w' + B' ≡ e' + A' → A + B' ≤ A' + B → d + w + e' ≤ d' + w' + e
      go d e d' e' w w' A B A' B' q r l = omega arith

-- ---- THE THEOREM
pub calendar-order : (a b b' : Float) → WholeHalves a → T (fits binary64 b) → T (fits binary64 b') → T (le (abs b) one) → T (le (abs b') one) → T (le b b')
    → (d d' : DayNumber) → day_number_and_fraction a b ≡ answer d → day_number_and_fraction a b' ≡ answer d' → NoLater d d'
unfolding day_of
calendar-order a b b' w fb fb' sb sb' l d d' e e' =
    let g = answer-is a b d e in
    let g' = answer-is a b' d' e' in
    let f = accepted-finite a b g.0 in
    let oa = own a w.held f.0 in
    let ob = own b fb f.1 in
    let ob' = own b' fb' (accepted-finite a b' g'.0).1 in
    let va = own_val a oa in
    let vb = own_val b ob in
    let vb' = own_val b' ob' in
    let x = place a b w fb sb g.0 _ _ _ _ va vb in
    let y = place a b' w fb' sb' g'.0 _ _ _ _ va vb' in
    let o = days-in-turn x y (sums _ _ _ _ _ _ (le_says L-pos vb vb' l)) in
    subst₂ NoLater g.1 g'.1 (record { units = x.units; units' = y.units; val = x.val; val' = y.val; order = omega (arith, o) })
  where
    sums : (p n q m q' m' : ℕ) → q + m' ≤ q' + m → p + q + (n + m') ≤ p + q' + (n + m)
    sums p n q m q' m' k = omega arith
