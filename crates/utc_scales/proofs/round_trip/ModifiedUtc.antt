-- TAI TO UTC OF A MODIFIED JULIAN DATE: for the split (2400000.5, MJD) it is answered, and the exact TAI of the answer lies within 628,795 ps of the TAI given.
-- Each guess, and what UTC to TAI gives for it, is a whole number of units in the last place of a float from 2 ^ 15 to 2 ^ 16, or to 2 ^ 17; so a guess is
-- moved without a rounding, and the only coarse one is that of UTC to TAI. Assumes nothing.
use mathlib.Core.Path.{◌≡◌, refl, sym, ap, ◌∙◌, subst}
use mathlib.Core.List.{List}
use Prim.Native.Nat.{ℕ, ◌+◌, ◌-◌, ◌*◌, ◌^◌, ◌/◌, ◌≤◌}
use native.Mathlib.Nat.{add-mul, zero-mul, mul-le-mul_right, le_of_mul-le-mul_right, le_trans, le_of_eq}
use native.Mathlib.Omega.{arith}
use native.Mathlib.Decide.{dec_le}
use lib.Dec.{T, lit≤}
use lib.Pow.{pow_pos}
use lib.Ieee.{Float, binary64, fits}
use lib.Ieee.Fits.{add-fits}
use Rattle.refusals.specs.Outcome.{answer}
use Rattle.refusals.proofs.Onward.{went}
use Rattle.rounding.specs.Value.{Val, L}
use Rattle.rounding.specs.Picoseconds.{day_ps}
use Rattle.rounding.proofs.Value.{L-pos, val-move, val-scale, val-unscale}
use Rattle.rounding.proofs.Signed.{dist}
use Rattle.rounding.proofs.Bound.{SizeWithin}
use Rattle.rounding.proofs.Exact.{add_exact, sub_exact}
use Rattle.rounding.proofs.Own.{val-rep}
use Rattle.rounding.proofs.Optimal.{multiple}
use Rattle.julian.specs.declared.JulianDate.{JulianDate}
use Rattle.julian.specs.JulianDate.{julian}
use Rattle.leap_table.specs.declared.rows.AnnouncedRows.{AnnouncedRows}
use Rattle.leap_table.specs.rows.Table.{Row, fixed}
use Rattle.leap_table.specs.rows.Announced.{table_of}
use Rattle.utc_scales.specs.UtcTai.{moved, refined, rounds, refine_utc_fraction, tai_to_utc}
use Rattle.utc_scales.specs.round_trip.Ranges.{ModifiedSplit}
use Rattle.utc_scales.specs.round_trip.UtcDays.{H, ExactDay}
use Rattle.utc_scales.specs.round_trip.Relation.{RightUtc}
use Rattle.utc_scales.specs.round_trip.RoundTrip.{ThereAndBack}
use Rattle.utc_scales.proofs.round_trip.Units.{h, L-H, L-h}
use Rattle.utc_scales.proofs.round_trip.Parts.{parts-joined}
use Rattle.utc_scales.proofs.round_trip.DaySeconds.{WholeTable, table-whole, fixed-whole}
use Rattle.utc_scales.proofs.round_trip.Steady.{few_seconds}
use Rattle.utc_scales.proofs.round_trip.Kept.{kept-changed}
use Rattle.utc_scales.proofs.round_trip.Evaluated.{SeenTo}
use Rattle.utc_scales.proofs.round_trip.Residuals.{Residual, TaiNear, GuessMoved, start, move_size, at_first}
use Rattle.utc_scales.proofs.round_trip.Round.{none, kept}
use Rattle.utc_scales.proofs.round_trip.Rounds.{date_seen, offset_seen, near, tai-near, next-residual}
use Rattle.utc_scales.proofs.round_trip.Meant.{on-day, seconds}
use Rattle.utc_scales.proofs.round_trip.Exactly.{means-of}
use Rattle.utc_scales.proofs.round_trip.UtcMeant.{guess_said}
use Rattle.utc_scales.proofs.round_trip.Modified.{ModifiedPart, ZeroPoint, stamp, modified_seen, modified_larger, modified_size, from_1972, zero_point}

-- ---- the bounds of the residual, in units of h: 5662510635 are what UTC to TAI is off, and 691200 what the calendar is, twice
abbrev evaluation : ℕ
evaluation = 5662510635

abbrev together : ℕ
together = 5663201835

abbrev one : ℕ
one = (at_first + 86401 * together) / 86400 + 1

abbrev two : ℕ
two = (one + 86401 * together) / 86400 + 1

abbrev pub three : ℕ
three = (two + 86401 * together) / 86400 + 1

in_all : day_ps * (three * h + 345604 * h) ≤ 86400 * (628795 * L)
in_all = omega (arith, L-h)

-- ---- the way back: what UTC to TAI makes of the last guess, against the TAI given
in_back : day_ps * ((three + evaluation) * h) ≤ 86400 * (1257422 * L)
in_back = subst (λ (z : ℕ). day_ps * ((three + evaluation) * h) ≤ 86400 * (1257422 * z)) (sym L-h) (go h (mul-le-mul_right h (lit≤ tt)))
  where
    go : (k : ℕ) → 978552947952000000000000000 * k ≤ 978553483311881748322713600 * k
        → day_ps * ((three + evaluation) * k) ≤ 86400 * (1257422 * (9007199254740992 * k))
    go k l = omega arith

back_in : (X Y : ℕ) → 86400 * X ≤ 86400 * Y + (three + evaluation) * h → day_ps * X ≤ day_ps * Y + 1257422 * L
back_in X Y k = go (day_ps * X) (day_ps * Y) (day_ps * ((three + evaluation) * h)) in_back (times X Y ((three + evaluation) * h) k)
  where
    times : (x y e : ℕ) → 86400 * x ≤ 86400 * y + e → 86400 * (day_ps * x) ≤ 86400 * (day_ps * y) + day_ps * e
    times x y e l = omega arith

    go : (x y e : ℕ) → e ≤ 86400 * (1257422 * L) → 86400 * x ≤ 86400 * y + e → x ≤ y + 1257422 * L
    go x y e i j = omega arith

comes_back : (A bp bn tp tn v g : ℕ) → TaiNear (evaluation * h) H A tp tn v g → Residual H A bp bn v g (three * h)
    → (86400 * (1 * (A + tp) + 1 * bn + 0) ≤ 86400 * (1 * tn + 1 * (A + bp) + 0) + (three + evaluation) * h)
    × (86400 * (1 * tn + 1 * (A + bp) + 0) ≤ 86400 * (1 * (A + tp) + 1 * bn + 0) + (three + evaluation) * h)
comes_back A bp bn tp tn v g i o = omega arith

-- ---- the grid: 2 ^ j units of 1 / L, of which 2 ^ k are a day; every float from S days on is on it, and one of at most 2 S days that is on it is a float
record GridOf (j k S : ℕ) : Type 0 where
  enough : k ≤ 1074
  day : L ≡ 2 ^ k * 2 ^ j
  start_of : 2 ^ (52 + j) ≡ S * L
  full : 2 ^ 53 * 2 ^ j ≡ 2 * (S * L)

lower : GridOf 1037 37 32768
unfolding L
lower = record { enough = lit≤ tt; day = refl; start_of = refl; full = refl }

upper : GridOf 1038 36 65536
unfolding L
upper = record { enough = lit≤ tt; day = refl; start_of = refl; full = refl }

-- x is c of the grid's units
record OnGrid (j k : ℕ) (x : Float) (p n : ℕ) : Type 0 where
  c : ℕ
  is : p ≡ n + c * 2 ^ j
  val : Val x c 0 (2 ^ k)

module _ {j k S : ℕ} (g : GridOf j k S) where
  in_grid : {x : Float} {p n : ℕ} (c : ℕ) → Val x p n L → p ≡ n + c * 2 ^ j → Val x c 0 (2 ^ k)
  in_grid {x} {p} {n} c v e =
      val-unscale c (2 ^ k) (2 ^ j) (pow_pos j) (subst (λ (d : ℕ). Val x (c * 2 ^ j) 0 d) g.day (val-move v (shift p n (c * 2 ^ j) e)))
    where
      shift : (p n c : ℕ) → p ≡ n + c → p + 0 ≡ c + n
      shift p n c e = omega arith

  -- a float from S days on
  to-grid : {x : Float} {p n : ℕ} → T (fits binary64 x) → Val x p n L → n + S * L ≤ p → OnGrid j k x p n
  to-grid {x} {p} {n} f v l =
      let m = multiple j (dist p n) (val-rep f v) (le_trans (le_of_eq g.start_of) (big p n (S * L) l)) in
      let e : p ≡ n + m.0 * 2 ^ j = place p n (m.0 * 2 ^ j) (S * L) m.1 l in
      record { c = m.0; is = e; val = in_grid m.0 v e }
    where
      big : (p n s : ℕ) → n + s ≤ p → s ≤ dist p n
      big p n s l = omega arith

      place : (p n c s : ℕ) → dist p n ≡ c → n + s ≤ p → p ≡ n + c
      place p n c s e l = omega arith

  -- as many of its units as 2 S days, or fewer
  fewer : (x y : ℕ) → x * 2 ^ j ≤ y * 2 ^ j + 2 * (S * L) → x ≤ y + 2 ^ 53
  fewer x y l =
      le_of_mul-le-mul_right {k = 2 ^ j}
      (le_trans l (le_of_eq (ap (λ (z : ℕ). y * 2 ^ j + z) (sym g.full) ∙ sym (add-mul y (2 ^ 53) (2 ^ j))))) (pow_pos j)

  no_less : (x y : ℕ) → x * 2 ^ j ≤ y * 2 ^ j → x ≤ y
  no_less x y l = le_of_mul-le-mul_right {k = 2 ^ j} l (pow_pos j)

  -- ---- the next guess, where it is from 0 to 2 S days
  record Moved (x : Float) (bp bn tp tn up un : ℕ) : Type 0 where
    p : ℕ
    n : ℕ
    on : OnGrid j k x p n
    val : Val x p n L
    by : GuessMoved 0 bp bn tp tn up un p n

  module _ {a b u t : Float} {A bp bn tp tn up un : ℕ} (va : Val a A 0 L) (fu : T (fits binary64 u)) (vu : Val u up un L) (ob : OnGrid j k b bp bn)
      (ot : OnGrid j k t tp tn) (ou : OnGrid j k u up un) (l1 : bp + tn ≤ bn + tp + 2 * (S * L)) (l2 : bn + tp ≤ bp + tn + 2 * (S * L))
      (l3 : up + (bp + tn) ≤ un + (bn + tp) + 2 * (S * L)) (l4 : un + (bn + tp) ≤ up + (bp + tn)) where
    abbrev C : ℕ
    C = ou.c + ob.c - ot.c

    less : ot.c ≤ ou.c + ob.c
    less = no_less ot.c (ou.c + ob.c)
        (go (ou.c * 2 ^ j) (ob.c * 2 ^ j) (ot.c * 2 ^ j) ((ou.c + ob.c) * 2 ^ j) (add-mul ou.c ob.c (2 ^ j)) ou.is ob.is ot.is)
      where
        go : (U B C X : ℕ) → X ≡ U + B → up ≡ un + U → bp ≡ bn + B → tp ≡ tn + C → C ≤ X
        go U B C X e x y z = omega (arith, l4)

    counted : C + ot.c ≡ ou.c + ob.c
    counted = omega (arith, less)

    sum : Val (moved a b u (julian a t)) C 0 (2 ^ k)
    unfolding moved
    sum =
        let z = in_grid ou.c (kept fu vu (none va)) ou.is in
        let d = sub_exact k g.enough (high ob.c ot.c (2 ^ 53) (fewer ob.c ot.c (earlier _ _ ob.is ot.is)))
        (high' ot.c ob.c (2 ^ 53) (fewer ot.c ob.c (later _ _ ob.is ot.is))) ob.val ot.val in
        val-move (add_exact k g.enough
        (third (2 ^ 53) (fewer (ou.c + ob.c) ot.c (both _ _ _ _ (add-mul ou.c ob.c (2 ^ j)) ou.is ob.is ot.is)))
        (fourth (2 ^ 53)) z d) (omega (arith, counted))
      where
        high : (x y w : ℕ) → x ≤ y + w → x + 0 ≤ 0 + y + w
        high x y w l = omega arith

        high' : (x y w : ℕ) → x ≤ y + w → 0 + x ≤ y + 0 + w
        high' x y w l = omega arith

        earlier : (B C : ℕ) → bp ≡ bn + B → tp ≡ tn + C → B ≤ C + 2 * (S * L)
        earlier B C x y = omega (arith, l1)

        later : (B C : ℕ) → bp ≡ bn + B → tp ≡ tn + C → C ≤ B + 2 * (S * L)
        later B C x y = omega (arith, l2)

        both : (U B C X : ℕ) → X ≡ U + B → up ≡ un + U → bp ≡ bn + B → tp ≡ tn + C → X ≤ C + 2 * (S * L)
        both U B C X e x y z = omega (arith, l3)

        third : (w : ℕ) → ou.c + ob.c ≤ ot.c + w → ou.c + (ob.c + 0) ≤ 0 + (0 + ot.c) + w
        third w l = omega arith

        fourth : (w : ℕ) → 0 + (0 + ot.c) ≤ ou.c + (ob.c + 0) + w
        fourth w = omega (arith, less)

    next : Moved (moved a b u (julian a t)) bp bn tp tn up un
    next = record {
      p = C * 2 ^ j;
      n = 0 * 2 ^ j;
      on = record { c = C; is = plain (C * 2 ^ j) (0 * 2 ^ j) (zero-mul (2 ^ j)); val = sum };
      val = subst (λ (d : ℕ). Val (moved a b u (julian a t)) (C * 2 ^ j) (0 * 2 ^ j) d) (sym g.day) (val-scale (2 ^ j) sum);
      by = go (C * 2 ^ j) (0 * 2 ^ j) (ou.c * 2 ^ j) (ob.c * 2 ^ j) (ot.c * 2 ^ j) (zero-mul (2 ^ j))
          (sym (add-mul C ot.c (2 ^ j)) ∙ ap (λ (x : ℕ). x * 2 ^ j) counted ∙ add-mul ou.c ob.c (2 ^ j)) ou.is ob.is ot.is;
    }
      where
        plain : (x o : ℕ) → o ≡ 0 → x ≡ o + x
        plain x o e = omega arith

        go : (X O U B C : ℕ) → O ≡ 0 → X + C ≡ U + B → up ≡ un + U → bp ≡ bn + B → tp ≡ tn + C → GuessMoved 0 bp bn tp tn up un X O
        go X O U B C o e x y z = record { high = omega arith; low = omega arith }

-- TAI is not below the grid, as it is not before b by more than `one` h
not_below : (A bp bn tp tn w o s : ℕ) → 16384 * (bn + s) + L ≤ 16384 * bp → 86400 * w + o + 86400 * tn ≤ 86400 * (tp + A + H) + evaluation * h
    → 86400 * (bp + A + H) ≤ 86400 * bn + (86400 * w + o) + one * h → tn + s ≤ tp
not_below A bp bn tp tn w o s e i k = omega (arith, L-h)

-- the next guess is at most 2 S days, as TAI-UTC is 10 s or more
not_above : (A bp bn up un tp tn w o s : ℕ) → 16384 * bp ≤ 16384 * (bn + 2 * s) + L → 86400 * w + o + 86400 * tn ≤ 86400 * (tp + A + H) + evaluation * h
    → A + up + H ≤ w + un + 4 * h → 10 * L ≤ o → up + (bp + tn) ≤ un + (bn + tp) + 2 * s
not_above A bp bn up un tp tn w o s e i k l =
    let less : 86400 * (up + tn) + 9 * L ≤ 86400 * (un + tp) = earlier up un tp tn w o i k l in
    omega arith
  where
    earlier : (up un tp tn w o : ℕ) → 86400 * w + o + 86400 * tn ≤ 86400 * (tp + A + H) + evaluation * h → A + up + H ≤ w + un + 4 * h → 10 * L ≤ o
        → 86400 * (up + tn) + 9 * L ≤ 86400 * (un + tp)
    earlier up un tp tn w o i k l = omega (arith, L-h)

-- ---- the rounds of b, a modified Julian date, by a grid of which b is
module _ {rows : List Row} (t : WholeTable rows) {a b : Float} {bp bn j k S : ℕ} (v : ZeroPoint a) (fb : T (fits binary64 b)) (vb : Val b bp bn L)
    (low : 41318 * L + bn ≤ bp)
    (high : bp ≤ bn + 131071 * L) (g : GridOf j k S) (from : 16384 * (bn + S * L) + L ≤ 16384 * bp) (to : 16384 * bp ≤ 16384 * (bn + 2 * (S * L)) + L) where
  abbrev A : ℕ
  A = 4800001 * H

  b-on : OnGrid j k b bp bn
  b-on = to-grid g fb vb (omega (arith, from))

  -- a guess, at most R / 1536 from b
  record Guess (R P : ℕ) (u : Float) : Type 0 where
    up : ℕ
    un : ℕ
    part : ModifiedPart u up un
    on : OnGrid j k u up un
    above : 1536 * (bn + up) ≤ 1536 * (bp + un) + R
    below : 1536 * (bp + un) ≤ 1536 * (bn + up) + R
    residual : Residual H A bp bn (date_seen (modified_seen t v part)) (offset_seen (modified_seen t v part)) P
    ahead : 86400 * (bp + A + H) ≤ 86400 * bn + (86400 * date_seen (modified_seen t v part) + offset_seen (modified_seen t v part)) + one * h

  b-part : ModifiedPart b bp bn
  b-part = record { held = fb; val = vb; low = omega (arith, low, L-H); high = omega (arith, high) }

  first : Guess 0 (at_first * h) b
  first =
      let z = modified_seen t v b-part in
      record {
        up = bp;
        un = bn;
        part = b-part;
        on = b-on;
        above = omega arith;
        below = omega arith;
        residual = start h L H A bp bn (date_seen z) (offset_seen z) L-h (few_seconds z.day z.f z.seconds z.below).1 (near z);
        ahead = later (date_seen z) (offset_seen z) z.near-under;
      }
    where
      later : (w o : ℕ) → A + bp + H ≤ w + bn + 4 * h → 86400 * (bp + A + H) ≤ 86400 * bn + (86400 * w + o) + one * h
      later w o l = omega arith

  module _ (R P R' P' : ℕ) (r : R + L ≤ R') (r' : R' ≤ 3 * L) (p : P ≤ at_first * h) (p' : P + 86401 * (together * h) ≤ 86400 * P') (p'' : P' ≤ one * h)
      {u : Float} (x : Guess R P u) where
    abbrev z : SeenTo rows (evaluation * h) a u A x.up x.un
    z = modified_seen t v x.part

    size : (1536 * (bp + z.tn) ≤ 1536 * (bn + z.tp) + L) × (1536 * (bn + z.tp) ≤ 1536 * (bp + z.tn) + L)
    size = move_size h L H A bp bn (evaluation * h) z.tp z.tn (date_seen z) (offset_seen z) P L-h (omega arith) p (tai-near z) x.residual

    t-low : z.tn + S * L ≤ z.tp
    t-low = not_below A bp bn z.tp z.tn (date_seen z) (offset_seen z) (S * L) from z.eval_under x.ahead

    u-high : x.up + (bp + z.tn) ≤ x.un + (bn + z.tp) + 2 * (S * L)
    u-high = not_above A bp bn x.up x.un z.tp z.tn (date_seen z) (offset_seen z) (S * L) to z.eval_under z.near-under
        (few_seconds z.day z.f z.seconds z.below).0

    moved-held : T (fits binary64 (moved a b u (julian a z.t)))
    unfolding moved
    moved-held = add-fits binary64 _ _

    step : Guess R' P' (moved a b u (julian a z.t))
    step =
        let y = next g v.val x.part.held x.part.val b-on (to-grid g z.held z.val t-low) x.on
        (omega (arith, size.0, L-pos, from, to)) (omega (arith, size.1, L-pos, from, to)) u-high
        (above_zero x.up x.un z.tp z.tn x.part.low size.1) in
        let w : ModifiedPart (moved a b u (julian a z.t)) y.p y.n = record {
          held = moved-held;
          val = y.val;
          low = w-low x.up x.un z.tp z.tn y.p y.n x.below size.1 y.by.low;
          high = w-high x.up x.un z.tp z.tn y.p y.n x.above size.0 y.by.high;
        } in
        let q = next-residual 0 (together * h) P P' (omega arith) (omega arith) p p' z (modified_seen t v w) y.by x.residual in
        record {
          up = y.p;
          un = y.n;
          part = w;
          on = y.on;
          above = w-above x.up x.un z.tp z.tn y.p y.n x.above size.0 y.by.high;
          below = w-below x.up x.un z.tp z.tn y.p y.n x.below size.1 y.by.low;
          residual = q;
          ahead = within _ _ q.high;
        }
      where
        above_zero : (up un tp tn : ℕ) → 41317 * L + H + un ≤ up → 1536 * (bn + tp) ≤ 1536 * (bp + tn) + L → un + (bn + tp) ≤ up + (bp + tn)
        above_zero up un tp tn e i = omega arith

        w-above : (up un tp tn p n : ℕ) → 1536 * (bn + up) ≤ 1536 * (bp + un) + R → 1536 * (bp + tn) ≤ 1536 * (bn + tp) + L
            → p + (un + (bn + tp)) ≤ n + (up + (bp + tn)) + 0 → 1536 * (bn + p) ≤ 1536 * (bp + n) + R'
        w-above up un tp tn p n e i k = omega (arith, r)

        w-below : (up un tp tn p n : ℕ) → 1536 * (bp + un) ≤ 1536 * (bn + up) + R → 1536 * (bn + tp) ≤ 1536 * (bp + tn) + L
            → n + (up + (bp + tn)) ≤ p + (un + (bn + tp)) + 0 → 1536 * (bp + n) ≤ 1536 * (bn + p) + R'
        w-below up un tp tn p n e i k = omega (arith, r)

        w-low : (up un tp tn p n : ℕ) → 1536 * (bp + un) ≤ 1536 * (bn + up) + R → 1536 * (bn + tp) ≤ 1536 * (bp + tn) + L
            → n + (up + (bp + tn)) ≤ p + (un + (bn + tp)) + 0 → 41317 * L + H + n ≤ p
        w-low up un tp tn p n e i k = omega (arith, r, r', low, L-H)

        w-high : (up un tp tn p n : ℕ) → 1536 * (bn + up) ≤ 1536 * (bp + un) + R → 1536 * (bp + tn) ≤ 1536 * (bn + tp) + L
            → p + (un + (bn + tp)) ≤ n + (up + (bp + tn)) + 0 → p ≤ n + 131071 * L + H
        w-high up un tp tn p n e i k = omega (arith, r, r', high, L-H)

        within : (X Y : ℕ) → X ≤ Y + P' → X ≤ Y + one * h
        within X Y l = omega (arith, p'')

  once : {R P : ℕ} {u : Float} (x : Guess R P u) → refined rows a b u ≡ answer (moved a b u (julian a (modified_seen t v x.part).t))
  unfolding refined
  once x = went _ (modified_seen t v x.part).answered

  record Refined : Type 0 where
    u : Float
    is : refine_utc_fraction rows a b ≡ answer u
    at : Guess (3 * L) (three * h) u

  three-rounds : Refined
  unfolding refine_utc_fraction rounds
  three-rounds =
      let x1 = step 0 (at_first * h) L (one * h) (omega arith) (omega arith) (omega arith) (omega arith) (omega arith) first in
      let x2 = step L (one * h) (2 * L) (two * h) (omega arith) (omega arith) (omega arith) (omega arith) (omega arith) x1 in
      let x3 = step (2 * L) (two * h) (3 * L) (three * h) (omega arith) (omega arith) (omega arith) (omega arith) (omega arith) x2 in
      record { u = _; is = went (rounds rows a b 2) (once first) ∙ went (rounds rows a b 1) (once x1) ∙ went (rounds rows a b 0) (once x2); at = x3 }

  right : RightUtc rows 628795 (julian a b)
  unfolding tai_to_utc
  right =
      let r = three-rounds in
      let x = r.at in
      let z = stamp v x.part in
      let o = on-day z in
      let d : ExactDay (julian a r.u) o.0 = record { p = _; m = _; worth = parts-joined v.val x.part.val; on = o.1 } in
      record {
        date = julian a r.u;
        is = kept-changed (refine_utc_fraction rows) a b r.u (modified_larger v b-part) r.is;
        n = o.0;
        on = d;
        means = means-of (seconds z o.0 o.1 t) d (guess_said t z vb (modified_seen t v x.part) x.residual 628795 in_all o.0 o.1);
      }

  back-again : ThereAndBack rows 1257422 (julian a b)
  unfolding tai_to_utc
  back-again =
      let r = three-rounds in
      let x = r.at in
      let z = modified_seen t v x.part in
      let c = comes_back A bp bn z.tp z.tn (date_seen z) (offset_seen z) (tai-near z) x.residual in
      record {
        u = julian a r.u;
        t = julian a z.t;
        there = kept-changed (refine_utc_fraction rows) a b r.u (modified_larger v b-part) r.is;
        back = z.answered;
        apart = record {
          p = A + bp;
          n = bn;
          p' = A + z.tp;
          n' = z.tn;
          from = parts-joined v.val vb;
          to = parts-joined v.val z.val;
          over = unit _ _ (back_in _ _ c.0);
          under = unit _ _ (back_in _ _ c.1);
        };
      }
    where
      unit : (x y : ℕ) → x ≤ y + 1257422 * L → x ≤ y + 1257422 * (1 * L)
      unit x y k = omega arith

  both : RightUtc rows 628795 (julian a b) × ThereAndBack rows 1257422 (julian a b)
  both = (right, back-again)

-- ---- THE THEOREMS: by the lower grid up to 65536 days and 5 s, and else by the upper one
module _ {d : JulianDate} (s : ModifiedSplit d) where
  abbrev u : SizeWithin d.jd2 (131071 * L)
  u = modified_size s

  module _ {rows : List Row} (t : WholeTable rows) where
    by-grid : Dec (16384 * u.p ≤ 16384 * (u.n + 2 * (32768 * L)) + L) → RightUtc rows 628795 d × ThereAndBack rows 1257422 d
    by-grid (yes k) = both t (zero_point s) s.held.1 u.val (from_1972 s) u.high lower (omega (arith, from_1972 s, L-pos)) k
    by-grid (no k) = both t (zero_point s) s.held.1 u.val (from_1972 s) u.high upper (omega (arith, k)) (omega (arith, u.high))

    whole-modified : RightUtc rows 628795 d × ThereAndBack rows 1257422 d
    whole-modified = by-grid (dec_le (16384 * u.p) (16384 * (u.n + 2 * (32768 * L)) + L))

  -- by every table that is taken, and by the fixed one
  pub table-tai-to-utc-modified : (t : AnnouncedRows) (rows : List Row) → table_of t ≡ answer rows → RightUtc rows 628795 d
  table-tai-to-utc-modified t rows e = (whole-modified (table-whole t rows e)).0

  pub tai-to-utc-modified : RightUtc fixed 628795 d
  tai-to-utc-modified = (whole-modified fixed-whole).0

  pub table-there-and-back-modified : (t : AnnouncedRows) (rows : List Row) → table_of t ≡ answer rows → ThereAndBack rows 1257422 d
  table-there-and-back-modified t rows e = (whole-modified (table-whole t rows e)).1

  pub there-and-back-modified : ThereAndBack fixed 1257422 d
  there-and-back-modified = (whole-modified fixed-whole).1
