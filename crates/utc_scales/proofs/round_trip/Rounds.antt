-- THE THREE ROUNDS of TAI to UTC: the residual of the guess falls from at most 53 s to 614 microseconds, 7.3 ns and 135 ps, and UTC to TAI takes the last guess
-- to within 173 ps of the TAI that was given. Assumes nothing.
use mathlib.Core.Path.{◌≡◌, ◌∙◌}
use mathlib.Core.List.{List}
use Prim.Native.Nat.{ℕ, ◌+◌, ◌*◌, ◌≤◌}
use native.Mathlib.Omega.{arith}
use lib.Dec.{T}
use lib.Ieee.{Float, binary64, fits, le}
use Rattle.refusals.specs.Outcome.{answer}
use Rattle.refusals.proofs.Onward.{went}
use Rattle.floats.specs.Whole.{abs, one}
use Rattle.rounding.specs.Value.{Val, L}
use Rattle.rounding.proofs.Range.{size-at-most}
use Rattle.julian.proofs.day_number.Units.{one-L}
use Rattle.julian.specs.JulianDate.{julian}
use Rattle.leap_table.specs.rows.Table.{Row}
use Rattle.utc_scales.specs.UtcTai.{moved, refined, rounds, refine_utc_fraction, tai_to_utc}
use Rattle.utc_scales.specs.round_trip.UtcDays.{H}
use Rattle.utc_scales.proofs.round_trip.Units.{h, L-H, L-h, h_pos}
use Rattle.utc_scales.proofs.round_trip.Parts.{FirstPart, SecondPart}
use Rattle.utc_scales.proofs.round_trip.DaySeconds.{WholeTable}
use Rattle.utc_scales.proofs.round_trip.Steady.{tai_utc_at, either, few_seconds}
use Rattle.utc_scales.proofs.round_trip.Kept.{first-larger, kept-changed}
use Rattle.utc_scales.proofs.round_trip.Evaluated.{SeenTo, Seen, seen}
use Rattle.utc_scales.proofs.round_trip.Residuals.{
  Residual,
  DateNear,
  TaiNear,
  GuessMoved,
  start,
  moved-residual,
  day-apart,
  shrinks,
  move_size,
  after_one,
}
use Rattle.utc_scales.proofs.round_trip.Residuals.{after_three, after_two, at_first}
use Rattle.utc_scales.proofs.round_trip.Round.{Next, next-guess}

-- ---- what is seen of a guess, in the numbers of a round
module _ {rows : List Row} {E : ℕ} {a u : Float} {A up un : ℕ} (z : SeenTo rows E a u A up un) where
  -- its date, and its TAI-UTC times 86400
  abbrev pub date_seen : ℕ
  date_seen = z.day * L + z.f

  abbrev pub offset_seen : ℕ
  offset_seen = tai_utc_at rows z.day z.f

  pub near : DateNear h H A up un date_seen
  near = record { high = z.near-over; low = z.near-under }

  pub tai-near : TaiNear E H A z.tp z.tn date_seen offset_seen
  tai-near = record { high = z.eval_over; low = z.eval_under }

-- ---- the residual of the next guess, where an evaluation and a move are off by M together
pub next-residual : {rows : List Row} {a u u' : Float} {A bp bn up un up' un' E : ℕ} (e M P P' : ℕ) → E + 86400 * (8 * h + e) ≤ M → M ≤ 6000000000 * h
    → P ≤ at_first * h
    → P + 86401 * M ≤ 86400 * P' → (z : SeenTo rows E a u A up un) (z' : SeenTo rows E a u' A up' un') → GuessMoved e bp bn z.tp z.tn up un up' un'
    → Residual H A bp bn (date_seen z) (offset_seen z) P → Residual H A bp bn (date_seen z') (offset_seen z') P'
next-residual {A = A} {bp} {bn} {up} {un} {up'} {un'} {E} e M P P' k l p p' z z' m r =
    let o = moved-residual h L H A bp bn E e M z.tp z.tn up un up' un' (date_seen z) (offset_seen z) (date_seen z') k (tai-near z) (near z) m (near z') in
    let c = day-apart h L H A bp bn (date_seen z) (offset_seen z) (date_seen z') P M L-h h_pos p l r o in
    shrinks h L H A bp bn (date_seen z) (offset_seen z) (date_seen z') (offset_seen z') P M P' p' r o
    (either z.day z'.day z.f z'.f z.seconds z'.seconds z.below z'.below c.0 c.1)

-- ---- where a guess stands: its size, what is seen of it, and its residual
pub record GuessAt (rows : List Row) (a : Float) (A bp bn R P : ℕ) (u : Float) : Type 0 where
  pub up : ℕ
  pub un : ℕ
  pub val : Val u up un L
  pub held : T (fits binary64 u)
  pub high : 1024 * up ≤ 1024 * un + R
  pub low : 1024 * un ≤ 1024 * up + R
  pub seen : Seen rows a u A up un
  pub residual : Residual H A bp bn (date_seen seen) (offset_seen seen) P

module _ {rows : List Row} (w : WholeTable rows) {a b : Float} {A bp bn : ℕ} (v : FirstPart a A) (vb : Val b bp bn L) where
  -- the first guess is b
  first : T (fits binary64 b) → bp ≤ bn + L → bn ≤ bp + L → GuessAt rows a A bp bn (1024 * L) (at_first * h) b
  first t k l =
      let z : Seen rows a b A bp bn = seen w v (record { held = t; val = vb; over = wide bp bn L k; under = wide bn bp L l }) in
      record {
        up = bp;
        un = bn;
        val = vb;
        held = t;
        high = plain bp bn L k;
        low = plain bn bp L l;
        seen = z;
        residual =
            start h L H A bp bn (date_seen z) (offset_seen z) L-h (few_seconds z.day z.f z.seconds z.below).1 (near z);
      }
    where
      wide : (p n Q : ℕ) → p ≤ n + Q → 1024 * p ≤ 1024 * n + 1027 * Q
      wide p n Q k = omega arith

      plain : (p n Q : ℕ) → p ≤ n + Q → 1024 * p ≤ 1024 * n + 1024 * Q
      plain p n Q k = omega arith

  -- a round: the bound P becomes P'
  step : (R P R' P' : ℕ) → R + L ≤ R' → R' ≤ 1027 * L → P ≤ at_first * h → P + 86401 * (1209622 * h) ≤ 86400 * P'
      → {u : Float} (x : GuessAt rows a A bp bn R P u)
      → GuessAt rows a A bp bn R' P' (moved a b u (julian a x.seen.t))
  step R P R' P' r r' p p' {u} x =
      let z = x.seen in
      let m = move_size h L H A bp bn (345622 * h) z.tp z.tn (date_seen z) (offset_seen z) P L-h (omega arith) p (tai-near z) x.residual in
      let y : Next a b u z.t bp bn z.tp z.tn x.up x.un =
      next-guess v.val vb z.val x.held x.val m.0 m.1 (within x.up x.un x.high) (within x.un x.up x.low) in
      let g = ranged x.up x.un y.p y.n (bp + z.tn) (bn + z.tp) x.high m.0 y.by.high in
      let l = ranged x.un x.up y.n y.p (bn + z.tp) (bp + z.tn) x.low m.1 y.by.low in
      let z' : Seen rows a (moved a b u (julian a z.t)) A y.p y.n =
      seen w v (record { held = y.held; val = y.val; over = full y.p y.n g; under = full y.n y.p l }) in
      record {
        up = y.p;
        un = y.n;
        val = y.val;
        held = y.held;
        high = g;
        low = l;
        seen = z';
        residual = next-residual (2 * h) (1209622 * h) P P' (omega arith) (omega arith) p p' z z' y.by x.residual;
      }
    where
      within : (p n : ℕ) → 1024 * p ≤ 1024 * n + R → 1024 * p ≤ 1024 * n + 1027 * L
      within p n k = omega (arith, r, r')

      full : (p n : ℕ) → 1024 * p ≤ 1024 * n + R' → 1024 * p ≤ 1024 * n + 1027 * L
      full p n k = omega (arith, r')

      small : (Q k : ℕ) → Q ≡ 9007199254740992 * k → 8192 * k ≤ Q
      small Q k e = omega arith

      ranged : (p n p' n' i j : ℕ) → 1024 * p ≤ 1024 * n + R → 1536 * i ≤ 1536 * j + L → p' + (n + j) ≤ n' + (p + i) + 2 * h → 1024 * p' ≤ 1024 * n' + R'
      ranged p n p' n' i j k l m = go p n p' n' i j R R' L h (small L h L-h) k l m r
        where
          go : (p n p' n' i j R R' Q h : ℕ) → 8192 * h ≤ Q → 1024 * p ≤ 1024 * n + R → 1536 * i ≤ 1536 * j + Q → p' + (n + j) ≤ n' + (p + i) + 2 * h
              → R + Q ≤ R' → 1024 * p' ≤ 1024 * n' + R'
          go p n p' n' i j R R' Q h e k l m r = omega arith

  once : {R P : ℕ} {u : Float} (x : GuessAt rows a A bp bn R P u) → refined rows a b u ≡ answer (moved a b u (julian a x.seen.t))
  unfolding refined
  once x = went _ x.seen.answered

  record Refined : Type 0 where
    u : Float
    is : refine_utc_fraction rows a b ≡ answer u
    at : GuessAt rows a A bp bn (1027 * L) (after_three * h) u

  three-rounds : T (fits binary64 b) → bp ≤ bn + L → bn ≤ bp + L → Refined
  unfolding refine_utc_fraction rounds
  three-rounds t k l =
      let x0 = first t k l in
      let x1 = step (1024 * L) (at_first * h) (1025 * L) (after_one * h) (omega arith) (omega arith) (omega arith) (omega arith) x0 in
      let x2 = step (1025 * L) (after_one * h) (1026 * L) (after_two * h) (omega arith) (omega arith) (omega arith) (omega arith) x1 in
      let x3 = step (1026 * L) (after_two * h) (1027 * L) (after_three * h) (omega arith) (omega arith) (omega arith) (omega arith) x2 in
      record { u = _; is = went (rounds rows a b 2) (once x0) ∙ went (rounds rows a b 1) (once x1) ∙ went (rounds rows a b 0) (once x2); at = x3 }

-- ---- TAI to UTC of (a, b) is (a, u), where u stands within 135 ps
pub record Found (rows : List Row) (a b : Float) (A : ℕ) : Type 0 where
  pub u : Float
  pub bp : ℕ
  pub bn : ℕ
  pub given : Val b bp bn L
  pub is : tai_to_utc rows (julian a b) ≡ answer (julian a u)
  pub at : GuessAt rows a A bp bn (1027 * L) (after_three * h) u

pub found : {rows : List Row} → WholeTable rows → {a b : Float} {A : ℕ} → FirstPart a A → T (fits binary64 b) → T (le (abs b) one) → Found rows a b A
unfolding tai_to_utc
found {rows} t {a} {b} {A} v f k =
    let w = size-at-most f one-L k in
    let r = three-rounds t v w.val f w.high w.low in
    record {
      u = r.u;
      bp = w.p;
      bn = w.n;
      given = w.val;
      is = kept-changed (refine_utc_fraction rows) a b r.u
          (first-larger v.val w.val (under-a w.p w.n v.low w.high) (under-a w.n w.p v.low w.low)) r.is;
      at = r.at;
    }
  where
    under-a : (p n : ℕ) → 4882639 * H ≤ A → p ≤ n + L → p ≤ n + A
    under-a p n m k = omega (arith, L-H)

-- the guess is a smaller part as before
pub part : {rows : List Row} {a u : Float} {A bp bn P : ℕ} → (x : GuessAt rows a A bp bn (1027 * L) P u) → SecondPart u x.up x.un
part x = record { held = x.held; val = x.val; over = x.high; under = x.low }
