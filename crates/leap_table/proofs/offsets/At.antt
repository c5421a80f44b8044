-- The offset by the number of rows reached, in its three cases: none, a row that drifts, a row of whole seconds.
-- Assumes nothing.
use Rattle.std.proofs.Common.{◌≡◌, ℕ, zero, suc, ◌-◌, ◌<◌, ◌≤◌, Bool, true, false, cond, not, eqb, List, get_or, ℤ, sym, ap, ◌∙◌, not-suc-le-zero, arith}
use Rattle.std.proofs.Common.{le-ltb, lt-ltb}
use lib.Ieee.{Float, binary64, add, sub, mul, of_int}
use Rattle.floats.specs.Whole.{nought}
use Rattle.leap_table.specs.rows.Table.{Row, fixed, starts, reached, none, fixed_rows}
use Rattle.leap_table.specs.offsets.Offset.{seconds_of, start_of, rate_of, by_row, offset_by, offset_at, row_at}
use Rattle.leap_table.specs.offsets.Leap.{offsets}
use Rattle.leap_table.proofs.rows.Rows.{drifts}

abbrev drift : Row → Float → Float → Float
drift r mjd f = add binary64 (seconds_of r) (mul binary64 (sub binary64 (add binary64 mjd f) (start_of r)) (rate_of r))

module _ (rows : List Row) (k : ℕ) (mjd f : Float) where
  by_place : 0 < k → offset_by rows k mjd f ≡ by_row (get_or rows (k - 1) none) mjd f
  unfolding offset_by
  by_place h = go k h
    where
      step : (j : ℕ) → j ≡ suc j - 1
      step j = omega arith

      placed : (i : ℕ) → offset_by rows (suc i) mjd f ≡ by_row (get_or rows (suc i - 1) none) mjd f
      placed i = ap (λ (j : ℕ). by_row (get_or rows j none) mjd f) (step i)

      go : (j : ℕ) → 0 < j → offset_by rows j mjd f ≡ by_row (get_or rows (j - 1) none) mjd f
      go zero g = absurd (not-suc-le-zero g)
      go (suc i) g = placed i

  pub absent : k ≡ 0 → nought ≡ offset_by rows k mjd f
  unfolding offset_by
  absent z = sym (ap (λ (j : ℕ). offset_by rows j mjd f) z)

  abbrev r : Row
  r = get_or rows (k - 1) none

  by-rate : 0 < k → (t : Bool) → eqb r.rate 0 ≡ t → cond t (seconds_of r) (drift r mjd f) ≡ offset_by rows k mjd f
  unfolding by_row
  by-rate p t e = sym (ap (λ (b : Bool). cond b (seconds_of r) (drift r mjd f)) e) ∙ sym (by_place p)

  pub row-drifts : 0 < k → eqb r.rate 0 ≡ false → (a b c : Float) → a ≡ seconds_of r → b ≡ start_of r → c ≡ rate_of r
      → add binary64 a (mul binary64 (sub binary64 (add binary64 mjd f) b) c) ≡ offset_by rows k mjd f
  row-drifts p h a b c ea eb ec = (λ i. add binary64 (ea i) (mul binary64 (sub binary64 (add binary64 mjd f) (eb i)) (ec i))) ∙ by-rate p false h

  pub row_stays : 0 < k → eqb r.rate 0 ≡ true → (a : Float) → a ≡ seconds_of r → a ≡ offset_by rows k mjd f
  row_stays p h a ea = ea ∙ by-rate p true h

-- in the fixed table
module _ (k : ℕ) (mjd f : Float) where
  pub drifting : 0 < k → k - 1 < 14 → (a b c : Float) → a ≡ seconds_of (row_at k) → b ≡ start_of (row_at k) → c ≡ rate_of (row_at k)
      → add binary64 a (mul binary64 (sub binary64 (add binary64 mjd f) b) c) ≡ offset_by fixed k mjd f
  drifting p h = row-drifts fixed k mjd f p (drifts (k - 1) (omega arith) ∙ ap not (lt-ltb (k - 1) 14 h))

  pub steady : 0 < k → 14 ≤ k - 1 → k - 1 < fixed_rows → (a : Float) → a ≡ seconds_of (row_at k) → a ≡ offset_by fixed k mjd f
  steady p h l = row_stays fixed k mjd f p (drifts (k - 1) l ∙ ap not (le-ltb (k - 1) 14 h))

-- by the month
pub at_month : (rows : List Row) (k n : ℕ) (z z' : ℤ) (f : Float) → k ≡ reached (starts rows) n → z ≡ z'
    → offset_by rows k (of_int binary64 z) f ≡ offset_at rows n (of_int binary64 z') f
unfolding offset_at
at_month rows k n z z' f p q = λ i. offset_by rows (p i) (of_int binary64 (q i)) f

pub same-three : (a a' b b' c c' : Float) → a ≡ a' → b ≡ b' → c ≡ c' → offsets a b c ≡ offsets a' b' c'
same-three a a' b b' c c' p q r = λ i. offsets (p i) (q i) (r i)
