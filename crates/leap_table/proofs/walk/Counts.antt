-- How many rows a walk compares: at most the dates plus the rows of the table, so the dates plus `fixed_rows` in the fixed table and plus `most_rows` in every
-- table that is taken; and the count in closed form. Assumes nothing.
use Rattle.std.proofs.Common.{◌≡◌, ℕ, zero, suc, ◌+◌, ◌-◌, ◌<◌, ◌≤◌, Bool, true, false, cond, T, leb, List, [], ◌∷◌, length, get_or, drop, refl, ap, ◌∙◌, arith}
use Rattle.std.proofs.Common.{leb→le}
use lib.ListN.{length-map}
use lib.Ieee.Fits.{and_l, and_r}
use native.Mathlib.Decide.{dec_lt}
use borrow.Author.Tests.{lt-leb}
use Rattle.refusals.specs.Outcome.{answer}
use Rattle.leap_table.specs.rows.Table.{Row, fixed, starts, reached, rising, fixed_rows, most_rows}
use Rattle.leap_table.specs.rows.Announced.{table_of}
use Rattle.leap_table.specs.declared.rows.AnnouncedRows.{AnnouncedRows}
use Rattle.leap_table.proofs.rows.Rows.{fixed-length}
use Rattle.leap_table.proofs.rows.TableLaws.{lengths}
use Rattle.leap_table.proofs.rows.Reached.{at_most, low, high, none-begun, last_begun}
use Rattle.leap_table.specs.walk.Rows.{held_against, left, compared, in_time, last_reached, with_row_left}
use Rattle.leap_table.proofs.walk.Forward.{halts, between}

-- in one month: at most one more than the rows passed
pub held-most : (l : List ℕ) (n : ℕ) → held_against l n + length (left l n) ≤ suc (length l)
unfolding held_against left
held-most [] n = omega arith
held-most (a ∷ l) n = go (leb a n) (held-most l n)
  where
    go : (b : Bool) → held_against l n + length (left l n) ≤ suc (length l)
        → cond b (suc (held_against l n)) 1 + length (cond b (left l n) (a ∷ l)) ≤ suc (suc (length l))
    go true h = omega arith
    go false h = omega arith

-- THE ROWS COMPARED are at most the dates and the rows of the table
pub compared-most : (l months : List ℕ) → compared l months ≤ length months + length l
unfolding compared
compared-most l [] = omega arith
compared-most l (n ∷ months) = omega (arith, held-most l n, compared-most (left l n) months)

pub most-by-fixed : (months : List ℕ) → compared (starts fixed) months ≤ length months + fixed_rows
most-by-fixed months = omega (arith, compared-most (starts fixed) months, length-map fixed (λ (r : Row). r.month), fixed-length)

pub most-by-any : (t : AnnouncedRows) (rows : List Row) → table_of t ≡ answer rows → (months : List ℕ) → compared
    (starts rows) months ≤ length months + most_rows
most-by-any t rows e months = omega (arith, compared-most (starts rows) months, length-map rows (λ (r : Row). r.month), (lengths t rows e).1)

-- no date compares no row
pub compared-none : (l : List ℕ) → compared l [] ≡ 0
unfolding compared
compared-none l = refl

-- a date before the first row compares it alone, and one past the last row, once it is reached, none
pub before_first : (a : ℕ) (l : List ℕ) (n : ℕ) → n < a → held_against (a ∷ l) n ≡ 1
unfolding held_against
before_first a l n h = rw (lt-leb a n h)

pub past-last : (n : ℕ) → held_against [] n ≡ 0
unfolding held_against
past-last n = refl

-- ---- IN CLOSED FORM, for a table that rises and months in time order: the rows reached in the last month, and one for each month that leaves a row
module _ (l : List ℕ) (r : T (rising l)) where
  passed_begun : (m j : ℕ) → j < reached l m → get_or l j 0 ≤ m
  passed_begun m j h = go (dec_lt m (get_or l j 0))
    where
      go : Dec (m < get_or l j 0) → get_or l j 0 ≤ m
      go (yes w) = absurd (omega (arith, high l r j m (omega (arith, at_most l m)) w))
      go (no w) = omega arith

  next-not : (m : ℕ) → reached l m < length l → m < get_or l (reached l m) 0
  next-not m h = go (reached l m) refl
    where
      go : (k : ℕ) → reached l m ≡ k → m < get_or l (reached l m) 0
      go zero e = none-begun l m e (reached l m) h
      go (suc i) e = (last_begun l m i e).later_not (reached l m) (omega arith) h

  no_fewer : (m n k : ℕ) → n ≤ m → k ≤ length l → ((j : ℕ) → j < k → get_or l j 0 ≤ n) → k ≤ reached l m
  no_fewer m n zero a h g = omega arith
  no_fewer m n (suc k) a h g = low l k m (omega arith) (omega (arith, g k (omega arith)))

  closed_from : (months : List ℕ) (k n : ℕ) → k ≤ length l → ((j : ℕ) → j < k → get_or l j 0 ≤ n) → T (in_time n months)
      → k + compared (drop k l) months ≡ last_reached l k months + with_row_left l months
  unfolding compared last_reached with_row_left in_time
  closed_from [] k n h g t = refl
  closed_from (m ∷ months) k n h g t =
      let a = leb→le n m (and_l (leb n m) (in_time m months) t) in
      let f = no_fewer m n k a h g in
      let more = closed_from months (reached l m) m (at_most l m) (passed_begun m) (and_r (leb n m) (in_time m months) t) in
      let e : k + (reached l m - k) ≡ reached l m = omega arith in
      let b = between l m (reached l m - k) k (omega (arith, e, at_most l m)) (λ j x y. passed_begun m j (omega (arith, e))) in
      let z = halts l m (reached l m) (next-not m) in
      let held-is : held_against (drop k l) m ≡ reached l m - k + cond (leb (length l) (reached l m)) 0 1 = b.0
      ∙ ap (λ (x : ℕ). reached l m - k + held_against (drop x l) m) e ∙ ap (λ (x : ℕ). reached l m - k + x) z.1 in
      let left_is : left (drop k l) m ≡ drop (reached l m) l = b.1 ∙ ap (λ (x : ℕ). left (drop x l) m) e ∙ z.0 in
      ap (λ (x : ℕ). k + x) (λ i. held-is i + compared (left_is i) months)
      ∙ sums k (reached l m) (cond (leb (length l) (reached l m)) 0 1) (compared (drop (reached l m) l) months) (last_reached l (reached l m) months)
      (with_row_left l months) f more
    where
      sums : (k q one x y z : ℕ) → k ≤ q → q + x ≡ y + z → k + (q - k + one + x) ≡ y + (one + z)
      sums k q one x y z h e = omega arith

  pub compared-closed : (months : List ℕ) → T (in_time 0 months) → compared l months ≡ last_reached l 0 months + with_row_left l months
  compared-closed months t = nothing (compared l months) ∙ closed_from months 0 0 (omega arith) (λ j h. absurd (omega arith)) t
    where
      nothing : (x : ℕ) → x ≡ 0 + x
      nothing x = omega arith
