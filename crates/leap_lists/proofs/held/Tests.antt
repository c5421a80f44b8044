-- What is held of the rows: the library's own numbers, and the tests of a line. Assumes nothing.
use Prim.Native.Nat.{ℕ, ◌+◌, ◌/◌, ◌%◌, ◌<◌, ◌≤◌}
use native.Mathlib.Omega.{arith}
use mathlib.Core.Path.{◌≡◌, refl}
use mathlib.Core.Bool.{Bool, true, false, cond}
use lib.Dec.{ltb}
use lib.IntN.{pos}
use borrow.Author.Tests.{le-leb, lt-leb, lt-ltb, le-ltb}
use Rattle.refusals.specs.Outcome.{answer}
use Rattle.leap_table.specs.declared.rows.AnnouncedRows.{AnnouncedRows}
use Rattle.leap_table.specs.rows.Table.{fixed, month_number, reached, last_month, last_seconds}
use Rattle.leap_table.specs.rows.Announced.{table_of, rows_of}
use Rattle.leap_table.specs.offsets.WholeSeconds.{whole_seconds}
use Rattle.leap_table.proofs.rows.TablesTaken.{none_rows}
use Rattle.leap_lists.specs.declared.held.Held.{Held}
use Rattle.leap_lists.specs.declared.lines.Line.{Line}
use Rattle.leap_lists.specs.declared.lines.Line.TheVariants as K
use Rattle.leap_lists.specs.Held.{seconds_from, library_row, later_fault, line_fault, with_row, with_line, InRange, none_held}
use Prim.Native.Nat.{zero, suc, ◌-◌}
use mathlib.Core.Path.{sym, ap, ◌∙◌}
use mathlib.Core.Bool.{not}
use lib.Dec.{eqb, leb}
use lib.ListN.{get_or}
use borrow.Author.Tests.{eq-eqb, ne_eqb, leb-true, leb-false}
use Rattle.leap_table.specs.rows.Table.{fixed_rows, starts}
use Rattle.leap_table.specs.rows.Announced.{one_apart}
use Rattle.leap_table.specs.offsets.Forward.{never}

-- by a table that lends no rows
pub own-seconds : (t : AnnouncedRows) (m : ℕ) → table_of t ≡ answer fixed → whole_seconds (rows_of t) (pos (m / 12)) (m % 12 + 1) ≡ seconds_from m
unfolding seconds_from
own-seconds t m e = rw (none_rows t e)

pub last-second : seconds_from last_month ≡ last_seconds
unfolding seconds_from whole_seconds fixed month_number reached
last-second = refl

-- ---- the tests of a row, in their order
module _ (h : Held) (m s : ℕ) where
  pub not_later : h.size < 16 → m ≤ h.month → 21 ≡ later_fault h m s
  unfolding later_fault
  not_later a b = rw (lt-leb _ _ a, le-leb _ _ b)

  pub as_later : (r : ℕ) → last_month < m → r ≡ later_fault h m s → r ≡ line_fault h (K.Row m s)
  unfolding line_fault
  as_later r l e = rw (lt-ltb _ _ l) e

  pub as_own : (b : Bool) → m ≤ last_month → library_row m s ≡ b → cond b 0 22 ≡ line_fault h (K.Row m s)
  unfolding line_fault
  as_own b l e = rw (le-ltb _ _ l, e)

  pub is_held : last_month < m → with_row h m s ≡ with_line h (K.Row m s)
  unfolding with_line
  is_held l = rw (lt-ltb _ _ l)

  pub not_held : m ≤ last_month → h ≡ with_line h (K.Row m s)
  unfolding with_line
  not_held l = rw (le-ltb _ _ l)

-- the seconds that are held fit an announced row's
pub small-second : (h : Held) (l : Line) → h.second < 2147483648 → InRange l → (with_line h l).second < 2147483648
unfolding with_line
small-second h K.Blank a b = a
small-second h (K.Row m s) a b = either (ltb last_month m)
  where
    either : (x : Bool) → (cond x (with_row h m s) h).second < 2147483648
    either true = b.1
    either false = a
small-second h (K.Expiry d) a b = a
small-second h K.Outside a b = a

pub small_start : none_held.second < 2147483648
unfolding none_held
small_start = omega arith

-- ---- more of the library's own rows, and more of the tests of a row
pub own-last : (t : AnnouncedRows) → table_of t ≡ answer fixed → get_or (starts (rows_of t)) (fixed_rows - 1) never ≡ last_month
unfolding fixed
own-last t e = rw (none_rows t e)

pub no_month : (s : ℕ) → library_row 0 s ≡ false
unfolding library_row
no_month s = refl

less_one : (m : ℕ) → suc m - 1 ≡ m
less_one m = omega arith

module _ (s here before : ℕ) where
  pub other_seconds : (m : ℕ) → (m ≡ 0 → ⊥) → here ≡ seconds_from m → (here ≡ s → ⊥) → library_row m s ≡ false
  unfolding library_row
  other_seconds zero n g h = absurd (n refl)
  other_seconds (suc m) n g h = let no : seconds_from (suc m) ≡ s → ⊥ = λ p. h (g ∙ p) in rw (ne_eqb _ _ no)

  pub same-seconds : (m : ℕ) → (m ≡ 0 → ⊥) → here ≡ seconds_from m → here ≡ s → before ≡ seconds_from (m - 1) → library_row m s ≡ not (eqb before s)
  unfolding library_row
  same-seconds zero n g h f = absurd (n refl)
  same-seconds (suc m) n g h f = let q : seconds_from (suc m) ≡ s = sym g ∙ h in
      let g : before ≡ seconds_from m = f ∙ ap seconds_from (less_one m) in
      rw (eq-eqb _ _ q, g)

module _ (h : Held) (m s : ℕ) where
  pub full : 16 ≤ h.size → 20 ≡ later_fault h m s
  unfolding later_fault
  full a = rw (le-leb _ _ a)

  pub by-step : (b : Bool) → h.size < 16 → h.month < m → one_apart h.second s ≡ b → cond b 0 22 ≡ later_fault h m s
  unfolding later_fault
  by-step b a l e = rw (lt-leb _ _ a, lt-leb _ _ l, e)

  pub room : last_month < m → line_fault h (K.Row m s) ≡ 0 → h.size < 16
  room l e = either (leb 16 h.size) refl
    where
      either : (b : Bool) → leb 16 h.size ≡ b → h.size < 16
      either true g = let no : ◌≡◌ {A = ℕ} 20 0 = full (leb-true _ _ g) ∙ as_later h m s _ l refl ∙ e in absurd (let z : ⊥ = omega arith in z)
      either false g = leb-false _ _ g
