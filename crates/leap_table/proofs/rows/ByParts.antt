-- A table by one size and its two arrays is the table by value; its months depend on the announced months alone, and its steps on the announced seconds
-- alone; and no table has more than `most_rows` rows. Assumes nothing.
use Rattle.std.proofs.Common.{ℕ, zero, suc, ◌+◌, ◌<◌, ◌≤◌, ◌≡◌, Bool, true, false, cond, ◌&&◌, leb, List, [], ◌∷◌, ◌++◌, get_or, ℤ, pos, le-leb, arith}
use Rattle.std.proofs.Common.{refl, sym, ap, ◌∙◌}
use borrow.Author.Tests.{lt-leb}
use Rattle.leap_table.specs.declared.rows.AnnouncedRows.{AnnouncedRows}
use Rattle.leap_table.specs.rows.Table.{Row, starts, fixed_rows, most_rows}
use Rattle.leap_table.specs.rows.Announced.{natural, announced_row, rows_to, least, announced_size, rows_of, announced_table, rows_in, one_apart, by_seconds}
use Rattle.leap_table.proofs.rows.Tables.{at_most_16, starts_more, seconds_before, steps-more}

pub least-low : (a b : ℕ) → a ≤ b → least a b ≡ a
least-low a b h = rw (le-leb a b h)

pub least-high : (a b : ℕ) → b < a → least a b ≡ b
least-high a b h = rw (lt-leb a b h)

pub few-rows : (t : AnnouncedRows) (rows : ℕ) → rows ≤ fixed_rows + announced_size t → rows ≤ most_rows
few-rows t rows h = omega (arith, h, at_most_16 t)

-- ---- by one size
same-places : (t : AnnouncedRows) (a b n : ℕ) → rows_to (announced_table a b t.months t.seconds) n ≡ rows_to t n
unfolding rows_to
same-places t a b zero = refl
same-places t a b (suc n) = ap (λ (l : List Row). l ++ (announced_row t n ∷ [])) (same-places t a b n)

least-same : (a : ℕ) → least a a ≡ a
least-same a = go (leb a a)
  where
    go : (b : Bool) → cond b a a ≡ a
    go true = refl
    go false = refl

pub rows_in_lem : (t : AnnouncedRows) (k : ℕ) → k ≡ least t.months_size t.seconds_size → rows_in k t.months t.seconds ≡ rows_of t
unfolding announced_size
rows_in_lem t k e =
    same-places t k k (announced_size (announced_table k k t.months t.seconds))
    ∙ ap (λ (j : ℕ). rows_to t (least j 16)) (least-same k ∙ e)

-- ---- by its parts
module _ (a b c d : ℕ) (l m s : List ℤ) where
  pub starts-alike : (n : ℕ) → starts (rows_to (announced_table a b m s) n) ≡ starts (rows_to (announced_table c d m l) n)
  unfolding rows_to
  starts-alike zero = refl
  starts-alike (suc n) =
      starts_more (announced_table a b m s) n
      ∙ ap (λ (k : List ℕ). k ++ (natural (get_or m n (pos 0)) ∷ [])) (starts-alike n)
      ∙ sym (starts_more (announced_table c d m l) n)

  before-alike : (n : ℕ) → seconds_before (announced_table a b m s) n ≡ seconds_before (announced_table c d l s) n
  before-alike zero = refl
  before-alike (suc n) = refl

  pub steps_alike : (n : ℕ) → by_seconds (rows_to (announced_table a b m s) n) ≡ by_seconds (rows_to (announced_table c d l s) n)
  unfolding rows_to
  steps_alike zero = refl
  steps_alike (suc n) =
      steps-more (announced_table a b m s) n
      ∙ (λ i. steps_alike n i && one_apart (before-alike n i) (natural (get_or s n (pos 0))))
      ∙ sym (steps-more (announced_table c d l s) n)
