-- The two tests of an announced table's rows, one row after the other, as the loops make them.
-- Assumes nothing.
use Rattle.std.proofs.Common.{◌≡◌, ℕ, suc, ◌+◌, Bool, true, false, ◌&&◌, T, ltb, ℤ, pos, negsuc, sym, refl, ap, ◌∙◌}
use Rattle.std.proofs.Common.{true≢false, add-one}
use lib.Dec.{leb-suc-zero}
use lib.Signed.{lt_z}
use Rattle.leap_table.specs.declared.rows.AnnouncedRows.{AnnouncedRows}
use Rattle.leap_table.specs.rows.Table.{fixed, starts, rising}
use Rattle.leap_table.specs.rows.Announced.{natural, seconds_at, announced_row, rows_to, one_apart, by_seconds}
use Rattle.leap_table.proofs.rows.Rows.{fixed-rises}
use Rattle.leap_table.proofs.rows.Tables.{month_before, rises-more, seconds_before, steps-more}
use Rattle.std.proofs.Common.{◌≤◌, ◌<◌, le-ltb, lt-ltb}
use Rattle.leap_table.proofs.rows.InTurn.{fails_at, stays-false, holds-next}

is_true : (b : Bool) → T b → b ≡ true
is_true true t = refl
is_true false t = absurd t

as_announced : (good : Bool) (month next : ℤ) (before : ℕ) → (good ≡ true → month ≡ pos before)
    → good && lt_z month next ≡ good && ltb before (natural next)
as_announced false month next before f = refl
as_announced true month next before f = ap (λ (z : ℤ). lt_z z next) (f refl) ∙ go next
  where
    go : (z : ℤ) → lt_z (pos before) z ≡ ltb before (natural z)
    go (pos n) = refl
    go (negsuc n) = sym (leb-suc-zero before)

not_negative : (good : Bool) (before : ℕ) (next : ℤ) → good && ltb before (natural next) ≡ true → next ≡ pos (natural next)
not_negative good before (pos n) e = refl
not_negative true before (negsuc n) e = absurd (true≢false (sym e ∙ leb-suc-zero before))
not_negative false before (negsuc n) e = absurd (true≢false (sym e))

module _ (t : AnnouncedRows) where
  abbrev rises_to : ℕ → Bool
  rises_to n = rising (starts (rows_to t n))

  abbrev steps_to : ℕ → Bool
  steps_to n = by_seconds (rows_to t n)

  pub rises-none : rises_to 0 ≡ true
  unfolding rows_to
  rises-none = is_true _ fixed-rises

  -- with one row more: the months as they are announced decide the same, since until the rows fall back each is a month from year 0 on
  pub rises_next : (i : ℕ) (month next : ℤ) (good : Bool) → good ≡ rises_to i → (good ≡ true → month ≡ pos (month_before t i))
      → natural next ≡ (announced_row t i).month
      → (good && lt_z month next ≡ rises_to (i + 1)) × (good && lt_z month next ≡ true → next ≡ pos (month_before t (i + 1)))
  rises_next i month next good e f g =
      let same = as_announced good month next (month_before t i) f in
      let w : good && lt_z month next ≡ rises_to (suc i) = same ∙ (λ j. e j && ltb (month_before t i) (g j)) ∙ sym (rises-more t i) in
      rw (add-one i) (w, λ p. not_negative good (month_before t i) next (sym same ∙ p) ∙ ap pos g)

  pub steps-none : steps_to 0 ≡ true
  unfolding rows_to fixed
  steps-none = refl

  pub steps_next : (i before next : ℕ) (good : Bool) → good ≡ steps_to i → before ≡ seconds_before t i → next ≡ seconds_at t i
      → (good && one_apart before next ≡ steps_to (i + 1)) × (next ≡ seconds_before t (i + 1))
  steps_next i before next good e f g =
      let w : good && one_apart before next ≡ steps_to (suc i) = (λ j. e j && one_apart (f j) (g j)) ∙ sym (steps-more t i) in
      rw (add-one i) (w, g)

-- ---- a row that fails a test fails the whole table, and one that meets it goes on to the next
module _ (t : AnnouncedRows) where
  pub not_later : (i size : ℕ) → i < size → (announced_row t i).month ≤ month_before t i → false ≡ rises_to t size
  not_later i size h g = sym (stays-false (rises_to t) (λ n. ltb (month_before t n) (announced_row t n).month) (rises-more t) size (suc i) h
      (fails_at (rises_to t) (λ n. ltb (month_before t n) (announced_row t n).month) (rises-more t) i (le-ltb _ _ g)))

  pub later : (i : ℕ) → rises_to t i ≡ true → month_before t i < (announced_row t i).month → ((announced_row t i).month ≡ month_before t (i + 1))
      × (rises_to t (i + 1) ≡ true)
  later i e g =
      rw (add-one i)
      (refl, holds-next (rises_to t) (λ n. ltb (month_before t n) (announced_row t n).month) (rises-more t) i e (lt-ltb _ _ g))

  pub wrong_step : (i size : ℕ) → i < size → one_apart (seconds_before t i) (seconds_at t i) ≡ false → false ≡ steps_to t size
  wrong_step i size h g = sym (stays-false (steps_to t) (λ n. one_apart (seconds_before t n) (seconds_at t n)) (steps-more t) size (suc i) h
      (fails_at (steps_to t) (λ n. one_apart (seconds_before t n) (seconds_at t n)) (steps-more t) i g))

  pub right-step : (i : ℕ) → steps_to t i ≡ true → one_apart (seconds_before t i) (seconds_at t i) ≡ true → (seconds_at t i ≡ seconds_before t (i + 1))
      × (steps_to t (i + 1) ≡ true)
  right-step i e g =
      rw (add-one i)
      (refl, holds-next (steps_to t) (λ n. one_apart (seconds_before t n) (seconds_at t n)) (steps-more t) i e g)
