-- What becomes of an announced table, decided on the numbers as they are announced; and what is known of a table that is taken: its length, its order, the size
-- of its seconds. Places past the size are not read.
-- Assumes nothing.
use Rattle.std.proofs.Common.{◌≡◌, ℕ, zero, suc, ◌+◌, ◌*◌, ◌<◌, ◌≤◌, Bool, true, false, cond, ◌&&◌, ◌||◌, T, eqb, ltb, leb, ◌⊎◌, List, [], ◌∷◌, ◌++◌}
use Rattle.std.proofs.Common.{length, get_or, ℤ, pos, negsuc, sym, refl, ap, ◌∙◌, subst, inl, inr, true≢false, not-suc-le-zero, add-one, arith, ltb-false}
use Rattle.std.proofs.Common.{ltb-true, le-ltb, ne_eqb, eqb-true, leb-false, leb-true}
use lib.Signed.{lt_z}
use borrow.Author.Tests.{eqb-false}
use Rattle.refusals.specs.Outcome.{answer, refusal}
use Rattle.leap_table.specs.declared.rows.AnnouncedRows.{AnnouncedRows}
use Rattle.leap_table.specs.rows.Table.{Row, starts, rising, fixed_rows, last_month, most_rows, last_seconds}
use Rattle.leap_table.specs.rows.Announced.{natural, seconds_at, announced_row, rows_to, least, announced_size, rows_of, one_apart, by_seconds, table_of}
use Rattle.leap_table.specs.rows.Announced.{rows_of, before, later_at, OneStep, StepAt, Decision, sizes, order, step, taken}
use Rattle.leap_table.proofs.rows.InTurn.{all_hold, first-fails}
use Rattle.leap_table.proofs.rows.Tables.{table-length, month_before, rises-more, seconds_before, steps-more}
use Rattle.leap_table.proofs.rows.TableTests.{rises-none, steps-none}
use Rattle.leap_table.proofs.rows.TablesTaken.{Taken, when_taken, sizes-differ, sizes-large, not_rising, not_by_seconds, all_right, all-count}

-- ---- months, signed
signed-later : (b : ℕ) (z : ℤ) → ltb b (natural z) ≡ lt_z (pos b) z
signed-later b (pos n) = refl
signed-later b (negsuc n) = le-ltb b 0 (omega arith)

is_positive : (z : ℤ) → 0 < natural z → z ≡ pos (natural z)
is_positive (pos n) h = refl
is_positive (negsuc n) h = absurd (not-suc-le-zero h)

-- ---- steps, signed
step_of : (b n : ℕ) → one_apart b n ≡ true → OneStep (pos b) (pos n)
step_of b n e = go (eqb n (b + 1)) refl e
  where
    go : (t : Bool) → eqb n (b + 1) ≡ t → t || eqb b (n + 1) ≡ true → OneStep (pos b) (pos n)
    go true p q = inl (ap pos (eqb-true n (b + 1) p ∙ add-one b))
    go false p q = inr (ap pos (eqb-true b (n + 1) q ∙ add-one n))

no_step_of : (b n : ℕ) → one_apart b n ≡ false → OneStep (pos b) (pos n) → ⊥
no_step_of b n e s = go (eqb n (b + 1)) refl e s
  where
    go : (t : Bool) → eqb n (b + 1) ≡ t → t || eqb b (n + 1) ≡ false → OneStep (pos b) (pos n) → ⊥
    go true p q s = true≢false q
    go false p q (inl z) = let y : n ≡ suc b = cc in eqb-false n (b + 1) p (y ∙ sym (add-one b))
    go false p q (inr z) = let y : b ≡ suc n = cc in eqb-false b (n + 1) q (y ∙ sym (add-one n))

far : (b : ℕ) → 1 < b → one_apart b 0 ≡ false
far b h = rw (ne_eqb 0 (b + 1) (λ e. omega arith), ne_eqb b (0 + 1) (λ e. omega arith))

signed-step : (b : ℕ) (z : ℤ) → 1 < b → one_apart b (natural z) ≡ true → OneStep (pos b) z
signed-step b (pos n) h e = step_of b n e
signed-step b (negsuc n) h e = absurd (true≢false (sym e ∙ far b h))

signed-no-step : (b : ℕ) (z : ℤ) → 1 < b → one_apart b (natural z) ≡ false → OneStep (pos b) z → ⊥
signed-no-step b (pos n) h e s = no_step_of b n e s
signed-no-step b (negsuc n) h e (inl z) = let y : ◌≡◌ {A = ℕ} 0 1 = cc in omega arith
signed-no-step b (negsuc zero) h e (inr z) = let y : b ≡ 0 = cc in omega arith
signed-no-step b (negsuc (suc n)) h e (inr z) = let y : ◌≡◌ {A = ℕ} 0 1 = cc in omega arith

pub near : (b n : ℕ) → one_apart b n ≡ true → (n ≡ b + 1) ⊎ (b ≡ n + 1)
near b n e = go (eqb n (b + 1)) refl e
  where
    go : (t : Bool) → eqb n (b + 1) ≡ t → t || eqb b (n + 1) ≡ true → (n ≡ b + 1) ⊎ (b ≡ n + 1)
    go true p q = inl (eqb-true n (b + 1) p)
    go false p q = inr (eqb-true b (n + 1) q)

module _ (t : AnnouncedRows) where
  abbrev rises_to : ℕ → Bool
  rises_to n = rising (starts (rows_to t n))

  abbrev later_to : ℕ → Bool
  later_to n = ltb (month_before t n) (announced_row t n).month

  abbrev steps_to : ℕ → Bool
  steps_to n = by_seconds (rows_to t n)

  abbrev step_to : ℕ → Bool
  step_to n = one_apart (seconds_before t n) (seconds_at t n)

  -- where the rows rise up to row i, the month before it is positive
  pub high-month : (i : ℕ) → rises_to i ≡ true → last_month ≤ month_before t i
  high-month zero e = omega arith
  high-month (suc i) e =
      let (p, q) = all_hold rises_to later_to (rises-more t) (suc i) e i (omega arith) in
      omega (arith, high-month i p, ltb-true (month_before t i) (announced_row t i).month q)

  month-read : (i : ℕ) → rises_to i ≡ true → before (pos last_month) t.months i ≡ pos (month_before t i)
  month-read zero e = refl
  month-read (suc i) e = is_positive (get_or t.months i (pos 0)) (omega (arith, high-month (suc i) e))

  later-read : (i : ℕ) → rises_to i ≡ true → later_at t i ≡ later_to i
  later-read i e = ap (λ (z : ℤ). lt_z z (get_or t.months i (pos 0))) (month-read i e) ∙ sym (signed-later (month_before t i) (get_or t.months i (pos 0)))

  -- where the steps up to row i are of one second, its seconds are within i of the last fixed row's
  pub near_last : (i : ℕ) → steps_to i ≡ true → (last_seconds ≤ seconds_before t i + i) × (seconds_before t i ≤ last_seconds + i)
  near_last zero e = (omega arith, omega arith)
  near_last (suc i) e =
      let (p, q) = all_hold steps_to step_to (steps-more t) (suc i) e i (omega arith) in
      let (a, b) = near_last i p in
      go (near (seconds_before t i) (seconds_at t i) q) a b
    where
      go : (seconds_at t i ≡ seconds_before t i + 1) ⊎ (seconds_before t i ≡ seconds_at t i + 1) → last_seconds ≤ seconds_before t i + i
          → seconds_before t i ≤ last_seconds + i
          → (last_seconds ≤ seconds_at t i + suc i) × (seconds_at t i ≤ last_seconds + suc i)
      go (inl e) a b = (omega arith, omega arith)
      go (inr e) a b = (omega arith, omega arith)

  module _ (i : ℕ) (h : i ≤ 16) (e : steps_to i ≡ true) where
    large : 1 < seconds_before t i
    large = omega (arith, (near_last i e).0)

    seconds-read : before (pos last_seconds) t.seconds i ≡ pos (seconds_before t i)
    seconds-read = go i large
      where
        go : (j : ℕ) → 1 < seconds_before t j → before (pos last_seconds) t.seconds j ≡ pos (seconds_before t j)
        go zero g = refl
        go (suc j) g = is_positive (get_or t.seconds j (pos 0)) (omega arith)

    step-read : step_to i ≡ true → StepAt t i
    step-read q = subst (λ (z : ℤ). OneStep z (get_or t.seconds i (pos 0))) (sym seconds-read)
        (signed-step (seconds_before t i) (get_or t.seconds i (pos 0)) large q)

    no_step_read : step_to i ≡ false → StepAt t i → ⊥
    no_step_read q s = signed-no-step (seconds_before t i) (get_or t.seconds i (pos 0)) large q
        (subst (λ (z : ℤ). OneStep z (get_or t.seconds i (pos 0))) seconds-read s)

  -- ---- WHAT BECOMES OF A TABLE, and why: the four cases exclude each other
  abbrev M : ℕ
  M = t.months_size

  abbrev S : ℕ
  S = t.seconds_size

  pub table-decided : Decision t
  table-decided = by_size (eqb M S) refl (leb M 16) refl
    where
      by-steps : M ≡ S → M ≤ 16 → rises_to M ≡ true → (b : Bool) → steps_to M ≡ b → Decision t
      by-steps p q r true s =
          taken p q (λ i h. let (x, y) = all_hold rises_to later_to (rises-more t) M r i h in later-read i x ∙ y)
          (λ i h. let (x, y) = all_hold steps_to step_to (steps-more t) M s i h in step-read i (omega arith) x y)
          (sym (all_right t p q (sym r) (sym s)))
      by-steps p q r false s =
          let (i, h, x, y) = first-fails steps_to step_to (steps-more t) (steps-none t) M s in
          step p q (λ j g. let (v, w) = all_hold rises_to later_to (rises-more t) M r j g in later-read j v ∙ w)
          i h (no_step_read i (omega (arith, h)) x y) (sym (not_by_seconds t p q (sym r) (sym s)))

      by_order : M ≡ S → M ≤ 16 → (b : Bool) → rises_to M ≡ b → Decision t
      by_order p q true r = by-steps p q r (steps_to M) refl
      by_order p q false r =
          let (i, h, x, y) = first-fails rises_to later_to (rises-more t) (rises-none t) M r in
          order p q i h (later-read i x ∙ y) (sym (not_rising t p q (sym r)))

      by_size : (a : Bool) → eqb M S ≡ a → (b : Bool) → leb M 16 ≡ b → Decision t
      by_size false p b q = sizes (λ e. absurd (eqb-false M S p e)) (sym (sizes-differ t (eqb-false M S p)))
      by_size true p false q = sizes (λ e. leb-false M 16 q) (sym (sizes-large t (eqb-true M S p) (leb-false M 16 q)))
      by_size true p true q = by_order (eqb-true M S p) (leb-true M 16 q) (rises_to M) refl

-- ---- a table that is taken
is_true : (b : Bool) → b ≡ true → T b
is_true b e = subst T (sym e) tt

module _ (t : AnnouncedRows) (rows : List Row) (e : table_of t ≡ answer rows) where
  abbrev k : Taken t rows
  k = when_taken t rows e

  pub table-rises : T (rising (starts rows))
  table-rises = subst (λ (l : List Row). T (rising (starts l))) (sym k.all) (is_true _ k.in_order)

  pub lengths : (length rows ≡ fixed_rows + t.months_size) × (length rows ≤ most_rows)
  lengths =
      let l = ap length k.all ∙ table-length t (announced_size t) ∙ ap (λ (n : ℕ). fixed_rows + n) (all-count t k.one_size k.most) in
      (l, omega (arith, l, k.most))

  -- the seconds of announced row i, counted from 0, are within i + 1 of the last fixed row's
  pub announced_seconds_near : (i : ℕ) → i < t.months_size → (last_seconds ≤ seconds_at t i + suc i) × (seconds_at t i ≤ last_seconds + suc i)
  announced_seconds_near i h =
      let s = ap (λ (n : ℕ). by_seconds (rows_to t n)) (sym (all-count t k.one_size k.most)) ∙ k.by_ones in
      near_last t (suc i) (holds_at t.months_size s (suc i) h)
    where
      holds_at : (m : ℕ) → by_seconds (rows_to t m) ≡ true → (j : ℕ) → j ≤ m → by_seconds (rows_to t j) ≡ true
      holds_at m s j g = go (ltb j m) refl
        where
          same : (a b : ℕ) → ltb a b ≡ false → a ≤ b → b ≡ a
          same a b p q = omega (arith, ltb-false a b p)

          go : (b : Bool) → ltb j m ≡ b → by_seconds (rows_to t j) ≡ true
          go true p = (all_hold (λ n. by_seconds (rows_to t n)) (λ n. one_apart (seconds_before t n) (seconds_at t n)) (steps-more t) m s j (ltb-true j m p)).0
          go false p = subst (λ (n : ℕ). by_seconds (rows_to t n) ≡ true) (same j m p g) s

-- ---- places past the size are not read
module _ (t u : AnnouncedRows) where
  same_rows : (n : ℕ) → ((i : ℕ) → i < n → (get_or t.months i (pos 0) ≡ get_or u.months i (pos 0))
      × (get_or t.seconds i (pos 0) ≡ get_or u.seconds i (pos 0))) → rows_to t n ≡ rows_to u n
  unfolding rows_to
  same_rows zero h = refl
  same_rows (suc n) h =
      let (p, q) = h n (omega arith) in
      (λ i. same_rows n (λ j g. h j (omega arith)) i ++ (record { month = natural (p i); units = 10000000 * natural (q i); start = 0; rate = 0 } ∷ []))

  pub spare-unread : t.months_size ≡ u.months_size → t.seconds_size ≡ u.seconds_size
      → ((i : ℕ) → i < announced_size t → (get_or t.months i (pos 0) ≡ get_or u.months i (pos 0))
      × (get_or t.seconds i (pos 0) ≡ get_or u.seconds i (pos 0))) → table_of t ≡ table_of u
  unfolding table_of announced_size
  spare-unread p q h =
      let r : rows_of t ≡ rows_of u = same_rows (announced_size t) h ∙ (λ i. rows_to u (sized i)) in
      (λ i. cond (eqb (p i) (q i) && leb (p i) 16) (cond (rising (starts (r i))) (cond (by_seconds (r i)) (answer (r i)) (refusal 22)) (refusal 21))
      (refusal 20))
    where
      sized : announced_size t ≡ announced_size u
      sized = λ i. least (least (p i) (q i)) 16
