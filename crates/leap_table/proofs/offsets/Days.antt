-- The offsets of a day: refused exactly where there is no next date, with the same number, and else those of the day's month, of the next date's month, and of
-- the two Modified Julian Dates n and n + 1. Assumes nothing.
use Rattle.std.proofs.Common.{◌≡◌, ℕ, Bool, true, false, cond, ◌⊎◌, List, ℤ, pos, nat_abs, sym, refl, ap, ◌∙◌, inl, inr, arith}
use lib.IntN.{suc_ℤ}
use lib.Ieee.{Float}
use Rattle.refusals.specs.Outcome.{Outcome, answer, refusal, onward}
use Rattle.floats.specs.Whole.{nought, half}
use Rattle.calendar.specs.Calendar.{date, next}
use Rattle.calendar.specs.Refusals.{valid_date, last_date, next_of}
use Rattle.calendar.specs.DayCount.{mjd_number, mjd_of}
use Rattle.calendar.specs.declared.CalendarDate.{CalendarDate}
use Rattle.calendar.proofs.Mjd.{mjd-refused, mjd-given}
use Rattle.calendar.proofs.NextDates.{refused-next, next-mjd}
use Rattle.leap_table.specs.declared.offsets.DayOffsets.{DayOffsets}
use Rattle.leap_table.specs.rows.Table.{Row, month_number}
use Rattle.leap_table.specs.offsets.Leap.{offsets_of_day, day_offsets, leap_of, leap_at_end_of_day}
use Rattle.leap_table.proofs.offsets.Offsets.{in_day_zero, in_day_half, date_refused, offset-given}

module _ (rows : List Row) (y m d : ℤ) where
  pub day-refused : (k : ℕ) → mjd_of y m d ≡ refusal k → day_offsets rows y m d ≡ refusal k
  unfolding day_offsets onward
  day-refused k e = rw (date_refused rows y m d nought in_day_zero k e)

  module _ (n : ℤ) (e : mjd_of y m d ≡ answer n) where
    pub no_next_day : (k : ℕ) → next_of y m d ≡ refusal k → day_offsets rows y m d ≡ refusal k
    unfolding day_offsets onward
    no_next_day k p = rw (offset-given rows y m d nought in_day_zero n e, offset-given rows y m d half in_day_half n e, p)

    pub day-given : (t : CalendarDate) → next_of y m d ≡ answer t
        → day_offsets rows y m d ≡ answer (offsets_of_day rows (month_number y (nat_abs m)) (month_number t.year t.month) n)
    unfolding day_offsets offsets_of_day onward
    day-given t p =
        rw (
          offset-given rows y m d nought in_day_zero n e,
          offset-given rows y m d half in_day_half n e,
          p,
          offset-given rows t.year (pos t.month) (pos t.day) nought in_day_zero (suc_ℤ n) (next-mjd y m d t p n e),
        )

-- ---- REFUSED exactly where there is no next date, with the next date's number: the date's own, 1 to 3, or 5
module _ (rows : List Row) (y m d : ℤ) where
  pub day-offsets-are : day_offsets rows y m d ≡ onward (next_of y m d)
      (λ t. answer (offsets_of_day rows (month_number y (nat_abs m)) (month_number t.year t.month) (mjd_number y m d)))
  unfolding onward
  day-offsets-are = go (valid_date y m d) refl (next_of y m d) refl
    where
      go : (v : Outcome Unit) → valid_date y m d ≡ v → (w : Outcome CalendarDate) → next_of y m d ≡ w
          → day_offsets rows y m d ≡ onward w (λ t. answer (offsets_of_day rows (month_number y (nat_abs m)) (month_number t.year t.month) (mjd_number y m d)))
      go (refusal k) p w q = day-refused rows y m d k (mjd-refused y m d k p)
          ∙ ap (λ (o : Outcome CalendarDate). onward o
          (λ t. answer (offsets_of_day rows (month_number y (nat_abs m)) (month_number t.year t.month) (mjd_number y m d)))) (sym (refused-next y m d k p) ∙ q)
      go (answer x) p (refusal k) q = no_next_day rows y m d (mjd_number y m d) (mjd-given y m d p) k q
      go (answer x) p (answer t) q = day-given rows y m d (mjd_number y m d) (mjd-given y m d p) t q

  pub day-refusals : (k : ℕ) → day_offsets rows y m d ≡ refusal k → (valid_date y m d ≡ refusal k) ⊎ ((valid_date y m d ≡ answer tt) × (k ≡ 5))
  unfolding next_of onward
  day-refusals k e = go (valid_date y m d) refl (last_date y (nat_abs m) (nat_abs d)) (next (date y (nat_abs m) (nat_abs d))) (sym day-offsets-are ∙ e)
    where
      go : (v : Outcome Unit) → valid_date y m d ≡ v → (b : Bool) (u : CalendarDate)
          → onward (onward v (λ _. cond b (refusal 5) (answer u)))
          (λ t. answer (offsets_of_day rows (month_number y (nat_abs m)) (month_number t.year t.month) (mjd_number y m d))) ≡ refusal k
          → (valid_date y m d ≡ refusal k) ⊎ ((valid_date y m d ≡ answer tt) × (k ≡ 5))
      go (refusal j) p b u q = inl (p ∙ cc)
      go (answer x) p true u q = inr (p, cc)
      go (answer x) p false u q = let z : ◌≡◌ {A = ℕ} 0 1 = cc in absurd (omega arith)

  -- the leap of a day that has a next one, and a leap that is given comes from such a day
  pub leap-given : (t : CalendarDate) → next_of y m d ≡ answer t
      → leap_at_end_of_day rows y m d ≡ answer (leap_of (offsets_of_day rows (month_number y (nat_abs m)) (month_number t.year t.month) (mjd_number y m d)))
  unfolding leap_at_end_of_day onward
  leap-given t p = rw (day-offsets-are, p)

  pub leap-came : (x : Float) → leap_at_end_of_day rows y m d ≡ answer x → (t : CalendarDate) × (next_of y m d ≡ answer t)
      × (x ≡ leap_of (offsets_of_day rows (month_number y (nat_abs m)) (month_number t.year t.month) (mjd_number y m d)))
  unfolding leap_at_end_of_day onward
  leap-came x e = go (next_of y m d) refl (sym (ap (λ (o : Outcome DayOffsets). onward o (λ p. answer (leap_of p))) day-offsets-are) ∙ e)
    where
      go : (w : Outcome CalendarDate) → next_of y m d ≡ w
          → onward (onward w (λ t. answer (offsets_of_day rows (month_number y (nat_abs m)) (month_number t.year t.month) (mjd_number y m d))))
          (λ o. answer (leap_of o)) ≡ answer x → (t : CalendarDate) × (next_of y m d ≡ answer t)
          × (x ≡ leap_of (offsets_of_day rows (month_number y (nat_abs m)) (month_number t.year t.month) (mjd_number y m d)))
      go (answer t) p q = (t, p, cc)
      go (refusal k) p q = let z : ◌≡◌ {A = ℕ} 0 1 = cc in absurd (omega arith)
