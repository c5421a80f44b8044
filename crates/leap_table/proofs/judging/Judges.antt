-- A date by itself and after another, as the code tests them; and the dates of a list one after the other. Assumes nothing.
use Rattle.std.proofs.Common.{◌≡◌, ℕ, zero, suc, ◌+◌, ◌-◌, ◌<◌, ◌≤◌, Bool, true, false, cond, List, [], ◌∷◌, length, ℤ, pos, negsuc, nat_abs, sym, refl}
use Rattle.std.proofs.Common.{ap, ◌∙◌, add-one, arith, ltb-false, le-ltb, leb-true}
use lib.Signed.{lt_z, le_z}
use Rattle.refusals.specs.declared.Refusal.TheVariants as R
use Rattle.refusals.specs.Refusal.{refusal_number}
use Rattle.refusals.proofs.Handed.{outcome_answer, outcome_refusal, handed_on}
use Rattle.refusals.proofs.Onward.{went, stopped}
use Rattle.refusals.specs.Outcome.{Outcome, answer, refusal, onward}
use Rattle.calendar.specs.Calendar.{leap_year, lengths, days_in_month}
use Rattle.calendar.specs.Refusals.{valid_date}
use Rattle.calendar.proofs.Months.{months}
use Rattle.calendar.proofs.Signs.{at_least_one}
use Rattle.calendar.proofs.Accepted.{date-accepted, month-days}
use Rattle.leap_table.specs.declared.judging.Triple.{Triple}
use Rattle.leap_table.specs.judging.Judging.{triple, earlier, valid_triple, judged_next, judged_after, judged_all}
use Rattle.leap_table.specs.judging.Lists.{dates_from}
use Rattle.std.proofs.Common.{◌||◌, to_z-of_z, w32, SFits, to_z, of_z}
use Rattle.leap_table.specs.rows.Announced.{unless_refused}

-- ---- a day that every month has
twenty_eight : (b : Bool) (m : ℕ) → 1 ≤ m → m ≤ 12 → 28 ≤ lengths b m
unfolding lengths
twenty_eight true = months (λ m. 28 ≤ lengths true m) (omega arith) (omega arith) (omega arith) (omega arith) (omega arith) (omega arith) (omega arith)
    (omega arith) (omega arith) (omega arith) (omega arith) (omega arith)
twenty_eight false = months (λ m. 28 ≤ lengths false m) (omega arith) (omega arith) (omega arith) (omega arith) (omega arith) (omega arith) (omega arith)
    (omega arith) (omega arith) (omega arith) (omega arith) (omega arith)

month-at-most : (m : ℤ) → lt_z m (pos 1) ≡ false → lt_z (pos 12) m ≡ false → nat_abs m ≤ 12
month-at-most (pos n) p q = ltb-false 12 n q
month-at-most (negsuc n) p q = let z : ◌≡◌ {A = ℕ} 0 1 = cc in absurd (omega arith)

day-at-most : (d : ℤ) (k : ℕ) → lt_z d (pos 1) ≡ false → le_z d (pos 28) ≡ true → 28 ≤ k → lt_z (pos k) d ≡ false
day-at-most (pos n) k p q h = le-ltb k n (omega (arith, leb-true n 28 q))
day-at-most (negsuc n) k p q h = refl

pub every_month : (t : Triple) → lt_z t.year (negsuc 4798) ≡ false → lt_z t.month (pos 1) ≡ false → lt_z (pos 12) t.month ≡ false
    → lt_z t.day (pos 1) ≡ false → le_z t.day (pos 28) ≡ true → valid_triple t ≡ answer tt
unfolding valid_date
every_month t p q r s u =
    let m = nat_abs t.month in
    let h : 28 ≤ days_in_month t.year t.month =
    rw (month-days t.year t.month q) (twenty_eight (leap_year t.year) m (at_least_one t.month q).1 (month-at-most t.month q r)) in
    rw (p, q, r, s, day-at-most t.day (days_in_month t.year t.month) s u h)

-- ---- what a date after another is judged by
pub out_of_order : refusal_number R.OutOfOrder ≡ 17
unfolding refusal_number
out_of_order = refl

pub ruleset judged = (outcome_answer, outcome_refusal, handed_on, went, stopped, out_of_order)

-- ---- dates one after the other
abbrev pub first_date : Triple
first_date = triple (negsuc 4798) (pos 1) (pos 1)

-- no good date is earlier than the first
not_earlier : (t : Triple) → valid_triple t ≡ answer tt → earlier t first_date ≡ false
unfolding earlier
not_earlier t e =
    let a = date-accepted t.year t.month t.day e in
    rw (a.year, a.m-sign, a.d_sign) (both (lt_z (negsuc 4798) t.year) (lt_z (pos 1) t.month))
  where
    both : (b c : Bool) → cond b false (cond c false false) ≡ false
    both true c = refl
    both false true = refl
    both false false = refl

pub first-judged : (t : Triple) → valid_triple t ≡ judged_next first_date t
unfolding judged_next onward
first-judged t = go (valid_triple t) refl
  where
    go : (o : Outcome Unit) → valid_triple t ≡ o → o ≡ onward o (λ _. cond (earlier t first_date) (refusal 17) (answer tt))
    go (answer tt) e = sym (ap (λ (x : Bool). cond x (refusal 17) (answer tt)) (not_earlier t e))
    go (refusal k) e = refl

pub first-of-all : (dates : List Triple) → judged_all dates ≡ judged_after first_date dates
unfolding judged_all judged_after
first-of-all [] = refl
first-of-all (t ∷ dates) = ap (λ (o : Outcome Unit). onward o (λ _. judged_after t dates)) (first-judged t)

pub how_many : (f : ℕ → Triple) (k i : ℕ) → length (dates_from f i k) ≡ k
unfolding dates_from
how_many f zero i = refl
how_many f (suc k) i = ap suc (how_many f k (suc i))

module _ (f : ℕ → Triple) (n i : ℕ) where
  pub next-date : i < n → dates_from f i (n - i) ≡ f i ∷ dates_from f (i + 1) (n - (i + 1))
  unfolding dates_from
  next-date h =
      let e : n - i ≡ suc (n - (i + 1)) = omega arith in
      ap (dates_from f i) e ∙ ap (λ (k : ℕ). f i ∷ dates_from f k (n - (i + 1))) (sym (add-one i))

  pub all-dates : dates_from f 0 n ≡ dates_from f 0 (n - 0)
  all-dates = ap (dates_from f 0) (omega arith)

  pub no_date : n ≤ i → dates_from f i (n - i) ≡ []
  unfolding dates_from
  no_date h =
      let e : n - i ≡ 0 = omega arith in
      ap (dates_from f i) e

  module _ (before : Triple) where
    after_next : i < n → judged_after before (dates_from f i (n - i)) ≡ onward (judged_next before (f i))
        (λ _. judged_after (f i) (dates_from f (i + 1) (n - (i + 1))))
    unfolding judged_after
    after_next h = ap (judged_after before) (next-date h)

    pub judging_stops : (t : Triple) (k : ℕ) → i < n → t ≡ f i → refusal k ≡ judged_next before t → refusal k ≡ judged_after before (dates_from f i (n - i))
    unfolding onward
    judging_stops t k h e p =
        ap (λ (o : Outcome Unit). onward o (λ _. judged_after (f i) (dates_from f (i + 1) (n - (i + 1))))) (p ∙ ap (judged_next before) e)
        ∙ sym (after_next h)

    pub judging_goes : (t : Triple) → i < n → t ≡ f i → answer tt ≡ judged_next before t
        → judged_after before (dates_from f i (n - i)) ≡ judged_after t (dates_from f (i + 1) (n - (i + 1)))
    unfolding onward
    judging_goes t h e p =
        after_next h
        ∙ ap (λ (o : Outcome Unit). onward o (λ _. judged_after (f i) (dates_from f (i + 1) (n - (i + 1))))) (sym (p ∙ ap (judged_next before) e))
        ∙ ap (λ (x : Triple). judged_after x (dates_from f (i + 1) (n - (i + 1)))) (sym e)

    pub judging_starts : judged_all (dates_from f 0 n) ≡ judged_after first_date (dates_from f 0 (n - 0))
    judging_starts = first-of-all (dates_from f 0 n) ∙ ap (judged_after first_date) all-dates

    pub judging_ends : n ≤ i → answer tt ≡ judged_after before (dates_from f i (n - i))
    unfolding judged_after
    judging_ends h = sym (ap (judged_after before) (no_date h))

-- ---- a test of two numbers as the machine reads them back from their bits, and the order of two dates by their years, months and days in turn
pub lt_read : (x y : ℤ) (t : Bool) → SFits w32 x → SFits w32 y → lt_z (to_z w32 (of_z w32 x)) (to_z w32 (of_z w32 y)) ≡ t → lt_z x y ≡ t
lt_read x y t f g e = sym (λ i. lt_z (to_z-of_z f i) (to_z-of_z g i)) ∙ e

module _ (a b : Triple) where
  pub year-earlier : lt_z a.year b.year ≡ true → true ≡ earlier a b
  unfolding earlier
  year-earlier p = rw p

  module _ (p : lt_z a.year b.year ≡ false) where
    pub year-later : lt_z b.year a.year ≡ true → false ≡ earlier a b
    unfolding earlier
    year-later q = rw (p, q)

    module _ (q : lt_z b.year a.year ≡ false) where
      pub month-earlier : lt_z a.month b.month ≡ true → true ≡ earlier a b
      unfolding earlier
      month-earlier r = rw (p, q, r)

      module _ (r : lt_z a.month b.month ≡ false) where
        pub month-later : lt_z b.month a.month ≡ true → false ≡ earlier a b
        unfolding earlier
        month-later s = rw (p, q, r, s)

        pub by_day : lt_z b.month a.month ≡ false → (t : Bool) → lt_z a.day b.day ≡ t → t ≡ earlier a b
        unfolding earlier
        by_day s t u = rw (p, q, r, s) (sym u)

-- ---- the same by numbers, 0 for what is not refused: a date's own number is not 0, and a date after another is refused by its own or by the order
is_number : (a b c : Bool) (k : ℕ) → ◌≡◌ {A = Outcome Unit} (cond a (refusal 1) (cond b (refusal 2) (cond c (refusal 3) (answer tt)))) (refusal k)
    → ◌≡◌ {A = Outcome Unit} (unless_refused k tt) (refusal k)
is_number true b c zero e = let z : ◌≡◌ {A = ℕ} 0 1 = cc in absurd (omega arith)
is_number false true c zero e = let z : ◌≡◌ {A = ℕ} 0 2 = cc in absurd (omega arith)
is_number false false true zero e = let z : ◌≡◌ {A = ℕ} 0 3 = cc in absurd (omega arith)
is_number false false false zero e = let z : ◌≡◌ {A = ℕ} 0 1 = cc in absurd (omega arith)
is_number a b c (suc k) e = refl

pub own-number : (y m d : ℤ) (k : ℕ) → valid_date y m d ≡ refusal k → unless_refused k tt ≡ valid_date y m d
unfolding valid_date
own-number y m d k e = is_number (lt_z y (negsuc 4798)) (lt_z m (pos 1) || lt_z (pos 12) m) (lt_z d (pos 1) || lt_z (pos (days_in_month y m)) d) k e ∙ sym e

module _ (before t : Triple) where
  pub judged-bad : (k : ℕ) → unless_refused k tt ≡ valid_triple t → (k ≡ 0 → ⊥) → unless_refused k tt ≡ judged_next before t
  unfolding judged_next onward
  judged-bad zero e h = absurd (h refl)
  judged-bad (suc k) e h = ap (λ (o : Outcome Unit). onward o (λ _. cond (earlier t before) (refusal 17) (answer tt))) e

  pub judged-order : (k : ℕ) → unless_refused k tt ≡ valid_triple t → k ≡ 0 → (b : Bool) → b ≡ earlier t before
      → cond b (refusal 17) (answer tt) ≡ judged_next before t
  unfolding judged_next onward
  judged-order k e h b p =
      ap (λ (x : Bool). cond x (refusal 17) (answer tt)) p
      ∙ ap (λ (o : Outcome Unit). onward o (λ _. cond (earlier t before) (refusal 17) (answer tt))) (ap (λ (x : ℕ). unless_refused x tt) (sym h) ∙ e)

module _ (f : ℕ → Triple) (n i : ℕ) (before : Triple) where
  pub stops_by_number : (t : Triple) (k : ℕ) → i < n → t ≡ f i → unless_refused k tt ≡ judged_next before t → (k ≡ 0 → ⊥)
      → unless_refused k tt ≡ judged_after before (dates_from f i (n - i))
  stops_by_number t zero h e p z = absurd (z refl)
  stops_by_number t (suc k) h e p z = judging_stops f n i before t (suc k) h e p

  pub goes_by_number : (t : Triple) (k : ℕ) → i < n → t ≡ f i → unless_refused k tt ≡ judged_next before t → k ≡ 0
      → judged_after before (dates_from f i (n - i)) ≡ judged_after t (dates_from f (i + 1) (n - (i + 1)))
  goes_by_number t k h e p z = judging_goes f n i before t h e (sym (ap (λ (x : ℕ). unless_refused x tt) z) ∙ p)
