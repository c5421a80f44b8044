-- Dates that nothing is refused of are each good, and each has a month that is not before the month of the one before it. Assumes nothing.
use Rattle.std.proofs.Common.{◌≡◌, ℕ, zero, suc, ◌+◌, ◌-◌, ◌*◌, ◌<◌, ◌≤◌, Bool, true, false, cond, ℤ, pos, negsuc, nat_abs, sym, refl, ◌∙◌, subst, le_refl}
use Rattle.std.proofs.Common.{arith, ltb-false, le-ltb}
use native.Mathlib.Decide.{dec_lt}
use lib.Signed.{lt_z}
use Rattle.refusals.specs.Outcome.{Outcome, answer, refusal}
use Rattle.refusals.proofs.Onward.{came}
use Rattle.calendar.proofs.Accepted.{date-accepted}
use Rattle.leap_table.specs.rows.Table.{month_number}
use Rattle.leap_table.specs.declared.judging.Triple.{Triple}
use Rattle.leap_table.specs.judging.Judging.{earlier, valid_triple, judged_next, judged_after, judged_all}
use Rattle.leap_table.specs.walk.Walk.{month_in}
use Rattle.leap_table.specs.judging.Lists.{dates_from}
use Rattle.leap_table.specs.walk.Asked.{GoodDates}
use Rattle.leap_table.proofs.judging.Judges.{first_date, first-of-all}

-- ---- the order of two dates, and of their months
pub record NotEarlier (a b : Triple) : Type 0 where
  pub year : lt_z a.year b.year ≡ false
  pub month : lt_z b.year a.year ≡ false → lt_z a.month b.month ≡ false

not_earlier : (a b : Triple) → earlier a b ≡ false → NotEarlier a b
unfolding earlier
not_earlier a b e = go (lt_z a.year b.year) refl (lt_z b.year a.year) refl (lt_z a.month b.month) refl e
  where
    go : (p : Bool) → lt_z a.year b.year ≡ p → (q : Bool) → lt_z b.year a.year ≡ q → (r : Bool) → lt_z a.month b.month ≡ r
        → cond p true (cond q false (cond r true (cond (lt_z b.month a.month) false (lt_z a.day b.day)))) ≡ false → NotEarlier a b
    go true u q v r w z = let y : ◌≡◌ {A = ℕ} 0 1 = cc in absurd (omega arith)
    go false u true v r w z = record { year = u; month = λ h. let y : ◌≡◌ {A = ℕ} 0 1 = cc in absurd (omega arith) }
    go false u false v true w z = let y : ◌≡◌ {A = ℕ} 0 1 = cc in absurd (omega arith)
    go false u false v false w z = record { year = u; month = λ h. w }

months_rise : (y y' : ℤ) (m m' : ℕ) → 1 ≤ m → m ≤ 12 → 1 ≤ m' → m' ≤ 12 → lt_z y y' ≡ false → (lt_z y' y ≡ false → m' ≤ m)
    → month_number y' m' ≤ month_number y m
unfolding month_number
months_rise (pos a) (pos b) m m' l h l' h' p q = go (dec_lt b a)
  where
    go : Dec (b < a) → 12 * b + m' - 1 ≤ 12 * a + m - 1
    go (yes w) = omega arith
    go (no w) = omega (arith, q (le-ltb b a (omega arith)), ltb-false a b p)
months_rise (pos a) (negsuc b) m m' l h l' h' p q = omega arith
months_rise (negsuc a) (pos b) m m' l h l' h' p q = let y : ◌≡◌ {A = ℕ} 0 1 = cc in absurd (omega arith)
months_rise (negsuc a) (negsuc b) m m' l h l' h' p q = le_refl 0

month-order : (m m' : ℤ) → lt_z m (pos 1) ≡ false → lt_z m' (pos 1) ≡ false → lt_z m m' ≡ false → nat_abs m' ≤ nat_abs m
month-order (pos a) (pos b) p q r = ltb-false a b r
month-order (negsuc a) m' p q r = let y : ◌≡◌ {A = ℕ} 0 1 = cc in absurd (omega arith)
month-order (pos a) (negsuc b) p q r = let y : ◌≡◌ {A = ℕ} 0 1 = cc in absurd (omega arith)

pub in_order : (a b : Triple) → valid_triple a ≡ answer tt → valid_triple b ≡ answer tt → earlier a b ≡ false → month_in b ≤ month_in a
in_order a b p q e =
    let x = date-accepted a.year a.month a.day p in
    let y = date-accepted b.year b.month b.day q in
    let z = not_earlier a b e in
    months_rise a.year b.year (nat_abs a.month) (nat_abs b.month) x.m_low x.m_high y.m_low y.m_high z.year
    (λ h. month-order a.month b.month x.m-sign y.m-sign (z.month h))

-- ---- a date after another that is not refused
next-good : (b t : Triple) → judged_next b t ≡ answer tt → (valid_triple t ≡ answer tt) × (earlier t b ≡ false)
unfolding judged_next
next-good b t e = let (x, p, q) = came (valid_triple t) (λ _. cond (earlier t b) (refusal 17) (answer tt)) tt e in (p, go (earlier t b) q)
  where
    go : (c : Bool) → ◌≡◌ {A = Outcome Unit} (cond c (refusal 17) (answer tt)) (answer tt) → c ≡ false
    go true z = let y : ◌≡◌ {A = ℕ} 0 1 = cc in absurd (omega arith)
    go false z = refl

-- ---- all of them
module _ (f : ℕ → Triple) where
  record From (b : Triple) (i k : ℕ) : Type 0 where
    good : (j : ℕ) → i ≤ j → j < i + k → valid_triple (f j) ≡ answer tt
    start : 0 < k → earlier (f i) b ≡ false
    order : (j : ℕ) → i ≤ j → suc j < i + k → earlier (f (suc j)) (f j) ≡ false

  from : (k i : ℕ) (b : Triple) → judged_after b (dates_from f i k) ≡ answer tt → From b i k
  unfolding judged_after dates_from
  from zero i b e = record { good = λ j p q. absurd (omega arith); start = λ h. absurd (omega arith); order = λ j p q. absurd (omega arith) }
  from (suc k) i b e =
      let (x, p, q) = came (judged_next b (f i)) (λ _. judged_after (f i) (dates_from f (suc i) k)) tt e in
      let g = next-good b (f i) p in
      let r = from k (suc i) (f i) q in
      record {
        good = λ j a c. one j a c (dec_lt i j) g.0 r;
        start = λ h. g.1;
        order = λ j a c. two j a c (dec_lt i j) r;
      }
    where
      one : (j : ℕ) → i ≤ j → j < i + suc k → Dec (i < j) → valid_triple (f i) ≡ answer tt → From (f i) (suc i) k → valid_triple (f j) ≡ answer tt
      one j a c (yes w) g r = r.good j (omega arith) (omega arith)
      one j a c (no w) g r =
          let e : i ≡ j = omega arith in
          subst (λ (x : ℕ). valid_triple (f x) ≡ answer tt) e g

      two : (j : ℕ) → i ≤ j → suc j < i + suc k → Dec (i < j) → From (f i) (suc i) k → earlier (f (suc j)) (f j) ≡ false
      two j a c (yes w) r = r.order j (omega arith) (omega arith)
      two j a c (no w) r =
          let e : i ≡ j = omega arith in
          subst (λ (x : ℕ). earlier (f (suc x)) (f x) ≡ false) e (r.start (omega arith))

  pub all-good : (n : ℕ) → judged_all (dates_from f 0 n) ≡ answer tt → GoodDates f n
  all-good n e =
      let r = from n 0 first_date (sym (first-of-all (dates_from f 0 n)) ∙ e) in
      record {
        good = λ i h. r.good i (omega arith) (omega arith);
        rise = λ i h. in_order (f (suc i)) (f i) (r.good (suc i) (omega arith) (omega arith)) (r.good i (omega arith) (omega arith))
            (r.order i (omega arith) (omega arith));
      }
