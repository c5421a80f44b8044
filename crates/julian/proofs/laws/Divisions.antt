-- The date of a day number by the Rust's divisions, which a check computes at once. The calendar's definition counts day by day, 2.6 million days to the year
-- 2000. Assumes nothing.
use mathlib.Core.Path.{◌≡◌, refl, ap, sym, ◌∙◌}
use mathlib.Core.Bool.{Bool, true, false, cond}
use Prim.Native.Nat.{ℕ, ◌+◌, ◌-◌, ◌*◌, ◌/◌}
use native.Mathlib.Omega.{arith}
use lib.IntN.{ℤ, pos, negsuc, nat_abs, sub_ℕ, ◌+ℤ◌}
use lib.Signed.{lt_z}
use Rattle.calendar.specs.declared.CalendarDate.{CalendarDate}
use Rattle.calendar.specs.Calendar.{date, date_of}
use Rattle.calendar.specs.Gregorian.{gregorian_date}
use Rattle.calendar.proofs.Signs.{raised, own-size}
use Rattle.calendar.proofs.Divisions.{century_start}
use Rattle.calendar.proofs.Gregorian.{divisions_give_date, shifted_day_is}

-- the date of day l - 68569
abbrev pub divided : ℕ → CalendarDate
divided l =
    let n = 4 * l / 146097 in
    let a = l - century_start n in
    let i = 4000 * (a + 1) / 1461001 in
    let b = a + 31 - 1461 * i / 4 in
    let k = 80 * b / 2447 in
    date (sub_ℕ (100 * n + i + k / 11) 4900) (k + 2 - 12 * (k / 11)) (b - 2447 * k / 80)

unfoldable pub divided_date : ℤ → CalendarDate
divided_date n =
    cond (lt_z n (negsuc 68568)) (date (negsuc 4899) 2 30)
    (cond (lt_z (pos 1000000000) n) (divided 1000068569) (divided (nat_abs (n +ℤ pos 68569))))

of_day : (n : ℤ) (l : ℕ) → pos l ≡ n +ℤ pos 68569 → date_of n ≡ divided l
of_day n l e =
    let a = l - century_start (4 * l / 146097) in
    let i = 4000 * (a + 1) / 1461001 in
    let b = a + 31 - 1461 * i / 4 in
    shifted_day_is n l e ∙ sym (divisions_give_date l (4 * l / 146097) a i b (80 * b / 2447) refl refl refl refl refl)

days-after : (n : ℤ) → lt_z n (negsuc 68568) ≡ false → pos (nat_abs (n +ℤ pos 68569)) ≡ n +ℤ pos 68569
days-after n h =
    let r = raised n 68568 68569 (nat_abs n) (omega arith) h (own-size n) in
    ap pos (ap nat_abs r.is) ∙ sym r.is

pub divided-date : (n : ℤ) → gregorian_date n ≡ divided_date n
unfolding gregorian_date divided_date
divided-date n = go (lt_z n (negsuc 68568)) refl (lt_z (pos 1000000000) n) refl
  where
    go : (a : Bool) → lt_z n (negsuc 68568) ≡ a → (b : Bool) → lt_z (pos 1000000000) n ≡ b
        → cond a (date (negsuc 4899) 2 30) (cond b (date_of (pos 1000000000)) (date_of n))
        ≡ cond a (date (negsuc 4899) 2 30) (cond b (divided 1000068569) (divided (nat_abs (n +ℤ pos 68569))))
    go true p b q = refl
    go false p true q = of_day (pos 1000000000) 1000068569 refl
    go false p false q = of_day n (nat_abs (n +ℤ pos 68569)) (days-after n p)
