-- A line of the grammar is read as what it says. Assumes nothing.
use Prim.Native.Nat.{ℕ, zero, suc, ◌+◌, ◌-◌, ◌*◌, ◌/◌, ◌%◌, ◌≤◌, ◌<◌}
use native.Mathlib.Omega.{arith}
use mathlib.Core.Path.{◌≡◌, refl, sym, ap, ◌∙◌}
use mathlib.Core.List.{List, [], ◌∷◌, ◌++◌}
use mathlib.Core.Bool.{Bool, true, false, and-false}
use lib.ListN.{length, drop, get_or}
use lib.Seq.{drop-append_seam}
use borrow.Author.Tests.{eq-eqb, ne_eqb, le-leb, lt-ltb}
use Rattle.numerals.specs.digits.Decimal.{number, is_digit, AllDigits, Digits}
use Rattle.numerals.proofs.digits.Decimal.{digit_bounds, digit_within}
use Rattle.calendar.specs.Calendar.{leap_year, lengths}
use Rattle.calendar.proofs.Months.{months}
use lib.IntN.{pos}
use Rattle.std.specs.Prelude.{Some}
use Rattle.leap_lists.specs.declared.lines.Line.{Line}
use Rattle.leap_lists.specs.declared.lines.Line.TheVariants as K
use Rattle.leap_lists.specs.lines.Scan.{line_blank, behind_blanks, first_digits, ended, number_then, last_number}
use Rattle.leap_lists.specs.lines.Months.{first_month, all_months, month_days, month_after, month_from, days_from}
use Rattle.leap_lists.specs.lines.Lines.{row_by, row_with, month_row, row_from, ntp_row, row_behind, row_of, expiry_of, line_from, line_says}
use Rattle.leap_lists.specs.Grammar.{OnlyBlanks, Comment, none, some, LineEnd, Says, nothing, month, ntp, expiry}
use Rattle.leap_lists.proofs.lines.Runs.{none_first, none_left}
use Rattle.leap_lists.proofs.lines.Months.{here, onward}

-- ---- blanks and digits
digit_no_blank : (r : Bool) (c : ℕ) → 48 ≤ c → line_blank r c ≡ false
unfolding line_blank
digit_no_blank r c h =
    let a : c ≡ 32 → ⊥ = λ e. omega arith in
    let b : c ≡ 9 → ⊥ = λ e. omega arith in
    let d : c ≡ 13 → ⊥ = λ e. omega arith in
    rw (ne_eqb _ _ a, ne_eqb _ _ b, ne_eqb _ _ d) (simp and-false)

blank_no_digit : (r : Bool) (c : ℕ) → line_blank r c ≡ true → is_digit c ≡ false
blank_no_digit r c e = either (is_digit c) refl
  where
    either : (b : Bool) → is_digit c ≡ b → is_digit c ≡ false
    either true g = absurd
        (let p : line_blank r c ≡ false = digit_no_blank r c (digit_bounds c g).0 in let z : ◌≡◌ {A = ℕ} 0 1 = cc in let y : ⊥ = omega arith in y)
    either false g = g

blanks-gone : (r : Bool) (b x : List ℕ) → OnlyBlanks r b → behind_blanks r (b ++ x) ≡ behind_blanks r x
unfolding OnlyBlanks behind_blanks
blanks-gone r [] x h = refl
blanks-gone r (c ∷ b) x h = rw h.0 (blanks-gone r b x h.1)

digits-stay : (r : Bool) (d x : List ℕ) → AllDigits d → 1 ≤ length d → behind_blanks r (d ++ x) ≡ d ++ x
unfolding AllDigits behind_blanks
digits-stay r [] x h n = absurd (let no : ⊥ = omega arith in no)
digits-stay r (c ∷ d) x h n = rw (digit_no_blank r c h.0)

comment-stays : (c : List ℕ) → Comment c → behind_blanks true c ≡ c
unfolding behind_blanks line_blank
comment-stays _ none = refl
comment-stays _ (some cs) = refl

comment-ends : (c : List ℕ) → Comment c → ended c ≡ true
unfolding ended
comment-ends _ none = refl
comment-ends _ (some cs) = refl

-- digits in front of what does not go on with one
lead : (k : ℕ) (d x : List ℕ) → AllDigits d → length d ≤ k → ((j : ℕ) → first_digits j x ≡ []) → first_digits k (d ++ x) ≡ d
unfolding AllDigits first_digits
lead k [] x h n s = s k
lead zero (c ∷ d) x h n s = absurd (let no : ⊥ = omega arith in no)
lead (suc k) (c ∷ d) x h n s = rw (digit_within c h.0 h.1) (ap (λ (l : List ℕ). c ∷ l) (lead k d x h.2 (omega arith) s))

tail_stops : (a c : List ℕ) → OnlyBlanks true a → Comment c → (j : ℕ) → first_digits j (a ++ c) ≡ []
unfolding OnlyBlanks is_digit
tail_stops [] _ h none j = none_left j
tail_stops [] _ h (some cs) j = none_first j 35 cs refl
tail_stops (b ∷ a) c h m j = none_first j b (a ++ c) (blank_no_digit true b h.0)

gap-stops : (g x : List ℕ) → OnlyBlanks false g → 1 ≤ length g → (j : ℕ) → first_digits j (g ++ x) ≡ []
unfolding OnlyBlanks
gap-stops [] x h n j = absurd (let no : ⊥ = omega arith in no)
gap-stops (b ∷ g) x h n j = none_first j b (g ++ x) (blank_no_digit false b h.0)

gap-first : (g x : List ℕ) → OnlyBlanks false g → 1 ≤ length g → line_blank false (get_or (g ++ x) 0 0) ≡ true
unfolding OnlyBlanks
gap-first [] x h n = absurd (let no : ⊥ = omega arith in no)
gap-first (b ∷ g) x h n = h.0

-- ---- the number at the end
module _ (most : ℕ) (f e : List ℕ) (k : LineEnd most f e) where
  tail_ends : ended (behind_blanks true (k.after ++ k.comment)) ≡ true
  tail_ends = ap ended (blanks-gone true k.after k.comment k.after_blank ∙ comment-stays k.comment k.a_comment)
      ∙ comment-ends k.comment k.a_comment

  behind-gap : behind_blanks false e ≡ f ++ (k.after ++ k.comment)
  behind-gap =
      ap (behind_blanks false) k.is
      ∙ blanks-gone false k.gap (f ++ (k.after ++ k.comment)) k.gap_blank
      ∙ digits-stay false f (k.after ++ k.comment) k.all_digits k.some

  pub ending-stops : (j : ℕ) → first_digits j e ≡ []
  ending-stops j = ap (first_digits j) k.is ∙ gap-stops k.gap (f ++ (k.after ++ k.comment)) k.gap_blank k.gap_some j

  pub gap-there : line_blank false (get_or e 0 0) ≡ true
  gap-there = ap (λ (s : List ℕ). line_blank false (get_or s 0 0)) k.is ∙ gap-first k.gap _ k.gap_blank k.gap_some

  pub ending-read : last_number most e ≡ Some (number f)
  unfolding last_number number_then
  ending-read =
      let d : first_digits most (f ++ (k.after ++ k.comment)) ≡ f =
      lead most f (k.after ++ k.comment) k.all_digits k.few (tail_stops k.after k.comment k.after_blank k.a_comment) in
      let p : 0 < length f = omega (arith, k.some) in
      rw (gap-there, behind-gap, d, drop-append_seam f (k.after ++ k.comment), tail_ends, lt-ltb _ _ p)

-- ---- months from 1900
some-lengths : (b : Bool) (n : ℕ) → 1 ≤ n → n ≤ 12 → 1 ≤ lengths b n
unfolding lengths
some-lengths true = months (λ m. 1 ≤ lengths true m) (omega arith) (omega arith) (omega arith) (omega arith) (omega arith) (omega arith) (omega arith)
    (omega arith) (omega arith) (omega arith) (omega arith) (omega arith)
some-lengths false = months (λ m. 1 ≤ lengths false m) (omega arith) (omega arith) (omega arith) (omega arith) (omega arith) (omega arith) (omega arith)
    (omega arith) (omega arith) (omega arith) (omega arith) (omega arith)

some-days : (m : ℕ) → 1 ≤ month_days m
unfolding month_days
some-days m = some-lengths (leap_year (pos (m / 12))) (m % 12 + 1) (omega arith) (omega arith)

begins : (most k m : ℕ) → k < most → month_after most m (days_from m k) ≡ m + k
unfolding days_from
begins zero k m h = absurd (let no : ⊥ = omega arith in no)
begins (suc most) zero m h = here most m 0 refl ∙ (let z : m ≡ m + 0 = omega arith in z)
begins (suc most) (suc k) m h =
    let d = some-days m in
    let no : month_days m + days_from (m + 1) k ≡ 0 → ⊥ = λ e. omega arith in
    onward most m (month_days m + days_from (m + 1) k) no (omega arith)
    ∙ ap (month_after most (m + 1)) (let z : month_days m + days_from (m + 1) k - month_days m ≡ days_from (m + 1) k = omega arith in z)
    ∙ begins most k (m + 1) (omega arith)
    ∙ (let z : m + 1 + k ≡ m + suc k = omega arith in z)

pub month-begins : (k : ℕ) → k < all_months → month_from (days_from first_month k) ≡ first_month + k
unfolding month_from
month-begins k h = begins all_months k first_month h

-- ---- a line, by its kind
not_ended : (d x : List ℕ) → AllDigits d → 1 ≤ length d → line_from (d ++ x) ≡ row_of (d ++ x)
unfolding line_from ended AllDigits
not_ended [] x h n = absurd (let no : ⊥ = omega arith in no)
not_ended (c ∷ d) x h n = let low : 48 ≤ c = h.0 in let no : c ≡ 35 → ⊥ = λ e. omega arith in rw (ne_eqb _ _ no)

of_comment : (b c : List ℕ) → OnlyBlanks true b → Comment c → (get_or c 1 0 ≡ 64 → ⊥) → line_says (b ++ c) ≡ K.Blank
unfolding line_says line_from
of_comment b c h m n = rw (blanks-gone true b c h, comment-stays c m, comment-ends c m, ne_eqb _ _ n)

as_expiry : (x : List ℕ) → line_from (35 ∷ (64 ∷ x)) ≡ expiry_of x
unfolding line_from ended
as_expiry x = refl

expiry-by : (e : List ℕ) (n : ℕ) → last_number 12 e ≡ Some n → expiry_of e ≡ K.Expiry (n / 86400 + 15020)
unfolding expiry_of
expiry-by e n h = rw h

hyphen_stops : (j : ℕ) (x : List ℕ) → first_digits j (45 ∷ x) ≡ []
unfolding is_digit
hyphen_stops j x = none_first j 45 x refl

no_hyphen : (c : ℕ) → line_blank false c ≡ true → c ≡ 45 → ⊥
unfolding line_blank
no_hyphen c e h = let p : line_blank false 45 ≡ true = ap (line_blank false) (sym h) ∙ e in let z : ◌≡◌ {A = ℕ} 0 1 = cc in omega arith

of_expiry : (b e f : List ℕ) → OnlyBlanks true b → LineEnd 12 f e → line_says (b ++ (35 ∷ (64 ∷ e))) ≡ K.Expiry (number f / 86400 + 15020)
unfolding line_says
of_expiry b e f h k =
    ap line_from (blanks-gone true b (35 ∷ (64 ∷ e)) h ∙ comment-stays _ (some (64 ∷ e))) ∙ as_expiry e ∙ expiry-by e (number f) (ending-read 12 f e k)

of_month : (y m e f : List ℕ) → Digits 4 y → Digits 2 m → 1 ≤ number m → number m ≤ 12 → LineEnd 9 f e
    → row_of (y ++ (45 ∷ (m ++ e))) ≡ K.Row (12 * number y + number m - 1) (number f)
unfolding row_of row_behind month_row row_with
of_month y m e f dy dm low high k =
    let ly : first_digits 12 (y ++ (45 ∷ (m ++ e))) ≡ y = lead 12 y (45 ∷ (m ++ e)) dy.all (omega (arith, dy.many)) (λ j. hyphen_stops j (m ++ e)) in
    let lm : first_digits 2 (m ++ e) ≡ m = lead 2 m e dm.all (omega (arith, dm.many)) (ending-stops 9 f e k) in
    let dropped : drop (length y) (y ++ (45 ∷ (m ++ e))) ≡ 45 ∷ (m ++ e) = drop-append_seam y (45 ∷ (m ++ e)) in
    rw (ly, dropped, lm, eq-eqb _ _ dy.many, eq-eqb _ _ dm.many, le-leb _ _ low, le-leb _ _ high, drop-append_seam m e, ending-read 9 f e k)

row-found : (m : ℕ) (e : List ℕ) → (m ≡ 0 → ⊥) → row_from m e ≡ row_by m (last_number 9 e)
unfolding row_with
row-found zero e n = absurd (n refl)
row-found (suc m) e n = refl

of_ntp : (d e f : List ℕ) (k : ℕ) → AllDigits d → 1 ≤ length d → length d ≤ 12 → k < all_months → number d ≡ 86400 * days_from first_month k → LineEnd 9 f e
    → row_of (d ++ e) ≡ K.Row (first_month + k) (number f)
unfolding row_of row_behind ntp_row row_with
of_ntp d e f k a n q lt v g =
    let ld : first_digits 12 (d ++ e) ≡ d = lead 12 d e a q (ending-stops 9 f e g) in
    let p : 0 < length d = omega arith in
    let whole : number d % 86400 ≡ 0 = omega arith in
    let days : number d / 86400 ≡ days_from first_month k = omega arith in
    let no : get_or e 0 0 ≡ 45 → ⊥ = λ h. no_hyphen (get_or e 0 0) (gap-there 9 f e g) h in
    let back : month_from (number d / 86400) ≡ first_month + k = ap month_from days ∙ month-begins k lt in
    rw (ld, drop-append_seam d e, ne_eqb _ _ no, lt-ltb _ _ p, eq-eqb _ _ whole, back)
    (row-found (first_month + k) e (λ z. omega arith) ∙ ap (row_by (first_month + k)) (ending-read 9 f e g))

first-digits : (b d x : List ℕ) → OnlyBlanks true b → AllDigits d → 1 ≤ length d → line_says (b ++ (d ++ x)) ≡ row_of (d ++ x)
unfolding line_says
first-digits b d x h a n = ap line_from (blanks-gone true b (d ++ x) h ∙ digits-stay true d x a n) ∙ not_ended d x a n

pub says-read : (t : List ℕ) (l : Line) → Says t l → line_says t ≡ l
says-read _ _ (nothing b c h m n) = of_comment b c h m n
says-read _ _ (month b y m e f h dy dm low high k) =
    first-digits b y (45 ∷ (m ++ e)) h dy.all (omega (arith, dy.many)) ∙ of_month y m e f dy dm low high k
says-read _ _ (ntp b d e f k h a n q lt v g) = first-digits b d e h a n ∙ of_ntp d e f k a n q lt v g
says-read _ _ (expiry b e f h k) = of_expiry b e f h k
