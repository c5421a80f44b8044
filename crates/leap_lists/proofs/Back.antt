-- What is written is read back: a row in both forms, an expiry, the lines of a text; and a text is read by what its lines say. Assumes nothing.
use Prim.Native.Nat.{ℕ, zero, suc, ◌+◌, ◌-◌, ◌*◌, ◌/◌, ◌%◌, ◌^◌, ◌≤◌, ◌<◌}
use native.Mathlib.Omega.{arith}
use native.Mathlib.Nat.{pow-suc}
use mathlib.Core.Path.{◌≡◌, refl, sym, ap, ◌∙◌}
use mathlib.Core.List.{List, [], ◌∷◌, ◌++◌, map, append-nil}
use mathlib.Core.Bool.{true, false, cond}
use lib.ListN.{length, length-append}
use lib.Dec.{eqb}
use lib.IntN.{pos}
use borrow.Author.Tests.{ne_eqb}
use Rattle.numerals.specs.digits.Decimal.{number, AllDigits, Digits, last, digits_of}
use Rattle.numerals.proofs.digits.Decimal.{all_append, digit_added, number_digits, digits-all, digits-few, digits-some}
use Rattle.calendar.specs.Calendar.{leap_year}
use Rattle.calendar.proofs.Accepted.{short}
use Rattle.leap_lists.specs.declared.held.Held.{Held}
use Rattle.leap_lists.specs.declared.lines.Line.{Line}
use Rattle.leap_lists.specs.declared.lines.Line.TheVariants as K
use Rattle.leap_lists.specs.lines.Scan.{line_blank}
use Rattle.leap_lists.specs.lines.Months.{first_month, month_days, days_from}
use Rattle.leap_lists.specs.lines.Lines.{line_says}
use Rattle.leap_lists.specs.Held.{line_fault, with_line}
use Rattle.leap_lists.specs.Texts.{on_first, lines_of}
use Rattle.leap_lists.specs.Reading.{ListAnswer, refused_at, answered, read_from}
use Rattle.leap_lists.specs.Grammar.{OnlyBlanks, none, LineEnd, month, ntp, expiry}
use Rattle.leap_lists.specs.Writer.{last_digits, month_line, ntp_line, expiry_line, lines_text}
use Rattle.leap_lists.proofs.Grammar.{says-read}

-- ---- digits with zeros in front
last-many : (k n : ℕ) → length (last_digits k n) ≡ k
unfolding last_digits
last-many zero n = refl
last-many (suc k) n = let h = last-many k (n / 10) in simp length-append (omega arith)

pub last-all : (k n : ℕ) → AllDigits (last_digits k n)
unfolding last_digits AllDigits
last-all zero n = tt
last-all (suc k) n = all_append (last_digits k (n / 10)) (last n ∷ []) (last-all k (n / 10)) (omega arith, omega arith, tt)

last_digits_lem : (k n : ℕ) → Digits k (last_digits k n)
last_digits_lem k n = record { many = last-many k n; all = last-all k n }

tenth : (n P : ℕ) → n < P * 10 → n / 10 < P
tenth n P h = omega arith

last-number : (k n : ℕ) → n < 10 ^ k → number (last_digits k n) ≡ n
unfolding last_digits
last-number zero n h = omega arith
last-number (suc k) n h = digit_added n (last_digits k (n / 10)) (last-number k (n / 10) (tenth n (10 ^ k) (rw (pow-suc 10 k) at h)))

-- ---- one blank and a number, at the end of a line
ends : (most c n : ℕ) → line_blank false c ≡ true → length (digits_of n) ≤ most → LineEnd most (digits_of n) (c ∷ digits_of n)
unfolding OnlyBlanks
ends most c n b h = record {
  gap = c ∷ [];
  after = [];
  comment = [];
  is = ap (λ (l : List ℕ). c ∷ l) (sym (append-nil (digits_of n)));
  gap_blank = (b, tt);
  gap_some = omega arith;
  all_digits = digits-all n;
  some = digits-some n;
  few = h;
  after_blank = tt;
  a_comment = none;
}

space : line_blank false 32 ≡ true
unfolding line_blank
space = refl

tab : line_blank false 9 ≡ true
unfolding line_blank
tab = refl

-- ---- a row, and an expiry
pub month-line-read : (m s : ℕ) → m < 120000 → s < 1000000000 → line_says (month_line m s) ≡ K.Row m s
unfolding month_line OnlyBlanks
month-line-read m s hm hs =
    let y = last_digits 4 (m / 12) in
    let n = last_digits 2 (m % 12 + 1) in
    let ey : number y ≡ m / 12 = last-number 4 (m / 12) (omega arith) in
    let en : number n ≡ m % 12 + 1 = last-number 2 (m % 12 + 1) (omega arith) in
    let whole : 12 * number y + number n - 1 ≡ m = omega arith in
    says-read _ _ (month [] y n (32 ∷ digits_of s) (digits_of s) tt (last_digits_lem 4 (m / 12)) (last_digits_lem 2 (m % 12 + 1)) (omega arith) (omega arith)
    (ends 9 32 s space (digits-few 8 s hs)))
    ∙ (λ i. K.Row (whole i) (number_digits s i))

days-most : (k m : ℕ) → days_from m k ≤ 31 * k
unfolding days_from month_days
days-most zero m = omega arith
days-most (suc k) m =
    let h = days-most k (m + 1) in
    let d = short (leap_year (pos (m / 12))) (m % 12 + 1) (omega arith) (omega arith) in
    omega arith

pub ntp-line-read : (m s : ℕ) → first_month ≤ m → m < 120000 → s < 1000000000 → line_says (ntp_line m s) ≡ K.Row m s
unfolding ntp_line OnlyBlanks
ntp-line-read m s low hm hs =
    let k = m - first_month in
    let n = 86400 * days_from first_month k in
    let top : days_from first_month k ≤ 31 * k = days-most k first_month in
    let small : n < 1000000000000 = omega arith in
    let same : first_month + k ≡ m = omega arith in
    says-read _ _ (ntp [] (digits_of n) (9 ∷ digits_of s) (digits_of s) k tt (digits-all n) (digits-some n) (digits-few 11 n small) (omega arith)
    (number_digits n) (ends 9 9 s tab (digits-few 8 s hs)))
    ∙ (λ i. K.Row (same i) (number_digits s i))

pub expiry-line-read : (day : ℕ) → 15020 ≤ day → day < 11589094 → line_says (expiry_line day) ≡ K.Expiry day
unfolding expiry_line OnlyBlanks
expiry-line-read day low high =
    let n = 86400 * (day - 15020) in
    let whole : number (digits_of n) / 86400 + 15020 ≡ day = omega (arith, number_digits n) in
    says-read _ _ (expiry [] (9 ∷ digits_of n) (digits_of n) tt (ends 12 9 n tab (digits-few 11 n (omega arith)))) ∙ ap K.Expiry whole

-- ---- the lines of a text
unfoldable pub OneLine : List ℕ → Type 0
OneLine [] = Unit
OneLine (c ∷ cs) = (c ≡ 10 → ⊥) × OneLine cs

unfoldable pub AllLines : List (List ℕ) → Type 0
AllLines [] = Unit
AllLines (l ∷ ls) = OneLine l × AllLines ls

line_first : (l x : List ℕ) → OneLine l → lines_of (l ++ (10 ∷ x)) ≡ l ∷ lines_of x
unfolding lines_of OneLine on_first
line_first [] x h = refl
line_first (c ∷ l) x h = rw (ne_eqb _ _ h.0, line_first l x h.1)

pub lines-back : (ls : List (List ℕ)) → AllLines ls → lines_of (lines_text ls) ≡ ls
unfolding lines_text AllLines lines_of
lines-back [] h = refl
lines-back (l ∷ ls) h = line_first l (lines_text ls) h.0 ∙ ap (λ (x : List (List ℕ)). l ∷ x) (lines-back ls h.1)

-- ---- two texts whose lines say the same are read alike
said : Held → ℕ → List Line → ListAnswer
said h n [] = answered h
said h n (l ∷ ls) = cond (eqb (line_fault h l) 0) (said (with_line h l) (n + 1) ls) (refused_at (line_fault h l) (n + 1))

by_said : (h : Held) (n : ℕ) (ls : List (List ℕ)) → read_from h n ls ≡ said h n (map line_says ls)
unfolding read_from said
by_said h n [] = refl
by_said h n (l ∷ ls) =
    ap (λ (r : ListAnswer). cond (eqb (line_fault h (line_says l)) 0) r (refused_at (line_fault h (line_says l)) (n + 1)))
    (by_said (with_line h (line_says l)) (n + 1) ls)

pub read_alike : (h : Held) (n : ℕ) (ls ks : List (List ℕ)) → map line_says ls ≡ map line_says ks → read_from h n ls ≡ read_from h n ks
read_alike h n ls ks e = by_said h n ls ∙ ap (said h n) e ∙ sym (by_said h n ks)
