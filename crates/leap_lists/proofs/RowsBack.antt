-- Rows that are written are read back, place by place, and with the library's own rows before them too. Assumes nothing.
use Prim.Native.Nat.{ℕ, zero, suc, ◌+◌, ◌/◌, ◌%◌, ◌≤◌, ◌<◌}
use native.Mathlib.Omega.{arith}
use mathlib.Core.Path.{◌≡◌, refl, sym, ap, ◌∙◌}
use mathlib.Core.List.{List, [], ◌∷◌, ◌++◌, map}
use lib.ListN.{length, get_or, set, length-set}
use lib.Seq.{get_or-set_same, get_or-set_other}
use lib.IntN.{ℤ, pos}
use Rattle.numerals.specs.digits.Decimal.{AllDigits, digits_of}
use Rattle.numerals.proofs.digits.Decimal.{digits-all}
use Rattle.leap_table.specs.rows.Table.{last_month}
use Rattle.leap_lists.specs.declared.held.Held.{Held}
use Rattle.leap_lists.specs.declared.lines.Line.TheVariants as K
use Rattle.leap_lists.specs.lines.Lines.{line_says}
use Rattle.leap_lists.specs.Held.{none_held, line_fault, with_row, with_line}
use Rattle.leap_lists.specs.Reading.{answered, read_from, read_of}
use Rattle.leap_lists.specs.Writer.{last_digits, month_line, ntp_line, lines_text, LentRow, held_with, InTheirTurn, written_lines, AllOwn, put_from}
use Rattle.leap_lists.proofs.Reading.{no_fault}
use Rattle.leap_lists.proofs.held.Tests.{as_later, as_own, is_held, not_held}
use Rattle.leap_lists.proofs.Back.{OneLine, AllLines, lines-back, last-all, month-line-read, ntp-line-read}

-- ---- a row is read where it stands
module _ (write : ℕ → ℕ → List ℕ) (reads : (m s : ℕ) → last_month < m → m < 120000 → s < 1000000000 → line_says (write m s) ≡ K.Row m s) where
  pub rows_back : (h : Held) (n : ℕ) (rs : List LentRow) → InTheirTurn h rs → read_from h n (written_lines write rs) ≡ answered (held_with h rs)
  unfolding InTheirTurn held_with read_from
  rows_back h n [] k = refl
  rows_back h n (r ∷ rs) k =
      let e : line_says (write r.month r.seconds) ≡ K.Row r.month r.seconds = reads r.month r.seconds k.0 k.1 k.2 in
      let z : line_fault h (line_says (write r.month r.seconds)) ≡ 0 =
      ap (line_fault h) e ∙ sym (as_later h r.month r.seconds 0 k.0 (sym k.3)) in
      let next : with_line h (line_says (write r.month r.seconds)) ≡ with_row h r.month r.seconds =
      ap (with_line h) e ∙ sym (is_held h r.month r.seconds k.0) in
      no_fault h n (write r.month r.seconds) (written_lines write rs) z
      ∙ ap (λ (x : Held). read_from x (n + 1) (written_lines write rs)) next
      ∙ rows_back (with_row h r.month r.seconds) (n + 1) rs k.4

-- the library's own rows before them change nothing but the count of lines
pub own-before : (h : Held) (n : ℕ) (own ls : List (List ℕ)) → AllOwn own → read_from h n (own ++ ls) ≡ read_from h (n + length own) ls
unfolding AllOwn
own-before h n [] ls k = ap (λ (x : ℕ). read_from h x ls) (let z : n ≡ n + 0 = omega arith in z)
own-before h n (l ∷ own) ls k =
    let o = k.0 in
    let z : line_fault h (line_says l) ≡ 0 = ap (line_fault h) o.says ∙ sym (as_own h o.month o.seconds _ o.not_later o.own) in
    let next : with_line h (line_says l) ≡ h = ap (with_line h) o.says ∙ sym (not_held h o.month o.seconds o.not_later) in
    no_fault h n l (own ++ ls) z
    ∙ ap (λ (x : Held). read_from x (n + 1) (own ++ ls)) next
    ∙ own-before h (n + 1) own ls k.1
    ∙ ap (λ (x : ℕ). read_from h x ls) (let s : n + 1 + length own ≡ n + suc (length own) = omega arith in s)

-- ---- lines without a newline
one-append : (a b : List ℕ) → OneLine a → OneLine b → OneLine (a ++ b)
unfolding OneLine
one-append [] b h k = k
one-append (c ∷ a) b h k = (h.0, one-append a b h.1 k)

one-digits : (d : List ℕ) → AllDigits d → OneLine d
unfolding OneLine AllDigits
one-digits [] h = tt
one-digits (c ∷ d) h = let low : 48 ≤ c = h.0 in ((λ e. omega arith), one-digits d h.2)

one_more : (c : ℕ) (l : List ℕ) → (c ≡ 10 → ⊥) → OneLine l → OneLine (c ∷ l)
unfolding OneLine
one_more c l h k = (h, k)

month-line : (m s : ℕ) → OneLine (month_line m s)
unfolding month_line
month-line m s =
    one-append (last_digits 4 (m / 12)) _ (one-digits _ (last-all 4 (m / 12)))
    (one_more 45 _ (λ e. omega arith) (one-append (last_digits 2 (m % 12 + 1)) _ (one-digits _ (last-all 2 (m % 12 + 1)))
    (one_more 32 _ (λ e. omega arith) (one-digits (digits_of s) (digits-all s)))))

ntp-line : (m s : ℕ) → OneLine (ntp_line m s)
unfolding ntp_line
ntp-line m s = one-append (digits_of _) _ (one-digits _ (digits-all _)) (one_more 9 _ (λ e. omega arith) (one-digits (digits_of s) (digits-all s)))

all-written : (write : ℕ → ℕ → List ℕ) → ((m s : ℕ) → OneLine (write m s)) → (rs : List LentRow) → AllLines (written_lines write rs)
unfolding AllLines
all-written write one [] = tt
all-written write one (r ∷ rs) = (one r.month r.seconds, all-written write one rs)

of_lines : (ls : List (List ℕ)) → AllLines ls → read_of (lines_text ls) ≡ read_from none_held 0 ls
unfolding read_of
of_lines ls h = ap (read_from none_held 0) (lines-back ls h)

-- ROWS THAT ARE WRITTEN ARE READ BACK, in both forms
pub months_read_back : (rs : List LentRow) → InTheirTurn none_held rs → read_of (lines_text (written_lines month_line rs)) ≡ answered (held_with none_held rs)
months_read_back rs k =
    of_lines (written_lines month_line rs) (all-written month_line month-line rs) ∙ rows_back month_line (λ m s l h q. month-line-read m s h q) none_held 0 rs k

pub ntp-read-back : (rs : List LentRow) → InTheirTurn none_held rs → read_of (lines_text (written_lines ntp_line rs)) ≡ answered (held_with none_held rs)
ntp-read-back rs k =
    of_lines (written_lines ntp_line rs) (all-written ntp_line ntp-line rs)
    ∙ rows_back ntp_line (λ m s l h q. ntp-line-read m s (omega arith) h q) none_held 0 rs k

-- ---- place by place
pub months_are : (h : Held) (rs : List LentRow) → (held_with h rs).months ≡ put_from h.months h.size (map (λ (r : LentRow). r.month) rs)
unfolding held_with put_from
months_are h [] = refl
months_are h (r ∷ rs) = months_are (with_row h r.month r.seconds) rs

pub seconds-are : (h : Held) (rs : List LentRow) → (held_with h rs).seconds ≡ put_from h.seconds h.size (map (λ (r : LentRow). r.seconds) rs)
unfolding held_with put_from
seconds-are h [] = refl
seconds-are h (r ∷ rs) = seconds-are (with_row h r.month r.seconds) rs

pub size_is : (h : Held) (rs : List LentRow) → (held_with h rs).size ≡ h.size + length rs
unfolding held_with
size_is h [] = (let z : h.size ≡ h.size + 0 = omega arith in z)
size_is h (r ∷ rs) = size_is (with_row h r.month r.seconds) rs ∙ (let z : h.size + 1 + length rs ≡ h.size + suc (length rs) = omega arith in z)

kept : (l : List ℤ) (n : ℕ) (xs : List ℕ) (j : ℕ) → j < n → get_or (put_from l n xs) j (pos 0) ≡ get_or l j (pos 0)
unfolding put_from
kept l n [] j h = refl
kept l n (x ∷ xs) j h = kept (set l n (pos x)) (n + 1) xs j (omega arith) ∙ get_or-set_other l n j (pos x) (pos 0) (λ e. omega arith)

pub put-at : (l : List ℤ) (n : ℕ) (xs : List ℕ) (i : ℕ) → i < length xs → n + length xs ≤ length l → get_or (put_from l n xs) (n + i) (pos 0) ≡ pos
    (get_or xs i 0)
unfolding put_from
put-at l n [] i h k = absurd (let no : ⊥ = omega arith in no)
put-at l n (x ∷ xs) zero h k =
    ap (λ (j : ℕ). get_or (put_from (set l n (pos x)) (n + 1) xs) j (pos 0)) (let z : n + 0 ≡ n = omega arith in z)
    ∙ kept (set l n (pos x)) (n + 1) xs n (omega arith) ∙ get_or-set_same l n (pos x) (pos 0) (omega arith)
put-at l n (x ∷ xs) (suc i) h k =
    let same = length-set l n (pos x) in
    ap (λ (j : ℕ). get_or (put_from (set l n (pos x)) (n + 1) xs) j (pos 0)) (let z : n + suc i ≡ n + 1 + i = omega arith in z)
    ∙ put-at (set l n (pos x)) (n + 1) xs i (omega arith) (omega arith)
