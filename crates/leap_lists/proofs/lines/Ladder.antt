-- What a line says, test by test, read by an index. Assumes nothing.
use Prim.Native.Nat.{ℕ, zero, suc, ◌+◌, ◌-◌, ◌*◌, ◌/◌, ◌%◌, ◌^◌, ◌<◌, ◌≤◌}
use native.Mathlib.Omega.{arith}
use native.Mathlib.Nat.{add-zero}
use mathlib.Core.Path.{◌≡◌, refl, sym, ap, ◌∙◌, subst}
use mathlib.Core.List.{List}
use mathlib.Core.Bool.{Bool, true, false, cond, ◌&&◌, and-false}
use lib.ListN.{length, drop, get_or, drop_of_length-le}
use lib.Seq.{get_or-drop, drop-drop}
use lib.Dec.{ltb, eqb}
use borrow.Author.Tests.{eq-eqb, ne_eqb, le-leb, lt-leb, lt-ltb}
use Rattle.numerals.specs.digits.Decimal.{number}
use Rattle.std.specs.Prelude.{Option, None, Some}
use Rattle.leap_lists.specs.declared.lines.Line.{Line}
use Rattle.leap_lists.specs.declared.lines.Line.TheVariants as K
use Rattle.leap_lists.specs.lines.Scan.{line_blank, behind_blanks, first_digits, ended, number_then, last_number}
use Rattle.leap_lists.specs.lines.Months.{month_from}
use Rattle.leap_lists.specs.lines.Lines.{row_by, row_with, month_row, row_from, ntp_row, row_behind, row_of, expiry_by, expiry_of, line_from, line_says}
use Rattle.leap_lists.proofs.lines.Runs.{Run, DigitsAt, byte_first, all-leading, leading-small}
use Rattle.numerals.proofs.digits.Decimal.{number-below}

pub byte_here : (t : List ℕ) (at : ℕ) → get_or (drop at t) 0 0 ≡ get_or t at 0
byte_here t at = get_or-drop at t 0 0 ∙ ap (λ (n : ℕ). get_or t n 0) (add-zero at)

-- ---- the end of a line
pub ended-byte : (t : List ℕ) (i : ℕ) → i < length t → ended (drop i t) ≡ eqb (get_or t i 0) 35
unfolding ended
ended-byte t i h = ap ended (byte_first t i h)

pub ended-out : (t : List ℕ) (i : ℕ) → length t ≤ i → ended (drop i t) ≡ true
unfolding ended
ended-out t i h = rw (drop_of_length-le t h)

-- ---- the number at the end of a line
then_none : (d rest : List ℕ) → length d ≡ 0 → number_then d rest ≡ None
unfolding number_then
then_none d rest e = rw e

then_not_ended : (d rest : List ℕ) → ended (behind_blanks true rest) ≡ false → number_then d rest ≡ None
unfolding number_then
then_not_ended d rest e = rw e (simp and-false)

then_some : (d rest : List ℕ) → 0 < length d → ended (behind_blanks true rest) ≡ true → number_then d rest ≡ Some (number d)
unfolding number_then
then_some d rest h e = rw (lt-ltb _ _ h, e)

module _ (most at : ℕ) (t : List ℕ) where
  pub last_none : line_blank false (get_or t at 0) ≡ false → None ≡ last_number most (drop at t)
  unfolding last_number
  last_none e = rw (byte_here t at, e)

  module _ (from : ℕ) (r : Run) (b : line_blank false (get_or t at 0) ≡ true) (f : drop from t ≡ behind_blanks false (drop at t))
      (k : DigitsAt most from t r) where
    last_is : last_number most (drop at t) ≡ number_then (first_digits most (drop from t)) (drop r.end t)
    unfolding last_number
    last_is =
        let d = first_digits most (drop from t) in
        let e : drop (length d) (drop from t) ≡ drop r.end t = drop-drop (length d) from t ∙ ap (λ (n : ℕ). drop n t) (sym k.end) in
        rw (byte_here t at, b, ← f, e)

    pub last_empty : r.end ≡ from → None ≡ last_number most (drop at t)
    last_empty e = sym (last_is ∙ then_none _ _ (omega (arith, k.end)))

    pub last-not-ended : ended (behind_blanks true (drop r.end t)) ≡ false → None ≡ last_number most (drop at t)
    last-not-ended e = sym (last_is ∙ then_not_ended _ _ e)

    pub last_some : (r.end ≡ from → ⊥) → ended (behind_blanks true (drop r.end t)) ≡ true → Some r.value ≡ last_number most (drop at t)
    last_some n e =
        let some : 0 < length (first_digits most (drop from t)) = positive _ (λ z. n (omega (arith, k.end))) in
        ap Some k.value ∙ sym (last_is ∙ then_some _ _ some e)
      where
        positive : (x : ℕ) → (x ≡ 0 → ⊥) → 0 < x
        positive zero h = absurd (h refl)
        positive (suc x) h = omega arith

pub last-small : (most : ℕ) (s : List ℕ) (n : ℕ) → last_number most s ≡ Some n → n < 10 ^ most
unfolding last_number number_then
last-small most s n e = either (line_blank false (get_or s 0 0)) (ltb 0 (length d) && ended (behind_blanks true (drop (length d) g))) e
  where
    g : List ℕ
    g = behind_blanks false s

    d : List ℕ
    d = first_digits most g

    either : (a b : Bool) → cond a (cond b (Some (number d)) None) None ≡ Some n → n < 10 ^ most
    either true true p = let i : number d ≡ n = cc in subst (λ (k : ℕ). k < 10 ^ most) i (leading-small most g)
    either true false p = absurd (let z : ◌≡◌ {A = ℕ} 0 1 = cc in let y : ⊥ = omega arith in y)
    either false b p = absurd (let z : ◌≡◌ {A = ℕ} 0 1 = cc in let y : ⊥ = omega arith in y)

-- ---- a row with its seconds, and an expiry
module _ (s : List ℕ) (l : Option ℕ) where
  pub row_is : (m : ℕ) (k : Option ℕ) → l ≡ last_number 9 s → l ≡ k → row_by m k ≡ row_with m s
  unfolding row_with
  row_is m k e g = ap (row_by m) (sym g ∙ e)

  pub expiry-is : (k : Option ℕ) → l ≡ last_number 12 s → l ≡ k → expiry_by k ≡ expiry_of s
  unfolding expiry_of
  expiry-is k e g = ap expiry_by (sym g ∙ e)

  pub small-number : (most n : ℕ) → l ≡ last_number most s → l ≡ Some n → n < 10 ^ most
  small-number most n e g = last-small most s n (sym e ∙ g)

-- ---- the two kinds of a row
module _ (year places at : ℕ) (t : List ℕ) where
  pub other_year : (places ≡ 4 → ⊥) → K.Outside ≡ month_row year places (drop at t)
  unfolding month_row
  other_year h = rw (ne_eqb _ _ h)

  module _ (r : Run) (k : DigitsAt 2 at t r) where
    pub other_month : (r.end - at ≡ 2 → ⊥) → K.Outside ≡ month_row year places (drop at t)
    unfolding month_row
    other_month h =
        let no : length (first_digits 2 (drop at t)) ≡ 2 → ⊥ = λ e. h (omega (arith, k.end)) in
        rw (ne_eqb _ _ no) (simp and-false)

    pub month-low : r.value < 1 → K.Outside ≡ month_row year places (drop at t)
    unfolding month_row
    month-low h = let g : number (first_digits 2 (drop at t)) < 1 = omega (arith, k.value) in rw (lt-leb _ _ g) (simp and-false)

    pub month-high : 12 < r.value → K.Outside ≡ month_row year places (drop at t)
    unfolding month_row
    month-high h = let g : 12 < number (first_digits 2 (drop at t)) = omega (arith, k.value) in rw (lt-leb _ _ g) (simp and-false)

    pub month_is : places ≡ 4 → r.end - at ≡ 2 → 1 ≤ r.value → r.value ≤ 12
        → row_with (12 * year + r.value - 1) (drop r.end t) ≡ month_row year places (drop at t)
    unfolding month_row
    month_is p e a b =
        let d = first_digits 2 (drop at t) in
        let two : length d ≡ 2 = omega (arith, k.end) in
        let low : 1 ≤ number d = omega (arith, k.value) in
        let high : number d ≤ 12 = omega (arith, k.value) in
        let behind : drop (length d) (drop at t) ≡ drop r.end t = drop-drop (length d) at t ∙ ap (λ (n : ℕ). drop n t) (sym k.end) in
        rw (eq-eqb _ _ p, eq-eqb _ _ two, le-leb _ _ low, le-leb _ _ high, behind, k.value)

module _ (ntp places : ℕ) (s : List ℕ) where
  pub no_number : places ≡ 0 → K.Outside ≡ ntp_row ntp places s
  unfolding ntp_row
  no_number e = rw e

  pub no_midnight : (ntp % 86400 ≡ 0 → ⊥) → K.Outside ≡ ntp_row ntp places s
  unfolding ntp_row
  no_midnight h = rw (ne_eqb _ _ h) (simp and-false)

  midnight : (places ≡ 0 → ⊥) → ntp % 86400 ≡ 0 → ntp_row ntp places s ≡ row_from (month_from (ntp / 86400)) s
  unfolding ntp_row
  midnight p h = let g : 0 < places = positive places p in rw (lt-ltb _ _ g, eq-eqb _ _ h)
    where
      positive : (x : ℕ) → (x ≡ 0 → ⊥) → 0 < x
      positive zero n = absurd (n refl)
      positive (suc x) n = omega arith

  pub no_month : (m : ℕ) → (places ≡ 0 → ⊥) → ntp % 86400 ≡ 0 → m ≡ month_from (ntp / 86400) → m ≡ 0 → K.Outside ≡ ntp_row ntp places s
  no_month m p h e z = sym (midnight p h ∙ ap (λ (k : ℕ). row_from k s) (sym e ∙ z))

  pub ntp-is : (m : ℕ) → (places ≡ 0 → ⊥) → ntp % 86400 ≡ 0 → m ≡ month_from (ntp / 86400) → (m ≡ 0 → ⊥) → row_with m s ≡ ntp_row ntp places s
  ntp-is m p h e n = some m n ∙ sym (midnight p h ∙ ap (λ (k : ℕ). row_from k s) (sym e))
    where
      some : (k : ℕ) → (k ≡ 0 → ⊥) → row_with k s ≡ row_from k s
      some zero g = absurd (g refl)
      some (suc k) g = refl

-- ---- a row by the byte behind its first digits
module _ (at : ℕ) (t : List ℕ) (r : Run) (k : DigitsAt 12 at t r) where
  row-behind : row_behind (first_digits 12 (drop at t)) (drop r.end t) ≡ row_of (drop at t)
  unfolding row_of
  row-behind =
      let d = first_digits 12 (drop at t) in
      ap (row_behind d) (sym (drop-drop (length d) at t ∙ ap (λ (n : ℕ). drop n t) (sym k.end)))

  pub places-are : r.end - at ≡ length (first_digits 12 (drop at t))
  places-are = omega (arith, k.end)

  pub hyphen : (l : Line) → get_or t r.end 0 ≡ 45 → l ≡ month_row r.value (r.end - at) (drop (r.end + 1) t) → l ≡ row_of (drop at t)
  unfolding row_behind
  hyphen l e g =
      let d : drop 1 (drop r.end t) ≡ drop (r.end + 1) t = drop-drop 1 r.end t in
      let h : row_behind (first_digits 12 (drop at t)) (drop r.end t) ≡ month_row (number (first_digits 12 (drop at t))) (length (first_digits 12 (drop at t)))
      (drop (r.end + 1) t) = rw (byte_here t r.end, eq-eqb _ _ e, d) in
      g ∙ (λ i. month_row (k.value i) (places-are i) (drop (r.end + 1) t)) ∙ sym h ∙ row-behind

  pub no_hyphen : (l : Line) → (get_or t r.end 0 ≡ 45 → ⊥) → l ≡ ntp_row r.value (r.end - at) (drop r.end t) → l ≡ row_of (drop at t)
  unfolding row_behind
  no_hyphen l e g =
      let h : row_behind (first_digits 12 (drop at t)) (drop r.end t) ≡ ntp_row (number (first_digits 12 (drop at t))) (length (first_digits 12 (drop at t)))
      (drop r.end t) = rw (byte_here t r.end, ne_eqb _ _ e) in
      g ∙ (λ i. ntp_row (k.value i) (places-are i) (drop r.end t)) ∙ sym h ∙ row-behind

  pub four-digits : r.end - at ≡ 4 → r.value < 10000
  four-digits e =
      let d = first_digits 12 (drop at t) in
      let four : length d ≡ 4 = sym places-are ∙ e in
      let small : number d < 10 ^ length d = number-below d (all-leading 12 (drop at t)) in
      omega (arith, k.value, rw four at small)

-- ---- a line
module _ (t : List ℕ) (at : ℕ) (f : drop at t ≡ behind_blanks true t) where
  from-here : line_from (drop at t) ≡ line_says t
  unfolding line_says
  from-here = ap line_from f

  none : length t ≤ at → line_from (drop at t) ≡ K.Blank
  unfolding line_from ended
  none h = rw (drop_of_length-le t h)

  pub nothing-there : length t ≤ at → K.Blank ≡ line_says t
  nothing-there h = sym (sym from-here ∙ none h)

  module _ (h : at < length t) where
    by_row : ended (drop at t) ≡ false → line_from (drop at t) ≡ row_of (drop at t)
    unfolding line_from
    by_row g = rw g

    pub a-row : (l : Line) → (get_or t at 0 ≡ 35 → ⊥) → l ≡ row_of (drop at t) → l ≡ line_says t
    a-row l n e = e ∙ sym (by_row (ended-byte t at h ∙ ne_eqb _ _ n)) ∙ from-here

    module _ (e : get_or t at 0 ≡ 35) where
      marked : ended (drop at t) ≡ true
      marked = ended-byte t at h ∙ eq-eqb _ _ e

      pub a_comment : (get_or t (at + 1) 0 ≡ 64 → ⊥) → K.Blank ≡ line_says t
      unfolding line_from
      a_comment n = sym (sym from-here ∙ (rw (marked, get_or-drop at t 1 0, ne_eqb _ _ n)))

      pub an_expiry : (l : Line) → get_or t (at + 1) 0 ≡ 64 → l ≡ expiry_of (drop (at + 2) t) → l ≡ line_says t
      unfolding line_from
      an_expiry l n g =
          let d : drop 2 (drop at t) ≡ drop (at + 2) t = drop-drop 2 at t in
          let i : line_from (drop at t) ≡ expiry_of (drop (at + 2) t) = rw (marked, get_or-drop at t 1 0, eq-eqb _ _ n, d) in
          g ∙ sym i ∙ from-here
