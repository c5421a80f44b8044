-- A line that is read as anything is a line of the grammar, and says what is read: with `says-read`, a line is outside exactly where the grammar has no form
-- for it. Assumes nothing.
use Prim.Native.Nat.{ℕ, zero, suc, ◌+◌, ◌-◌, ◌*◌, ◌/◌, ◌%◌, ◌≤◌, ◌<◌}
use native.Mathlib.Omega.{arith}
use mathlib.Core.Path.{◌≡◌, refl, sym, ap, ◌∙◌, subst}
use mathlib.Core.List.{List, [], ◌∷◌, ◌++◌}
use mathlib.Core.Bool.{Bool, true, false, cond, ◌&&◌}
use lib.ListN.{length, drop, get_or}
use lib.Dec.{eqb, leb, ltb}
use borrow.Author.Tests.{eqb-true, eqb-false, leb-true, ltb-true, ltb-false}
use Rattle.numerals.specs.digits.Decimal.{number, is_digit, AllDigits}
use Rattle.numerals.proofs.digits.Decimal.{digit_bounds}
use Rattle.std.specs.Prelude.{Option, None, Some}
use Rattle.leap_lists.specs.declared.lines.Line.{Line}
use Rattle.leap_lists.specs.declared.lines.Line.TheVariants as K
use Rattle.leap_lists.specs.lines.Scan.{line_blank, behind_blanks, first_digits, ended, number_then, last_number}
use Rattle.leap_lists.specs.lines.Months.{first_month, all_months, month_days, month_after, month_from, days_from}
use Rattle.leap_lists.specs.lines.Lines.{row_by, row_with, month_row, row_from, ntp_row, row_behind, row_of, expiry_by, expiry_of, line_from, line_says}
use Rattle.leap_lists.specs.Grammar.{OnlyBlanks, Comment, none, some, LineEnd, Says, nothing, month, ntp, expiry}
use Rattle.leap_lists.proofs.lines.Months.{here, within, onward, spent}

no : true ≡ false → ⊥
no e = let z : ◌≡◌ {A = ℕ} 0 1 = ap (λ (b : Bool). cond b 0 1) e in omega arith

both : (a b : Bool) → (a && b) ≡ true → (a ≡ true) × (b ≡ true)
both true b e = (refl, e)
both false b e = absurd (no (sym e))

-- ---- blanks, digits and the end of a line, taken apart
blank_nought : (r : Bool) → line_blank r 0 ≡ true → ⊥
unfolding line_blank
blank_nought true e = no (sym e)
blank_nought false e = no (sym e)

record Blanks (r : Bool) (t : List ℕ) : Type 0 where
  pub front : List ℕ
  pub is : t ≡ front ++ behind_blanks r t
  pub blank : OnlyBlanks r front
  pub there : line_blank r (get_or t 0 0) ≡ true → 1 ≤ length front

blanks : (r : Bool) (t : List ℕ) → Blanks r t
unfolding behind_blanks OnlyBlanks
blanks r [] = record { front = []; is = refl; blank = tt; there = λ e. absurd (blank_nought r e) }
blanks r (c ∷ cs) = either (line_blank r c) refl (blanks r cs)
  where
    either : (b : Bool) → line_blank r c ≡ b → Blanks r cs → Blanks r (c ∷ cs)
    either true e s =
        record { front = c ∷ s.front; is = rw e (ap (λ (l : List ℕ). c ∷ l) s.is); blank = (e, s.blank); there = λ x. omega arith }
    either false e s = record { front = []; is = rw e; blank = tt; there = λ x. absurd (no (sym x ∙ e)) }

record Front (k : ℕ) (s : List ℕ) : Type 0 where
  pub is : s ≡ first_digits k s ++ drop (length (first_digits k s)) s
  pub all : AllDigits (first_digits k s)
  pub few : length (first_digits k s) ≤ k

front : (k : ℕ) (s : List ℕ) → Front k s
unfolding first_digits AllDigits
front zero s = record { is = refl; all = tt; few = omega arith }
front (suc k) [] = record { is = refl; all = tt; few = omega arith }
front (suc k) (c ∷ cs) = either (is_digit c) refl (front k cs)
  where
    either : (b : Bool) → is_digit c ≡ b → Front k cs → Front (suc k) (c ∷ cs)
    either true e f =
        let low : 48 ≤ c = (digit_bounds c e).0 in
        let high = (digit_bounds c e).1 in
        record { is = rw e (ap (λ (l : List ℕ). c ∷ l) f.is); all = rw e (low, high, f.all); few = rw e (omega (arith, f.few)) }
    either false e f = record { is = rw e; all = rw e tt; few = rw e (omega arith) }

comment : (s : List ℕ) → ended s ≡ true → Comment s
unfolding ended
comment [] e = none
comment (c ∷ cs) e = let q : 35 ≡ c = sym (eqb-true c 35 e) in subst (λ (x : ℕ). Comment (x ∷ cs)) q (some cs)

-- ---- the number at the end
record Ending (most : ℕ) (s : List ℕ) (n : ℕ) : Type 0 where
  pub digits : List ℕ
  pub is : n ≡ number digits
  pub end : LineEnd most digits s

abbrev worth : Option ℕ → ℕ
worth (Some n) = suc n
worth None = 0

module _ (most : ℕ) (s : List ℕ) where
  rest : List ℕ
  rest = behind_blanks false s

  behind : List ℕ
  behind = drop (length (first_digits most rest)) rest

  joined : (b : Blanks false s) (f : Front most rest) (a : Blanks true behind)
      → s ≡ b.front ++ (first_digits most rest ++ (a.front ++ behind_blanks true behind))
  unfolding rest behind
  joined b f a = b.is ∙ ap (λ (l : List ℕ). b.front ++ l) (f.is ∙ ap (λ (l : List ℕ). first_digits most rest ++ l) a.is)

  ended_so : (n : ℕ) → line_blank false (get_or s 0 0) ≡ true → 0 < length (first_digits most rest) → ended (behind_blanks true behind) ≡ true
      → n ≡ number (first_digits most rest) → Ending most s n
  ended_so n e p q v =
      let b = blanks false s in
      let f = front most rest in
      let a = blanks true behind in
      record {
        digits = first_digits most rest;
        is = v;
        end = record {
          gap = b.front;
          after = a.front;
          comment = behind_blanks true behind;
          is = joined b f a;
          gap_blank = b.blank;
          gap_some = b.there e;
          all_digits = f.all;
          some = omega arith;
          few = f.few;
          after_blank = a.blank;
          a_comment = comment _ q;
        };
      }

  said : line_blank false (get_or s 0 0) ≡ true → (ltb 0 (length (first_digits most rest)) && ended (behind_blanks true behind)) ≡ true
      → last_number most s ≡ Some (number (first_digits most rest))
  unfolding last_number number_then rest behind
  said h g = rw (h, g)

  no_number : line_blank false (get_or s 0 0) ≡ true → (ltb 0 (length (first_digits most rest)) && ended (behind_blanks true behind)) ≡ false
      → last_number most s ≡ None
  unfolding last_number number_then rest behind
  no_number h g = rw (h, g)

  no_gap : line_blank false (get_or s 0 0) ≡ false → last_number most s ≡ None
  unfolding last_number
  no_gap h = rw h

  ending : (n : ℕ) → last_number most s ≡ Some n → Ending most s n
  ending n e = either (line_blank false (get_or s 0 0)) refl
    where
      not_nothing : last_number most s ≡ None → ⊥
      not_nothing h = let v : 0 ≡ suc n = sym (ap worth h) ∙ ap worth e in omega arith

      second : (b : Bool) → (ltb 0 (length (first_digits most rest)) && ended (behind_blanks true behind)) ≡ b
          → line_blank false (get_or s 0 0) ≡ true → Ending most s n
      second true g h =
          let w = both _ _ g in
          let v : suc (number (first_digits most rest)) ≡ suc n = sym (ap worth (said h g)) ∙ ap worth e in
          ended_so n h (ltb-true _ _ w.0) w.1 (omega arith)
      second false g h = absurd (not_nothing (no_number h g))

      either : (b : Bool) → line_blank false (get_or s 0 0) ≡ b → Ending most s n
      either true h = second _ refl h
      either false h = absurd (not_nothing (no_gap h))

-- ---- a line, by its kind
-- the number that ends a row
record RowEnd (m : ℕ) (s : List ℕ) (l : Line) : Type 0 where
  pub digits : List ℕ
  pub is : l ≡ K.Row m (number digits)
  pub end : LineEnd 9 digits s

row-by : (m : ℕ) (s : List ℕ) (x : Option ℕ) → last_number 9 s ≡ x → (l : Line) → row_by m x ≡ l → (l ≡ K.Outside → ⊥) → RowEnd m s l
row-by m s (Some n) e l r k =
    let g = ending 9 s n e in record { digits = g.digits; is = sym r ∙ ap (K.Row m) g.is; end = g.end }
row-by m s None e l r k = absurd (k (sym r))

row-with : (m : ℕ) (s : List ℕ) (l : Line) → row_with m s ≡ l → (l ≡ K.Outside → ⊥) → RowEnd m s l
unfolding row_with
row-with m s l r k = row-by m s (last_number 9 s) refl l r k

-- the first byte is c and not 0
first_byte : (s : List ℕ) (c : ℕ) → 0 < c → get_or s 0 0 ≡ c → s ≡ c ∷ drop 1 s
first_byte [] c p e = absurd (let x : ⊥ = omega arith in x)
first_byte (d ∷ ds) c p e = ap (λ (x : ℕ). x ∷ ds) e

record Begun (most m day r : ℕ) : Type 0 where
  pub count : ℕ
  pub few : count < most
  pub days : day ≡ days_from m count
  pub is : r ≡ m + count

begun : (most m day : ℕ) → (month_after most m day ≡ 0 → ⊥) → Begun most m day (month_after most m day)
unfolding days_from
begun zero m day k = absurd (k (spent m day))
begun (suc most) m day k = either (eqb day 0) refl (begun most (m + 1) (day - month_days m))
  where
    later : (day ≡ 0 → ⊥) → (b : Bool) → ltb day (month_days m) ≡ b
        → ((month_after most (m + 1) (day - month_days m) ≡ 0 → ⊥) → Begun most (m + 1) (day - month_days m) (month_after most (m + 1) (day - month_days m)))
        → Begun (suc most) m day (month_after (suc most) m day)
    later n true g next = absurd (k (within most m day n (ltb-true _ _ g)))
    later n false g next =
        let high = ltb-false _ _ g in
        let step = onward most m day n high in
        let w = next (λ z. k (step ∙ z)) in
        record { count = suc w.count; few = omega (arith, w.few); days = omega (arith, w.days, high); is = step ∙ omega (arith, w.is) }

    either : (b : Bool) → eqb day 0 ≡ b
        → ((month_after most (m + 1) (day - month_days m) ≡ 0 → ⊥) → Begun most (m + 1) (day - month_days m) (month_after most (m + 1) (day - month_days m)))
        → Begun (suc most) m day (month_after (suc most) m day)
    either true e next =
        let z : day ≡ 0 = eqb-true _ _ e in
        record { count = 0; few = omega arith; days = z; is = here most m day z ∙ (let y : m ≡ m + 0 = omega arith in y) }
    either false e next = later (eqb-false _ _ e) (ltb day (month_days m)) refl next

-- ---- behind the blanks b
module _ (b : List ℕ) (h : OnlyBlanks true b) where
  of_expiry : (s : List ℕ) (x : Option ℕ) → last_number 12 s ≡ x → (l : Line) → expiry_by x ≡ l → (l ≡ K.Outside → ⊥) → Says (b ++ (35 ∷ (64 ∷ s))) l
  of_expiry s (Some n) e l r k =
      let g = ending 12 s n e in
      subst (Says (b ++ (35 ∷ (64 ∷ s)))) (ap (λ (i : ℕ). K.Expiry (i / 86400 + 15020)) (sym g.is) ∙ r) (expiry b s g.digits h g.end)
  of_expiry s None e l r k = absurd (k (sym r))

  -- a month: the digits y before the hyphen, and z behind it
  module _ (y z : List ℕ) (a : AllDigits y) (l : Line) (k : l ≡ K.Outside → ⊥) where
    four-and-two : Bool
    four-and-two = eqb (length y) 4 && (eqb (length (first_digits 2 z)) 2 && (leb 1 (number (first_digits 2 z)) && leb (number (first_digits 2 z)) 12))

    month-read : four-and-two ≡ true → month_row (number y) (length y) z
        ≡ row_with (12 * number y + number (first_digits 2 z) - 1) (drop (length (first_digits 2 z)) z)
    unfolding month_row four-and-two
    month-read g = rw g

    no_month : four-and-two ≡ false → month_row (number y) (length y) z ≡ K.Outside
    unfolding month_row four-and-two
    no_month g = rw g

    so_made : length y ≡ 4 → length (first_digits 2 z) ≡ 2 → 1 ≤ number (first_digits 2 z) → number (first_digits 2 z) ≤ 12
        → RowEnd (12 * number y + number (first_digits 2 z) - 1) (drop (length (first_digits 2 z)) z) l → Says (b ++ (y ++ (45 ∷ z))) l
    so_made ly lm low high r =
        let f = front 2 z in
        subst (λ (x : List ℕ). Says (b ++ (y ++ (45 ∷ x))) l) (sym f.is)
        (subst (Says _) (sym r.is) (month b y (first_digits 2 z) (drop (length (first_digits 2 z)) z) r.digits h (record { all = a; many = ly })
        (record { all = f.all; many = lm }) low high r.end))

    of_month : month_row (number y) (length y) z ≡ l → Says (b ++ (y ++ (45 ∷ z))) l
    unfolding four-and-two
    of_month e = either four-and-two refl
      where
        either : (t : Bool) → four-and-two ≡ t → Says (b ++ (y ++ (45 ∷ z))) l
        either true g =
            let w = both (eqb (length y) 4) _ g in
            let v = both (eqb (length (first_digits 2 z)) 2) _ w.1 in
            let u = both (leb 1 (number (first_digits 2 z))) _ v.1 in
            so_made (eqb-true _ _ w.0) (eqb-true _ _ v.0) (leb-true _ _ u.0) (leb-true _ _ u.1) (row-with _ _ l (sym (month-read g) ∙ e) k)
        either false g = absurd (k (sym e ∙ no_month g))

  -- NTP seconds d, and z behind them
  module _ (d z : List ℕ) (a : AllDigits d) (n : length d ≤ 12) (l : Line) (k : l ≡ K.Outside → ⊥) where
    from-month : (m : ℕ) → month_from (number d / 86400) ≡ m → 1 ≤ length d → number d % 86400 ≡ 0 → row_from m z ≡ l → Says (b ++ (d ++ z)) l
    unfolding month_from
    from-month zero e p q r = absurd (k (sym r))
    from-month (suc m) e p q r =
        let x : (month_from (number d / 86400) ≡ 0) → ⊥ = λ y. let c : suc m ≡ 0 = sym e ∙ y in omega arith in
        let w = begun all_months first_month (number d / 86400) x in
        let t = row-with (suc m) z l r k in
        let s : first_month + w.count ≡ suc m = sym w.is ∙ e in
        let v : number d ≡ 86400 * days_from first_month w.count = omega (arith, w.days, q) in
        subst (Says (b ++ (d ++ z))) (ap (λ (i : ℕ). K.Row i (number t.digits)) s ∙ sym t.is)
        (ntp b d z t.digits w.count h a p n w.few v t.end)

    ntp-read : (ltb 0 (length d) && eqb (number d % 86400) 0) ≡ true → ntp_row (number d) (length d) z ≡ row_from (month_from (number d / 86400)) z
    unfolding ntp_row
    ntp-read g = rw g

    no_ntp : (ltb 0 (length d) && eqb (number d % 86400) 0) ≡ false → ntp_row (number d) (length d) z ≡ K.Outside
    unfolding ntp_row
    no_ntp g = rw g

    of_ntp : ntp_row (number d) (length d) z ≡ l → Says (b ++ (d ++ z)) l
    of_ntp e = either (ltb 0 (length d) && eqb (number d % 86400) 0) refl
      where
        either : (t : Bool) → (ltb 0 (length d) && eqb (number d % 86400) 0) ≡ t → Says (b ++ (d ++ z)) l
        either true g =
            let w = both (ltb 0 (length d)) _ g in
            let p : 0 < length d = ltb-true 0 (length d) w.0 in
            from-month (month_from (number d / 86400)) refl (omega (arith, p)) (eqb-true _ _ w.1) (sym (ntp-read g) ∙ e)
        either false g = absurd (k (sym e ∙ no_ntp g))

  -- a row: the first digits of s, and what is behind them
  of_row : (s : List ℕ) (l : Line) → row_of s ≡ l → (l ≡ K.Outside → ⊥) → Says (b ++ s) l
  unfolding row_of row_behind
  of_row s l e k = either (eqb (get_or (drop (length (first_digits 12 s)) s) 0 0) 45) refl
    where
      either : (t : Bool) → eqb (get_or (drop (length (first_digits 12 s)) s) 0 0) 45 ≡ t → Says (b ++ s) l
      either true g =
          let f = front 12 s in
          let c = first_byte (drop (length (first_digits 12 s)) s) 45 (omega arith) (eqb-true _ _ g) in
          let m : month_row (number (first_digits 12 s)) (length (first_digits 12 s)) (drop 1 (drop (length (first_digits 12 s)) s)) ≡ l = sym (rw g) ∙ e in
          subst (λ (x : List ℕ). Says (b ++ x) l) (sym (f.is ∙ ap (λ (x : List ℕ). first_digits 12 s ++ x) c)) (of_month _ _ f.all l k m)
      either false g =
          let f = front 12 s in
          let m : ntp_row (number (first_digits 12 s)) (length (first_digits 12 s)) (drop (length (first_digits 12 s)) s) ≡ l = sym (rw g) ∙ e in
          subst (λ (x : List ℕ). Says (b ++ x) l) (sym f.is) (of_ntp _ _ f.all f.few l k m)

  -- empty, a comment or an expiry
  of_end : (s : List ℕ) → Comment s → (l : Line) → cond (eqb (get_or s 1 0) 64) (expiry_of (drop 2 s)) K.Blank ≡ l → (l ≡ K.Outside → ⊥) → Says (b ++ s) l
  unfolding expiry_of
  of_end _ none l e k = subst (Says (b ++ [])) e (nothing b [] h none (λ x. omega arith))
  of_end _ (some cs) l e k = either (eqb (get_or cs 0 0) 64) refl
    where
      either : (t : Bool) → eqb (get_or cs 0 0) 64 ≡ t → Says (b ++ (35 ∷ cs)) l
      either true g =
          let c = first_byte cs 64 (omega arith) (eqb-true _ _ g) in
          let m : expiry_by (last_number 12 (drop 1 cs)) ≡ l = sym (rw g) ∙ e in
          subst (λ (x : List ℕ). Says (b ++ (35 ∷ x)) l) (sym c) (of_expiry (drop 1 cs) _ refl l m k)
      either false g =
          let m : K.Blank ≡ l = sym (rw g) ∙ e in subst (Says (b ++ (35 ∷ cs))) m (nothing b (35 ∷ cs) h (some cs) (eqb-false _ _ g))

  of_line : (s : List ℕ) (l : Line) → line_from s ≡ l → (l ≡ K.Outside → ⊥) → Says (b ++ s) l
  unfolding line_from
  of_line s l e k = either (ended s) refl
    where
      either : (t : Bool) → ended s ≡ t → Says (b ++ s) l
      either true g = of_end s (comment s g) l (sym (rw g) ∙ e) k
      either false g = of_row s l (sym (rw g) ∙ e) k

-- A LINE THAT IS NOT OUTSIDE is a line of the grammar, which says what is read
pub read-says : (t : List ℕ) → (line_says t ≡ K.Outside → ⊥) → Says t (line_says t)
unfolding line_says
read-says t k = let s = blanks true t in
    subst (λ (x : List ℕ). Says x (line_from (behind_blanks true t))) (sym s.is) (of_line s.front s.blank (behind_blanks true t) _ refl k)
