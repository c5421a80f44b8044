-- Blanks and digits in front of what is left of a text, one byte at a time, and the number that the digits of a fraction make. Assumes nothing.
use Prim.Native.Nat.{ℕ, suc, ◌+◌, ◌-◌, ◌*◌, ◌^◌, ◌<◌, ◌≤◌}
use native.Mathlib.Omega.{arith}
use native.Mathlib.Nat.{add-zero, sub_self, pow-suc, pow-le-pow_right}
use native.Mathlib.Numerals.{add-one}
use mathlib.Core.Path.{◌≡◌, refl, sym, ap, ◌∙◌}
use mathlib.Core.List.{List, [], ◌∷◌}
use mathlib.Core.Bool.{Bool, true, false, cond}
use lib.ListN.{length, drop, get_or, drop_of_length-le}
use lib.Seq.{drop-cons, drop-drop, get_or-drop}
use lib.Dec.{ltb, eqb}
use borrow.Author.Tests.{ltb-true, ltb-false, eq-eqb, ne_eqb}
use Rattle.numerals.specs.digits.Decimal.{is_digit}
use Rattle.numerals.proofs.digits.Decimal.{digit_bounds}
use Rattle.parsing.specs.declared.scan.Run.{Run}
use Rattle.parsing.specs.scan.Form.{is_blank, after_blanks, byte_at, digit_says, leading, fraction_digits, after_fraction}
use Rattle.parsing.specs.scan.Scan.{joined, kept_from, kept, DigitsRun, FractionRun}
use mathlib.Core.Bool.{◌&&◌, and-false}
use lib.ListN.{get_or-eq_default}
use Rattle.parsing.specs.scan.Form.{zulu_first}

-- what is left from i on, where there is a byte
byte_first : (t : List ℕ) (i : ℕ) → i < length t → drop i t ≡ get_or t i 0 ∷ drop (i + 1) t
byte_first t i h = rw (add-one i) (drop-cons t i 0 h)

-- ---- blanks
blank_first : (c : ℕ) (cs : List ℕ) → is_blank c ≡ true → after_blanks (c ∷ cs) ≡ after_blanks cs
unfolding after_blanks
blank_first c cs e = rw e

no_blank_first : (c : ℕ) (cs : List ℕ) → is_blank c ≡ false → after_blanks (c ∷ cs) ≡ c ∷ cs
unfolding after_blanks
no_blank_first c cs e = rw e

pub blank_skipped : (t : List ℕ) (i : ℕ) → i < length t → is_blank (get_or t i 0) ≡ true → after_blanks (drop i t) ≡ after_blanks (drop (i + 1) t)
blank_skipped t i h e = ap after_blanks (byte_first t i h) ∙ blank_first (get_or t i 0) (drop (i + 1) t) e

pub blanks-stop : (t : List ℕ) (i : ℕ) → i < length t → is_blank (get_or t i 0) ≡ false → drop i t ≡ after_blanks (drop i t)
blanks-stop t i h e = byte_first t i h ∙ sym (ap after_blanks (byte_first t i h) ∙ no_blank_first (get_or t i 0) (drop (i + 1) t) e)

pub blanks-out : (t : List ℕ) (i : ℕ) → length t ≤ i → drop i t ≡ after_blanks (drop i t)
unfolding after_blanks
blanks-out t i h = rw (drop_of_length-le t h)

-- ---- digits
digit_first : (w p c : ℕ) (cs : List ℕ) → is_digit c ≡ true → kept_from w p (c ∷ cs) ≡ kept_from (joined w c p) (p + 1) cs
unfolding kept_from
digit_first w p c cs e = rw e

other_first : (w p c : ℕ) (cs : List ℕ) → is_digit c ≡ false → kept_from w p (c ∷ cs) ≡ w
unfolding kept_from
other_first w p c cs e = rw e

one-longer : (c : ℕ) (cs : List ℕ) → is_digit c ≡ true → leading (c ∷ cs) ≡ c ∷ leading cs
unfolding leading
one-longer c cs e = rw e

none_first : (c : ℕ) (cs : List ℕ) → is_digit c ≡ false → leading (c ∷ cs) ≡ []
unfolding leading
none_first c cs e = rw e

module _ (t : List ℕ) (i : ℕ) (h : i < length t) where
  pub kept_more : (w p : ℕ) → is_digit (get_or t i 0) ≡ true → kept_from w p (drop i t) ≡ kept_from (joined w (get_or t i 0) p) (p + 1) (drop (i + 1) t)
  kept_more w p e = ap (kept_from w p) (byte_first t i h) ∙ digit_first w p _ _ e

  pub kept-stop : (w p : ℕ) → is_digit (get_or t i 0) ≡ false → kept_from w p (drop i t) ≡ w
  kept-stop w p e = ap (kept_from w p) (byte_first t i h) ∙ other_first w p _ _ e

  pub leading-more : is_digit (get_or t i 0) ≡ true → length (leading (drop i t)) ≡ suc (length (leading (drop (i + 1) t)))
  leading-more e = ap (λ (s : List ℕ). length (leading s)) (byte_first t i h) ∙ ap length (one-longer _ _ e)

  pub leading-stop : is_digit (get_or t i 0) ≡ false → length (leading (drop i t)) ≡ 0
  leading-stop e = ap (λ (s : List ℕ). length (leading s)) (byte_first t i h) ∙ ap length (none_first _ _ e)

pub kept_out : (t : List ℕ) (i w p : ℕ) → length t ≤ i → kept_from w p (drop i t) ≡ w
unfolding kept_from
kept_out t i w p h = rw (drop_of_length-le t h)

pub leading-out : (t : List ℕ) (i : ℕ) → length t ≤ i → length (leading (drop i t)) ≡ 0
unfolding leading
leading-out t i h = rw (drop_of_length-le t h)

-- ---- a digit's worth
pub worth-of : (c : ℕ) → is_digit c ≡ true → digit_says c ≡ c - 48
unfolding digit_says
worth-of c e = rw e

pub worth-none : (c : ℕ) → is_digit c ≡ false → digit_says c ≡ 0
unfolding digit_says
worth-none c e = rw e

pub worth-most : (c : ℕ) → digit_says c ≤ 9
worth-most c = either (is_digit c) refl
  where
    either : (b : Bool) → is_digit c ≡ b → digit_says c ≤ 9
    either true e = let k = digit_bounds c e in rw (worth-of c e) (omega (arith, k.1))
    either false e = rw (worth-none c e) (omega arith)

-- ---- the number that is kept stays below 10 ^ 15
pub record Small (w place : ℕ) : Type 0 where
  pub all : w ≤ 1000000000000000
  pub first : place ≤ 13 → w < 10 ^ (place + 2)

pub small_start : (second : ℕ) → second ≤ 99 → Small second 0
small_start second h = record { all = omega arith; first = λ _. omega arith }

-- a number below P, with one digit more
tenfold : (w d P : ℕ) → w < P → d ≤ 9 → 10 * w + d < P * 10
tenfold w d P h k = omega arith

pub small-more : (w c place : ℕ) → Small w place → Small (joined w c place) (place + 1)
small-more w c place k = either (ltb place 13) refl
  where
    e : 10 ^ (place + 1 + 2) ≡ 10 ^ (place + 2) * 10
    e = ap (λ (n : ℕ). 10 ^ n) (let g : place + 1 + 2 ≡ suc (place + 2) = omega arith in g) ∙ pow-suc 10 (place + 2)

    either : (b : Bool) → ltb place 13 ≡ b → Small (cond b (10 * w + digit_says c) w) (place + 1)
    either true b =
        let less : place < 13 = ltb-true place 13 b in
        let next : 10 * w + digit_says c < 10 ^ (place + 1 + 2) = rw e (tenfold w (digit_says c) (10 ^ (place + 2)) (k.first (omega arith)) (worth-most c)) in
        let top : 10 ^ (place + 1 + 2) ≤ 10 ^ 15 = pow-le-pow_right {n = 10} (omega arith) {i = place + 1 + 2} {j = 15} (omega arith) in
        record { all = omega arith; first = λ _. next }
    either false b = let more : 13 ≤ place = ltb-false place 13 b in record { all = k.all; first = λ h. absurd (let z : ⊥ = omega arith in z) }

-- so is what a run or a fraction keeps
pub kept_small : (w place : ℕ) (s : List ℕ) → Small w place → kept_from w place s ≤ 1000000000000000
unfolding kept_from
kept_small w place [] k = k.all
kept_small w place (c ∷ cs) k = either (is_digit c) (kept_small (joined w c place) (place + 1) cs (small-more w c place k))
  where
    either : (b : Bool) → kept_from (joined w c place) (place + 1) cs ≤ 1000000000000000
        → cond b (kept_from (joined w c place) (place + 1) cs) w ≤ 1000000000000000
    either true h = h
    either false h = k.all

pub kept-all-small : (second : ℕ) (s : List ℕ) → second ≤ 99 → kept second s ≤ 1000000000000000
unfolding kept
kept-all-small second s h = either (eqb (byte_at s 0) 46)
  where
    either : (b : Bool) → cond b (kept_from second 0 (drop 1 s)) second ≤ 1000000000000000
    either true = kept_small second 0 (drop 1 s) (small_start second h)
    either false = omega arith

-- ---- a run of digits, i - at of which are read
pub record RunsOn (second at : ℕ) (t : List ℕ) (whole i : ℕ) : Type 0 where
  pub kept : kept_from whole (i - at) (drop i t) ≡ kept_from second 0 (drop at t)
  pub many : i - at + length (leading (drop i t)) ≡ length (leading (drop at t))

pub run-start : (second at : ℕ) (t : List ℕ) → RunsOn second at t second at
run-start second at t = record { kept = ap (λ (n : ℕ). kept_from second n (drop at t)) (sub_self at); many = omega arith }

module _ (second at : ℕ) (t : List ℕ) (whole i : ℕ) (from : at ≤ i) where
  pub run_on : (next : ℕ) → i < length t → is_digit (get_or t i 0) ≡ true → next ≡ joined whole (get_or t i 0) (i - at) → RunsOn second at t whole i
      → RunsOn second at t next (i + 1)
  run_on next h d e r =
      let n : i + 1 - at ≡ i - at + 1 = omega arith in
      record {
        kept = (λ j. kept_from (e j) (n j) (drop (i + 1) t)) ∙ sym (kept_more t i h whole (i - at) d) ∙ r.kept;
        many = omega (arith, leading-more t i h d, r.many);
      }

  pub run-stops : i < length t → is_digit (get_or t i 0) ≡ false → RunsOn second at t whole i
      → DigitsRun second at t (record { whole = whole; places = i - at; end = i })
  run-stops h d r = record {
    whole = sym (kept-stop t i h whole (i - at) d) ∙ r.kept;
    places = omega (arith, leading-stop t i h d, r.many);
    end = omega arith;
    within = omega arith;
  }

-- all bytes are read
pub run_out : (second at : ℕ) (t : List ℕ) (whole i : ℕ) → at ≤ length t → i ≡ length t → RunsOn second at t whole i
    → DigitsRun second at t (record { whole = whole; places = length t - at; end = length t })
run_out second at t whole i from e r = let h : length t ≤ i = omega arith in record {
  whole = sym (kept_out t i whole (i - at) h) ∙ r.kept;
  places = omega (arith, leading-out t i h, r.many);
  end = omega arith;
  within = omega arith;
}

first_byte : (t : List ℕ) (at : ℕ) → byte_at (drop at t) 0 ≡ get_or t at 0
first_byte t at = simp (get_or-drop, add-zero)

-- ---- a fraction
kept-none : (w place : ℕ) (s : List ℕ) → length (leading s) ≡ 0 → kept_from w place s ≡ w
unfolding kept_from leading
kept-none w place [] h = refl
kept-none w place (c ∷ cs) h = either (is_digit c) refl
  where
    either : (b : Bool) → is_digit c ≡ b → kept_from w place (c ∷ cs) ≡ w
    either true e = absurd (let g : suc (length (leading cs)) ≡ 0 = sym (ap length (one-longer c cs e)) ∙ h in let z : ⊥ = omega arith in z)
    either false e = other_first w place c cs e

module _ (second : ℕ) (at : ℕ) (t : List ℕ) where
  -- no point
  pub fraction-none : at ≤ length t → (get_or t at 0 ≡ 46 → ⊥) → FractionRun second at t (record { whole = second; places = 0; end = at })
  unfolding kept fraction_digits after_fraction
  fraction-none h n =
      let e : eqb (byte_at (drop at t) 0) 46 ≡ false = ap (λ (c : ℕ). eqb c 46) (first_byte t at) ∙ ne_eqb _ _ n in
      record { whole = rw e; places = rw e; behind = rw e; within = h }

  -- a point
  module _ (e : get_or t at 0 ≡ 46) where
    point : eqb (byte_at (drop at t) 0) 46 ≡ true
    point = ap (λ (c : ℕ). eqb c 46) (first_byte t at) ∙ eq-eqb _ _ e

    digits_are : fraction_digits (drop at t) ≡ leading (drop (at + 1) t)
    unfolding fraction_digits
    digits_are = rw point (ap leading (drop-drop 1 at t))

    kept-is : kept second (drop at t) ≡ kept_from second 0 (drop (at + 1) t)
    unfolding kept
    kept-is = rw point (ap (kept_from second 0) (drop-drop 1 at t))

    pub fraction-empty : (r : Run) → at ≤ length t → DigitsRun second (at + 1) t r → r.places ≡ 0
        → FractionRun second at t (record { whole = second; places = 0; end = at })
    unfolding after_fraction
    fraction-empty r h d z =
        let n : length (leading (drop (at + 1) t)) ≡ 0 = sym d.places ∙ z in
        let m : length (fraction_digits (drop at t)) ≡ 0 = ap length digits_are ∙ n in
        record { whole = sym (kept-is ∙ kept-none second 0 (drop (at + 1) t) n); places = sym m; behind = rw m; within = h }

    pub fraction-some : (r : Run) → DigitsRun second (at + 1) t r → (r.places ≡ 0 → ⊥) → FractionRun second at t r
    unfolding after_fraction
    fraction-some r d z =
        let m : length (fraction_digits (drop at t)) ≡ r.places = ap length digits_are ∙ sym d.places in
        let k : eqb (length (fraction_digits (drop at t))) 0 ≡ false = ne_eqb _ _ (λ n. z (sym m ∙ n)) in
        record {
          whole = d.whole ∙ sym kept-is;
          places = sym m;
          behind = rw k (rw (m, drop-drop) (ap (λ (n : ℕ). drop n t) (let g : r.end ≡ at + (1 + r.places) = omega (arith, d.end) in g)));
          within = d.within;
        }

-- ---- the byte at an index
-- a byte that is not 0 stands in the text
pub byte_inside : (t : List ℕ) (at b : ℕ) → 0 < b → get_or t at 0 ≡ b → at < length t
byte_inside t at b h e = either (ltb at (length t)) refl
  where
    either : (x : Bool) → ltb at (length t) ≡ x → at < length t
    either true k = ltb-true _ _ k
    either false k = absurd (let z : 0 ≡ b = sym (get_or-eq_default t 0 (ltb-false _ _ k)) ∙ e in let y : ⊥ = omega arith in y)

-- ---- a zone
module _ (utc : Bool) (at : ℕ) (t : List ℕ) where
  pub zone-plain : utc ≡ false → drop at t ≡ cond (zulu_first utc (drop at t)) (drop 1 (drop at t)) (drop at t)
  zone-plain e = rw e

  pub zone-none : (get_or t at 0 ≡ 90 → ⊥) → drop at t ≡ cond (zulu_first utc (drop at t)) (drop 1 (drop at t)) (drop at t)
  zone-none n =
      let e : eqb (byte_at (drop at t) 0) 90 ≡ false = ap (λ (c : ℕ). eqb c 90) (first_byte t at) ∙ ne_eqb _ _ n in
      sym (ap (λ (b : Bool). cond (utc && b) (drop 1 (drop at t)) (drop at t)) e ∙ ap (λ (b : Bool). cond b (drop 1 (drop at t)) (drop at t)) (and-false utc))

  pub zone-zulu : utc ≡ true → get_or t at 0 ≡ 90 → drop (at + 1) t ≡ cond (zulu_first utc (drop at t)) (drop 1 (drop at t)) (drop at t)
  zone-zulu u z =
      let e : eqb (byte_at (drop at t) 0) 90 ≡ true = ap (λ (c : ℕ). eqb c 90) (first_byte t at) ∙ eq-eqb _ _ z in
      sym (ap (λ (b : Bool). cond (utc && b) (drop 1 (drop at t)) (drop at t)) e ∙ ap (λ (b : Bool). cond (b && true) (drop 1 (drop at t)) (drop at t)) u
      ∙ drop-drop 1 at t)

-- ---- all bytes are read, at any index that is no place of the text
pub run_out_at : (second at : ℕ) (t : List ℕ) (whole i : ℕ) → at ≤ i → length t ≤ i → i ≤ length t → RunsOn second at t whole i
    → DigitsRun second at t (record { whole = whole; places = i - at; end = i })
run_out_at second at t whole i from h k r = record {
  whole = sym (kept_out t i whole (i - at) h) ∙ r.kept;
  places = omega (arith, leading-out t i h, r.many);
  end = omega arith;
  within = k;
}
