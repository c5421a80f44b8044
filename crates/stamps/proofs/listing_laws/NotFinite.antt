-- A stamp of a block that is not finite is refused with 6 and counted: every NaN, of either sign and of any payload, and both infinities, in jd1 or in jd2.
-- Assumes nothing.
use mathlib.Core.Path.{◌≡◌, refl, sym, ap, ◌∙◌}
use mathlib.Core.Logic.{◌⊎◌, inl, inr}
use mathlib.Core.Bool.{Bool, true, false, cond, ◌&&◌, ◌||◌}
use mathlib.Core.List.{List, [], ◌∷◌, ◌++◌}
use Prim.Native.Nat.{ℕ, zero, suc, ◌≤◌, ◌<◌}
use native.Mathlib.Omega.{arith}
use lib.Dec.{eqb}
use lib.Ieee.Scale.{finite}
use borrow.Author.Tests.{eqb-true, eq-eqb}
use Rattle.refusals.specs.Outcome.{Outcome, answer, refusal}
use Rattle.numerals.specs.digits.Decimal.{digits_in}
use Rattle.floats.specs.ExponentField.{exponent_field}
use Rattle.floats.proofs.ExponentField.{field_not_finite}
use Rattle.calendar.proofs.NextDates.{first-false}
use Rattle.leap_table.specs.rows.Table.{Row}
use Rattle.utc.proofs.laws.Numbers.{not_both}
use Rattle.utc.proofs.laws.ExpandedTexts.{expanded-not-finite}
use Rattle.stamps.specs.declared.Reporting.{Reporting}
use Rattle.stamps.specs.declared.Reporting.TheVariants.{Numbers}
use Rattle.stamps.specs.Block.{block_of, jd1_bits, jd2_bits, stamp_at}
use Rattle.stamps.specs.listing_laws.NotFinite.{NotFinite, is_not_finite, not_finite_in, HasText}
use Rattle.stamps.specs.Listing.{numeral, refused_word, reported, text_at, shown, stamp_line, stamp_lines, one_if_refused, refused_in, header, listing_of}
use Rattle.stamps.specs.Listing.{listing}

no_second : (a b : Bool) → b ≡ false → a && b ≡ false
no_second true b e = e
no_second false b e = refl

-- ---- A STAMP THAT IS NOT FINITE is refused with 6, its line says so, and it counts as one
pub not_finite_refused : (rows : List Row) (s : List ℕ) (n i : ℕ) → NotFinite s n i → text_at rows s n i ≡ refusal 6
unfolding text_at stamp_at
not_finite_refused rows s n i d = expanded-not-finite rows (stamp_at s n i) (by d)
  where
    by : NotFinite s n i → finite (stamp_at s n i).jd1 && finite (stamp_at s n i).jd2 ≡ false
    by (inl e) = first-false (finite (stamp_at s n i).jd1) (finite (stamp_at s n i).jd2) (field_not_finite (jd1_bits s i) e)
    by (inr e) = no_second (finite (stamp_at s n i).jd1) (finite (stamp_at s n i).jd2) (field_not_finite (jd2_bits s n i) e)

six : numeral 6 ≡ 54 ∷ []
unfolding digits_in
six = refl

-- `i refused 6`
pub not_finite_line : (rows : List Row) (s : List ℕ) (n i : ℕ) → NotFinite s n i
    → stamp_line Numbers rows s n i ≡ ((numeral i ++ (32 ∷ [])) ++ (refused_word ++ (54 ∷ []))) ++ (10 ∷ [])
unfolding stamp_line shown reported
not_finite_line rows s n i d =
    ap (λ (o : Outcome (List ℕ)). ((numeral i ++ (32 ∷ [])) ++ shown Numbers (stamp_at s n i) o) ++ (10 ∷ [])) (not_finite_refused rows s n i d)
    ∙ ap (λ (t : List ℕ). ((numeral i ++ (32 ∷ [])) ++ (refused_word ++ t)) ++ (10 ∷ [])) six

pub not_finite_one : (rows : List Row) (s : List ℕ) (n i : ℕ) → NotFinite s n i → one_if_refused (text_at rows s n i) ≡ 1
unfolding one_if_refused
not_finite_one rows s n i d = ap one_if_refused (not_finite_refused rows s n i d)

-- ---- the test says which stamps are not finite
pub not_finite_tested : (s : List ℕ) (n i : ℕ) → NotFinite s n i → is_not_finite s n i ≡ true
unfolding is_not_finite
not_finite_tested s n i (inl e) = ap (λ (b : Bool). b || eqb (exponent_field (jd2_bits s n i)) 2047) (eq-eqb _ _ e)
not_finite_tested s n i (inr e) = by (eqb (exponent_field (jd1_bits s i)) 2047) _ (eq-eqb _ _ e)
  where
    by : (a b : Bool) → b ≡ true → a || b ≡ true
    by true b e = refl
    by false b e = e

pub tested-not-finite : (s : List ℕ) (n i : ℕ) → is_not_finite s n i ≡ true → NotFinite s n i
unfolding is_not_finite
tested-not-finite s n i = by (eqb (exponent_field (jd1_bits s i)) 2047) refl
  where
    by : (a : Bool) → eqb (exponent_field (jd1_bits s i)) 2047 ≡ a → a || eqb (exponent_field (jd2_bits s n i)) 2047 ≡ true → NotFinite s n i
    by true p e = inl (eqb-true _ _ p)
    by false p e = inr (eqb-true _ _ e)

-- ---- THE COUNT of a block's header is at least the number of its stamps that are not finite
pub not_finite_counted : (rows : List Row) (s : List ℕ) (n k : ℕ) → not_finite_in s n k ≤ refused_in rows s n k
unfolding not_finite_in refused_in
not_finite_counted rows s n zero = omega arith
not_finite_counted rows s n (suc k) = let before = not_finite_counted rows s n k in let one = by (is_not_finite s n k) refl in omega arith
  where
    by : (b : Bool) → is_not_finite s n k ≡ b → cond b 1 0 ≤ one_if_refused (text_at rows s n k)
    by true e = omega (arith, not_finite_one rows s n k (tested-not-finite s n k e))
    by false e = omega arith

-- and it is that number where each stamp is not finite or has a text
one_each : (rows : List Row) (s : List ℕ) (n i : ℕ) → NotFinite s n i ⊎ HasText rows s n i → one_if_refused (text_at rows s n i) ≡ cond
    (is_not_finite s n i) 1 0
unfolding one_if_refused
one_each rows s n i (inl d) = not_finite_one rows s n i d ∙ ap (λ (b : Bool). cond {A = ℕ} b 1 0) (sym (not_finite_tested s n i d))
one_each rows s n i (inr h) = by (is_not_finite s n i) refl
  where
    by : (b : Bool) → is_not_finite s n i ≡ b → one_if_refused (text_at rows s n i) ≡ cond b 1 0
    by true e = absurd (not_both (text_at rows s n i) h.text 6 h.is (not_finite_refused rows s n i (tested-not-finite s n i e)))
    by false e = ap one_if_refused h.is

pub only-not-finite : (rows : List Row) (s : List ℕ) (n k : ℕ) → ((i : ℕ) → i < k → NotFinite s n i ⊎ HasText rows s n i)
    → refused_in rows s n k ≡ not_finite_in s n k
unfolding not_finite_in refused_in
only-not-finite rows s n zero f = refl
only-not-finite rows s n (suc k) f = let before = only-not-finite rows s n k (λ i h. f i (omega arith)) in let one =
    one_each rows s n k (f k (omega arith)) in omega arith

pub not_finite_header : (how : Reporting) (rows : List Row) (s : List ℕ) (n : ℕ) → block_of s ≡ answer n
    → ((i : ℕ) → i < n → NotFinite s n i ⊎ HasText rows s n i)
    → listing how rows s ≡ header n (not_finite_in s n n) ++ stamp_lines how rows s n n
unfolding listing listing_of
not_finite_header how rows s n e f = ap (λ (o : Outcome ℕ). listing_of how rows o s) e
    ∙ ap (λ (k : ℕ). header n k ++ stamp_lines how rows s n n) (only-not-finite rows s n n f)
