-- UTC text with expanded years: the bytes that the code puts are the text; the text reads back, has its form, and is document 01's but for the years that four
-- digits do not hold. Assumes nothing.
use Prim.Native.Nat.{ℕ, suc, ◌+◌, ◌-◌, ◌/◌, ◌<◌, ◌≤◌}
use native.Mathlib.Omega.{arith}
use native.Mathlib.Nat.{le_refl}
use mathlib.Core.Path.{◌≡◌, refl, sym, ap, ◌∙◌, subst}
use mathlib.Core.Logic.{◌⊎◌, inl, inr}
use mathlib.Core.List.{List, [], ◌∷◌, ◌++◌, append-nil}
use mathlib.Core.Bool.{Bool, true, false, not, cond}
use lib.ListN.{length, take, drop, set}
use lib.Seq.{take_all, take-length, drop-length}
use lib.IntN.{ℤ, pos, negsuc, nat_abs}
use lib.Signed.{lt_z, non_neg}
use lib.Dec.{ltb}
use borrow.Author.Tests.{le-leb, ltb-true, ltb-false, lt-ltb}
use mir.Syntax.{w32}
use mir.Val.{SFits, to_z, of_z}
use mir.Facts.{to_z-of_z}
use Rattle.std.specs.Prelude.{Result, Ok}
use Rattle.refusals.specs.declared.Refusal.{Refusal}
use Rattle.refusals.specs.Outcome.{answer, outcome}
use Rattle.calendar.specs.declared.CalendarDate.{CalendarDate}
use Rattle.time_of_day.specs.declared.TimeOfDay.{TimeOfDay}
use Rattle.utc.specs.text.Ascii.{ascii_bytes}
use Rattle.utc.specs.text.Text.{three, four, seven, after_year, year_text, utc_text}
use Rattle.utc.specs.text.Expanded.{expanded_year, expanded_text}
use Rattle.utc.specs.text.Layout.{basic_year, third, fourth, wide}
use Rattle.utc.specs.text.Answer.{text_written, buffer_after, TextPut}
use Rattle.utc.specs.text.ReadBack.{number, signed_number, ReadsAs, Writable}
use Rattle.utc.specs.text.ExpandedForm.{ExpandedYear, basic, plus, minus, ExpandedForm}
use Rattle.utc.proofs.text.ReadBack.{four_is, seven_is, no_sign, with_sign, front_of, year-and-rest}
use Rattle.utc.proofs.text.Form.{four-digits, seven-digits, rest-formed}

-- four digits, or the sign and seven
pub expanded-is : (y : ℤ) (b : Bool) → basic_year (not (non_neg y)) (nat_abs y) ≡ b
    → cond b (four (nat_abs y)) (cond (not (non_neg y)) 45 43 ∷ seven (nat_abs y)) ≡ expanded_year y
unfolding expanded_year basic_year
expanded-is (pos n) b e = ap (λ (c : Bool). cond c (four n) (43 ∷ seven n)) (sym e)
expanded-is (negsuc n) b e = ap (λ (c : Bool). cond c (four (suc n)) (45 ∷ seven (suc n))) (sym e)

-- ---- the bytes that the code copies behind the sign
pub seven-source : (y : ℕ) (d : CalendarDate) (u : TimeOfDay) (all : List ℕ) (c2 c3 : ℕ) → c2 ≡ third false y → c3 ≡ fourth false y → all ≡ wide c2 c3 y
    ++ after_year d u → all ≡ seven y ++ after_year d u
unfolding third fourth
seven-source y d u all c2 c3 e2 e3 e = e ∙ (λ i. wide (e2 i) (e3 i) y ++ after_year d u)

-- after the copy of t into all of the buffer but its first place, and a sign there
pub sign-done : (t l ys : List ℕ) (s n : ℕ) → length t < length l → n ≡ length t → ys ≡ take (length t) t ++ drop (length t) (take (length l - 1) (drop 1 l))
    → TextPut (s ∷ t) l (Ok (1 + n)) (set (take 1 l ++ (ys ++ drop (length l - 1) (drop 1 l))) 0 s)
unfolding outcome text_written buffer_after
sign-done t [] ys s n h en ey = let z : ⊥ = omega arith in absurd z
sign-done t (x ∷ m) ys s n h en ey =
    let fits : length (s ∷ t) ≤ length (x ∷ m) = omega arith in
    let same : 1 + n ≡ length (s ∷ t) = omega arith in
    let one : length (x ∷ m) - 1 ≡ length m = omega arith in
    let tail : ys ≡ t ++ drop (length t) m = ey ∙ ap (λ (k : ℕ). take (length t) t ++ drop (length t) (take k m)) one
    ∙ (λ i. take-length t i ++ drop (length t) (take_all (length m) m (le_refl (length m)) i)) in
    let end : drop (length (x ∷ m) - 1) m ≡ [] = ap (λ (k : ℕ). drop k m) one ∙ drop-length m in
    let after : ys ++ drop (length (x ∷ m) - 1) m ≡ t ++ drop (length t) m = ap (λ (z : List ℕ). ys ++ z) end ∙ append-nil ys ∙ tail in
    record {
      says = ap answer same ∙ simp (le-leb _ _ fits);
      holds = ap (λ (z : List ℕ). s ∷ z) after ∙ simp (le-leb _ _ fits);
    }

pub signed-put : (neg : Bool) (y : ℕ) (d : CalendarDate) (u : TimeOfDay) (l all ys : List ℕ) (s n : ℕ) → s ≡ cond neg 45 43 → all ≡ seven y ++ after_year d u
    → 27 ≤ length l → n ≡ length all
    → ys ≡ take (length all) all ++ drop (length all) (take (length l - 1) (drop 1 l))
    → TextPut ((cond neg 45 43 ∷ seven y) ++ after_year d u) l (Ok (1 + n)) (set (take 1 l ++ (ys ++ drop (length l - 1) (drop 1 l))) 0 s)
signed-put neg y d u l all ys s n es ea h en ey =
    let many : length all ≡ 26 = ap length ea in
    subst (λ (t : List ℕ). TextPut t l (Ok (1 + n)) (set (take 1 l ++ (ys ++ drop (length l - 1) (drop 1 l))) 0 s)) (λ i. es i ∷ ea i)
    (sign-done all l ys s n (omega arith) en ey)

-- by a date and a time
pub of_expanded : (d : CalendarDate) (u : TimeOfDay) (neg b : Bool) (n : ℕ) (l out : List ℕ) (r : Result ℕ Refusal) → SFits w32 d.year
    → neg ≡ not (non_neg (to_z w32 (of_z w32 d.year)))
    → n ≡ nat_abs (to_z w32 (of_z w32 d.year)) → basic_year neg n ≡ b → TextPut (cond b (four n) (cond neg 45 43 ∷ seven n) ++ after_year d u) l r out
    → TextPut (expanded_text d u) l r out
unfolding expanded_text
of_expanded d u neg b n l out r fit en es eb p =
    let e : to_z w32 (of_z w32 d.year) ≡ d.year = to_z-of_z fit in
    let ne : neg ≡ not (non_neg d.year) = en ∙ ap (λ (z : ℤ). not (non_neg z)) e in
    let se : n ≡ nat_abs d.year = es ∙ ap nat_abs e in
    subst (λ (x : List ℕ). TextPut (x ++ after_year d u) l r out)
    ((λ i. cond b (four (se i)) (cond (ne i) 45 43 ∷ seven (se i))) ∙ expanded-is d.year b ((λ i. basic_year (sym ne i) (sym se i)) ∙ eb)) p

-- ---- WHAT IS WRITTEN
-- the year reads back
year-read : (y : ℤ) → lt_z y (negsuc 4899) ≡ false → lt_z (pos 2733194) y ≡ false → signed_number (expanded_year y) ≡ y
unfolding expanded_year signed_number
year-read (pos n) l h = go (ltb n 10000) refl
  where
    k : n ≤ 2733194
    k = ltb-false 2733194 n h

    with_plus : (cs : List ℕ) → number cs ≡ n → signed_number (43 ∷ cs) ≡ pos n
    with_plus cs e = ap pos e

    go : (b : Bool) → ltb n 10000 ≡ b → signed_number (cond b (four n) (43 ∷ seven n)) ≡ pos n
    go true e = no_sign (n / 1000) n (three n) (four_is n (ltb-true n 10000 e))
    go false e = with_plus (seven n) (seven_is n (omega (arith, k)))
year-read (negsuc n) l h = let k : n ≤ 4899 = ltb-false 4899 n l in with_sign n (seven (suc n)) (seven_is (suc n) (omega arith))

pub expanded-reads-back : (d : CalendarDate) (u : TimeOfDay) → Writable d u → ReadsAs (expanded_text d u) d u
unfolding expanded_text
expanded-reads-back d u w = year-and-rest (expanded_year d.year) d u (year-read d.year w.year_low w.year_high) w

-- 23 bytes or 27, of every date
pub expanded-length : (d : CalendarDate) (u : TimeOfDay) → (length (expanded_text d u) ≡ 23) ⊎ (length (expanded_text d u) ≡ 27)
unfolding expanded_text expanded_year
expanded-length d u = go d.year
  where
    either : (n : ℕ) (b : Bool) → (length (cond b (four n) (43 ∷ seven n) ++ after_year d u) ≡ 23)
        ⊎ (length (cond b (four n) (43 ∷ seven n) ++ after_year d u) ≡ 27)
    either n true = inl refl
    either n false = inr refl

    go : (y : ℤ) → (length (expanded_year y ++ after_year d u) ≡ 23) ⊎ (length (expanded_year y ++ after_year d u) ≡ 27)
    go (pos n) = either n (ltb n 10000)
    go (negsuc n) = inr refl

-- the form of the year
year-form : (y : ℤ) → lt_z y (negsuc 4899) ≡ false → lt_z (pos 2733194) y ≡ false → ExpandedYear (expanded_year y)
unfolding expanded_year
year-form (pos n) l h = go (ltb n 10000) refl
  where
    k : n ≤ 2733194
    k = ltb-false 2733194 n h

    go : (b : Bool) → ltb n 10000 ≡ b → ExpandedYear (cond b (four n) (43 ∷ seven n))
    go true e = basic (record { many = refl; all = four-digits n })
    go false e = plus (record { many = refl; all = seven-digits n }) (omega (arith, seven_is n (omega (arith, k)), ltb-false n 10000 e))
year-form (negsuc n) l h =
    let k : n ≤ 4899 = ltb-false 4899 n l in
    minus (record { many = refl; all = seven-digits (suc n) }) (omega (arith, seven_is (suc n) (omega arith)))

pub expanded-formed : (d : CalendarDate) (u : TimeOfDay) → Writable d u → ExpandedForm (expanded_text d u)
unfolding expanded_text
expanded-formed d u w = record {
  year = subst ExpandedYear (sym (front_of (expanded_year d.year) (after_year d u) refl)) (year-form d.year w.year_low w.year_high);
  rest = rest-formed (expanded_year d.year) d u;
  bytes = expanded-length d u;
}

-- ---- BESIDE DOCUMENT 01'S TEXT: the same for years 0 to 9999
pub expanded-same : (d : CalendarDate) (u : TimeOfDay) (n : ℕ) → d.year ≡ pos n → n ≤ 9999 → expanded_text d u ≡ utc_text d u
unfolding expanded_text utc_text expanded_year year_text
expanded-same d u n e h = ap (λ (y : List ℕ). y ++ after_year d u) (ap expanded_year e ∙ same ∙ sym (ap year_text e))
  where
    same : expanded_year (pos n) ≡ year_text (pos n)
    same = rw (lt-ltb n 10000 (omega arith))

-- and of any year the same bytes behind it
pub expanded-rest : (d : CalendarDate) (u : TimeOfDay) → (expanded_text d u ≡ expanded_year d.year ++ after_year d u)
    × (utc_text d u ≡ year_text d.year ++ after_year d u)
unfolding expanded_text utc_text
expanded-rest d u = (refl, refl)

-- ---- CASES: document 02's, and the years at the edges
pub expanded-1-before : expanded_year (negsuc 0) ≡ ascii_bytes "-0000001"
unfolding expanded_year
expanded-1-before = refl

pub expanded-12000 : expanded_year (pos 12000) ≡ ascii_bytes "+0012000"
unfolding expanded_year
expanded-12000 = refl

pub expanded-0 : expanded_year (pos 0) ≡ ascii_bytes "0000"
unfolding expanded_year
expanded-0 = refl

pub expanded-9999 : expanded_year (pos 9999) ≡ ascii_bytes "9999"
unfolding expanded_year
expanded-9999 = refl

pub expanded-10000 : expanded_year (pos 10000) ≡ ascii_bytes "+0010000"
unfolding expanded_year
expanded-10000 = refl

pub expanded-last : expanded_year (pos 2733194) ≡ ascii_bytes "+2733194"
unfolding expanded_year
expanded-last = refl
