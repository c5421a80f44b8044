-- The bytes that the code makes are the text, and what a buffer is after the text was put or refused. Assumes nothing.
use Prim.Native.Nat.{ℕ, ◌-◌, ◌/◌, ◌<◌, ◌≤◌}
use native.Mathlib.Nat.{le_refl}
use mathlib.Core.Path.{◌≡◌, refl, sym, ap, ◌∙◌, subst}
use mathlib.Core.List.{List, ◌∷◌, ◌++◌}
use mathlib.Core.Bool.{Bool, true, false, not, cond}
use lib.ListN.{length, take, drop, length-drop}
use lib.Seq.{take_all, take-length}
use lib.IntN.{ℤ, pos, negsuc, nat_abs}
use lib.Signed.{non_neg}
use lib.Dec.{ltb}
use borrow.Author.Tests.{le-leb, lt-leb}
use mir.Syntax.{w32}
use mir.Val.{SFits, to_z, of_z}
use mir.Facts.{to_z-of_z}
use Rattle.std.specs.Prelude.{Result, Ok, Err}
use Rattle.refusals.specs.Refusal.{refusal_number}
use Rattle.refusals.specs.declared.Refusal.{Refusal}
use Rattle.refusals.specs.declared.Refusal.TheVariants.{NoRoom}
use Rattle.refusals.specs.Outcome.{answer, outcome}
use Rattle.calendar.specs.declared.CalendarDate.{CalendarDate}
use Rattle.time_of_day.specs.declared.TimeOfDay.{TimeOfDay}
use Rattle.utc.specs.text.Text.{last, three, four, five, six, seven, after_year, year_text, utc_text}
use Rattle.utc.specs.text.Answer.{text_written, buffer_after, TextPut}
use Rattle.utc.specs.text.Layout.{signed, basic_year, third, fourth, skipped, wide}

-- ---- the year
pub year_is : (y : ℤ) → signed (not (non_neg y)) (nat_abs y) ≡ year_text y
unfolding signed year_text
year_is (pos n) = refl
year_is (negsuc n) = refl

pub basic-is : (neg : Bool) (n : ℕ) → basic_year neg n ≡ true → four n ≡ signed neg n
unfolding basic_year signed
basic-is true n e = cc
basic-is false n e = sym (ap (λ (b : Bool). cond b (four n) (cond (ltb n 100000) (five n) (cond (ltb n 1000000) (six n) (seven n)))) e)

-- ---- the 26 bytes, less those that are skipped
module _ (y : ℕ) (d : CalendarDate) (u : TimeOfDay) where
  with_sign : (b : Bool) → drop (cond b 3 2) (wide 45 (cond b 45 (last (y / 1000))) y ++ after_year d u) ≡ (45 ∷ cond b (three y) (four y)) ++ after_year d u
  with_sign true = refl
  with_sign false = refl

  no_sign : (a b c : Bool)
      → drop (cond a 3 (cond b 2 (cond c 1 0))) (wide (last (y / 10000)) (last (y / 1000)) y ++ after_year d u)
      ≡ cond a (four y) (cond b (five y) (cond c (six y) (seven y))) ++ after_year d u
  no_sign true b c = refl
  no_sign false true c = refl
  no_sign false false true = refl
  no_sign false false false = refl

  text-is : (neg : Bool) → drop (skipped neg y) (wide (third neg y) (fourth neg y) y ++ after_year d u) ≡ signed neg y ++ after_year d u
  unfolding skipped third fourth signed
  text-is true = with_sign (ltb y 1000)
  text-is false = no_sign (ltb y 10000) (ltb y 100000) (ltb y 1000000)

  pub wide-length : (neg : Bool) → length (signed neg y ++ after_year d u) ≡ 26 - skipped neg y
  wide-length neg = ap length (sym (text-is neg)) ∙ simp length-drop

  -- what the code lends to `bytes::copy`
  pub source : (neg : Bool) (all : List ℕ) (c2 c3 k : ℕ) → c2 ≡ third neg y → c3 ≡ fourth neg y → k ≡ skipped neg y → all ≡ wide c2 c3 y ++ after_year d u
      → take (26 - k) (drop k all) ≡ signed neg y ++ after_year d u
  source neg all c2 c3 k e2 e3 ek e =
      let it : drop k all ≡ signed neg y ++ after_year d u = cc (text-is neg) in
      let n : length (signed neg y ++ after_year d u) ≡ 26 - skipped neg y = wide-length neg in
      ap (take (26 - k)) it ∙ take_all (26 - k) _ (rw (n, ek) (le_refl _))

  pub basic-source : (all : List ℕ) (c2 c3 : ℕ) → c3 ≡ fourth false y → all ≡ wide c2 c3 y ++ after_year d u → take 23 (drop 3 all) ≡ four y ++ after_year d u
  unfolding fourth
  basic-source all c2 c3 e3 e = ap (λ (x : List ℕ). take 23 (drop 3 x)) (e ∙ ap (λ (c : ℕ). wide c2 c y ++ after_year d u) e3)

-- ---- a text put, or refused
pub short : (t l : List ℕ) → length l < length t → TextPut t l (Err NoRoom) l
unfolding outcome text_written buffer_after refusal_number
short t l h = record { says = simp (lt-leb _ _ h); holds = simp (lt-leb _ _ h) }

-- after the copy of src, which is the text
pub put-done : (src t l out : List ℕ) (r : ℕ) → src ≡ t → r ≡ length src → out ≡ take (length src) src ++ drop (length src) l → length t ≤ length l
    → TextPut t l (Ok r) out
unfolding outcome text_written buffer_after
put-done src t l out r e er eo h = record {
  says = ap answer (er ∙ ap length e) ∙ simp (le-leb _ _ h);
  holds = eo ∙ ap (λ (x : List ℕ). x ++ drop (length src) l) (take-length src) ∙ ap (λ (x : List ℕ). x ++ drop (length x) l) e ∙ simp (le-leb _ _ h);
}

-- by a date and a time
pub of_date : (d : CalendarDate) (u : TimeOfDay) (neg : Bool) (n : ℕ) (y l out : List ℕ) (r : Result ℕ Refusal) → SFits w32 d.year
    → neg ≡ not (non_neg (to_z w32 (of_z w32 d.year)))
    → n ≡ nat_abs (to_z w32 (of_z w32 d.year)) → y ≡ signed neg n → TextPut (y ++ after_year d u) l r out → TextPut (utc_text d u) l r out
unfolding utc_text
of_date d u neg n y l out r fit en es ey p =
    let e : to_z w32 (of_z w32 d.year) ≡ d.year = to_z-of_z fit in
    subst (λ (x : List ℕ). TextPut (x ++ after_year d u) l r out)
    (ey ∙ ap (λ (b : Bool). signed b n) (en ∙ ap (λ (z : ℤ). not (non_neg z)) e) ∙ ap (signed (not (non_neg d.year))) (es ∙ ap nat_abs e) ∙ year_is d.year) p
