-- WHICH FIELD A SENTENCE NAMES, what the second listing prints, and a sentence that is longer than its buffer. Assumes nothing.
use mathlib.Core.Path.{◌≡◌, ap, refl, ◌∙◌}
use mathlib.Core.Bool.{Bool, cond, false, true}
use mathlib.Core.Logic.{◌⊎◌, inl, inr}
use mathlib.Core.List.{List}
use Prim.Native.Nat.{ℕ}
use native.Mathlib.Omega.{arith}
use lib.IntN.{ℤ}
use lib.ListN.{length}
use lib.Ieee.{Float}
use lib.Ieee.Scale.{finite}
use borrow.Author.Tests.{lt-leb}
use Rattle.refusals.specs.Outcome.{answer, refusal}
use Rattle.refusals.proofs.Onward.{went}
use Rattle.julian.specs.declared.JulianDate.{JulianDate}
use Rattle.julian.specs.JulianDate.{julian}
use Rattle.julian.specs.DayFraction.{day_fraction}
use Rattle.julian.specs.Finite.{finite_arg, finite_jd, finite_parts}
use Rattle.leap_table.specs.rows.Table.{Row}
use Rattle.utc.specs.text.Answer.{text_written}
use Rattle.utc.specs.iso_texts.TextCall.{written}
use Rattle.reasons.specs.Offending.{offending}
use Rattle.reasons.specs.declared.Values.{Values}
use Rattle.reasons.specs.declared.Values.TheVariants.{Number, Parts, Time}
use Rattle.reasons.specs.declared.sentences.Named.TheVariants.{FirstPart, NoField, SecondPart}
use Rattle.stamps.specs.declared.Reporting.{Reporting}
use Rattle.stamps.specs.reason_laws.Named.{FieldNamed, Names, SentencesPrinted, TooLongIs11}
use Rattle.stamps.proofs.listing_laws.Sentences as Second
use Rattle.stamps.proofs.reason_laws.Names as Reported

-- ---- a sentence that is longer than its buffer
pub too_long_is_11 : (k : ℕ) (v : Values) → TooLongIs11 k v
unfolding written text_written
too_long_is_11 k v s before after r e h call =
    call.says ∙ went (λ (x : List ℕ). text_written x (length before)) e
    ∙ ap (λ (b : Bool). cond b (answer (length s)) (refusal 11)) (lt-leb (length s) (length before) h)

-- ---- fields
given : {A : Type 0} (a x : A) (k : ℕ) (b : Bool) → cond b (answer a) (refusal k) ≡ answer x → cond b (answer a) (refusal k) ≡ answer a
given a x k true e = refl
given a x k false e = let z : ◌≡◌ {A = ℕ} 0 1 = cc in absurd (omega arith)

part-named : (a b : Float) → finite_jd (julian a b) ≡ refusal 9 → Names 9 (Parts a b) (cond (finite a) (SecondPart b) (FirstPart a))
part-named a b e = go (Reported.part-reported (julian a b) e)
  where
    go : ((finite a ≡ false) × Names 9 (Parts a b) (FirstPart a)) ⊎ ((finite a ≡ true) × Names 9 (Parts a b) (SecondPart b))
        → Names 9 (Parts a b) (cond (finite a) (SecondPart b) (FirstPart a))
    go (inl p) = rw p.0 p.1
    go (inr p) = rw p.0 p.1

parts-pass : (a b : Float) (x : JulianDate) → finite_jd (julian a b) ≡ answer x → offending 9 (Parts a b) ≡ NoField
unfolding finite_jd
parts-pass a b x e = Reported.parts-pass (julian a b) (given (julian a b) x 9 (finite_parts (julian a b)) e)

offset-passes : (a x : Float) → finite_arg a ≡ answer x → offending 10 (Number a) ≡ NoField
unfolding finite_arg
offset-passes a x e = Reported.offset-passes a (given a x 10 (finite a) e)

time-passes : (h n : ℕ) (a b x : Float) → day_fraction h n a b ≡ answer x → offending 4 (Time h n a b) ≡ NoField
unfolding offending
time-passes h n a b x e = Reported.time-passes h n a b x e

pub field_named : (rows : List Row) (y m d : ℤ) (h n : ℕ) (a b : Float) (s : List ℕ) → FieldNamed rows y m d h n a b s
field_named rows y m d h n a b s = record {
  year = (Reported.year-reported y m d, λ _. Reported.date-passes y m d 1);
  month = (Reported.month-reported y m d, λ _. Reported.date-passes y m d 2);
  day = (Reported.day-reported y m d, λ _. Reported.date-passes y m d 3);
  hour = Reported.hour-reported h n a b;
  minute = Reported.minute-reported h n a b;
  second = Reported.second-reported h n a b;
  time = time-passes h n a b;
  sum = (Reported.sum-reported a b, Reported.sum-passes a b);
  fraction = (Reported.fraction-reported rows y m d a, Reported.fraction-passes rows y m d a);
  nanos = (Reported.unix_nanos_reported rows y n, Reported.unix_nanos_pass rows y n);
  part = (part-named a b, parts-pass a b);
  offset = (Reported.offset-reported a, offset-passes a);
  second_size = (Reported.second-size-reported s, Reported.block-passes s 12);
  size = (Reported.size-reported s, Reported.block-passes s 13);
  whole_length = (Reported.length-reported s, Reported.block-passes s 14);
}

pub sentences_printed : (rows : List Row) (how other : Reporting) (m n i line : ℕ) (s : List ℕ) → SentencesPrinted rows how other m n i line s
sentences_printed rows how other m n i line s = record {
  stamp_by_6 = Second.sum-line m rows s n i;
  stamp_by_1 = Second.year-line m rows s n i;
  block_by_12 = Second.second-size-line m rows s line;
  block_by_13 = Second.size-line m rows s line;
  block_by_14 = Second.length-line rows s line;
  with-text = Second.text-line-shared how other rows s n i;
  header = Second.header-shared how other rows s n;
}
