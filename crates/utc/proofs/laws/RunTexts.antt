-- WHAT THE TEXTS OF A RUN MEAN, for every run of every length: when the call is answered, each stamp's text, length and number, the count, and the stamps that
-- are not finite. Assumes nothing.
use Prim.Native.Nat.{ℕ, ◌*◌, ◌/◌, ◌%◌, ◌<◌, ◌≤◌}
use native.Mathlib.Omega.{arith}
use mathlib.Core.Path.{◌≡◌, refl, sym, ap, subst, ◌∙◌}
use mathlib.Core.Logic.{◌⊎◌, inl, inr}
use mathlib.Core.Bool.{Bool, true, false, cond, ◌&&◌}
use mathlib.Core.List.{List}
use lib.Dec.{eqb}
use lib.ListN.{length, get_or}
use lib.Ieee.{binary64, of_bits}
use lib.Ieee.Scale.{finite}
use borrow.Author.Tests.{eq-eqb}
use Rattle.refusals.specs.Outcome.{Outcome, answer, refusal}
use Rattle.floats.proofs.ExponentField.{field_not_finite}
use Rattle.numerals.specs.little_endian.LittleEndian.{u64_at, eight_bytes}
use Rattle.numerals.specs.little_endian.Written.{all_bytes}
use Rattle.numerals.proofs.little_endian.Items.{written-length}
use Rattle.julian.specs.JulianDate.{julian}
use Rattle.julian.specs.stamp_lists.Stamps.{stamp_of}
use Rattle.julian.proofs.stamp_lists.Written.{stamp-of-lists}
use Rattle.leap_table.specs.rows.Table.{Row}
use Rattle.utc.specs.declared.iso_texts.NamedForm.{NamedForm}
use Rattle.utc.specs.iso_texts.IsoText.{iso_text_by}
use Rattle.utc.specs.iso_texts.Named.{form_named}
use Rattle.utc.specs.run_texts.RunTexts.{stamp_text, length_byte, refusal_byte, TextsCall, texts_call, texts_written, texts_refusal, texts_by, texts_of_run}
use Rattle.utc.specs.laws.RunTexts.{TextDone, BehindStays, numbers_not_zero, StampPartNotFinite, TextsDue}
use Rattle.utc.proofs.run_texts.Calls.{fitting, none-refused}
use Rattle.utc.proofs.laws.Numbers.{text-numbers-by, not_finite_by}
use Rattle.utc.proofs.laws.NamedTexts.{named-text-few}
use Rattle.utc.proofs.laws.RunTextsBytes.{texts-beyond, text_at, behind-at, refused-at, bytes-beyond, byte_at, counted}

-- ---- ANSWERED EXACTLY WHEN the parts are n of each, with room for n texts, n lengths and n numbers
module _ (size1 size2 room1 room2 room3 : ℕ) where
  pub due_answered : (n : ℕ) → TextsDue n size1 size2 room1 room2 room3 → texts_refusal size1 size2 room1 room2 room3 ≡ 0
  due_answered n d =
      let w : size1 % 8 ≡ 0 = omega (arith, d.first) in
      let w2 : size2 % 8 ≡ 0 = omega (arith, d.second) in
      let s : size1 ≡ size2 = omega (arith, d.first, d.second) in
      let q : size1 / 8 ≡ n = omega (arith, d.first) in
      sym (none-refused size1 size2 room1 room2 room3 w w2 s (omega (arith, d.places)) (omega (arith, d.bytes)) (omega (arith, d.bytes2)))

  pub answered-due : texts_refusal size1 size2 room1 room2 room3 ≡ 0 → TextsDue (size1 / 8) size1 size2 room1 room2 room3
  answered-due z =
      let f = fitting size1 size2 room1 room2 room3 z in
      record {
        first = omega (arith, f.whole1);
        second = omega (arith, f.whole1, f.same);
        places = f.places;
        bytes = f.bytes;
        bytes2 = f.bytes2;
      }

-- a witness at each end: one stamp, and nine million; then the order, by lengths that break each rule and all behind it
pub refusals_in_order :
    (texts_refusal 8 8 27 1 1 ≡ 0) × (texts_refusal 8 8 26 1 1 ≡ 11) × (texts_refusal 8 8 27 0 1 ≡ 11) × (texts_refusal 8 8 27 1 0 ≡ 11)
    × (texts_refusal 72000000 72000000 243000000 9000000 9000000 ≡ 0) × (texts_refusal 72000000 72000000 242999999 9000000 9000000 ≡ 11)
    × (texts_refusal 0 0 0 0 0 ≡ 0) × (texts_refusal 7 0 0 0 0 ≡ 14) × (texts_refusal 8 15 0 0 0 ≡ 14) × (texts_refusal 8 0 0 0 0 ≡ 12)
    × (texts_refusal 8 16 0 0 0 ≡ 12)
unfolding texts_refusal
refusals_in_order = (refl, refl, refl, refl, refl, refl, refl, refl, refl, refl, refl)

-- ---- A REFUSED CALL writes nothing
pub refused-writes-nothing : (textForm : NamedForm) (o : Outcome (List Row)) (js ks texts lengths numbers : List ℕ) (k : ℕ)
    → (texts_of_run (form_named textForm) o js ks texts lengths numbers).answer ≡ refusal k
    → texts_of_run (form_named textForm) o js ks texts lengths numbers ≡ texts_call (refusal k) texts lengths numbers
unfolding texts_of_run texts_by texts_written
refused-writes-nothing textForm (refusal m) js ks texts lengths numbers k e = ap (λ (x : Outcome ℕ). texts_call x texts lengths numbers) e
refused-writes-nothing textForm (answer rows) js ks texts lengths numbers k e = go (eqb number 0) e
  where
    number : ℕ
    number = texts_refusal (length js) (length ks) (length texts) (length lengths) (length numbers)

    go : (b : Bool) → (cond b (texts_written (stamp_text (form_named textForm) rows js ks) (length js / 8) texts lengths numbers)
        (texts_call (refusal number) texts lengths numbers)).answer ≡ refusal k
        → cond b (texts_written (stamp_text (form_named textForm) rows js ks) (length js / 8) texts lengths numbers)
        (texts_call (refusal number) texts lengths numbers) ≡ texts_call (refusal k) texts lengths numbers
    go true q = let z : ◌≡◌ {A = ℕ} 0 1 = cc q in let w : ⊥ = omega arith in absurd w
    go false q = ap (λ (x : Outcome ℕ). texts_call x texts lengths numbers) q

-- ---- the numbers 1 and 6 are their bytes
small-number : (textForm : NamedForm) (rows : List Row) (js ks : List ℕ) (i k : ℕ) → stamp_text (form_named textForm) rows js ks i ≡ refusal k → k % 256 ≡ k
small-number textForm rows js ks i k e = by (text-numbers-by (form_named textForm) rows (stamp_of js ks i) k e)
  where
    by : (k ≡ 6) ⊎ (k ≡ 1) → k % 256 ≡ k
    by (inl h) = omega arith
    by (inr h) = omega arith

-- ---- a call that is not refused, on n stamps
module _ (textForm : NamedForm) (rows : List Row) (js ks texts lengths numbers : List ℕ) (n : ℕ)
    (due : TextsDue n (length js) (length ks) (length texts) (length lengths) (length numbers)) where
  abbrev f : ℕ → Outcome (List ℕ)
  f = stamp_text (form_named textForm) rows js ks

  abbrev call : TextsCall
  call = texts_of_run (form_named textForm) (answer rows) js ks texts lengths numbers

  few : (i : ℕ) (t : List ℕ) → f i ≡ answer t → length t ≤ 27
  few i t e = named-text-few textForm rows (stamp_of js ks i) t e

  done : call ≡ texts_written f n texts lengths numbers
  unfolding texts_of_run texts_by
  done =
      let q : length js / 8 ≡ n = omega (arith, due.first) in
      rw (eq-eqb _ 0 (due_answered (length js) (length ks) (length texts) (length lengths) (length numbers) n due), q)

  written : (i : ℕ) → i < n → TextDone (f i) i texts (texts_written f n texts lengths numbers)
  unfolding texts_written length_byte refusal_byte
  written i h = record {
    measured = λ t e. byte_at length_byte f lengths n i h due.bytes ∙ ap length_byte e;
    answered = λ t e. byte_at refusal_byte f numbers n i h due.bytes2 ∙ ap refusal_byte e;
    written = λ t e k b. text_at f few texts n i k h t e due.places b;
    behind = λ t e k b m. behind-at f few texts n i k h t e b m;
    empty = λ r e. byte_at length_byte f lengths n i h due.bytes ∙ ap length_byte e;
    numbered = λ r e. byte_at refusal_byte f numbers n i h due.bytes2 ∙ ap refusal_byte e ∙ small-number textForm rows js ks i r e;
    stays = λ r e k b. refused-at f few texts n i k h r e b;
  }

  -- EACH STAMP'S TEXT is that of the single call, at its place, with its length and its number
  pub each-text : (i : ℕ) → i < n → TextDone (f i) i texts call
  each-text i h = subst (TextDone (f i) i texts) (sym done) (written i h)

  -- what lies behind the last stamp's places stays
  spare : BehindStays n texts lengths numbers (texts_written f n texts lengths numbers)
  unfolding texts_written
  spare = record {
    first = λ j h. texts-beyond f few texts n j h;
    second = λ j h. bytes-beyond length_byte f lengths n j h;
    third = λ j h. bytes-beyond refusal_byte f numbers n j h;
  }

  pub spare-stays : BehindStays n texts lengths numbers call
  spare-stays = subst (BehindStays n texts lengths numbers) (sym done) spare

  -- THE COUNT is of the numbers that are not 0: the refused stamps, by `each-text`
  counts : (texts_written f n texts lengths numbers).answer ≡ answer (numbers_not_zero n (texts_written f n texts lengths numbers).numbers)
  unfolding texts_written
  counts = ap answer (counted f numbers n n (omega arith) due.bytes2)

  pub count-is : call.answer ≡ answer (numbers_not_zero n call.numbers)
  count-is = subst (λ (c : TextsCall). c.answer ≡ answer (numbers_not_zero n c.numbers)) (sym done) counts

  -- EVERY STAMP THAT IS NOT FINITE is refused by 6, and its number and its length say so
  pub not_finite_refused : (i : ℕ) → StampPartNotFinite js ks i → f i ≡ refusal 6
  unfolding stamp_of
  not_finite_refused i h = not_finite_by (form_named textForm) rows (stamp_of js ks i) (by h)
    where
      no_first : (a b : Bool) → a ≡ false → a && b ≡ false
      no_first a b e = rw e

      no_second : (a b : Bool) → b ≡ false → a && b ≡ false
      no_second true b e = e
      no_second false b e = refl

      by : StampPartNotFinite js ks i → finite (of_bits binary64 (u64_at js (8 * i))) && finite (of_bits binary64 (u64_at ks (8 * i))) ≡ false
      by (inl e) =
          no_first (finite (of_bits binary64 (u64_at js (8 * i)))) (finite (of_bits binary64 (u64_at ks (8 * i)))) (field_not_finite (u64_at js (8 * i)) e)
      by (inr e) =
          no_second (finite (of_bits binary64 (u64_at js (8 * i)))) (finite (of_bits binary64 (u64_at ks (8 * i)))) (field_not_finite (u64_at ks (8 * i)) e)

  pub not_finite_numbered : (i : ℕ) → i < n → StampPartNotFinite js ks i → (get_or call.numbers i 0 ≡ 6) × (get_or call.lengths i 0 ≡ 0)
  not_finite_numbered i h d = ((each-text i h).numbered 6 (not_finite_refused i d), (each-text i h).empty 6 (not_finite_refused i d))

-- ---- THE NUMBERS of refused stamps are 1 and 6, and no other
pub text-refusals : (textForm : NamedForm) (rows : List Row) (js ks : List ℕ) (i k : ℕ) → stamp_text (form_named textForm) rows js ks i ≡ refusal k
    → (k ≡ 6) ⊎ (k ≡ 1)
text-refusals textForm rows js ks i k e = text-numbers-by (form_named textForm) rows (stamp_of js ks i) k e

-- ---- PLACE BY PLACE against the writer: of two lists of n patterns that are written number by number, the text of place i is that of the date of the i-th
-- pattern of each
module _ (textForm : NamedForm) (rows : List Row) (js ks texts lengths numbers : List ℕ) (same : length ks ≡ length js)
    (places : 27 * length js ≤ length texts) (bytes : length js ≤ length lengths) (bytes2 : length js ≤ length numbers) where
  abbrev all : List ℕ → List ℕ
  all l = all_bytes eight_bytes l

  lists-due : TextsDue (length js) (length (all js)) (length (all ks)) (length texts) (length lengths) (length numbers)
  lists-due = record {
    first = written-length eight_bytes 8 (λ x. refl) js;
    second = written-length eight_bytes 8 (λ x. refl) ks ∙ ap (λ (m : ℕ). 8 * m) same;
    places = places;
    bytes = bytes;
    bytes2 = bytes2;
  }

  pub text-of-lists : (i : ℕ) → i < length js → get_or js i 0 < 18446744073709551616 → get_or ks i 0 < 18446744073709551616
      → TextDone (iso_text_by (form_named textForm) rows (julian (of_bits binary64 (get_or js i 0)) (of_bits binary64 (get_or ks i 0)))) i texts
      (texts_of_run (form_named textForm) (answer rows) (all js) (all ks) texts lengths numbers)
  text-of-lists i h small low =
      subst (λ (o : Outcome (List ℕ)). TextDone o i texts (texts_of_run (form_named textForm) (answer rows) (all js) (all ks) texts lengths numbers))
      (ap (iso_text_by (form_named textForm) rows) (stamp-of-lists js ks i h (omega arith) small low))
      (each-text textForm rows (all js) (all ks) texts lengths numbers (length js) lists-due i h)
