-- The scan of the definition is the grammar, both ways: it answers w exactly where the text reads as w, and 15 exactly where it reads as nothing; so a text has
-- one reading. Assumes nothing.
use Prim.Native.Nat.{ℕ}
use native.Mathlib.Omega.{arith}
use mathlib.Core.Path.{◌≡◌, refl, sym, ap, ◌∙◌, subst}
use mathlib.Core.List.{List, [], ◌∷◌, ◌++◌}
use mathlib.Core.Bool.{Bool, true, false, cond, and-eq-true_iff}
use lib.ListN.{length, drop}
use Rattle.refusals.specs.Outcome.{answer, refusal}
use Rattle.numerals.specs.digits.Decimal.{value, number, is_digit}
use Rattle.numerals.proofs.digits.Decimal.{value-append, digit_bounds}
use Rattle.parsing.specs.scan.Written.{Written}
use Rattle.parsing.specs.Grammar.{Pieces, head_of, Reads}
use Rattle.parsing.specs.scan.Form.{after_blanks, byte_at, two_say, date_right, time_right, fraction_digits, after_fraction, zulu_first, end_right, right_form}
use Rattle.parsing.specs.scan.Form.{says, form_of}
use Rattle.parsing.proofs.scan.Bytes.{whole-form}
use Rattle.parsing_laws.proofs.Blanks.{no_blank, front_blanks, front_blank, front_split, skipped}
use Rattle.parsing_laws.proofs.Fractions.{Tail, tail_of, digits_of, after-of, fraction_bytes, fraction-of, fraction-split, end_of, zone_bytes}
use Rattle.parsing_laws.proofs.Fractions.{after_zone, zone-of, zone-split, end-blank}
use Rattle.parsing_laws.proofs.Heads.{Two, two-of, Four, four-of, both, apart, two_digits_lem, four-digits, two-say, four-say, separator-is}
use Rattle.parsing_laws.proofs.Heads.{is-separator, head, date-right, time-right, DateBytes, date-bytes, TimeBytes, time-bytes, nineteen}
use Rattle.parsing_laws.proofs.Heads.{all-nineteen}

-- ---- a text that reads as w is answered so
-- a digit in front is no blank
starts : (c : ℕ) (cs : List ℕ) → is_digit c ≡ true → after_blanks (c ∷ cs) ≡ c ∷ cs
unfolding after_blanks
starts c cs e = let k = digit_bounds c e in rw (no_blank c (omega (arith, k.0)))

module _ {utc : Bool} {t : List ℕ} {w : Written} (r : Reads utc t w) where
  abbrev p : Pieces
  p = r.pieces

  y : Four p.year
  y = four-of p.year r.year

  m : Two p.month
  m = two-of p.month r.month

  d : Two p.day
  d = two-of p.day r.day

  h : Two p.hour
  h = two-of p.hour r.hour

  n : Two p.minute
  n = two-of p.minute r.minute

  s : Two p.second
  s = two-of p.second r.second

  abbrev tail : List ℕ
  tail = p.zone ++ p.after

  abbrev rest : List ℕ
  rest = p.fraction ++ tail

  abbrev whole : List ℕ
  whole = head y.a y.b y.c y.d m.a m.b d.a d.b p.separator h.a h.b n.a n.b s.a s.b rest

  -- the text by its bytes
  spelled : head_of p rest ≡ whole
  spelled = λ i. y.is i ++ (45 ∷ (m.is i ++ (45 ∷ (d.is i ++ (p.separator ∷ (h.is i ++ (58 ∷ (n.is i ++ (58 ∷ (s.is i ++ rest))))))))))

  behind-blanks : after_blanks t ≡ whole
  behind-blanks =
      ap after_blanks (r.is ∙ ap (λ (l : List ℕ). p.before ++ l) spelled)
      ∙ skipped p.before whole r.before (starts y.a _ (apart y.a y.b y.first).0)

  tail_right : Tail tail
  tail_right = tail_of utc p.after r.zone r.after

  right : right_form utc whole ≡ true
  right =
      whole-form utc whole
      (date-right y.a y.b y.c y.d m.a m.b d.a d.b p.separator h.a h.b n.a n.b s.a s.b rest y.first y.second
      (both _ _ m.a-digit m.b-digit) (both _ _ d.a-digit d.b-digit))
      (time-right y.a y.b y.c y.d m.a m.b d.a d.b p.separator h.a h.b n.a n.b s.a s.b rest
      (separator-is _ r.separator) (both _ _ h.a-digit h.b-digit) (both _ _ n.a-digit n.b-digit) (both _ _ s.a-digit s.b-digit))
      (ap (end_right utc) (after-of tail r.fraction tail_right) ∙ (end_of utc p.after r.zone r.after).0)

  two-number : (cs : List ℕ) (x : Two cs) → two_say x.a x.b ≡ number cs
  two-number cs x = two-say x.a x.b (both _ _ x.a-digit x.b-digit) ∙ ap number (sym x.is)

  digits_are : fraction_digits rest ≡ p.digits
  digits_are = digits_of tail r.fraction tail_right

  said : says utc whole ≡ w
  unfolding says
  said = λ i. record {
    year = (four-say y.a y.b y.c y.d y.first y.second ∙ ap number (sym y.is) ∙ sym r.year_is) i;
    month = (two-number p.month m ∙ sym r.month_is) i;
    day = (two-number p.day d ∙ sym r.day_is) i;
    hour = (two-number p.hour h ∙ sym r.hour_is) i;
    minute = (two-number p.minute n ∙ sym r.minute_is) i;
    whole = ((λ j. value (two-number p.second s j) (digits_are j)) ∙ sym (value-append 0 p.second p.digits) ∙ sym r.whole_is) i;
    places = (ap length digits_are ∙ sym r.places_is) i;
    zulu = (ap (zulu_first utc) (after-of tail r.fraction tail_right) ∙ (end_of utc p.after r.zone r.after).1) i;
  }

  pub answered : form_of utc t ≡ answer w
  unfolding form_of
  answered = ap (λ (x : List ℕ). cond (right_form utc x) (answer (says utc x)) (refusal 15)) behind-blanks
      ∙ ap (λ (b : Bool). cond b (answer (says utc whole)) (refusal 15)) right ∙ ap answer said

-- so a text has one reading
pub one_reading : (utc : Bool) (t : List ℕ) (w v : Written) → Reads utc t w → Reads utc t v → w ≡ v
one_reading utc t w v r q = let e : answer w ≡ answer v = sym (answered r) ∙ answered q in cc

-- ---- what is answered is a reading
module _ (utc : Bool) (t : List ℕ) (right : right_form utc (after_blanks t) ≡ true) where
  abbrev u : List ℕ
  u = after_blanks t

  parts : (date_right u ≡ true) × (time_right u ≡ true) × (end_right utc (after_fraction (drop 19 u)) ≡ true)
  unfolding right_form
  parts =
      let a = (and-eq-true_iff (date_right u) _).0 right in
      let b = (and-eq-true_iff (time_right u) _).0 a.1 in
      (a.0, b.0, b.1)

  db : DateBytes u
  db = date-bytes u parts.0

  tb : TimeBytes u
  tb = time-bytes u parts.1

  found : Pieces
  found = record {
    before = front_blanks t;
    year = byte_at u 0 ∷ byte_at u 1 ∷ byte_at u 2 ∷ byte_at u 3 ∷ [];
    month = byte_at u 5 ∷ byte_at u 6 ∷ [];
    day = byte_at u 8 ∷ byte_at u 9 ∷ [];
    separator = byte_at u 10;
    hour = byte_at u 11 ∷ byte_at u 12 ∷ [];
    minute = byte_at u 14 ∷ byte_at u 15 ∷ [];
    second = byte_at u 17 ∷ byte_at u 18 ∷ [];
    fraction = fraction_bytes (drop 19 u);
    digits = fraction_digits (drop 19 u);
    zone = zone_bytes utc (after_fraction (drop 19 u));
    after = after_zone utc (after_fraction (drop 19 u));
  }

  behind : drop 19 u ≡ fraction_bytes (drop 19 u) ++ (zone_bytes utc (after_fraction (drop 19 u)) ++ after_zone utc (after_fraction (drop 19 u)))
  behind = fraction-split (drop 19 u) ∙ ap (λ (l : List ℕ). fraction_bytes (drop 19 u) ++ l) (zone-split utc (after_fraction (drop 19 u)))

  -- with the separators by their bytes, and the rest by its pieces
  joined : u ≡ head_of found (fraction_bytes (drop 19 u) ++ (zone_bytes utc (after_fraction (drop 19 u)) ++ after_zone utc (after_fraction (drop 19 u))))
  unfolding found
  joined =
      all-nineteen u (nineteen u tb)
      ∙ (λ i. byte_at u 0 ∷ byte_at u 1 ∷ byte_at u 2 ∷ byte_at u 3 ∷ db.after-year i ∷ byte_at u 5 ∷ byte_at u 6 ∷ db.after_month i ∷ byte_at u 8 ∷ byte_at u 9
      ∷
      byte_at u 10
      ∷ byte_at u 11 ∷ byte_at u 12 ∷ tb.after_hour i ∷ byte_at u 14 ∷ byte_at u 15 ∷ tb.after_minute i ∷ byte_at u 17 ∷ byte_at u 18 ∷ behind i)

  reading : Reads utc t (says utc u)
  unfolding found says
  reading = record {
    pieces = found;
    is = front_split t ∙ ap (λ (l : List ℕ). front_blanks t ++ l) joined;
    before = front_blank t;
    year = four-digits _ _ _ _ db.year db.year-end;
    month = two_digits_lem _ _ db.month;
    day = two_digits_lem _ _ db.day;
    separator = is-separator _ tb.separator;
    hour = two_digits_lem _ _ tb.hour;
    minute = two_digits_lem _ _ tb.minute;
    second = two_digits_lem _ _ tb.second;
    fraction = fraction-of (drop 19 u);
    zone = zone-of utc (after_fraction (drop 19 u));
    after = end-blank utc (after_fraction (drop 19 u)) parts.2;
    year_is = four-say _ _ _ _ db.year db.year-end;
    month_is = two-say _ _ db.month;
    day_is = two-say _ _ db.day;
    hour_is = two-say _ _ tb.hour;
    minute_is = two-say _ _ tb.minute;
    whole_is = ap (λ (v : ℕ). value v (fraction_digits (drop 19 u))) (two-say _ _ tb.second)
        ∙ sym (value-append 0 (byte_at u 17 ∷ byte_at u 18 ∷ []) (fraction_digits (drop 19 u)));
    places_is = refl;
  }

pub a-reading : (utc : Bool) (t : List ℕ) (w : Written) → form_of utc t ≡ answer w → Reads utc t w
unfolding form_of
a-reading utc t w e = either (right_form utc (after_blanks t)) refl e
  where
    either : (b : Bool) → right_form utc (after_blanks t) ≡ b → cond b (answer (says utc (after_blanks t))) (refusal 15) ≡ answer w → Reads utc t w
    either true k g = let i : says utc (after_blanks t) ≡ w = cc in subst (Reads utc t) i (reading utc t k)
    either false k g = absurd (let z : ◌≡◌ {A = ℕ} 0 1 = cc in let y : ⊥ = omega arith in y)

-- ---- 15 exactly where there is none
pub no_reading : (utc : Bool) (t : List ℕ) → form_of utc t ≡ refusal 15 → (w : Written) → Reads utc t w → ⊥
no_reading utc t e w r = let f : form_of utc t ≡ answer w = answered r in let z : ◌≡◌ {A = ℕ} 0 1 = cc in omega arith

pub refused-15 : (utc : Bool) (t : List ℕ) → ((w : Written) → Reads utc t w → ⊥) → form_of utc t ≡ refusal 15
unfolding form_of
refused-15 utc t none = either (right_form utc (after_blanks t)) refl
  where
    either : (b : Bool) → right_form utc (after_blanks t) ≡ b → cond b (answer (says utc (after_blanks t))) (refusal 15) ≡ refusal 15
    either true k = absurd (none (says utc (after_blanks t)) (reading utc t k))
    either false k = refl
