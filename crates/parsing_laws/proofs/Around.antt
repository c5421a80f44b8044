-- Blanks around a text and a Z behind it change no field, and a text with no Z is read alike by both calls. Assumes nothing.
use Prim.Native.Nat.{ℕ}
use native.Mathlib.Omega.{arith}
use mathlib.Core.Path.{◌≡◌, refl, sym, ap, ◌∙◌}
use mathlib.Core.List.{List, [], ◌∷◌, ◌++◌, append_assoc}
use mathlib.Core.Bool.{Bool, true, false}
use Rattle.parsing.specs.scan.Written.{Written}
use Rattle.parsing.specs.Grammar.{AllBlank, Zone, plain, zulu, Pieces, text_of, Reads}
use Rattle.parsing.specs.Parsed.{time_fits, judged, parsed}
use Rattle.parsing_laws.proofs.Ladder.{read-judged}

-- ---- blanks
all-blank : (b c : List ℕ) → AllBlank b → AllBlank c → AllBlank (b ++ c)
unfolding AllBlank
all-blank [] c h k = k
all-blank (x ∷ xs) c h k = (h.0, all-blank xs c h.1 k)

module _ (utc : Bool) (t : List ℕ) (w : Written) (r : Reads utc t w) (b a : List ℕ) (before : AllBlank b) (after : AllBlank a) where
  abbrev p : Pieces
  p = r.pieces

  wider : Pieces
  wider = record {
    before = b ++ p.before;
    year = p.year;
    month = p.month;
    day = p.day;
    separator = p.separator;
    hour = p.hour;
    minute = p.minute;
    second = p.second;
    fraction = p.fraction;
    digits = p.digits;
    zone = p.zone;
    after = p.after ++ a;
  }

  joined : b ++ (text_of p ++ a) ≡ text_of wider
  unfolding wider
  joined = simp append_assoc

  pub blanks-around : Reads utc (b ++ (t ++ a)) w
  unfolding wider
  blanks-around = record {
    pieces = wider;
    is = ap (λ (l : List ℕ). b ++ (l ++ a)) r.is ∙ joined;
    before = all-blank b p.before before r.before;
    year = r.year;
    month = r.month;
    day = r.day;
    separator = r.separator;
    hour = r.hour;
    minute = r.minute;
    second = r.second;
    fraction = r.fraction;
    zone = r.zone;
    after = all-blank p.after a r.after after;
    year_is = r.year_is;
    month_is = r.month_is;
    day_is = r.day_is;
    hour_is = r.hour_is;
    minute_is = r.minute_is;
    whole_is = r.whole_is;
    places_is = r.places_is;
  }

  pub same-around : parsed utc (b ++ (t ++ a)) ≡ parsed utc t
  same-around = read-judged utc (b ++ (t ++ a)) w blanks-around ∙ sym (read-judged utc t w r)

-- ---- a Z
pub with_zulu : Written → Written
with_zulu w = record { year = w.year; month = w.month; day = w.day; hour = w.hour; minute = w.minute; whole = w.whole; places = w.places; zulu = true }

no_zone : {utc : Bool} {z : List ℕ} {b : Bool} → Zone utc z b → b ≡ false → z ≡ []
no_zone plain e = refl
no_zone (zulu u) e = let k : ◌≡◌ {A = ℕ} 0 1 = cc in absurd (let n : ⊥ = omega arith in n)

-- a UTC text that ends with its second
module _ (t : List ℕ) (w : Written) (r : Reads true t w) (none : w.zulu ≡ false) (ends : r.pieces.after ≡ []) where
  abbrev q : Pieces
  q = r.pieces

  marked : Pieces
  marked = record {
    before = q.before;
    year = q.year;
    month = q.month;
    day = q.day;
    separator = q.separator;
    hour = q.hour;
    minute = q.minute;
    second = q.second;
    fraction = q.fraction;
    digits = q.digits;
    zone = 90 ∷ [];
    after = [];
  }

  bare : Pieces
  bare = record {
    before = q.before;
    year = q.year;
    month = q.month;
    day = q.day;
    separator = q.separator;
    hour = q.hour;
    minute = q.minute;
    second = q.second;
    fraction = q.fraction;
    digits = q.digits;
    zone = [];
    after = [];
  }

  is-bare : text_of q ≡ text_of bare
  unfolding bare
  is-bare = λ i. q.before ++ (q.year
      ++ (45 ∷ (q.month ++ (45 ∷ (q.day
      ++ (q.separator ∷ (q.hour ++ (58 ∷ (q.minute ++ (58 ∷ (q.second ++ (q.fraction ++ (no_zone r.zone none i ++ ends i)))))))))))))

  joined-z : text_of bare ++ (90 ∷ []) ≡ text_of marked
  unfolding bare marked
  joined-z = simp append_assoc

  pub zulu-read : Reads true (t ++ (90 ∷ [])) (with_zulu w)
  unfolding marked with_zulu AllBlank
  zulu-read = record {
    pieces = marked;
    is = ap (λ (l : List ℕ). l ++ (90 ∷ [])) (r.is ∙ is-bare) ∙ joined-z;
    before = r.before;
    year = r.year;
    month = r.month;
    day = r.day;
    separator = r.separator;
    hour = r.hour;
    minute = r.minute;
    second = r.second;
    fraction = r.fraction;
    zone = zulu refl;
    after = tt;
    year_is = r.year_is;
    month_is = r.month_is;
    day_is = r.day_is;
    hour_is = r.hour_is;
    minute_is = r.minute_is;
    whole_is = r.whole_is;
    places_is = r.places_is;
  }

  judged-alike : judged (with_zulu w) ≡ judged w
  unfolding with_zulu judged time_fits
  judged-alike = refl

  pub same-with-zulu : parsed true (t ++ (90 ∷ [])) ≡ parsed true t
  same-with-zulu = read-judged true (t ++ (90 ∷ [])) (with_zulu w) zulu-read ∙ judged-alike ∙ sym (read-judged true t w r)

-- ---- both calls
either_zone : (utc : Bool) {z : List ℕ} {b : Bool} → Zone false z b → Zone utc z b
either_zone utc plain = plain
either_zone utc (zulu u) = let k : ◌≡◌ {A = ℕ} 0 1 = cc in absurd (let n : ⊥ = omega arith in n)

pub plain-text : (t : List ℕ) (w : Written) → Reads false t w → Reads true t w
plain-text t w r = record {
  pieces = r.pieces;
  is = r.is;
  before = r.before;
  year = r.year;
  month = r.month;
  day = r.day;
  separator = r.separator;
  hour = r.hour;
  minute = r.minute;
  second = r.second;
  fraction = r.fraction;
  zone = either_zone true r.zone;
  after = r.after;
  year_is = r.year_is;
  month_is = r.month_is;
  day_is = r.day_is;
  hour_is = r.hour_is;
  minute_is = r.minute_is;
  whole_is = r.whole_is;
  places_is = r.places_is;
}

pub same-by-both : (t : List ℕ) (w : Written) → Reads false t w → parsed true t ≡ parsed false t
same-by-both t w r = read-judged true t w (plain-text t w r) ∙ sym (read-judged false t w r)
