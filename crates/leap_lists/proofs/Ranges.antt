-- The rows that are read from a text fit the 32 bits of an announced row: months end with December 9999, and seconds have at most nine digits. Assumes nothing.
use Prim.Native.Nat.{ℕ, zero, suc, ◌+◌, ◌^◌, ◌≤◌, ◌<◌}
use native.Mathlib.Omega.{arith}
use native.Mathlib.Nat.{pow-le-pow_right}
use mathlib.Core.Path.{◌≡◌, refl, sym, ap, subst, ◌∙◌}
use mathlib.Core.List.{List, [], ◌∷◌}
use mathlib.Core.Bool.{Bool, true, false, cond}
use lib.Dec.{eqb, ltb}
use lib.IntN.{ℤ, pos}
use lib.ListN.{length, set, get_or, replicate}
use Rattle.numerals.specs.digits.Decimal.{number, AllDigits}
use Rattle.numerals.proofs.digits.Decimal.{number-below}
use Rattle.leap_table.specs.rows.Table.{last_month}
use Rattle.leap_table.specs.rows.Announced.{natural}
use Rattle.leap_lists.specs.declared.held.Held.{Held}
use Rattle.leap_lists.specs.declared.lines.Line.{Line}
use Rattle.leap_lists.specs.declared.lines.Line.TheVariants as K
use Rattle.leap_lists.specs.lines.Lines.{line_says}
use Rattle.leap_lists.specs.Grammar.{Says, nothing, month, ntp, expiry}
use Rattle.leap_lists.specs.Held.{InRange, none_held, line_fault, with_row, with_line}
use Rattle.leap_lists.specs.Texts.{lines_of}
use Rattle.leap_lists.specs.Reading.{ListAnswer, answered, refused_at, read_from, read_of, no_places}
use Rattle.leap_lists.proofs.Converse.{read-says}

few-digits : (k : ℕ) (d : List ℕ) → AllDigits d → length d ≤ k → number d < 10 ^ k
few-digits k d a h =
    let x : number d < 10 ^ length d = number-below d a in let y : 10 ^ length d ≤ 10 ^ k = pow-le-pow_right (omega arith) h in omega (arith, x, y)

says-small : (t : List ℕ) (l : Line) → Says t l → InRange l
says-small _ _ (nothing b c h m n) = tt
says-small _ _ (month b y m e f h dy dm low high g) =
    let p : number y < 10 ^ 4 = few-digits 4 y dy.all (omega (arith, dy.many)) in
    let q : number f < 10 ^ 9 = few-digits 9 f g.all_digits g.few in
    (omega arith, omega arith)
says-small _ _ (ntp b d e f k h a n r lt v g) =
    let q : number f < 10 ^ 9 = few-digits 9 f g.all_digits g.few in (omega arith, omega arith)
says-small _ _ (expiry b e f h g) = tt

abbrev is_row : Line → ℕ
is_row K.Blank = 0
is_row (K.Row m s) = 1
is_row (K.Expiry d) = 0
is_row K.Outside = 0

row_inside : (m s : ℕ) → K.Row m s ≡ K.Outside → ⊥
row_inside m s e = let z : ◌≡◌ {A = ℕ} 1 0 = ap is_row e in omega arith

by-line : (t : List ℕ) (l : Line) → line_says t ≡ l → InRange l
by-line t K.Blank e = tt
by-line t (K.Row m s) e = subst InRange e (says-small t (line_says t) (read-says t (λ x. row_inside m s (sym e ∙ x))))
by-line t (K.Expiry d) e = tt
by-line t K.Outside e = tt

pub in_range : (t : List ℕ) → InRange (line_says t)
in_range t = by-line t (line_says t) refl

-- ---- the places of what is held
abbrev pub SmallAt : ℤ → Type 0
SmallAt z = (z ≡ pos (natural z)) × (natural z < 2147483648)

abbrev pub AllSmall : List ℤ → Type 0
AllSmall l = (i : ℕ) → SmallAt (get_or l i (pos 0))

put_small : (l : List ℤ) (n m : ℕ) → AllSmall l → m < 2147483648 → AllSmall (set l n (pos m))
put_small [] n m f s i = f i
put_small (x ∷ l) zero m f s zero = (refl, s)
put_small (x ∷ l) zero m f s (suc i) = f (suc i)
put_small (x ∷ l) (suc n) m f s zero = f zero
put_small (x ∷ l) (suc n) m f s (suc i) = put_small l n m (λ j. f (suc j)) s i

nought : (k i : ℕ) → SmallAt (get_or (replicate k (pos 0)) i (pos 0))
nought zero i = (refl, omega arith)
nought (suc k) zero = (refl, omega arith)
nought (suc k) (suc i) = nought k i

pub record SmallPlaces (months seconds : List ℤ) : Type 0 where
  pub in_months : AllSmall months
  pub in_seconds : AllSmall seconds

none-small : SmallPlaces no_places no_places
none-small = record { in_months = nought 16; in_seconds = nought 16 }

with_line_small : (h : Held) (l : Line) → InRange l → SmallPlaces h.months h.seconds → SmallPlaces (with_line h l).months (with_line h l).seconds
unfolding with_line
with_line_small h K.Blank r p = p
with_line_small h (K.Row m s) r p = either (ltb last_month m)
  where
    either : (b : Bool) → SmallPlaces (cond b (with_row h m s) h).months (cond b (with_row h m s) h).seconds
    either true = record {
      in_months = put_small h.months h.size m p.in_months r.0;
      in_seconds = put_small h.seconds h.size s p.in_seconds r.1;
    }
    either false = p
with_line_small h (K.Expiry d) r p = p
with_line_small h K.Outside r p = p

lines-small : (h : Held) (n : ℕ) (ls : List (List ℕ)) → SmallPlaces h.months h.seconds
    → SmallPlaces (read_from h n ls).table.months (read_from h n ls).table.seconds
unfolding read_from answered refused_at
lines-small h n [] p = p
lines-small h n (l ∷ ls) p = either (eqb (line_fault h (line_says l)) 0)
    (lines-small (with_line h (line_says l)) (n + 1) ls (with_line_small h (line_says l) (in_range l) p))
  where
    on : ListAnswer
    on = read_from (with_line h (line_says l)) (n + 1) ls

    off : ListAnswer
    off = refused_at (line_fault h (line_says l)) (n + 1)

    either : (b : Bool) → SmallPlaces on.table.months on.table.seconds → SmallPlaces (cond b on off).table.months (cond b on off).table.seconds
    either true q = q
    either false q = none-small

-- EVERY NUMBER OF A TABLE THAT IS READ is from 0 to 2^31 - 1
pub read_small : (t : List ℕ) → SmallPlaces (read_of t).table.months (read_of t).table.seconds
unfolding read_of none_held
read_small t = lines-small none_held 0 (lines_of t) none-small
