-- The walk from date to date: where it stands, what it has counted, and the offset of each date. Assumes nothing.
use Rattle.std.proofs.Common.{◌≡◌, ℕ, ◌+◌, ◌-◌, ◌<◌, ◌≤◌, Bool, true, false, cond, T, leb, List, ◌∷◌, map, length, get_or, drop, sym, refl, ap, ◌∙◌, subst}
use Rattle.std.proofs.Common.{add-one, arith}
use native.Mathlib.Decide.{dec_lt}
use lib.ListN.{length-map}
use lib.Ieee.{binary64, of_int}
use Rattle.floats.specs.Whole.{nought}
use Rattle.calendar.specs.DayCount.{mjd_number}
use Rattle.leap_table.specs.rows.Table.{Row, starts, reached, rising}
use Rattle.leap_table.specs.offsets.Offset.{offset_by, offset_at}
use Rattle.leap_table.specs.offsets.Forward.{never, by_terms}
use Rattle.leap_table.specs.declared.judging.Triple.{Triple}
use Rattle.leap_table.specs.declared.walk.Walk.{Walk}
use Rattle.leap_table.specs.walk.Rows.{held_against, left, compared}
use Rattle.leap_table.specs.walk.Walk.{month_in, triple_offset}
use Rattle.leap_table.specs.judging.Lists.{dates_from}
use Rattle.leap_table.specs.walk.Asked.{Standing, Stepped, counting, CountsNext, GoodDates}
use Rattle.leap_table.proofs.judging.Judges.{next-date, no_date}
use Rattle.leap_table.proofs.walk.Forward.{between, stops, found}

-- before date i
pub record Pacing (rows : List Row) (f : ℕ → Triple) (n i : ℕ) (w : Walk) : Type 0 where
  pub within : i ≤ n
  pub stands : Standing rows w
  pub begun : i < n → (j : ℕ) → j < w.reached → get_or (starts rows) j 0 ≤ month_in (f i)
  pub count : w.compared + compared (drop w.reached (starts rows)) (map month_in (dates_from f i (n - i))) ≡ compared (starts rows)
      (map month_in (dates_from f 0 n))
  pub few : w.compared ≤ w.reached + i

one-date : (l : List ℕ) (m : ℕ) (ms : List ℕ) → compared l (m ∷ ms) ≡ held_against l m + compared (left l m) ms
unfolding compared
one-date l m ms = refl

-- what is counted in one step
sums : (c vc wc vr wr d one x : ℕ) → c ≡ vc + one → vc + wr ≡ wc + vr → wr + d ≡ vr → c + x ≡ wc + (d + one + x)
sums c vc wc vr wr d one x p q r = omega arith

module _ (rows : List Row) (f : ℕ → Triple) (n : ℕ) where
  abbrev l : List ℕ
  l = starts rows

  abbrev rest : ℕ → List ℕ
  rest i = map month_in (dates_from f i (n - i))

  module _ (i m : ℕ) (w v : Walk) (p : Pacing rows f n i w) (h : i < n) (e : m ≡ month_in (f i)) (s : Stepped rows w m v) where
    all-begun : (j : ℕ) → j < v.reached → get_or l j 0 ≤ m
    all-begun j g = go (dec_lt j w.reached)
      where
        go : Dec (j < w.reached) → get_or l j 0 ≤ m
        go (yes x) = omega (arith, p.begun h j x)
        go (no x) = s.begun j (omega arith) g

    many : length l ≡ length rows
    many = length-map rows (λ (r : Row). r.month)

    next-later : m < get_or l v.reached never
    next-later = omega (arith, s.later, s.stands.next)

    pub pacing_goes : GoodDates f n → (c : ℕ) → CountsNext v c → Pacing rows f n (i + 1) (counting v c)
    pacing_goes g c k =
        record {
          within = omega arith;
          stands = record { all = s.stands.all; most = s.stands.most; small = s.stands.small; next = s.stands.next; terms = s.stands.terms };
          begun = λ q j b. omega (arith, all-begun j b, subst (λ (x : ℕ). month_in (f i) ≤ month_in (f x)) (sym (add-one i)) (g.rise i (omega (arith, q))));
          count = counted ∙ p.count;
          few = omega (arith, few-more);
        }
      where
        d : ℕ
        d = v.reached - w.reached

        there : w.reached + d ≡ v.reached
        there = omega (arith, s.forward)

        b : (held_against (drop w.reached l) m ≡ d + held_against (drop (w.reached + d) l) m)
            × (left (drop w.reached l) m ≡ left (drop (w.reached + d) l) m)
        b = between l m d w.reached (omega (arith, there, s.stands.most, many)) (λ j x y. s.begun j x (omega (arith, there, y)))

        z : (left (drop v.reached l) m ≡ drop v.reached l) × (held_against (drop v.reached l) m ≡ cond (leb (length l) v.reached) 0 1)
        z = stops l m v.reached next-later

        one : ℕ
        one = cond (leb (length l) v.reached) 0 1

        one-most : one ≤ 1
        one-most = go (leb (length l) v.reached)
          where
            go : (x : Bool) → cond x 0 1 ≤ 1
            go true = omega arith
            go false = omega arith

        c-is : c ≡ v.compared + one
        c-is = k ∙ ap (λ (x : ℕ). v.compared + cond (leb x v.reached) 0 1) (s.stands.all ∙ sym many)

        held-is : held_against (drop w.reached l) m ≡ d + one
        held-is = b.0 ∙ ap (λ (x : ℕ). d + held_against (drop x l) m) there ∙ ap (λ (x : ℕ). d + x) z.1

        left_is : left (drop w.reached l) m ≡ drop v.reached l
        left_is = b.1 ∙ ap (λ (x : ℕ). left (drop x l) m) there ∙ z.0

        few-more : c ≤ v.reached + (i + 1)
        few-more = omega (arith, c-is, one-most, s.count, p.few)

        months : rest i ≡ month_in (f i) ∷ rest (i + 1)
        months = ap (map month_in) (next-date f n i h)

        onward-from : compared (drop w.reached l) (rest i) ≡ held_against (drop w.reached l) m + compared (left (drop w.reached l) m) (rest (i + 1))
        onward-from = ap (compared (drop w.reached l)) (months ∙ ap (λ (x : ℕ). x ∷ rest (i + 1)) (sym e)) ∙ one-date (drop w.reached l) m (rest (i + 1))

        counted : c + compared (drop v.reached l) (rest (i + 1)) ≡ w.compared + compared (drop w.reached l) (rest i)
        counted =
            sums c v.compared w.compared v.reached w.reached d one (compared (drop v.reached l) (rest (i + 1))) c-is s.count there
            ∙ ap (λ (x : ℕ). w.compared + x) (sym (onward-from ∙ (λ x. held-is x + compared (left_is x) (rest (i + 1)))))

    pub offset-is : T (rising l) → by_terms v.terms (of_int binary64 (mjd_number (f i).year (f i).month (f i).day)) nought ≡ triple_offset rows (f i)
    unfolding triple_offset offset_at
    offset-is r =
        let o = found l m r v.reached (omega (arith, s.stands.most, many)) all-begun next-later in
        s.stands.terms (of_int binary64 (mjd_number (f i).year (f i).month (f i).day)) nought
        ∙ ap (λ (k : ℕ). offset_by rows k (of_int binary64 (mjd_number (f i).year (f i).month (f i).day)) nought) (o ∙ ap (reached l) e)

  pub pacing_ends : (i : ℕ) (w : Walk) → Pacing rows f n i w → n ≤ i → w.compared ≡ compared l (map month_in (dates_from f 0 n))
  unfolding compared
  pacing_ends i w p h = nothing-more w.compared
      ∙ ap (λ (d : List Triple). w.compared + compared (drop w.reached l) (map month_in d)) (sym (no_date f n i h)) ∙ p.count
    where
      nothing-more : (x : ℕ) → x ≡ x + 0
      nothing-more x = omega arith
