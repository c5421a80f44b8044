-- The steps of a way that read no row, the ways that read one and those that do not, by the outcomes of the tests. Assumes nothing.
use Prim.Native.Nat.{ℕ}
use mathlib.Core.Path.{◌≡◌, refl, sym, ap, ◌∙◌}
use mathlib.Core.Bool.{Bool, true, false, cond, not, ◌&&◌, ◌||◌, true≢false}
use mathlib.Core.List.{List}
use lib.Dec.{eqb}
use lib.Ieee.{sub}
use borrow.Author.Tests.{eq-eqb, ne_eqb, eqb-true}
use Rattle.refusals.specs.Outcome.{answer, onward}
use Rattle.julian.specs.declared.JulianDate.{JulianDate}
use Rattle.julian.specs.Finite.{finite_jd}
use Rattle.julian.specs.shifts.Shifts.{plus, minus, converted}
use Rattle.leap_table.specs.rows.Table.{Row}
use Rattle.scales.specs.Conversions.{answer_of, tai-tcg, tcg-tai}
use Rattle.utc_scales.specs.UtcTai.{utc_to_tai, tai_to_utc}
use Rattle.runs.specs.ways.Ways.{into_tai, out_of_tai, between, way_of}
use Rattle.runs.specs.ways.Asked.{is_shifted, days_into_tai, days_out_of_tai, reads_day}
use Rattle.runs.specs.Asked.{is_short}

-- ---- the two scales that are a fixed offset from TAI
data Shifted : ℕ → Type 0 where
  tt_is : Shifted 3
  gps-is : Shifted 4

shifted : (n : ℕ) → is_shifted n ≡ true → Shifted n
unfolding is_shifted
shifted n h = go (eqb n 3) (eqb n 4) refl refl h
  where
    go : (a b : Bool) → eqb n 3 ≡ a → eqb n 4 ≡ b → (a || b) ≡ true → Shifted n
    go true b p q z = let e : n ≡ 3 = eqb-true n 3 p in rw e tt_is
    go false true p q z = let e : n ≡ 4 = eqb-true n 4 q in rw e gps-is
    go false false p q z = absurd (true≢false (sym z))

none-shifted : (n : ℕ) → is_shifted n ≡ false → (eqb n 3 ≡ false) × (eqb n 4 ≡ false)
unfolding is_shifted
none-shifted n h = go (eqb n 3) (eqb n 4) refl refl h
  where
    go : (a b : Bool) → eqb n 3 ≡ a → eqb n 4 ≡ b → (a || b) ≡ false → (eqb n 3 ≡ false) × (eqb n 4 ≡ false)
    go true b p q z = absurd (true≢false z)
    go false true p q z = absurd (true≢false z)
    go false false p q z = (p, q)

module _ (rows : List Row) (d : JulianDate) where
  into-by-days : (n : ℕ) → Shifted n → converted (plus (days_into_tai n)) d ≡ into_tai rows n d
  unfolding days_into_tai into_tai answer_of plus minus sub
  into-by-days _ tt_is = refl
  into-by-days _ gps-is = refl

  out-by-days : (n : ℕ) → Shifted n → converted (plus (days_out_of_tai n)) d ≡ out_of_tai rows n d
  unfolding days_out_of_tai out_of_tai answer_of plus minus sub
  out-by-days _ tt_is = refl
  out-by-days _ gps-is = refl

  module _ (n : ℕ) where
    pub into-shifted : is_shifted n ≡ true → converted (plus (days_into_tai n)) d ≡ into_tai rows n d
    into-shifted s = into-by-days n (shifted n s)

    pub out-shifted : is_shifted n ≡ true → converted (plus (days_out_of_tai n)) d ≡ out_of_tai rows n d
    out-shifted s = out-by-days n (shifted n s)

    module _ (a : eqb n 0 ≡ false) (s : is_shifted n ≡ false) where
      pub into-tcg : n ≡ 5 → answer_of tcg-tai d ≡ into_tai rows n d
      unfolding into_tai
      into-tcg e = rw (a, (none-shifted n s).0, (none-shifted n s).1, eq-eqb n 5 e)

      pub out-tcg : n ≡ 5 → answer_of tai-tcg d ≡ out_of_tai rows n d
      unfolding out_of_tai
      out-tcg e = rw (a, (none-shifted n s).0, (none-shifted n s).1, eq-eqb n 5 e)

      pub into-none : (n ≡ 5 → ⊥) → answer d ≡ into_tai rows n d
      unfolding into_tai
      into-none e = rw (a, (none-shifted n s).0, (none-shifted n s).1, ne_eqb n 5 e)

      pub out_none : (n ≡ 5 → ⊥) → answer d ≡ out_of_tai rows n d
      unfolding out_of_tai
      out_none e = rw (a, (none-shifted n s).0, (none-shifted n s).1, ne_eqb n 5 e)

-- ---- the ways that read a day
from_utc : (to : ℕ) → reads_day 0 to ≡ true → eqb to 0 ≡ false
unfolding reads_day
from_utc to h = go (eqb to 0) refl h
  where
    go : (b : Bool) → eqb to 0 ≡ b → not b ≡ true → eqb to 0 ≡ false
    go true p z = absurd (true≢false (sym z))
    go false p z = p

and_none : (b : Bool) → (b && false) ≡ false
and_none true = refl
and_none false = refl

into-utc : (from to : ℕ) → (from ≡ 0 → ⊥) → reads_day from to ≡ true → to ≡ 0
unfolding reads_day
into-utc from to a h =
    let e : eqb to 0 ≡ true = ap (λ (b : Bool). cond b (not (eqb to 0)) (eqb to 0)) (sym (ne_eqb from 0 a)) ∙ h in
    eqb-true to 0 e

module _ (from to : ℕ) where
  pub other_to : from ≡ 0 → reads_day from to ≡ true → eqb to 0 ≡ false
  other_to e h = from_utc to (ap (λ (a : ℕ). reads_day a to) (sym e) ∙ h)

  module _ (rows : List Row) (d : JulianDate) where
    pub way_out_of_utc : from ≡ 0 → reads_day from to ≡ true → onward (utc_to_tai rows d) (out_of_tai rows to) ≡ way_of rows from to d
    unfolding way_of between into_tai
    way_out_of_utc e h =
        let n : eqb 0 to ≡ false = ne_eqb 0 to (λ (q : 0 ≡ to). true≢false (sym (eq-eqb to 0 (sym q)) ∙ other_to e h)) in
        rw (e, n)

    pub way_into_utc : (from ≡ 0 → ⊥) → reads_day from to ≡ true → onward (into_tai rows from d) (tai_to_utc rows) ≡ way_of rows from to d
    unfolding way_of between out_of_tai
    way_into_utc a h =
        let e : to ≡ 0 = into-utc from to a h in
        rw (e, ne_eqb from 0 a, and_none (eqb from 3), and_none (eqb from 5))

-- ---- the ways that read none and are not one formula
no_formula : (from to : ℕ) → is_short from to ≡ false → ((eqb from 3 && eqb to 5) ≡ false) × ((eqb from 5 && eqb to 3) ≡ false)
unfolding is_short
no_formula from to h =
    go (eqb from 4 && eqb to 1) (eqb from 1 && eqb to 4) (eqb from 1 && eqb to 3) (eqb from 3 && eqb to 1) (eqb from 3 && eqb to 5) (eqb from 5 && eqb to 3)
    refl refl h
  where
    go : (c1 c2 c3 c4 c5 c6 : Bool) → (eqb from 3 && eqb to 5) ≡ c5 → (eqb from 5 && eqb to 3) ≡ c6 → (c1 || (c2 || (c3 || (c4 || (c5 || c6))))) ≡ false
        → ((eqb from 3 && eqb to 5) ≡ false) × ((eqb from 5 && eqb to 3) ≡ false)
    go true c2 c3 c4 c5 c6 p q z = absurd (true≢false z)
    go false true c3 c4 c5 c6 p q z = absurd (true≢false z)
    go false false true c4 c5 c6 p q z = absurd (true≢false z)
    go false false false true c5 c6 p q z = absurd (true≢false z)
    go false false false false true c6 p q z = absurd (true≢false z)
    go false false false false false true p q z = absurd (true≢false z)
    go false false false false false false p q z = (p, q)

module _ (from to : ℕ) (h : reads_day from to ≡ false) (a : from ≡ to → ⊥) where
  go_utc : (b c : Bool) → eqb from 0 ≡ b → eqb to 0 ≡ c → cond b (not c) c ≡ false → (eqb from 0 ≡ false) × (eqb to 0 ≡ false)
  go_utc true true p q z = absurd (a (eqb-true from 0 p ∙ sym (eqb-true to 0 q)))
  go_utc true false p q z = absurd (true≢false z)
  go_utc false true p q z = absurd (true≢false z)
  go_utc false false p q z = (p, q)

  pub no_utc : (eqb from 0 ≡ false) × (eqb to 0 ≡ false)
  unfolding reads_day
  no_utc = go_utc (eqb from 0) (eqb to 0) refl refl h

module _ (from to : ℕ) (rows : List Row) (d : JulianDate) where
  pub way_same : from ≡ to → finite_jd d ≡ way_of rows from to d
  unfolding way_of
  way_same e = rw (eq-eqb from to e)

  pub way_by_formulas : (from ≡ to → ⊥) → is_short from to ≡ false → onward (into_tai rows from d) (out_of_tai rows to) ≡ way_of rows from to d
  unfolding way_of between
  way_by_formulas a s = rw (ne_eqb from to a, (no_formula from to s).0, (no_formula from to s).1)
