-- The refusals one by one, in their order, and what is known where nothing is refused. Assumes nothing.
use Prim.Native.Nat.{ℕ, ◌+◌, ◌-◌, ◌/◌, ◌%◌, ◌<◌, ◌≤◌}
use native.Mathlib.Omega.{arith}
use mathlib.Core.Path.{◌≡◌, refl, sym, subst, ◌∙◌}
use mathlib.Core.Bool.{Bool, true, false, cond, ◌&&◌}
use mathlib.Core.List.{List}
use lib.ListN.{length}
use lib.Dec.{eqb, leb}
use borrow.Author.Tests.{eqb-true, leb-true, le-leb, lt-leb}
use Rattle.ticks.specs.judging.Numbers.{all_small, all_rising, inside}
use Rattle.ticks.specs.judging.Refusing.{number_at, numbers_in, whole_numbers, well_counted, usable, both_rising, all_inside, passes_refusal, refused_by}
use Rattle.ticks.specs.judging.Refusing.{judged_by}
use Rattle.ticks.specs.judging.GoodCalls.{GoodPasses, GoodCall}
use Rattle.std.proofs.lemmas.Bool.{and_parts}
use Rattle.ticks.proofs.judging.Every.{every_at}
use Rattle.ticks.proofs.judging.Checks.{held, small-each}
use Rattle.ticks.proofs.judging.ByLast.{rises-of}
use borrow.Author.Tests.{eq-eqb, ne_eqb}

-- ---- passes that can be used
pub record WellCounted (ps ms : List ℕ) : Type 0 where
  pub equal : numbers_in ps ≡ numbers_in ms
  pub two : 2 ≤ numbers_in ps
  pub most : numbers_in ps ≤ 2000

pub record Usable (ps ms : List ℕ) : Type 0 where
  pub counted : WellCounted ps ms
  pub ticks : all_small (numbers_in ps) (number_at ps) ≡ true
  pub millis : all_small (numbers_in ps) (number_at ms) ≡ true

module _ (ps ms : List ℕ) where
  pub counted_is : well_counted ps ms ≡ true → WellCounted ps ms
  unfolding well_counted
  counted_is e =
      let y = and_parts (eqb (numbers_in ps) (numbers_in ms)) _ e in
      let z = and_parts (leb 2 (numbers_in ps)) _ y.1 in
      record { equal = eqb-true (numbers_in ps) (numbers_in ms) y.0; two = leb-true 2 (numbers_in ps) z.0; most = leb-true (numbers_in ps) 2000 z.1 }

  pub usable-is : usable ps ms ≡ true → Usable ps ms
  unfolding usable
  usable-is e =
      let x = and_parts (well_counted ps ms) _ e in
      let w = and_parts (all_small (numbers_in ps) (number_at ps)) _ x.1 in
      record { counted = counted_is x.0; ticks = w.0; millis = w.1 }

  pub rising-are : both_rising ps ms ≡ true → (all_rising (numbers_in ps) (number_at ps) ≡ true) × (all_rising (numbers_in ps) (number_at ms) ≡ true)
  unfolding both_rising
  rising-are e = and_parts (all_rising (numbers_in ps) (number_at ps)) (all_rising (numbers_in ps) (number_at ms)) e

  -- k + 2 passes, known
  pub passes-good : usable ps ms ≡ true → both_rising ps ms ≡ true → (k : ℕ) → k ≡ numbers_in ps - 2 → GoodPasses ps ms k
  passes-good g r k e =
      let u = usable-is g in
      let two : 2 ≤ numbers_in ps = u.counted.two in
      record {
        size = omega arith;
        few = omega (arith, u.counted.most);
        ticks_there = omega arith;
        millis_there = omega (arith, u.counted.equal);
        ticks_rise = λ i h. rises-of (numbers_in ps) (number_at ps) (rising-are r).0 i (omega arith);
        millis-rise = λ i h. rises-of (numbers_in ps) (number_at ms) (rising-are r).1 i (omega arith);
        ticks_small = λ i h. small-each (numbers_in ps) (number_at ps) u.ticks i (omega arith);
        millis_small = λ i h. small-each (numbers_in ps) (number_at ms) u.millis i (omega arith);
      }

  -- ---- the passes alone
  pub miscounted : well_counted ps ms ≡ false → 23 ≡ passes_refusal ps ms
  unfolding passes_refusal usable
  miscounted c = rw c

  pub by-numbers : well_counted ps ms ≡ true → judged_by (numbers_in ps) (number_at ps) (number_at ms) ≡ passes_refusal ps ms
  unfolding passes_refusal usable both_rising judged_by
  by-numbers c = rw c

  pub passes-right : passes_refusal ps ms ≡ 0 → (usable ps ms ≡ true) × (both_rising ps ms ≡ true)
  unfolding passes_refusal
  passes-right = go (usable ps ms) (both_rising ps ms) refl refl
    where
      go : (a b : Bool) → usable ps ms ≡ a → both_rising ps ms ≡ b → ◌≡◌ {A = ℕ} (cond a (cond b 0 24) 23) 0 → (usable ps ms ≡ true) ×
          (both_rising ps ms ≡ true)
      go true true p q h = (p, q)
      go true false p q h = absurd (omega arith)
      go false b p q h = absurd (omega arith)

-- ---- the ladder
module _ (ps ms ts : List ℕ) (room : ℕ) where
  pub not_whole : whole_numbers ps && (whole_numbers ms && whole_numbers ts) ≡ false → 14 ≡ refused_by ps ms ts room
  unfolding refused_by
  not_whole w = rw w

  module _ (w : whole_numbers ps && (whole_numbers ms && whole_numbers ts) ≡ true) where
    pub no_room : room / 8 < numbers_in ts → 11 ≡ refused_by ps ms ts room
    unfolding refused_by
    no_room h = rw (w, lt-leb (numbers_in ts) (room / 8) h)

    module _ (r : numbers_in ts ≤ room / 8) where
      pub by-passes : (passes_refusal ps ms ≡ 0 → ⊥) → passes_refusal ps ms ≡ refused_by ps ms ts room
      unfolding passes_refusal refused_by
      by-passes z = rw (w, le-leb (numbers_in ts) (room / 8) r) (go (usable ps ms) (both_rising ps ms) (cond (all_inside ps ts) 0 25) z)
        where
          go : (a b : Bool) (n : ℕ) → (◌≡◌ {A = ℕ} (cond a (cond b 0 24) 23) 0 → ⊥) → cond a (cond b 0 24) 23 ≡ cond a (cond b n 24) 23
          go true true n h = absurd (h refl)
          go true false n h = refl
          go false b n h = refl

      pub by-ticks : (b : Bool) → passes_refusal ps ms ≡ 0 → all_inside ps ts ≡ b → cond b 0 25 ≡ refused_by ps ms ts room
      unfolding refused_by
      by-ticks b d i = let p = passes-right ps ms d in rw (w, le-leb (numbers_in ts) (room / 8) r, p.0, p.1, i)

pub inside_is : (ps ts : List ℕ) (first last : ℕ) (b : Bool) → first ≡ number_at ps 0 → last ≡ number_at ps (numbers_in ps - 1)
    → b ≡ inside first last (numbers_in ts) (number_at ts) → all_inside ps ts ≡ b
unfolding all_inside
inside_is ps ts first last b e f h = sym (h ∙ (λ i. inside (e i) (f i) (numbers_in ts) (number_at ts)))

-- ---- nothing is refused
pub record NothingRefused (ps ms ts : List ℕ) (room : ℕ) : Type 0 where
  pub ticks-whole : length ts % 8 ≡ 0
  pub fits : numbers_in ts ≤ room / 8
  pub good : usable ps ms ≡ true
  pub rise : both_rising ps ms ≡ true
  pub within : all_inside ps ts ≡ true

pub ladder_passed : (ps ms ts : List ℕ) (room : ℕ) → refused_by ps ms ts room ≡ 0 → NothingRefused ps ms ts room
unfolding refused_by
ladder_passed ps ms ts room = go (whole_numbers ps && (whole_numbers ms && whole_numbers ts)) (leb (numbers_in ts) (room / 8)) (usable ps ms)
    (both_rising ps ms)
    (all_inside ps ts) refl refl refl refl refl
  where
    go : (a b c d e : Bool) → (whole_numbers ps && (whole_numbers ms && whole_numbers ts)) ≡ a → leb (numbers_in ts) (room / 8) ≡ b → usable ps ms ≡ c
        → both_rising ps ms ≡ d → all_inside ps ts ≡ e
        → ◌≡◌ {A = ℕ} (cond a (cond b (cond c (cond d (cond e 0 25) 24) 23) 11) 14) 0 → NothingRefused ps ms ts room
    go true true true true true p q r s t h =
        record {
          ticks-whole = eqb-true (length ts % 8) 0
              (and_parts (whole_numbers ms) (whole_numbers ts) (and_parts (whole_numbers ps) (whole_numbers ms && whole_numbers ts) p).1).1;
          fits = leb-true (numbers_in ts) (room / 8) q;
          good = r;
          rise = s;
          within = t;
        }
    go true true true true false p q r s t h = absurd (omega arith)
    go true true true false e p q r s t h = absurd (omega arith)
    go true true false d e p q r s t h = absurd (omega arith)
    go true false c d e p q r s t h = absurd (omega arith)
    go false b c d e p q r s t h = absurd (omega arith)

module _ (ps ms ts : List ℕ) (room : ℕ) (a : NothingRefused ps ms ts room) where
  pub passes-two : 2 ≤ numbers_in ps
  passes-two = (usable-is ps ms a.good).counted.two

  ticks-at : (i : ℕ) → i < numbers_in ts → (number_at ps 0 ≤ number_at ts i) × (number_at ts i ≤ number_at ps (numbers_in ps - 1))
  unfolding all_inside inside
  ticks-at i h =
      let x = and_parts (leb (number_at ps 0) (number_at ts i)) (leb (number_at ts i) (number_at ps (numbers_in ps - 1)))
      (every_at (held (number_at ps 0) (number_at ps (numbers_in ps - 1)) (number_at ts)) (numbers_in ts) a.within i h) in
      (leb-true (number_at ps 0) (number_at ts i) x.0, leb-true (number_at ts i) (number_at ps (numbers_in ps - 1)) x.1)

  pub all-good : (k : ℕ) → k ≡ numbers_in ps - 2 → GoodCall ps ms k (numbers_in ts) ts
  all-good k e =
      let last : numbers_in ps - 1 ≡ k + 1 = omega (arith, passes-two) in
      record {
        passes = passes-good ps ms a.good a.rise k e;
        there = omega arith;
        low = λ i h. (ticks-at i h).0;
        high = λ i h. subst (λ (x : ℕ). number_at ts i ≤ number_at ps x) last (ticks-at i h).1;
      }

-- ---- the counts of the passes, and the three lists that are whole numbers, each test by itself
module _ (ps ms : List ℕ) where
  pub unequal : (numbers_in ps ≡ numbers_in ms → ⊥) → false ≡ well_counted ps ms
  unfolding well_counted
  unequal h = rw (ne_eqb (numbers_in ps) (numbers_in ms) h)

  pub too_few : numbers_in ps ≡ numbers_in ms → numbers_in ps < 2 → false ≡ well_counted ps ms
  unfolding well_counted
  too_few e h = rw (eq-eqb (numbers_in ps) (numbers_in ms) e, lt-leb 2 (numbers_in ps) h)

  pub by_most : numbers_in ps ≡ numbers_in ms → 2 ≤ numbers_in ps → leb (numbers_in ps) 2000 ≡ well_counted ps ms
  unfolding well_counted
  by_most e l = rw (eq-eqb (numbers_in ps) (numbers_in ms) e, le-leb 2 (numbers_in ps) l)

module _ (ps ms ts : List ℕ) where
  pub broken_passes : (length ps % 8 ≡ 0 → ⊥) → false ≡ whole_numbers ps && (whole_numbers ms && whole_numbers ts)
  broken_passes h = rw (ne_eqb (length ps % 8) 0 h)

  pub broken_millis : length ps % 8 ≡ 0 → (length ms % 8 ≡ 0 → ⊥) → false ≡ whole_numbers ps && (whole_numbers ms && whole_numbers ts)
  broken_millis e h = rw (eq-eqb (length ps % 8) 0 e, ne_eqb (length ms % 8) 0 h)

  pub by-third : length ps % 8 ≡ 0 → length ms % 8 ≡ 0 → whole_numbers ts ≡ whole_numbers ps && (whole_numbers ms && whole_numbers ts)
  by-third e f = rw (eq-eqb (length ps % 8) 0 e, eq-eqb (length ms % 8) 0 f)
