-- THE ENDS OF A RUN are its first and its last stamp of number 0, each of the three runs by its own places. Assumes nothing.
use Rattle.std.proofs.Common.{◌≡◌, ℕ, ◌+◌, ◌-◌, ◌<◌, ◌≤◌, Bool, true, false, not, eqb, ltb, ◌⊎◌, List, length, get_or, refl, ap, ◌∙◌, inl, inr, arith}
use Rattle.std.proofs.Common.{ltb-false, ltb-true, eq-eqb, ne_eqb, le-leb}
use Rattle.julian.specs.stamp_lists.Stamps.{stamp_of}
use Rattle.line_listing.specs.declared.summary.Seen.{Seen}
use Rattle.line_listing.specs.lines.StampLine.{Stamps}
use Rattle.line_listing.specs.head.Counts.{first_end, second_end}
use Rattle.line_listing.specs.summary.Seen.{seen_in, ends_of}
use Rattle.line_listing.specs.summary.Look.{gps_ends, tai_ends, utc_ends}
use Rattle.line_listing.specs.summary.Claims.{Found, FirstOrdered, LastOrdered, RunEnds}
use Rattle.line_listing.proofs.laws.Looks.{seen-or-none}

module _ (js ks ns : List ℕ) (from to : ℕ) (up : from ≤ to) where
  abbrev n : ℕ
  n = to - from

  abbrev s : Seen
  s = seen_in 0 ns from (to - from)

  abbrev None : Type 0
  None = (s.many ≡ 0) × ((q : ℕ) → q < n → get_or ns (from + q) 0 ≡ 0 → ⊥)

  some : Found 0 ns from n s → not (eqb s.many 0) ≡ true
  some f = ap not (ne_eqb s.many 0 (λ z. let y : ⊥ = omega (arith, f.some) in absurd y))

  -- an ordered place of the run, by its index in it
  back : (p : ℕ) → from ≤ p → get_or ns p 0 ≡ 0 → get_or ns (from + (p - from)) 0 ≡ 0
  back p h e = ap (λ (q : ℕ). get_or ns q 0) (let q : from + (p - from) ≡ p = omega arith in q) ∙ e

  same : (p q : ℕ) → (p < q → ⊥) → (q < p → ⊥) → p ≡ q
  same p q f g = by (ltb p q) refl (ltb q p) refl
    where
      by : (a : Bool) → ltb p q ≡ a → (b : Bool) → ltb q p ≡ b → p ≡ q
      by true e b k = absurd (f (ltb-true p q e))
      by false e true k = absurd (g (ltb-true q p k))
      by false e false k = omega (arith, ltb-false p q e, ltb-false q p k)

  first-at : (p : ℕ) → FirstOrdered ns from to p → None ⊎ Found 0 ns from n s
      → (not (eqb s.many 0) ≡ true) × (stamp_of js ks (from + s.first) ≡ stamp_of js ks p)
  first-at p f (inl h) = absurd (h.1 (p - from) (omega (arith, f.low, f.high)) (back p f.low f.ordered))
  first-at p f (inr g) = (some g, ap (stamp_of js ks) (same (from + s.first) p before behind))
    where
      before : from + s.first < p → ⊥
      before l = f.none_before (from + s.first) (omega arith) l g.first_is

      behind : p < from + s.first → ⊥
      behind l = g.none_before (p - from) (omega (arith, l, f.low)) (back p f.low f.ordered)

  last-at : (p : ℕ) → LastOrdered ns from to p → None ⊎ Found 0 ns from n s
      → (not (eqb s.many 0) ≡ true) × (stamp_of js ks (from + s.last) ≡ stamp_of js ks p)
  last-at p f (inl h) = absurd (h.1 (p - from) (omega (arith, f.low, f.high)) (back p f.low f.ordered))
  last-at p f (inr g) = (some g, ap (stamp_of js ks) (same (from + s.last) p before behind))
    where
      before : from + s.last < p → ⊥
      before l = g.none_behind (p - from) (omega (arith, l, f.low)) (omega (arith, f.low, f.high)) (back p f.low f.ordered)

      behind : p < from + s.last → ⊥
      behind l = f.none_behind (from + s.last) l (omega (arith, g.last_in)) g.last_is

  none-at : ((p : ℕ) → from ≤ p → p < to → get_or ns p 0 ≡ 0 → ⊥) → None ⊎ Found 0 ns from n s → not (eqb s.many 0) ≡ false
  none-at h (inl k) = ap not (eq-eqb s.many 0 k.0)
  none-at h (inr f) = absurd (h (from + s.first) (omega arith) (omega (arith, f.first_in)) f.first_is)

  -- THE ENDS of a run from a place up to a place
  pub run_ends : RunEnds js ks ns from to (ends_of js ks ns from (to - from))
  unfolding ends_of
  run_ends = record {
    begins = λ p f. first-at p f (seen-or-none 0 ns from n);
    ends = λ p f. last-at p f (seen-or-none 0 ns from n);
    none = λ h. none-at h (seen-or-none 0 ns from n);
  }

-- ---- the three runs, which end at `first`, at `first + second` and where the numbers end
module _ (all : Stamps) (inside : all.first + all.second ≤ length all.numbers) where
  pub first-end : first_end all ≡ all.first
  unfolding first_end
  first-end = rw (le-leb all.first (length all.numbers) (omega arith))

  pub second-end : second_end all ≡ all.first + all.second
  unfolding second_end
  second-end =
      let k : all.second ≤ length all.numbers - all.first = omega arith in
      rw (first-end, le-leb all.second (length all.numbers - all.first) k)

  pub gps-ends : RunEnds all.jd1s all.jd2s all.numbers 0 all.first (gps_ends all)
  gps-ends =
      let whole : all.first - 0 ≡ all.first = omega arith in
      rw first-end (rw whole at (run_ends all.jd1s all.jd2s all.numbers 0 all.first (omega arith)))

  pub tai-ends : RunEnds all.jd1s all.jd2s all.numbers all.first (all.first + all.second) (tai_ends all)
  tai-ends = rw (second-end, first-end) (run_ends all.jd1s all.jd2s all.numbers all.first (all.first + all.second) (omega arith))

  pub utc-ends : RunEnds all.jd1s all.jd2s all.numbers (all.first + all.second) (length all.numbers) (utc_ends all)
  utc-ends = rw second-end (run_ends all.jd1s all.jd2s all.numbers (all.first + all.second) (length all.numbers) inside)
