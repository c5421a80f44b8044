-- What is true of every lining up that is not refused: each place stands exactly once or has its number, the order is that of the exact sums, and no other list
-- has both. Assumes nothing.
use Prim.Native.Nat.{ℕ, suc, ◌+◌, ◌*◌, ◌<◌, ◌≤◌}
use native.Mathlib.Omega.{arith}
use mathlib.Core.Path.{◌≡◌, refl, sym, ap, ◌∙◌, subst}
use mathlib.Core.Bool.{Bool, true, false, not, cond}
use mathlib.Core.Logic.{◌⊎◌, inl, inr}
use mathlib.Core.List.{List, [], ◌∷◌, ◌++◌}
use lib.Dec.{T, eqb, ltb}
use lib.ListN.{length, get_or}
use lib.Seq.{slice}
use lib.Ieee.{binary64}
use lib.Ieee.Bits.{of_bits-fits}
use borrow.Author.Tests.{ltb-true, ltb-false, lt-ltb, le-ltb, ne_eqb, eqb-true, eqb-false}
use Rattle.refusals.specs.Outcome.{refusal}
use Rattle.rounding.specs.Value.{L}
use Rattle.julian.specs.declared.JulianDate.{JulianDate}
use Rattle.julian.specs.Equality.{FiniteSums}
use Rattle.julian.specs.Worth.{Worth}
use Rattle.numerals.specs.little_endian.LittleEndian.{u64_at}
use Rattle.julian.specs.order.Places.{has_place, is_earlier}
use Rattle.julian.proofs.order.Exactly.{finite-error, sooner-exactly, sum-worth}
use Rattle.julian.proofs.order.Swapped.{sooner-once}
use Rattle.julian.specs.Equality.{sums}
use Rattle.line_up.specs.Runs.{all_tested, run, numbers_after, zeros, merge, ordered, times_in, MayFollow, Rising}
use Rattle.julian.specs.stamp_lists.Stamps.{stamp_of}
use Rattle.line_up.specs.LineUp.{unordered_at, sooner_at, least_room, line_refusal, line_written, put_in_line, lined_up}
use Rattle.line_up.proofs.Cases.{fine}
use Rattle.line_up.proofs.Merges.{length-merge}
use Rattle.line_up.proofs.Testing.{tested-length}
use Rattle.line_up.proofs.Places.{place-times_in, after-length, ordered-rises, ordered-runs, first_run, second_run, third_run}
use Rattle.line_up.specs.keep.Piles.{OrderLaws, All, EachZero}
use Rattle.line_up.proofs.keep.Longest.{chosen_ok}
use Rattle.line_up.proofs.keep.Theorems.{kept-chosen}
use Rattle.line_up.proofs.keep.OfRuns.{zeros-ok, slice_most}
use Rattle.line_up.proofs.Marks.{run-rises}
use Rattle.line_up.specs.laws.Claims.{Floats, by, not_in_line, Each, Pairs, InOrder, Contrary, RunJudged, RightlyIn, Overtaken, LineVerdict}
use Rattle.line_up.specs.laws.Claims.{RunMost, OneLine, zeros_in, Lined}
use Rattle.line_up.proofs.laws.Once.{any_default, two-lists, zeros-counted, zeros_in-append}
use Rattle.line_up.proofs.Unordered.{kept, nine, stays, zero_sound}
use Rattle.line_up.proofs.laws.Judging.{judged, right}
use Rattle.line_up.proofs.laws.Pairwise.{each-merge, rising-pairs, pairs_map, member, each-of-times_in, one_list}

-- ---- the order of two stamps that have a place in it

module _ (date : ℕ → JulianDate) (floats : (p : ℕ) → Floats (date p)) where
  Sound : ℕ → Type 0
  Sound p = FiniteSums (date p)

  sound-of : (p : ℕ) → has_place (date p) ≡ true → Sound p
  unfolding Sound
  sound-of p e =
      let h : T (has_place (date p)) = subst T (sym e) tt in
      record { first_float = (floats p).first; second_float = (floats p).second; sum = (finite-error (date p) h).1.1; error = h }

  lt_is : (x y P N Q M : ℕ) → Sound x → Sound y → Worth (date x) P N L → Worth (date y) Q M L → by date x y ≡ ltb (P + M) (Q + N)
  unfolding Sound is_earlier
  lt_is x y P N Q M s t v w = sooner-exactly (date x) (date y) P N Q M s t v w

  asym : (x y : ℕ) → by date x y ≡ true → by date y x ≡ false
  unfolding is_earlier
  asym x y p = sooner-once (sums (date x)) (sums (date y)) p

  exactly-of : (x y : ℕ) → Sound x → Sound y → MayFollow (by date) x y → InOrder date x y
  exactly-of x y s t f = record {
    rises = λ P N Q M v w. ltb-false (Q + N) (P + M) (sym (lt_is y x Q M P N t s w v) ∙ f.late);
    tied = λ P N Q M v w e. f.tied (lt_is x y P N Q M s t v w ∙ le-ltb (P + M) (Q + N) (omega (arith, e)));
  }

  of_exactly : (x y : ℕ) → Sound x → Sound y → InOrder date x y → MayFollow (by date) x y
  unfolding Sound
  of_exactly x y s t f =
      let v = sum-worth (date x) s in
      let w = sum-worth (date y) t in
      record {
        late = lt_is y x w.0 w.1 v.0 v.1 t s w.2 v.2
            ∙ le-ltb (w.0 + v.1) (v.0 + w.1) (f.rises v.0 v.1 w.0 w.1 v.2 w.2);
        tied = λ p.
            let h = ltb-false (v.0 + w.1) (w.0 + v.1) (sym (lt_is x y v.0 v.1 w.0 w.1 s t v.2 w.2) ∙ p) in
            f.tied v.0 v.1 w.0 w.1 v.2 w.2 (omega (arith, h, f.rises v.0 v.1 w.0 w.1 v.2 w.2));
      }

  follows-trans : (x y z : ℕ) → Sound x → Sound y → Sound z → MayFollow (by date) x y → MayFollow (by date) y z → MayFollow (by date) x z
  unfolding Sound
  follows-trans x y z s t u f g =
      let v = sum-worth (date x) s in
      let w = sum-worth (date y) t in
      let q = sum-worth (date z) u in
      let i = ltb-false (w.0 + v.1) (v.0 + w.1) (sym (lt_is y x w.0 w.1 v.0 v.1 t s w.2 v.2) ∙ f.late) in
      let j = ltb-false (q.0 + w.1) (w.0 + q.1) (sym (lt_is z y q.0 q.1 w.0 w.1 u t q.2 w.2) ∙ g.late) in
      record {
        late = lt_is z x q.0 q.1 v.0 v.1 u s q.2 v.2 ∙ le-ltb (q.0 + v.1) (v.0 + q.1) (omega (arith, i, j));
        tied = λ p.
            let k = ltb-false (v.0 + q.1) (q.0 + v.1) (sym (lt_is x z v.0 v.1 q.0 q.1 s u v.2 q.2) ∙ p) in
            let m = f.tied (lt_is x y v.0 v.1 w.0 w.1 s t v.2 w.2 ∙ le-ltb (v.0 + w.1) (w.0 + v.1) (omega (arith, i, j, k))) in
            let n = g.tied (lt_is y z w.0 w.1 q.0 q.1 t u w.2 q.2 ∙ le-ltb (w.0 + q.1) (q.0 + w.1) (omega (arith, i, j, k))) in
            omega (arith, m, n);
      }

  sound-order : OrderLaws Sound (by date)
  unfolding Sound
  sound-order = record {
    less = λ x y z s t u e f.
        let v = sum-worth (date x) s in
        let w = sum-worth (date y) t in
        let q = sum-worth (date z) u in
        let i = ltb-true (v.0 + w.1) (w.0 + v.1) (sym (lt_is x y v.0 v.1 w.0 w.1 s t v.2 w.2) ∙ e) in
        let j = ltb-true (w.0 + q.1) (q.0 + w.1) (sym (lt_is y z w.0 w.1 q.0 q.1 t u w.2 q.2) ∙ f) in
        lt_is x z v.0 v.1 q.0 q.1 s u v.2 q.2 ∙ lt-ltb (v.0 + q.1) (q.0 + v.1) (omega (arith, i, j));
    not_less = λ x y z s t u e f.
        let v = sum-worth (date x) s in
        let w = sum-worth (date y) t in
        let q = sum-worth (date z) u in
        let i = ltb-false (w.0 + v.1) (v.0 + w.1) (sym (lt_is y x w.0 w.1 v.0 v.1 t s w.2 v.2) ∙ e) in
        let j = ltb-false (q.0 + w.1) (w.0 + q.1) (sym (lt_is z y q.0 q.1 w.0 w.1 u t q.2 w.2) ∙ f) in
        lt_is z x q.0 q.1 v.0 v.1 u s q.2 v.2 ∙ le-ltb (q.0 + v.1) (v.0 + q.1) (omega (arith, i, j));
  }

all-each : (Q : ℕ → Type 0) (xs : List ℕ) → All Q xs → Each Q xs
all-each Q [] a = tt
all-each Q (x ∷ xs) a = (a.0, all-each Q xs a.1)

-- ---- three runs of stamps, which end at places a, b and the length; come are their numbers before the call

module _ (date : ℕ → JulianDate) (floats : (p : ℕ) → Floats (date p)) (come : List ℕ) (a b : ℕ) (ab : a ≤ b) (bc : b ≤ length come) where
  unordered : ℕ → Bool
  unordered p = not (has_place (date p))

  -- the numbers once the unordered are left out
  ns : List ℕ
  ns = all_tested unordered 0 come

  same : length ns ≡ length come
  unfolding ns
  same = tested-length unordered 0 come

  bn : b ≤ length ns
  bn = omega (arith, bc, same)

  -- the numbers after the call, and the places in order
  after : List ℕ
  after = numbers_after (by date) ns a b (length ns)

  line : List ℕ
  line = ordered (by date) after a b (length ns)

  len : length after ≡ length ns
  unfolding after
  len = after-length (by date) ns a b (length ns) ab bn (omega arith)

  line-times_in : (p : ℕ) → times_in p line ≡ cond (eqb (get_or after p 1) 0) 1 0
  unfolding line
  line-times_in p =
      ap (λ (k : ℕ). times_in p (ordered (by date) after a b k)) (sym len)
      ∙ place-times_in (by date) after a b ab (omega (arith, bn, len)) p

  every_place_once : (p : ℕ) → times_in p line + times_in p (not_in_line 0 after) ≡ cond (ltb p (length come)) 1 0
  every_place_once p =
      ap (λ (k : ℕ). k + times_in p (not_in_line 0 after)) (line-times_in p) ∙ two-lists p after ∙ ap (λ (k : ℕ). cond (ltb p k) 1 0) (len ∙ same)

  line-rises : Rising (by date) line
  unfolding line after
  line-rises = ordered-rises (by date) ns a b (length ns) ab bn (omega arith) (asym date floats)

  not_unordered : (t : Bool) → not t ≡ false → t ≡ true
  not_unordered true e = refl
  not_unordered false e = sym e

  -- every stamp that is left with 0 has a place in the order
  sound : (p : ℕ) → p < length ns → get_or ns p 0 ≡ 0 → Sound date floats p
  unfolding ns unordered
  sound p h e = sound-of date floats p (not_unordered (has_place (date p)) (zero_sound unordered come p (omega (arith, h, same)) e).1)

  run_ok : (from to : ℕ) → from ≤ to → to ≤ length ns → EachZero (Sound date floats) from (slice from to ns)
  run_ok from to h k = zeros-ok (by date) ns from to h k (Sound date floats) (sound-order date floats) (λ p u v e. sound p (omega arith) e)

  run_sound : (from to : ℕ) → from ≤ to → to ≤ length ns → Each (Sound date floats) (zeros from (run (by date) ns from to))
  run_sound from to h k =
      all-each (Sound date floats) (zeros from (run (by date) ns from to))
      (chosen_ok (Sound date floats) (by date) (sound-order date floats) (kept-chosen (by date) from (slice from to ns)) (run_ok from to h k))

  line-sound : Each (Sound date floats) line
  unfolding line after
  line-sound =
      subst (Each (Sound date floats)) (sym (ordered-runs (by date) ns a b (length ns) ab bn (omega arith)))
      (each-merge (by date) (Sound date floats) (merge (by date) (zeros 0 (run (by date) ns 0 a)) (zeros a (run (by date) ns a b)))
      (zeros b (run (by date) ns b (length ns)))
      (each-merge (by date) (Sound date floats) (zeros 0 (run (by date) ns 0 a)) (zeros a (run (by date) ns a b))
      (run_sound 0 a (omega arith) (omega (arith, bn))) (run_sound a b ab bn))
      (run_sound b (length ns) bn (omega arith)))

  run-pairs : (from to : ℕ) → from ≤ to → to ≤ length ns → Pairs (MayFollow (by date)) (zeros from (run (by date) ns from to))
  run-pairs from to h k =
      rising-pairs (by date) (Sound date floats) (follows-trans date floats) (zeros from (run (by date) ns from to)) (run_sound from to h k)
      (run-rises (by date) ns from to)

  line-pairs : Pairs (MayFollow (by date)) line
  line-pairs = rising-pairs (by date) (Sound date floats) (follows-trans date floats) line line-sound line-rises

  -- of any two of the order the first's exact sum is smaller, or they are equal and its place is smaller
  line-exactly : Pairs (InOrder date) line
  line-exactly = pairs_map (Sound date floats) (MayFollow (by date)) (InOrder date) (exactly-of date floats) line line-sound line-pairs

  -- no other list has each accepted place once and this order
  line-only : (ys : List ℕ) → ((p : ℕ) → times_in p ys ≡ cond (eqb (get_or after p 1) 0) 1 0) → Pairs (InOrder date) ys → ys ≡ line
  line-only ys h e =
      let alike : (p : ℕ) → times_in p ys ≡ times_in p line = λ p. h p ∙ sym (line-times_in p) in
      let g : Each (Sound date floats) ys =
      each-of-times_in (Sound date floats) ys (λ p k. member (Sound date floats) p line line-sound (subst (λ (q : ℕ). 0 < q) (alike p) k)) in
      one_list (by date) ys line (pairs_map (Sound date floats) (InOrder date) (MayFollow (by date)) (of_exactly date floats) ys g e) line-pairs alike

  -- ---- why a stamp has its number

  -- accepted after the call, so with 0 and sound before
  accepted-sound : (i : ℕ) → i < length ns → ((get_or ns i 0 ≡ 0 → ⊥) → get_or after i 0 ≡ get_or ns i 0) → get_or after i 0 ≡ 0 → Sound date floats i
  accepted-sound i h k e = sound i h (was (eqb (get_or ns i 0) 0) refl)
    where
      was : (t : Bool) → eqb (get_or ns i 0) 0 ≡ t → get_or ns i 0 ≡ 0
      was true q = eqb-true (get_or ns i 0) 0 q
      was false q = let z : get_or ns i 0 ≡ 0 = sym (k (eqb-false (get_or ns i 0) 0 q)) ∙ e in z

  module _ (from to i : ℕ) (h : i < length ns) (tn : to ≤ length ns) (each : (j : ℕ) → from ≤ j → j < to → RunJudged (by date) ns after from to j)
      (fi : from ≤ i) (it : i < to)
      (in-run : RightlyIn (by date) after from to i) where
    judged-i : RunJudged (by date) ns after from to i
    judged-i = each i fi it

    sound-at : (q : ℕ) → from ≤ q → q < to → get_or after q 0 ≡ 0 → Sound date floats q
    sound-at q l m e = accepted-sound q (omega arith) (each q l m).refused e

    exact-by : (q : ℕ) → Sound date floats i → Sound date floats q → ((q < i) × (by date i q ≡ true)) ⊎ ((i < q) × (by date q i ≡ true))
        → ((q < i) × ((P N Q M : ℕ) → Worth (date i) P N L → Worth (date q) Q M L → P + M < Q + N))
        ⊎ ((i < q) × ((P N Q M : ℕ) → Worth (date i) P N L → Worth (date q) Q M L → Q + N < P + M))
    exact-by q s t (inl r) = inl (r.0, λ P N Q M v w. ltb-true (P + M) (Q + N) (sym (lt_is date floats i q P N Q M s t v w) ∙ r.1))
    exact-by q s t (inr r) = inr (r.0, λ P N Q M v w. ltb-true (Q + N) (P + M) (sym (lt_is date floats q i Q M P N t s w v) ∙ r.1))

    by-exact : (q : ℕ) → Sound date floats i → Sound date floats q
        → ((q < i) × ((P N Q M : ℕ) → Worth (date i) P N L → Worth (date q) Q M L → P + M < Q + N))
        ⊎ ((i < q) × ((P N Q M : ℕ) → Worth (date i) P N L → Worth (date q) Q M L → Q + N < P + M))
        → ((q < i) × (by date i q ≡ true)) ⊎ ((i < q) × (by date q i ≡ true))
    unfolding Sound
    by-exact q s t (inl r) =
        let v = sum-worth (date i) s in
        let w = sum-worth (date q) t in
        inl (
          r.0,
          lt_is date floats i q v.0 v.1 w.0 w.1 s t v.2 w.2
              ∙ lt-ltb (v.0 + w.1) (w.0 + v.1) (r.1 v.0 v.1 w.0 w.1 v.2 w.2),
        )
    by-exact q s t (inr r) =
        let v = sum-worth (date i) s in
        let w = sum-worth (date q) t in
        inr (
          r.0,
          lt_is date floats q i w.0 w.1 v.0 v.1 t s w.2 v.2
              ∙ lt-ltb (w.0 + v.1) (v.0 + w.1) (r.1 v.0 v.1 w.0 w.1 v.2 w.2),
        )

    overtaken : get_or ns i 0 ≡ 0 → Contrary (by date) after from to i → Overtaken date after from to i
    overtaken e l = record {
      place = l.place;
      low = l.low;
      high = l.high;
      in_line = l.in_line;
      against = exact-by l.place (sound i h e) (sound-at l.place l.low l.high l.in_line) l.against;
    }

    contrary : get_or after i 0 ≡ 0 → Overtaken date after from to i → Contrary (by date) after from to i
    contrary e o = record {
      place = o.place;
      low = o.low;
      high = o.high;
      in_line = o.in_line;
      against = by-exact o.place (sound-at i fi it e) (sound-at o.place o.low o.high o.in_line) o.against;
    }

    left-out-by : get_or ns i 0 ≡ 0 → (get_or after i 0 ≡ 0) ⊎ ((get_or after i 0 ≡ 17) × Contrary (by date) after from to i) → (get_or after i 0 ≡ 0)
        ⊎ ((get_or after i 0 ≡ 17) × Overtaken date after from to i)
    left-out-by e (inl q) = inl q
    left-out-by e (inr q) = inr (q.0, overtaken e q.1)

    i-come : i < length come
    i-come = omega (arith, h, same)

    not_nine : (n : ℕ) → n ≡ 9 → n ≡ 0 → ⊥
    not_nine n p q = omega (arith, p, q)

    verdict : LineVerdict date come after from to i
    unfolding ns unordered
    verdict = record {
      refused = λ k.
          let q : get_or ns i 0 ≡ get_or come i 0 = kept unordered come i i-come k in
          judged-i.refused (λ z. k (sym q ∙ z)) ∙ q;
      unordered = λ e d.
          let q : get_or ns i 0 ≡ 9 = nine unordered come i i-come e (ap not d) in
          judged-i.refused (not_nine (get_or ns i 0) q) ∙ q;
      sound = λ e d.
          let q : get_or ns i 0 ≡ 0 = stays unordered come i i-come e (ap not d) in
          left-out-by q (judged-i.left_out q);
      in_line = λ e o. in-run.none e (contrary e o);
    }

  slice_1 : slice 0 a after ≡ run (by date) ns 0 a
  unfolding after
  slice_1 = first_run (by date) ns a b (length ns) ab bn (omega arith)

  slice_2 : slice a b after ≡ run (by date) ns a b
  unfolding after
  slice_2 = second_run (by date) ns a b (length ns) ab bn (omega arith)

  slice_3 : slice b (length ns) after ≡ run (by date) ns b (length ns)
  unfolding after
  slice_3 = third_run (by date) ns a b (length ns) ab bn (omega arith)

  run-verdict : (from to : ℕ) → (ft : from ≤ to) → (tn : to ≤ length ns) → slice from to after ≡ run (by date) ns from to → (i : ℕ) → from ≤ i → i < to
      → LineVerdict date come after from to i
  run-verdict from to ft tn r i g h =
      verdict from to i (omega (arith, h, tn)) tn
      (λ j f k. judged (by date) ns after from to ft tn r (Sound date floats) (sound-order date floats) (run_ok from to ft tn) j f k) g h
      (right (by date) ns after from to ft tn r (run-pairs from to ft tn) i g h)

  zero_still : (to : ℕ) → to ≤ length come → (xs : List ℕ) → Each (λ (x : ℕ). (x < to) × ((get_or come x 1 ≡ 0) × (has_place (date x) ≡ true))) xs
      → All (λ (x : ℕ). (x < to) × (get_or ns x 1 ≡ 0)) xs
  unfolding ns unordered
  zero_still to tn [] e = tt
  zero_still to tn (x ∷ xs) e =
      let h : x < length come = omega (arith, e.0.0, tn) in
      let z : get_or come x 0 ≡ 0 = any_default come x 0 1 h ∙ e.0.1.0 in
      ((e.0.0, any_default ns x 1 0 (omega (arith, h, same)) ∙ stays unordered come x h z (ap not e.0.1.1)), zero_still to tn xs e.1)

  run-most : (from to : ℕ) → (ft : from ≤ to) → (tn : to ≤ length ns) → slice from to after ≡ run (by date) ns from to → RunMost date come from to after
  run-most from to ft tn r xs u e rs =
      rw r (slice_most (by date) ns from to ft tn (Sound date floats) (sound-order date floats) (λ p g k z. sound p (omega (arith, k, tn)) z) xs u
      (zero_still to (omega (arith, tn, same)) xs e) rs)

  -- THE COUNT: as many as numbers that are 0 after the call
  line-counted : length line ≡ zeros_in after
  unfolding line after numbers_after
  line-counted =
      let r1 = run (by date) ns 0 a in
      let r2 = run (by date) ns a b in
      let r3 = run (by date) ns b (length ns) in
      ap length (ordered-runs (by date) ns a b (length ns) ab bn (omega arith))
      ∙ omega (
        arith,
        length-merge (by date) (merge (by date) (zeros 0 r1) (zeros a r2)) (zeros b r3),
        length-merge (by date) (zeros 0 r1) (zeros a r2),
        zeros-counted 0 r1,
        zeros-counted a r2,
        zeros-counted b r3,
        zeros_in-append r1 (r2 ++ r3),
        zeros_in-append r2 r3,
      )

  one_line : OneLine date come a b line after
  one_line =
      let r1 : slice 0 a after ≡ run (by date) ns 0 a = slice_1 in
      let r2 : slice a b after ≡ run (by date) ns a b = slice_2 in
      let r3 : slice b (length ns) after ≡ run (by date) ns b (length ns) = slice_3 in
      let z : 0 ≤ a = omega arith in
      let an : a ≤ length ns = omega (arith, ab, bn) in
      let nn : length ns ≤ length ns = omega arith in
      record {
        as_many = len ∙ same;
        once = line-times_in;
        every_place = every_place_once;
        first_run = λ i h. run-verdict 0 a z an r1 i (omega arith) h;
        second_run = λ i g h. run-verdict a b ab bn r2 i g h;
        third_run = λ i g h. subst (λ (n : ℕ). LineVerdict date come after b n i) same (run-verdict b (length ns) bn nn r3 i g (omega (arith, h, same)));
        most = (run-most 0 a z an r1, (run-most a b ab bn r2, subst (λ (n : ℕ). RunMost date come b n after) same (run-most b (length ns) bn nn r3)));
        in_order = line-exactly;
        only = line-only;
      }

-- ---- the call

bytes-floats : (js ks : List ℕ) (p : ℕ) → Floats (stamp_of js ks p)
unfolding stamp_of
bytes-floats js ks p = record { first = of_bits-fits binary64 (u64_at js (8 * p)); second = of_bits-fits binary64 (u64_at ks (8 * p)) }

module _ (js ks come : List ℕ) (first second : ℕ) (out : List ℕ) (tails ranks : ℕ) where
  -- a refused call writes nothing
  pub refused-line : (n : ℕ) → line_refusal (length js) (length ks) (length come) first second (least_room (length out) tails ranks) ≡ suc n
      → lined_up js ks come first second out tails ranks ≡ record { answer = refusal (suc n); numbers = come; out = out }
  unfolding lined_up
  refused-line n e = rw (e, ne_eqb (suc n) 0 (λ q. let z : ⊥ = omega (arith, q) in z))

  -- THE LINE: every call that is not refused
  pub lined-up : line_refusal (length js) (length ks) (length come) first second (least_room (length out) tails ranks) ≡ 0
      → Lined js ks come first second out (lined_up js ks come first second out tails ranks)
  unfolding lined_up put_in_line line_written line after ns unordered unordered_at sooner_at
  lined-up z =
      let sizes = fine (length js) (length ks) (length come) first second (least_room (length out) tails ranks) z in
      let up : first ≤ first + second = omega arith in
      let fit : first + second ≤ length come = omega (arith, sizes.count1, sizes.count2) in
      rw z
      (record {
        line = line (stamp_of js ks) (bytes-floats js ks) come first (first + second) up fit;
        answers = refl;
        counted = line-counted (stamp_of js ks) (bytes-floats js ks) come first (first + second) up fit;
        places = refl;
        right = one_line (stamp_of js ks) (bytes-floats js ks) come first (first + second) up fit;
      })
