-- Where a stamp that is not ordered stands. Assumes nothing.
use Rattle.std.proofs.Common.{◌≡◌, ℕ, zero, suc, ◌+◌, ◌-◌, ◌<◌, ◌≤◌, Bool, true, false, cond, eqb, ltb, List, [], ◌∷◌, ◌++◌, length, get_or, sym, refl, ap, ◌∙◌}
use Rattle.std.proofs.Common.{subst, append_assoc, arith, ltb-false, ltb-true, eq-eqb, ne_eqb, eqb-true}
use borrow.Author.Tests.{eqb-false}
use Rattle.line_up.specs.Runs.{ordered, times_in}
use Rattle.line_up.specs.laws.Claims.{Each}
use Rattle.line_up.proofs.Places.{place-times_in}
use Rattle.line_up.proofs.laws.Once.{any_default}
use Rattle.line_listing.specs.order.Order.{behind, each_behind, run_starts, line_order, run_end}
use Rattle.line_listing.specs.laws.Places.{up_from, Run, run_1, run_2, run_3, DirectlyBehind, BeforeAll}
use Rattle.line_listing.proofs.order.Segments.{behind-none, behind-cons}
use Rattle.line_listing.proofs.order.Tiles.{end_1, end_2, end_3}

-- ---- a list at one of its places

pub record Split (xs : List ℕ) (p : ℕ) : Type 0 where
  pub before : List ℕ
  pub after : List ℕ
  pub whole : xs ≡ before ++ (p ∷ after)

split_by : (p x : ℕ) (xs : List ℕ) (t : Bool) → eqb p x ≡ t → (0 < times_in p xs → Split xs p) → 0 < cond t 1 0 + times_in p xs → Split (x ∷ xs) p
split_by p x xs true e r k = record { before = []; after = xs; whole = ap (λ (y : ℕ). y ∷ xs) (sym (eqb-true p x e)) }
split_by p x xs false e r k =
    let s = r (omega arith) in
    record { before = x ∷ s.before; after = s.after; whole = ap (λ (l : List ℕ). x ∷ l) s.whole }

pub split : (p : ℕ) (xs : List ℕ) → 0 < times_in p xs → Split xs p
unfolding times_in
split p [] h = let w : ⊥ = omega arith in absurd w
split p (x ∷ xs) h = split_by p x xs (eqb p x) refl (split p xs) h

each_append : (ms : List ℕ) (end : ℕ → ℕ) (xs ys : List ℕ) → each_behind ms end (xs ++ ys) ≡ each_behind ms end xs ++ each_behind ms end ys
unfolding each_behind
each_append ms end [] ys = refl
each_append ms end (x ∷ xs) ys =
    ap (λ (l : List ℕ). (x ∷ behind ms (suc x) (end x)) ++ l) (each_append ms end xs ys)
    ∙ sym (append_assoc (x ∷ behind ms (suc x) (end x)) (each_behind ms end xs) (each_behind ms end ys))

both : (Q : ℕ → Type 0) (xs ys : List ℕ) → Each Q xs → Each Q ys → Each Q (xs ++ ys)
both Q [] ys e f = f
both Q (x ∷ xs) ys e f = (e.0, both Q xs ys e.1 f)

-- ---- places that are not ordered, one after the other

-- a place below q that is not ordered
abbrev Unordered : List ℕ → ℕ → ℕ → Type 0
Unordered ms q x = (x < q) × (get_or ms x 0 ≡ 0 → ⊥)

module _ (ms : List ℕ) (to : ℕ) (tn : to ≤ length ms) where
  pub behind-run : (d i : ℕ) → i + d ≤ to → ((x : ℕ) → i ≤ x → x < i + d → get_or ms x 0 ≡ 0 → ⊥) → behind ms i to ≡ up_from i d ++ behind ms (i + d) to
  unfolding up_from
  behind-run zero i h k = ap (λ (j : ℕ). behind ms j to) (let z : i ≡ i + 0 = omega arith in z)
  behind-run (suc d) i h k =
      behind-cons ms to tn i (omega arith) ∙ rw (ne_eqb (get_or ms i 0) 0 (k i (omega arith) (omega arith)))
      (ap (λ (l : List ℕ). i ∷ l) (behind-run d (suc i) (omega arith) (λ x l u. k x (omega arith) (omega arith))
      ∙ ap (λ (j : ℕ). up_from (suc i) d ++ behind ms j to) (let z : suc i + d ≡ i + suc d = omega arith in z)))

  -- each of them is a place below the end that is not ordered
  pub behind-each : (q i : ℕ) → to ≤ q → Each (Unordered ms q) (behind ms i to)
  behind-each q i tq = go to i (omega arith)
    where
      step : (t : Bool) (i : ℕ) → i < to → eqb (get_or ms i 0) 0 ≡ t → Each (Unordered ms q) (behind ms (suc i) to)
          → Each (Unordered ms q) (cond t [] (i ∷ behind ms (suc i) to))
      step true i l e r = tt
      step false i l e r = ((omega arith, eqb-false (get_or ms i 0) 0 e), r)

      test : (t : Bool) (i : ℕ) → ltb i to ≡ t → Each (Unordered ms q) (behind ms (suc i) to)
          → Each (Unordered ms q) (behind ms i to)
      test true i e r =
          let l : i < to = ltb-true i to e in
          subst (Each (Unordered ms q)) (sym (behind-cons ms to tn i l)) (step (eqb (get_or ms i 0) 0) i l refl r)
      test false i e r = subst (Each (Unordered ms q)) (sym (behind-none ms to tn i (ltb-false i to e))) tt

      go : (d i : ℕ) → to ≤ i + d → Each (Unordered ms q) (behind ms i to)
      go zero i h = subst (Each (Unordered ms q)) (sym (behind-none ms to tn i (omega arith))) tt
      go (suc d) i h = test (ltb i to) i refl (go d (suc i) (omega arith))

up_each : (Q : ℕ → Type 0) (i d : ℕ) → ((x : ℕ) → i ≤ x → x < i + d → Q x) → Each Q (up_from i d)
unfolding up_from
up_each Q i zero h = tt
up_each Q i (suc d) h = (h i (omega arith) (omega arith), up_each Q (suc i) d (λ x l u. h x (omega arith) (omega arith)))

module _ (lt : ℕ → ℕ → Bool) (ms : List ℕ) (a b : ℕ) (ab : a ≤ b) (bn : b ≤ length ms) where
  abbrev n : ℕ
  n = length ms

  abbrev end : ℕ → ℕ
  end = run_end a b n

  abbrev line : List ℕ
  line = ordered lt ms a b n

  run-high : (from to : ℕ) → Run a b n from to → (from ≤ to) × (to ≤ n)
  run-high from to run_1 = (omega arith, omega arith)
  run-high from to run_2 = (ab, bn)
  run-high from to run_3 = (bn, omega arith)

  run_ends : (from to : ℕ) → Run a b n from to → (p : ℕ) → from ≤ p → p < to → end p ≡ to
  run_ends from to run_1 p l h = end_1 a b n ab p h
  run_ends from to run_2 p l h = end_2 a b n ab p l h
  run_ends from to run_3 p l h = end_3 a b n ab p l

  -- DIRECTLY BEHIND the last ordered one before it in its run
  pub stands-behind : (from to : ℕ) → Run a b n from to → (p q : ℕ) → from ≤ p → p < q → q < to → get_or ms p 0 ≡ 0
      → ((x : ℕ) → p < x → x ≤ q → get_or ms x 0 ≡ 0 → ⊥) → DirectlyBehind (line_order ms a b line) p q
  unfolding line_order each_behind up_from
  stands-behind from to r p q l pq h z k =
      let tn : to ≤ n = (run-high from to r).1 in
      let o : get_or ms p 1 ≡ 0 = any_default ms p 1 0 (omega arith) ∙ z in
      let once : times_in p line ≡ 1 = place-times_in lt ms a b ab bn p ∙ rw (eq-eqb (get_or ms p 1) 0 o) in
      let s = split p line (omega arith) in
      let d = q - p in
      let rest = behind ms (suc p + d) to in
      let each = each_behind ms end in
      let f : behind ms (suc p) (end p) ≡ up_from (suc p) d ++ rest =
      ap (behind ms (suc p)) (run_ends from to r p l (omega arith))
      ∙ behind-run ms to tn d (suc p) (omega arith) (λ x u v. k x (omega arith) (omega arith)) in
      record {
        before = run_starts ms a b ++ each s.before;
        after = rest ++ each s.after;
        whole = ap (λ (x : List ℕ). run_starts ms a b ++ x)
            (ap each s.whole ∙ each_append ms end s.before (p ∷ s.after)
            ∙ ap (λ (x : List ℕ). each s.before ++ (p ∷ (x ++ each s.after))) f
            ∙ ap (λ (x : List ℕ). each s.before ++ (p ∷ x)) (append_assoc (up_from (suc p) d) rest (each s.after)))
            ∙ sym (append_assoc (run_starts ms a b) (each s.before) (p ∷ (up_from (suc p) d ++ (rest ++ each s.after))));
      }

  -- what stands before the first ordered place of a run has q behind its smaller places
  at_start : (from to q : ℕ) → to ≤ n → from ≤ q → q < to → ((x : ℕ) → from ≤ x → x ≤ q → get_or ms x 0 ≡ 0 → ⊥)
      → behind ms from to ≡ up_from from (q - from) ++ (q ∷ behind ms (suc q) to)
  at_start from to q tn l h k =
      let e : from + (q - from) ≡ q = omega arith in
      behind-run ms to tn (q - from) from (omega arith) (λ x u v. k x u (omega arith))
      ∙ ap (λ (j : ℕ). up_from from (q - from) ++ behind ms j to) e
      ∙ ap (λ (x : List ℕ). up_from from (q - from) ++ x) (behind-cons ms to tn q h ∙ rw (ne_eqb (get_or ms q 0) 0 (k q l (omega arith))))

  module _ (q : ℕ) where
    smaller : (from : ℕ) → from ≤ q → ((x : ℕ) → from ≤ x → x ≤ q → get_or ms x 0 ≡ 0 → ⊥)
        → Each (Unordered ms q) (up_from from (q - from))
    smaller from l k = up_each (Unordered ms q) from (q - from) (λ x u v. (omega arith, k x u (omega arith)))

    -- the lines, with q in one of the three starts
    placed : (xs rest : List ℕ) → Each (Unordered ms q) xs
        → run_starts ms a b ≡ xs ++ (q ∷ rest) → BeforeAll ms (line_order ms a b line) q
    unfolding line_order
    placed xs rest e w = record {
      before = xs;
      after = rest ++ each_behind ms end line;
      whole = ap (λ (x : List ℕ). x ++ each_behind ms end line) w ∙ append_assoc xs (q ∷ rest) (each_behind ms end line);
      none = e;
    }

    -- BEFORE ALL ORDERED STAMPS where there is none before it in its run
    pub stands-first : (from to : ℕ) → Run a b n from to → from ≤ q → q < to → ((x : ℕ) → from ≤ x → x ≤ q → get_or ms x 0 ≡ 0 → ⊥)
        → BeforeAll ms (line_order ms a b line) q
    unfolding run_starts
    stands-first from to run_1 l h k =
        let u = up_from 0 (q - 0) in
        let r = behind ms (suc q) a in
        let z = behind ms a b ++ behind ms b n in
        placed u (r ++ z) (smaller 0 l k)
        (ap (λ (x : List ℕ). x ++ z) (at_start 0 a q (omega arith) l h k) ∙ append_assoc u (q ∷ r) z)
    stands-first from to run_2 l h k =
        let s = behind ms 0 a in
        let u = up_from a (q - a) in
        let r = behind ms (suc q) b in
        let z = behind ms b n in
        placed (s ++ u) (r ++ z)
        (both (Unordered ms q) s u (behind-each ms a (omega arith) q 0 l) (smaller a l k))
        (ap (λ (x : List ℕ). s ++ (x ++ z)) (at_start a b q bn l h k) ∙ ap (λ (x : List ℕ). s ++ x) (append_assoc u (q ∷ r) z)
        ∙ sym (append_assoc s u (q ∷ (r ++ z))))
    stands-first from to run_3 l h k =
        let s = behind ms 0 a in
        let t = behind ms a b in
        let u = up_from b (q - b) in
        let r = behind ms (suc q) n in
        placed (s ++ (t ++ u)) r
        (both (Unordered ms q) s (t ++ u) (behind-each ms a (omega arith) q 0 (omega arith))
        (both (Unordered ms q) t u (behind-each ms b bn q a l) (smaller b l k)))
        (ap (λ (x : List ℕ). s ++ (t ++ x)) (at_start b n q (omega arith) l h k) ∙ ap (λ (x : List ℕ). s ++ x) (sym (append_assoc t u (q ∷ r)))
        ∙ sym (append_assoc s (t ++ u) (q ∷ r)))
