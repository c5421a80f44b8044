-- The rows that a walk passes are those that the definition holds its months against, and in a table that rises the last row passed is the one that the look-up
-- finds. Assumes nothing.
use Rattle.std.proofs.Common.{◌≡◌, ℕ, zero, suc, ◌+◌, ◌<◌, ◌≤◌, true, false, cond, T, leb, List, [], ◌∷◌, length, get_or, drop, sym, refl, ap, ◌∙◌}
use Rattle.std.proofs.Common.{arith, drop-cons, le-leb}
use native.Mathlib.Decide.{dec_lt}
use lib.ListN.{get_or-eq_default}
use lib.Ieee.{Float, binary64, add, sub, mul}
use borrow.Author.Tests.{lt-leb}
use Rattle.leap_table.specs.rows.Table.{Row, starts, reached, rising, most_rows}
use Rattle.leap_table.specs.offsets.Forward.{never, by_terms}
use Rattle.leap_table.specs.declared.offsets.walk_rows.RowTerms.{RowTerms}
use Rattle.leap_table.proofs.rows.Reached.{at_most, low, high}
use Rattle.leap_table.specs.walk.Rows.{held_against, left}
use Rattle.std.proofs.Common.{subst}
use lib.ListN.{length-map}
use Rattle.leap_table.specs.offsets.Offset.{offset_by}
use Rattle.leap_table.specs.declared.walk.Walk.{Walk}
use Rattle.leap_table.specs.walk.Asked.{Standing, Stepped}

-- ---- the offset by a row's terms, in its two cases
module _ (t : RowTerms) (mjd f : Float) where
  pub stays : t.drifts ≡ false → t.seconds ≡ by_terms t mjd f
  unfolding by_terms
  stays e = rw e

  pub goes : t.drifts ≡ true → (x y : Float) → x ≡ mjd → y ≡ f
      → add binary64 t.seconds (mul binary64 (sub binary64 (add binary64 x y) t.start) t.rate) ≡ by_terms t mjd f
  unfolding by_terms
  goes e x y p q = rw (e, p, q)

-- ---- a place in the list and what stands there
module _ (l : List ℕ) where
  -- within the list it does not matter what is read past it
  pub there : (k d e : ℕ) → k < length l → get_or l k d ≡ get_or l k e
  there k d e h = go l k h
    where
      go : (m : List ℕ) (j : ℕ) → j < length m → get_or m j d ≡ get_or m j e
      go [] j g = absurd (omega arith)
      go (a ∷ m) zero g = refl
      go (a ∷ m) (suc j) g = go m j (omega arith)

  pub in_list : (k n : ℕ) → n < never → get_or l k never ≤ n → k < length l
  in_list k n h g = go (dec_lt k (length l))
    where
      go : Dec (k < length l) → k < length l
      go (yes w) = w
      go (no w) = absurd (omega (arith, get_or-eq_default l never {n = k} (omega arith)))

  drop_past : (k : ℕ) → length l ≤ k → drop k l ≡ []
  drop_past k h = go l k h
    where
      go : (m : List ℕ) (j : ℕ) → length m ≤ j → drop j m ≡ []
      go [] zero g = refl
      go [] (suc j) g = refl
      go (a ∷ m) zero g = absurd (omega arith)
      go (a ∷ m) (suc j) g = go m j (omega arith)

  module _ (n : ℕ) where
    -- a row that has begun is passed, and counts
    pub passes : (k : ℕ) → k < length l → get_or l k 0 ≤ n → (held_against (drop k l) n ≡ suc (held_against (drop (suc k) l) n))
        × (left (drop k l) n ≡ left (drop (suc k) l) n)
    unfolding held_against left
    passes k h g =
        let e = drop-cons l k 0 h in
        let b = le-leb (get_or l k 0) n g in
        (ap (λ (m : List ℕ). held_against m n) e ∙ rw b, ap (λ (m : List ℕ). left m n) e ∙ rw b)

    -- a row that has not begun ends it, and counts; where no row is left nothing does
    pub halts : (k : ℕ) → (k < length l → n < get_or l k 0) → (left (drop k l) n ≡ drop k l) × (held_against (drop k l) n ≡ cond (leb (length l) k) 0 1)
    unfolding held_against left
    halts k g = go (dec_lt k (length l))
      where
        go : Dec (k < length l) → (left (drop k l) n ≡ drop k l) × (held_against (drop k l) n ≡ cond (leb (length l) k) 0 1)
        go (yes w) =
            let e = drop-cons l k 0 w in
            let b = lt-leb (get_or l k 0) n (g w) in
            let c = lt-leb (length l) k w in
            (ap (λ (m : List ℕ). left m n) e ∙ rw b (sym e), ap (λ (m : List ℕ). held_against m n) e ∙ rw (b, c))
        go (no w) =
            let e = drop_past k (omega arith) in
            let c = le-leb (length l) k (omega arith) in
            (ap (λ (m : List ℕ). left m n) e ∙ sym e, ap (λ (m : List ℕ). held_against m n) e ∙ rw c)

    pub stops : (k : ℕ) → n < get_or l k never → (left (drop k l) n ≡ drop k l) × (held_against (drop k l) n ≡ cond (leb (length l) k) 0 1)
    stops k g = halts k (λ w. omega (arith, there k 0 never w))

    -- from place k to place k + d
    pub between : (d k : ℕ) → k + d ≤ length l → ((j : ℕ) → k ≤ j → j < k + d → get_or l j 0 ≤ n)
        → (held_against (drop k l) n ≡ d + held_against (drop (k + d) l) n) × (left (drop k l) n ≡ left (drop (k + d) l) n)
    between zero k h g =
        let e : k ≡ k + 0 = omega arith in
        (ap (λ (x : ℕ). held_against (drop x l) n) e ∙ zero_more (held_against (drop (k + 0) l) n), ap (λ (x : ℕ). left (drop x l) n) e)
      where
        zero_more : (x : ℕ) → x ≡ 0 + x
        zero_more x = omega arith
    between (suc d) k h g =
        let p = passes k (omega arith) (g k (omega arith) (omega arith)) in
        let q = between d (suc k) (omega arith) (λ j a b. g j (omega arith) (omega arith)) in
        let e : suc k + d ≡ k + suc d = omega arith in (
          p.0 ∙ ap suc (q.0 ∙ ap (λ (x : ℕ). d + held_against (drop x l) n) e) ∙ suc_more d (held_against (drop (k + suc d) l) n),
          p.1 ∙ q.1
              ∙ ap (λ (x : ℕ). left (drop x l) n) e,
        )
      where
        suc_more : (a b : ℕ) → suc (a + b) ≡ suc a + b
        suc_more a b = omega arith

    -- in a list that rises the rows passed are those that the look-up finds
    pub found : T (rising l) → (k : ℕ) → k ≤ length l → ((j : ℕ) → j < k → get_or l j 0 ≤ n) → n < get_or l k never → k ≡ reached l n
    found r k h g s = go (dec_lt k (length l))
      where
        low_end : (m : ℕ) → m ≡ k → m ≤ reached l n
        low_end zero e = omega arith
        low_end (suc m) e = low l m n (omega arith) (g m (omega arith))

        go : Dec (k < length l) → k ≡ reached l n
        go (yes w) = omega (arith, low_end k refl, high l r k n w (omega (arith, there k 0 never w)))
        go (no w) = omega (arith, low_end k refl, at_most l n)

-- ---- the rows passed in one month
pub record Walking (rows : List Row) (month k₀ c₀ k next c : ℕ) : Type 0 where
  pub most : k ≤ length rows
  pub small : length rows ≤ most_rows
  pub few : c₀ < 0x8000_0000_0000_0000
  pub forward : k₀ ≤ k
  pub is-next : next ≡ get_or (starts rows) k never
  pub begun : (j : ℕ) → k₀ ≤ j → j < k → get_or (starts rows) j 0 ≤ month
  pub count : c + k₀ ≡ c₀ + k

-- where a walk's month begins, one row on, and where it ends

module _ (rows : List Row) (month : ℕ) where
  as_many : length (starts rows) ≡ length rows
  as_many = length-map rows (λ (r : Row). r.month)

  pub walking_starts : (w : Walk) (k : ℕ) → k ≡ w.reached → Standing rows w → w.compared < 0x8000_0000_0000_0000
      → Walking rows month k w.compared k w.next w.compared
  walking_starts w k e s h =
      record {
        most = omega (arith, s.most);
        small = s.small;
        few = h;
        forward = omega arith;
        is-next = s.next ∙ ap (λ (j : ℕ). get_or (starts rows) j never) (sym e);
        begun = λ j a b. absurd (omega arith);
        count = refl;
      }

  module _ (k₀ c₀ k next c : ℕ) (w : Walking rows month k₀ c₀ k next c) (h : month < 1099511627776) where
    pub walking_in : next ≤ month → k < length rows
    walking_in g = omega (arith, in_list (starts rows) k month (omega arith) (omega (arith, w.is-next)), as_many)

    pub walking_goes : next ≤ month → (r : ℕ) → r ≡ get_or (starts rows) (k + 1) never → Walking rows month k₀ c₀ (k + 1) r (c + 1)
    walking_goes g r e =
        record {
          most = omega (arith, walking_in g);
          small = w.small;
          few = w.few;
          forward = omega (arith, w.forward);
          is-next = e;
          begun = λ j a b. at j a b (dec_lt j k);
          count = omega (arith, w.count);
        }
      where
        at : (j : ℕ) → k₀ ≤ j → j < k + 1 → Dec (j < k) → get_or (starts rows) j 0 ≤ month
        at j a b (yes x) = w.begun j a x
        at j a b (no x) =
            let e : k ≡ j = omega arith in
            subst (λ (i : ℕ). get_or (starts rows) i 0 ≤ month) e
            (omega (arith, there (starts rows) k 0 never (omega (arith, walking_in g, as_many)), w.is-next))

  pub walking_ends : (w : Walk) (n k next c : ℕ) → n ≡ length rows → Walking rows month w.reached w.compared k next c → month < next → (t : RowTerms)
      → ((mjd f : Float) → by_terms t mjd f ≡ offset_by rows k mjd f)
      → Stepped rows w month (record { rows = n; reached = k; next = next; terms = t; compared = c })
  walking_ends w n k next c z a h t e =
      record {
        stands = record { all = z; most = a.most; small = a.small; next = a.is-next; terms = e };
        forward = a.forward;
        begun = a.begun;
        later = h;
        count = a.count;
      }
