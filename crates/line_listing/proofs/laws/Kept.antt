-- The lines of one run, and those of the ordered stamps, with the others taken out. Assumes nothing.
use Rattle.std.proofs.Common.{◌≡◌, ℕ, zero, suc, ◌+◌, ◌-◌, ◌<◌, ◌≤◌, Bool, true, false, cond, ◌&&◌, eqb, ltb, leb, List, [], ◌∷◌, ◌++◌, length, get_or, sym}
use Rattle.std.proofs.Common.{refl, ap, ◌∙◌, append-nil, arith, ltb-false, ltb-true, le-ltb, lt-ltb, le-leb}
use borrow.Author.Tests.{lt-leb}
use Rattle.line_up.specs.Runs.{accepted_in, into, merge, ordered, times_in}
use Rattle.line_up.specs.laws.Claims.{Each}
use Rattle.line_up.proofs.Places.{place-times_in}
use Rattle.line_up.proofs.laws.Once.{any_default}
use Rattle.line_up.proofs.laws.Pairwise.{each-of-times_in}
use Rattle.line_listing.specs.order.Order.{behind, each_behind, run_starts, line_order, run_end}
use Rattle.line_listing.specs.laws.Places.{up_from, only, Run, run_1, run_2, run_3, in_run, is_ordered}
use Rattle.line_listing.proofs.order.Segments.{behind-none, behind-cons}
use Rattle.line_listing.proofs.order.Tiles.{tile_1, tile_2, tile_3}

-- ---- lists one after the other

abbrev pub flat : (ℕ → List ℕ) → List ℕ → List ℕ
flat f [] = []
flat f (x ∷ xs) = f x ++ flat f xs

abbrev None : (ℕ → List ℕ) → List ℕ → Type 0
None f xs = Each (λ (x : ℕ). f x ≡ []) xs

flat_none : (f : ℕ → List ℕ) (xs : List ℕ) → None f xs → flat f xs ≡ []
flat_none f [] e = refl
flat_none f (x ∷ xs) e = (λ i. e.0 i ++ flat_none f xs e.1 i)

-- two lists that are nothing together are nothing
both_none : (xs ys : List ℕ) → xs ++ ys ≡ [] → (xs ≡ []) × (ys ≡ [])
both_none [] ys e = (refl, e)
both_none (x ∷ xs) ys e = let z : ◌≡◌ {A = ℕ} 0 1 = cc in let w : ⊥ = omega arith in absurd w

none-flat : (f : ℕ → List ℕ) (xs : List ℕ) → flat f xs ≡ [] → None f xs
none-flat f [] e = tt
none-flat f (x ∷ xs) e = let w = both_none (f x) (flat f xs) e in (w.0, none-flat f xs w.1)

module _ (lt : ℕ → ℕ → Bool) (f : ℕ → List ℕ) where
  -- ---- a merge with places that give nothing

  left-pick : (t : Bool) (x y : ℕ) (c xs ys : List ℕ) → f y ≡ [] → flat f xs ≡ f x ++ c → flat f ys ≡ c → flat f (cond t (y ∷ xs) (x ∷ ys)) ≡ f x ++ c
  left-pick true x y c xs ys e h k = (λ i. e i ++ h i)
  left-pick false x y c xs ys e h k = ap (λ (l : List ℕ). f x ++ l) k

  left-into : (x : ℕ) (c : List ℕ) (rest : List ℕ → List ℕ) → ((ys : List ℕ) → None f ys → flat f (rest ys) ≡ c) → (ys : List ℕ) → None f ys
      → flat f (into lt x rest ys) ≡ f x ++ c
  unfolding into
  left-into x c rest r [] e = ap (λ (l : List ℕ). f x ++ l) (r [] tt)
  left-into x c rest r (y ∷ ys) e = left-pick (lt y x) x y c (into lt x rest ys) (rest (y ∷ ys)) e.0 (left-into x c rest r ys e.1) (r (y ∷ ys) e)

  pub flat_left : (xs ys : List ℕ) → None f ys → flat f (merge lt xs ys) ≡ flat f xs
  unfolding merge
  flat_left [] ys e = flat_none f ys e
  flat_left (x ∷ xs) ys e = left-into x (flat f xs) (merge lt xs) (λ zs g. flat_left xs zs g) ys e

  right-pick : (t : Bool) (x y : ℕ) (xs ys c : List ℕ) → f x ≡ [] → flat f xs ≡ c → flat f ys ≡ f y ++ c → flat f (cond t (y ∷ xs) (x ∷ ys)) ≡ f y ++ c
  right-pick true x y xs ys c e h k = ap (λ (l : List ℕ). f y ++ l) h
  right-pick false x y xs ys c e h k = (λ i. e i ++ k i)

  right-into : (x : ℕ) (rest : List ℕ → List ℕ) → f x ≡ [] → ((ys : List ℕ) → flat f (rest ys) ≡ flat f ys) → (ys : List ℕ)
      → flat f (into lt x rest ys) ≡ flat f ys
  unfolding into
  right-into x rest e r [] = (λ i. e i ++ r [] i)
  right-into x rest e r (y ∷ ys) = right-pick (lt y x) x y (into lt x rest ys) (rest (y ∷ ys)) (flat f ys) e (right-into x rest e r ys) (r (y ∷ ys))

  pub flat_right : (xs ys : List ℕ) → None f xs → flat f (merge lt xs ys) ≡ flat f ys
  unfolding merge
  flat_right [] ys e = refl
  flat_right (x ∷ xs) ys e = right-into x (merge lt xs) e.0 (λ zs. flat_right xs zs e.1) ys

-- ---- those that pass a test

append_pick : (t : Bool) (x : ℕ) (xs ys zs : List ℕ) → xs ≡ ys ++ zs → cond t (x ∷ xs) xs ≡ cond t (x ∷ ys) ys ++ zs
append_pick true x xs ys zs e = ap (λ (l : List ℕ). x ∷ l) e
append_pick false x xs ys zs e = e

pub only-append : (t : ℕ → Bool) (xs ys : List ℕ) → only t (xs ++ ys) ≡ only t xs ++ only t ys
unfolding only
only-append t [] ys = refl
only-append t (x ∷ xs) ys = append_pick (t x) x (only t (xs ++ ys)) (only t xs) (only t ys) (only-append t xs ys)

up_all : (t : ℕ → Bool) (i d : ℕ) → ((x : ℕ) → i ≤ x → x < i + d → t x ≡ true) → only t (up_from i d) ≡ up_from i d
unfolding only up_from
up_all t i zero h = refl
up_all t i (suc d) h = rw (h i (omega arith) (omega arith)) (ap (λ (l : List ℕ). i ∷ l) (up_all t (suc i) d (λ x l u. h x (omega arith) (omega arith))))

up_none : (t : ℕ → Bool) (i d : ℕ) → ((x : ℕ) → i ≤ x → x < i + d → t x ≡ false) → only t (up_from i d) ≡ []
unfolding only up_from
up_none t i zero h = refl
up_none t i (suc d) h = rw (h i (omega arith) (omega arith)) (up_none t (suc i) d (λ x l u. h x (omega arith) (omega arith)))

-- a place with those behind it, of which some are taken out
abbrev seg : (ℕ → Bool) → List ℕ → (ℕ → ℕ) → ℕ → List ℕ
seg t ms end p = only t (p ∷ behind ms (suc p) (end p))

pub only-each : (t : ℕ → Bool) (ms : List ℕ) (end : ℕ → ℕ) (ps : List ℕ) → only t (each_behind ms end ps) ≡ flat (seg t ms end) ps
unfolding each_behind only
only-each t ms end [] = refl
only-each t ms end (p ∷ ps) =
    only-append t (p ∷ behind ms (suc p) (end p)) (each_behind ms end ps) ∙ ap (λ (l : List ℕ). seg t ms end p ++ l) (only-each t ms end ps)

-- ---- ONE RUN

module _ (lt : ℕ → ℕ → Bool) (ms : List ℕ) (a b : ℕ) (ab : a ≤ b) (bn : b ≤ length ms) where
  abbrev n : ℕ
  n = length ms

  abbrev end : ℕ → ℕ
  end = run_end a b n

  abbrev A1 : List ℕ
  A1 = accepted_in ms 0 a

  abbrev A2 : List ℕ
  A2 = accepted_in ms a b

  abbrev A3 : List ℕ
  A3 = accepted_in ms b n

  module _ (t : ℕ → Bool) where
    abbrev f : ℕ → List ℕ
    f = seg t ms end

    of_run : (B A U : List ℕ) → B ++ each_behind ms end A ≡ U → only t B ++ flat f A ≡ only t U
    of_run B A U e = ap (λ (l : List ℕ). only t B ++ l) (sym (only-each t ms end A)) ∙ sym (only-append t B (each_behind ms end A)) ∙ ap (only t) e

    one : only t (behind ms 0 a) ++ flat f A1 ≡ only t (up_from 0 a)
    one = of_run (behind ms 0 a) A1 (up_from 0 a) (tile_1 lt ms a b ab bn)

    two : only t (behind ms a b) ++ flat f A2 ≡ only t (up_from a (b - a))
    two = of_run (behind ms a b) A2 (up_from a (b - a)) (tile_2 lt ms a b ab bn)

    three : only t (behind ms b n) ++ flat f A3 ≡ only t (up_from b (n - b))
    three = of_run (behind ms b n) A3 (up_from b (n - b)) (tile_3 lt ms a b ab bn)

    parts : only t (line_order ms a b (ordered lt ms a b n))
        ≡ (only t (behind ms 0 a) ++ (only t (behind ms a b) ++ only t (behind ms b n))) ++ flat f (merge lt (merge lt A1 A2) A3)
    unfolding line_order run_starts ordered
    parts =
        only-append t (behind ms 0 a ++ (behind ms a b ++ behind ms b n)) (each_behind ms end (merge lt (merge lt A1 A2) A3))
        ∙ (λ i.
        (only-append t (behind ms 0 a) (behind ms a b ++ behind ms b n) ∙ ap (λ (l : List ℕ). only t (behind ms 0 a) ++ l)
        (only-append t (behind ms a b) (behind ms b n))) i
        ++ only-each t ms end (merge lt (merge lt A1 A2) A3) i)

    none_1 : only t (up_from 0 a) ≡ [] → (only t (behind ms 0 a) ≡ []) × None f A1
    none_1 e = let w = both_none (only t (behind ms 0 a)) (flat f A1) (one ∙ e) in (w.0, none-flat f A1 w.1)

    none_2 : only t (up_from a (b - a)) ≡ [] → (only t (behind ms a b) ≡ []) × None f A2
    none_2 e = let w = both_none (only t (behind ms a b)) (flat f A2) (two ∙ e) in (w.0, none-flat f A2 w.1)

    none-3 : only t (up_from b (n - b)) ≡ [] → (only t (behind ms b n) ≡ []) × None f A3
    none-3 e = let w = both_none (only t (behind ms b n)) (flat f A3) (three ∙ e) in (w.0, none-flat f A3 w.1)

    abbrev Kept : List ℕ → Type 0
    Kept U = only t (line_order ms a b (ordered lt ms a b n)) ≡ only t U

    kept-1 : only t (up_from a (b - a)) ≡ [] → only t (up_from b (n - b)) ≡ [] → Kept (up_from 0 a)
    kept-1 e g =
        let x = none_2 e in
        let y = none-3 g in
        parts
        ∙ (λ i. (only t (behind ms 0 a) ++ (x.0 i ++ y.0 i)) ++ (flat_left lt f (merge lt A1 A2) A3 y.1 ∙ flat_left lt f A1 A2 x.1) i)
        ∙ ap (λ (l : List ℕ). l ++ flat f A1) (append-nil (only t (behind ms 0 a))) ∙ one

    kept-2 : only t (up_from 0 a) ≡ [] → only t (up_from b (n - b)) ≡ [] → Kept (up_from a (b - a))
    kept-2 e g =
        let x = none_1 e in
        let y = none-3 g in
        parts
        ∙ (λ i. (x.0 i ++ (only t (behind ms a b) ++ y.0 i)) ++ (flat_left lt f (merge lt A1 A2) A3 y.1 ∙ flat_right lt f A1 A2 x.1) i)
        ∙ ap (λ (l : List ℕ). l ++ flat f A2) (append-nil (only t (behind ms a b))) ∙ two

    kept-3 : only t (up_from 0 a) ≡ [] → only t (up_from a (b - a)) ≡ [] → Kept (up_from b (n - b))
    kept-3 e g =
        let x = none_1 e in
        let y = none_2 g in
        let w : None f (merge lt A1 A2) = none-flat f (merge lt A1 A2) (flat_left lt f A1 A2 y.1 ∙ flat_none f A1 x.1) in
        parts ∙ (λ i. (x.0 i ++ (y.0 i ++ only t (behind ms b n))) ++ flat_right lt f (merge lt A1 A2) A3 w i) ∙ three

  in-run : (from to x : ℕ) → from ≤ x → x < to → in_run from to x ≡ true
  in-run from to x h k = rw (le-leb from x h, lt-ltb x to k)

  out-low : (from to x : ℕ) → x < from → in_run from to x ≡ false
  out-low from to x h = rw (lt-leb from x h)

  and_false : (t : Bool) → (t && false) ≡ false
  and_false true = refl
  and_false false = refl

  out-high : (from to x : ℕ) → to ≤ x → in_run from to x ≡ false
  out-high from to x h = rw (le-ltb x to h) (and_false (leb from x))

  -- THE LINES OF A RUN are in the order of the run
  pub run-lines : (from to : ℕ) → Run a b n from to → only (in_run from to) (line_order ms a b (ordered lt ms a b n)) ≡ up_from from (to - from)
  run-lines from to run_1 =
      kept-1 (in_run 0 a)
      (up_none (in_run 0 a) a (b - a) (λ x l u. out-high 0 a x l))
      (up_none (in_run 0 a) b (n - b) (λ x l u. out-high 0 a x (omega arith)))
      ∙ up_all (in_run 0 a) 0 a (λ x l u. in-run 0 a x l (omega arith)) ∙ ap (up_from 0) (let z : a ≡ a - 0 = omega arith in z)
  run-lines from to run_2 =
      kept-2 (in_run a b)
      (up_none (in_run a b) 0 a (λ x l u. out-low a b x (omega arith)))
      (up_none (in_run a b) b (n - b) (λ x l u. out-high a b x l))
      ∙ up_all (in_run a b) a (b - a) (λ x l u. in-run a b x l (omega arith))
  run-lines from to run_3 =
      kept-3 (in_run b n)
      (up_none (in_run b n) 0 a (λ x l u. out-low b n x (omega arith)))
      (up_none (in_run b n) a (b - a) (λ x l u. out-low b n x (omega arith)))
      ∙ up_all (in_run b n) b (n - b) (λ x l u. in-run b n x l (omega arith))

  -- ---- THE ORDERED ONES

  not_ordered : (i to : ℕ) → to ≤ n → (d : ℕ) → to ≤ i + d → only (is_ordered ms) (behind ms i to) ≡ []
  unfolding only
  not_ordered i to tn d h = go d i h
    where
      step : (t : Bool) (i : ℕ) → i < to → eqb (get_or ms i 0) 0 ≡ t → only (is_ordered ms) (behind ms (suc i) to) ≡ []
          → only (is_ordered ms) (cond t [] (i ∷ behind ms (suc i) to)) ≡ []
      step true i l e h = refl
      step false i l e h =
          let m : is_ordered ms i ≡ false = ap (λ (m : ℕ). eqb m 0) (any_default ms i 1 0 (omega arith)) ∙ e in
          rw m h

      test : (t : Bool) (i : ℕ) → ltb i to ≡ t → only (is_ordered ms) (behind ms (suc i) to) ≡ [] → only (is_ordered ms) (behind ms i to) ≡ []
      test true i e h =
          let l : i < to = ltb-true i to e in
          ap (only (is_ordered ms)) (behind-cons ms to tn i l) ∙ step (eqb (get_or ms i 0) 0) i l refl h
      test false i e h = ap (only (is_ordered ms)) (behind-none ms to tn i (ltb-false i to e))

      go : (d i : ℕ) → to ≤ i + d → only (is_ordered ms) (behind ms i to) ≡ []
      go zero i h = ap (only (is_ordered ms)) (behind-none ms to tn i (omega arith))
      go (suc d) i h = test (ltb i to) i refl (go d (suc i) (omega arith))

  none-ordered : (i to : ℕ) → to ≤ n → only (is_ordered ms) (behind ms i to) ≡ []
  none-ordered i to tn = not_ordered i to tn to (omega arith)

  end_fits : (p : ℕ) → end p ≤ n
  end_fits p = go (ltb p a) (ltb p b)
    where
      go : (t u : Bool) → cond t a (cond u b n) ≤ n
      go true u = omega arith
      go false true = omega arith
      go false false = omega arith

  all-in-line : Each (λ (p : ℕ). is_ordered ms p ≡ true) (ordered lt ms a b n)
  all-in-line = each-of-times_in (λ (p : ℕ). is_ordered ms p ≡ true) (ordered lt ms a b n) (λ p h. go p (is_ordered ms p) refl h)
    where
      go : (p : ℕ) (t : Bool) → is_ordered ms p ≡ t → 0 < times_in p (ordered lt ms a b n) → is_ordered ms p ≡ true
      go p true e h = e
      go p false e h =
          let z : times_in p (ordered lt ms a b n) ≡ 0 = place-times_in lt ms a b ab bn p ∙ ap (λ (t : Bool). cond {A = ℕ} t 1 0) e in
          let w : ⊥ = omega arith in
          absurd w

  one_each : (ps : List ℕ) → Each (λ (p : ℕ). is_ordered ms p ≡ true) ps → flat (seg (is_ordered ms) ms end) ps ≡ ps
  unfolding only
  one_each [] e = refl
  one_each (p ∷ ps) e =
      rw e.0 (λ i. p ∷ (none-ordered (suc p) (end p) (end_fits p) i ++ one_each ps e.1 i))

  pub ordered-lines : only (is_ordered ms) (line_order ms a b (ordered lt ms a b n)) ≡ ordered lt ms a b n
  unfolding line_order run_starts
  ordered-lines =
      let t = is_ordered ms in
      only-append t (behind ms 0 a ++ (behind ms a b ++ behind ms b n)) (each_behind ms end (ordered lt ms a b n))
      ∙ (λ i.
      (only-append t (behind ms 0 a) (behind ms a b ++ behind ms b n)
      ∙ ap (λ (l : List ℕ). only t (behind ms 0 a) ++ l) (only-append t (behind ms a b) (behind ms b n))) i
      ++ (only-each t ms end (ordered lt ms a b n) ∙ one_each (ordered lt ms a b n) all-in-line) i)
      ∙ (λ i. (none-ordered 0 a (omega arith) i ++ (none-ordered a b bn i ++ none-ordered b n (omega arith) i)) ++ ordered lt ms a b n)
