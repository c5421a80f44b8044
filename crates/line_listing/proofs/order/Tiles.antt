-- HOW THE LINES TILE THE RUNS: what is summed over the order of the lines is summed over all places, so that there are as many lines as stamps, and each place
-- has one. Assumes nothing.
use Rattle.std.proofs.Common.{◌≡◌, ℕ, zero, suc, ◌+◌, ◌-◌, ◌<◌, ◌≤◌, Bool, true, false, cond, eqb, ltb, List, [], ◌∷◌, ◌++◌, length, get_or, sym, refl, ap, ◌∙◌}
use Rattle.std.proofs.Common.{arith, ltb-false, ltb-true, le-ltb, lt-ltb, eq-eqb, ne_eqb}
use Rattle.line_up.specs.Runs.{accepted_in, into, merge, ordered, once, times_in}
use Rattle.line_up.proofs.Cursors.{accepted_in-none, accepted_in-cons}
use Rattle.line_up.proofs.Merges.{From}
use Rattle.line_up.proofs.Zeros.{times_in-below, from_less}
use Rattle.line_listing.specs.order.Order.{behind, each_behind, run_starts, line_order, run_end}
use Rattle.line_listing.specs.laws.Places.{up_from}
use Rattle.line_listing.proofs.order.Segments.{behind-none, behind-cons}

-- the sum of w over a list
abbrev pub weigh : (ℕ → ℕ) → List ℕ → ℕ
weigh w [] = 0
weigh w (x ∷ xs) = w x + weigh w xs

pub weigh_append : (w : ℕ → ℕ) (xs ys : List ℕ) → weigh w (xs ++ ys) ≡ weigh w xs + weigh w ys
weigh_append w [] ys = omega arith
weigh_append w (x ∷ xs) ys = omega (arith, weigh_append w xs ys)

-- ---- a merge has the sum of both

module _ (lt : ℕ → ℕ → Bool) (w : ℕ → ℕ) where
  weigh_pick : (b : Bool) (x y r s : ℕ) (xs ys : List ℕ) → weigh w xs ≡ r → weigh w ys ≡ s → w y + r ≡ w x + s → weigh w (cond b (y ∷ xs) (x ∷ ys)) ≡ w x + s
  weigh_pick true x y r s xs ys h k e = omega arith
  weigh_pick false x y r s xs ys h k e = omega arith

  weigh_into : (x c : ℕ) (rest : List ℕ → List ℕ) → ((ys : List ℕ) → weigh w (rest ys) ≡ c + weigh w ys) → (ys : List ℕ)
      → weigh w (into lt x rest ys) ≡ w x + (c + weigh w ys)
  unfolding into
  weigh_into x c rest h [] = omega (arith, h [])
  weigh_into x c rest h (y ∷ ys) =
      weigh_pick (lt y x) x y (w x + (c + weigh w ys)) (c + (w y + weigh w ys)) (into lt x rest ys) (rest (y ∷ ys)) (weigh_into x c rest h ys) (h (y ∷ ys))
      (omega arith)

  pub weigh_merge : (xs ys : List ℕ) → weigh w (merge lt xs ys) ≡ weigh w xs + weigh w ys
  unfolding merge
  weigh_merge [] ys = omega arith
  weigh_merge (x ∷ xs) ys = omega (arith, weigh_into x (weigh w xs) (merge lt xs) (weigh_merge xs) ys)

-- ---- one run: what stands before its first ordered place, and each ordered one with those behind it

module _ (w : ℕ → ℕ) (ms : List ℕ) (end : ℕ → ℕ) where
  each_first : (p : ℕ) (ps : List ℕ)
      → weigh w (each_behind ms end (p ∷ ps)) ≡ w p + weigh w (behind ms (suc p) (end p)) + weigh w (each_behind ms end ps)
  unfolding each_behind
  each_first p ps = weigh_append w (p ∷ behind ms (suc p) (end p)) (each_behind ms end ps)

  weigh_each : (ps : List ℕ) → weigh w (each_behind ms end ps) ≡ weigh (λ (p : ℕ). w p + weigh w (behind ms (suc p) (end p))) ps
  unfolding each_behind
  weigh_each [] = refl
  weigh_each (p ∷ ps) = omega (arith, each_first p ps, weigh_each ps)

  pub each-merge : (lt : ℕ → ℕ → Bool) (xs ys : List ℕ)
      → weigh w (each_behind ms end (merge lt xs ys)) ≡ weigh w (each_behind ms end xs) + weigh w (each_behind ms end ys)
  each-merge lt xs ys =
      let v : ℕ → ℕ = λ (p : ℕ). w p + weigh w (behind ms (suc p) (end p)) in
      omega (arith, weigh_each (merge lt xs ys), weigh_each xs, weigh_each ys, weigh_merge lt v xs ys)

-- its lines are its places one after the other
module _ (ms : List ℕ) (end : ℕ → ℕ) (to : ℕ) (tn : to ≤ length ms) where
  abbrev Tiled : ℕ → ℕ → Type 0
  Tiled i d = behind ms i to ++ each_behind ms end (accepted_in ms i to) ≡ up_from i d

  tile_step : (t : Bool) (i d : ℕ) → end i ≡ to → behind ms i to ≡ cond t [] (i ∷ behind ms (suc i) to)
      → accepted_in ms i to ≡ cond t (i ∷ accepted_in ms (suc i) to) (accepted_in ms (suc i) to) → Tiled (suc i) d → Tiled i (suc d)
  unfolding up_from each_behind
  tile_step true i d e p q r =
      (λ j. p j ++ each_behind ms end (q j)) ∙ ap (λ (t : ℕ). i ∷ (behind ms (suc i) t ++ each_behind ms end (accepted_in ms (suc i) to))) e
      ∙ ap (λ (l : List ℕ). i ∷ l) r
  tile_step false i d e p q r = (λ j. p j ++ each_behind ms end (q j)) ∙ ap (λ (l : List ℕ). i ∷ l) r

  pub tile : (d i : ℕ) → i + d ≡ to → ((x : ℕ) → i ≤ x → x < to → end x ≡ to) → Tiled i d
  unfolding up_from each_behind
  tile zero i e h = rw (behind-none ms to tn i (omega arith), accepted_in-none ms to tn i (omega arith))
  tile (suc d) i e h =
      tile_step (eqb (get_or ms i 0) 0) i d (h i (omega arith) (omega arith)) (behind-cons ms to tn i (omega arith))
      (accepted_in-cons ms to tn i (omega arith)) (tile d (suc i) (omega arith) (λ x l u. h x (omega arith) u))

-- ---- the ends of three runs

module _ (a b n : ℕ) (ab : a ≤ b) where
  pub end_1 : (x : ℕ) → x < a → run_end a b n x ≡ a
  end_1 x h = rw (lt-ltb x a h)

  pub end_2 : (x : ℕ) → a ≤ x → x < b → run_end a b n x ≡ b
  end_2 x l h = rw (le-ltb x a l, lt-ltb x b h)

  pub end_3 : (x : ℕ) → b ≤ x → run_end a b n x ≡ n
  end_3 x l = let k : a ≤ x = omega arith in rw (le-ltb x a k, le-ltb x b l)

-- ---- places one after the other

pub up_append : (i d e : ℕ) → up_from i (d + e) ≡ up_from i d ++ up_from (i + d) e
unfolding up_from
up_append i zero e = (λ j. up_from (let z : i ≡ i + 0 = omega arith in z j) (let z : 0 + e ≡ e = omega arith in z j))
up_append i (suc d) e =
    ap (up_from i) (let z : suc d + e ≡ suc (d + e) = omega arith in z)
    ∙ ap (λ (l : List ℕ). i ∷ l) (up_append (suc i) d e ∙ ap (λ (k : ℕ). up_from (suc i) d ++ up_from k e) (let z : suc i + d ≡ i + suc d = omega arith in z))

pub up_length : (i d : ℕ) → length (up_from i d) ≡ d
unfolding up_from
up_length i zero = refl
up_length i (suc d) = ap suc (up_length (suc i) d)

pub up-from : (i d : ℕ) → From i (up_from i d)
unfolding up_from
up-from i zero = tt
up-from i (suc d) = (omega arith, from_less (omega arith) (up_from (suc i) d) (up-from (suc i) d))

ltb_suc : (j d : ℕ) → ltb (suc j) (suc d) ≡ ltb j d
ltb_suc j d = go (ltb j d) refl
  where
    go : (t : Bool) → ltb j d ≡ t → ltb (suc j) (suc d) ≡ t
    go true e = lt-ltb (suc j) (suc d) (omega (arith, ltb-true j d e))
    go false e = le-ltb (suc j) (suc d) (omega (arith, ltb-false j d e))

-- a place stands once among them where it is one of them
pub up_times : (i d j : ℕ) → times_in (i + j) (up_from i d) ≡ cond (ltb j d) 1 0
unfolding up_from times_in
up_times i zero j = rw (le-ltb j 0 (omega arith))
up_times i (suc d) zero =
    rw (eq-eqb (i + zero) i (omega arith), lt-ltb 0 (suc d) (omega arith))
    (omega (arith, times_in-below (i + zero) (suc i) (up_from (suc i) d) (omega arith) (up-from (suc i) d)))
up_times i (suc d) (suc j) =
    rw (ne_eqb (i + suc j) i (λ e. omega (arith, e)))
    (omega (
      arith,
      ap (λ (k : ℕ). times_in k (up_from (suc i) d)) (let z : i + suc j ≡ suc i + j = omega arith in z),
      up_times (suc i) d j,
      ap (λ (t : Bool). cond {A = ℕ} t 1 0) (ltb_suc j d),
    ))

-- ---- THE WHOLE

module _ (lt : ℕ → ℕ → Bool) (ms : List ℕ) (a b : ℕ) (ab : a ≤ b) (bn : b ≤ length ms) where
  abbrev all : List ℕ
  all = line_order ms a b (ordered lt ms a b (length ms))

  abbrev end : ℕ → ℕ
  end = run_end a b (length ms)

  -- each run's lines alone
  pub tile_1 : behind ms 0 a ++ each_behind ms end (accepted_in ms 0 a) ≡ up_from 0 a
  tile_1 = tile ms end a (omega (arith, ab, bn)) a 0 (omega arith) (λ x l h. end_1 a b (length ms) ab x h)

  pub tile_2 : behind ms a b ++ each_behind ms end (accepted_in ms a b) ≡ up_from a (b - a)
  tile_2 = tile ms end b bn (b - a) a (omega (arith, ab)) (λ x l h. end_2 a b (length ms) ab x l h)

  pub tile_3 : behind ms b (length ms) ++ each_behind ms end (accepted_in ms b (length ms)) ≡ up_from b (length ms - b)
  tile_3 = tile ms end (length ms) (omega arith) (length ms - b) b (omega (arith, bn)) (λ x l h. end_3 a b (length ms) ab x l)

  three-runs : up_from 0 (length ms) ≡ up_from 0 a ++ (up_from a (b - a) ++ up_from b (length ms - b))
  three-runs =
      let n = length ms in
      ap (up_from 0) (let z : n ≡ a + ((b - a) + (n - b)) = omega (arith, ab, bn) in z) ∙ up_append 0 a ((b - a) + (n - b))
      ∙ ap (λ (l : List ℕ). up_from 0 a ++ l) (ap (λ (k : ℕ). up_from k ((b - a) + (n - b))) (let z : 0 + a ≡ a = omega arith in z)
      ∙ up_append a (b - a) (n - b) ∙ ap (λ (k : ℕ). up_from a (b - a) ++ up_from k (n - b)) (let z : a + (b - a) ≡ b = omega (arith, ab) in z))

  -- any sum over the lines is the sum over all places
  pub whole-weigh : (w : ℕ → ℕ) → weigh w all ≡ weigh w (up_from 0 (length ms))
  unfolding line_order run_starts ordered
  whole-weigh w =
      let n = length ms in
      let x1 = accepted_in ms 0 a in
      let x2 = accepted_in ms a b in
      let x3 = accepted_in ms b n in
      omega (
        arith,
        weigh_append w (behind ms 0 a ++ (behind ms a b ++ behind ms b n)) (each_behind ms end (merge lt (merge lt x1 x2) x3)),
        weigh_append w (behind ms 0 a) (behind ms a b ++ behind ms b n),
        weigh_append w (behind ms a b) (behind ms b n),
        each-merge w ms end lt (merge lt x1 x2) x3,
        each-merge w ms end lt x1 x2,
        weigh_append w (behind ms 0 a) (each_behind ms end x1),
        weigh_append w (behind ms a b) (each_behind ms end x2),
        weigh_append w (behind ms b n) (each_behind ms end x3),
        ap (weigh w) tile_1,
        ap (weigh w) tile_2,
        ap (weigh w) tile_3,
        ap (weigh w) three-runs,
        weigh_append w (up_from 0 a) (up_from a (b - a) ++ up_from b (n - b)),
        weigh_append w (up_from a (b - a)) (up_from b (n - b)),
      )

  weigh_length : (xs : List ℕ) → weigh (λ (_ : ℕ). 1) xs ≡ length xs
  weigh_length [] = refl
  weigh_length (x ∷ xs) = omega (arith, weigh_length xs)

  weigh_times : (p : ℕ) (xs : List ℕ) → times_in p xs ≡ weigh (once p) xs
  unfolding times_in
  weigh_times p [] = refl
  weigh_times p (x ∷ xs) = ap (λ (k : ℕ). once p x + k) (weigh_times p xs)

  -- AS MANY LINES AS STAMPS
  pub whole_long : length all ≡ length ms
  whole_long = sym (weigh_length all) ∙ whole-weigh (λ (_ : ℕ). 1) ∙ weigh_length (up_from 0 (length ms)) ∙ up_length 0 (length ms)

  -- EVERY PLACE HAS ONE LINE
  pub whole-times : (p : ℕ) → times_in p all ≡ cond (ltb p (length ms)) 1 0
  whole-times p =
      weigh_times p all ∙ whole-weigh (once p) ∙ sym (weigh_times p (up_from 0 (length ms)))
      ∙ ap (λ (k : ℕ). times_in k (up_from 0 (length ms))) (let z : p ≡ 0 + p = omega arith in z) ∙ up_times 0 (length ms) p
