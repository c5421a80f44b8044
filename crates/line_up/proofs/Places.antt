-- The ordered places: every accepted place stands there exactly once, and they rise. Assumes nothing.
use Prim.Native.Nat.{ℕ, ◌+◌, ◌-◌, ◌≤◌}
use native.Mathlib.Omega.{arith}
use mathlib.Core.Path.{◌≡◌, sym, ap, ◌∙◌}
use mathlib.Core.Bool.{Bool, true, false, cond}
use mathlib.Core.List.{List, ◌++◌, append_assoc}
use lib.Dec.{eqb}
use lib.ListN.{length, get_or, take, drop, length-append}
use lib.Seq.{slice, length-slice, take-length, take_all, take_at, drop_at}
use Rattle.line_up.specs.Runs.{run, numbers_after, zeros, accepted_in, merge, ordered, times_in, Rising}
use Rattle.line_up.proofs.Merges.{under-merge, times_in-merge, length-merge, rising-merge}
use Rattle.line_up.proofs.Zeros.{zeros-from, zeros-under, length-zeros, times_in-zeros, times_in-append, zeros-append, slice_split}
use Rattle.line_up.proofs.Marks.{length_run, run-rises}

-- ---- every place once

accepted_in-split : (p f t u : ℕ) (ms : List ℕ) → f ≤ t → t ≤ u → u ≤ length ms
    → times_in p (accepted_in ms f u) ≡ times_in p (accepted_in ms f t) + times_in p (accepted_in ms t u)
accepted_in-split p f t u ms h k m =
    let e : f + length (slice f t ms) ≡ t = rw (length-slice f t ms (omega arith)) (omega arith) in
    ap (λ (l : List ℕ). times_in p (zeros f l)) (slice_split f t u ms h k m)
    ∙ ap (times_in p) (zeros-append f t (slice f t ms) (slice t u ms) e)
    ∙ times_in-append p (zeros f (slice f t ms)) (zeros t (slice t u ms))

module _ (lt : ℕ → ℕ → Bool) (ms : List ℕ) (a b : ℕ) (ab : a ≤ b) (bn : b ≤ length ms) where
  -- place p stands in the order once if its number is 0, and never otherwise (past the end the number is read as 1)
  pub place-times_in : (p : ℕ) → times_in p (ordered lt ms a b (length ms)) ≡ cond (eqb (get_or ms p 1) 0) 1 0
  unfolding ordered
  place-times_in p =
      let x = times_in-merge lt p (merge lt (accepted_in ms 0 a) (accepted_in ms a b)) (accepted_in ms b (length ms)) in
      let y = times_in-merge lt p (accepted_in ms 0 a) (accepted_in ms a b) in
      let z = accepted_in-split p 0 a b ms (omega arith) ab bn in
      let w = accepted_in-split p 0 b (length ms) ms (omega arith) bn (omega arith) in
      let v : times_in p (zeros 0 (slice 0 (length ms) ms)) ≡ times_in p (zeros 0 ms) = ap (λ (l : List ℕ). times_in p (zeros 0 l)) (take-length ms) in
      let u : times_in (0 + p) (zeros 0 ms) ≡ cond (eqb (get_or ms p 1) 0) 1 0 = times_in-zeros 0 p ms in
      let q : times_in p (zeros 0 ms) ≡ times_in (0 + p) (zeros 0 ms) = ap (λ (k : ℕ). times_in k (zeros 0 ms)) (let e : p ≡ 0 + p = omega arith in e) in
      omega (arith, x, y, z, w, v, u, q)

  pub ordered-length : length (ordered lt ms a b (length ms)) ≤ length ms
  unfolding ordered
  ordered-length =
      omega (
        arith,
        length-merge lt (merge lt (accepted_in ms 0 a) (accepted_in ms a b)) (accepted_in ms b (length ms)),
        length-merge lt (accepted_in ms 0 a) (accepted_in ms a b),
        length-zeros 0 (slice 0 a ms),
        length-zeros a (slice a b ms),
        length-zeros b (slice b (length ms) ms),
        length-slice 0 a ms (omega arith),
        length-slice a b ms bn,
        length-slice b (length ms) ms (omega arith),
      )

-- ---- rising

-- the three runs are the parts of the numbers
module _ (lt : ℕ → ℕ → Bool) (ns : List ℕ) (a b n : ℕ) (ab : a ≤ b) (bn : b ≤ n) (nl : n ≤ length ns) where
  long-1 : length (run lt ns 0 a) ≡ a - 0
  long-1 = length_run lt ns 0 a (omega arith)

  long-2 : length (run lt ns a b) ≡ b - a
  long-2 = length_run lt ns a b (omega arith)

  long-3 : length (run lt ns b n) ≡ n - b
  long-3 = length_run lt ns b n nl

  pub after-length : length (numbers_after lt ns a b n) ≡ n
  unfolding numbers_after
  after-length = rw (length-append (run lt ns 0 a) (run lt ns a b ++ run lt ns b n), length-append (run lt ns a b) (run lt ns b n), long-1, long-2, long-3)
      (omega arith)

  pub first_run : slice 0 a (numbers_after lt ns a b n) ≡ run lt ns 0 a
  unfolding numbers_after
  first_run = take_at (run lt ns 0 a) (run lt ns a b ++ run lt ns b n) a (long-1 ∙ (let e : a - 0 ≡ a = omega arith in e))

  two-length : length (run lt ns 0 a ++ run lt ns a b) ≡ b
  two-length = rw (length-append (run lt ns 0 a) (run lt ns a b), long-1, long-2) (omega arith)

  pub second_run : slice a b (numbers_after lt ns a b n) ≡ run lt ns a b
  unfolding numbers_after
  second_run =
      ap (λ (l : List ℕ). drop a (take b l)) (sym (append_assoc (run lt ns 0 a) (run lt ns a b) (run lt ns b n)))
      ∙ ap (drop a) (take_at (run lt ns 0 a ++ run lt ns a b) (run lt ns b n) b two-length)
      ∙ drop_at (run lt ns 0 a) (run lt ns a b) a (long-1 ∙ (let e : a - 0 ≡ a = omega arith in e))

  pub third_run : slice b n (numbers_after lt ns a b n) ≡ run lt ns b n
  unfolding numbers_after
  third_run =
      ap (drop b) (take_all n (run lt ns 0 a ++ (run lt ns a b ++ run lt ns b n)) (omega (arith, after-length)))
      ∙ ap (drop b) (sym (append_assoc (run lt ns 0 a) (run lt ns a b) (run lt ns b n)))
      ∙ drop_at (run lt ns 0 a ++ run lt ns a b) (run lt ns b n) b two-length

  -- the order is the merge of the three runs' accepted places
  pub ordered-runs : ordered lt (numbers_after lt ns a b n) a b n ≡ merge lt (merge lt (zeros 0 (run lt ns 0 a)) (zeros a (run lt ns a b)))
      (zeros b (run lt ns b n))
  unfolding ordered
  ordered-runs = rw (first_run, second_run, third_run)

  module _ (anti : (x y : ℕ) → lt x y ≡ true → lt y x ≡ false) where
    pub ordered-rises : Rising lt (ordered lt (numbers_after lt ns a b n) a b n)
    unfolding ordered
    ordered-rises =
        rw (first_run, second_run, third_run)
        (rising-merge lt anti b (merge lt (zeros 0 (run lt ns 0 a)) (zeros a (run lt ns a b))) (zeros b (run lt ns b n))
        (under-merge lt b (zeros 0 (run lt ns 0 a)) (zeros a (run lt ns a b))
        (zeros-under 0 b (run lt ns 0 a) (omega (arith, long-1)))
        (zeros-under a b (run lt ns a b) (omega (arith, long-2))))
        (zeros-from b (run lt ns b n))
        (rising-merge lt anti a (zeros 0 (run lt ns 0 a)) (zeros a (run lt ns a b))
        (zeros-under 0 a (run lt ns 0 a) (omega (arith, long-1)))
        (zeros-from a (run lt ns a b))
        (run-rises lt ns 0 a) (run-rises lt ns a b))
        (run-rises lt ns b n))
