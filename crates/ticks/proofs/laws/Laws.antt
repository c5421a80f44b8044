-- What the millisecond of a tick is: the same by any neighbours, exact at a pass, never earlier for a later tick, less than 1 ms below the exact line. Assumes
-- nothing.
use Prim.Native.Nat.{ℕ, zero, suc, ◌+◌, ◌-◌, ◌*◌, ◌/◌, ◌%◌, ◌<◌, ◌≤◌}
use native.Mathlib.Omega.{arith}
use native.Mathlib.Nat.{le-div_iff_mul-le, div-mul-le_self, le_refl, add-mul, zero-mul, zero-div, mul-div_cancel_left, mul-le-mul_right, div-add-mod', mod-lt}
use native.Mathlib.Decide.{dec_lt}
use mathlib.Core.Path.{◌≡◌, refl, sym, ap, subst, ◌∙◌}
use Rattle.ticks.specs.Line.{line_at}
use Rattle.ticks.specs.Passes.{Passes, last_not_after, millis_between, millis_at, OnSomeLine}
use Rattle.ticks.specs.judging.Numbers.{RisesTo}
use Rattle.ticks.proofs.judging.ByLast.{rises-to}
use Rattle.ticks.proofs.Search.{last-low, last-from, last-next, last-only}
use Rattle.ticks.proofs.Lines.{line-under}
use Rattle.ticks.specs.laws.Sound.{Sound, Inside, line_rise, ticks_between, JustBelow}

-- ---- one line
quotient-up : (m n d : ℕ) → 0 < d → m ≤ n → m / d ≤ n / d
quotient-up m n d z h = (le-div_iff_mul-le z).1 (omega (arith, div-mul-le_self m d))

module _ (t0 m0 t1 m1 : ℕ) where
  pub line-at-start : line_at t0 m0 t1 m1 t0 ≡ m0
  unfolding line_at
  line-at-start =
      let e : t0 - t0 ≡ 0 = omega arith in
      rw (e, zero-mul, zero-div) (omega arith)

  pub line-at-end : t0 < t1 → m0 ≤ m1 → line_at t0 m0 t1 m1 t1 ≡ m1
  unfolding line_at
  line-at-end h k =
      let e : (t1 - t0) * (m1 - m0) / (t1 - t0) ≡ m1 - m0 = mul-div_cancel_left (m1 - m0) (omega arith) in
      rw e (omega arith)

  pub line-rises : (t t' : ℕ) → t0 < t1 → t ≤ t' → line_at t0 m0 t1 m1 t ≤ line_at t0 m0 t1 m1 t'
  unfolding line_at
  line-rises t t' k h = omega (
    arith,
    quotient-up ((t - t0) * (m1 - m0)) ((t' - t0) * (m1 - m0)) (t1 - t0) (omega arith) (mul-le-mul_right (m1 - m0) (omega arith)),
  )

  pub from_start : (t : ℕ) → m0 ≤ line_at t0 m0 t1 m1 t
  unfolding line_at
  from_start t = omega arith

  pub to_end : (t : ℕ) → t ≤ t1 → m0 ≤ m1 → line_at t0 m0 t1 m1 t ≤ m1
  unfolding line_at
  to_end t h k = line-under t0 t1 m0 m1 t ((t - t0) * (m1 - m0) / (t1 - t0)) refl h k

-- ---- the passes
module _ (p : Passes) (s : Sound p) where
  ticks : RisesTo p.tick (p.size - 1)
  ticks i h = s.ticks_rise i (omega arith)

  ticks-to-k : RisesTo p.tick (p.size - 2)
  ticks-to-k i h = s.ticks_rise i (omega arith)

  millis : RisesTo p.milli (p.size - 1)
  millis i h = s.millis-rise i (omega arith)

  same_line : (t j : ℕ) → j ≡ last_not_after p.tick t (p.size - 2) → millis_between p j t ≡ millis_at p t
  unfolding millis_at
  same_line t j e = ap (λ (x : ℕ). millis_between p x t) e

  -- any neighbours that hold the tick say the same
  pub on_line : (t r : ℕ) → OnSomeLine p t r → r ≡ millis_at p t
  on_line t r o = o.is ∙ go (dec_lt t (p.tick (o.j + 1))) (dec_lt o.j (p.size - 2))
    where
      by_last : (o.j < p.size - 2 → t < p.tick (o.j + 1)) → millis_between p o.j t ≡ millis_at p t
      by_last n = same_line t o.j (last-only p.tick t (p.size - 2) ticks-to-k o.j (omega (arith, o.next)) o.from n)

      at_the_pass : t ≡ p.tick (o.j + 1) → o.j < p.size - 2 → millis_between p o.j t ≡ millis_at p t
      at_the_pass e h =
          ap (millis_between p o.j) e
          ∙ line-at-end (p.tick o.j) (p.milli o.j) (p.tick (o.j + 1)) (p.milli (o.j + 1)) (s.ticks_rise o.j o.next)
          (omega (arith, s.millis-rise o.j o.next))
          ∙ sym (ap (millis_between p (o.j + 1)) e
          ∙ line-at-start (p.tick (o.j + 1)) (p.milli (o.j + 1)) (p.tick (o.j + 1 + 1)) (p.milli (o.j + 1 + 1)))
          ∙ same_line t (o.j + 1) (last-only p.tick t (p.size - 2) ticks-to-k (o.j + 1) (omega arith) (omega (arith, e))
          (λ w. omega (arith, e, s.ticks_rise (o.j + 1) (omega arith))))

      go : Dec (t < p.tick (o.j + 1)) → Dec (o.j < p.size - 2) → millis_between p o.j t ≡ millis_at p t
      go (yes w) d = by_last (λ _. w)
      go (no w) (yes d) = at_the_pass (omega (arith, o.to)) d
      go (no w) (no d) = by_last (λ x. absurd (omega arith))

  -- every tick inside has neighbours, and its millisecond is on their line
  module _ (t : ℕ) (i : Inside p t) where
    pub is-on-line : OnSomeLine p t (millis_at p t)
    unfolding millis_at
    is-on-line =
        record {
          j = last_not_after p.tick t (p.size - 2);
          next = omega (arith, last-low p.tick t (p.size - 2), s.two);
          from = last-from p.tick t i.low (p.size - 2);
          to = go (dec_lt (last_not_after p.tick t (p.size - 2)) (p.size - 2));
          is = refl;
        }
      where
        go : Dec (last_not_after p.tick t (p.size - 2) < p.size - 2) → t ≤ p.tick (last_not_after p.tick t (p.size - 2) + 1)
        go (yes w) = omega (arith, last-next p.tick t (p.size - 2) w)
        go (no w) =
            let e : p.size - 1 ≡ last_not_after p.tick t (p.size - 2) + 1 = omega (arith, last-low p.tick t (p.size - 2), s.two) in
            subst (λ (x : ℕ). t ≤ p.tick x) e i.high

  -- a tick at a pass has that pass's millisecond
  pub at_a_pass : (j : ℕ) → j < p.size → millis_at p (p.tick j) ≡ p.milli j
  at_a_pass zero h =
      sym
      (on_line (p.tick 0) (p.milli 0)
      (record {
        j = 0;
        next = omega (arith, s.two);
        from = le_refl _;
        to = omega (arith, s.ticks_rise 0 (omega (arith, s.two)));
        is =
            sym (line-at-start (p.tick 0) (p.milli 0) (p.tick (0 + 1)) (p.milli (0 + 1)));
      }))
  at_a_pass (suc j) h =
      let e : j + 1 ≡ suc j = omega arith in
      let n : j + 1 < p.size = omega arith in
      let r = s.ticks_rise j n in
      subst (λ (x : ℕ). millis_at p (p.tick x) ≡ p.milli x) e
      (sym
      (on_line (p.tick (j + 1)) (p.milli (j + 1))
      (record {
        j = j;
        next = n;
        from = omega (arith, r);
        to = le_refl _;
        is =
            sym (line-at-end (p.tick j) (p.milli j) (p.tick (j + 1)) (p.milli (j + 1)) r (omega (arith, s.millis-rise j n)));
      })))

  -- a later tick never has an earlier time
  pub never-earlier : (t t' : ℕ) → Inside p t → Inside p t' → t ≤ t' → millis_at p t ≤ millis_at p t'
  never-earlier t t' i i' h = go (is-on-line t i) (is-on-line t' i')
    where
      go : OnSomeLine p t (millis_at p t) → OnSomeLine p t' (millis_at p t') → millis_at p t ≤ millis_at p t'
      go o o' = by (dec_lt o.j o'.j) (dec_lt o'.j o.j)
        where
          milli-up : (x y : ℕ) → x ≤ y → y < p.size → p.milli x ≤ p.milli y
          milli-up x y a b = rises-to p.milli (p.size - 1) millis x y a (omega arith)

          tick-up : (x y : ℕ) → x ≤ y → y < p.size → p.tick x ≤ p.tick y
          tick-up x y a b = rises-to p.tick (p.size - 1) ticks x y a (omega arith)

          below : millis_at p t ≤ p.milli (o.j + 1)
          below = omega (
            arith,
            o.is,
            to_end (p.tick o.j) (p.milli o.j) (p.tick (o.j + 1)) (p.milli (o.j + 1)) t o.to
                (omega (arith, s.millis-rise o.j o.next)),
          )

          above : p.milli o'.j ≤ millis_at p t'
          above = omega (arith, o'.is, from_start (p.tick o'.j) (p.milli o'.j) (p.tick (o'.j + 1)) (p.milli (o'.j + 1)) t')

          by : Dec (o.j < o'.j) → Dec (o'.j < o.j) → millis_at p t ≤ millis_at p t'
          by (yes w) d = omega (arith, below, above, milli-up (o.j + 1) o'.j (omega arith) (omega (arith, o'.next)))
          by (no w) (yes d) =
              -- t' is not past the pass at which t begins: the two are one tick, at that pass
              let q : t ≡ t' = omega (arith, o'.to, o.from, tick-up (o'.j + 1) o.j (omega arith) (omega (arith, o.next))) in
              subst (λ (x : ℕ). millis_at p t ≤ millis_at p x) q (le_refl _)
          by (no w) (no d) =
              let e : o.j ≡ o'.j = omega arith in
              omega (
                arith,
                o.is,
                o'.is,
                line-rises (p.tick o.j) (p.milli o.j) (p.tick (o.j + 1)) (p.milli (o.j + 1)) t t'
                    (s.ticks_rise o.j o.next) h,
                ap (λ (x : ℕ). millis_between p x t') e,
              )

  -- less than 1 ms below the exact line, between the neighbours' milliseconds, below 2^40
  pub just_below : (t : ℕ) → Inside p t → JustBelow p t (millis_at p t)
  unfolding line_at
  just_below t i = go (is-on-line t i)
    where
      floor : (m n d r : ℕ) → 0 < d → r ≡ m + n / d → (r * d ≤ m * d + n) × (m * d + n < (r + 1) * d)
      floor m n d r z e =
          let a : r * d ≡ m * d + n / d * d = ap (λ (x : ℕ). x * d) e ∙ add-mul m (n / d) d in
          let b : (r + 1) * d ≡ r * d + 1 * d = add-mul r 1 d in
          let f : n / d * d + n % d ≡ n = div-add-mod' n d in
          (omega arith, omega (arith, mod-lt n z))

      go : OnSomeLine p t (millis_at p t) → JustBelow p t (millis_at p t)
      go o =
          let w = floor (p.milli o.j) (line_rise p o.j t) (ticks_between p o.j) (millis_at p t) (omega (arith, s.ticks_rise o.j o.next))
          o.is in
          let m : millis_at p t ≤ p.milli (o.j + 1) =
          omega (
            arith,
            o.is,
            to_end (p.tick o.j) (p.milli o.j) (p.tick (o.j + 1)) (p.milli (o.j + 1)) t o.to
                (omega (arith, s.millis-rise o.j o.next)),
          ) in
          record {
            j = o.j;
            next = o.next;
            from = o.from;
            to = o.to;
            not_above = w.0;
            less_than_one = w.1;
            least = omega (arith, o.is, from_start (p.tick o.j) (p.milli o.j) (p.tick (o.j + 1)) (p.milli (o.j + 1)) t);
            most = m;
            small = omega (arith, m, s.millis_small (o.j + 1) o.next);
          }
