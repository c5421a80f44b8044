-- The whole week: answered exactly where one week is nearest, 19 exactly at a tie. Assumes nothing.
use Rattle.std.proofs.Common.{◌≡◌, ℕ, ◌+◌, ◌-◌, ◌%◌, ◌<◌, ◌≤◌, Bool, true, false, cond, ◌||◌, eqb, ltb, leb, ◌⊎◌, sym, refl, ap, ◌∙◌, subst, inl, inr, arith}
use Rattle.std.proofs.Common.{ltb-false, ltb-true, eqb-true, leb-false, leb-true}
use borrow.Author.Tests.{eqb-false}
use Rattle.refusals.specs.Outcome.{Outcome, answer, refusal}
use Rattle.scales.specs.gps_weeks.FullWeek.{by_distance, full_week, apart, NearestWeek, Tie}

-- what the whole week of ten bits is, by cases: one is nearest, two are equally near, or a field is over its limit
pub data Found (bits reference : ℕ) : Outcome ℕ → Type 0 where
  one : (w : ℕ) → bits < 1024 → reference ≤ 99000 → NearestWeek bits reference w → w ≤ 99511 → Found bits reference (answer w)
  level : bits < 1024 → reference ≤ 99000 → Tie bits reference → Found bits reference (refusal 19)
  over : (bits < 1024 → reference ≤ 99000 → ⊥) → Found bits reference (refusal 18)

unlike : (v w : ℕ) → (v ≡ w → ⊥) → (v < w) ⊎ (w < v)
unlike v w n = go (ltb v w) (ltb w v) refl refl
  where
    go : (a b : Bool) → ltb v w ≡ a → ltb w v ≡ b → (v < w) ⊎ (w < v)
    go true b e f = inl (ltb-true v w e)
    go false true e f = inr (ltb-true w v f)
    go false false e f =
        let h : w ≤ v = ltb-false v w e in
        let k : v ≤ w = ltb-false w v f in
        absurd (n (omega arith))

-- weeks with the same ten bits are 1,024 apart
steps : (v w : ℕ) → v % 1024 ≡ w % 1024 → v < w → v + 1024 ≤ w
steps v w e l = omega arith

-- b has the ten bits, and the reference lies in the 1,024 weeks from b on
module _ (bits r b : ℕ) (has : b % 1024 ≡ bits) where
  next-has : (b + 1024) % 1024 ≡ bits
  next-has = omega arith

  lower-nearest : b ≤ r → r < b + 512 → NearestWeek bits r b
  lower-nearest low h = record { has = has; nearest = λ v e n. far v e (unlike v b n) }
    where
      under : (v : ℕ) → v + 1024 ≤ b → apart b r < apart v r
      under v l = omega arith

      past : (v : ℕ) → b + 1024 ≤ v → apart b r < apart v r
      past v l = omega arith

      far : (v : ℕ) → v % 1024 ≡ bits → (v < b) ⊎ (b < v) → apart b r < apart v r
      far v e (inl l) = under v (steps v b (e ∙ sym has) l)
      far v e (inr l) = past v (steps b v (has ∙ sym e) l)

  upper-nearest : b + 512 < r → r < b + 1024 → NearestWeek bits r (b + 1024)
  upper-nearest low h = record { has = next-has; nearest = λ v e n. far v e (unlike v (b + 1024) n) }
    where
      under : (v : ℕ) → v + 1024 ≤ b + 1024 → apart (b + 1024) r < apart v r
      under v l = omega arith

      past : (v : ℕ) → b + 1024 + 1024 ≤ v → apart (b + 1024) r < apart v r
      past v l = omega arith

      far : (v : ℕ) → v % 1024 ≡ bits → (v < b + 1024) ⊎ (b + 1024 < v) → apart (b + 1024) r < apart v r
      far v e (inl l) = under v (steps v (b + 1024) (e ∙ sym next-has) l)
      far v e (inr l) = past v (steps (b + 1024) v (next-has ∙ sym e) l)

  both-near : r ≡ b + 512 → Tie bits r
  both-near h = record {
    v = b;
    w = b + 1024;
    two = omega arith;
    has_v = has;
    has_w = next-has;
    level = omega arith;
    none_nearer =
        λ u e. near u e (ltb u b) (ltb b u) refl refl;
  }
    where
      under : (u : ℕ) → u + 1024 ≤ b → apart b r ≤ apart u r
      under u l = omega arith

      past : (u : ℕ) → b + 1024 ≤ u → apart b r ≤ apart u r
      past u l = omega arith

      there : (u : ℕ) → b ≤ u → u ≤ b → apart b r ≤ apart u r
      there u l k = omega arith

      near : (u : ℕ) → u % 1024 ≡ bits → (x y : Bool) → ltb u b ≡ x → ltb b u ≡ y → apart b r ≤ apart u r
      near u e true y f g = under u (steps u b (e ∙ sym has) (ltb-true u b f))
      near u e false true f g = past u (steps b u (has ∙ sym e) (ltb-true b u g))
      near u e false false f g = there u (ltb-false u b f) (ltb-false b u g)

module _ (bits reference : ℕ) (small : bits < 1024) (most : reference ≤ 99000) where
  -- the ten bits are above the reference
  above : reference < bits → NearestWeek bits reference bits
  above h = record { has = omega arith; nearest = λ v e n. far v e (unlike v bits n) }
    where
      far : (v : ℕ) → v % 1024 ≡ bits → (v < bits) ⊎ (bits < v) → apart bits reference < apart v reference
      far v e (inl l) = omega arith
      far v e (inr l) = omega arith

  module _ (low : bits ≤ reference) where
    -- the week at or before the reference
    abbrev before : ℕ
    before = reference - (reference - bits) % 1024

    has-before : before % 1024 ≡ bits
    has-before = omega arith

    nearest-before : (reference - bits) % 1024 < 512 → NearestWeek bits reference (reference - (reference - bits) % 1024)
    nearest-before h = lower-nearest bits reference before has-before (omega arith) (omega arith)

    nearest-after : 512 < (reference - bits) % 1024 → NearestWeek bits reference (reference - (reference - bits) % 1024 + 1024)
    nearest-after h = upper-nearest bits reference before has-before (omega arith) (omega arith)

    two-alike : (reference - bits) % 1024 ≡ 512 → Tie bits reference
    two-alike h = both-near bits reference before has-before (omega arith)

    by-distance : Found bits reference (by_distance reference ((reference - bits) % 1024))
    unfolding by_distance
    by-distance = go (eqb ((reference - bits) % 1024) 512) (ltb ((reference - bits) % 1024) 512) refl refl
      where
        b : ℕ
        b = (reference - bits) % 1024

        go : (x y : Bool) → eqb b 512 ≡ x → ltb b 512 ≡ y
            → Found bits reference (cond x (refusal 19) (cond y (answer (reference - b)) (answer (reference - b + 1024))))
        go true y e f = level small most (two-alike (eqb-true b 512 e))
        go false true e f = one (reference - b) small most (nearest-before (ltb-true b 512 f)) (omega arith)
        go false false e f =
            let l : 512 ≤ b = ltb-false b 512 f in
            let m : 512 < b = up (unlike b 512 (eqb-false b 512 e)) in
            one (reference - b + 1024) small most (nearest-after m) (omega arith)
          where
            up : (b < 512) ⊎ (512 < b) → 512 < b
            up (inl h) = let l : 512 ≤ b = ltb-false b 512 f in absurd (omega arith)
            up (inr h) = h

pub full_week_found : (bits reference : ℕ) → Found bits reference (full_week bits reference)
unfolding full_week
full_week_found bits reference = go (leb 1024 bits) (ltb 99000 reference) (ltb reference bits) refl refl refl
  where
    go : (x y z : Bool) → leb 1024 bits ≡ x → ltb 99000 reference ≡ y → ltb reference bits ≡ z
        → Found bits reference (cond (x || y) (refusal 18) (cond z (answer bits) (by_distance reference ((reference - bits) % 1024))))
    go true y z e f g = let h : 1024 ≤ bits = leb-true 1024 bits e in over (λ s m. omega arith)
    go false true z e f g = let h : 99000 < reference = ltb-true 99000 reference f in over (λ s m. omega arith)
    go false false true e f g =
        let s : bits < 1024 = leb-false 1024 bits e in
        let m : reference ≤ 99000 = ltb-false 99000 reference f in
        one bits s m (above bits reference s m (ltb-true reference bits g)) (omega arith)
    go false false false e f g = by-distance bits reference (leb-false 1024 bits e) (ltb-false 99000 reference f) (ltb-false reference bits g)

-- ---- each outcome exactly where it is due

pub nearest-if : (bits reference w : ℕ) → full_week bits reference ≡ answer w → NearestWeek bits reference w × (w ≤ 99511)
nearest-if bits reference w e = go (full_week bits reference) (full_week_found bits reference) e
  where
    go : (o : Outcome ℕ) → Found bits reference o → o ≡ answer w → NearestWeek bits reference w × (w ≤ 99511)
    go _ (one v s m n l) h = let k : v ≡ w = cc in (subst (NearestWeek bits reference) k n, omega arith)
    go _ (level s m t) h = let z : ◌≡◌ {A = ℕ} 0 1 = cc in absurd (omega arith)
    go _ (over n) h = let z : ◌≡◌ {A = ℕ} 0 1 = cc in absurd (omega arith)

-- two weeks can't both be nearest, and where two are equally near none is
one-nearest : {bits reference : ℕ} (v w : ℕ) → NearestWeek bits reference v → NearestWeek bits reference w → v ≡ w
one-nearest {bits} {reference} v w a b = go (eqb v w) refl
  where
    go : (x : Bool) → eqb v w ≡ x → v ≡ w
    go true e = eqb-true v w e
    go false e =
        let h : apart v reference < apart w reference = a.nearest w b.has (λ k. eqb-false v w e (sym k)) in
        let k : apart w reference < apart v reference = b.nearest v a.has (eqb-false v w e) in
        absurd (omega arith)

no_tie : {bits reference : ℕ} (w : ℕ) → NearestWeek bits reference w → Tie bits reference → ⊥
no_tie {bits} {reference} w n t = go (eqb t.v w) refl
  where
    go : (x : Bool) → eqb t.v w ≡ x → ⊥
    go true e =
        let i : t.v ≡ w = eqb-true t.v w e in
        let h : apart w reference < apart t.w reference = n.nearest t.w t.has_w (λ k. omega (arith, t.two)) in
        omega (arith, t.level)
    go false e =
        let h : apart w reference < apart t.v reference = n.nearest t.v t.has_v (eqb-false t.v w e) in
        omega (arith, t.none_nearer w n.has)

pub nearest-only-if : (bits reference w : ℕ) → bits < 1024 → reference ≤ 99000 → NearestWeek bits reference w → full_week bits reference ≡ answer w
nearest-only-if bits reference w s m n = go (full_week bits reference) (full_week_found bits reference)
  where
    go : (o : Outcome ℕ) → Found bits reference o → o ≡ answer w
    go _ (one v _ _ k l) = ap answer (one-nearest v w k n)
    go _ (level _ _ t) = absurd (no_tie w n t)
    go _ (over h) = absurd (h s m)

pub tie_exactly : (bits reference : ℕ) → (full_week bits reference ≡ refusal 19 → Tie bits reference)
    × (bits < 1024 → reference ≤ 99000 → Tie bits reference → full_week bits reference ≡ refusal 19)
tie_exactly bits reference = (
  λ e. to (full_week bits reference) (full_week_found bits reference) e,
  λ s m t. from (full_week bits reference) (full_week_found bits reference) s m t,
)
  where
    to : (o : Outcome ℕ) → Found bits reference o → o ≡ refusal 19 → Tie bits reference
    to _ (one v s m n l) h = let z : ◌≡◌ {A = ℕ} 0 1 = cc in absurd (omega arith)
    to _ (level s m t) h = t
    to _ (over n) h = let z : ◌≡◌ {A = ℕ} 18 19 = cc in absurd (omega arith)

    from : (o : Outcome ℕ) → Found bits reference o → bits < 1024 → reference ≤ 99000 → Tie bits reference → o ≡ refusal 19
    from _ (one v _ _ n l) s m t = absurd (no_tie v n t)
    from _ (level _ _ _) s m t = refl
    from _ (over h) s m t = absurd (h s m)

pub over-exactly : (bits reference : ℕ) → (full_week bits reference ≡ refusal 18 → bits < 1024 → reference ≤ 99000 → ⊥)
    × ((1024 ≤ bits) ⊎ (99000 < reference) → full_week bits reference ≡ refusal 18)
over-exactly bits reference = (
  λ e. to (full_week bits reference) (full_week_found bits reference) e,
  λ h. from (full_week bits reference) (full_week_found bits reference) h,
)
  where
    to : (o : Outcome ℕ) → Found bits reference o → o ≡ refusal 18 → bits < 1024 → reference ≤ 99000 → ⊥
    to _ (one v s m n l) h = let z : ◌≡◌ {A = ℕ} 0 1 = cc in λ _ _. omega arith
    to _ (level s m t) h = let z : ◌≡◌ {A = ℕ} 18 19 = cc in λ _ _. omega arith
    to _ (over n) h = n

    from : (o : Outcome ℕ) → Found bits reference o → (1024 ≤ bits) ⊎ (99000 < reference) → o ≡ refusal 18
    from _ (one v s m n l) (inl h) = absurd (omega arith)
    from _ (one v s m n l) (inr h) = absurd (omega arith)
    from _ (level s m t) (inl h) = absurd (omega arith)
    from _ (level s m t) (inr h) = absurd (omega arith)
    from _ (over n) h = refl

-- document 02's refusals here: 18 and 19, and no other
pub full_week_numbers : (bits reference n : ℕ) → full_week bits reference ≡ refusal n → (n ≡ 18) ⊎ (n ≡ 19)
full_week_numbers bits reference n e = go (full_week bits reference) (full_week_found bits reference) e
  where
    go : (o : Outcome ℕ) → Found bits reference o → o ≡ refusal n → (n ≡ 18) ⊎ (n ≡ 19)
    go _ (one v s m k l) h = let z : ◌≡◌ {A = ℕ} 0 1 = cc in absurd (omega arith)
    go _ (level s m t) h = inr (cc)
    go _ (over k) h = inl (cc)

-- near the start, where the next week below would be below 0
pub first-weeks : (full_week 1023 0 ≡ answer 1023) × (full_week 512 0 ≡ answer 512) × (full_week 0 512 ≡ refusal 19) × (full_week 0 513 ≡ answer 1024)
    × (full_week 0 511 ≡ answer 0)
unfolding full_week by_distance
first-weeks = (refl, refl, refl, refl, refl)

-- the ends of the ranges, and the largest answer
pub last-weeks : (full_week 183 99000 ≡ answer 99511) × (full_week 184 99000 ≡ refusal 19) × (full_week 185 99000 ≡ answer 98489)
    × (full_week 1023 99001 ≡ refusal 18) × (full_week 1024 99000 ≡ refusal 18)
unfolding full_week by_distance
last-weeks = (refl, refl, refl, refl, refl)
