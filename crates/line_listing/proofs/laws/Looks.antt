-- WHAT TO LOOK AT: each bit of `look` stands exactly when. 1: where a stamp, place by place, has number 17. 2: where a named run of the three has no stamp.
-- 4: where the last ordered stamp of a run has a UTC day later than the day until which the table is known. 8: where two of the runs are apart, whichever of
-- the two is named first. What the first and the last ordered stamp of a run are, and that as many are told as left out as are. Assumes nothing.
use Rattle.std.proofs.Common.{◌≡◌, ℕ, zero, suc, ◌+◌, ◌-◌, ◌/◌, ◌%◌, ◌<◌, Bool, true, false, cond, not, ◌&&◌, ◌||◌, eqb, ◌⊎◌, List, length, get_or, sym, refl}
use Rattle.std.proofs.Common.{ap, ◌∙◌, subst, inl, inr, arith, eq-eqb, ne_eqb, eqb-true}
use borrow.Author.Tests.{eqb-false}
use Rattle.leap_table.specs.rows.Table.{Row}
use Rattle.line_listing.specs.declared.head.RunEnd.{RunEnd}
use Rattle.line_listing.specs.declared.summary.Seen.{Seen}
use Rattle.line_listing.specs.declared.summary.Ends.{Ends}
use Rattle.line_listing.specs.lines.StampLine.{Stamps}
use Rattle.line_listing.specs.head.Counts.{not_finite, kind_at, kinds_in, first_end, second_end}
use Rattle.line_listing.specs.summary.Seen.{one_more, seen_in}
use Rattle.line_listing.specs.summary.Look.{left_out, is_empty, no_stamp, is_after, last_after, any_after}
use Rattle.line_listing.specs.summary.Look.{after_known, run_later, runs_apart, any_apart, scales_apart, bits, look_of}
use Rattle.line_listing.specs.summary.Claims.{Found, Told}

-- ---- the bits
bits-told : (a b c d : Bool) → (eqb (bits a b c d % 2) 1 ≡ a) × (eqb (bits a b c d / 2 % 2) 1 ≡ b) × (eqb (bits a b c d / 4 % 2) 1 ≡ c)
    × (eqb (bits a b c d / 8 % 2) 1 ≡ d)
unfolding bits
bits-told true true true true = (refl, refl, refl, refl)
bits-told true true true false = (refl, refl, refl, refl)
bits-told true true false true = (refl, refl, refl, refl)
bits-told true true false false = (refl, refl, refl, refl)
bits-told true false true true = (refl, refl, refl, refl)
bits-told true false true false = (refl, refl, refl, refl)
bits-told true false false true = (refl, refl, refl, refl)
bits-told true false false false = (refl, refl, refl, refl)
bits-told false true true true = (refl, refl, refl, refl)
bits-told false true true false = (refl, refl, refl, refl)
bits-told false true false true = (refl, refl, refl, refl)
bits-told false true false false = (refl, refl, refl, refl)
bits-told false false true true = (refl, refl, refl, refl)
bits-told false false true false = (refl, refl, refl, refl)
bits-told false false false true = (refl, refl, refl, refl)
bits-told false false false false = (refl, refl, refl, refl)

pub each-bit : (rows : List Row) (known : ℕ) (gps tai utc : RunEnd) (all : Stamps) → Told rows known gps tai utc all (look_of rows known gps tai utc all)
unfolding look_of
each-bit rows known gps tai utc all =
    let b = bits-told (left_out all) (no_stamp gps tai utc all) (after_known rows known all) (scales_apart rows all) in
    record { left_out = b.0; no-stamp = b.1; after-known = b.2; scales-apart = b.3 }

-- ---- the stamps of a number
true_false : {A : Type 0} → true ≡ false → A
true_false e = let y : ◌≡◌ {A = ℕ} 0 1 = cc e in let z : ⊥ = omega arith in absurd z

below : (q n : ℕ) → q < suc n → (q ≡ n → ⊥) → q < n
below q n l d = omega arith

module _ (k : ℕ) (ns : List ℕ) (from : ℕ) where
  abbrev has : ℕ → Type 0
  has q = get_or ns (from + q) 0 ≡ k

  abbrev None : ℕ → Seen → Type 0
  None n s = (s.many ≡ 0) × ((q : ℕ) → q < n → has q → ⊥)

  here : (n : ℕ) (s : Seen) → has n → None n s ⊎ Found k ns from n s → Found k ns from (suc n) (one_more s n)
  unfolding one_more
  here n s e (inl h) = rw h.0 (record {
    some = omega arith;
    first_in = omega arith;
    first_is = e;
    none_before = h.1;
    last_in = omega arith;
    last_is = e;
    none_behind = λ q l m g. let z : ⊥ = omega arith in absurd z;
  })
  here n s e (inr f) = rw (ne_eqb s.many 0 (λ z. let y : ⊥ = omega (arith, f.some) in absurd y)) (record {
    some = omega (arith, f.some);
    first_in = omega (arith, f.first_in);
    first_is = f.first_is;
    none_before = f.none_before;
    last_in = omega arith;
    last_is = e;
    none_behind = λ q l m g. let z : ⊥ = omega arith in absurd z;
  })

  none_more : (n : ℕ) → (has n → ⊥) → ((q : ℕ) → q < n → has q → ⊥) → (q : ℕ) → q < suc n → has q → ⊥
  none_more n d h q l g = h q (below q n l (λ e. d (subst has e g))) g

  behind_more : (n last : ℕ) → (has n → ⊥) → ((q : ℕ) → last < q → q < n → has q → ⊥) → (q : ℕ) → last < q → q < suc n → has q → ⊥
  behind_more n last d h q l m g = h q l (below q n m (λ e. d (subst has e g))) g

  not_here : (n : ℕ) (s : Seen) → (has n → ⊥) → None n s ⊎ Found k ns from n s → None (suc n) s ⊎ Found k ns from (suc n) s
  not_here n s d (inl h) = inl (h.0, none_more n d h.1)
  not_here n s d (inr f) = inr (record {
    some = f.some;
    first_in = omega (arith, f.first_in);
    first_is = f.first_is;
    none_before = f.none_before;
    last_in = omega (arith, f.last_in);
    last_is = f.last_is;
    none_behind = behind_more n s.last d f.none_behind;
  })

  -- NONE, AND THEN NO PLACE OF THE RUN HAS THE NUMBER; or some, and the first and the last of them
  pub seen-or-none : (n : ℕ) → None n (seen_in k ns from n) ⊎ Found k ns from n (seen_in k ns from n)
  unfolding seen_in
  seen-or-none zero = inl (refl, λ q l g. let z : ⊥ = omega arith in absurd z)
  seen-or-none (suc n) = go (eqb (get_or ns (from + n) 0) k) refl (seen-or-none n)
    where
      go : (b : Bool) → eqb (get_or ns (from + n) 0) k ≡ b → None n (seen_in k ns from n) ⊎ Found k ns from n (seen_in k ns from n)
          → None (suc n) (cond b (one_more (seen_in k ns from n) n) (seen_in k ns from n))
          ⊎ Found k ns from (suc n) (cond b (one_more (seen_in k ns from n) n) (seen_in k ns from n))
      go true e h = inr (here n _ (eqb-true _ _ e) h)
      go false e h = not_here n _ (eqb-false _ _ e) h

-- ---- 1
pub left-out-when : (all : Stamps) (p : ℕ) → p < length all.numbers → get_or all.numbers p 0 ≡ 17 → left_out all ≡ true
unfolding left_out
left-out-when all p l e = go (seen-or-none 17 all.numbers 0 (length all.numbers))
  where
    go : None 17 all.numbers 0 (length all.numbers) (seen_in 17 all.numbers 0 (length all.numbers))
        ⊎ Found 17 all.numbers 0 (length all.numbers) (seen_in 17 all.numbers 0 (length all.numbers))
        → not (eqb (seen_in 17 all.numbers 0 (length all.numbers)).many 0) ≡ true
    go (inl h) = absurd (h.1 p l (ap (λ (q : ℕ). get_or all.numbers q 0) (zero_plus p) ∙ e))
      where
        zero_plus : (p : ℕ) → 0 + p ≡ p
        zero_plus p = omega arith
    go (inr f) = ap not (ne_eqb (seen_in 17 all.numbers 0 (length all.numbers)).many 0 (λ z. let y : ⊥ = omega (arith, f.some) in absurd y))

pub left-out-only : (all : Stamps) → left_out all ≡ true → (p : ℕ) × (p < length all.numbers) × (get_or all.numbers (0 + p) 0 ≡ 17)
unfolding left_out
left-out-only all e = go (seen-or-none 17 all.numbers 0 (length all.numbers))
  where
    go : None 17 all.numbers 0 (length all.numbers) (seen_in 17 all.numbers 0 (length all.numbers))
        ⊎ Found 17 all.numbers 0 (length all.numbers) (seen_in 17 all.numbers 0 (length all.numbers))
        → (p : ℕ) × (p < length all.numbers) × (get_or all.numbers (0 + p) 0 ≡ 17)
    go (inl h) = true_false (sym e ∙ ap not (eq-eqb _ 0 h.0))
    go (inr f) = ((seen_in 17 all.numbers 0 (length all.numbers)).first, f.first_in, f.first_is)

-- ---- one of three tests
or_right : (a : Bool) → (a || true) ≡ true
or_right true = refl
or_right false = refl

either_or : (a b : Bool) → (a || b) ≡ true → (a ≡ true) ⊎ (b ≡ true)
either_or true b e = inl refl
either_or false b e = inr e

or_when : (a b c : Bool) → (a ≡ true) ⊎ ((b ≡ true) ⊎ (c ≡ true)) → (a || (b || c)) ≡ true
or_when a b c (inl e) = rw e refl
or_when a b c (inr (inl e)) = rw e (or_right a)
or_when a b c (inr (inr e)) = rw e (ap (λ (t : Bool). a || t) (or_right b) ∙ or_right a)

or_only : (a b c : Bool) → (a || (b || c)) ≡ true → (a ≡ true) ⊎ ((b ≡ true) ⊎ (c ≡ true))
or_only true b c e = inl refl
or_only false b c e = inr (either_or b c e)

-- ---- 2
pub empty-when : (run : RunEnd) (n : ℕ) → run.named ≡ true → n ≡ 0 → is_empty run n ≡ true
unfolding is_empty
empty-when run n e f = rw (e, eq-eqb n 0 f) refl

pub empty-only : (run : RunEnd) (n : ℕ) → is_empty run n ≡ true → (run.named ≡ true) × (n ≡ 0)
unfolding is_empty
empty-only run n e = go run.named refl e
  where
    go : (b : Bool) → run.named ≡ b → cond b (eqb n 0) false ≡ true → (run.named ≡ true) × (n ≡ 0)
    go true f g = (f, eqb-true n 0 g)
    go false f g = true_false (sym g)

-- one of the three runs, and none else, by the places where the runs end
module _ (gps tai utc : RunEnd) (all : Stamps) where
  pub no_stamp_when : (is_empty gps (first_end all) ≡ true)
      ⊎ ((is_empty tai (second_end all - first_end all) ≡ true) ⊎ (is_empty utc (length all.numbers - second_end all) ≡ true))
      → no_stamp gps tai utc all ≡ true
  unfolding no_stamp
  no_stamp_when = or_when (is_empty gps (first_end all)) (is_empty tai (second_end all - first_end all)) (is_empty utc (length all.numbers - second_end all))

  pub no_stamp_only : no_stamp gps tai utc all ≡ true → (is_empty gps (first_end all) ≡ true)
      ⊎ ((is_empty tai (second_end all - first_end all) ≡ true) ⊎ (is_empty utc (length all.numbers - second_end all) ≡ true))
  unfolding no_stamp
  no_stamp_only = or_only (is_empty gps (first_end all)) (is_empty tai (second_end all - first_end all)) (is_empty utc (length all.numbers - second_end all))

-- ---- how many are left out: as many as the head's line of the run counts
one_more_lem : (a b : ℕ) (t : Bool) → a ≡ b → cond t (a + 1) a ≡ b + cond t 1 0
one_more_lem a b true e = omega (arith, e)
one_more_lem a b false e = omega (arith, e)

seen_step : (s : Seen) (i : ℕ) (t : Bool) → (cond t (one_more s i) s).many ≡ cond t (s.many + 1) s.many
unfolding one_more
seen_step s i true = refl
seen_step s i false = refl

kind_3 : (js ks ns : List ℕ) (p : ℕ) → eqb (kind_at js ks ns p) 3 ≡ eqb (get_or ns p 0) 17
unfolding kind_at
kind_3 js ks ns p = go (get_or ns p 0) (not_finite js ks p)
  where
    go : (n : ℕ) (b : Bool) → eqb (cond (eqb n 0) 0 (cond (eqb n 17) 3 (cond b 1 2))) 3 ≡ eqb n 17
    go n b = by (eqb n 0) (eqb n 17) b refl refl
      where
        by : (x y z : Bool) → eqb n 0 ≡ x → eqb n 17 ≡ y → eqb (cond x 0 (cond y 3 (cond z 1 2))) 3 ≡ y
        by true true z e f = let w : ◌≡◌ {A = ℕ} 0 17 = sym (eqb-true n 0 e) ∙ eqb-true n 17 f in absurd (let v : ⊥ = omega arith in v)
        by true false z e f = refl
        by false true z e f = refl
        by false false true e f = refl
        by false false false e f = refl

pub seen-counted : (js ks ns : List ℕ) (from n : ℕ) → (seen_in 17 ns from n).many ≡ kinds_in js ks ns 3 from n
unfolding seen_in kinds_in
seen-counted js ks ns from zero = refl
seen-counted js ks ns from (suc n) =
    seen_step (seen_in 17 ns from n) n (eqb (get_or ns (from + n) 0) 17)
    ∙ one_more_lem (seen_in 17 ns from n).many (kinds_in js ks ns 3 from n) (eqb (get_or ns (from + n) 0) 17) (seen-counted js ks ns from n)
    ∙ ap (λ (t : Bool). kinds_in js ks ns 3 from n + cond t 1 0) (sym (kind_3 js ks ns (from + n)))

-- ---- 4
both_true : (a b : Bool) → (a && b) ≡ true → (a ≡ true) × (b ≡ true)
both_true true b e = (refl, e)
both_true false b e = true_false (sym e)

module _ (rows : List Row) (day : ℕ) where
  pub last-when : (run : Ends) → run.any ≡ true → is_after rows day run.last ≡ true → last_after rows day run ≡ true
  unfolding last_after
  last-when run e f = rw (e, f) refl

  pub last-only : (run : Ends) → last_after rows day run ≡ true → (run.any ≡ true) × (is_after rows day run.last ≡ true)
  unfolding last_after
  last-only run e = both_true run.any (is_after rows day run.last) e

  -- one of the three runs, and none else
  pub after-when : (gps tai utc : Ends) → (last_after rows day gps ≡ true) ⊎ ((last_after rows day tai ≡ true) ⊎ (last_after rows day utc ≡ true))
      → any_after rows day gps tai utc ≡ true
  unfolding any_after
  after-when gps tai utc = or_when (last_after rows day gps) (last_after rows day tai) (last_after rows day utc)

  pub after-only : (gps tai utc : Ends) → any_after rows day gps tai utc ≡ true
      → (last_after rows day gps ≡ true) ⊎ ((last_after rows day tai ≡ true) ⊎ (last_after rows day utc ≡ true))
  unfolding any_after
  after-only gps tai utc = or_only (last_after rows day gps) (last_after rows day tai) (last_after rows day utc)

-- ---- 8
or_comm : (a b : Bool) → (a || b) ≡ (b || a)
or_comm true true = refl
or_comm true false = refl
or_comm false true = refl
or_comm false false = refl

pub apart-either-way : (rows : List Row) (a b : Ends) → runs_apart rows a b ≡ runs_apart rows b a
unfolding runs_apart
apart-either-way rows a b = or_comm (run_later rows a b) (run_later rows b a)

-- one of the three pairs, and none else
module _ (rows : List Row) (gps tai utc : Ends) where
  pub apart-when : (runs_apart rows gps tai ≡ true) ⊎ ((runs_apart rows gps utc ≡ true) ⊎ (runs_apart rows tai utc ≡ true)) → any_apart rows gps tai utc ≡ true
  unfolding any_apart
  apart-when = or_when (runs_apart rows gps tai) (runs_apart rows gps utc) (runs_apart rows tai utc)

  pub apart-only : any_apart rows gps tai utc ≡ true → (runs_apart rows gps tai ≡ true) ⊎ ((runs_apart rows gps utc ≡ true) ⊎ (runs_apart rows tai utc ≡ true))
  unfolding any_apart
  apart-only = or_only (runs_apart rows gps tai) (runs_apart rows gps utc) (runs_apart rows tai utc)
