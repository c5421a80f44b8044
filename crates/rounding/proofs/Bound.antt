-- Rounding keeps the order and stays within bounds. A larger fraction is never rounded to a smaller float; a fraction between two floats is rounded to one
-- between them; and one of at most B units in size, for a B that the format holds, to a finite float of at most B. For any denominator. Assumes nothing.
use mathlib.Core.Path.{◌≡◌, refl, sym, ap, ◌∙◌, subst, subst₂}
use mathlib.Core.Logic.{inl, inr}
use Prim.Native.Nat.{ℕ, zero, suc, ◌+◌, ◌*◌, ◌^◌, ◌≤◌, ◌<◌}
use native.Mathlib.Nat.{le_trans, le_of_eq, lt_of_le_of_lt, le_of_mul-le-mul_right, add-mul, add_comm, eq_of_mul-eq-mul_right, zero-mul, eq-zero-or-pos}
use native.Mathlib.Omega.{arith}
use mathlib.Core.Bool.{Bool, true, false, not, cond, ◌||◌, beq, true≢false}
use lib.Dec.{T, leb, ltb, eqb, leb→le, nleb→lt, eqb→eq, lt→ltb, lit<}
use lib.Ieee.{Float, nan, inf, fin, Format, binary32, binary64, up, down, prec, emax, low, odd, units, round, neg, below, level, lt, eq, le, fits}
use lib.Ieee.Fits.{round_is, and_l}
use lib.Ieee.Exact.{HasValue}
use lib.Ieee.Order.{drop, kept, round_mono}
use lib.Ieee.Scale.{grid, round_same}
use Rattle.floats.proofs.Casts.{or_l}
use Rattle.rounding.specs.Value.{Signed, Val, Rounds, L}
use Rattle.rounding.proofs.Signed.{dist, dist_hi, dist_flip, signed_le, signed-scale}
use Rattle.rounding.proofs.Grid.{grid_le, grid_ge}
use Rattle.rounding.proofs.Near.{rounds-has}
use Rattle.rounding.proofs.Own.{Rep, rep_flip, val-rep, val-small}

-- ---- at most B in size
-- z is finite, and |z| is at most B units
pub record SizeWithin (z : Float) (B : ℕ) : Type 0 where
  pub p : ℕ
  pub n : ℕ
  pub val : Val z p n L
  pub high : p ≤ n + B
  pub low : n ≤ p + B

pub within_more : {z : Float} {B C : ℕ} → B ≤ C → SizeWithin z B → SizeWithin z C
within_more h w = record { p = w.p; n = w.n; val = w.val; high = omega (arith, w.high); low = omega (arith, w.low) }

within_of : (s : Bool) (z : Float) (g B : ℕ) → HasValue z s g L → g ≤ B → SizeWithin z B
within_of false z g B h l = record { p = g; n = 0; val = record { sign = false; size = g; has = h; is = omega arith }; high = omega arith; low = omega arith }
within_of true z g B h l = record { p = 0; n = g; val = record { sign = true; size = g; has = h; is = omega arith }; high = omega arith; low = omega arith }

round_le : (a D B : ℕ) → Rep B → 0 < D → a * L ≤ B * D → grid binary64 a D ≤ B
unfolding L
round_le a D B r E h = le_trans (grid_le binary64 a D r.q r.j E r.small (subst (λ (x : ℕ). a * 2 ^ 1074 ≤ x * D) r.is h)) (le_of_eq (sym r.is))

round_ge : (a D B : ℕ) → Rep B → 0 < D → B * D ≤ a * L → B ≤ grid binary64 a D
unfolding L
round_ge a D B r E h = le_trans (le_of_eq r.is) (grid_ge binary64 a D r.q r.j E r.small (subst (λ (x : ℕ). x * D ≤ a * 2 ^ 1074) r.is h))

-- |P - N| / D ≤ B / L gives |z| ≤ B / L
pub rounds-within : {z : Float} {P N D B : ℕ} → 0 < D → Rep B → B < 2 ^ 2098 → P * L ≤ N * L + B * D → N * L ≤ P * L + B * D → Rounds binary64 z P N D
    → SizeWithin z B
rounds-within {z} {P} {N} {D} {B} E rep b u l r =
    let g = round_le r.size D B rep E (signed_le r.sign (r.size * L) (P * L) (N * L) (B * D) (signed-scale r.sign r.size P N L r.is) u l)
    in within_of r.sign z (grid binary64 r.size D) B (rounds-has r (lt_of_le_of_lt g b)) g

-- ---- between two floats
-- z is finite, and (a - b) / L ≤ z ≤ (c - d) / L
pub record Enclosed (z : Float) (a b c d : ℕ) : Type 0 where
  pub p : ℕ
  pub n : ℕ
  pub val : Val z p n L
  pub low : a + n ≤ p + b
  pub high : p + d ≤ c + n

-- for a size k / D from (a - b) / L to (c - d) / L: its rounded value lies there
module _ (k a b c d D : ℕ) (E : 0 < D) (lo : Rep (dist a b)) (hi : Rep (dist c d)) (h : a * D ≤ k * L + b * D) (l : k * L + d * D ≤ c * D) where
  ordered : d ≤ c
  ordered = le_of_mul-le-mul_right {k = D} (drop_left (k * L) (d * D) (c * D) l) E
    where
      drop_left : (x y z : ℕ) → x + y ≤ z → y ≤ z
      drop_left x y z e = omega arith

  size-high : grid binary64 k D ≤ dist c d
  size-high = round_le k D (dist c d) hi E (room (dist c d) (dist_hi c d ordered))
    where
      room : (x : ℕ) → x + d ≡ c → k * L ≤ x * D
      room x e = let f : x * D + d * D ≡ c * D = sym (add-mul x d D) ∙ ap (λ (z : ℕ). z * D) e in omega arith

  above : a ≤ grid binary64 k D + b
  above = go (leb b a) (leb→le b a) (nleb→lt b a)
    where
      go : (t : Bool) → (T t → b ≤ a) → (T (not t) → a < b) → a ≤ grid binary64 k D + b
      go true f _ = add_b (dist a b) (grid binary64 k D) (dist_hi a b (f tt)) (round_ge k D (dist a b) lo E (room (dist a b) (dist_hi a b (f tt))))
        where
          room : (x : ℕ) → x + b ≡ a → x * D ≤ k * L
          room x e = let w : x * D + b * D ≡ a * D = sym (add-mul x b D) ∙ ap (λ (z : ℕ). z * D) e in omega arith

          add_b : (x g : ℕ) → x + b ≡ a → x ≤ g → a ≤ g + b
          add_b x g e f = omega arith
      go false _ f = small (grid binary64 k D) (f tt)
        where
          small : (g : ℕ) → a < b → a ≤ g + b
          small g e = omega arith

  under : grid binary64 k D + d ≤ c
  under = add_d (dist c d) (grid binary64 k D) (dist_hi c d ordered) size-high
    where
      add_d : (x g : ℕ) → x + d ≡ c → g ≤ x → g + d ≤ c
      add_d x g e f = omega arith

small-turn : (a b : ℕ) → dist a b < 2 ^ 2098 → dist b a < 2 ^ 2098
small-turn a b h = lt_of_le_of_lt (le_of_eq (dist_flip b a)) h

between-of : (s : Bool) (z : Float) (k P N D a b c d : ℕ) → 0 < D → Rep (dist a b) → Rep (dist c d) → dist a b < 2 ^ 2098 → dist c d < 2 ^ 2098
    → Signed s k P N → a * D + N * L ≤ P * L + b * D → P * L + d * D ≤ c * D + N * L
    → (grid binary64 k D < 2 ^ 2098 → HasValue z s (grid binary64 k D) L) → Enclosed z a b c d
between-of false z k P N D a b c d E ra rc sa sc i h l has =
    let e : k * L + N * L ≡ P * L = signed-scale false k P N L i in
    let h' : a * D ≤ k * L + b * D = omega arith in
    let l' : k * L + d * D ≤ c * D = omega arith in
    let v = has (lt_of_le_of_lt (size-high k a b c d D E ra rc h' l') sc) in
    let x = above k a b c d D E ra rc h' l' in
    let y = under k a b c d D E ra rc h' l' in
    record {
      p = grid binary64 k D;
      n = 0;
      val = record { sign = false; size = grid binary64 k D; has = v; is = omega arith };
      low = omega arith;
      high =
          omega arith;
    }
between-of true z k P N D a b c d E ra rc sa sc i h l has =
    let e : k * L + P * L ≡ N * L = signed-scale true k P N L i in
    let h' : d * D ≤ k * L + c * D = omega arith in
    let l' : k * L + a * D ≤ b * D = omega arith in
    let v = has (lt_of_le_of_lt (size-high k d c b a D E (rep_flip c d rc) (rep_flip a b ra) h' l') (small-turn a b sa)) in
    let x = above k d c b a D E (rep_flip c d rc) (rep_flip a b ra) h' l' in
    let y = under k d c b a D E (rep_flip c d rc) (rep_flip a b ra) h' l' in
    record {
      p = 0;
      n = grid binary64 k D;
      val = record { sign = true; size = grid binary64 k D; has = v; is = omega arith };
      low = omega arith;
      high =
          omega arith;
    }

-- lo ≤ (P - N) / D ≤ hi, for two floats, gives lo ≤ z ≤ hi
pub rounds-between : {z lo hi : Float} {P N D a b c d : ℕ} → 0 < D → T (fits binary64 lo) → T (fits binary64 hi) → Val lo a b L → Val hi c d L
    → a * D + N * L ≤ P * L + b * D → P * L + d * D ≤ c * D + N * L
    → Rounds binary64 z P N D → Enclosed z a b c d
rounds-between {z} {P = P} {N} {D} {a} {b} {c} {d} E fl fh vl vh h l r =
    between-of r.sign z r.size P N D a b c d E (val-rep fl vl) (val-rep fh vh) (val-small fl vl) (val-small fh vh) r.is h l (rounds-has r)

-- ---- the order is kept
odd_neg : (d q k l : ℕ) → odd d true q k l ≡ neg (odd d false q k l)
unfolding odd neg
odd_neg d zero k l = refl
odd_neg d (suc q) k l = refl

units-neg : (f : Format) (q k : ℕ) → units f true q k ≡ neg (units f false q k)
unfolding units
units-neg f q k = go (ltb (q * 2 ^ k) (2 ^ (low f + suc (emax f))))
  where
    go : (b : Bool) → cond b (odd (suc (prec f)) true q k (low f)) (inf true) ≡ neg (cond b (odd (suc (prec f)) false q k (low f)) (inf false))
    go true = odd_neg (suc (prec f)) q k (low f)
    go false = unfold neg in refl

-- round (-x) = -(round x)
pub round_neg : (f : Format) (a c : ℕ) → round f true a c ≡ neg (round f false a c)
round_neg f a c = round_is f true a c ∙ units-neg f (kept (prec f) (a * 2 ^ low f) c) (drop (prec f) (a * 2 ^ low f) c) ∙ ap neg (sym (round_is f false a c))

-- -y ≤ -x, where x ≤ y
below-neg : (s t : Bool) (a b : ℕ) → T (below s a t b) → T (below (not t) b (not s) a)
below-neg false false a b h = h
below-neg false true a b h = absurd h
below-neg true false a b h = subst (λ (z : ℕ). T (ltb 0 z)) (add_comm a b) h
below-neg true true a b h = h

level-neg : (s t : Bool) (a b : ℕ) → T (level s a t b) → T (level (not t) b (not s) a)
level-neg s t a b h = go (eqb→eq a b (and_l (eqb a b) (beq s t || eqb a 0) h))
  where
    same : (s t : Bool) → T (level s a t a) → T (level (not t) a (not s) a)
    same false false h = h
    same false true h = h
    same true false h = h
    same true true h = h

    go : a ≡ b → T (level (not t) b (not s) a)
    go e = subst (λ (z : ℕ). T (level (not t) z (not s) a)) e (same s t (subst (λ (z : ℕ). T (level s a t z)) (sym e) h))

lt_neg : (x y : Float) → T (lt x y) → T (lt (neg y) (neg x))
unfolding lt neg
lt_neg nan y h = absurd h
lt_neg (inf s) nan h = absurd h
lt_neg (inf true) (inf true) h = absurd h
lt_neg (inf true) (inf false) h = tt
lt_neg (inf false) (inf t) h = absurd h
lt_neg (inf true) (fin t n d) h = tt
lt_neg (inf false) (fin t n d) h = absurd h
lt_neg (fin s m e) nan h = absurd h
lt_neg (fin s m e) (inf t) h = h
lt_neg (fin s m e) (fin t n d) h = below-neg s t (m * up e * down d) (n * up d * down e) h

eq-neg : (x y : Float) → T (eq x y) → T (eq (neg y) (neg x))
unfolding eq neg
eq-neg nan y h = absurd h
eq-neg (inf s) nan h = absurd h
eq-neg (inf true) (inf true) h = tt
eq-neg (inf true) (inf false) h = absurd h
eq-neg (inf false) (inf true) h = absurd h
eq-neg (inf false) (inf false) h = tt
eq-neg (inf s) (fin t n d) h = absurd h
eq-neg (fin s m e) nan h = absurd h
eq-neg (fin s m e) (inf t) h = absurd h
eq-neg (fin s m e) (fin t n d) h = level-neg s t (m * up e * down d) (n * up d * down e) h

le_neg : (x y : Float) → T (le x y) → T (le (neg y) (neg x))
unfolding le
le_neg x y h = go (lt x y) (lt (neg y) (neg x)) (lt_neg x y) (eq-neg x y) h
  where
    go : (b c : Bool) → (T b → T c) → (T (eq x y) → T (eq (neg y) (neg x))) → T (b || eq x y) → T (c || eq (neg y) (neg x))
    go b true f g h = tt
    go true false f g h = absurd (f tt)
    go false false f g h = g h

-- what is rounded with the sign s has it
abbrev Side : Bool → Float → Type 0
Side s nan = ⊥
Side s (inf t) = t ≡ s
Side s (fin t m e) = t ≡ s

odd_side : (d : ℕ) (s : Bool) (q k l : ℕ) → Side s (odd d s q k l)
unfolding odd
odd_side d s zero k l = refl
odd_side d s (suc q) k l = refl

units-side : (f : Format) (s : Bool) (q k : ℕ) → Side s (units f s q k)
unfolding units
units-side f s q k = pick (ltb (q * 2 ^ k) (2 ^ (low f + suc (emax f))))
  where
    pick : (b : Bool) → Side s (cond b (odd (suc (prec f)) s q k (low f)) (inf s))
    pick true = odd_side (suc (prec f)) s q k (low f)
    pick false = refl

round_side : (f : Format) (s : Bool) (a c : ℕ) → Side s (round f s a c)
round_side f s a c = subst (Side s) (sym (round_is f s a c)) (units-side f s (kept (prec f) (a * 2 ^ low f) c) (drop (prec f) (a * 2 ^ low f) c))

sides_below : (a b : ℕ) → T (below true a false b || level true a false b)
sides_below a b = elim (eq-zero-or-pos (a + b)) [
  | inl e ↦ subst₂ (λ (x y : ℕ). T (below true x false y || level true x false y)) (sym (first a b e)) (sym (first b a (add_comm b a ∙ e))) tt
  | inr h ↦ or_l (below true a false b) (level true a false b) (lt→ltb 0 (a + b) h)
]
  where
    first : (a b : ℕ) → a + b ≡ 0 → a ≡ 0
    first a b e = omega arith

sides_le : (x y : Float) → Side true x → Side false y → T (le x y)
unfolding le
sides_le nan y h k = absurd h
sides_le (inf false) y h k = absurd (true≢false (sym h))
sides_le (inf true) nan h k = absurd k
sides_le (inf true) (inf true) h k = absurd (true≢false k)
sides_le (inf true) (inf false) h k = tt
sides_le (inf true) (fin t n d) h k = tt
sides_le (fin false m e) y h k = absurd (true≢false (sym h))
sides_le (fin true m e) nan h k = absurd k
sides_le (fin true m e) (inf true) h k = absurd (true≢false k)
sides_le (fin true m e) (inf false) h k = tt
sides_le (fin true m e) (fin true n d) h k = absurd (true≢false k)
sides_le (fin true m e) (fin false n d) h k = sides_below (m * up e * down d) (n * up d * down e)

-- +0 ≤ -0
zeros-closed : (f : Format) → T (le (round f false 0 1) (round f true 0 1))
unfolding le round
zeros-closed binary32 = tt
zeros-closed binary64 = tt

zeros-le : (f : Format) (a D b E : ℕ) → 0 < D → 0 < E → a ≡ 0 → b ≡ 0 → T (le (round f false a D) (round f true b E))
zeros-le f a D b E F G e g = subst₂ (λ (x y : Float). T (le x y)) (sym (at false a D F e)) (sym (at true b E G g)) (zeros-closed f)
  where
    at : (s : Bool) (a D : ℕ) → 0 < D → a ≡ 0 → round f s a D ≡ round f s 0 1
    at s a D F e = round_same f s a D 0 1 F (lit< tt) (ap (λ (z : ℕ). z * 1) e ∙ sym (zero-mul D))

-- (P - N) / D ≤ (Q - M) / E gives z ≤ w, infinities included
pub rounds-mono : {f : Format} {z w : Float} {P N D Q M E : ℕ} → 0 < D → 0 < E → P * E + M * D ≤ Q * D + N * E → Rounds f z P N D → Rounds f w Q M E
    → T (le z w)
rounds-mono {f} {z} {w} {P} {N} {D} {Q} {M} {E} F G h r k =
    subst₂ (λ (x y : Float). T (le x y)) (sym r.eq) (sym k.eq) (go r.sign k.sign r.size k.size r.is k.is)
  where
    go : (s t : Bool) (a b : ℕ) → Signed s a P N → Signed t b Q M → T (le (round f s a D) (round f t b E))
    go false false a b i j =
        let x : a * E + N * E ≡ P * E = signed-scale false a P N E i in
        let y : b * D + M * D ≡ Q * D = signed-scale false b Q M D j in
        round_mono f a D b E F G (omega arith)
    go true true a b i j =
        let x : a * E + P * E ≡ N * E = signed-scale true a P N E i in
        let y : b * D + Q * D ≡ M * D = signed-scale true b Q M D j in
        subst₂ (λ (x y : Float). T (le x y)) (sym (round_neg f a D)) (sym (round_neg f b E))
        (le_neg (round f false b E) (round f false a D) (round_mono f b E a D G F (omega arith)))
    go true false a b i j = sides_le (round f true a D) (round f false b E) (round_side f true a D) (round_side f false b E)
    go false true a b i j =
        let x : a * E + N * E ≡ P * E = signed-scale false a P N E i in
        let y : b * D + Q * D ≡ M * D = signed-scale true b Q M D j in
        let u : a * E ≡ 0 = omega arith in
        let v : b * D ≡ 0 = omega arith in zeros-le f a D b E F G (eq_of_mul-eq-mul_right E G a 0 (u ∙ sym (zero-mul E)))
        (eq_of_mul-eq-mul_right D F b 0 (v ∙ sym (zero-mul D)))
