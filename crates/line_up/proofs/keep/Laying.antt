-- The loop that lays stamps on piles. Assumes nothing.
use Prim.Native.Nat.{ℕ, zero, suc, ◌+◌, ◌-◌, ◌<◌, ◌≤◌}
use native.Mathlib.Omega.{arith}
use native.Mathlib.Numerals.{add-one}
use mathlib.Core.Path.{◌≡◌, refl, sym, ap, ◌∙◌, subst}
use mathlib.Core.Bool.{Bool, true, false, cond}
use mathlib.Core.List.{List, [], ◌∷◌, ◌++◌, append_assoc, append-nil}
use lib.Dec.{eqb, ltb}
use lib.ListN.{length, get_or, take, drop, set, length-set}
use lib.Seq.{slice, slice_empty, slice-cons, length-take-le, get_or-take, take-set-lt, take-suc-set, drop-append-le}
use borrow.Author.Tests.{eqb-true, ne_eqb, le-ltb, ltb-true, ltb-false}
use Rattle.std.specs.Prelude.{max}
use Rattle.std.proofs.lemmas.Bool.Decides.{nat_tests}
use Rattle.line_up.specs.keep.Piles.{piles_before, laid, piles_after, rank, all_laid, ranks, After, Rises, All, OrderLaws}
use Rattle.line_up.specs.keep.Asked.{Searchable, tail_put, Layable, Laid}
use Rattle.line_up.proofs.keep.Longest.{clash, laid-ok, not_before}
use Rattle.line_up.proofs.keep.Rising.{before-low, before-late}

module _ (lt : ℕ → ℕ → Bool) (i : ℕ) where
  laid-set-by : (c : Bool) (t p : ℕ) (ts us : List ℕ) → (p < length ts → us ≡ set ts p i) → cond c 0 (suc p) < suc (length ts)
      → cond c (i ∷ ts) (t ∷ us) ≡ set (t ∷ ts) (cond c 0 (suc p)) i
  laid-set-by true t p ts us f h = refl
  laid-set-by false t p ts us f h = ap (λ (l : List ℕ). t ∷ l) (f (omega arith))

  laid-set : (ts : List ℕ) → piles_before lt i ts < length ts → laid lt i ts ≡ set ts (piles_before lt i ts) i
  unfolding laid piles_before
  laid-set [] h = let w : ⊥ = omega arith in absurd w
  laid-set (t ∷ ts) h = laid-set-by (lt i t) t (piles_before lt i ts) ts (laid lt i ts) (laid-set ts) h

  laid-end-by : (c : Bool) (t p : ℕ) (ts us : List ℕ) → (p ≡ length ts → us ≡ ts ++ (i ∷ [])) → cond c 0 (suc p) ≡ suc (length ts)
      → cond c (i ∷ ts) (t ∷ us) ≡ t ∷ (ts ++ (i ∷ []))
  laid-end-by true t p ts us f h = let w : ⊥ = omega arith in absurd w
  laid-end-by false t p ts us f h = ap (λ (l : List ℕ). t ∷ l) (f (omega arith))

  laid_end : (ts : List ℕ) → piles_before lt i ts ≡ length ts → laid lt i ts ≡ ts ++ (i ∷ [])
  unfolding laid piles_before
  laid_end [] h = refl
  laid_end (t ∷ ts) h = laid-end-by (lt i t) t (piles_before lt i ts) ts (laid lt i ts) (laid_end ts) h

  module _ (tails : List ℕ) (many : ℕ) (room : many < length tails) where
    put-old : (p : ℕ) → p ≡ piles_before lt i (take many tails) → p < many → take many (set tails p i) ≡ laid lt i (take many tails)
    put-old p e h =
        let k : length (take many tails) ≡ many = length-take-le many tails (omega arith) in
        take-set-lt many tails p i h ∙ ap (λ (q : ℕ). set (take many tails) q i) e ∙ sym (laid-set (take many tails) (omega arith))

    put-new : (p : ℕ) → p ≡ piles_before lt i (take many tails) → p ≡ many → take (suc p) (set tails p i) ≡ laid lt i (take many tails)
    put-new p e h =
        let k : length (take many tails) ≡ many = length-take-le many tails (omega arith) in
        take-suc-set tails p i (omega arith) ∙ ap (λ (q : ℕ). take q tails ++ (i ∷ [])) h ∙ sym (laid_end (take many tails) (omega arith))

    put-by : (c : Bool) (p : ℕ) → p ≡ piles_before lt i (take many tails) → p ≤ many → ltb many (suc p) ≡ c
        → take (cond c (suc p) many) (set tails p i) ≡ laid lt i (take many tails)
    put-by true p e l h = put-new p e (omega (arith, ltb-true many (suc p) h))
    put-by false p e l h = put-old p e (omega (arith, ltb-false many (suc p) h))

    put-pile : (p : ℕ) → p ≡ piles_before lt i (take many tails)
        → take (cond (ltb many (suc p)) (suc p) many) (tail_put tails (suc p) i) ≡ laid lt i (take many tails)
    put-pile p e =
        let k : length (take many tails) ≡ many = length-take-le many tails (omega arith) in
        let l : piles_before lt i (take many tails) ≤ length (take many tails) = before-low lt i (take many tails) in
        let z : eqb (suc p) 0 ≡ false = ne_eqb (suc p) 0 (λ w. omega (arith, w)) in
        let m : suc p - 1 ≡ p = omega arith in
        rw (z, m) (put-by (ltb many (suc p)) p e (omega arith) refl)

    put-rank-by : (c : Bool) → take
        (cond (ltb many (cond c (suc (piles_before lt i (take many tails))) 0)) (cond c (suc (piles_before lt i (take many tails))) 0) many)
        (tail_put tails (cond c (suc (piles_before lt i (take many tails))) 0) i) ≡ cond c (laid lt i (take many tails)) (take many tails)
    put-rank-by true = put-pile (piles_before lt i (take many tails)) refl
    put-rank-by false = rw (le-ltb many 0 (omega arith))

    -- what the code does with the tails is what is done with the piles
    pub put-rank : (n r many' : ℕ) (tails' : List ℕ) → r ≡ rank lt n i (take many tails) → tails' ≡ tail_put tails r i → many' ≡ cond (ltb many r) r many
        → take many' tails' ≡ piles_after lt n i (take many tails)
    put-rank n r many' tails' e et em = rw (em, et, e) (put-rank-by (eqb n 0))

    rank-low-by : (c : Bool) (p : ℕ) → p ≤ many → cond c (suc p) 0 ≤ many + 1
    rank-low-by true p h = omega arith
    rank-low-by false p h = omega arith

    pub rank-low : (n : ℕ) → rank lt n i (take many tails) ≤ many + 1
    rank-low n = rank-low-by (eqb n 0) (piles_before lt i (take many tails))
        (omega (arith, before-low lt i (take many tails), length-take-le many tails (omega arith)))

module _ (ok : ℕ → Type 0) (lt : ℕ → ℕ → Bool) (order : OrderLaws ok lt) where
  after-laid-by : (c : Bool) (i x t : ℕ) (ts us : List ℕ) → lt i x ≡ false → lt t x ≡ false → After lt x (cond c (i ∷ ts) (t ∷ us))
  after-laid-by true i x t ts us h k = h
  after-laid-by false i x t ts us h k = k

  after-laid : (i x : ℕ) (ts : List ℕ) → lt i x ≡ false → After lt x ts → After lt x (laid lt i ts)
  unfolding laid
  after-laid i x [] h a = h
  after-laid i x (t ∷ ts) h a = after-laid-by (lt i t) i x t ts (laid lt i ts) h a

  after-earlier : (i t : ℕ) (ts : List ℕ) → ok i → ok t → All ok ts → lt i t ≡ true → After lt t ts → After lt i ts
  after-earlier i t [] oi ot os e a = tt
  after-earlier i t (y ∷ ys) oi ot os e a = not_before ok lt order (lt y i) y i t os.0 oi ot e a refl

  rises-laid-by : (c : Bool) (i t : ℕ) (ts us : List ℕ) → lt i t ≡ c → ok i → ok t → All ok ts → After lt t ts → Rises lt ts
      → (lt i t ≡ false → After lt t us) → Rises lt us → Rises lt (cond c (i ∷ ts) (t ∷ us))
  rises-laid-by true i t ts us e oi ot os a r b s = (after-earlier i t ts oi ot os e a, r)
  rises-laid-by false i t ts us e oi ot os a r b s = (b e, s)

  -- the tails rise
  pub rises-laid : (i : ℕ) (ts : List ℕ) → ok i → All ok ts → Rises lt ts → Rises lt (laid lt i ts)
  unfolding laid
  rises-laid i [] oi os r = (tt, tt)
  rises-laid i (t ∷ ts) oi os r =
      rises-laid-by (lt i t) i t ts (laid lt i ts) refl oi os.0 os.1 r.0 r.1 (λ e. after-laid i t ts e r.0) (rises-laid i ts oi os.1 r.1)

  first-false : (c : Bool) (i t q p : ℕ) (ts : List ℕ) → lt i t ≡ c → ok i → ok t → All ok ts → After lt t ts → q < length ts → q < p
      → p ≡ piles_before lt i ts → suc q < cond c 0 (suc p)
  first-false true i t q p [] e oi ot os a l h f = let w : ⊥ = omega arith in absurd w
  first-false true i t q p (y ∷ ys) e oi ot os a l h f =
      let k : lt i y ≡ false = before-late lt i (y ∷ ys) 0 (omega arith) in
      clash (lt i t) e (order.not_less t y i ot os.0 oi a k)
  first-false false i t q p ts e oi ot os a l h f = omega arith

  here_false : (c : Bool) (p : ℕ) → c ≡ false → 0 < cond c 0 (suc p)
  here_false true p e = clash true refl e
  here_false false p e = omega arith

  -- a tail that is not later than i has none later before it
  pub late-within : (i : ℕ) (ts : List ℕ) (q : ℕ) → ok i → All ok ts → Rises lt ts → q < length ts → lt i (get_or ts q 0) ≡ false → q < piles_before lt i ts
  unfolding piles_before
  late-within i [] q oi os r h e = let w : ⊥ = omega arith in absurd w
  late-within i (t ∷ ts) zero oi os r h e = here_false (lt i t) (piles_before lt i ts) e
  late-within i (t ∷ ts) (suc q) oi os r h e =
      let k : q < length ts = omega arith in
      first-false (lt i t) i t q (piles_before lt i ts) ts refl oi os.0 os.1 r.0 k (late-within i ts q oi os.1 r.1 k e) refl

-- the larger of two numbers, as `laying_goes` has it
pub larger_is : (a b : ℕ) → max a b ≡ cond (ltb a b) b a
larger_is a b = grind (arith, nat_tests)

-- the stamps before place i are laid
pub record Laying (ok : ℕ → Type 0) (lt : ℕ → ℕ → Bool) (ns : List ℕ) (from to : ℕ) (tails₀ rs₀ tails rs : List ℕ) (many i : ℕ) : Type 0 where
  pub tails_length : length tails ≡ length tails₀
  pub ranks_length : length rs ≡ length rs₀
  pub low : from ≤ i
  pub high : i ≤ to
  pub few : many + from ≤ i
  pub all_ok : All ok (take many tails)
  pub rises : Rises lt (take many tails)
  pub whole_piles : all_laid lt i (slice i to ns) (take many tails) ≡ all_laid lt from (slice from to ns) []
  pub whole_ranks : slice from i rs ++ ranks lt i (slice i to ns) (take many tails) ≡ ranks lt from (slice from to ns) []

module _ (ok : ℕ → Type 0) (lt : ℕ → ℕ → Bool) (order : OrderLaws ok lt) (ns : List ℕ) (from to : ℕ) (tails₀ rs₀ : List ℕ)
    (a : Layable ns from to tails₀ rs₀)
    (oks : (p : ℕ) → from ≤ p → p < to → get_or ns p 0 ≡ 0 → ok p) where
  module _ (tails rs : List ℕ) (many i : ℕ) (l : Laying ok lt ns from to tails₀ rs₀ tails rs many i) (h : i < to) where
    pub many-room : many < length tails
    many-room = omega (arith, l.few, l.tails_length, a.tail_room)

    many-length : length (take many tails) ≡ many
    many-length = length-take-le many tails (omega (arith, many-room))

    pub laying_searchable : get_or ns i 0 ≡ 0 → Searchable lt tails many i
    laying_searchable e = record {
      room = omega (arith, many-room);
      split = λ q k f. late-within ok lt order i (take many tails) q (oks i l.low h e) l.all_ok l.rises (omega (arith, many-length))
          (ap (λ (x : ℕ). lt i x) (get_or-take many tails q 0 k) ∙ f);
    }

    pub laying_rank : rank lt (get_or ns i 0) i (take many tails) ≤ many + 1
    laying_rank = rank-low lt i tails many many-room (get_or ns i 0)

    step_ok : (c : Bool) → eqb (get_or ns i 0) 0 ≡ c → All ok (cond c (laid lt i (take many tails)) (take many tails))
    step_ok true e = laid-ok ok lt i (take many tails) (oks i l.low h (eqb-true (get_or ns i 0) 0 e)) l.all_ok
    step_ok false e = l.all_ok

    step-rises : (c : Bool) → eqb (get_or ns i 0) 0 ≡ c → Rises lt (cond c (laid lt i (take many tails)) (take many tails))
    step-rises true e = rises-laid ok lt order i (take many tails) (oks i l.low h (eqb-true (get_or ns i 0) 0 e)) l.all_ok l.rises
    step-rises false e = l.rises

    next-number : slice i to ns ≡ get_or ns i 0 ∷ slice (suc i) to ns
    next-number = slice-cons i to ns 0 h a.high

    step-piles : all_laid lt (suc i) (slice (suc i) to ns) (piles_after lt (get_or ns i 0) i (take many tails)) ≡ all_laid lt from (slice from to ns) []
    unfolding all_laid
    step-piles = sym (ap (λ (s : List ℕ). all_laid lt i s (take many tails)) next-number) ∙ l.whole_piles

    slice_more : (r : ℕ) → slice from (suc i) (set rs i r) ≡ slice from i rs ++ (r ∷ [])
    slice_more r =
        let k : i < length rs = omega (arith, l.ranks_length, a.rank_room) in
        let m : from ≤ length (take i rs) = omega (arith, length-take-le i rs (omega arith), l.low) in
        ap (drop from) (take-suc-set rs i r k) ∙ drop-append-le from (take i rs) (r ∷ []) m

    step-ranks : slice from (suc i) (set rs i (rank lt (get_or ns i 0) i (take many tails)))
        ++ ranks lt (suc i) (slice (suc i) to ns) (piles_after lt (get_or ns i 0) i (take many tails)) ≡ ranks lt from (slice from to ns) []
    unfolding ranks
    step-ranks =
        let r = rank lt (get_or ns i 0) i (take many tails) in
        let rest = ranks lt (suc i) (slice (suc i) to ns) (piles_after lt (get_or ns i 0) i (take many tails)) in
        ap (λ (s : List ℕ). s ++ rest) (slice_more r)
        ∙ append_assoc (slice from i rs) (r ∷ []) rest
        ∙ sym (ap (λ (s : List ℕ). slice from i rs ++ ranks lt i s (take many tails)) next-number)
        ∙ l.whole_ranks

    larger-low : (c : Bool) (r : ℕ) → r ≤ many + 1 → cond c r many + from ≤ suc i
    larger-low true r k = omega (arith, l.few)
    larger-low false r k = omega (arith, l.few)

    length-put : (c : Bool) (k x : ℕ) → length (cond c tails (set tails k x)) ≡ length tails
    length-put true k x = refl
    length-put false k x = length-set tails k x

    pub laying_goes : (r many' : ℕ) (tails' rs' : List ℕ) → r ≡ rank lt (get_or ns i 0) i (take many tails) → tails' ≡ tail_put tails r i → rs' ≡ set rs i r
        → many' ≡ cond (ltb many r) r many
        → Laying ok lt ns from to tails₀ rs₀ tails' rs' many' (i + 1)
    laying_goes r many' tails' rs' e et er em =
        let t : take many' tails' ≡ piles_after lt (get_or ns i 0) i (take many tails) = put-rank lt i tails many many-room
        (get_or ns i 0) r many' tails' e et em in
        let w : rank lt (get_or ns i 0) i (take many tails) ≤ many + 1 = laying_rank in
        let d : Laying ok lt ns from to tails₀ rs₀ tails' rs' many' (suc i) = record {
          tails_length = ap length et ∙ length-put (eqb r 0) (r - 1) i ∙ l.tails_length;
          ranks_length = ap length er ∙ length-set rs i r ∙ l.ranks_length;
          low = omega (arith, l.low);
          high = omega arith;
          few = rw em (larger-low (ltb many r) r (omega (arith, e, w)));
          all_ok = rw t (step_ok (eqb (get_or ns i 0) 0) refl);
          rises = rw t (step-rises (eqb (get_or ns i 0) 0) refl);
          whole_piles = rw t step-piles;
          whole_ranks = rw (t, er, e) step-ranks;
        } in
        subst (λ (j : ℕ). Laying ok lt ns from to tails₀ rs₀ tails' rs' many' j) (sym (add-one i)) d

  pub laying_ends : (tails rs : List ℕ) (many i : ℕ) → Laying ok lt ns from to tails₀ rs₀ tails rs many i → to ≤ i → Laid lt ns from to rs many
  unfolding all_laid ranks
  laying_ends tails rs many i l h =
      let e : i ≡ to = omega (arith, l.high) in
      let z : slice i to ns ≡ [] = ap (λ (j : ℕ). slice j to ns) e ∙ slice_empty to ns in
      let k : length (take many tails) ≡ many = length-take-le many tails (omega (arith, l.few, l.tails_length, a.tail_room)) in
      let p : take many tails ≡ all_laid lt from (slice from to ns) [] = sym (ap (λ (s : List ℕ). all_laid lt i s (take many tails)) z) ∙ l.whole_piles in
      record {
        count = sym k ∙ ap length p;
        piles = sym (append-nil (slice from to rs)) ∙ sym (ap (λ (j : ℕ). slice from j rs ++ []) e)
            ∙ sym (ap (λ (s : List ℕ). slice from i rs ++ ranks lt i s (take many tails)) z) ∙ l.whole_ranks;
      }

-- ---- before the first stamp nothing is laid
module _ (ok : ℕ → Type 0) (lt : ℕ → ℕ → Bool) (order : OrderLaws ok lt) (ns : List ℕ) (from to : ℕ) (tails₀ rs₀ : List ℕ)
    (a : Layable ns from to tails₀ rs₀)
    (oks : (p : ℕ) → from ≤ p → p < to → get_or ns p 0 ≡ 0 → ok p) where
  pub laying_starts : Laying ok lt ns from to tails₀ rs₀ tails₀ rs₀ 0 from
  laying_starts = record {
    tails_length = refl;
    ranks_length = refl;
    low = omega arith;
    high = a.low;
    few = omega arith;
    all_ok = tt;
    rises = tt;
    whole_piles = refl;
    whole_ranks = rw (slice_empty from rs₀);
  }
