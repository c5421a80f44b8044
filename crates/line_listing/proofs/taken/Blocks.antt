-- The blocks of a run, one after the other: where one is taken the rest is a run again, and where one is refused the run ends. Assumes nothing.
use Rattle.std.proofs.Common.{◌≡◌, ℕ, zero, suc, ◌+◌, ◌-◌, ◌*◌, ◌<◌, ◌≤◌, Bool, true, false, cond, eqb, leb, List, [], ◌∷◌, length, take, drop, sym, refl, ap}
use Rattle.std.proofs.Common.{◌∙◌, arith, length-append, length-drop, take-append-drop, take_all, drop-drop, eq-eqb, ne_eqb, leb-false}
use lib.Seq.{slice, take-nil}
use Rattle.std.specs.Prelude.{Result, Ok, Err}
use Rattle.refusals.specs.declared.Refusal.{Refusal}
use Rattle.refusals.specs.Refusal.{refusal_number}
use Rattle.refusals.specs.Outcome.{Outcome, answer, refusal, outcome}
use Rattle.leap_table.specs.rows.Announced.{least}
use Rattle.numerals.specs.little_endian.LittleEndian.{u32_at}
use Rattle.stamps.proofs.Blocks.{block-accepted}
use Rattle.line_listing.specs.declared.taken.RunSize.{RunSize}
use Rattle.line_listing.specs.taken.Run.{Blocks, block_length, first_block, with_block, blocks_in, run_blocks, stamps_of, blocks_bytes}
use Rattle.line_listing.specs.taken.Call.{size_of}

-- ---- parts
pub slice_mid : (f n : ℕ) (l : List ℕ) → take n (drop f l) ≡ slice f (f + n) l
slice_mid zero n l = ap (λ (k : ℕ). take k l) (let e : n ≡ 0 + n = omega arith in e)
slice_mid (suc f) n [] = take-nil n ∙ sym (ap (drop (suc f)) (take-nil (suc f + n)))
slice_mid (suc f) n (x ∷ l) = slice_mid f n l ∙ ap (λ (k : ℕ). drop (suc f) (take k (x ∷ l))) (let e : suc (f + n) ≡ suc f + n = omega arith in e)

pub take_fits : (k : ℕ) (s : List ℕ) → length (take k s) ≤ length s
take_fits k s = omega (arith, length-append (take k s) (drop k s), ap length (take-append-drop k s))

-- the part that is asked for ends where the list does
pub within : (k : ℕ) (s : List ℕ) → take (least k (length s)) s ≡ take k s
within k s = by (leb k (length s)) refl
  where
    by : (b : Bool) → leb k (length s) ≡ b → take (cond b k (length s)) s ≡ take k s
    by true e = refl
    by false e = take_all (length s) s (omega arith) ∙ sym (take_all k s (omega (arith, leb-false k (length s) e)))

-- ---- the first block
pub first_taken : (s : List ℕ) (n : ℕ) → first_block s ≡ answer n → (n ≤ 4000) × (block_length n ≤ length s)
unfolding first_block
first_taken s n e =
    let a = block-accepted (take (block_length (u32_at s 0)) s) n (sym e) in
    let h : block_length n ≤ length s = omega (arith, a.1, take_fits (block_length (u32_at s 0)) s) in
    (a.0, h)

pub whole-rest : (s : List ℕ) (at : ℕ) → take (length s - at) (drop at s) ≡ drop at s
whole-rest s at = take_all (length s - at) (drop at s) (omega (arith, length-drop at s))

-- the block at the start of what is left, by the answer r of the call
module _ (s : List ℕ) (at : ℕ) (r : Result ℕ Refusal) (e : outcome r ≡ first_block (take (length s - at) (drop at s))) where
  of_rest : first_block (drop at s) ≡ outcome r
  of_rest = ap first_block (sym (whole-rest s at)) ∙ sym e

  pub rest-taken : (n : ℕ) → r ≡ Ok n → first_block (drop at s) ≡ answer n
  unfolding outcome
  rest-taken n q = of_rest ∙ ap outcome q

  pub rest-refused : (k : Refusal) → r ≡ Err k → first_block (drop at s) ≡ refusal (refusal_number k)
  unfolding outcome
  rest-refused k q = of_rest ∙ ap outcome q

  pub rest-not-taken : ((n : ℕ) → r ≡ Ok n → ⊥) → (k : ℕ) × (first_block (drop at s) ≡ refusal k)
  rest-not-taken h = by r refl
    where
      by : (x : Result ℕ Refusal) → r ≡ x → (k : ℕ) × (first_block (drop at s) ≡ refusal k)
      by (Ok n) q = absurd (h n q)
      by (Err k) q = (refusal_number k, rest-refused k q)

-- ---- as many as bytes are enough
abbrev none : Blocks
none = record { sizes = []; refused = 0 }

enough : (m k : ℕ) (s : List ℕ) → length s ≤ m → length s ≤ k → blocks_in m s ≡ blocks_in k s
unfolding blocks_in
enough zero zero s h g = refl
enough zero (suc k) s h g = rw (eq-eqb (length s) 0 (let e : length s ≡ 0 = omega arith in e))
enough (suc m) zero s h g = rw (eq-eqb (length s) 0 (let e : length s ≡ 0 = omega arith in e))
enough (suc m) (suc k) s h g = λ i. cond (eqb (length s) 0) none (with_block (first_block s) (λ (n : ℕ).
    enough m k (drop (block_length n) s) (omega (arith, length-drop (block_length n) s)) (omega (arith, length-drop (block_length n) s)) i))

pub no_bytes : (s : List ℕ) → length s ≡ 0 → run_blocks s ≡ record { sizes = []; refused = 0 }
unfolding run_blocks blocks_in
no_bytes s e = rw e

run_step : (s : List ℕ) → 0 < length s → run_blocks s ≡ with_block (first_block s) (λ (n : ℕ). run_blocks (drop (block_length n) s))
unfolding run_blocks blocks_in
run_step s h =
    enough (length s) (suc (length s)) s (omega arith) (omega arith)
    ∙ rw (ne_eqb (length s) 0 (λ e. let w : ⊥ = omega arith in w)) (λ i. with_block (first_block s) (λ (n : ℕ).
    enough (length s) (length (drop (block_length n) s)) (drop (block_length n) s) (omega (arith, length-drop (block_length n) s)) (omega arith) i))

module _ (s : List ℕ) (h : 0 < length s) where
  -- A BLOCK THAT IS TAKEN, and the rest
  pub run_on : (n : ℕ) → first_block s ≡ answer n
      → run_blocks s ≡ record { sizes = n ∷ (run_blocks (drop (block_length n) s)).sizes; refused = (run_blocks (drop (block_length n) s)).refused }
  unfolding with_block
  run_on n e = run_step s h ∙ ap (λ (o : Outcome ℕ). with_block o (λ (m : ℕ). run_blocks (drop (block_length m) s))) e

  -- A BLOCK THAT IS REFUSED ends the run
  pub run_ends : (k : ℕ) → first_block s ≡ refusal k → run_blocks s ≡ record { sizes = []; refused = k }
  unfolding with_block
  run_ends k e = run_step s h ∙ ap (λ (o : Outcome ℕ). with_block o (λ (m : ℕ). run_blocks (drop (block_length m) s))) e

-- ---- THE BLOCKS are all there
fit_in : (m : ℕ) (s : List ℕ) → blocks_bytes (blocks_in m s).sizes ≤ length s
unfolding blocks_in blocks_bytes with_block
fit_in zero s = omega arith
fit_in (suc m) s = by (λ n. fit_in m (drop (block_length n) s)) (eqb (length s) 0)
  where
    with_first : ((n : ℕ) → blocks_bytes (blocks_in m (drop (block_length n) s)).sizes ≤ length (drop (block_length n) s)) → (o : Outcome ℕ) → first_block s ≡ o
        → blocks_bytes (with_block o (λ (n : ℕ). blocks_in m (drop (block_length n) s))).sizes ≤ length s
    with_first rest (answer n) e =
        let f = first_taken s n e in
        omega (arith, f.1, rest n, length-drop (block_length n) s)
    with_first rest (refusal k) e = omega arith

    by : ((n : ℕ) → blocks_bytes (blocks_in m (drop (block_length n) s)).sizes ≤ length (drop (block_length n) s)) → (b : Bool)
        → blocks_bytes (cond b none (with_block (first_block s) (λ (n : ℕ). blocks_in m (drop (block_length n) s)))).sizes ≤ length s
    by rest true = omega arith
    by rest false = with_first rest (first_block s) refl

pub blocks_fit : (s : List ℕ) → blocks_bytes (run_blocks s).sizes ≤ length s
unfolding run_blocks
blocks_fit s = fit_in (length s) s

pub stamps-fit : (ns : List ℕ) → 16 * stamps_of ns + 8 * length ns ≡ blocks_bytes ns
unfolding stamps_of blocks_bytes
stamps-fit [] = refl
stamps-fit (n ∷ ns) = omega (arith, stamps-fit ns)

-- ---- how large a run is, in steps: so much came before the place `at`
unfoldable pub size_after : ℕ → ℕ → ℕ → Blocks → RunSize
size_after stamps blocks at b = record {
  stamps = stamps + stamps_of b.sizes;
  blocks = blocks + length b.sizes;
  bytes = at + blocks_bytes b.sizes;
  refused = b.refused;
}

pub record Counted (s : List ℕ) (at stamps blocks : ℕ) : Type 0 where
  pub high : at ≤ length s
  pub many : 16 * stamps + 8 * blocks ≤ at
  pub all : size_after stamps blocks at (run_blocks (drop at s)) ≡ size_of (run_blocks s)

pub none-counted : (s : List ℕ) → Counted s 0 0 0
unfolding size_after size_of
none-counted s = record {
  high = omega arith;
  many = omega arith;
  all = λ i. record {
    stamps = zero_is (stamps_of (run_blocks s).sizes) i;
    blocks = zero_is (length (run_blocks s).sizes) i;
    bytes = zero_is (blocks_bytes (run_blocks s).sizes) i;
    refused = (run_blocks s).refused;
  };
}
  where
    zero_is : (n : ℕ) → 0 + n ≡ n
    zero_is n = omega arith

module _ (s : List ℕ) (at stamps blocks : ℕ) (c : Counted s at stamps blocks) where
  pub counted-end : at ≡ length s → record { stamps = stamps; blocks = blocks; bytes = at; refused = 0 } ≡ size_of (run_blocks s)
  unfolding size_after stamps_of blocks_bytes
  counted-end e =
      plain 0 ∙ sym (ap (size_after stamps blocks at) (no_bytes (drop at s) (let z : length (drop at s) ≡ 0 = omega (arith, length-drop at s) in z))) ∙ c.all
    where
      plain : (k : ℕ) → ◌≡◌ {A = RunSize} (record { stamps = stamps; blocks = blocks; bytes = at; refused = k })
          (size_after stamps blocks at (record { sizes = []; refused = k }))
      plain k = λ i. record { stamps = more stamps i; blocks = more blocks i; bytes = more at i; refused = k }
        where
          more : (n : ℕ) → n ≡ n + 0
          more n = omega arith

  module _ (h : at < length s) where
    left : 0 < length (drop at s)
    left = omega (arith, length-drop at s)

    pub counted-refused : (k : ℕ) → first_block (drop at s) ≡ refusal k
        → record { stamps = stamps; blocks = blocks; bytes = at; refused = k } ≡ size_of (run_blocks s)
    unfolding size_after stamps_of blocks_bytes
    counted-refused k e = plain ∙ sym (ap (size_after stamps blocks at) (run_ends (drop at s) left k e)) ∙ c.all
      where
        more : (n : ℕ) → n ≡ n + 0
        more n = omega arith

        plain : ◌≡◌ {A = RunSize} (record { stamps = stamps; blocks = blocks; bytes = at; refused = k })
            (size_after stamps blocks at (record { sizes = []; refused = k }))
        plain = λ i. record { stamps = more stamps i; blocks = more blocks i; bytes = more at i; refused = k }

    pub counted-fits : (n : ℕ) → first_block (drop at s) ≡ answer n → (n ≤ 4000) × (at + (8 + 16 * n) ≤ length s)
    counted-fits n e =
        let f = first_taken (drop at s) n e in
        let g : at + (8 + 16 * n) ≤ length s = omega (arith, f.1, length-drop at s) in
        (f.0, g)

    pub counted-on : (n : ℕ) → first_block (drop at s) ≡ answer n → Counted s (at + (8 + 16 * n)) (stamps + n) (blocks + 1)
    unfolding size_after stamps_of blocks_bytes
    counted-on n e = record {
      high = (counted-fits n e).1;
      many = omega (arith, c.many);
      all = ap (λ (l : List ℕ). size_after (stamps + n) (blocks + 1) (at + (8 + 16 * n)) (run_blocks l)) (sym (drop-drop (block_length n) at s))
          ∙ grouped (run_blocks (drop (block_length n) (drop at s)))
          ∙ sym (ap (size_after stamps blocks at) (run_on (drop at s) left n e)) ∙ c.all;
    }
      where
        add : (a b m : ℕ) → (a + b) + m ≡ a + (b + m)
        add a b m = omega arith

        one : (m : ℕ) → (blocks + 1) + m ≡ blocks + suc m
        one m = omega arith

        grouped : (b : Blocks) → size_after (stamps + n) (blocks + 1) (at + (8 + 16 * n)) b
            ≡ size_after stamps blocks at (record { sizes = n ∷ b.sizes; refused = b.refused })
        grouped b = λ i. record {
          stamps = add stamps n (stamps_of b.sizes) i;
          blocks = one (length b.sizes) i;
          bytes = add at (8 + 16 * n) (blocks_bytes b.sizes) i;
          refused = b.refused;
        }
