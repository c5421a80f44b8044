-- STAMPS THAT ARE JOINED: a run over the parts of two runs, one behind the other, is the one run and then the other. The stamp at place i reads the bytes
-- from 8 i
-- on of its parts and no other, and its date is written there. Assumes nothing.
use Rattle.std.proofs.Common.{◌≡◌, ℕ, zero, suc, ◌+◌, ◌*◌, ◌<◌, ◌≤◌, cond, eqb, List, [], ◌∷◌, ◌++◌, length, get_or, set, replicate, sym, refl, ap, ◌∙◌}
use Rattle.std.proofs.Common.{suc-add, zero-add, arith, length-append, length-set, get_or-append-add, ext_get_or}
use lib.ListN.{length-replicate, get_or-append}
use lib.Seq.{sets, set-append_left}
use lib.Ieee.{Float, binary64, to_bits}
use Rattle.refusals.specs.Outcome.{Outcome, answer, refusal}
use Rattle.numerals.specs.little_endian.LittleEndian.{u64_at, eight_bytes}
use Rattle.julian.specs.declared.JulianDate.{JulianDate}
use Rattle.julian.specs.stamp_lists.Stamps.{stamp_of}
use Rattle.leap_table.specs.rows.Table.{Row}
use Rattle.runs.specs.by_formula.Run.{RunCall, run_call, run_written, with_part, with_parts, with_numbers, refused_among, number_byte, first_part, second_part}
use Rattle.runs.specs.Run.{stamp_answer}
use Rattle.runs.specs.ways.Ways.{way_of}
use Rattle.runs.proofs.by_formula.Puts.{parts-length, numbers-length}
use Rattle.runs.proofs.laws.Bytes.{number-at}
use Rattle.line_listing.proofs.lines.Pages.{eight_same}

-- ---- a store in a front part, and in what lies behind it
set_behind : (a b : List ℕ) (i v : ℕ) → set (a ++ b) (length a + i) v ≡ a ++ set b i v
set_behind [] b i v = ap (λ (k : ℕ). set b k v) (zero-add i)
set_behind (x ∷ a) b i v = ap (λ (k : ℕ). set (x ∷ (a ++ b)) k v) (suc-add (length a) i) ∙ ap (λ (r : List ℕ). x ∷ r) (set_behind a b i v)

sets_front : (vs a b : List ℕ) (i : ℕ) → i + length vs ≤ length a → sets (a ++ b) i vs ≡ sets a i vs ++ b
sets_front [] a b i h = refl
sets_front (v ∷ vs) a b i h =
    ap (λ (l : List ℕ). sets l (suc i) vs) (set-append_left a b i v (omega arith))
    ∙ sets_front vs (set a i v) b (suc i) (omega (arith, length-set a i v))

sets_behind : (vs a b : List ℕ) (i : ℕ) → sets (a ++ b) (length a + i) vs ≡ a ++ sets b i vs
sets_behind [] a b i = refl
sets_behind (v ∷ vs) a b i =
    ap (λ (l : List ℕ). sets l (suc (length a + i)) vs) (set_behind a b i v)
    ∙ ap (λ (k : ℕ). sets (a ++ set b i v) k vs) (let e : suc (length a + i) ≡ length a + suc i = omega arith in e)
    ∙ sets_behind vs a (set b i v) (suc i)

-- ---- the dates of n stamps and of m behind them
module _ (part : JulianDate → Float) where
  part-front : (o : Outcome JulianDate) (i : ℕ) (a b : List ℕ) → 8 * i + 8 ≤ length a → with_part part o i (a ++ b) ≡ with_part part o i a ++ b
  unfolding with_part
  part-front (answer d) i a b h = sets_front (eight_bytes (to_bits binary64 (part d))) a b (8 * i) h
  part-front (refusal k) i a b h = refl

  part-behind : (o : Outcome JulianDate) (n i : ℕ) (a b : List ℕ) → length a ≡ 8 * n → with_part part o (n + i) (a ++ b) ≡ a ++ with_part part o i b
  unfolding with_part
  part-behind (answer d) n i a b e =
      ap (λ (k : ℕ). sets (a ++ b) k (eight_bytes (to_bits binary64 (part d)))) (let q : 8 * (n + i) ≡ length a + 8 * i = omega arith in q)
      ∙ sets_behind (eight_bytes (to_bits binary64 (part d))) a b (8 * i)
  part-behind (refusal k) n i a b e = refl

  parts-front : (f g : ℕ → Outcome JulianDate) (n : ℕ) (a b : List ℕ) → ((i : ℕ) → i < n → f i ≡ g i) → 8 * n ≤ length a
      → with_parts part f n (a ++ b) ≡ with_parts part g n a ++ b
  unfolding with_parts
  parts-front f g zero a b same h = refl
  parts-front f g (suc n) a b same h =
      ap (with_part part (f n) n) (parts-front f g n a b (λ i q. same i (omega arith)) (omega arith))
      ∙ part-front (f n) n (with_parts part g n a) b (omega (arith, parts-length part g n a))
      ∙ ap (λ (o : Outcome JulianDate). with_part part o n (with_parts part g n a) ++ b) (same n (omega arith))

  pub parts-joined : (f g h : ℕ → Outcome JulianDate) (n m : ℕ) (a b : List ℕ) → ((i : ℕ) → i < n → f i ≡ g i) → ((i : ℕ) → i < m → f (n + i) ≡ h i)
      → length a ≡ 8 * n → with_parts part f (n + m) (a ++ b) ≡ with_parts part g n a ++ with_parts part h m b
  unfolding with_parts
  parts-joined f g h n zero a b front back e =
      ap (λ (k : ℕ). with_parts part f k (a ++ b)) (let q : n + 0 ≡ n = omega arith in q) ∙ parts-front f g n a b front (omega arith)
  parts-joined f g h n (suc m) a b front back e =
      ap (λ (k : ℕ). with_parts part f k (a ++ b)) (let q : n + suc m ≡ suc (n + m) = omega arith in q)
      ∙ ap (with_part part (f (n + m)) (n + m)) (parts-joined f g h n m a b front (λ i q. back i (omega arith)) e)
      ∙ part-behind (f (n + m)) n m (with_parts part g n a) (with_parts part h m b) (parts-length part g n a ∙ e)
      ∙ ap (λ (o : Outcome JulianDate). with_parts part g n a ++ with_part part o m (with_parts part h m b)) (back m (omega arith))

-- ---- their numbers, and how many are refused
module _ (f g h : ℕ → Outcome JulianDate) (n : ℕ) (front : (i : ℕ) → i < n → f i ≡ g i) where
  numbers-front : (k : ℕ) (a b : List ℕ) → k ≤ n → n ≤ length a → with_numbers f k (a ++ b) ≡ with_numbers g k a ++ b
  unfolding with_numbers
  numbers-front zero a b q r = refl
  numbers-front (suc k) a b q r =
      ap (λ (l : List ℕ). set l k (number_byte (f k))) (numbers-front k a b (omega arith) r)
      ∙ set-append_left (with_numbers g k a) b k (number_byte (f k)) (omega (arith, numbers-length g k a))
      ∙ ap (λ (o : Outcome JulianDate). set (with_numbers g k a) k (number_byte o) ++ b) (front k (omega arith))

  pub numbers-joined : (m : ℕ) (a b : List ℕ) → ((i : ℕ) → i < m → f (n + i) ≡ h i) → length a ≡ n
      → with_numbers f (n + m) (a ++ b) ≡ with_numbers g n a ++ with_numbers h m b
  unfolding with_numbers
  numbers-joined zero a b back e =
      ap (λ (k : ℕ). with_numbers f k (a ++ b)) (let q : n + 0 ≡ n = omega arith in q) ∙ numbers-front n a b (omega arith) (omega arith)
  numbers-joined (suc m) a b back e =
      ap (λ (k : ℕ). with_numbers f k (a ++ b)) (let q : n + suc m ≡ suc (n + m) = omega arith in q)
      ∙ ap (λ (l : List ℕ). set l (n + m) (number_byte (f (n + m)))) (numbers-joined m a b (λ i q. back i (omega arith)) e)
      ∙ ap (λ (k : ℕ). set (with_numbers g n a ++ with_numbers h m b) k (number_byte (f (n + m))))
      (let q : n + m ≡ length (with_numbers g n a) + m = omega (arith, numbers-length g n a) in q)
      ∙ set_behind (with_numbers g n a) (with_numbers h m b) m (number_byte (f (n + m)))
      ∙ ap (λ (o : Outcome JulianDate). with_numbers g n a ++ set (with_numbers h m b) m (number_byte o)) (back m (omega arith))

  refused-front : (k : ℕ) → k ≤ n → refused_among f k ≡ refused_among g k
  unfolding refused_among
  refused-front zero q = refl
  refused-front (suc k) q =
      λ i. refused-front k (omega arith) i + cond (eqb (number_byte (front k (omega arith) i)) 0) 0 1

  pub refused-joined : (m : ℕ) → ((i : ℕ) → i < m → f (n + i) ≡ h i) → refused_among f (n + m) ≡ refused_among g n + refused_among h m
  unfolding refused_among
  refused-joined zero back =
      ap (refused_among f) (let q : n + 0 ≡ n = omega arith in q) ∙ refused-front n (omega arith)
      ∙ (let q : refused_among g n ≡ refused_among g n + 0 = omega arith in q)
  refused-joined (suc m) back =
      let e = refused-joined m (λ i q. back i (omega arith)) in
      ap (refused_among f) (let q : n + suc m ≡ suc (n + m) = omega arith in q)
      ∙ ap (λ (o : Outcome JulianDate). refused_among f (n + m) + cond (eqb (number_byte o) 0) 0 1) (back m (omega arith))
      ∙ (let q : refused_among f (n + m) + cond (eqb (number_byte (h m)) 0) 0 1 ≡ refused_among g n + (refused_among h m + cond (eqb (number_byte (h m)) 0) 0 1)
      = omega (arith, e) in q)

-- ---- what stood in the numbers does not matter
pub numbers-anew : (f : ℕ → Outcome JulianDate) (n : ℕ) (l k : List ℕ) → length l ≡ n → length k ≡ n → with_numbers f n l ≡ with_numbers f n k
numbers-anew f n l k e g = ext_get_or 0 (with_numbers f n l) (with_numbers f n k) (numbers-length f n l ∙ e ∙ sym (numbers-length f n k ∙ g))
    (λ i h. number-at f l n i (below i h) (omega arith) ∙ sym (number-at f k n i (below i h) (omega arith)))
  where
    below : (i : ℕ) → i < length (with_numbers f n l) → i < n
    below i h = omega (arith, numbers-length f n l)

-- ---- THE STAMP at a place of the front, and of what lies behind it
module _ (js ks js' ks' : List ℕ) (n : ℕ) (e1 : length js ≡ 8 * n) (e2 : length ks ≡ 8 * n) where
  u64_front : (a b : List ℕ) (i : ℕ) → length a ≡ 8 * n → i < n → u64_at (a ++ b) (8 * i) ≡ u64_at a (8 * i)
  u64_front a b i e h = eight_same (a ++ b) a (8 * i) (8 * i) (omega (arith, length-append a b)) (omega arith)
      (λ k q. get_or-append a b 0 (8 * i + k) (omega arith))

  u64_behind : (a b : List ℕ) (i : ℕ) → length a ≡ 8 * n → 8 * i + 8 ≤ length b → u64_at (a ++ b) (8 * (n + i)) ≡ u64_at b (8 * i)
  u64_behind a b i e h = eight_same (a ++ b) b (8 * (n + i)) (8 * i) (omega (arith, length-append a b)) h
      (λ k q. ap (λ (j : ℕ). get_or (a ++ b) j 0) (let r : 8 * (n + i) + k ≡ length a + (8 * i + k) = omega arith in r) ∙ get_or-append-add a b (8 * i + k) 0)

  pub stamp-front : (i : ℕ) → i < n → stamp_of (js ++ js') (ks ++ ks') i ≡ stamp_of js ks i
  unfolding stamp_of
  stamp-front i h = rw (u64_front js js' i e1 h, u64_front ks ks' i e2 h)

  pub stamp-behind : (i : ℕ) → 8 * i + 8 ≤ length js' → 8 * i + 8 ≤ length ks' → stamp_of (js ++ js') (ks ++ ks') (n + i) ≡ stamp_of js' ks' i
  unfolding stamp_of
  stamp-behind i h h' = rw (u64_behind js js' i e1 h, u64_behind ks ks' i e2 h')

-- ---- one run behind the other
abbrev pub joined : ℕ → RunCall → ℕ → RunCall → RunCall
joined r c q d = run_call (answer (r + q)) (c.out1 ++ d.out1) (c.out2 ++ d.out2) (c.numbers ++ d.numbers)

-- THE RUN of the parts of n stamps and of m behind them, written over themselves
pub runs-joined : (rows : List Row) (from to n m : ℕ) (js ks js' ks' : List ℕ) → length js ≡ 8 * n → length ks ≡ 8 * n → length js' ≡ 8 * m → length ks' ≡ 8
    * m
    → run_written (stamp_answer rows from to (js ++ js') (ks ++ ks')) (n + m) (js ++ js') (ks ++ ks') (replicate n 0 ++ replicate m 0)
    ≡ joined (refused_among (stamp_answer rows from to js ks) n) (run_written (stamp_answer rows from to js ks) n js ks (replicate n 0))
    (refused_among (stamp_answer rows from to js' ks') m) (run_written (stamp_answer rows from to js' ks') m js' ks' (replicate m 0))
unfolding run_written
runs-joined rows from to n m js ks js' ks' e1 e2 e3 e4 = λ i. run_call
    (answer (refused-joined f g h n front m back i))
    (parts-joined first_part f g h n m js js' front back e1 i)
    (parts-joined second_part f g h n m ks ks' front back e2 i)
    (numbers-joined f g h n front m (replicate n 0) (replicate m 0) back (length-replicate n 0) i)
  where
    f : ℕ → Outcome JulianDate
    f = stamp_answer rows from to (js ++ js') (ks ++ ks')

    g : ℕ → Outcome JulianDate
    g = stamp_answer rows from to js ks

    h : ℕ → Outcome JulianDate
    h = stamp_answer rows from to js' ks'

    front : (i : ℕ) → i < n → f i ≡ g i
    front i q = ap (way_of rows from to) (stamp-front js ks js' ks' n e1 e2 i q)

    back : (i : ℕ) → i < m → f (n + i) ≡ h i
    back i q = ap (way_of rows from to) (stamp-behind js ks js' ks' n e1 e2 i (omega arith) (omega arith))
