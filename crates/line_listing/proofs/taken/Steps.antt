-- What is taken of a run, block by block: the stamps of one block, the blocks behind it, and the call as a whole. Assumes nothing.
use Rattle.std.proofs.Common.{◌≡◌, ℕ, ◌+◌, ◌-◌, ◌*◌, ◌/◌, ◌<◌, ◌≤◌, Bool, true, false, cond, ◌&&◌, eqb, leb, List, [], ◌∷◌, ◌++◌, length, take, drop}
use Rattle.std.proofs.Common.{replicate, sym, refl, ap, ◌∙◌, subst, append_assoc, append-nil, arith, length-append, length-drop, take-append-drop}
use Rattle.std.proofs.Common.{drop_of_length-le, length-take-le, drop-drop, take_at, drop_at, ne_eqb, leb-true}
use lib.ListN.{length-replicate, replicate-append-replicate}
use lib.Seq.{slice, length-slice, take-length}
use borrow.Rule.Slice.PartMut.{put_mid, same_len_mid, mid_len}
use Rattle.std.specs.Prelude.{Result, Ok, Err}
use Rattle.std.specs.Result.{result_unwrap_or}
use Rattle.refusals.specs.declared.Refusal.{Refusal}
use Rattle.refusals.specs.Refusal.{refusal_number}
use Rattle.refusals.specs.Outcome.{Outcome, answer, refusal, outcome, number_said}
use Rattle.refusals.proofs.Handed.{number_low}
use Rattle.constants.specs.scale_numbers.Scales.{TAI}
use Rattle.leap_table.specs.rows.Table.{Row}
use Rattle.runs.specs.by_formula.Run.{RunCall, run_call, run_written, refused_among, first_part, second_part, with_parts, with_numbers}
use Rattle.runs.specs.ways.Ways.{is_run_scale}
use Rattle.runs.specs.Run.{stamp_answer, run_refusal, run_by}
use Rattle.runs.proofs.Calls.{none-refused, run-count}
use Rattle.runs.proofs.by_formula.Puts.{parts-length, numbers-length, at_most}
use Rattle.line_listing.specs.declared.taken.RunSize.{RunSize}
use Rattle.line_listing.specs.taken.Run.{Blocks, block_length, first_block, run_blocks, stamps_of, blocks_bytes, first_parts, second_parts, taken_run}
use Rattle.line_listing.specs.taken.Call.{size_of, take_refusal, taken_written, taken_by, taken_call}
use Rattle.line_listing.specs.taken.Asked.{block_run, RunRoom}
use Rattle.line_listing.proofs.taken.Blocks.{slice_mid, no_bytes, run_on, run_ends, blocks_fit, stamps-fit, first_taken}
use Rattle.line_listing.proofs.taken.Joined.{joined, runs-joined, numbers-anew}

-- ---- how long the parts are
pub first-length : (ns s : List ℕ) → blocks_bytes ns ≤ length s → length (first_parts ns s) ≡ 8 * stamps_of ns
unfolding first_parts stamps_of blocks_bytes
first-length [] s h = refl
first-length (n ∷ ns) s h =
    let a : length (slice 8 (8 + 8 * n) s) ≡ 8 + 8 * n - 8 = length-slice 8 (8 + 8 * n) s (omega arith) in
    let b = first-length ns (drop (block_length n) s) (omega (arith, length-drop (block_length n) s)) in
    omega (arith, a, b, length-append (slice 8 (8 + 8 * n) s) (first_parts ns (drop (block_length n) s)))

pub second-length : (ns s : List ℕ) → blocks_bytes ns ≤ length s → length (second_parts ns s) ≡ 8 * stamps_of ns
unfolding second_parts stamps_of blocks_bytes
second-length [] s h = refl
second-length (n ∷ ns) s h =
    let a : length (slice (8 + 8 * n) (8 + 16 * n) s) ≡ 8 + 16 * n - (8 + 8 * n) = length-slice (8 + 8 * n) (8 + 16 * n) s (omega arith) in
    let b = second-length ns (drop (block_length n) s) (omega (arith, length-drop (block_length n) s)) in
    omega (arith, a, b, length-append (slice (8 + 8 * n) (8 + 16 * n) s) (second_parts ns (drop (block_length n) s)))

-- ---- a part that is copied into a list of its length
pub part-is : (f t : ℕ) (s : List ℕ) → f ≤ t → take (t - f) (drop f s) ≡ slice f t s
part-is f t s h = slice_mid f (t - f) s ∙ ap (λ (k : ℕ). slice f k s) (let q : f + (t - f) ≡ t = omega arith in q)

pub part-copied : (f t : ℕ) (s dst out : List ℕ) → f ≤ t → t ≤ length s → length dst ≡ t - f
    → out ≡ take (length (take (t - f) (drop f s))) (take (t - f) (drop f s)) ++ drop (length (take (t - f) (drop f s))) dst → out ≡ slice f t s
part-copied f t s dst out h g e c =
    let m : length (take (t - f) (drop f s)) ≡ t - f = length-take-le (t - f) (drop f s) (omega (arith, length-drop f s)) in
    c
    ∙ ap (λ (l : List ℕ). l ++ drop (length (take (t - f) (drop f s))) dst) (take-length (take (t - f) (drop f s)))
    ∙ ap (λ (l : List ℕ). take (t - f) (drop f s) ++ l) (drop_of_length-le dst (let w : length dst ≤ length (take (t - f) (drop f s)) = omega arith in w))
    ∙ append-nil (take (t - f) (drop f s))
    ∙ part-is f t s h

-- ---- a part that is put back
module _ (a e : ℕ) (l p : List ℕ) (h : a ≤ e) (g : e ≤ length l) (q : length p ≡ e - a) where
  front_length : length (take a l ++ p) ≡ e
  front_length = length-append (take a l) p ∙ (let w : length (take a l) + length p ≡ e = omega (arith, length-take-le a l (omega arith)) in w)

  pub put_front : take e (put_mid a (e - a) l p) ≡ take a l ++ p
  put_front = ap (take e) (sym (append_assoc (take a l) p (drop (e - a) (drop a l)))) ∙ take_at (take a l ++ p) (drop (e - a) (drop a l)) e front_length

  pub put_rest : drop e (put_mid a (e - a) l p) ≡ drop e l
  put_rest =
      ap (drop e) (sym (append_assoc (take a l) p (drop (e - a) (drop a l))))
      ∙ drop_at (take a l ++ p) (drop (e - a) (drop a l)) e front_length
      ∙ drop-drop (e - a) a l ∙ ap (λ (k : ℕ). drop k l) (let w : a + (e - a) ≡ e = omega arith in w)

  pub put-length : length (put_mid a (e - a) l p) ≡ length l
  put-length = same_len_mid a (e - a) l p (q ∙ sym (mid_len a e l g))

-- how many an answer counts
unfoldable pub count_of : Outcome ℕ → ℕ
count_of (answer n) = n
count_of (refusal k) = 0

-- what came before, and a run behind it
abbrev pub before : ℕ → List ℕ → List ℕ → List ℕ → RunCall → RunCall
before r o1 o2 ns c = run_call (answer (r + count_of c.answer)) (o1 ++ c.out1) (o2 ++ c.out2) (ns ++ c.numbers)

pub before-twice : (r q : ℕ) (o1 o2 ns p1 p2 ps : List ℕ) (c : RunCall) → before r o1 o2 ns (before q p1 p2 ps c) ≡ before (r + q) (o1 ++ p1) (o2 ++ p2)
    (ns ++ ps) c
unfolding count_of
before-twice r q o1 o2 ns p1 p2 ps c = λ i. run_call (answer (add (count_of c.answer) i)) (sym (append_assoc o1 p1 c.out1) i)
    (sym (append_assoc o2 p2 c.out2) i) (sym (append_assoc ns ps c.numbers) i)
  where
    add : (m : ℕ) → r + (q + m) ≡ (r + q) + m
    add m = omega arith

-- ---- so far the blocks before the place `at` are taken
pub record TakenTo (rows : List Row) (scale : ℕ) (s o1₀ o2₀ ns₀ : List ℕ) (at place refused : ℕ) (o1 o2 ns : List ℕ) : Type 0 where
  pub high : at ≤ length s
  pub few : refused ≤ place
  pub count : stamps_of (run_blocks s).sizes ≡ place + stamps_of (run_blocks (drop at s)).sizes
  pub all : taken_run rows scale (run_blocks s).sizes s ≡ before refused (take (8 * place) o1) (take (8 * place) o2) (take place ns)
      (taken_run rows scale (run_blocks (drop at s)).sizes (drop at s))
  pub spare1 : drop (8 * place) o1 ≡ drop (8 * place) o1₀
  pub spare2 : drop (8 * place) o2 ≡ drop (8 * place) o2₀
  pub spare3 : drop place ns ≡ drop place ns₀
  pub len1 : length o1 ≡ length o1₀
  pub len2 : length o2 ≡ length o2₀
  pub len3 : length ns ≡ length ns₀

-- a block of n stamps at the place `at` is there, and there is room for its stamps
pub record StepFits (s o1 o2 ns : List ℕ) (at place n : ℕ) : Type 0 where
  pub few : n ≤ 4000
  pub there : at + (8 + 16 * n) ≤ length s
  pub places1 : 8 * place + 8 * n ≤ length o1
  pub places2 : 8 * place + 8 * n ≤ length o2
  pub bytes : place + n ≤ length ns

module _ (rows : List Row) (scale : ℕ) (known : is_run_scale scale ≡ true) where
  -- ---- a run whose lengths fit is answered
  tai-known : is_run_scale TAI ≡ true
  unfolding is_run_scale
  tai-known = refl

  answered : (n : ℕ) (js ks numbers : List ℕ) → length js ≡ 8 * n → length ks ≡ 8 * n → length numbers ≡ n
      → run_by rows scale TAI js ks js ks numbers ≡ run_written (stamp_answer rows scale TAI js ks) n js ks numbers
  unfolding run_by
  answered n js ks numbers e1 e2 e3 =
      let z = none-refused scale TAI (length js) (length ks) (length js) (length ks) (length numbers) known tai-known (omega arith) (omega arith)
      (omega arith) (omega arith) (omega arith) (omega arith) in
      let q : length js / 8 ≡ n = omega arith in
      rw (← z) (ap (λ (k : ℕ). run_written (stamp_answer rows scale TAI js ks) k js ks numbers) q)

  module _ (n : ℕ) (s : List ℕ) (there : block_length n ≤ length s) where
    abbrev js : List ℕ
    js = slice 8 (8 + 8 * n) s

    abbrev ks : List ℕ
    ks = slice (8 + 8 * n) (8 + 16 * n) s

    pub js_length : length (slice 8 (8 + 8 * n) s) ≡ 8 * n
    js_length = length-slice 8 (8 + 8 * n) s (omega arith) ∙ (let q : 8 + 8 * n - 8 ≡ 8 * n = omega arith in q)

    pub ks_length : length (slice (8 + 8 * n) (8 + 16 * n) s) ≡ 8 * n
    ks_length = length-slice (8 + 8 * n) (8 + 16 * n) s (omega arith) ∙ (let q : 8 + 16 * n - (8 + 8 * n) ≡ 8 * n = omega arith in q)

    pub block_written : block_run rows scale n s ≡ run_written (stamp_answer rows scale TAI js ks) n js ks (replicate n 0)
    unfolding block_run
    block_written = answered n js ks (replicate n 0) js_length ks_length (length-replicate n 0)

    -- the block's stamps over themselves, whatever stood in the numbers
    module _ (j k o1 o2 numbers : List ℕ) (ej : j ≡ js) (ek : k ≡ ks) (e1 : o1 ≡ js) (e2 : o2 ≡ ks) (e3 : length numbers ≡ n) where
      block-over : run_by rows scale TAI j k o1 o2 numbers ≡ block_run rows scale n s
      unfolding run_written
      block-over =
          (λ i. run_by rows scale TAI (ej i) (ek i) (e1 i) (e2 i) numbers)
          ∙ answered n js ks numbers js_length ks_length e3
          ∙ ap (λ (l : List ℕ). run_call (answer (refused_among (stamp_answer rows scale TAI js ks) n))
          (with_parts first_part (stamp_answer rows scale TAI js ks) n js) (with_parts second_part (stamp_answer rows scale TAI js ks) n ks) l)
          (numbers-anew (stamp_answer rows scale TAI js ks) n numbers (replicate n 0) e3 (length-replicate n 0))
          ∙ sym block_written

      -- no block that is there is refused whole
      pub block-done : (r : Result ℕ Refusal) (o1' o2' numbers' : List ℕ) → run_call (outcome r) o1' o2' numbers' ≡ run_by rows scale TAI j k o1 o2 numbers
          → run_call (answer (result_unwrap_or r 0)) o1' o2' numbers' ≡ block_run rows scale n s
      unfolding outcome run_written
      block-done (Ok count) o1' o2' numbers' e = e ∙ block-over
      block-done (Err c) o1' o2' numbers' e =
          let q : refusal (refusal_number c) ≡ answer (refused_among (stamp_answer rows scale TAI js ks) n) =
          ap (λ (x : RunCall). x.answer) (e ∙ block-over ∙ block_written) in
          let z : ◌≡◌ {A = ℕ} 0 1 = cc q in
          let w : ⊥ = omega arith in absurd w

      pub block-never : (r : Result ℕ Refusal) (o1' o2' numbers' : List ℕ) → run_call (outcome r) o1' o2' numbers' ≡ run_by rows scale TAI j k o1 o2 numbers
          → (number : Refusal) → r ≡ Err number → ⊥
      unfolding outcome run_written
      block-never r o1' o2' numbers' e number g =
          let q : refusal (refusal_number number) ≡ answer (refused_among (stamp_answer rows scale TAI js ks) n) =
          ap (λ (x : RunCall). x.answer)
          (ap (λ (x : Result ℕ Refusal). run_call (outcome x) o1' o2' numbers') (sym g) ∙ e ∙ block-over ∙ block_written) in
          let z : ◌≡◌ {A = ℕ} 0 1 = cc q in omega arith

    -- what a block leaves is as long as what was lent
    pub left1 : (r : ℕ) (p1 p2 ps : List ℕ) → run_call (answer r) p1 p2 ps ≡ block_run rows scale n s → length p1 ≡ 8 * n
    unfolding run_written
    left1 r p1 p2 ps e = ap (λ (c : RunCall). length c.out1) (e ∙ block_written) ∙ parts-length first_part (stamp_answer rows scale TAI js ks) n js ∙
        js_length

    pub left2 : (r : ℕ) (p1 p2 ps : List ℕ) → run_call (answer r) p1 p2 ps ≡ block_run rows scale n s → length p2 ≡ 8 * n
    unfolding run_written
    left2 r p1 p2 ps e = ap (λ (c : RunCall). length c.out2) (e ∙ block_written) ∙ parts-length second_part (stamp_answer rows scale TAI js ks) n ks ∙
        ks_length

    pub left3 : (r : ℕ) (p1 p2 ps : List ℕ) → run_call (answer r) p1 p2 ps ≡ block_run rows scale n s → length ps ≡ n
    unfolding run_written
    left3 r p1 p2 ps e = ap (λ (c : RunCall). length c.numbers) (e ∙ block_written) ∙ numbers-length (stamp_answer rows scale TAI js ks) n (replicate n 0)
        ∙ length-replicate n 0

    pub few-refused : (r : ℕ) (p1 p2 ps : List ℕ) → run_call (answer r) p1 p2 ps ≡ block_run rows scale n s → r ≤ n
    unfolding run_written count_of
    few-refused r p1 p2 ps e =
        let q : r ≡ refused_among (stamp_answer rows scale TAI js ks) n = ap (λ (c : RunCall). count_of c.answer) (e ∙ block_written) in
        omega (arith, q, at_most (stamp_answer rows scale TAI js ks) n)

  -- ---- THE RUN is answered, and a block more is the block and then the rest
  pub taken-written : (ns s : List ℕ) → blocks_bytes ns ≤ length s → taken_run rows scale ns s ≡ run_written
      (stamp_answer rows scale TAI (first_parts ns s) (second_parts ns s)) (stamps_of ns) (first_parts ns s) (second_parts ns s) (replicate (stamps_of ns) 0)
  unfolding taken_run
  taken-written ns s h =
      answered (stamps_of ns) (first_parts ns s) (second_parts ns s) (replicate (stamps_of ns) 0) (first-length ns s h) (second-length ns s h)
      (length-replicate (stamps_of ns) 0)

  pub none-taken : (s : List ℕ) → taken_run rows scale [] s ≡ run_call (answer 0) [] [] []
  unfolding run_written first_parts second_parts stamps_of blocks_bytes refused_among with_parts with_numbers
  none-taken s = taken-written [] s (nothing s)
    where
      nothing : (s : List ℕ) → blocks_bytes [] ≤ length s
      nothing s = omega arith

  pub taken_step : (n : ℕ) (ns s : List ℕ) → blocks_bytes (n ∷ ns) ≤ length s → (r : ℕ) (p1 p2 ps : List ℕ)
      → run_call (answer r) p1 p2 ps ≡ block_run rows scale n s
      → taken_run rows scale (n ∷ ns) s ≡ before r p1 p2 ps (taken_run rows scale ns (drop (block_length n) s))
  unfolding blocks_bytes stamps_of first_parts second_parts run_written count_of
  taken_step n ns s h r p1 p2 ps e =
      let there : block_length n ≤ length s = omega arith in
      let rest : blocks_bytes ns ≤ length (drop (block_length n) s) = omega (arith, length-drop (block_length n) s) in
      taken-written (n ∷ ns) s h
      ∙ ap (λ (l : List ℕ). run_written (stamp_answer rows scale TAI (js n s there ++ js') (ks n s there ++ ks')) (n + stamps_of ns) (js n s there ++ js')
      (ks n s there ++ ks') l)
      (sym (replicate-append-replicate n (stamps_of ns) 0))
      ∙ runs-joined rows scale TAI n (stamps_of ns) (js n s there) (ks n s there) js' ks' (js_length n s there) (ks_length n s there)
      (first-length ns (drop (block_length n) s) rest) (second-length ns (drop (block_length n) s) rest)
      ∙ (λ i. joined_with (sym (e ∙ block_written n s there) i) (sym (taken-written ns (drop (block_length n) s) rest) i))
    where
      js' : List ℕ
      js' = first_parts ns (drop (block_length n) s)

      ks' : List ℕ
      ks' = second_parts ns (drop (block_length n) s)

      joined_with : RunCall → RunCall → RunCall
      joined_with c d = joined (count_of c.answer) c (count_of d.answer) d

  pub taken_none : (s o1 o2 ns : List ℕ) → TakenTo rows scale s o1 o2 ns 0 0 0 o1 o2 ns
  unfolding count_of run_written
  taken_none s o1 o2 ns = record {
    high = omega arith;
    few = omega arith;
    count = omega arith;
    all = w ∙ (λ i. run_call (answer (zero_more i)) (sym w i).out1 (sym w i).out2 (sym w i).numbers) ∙ (λ i. run_call (answer (0 + count_of (sym w i
        ).answer))
        (taken_run rows scale (run_blocks s).sizes s).out1 (taken_run rows scale (run_blocks s).sizes s).out2
        (taken_run rows scale (run_blocks s).sizes s).numbers);
    spare1 = refl;
    spare2 = refl;
    spare3 = refl;
    len1 = refl;
    len2 = refl;
    len3 = refl;
  }
    where
      w : taken_run rows scale (run_blocks s).sizes s ≡ run_written
          (stamp_answer rows scale TAI (first_parts (run_blocks s).sizes s) (second_parts (run_blocks s).sizes s)) (stamps_of (run_blocks s).sizes)
          (first_parts (run_blocks s).sizes s) (second_parts (run_blocks s).sizes s) (replicate (stamps_of (run_blocks s).sizes) 0)
      w = taken-written (run_blocks s).sizes s (blocks_fit s)

      zero_more : refused_among (stamp_answer rows scale TAI (first_parts (run_blocks s).sizes s) (second_parts (run_blocks s).sizes s))
          (stamps_of (run_blocks s).sizes) ≡ 0 + refused_among
          (stamp_answer rows scale TAI (first_parts (run_blocks s).sizes s) (second_parts (run_blocks s).sizes s)) (stamps_of (run_blocks s).sizes)
      zero_more = omega arith

  module _ (s o1₀ o2₀ ns₀ : List ℕ) (at place refused : ℕ) (o1 o2 ns : List ℕ) (t : TakenTo rows scale s o1₀ o2₀ ns₀ at place refused o1 o2 ns) where
    -- nothing is left
    taken-end : (run_blocks (drop at s)).sizes ≡ [] → run_call (answer refused) o1 o2 ns ≡ taken_written (stamps_of (run_blocks s).sizes)
        (taken_run rows scale (run_blocks s).sizes s) o1₀ o2₀ ns₀
    unfolding count_of stamps_of
    taken-end z = (λ i. run_call (answer (more i)) (whole (8 * place) (8 * many) o1 o1₀ (same8 many) t.spare1 i)
        (whole (8 * place) (8 * many) o2 o2₀ (same8 many) t.spare2 i) (whole place many ns ns₀ same t.spare3 i))
        ∙ (λ i. taken_written many (sym left i) o1₀ o2₀ ns₀)
      where
        many : ℕ
        many = stamps_of (run_blocks s).sizes

        left : taken_run rows scale (run_blocks s).sizes s ≡ run_call (answer (refused + 0)) (take (8 * place) o1 ++ []) (take (8 * place) o2 ++ [])
            (take place ns ++ [])
        left = t.all ∙ ap (λ (l : List ℕ). before refused (take (8 * place) o1) (take (8 * place) o2) (take place ns) (taken_run rows scale l (drop at s))) z
            ∙ ap (before refused (take (8 * place) o1) (take (8 * place) o2) (take place ns)) (none-taken (drop at s))

        more : refused ≡ refused + 0
        more = omega arith

        same : place ≡ many
        same = (let w : place ≡ place + 0 = omega arith in w) ∙ ap (λ (l : List ℕ). place + stamps_of l) (sym z) ∙ sym t.count

        same8 : (m : ℕ) → 8 * place ≡ 8 * many
        same8 m = ap (λ (k : ℕ). 8 * k) same

        whole : (k m : ℕ) (l l₀ : List ℕ) → k ≡ m → drop k l ≡ drop k l₀ → l ≡ (take k l ++ []) ++ drop m l₀
        whole k m l l₀ e d = sym (take-append-drop k l) ∙ ap (λ (x : List ℕ). take k l ++ x) (d ∙ ap (λ (j : ℕ). drop j l₀) e)
            ∙ ap (λ (x : List ℕ). x ++ drop m l₀) (sym (append-nil (take k l)))

    pub taken-all : at ≡ length s → run_call (answer refused) o1 o2 ns ≡ taken_written (stamps_of (run_blocks s).sizes)
        (taken_run rows scale (run_blocks s).sizes s) o1₀ o2₀ ns₀
    taken-all e =
        let z : length (drop at s) ≡ 0 = omega (arith, length-drop at s) in
        taken-end (ap (λ (b : Blocks). b.sizes) (no_bytes (drop at s) z))

    module _ (h : at < length s) where
      some : 0 < length (drop at s)
      some = omega (arith, length-drop at s)

      pub taken_refused : (k : ℕ) → first_block (drop at s) ≡ refusal k → run_call (answer refused) o1 o2 ns ≡ taken_written (stamps_of (run_blocks s).sizes)
          (taken_run rows scale (run_blocks s).sizes s) o1₀ o2₀ ns₀
      taken_refused k e = taken-end (ap (λ (b : Blocks). b.sizes) (run_ends (drop at s) some k e))

      module _ (n : ℕ) (e : first_block (drop at s) ≡ answer n) (room : RunRoom scale s o1₀ o2₀ ns₀) where
        abbrev rest : List ℕ
        rest = drop (block_length n) (drop at s)

        on : (run_blocks (drop at s)).sizes ≡ n ∷ (run_blocks rest).sizes
        on = ap (λ (b : Blocks). b.sizes) (run_on (drop at s) some n e)

        pub counts : stamps_of (run_blocks s).sizes ≡ place + (n + stamps_of (run_blocks rest).sizes)
        unfolding stamps_of
        counts = t.count ∙ ap (λ (l : List ℕ). place + stamps_of l) on

        pub fits : (n ≤ 4000) × (at + (8 + 16 * n) ≤ length s)
        fits =
            let f = first_taken (drop at s) n e in
            let g : at + (8 + 16 * n) ≤ length s = omega (arith, f.1, length-drop at s) in
            (f.0, g)

        there : block_length n ≤ length (drop at s)
        there = (first_taken (drop at s) n e).1

        pub fits1 : 8 * place + 8 * n ≤ length o1
        fits1 = omega (arith, counts, room.places1, t.len1)

        pub fits2 : 8 * place + 8 * n ≤ length o2
        fits2 = omega (arith, counts, room.places2, t.len2)

        pub fits3 : place + n ≤ length ns
        fits3 = omega (arith, counts, room.bytes, t.len3)

        pub step_fits : StepFits s o1 o2 ns at place n
        step_fits = record { few = fits.0; there = fits.1; places1 = fits1; places2 = fits2; bytes = fits3 }

        module _ (r : ℕ) (p1 p2 ps : List ℕ) (b : run_call (answer r) p1 p2 ps ≡ block_run rows scale n (drop at s)) where
          pub taken-on : TakenTo rows scale s o1₀ o2₀ ns₀ (at + (8 + 16 * n)) (place + n) (refused + r) (put_mid (8 * place) (8 * place + 8 * n - 8 * place)
              o1 p1)
              (put_mid (8 * place) (8 * place + 8 * n - 8 * place) o2 p2) (put_mid place (place + n - place) ns ps)
          unfolding stamps_of
          taken-on = record {
            high = fits.1;
            few = omega (arith, t.few, few-refused n (drop at s) there r p1 p2 ps b);
            count = counts ∙ (let w : place + (n + stamps_of (run_blocks rest).sizes) ≡ (place + n) + stamps_of (run_blocks rest).sizes = omega arith in w)
                ∙ ap (λ (l : List ℕ). (place + n) + stamps_of (run_blocks l).sizes) (drop-drop (block_length n) at s);
            all = t.all
                ∙ ap (λ (l : List ℕ). before refused (take (8 * place) o1) (take (8 * place) o2) (take place ns) (taken_run rows scale l (drop at s))) on
                ∙ ap (before refused (take (8 * place) o1) (take (8 * place) o2) (take place ns))
                (taken_step n (run_blocks rest).sizes (drop at s) (subst (λ (l : List ℕ). blocks_bytes l ≤ length (drop at s)) on (blocks_fit (drop at s))) r p1
                p2 ps b)
                ∙ before-twice refused r (take (8 * place) o1) (take (8 * place) o2) (take place ns) p1 p2 ps (taken_run rows scale (run_blocks rest).sizes
                rest)
                ∙ (λ i. before (refused + r) (front1 i) (front2 i) (front3 i) (taken_run rows scale (run_blocks (drop-drop (block_length n) at s i)).sizes
                (drop-drop (block_length n) at s i)));
            spare1 = ap (λ (k : ℕ). drop k o1') eight ∙ put_rest (8 * place) (8 * place + 8 * n) o1 p1 (omega arith) fits1 q1 ∙ further8 o1 o1₀ t.spare1;
            spare2 = ap (λ (k : ℕ). drop k o2') eight ∙ put_rest (8 * place) (8 * place + 8 * n) o2 p2 (omega arith) fits2 q2 ∙ further8 o2 o2₀ t.spare2;
            spare3 = put_rest place (place + n) ns ps (omega arith) fits3 q3 ∙ further place n ns ns₀ t.spare3;
            len1 = put-length (8 * place) (8 * place + 8 * n) o1 p1 (omega arith) fits1 q1 ∙ t.len1;
            len2 = put-length (8 * place) (8 * place + 8 * n) o2 p2 (omega arith) fits2 q2 ∙ t.len2;
            len3 = put-length place (place + n) ns ps (omega arith) fits3 q3 ∙ t.len3;
          }
            where
              o1' : List ℕ
              o1' = put_mid (8 * place) (8 * place + 8 * n - 8 * place) o1 p1

              o2' : List ℕ
              o2' = put_mid (8 * place) (8 * place + 8 * n - 8 * place) o2 p2

              eight : 8 * (place + n) ≡ 8 * place + 8 * n
              eight = omega arith

              q1 : length p1 ≡ 8 * place + 8 * n - 8 * place
              q1 = omega (arith, left1 n (drop at s) there r p1 p2 ps b)

              q2 : length p2 ≡ 8 * place + 8 * n - 8 * place
              q2 = omega (arith, left2 n (drop at s) there r p1 p2 ps b)

              q3 : length ps ≡ place + n - place
              q3 = omega (arith, left3 n (drop at s) there r p1 p2 ps b)

              front1 : take (8 * place) o1 ++ p1 ≡ take (8 * (place + n)) o1'
              front1 = sym (ap (λ (k : ℕ). take k o1') eight ∙ put_front (8 * place) (8 * place + 8 * n) o1 p1 (omega arith) fits1 q1)

              front2 : take (8 * place) o2 ++ p2 ≡ take (8 * (place + n)) o2'
              front2 = sym (ap (λ (k : ℕ). take k o2') eight ∙ put_front (8 * place) (8 * place + 8 * n) o2 p2 (omega arith) fits2 q2)

              front3 : take place ns ++ ps ≡ take (place + n) (put_mid place (place + n - place) ns ps)
              front3 = sym (put_front place (place + n) ns ps (omega arith) fits3 q3)

              further : (k m : ℕ) (l l₀ : List ℕ) → drop k l ≡ drop k l₀ → drop (k + m) l ≡ drop (k + m) l₀
              further k m l l₀ d = sym (drop-drop m k l) ∙ ap (drop m) d ∙ drop-drop m k l₀

              further8 : (l l₀ : List ℕ) → drop (8 * place) l ≡ drop (8 * place) l₀ → drop (8 * place + 8 * n) l ≡ drop (8 * (place + n)) l₀
              further8 l l₀ d = further (8 * place) (8 * n) l l₀ d ∙ ap (λ (k : ℕ). drop k l₀) (sym eight)

-- ---- the call: how many stamps there are, and the result r of the judging of the room
module _ (rows : List Row) (scale : ℕ) (s o1 o2 ns : List ℕ) (all : RunSize) (ea : all ≡ size_of (run_blocks s)) (r : Result Unit Refusal)
    (er : number_said r ≡ take_refusal scale all.stamps (length o1) (length o2) (length ns)) where
  same : take_refusal scale (stamps_of (run_blocks s).sizes) (length o1) (length o2) (length ns) ≡ number_said r
  unfolding size_of
  same = ap (λ (x : RunSize). take_refusal scale x.stamps (length o1) (length o2) (length ns)) (sym ea) ∙ sym er

  pub call-refused : (k : Refusal) → r ≡ Err k → run_call (refusal (refusal_number k)) o1 o2 ns ≡ taken_by rows scale (run_blocks s).sizes s o1 o2 ns
  unfolding taken_by number_said
  call-refused k p = rw (same ∙ ap number_said p, ne_eqb (refusal_number k) 0 (λ z. omega (arith, number_low k)))

  module _ (u : Unit) (p : r ≡ Ok u) where
    none : take_refusal scale (stamps_of (run_blocks s).sizes) (length o1) (length o2) (length ns) ≡ 0
    unfolding number_said
    none = same ∙ ap number_said p

    pub call-room : RunRoom scale s o1 o2 ns
    unfolding take_refusal
    call-room = room (is_run_scale scale) (leb (8 * many) (length o1)) (leb (8 * many) (length o2)) (leb many (length ns)) refl refl refl refl none
      where
        many : ℕ
        many = stamps_of (run_blocks s).sizes

        room : (a b c d : Bool) → is_run_scale scale ≡ a → leb (8 * many) (length o1) ≡ b → leb (8 * many) (length o2) ≡ c → leb many (length ns) ≡ d
            → ◌≡◌ {A = ℕ} (cond a (cond (b && (c && d)) 0 11) 18) 0 → RunRoom scale s o1 o2 ns
        room true true true true q1 q r t e = record {
          known = q1;
          places1 = leb-true (8 * many) (length o1) q;
          places2 = leb-true (8 * many) (length o2) r;
          bytes = leb-true many (length ns) t;
        }
        room true true true false p q r t e = let w : ⊥ = omega arith in absurd w
        room true true false d p q r t e = let w : ⊥ = omega arith in absurd w
        room true false c d p q r t e = let w : ⊥ = omega arith in absurd w
        room false b c d p q r t e = let w : ⊥ = omega arith in absurd w

    pub call-taken : (count : ℕ) (o1' o2' ns' : List ℕ)
        → run_call (answer count) o1' o2' ns' ≡ taken_written (stamps_of (run_blocks s).sizes) (taken_run rows scale (run_blocks s).sizes s) o1 o2 ns
        → run_call (answer count) o1' o2' ns' ≡ taken_by rows scale (run_blocks s).sizes s o1 o2 ns
    unfolding taken_by
    call-taken count o1' o2' ns' e = rw none e

-- ---- the call that tests its table
pub table-refused : (o : Outcome (List Row)) (k : ℕ) → refusal k ≡ o → (scale : ℕ) (s o1 o2 ns : List ℕ)
    → run_call (refusal k) o1 o2 ns ≡ taken_call o scale s o1 o2 ns
unfolding taken_call
table-refused o k e scale s o1 o2 ns = ap (λ (x : Outcome (List Row)). taken_call x scale s o1 o2 ns) e

pub table_taken : (o : Outcome (List Row)) (rows : List Row) → answer rows ≡ o → (scale : ℕ) (s o1 o2 ns : List ℕ)
    → taken_by rows scale (run_blocks s).sizes s o1 o2 ns ≡ taken_call o scale s o1 o2 ns
unfolding taken_call
table_taken o rows e scale s o1 o2 ns = ap (λ (x : Outcome (List Row)). taken_call x scale s o1 o2 ns) e

-- ---- a run whose blocks are there passes, and at most all of its stamps are refused
abbrev pub noughts : ℕ → List ℕ
noughts n = replicate n 0

pub taken-passes : (scale : ℕ) → is_run_scale scale ≡ true → (ns s : List ℕ) → blocks_bytes ns ≤ length s → run_refusal scale TAI (length (first_parts ns s))
    (length (second_parts ns s)) (length (first_parts ns s)) (length (second_parts ns s)) (length (noughts (stamps_of ns))) ≡ 0
taken-passes scale known ns s h =
    let a = first-length ns s h in
    let b = second-length ns s h in
    let c : length (noughts (stamps_of ns)) ≡ stamps_of ns = length-replicate (stamps_of ns) 0 in
    sym (none-refused scale TAI (length (first_parts ns s)) (length (second_parts ns s)) (length (first_parts ns s)) (length (second_parts ns s))
    (length (noughts (stamps_of ns))) known (tai-known [] scale known) (omega arith) (omega arith) (omega arith) (omega arith) (omega arith) (omega arith))

pub call-count : (rows : List Row) (scale : ℕ) (s o1 o2 ns : List ℕ) (k : ℕ) → answer k ≡ (taken_by rows scale (run_blocks s).sizes s o1 o2 ns).answer
    → k ≤ length s
unfolding taken_by taken_run
call-count rows scale s o1 o2 ns k e = go (eqb number 0) e
  where
    sizes : List ℕ
    sizes = (run_blocks s).sizes

    number : ℕ
    number = take_refusal scale (stamps_of sizes) (length o1) (length o2) (length ns)

    go : (b : Bool) → answer k ≡ (cond b (taken_written (stamps_of sizes) (taken_run rows scale sizes s) o1 o2 ns) (run_call (refusal number) o1 o2 ns)).answer
        → k ≤ length s
    go true q =
        let c = run-count rows scale TAI (first_parts sizes s) (second_parts sizes s) (first_parts sizes s) (second_parts sizes s)
        (replicate (stamps_of sizes) 0)
        k q in
        omega (arith, c, first-length sizes s (blocks_fit s), stamps-fit sizes, blocks_fit s)
    go false q = let z : ◌≡◌ {A = ℕ} 0 1 = cc q in let w : ⊥ = omega arith in absurd w
