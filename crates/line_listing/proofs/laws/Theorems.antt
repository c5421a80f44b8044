-- What is true of every listing's order that is not refused, and when a call is answered. Assumes nothing.
use Rattle.std.proofs.Common.{◌≡◌, ℕ, suc, ◌+◌, ◌*◌, ◌<◌, ◌≤◌, Bool, true, false, cond, eqb, ltb, List, [], ◌∷◌, ◌++◌, length, get_or, take, drop, sym, refl}
use Rattle.std.proofs.Common.{ap, ◌∙◌, subst, arith, drop_at, ltb-true, ne_eqb}
use lib.Ieee.{binary64, of_bits}
use Rattle.refusals.specs.Outcome.{answer, refusal}
use Rattle.numerals.specs.little_endian.LittleEndian.{u32_at, eight_bytes}
use Rattle.numerals.specs.little_endian.Written.{all_bytes}
use Rattle.numerals.proofs.little_endian.Items.{written-length}
use Rattle.julian.specs.declared.JulianDate.{JulianDate}
use Rattle.julian.specs.JulianDate.{julian}
use Rattle.julian.specs.stamp_lists.Stamps.{stamp_of}
use Rattle.line_up.specs.Runs.{all_tested, numbers_after, ordered, times_in}
use Rattle.line_up.specs.LineUp.{unordered_at, sooner_at, places_bytes, least_room, line_refusal, line_written, put_in_line, LinedUp, lined_up}
use Rattle.line_up.specs.laws.Claims.{Each, OneLine, Lined, not_in_line, zeros_in}
use Rattle.line_up.specs.laws.Due.{LineDue, RoomEach}
use Rattle.line_up.specs.keep.Cells.{cells}
use Rattle.line_up.proofs.Places.{after-length}
use Rattle.line_up.proofs.Testing.{tested-length}
use Rattle.line_up.proofs.laws.Pairwise.{each-of-times_in}
use Rattle.line_up.proofs.laws.Due.{due_answered, answered-due, none-refused}
use Rattle.line_up.proofs.laws.Written.{place-back}
use Rattle.julian.proofs.stamp_lists.Written.{stamps-of-lists}
use Rattle.line_listing.specs.order.Order.{line_order, order_written, put_in_order, lines_in_order}
use Rattle.line_listing.specs.order.Asked.{Below}
use Rattle.line_listing.specs.laws.Places.{EveryLine, AllListed}
use Rattle.line_listing.proofs.order.Puts.{places-long}
use Rattle.line_listing.proofs.order.Loops.{below_at}
use Rattle.line_listing.proofs.order.Tiles.{whole_long, whole-times}
use Rattle.line_listing.proofs.order.Calls.{cells-line, below_more, line-below}
use Rattle.line_listing.proofs.laws.Kept.{run-lines, ordered-lines}
use Rattle.line_listing.proofs.laws.Standing.{stands-behind, stands-first}

-- THE LINES: every stamp has one, and where it stands
pub every_line : (lt : ℕ → ℕ → Bool) (ms : List ℕ) (a b : ℕ) → a ≤ b → b ≤ length ms
    → EveryLine ms a b (ordered lt ms a b (length ms)) (line_order ms a b (ordered lt ms a b (length ms)))
every_line lt ms a b ab bn = record {
  many = whole_long lt ms a b ab bn;
  once = whole-times lt ms a b ab bn;
  run = run-lines lt ms a b ab bn;
  ordered = ordered-lines lt ms a b ab bn;
  behind = stands-behind lt ms a b ab bn;
  start = λ from to r q. stands-first lt ms a b ab bn q from to r;
}

each_below : (n : ℕ) (xs : List ℕ) → Each (λ (p : ℕ). p < n) xs → Below n xs
each_below n [] e = tt
each_below n (x ∷ xs) e = (e.0, each_below n xs e.1)

-- ---- the call

module _ (js ks ns : List ℕ) (first second : ℕ) (out : List ℕ) (work1 work2 : ℕ) where
  abbrev number : ℕ
  number = line_refusal (length js) (length ks) (length ns) first second (least_room (length out) work1 work2)

  abbrev call : LinedUp
  call = lines_in_order js ks ns first second out work1 work2

  abbrev up : LinedUp
  up = lined_up js ks ns first second out work1 work2

  same_by : (t : Bool) → eqb number 0 ≡ t → (call.answer ≡ up.answer) × (call.numbers ≡ up.numbers)
  unfolding lines_in_order lined_up put_in_order put_in_line order_written line_written
  same_by true e = rw e (refl, refl)
  same_by false e = rw e (refl, refl)

  -- THE ANSWER AND THE NUMBERS are those of the lining up, refusals too
  pub as_lined_up : ((lines_in_order js ks ns first second out work1 work2).answer ≡ (lined_up js ks ns first second out work1 work2).answer)
      × ((lines_in_order js ks ns first second out work1 work2).numbers ≡ (lined_up js ks ns first second out work1 work2).numbers)
  as_lined_up = same_by (eqb number 0) refl

  -- a refused call writes nothing
  pub refused-order : (n : ℕ) → line_refusal (length js) (length ks) (length ns) first second (least_room (length out) work1 work2) ≡ suc n
      → lines_in_order js ks ns first second out work1 work2 ≡ record { answer = refusal (suc n); numbers = ns; out = out }
  unfolding lines_in_order
  refused-order n e = rw (e, ne_eqb (suc n) 0 (λ q. let z : ⊥ = omega (arith, q) in z))

  -- A CALL IS ANSWERED EXACTLY WHEN its lengths are due
  pub answered-order : (k : ℕ) → (lines_in_order js ks ns first second out work1 work2).answer ≡ answer k
      → LineDue (length js) (length ks) (length ns) first second (length out) work1 work2
  answered-order k e = answered-due js ks ns first second out work1 work2 k (sym as_lined_up.0 ∙ e)

  module _ (due : LineDue (length js) (length ks) (length ns) first second (length out) work1 work2) where
    zero_number : number ≡ 0
    zero_number = none-refused (length js) (length ks) (length ns) first second (length out) work1 work2 due

    come : List ℕ
    come = all_tested (unordered_at js ks) 0 ns

    come_long : length come ≡ length ns
    unfolding come
    come_long = tested-length (unordered_at js ks) 0 ns

    ms : List ℕ
    ms = numbers_after (sooner_at js ks) come first (first + second) (length come)

    ms_long : length ms ≡ length ns
    unfolding ms
    ms_long =
        after-length (sooner_at js ks) come first (first + second) (length come) (omega arith) (omega (arith, due.runs, come_long)) (omega arith) ∙ come_long

    line : List ℕ
    line = ordered (sooner_at js ks) ms first (first + second) (length ms)

    in_runs : first + second ≤ length ms
    in_runs = omega (arith, due.runs, ms_long)

    up_is : up ≡ line_written ms line out
    unfolding lined_up put_in_line come ms line
    up_is = rw zero_number (ap (λ (n : ℕ). line_written ms (ordered (sooner_at js ks) ms first (first + second) n) out) (come_long ∙ sym ms_long))

    call-is : call ≡ order_written ms first (first + second) line out
    unfolding lines_in_order put_in_order come ms line
    call-is = rw zero_number
        (ap (λ (n : ℕ). order_written ms first (first + second) (ordered (sooner_at js ks) ms first (first + second) n) out) (come_long ∙ sym ms_long))

    lined : Lined js ks ns first second out up
    lined = due_answered js ks ns first second out work1 work2 due

    line_small : Below 4294967296 line
    unfolding line
    line_small = below_more (length ms) 4294967296 (omega (arith, due.most, ms_long)) line
        (line-below (sooner_at js ks) ms first (first + second) (omega arith) in_runs)

    line-in-range : (p : ℕ) → 0 < times_in p lined.line → p < 4294967296
    line-in-range p h = go (ltb p (length ns)) refl
      where
        go : (t : Bool) → ltb p (length ns) ≡ t → p < 4294967296
        go true e = omega (arith, ltb-true p (length ns) e, due.most)
        go false e =
            let z : times_in p lined.line + times_in p (not_in_line 0 up.numbers) ≡ 0 =
            lined.right.every_place p ∙ ap (λ (t : Bool). cond {A = ℕ} t 1 0) e in
            let w : ⊥ = omega arith in
            absurd w

    -- the line of the lining up is this one: both stand in the same bytes
    same_line : lined.line ≡ line
    unfolding line_written
    same_line =
        let l = lined.line in
        let k : answer (length l) ≡ answer (length line) = sym lined.answers ∙ ap (λ (u : LinedUp). u.answer) up_is in
        let e : length l ≡ length line = cc in
        let b : places_bytes l ++ drop (4 * length l) out ≡ places_bytes line ++ drop (4 * length line) out =
        sym lined.places ∙ ap (λ (u : LinedUp). u.out) up_is in
        sym (cells-line l (drop (4 * length l) out) (each_below 4294967296 l (each-of-times_in (λ (p : ℕ). p < 4294967296) l line-in-range)))
        ∙ (λ i. take (e i) (cells (b i)))
        ∙ cells-line line (drop (4 * length line) out) line_small

    lines : List ℕ
    lines = line_order ms first (first + second) line

    each_line : EveryLine ms first (first + second) line lines
    unfolding line lines
    each_line = every_line (sooner_at js ks) ms first (first + second) (omega arith) in_runs

    numbers_are : call.numbers ≡ ms
    unfolding order_written
    numbers_are = ap (λ (l : LinedUp). l.numbers) call-is

    out-is : call.out ≡ places_bytes lines ++ drop (4 * length ms) out
    unfolding order_written lines
    out-is = ap (λ (l : LinedUp). l.out) call-is

    lines-in-range : (p : ℕ) → 0 < times_in p lines → p < length ms
    lines-in-range p h = go (ltb p (length ms)) refl
      where
        go : (t : Bool) → ltb p (length ms) ≡ t → p < length ms
        go true e = ltb-true p (length ms) e
        go false e =
            let z : times_in p lines ≡ 0 = each_line.once p ∙ ap (λ (t : Bool). cond {A = ℕ} t 1 0) e in
            let w : ⊥ = omega arith in
            absurd w

    lines-below : Below (length ms) lines
    lines-below = each_below (length ms) lines (each-of-times_in (λ (p : ℕ). p < length ms) lines lines-in-range)

    -- EVERY CALL THAT IS NOT REFUSED
    pub listed-order : AllListed (stamp_of js ks) ns first second out (lines_in_order js ks ns first second out work1 work2)
    unfolding order_written
    listed-order = record {
      line = line;
      lines = lines;
      answers = ap (λ (l : LinedUp). l.answer) call-is;
      counted = ap length (sym same_line) ∙ lined.counted ∙ ap zeros_in (sym as_lined_up.1);
      place_at = λ i h.
          let k : i < length lines = omega (arith, each_line.many, ms_long) in
          ap (λ (s : List ℕ). u32_at s (4 * i)) out-is
          ∙ place-back lines (drop (4 * length ms) out) i k (omega (arith, below_at (length ms) lines lines-below i k, due.most, ms_long));
      spare = ap (drop (4 * length ns)) out-is
          ∙ drop_at (places_bytes lines) (drop (4 * length ms) out) (4 * length ns) (places-long lines ∙ ap (λ (n : ℕ). 4 * n) (each_line.many ∙ ms_long))
          ∙ ap (λ (n : ℕ). drop (4 * n) out) ms_long;
      right = subst (λ (l : List ℕ). OneLine (stamp_of js ks) ns first (first + second) l call.numbers) same_line
          (subst (OneLine (stamp_of js ks) ns first (first + second) lined.line) (sym as_lined_up.1) lined.right);
      each = subst (λ (m : List ℕ). EveryLine m first (first + second) line lines) (sym numbers_are) each_line;
    }

-- ---- THE CALL over lists of patterns and numbers, as many of each: the stamp at place i is the date of the i-th patterns
module _ (js ks ns : List ℕ) (first second : ℕ) (out : List ℕ) (work1 work2 : ℕ) (firsts : length js ≡ length ns) (seconds : length ks ≡ length ns)
    (first-bits : (i : ℕ) → i < length js → get_or js i 0 < 18446744073709551616)
    (second-bits : (i : ℕ) → i < length ks → get_or ks i 0 < 18446744073709551616) (runs : first + second ≤ length ns) (most : length ns ≤ 4294967295)
    (room : RoomEach (length ns) (length out) work1 work2) where
  pub order-of-lists : AllListed (λ (i : ℕ). julian (of_bits binary64 (get_or js i 0)) (of_bits binary64 (get_or ks i 0))) ns first second out
      (lines_in_order (all_bytes eight_bytes js) (all_bytes eight_bytes ks) ns first second out work1 work2)
  order-of-lists =
      let dates : stamp_of (all_bytes eight_bytes js) (all_bytes eight_bytes ks)
      ≡ (λ (i : ℕ). julian (of_bits binary64 (get_or js i 0)) (of_bits binary64 (get_or ks i 0))) =
      (λ j i. stamps-of-lists js ks first-bits second-bits i j) in
      subst (λ (date : ℕ → JulianDate).
      AllListed date ns first second out (lines_in_order (all_bytes eight_bytes js) (all_bytes eight_bytes ks) ns first second out work1 work2)) dates
      (listed-order (all_bytes eight_bytes js) (all_bytes eight_bytes ks) ns first second out work1 work2 (record {
        parts = record {
          first = written-length eight_bytes 8 (λ n. refl) js ∙ ap (λ (n : ℕ). 8 * n) firsts;
          second = written-length eight_bytes 8 (λ n. refl) ks ∙ ap (λ (n : ℕ). 8 * n) seconds;
        };
        runs = runs;
        most = most;
        room = room;
      }))
