-- The whole call: what its parts need after the lining up, and that together they do what `lines_in_order` says. Assumes nothing.
use Rattle.std.proofs.Common.{◌≡◌, ℕ, zero, suc, ◌+◌, ◌*◌, ◌/◌, ◌%◌, ◌<◌, ◌≤◌, Bool, List, [], ◌∷◌, ◌++◌, length, take, drop, sym, refl, ap, ◌∙◌, subst, arith}
use Rattle.std.proofs.Common.{drop_at, ne_eqb}
use Rattle.std.specs.Prelude.{Result, Ok, Err, IsErrAnd}
use Rattle.refusals.specs.declared.Refusal.{Refusal}
use Rattle.refusals.specs.Outcome.{Outcome, answer, outcome}
use Rattle.refusals.proofs.Handed.{handed, handed_on}
use Rattle.numerals.specs.little_endian.LittleEndian.{u32_at, four_at}
use Rattle.numerals.proofs.little_endian.RoundTrip.{read-written-4}
use Rattle.line_up.specs.Runs.{accepted_in, all_tested, numbers_after, merge, ordered}
use Rattle.line_up.specs.LineUp.{unordered_at, sooner_at, places_bytes, least_room, line_refusal, result, LinedUp, line_written, put_in_line}
use Rattle.line_up.specs.LineUp.{lined_up}
use Rattle.line_up.specs.laws.Due.{LineDue}
use Rattle.line_up.specs.keep.Cells.{cells}
use Rattle.line_up.proofs.keep.Cells.{cells-room}
use Rattle.line_up.proofs.Cursors.{accepted_in-under}
use Rattle.line_up.proofs.Merges.{Under, under-merge, under_more}
use Rattle.line_up.proofs.Places.{after-length, ordered-length}
use Rattle.line_up.proofs.Testing.{tested-length}
use Rattle.line_up.proofs.Lines.{drop_later}
use Rattle.line_up.proofs.laws.Theorems.{refused-line}
use Rattle.line_up.proofs.laws.Due.{due_answered, answered-due, none-refused, due-of}
use Rattle.line_listing.specs.order.Order.{line_order, order_written, put_in_order, lines_in_order}
use Rattle.line_listing.specs.order.Asked.{Below, Copyable, Listable}
use Rattle.line_listing.proofs.order.Puts.{places-long}
use Rattle.line_listing.proofs.order.Tiles.{whole_long}

-- ---- the places that the lining up wrote, as cells

four-back : (p : ℕ) → p < 4294967296 → p % 256 + 256 * (p / 0x100 % 256) + 65536 * (p / 0x1_0000 % 256) + 16777216 * (p / 0x100_0000 % 256) ≡ p
unfolding u32_at four_at
four-back p h = read-written-4 p h

pub cells-line : (line rest : List ℕ) → Below 4294967296 line → take (length line) (cells (places_bytes line ++ rest)) ≡ line
unfolding cells places_bytes
cells-line [] rest b = refl
cells-line (p ∷ ps) rest b = (λ i. four-back p b.0 i ∷ cells-line ps rest b.1 i)

pub below_more : (m n : ℕ) → m ≤ n → (xs : List ℕ) → Below m xs → Below n xs
below_more m n h [] b = tt
below_more m n h (x ∷ xs) b = (omega (arith, b.0), below_more m n h xs b.1)

under-below : (n : ℕ) (xs : List ℕ) → Under n xs → Below n xs
under-below n [] u = tt
under-below n (x ∷ xs) u = (u.0, under-below n xs u.1)

pub line-below : (lt : ℕ → ℕ → Bool) (ms : List ℕ) (a b : ℕ) → a ≤ b → b ≤ length ms → Below (length ms) (ordered lt ms a b (length ms))
unfolding ordered
line-below lt ms a b ab bn =
    let n = length ms in
    let an : a ≤ n = omega arith in
    let nn : n ≤ n = omega arith in
    under-below n (merge lt (merge lt (accepted_in ms 0 a) (accepted_in ms a b)) (accepted_in ms b n))
    (under-merge lt n (merge lt (accepted_in ms 0 a) (accepted_in ms a b)) (accepted_in ms b n)
    (under-merge lt n (accepted_in ms 0 a) (accepted_in ms a b) (under_more an (accepted_in ms 0 a) (accepted_in-under ms a an 0))
    (under_more bn (accepted_in ms a b) (accepted_in-under ms b bn a)))
    (accepted_in-under ms n nn b))

-- ---- the call

module _ (js ks ns : List ℕ) (a c : ℕ) (out : List ℕ) (tl rl : ℕ) (numbers placed : List ℕ) (res : Result ℕ Refusal)
    (e : result res numbers placed ≡ lined_up js ks ns a c out tl rl) where
  abbrev number : ℕ
  number = line_refusal (length js) (length ks) (length ns) a c (least_room (length out) tl rl)

  says : outcome res ≡ (lined_up js ks ns a c out tl rl).answer
  says = ap (λ (l : LinedUp). l.answer) e

  pub order-refused : (k : Refusal) (r : Result ℕ Refusal) → res ≡ Err k → IsErrAnd r (λ f. f ≡ k)
      → result r numbers placed ≡ lines_in_order js ks ns a c out tl rl
  unfolding lines_in_order
  order-refused k r q h = go number refl
    where
      go : (m : ℕ) → number ≡ m → result r numbers placed ≡ lines_in_order js ks ns a c out tl rl
      go zero p =
          let l = due_answered js ks ns a c out tl rl (due-of (length js) (length ks) (length ns) a c (length out) tl rl p) in
          let s = sym (handed q) ∙ says ∙ l.answers in
          let z : ◌≡◌ {A = ℕ} 0 1 = cc s in
          let w : ⊥ = omega arith in
          absurd w
      go (suc m) p =
          ap (λ (o : Outcome ℕ). record { answer = o; numbers = numbers; out = placed }) (handed_on r k h ∙ sym (handed q))
          ∙ e ∙ refused-line js ks ns a c out tl rl m p
          ∙ rw (p, ne_eqb (suc m) 0 (λ q. let z : ⊥ = omega (arith, q) in z))

  module _ (k : ℕ) (r : res ≡ Ok k) where
    due : LineDue (length js) (length ks) (length ns) a c (length out) tl rl
    unfolding outcome
    due = answered-due js ks ns a c out tl rl k (sym says ∙ ap outcome r)

    zero_number : number ≡ 0
    zero_number = none-refused (length js) (length ks) (length ns) a c (length out) tl rl due

    pub sum_fits : a + c ≤ 4294967295
    sum_fits = omega (arith, due.runs, due.most)

    come : List ℕ
    come = all_tested (unordered_at js ks) 0 ns

    come_long : length come ≡ length ns
    unfolding come
    come_long = tested-length (unordered_at js ks) 0 ns

    ms : List ℕ
    ms = numbers_after (sooner_at js ks) come a (a + c) (length come)

    ms_long : length ms ≡ length come
    unfolding ms
    ms_long = after-length (sooner_at js ks) come a (a + c) (length come) (omega arith) (omega (arith, due.runs, come_long)) (omega arith)

    line : List ℕ
    line = ordered (sooner_at js ks) ms a (a + c) (length ms)

    left : result res numbers placed ≡ line_written ms line out
    unfolding lined_up put_in_line come ms line
    left = e ∙ rw zero_number (ap (λ (n : ℕ). line_written ms (ordered (sooner_at js ks) ms a (a + c) n) out) (sym ms_long))

    numbers_are : numbers ≡ ms
    unfolding line_written
    numbers_are = ap (λ (l : LinedUp). l.numbers) left

    placed-is : placed ≡ places_bytes line ++ drop (4 * length line) out
    unfolding line_written
    placed-is = ap (λ (l : LinedUp). l.out) left

    k_is : k ≡ length line
    unfolding line_written outcome
    k_is =
        let s : answer k ≡ answer (length line) = ap outcome (sym r) ∙ ap (λ (l : LinedUp). l.answer) left in
        cc

    in_runs : a + c ≤ length ms
    in_runs = omega (arith, due.runs, ms_long, come_long)

    line-few : length line ≤ length ns
    unfolding line
    line-few = omega (arith, ordered-length (sooner_at js ks) ms a (a + c) (omega arith) in_runs, ms_long, come_long)

    line_small : Below 4294967296 line
    unfolding line
    line_small = below_more (length ms) 4294967296 (omega (arith, due.most, ms_long, come_long)) line
        (line-below (sooner_at js ks) ms a (a + c) (omega arith) in_runs)

    module _ (kept : length placed ≡ length out) where
      cells-there : k ≤ length (cells placed)
      cells-there = cells-room placed k (omega (arith, k_is, line-few, due.room.places))

      pub copy_fits : (work : List ℕ) → length work ≡ tl → Copyable placed work k
      copy_fits work h = record { source = cells-there; room = cells-room work k (omega (arith, k_is, line-few, due.room.work1)) }

      module _ (work : List ℕ) (h : length work ≡ tl) (same : take k (cells work) ≡ take k (cells placed)) where
        line-there : take k (cells work) ≡ line
        line-there =
            same ∙ ap (λ (j : ℕ). take j (cells placed)) k_is ∙ ap (λ (l : List ℕ). take (length line) (cells l)) placed-is
            ∙ cells-line line (drop (4 * length line) out) line_small

        pub lines_fit : Listable numbers a (a + c) work k placed
        unfolding line
        lines_fit = record {
          low = omega arith;
          high = omega (arith, in_runs, ap length numbers_are);
          small = omega (arith, due.most, ap length numbers_are, ms_long, come_long);
          there = cells-room work k (omega (arith, k_is, line-few, due.room.work1));
          below = subst (λ (m : List ℕ). Below (length m) (take k (cells work))) (sym numbers_are)
              (subst (Below (length ms)) (sym line-there) (line-below (sooner_at js ks) ms a (a + c) (omega arith) in_runs));
          whole = subst (λ (m : List ℕ). length (line_order m a (a + c) (take k (cells work))) ≡ length m) (sym numbers_are)
              (ap (λ (l : List ℕ). length (line_order ms a (a + c) l)) line-there ∙ whole_long (sooner_at js ks) ms a (a + c) (omega arith) in_runs);
          room = omega (arith, due.room.places, kept, ap length numbers_are, ms_long, come_long);
        }

        rest-stays : drop (4 * length ms) placed ≡ drop (4 * length ms) out
        rest-stays =
            drop_later (4 * length line) (4 * length ms) placed out (omega (arith, line-few, ms_long, come_long))
            (ap (drop (4 * length line)) placed-is ∙ drop_at (places_bytes line) (drop (4 * length line) out) (4 * length line) (places-long line))

        pub order-ends : (out' : List ℕ) → out' ≡ places_bytes (line_order numbers a (a + c) (take k (cells work))) ++ drop (4 * length numbers) placed
            → result (Ok k) numbers out' ≡ lines_in_order js ks ns a c out tl rl
        unfolding lines_in_order put_in_order order_written outcome come ms line
        order-ends out' w =
            let q : out' ≡ places_bytes (line_order ms a (a + c) line) ++ drop (4 * length ms) out =
            w ∙ ap (λ (l : List ℕ). places_bytes (line_order numbers a (a + c) l) ++ drop (4 * length numbers) placed) line-there
            ∙ ap (λ (m : List ℕ). places_bytes (line_order m a (a + c) line) ++ drop (4 * length m) placed) numbers_are
            ∙ ap (λ (l : List ℕ). places_bytes (line_order ms a (a + c) line) ++ l) rest-stays in
            let z : order_written ms a (a + c) line out ≡ lines_in_order js ks ns a c out tl rl =
            rw zero_number (ap (λ (n : ℕ). order_written ms a (a + c) (ordered (sooner_at js ks) ms a (a + c) n) out) ms_long) in
            (λ i. record { answer = answer (k_is i); numbers = numbers_are i; out = q i }) ∙ z
