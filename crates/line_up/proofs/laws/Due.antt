-- WHEN A CALL IS ANSWERED, and by which number each other one is refused, for all lengths. Assumes nothing.
use Prim.Native.Nat.{ℕ, zero, suc, ◌+◌, ◌-◌, ◌*◌, ◌/◌, ◌%◌, ◌≤◌}
use native.Mathlib.Omega.{arith}
use mathlib.Core.Path.{◌≡◌, refl, sym, ap}
use mathlib.Core.Bool.{Bool, true, false, cond}
use mathlib.Core.List.{List}
use lib.Dec.{eqb, leb, ltb}
use lib.ListN.{length}
use borrow.Author.Tests.{eq-eqb, eqb-true, eqb-false, leb-true, leb-false, ltb-true, ltb-false}
use Rattle.refusals.specs.Outcome.{answer, refusal}
use Rattle.line_up.specs.LineUp.{smaller, least_room, line_refusal, lined_up}
use Rattle.line_up.specs.laws.Claims.{Lined}
use Rattle.line_up.specs.laws.Due.{WholeParts, PartsEach, RoomEach, LineDecision, LineDue}
use Rattle.line_up.specs.laws.Due.{broken_parts, other_sizes, runs_past, past_four_bytes, no_room, lined}
use Rattle.line_up.proofs.Cases.{broken_first, broken_second, differs_first, differs_second, past_first, past-second, too_many, too_few_places}
use Rattle.line_up.proofs.Cases.{not_refused}
use Rattle.line_up.proofs.laws.Theorems.{refused-line, lined-up}

-- ---- the least of three rooms

least : (a b m : ℕ) → m ≤ smaller a b → (m ≤ a) × (m ≤ b)
least a b m = go (ltb a b) refl
  where
    go : (t : Bool) → ltb a b ≡ t → m ≤ cond t a b → (m ≤ a) × (m ≤ b)
    go true e h = (h, omega (arith, ltb-true a b e))
    go false e h = (omega (arith, ltb-false a b e), h)

below_both : (a b m : ℕ) → m ≤ a → m ≤ b → m ≤ smaller a b
below_both a b m h k = go (ltb a b)
  where
    go : (t : Bool) → m ≤ cond t a b
    go true = h
    go false = k

module _ (n out tails ranks : ℕ) where
  room-each : n ≤ least_room out tails ranks / 4 → RoomEach n out tails ranks
  room-each h =
      let m : 4 * n ≤ least_room out tails ranks = omega arith in
      let p = least out (smaller tails ranks) (4 * n) m in
      let q = least tails ranks (4 * n) p.1 in
      record { places = p.0; work1 = q.0; work2 = q.1 }

  each-room : RoomEach n out tails ranks → n ≤ least_room out tails ranks / 4
  each-room r =
      let w : 4 * n ≤ smaller tails ranks = below_both tails ranks (4 * n) r.work1 r.work2 in
      let m : 4 * n ≤ least_room out tails ranks = below_both out (smaller tails ranks) (4 * n) r.places w in
      omega arith

-- ---- THE ORDER OF THE REFUSALS, and what is left

module _ (size1 size2 n first second out tails ranks : ℕ) where
  abbrev room : ℕ
  room = least_room out tails ranks

  abbrev Decided : Type 0
  Decided = LineDecision size1 size2 n first second out tails ranks (line_refusal size1 size2 n first second room)

  module _ (a : size1 % 8 ≡ 0) (b : size2 % 8 ≡ 0) where
    module _ (c : eqb (size1 / 8) n ≡ true) (d : eqb (size2 / 8) n ≡ true) where
      each : PartsEach size1 size2 n
      each = record {
        first = omega (arith, eqb-true (size1 / 8) n c, a);
        second = omega (arith, eqb-true (size2 / 8) n d, b);
      }

      module _ (e : first ≤ n) (f : second ≤ n - first) where
        within : first + second ≤ n
        within = omega arith

        by-room : n ≤ 4294967295 → (t : Bool) → leb n (room / 4) ≡ t → Decided
        by-room g true p =
            lined each within g (room-each n out tails ranks (leb-true n (room / 4) p))
            (sym (not_refused size1 size2 n first second room a b c d e f g (leb-true n (room / 4) p)))
        by-room g false p =
            no_room each within g (λ r. omega (arith, each-room n out tails ranks r, leb-false n (room / 4) p))
            (sym (too_few_places size1 size2 n first second room a b c d e f g (leb-false n (room / 4) p)))

        by_most : (t : Bool) → leb n 4294967295 ≡ t → Decided
        by_most true p = by-room (leb-true n 4294967295 p) (leb n (room / 4)) refl
        by_most false p =
            past_four_bytes each within (leb-false n 4294967295 p)
            (sym (too_many size1 size2 n first second room a b c d e f (leb-false n 4294967295 p)))

      by_runs : (t u : Bool) → leb first n ≡ t → leb second (n - first) ≡ u → Decided
      by_runs true true p q = by_most (leb-true first n p) (leb-true second (n - first) q) (leb n 4294967295) refl
      by_runs true false p q =
          runs_past each (omega (arith, leb-true first n p, leb-false second (n - first) q))
          (sym (past-second size1 size2 n first second room a b c d (leb-true first n p) (leb-false second (n - first) q)))
      by_runs false u p q =
          runs_past each (omega (arith, leb-false first n p)) (sym (past_first size1 size2 n first second room a b c d (leb-false first n p)))

    both : WholeParts size1 size2
    both = record { first = a; second = b }

    sizes : (t u : Bool) → eqb (size1 / 8) n ≡ t → eqb (size2 / 8) n ≡ u → Decided
    sizes true true p q = by_runs p q (leb first n) (leb second (n - first)) refl refl
    sizes true false p q =
        other_sizes both (λ r. eqb-false (size2 / 8) n q (omega (arith, r.second))) (sym (differs_second size1 size2 n first second room a b p q))
    sizes false u p q =
        other_sizes both (λ r. eqb-false (size1 / 8) n p (omega (arith, r.first))) (sym (differs_first size1 size2 n first second room a b p))

  whole : (t : Bool) → eqb (size1 % 8) 0 ≡ t → (u : Bool) → eqb (size2 % 8) 0 ≡ u → Decided
  whole true p true q = sizes (eqb-true (size1 % 8) 0 p) (eqb-true (size2 % 8) 0 q) (eqb (size1 / 8) n) (eqb (size2 / 8) n) refl refl
  whole true p false q =
      broken_parts (λ w. eqb-false (size2 % 8) 0 q w.second)
      (sym (broken_second size1 size2 n first second room (eqb-true (size1 % 8) 0 p) (eqb-false (size2 % 8) 0 q)))
  whole false p u q =
      broken_parts (λ w. eqb-false (size1 % 8) 0 p w.first) (sym (broken_first size1 size2 n first second room (eqb-false (size1 % 8) 0 p)))

  pub line-decided : LineDecision size1 size2 n first second out tails ranks (line_refusal size1 size2 n first second (least_room out tails ranks))
  line-decided = whole (eqb (size1 % 8) 0) refl (eqb (size2 % 8) 0) refl

  abbrev Due : Type 0
  Due = LineDue size1 size2 n first second out tails ranks

  pub none-refused : Due → line_refusal size1 size2 n first second room ≡ 0
  none-refused d =
      let p : PartsEach size1 size2 n = d.parts in
      sym (not_refused size1 size2 n first second room (omega (arith, p.first)) (omega (arith, p.second)) (eq-eqb (size1 / 8) n (omega (arith, p.first)))
      (eq-eqb (size2 / 8) n (omega (arith, p.second))) (omega (arith, d.runs)) (omega (arith, d.runs)) d.most (each-room n out tails ranks d.room))

  pub due-of : line_refusal size1 size2 n first second room ≡ 0 → Due
  due-of z = go line-decided
    where
      go : Decided → Due
      go (broken_parts w e) = let x : ⊥ = omega arith in absurd x
      go (other_sizes w v e) = let x : ⊥ = omega arith in absurd x
      go (runs_past p h e) = let x : ⊥ = omega arith in absurd x
      go (past_four_bytes p r h e) = let x : ⊥ = omega arith in absurd x
      go (no_room p r m w e) = let x : ⊥ = omega arith in absurd x
      go (lined p r m w e) = record { parts = p; runs = r; most = m; room = w }

-- ---- A CALL IS ANSWERED EXACTLY WHEN its lengths are due
module _ (js ks ns : List ℕ) (first second : ℕ) (out : List ℕ) (tails ranks : ℕ) where
  abbrev DueHere : Type 0
  DueHere = LineDue (length js) (length ks) (length ns) first second (length out) tails ranks

  abbrev number : ℕ
  number = line_refusal (length js) (length ks) (length ns) first second (least_room (length out) tails ranks)

  pub due_answered : DueHere → Lined js ks ns first second out (lined_up js ks ns first second out tails ranks)
  due_answered d =
      lined-up js ks ns first second out tails ranks (none-refused (length js) (length ks) (length ns) first second (length out) tails ranks d)

  pub answered-due : (k : ℕ) → (lined_up js ks ns first second out tails ranks).answer ≡ answer k → DueHere
  answered-due k e = go number refl
    where
      go : (m : ℕ) → number ≡ m → DueHere
      go zero p = due-of (length js) (length ks) (length ns) first second (length out) tails ranks p
      go (suc m) p =
          let r : (lined_up js ks ns first second out tails ranks).answer ≡ refusal (suc m) =
          ap (λ (l : _). l.answer) (refused-line js ks ns first second out tails ranks m p) in
          let z : ◌≡◌ {A = ℕ} 0 1 = cc (r, e) in
          let w : ⊥ = omega arith in
          absurd w
