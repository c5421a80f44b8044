-- The whole call: what each of its parts needs, and that together they do what `lined_up` says. Assumes nothing.
use Prim.Native.Nat.{ℕ, ◌+◌, ◌≤◌}
use native.Mathlib.Omega.{arith}
use mathlib.Core.Path.{◌≡◌, refl, sym, ap, ◌∙◌, subst}
use mathlib.Core.List.{List, [], ◌++◌, append_assoc, append-nil}
use lib.ListN.{length, drop, length-append, length-drop, drop_of_length-le}
use borrow.Author.Tests.{ne_eqb}
use Rattle.std.proofs.lemmas.Bool.Decides.{nat_tests}
use Rattle.std.specs.Prelude.{Result, Ok, Err, min}
use Rattle.refusals.specs.declared.Refusal.{Refusal}
use Rattle.refusals.specs.Refusal.{refusal_number}
use Rattle.refusals.specs.Outcome.{outcome, refusal, number_said}
use Rattle.refusals.proofs.Handed.{number_low}
use Rattle.line_up.specs.Runs.{all_tested, run, numbers_after, ordered}
use Rattle.line_up.specs.LineUp.{unordered_at, sooner_at, smaller, least_room, line_refusal, line_written, put_in_line, result, lined_up}
use Rattle.line_up.proofs.Places.{after-length, ordered-length}
use Rattle.line_up.specs.keep.Asked.{Lent}
use Rattle.line_up.specs.keep.Piles.{run_kept}
use Rattle.line_up.proofs.keep.Places.{run_is, run_long}
use Rattle.line_up.proofs.Lines.{Rooms, rooms, run_lent}
use Rattle.line_up.specs.Asked.{Mergeable, Merged}
use Rattle.line_up.proofs.Cases.{Fine, fine}
use Rattle.line_up.proofs.Testing.{tested-length}

smaller_is : (a b : ℕ) → min a b ≡ smaller a b
smaller_is a b = grind (arith, nat_tests)

-- the least of the three rooms
pub least_is : (out tails ranks work room : ℕ) → room ≡ min out work → work ≡ min tails ranks → room ≡ least_room out tails ranks
least_is out tails ranks work room er ew = er ∙ ap (min out) ew ∙ smaller_is out (min tails ranks) ∙ ap (smaller out) (smaller_is tails ranks)

-- ---- the call

module _ (js ks : List ℕ) (ns : List ℕ) (a c : ℕ) (out : List ℕ) (tl rl room : ℕ) (er : room ≡ least_room (length out) tl rl) where
  number-is : (n : ℕ) → n ≡ line_refusal (length js) (length ks) (length ns) a c room
      → n ≡ line_refusal (length js) (length ks) (length ns) a c (least_room (length out) tl rl)
  number-is n e = e ∙ ap (line_refusal (length js) (length ks) (length ns) a c) er

  pub line_refused : (r : Result ℕ Refusal) (k : Refusal) → outcome r ≡ refusal (refusal_number k)
      → number_said {A = Unit {0}} (Err k) ≡ line_refusal (length js) (length ks) (length ns) a c room → result r ns out ≡ lined_up js ks ns a c out tl rl
  unfolding lined_up number_said
  line_refused r k o e =
      let n : refusal_number k ≡ line_refusal (length js) (length ks) (length ns) a c (least_room (length out) tl rl) = number-is (refusal_number k) e in
      rw (← n, ne_eqb (refusal_number k) 0 (λ z. omega (arith, number_low k, z)), o)

  module _ (none : number_said {A = Unit {0}} (Ok tt) ≡ line_refusal (length js) (length ks) (length ns) a c room) where
    en : 0 ≡ line_refusal (length js) (length ks) (length ns) a c (least_room (length out) tl rl)
    unfolding number_said
    en = number-is 0 none

    sizes : Fine (length ns) a c (least_room (length out) tl rl)
    sizes = fine (length js) (length ks) (length ns) a c (least_room (length out) tl rl) (sym en)

    pub counts-fit : a + c ≤ length ns
    counts-fit = omega (arith, sizes.count1, sizes.count2)

    module _ (N0 : List ℕ) (e0 : N0 ≡ all_tested (unordered_at js ks) 0 ns) where
      whole-0 : length N0 ≡ length ns
      whole-0 = ap length e0 ∙ tested-length (unordered_at js ks) 0 ns

      good : Fine (length N0) a c (least_room (length out) tl rl)
      good = subst (λ (n : ℕ). Fine n a c (least_room (length out) tl rl)) (sym whole-0) sizes

      pub sum_fits : a + c ≤ length N0
      sum_fits = omega (arith, good.count1, good.count2)

      areas : Rooms (length N0) (length out) tl rl
      areas = rooms (length N0) (length out) tl rl good.places

      -- the work areas keep their lengths
      kept-areas : (T R : List ℕ) → length T ≡ tl → length R ≡ rl → Rooms (length N0) (length out) (length T) (length R)
      kept-areas T R et er = record { out_room = areas.out_room; tail_room = omega (arith, areas.tail_room); rank_room = omega (arith, areas.rank_room) }

      pub range-1 : (T R : List ℕ) → length T ≡ tl → length R ≡ rl → Lent js ks N0 0 a T R
      range-1 T R et er = run_lent js ks ns N0 [] N0 0 a (sooner_at js ks) e0 (omega arith) good.count1 refl refl refl good.small T R (length out)
          (kept-areas T R et er)

      module _ (N1 : List ℕ) (e1 : N1 ≡ run_kept (sooner_at js ks) N0 0 a) where
        P1 : List ℕ
        P1 = [] ++ run (sooner_at js ks) N0 0 a

        is-1 : N1 ≡ P1 ++ drop a N0
        unfolding P1
        is-1 = e1 ∙ run_is (sooner_at js ks) N0 [] 0 a (omega arith) good.count1 refl N0 refl

        length-1 : length P1 ≡ a
        unfolding P1
        length-1 = run_long (sooner_at js ks) N0 [] 0 a (omega arith) good.count1 refl N0 refl

        whole-1 : length N1 ≡ length N0
        whole-1 = ap length is-1 ∙ length-append P1 (drop a N0) ∙ rw (length-1, length-drop a N0) (omega (arith, good.count1))

        pub range-2 : (T R : List ℕ) → length T ≡ tl → length R ≡ rl → Lent js ks N1 a (a + c) T R
        range-2 T R et er = run_lent js ks ns N0 P1 N1 a (a + c) (sooner_at js ks) e0 (omega arith) sum_fits length-1 is-1 whole-1 good.small T R
            (length out) (kept-areas T R et er)

        module _ (N2 : List ℕ) (e2 : N2 ≡ run_kept (sooner_at js ks) N1 a (a + c)) where
          P2 : List ℕ
          P2 = P1 ++ run (sooner_at js ks) N0 a (a + c)

          is-2 : N2 ≡ P2 ++ drop (a + c) N0
          unfolding P2
          is-2 = e2 ∙ run_is (sooner_at js ks) N0 P1 a (a + c) (omega arith) sum_fits length-1 N1 is-1

          length-2 : length P2 ≡ a + c
          unfolding P2
          length-2 = run_long (sooner_at js ks) N0 P1 a (a + c) (omega arith) sum_fits length-1 N1 is-1

          whole-2 : length N2 ≡ length N0
          whole-2 = ap length is-2 ∙ length-append P2 (drop (a + c) N0) ∙ rw (length-2, length-drop (a + c) N0) (omega (arith, sum_fits))

          pub range-3 : (T R : List ℕ) → length T ≡ tl → length R ≡ rl → Lent js ks N2 (a + c) (length ns) T R
          range-3 T R et er = run_lent js ks ns N0 P2 N2 (a + c) (length ns) (sooner_at js ks) e0 (omega (arith, sum_fits, whole-0)) (omega (arith, whole-0))
              length-2 is-2 whole-2 good.small T R (length out) (kept-areas T R et er)

          module _ (N3 : List ℕ) (e3 : N3 ≡ run_kept (sooner_at js ks) N2 (a + c) (length ns)) where
            is-3 : N3 ≡ numbers_after (sooner_at js ks) N0 a (a + c) (length N0)
            unfolding P1 P2 numbers_after
            is-3 =
                let r3 = run (sooner_at js ks) N0 (a + c) (length N0) in
                let d : drop (length N0) N0 ≡ [] = drop_of_length-le N0 {i = length N0} (omega arith) in
                e3 ∙ ap (run_kept (sooner_at js ks) N2 (a + c)) (sym whole-0)
                ∙ run_is (sooner_at js ks) N0 P2 (a + c) (length N0) sum_fits (omega arith) length-2 N2 is-2
                ∙ ap (λ (l : List ℕ). (P2 ++ r3) ++ l) d
                ∙ append-nil (P2 ++ r3)
                ∙ append_assoc (run (sooner_at js ks) N0 0 a) (run (sooner_at js ks) N0 a (a + c)) r3

            whole-3 : length N3 ≡ length N0
            whole-3 = ap length is-3 ∙ after-length (sooner_at js ks) N0 a (a + c) (length N0) (omega arith) sum_fits (omega arith)

            pub merge-fits : Mergeable N3 a (a + c) out
            merge-fits = record {
              low = omega arith;
              high = omega (arith, sum_fits, whole-3);
              room = omega (arith, areas.out_room, whole-3);
              small = omega (arith, good.small, whole-3);
            }

            pub many-fit : (out' : List ℕ) (r : ℕ) → Merged (sooner_at js ks) N3 a (a + c) out out' r → r ≤ 4294967295
            many-fit out' r m =
                let l : a + c ≤ length N3 = omega (arith, sum_fits, whole-3) in
                omega (arith, m.many, ordered-length (sooner_at js ks) N3 a (a + c) (omega arith) l, good.small, whole-3)

            pub line-ends : (out' : List ℕ) (r : ℕ) → Merged (sooner_at js ks) N3 a (a + c) out out' r
                → result (Ok r) N3 out' ≡ lined_up js ks ns a c out tl rl
            unfolding lined_up put_in_line line_written outcome
            line-ends out' r m =
                rw (← en, ← e0)
                (rw (m.many, m.places)
                (ap (λ (k : ℕ). line_written N3 (ordered (sooner_at js ks) N3 a (a + c) k) out) whole-3
                ∙ ap (λ (l : List ℕ). line_written l (ordered (sooner_at js ks) l a (a + c) (length N0)) out) is-3))
