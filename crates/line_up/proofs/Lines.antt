-- A run looks at its own numbers only, so that three runs are judged one after the other in one list, and who comes to it with 0 is not unordered. Assumes
-- nothing.
use Prim.Native.Nat.{ℕ, ◌+◌, ◌-◌, ◌*◌, ◌/◌, ◌<◌, ◌≤◌}
use native.Mathlib.Omega.{arith}
use native.Mathlib.Nat.{div-mul-le_self}
use mathlib.Core.Path.{◌≡◌, refl, sym, ap, ◌∙◌}
use mathlib.Core.Bool.{Bool, true, false, cond}
use mathlib.Core.List.{List, ◌++◌}
use lib.Dec.{ltb}
use lib.ListN.{length, get_or, drop}
use lib.Seq.{drop-drop}
use borrow.Author.Tests.{ltb-true, ltb-false}
use Rattle.line_up.proofs.keep.Places.{run-number}
use Rattle.line_up.specs.keep.Asked.{NoneUnordered, Lent}
use Rattle.line_up.specs.Runs.{all_tested}
use Rattle.line_up.specs.LineUp.{unordered_at, smaller, least_room}
use Rattle.line_up.proofs.Testing.{tested-length}
use Rattle.line_up.proofs.Unordered.{zero_sound}

pub drop_later : (a b : ℕ) (l m : List ℕ) → a ≤ b → drop a l ≡ drop a m → drop b l ≡ drop b m
drop_later a b l m h e =
    let k : b ≡ a + (b - a) = omega arith in
    ap (λ (j : ℕ). drop j l) k ∙ sym (drop-drop (b - a) a l) ∙ ap (drop (b - a)) e ∙ drop-drop (b - a) a m ∙ ap (λ (j : ℕ). drop j m) (sym k)

-- four bytes for each of n places, where n is at most a quarter of the bytes
pub four-each : (n room : ℕ) → n ≤ room / 4 → 4 * n ≤ room
four-each n room h = omega (arith, h, div-mul-le_self room 4)

smaller-by : (c : Bool) (n a b : ℕ) → ltb a b ≡ c → n ≤ cond c a b / 4 → (4 * n ≤ a) × (4 * n ≤ b)
smaller-by true n a b e h = let k : a < b = ltb-true a b e in let m = four-each n a h in (m, omega (arith, m))
smaller-by false n a b e h = let k : b ≤ a = ltb-false a b e in let m = four-each n b h in (omega (arith, m), m)

four-smaller : (c : Bool) (n a b : ℕ) → ltb a b ≡ c → 4 * n ≤ cond c a b → (4 * n ≤ a) × (4 * n ≤ b)
four-smaller true n a b e h = let k : a < b = ltb-true a b e in (h, omega arith)
four-smaller false n a b e h = let k : b ≤ a = ltb-false a b e in (omega arith, h)

-- the room of each area
pub record Rooms (n out tails ranks : ℕ) : Type 0 where
  pub out_room : 4 * n ≤ out
  pub tail_room : 4 * n ≤ tails
  pub rank_room : 4 * n ≤ ranks

pub rooms : (n out tails ranks : ℕ) → n ≤ least_room out tails ranks / 4 → Rooms n out tails ranks
rooms n out tails ranks h =
    let x = smaller-by (ltb out (smaller tails ranks)) n out (smaller tails ranks) refl h in
    let y = four-smaller (ltb tails ranks) n tails ranks refl x.1 in
    record { out_room = x.0; tail_room = y.0; rank_room = y.1 }

-- what a run is lent, where the runs before it left P and the unordered are left out
module _ (js ks come N0 P N : List ℕ) (from to : ℕ) (lt : ℕ → ℕ → Bool) (e0 : N0 ≡ all_tested (unordered_at js ks) 0 come) (ft : from ≤ to)
    (tn : to ≤ length N0) (len : length P ≡ from) (e : N ≡ P ++ drop from N0)
    (long : length N ≡ length N0) (few : length N0 ≤ 4294967295) where
  pub run-ordered : NoneUnordered js ks N from to
  run-ordered p h k z =
      let m : get_or N0 p 0 ≡ 0 = sym (run-number lt N0 P from to ft tn len N e p 0 h) ∙ z in
      let q : p < length come = omega (arith, ap length e0, tested-length (unordered_at js ks) 0 come) in
      (zero_sound (unordered_at js ks) come p q (ap (λ (l : List ℕ). get_or l p 0) (sym e0) ∙ m)).1

  pub run_lent : (tails ranks : List ℕ) (out : ℕ) → Rooms (length N0) out (length tails) (length ranks) → Lent js ks N from to tails ranks
  run_lent tails ranks out r = record {
    low = ft;
    high = omega (arith, long);
    small = omega arith;
    tail_room = omega (arith, r.tail_room);
    rank_room = omega (arith, r.rank_room);
    ordered = run-ordered;
  }
