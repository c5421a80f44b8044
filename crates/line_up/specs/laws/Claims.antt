-- What the theorems of the lining up say of the ordered places and of the numbers that a call leaves. The words are this project's own; exact sums are those of
-- julian/specs/Worth. Assumes nothing.
use Rattle.std.specs.Prelude.{ℕ, suc, ◌+◌, ◌*◌, ◌<◌, ◌≤◌, ◌≡◌, Bool, true, false, cond, ◌⊎◌, List, [], ◌∷◌, ◌++◌, T, eqb, ltb, length, get_or, drop}
use Rattle.std.specs.Float.{binary64}
use Rattle.std.specs.Float.Ieee.{fits}
use Rattle.refusals.specs.Outcome.{answer}
use Rattle.rounding.specs.Value.{L}
use Rattle.julian.specs.Worth.{Worth}
use Rattle.julian.specs.declared.JulianDate.{JulianDate}
use Rattle.julian.specs.order.Places.{has_place, is_earlier}
use Rattle.std.proofs.Math.Seq.{slice}
use Rattle.line_up.specs.keep.Piles.{Upward, Rises}
use Rattle.line_up.specs.Runs.{times_in, zeros}
use Rattle.julian.specs.stamp_lists.Stamps.{stamp_of}
use Rattle.line_up.specs.LineUp.{places_bytes, LinedUp}

-- both parts are 64-bit floats, as all are that are read from bytes
pub record Floats (d : JulianDate) : Type 0 where
  pub first : T (fits binary64 d.jd1)
  pub second : T (fits binary64 d.jd2)

-- the stamp at place x comes before that at y
abbrev pub by : (ℕ → JulianDate) → ℕ → ℕ → Bool
by date x y = is_earlier (date x) (date y)

-- the places of the numbers that are not 0, where the first stands at place i: who is refused or left out
unfoldable pub not_in_line : ℕ → List ℕ → List ℕ
not_in_line i [] = []
not_in_line i (m ∷ ms) = cond (eqb m 0) (not_in_line (suc i) ms) (i ∷ not_in_line (suc i) ms)

abbrev pub Each : (ℕ → Type 0) → List ℕ → Type 0
Each Q [] = Unit
Each Q (x ∷ xs) = Q x × Each Q xs

-- R of any two of a list, the one that stands before first
abbrev pub Pairs : (ℕ → ℕ → Type 0) → List ℕ → Type 0
Pairs R [] = Unit
Pairs R (x ∷ xs) = Each (R x) xs × Pairs R xs

-- the exact sum of the stamp at x, (P - N) / L, is at most that at y, (Q - M) / L, and where they are one number x is the smaller place
pub record InOrder (date : ℕ → JulianDate) (x y : ℕ) : Type 0 where
  pub rises : (P N Q M : ℕ) → Worth (date x) P N L → Worth (date y) Q M L → P + M ≤ Q + N
  pub tied : (P N Q M : ℕ) → Worth (date x) P N L → Worth (date y) Q M L → P + M ≡ Q + N → x < y

-- an accepted stamp of the run from place `from` up to `to` that contradicts the stamp at i: it stands before i and is later, or behind i and is earlier; ms
-- are the numbers after the call
pub record Contrary (lt : ℕ → ℕ → Bool) (ms : List ℕ) (from to i : ℕ) : Type 0 where
  pub place : ℕ
  pub low : from ≤ place
  pub high : place < to
  pub in_line : get_or ms place 0 ≡ 0
  pub against : ((place < i) × (lt i place ≡ true)) ⊎ ((i < place) × (lt place i ≡ true))

-- who came in refused keeps the number; who came in with 0 is accepted, or gets 17 and there is such a stamp
pub record RunJudged (lt : ℕ → ℕ → Bool) (ns ms : List ℕ) (from to i : ℕ) : Type 0 where
  pub refused : (get_or ns i 0 ≡ 0 → ⊥) → get_or ms i 0 ≡ get_or ns i 0
  pub left_out : get_or ns i 0 ≡ 0 → (get_or ms i 0 ≡ 0) ⊎ ((get_or ms i 0 ≡ 17) × Contrary lt ms from to i)

-- who is accepted has no such stamp
pub record RightlyIn (lt : ℕ → ℕ → Bool) (ms : List ℕ) (from to i : ℕ) : Type 0 where
  pub none : get_or ms i 0 ≡ 0 → Contrary lt ms from to i → ⊥

-- ---- in exact numbers

-- an accepted stamp of the run before place i whose exact sum is greater than that at i, or behind it whose exact sum is smaller
pub record Overtaken (date : ℕ → JulianDate) (ms : List ℕ) (from to i : ℕ) : Type 0 where
  pub place : ℕ
  pub low : from ≤ place
  pub high : place < to
  pub in_line : get_or ms place 0 ≡ 0
  pub against : ((place < i) × ((P N Q M : ℕ) → Worth (date i) P N L → Worth (date place) Q M L → P + M < Q + N))
      ⊎ ((i < place) × ((P N Q M : ℕ) → Worth (date i) P N L → Worth (date place) Q M L → Q + N < P + M))

-- why the stamp at place i of the run from `from` up to `to` has its number after the call: its own where it was refused before; 9 where it has no place in the
-- order; 17 where an accepted one contradicts it; else 0
pub record LineVerdict (date : ℕ → JulianDate) (ns ms : List ℕ) (from to i : ℕ) : Type 0 where
  pub refused : (get_or ns i 0 ≡ 0 → ⊥) → get_or ms i 0 ≡ get_or ns i 0
  pub unordered : get_or ns i 0 ≡ 0 → has_place (date i) ≡ false → get_or ms i 0 ≡ 9
  pub sound : get_or ns i 0 ≡ 0 → has_place (date i) ≡ true → (get_or ms i 0 ≡ 0) ⊎ ((get_or ms i 0 ≡ 17) × Overtaken date ms from to i)
  pub in_line : get_or ms i 0 ≡ 0 → Overtaken date ms from to i → ⊥

-- of the run from `from` up to `to` no more stamps that came in with 0 and have a place in the order rise than are accepted: xs are their places, one after the
-- other
abbrev pub RunMost : (ℕ → JulianDate) → List ℕ → ℕ → ℕ → List ℕ → Type 0
RunMost date ns from to ms = (xs : List ℕ) → Upward from xs → Each (λ (x : ℕ). (x < to) × ((get_or ns x 1 ≡ 0) × (has_place (date x) ≡ true))) xs
    → Rises (by date) xs
    → length xs ≤ length (zeros from (slice from to ms))

-- the places p, and the numbers ms after the call, of three runs of stamps that end at places a, b and the length
pub record OneLine (date : ℕ → JulianDate) (ns : List ℕ) (a b : ℕ) (line ms : List ℕ) : Type 0 where
  pub as_many : length ms ≡ length ns
  pub once : (p : ℕ) → times_in p line ≡ cond (eqb (get_or ms p 1) 0) 1 0
  pub every_place : (p : ℕ) → times_in p line + times_in p (not_in_line 0 ms) ≡ cond (ltb p (length ns)) 1 0
  pub first_run : (i : ℕ) → i < a → LineVerdict date ns ms 0 a i
  pub second_run : (i : ℕ) → a ≤ i → i < b → LineVerdict date ns ms a b i
  pub third_run : (i : ℕ) → b ≤ i → i < length ns → LineVerdict date ns ms b (length ns) i
  pub most : RunMost date ns 0 a ms × (RunMost date ns a b ms × RunMost date ns b (length ns) ms)
  pub in_order : Pairs (InOrder date) line
  pub only : (ys : List ℕ) → ((p : ℕ) → times_in p ys ≡ cond (eqb (get_or ms p 1) 0) 1 0) → Pairs (InOrder date) ys → ys ≡ line

-- how many of the numbers are 0
unfoldable pub zeros_in : List ℕ → ℕ
zeros_in [] = 0
zeros_in (m ∷ ms) = cond (eqb m 0) 1 0 + zeros_in ms

-- what a call that is not refused answers and leaves
pub record Lined (js ks ns : List ℕ) (first second : ℕ) (out : List ℕ) (l : LinedUp) : Type 0 where
  pub line : List ℕ
  pub answers : l.answer ≡ answer (length line)
  pub counted : length line ≡ zeros_in l.numbers
  pub places : l.out ≡ places_bytes line ++ drop (4 * length line) out
  pub right : OneLine (stamp_of js ks) ns first (first + second) line l.numbers
