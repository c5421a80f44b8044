-- What becomes of a text, and why: no line is at fault, or the first that is. For the laws; no contract cites it. Assumes nothing.
use Rattle.std.specs.Prelude.{ℕ, zero, suc, ◌+◌, ◌<◌, ◌≡◌, List, [], ◌∷◌, length, get_or}
use Rattle.leap_lists.specs.declared.held.Held.{Held}
use Rattle.leap_lists.specs.lines.Lines.{line_says}
use Rattle.leap_lists.specs.Held.{line_fault, with_line}
use Rattle.leap_lists.specs.Reading.{ListAnswer, answered, refused_at}

-- what is held behind the first i lines
unfoldable pub held_to : Held → List (List ℕ) → ℕ → Held
held_to h ls zero = h
held_to h [] (suc i) = h
held_to h (l ∷ ls) (suc i) = held_to (with_line h (line_says l)) ls i

-- the number by which line i is refused, counted from 0; 0 where it is not
abbrev pub fault_at : Held → List (List ℕ) → ℕ → ℕ
fault_at h ls i = line_fault (held_to h ls i) (line_says (get_or ls i []))

-- of lines of which `before` others stand in front
pub data ListVerdict (h : Held) (before : ℕ) (ls : List (List ℕ)) (r : ListAnswer) : Type 0 where
  taken : ((i : ℕ) → i < length ls → fault_at h ls i ≡ 0) → r ≡ answered (held_to h ls (length ls)) → ListVerdict h before ls r
  refused : (i : ℕ) → i < length ls → ((j : ℕ) → j < i → fault_at h ls j ≡ 0) → (fault_at h ls i ≡ 0 → ⊥)
      → r ≡ refused_at (fault_at h ls i) (before + suc i) → ListVerdict h before ls r
