-- Lists of ticks and milliseconds as bytes, eight for a number, the lowest first, and what the lent list holds after the call. Written from document 02, item
-- 10, and item 2: "spare places of a lent list stay, here and later". Which lists are refused says ticks::judging. Assumes nothing.
use Rattle.std.specs.Prelude.{ℕ, zero, suc, ◌≡◌, cond, List, [], ◌++◌, length, drop, eqb, Result}
use Rattle.refusals.specs.declared.Refusal.{Refusal}
use Rattle.refusals.specs.Outcome.{Outcome, answer, refusal, onward, outcome}
use Rattle.numerals.specs.little_endian.LittleEndian.{eight_bytes}
use Rattle.ticks.specs.judging.Refusing.{number_at, numbers_in, refused_by}
use Rattle.ticks.specs.Passes.{Passes, millis_at}

abbrev pub passes_of : List ℕ → List ℕ → Passes
passes_of ps ms = record { size = numbers_in ps; tick = number_at ps; milli = number_at ms }

-- the bytes of f 0, f 1, .. f (k - 1)
unfoldable pub bytes_of : (ℕ → ℕ) → ℕ → List ℕ
bytes_of f zero = []
bytes_of f (suc k) = bytes_of f k ++ eight_bytes (f k)

-- the bytes of the milliseconds, or the refusal
unfoldable pub placed_ticks : List ℕ → List ℕ → List ℕ → ℕ → Outcome (List ℕ)
placed_ticks ps ms ts room =
    cond (eqb (refused_by ps ms ts room) 0)
    (answer (bytes_of (λ i. millis_at (passes_of ps ms) (number_at ts i)) (numbers_in ts)))
    (refusal (refused_by ps ms ts room))

-- the results at the start of the lent list and the rest as it was; refused, all as it was
unfoldable pub lent_after : Outcome (List ℕ) → List ℕ → List ℕ
lent_after (answer bytes) l = bytes ++ drop (length bytes) l
lent_after (refusal k) l = l

-- r is the number of bytes written, or the refusal, and the lent list, which held `before`, holds `after`
pub record TicksCall (o : Outcome (List ℕ)) (before : List ℕ) (r : Result ℕ Refusal) (after : List ℕ) : Type 0 where
  pub says : outcome r ≡ onward o (λ bytes. answer (length bytes))
  pub holds : after ≡ lent_after o before
