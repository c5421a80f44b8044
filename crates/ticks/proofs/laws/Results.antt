-- A number is read back from where it was written in the lent list. Assumes nothing.
use Prim.Native.Nat.{ℕ, zero, suc, ◌+◌, ◌*◌, ◌<◌}
use native.Mathlib.Omega.{arith}
use native.Mathlib.Decide.{dec_lt}
use mathlib.Core.Path.{◌≡◌, refl, sym, ap, subst, ◌∙◌}
use mathlib.Core.List.{List, ◌++◌, append_assoc}
use lib.ListN.{length, take, drop, length-append}
use lib.Seq.{take_at, drop_at}
use Rattle.numerals.specs.little_endian.LittleEndian.{u64_at, eight_bytes}
use Rattle.numerals.proofs.little_endian.RoundTrip.{read-written}
use Rattle.ticks.specs.judging.Refusing.{number_at}
use Rattle.ticks.specs.Ticks.{bytes_of}
use Rattle.numerals.proofs.little_endian.Parts.{eight_in_part}
use Rattle.ticks.proofs.Calls.{length-bytes}

eight_there : (f : ℕ → ℕ) (n : ℕ) (rest : List ℕ) (i : ℕ) → i < n → take 8 (drop (8 * i) (bytes_of f n ++ rest)) ≡ eight_bytes (f i)
unfolding bytes_of
eight_there f zero rest i h = absurd (omega arith)
eight_there f (suc n) rest i h =
    ap (λ (l : List ℕ). take 8 (drop (8 * i) l)) (append_assoc (bytes_of f n) (eight_bytes (f n)) rest)
    ∙ go (eight_there f n (eight_bytes (f n) ++ rest) i) (dec_lt i n)
  where
    go : (i < n → take 8 (drop (8 * i) (bytes_of f n ++ (eight_bytes (f n) ++ rest))) ≡ eight_bytes (f i)) → Dec (i < n)
        → take 8 (drop (8 * i) (bytes_of f n ++ (eight_bytes (f n) ++ rest))) ≡ eight_bytes (f i)
    go hyp (yes k) = hyp k
    go hyp (no k) =
        let e : n ≡ i = omega arith in
        subst (λ (j : ℕ). take 8 (drop (8 * j) (bytes_of f n ++ (eight_bytes (f n) ++ rest))) ≡ eight_bytes (f j)) e
        (ap (take 8) (drop_at (bytes_of f n) (eight_bytes (f n) ++ rest) (8 * n) (length-bytes f n)) ∙ take_at (eight_bytes (f n)) rest 8 refl)

pub result-at : (f : ℕ → ℕ) (n : ℕ) (rest : List ℕ) (i : ℕ) → i < n → f i < 18446744073709551616 → number_at (bytes_of f n ++ rest) i ≡ f i
result-at f n rest i h k =
    let l : length (bytes_of f n ++ rest) ≡ 8 * n + length rest = length-append (bytes_of f n) rest ∙ ap (λ (x : ℕ). x + length rest) (length-bytes f n) in
    sym (eight_in_part (bytes_of f n ++ rest) (8 * i) (omega arith)) ∙ ap (λ (s : List ℕ). u64_at s 0) (eight_there f n rest i h) ∙ read-written (f i) k
