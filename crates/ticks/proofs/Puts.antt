-- Numbers written one after the other into a lent list, and the list after the last. Assumes nothing.
use Prim.Native.Nat.{ℕ, ◌+◌, ◌*◌, ◌<◌, ◌≤◌}
use native.Mathlib.Omega.{arith}
use native.Mathlib.Numerals.{add-one}
use mathlib.Core.Path.{◌≡◌, refl, sym, ap, ◌∙◌}
use mathlib.Core.List.{List, ◌++◌}
use lib.ListN.{length, take, drop, length-append}
use lib.Seq.{sets, sets-eq, length-sets, length-take-le, take_at, drop_at, drop-drop}
use Rattle.numerals.specs.little_endian.LittleEndian.{eight_bytes}
use Rattle.ticks.specs.Ticks.{bytes_of}

module _ (out : List ℕ) (at n : ℕ) (h : at + 8 ≤ length out) where
  pub put : sets out at (eight_bytes n) ≡ (take at out ++ eight_bytes n) ++ drop (at + 8) out
  put = sets-eq (eight_bytes n) out at h

  put-length : length (take at out ++ eight_bytes n) ≡ at + 8
  put-length = length-append (take at out) (eight_bytes n) ∙ ap (λ (k : ℕ). k + 8) (length-take-le at out (omega arith))

  put-take : take (at + 8) (sets out at (eight_bytes n)) ≡ take at out ++ eight_bytes n
  put-take = ap (take (at + 8)) put ∙ take_at (take at out ++ eight_bytes n) (drop (at + 8) out) (at + 8) put-length

  pub put-drop : drop (at + 8) (sets out at (eight_bytes n)) ≡ drop (at + 8) out
  put-drop = ap (drop (at + 8)) put ∙ drop_at (take at out ++ eight_bytes n) (drop (at + 8) out) (at + 8) put-length

later : (out out₀ : List ℕ) (at : ℕ) → drop at out ≡ drop at out₀ → drop (at + 8) out ≡ drop (at + 8) out₀
later out out₀ at e = sym (drop-drop 8 at out) ∙ ap (drop 8) e ∙ drop-drop 8 at out₀

-- i numbers are written, and j is the last neighbour
pub record Placing (f : ℕ → ℕ) (k : ℕ) (out₀ out : List ℕ) (i j : ℕ) : Type 0 where
  pub len : length out ≡ length out₀
  pub near : j ≤ k
  pub done : take (8 * i) out ≡ bytes_of f i
  pub rest : drop (8 * i) out ≡ drop (8 * i) out₀

module _ (f : ℕ → ℕ) (k : ℕ) (out₀ : List ℕ) where
  pub placing_starts : Placing f k out₀ out₀ 0 0
  unfolding bytes_of
  placing_starts = record { len = refl; near = omega arith; done = refl; rest = refl }

  pub placing_goes : (out out' : List ℕ) (i j j' m n : ℕ) → Placing f k out₀ out i j → i < n → 8 * n ≤ length out₀ → j' ≤ k → m ≡ f i
      → out' ≡ sets out (8 * i) (eight_bytes m) → Placing f k out₀ out' (i + 1) j'
  unfolding bytes_of
  placing_goes out out' i j j' m n p h room near em eo =
      let q : 8 * (i + 1) ≡ 8 * i + 8 = omega arith in
      let w : 8 * i + 8 ≤ length out = omega (arith, p.len) in
      record {
        len = ap length eo ∙ length-sets out (8 * i) (eight_bytes m) ∙ p.len;
        near = near;
        done =
            ap (λ (x : ℕ). take x out') q ∙ ap (take (8 * i + 8)) eo ∙ put-take out (8 * i) m w
            ∙ ap (λ (l : List ℕ). l ++ eight_bytes m) p.done
            ∙ ap (λ (x : ℕ). bytes_of f i ++ eight_bytes x) em
            ∙ ap (bytes_of f) (sym (add-one i));
        rest =
            ap (λ (x : ℕ). drop x out') q ∙ ap (drop (8 * i + 8)) eo ∙ put-drop out (8 * i) m w ∙ later out out₀ (8 * i) p.rest
            ∙ ap (λ (x : ℕ). drop x out₀) (sym q);
      }
