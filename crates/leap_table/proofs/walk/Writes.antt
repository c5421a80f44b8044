-- Offsets written one after the other into a lent list, as floats or as bytes. Assumes nothing.
use Rattle.std.proofs.Common.{◌≡◌, ℕ, zero, suc, ◌+◌, ◌-◌, ◌*◌, ◌<◌, ◌≤◌, List, [], ◌∷◌, ◌++◌, map, length, take, drop, set, sym, ap, ◌∙◌, subst}
use Rattle.std.proofs.Common.{append_assoc, mul-zero, mul-suc, arith, length-append, length-drop, take-append-drop, length-take-le, drop-drop, take_at, drop_at}
use lib.Ieee.{Float}
use lib.Seq.{set_split}
use Rattle.leap_table.specs.declared.judging.Triple.{Triple}
use Rattle.leap_table.specs.judging.Lists.{dates_from}
use Rattle.leap_table.proofs.judging.Judges.{next-date, no_date}

-- Up to place `at` all is written; `rest` is what the list is to hold from there on, and still holds what it held.
pub record Putting {A : Type 0} (all rest before now : List A) (at : ℕ) : Type 0 where
  pub long : length now ≡ length before
  pub done : all ≡ take at now ++ rest
  pub kept : drop at now ≡ drop at before

module _ {A : Type 0} (all before : List A) where
  pub putting_goes : (rest rest' now now' vs : List A) (at : ℕ) → Putting all rest before now at → rest ≡ vs ++ rest' → now' ≡ take at now
      ++ (vs ++ drop (at + length vs) now) → at + length vs ≤ length now → Putting all rest' before now' (at + length vs)
  putting_goes rest rest' now now' vs at p e o h =
      let q : now' ≡ (take at now ++ vs) ++ drop (at + length vs) now = o ∙ sym (append_assoc (take at now) vs (drop (at + length vs) now)) in
      let n : length (take at now ++ vs) ≡ at + length vs = length-append (take at now) vs
      ∙ ap (λ (k : ℕ). k + length vs) (length-take-le at now (omega arith)) in
      let d : drop (at + length vs) now' ≡ drop (at + length vs) now = ap (drop (at + length vs)) q
      ∙ drop_at (take at now ++ vs) (drop (at + length vs) now) (at + length vs) n in
      record {
        long = whole now' q n;
        done = p.done ∙ ap (λ (r : List A). take at now ++ r) e ∙ sym (append_assoc (take at now) vs rest')
            ∙ ap (λ (t : List A). t ++ rest') (sym (ap (take (at + length vs)) q ∙ take_at (take at now ++ vs) (drop (at + length vs) now) (at + length vs) n));
        kept = d ∙ sym (drop-drop (length vs) at now) ∙ ap (drop (length vs)) p.kept ∙ drop-drop (length vs) at before;
      }
    where
      whole : (x : List A) → x ≡ (take at now ++ vs) ++ drop (at + length vs) now → length (take at now ++ vs) ≡ at + length vs → length x ≡ length before
      whole x q n = ap length q ∙ length-append (take at now ++ vs) (drop (at + length vs) now) ∙ ap (λ (k : ℕ). k + length (drop (at + length vs) now)) n
          ∙ back (length-drop (at + length vs) now) ∙ p.long
        where
          back : length (drop (at + length vs) now) ≡ length now - (at + length vs) → at + length vs + length (drop (at + length vs) now) ≡ length now
          back z = omega arith

  pub putting_ends : (now : List A) (at : ℕ) → Putting all (drop at before) before now at → now ≡ all
  putting_ends now at p = sym (take-append-drop at now) ∙ ap (λ (r : List A). take at now ++ r) p.kept ∙ sym p.done

-- one element
pub one-put : {A : Type 0} (l : List A) (i : ℕ) (a : A) → i < length l → set l i a ≡ take i l ++ ((a ∷ []) ++ drop (i + 1) l)
one-put l i a h = let e : i + 1 ≡ suc i = omega arith in set_split l i a h ∙ rw e

-- ---- the offsets of dates, each written by `put` in `size` places, the i-th from place `at i` on
module _ {A : Type 0} (write : List Float → List A) (put : Float → List A) (size : ℕ) (at : ℕ → ℕ) (none : at 0 ≡ 0) (more : (i : ℕ) → at (i + 1) ≡ at i + size)
    (nil : write [] ≡ []) (cons : (x : Float) (l : List Float) → write (x ∷ l) ≡ put x ++ write l) (each : (x : Float) → length (put x) ≡ size)
    (off : Triple → Float) (f : ℕ → Triple) (n : ℕ) (before : List A) where
  abbrev pub whole : List A
  whole = write (map off (dates_from f 0 n)) ++ drop (at n) before

  abbrev pub rest : ℕ → List A
  rest i = write (map off (dates_from f i (n - i))) ++ drop (at n) before

  pub writing_goes : (i : ℕ) (now now' : List A) (x : Float) → i < n → Putting whole (rest i) before now (at i) → x ≡ off (f i) → now' ≡ take (at i) now
      ++ (put x ++ drop (at i + size) now) → at i + size ≤ length now → Putting whole (rest (i + 1)) before now' (at (i + 1))
  writing_goes i now now' x h p e o l =
      subst (λ (k : ℕ). Putting whole (rest (i + 1)) before now' k) (ap (λ (k : ℕ). at i + k) (each x) ∙ sym (more i))
      (putting_goes whole before (rest i) (rest (i + 1)) now now' (put x) (at i) p
      (ap (λ (d : List Triple). write (map off d) ++ drop (at n) before) (next-date f n i h)
      ∙ ap (λ (y : List A). y ++ drop (at n) before)
      (ap (λ (y : Float). write (y ∷ map off (dates_from f (i + 1) (n - (i + 1))))) (sym e) ∙ cons x (map off (dates_from f (i + 1) (n - (i + 1)))))
      ∙ append_assoc (put x) (write (map off (dates_from f (i + 1) (n - (i + 1))))) (drop (at n) before))
      (o ∙ ap (λ (k : ℕ). take (at i) now ++ (put x ++ drop (at i + k) now)) (sym (each x)))
      (omega (arith, each x)))

  pub writing_ends : (i : ℕ) (now : List A) → i ≤ n → n ≤ i → Putting whole (rest i) before now (at i) → now ≡ whole
  writing_ends i now h g p =
      let e : n ≡ i = omega arith in
      putting_ends whole before now (at i)
      (subst (λ (r : List A). Putting whole r before now (at i))
      (ap (λ (d : List Triple). write (map off d) ++ drop (at n) before) (no_date f n i g) ∙ ap (λ (y : List A). y ++ drop (at n) before) nil
      ∙ ap (λ (k : ℕ). drop (at k) before) e) p)

  pub written-length : (k i : ℕ) → length (write (map off (dates_from f i k))) ≡ size * k
  unfolding dates_from
  written-length zero i = ap length nil ∙ sym (mul-zero size)
  written-length (suc k) i =
      ap length (cons (off (f i)) (map off (dates_from f (suc i) k)))
      ∙ length-append (put (off (f i))) (write (map off (dates_from f (suc i) k)))
      ∙ (λ x. each (off (f i)) x + written-length k (suc i) x)
      ∙ one_more size (size * k) (size * suc k) (mul-suc size k)
    where
      one_more : (s p t : ℕ) → t ≡ p + s → s + p ≡ t
      one_more s p t e = omega arith
