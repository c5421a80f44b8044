-- The milliseconds of a run put one after the other. Assumes nothing.
use Prim.Native.Nat.{ℕ, zero, suc, ◌+◌, ◌*◌, ◌%◌, ◌<◌, ◌≤◌}
use native.Mathlib.Omega.{arith}
use native.Mathlib.Numerals.{add-one}
use mathlib.Core.Path.{◌≡◌, refl, sym, ap, subst, ◌∙◌}
use mathlib.Core.Bool.{Bool, true, false, cond}
use mathlib.Core.List.{List}
use lib.Dec.{eqb}
use lib.ListN.{length, set, length-set}
use lib.Seq.{length-sets}
use Rattle.refusals.specs.Outcome.{Outcome, answer, refusal}
use Rattle.numerals.specs.little_endian.LittleEndian.{eight_bytes, with_nth64}
use Rattle.numerals.proofs.little_endian.Puts.{put-64-is}
use Rattle.since_launch.specs.Run.{millis_number_byte, with_millis, with_all, with_millis_numbers, millis_refused}
use Rattle.since_launch.specs.Asked.{MillisPut, MillisRunPut}

-- ---- lengths
pub millis-kept : (o : Outcome ℕ) (i : ℕ) (l : List ℕ) → length (with_millis o i l) ≡ length l
unfolding with_millis
millis-kept (answer m) i l = length-sets l (8 * i) (eight_bytes m)
millis-kept (refusal k) i l = refl

pub all-kept : (f : ℕ → Outcome ℕ) (n : ℕ) (l : List ℕ) → length (with_all f n l) ≡ length l
unfolding with_all
all-kept f zero l = refl
all-kept f (suc n) l = millis-kept (f n) n (with_all f n l) ∙ all-kept f n l

pub numbers-kept : (f : ℕ → Outcome ℕ) (n : ℕ) (l : List ℕ) → length (with_millis_numbers f n l) ≡ length l
unfolding with_millis_numbers
numbers-kept f zero l = refl
numbers-kept f (suc n) l = length-set (with_millis_numbers f n l) n (millis_number_byte (f n)) ∙ numbers-kept f n l

-- ---- one stamp
pub put-answered : (o : Outcome ℕ) (m i : ℕ) (out out' : List ℕ) → o ≡ answer m → 8 * i + 8 ≤ length out → out' ≡ with_nth64 out i m
    → MillisPut o i out 0 out'
unfolding millis_number_byte with_millis
put-answered o m i out out' e h p = rw e (record { number = refl; bytes = p ∙ put-64-is out i m h })

pub put_refused : (o : Outcome ℕ) (k i : ℕ) (out : List ℕ) → o ≡ refusal k → MillisPut o i out (k % 256) out
unfolding millis_number_byte with_millis
put_refused o k i out e = rw e (record { number = refl; bytes = refl })

-- ---- a run
one_at_most : (b : Bool) → cond b 0 1 ≤ 1
one_at_most true = omega arith
one_at_most false = omega arith

pub at_most : (f : ℕ → Outcome ℕ) (n : ℕ) → millis_refused f n ≤ n
unfolding millis_refused
at_most f zero = omega arith
at_most f (suc n) = omega (arith, at_most f n, one_at_most (eqb (millis_number_byte (f n)) 0))

-- i stamps of n are put
pub record Putting (f : ℕ → Outcome ℕ) (n : ℕ) (out₀ numbers₀ out numbers : List ℕ) (refused i : ℕ) : Type 0 where
  pub high : i ≤ n
  pub put : MillisRunPut f i out₀ numbers₀ refused out numbers

module _ (f : ℕ → Outcome ℕ) (n : ℕ) (out₀ numbers₀ : List ℕ) where
  pub putting_starts : Putting f n out₀ numbers₀ out₀ numbers₀ 0 0
  unfolding with_all with_millis_numbers millis_refused
  putting_starts = record { high = omega arith; put = record { count = refl; first = refl; second = refl } }

  module _ (out numbers : List ℕ) (refused i : ℕ) (p : Putting f n out₀ numbers₀ out numbers refused i) where
    pub len1 : length out ≡ length out₀
    len1 = ap length p.put.first ∙ all-kept f i out₀

    pub len2 : length numbers ≡ length numbers₀
    len2 = ap length p.put.second ∙ numbers-kept f i numbers₀

    pub few : refused ≤ i
    few = omega (arith, p.put.count, at_most f i)

    pub putting_goes : (out' : List ℕ) (r next : ℕ) → i < n → MillisPut (f i) i out r out' → next ≡ refused + cond (eqb r 0) 0 1
        → Putting f n out₀ numbers₀ out' (set numbers i r) next (i + 1)
    unfolding with_all with_millis_numbers millis_refused
    putting_goes out' r next h s e =
        subst (λ (j : ℕ). Putting f n out₀ numbers₀ out' (set numbers i r) next j) (sym (add-one i))
        (record {
          high = omega arith;
          put = record {
            count = e ∙ (λ k. p.put.count k + ap (λ (x : ℕ). cond (eqb x 0) 0 1) s.number k);
            first = s.bytes ∙ ap (with_millis (f i) i) p.put.first;
            second = (λ k. set (p.put.second k) i (s.number k));
          };
        })

    pub putting_ends : n ≤ i → MillisRunPut f n out₀ numbers₀ refused out numbers
    putting_ends h =
        let e : i ≡ n = omega (arith, p.high) in
        subst (λ (j : ℕ). MillisRunPut f j out₀ numbers₀ refused out numbers) e p.put
