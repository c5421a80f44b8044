-- The answers of a run put one after the other. Assumes nothing.
use Prim.Native.Nat.{ℕ, zero, suc, ◌+◌, ◌*◌, ◌%◌, ◌<◌, ◌≤◌}
use native.Mathlib.Omega.{arith}
use native.Mathlib.Numerals.{add-one}
use mathlib.Core.Path.{◌≡◌, refl, sym, ap, subst, ◌∙◌}
use mathlib.Core.Bool.{Bool, true, false, cond}
use mathlib.Core.List.{List}
use lib.Dec.{eqb}
use lib.ListN.{length, set, length-set}
use lib.Seq.{sets, length-sets}
use lib.Ieee.{Float, binary64, to_bits}
use Rattle.refusals.specs.Outcome.{Outcome, answer, refusal}
use Rattle.numerals.specs.little_endian.LittleEndian.{eight_bytes}
use Rattle.julian.specs.declared.JulianDate.{JulianDate}
use Rattle.runs.specs.by_formula.Run.{first_part, second_part, number_byte, with_part, with_parts, with_numbers, refused_among}
use Rattle.runs.specs.by_formula.Asked.{HasPlace, Roomy, StampPut, RunPut}

pub part_length : (part : JulianDate → Float) (o : Outcome JulianDate) (i : ℕ) (l : List ℕ) → length (with_part part o i l) ≡ length l
unfolding with_part
part_length part (answer d) i l = length-sets l (8 * i) (eight_bytes (to_bits binary64 (part d)))
part_length part (refusal k) i l = refl

pub parts-length : (part : JulianDate → Float) (f : ℕ → Outcome JulianDate) (n : ℕ) (l : List ℕ) → length (with_parts part f n l) ≡ length l
unfolding with_parts
parts-length part f zero l = refl
parts-length part f (suc n) l = part_length part (f n) n (with_parts part f n l) ∙ parts-length part f n l

pub numbers-length : (f : ℕ → Outcome JulianDate) (n : ℕ) (l : List ℕ) → length (with_numbers f n l) ≡ length l
unfolding with_numbers
numbers-length f zero l = refl
numbers-length f (suc n) l = length-set (with_numbers f n l) n (number_byte (f n)) ∙ numbers-length f n l

-- ---- one stamp
pub put_refused : (o : Outcome JulianDate) (k i r : ℕ) (out1 out2 : List ℕ) → o ≡ refusal k → r ≡ k % 256 → StampPut o i out1 out2 r out1 out2
unfolding number_byte with_part
put_refused o k i r out1 out2 e h = rw e (record { number = h; first = refl; second = refl })

pub put-answered : (o : Outcome JulianDate) (d : JulianDate) (i : ℕ) (out1 out2 out1' out2' : List ℕ) → o ≡ answer d
    → out1' ≡ sets out1 (8 * i) (eight_bytes (to_bits binary64 d.jd1)) → out2' ≡ sets out2 (8 * i) (eight_bytes (to_bits binary64 d.jd2))
    → StampPut o i out1 out2 0 out1' out2'
unfolding number_byte with_part
put-answered o d i out1 out2 out1' out2' e f g = rw e (record { number = refl; first = f; second = g })

pub put_same : {o o' : Outcome JulianDate} {i r : ℕ} {out1 out2 out1' out2' : List ℕ} → o ≡ o' → StampPut o i out1 out2 r out1' out2'
    → StampPut o' i out1 out2 r out1' out2'
put_same {i = i} {r = r} {out1 = out1} {out2 = out2} {out1' = out1'} {out2' = out2'} e s =
    subst (λ (x : Outcome JulianDate). StampPut x i out1 out2 r out1' out2') e s

-- the same with the patterns that are put
pub put-patterns : (o : Outcome JulianDate) (d : JulianDate) (i : ℕ) (out1 out2 out1' out2' : List ℕ) (a b : ℕ) → o ≡ answer d → a ≡ to_bits binary64 d.jd1
    → b ≡ to_bits binary64 d.jd2
    → out1' ≡ sets out1 (8 * i) (eight_bytes a) → out2' ≡ sets out2 (8 * i) (eight_bytes b)
    → StampPut o i out1 out2 0 out1' out2'
put-patterns o d i out1 out2 out1' out2' a b e p q f g =
    put-answered o d i out1 out2 out1' out2' e (f ∙ ap (λ (n : ℕ). sets out1 (8 * i) (eight_bytes n)) p)
    (g ∙ ap (λ (n : ℕ). sets out2 (8 * i) (eight_bytes n)) q)

-- ---- a run
pub run-same : {f g : ℕ → Outcome JulianDate} {n r : ℕ} {out1 out2 numbers out1' out2' numbers' : List ℕ} → ((i : ℕ) → f i ≡ g i)
    → RunPut f n out1 out2 numbers r out1' out2' numbers' → RunPut g n out1 out2 numbers r out1' out2' numbers'
run-same {n = n} {r = r} {out1 = out1} {out2 = out2} {numbers = numbers} {out1' = out1'} {out2' = out2'} {numbers' = numbers'} e p =
    subst (λ (h : ℕ → Outcome JulianDate). RunPut h n out1 out2 numbers r out1' out2' numbers') (λ k i. e i k) p

one_at_most : (b : Bool) → cond b 0 1 ≤ 1
one_at_most true = omega arith
one_at_most false = omega arith

pub at_most : (f : ℕ → Outcome JulianDate) (n : ℕ) → refused_among f n ≤ n
unfolding refused_among
at_most f zero = omega arith
at_most f (suc n) = omega (arith, at_most f n, one_at_most (eqb (number_byte (f n)) 0))

-- i stamps of n are put
pub record Putting (f : ℕ → Outcome JulianDate) (n : ℕ) (out1₀ out2₀ numbers₀ out1 out2 numbers : List ℕ) (refused i : ℕ) : Type 0 where
  pub high : i ≤ n
  pub put : RunPut f i out1₀ out2₀ numbers₀ refused out1 out2 numbers

module _ {f : ℕ → Outcome JulianDate} {n : ℕ} {out1₀ out2₀ numbers₀ : List ℕ} where
  pub putting_starts : Putting f n out1₀ out2₀ numbers₀ out1₀ out2₀ numbers₀ 0 0
  unfolding with_parts with_numbers refused_among
  putting_starts = record { high = omega arith; put = record { count = refl; first = refl; second = refl; third = refl } }

  module _ {out1 out2 numbers : List ℕ} {refused i : ℕ} (p : Putting f n out1₀ out2₀ numbers₀ out1 out2 numbers refused i) where
    pub len1 : length out1 ≡ length out1₀
    len1 = ap length p.put.first ∙ parts-length first_part f i out1₀

    pub len2 : length out2 ≡ length out2₀
    len2 = ap length p.put.second ∙ parts-length second_part f i out2₀

    pub len3 : length numbers ≡ length numbers₀
    len3 = ap length p.put.third ∙ numbers-length f i numbers₀

    pub few : refused ≤ i
    few = omega (arith, p.put.count, at_most f i)

    module _ {js ks : List ℕ} (room : Roomy n js ks out1₀ out2₀ numbers₀) (h : i < n) where
      -- stamp i has its places, and its byte for the number
      pub has-places : HasPlace i out1 out2
      has-places = (omega (arith, h, room.places1, len1), omega (arith, h, room.places2, len2))

      pub has-byte : i < length numbers
      has-byte = omega (arith, h, room.bytes, len3)

    pub putting_goes : {out1' out2' : List ℕ} {r one : ℕ} → i < n → StampPut (f i) i out1 out2 r out1' out2' → one ≡ cond (eqb r 0) 0 1
        → Putting f n out1₀ out2₀ numbers₀ out1' out2' (set numbers i r) (refused + one) (i + 1)
    unfolding with_parts with_numbers refused_among
    putting_goes {out1' = out1'} {out2' = out2'} {r = r} {one = one} h s e =
        subst (λ (j : ℕ). Putting f n out1₀ out2₀ numbers₀ out1' out2' (set numbers i r) (refused + one) j) (sym (add-one i))
        (record {
          high = omega arith;
          put = record {
            count = (λ k. p.put.count k + (e ∙ ap (λ (x : ℕ). cond (eqb x 0) 0 1) s.number) k);
            first = s.first ∙ ap (with_part first_part (f i) i) p.put.first;
            second = s.second ∙ ap (with_part second_part (f i) i) p.put.second;
            third = (λ k. set (p.put.third k) i (s.number k));
          };
        })

    pub putting_ends : n ≤ i → RunPut f n out1₀ out2₀ numbers₀ refused out1 out2 numbers
    putting_ends h =
        let e : i ≡ n = omega (arith, p.high) in
        subst (λ (j : ℕ). RunPut f j out1₀ out2₀ numbers₀ refused out1 out2 numbers) e p.put
