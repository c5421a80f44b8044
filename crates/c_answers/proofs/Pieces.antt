-- An answer put piece by piece: each behind the one before, in what is left of the buffer. Assumes nothing.
use Prim.Native.Nat.{ℕ, ◌+◌, ◌-◌, ◌≤◌}
use native.Mathlib.Omega.{arith}
use mathlib.Core.Path.{◌≡◌, sym, ap, subst, ◌∙◌}
use mathlib.Core.List.{List, [], ◌++◌, append_assoc, append-nil}
use lib.ListN.{length, take, drop, length-append, length-drop}
use lib.Seq.{take-length, drop-length, take_at, drop_at, drop-drop}
use lib.IntN.{ℤ, pos}
use borrow.Rule.Slice.PartMut.{mid_of, post_of, put_mid}
use borrow.Author.Tests.{le-leb}
use Rattle.refusals.specs.Outcome.{answer, onward}
use Rattle.utc.specs.text.Answer.{text_written, buffer_after}
use Rattle.utc.specs.iso_texts.TextCall.{written, buffer_holds}
use Rattle.c_answers.specs.Delivery.{code, Delivered}

-- what the buffer holds after a piece that fits
pub held : {t l out : List ℕ} {r : ℤ} → length t ≤ length l → Delivered (answer t) l r out → out ≡ t ++ drop (length t) l
unfolding buffer_holds buffer_after
held {t} {l} h p = p.holds ∙ simp (le-leb _ _ h)

-- all that t has, by its length
pub delivered_whole : {t l out : List ℕ} (n : ℕ) → length t ≡ n → n ≤ length l → out ≡ t ++ drop n l → Delivered (answer t) l (pos n) out
unfolding written onward text_written buffer_holds buffer_after code
delivered_whole {t} {l} n e h eo =
    let fits : length t ≤ length l = omega (arith, e) in
    let w : written (answer t) (length l) ≡ answer (length t) = simp (le-leb _ _ fits) in
    record { returned = ap pos (sym e) ∙ sym (ap code w); holds = eo ∙ ap (λ (k : ℕ). t ++ drop k l) (sym e) ∙ simp (le-leb _ _ fits) }

pub of_bytes : {s t l out : List ℕ} {r : ℤ} → s ≡ t → Delivered (answer s) l r out → Delivered (answer t) l r out
of_bytes {l = l} {out = out} {r = r} e p = subst (λ (x : List ℕ). Delivered (answer x) l r out) e p

module _ (s t l m part : List ℕ) (a : ℕ) (e : length s ≡ a) (first : m ≡ s ++ drop a l) where
  left_over : drop a m ≡ drop a l
  left_over = ap (drop a) first ∙ drop_at s (drop a l) a e

  count : length m - a ≡ length (drop a m)
  count = sym (length-drop a m)

  lent : mid_of a (length m - a) m ≡ drop a l
  lent = ap (λ (k : ℕ). take k (drop a m)) count ∙ take-length (drop a m) ∙ left_over

  none_behind : post_of a (length m - a) m ≡ []
  none_behind = ap (λ (k : ℕ). drop k (drop a m)) count ∙ drop-length (drop a m)

  -- s stands at the start, and t was put behind it
  pub behind : {r : ℤ} → a + length t ≤ length l → Delivered (answer t) (mid_of a (length m - a) m) r part → put_mid a (length m - a) m part ≡ (s ++ t)
      ++ drop (a + length t) l
  behind room p =
      let fits : length t ≤ length (mid_of a (length m - a) m) = omega (arith, ap length lent, length-drop a l) in
      let start : take a m ≡ s = ap (take a) first ∙ take_at s (drop a l) a e in
      let put : part ≡ t ++ drop (a + length t) l = held fits p ∙ ap (λ (x : List ℕ). t ++ drop (length t) x) lent
      ∙ ap (λ (x : List ℕ). t ++ x) (drop-drop (length t) a l) in
      (λ i. start i ++ (put i ++ none_behind i)) ∙ ap (λ (x : List ℕ). s ++ x) (append-nil _) ∙ sym (append_assoc s t (drop (a + length t) l))

-- an answer in two pieces, and in three
pub in_two : (s t l m part : List ℕ) {r r' : ℤ} (a n : ℕ) → length s ≡ a → a + length t ≡ n → n ≤ length l → Delivered (answer s) l r m
    → Delivered (answer t) (mid_of a (length m - a) m) r' part → Delivered (answer (s ++ t)) l (pos n) (put_mid a (length m - a) m part)
in_two s t l m part a n e all room p q =
    let first : m ≡ s ++ drop a l = held (omega (arith, e)) p ∙ ap (λ (k : ℕ). s ++ drop k l) e in
    delivered_whole n (length-append s t ∙ omega (arith, e)) room (behind s t l m part a e first (omega arith) q ∙ ap (λ (k : ℕ). (s ++ t) ++ drop k l) all)

pub in_three : (s t u l m m' part part' : List ℕ) {r r' r'' : ℤ} (a b n : ℕ) → length s ≡ a → a + length t ≡ b → b + length u ≡ n → n ≤ length l
    → Delivered (answer s) l r m → Delivered (answer t) (mid_of a (length m - a) m) r' part → m' ≡ put_mid a (length m - a) m part
    → Delivered (answer u) (mid_of b (length m' - b) m') r'' part' → Delivered (answer ((s ++ t) ++ u)) l (pos n) (put_mid b (length m' - b) m' part')
in_three s t u l m m' part part' a b n e ab all room p q em w =
    let first : m ≡ s ++ drop a l = held (omega (arith, e)) p ∙ ap (λ (k : ℕ). s ++ drop k l) e in
    let second : m' ≡ (s ++ t) ++ drop b l = em ∙ behind s t l m part a e first (omega arith) q ∙ ap (λ (k : ℕ). (s ++ t) ++ drop k l) ab in
    let st : length (s ++ t) ≡ b = length-append s t ∙ omega (arith, e) in
    delivered_whole n (length-append (s ++ t) u ∙ omega (arith, st)) room
    (behind (s ++ t) u l m' part' b st second (omega arith) w ∙ ap (λ (k : ℕ). ((s ++ t) ++ u) ++ drop k l) all)
