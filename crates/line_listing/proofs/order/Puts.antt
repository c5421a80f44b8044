-- Places written one after the other. Assumes nothing.
use Rattle.std.proofs.Common.{◌≡◌, ℕ, ◌+◌, ◌*◌, ◌≤◌, List, [], ◌∷◌, ◌++◌, length, take, drop, sym, refl, ap, ◌∙◌, append_assoc, append-nil, arith}
use Rattle.std.proofs.Common.{length-append}
use lib.Seq.{sets, length-sets}
use Rattle.numerals.specs.little_endian.LittleEndian.{four_bytes, with_nth32}
use Rattle.numerals.proofs.little_endian.Puts.{put-32-is}
use Rattle.line_up.specs.LineUp.{places_bytes}
use Rattle.line_up.proofs.Lines.{drop_later}
use Rattle.line_up.proofs.Merging.{put-take, put-drop}
use Rattle.line_listing.specs.order.Asked.{PlacesPut}

pub places-append : (xs ys : List ℕ) → places_bytes (xs ++ ys) ≡ places_bytes xs ++ places_bytes ys
unfolding places_bytes
places-append [] ys = refl
places-append (x ∷ xs) ys = ap (λ (l : List ℕ). four_bytes x ++ l) (places-append xs ys) ∙ sym (append_assoc (four_bytes x) (places_bytes xs) (places_bytes ys))

pub places-long : (ps : List ℕ) → length (places_bytes ps) ≡ 4 * length ps
unfolding places_bytes
places-long [] = refl
places-long (p ∷ ps) = omega (arith, length-append (four_bytes p) (places_bytes ps), places-long ps)

pub put-none : (out : List ℕ) (k : ℕ) → PlacesPut out out k [] k
unfolding places_bytes
put-none out k = record { len = refl; many = omega arith; written = sym (append-nil (take (4 * k) out)); rest = refl }

pub put_then : (out out' out'' xs ys : List ℕ) (k r s : ℕ) → PlacesPut out out' k xs r → PlacesPut out' out'' r ys s → PlacesPut out out'' k (xs ++ ys) s
put_then out out' out'' xs ys k r s p q = record {
  len = q.len ∙ p.len;
  many = omega (arith, p.many, q.many, length-append xs ys);
  written = q.written ∙ ap (λ (l : List ℕ). l ++ places_bytes ys) p.written ∙ append_assoc (take (4 * k) out) (places_bytes xs) (places_bytes ys)
      ∙ ap (λ (l : List ℕ). take (4 * k) out ++ l) (sym (places-append xs ys));
  rest = q.rest ∙ drop_later (4 * r) (4 * s) out' out (omega (arith, q.many)) p.rest;
}

pub put-place : (out out' : List ℕ) (k p : ℕ) → 4 * k + 4 ≤ length out → out' ≡ with_nth32 out k p → PlacesPut out out' k (p ∷ []) (k + 1)
unfolding places_bytes
put-place out out' k p h e =
    let w : out' ≡ sets out (4 * k) (four_bytes p) = e ∙ put-32-is out k p h in
    let q : 4 * (k + 1) ≡ 4 * k + 4 = omega arith in
    record {
      len = ap length w ∙ length-sets out (4 * k) (four_bytes p);
      many = omega arith;
      written = ap (λ (j : ℕ). take j out') q ∙ ap (take (4 * k + 4)) w ∙ put-take out (4 * k) p h;
      rest = ap (λ (j : ℕ). drop j out') q ∙ ap (drop (4 * k + 4)) w ∙ put-drop out (4 * k) p h ∙ ap (λ (j : ℕ). drop j out) (sym q);
    }
