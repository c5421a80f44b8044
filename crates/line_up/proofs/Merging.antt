-- The loop that merges, with the places as bytes. Assumes nothing.
use Prim.Native.Nat.{ℕ, ◌+◌, ◌*◌, ◌<◌, ◌≤◌}
use native.Mathlib.Omega.{arith}
use mathlib.Core.Path.{◌≡◌, refl, sym, ap, ◌∙◌}
use mathlib.Core.Bool.{Bool}
use mathlib.Core.List.{List, [], ◌∷◌, ◌++◌, append_assoc, append-nil}
use lib.ListN.{length, take, drop, length-append, take-append-drop}
use lib.Seq.{slice, sets, sets-eq, length-sets, length-take-le, take_at, drop_at}
use Rattle.line_up.specs.Runs.{accepted_in, merge, merged, ordered, first_or, pick, cursor_after}
use Rattle.line_up.proofs.Merges.{Under, under-merge, under_more}
use Rattle.line_up.proofs.Zeros.{zeros-from}
use Rattle.line_up.proofs.Places.{ordered-length}
use Rattle.line_up.proofs.Cursors.{Cursors, cursor_first, first-low, from_start, next-is, cursors_cursor_after, merged-cursor_after, accepted_in-under}
use Rattle.line_up.proofs.Lines.{drop_later}
use Rattle.numerals.specs.little_endian.LittleEndian.{four_bytes}
use Rattle.line_up.specs.LineUp.{places_bytes}
use Rattle.line_up.specs.Asked.{Merged}

-- k places are written, and the three cursors stand at what is left
pub record Merging (lt : ℕ → ℕ → Bool) (ns : List ℕ) (end1 end2 : ℕ) (out₀ out : List ℕ) (x y z p k : ℕ) : Type 0 where
  pub len : length out ≡ length out₀
  pub few : k + length (merged lt ns x end1 y end2 z (length ns)) ≡ length (ordered lt ns end1 end2 (length ns))
  pub cursors : Cursors ns end1 end2 x y z
  pub place : p ≡ first_or (length ns) (merged lt ns x end1 y end2 z (length ns))
  pub whole : take (4 * k) out ++ places_bytes (merged lt ns x end1 y end2 z (length ns)) ≡ places_bytes (ordered lt ns end1 end2 (length ns))
  pub rest : drop (4 * k) out ≡ drop (4 * k) out₀

-- four bytes at the end of what is written
module _ (out : List ℕ) (at p : ℕ) (h : at + 4 ≤ length out) where
  put : sets out at (four_bytes p) ≡ (take at out ++ four_bytes p) ++ drop (at + 4) out
  put = sets-eq (four_bytes p) out at h

  put-length : length (take at out ++ four_bytes p) ≡ at + 4
  put-length = length-append (take at out) (four_bytes p) ∙ ap (λ (n : ℕ). n + 4) (length-take-le at out (omega arith))

  pub put-take : take (at + 4) (sets out at (four_bytes p)) ≡ take at out ++ four_bytes p
  put-take = ap (take (at + 4)) put ∙ take_at (take at out ++ four_bytes p) (drop (at + 4) out) (at + 4) put-length

  pub put-drop : drop (at + 4) (sets out at (four_bytes p)) ≡ drop (at + 4) out
  put-drop = ap (drop (at + 4)) put ∙ drop_at (take at out ++ four_bytes p) (drop (at + 4) out) (at + 4) put-length

module _ (lt : ℕ → ℕ → Bool) (ns : List ℕ) (end1 end2 : ℕ) (fs : end1 ≤ end2) (sn : end2 ≤ length ns) (out₀ : List ℕ) where
  f-n : end1 ≤ length ns
  f-n = omega arith

  n-n : length ns ≤ length ns
  n-n = omega arith

  placed : (x y z p : ℕ) → Cursors ns end1 end2 x y z → p ≡ pick lt (length ns) (pick lt (length ns) x y) z
      → p ≡ first_or (length ns) (merged lt ns x end1 y end2 z (length ns))
  placed x y z p c e = e ∙ sym (next-is lt ns end1 end2 fs sn x y z c)

  pub merging_starts : (x y z p : ℕ) → x ≡ first_or (length ns) (accepted_in ns 0 end1) → y ≡ first_or (length ns) (accepted_in ns end1 end2)
      → z ≡ first_or (length ns) (accepted_in ns end2 (length ns))
      → p ≡ pick lt (length ns) (pick lt (length ns) x y) z → Merging lt ns end1 end2 out₀ out₀ x y z p 0
  unfolding ordered
  merging_starts x y z p ex ey ez ep =
      let c : Cursors ns end1 end2 x y z = record {
        one = rw ex (cursor_first ns end1 f-n 0);
        two = rw ey (cursor_first ns end2 sn end1);
        three = rw ez (cursor_first ns (length ns) n-n end2);
        two-low = rw ey (first-low ns end2 sn end1 (accepted_in ns end1 end2) f-n (zeros-from end1 (slice end1 end2 ns)));
        three-low = rw ez (first-low ns (length ns) n-n end2 (accepted_in ns end2 (length ns)) sn (zeros-from end2 (slice end2 (length ns) ns)));
      } in
      let a : accepted_in ns x end1 ≡ accepted_in ns 0 end1 = ap (λ (i : ℕ). accepted_in ns i end1) ex ∙ from_start ns end1 f-n 0 in
      let b : accepted_in ns y end2 ≡ accepted_in ns end1 end2 = ap (λ (i : ℕ). accepted_in ns i end2) ey ∙ from_start ns end2 sn end1 in
      let d : accepted_in ns z (length ns) ≡ accepted_in ns end2 (length ns) = ap (λ (i : ℕ). accepted_in ns i (length ns)) ez
      ∙ from_start ns (length ns) n-n end2 in
      let w : merged lt ns x end1 y end2 z (length ns) ≡ ordered lt ns end1 end2 (length ns) =
      ap (λ (l : List ℕ). merge lt (merge lt l (accepted_in ns y end2)) (accepted_in ns z (length ns))) a
      ∙ ap (λ (l : List ℕ). merge lt (merge lt (accepted_in ns 0 end1) l) (accepted_in ns z (length ns))) b
      ∙ ap (λ (l : List ℕ). merge lt (merge lt (accepted_in ns 0 end1) (accepted_in ns end1 end2)) l) d in
      record {
        len = refl;
        few = omega (arith, ap length w);
        cursors = c;
        place = placed x y z p c ep;
        whole = ap places_bytes w;
        rest = refl;
      }

  module _ (out : List ℕ) (x y z p k : ℕ) (m : Merging lt ns end1 end2 out₀ out x y z p k) where
    module _ (room : 4 * length ns ≤ length out₀) (pn : p < length ns) where
      next-rests : List ℕ
      next-rests = merged lt ns (cursor_after ns end1 p x) end1 (cursor_after ns end2 p y) end2 (cursor_after ns (length ns) p z) (length ns)

      goes : merged lt ns x end1 y end2 z (length ns) ≡ p ∷ next-rests
      unfolding next-rests
      goes = merged-cursor_after lt ns end1 end2 fs sn x y z p m.cursors pn m.place

      -- there is room for one more
      pub few-yet : k < length ns
      few-yet = omega (arith, m.few, ap length goes, ordered-length lt ns end1 end2 fs sn)

      pub room-yet : 4 * k + 4 ≤ length out
      room-yet = omega (arith, few-yet, room, m.len)

      pub merging_goes : (out' : List ℕ) (x' y' z' p' : ℕ) → out' ≡ sets out (4 * k) (four_bytes p) → x' ≡ cursor_after ns end1 p x
          → y' ≡ cursor_after ns end2 p y → z' ≡ cursor_after ns (length ns) p z
          → p' ≡ pick lt (length ns) (pick lt (length ns) x' y') z' → Merging lt ns end1 end2 out₀ out' x' y' z' p' (k + 1)
      unfolding next-rests places_bytes
      merging_goes out' x' y' z' p' eo ex ey ez ep =
          let c : Cursors ns end1 end2 x' y' z' = rw (ex, ey, ez) (cursors_cursor_after lt ns end1 end2 fs sn x y z p m.cursors pn m.place) in
          let r : merged lt ns x' end1 y' end2 z' (length ns) ≡ next-rests = rw (ex, ey, ez) in
          let q : 4 * (k + 1) ≡ 4 * k + 4 = omega arith in
          let t : take (4 * (k + 1)) out' ≡ take (4 * k) out ++ four_bytes p = ap (λ (j : ℕ). take j out') q ∙ ap (take (4 * k + 4)) eo
          ∙ put-take out (4 * k) p room-yet in
          let d : drop (4 * (k + 1)) out' ≡ drop (4 * k + 4) out = ap (λ (j : ℕ). drop j out') q ∙ ap (drop (4 * k + 4)) eo ∙ put-drop out (4 * k) p room-yet in
          record {
            len = ap length eo ∙ length-sets out (4 * k) (four_bytes p) ∙ m.len;
            few = omega (arith, m.few, ap length goes, ap length r);
            cursors = c;
            place = placed x' y' z' p' c ep;
            whole = ap (λ (l : List ℕ). l ++ places_bytes (merged lt ns x' end1 y' end2 z' (length ns))) t
                ∙ ap (λ (l : List ℕ). (take (4 * k) out ++ four_bytes p) ++ places_bytes l) r
                ∙ append_assoc (take (4 * k) out) (four_bytes p) (places_bytes next-rests)
                ∙ ap (λ (l : List ℕ). take (4 * k) out ++ places_bytes l) (sym goes)
                ∙ m.whole;
            rest = d ∙ drop_later (4 * k) (4 * k + 4) out out₀ (omega arith) m.rest ∙ ap (λ (j : ℕ). drop j out₀) (sym q);
          }

    nothing_left : (l : List ℕ) → Under (length ns) l → length ns ≤ first_or (length ns) l → l ≡ []
    nothing_left [] u h = refl
    nothing_left (w ∷ ws) u h = let q : ⊥ = omega (arith, u.0, h) in absurd q

    pub merging_ends : length ns ≤ p → Merged lt ns end1 end2 out₀ out k
    unfolding places_bytes
    merging_ends h =
        let ux = under_more f-n (accepted_in ns x end1) (accepted_in-under ns end1 f-n x) in
        let uy = under_more sn (accepted_in ns y end2) (accepted_in-under ns end2 sn y) in
        let uz = accepted_in-under ns (length ns) n-n z in
        let u = under-merge lt (length ns) (merge lt (accepted_in ns x end1) (accepted_in ns y end2)) (accepted_in ns z (length ns))
        (under-merge lt (length ns) (accepted_in ns x end1) (accepted_in ns y end2) ux uy) uz in
        let l : merged lt ns x end1 y end2 z (length ns) ≡ [] = nothing_left (merged lt ns x end1 y end2 z (length ns)) u (omega (arith, h, m.place)) in
        let w : take (4 * k) out ≡ places_bytes (ordered lt ns end1 end2 (length ns)) =
        sym (append-nil (take (4 * k) out)) ∙ ap (λ (r : List ℕ). take (4 * k) out ++ places_bytes r) (sym l) ∙ m.whole in
        let e : k ≡ length (ordered lt ns end1 end2 (length ns)) = omega (arith, m.few, ap length l) in
        record {
          many = e;
          places = sym (take-append-drop (4 * k) out) ∙ ap (λ (r : List ℕ). r ++ drop (4 * k) out) w
              ∙ ap (λ (r : List ℕ). places_bytes (ordered lt ns end1 end2 (length ns)) ++ r) (m.rest ∙ ap (λ (j : ℕ). drop (4 * j) out₀) e);
        }
