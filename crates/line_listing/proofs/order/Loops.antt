-- The loops: the places behind an ordered one, all lines, and the copied cells. Assumes nothing.
use Rattle.std.proofs.Common.{◌≡◌, ℕ, zero, suc, ◌+◌, ◌*◌, ◌<◌, ◌≤◌, Bool, true, false, cond, ltb, List, [], ◌∷◌, ◌++◌, length, get_or, take, drop, set, sym}
use Rattle.std.proofs.Common.{refl, ap, ◌∙◌, subst, append_assoc, append-nil, add-one, arith, length-append, length-set, take-append-drop, drop_of_length-le}
use Rattle.std.proofs.Common.{length-take-le, drop-cons, get_or-take, take-suc, take-suc-set, eq-eqb, ne_eqb}
use lib.Seq.{sets, length-sets}
use Rattle.numerals.specs.little_endian.LittleEndian.{four_bytes, u32_at, with_nth32}
use Rattle.numerals.proofs.little_endian.Puts.{put-32-is}
use Rattle.line_up.specs.keep.Cells.{cells}
use Rattle.line_up.proofs.keep.Cells.{cells_at, cells-put, length-low}
use Rattle.line_up.specs.LineUp.{places_bytes}
use Rattle.line_listing.specs.order.Order.{behind, each_behind, run_starts, line_order, run_end}
use Rattle.line_listing.specs.order.Asked.{PlacesPut, Puttable, Below, Listable, Copyable, OnePuttable, StartsPuttable}
use Rattle.line_listing.proofs.order.Segments.{behind-none, behind-cons}
use Rattle.line_listing.proofs.order.Puts.{put-none, put_then, put-place}

-- ---- the places before the first ordered one

-- those before i are written
pub record Putting (ms : List ℕ) (from to : ℕ) (out₀ : List ℕ) (k : ℕ) (out : List ℕ) (i at : ℕ) : Type 0 where
  pub done : List ℕ
  pub put : PlacesPut out₀ out k done at
  pub left : done ++ behind ms i to ≡ behind ms from to

pub putting_starts : (ms : List ℕ) (from to : ℕ) (out : List ℕ) (k : ℕ) → Putting ms from to out k out from k
putting_starts ms from to out k = record { done = []; put = put-none out k; left = refl }

module _ (ms : List ℕ) (from to : ℕ) (out₀ : List ℕ) (k : ℕ) (pre : Puttable ms from to out₀ k) (out : List ℕ) (i at : ℕ)
    (p : Putting ms from to out₀ k out i at) where
  all_done : behind ms i to ≡ [] → PlacesPut out₀ out k (behind ms from to) at
  all_done e =
      let w : p.done ≡ behind ms from to = sym (append-nil p.done) ∙ ap (λ (l : List ℕ). p.done ++ l) (sym e) ∙ p.left in
      subst (λ (l : List ℕ). PlacesPut out₀ out k l at) w p.put

  pub putting_found : i < to → get_or ms i 0 ≡ 0 → PlacesPut out₀ out k (behind ms from to) at
  putting_found h e = all_done (behind-cons ms to pre.high i h ∙ rw (eq-eqb (get_or ms i 0) 0 e))

  pub putting_ends : to ≤ i → PlacesPut out₀ out k (behind ms from to) at
  putting_ends h = all_done (behind-none ms to pre.high i h)

  module _ (h : i < to) (e : get_or ms i 0 ≡ 0 → ⊥) where
    one_more : behind ms i to ≡ i ∷ behind ms (suc i) to
    one_more = behind-cons ms to pre.high i h ∙ rw (ne_eqb (get_or ms i 0) 0 e)

    pub putting_room : 4 * at + 4 ≤ length out
    putting_room =
        omega (arith, p.put.len, p.put.many, pre.room, ap length p.left, length-append p.done (behind ms i to), ap length one_more)

    pub putting_goes : (out' : List ℕ) → out' ≡ with_nth32 out at i → Putting ms from to out₀ k out' (i + 1) (at + 1)
    putting_goes out' w = record {
      done = p.done ++ (i ∷ []);
      put = put_then out₀ out out' p.done (i ∷ []) k at (at + 1) p.put (put-place out out' at i putting_room w);
      left = ap (λ (j : ℕ). (p.done ++ (i ∷ [])) ++ behind ms j to) (add-one i) ∙ append_assoc p.done (i ∷ []) (behind ms (suc i) to)
          ∙ ap (λ (l : List ℕ). p.done ++ l) (sym one_more) ∙ p.left;
    }

-- ---- a place and those behind it

module _ (ms : List ℕ) (p to : ℕ) (out : List ℕ) (k : ℕ) (pre : OnePuttable ms p to out k) (out' : List ℕ) (w : out' ≡ with_nth32 out k p) where
  first-put : PlacesPut out out' k (p ∷ []) (k + 1)
  first-put = put-place out out' k p (omega (arith, pre.room)) w

  pub one-behind : Puttable ms (p + 1) to out' (k + 1)
  one-behind = record {
    high = pre.high;
    small = pre.small;
    room = omega (arith, pre.room, first-put.len, ap (λ (j : ℕ). length (behind ms j to)) (add-one p));
  }

  pub one-ends : (out'' : List ℕ) (r : ℕ) → PlacesPut out' out'' (k + 1) (behind ms (p + 1) to) r → PlacesPut out out'' k (p ∷ behind ms (suc p) to) r
  one-ends out'' r q =
      put_then out out' out'' (p ∷ []) (behind ms (suc p) to) k (k + 1) r first-put
      (subst (λ (j : ℕ). PlacesPut out' out'' (k + 1) (behind ms j to) r) (add-one p) q)

-- ---- the places that have no ordered one before them

module _ (ms : List ℕ) (end1 end2 : ℕ) (out : List ℕ) (pre : StartsPuttable ms end1 end2 out) where
  starts-long : length (run_starts ms end1 end2) ≡ length (behind ms 0 end1) + (length (behind ms end1 end2) + length (behind ms end2 (length ms)))
  unfolding run_starts
  starts-long = length-append (behind ms 0 end1) (behind ms end1 end2 ++ behind ms end2 (length ms))
      ∙ ap (λ (n : ℕ). length (behind ms 0 end1) + n) (length-append (behind ms end1 end2) (behind ms end2 (length ms)))

  pub start-1 : Puttable ms 0 end1 out 0
  start-1 = record { high = omega (arith, pre.low, pre.high); small = pre.small; room = omega (arith, pre.room, starts-long) }

  module _ (out1 : List ℕ) (k : ℕ) (put1 : PlacesPut out out1 0 (behind ms 0 end1) k) where
    pub start-2 : Puttable ms end1 end2 out1 k
    start-2 = record { high = pre.high; small = pre.small; room = omega (arith, pre.room, starts-long, put1.len, put1.many) }

    module _ (out2 : List ℕ) (m : ℕ) (put2 : PlacesPut out1 out2 k (behind ms end1 end2) m) where
      pub start-3 : Puttable ms end2 (length ms) out2 m
      start-3 = record {
        high = omega arith;
        small = pre.small;
        room = omega (arith, pre.room, starts-long, put1.len, put1.many, put2.len, put2.many);
      }

      pub starts-end : (out3 : List ℕ) (r : ℕ) → PlacesPut out2 out3 m (behind ms end2 (length ms)) r → PlacesPut out out3 0 (run_starts ms end1 end2) r
      unfolding run_starts
      starts-end out3 r put3 =
          put_then out out1 out3 (behind ms 0 end1) (behind ms end1 end2 ++ behind ms end2 (length ms)) 0 k r put1
          (put_then out1 out2 out3 (behind ms end1 end2) (behind ms end2 (length ms)) k m r put2 put3)

-- ---- all lines

pub below_at : (n : ℕ) (xs : List ℕ) → Below n xs → (i : ℕ) → i < length xs → get_or xs i 0 < n
below_at n [] b i h = let w : ⊥ = omega arith in absurd w
below_at n (x ∷ xs) b zero h = b.0
below_at n (x ∷ xs) b (suc i) h = below_at n xs b.1 i (omega arith)

-- the lines of the first j ordered places are written, from place k₀ on
pub record Listing (ms : List ℕ) (end1 end2 : ℕ) (line out₀ : List ℕ) (k₀ : ℕ) (out : List ℕ) (k j : ℕ) : Type 0 where
  pub done : List ℕ
  pub put : PlacesPut out₀ out k₀ done k
  pub left : done ++ each_behind ms (run_end end1 end2 (length ms)) (drop j line) ≡ each_behind ms (run_end end1 end2 (length ms)) line

pub listing-starts : (ms : List ℕ) (end1 end2 : ℕ) (line out : List ℕ) (k : ℕ) → Listing ms end1 end2 line out k out k 0
listing-starts ms end1 end2 line out k = record { done = []; put = put-none out k; left = refl }

module _ (ms : List ℕ) (end1 end2 : ℕ) (places : List ℕ) (many : ℕ) (out₀ : List ℕ) (pre : Listable ms end1 end2 places many out₀) where
  abbrev line : List ℕ
  line = take many (cells places)

  line-long : length line ≡ many
  line-long = length-take-le many (cells places) pre.there

  abbrev each : List ℕ → List ℕ
  each l = each_behind ms (run_end end1 end2 (length ms)) l

  whole_long : length (run_starts ms end1 end2) + length (each line) ≡ length ms
  unfolding line_order
  whole_long = omega (arith, pre.whole, length-append (run_starts ms end1 end2) (each line))

  pub starts_fit : StartsPuttable ms end1 end2 out₀
  starts_fit = record { low = pre.low; high = pre.high; small = pre.small; room = omega (arith, pre.room, whole_long) }

  module _ (out1 : List ℕ) (k₀ : ℕ) (put0 : PlacesPut out₀ out1 0 (run_starts ms end1 end2) k₀) (out : List ℕ) (k j : ℕ)
      (l : Listing ms end1 end2 line out1 k₀ out k j) where
    module _ (h : j < many) (p : ℕ) (e : p ≡ u32_at places (4 * j)) (to : ℕ) (q : to ≡ run_end end1 end2 (length ms) p) where
      place_is : p ≡ get_or line j 0
      place_is = e ∙ cells_at places j (omega (arith, pre.there)) ∙ sym (get_or-take many (cells places) j 0 h)

      place-below : p < length ms
      place-below = omega (arith, place_is, below_at (length ms) line pre.below j (omega (arith, line-long)))

      rest-is : drop j line ≡ p ∷ drop (suc j) line
      rest-is = drop-cons line j 0 (omega (arith, line-long)) ∙ ap (λ (x : ℕ). x ∷ drop (suc j) line) (sym place_is)

      next-is : each (drop j line) ≡ (p ∷ behind ms (suc p) to) ++ each (drop (suc j) line)
      unfolding each_behind
      next-is = ap each rest-is ∙ ap (λ (t : ℕ). (p ∷ behind ms (suc p) t) ++ each (drop (suc j) line)) (sym q)

      all-is : l.done ++ ((p ∷ behind ms (suc p) to) ++ each (drop (suc j) line)) ≡ each line
      all-is = ap (λ (x : List ℕ). l.done ++ x) (sym next-is) ∙ l.left

      end_below : (t u : Bool) → to ≡ cond t end1 (cond u end2 (length ms)) → to ≤ length ms
      end_below true u w = omega (arith, pre.low, pre.high)
      end_below false true w = omega (arith, pre.high)
      end_below false false w = omega arith

      pub one-fits : OnePuttable ms p to out k
      one-fits = record {
        low = place-below;
        high = end_below (ltb p end1) (ltb p end2) q;
        small = pre.small;
        room =
            let b = p ∷ behind ms (suc p) to in
            let c = each (drop (suc j) line) in
            omega (
              arith,
              put0.len,
              put0.many,
              l.put.len,
              l.put.many,
              pre.room,
              whole_long,
              ap length all-is,
              length-append l.done (b ++ c),
              length-append b c,
            );
      }

      pub listing-goes : (out' : List ℕ) (k' : ℕ) → PlacesPut out out' k (p ∷ behind ms (suc p) to) k' → Listing ms end1 end2 line out1 k₀ out' k' (j + 1)
      listing-goes out' k' w = record {
        done = l.done ++ (p ∷ behind ms (suc p) to);
        put = put_then out1 out out' l.done (p ∷ behind ms (suc p) to) k₀ k k' l.put w;
        left = ap (λ (i : ℕ). (l.done ++ (p ∷ behind ms (suc p) to)) ++ each (drop i line)) (add-one j)
            ∙ append_assoc l.done (p ∷ behind ms (suc p) to) (each (drop (suc j) line)) ∙ all-is;
      }

    -- the lines behind those of the starts
    both_put : many ≤ j → PlacesPut out₀ out 0 (line_order ms end1 end2 line) k
    unfolding line_order each_behind
    both_put h =
        let z : drop j line ≡ [] = drop_of_length-le line {i = j} (omega (arith, line-long)) in
        let w : l.done ≡ each line = sym (append-nil l.done) ∙ ap (λ (x : List ℕ). l.done ++ each x) (sym z) ∙ l.left in
        put_then out₀ out1 out (run_starts ms end1 end2) (each line) 0 k₀ k put0 (subst (λ (x : List ℕ). PlacesPut out1 out k₀ x k) w l.put)

    pub listing-ends : many ≤ j → out ≡ places_bytes (line_order ms end1 end2 line) ++ drop (4 * length ms) out₀
    listing-ends h =
        let w = both_put h in
        let e : k ≡ length ms = omega (arith, w.many, pre.whole) in
        sym (take-append-drop (4 * k) out) ∙ ap (λ (x : List ℕ). x ++ drop (4 * k) out) w.written
        ∙ ap (λ (x : List ℕ). places_bytes (line_order ms end1 end2 line) ++ x) (w.rest ∙ ap (λ (i : ℕ). drop (4 * i) out₀) e)

-- ---- the copied cells

-- the first j of them are copied
pub record Copying (from : List ℕ) (many : ℕ) (to₀ to : List ℕ) (j : ℕ) : Type 0 where
  pub len : length to ≡ length to₀
  pub few : j ≤ many
  pub as_many : length (cells to) ≡ length (cells to₀)
  pub same : take j (cells to) ≡ take j (cells from)

pub copying_starts : (from to : List ℕ) (many : ℕ) → Copying from many to to 0
copying_starts from to many = record { len = refl; few = omega arith; as_many = refl; same = refl }

pub copying_goes : (from to₀ to to' : List ℕ) (many j p : ℕ) → Copyable from to₀ many → Copying from many to₀ to j → j < many → p ≡ u32_at from (4 * j)
    → p ≤ 4294967295 → to' ≡ with_nth32 to j p → Copying from many to₀ to' (j + 1)
copying_goes from to₀ to to' many j p pre c h e small w =
    let room : j < length (cells to) = omega (arith, pre.room, c.as_many) in
    let source : j < length (cells from) = omega (arith, pre.source) in
    let b : to' ≡ sets to (4 * j) (four_bytes p) = w ∙ put-32-is to j p (omega (arith, length-low to)) in
    let q : cells to' ≡ set (cells to) j p = ap cells b ∙ cells-put to j p room small in
    record {
      len = ap length b ∙ length-sets to (4 * j) (four_bytes p) ∙ c.len;
      few = omega arith;
      as_many = ap length q ∙ simp length-set c.as_many;
      same = ap (λ (i : ℕ). take i (cells to')) (add-one j) ∙ ap (take (suc j)) q ∙ take-suc-set (cells to) j p room
          ∙ ap (λ (l : List ℕ). l ++ (p ∷ [])) c.same
          ∙ ap (λ (x : ℕ). take j (cells from) ++ (x ∷ [])) (e ∙ cells_at from j source)
          ∙ sym (take-suc (cells from) j 0 source) ∙ ap (λ (i : ℕ). take i (cells from)) (sym (add-one j));
    }

pub copying_ends : (from : List ℕ) (many : ℕ) (to₀ to : List ℕ) (j : ℕ) → Copying from many to₀ to j → many ≤ j → take many (cells to) ≡ take many (cells from)
copying_ends from many to₀ to j c h =
    let e : many ≡ j = omega (arith, c.few) in
    ap (λ (i : ℕ). take i (cells to)) e ∙ c.same ∙ ap (λ (i : ℕ). take i (cells from)) (sym e)
