-- NO PART IS LONGER THAN ITS BUFFER: a part that is not refused, of the head, of lines or of the last line, has at most as many bytes as the buffer, where each
-- number is a byte, the numbers of blocks and refusals and the cursor's count are of 64 bits, and the stamps are less than 2^32. Assumes nothing.
use Rattle.std.proofs.Common.{◌≡◌, ℕ, zero, suc, ◌+◌, ◌-◌, ◌*◌, ◌/◌, ◌<◌, ◌≤◌, Bool, true, false, cond, eqb, ltb, leb, ◌⊎◌, List, [], ◌∷◌, ◌++◌, length, sym}
use Rattle.std.proofs.Common.{refl, ap, ◌∙◌, subst, inl, inr, eq-or-lt_of_le, arith, length-append, ltb-false, ltb-true, ne_eqb, leb-false, leb-true}
use Rattle.numerals.specs.digits.Decimal.{digits_of}
use Rattle.numerals.proofs.digits.Decimal.{digits-few}
use Rattle.leap_table.specs.rows.Table.{Row}
use Rattle.leap_table.specs.rows.Announced.{least}
use Rattle.utc.specs.text.Ascii.{ascii_bytes}
use Rattle.line_listing.specs.declared.head.RunEnd.{RunEnd}
use Rattle.line_listing.specs.head.Counts.{kinds_in, first_end, second_end}
use Rattle.line_listing.specs.head.Head.{counted, block_end, run_line, run_if_named, one_if_named, head_text, end_text}
use Rattle.line_listing.specs.lines.StampLine.{Stamps, line_in_order, number_of_place, place_line}
use Rattle.line_listing.specs.lines.Parts.{longest_line, lines_of_order, listed_lines, listed_count, listed_part, places_there, absent_refusal}
use Rattle.line_listing.specs.listing.Part.{Step, ordered_of, head_step, lines_step, end_step, part_from, listing_refusal}
use Rattle.line_listing.specs.laws.PartFits.{EndHeld}
use Rattle.line_listing.proofs.lines.Whole.{least-right, room-enough, place-gone}
use Rattle.line_listing.proofs.listing.Steps.{at_head, at_lines, at_end, at_nothing, room_for}
use Rattle.line_listing.proofs.laws.Counted.{counts_all}
use Rattle.line_listing.proofs.laws.Longest.{line-most}

abbrev Of64 : ℕ → Type 0
Of64 n = n < 18446744073709551616

-- ---- words and a number have at most 20 bytes more than the words
counted-most : (words : List ℕ) (n : ℕ) → Of64 n → length (counted words n) ≤ length words + 20
unfolding counted
counted-most words n h = omega (arith, length-append words (digits_of n), digits-few 19 n (omega (arith, h)))

-- ---- the block that ended a run
ended-most : (e : RunEnd) → EndHeld e → length (block_end e) ≤ 56
unfolding block_end
ended-most e h = go (eqb e.refused 0)
  where
    go : (b : Bool) → length (cond b [] (counted (ascii_bytes " block ") e.block ++ counted (ascii_bytes " refused ") e.refused)) ≤ 56
    go true = omega arith
    go false =
        omega (
          arith,
          length-append (counted (ascii_bytes " block ") e.block) (counted (ascii_bytes " refused ") e.refused),
          counted-most (ascii_bytes " block ") e.block h.block,
          counted-most (ascii_bytes " refused ") e.refused h.refused,
        )

-- ---- the line of a run
module _ (name : List ℕ) (e : RunEnd) (js ks ns : List ℕ) (from n : ℕ) (four : length name ≡ 4) (held : EndHeld e) (few : Of64 n) where
  run-most : length (run_line name e js ks ns from n) ≤ 172
  unfolding run_line
  run-most =
      let sum = counts_all js ks ns from n in
      let a = counted name n in
      let b = counted (ascii_bytes " not finite ") (kinds_in js ks ns 1 from n) in
      let c = counted (ascii_bytes " refused ") (kinds_in js ks ns 2 from n) in
      let d = counted (ascii_bytes " left out ") (kinds_in js ks ns 3 from n) in
      let x = block_end e in
      omega (
        arith,
        four,
        counted-most name n few,
        counted-most (ascii_bytes " not finite ") (kinds_in js ks ns 1 from n) (omega (arith, sum, few)),
        counted-most (ascii_bytes " refused ") (kinds_in js ks ns 2 from n) (omega (arith, sum, few)),
        counted-most (ascii_bytes " left out ") (kinds_in js ks ns 3 from n) (omega (arith, sum, few)),
        ended-most e held,
        length-append ((((a ++ b) ++ c) ++ d) ++ x) (10 ∷ []),
        length-append (((a ++ b) ++ c) ++ d) x,
        length-append ((a ++ b) ++ c) d,
        length-append (a ++ b) c,
        length-append a b,
      )

  named-most : length (run_if_named name e js ks ns from n) ≤ 172
  unfolding run_if_named
  named-most = go e.named
    where
      go : (b : Bool) → length (cond b (run_line name e js ks ns from n) []) ≤ 172
      go true = run-most
      go false = omega arith

one-most : (b : Bool) → one_if_named b ≤ 1
unfolding one_if_named
one-most true = omega arith
one-most false = omega arith

-- ---- the head and the last line
head_most : (gps tai utc : RunEnd) (all : Stamps) → EndHeld gps → EndHeld tai → EndHeld utc → Of64 (length all.numbers)
    → length (head_text gps tai utc all) ≤ 550
unfolding head_text first_end second_end
head_most gps tai utc all h h' h'' few =
    let js = all.jd1s in
    let ks = all.jd2s in
    let ns = all.numbers in
    let many = one_if_named gps.named + one_if_named tai.named + one_if_named utc.named in
    let named = counted (ascii_bytes "line up ") many in
    let g = run_if_named (ascii_bytes "gps ") gps js ks ns 0 (first_end all) in
    let t = run_if_named (ascii_bytes "tai ") tai js ks ns (first_end all) (second_end all - first_end all) in
    let u = run_if_named (ascii_bytes "utc ") utc js ks ns (second_end all) (length ns - second_end all) in
    let first = named ++ ascii_bytes " runs\n" in
    let low1 : first_end all ≤ length ns = least-right all.first (length ns) in
    let low2 : least all.second (length ns - first_end all) ≤ length ns - first_end all = least-right all.second (length ns - first_end all) in
    omega (
      arith,
      counted-most (ascii_bytes "line up ") many (omega (arith, one-most gps.named, one-most tai.named, one-most utc.named)),
      named-most (ascii_bytes "gps ") gps js ks ns 0 (first_end all) refl h (omega (arith, low1, few)),
      named-most (ascii_bytes "tai ") tai js ks ns (first_end all) (second_end all - first_end all) refl h' (omega (arith, low1, low2, few)),
      named-most (ascii_bytes "utc ") utc js ks ns (second_end all) (length ns - second_end all) refl h'' (omega (arith, few)),
      length-append ((first ++ g) ++ t) u,
      length-append (first ++ g) t,
      length-append first g,
      length-append named (ascii_bytes " runs\n"),
    )

end-most : (ordered textless : ℕ) → Of64 ordered → Of64 textless → length (end_text ordered textless) ≤ 64
unfolding end_text
end-most ordered textless h g =
    let a = counted (ascii_bytes "lined up ") ordered in
    let b = counted (ascii_bytes " without text ") textless in
    omega (
      arith,
      counted-most (ascii_bytes "lined up ") ordered h,
      counted-most (ascii_bytes " without text ") textless g,
      length-append (a ++ b) (10 ∷ []),
      length-append a b,
    )

-- ---- lines whose stamps are there
there : (order : List ℕ) (n line k : ℕ) → places_there order n line k ≡ true → (i : ℕ) → i < k → line_in_order order (line + i) < n
there order n line k e i h = by (ltb (line_in_order order (line + i)) n) refl
  where
    by : (t : Bool) → ltb (line_in_order order (line + i)) n ≡ t → line_in_order order (line + i) < n
    by true q = ltb-true _ _ q
    by false q =
        let z : ◌≡◌ {A = ℕ} 0 1 = ap (λ (x : Bool). cond {A = ℕ} x 1 0) (place-gone order n line i k h (ltb-false _ _ q) ∙ e) in
        let w : ⊥ = omega (arith, z) in absurd w

lines-most : (s : Bool) (rows : List Row) (all : Stamps) (order : List ℕ) (line k : ℕ) → ((p : ℕ) → number_of_place all p < 256)
    → ((i : ℕ) → i < k → line_in_order order (line + i) < 4294967296) → length (listed_lines s rows all order line k) ≤ k * longest_line s
unfolding listed_lines
lines-most s rows all order line zero bytes low = omega arith
lines-most s rows all order line (suc k) bytes low =
    let p = line_in_order order (line + k) in
    sums (length (listed_lines s rows all order line k)) (length (place_line s rows all p)) k (longest_line s) _
    (length-append (listed_lines s rows all order line k) (place_line s rows all p))
    (lines-most s rows all order line k bytes (λ i h. low i (omega arith))) (line-most s rows all p (low k (omega arith)) (bytes p))
  where
    sums : (a b k l c : ℕ) → c ≡ a + b → a ≤ k * l → b ≤ l → c ≤ suc k * l
    sums a b k l c e h g = omega (arith, e, h, g)

module _ (s : Bool) (rows : List Row) (gps tai utc : RunEnd) (all : Stamps) (order : List ℕ) (gps-held : EndHeld gps) (tai-held : EndHeld tai)
    (utc-held : EndHeld utc) (bytes : (p : ℕ) → number_of_place all p < 256) (few : length all.numbers < 4294967296) where
  abbrev m : ℕ
  m = length all.numbers

  abbrev n : ℕ
  n = lines_of_order order

  abbrev Fits : ℕ → Step → Type 0
  Fits room p = length p.bytes ≤ room

  head_fits : (textless room : ℕ) → 550 ≤ room → Fits room (head_step gps tai utc all textless)
  unfolding head_step
  head_fits textless room r = omega (arith, head_most gps tai utc all gps-held tai-held utc-held (omega (arith, few)), r)

  end_fits : (line textless room : ℕ) → textless < 18446744073709551616 → 550 ≤ room → Fits room (end_step all line textless)
  unfolding end_step
  end_fits line textless room h r =
      let sum = counts_all all.jd1s all.jd2s all.numbers 0 m in
      omega (arith, end-most (ordered_of all) textless (omega (arith, sum, few)) h, r)

  places-true : (line room : ℕ) → (line ≡ 0 → ⊥) → listing_refusal s m order line room ≡ 0
      → places_there order m (line - 1) (listed_count s order (line - 1) room) ≡ true
  unfolding listing_refusal absent_refusal
  places-true line room h e =
      let by-case : listing_refusal s m order line room
      ≡ cond (eqb (absent_refusal s m order (line - 1) room) 0) (cond (leb 550 room) 0 11) 18 = rw (ne_eqb line 0 h) in
      go (places_there order m (line - 1) (listed_count s order (line - 1) room)) (sym by-case ∙ e)
    where
      go : (t : Bool) → ◌≡◌ {A = ℕ} (cond (eqb (cond t 0 18) 0) (cond (leb 550 room) 0 11) 18) 0 → t ≡ true
      go true q = refl
      go false q = let w : ⊥ = omega (arith, q) in absurd w

  lines_fit : (line textless room : ℕ) → (line ≡ 0 → ⊥) → listing_refusal s m order line room ≡ 0 → Fits room (lines_step s rows all order line textless room)
  unfolding lines_step listed_part listed_count
  lines_fit line textless room h e =
      let k = listed_count s order (line - 1) room in
      let low = there order m (line - 1) k (places-true line room h e) in
      let most = lines-most s rows all order (line - 1) k bytes (λ i g. omega (arith, low i g, few)) in
      let enough = room-enough s k room (least-right (least (lines_of_order order - (line - 1)) 256) (room / longest_line s)) in
      omega (arith, most, enough)

  -- A PART THAT IS NOT REFUSED fits into its buffer
  pub part-fits : (line textless room : ℕ) → textless < 18446744073709551616 → listing_refusal s (length all.numbers) order line room ≡ 0
      → length (part_from s rows gps tai utc all order line textless room).bytes ≤ room
  part-fits zero textless room h e =
      subst (Fits room) (at_head s rows gps tai utc all order 0 textless room refl) (head_fits textless room (room_for s m order 0 room 0 (sym e) refl))
  part-fits (suc j) textless room h e = by (leb (suc j) n) refl
    where
      some : suc j ≡ 0 → ⊥
      some q = omega (arith, q)

      behind : (n + 1 ≡ suc j) ⊎ (n + 1 < suc j) → Fits room (part_from s rows gps tai utc all order (suc j) textless room)
      behind (inl q) =
          subst (Fits room) (at_end s rows gps tai utc all order (suc j) textless room (sym q))
          (end_fits (suc j) textless room h (room_for s m order (suc j) room 0 (sym e) refl))
      behind (inr q) = subst (Fits room) (at_nothing s rows gps tai utc all order (suc j) textless room q) (omega arith)

      by : (t : Bool) → leb (suc j) n ≡ t → Fits room (part_from s rows gps tai utc all order (suc j) textless room)
      by true q =
          subst (Fits room) (at_lines s rows gps tai utc all order (suc j) textless room some (leb-true (suc j) n q)) (lines_fit (suc j) textless room some e)
      by false q = behind (eq-or-lt_of_le (let g : n + 1 ≤ suc j = omega (arith, leb-false (suc j) n q) in g))
