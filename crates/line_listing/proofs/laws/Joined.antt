-- THE PARTS JOIN TO THE WHOLE: through any buffers of 550 bytes or more, from a cursor of two zeros, the parts one after the other are the head, the line of
-- each stamp of the order and the last line, and the count of the cursor is that of the lines without text. Each call goes on by a line at least, so that as
-- many calls as lines and two reach the end, and none is refused for its room. Assumes nothing.
use Rattle.std.proofs.Common.{◌≡◌, ℕ, zero, suc, ◌+◌, ◌-◌, ◌/◌, ◌%◌, ◌<◌, ◌≤◌, Bool, true, false, cond, eqb, leb, ◌⊎◌, List, [], ◌∷◌, ◌++◌, length, sym, refl}
use Rattle.std.proofs.Common.{ap, ◌∙◌, subst, inl, inr, append_assoc, append-nil, eq-or-lt_of_le, arith, ne_eqb, le-leb, leb-false, leb-true}
use borrow.Author.Tests.{lt-leb}
use Rattle.leap_table.specs.rows.Table.{Row}
use Rattle.leap_table.specs.rows.Announced.{least}
use Rattle.line_listing.specs.declared.head.RunEnd.{RunEnd}
use Rattle.line_listing.specs.head.Head.{head_text, end_text}
use Rattle.line_listing.specs.lines.StampLine.{Stamps, line_in_order, date_of_place, number_of_place, no_text_count}
use Rattle.line_listing.specs.lines.Parts.{longest_line, lines_of_order, listed_lines, textless_from, listed_count, listed_part}
use Rattle.line_listing.specs.listing.Listing.{listing_text}
use Rattle.line_listing.specs.listing.Part.{Step, step, ordered_of, head_step, lines_step, end_step, part_from}
use Rattle.line_listing.specs.laws.Joined.{Parting, all_parts_joined, RoomyParts}
use Rattle.line_listing.proofs.lines.Whole.{least-left, without_one}
use Rattle.line_listing.proofs.listing.Steps.{at_head, at_lines, at_end, at_nothing}
use Rattle.line_listing.proofs.laws.Lines.{parts_join}

-- ---- counts join as the lines do, and no more lines are without text than there are
pub counts-join : (rows : List Row) (all : Stamps) (order : List ℕ) (line j k : ℕ)
    → textless_from rows all order line (j + k) ≡ textless_from rows all order line j + textless_from rows all order (line + j) k
unfolding textless_from
counts-join rows all order line j zero =
    ap (textless_from rows all order line) (let e : j + 0 ≡ j = omega arith in e) ∙ (let e : textless_from rows all order line j
    ≡ textless_from rows all order line j + 0 = omega arith in e)
counts-join rows all order line j (suc k) =
    let one : ℕ → ℕ = λ (p : ℕ). no_text_count rows (date_of_place all (line_in_order order p)) (number_of_place all (line_in_order order p)) in
    ap (textless_from rows all order line) (let e : j + suc k ≡ suc (j + k) = omega arith in e)
    ∙ ap (λ (m : ℕ). m + one (line + (j + k))) (counts-join rows all order line j k)
    ∙ ap (λ (m : ℕ). textless_from rows all order line j + textless_from rows all order (line + j) k + one m)
    (let e : line + (j + k) ≡ line + j + k = omega arith in e)
    ∙ sums (textless_from rows all order line j) (textless_from rows all order (line + j) k) (one (line + j + k))
  where
    sums : (a b c : ℕ) → a + b + c ≡ a + (b + c)
    sums a b c = omega arith

pub count_most : (rows : List Row) (all : Stamps) (order : List ℕ) (line k : ℕ) → textless_from rows all order line k ≤ k
unfolding textless_from
count_most rows all order line zero = omega arith
count_most rows all order line (suc k) =
    omega (
      arith,
      count_most rows all order line k,
      without_one rows (date_of_place all (line_in_order order (line + k))) (number_of_place all (line_in_order order (line + k))),
    )

-- ---- how many lines a part has
some-room : (s : Bool) (room : ℕ) → 550 ≤ room → 1 ≤ room / longest_line s
unfolding longest_line
some-room true room h = omega arith
some-room false room h = omega arith

least-some : (a b : ℕ) → 1 ≤ a → 1 ≤ b → 1 ≤ least a b
least-some a b h g = go (leb a b)
  where
    go : (t : Bool) → 1 ≤ cond t a b
    go true = h
    go false = g

module _ (s : Bool) (rows : List Row) (gps tai utc : RunEnd) (all : Stamps) (order : List ℕ) (small : lines_of_order order < 18446744073709551616) where
  abbrev n : ℕ
  n = lines_of_order order

  abbrev part : Parting
  part line textless room = part_from s rows gps tai utc all order line textless room

  abbrev head : List ℕ
  head = head_text gps tai utc all

  abbrev lines : ℕ → List ℕ
  lines k = listed_lines s rows all order 0 k

  abbrev whole : List ℕ
  whole = listing_text s rows gps tai utc all order (ordered_of all)

  -- ---- what was told before a line, and how many of it without text
  unfoldable pub told : ℕ → List ℕ
  told line = cond (eqb line 0) [] (cond (leb line (n + 1)) (head ++ lines (line - 1)) whole)

  unfoldable pub none : ℕ → ℕ
  none line = textless_from rows all order 0 (least (line - 1) n)

  told-start : told 0 ≡ []
  unfolding told
  told-start = refl

  told-lines : (line : ℕ) → 1 ≤ line → line ≤ n + 1 → told line ≡ head ++ lines (line - 1)
  unfolding told
  told-lines line h g =
      let z : line ≡ 0 → ⊥ = λ q. let w : ⊥ = omega arith in w in
      rw (ne_eqb line 0 z, le-leb line (n + 1) g)

  told-end : (line : ℕ) → n + 1 < line → told line ≡ whole
  unfolding told
  told-end line h =
      let z : line ≡ 0 → ⊥ = λ q. let w : ⊥ = omega arith in w in
      rw (ne_eqb line 0 z, lt-leb line (n + 1) h)

  least-is : (a b : ℕ) → a ≤ b → least a b ≡ a
  least-is a b h = rw (le-leb a b h)

  none-lines : (line : ℕ) → line ≤ n + 1 → none line ≡ textless_from rows all order 0 (line - 1)
  unfolding none
  none-lines line h = ap (textless_from rows all order 0) (least-is (line - 1) n (omega arith))

  none_end : (line : ℕ) → n + 1 ≤ line → none line ≡ textless_from rows all order 0 n
  unfolding none
  none_end line h = ap (textless_from rows all order 0) (go (leb (line - 1) n) refl)
    where
      go : (t : Bool) → leb (line - 1) n ≡ t → cond t (line - 1) n ≡ n
      go true e = omega (arith, leb-true (line - 1) n e)
      go false e = refl

  -- ---- one part goes on from where the cursor stands
  pub record GoesOn (line : ℕ) (p : Step) : Type 0 where
    pub bytes : told line ++ p.bytes ≡ told p.line
    pub counted : p.textless ≡ none p.line
    pub within : p.line ≤ n + 2
    pub on : line < n + 2 → line < p.line
    pub low : line ≤ p.line

  head_on : GoesOn 0 (head_step gps tai utc all 0)
  unfolding head_step listed_lines textless_from
  head_on = record {
    bytes = ap (λ (l : List ℕ). l ++ head) told-start ∙ sym (append-nil head) ∙ sym (told-lines 1 (omega arith) (omega arith));
    counted = sym (none-lines 1 (omega arith));
    within = omega arith;
    on = λ h. omega arith;
    low = omega arith;
  }

  lines-on : (line room : ℕ) → 1 ≤ line → line ≤ n → 550 ≤ room → GoesOn line (lines_step s rows all order line (none line) room)
  unfolding lines_step listed_part listed_count
  lines-on line room h g r =
      let c = listed_count s order (line - 1) room in
      let most = least-left (least (n - (line - 1)) 256) (room / longest_line s) in
      let left = least-left (n - (line - 1)) 256 in
      let some = least-some (least (n - (line - 1)) 256) (room / longest_line s)
      (least-some (n - (line - 1)) 256 (omega arith) (omega arith)) (some-room s room r) in
      let z : line - 1 + c ≡ line + c - 1 = omega (arith, some) in
      let o : 0 + (line - 1) ≡ line - 1 = omega arith in
      let now : none line ≡ textless_from rows all order 0 (line - 1) = none-lines line (omega arith) in
      let sum : none line + textless_from rows all order (line - 1) c ≡ textless_from rows all order 0 (line - 1 + c) =
      ap (λ (m : ℕ). m + textless_from rows all order (line - 1) c) now
      ∙ ap (λ (m : ℕ). textless_from rows all order 0 (line - 1) + textless_from rows all order m c) (sym o)
      ∙ sym (counts-join rows all order 0 (line - 1) c) in
      let few = count_most rows all order 0 (line - 1 + c) in
      let low : none line + textless_from rows all order (line - 1) c < 18446744073709551616 = omega (arith, sum, few, most, left, small) in
      record {
        bytes = ap (λ (l : List ℕ). l ++ listed_lines s rows all order (line - 1) c) (told-lines line h (omega arith))
            ∙ append_assoc head (lines (line - 1)) (listed_lines s rows all order (line - 1) c)
            ∙ ap (λ (m : ℕ). head ++ (lines (line - 1) ++ listed_lines s rows all order m c)) (sym o)
            ∙ ap (λ (l : List ℕ). head ++ l) (sym (parts_join s rows all order 0 (line - 1) c))
            ∙ ap (λ (m : ℕ). head ++ lines m) z ∙ sym (told-lines (line + c) (omega arith) (omega (arith, most, left)));
        counted = (let e : (none line + textless_from rows all order (line - 1) c) % 18446744073709551616
            ≡ none line + textless_from rows all order (line - 1) c = omega (arith, low) in e)
            ∙ sum ∙ ap (textless_from rows all order 0) z ∙ sym (none-lines (line + c) (omega (arith, most, left)));
        within = omega (arith, most, left);
        on = λ q. omega (arith, some);
        low = omega arith;
      }

  end_on : (line : ℕ) → line ≡ n + 1 → GoesOn line (end_step all line (none line))
  unfolding end_step listing_text
  end_on line e =
      let k : line - 1 ≡ n = omega (arith, e) in
      record {
        bytes = ap (λ (l : List ℕ). l ++ end_text (ordered_of all) (none line)) (told-lines line (omega (arith, e)) (omega (arith, e)))
            ∙ append_assoc head (lines (line - 1)) (end_text (ordered_of all) (none line))
            ∙ (λ i. head ++ (lines (k i) ++ end_text (ordered_of all) (none_end line (omega (arith, e)) i)))
            ∙ sym (told-end (line + 1) (omega (arith, e)));
        counted = none_end line (omega (arith, e)) ∙ sym (none_end (line + 1) (omega (arith, e)));
        within = omega (arith, e);
        on = λ h. omega arith;
        low = omega arith;
      }

  stay_on : (line : ℕ) → line ≡ n + 2 → GoesOn line (step [] line (none line))
  stay_on line e = record {
    bytes = append-nil (told line);
    counted = refl;
    within = omega (arith, e);
    on = λ h. let w : ⊥ = omega (arith, e) in absurd w;
    low = omega arith;
  }

  -- ONE PART, from any cursor that a call leaves
  pub one-part : (line room : ℕ) → line ≤ n + 2 → 550 ≤ room → GoesOn line (part_from s rows gps tai utc all order line (none line) room)
  one-part zero room h r =
      subst (GoesOn 0) (sym (ap (head_step gps tai utc all) start) ∙ at_head s rows gps tai utc all order 0 (none 0) room refl) head_on
    where
      start : none 0 ≡ 0
      start = none-lines 0 (omega arith) ∙ nothing_yet
        where
          nothing_yet : textless_from rows all order 0 (0 - 1) ≡ 0
          nothing_yet = omega (arith, count_most rows all order 0 (0 - 1))
  one-part (suc k) room h r = by (leb (suc k) n) refl
    where
      some : suc k ≡ 0 → ⊥
      some q = omega (arith, q)

      last : (suc k ≡ n + 2) ⊎ (suc k < n + 2) → n < suc k → GoesOn (suc k) (part_from s rows gps tai utc all order (suc k) (none (suc k)) room)
      last (inl e) g =
          subst (GoesOn (suc k)) (at_nothing s rows gps tai utc all order (suc k) (none (suc k)) room (omega (arith, e))) (stay_on (suc k) e)
      last (inr b) g =
          let e : suc k ≡ n + 1 = omega (arith, b, g) in
          subst (GoesOn (suc k)) (at_end s rows gps tai utc all order (suc k) (none (suc k)) room e) (end_on (suc k) e)

      by : (t : Bool) → leb (suc k) n ≡ t → GoesOn (suc k) (part_from s rows gps tai utc all order (suc k) (none (suc k)) room)
      by true e =
          subst (GoesOn (suc k)) (at_lines s rows gps tai utc all order (suc k) (none (suc k)) room some (leb-true (suc k) n e))
          (lines-on (suc k) room (omega arith) (leb-true (suc k) n e) r)
      by false e = last (eq-or-lt_of_le h) (leb-false (suc k) n e)

  -- ---- many parts
  pub record Reaches (line many : ℕ) (p : Step) : Type 0 where
    pub bytes : told line ++ p.bytes ≡ told p.line
    pub counted : p.textless ≡ none p.line
    pub within : p.line ≤ n + 2
    pub far : n + 2 ≤ line + many → p.line ≡ n + 2

  -- ALL PARTS so far are what is told before the cursor
  pub all-parts : (line : ℕ) → line ≤ n + 2 → (rooms : List ℕ) → RoomyParts rooms → Reaches line (length rooms) (all_parts_joined part line (none line) rooms)
  unfolding all_parts_joined
  all-parts line h [] r = record {
    bytes = append-nil (told line);
    counted = refl;
    within = h;
    far = λ g. omega (arith, g);
  }
  all-parts line h (room ∷ rooms) r =
      more (one-part line room h r.0) (all-parts (part line (none line) room).line (one-part line room h r.0).within rooms r.1)
    where
      p : Step
      p = part line (none line) room

      more : GoesOn line p → Reaches p.line (length rooms) (all_parts_joined part p.line (none p.line) rooms)
          → Reaches line (suc (length rooms)) (all_parts_joined part line (none line) (room ∷ rooms))
      more g q =
          let same : all_parts_joined part p.line (none p.line) rooms ≡ all_parts_joined part p.line p.textless rooms =
          ap (λ (t : ℕ). all_parts_joined part p.line t rooms) (sym g.counted) in
          let w = subst (Reaches p.line (length rooms)) same q in
          record {
            bytes = sym (append_assoc (told line) p.bytes (all_parts_joined part p.line p.textless rooms).bytes)
                ∙ ap (λ (l : List ℕ). l ++ (all_parts_joined part p.line p.textless rooms).bytes) g.bytes ∙ w.bytes;
            counted = w.counted;
            within = w.within;
            far = λ f. go (eq-or-lt_of_le h) f w g;
          }
        where
          go : (line ≡ n + 2) ⊎ (line < n + 2) → n + 2 ≤ line + suc (length rooms)
              → Reaches p.line (length rooms) (all_parts_joined part p.line p.textless rooms)
              → GoesOn line p → (all_parts_joined part p.line p.textless rooms).line ≡ n + 2
          go (inl e) f w g = w.far (omega (arith, g.low, e))
          go (inr b) f w g = w.far (omega (arith, g.on b, f))

  -- THE WHOLE: as many buffers as lines and two, or more
  pub parts-are-whole : (rooms : List ℕ) → RoomyParts rooms → lines_of_order order + 2 ≤ length rooms
      → ((all_parts_joined part 0 0 rooms).bytes ≡ listing_text s rows gps tai utc all order (ordered_of all))
      × ((all_parts_joined part 0 0 rooms).line ≡ lines_of_order order + 2)
      × ((all_parts_joined part 0 0 rooms).textless ≡ textless_from rows all order 0 (lines_of_order order))
  parts-are-whole rooms r h =
      let start : none 0 ≡ 0 = none-lines 0 (omega arith) ∙ (let e : textless_from rows all order 0 (0 - 1) ≡ 0 = omega
      (arith, count_most rows all order 0 (0 - 1)) in e) in
      let w = subst (λ (t : ℕ). Reaches 0 (length rooms) (all_parts_joined part 0 t rooms)) start (all-parts 0 (omega arith) rooms r) in
      let end = w.far (omega (arith, h)) in (
        ap (λ (l : List ℕ). l ++ (all_parts_joined part 0 0 rooms).bytes) (sym told-start) ∙ w.bytes ∙ ap told end ∙ told-end (n + 2) (omega arith),
        end,
        w.counted ∙ ap none end ∙ none_end (n + 2) (omega arith),
      )
