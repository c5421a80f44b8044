-- A PART HAS BYTES EXACTLY BEFORE THE END: into 550 bytes or more, the part from the head, from the line of a stamp or from the last line on has a byte at
-- least; behind the last line it has none, and the cursor stays. So a program that asks until a part is empty does not stop early. Assumes nothing.
use Rattle.std.proofs.Common.{◌≡◌, ℕ, zero, suc, ◌+◌, ◌-◌, ◌/◌, ◌<◌, ◌≤◌, Bool, true, false, cond, leb, List, [], ◌∷◌, ◌++◌, length, sym, refl, subst, arith}
use Rattle.std.proofs.Common.{length-append, leb-false, leb-true}
use Rattle.numerals.specs.digits.Decimal.{digits_of}
use Rattle.leap_table.specs.rows.Table.{Row}
use Rattle.leap_table.specs.rows.Announced.{least}
use Rattle.utc.specs.text.Ascii.{ascii_bytes}
use Rattle.line_listing.specs.declared.head.RunEnd.{RunEnd}
use Rattle.line_listing.specs.head.Counts.{first_end, second_end}
use Rattle.line_listing.specs.head.Head.{counted, run_if_named, one_if_named, head_text, end_text}
use Rattle.line_listing.specs.lines.StampLine.{Stamps, line_in_order, date_of_place, number_of_place, recorder, index_in, stamp_told, line_by, place_line}
use Rattle.line_listing.specs.lines.Parts.{longest_line, lines_of_order, listed_lines, listed_count, listed_part}
use Rattle.line_listing.specs.listing.Part.{Step, step, ordered_of, head_step, lines_step, end_step, part_from}
use Rattle.line_listing.proofs.listing.Steps.{at_head, at_lines, at_end, at_nothing}

-- ---- a text has bytes where a piece of it has
some_first : (a b : List ℕ) → 0 < length a → 0 < length (a ++ b)
some_first a b h = omega (arith, length-append a b, h)

some-last : (a b : List ℕ) → 0 < length b → 0 < length (a ++ b)
some-last a b h = omega (arith, length-append a b, h)

head_some : (gps tai utc : RunEnd) (all : Stamps) → 0 < length (head_text gps tai utc all)
unfolding head_text
head_some gps tai utc all =
    let js = all.jd1s in
    let ks = all.jd2s in
    let ns = all.numbers in
    let named = counted (ascii_bytes "line up ") (one_if_named gps.named + one_if_named tai.named + one_if_named utc.named) in
    let g = run_if_named (ascii_bytes "gps ") gps js ks ns 0 (first_end all) in
    let t = run_if_named (ascii_bytes "tai ") tai js ks ns (first_end all) (second_end all - first_end all) in
    let u = run_if_named (ascii_bytes "utc ") utc js ks ns (second_end all) (length ns - second_end all) in
    let first = named ++ ascii_bytes " runs\n" in
    some_first ((first ++ g) ++ t) u (some_first (first ++ g) t (some_first first g (some-last named (ascii_bytes " runs\n") (omega arith))))

end-some : (ordered textless : ℕ) → 0 < length (end_text ordered textless)
unfolding end_text
end-some ordered textless = some-last (counted (ascii_bytes "lined up ") ordered ++ counted (ascii_bytes " without text ") textless) (10 ∷ []) (omega arith)

line-some : (s : Bool) (rows : List Row) (all : Stamps) (p : ℕ) → 0 < length (place_line s rows all p)
unfolding place_line line_by
line-some s rows all p =
    let place = (recorder all.first all.second p ++ digits_of (index_in all.first all.second p)) ++ (32 ∷ []) in
    some-last (place ++ stamp_told s rows (date_of_place all p) (number_of_place all p)) (10 ∷ []) (omega arith)

lines-some : (s : Bool) (rows : List Row) (all : Stamps) (order : List ℕ) (line k : ℕ) → 1 ≤ k → 0 < length (listed_lines s rows all order line k)
unfolding listed_lines
lines-some s rows all order line zero h = omega arith
lines-some s rows all order line (suc k) h =
    some-last (listed_lines s rows all order line k) (place_line s rows all (line_in_order order (line + k)))
    (line-some s rows all (line_in_order order (line + k)))

-- ---- 550 bytes hold a line
count-some : (s : Bool) (order : List ℕ) (line room : ℕ) → line < lines_of_order order → 550 ≤ room → 1 ≤ listed_count s order line room
unfolding listed_count longest_line
count-some s order line room h r =
    both (least (lines_of_order order - line) 256) (room / longest_line s) (both (lines_of_order order - line) 256 (omega arith) (omega arith)) (one s)
  where
    one : (s : Bool) → 1 ≤ room / longest_line s
    one true = omega arith
    one false = omega arith

    both : (a b : ℕ) → 1 ≤ a → 1 ≤ b → 1 ≤ least a b
    both a b h g = go (leb a b)
      where
        go : (t : Bool) → 1 ≤ cond t a b
        go true = h
        go false = g

module _ (s : Bool) (rows : List Row) (gps tai utc : RunEnd) (all : Stamps) (order : List ℕ) (textless room : ℕ) where
  abbrev n : ℕ
  n = lines_of_order order

  abbrev part : ℕ → Step
  part line = part_from s rows gps tai utc all order line textless room

  abbrev HasBytes : Step → Type 0
  HasBytes p = 0 < length p.bytes

  head_bytes : HasBytes (head_step gps tai utc all textless)
  unfolding head_step
  head_bytes = head_some gps tai utc all

  lines-bytes : (m : ℕ) → suc m ≤ n → 550 ≤ room → HasBytes (lines_step s rows all order (suc m) textless room)
  unfolding lines_step listed_part
  lines-bytes m h r = lines-some s rows all order (suc m - 1) (listed_count s order (suc m - 1) room) (count-some s order (suc m - 1) room (omega (arith, h)) r)

  end-bytes : (line : ℕ) → HasBytes (end_step all line textless)
  unfolding end_step
  end-bytes line = end-some (ordered_of all) textless

  -- BEFORE THE END a part has bytes: line 0 is the head, 1 to n are the stamps', n + 1 is the last
  pub some_bytes : (line : ℕ) → line < lines_of_order order + 2 → 550 ≤ room → 0 < length (part_from s rows gps tai utc all order line textless room).bytes
  some_bytes zero h r = subst HasBytes (at_head s rows gps tai utc all order 0 textless room refl) head_bytes
  some_bytes (suc m) h r = by (leb (suc m) n) refl
    where
      some : suc m ≡ 0 → ⊥
      some q = omega (arith, q)

      by : (t : Bool) → leb (suc m) n ≡ t → HasBytes (part (suc m))
      by true e =
          let low = leb-true (suc m) n e in
          subst HasBytes (at_lines s rows gps tai utc all order (suc m) textless room some low) (lines-bytes m low r)
      by false e =
          let last : suc m ≡ n + 1 = omega (arith, leb-false (suc m) n e, h) in
          subst HasBytes (at_end s rows gps tai utc all order (suc m) textless room last) (end-bytes (suc m))

  -- BEHIND THE LAST LINE it has none, and the cursor stays
  pub no_bytes : (line : ℕ) → lines_of_order order + 2 ≤ line → part_from s rows gps tai utc all order line textless room ≡ step [] line textless
  no_bytes line h = sym (at_nothing s rows gps tai utc all order line textless room (omega (arith, h)))

  -- SO AN EMPTY PART IS THE END
  pub empty-at-end : (line : ℕ) → 550 ≤ room → length (part_from s rows gps tai utc all order line textless room).bytes ≡ 0 → lines_of_order order + 2 ≤ line
  empty-at-end line r e = by (leb (n + 2) line) refl
    where
      by : (t : Bool) → leb (n + 2) line ≡ t → n + 2 ≤ line
      by true q = leb-true (n + 2) line q
      by false q = let w : ⊥ = omega (arith, some_bytes line (leb-false (n + 2) line q) r, e) in absurd w
