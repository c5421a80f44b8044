-- THE JOINED PARTS ARE THE LISTING: where the stamps are those of the three runs and the order and the numbers are the answer of the lining up, no part of 550
-- bytes or more is refused, and the parts one after the other are the whole listing. Assumes nothing.
use Rattle.std.proofs.Common.{◌≡◌, ℕ, zero, suc, ◌+◌, ◌-◌, ◌*◌, ◌<◌, ◌≤◌, Bool, true, false, cond, ◌&&◌, eqb, ltb, List, [], ◌∷◌, ◌++◌, length, get_or, take}
use Rattle.std.proofs.Common.{drop, replicate, sym, refl, ap, ◌∙◌, subst, append-nil, arith, drop_of_length-le, ltb-true, lt-ltb}
use lib.ListN.{length-replicate}
use lib.Seq.{take-length}
use Rattle.refusals.specs.Outcome.{Outcome, answer, onward}
use Rattle.julian.specs.stamp_lists.Stamps.{stamp_of}
use Rattle.leap_table.specs.rows.Table.{Row}
use Rattle.leap_table.specs.rows.Announced.{least}
use Rattle.line_up.specs.Runs.{all_tested, numbers_after, ordered, times_in}
use Rattle.line_up.specs.LineUp.{unordered_at, sooner_at, places_bytes, LinedUp}
use Rattle.line_up.specs.laws.Claims.{Each, zeros_in}
use Rattle.line_up.specs.laws.Due.{LineDue}
use Rattle.line_up.proofs.Places.{after-length}
use Rattle.line_up.proofs.Testing.{tested-length}
use Rattle.line_up.proofs.laws.Pairwise.{each-of-times_in}
use Rattle.line_up.proofs.laws.Due.{none-refused}
use Rattle.line_listing.specs.declared.head.RunEnd.{RunEnd}
use Rattle.line_listing.specs.order.Order.{line_order, order_written, put_in_order, lines_in_order}
use Rattle.line_listing.specs.head.Counts.{not_finite, kind_at, kinds_in}
use Rattle.line_listing.specs.lines.StampLine.{Stamps, line_in_order}
use Rattle.line_listing.specs.lines.Parts.{lines_of_order, listed_count, places_there, absent_refusal}
use Rattle.line_listing.specs.listing.Listing.{NamedRun, run_end_of, all_taken, numbered_by, stamps_in_order, listing_text, listing_by, line_listing}
use Rattle.line_listing.specs.listing.Part.{ordered_of, part_from, listing_refusal}
use Rattle.line_listing.specs.laws.Places.{AllListed}
use Rattle.line_listing.specs.laws.Joined.{all_parts_joined, RoomyParts}
use Rattle.line_listing.proofs.order.Puts.{places-long}
use Rattle.line_listing.proofs.order.Tiles.{whole_long}
use Rattle.line_listing.proofs.lines.Whole.{least-left}
use Rattle.line_listing.proofs.listing.Steps.{room-there, no_lines_yet, all_there}
use Rattle.line_listing.proofs.laws.Theorems.{answered-order, listed-order}
use Rattle.line_listing.proofs.laws.Joined.{parts-are-whole}

-- ---- THE ORDERED are those of number 0
zero_kind : (a b c : Bool) → eqb (cond a 0 (cond b 3 (cond c 1 2))) 0 ≡ a
zero_kind true b c = refl
zero_kind false true c = refl
zero_kind false false true = refl
zero_kind false false false = refl

zeros-more : (ns : List ℕ) (k : ℕ) → k < length ns → zeros_in (take k ns) + cond (eqb (get_or ns k 0) 0) 1 0 ≡ zeros_in (take (suc k) ns)
unfolding zeros_in
zeros-more [] k h = let w : ⊥ = omega arith in absurd w
zeros-more (m ∷ ms) zero h = omega arith
zeros-more (m ∷ ms) (suc k) h = sums (cond (eqb m 0) 1 0) (zeros_in (take k ms)) (cond (eqb (get_or ms k 0) 0) 1 0) _ (zeros-more ms k (omega arith))
  where
    sums : (a b c d : ℕ) → b + c ≡ d → a + b + c ≡ a + d
    sums a b c d e = omega arith

kinds_before : (js ks ns : List ℕ) (k : ℕ) → k ≤ length ns → kinds_in js ks ns 0 0 k ≡ zeros_in (take k ns)
unfolding kinds_in kind_at zeros_in
kinds_before js ks ns zero h = refl
kinds_before js ks ns (suc k) h =
    let z : 0 + k ≡ k = omega arith in
    (λ i. kinds_before js ks ns k (omega arith) i
    + cond (zero_kind (eqb (get_or ns (0 + k) 0) 0) (eqb (get_or ns (0 + k) 0) 17) (not_finite js ks (0 + k)) i) 1 0)
    ∙ ap (λ (m : ℕ). zeros_in (take k ns) + cond (eqb (get_or ns m 0) 0) 1 0) z
    ∙ zeros-more ns k (omega arith)

pub ordered-zeros : (js ks ns : List ℕ) → kinds_in js ks ns 0 0 (length ns) ≡ zeros_in ns
ordered-zeros js ks ns = kinds_before js ks ns (length ns) (omega arith) ∙ ap zeros_in (take-length ns)

-- ---- a lining up that is answered, into exactly its room
module _ (all : Stamps) where
  abbrev js : List ℕ
  js = all.jd1s

  abbrev ks : List ℕ
  ks = all.jd2s

  abbrev ns : List ℕ
  ns = all.numbers

  come : List ℕ
  come = all_tested (unordered_at js ks) 0 ns

  come_long : length come ≡ length ns
  unfolding come
  come_long = tested-length (unordered_at js ks) 0 ns

  ms : List ℕ
  ms = numbers_after (sooner_at js ks) come all.first (all.first + all.second) (length come)

  line : List ℕ
  line = ordered (sooner_at js ks) ms all.first (all.first + all.second) (length come)

  order : List ℕ
  order = places_bytes (line_order ms all.first (all.first + all.second) line)

  ms_long : all.first + all.second ≤ length ns → length ms ≡ length ns
  unfolding ms
  ms_long runs =
      after-length (sooner_at js ks) come all.first (all.first + all.second) (length come) (omega arith) (omega (arith, runs, come_long)) (omega arith)
      ∙ come_long

  order-long : all.first + all.second ≤ length ns → length order ≡ 4 * length ns
  unfolding order line
  order-long runs =
      places-long (line_order ms all.first (all.first + all.second) line)
      ∙ ap (λ (k : ℕ). 4 * k) (ap (λ (k : ℕ). length (line_order ms all.first (all.first + all.second)
      (ordered (sooner_at js ks) ms all.first (all.first + all.second) k))) (come_long ∙ sym (ms_long runs))
      ∙ whole_long (sooner_at js ks) ms all.first (all.first + all.second) (omega arith) (omega (arith, runs, ms_long runs)) ∙ ms_long runs)

  lined_is : (out : List ℕ) (work1 work2 : ℕ) → length out ≡ 4 * length ns
      → LineDue (length js) (length ks) (length ns) all.first all.second (length out) work1 work2
      → lines_in_order js ks ns all.first all.second out work1 work2 ≡ record { answer = answer (length line); numbers = ms; out = order }
  unfolding lines_in_order put_in_order order_written come ms line order
  lined_is out work1 work2 exact due =
      let z = none-refused (length js) (length ks) (length ns) all.first all.second (length out) work1 work2 due in
      let none : drop (4 * length ms) out ≡ [] = drop_of_length-le out {i = 4 * length ms} (omega (arith, exact, ms_long due.runs)) in
      rw z (λ i. record { answer = answer (length line); numbers = ms; out = (ap (λ (l : List ℕ). order ++ l) none ∙ append-nil order) i })

-- ---- the lining up of the definition is that of any call that is answered
module _ (all : Stamps) (out : List ℕ) (work1 work2 : ℕ) (exact : length out ≡ 4 * length all.numbers) (k : ℕ)
    (answers : (lines_in_order all.jd1s all.jd2s all.numbers all.first all.second out work1 work2).answer ≡ answer k) where
  abbrev l : LinedUp
  l = lines_in_order all.jd1s all.jd2s all.numbers all.first all.second out work1 work2

  abbrev marked : Stamps
  marked = numbered_by all l.numbers

  due : LineDue (length all.jd1s) (length all.jd2s) (length all.numbers) all.first all.second (length out) work1 work2
  due = answered-order all.jd1s all.jd2s all.numbers all.first all.second out work1 work2 k answers

  listed : AllListed (stamp_of all.jd1s all.jd2s) all.numbers all.first all.second out l
  listed = listed-order all.jd1s all.jd2s all.numbers all.first all.second out work1 work2 due

  blank : List ℕ
  blank = replicate (4 * length all.numbers) 0

  blank_long : length blank ≡ 4 * length all.numbers
  unfolding blank
  blank_long = length-replicate (4 * length all.numbers) 0

  due_there : LineDue (length all.jd1s) (length all.jd2s) (length all.numbers) all.first all.second (length blank)
      (4 * length all.numbers) (4 * length all.numbers)
  due_there = record {
    parts = due.parts;
    runs = due.runs;
    most = due.most;
    room = record { places = omega (arith, blank_long); work1 = omega arith; work2 = omega arith };
  }

  same-order : stamps_in_order all ≡ l
  unfolding stamps_in_order blank
  same-order =
      lined_is all blank (4 * length all.numbers) (4 * length all.numbers) blank_long due_there ∙ sym (lined_is all out work1 work2 exact due)

  pub numbers-long : length l.numbers ≡ length all.numbers
  numbers-long = ap (λ (x : LinedUp). length x.numbers) (lined_is all out work1 work2 exact due) ∙ ms_long all due.runs

  pub lines-many : lines_of_order l.out ≡ length all.numbers
  unfolding lines_of_order
  lines-many =
      let e : length l.out ≡ 4 * length all.numbers =
      ap (λ (x : LinedUp). length x.out) (lined_is all out work1 work2 exact due) ∙ order-long all due.runs in
      omega (arith, e)

  many-ordered : k ≡ ordered_of marked
  many-ordered =
      let e : answer k ≡ answer (length listed.line) = sym answers ∙ listed.answers in
      let f : k ≡ length listed.line = cc e in
      f ∙ listed.counted ∙ sym (ordered-zeros all.jd1s all.jd2s l.numbers)

  pub listing-is : (s : Bool) (rows : List Row) (gps tai utc : RunEnd)
      → listing_by s rows gps tai utc all (stamps_in_order all) ≡ answer (listing_text s rows gps tai utc marked l.out (ordered_of marked))
  unfolding listing_by onward
  listing-is s rows gps tai utc =
      ap (listing_by s rows gps tai utc all) same-order
      ∙ ap (λ (o : Outcome ℕ). onward o (λ many. answer (listing_text s rows gps tai utc marked l.out many))) answers
      ∙ ap (λ (m : ℕ). answer (listing_text s rows gps tai utc marked l.out m)) many-ordered

  -- ---- every place is there
  place-low : (i : ℕ) → i < length all.numbers → line_in_order l.out i < length l.numbers
  place-low i h =
      let lines = listed.lines in
      let in_range : (p : ℕ) → 0 < times_in p lines → p < length l.numbers = λ p g. range p g (ltb p (length l.numbers)) refl in
      let each = each-of-times_in (λ (p : ℕ). p < length l.numbers) lines in_range in
      let long = listed.each.many in
      subst (λ (p : ℕ). p < length l.numbers) (sym (listed.place_at i h)) (nth lines each i (omega (arith, long, numbers-long)))
    where
      range : (p : ℕ) → 0 < times_in p listed.lines → (t : Bool) → ltb p (length l.numbers) ≡ t → p < length l.numbers
      range p g true e = ltb-true p (length l.numbers) e
      range p g false e =
          let z : times_in p listed.lines ≡ 0 = listed.each.once p ∙ ap (λ (t : Bool). cond {A = ℕ} t 1 0) e in
          let w : ⊥ = omega (arith, z, g) in absurd w

      nth : (xs : List ℕ) → Each (λ (p : ℕ). p < length l.numbers) xs → (i : ℕ) → i < length xs → get_or xs i 0 < length l.numbers
      nth [] e i h = let w : ⊥ = omega arith in absurd w
      nth (x ∷ xs) e zero h = e.0
      nth (x ∷ xs) e (suc i) h = nth xs e.1 i (omega arith)

  places-all : (line k : ℕ) → line + k ≤ length all.numbers → places_there l.out (length l.numbers) line k ≡ true
  unfolding places_there
  places-all line zero h = refl
  places-all line (suc k) h =
      λ i. places-all line k (omega arith) i
      && lt-ltb (line_in_order l.out (line + k)) (length l.numbers) (place-low (line + k) (omega arith)) i

  none-gone : (s : Bool) (line room : ℕ) → absent_refusal s (length l.numbers) l.out line room ≡ 0
  unfolding absent_refusal listed_count places_there
  none-gone s line room =
      let n = listed_count s l.out line room in
      go n (least-left _ _) (least-left (lines_of_order l.out - line) 256)
    where
      go : (n : ℕ) → n ≤ least (lines_of_order l.out - line) 256 → least (lines_of_order l.out - line) 256 ≤ lines_of_order l.out - line
          → ◌≡◌ {A = ℕ} (cond (places_there l.out (length l.numbers) line n) 0 18) 0
      go zero a b = refl
      go (suc m) a b = ap (λ (t : Bool). cond {A = ℕ} t 0 18) (places-all line (suc m) (omega (arith, a, b, lines-many)))

  -- NO PART IS REFUSED for a place, and none of 550 bytes for its room
  pub never-refused : (s : Bool) (line room : ℕ) → 550 ≤ room → listing_refusal s (length l.numbers) l.out line room ≡ 0
  never-refused s zero room h = sym (no_lines_yet s (length l.numbers) l.out 0 room 0 refl (room-there room h))
  never-refused s (suc m) room h =
      sym (all_there s (length l.numbers) l.out (suc m) room _ 0 (λ q. let w : ⊥ = omega (arith, q) in w) refl
      (none-gone s (suc m - 1) room) (room-there room h))

-- THE LISTING of three runs by its parts: whatever buffers of 550 bytes or more, as many as stamps and two at least
module _ (s : Bool) (rows : List Row) (gps tai utc : NamedRun) (out : List ℕ) (work1 work2 : ℕ)
    (exact : length out ≡ 4 * length (all_taken rows gps tai utc).numbers) (k : ℕ) where
  abbrev taken : Stamps
  taken = all_taken rows gps tai utc

  abbrev up : LinedUp
  up = lines_in_order taken.jd1s taken.jd2s taken.numbers taken.first taken.second out work1 work2

  pub parts-are-listing : up.answer ≡ answer k → (rooms : List ℕ) → RoomyParts rooms → length taken.numbers + 2 ≤ length rooms
      → line_listing s rows gps tai utc
      ≡ answer (all_parts_joined (λ line textless room. part_from s rows (run_end_of gps) (run_end_of tai) (run_end_of utc)
      (numbered_by taken up.numbers) up.out line
      textless room) 0 0 rooms).bytes
  unfolding line_listing
  parts-are-listing e rooms r h =
      let many = lines-many taken out work1 work2 exact k e in
      let most = (due taken out work1 work2 exact k e).most in
      listing-is taken out work1 work2 exact k e s rows (run_end_of gps) (run_end_of tai) (run_end_of utc)
      ∙ ap answer (sym (parts-are-whole s rows (run_end_of gps) (run_end_of tai) (run_end_of utc) (numbered_by taken up.numbers) up.out
      (omega (arith, many, most)) rooms r (omega (arith, many, h))).0)
