-- WHICH NUMBER EACH WALK GETS, for all lists of dates and all rooms: 14, 11, or that of the first date that does not stand, and an answer else. Assumes
-- nothing.
use Rattle.std.proofs.Common.{◌≡◌, ℕ, zero, suc, ◌*◌, ◌/◌, ◌%◌, ◌<◌, ◌≤◌, Bool, true, false, cond, eqb, leb, List, [], ◌∷◌, length, get_or, ℤ, sym, refl, ap}
use Rattle.std.proofs.Common.{◌∙◌, true≢false, arith, eqb-true, leb-false, leb-true}
use borrow.Author.Tests.{eqb-false}
use Rattle.refusals.specs.Outcome.{Outcome, answer, refusal, onward}
use Rattle.refusals.proofs.Onward.{went, stopped}
use Rattle.numerals.specs.little_endian.LittleEndian.{four_at, u32_at, signed32}
use Rattle.calendar.specs.Calendar.{leap_size, lengths, days_in_month}
use Rattle.calendar.specs.Refusals.{valid_date}
use Rattle.leap_table.specs.rows.Table.{Row, fixed}
use Rattle.leap_table.specs.declared.judging.Triple.{Triple}
use Rattle.leap_table.specs.judging.Judging.{earlier, valid_triple, judged_next, judged_after, judged_all}
use Rattle.leap_table.specs.judging.Lists.{dates_from, triple_at, triple_in}
use Rattle.leap_table.specs.walk.Walk.{Walked, walked, walk_of}
use Rattle.leap_table.specs.walk.Lists.{walk_of_numbers, walk_of_bytes}
use Rattle.leap_table.specs.walk.Due.{Stands, RefusedAt, FirstRefused, WalkDecision}
use Rattle.leap_table.specs.walk.Due.{by_its_own, by_order, broken_triple, too_few_places, date_refused, all_walked}

-- ---- the dates behind a date b, the first of the list b ∷ ds
data Behind (d b : Triple) (ds : List Triple) (o : Outcome Unit) : Type 0 where
  all-stand : ((i : ℕ) → i < length ds → Stands (b ∷ ds) d (suc i)) → o ≡ answer tt → Behind d b ds o
  one-refused : (k i : ℕ) → i < length ds → ((j : ℕ) → j < i → Stands (b ∷ ds) d (suc j)) → RefusedAt (b ∷ ds) d (suc i) k → o ≡ refusal k → Behind d b ds o

behind : (d b : Triple) (ds : List Triple) → Behind d b ds (judged_after b ds)
unfolding judged_after judged_next
behind d b [] = all-stand (λ i h. let w : ⊥ = omega arith in absurd w) refl
behind d b (t ∷ ds) = go (valid_triple t) refl (earlier t b) refl (behind d t ds)
  where
    own : Outcome Unit → Outcome Unit
    own v = onward v (λ _. cond (earlier t b) (refusal 17) (answer tt))

    rest : Outcome Unit → Outcome Unit
    rest v = onward v (λ _. judged_after t ds)

    refused : (v : Outcome Unit) (k : ℕ) → v ≡ refusal k → rest v ≡ refusal k
    refused v k e = stopped (λ _. judged_after t ds) e

    next : (c : Bool) → valid_triple t ≡ answer tt → earlier t b ≡ c → own (valid_triple t) ≡ cond c (refusal 17) (answer tt)
    next c p q =
        went (λ _. cond (earlier t b) (refusal 17) (answer tt)) p ∙ ap {B = Outcome Unit} (λ (x : Bool). cond x (refusal 17) (answer tt)) q

    passed : valid_triple t ≡ answer tt → earlier t b ≡ false → rest (own (valid_triple t)) ≡ judged_after t ds
    passed p q = went (λ _. judged_after t ds) (next false p q)

    stand : (n : ℕ) → Stands (b ∷ t ∷ ds) d 1 → ((i : ℕ) → i < n → Stands (t ∷ ds) d (suc i)) → (i : ℕ) → i < suc n → Stands (b ∷ t ∷ ds) d (suc i)
    stand n s f zero h = s
    stand n s f (suc i) h = let x : Stands (t ∷ ds) d (suc i) = f i (omega arith) in record { good = x.good; order = x.order }

    later : (i k : ℕ) → RefusedAt (t ∷ ds) d (suc i) k → RefusedAt (b ∷ t ∷ ds) d (suc (suc i)) k
    later i k (by_its_own e) = by_its_own e
    later i k (by_order e f g) = by_order e f g

    go : (v : Outcome Unit) → valid_triple t ≡ v → (c : Bool) → earlier t b ≡ c → Behind d t ds (judged_after t ds)
        → Behind d b (t ∷ ds) (rest (own (valid_triple t)))
    go (refusal k) p c q r =
        one-refused k 0 (omega arith) (λ j h. let w : ⊥ = omega arith in absurd w) (by_its_own p)
        (refused (own (valid_triple t)) k (stopped (λ _. cond (earlier t b) (refusal 17) (answer tt)) p))
    go (answer u) p true q r =
        one-refused 17 0 (omega arith) (λ j h. let w : ⊥ = omega arith in absurd w) (by_order p q refl)
        (refused (own (valid_triple t)) 17 (next true p q))
    go (answer u) p false q (all-stand f e) =
        all-stand (stand (length ds) (record { good = p; order = q }) f) (passed p q ∙ e)
    go (answer u) p false q (one-refused k i h f x e) =
        one-refused k (suc i) (omega arith) (stand i (record { good = p; order = q }) f) (later i k x)
        (passed p q ∙ e)

-- ---- all dates
data Judged (d : Triple) (ds : List Triple) (o : Outcome Unit) : Type 0 where
  none-refused : ((i : ℕ) → i < length ds → Stands ds d i) → o ≡ answer tt → Judged d ds o
  first-refused : (k : ℕ) → FirstRefused ds d k → o ≡ refusal k → Judged d ds o

judged : (d : Triple) (ds : List Triple) → Judged d ds (judged_all ds)
unfolding judged_all
judged d [] = none-refused (λ i h. let w : ⊥ = omega arith in absurd w) refl
judged d (t ∷ ds) = go (valid_triple t) refl (behind d t ds)
  where
    passed : valid_triple t ≡ answer tt → onward (valid_triple t) (λ _. judged_after t ds) ≡ judged_after t ds
    passed p = went (λ _. judged_after t ds) p

    stand : (n : ℕ) → Stands (t ∷ ds) d 0 → ((i : ℕ) → i < n → Stands (t ∷ ds) d (suc i)) → (i : ℕ) → i < suc n → Stands (t ∷ ds) d i
    stand n s f zero h = s
    stand n s f (suc i) h = f i (omega arith)

    go : (v : Outcome Unit) → valid_triple t ≡ v → Behind d t ds (judged_after t ds) → Judged d (t ∷ ds) (onward (valid_triple t) (λ _. judged_after t ds))
    go (refusal k) p r =
        first-refused k (record { place = 0; within = omega arith; before = λ j h. let w : ⊥ = omega arith in absurd w; refused = by_its_own p })
        (stopped (λ _. judged_after t ds) p)
    go (answer u) p (all-stand f e) = none-refused (stand (length ds) (record { good = p; order = refl }) f) (passed p ∙ e)
    go (answer u) p (one-refused k i h f x e) =
        first-refused k (record { place = suc i; within = omega arith; before = stand i (record { good = p; order = refl }) f; refused = x })
        (passed p ∙ e)

-- each date of a list that is not refused is a date
pub all-good : (ds : List Triple) (d : Triple) → judged_all ds ≡ answer tt → (i : ℕ) → i < length ds → valid_triple (get_or ds i d) ≡ answer tt
all-good ds d e i h = go (judged d ds)
  where
    go : Judged d ds (judged_all ds) → valid_triple (get_or ds i d) ≡ answer tt
    go (none-refused f q) = (f i h).good
    go (first-refused k x q) = let z : ◌≡◌ {A = ℕ} 0 1 = cc in absurd (omega arith)

-- ---- THE WHOLE WALK: `each` places of the room an offset
module _ (rows : List Row) (over : ℕ) (ds : List Triple) (d : Triple) (places each room : ℕ)
    (fit : length ds ≤ places → each * length ds ≤ room) (few : places < length ds → room < each * length ds) where
  decided : WalkDecision rows over ds d each room (walk_of rows (eqb over 0) ds places)
  unfolding walk_of
  decided = go (eqb over 0) refl (leb (length ds) places) refl (judged d ds)
    where
      done : Outcome Unit → Outcome Walked
      done v = onward v (λ _. answer (walked rows ds))

      go : (a : Bool) → eqb over 0 ≡ a → (b : Bool) → leb (length ds) places ≡ b → Judged d ds (judged_all ds)
          → WalkDecision rows over ds d each room (cond a (cond b (done (judged_all ds)) (refusal 11)) (refusal 14))
      go false p b q r = broken_triple (eqb-false over 0 p) refl
      go true p false q r = too_few_places (eqb-true over 0 p) (few (leb-false (length ds) places q)) refl
      go true p true q (none-refused f e) = all_walked (eqb-true over 0 p) (fit (leb-true (length ds) places q)) f (went (λ _. answer (walked rows ds)) e)
      go true p true q (first-refused k x e) =
          date_refused (eqb-true over 0 p) (fit (leb-true (length ds) places q)) k x (stopped (λ _. answer (walked rows ds)) e)

-- of any bytes, whatever room: eight bytes an offset
pub bytes-decided : (rows : List Row) (s : List ℕ) (d : Triple) (room : ℕ)
    → WalkDecision rows (length s % 12) (dates_from (triple_in s) 0 (length s / 12)) d 8 room (walk_of_bytes rows s room)
bytes-decided rows s d room =
    let ds = dates_from (triple_in s) 0 (length s / 12) in
    decided rows (length s % 12) ds d (room / 8) 8 room (λ h. omega arith) (λ h. omega arith)

-- of any numbers: one place an offset
pub numbers-decided : (rows : List Row) (l : List ℤ) (d : Triple) (places : ℕ)
    → WalkDecision rows (length l % 3) (dates_from (triple_at l) 0 (length l / 3)) d 1 places (walk_of_numbers rows l places)
numbers-decided rows l d places =
    let ds = dates_from (triple_at l) 0 (length l / 3) in
    decided rows (length l % 3) ds d places 1 places (λ h. omega arith) (λ h. omega arith)

-- ---- ANSWERED where no case of a refusal is there
shut : (ds : List Triple) (d : Triple) (i k : ℕ) → Stands ds d i → RefusedAt ds d i k → ⊥
shut ds d i k s (by_its_own e) = let g : valid_triple (get_or ds i d) ≡ answer tt = s.good in let z : ◌≡◌ {A = ℕ} 0 1 = cc in omega arith
shut ds d i k s (by_order e f g) = true≢false (sym f ∙ s.order)

answered-when : (rows : List Row) (over : ℕ) (ds : List Triple) (d : Triple) (each room : ℕ) (o : Outcome Walked) → WalkDecision rows over ds d each room o
    → over ≡ 0 → each * length ds ≤ room → ((i : ℕ) → i < length ds → Stands ds d i) → o ≡ answer (walked rows ds)
answered-when rows over ds d each room o (broken_triple h e) p q f = absurd (h p)
answered-when rows over ds d each room o (too_few_places h k e) p q f = let w : ⊥ = omega arith in absurd w
answered-when rows over ds d each room o (date_refused h r k x e) p q f = absurd (shut ds d x.place k (f x.place x.within) x.refused)
answered-when rows over ds d each room o (all_walked h r g e) p q f = e

pub bytes-answered : (rows : List Row) (s : List ℕ) (d : Triple) (room : ℕ) → length s % 12 ≡ 0 → 8 * length (dates_from (triple_in s) 0 (length s / 12)) ≤ room
    → ((i : ℕ) → i < length (dates_from (triple_in s) 0 (length s / 12)) → Stands (dates_from (triple_in s) 0 (length s / 12)) d i)
    → walk_of_bytes rows s room ≡ answer (walked rows (dates_from (triple_in s) 0 (length s / 12)))
bytes-answered rows s d room =
    answered-when rows (length s % 12) (dates_from (triple_in s) 0 (length s / 12)) d 8 room (walk_of_bytes rows s room) (bytes-decided rows s d room)

pub numbers-answered : (rows : List Row) (l : List ℤ) (d : Triple) (places : ℕ) → length l % 3 ≡ 0
    → 1 * length (dates_from (triple_at l) 0 (length l / 3)) ≤ places
    → ((i : ℕ) → i < length (dates_from (triple_at l) 0 (length l / 3)) → Stands (dates_from (triple_at l) 0 (length l / 3)) d i)
    → walk_of_numbers rows l places ≡ answer (walked rows (dates_from (triple_at l) 0 (length l / 3)))
numbers-answered rows l d places =
    answered-when rows (length l % 3) (dates_from (triple_at l) 0 (length l / 3)) d 1 places (walk_of_numbers rows l places) (numbers-decided rows l d places)

-- ---- worked: 2017-01-02 twice is walked in 16 bytes of room and refused by 11 in 15; 2017-01-01 behind it is 17; 25 bytes are 14
abbrev twice : List ℕ → List ℕ
twice rest = 225 ∷ 7 ∷ 0 ∷ 0 ∷ 1 ∷ 0 ∷ 0 ∷ 0 ∷ 2 ∷ 0 ∷ 0 ∷ 0 ∷ 225 ∷ 7 ∷ 0 ∷ 0 ∷ 1 ∷ 0 ∷ 0 ∷ 0 ∷ rest

pub room-of-16 : onward (walk_of_bytes fixed (twice (2 ∷ 0 ∷ 0 ∷ 0 ∷ [])) 16) (λ w. answer (length w.offsets)) ≡ answer 2
unfolding walk_of dates_from u32_at four_at signed32 judged_all judged_after judged_next earlier onward valid_date days_in_month lengths leap_size
room-of-16 = refl

pub room-of-15 : walk_of_bytes fixed (twice (2 ∷ 0 ∷ 0 ∷ 0 ∷ [])) 15 ≡ refusal 11
unfolding walk_of dates_from
room-of-15 = refl

pub a-day-earlier : walk_of_bytes fixed (twice (1 ∷ 0 ∷ 0 ∷ 0 ∷ [])) 16 ≡ refusal 17
unfolding walk_of dates_from u32_at four_at signed32 judged_all judged_after judged_next earlier onward valid_date days_in_month lengths leap_size
a-day-earlier = refl

pub a-byte-more : walk_of_bytes fixed (twice (2 ∷ 0 ∷ 0 ∷ 0 ∷ 0 ∷ [])) 16 ≡ refusal 14
unfolding walk_of
a-byte-more = refl
