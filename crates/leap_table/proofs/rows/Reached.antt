-- The look-up in any list of months: what it finds from the end, that it is the last month that has begun, and how it grows from month to month in a list that
-- rises. Assumes nothing.
use Rattle.std.proofs.Common.{◌≡◌, ℕ, zero, suc, ◌-◌, ◌<◌, ◌≤◌, Bool, true, false, cond, ◌||◌, T, eqb, ltb, leb, List, [], ◌∷◌, ◌++◌, length, get_or, drop, sym}
use Rattle.std.proofs.Common.{refl, ap, ◌∙◌, subst, le_of_suc-le-suc, not-suc-le-zero, arith, ltb→lt, drop-cons, ne_eqb, eqb-true, le-leb, leb-false, leb-true}
use lib.Seq.{drop-length}
use lib.Ieee.Fits.{and_l, and_r}
use borrow.Author.Tests.{lt-leb, eqb-false}
use Rattle.leap_table.specs.rows.Table.{reached, on_top, rising, LastBegun}

top_one : (k : ℕ) (b : Bool) → k ≡ 0 → b ≡ true → on_top k b ≡ 1
top_one k b p q = rw (p, q)

top-none : (k : ℕ) (b : Bool) → k ≡ 0 → b ≡ false → on_top k b ≡ 0
top-none k b p q = rw (p, q)

top-more : (k j : ℕ) (b : Bool) → k ≡ suc j → on_top k b ≡ suc (suc j)
top-more k j b p = rw p

last : (l : List ℕ) (j n : ℕ) → j < length l → get_or l j 0 ≤ n → reached (drop (suc j) l) n ≡ 0 → reached l n ≡ suc j
unfolding reached
last [] j n h b e = absurd (not-suc-le-zero h)
last (a ∷ l) zero n h b e = top_one (reached l n) (leb a n) e (le-leb a n b)
last (a ∷ l) (suc j) n h b e = top-more (reached l n) j (leb a n) (last l j n (le_of_suc-le-suc h) b e)

earlier : (a n : ℕ) (l : List ℕ) → n < a → reached l n ≡ 0 → reached (a ∷ l) n ≡ 0
unfolding reached
earlier a n l b e = top-none (reached l n) (leb a n) e (lt-leb a n b)

not_yet : (l : List ℕ) (j n : ℕ) → j < length l → n < get_or l j 0 → reached (drop (suc j) l) n ≡ 0 → reached (drop j l) n ≡ 0
not_yet l j n h b e = ap (λ (t : List ℕ). reached t n) (drop-cons l j 0 h) ∙ earlier (get_or l j 0) n (drop (suc j) l) b e

next_down : (i : ℕ) → 0 < i → suc (i - 1) ≡ i
next_down i h = omega arith

-- the same at i - 1, as the loop has it
pub found : (l : List ℕ) (i n : ℕ) → 0 < i → i ≤ length l → get_or l (i - 1) 0 ≤ n → reached (drop i l) n ≡ 0 → i ≡ reached l n
found l i n p h b e =
    sym (last l (i - 1) n (omega arith) b (subst (λ (k : ℕ). reached (drop k l) n ≡ 0) (sym (next_down i p)) e) ∙ next_down i p)

pub passed : (l : List ℕ) (i n : ℕ) → 0 < i → i ≤ length l → n < get_or l (i - 1) 0 → reached (drop i l) n ≡ 0 → reached (drop (i - 1) l) n ≡ 0
passed l i n p h b e = not_yet l (i - 1) n (omega arith) b (subst (λ (k : ℕ). reached (drop k l) n ≡ 0) (sym (next_down i p)) e)

pub at_end : (l : List ℕ) (n : ℕ) → reached (drop (length l) l) n ≡ 0
unfolding reached
at_end l n = ap (λ (t : List ℕ). reached t n) (drop-length l)

pub at_start : (l : List ℕ) (i n : ℕ) → i ≤ 0 → reached (drop i l) n ≡ 0 → 0 ≡ reached l n
at_start l zero n h e = sym e
at_start l (suc i) n h e = absurd (not-suc-le-zero h)

top-most : (k m : ℕ) (b : Bool) → k ≤ m → on_top k b ≤ suc m
top-most zero m true h = omega arith
top-most zero m false h = omega arith
top-most (suc k) m b h = omega arith

pub at_most : (l : List ℕ) (n : ℕ) → reached l n ≤ length l
unfolding reached
at_most [] n = omega arith
at_most (a ∷ l) n = top-most (reached l n) (length l) (leb a n) (at_most l n)

-- ---- with one month more at the end of the list
pub last-has-begun : (l : List ℕ) (a n : ℕ) → a ≤ n → reached (l ++ (a ∷ [])) n ≡ suc (length l)
unfolding reached
last-has-begun [] a n h = rw (le-leb a n h)
last-has-begun (b ∷ l) a n h = top-more (reached (l ++ (a ∷ [])) n) (length l) (leb b n) (last-has-begun l a n h)

pub last-has-not : (l : List ℕ) (a n : ℕ) → n < a → reached (l ++ (a ∷ [])) n ≡ reached l n
unfolding reached
last-has-not [] a n h = rw (lt-leb a n h)
last-has-not (b ∷ l) a n h = ap (λ (k : ℕ). on_top k (leb b n)) (last-has-not l a n h)

-- ---- in a list that rises
tail_rises : (a : ℕ) (l : List ℕ) → T (rising (a ∷ l)) → T (rising l)
tail_rises a [] t = tt
tail_rises a (b ∷ l) t = and_r (ltb a b) (rising (b ∷ l)) t

-- nothing after a has begun where the month is not past a
pub late : (a : ℕ) (l : List ℕ) → T (rising (a ∷ l)) → (n : ℕ) → n ≤ a → reached l n ≡ 0
unfolding reached
late a [] t n h = refl
late a (b ∷ l) t n h =
    let g = ltb→lt a b (and_l (ltb a b) (rising (b ∷ l)) t) in
    top-none (reached l n) (leb b n) (late b l (tail_rises a (b ∷ l) t) n (omega arith)) (lt-leb b n (omega arith))

top-true : (k : ℕ) (b : Bool) → b ≡ true → on_top k b ≡ suc k
top-true zero b e = rw e
top-true (suc k) b e = refl

begun : (a n : ℕ) (l : List ℕ) → a ≤ n → reached (a ∷ l) n ≡ suc (reached l n)
unfolding reached
begun a n l h = top-true (reached l n) (leb a n) (le-leb a n h)

not_begun : (a n : ℕ) (l : List ℕ) → T (rising (a ∷ l)) → n < a → reached (a ∷ l) n ≡ 0
not_begun a n l t h = earlier a n l h (late a l t n (omega arith))

-- whether a row begins in the month
abbrev pub member : ℕ → List ℕ → Bool
member n [] = false
member n (a ∷ l) = eqb n a || member n l

not_member : (a : ℕ) (l : List ℕ) → T (rising (a ∷ l)) → (n : ℕ) → n ≤ a → member n l ≡ false
not_member a [] t n h = refl
not_member a (b ∷ l) t n h =
    let g = ltb→lt a b (and_l (ltb a b) (rising (b ∷ l)) t) in
    rw (ne_eqb n b (λ e. omega arith)) (not_member b l (tail_rises a (b ∷ l) t) n (omega arith))

-- a month later one row more has begun where one begins in it, and else as many
pub month-later : (l : List ℕ) → T (rising l) → (n : ℕ) → reached l (suc n) ≡ cond (member (suc n) l) (suc (reached l n)) (reached l n)
unfolding reached
month-later [] t n = refl
month-later (a ∷ l) t n = go (leb a n) refl (eqb (suc n) a) refl (month-later l (tail_rises a l t) n)
  where
    go : (b : Bool) → leb a n ≡ b → (c : Bool) → eqb (suc n) a ≡ c → reached l (suc n) ≡ cond (member (suc n) l) (suc (reached l n)) (reached l n)
        → reached (a ∷ l) (suc n) ≡ cond (c || member (suc n) l) (suc (reached (a ∷ l) n)) (reached (a ∷ l) n)
    go true e true f i = absurd (omega (arith, leb-true a n e, eqb-true (suc n) a f))
    go true e false f i =
        let h = leb-true a n e in
        begun a (suc n) l (omega arith) ∙ ap suc i ∙ push (member (suc n) l) (reached l n)
        ∙ ap (λ (k : ℕ). cond (member (suc n) l) (suc k) k) (sym (begun a n l h))
      where
        push : (b : Bool) (k : ℕ) → suc (cond b (suc k) k) ≡ cond b (suc (suc k)) (suc k)
        push true k = refl
        push false k = refl
    go false e true f i =
        let h = eqb-true (suc n) a f in
        begun a (suc n) l (omega arith) ∙ ap suc (late a l t (suc n) (omega arith) ∙ sym (not_begun a n l t (leb-false a n e)))
    go false e false f i =
        let h = leb-false a n e in
        let g = eqb-false (suc n) a f in
        not_begun a (suc n) l t (above_both (suc n) a g h)
        ∙ sym (rw (not_member a l t (suc n) h) (not_begun a n l t h))
      where
        above_both : (k b : ℕ) → (k ≡ b → ⊥) → k ≤ b → k < b
        above_both k b p q = omega arith

-- the rows of places up to i begin before a month that is past row i
above : (a : ℕ) (l : List ℕ) → T (rising (a ∷ l)) → (k : ℕ) → k < length l → a < get_or l k 0
above a [] t k h = absurd (not-suc-le-zero h)
above a (b ∷ l) t zero h = ltb→lt a b (and_l (ltb a b) (rising (b ∷ l)) t)
above a (b ∷ l) t (suc k) h =
    let g = ltb→lt a b (and_l (ltb a b) (rising (b ∷ l)) t) in
    omega (arith, g, above b l (tail_rises a (b ∷ l) t) k (le_of_suc-le-suc h))

pub member_later : (l : List ℕ) → T (rising l) → (i n : ℕ) → i < length l → get_or l i 0 < n → member n l ≡ member n (drop (suc i) l)
member_later [] t i n h b = absurd (not-suc-le-zero h)
member_later (a ∷ l) t zero n h b = rw (ne_eqb n a (λ e. omega arith))
member_later (a ∷ l) t (suc i) n h b =
    let g = above a l t i (le_of_suc-le-suc h) in
    rw (ne_eqb n a (λ e. omega arith)) (member_later l (tail_rises a l t) i n (le_of_suc-le-suc h) b)

-- where row k has begun, it or a later one is reached; where it has not, an earlier one
pub low : (l : List ℕ) (k n : ℕ) → k < length l → get_or l k 0 ≤ n → suc k ≤ reached l n
unfolding reached
low [] k n h b = absurd (not-suc-le-zero h)
low (a ∷ l) zero n h b = omega (arith, begun a n l b)
low (a ∷ l) (suc k) n h b = top_least (reached l n) k (leb a n) (low l k n (le_of_suc-le-suc h) b)
  where
    top_least : (r j : ℕ) (b : Bool) → suc j ≤ r → suc (suc j) ≤ on_top r b
    top_least zero j b g = absurd (not-suc-le-zero g)
    top_least (suc r) j b g = omega arith

pub high : (l : List ℕ) → T (rising l) → (k n : ℕ) → k < length l → n < get_or l k 0 → reached l n ≤ k
unfolding reached
high [] t k n h b = absurd (not-suc-le-zero h)
high (a ∷ l) t zero n h b = omega (arith, not_begun a n l t b)
high (a ∷ l) t (suc k) n h b = top-most (reached l n) k (leb a n) (high l (tail_rises a l t) k n (le_of_suc-le-suc h) b)

-- ---- THE ROW FOUND is the last whose month has begun, and where none is found no month has begun; in any list
pub none-begun : (l : List ℕ) (n : ℕ) → reached l n ≡ 0 → (j : ℕ) → j < length l → n < get_or l j 0
unfolding reached
none-begun [] n e j h = absurd (not-suc-le-zero h)
none-begun (a ∷ l) n e j h = go (reached l n) refl (leb a n) refl e j h (λ p i g. none-begun l n p i g)
  where
    go : (k : ℕ) → reached l n ≡ k → (b : Bool) → leb a n ≡ b → on_top k b ≡ 0 → (i : ℕ) → i < length (a ∷ l)
        → (reached l n ≡ 0 → (i : ℕ) → i < length l → n < get_or l i 0) → n < get_or (a ∷ l) i 0
    go (suc k) p b q z i g more = absurd (omega arith)
    go zero p true q z i g more = absurd (omega arith)
    go zero p false q z zero g more = leb-false a n q
    go zero p false q z (suc i) g more = more p i (le_of_suc-le-suc g)

at_top : (a : ℕ) (l : List ℕ) (n : ℕ) → a ≤ n → reached l n ≡ 0 → LastBegun (a ∷ l) n 0
at_top a l n h e = record { in_list = omega arith; has_begun = h; later_not = later }
  where
    later : (j : ℕ) → 0 < j → j < length (a ∷ l) → n < get_or (a ∷ l) j 0
    later zero g k = absurd (omega arith)
    later (suc j) g k = none-begun l n e j (le_of_suc-le-suc k)

below_top : (a : ℕ) (l : List ℕ) (n i : ℕ) → LastBegun l n i → LastBegun (a ∷ l) n (suc i)
below_top a l n i r = record { in_list = omega (arith, r.in_list); has_begun = r.has_begun; later_not = later }
  where
    later : (j : ℕ) → suc i < j → j < length (a ∷ l) → n < get_or (a ∷ l) j 0
    later zero g k = absurd (omega arith)
    later (suc j) g k = r.later_not j (le_of_suc-le-suc g) (le_of_suc-le-suc k)

pub last_begun : (l : List ℕ) (n i : ℕ) → reached l n ≡ suc i → LastBegun l n i
unfolding reached
last_begun [] n i e = absurd (omega arith)
last_begun (a ∷ l) n i e = go (reached l n) refl (leb a n) refl e (λ j p. last_begun l n j p)
  where
    go : (k : ℕ) → reached l n ≡ k → (b : Bool) → leb a n ≡ b → on_top k b ≡ suc i → ((j : ℕ) → reached l n ≡ suc j → LastBegun l n j) → LastBegun (a ∷ l) n i
    go (suc k) p b q z more = subst (λ (j : ℕ). LastBegun (a ∷ l) n j) (omega arith) (below_top a l n k (more k p))
    go zero p true q z more = subst (λ (j : ℕ). LastBegun (a ∷ l) n j) (omega arith) (at_top a l n (leb-true a n q) p)
    go zero p false q z more = absurd (omega arith)
