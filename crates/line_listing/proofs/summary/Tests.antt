-- Of the stamps of a run those that are seen, and bytes of a known number that are placed. Assumes nothing.
use Rattle.std.proofs.Common.{◌≡◌, ℕ, suc, ◌+◌, ◌≤◌, Bool, true, false, cond, not, eqb, List, length, get_or, ℤ, sym}
use Rattle.std.proofs.Common.{refl, ap, ◌∙◌, subst, add-one, arith}
use Rattle.leap_table.specs.rows.Announced.{natural}
use Rattle.line_listing.specs.declared.summary.Seen.{Seen}
use Rattle.line_listing.specs.summary.Seen.{one_more, seen_in}
use Rattle.line_listing.specs.summary.Summary.{thousandths}
use Rattle.line_listing.specs.summary.Asked.{SeenAll}
use Rattle.line_listing.specs.head.Asked.{PlacedIn}

-- ---- a stamp more
pick : (b : Bool) (x y i : ℕ) → x ≤ i → y ≤ i → cond b x y ≤ i + 1
pick true x y i h g = omega arith
pick false x y i h g = omega arith

bounded : (b : Bool) (s : Seen) (i : ℕ) → s.many ≤ i → s.first ≤ i → s.last ≤ i
    → ((cond b (one_more s i) s).many ≤ i + 1) × ((cond b (one_more s i) s).first ≤ i + 1) × ((cond b (one_more s i) s).last ≤ i + 1)
unfolding one_more
bounded true s i a f l = (omega arith, pick (eqb s.many 0) i s.first i (omega arith) f, omega arith)
bounded false s i a f l = (omega arith, omega arith, omega arith)

module _ (k : ℕ) (ns : List ℕ) (from : ℕ) where
  pub none_seen : SeenAll k ns from 0 (record { many = 0; first = 0; last = 0 })
  unfolding seen_in
  none_seen = record { seen = refl; few = omega arith; low = omega arith; high = omega arith }

  pub more-seen : (i x : ℕ) (s r : Seen) → SeenAll k ns from i s → x ≡ get_or ns (from + i) 0 → r ≡ cond (eqb x k) (one_more s i) s → SeenAll k ns from
      (i + 1) r
  unfolding seen_in
  more-seen i x s r h e f =
      let b = bounded (eqb x k) s i h.few h.low h.high in
      let g : cond (eqb x k) (one_more s i) s ≡ seen_in k ns from (suc i) =
      ap (λ (y : ℕ). cond (eqb y k) (one_more s i) s) e
      ∙ ap (λ (q : Seen). cond (eqb (get_or ns (from + i) 0) k) (one_more q i) q) h.seen in
      record {
        seen = f ∙ g ∙ ap (seen_in k ns from) (sym (add-one i));
        few = subst (λ (q : Seen). q.many ≤ i + 1) (sym f) b.0;
        low = subst (λ (q : Seen). q.first ≤ i + 1) (sym f) b.1;
        high = subst (λ (q : Seen). q.last ≤ i + 1) (sym f) b.2;
      }

-- ---- a number counted from 0
abbrev pub natural-of : ℤ → ℕ
natural-of = natural

-- ---- bytes of a known number that are placed
pub placed-from : {d e t d' : List ℕ} {at m r : ℕ} → d ≡ e → PlacedIn d at t m r d' → PlacedIn e at t m r d'
placed-from {d} {e} {t} {d'} {at} {m} {r} q p = subst (λ (l : List ℕ). PlacedIn l at t m r d') q p

placed_same : {d s t d' : List ℕ} {at m n r : ℕ} → s ≡ t → m ≡ n → PlacedIn d at s m r d' → PlacedIn d at t n r d'
placed_same {d} {s} {t} {d'} {at} {m} {n} {r} e f p =
    subst (λ (k : ℕ). PlacedIn d at t k r d') f (subst (λ (l : List ℕ). PlacedIn d at l m r d') e p)

pub six : (n : ℕ) → length (thousandths n) ≡ 6
unfolding thousandths
six n = refl

pub six-placed : {d d' : List ℕ} {at r : ℕ} (n : ℕ) (s : List ℕ) → s ≡ thousandths n → PlacedIn d at s (length s) r d' → PlacedIn d at (thousandths n) 6 r d'
six-placed n s e p = placed_same e (ap length e ∙ six n) p

-- ---- a test the other way round
pub was_not : (b : Bool) → not b ≡ true → b ≡ false
was_not true e = sym e
was_not false e = refl

pub was : (b : Bool) → not b ≡ false → b ≡ true
was true e = refl
was false e = sym e
