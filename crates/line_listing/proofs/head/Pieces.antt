-- Words and numbers, one behind the other. Assumes nothing.
use Rattle.std.proofs.Common.{◌≡◌, ℕ, ◌+◌, ◌-◌, ◌≤◌, Bool, true, false, List, [], ◌++◌, length, sym, refl, ◌∙◌, arith, eq-eqb, ne_eqb}
use mir.Val.{bool_byte}
use Rattle.leap_table.specs.rows.Announced.{least}
use Rattle.line_listing.specs.lines.StampLine.{Stamps, stamps}
use Rattle.line_listing.specs.head.Counts.{first_end, second_end}
use Rattle.numerals.specs.digits.Placed.{Placing}
use Rattle.numerals.proofs.digits.Places.{then, placed-as, nothing-at}
use Rattle.reasons.proofs.sentences.Placing.{placed-length}
use Rattle.line_listing.specs.declared.head.RunEnd.{RunEnd}
use Rattle.line_listing.specs.head.Head.{counted, block_end, run_line, run_if_named, one_if_named, head_text}
use Rattle.line_listing.specs.head.Asked.{PlacedIn}
use Rattle.utc.specs.text.Ascii.{ascii_bytes}

-- two pieces
pub and_then : {d s t d' d'' : List ℕ} {at m n r r2 : ℕ} → PlacedIn d at s m r d' → PlacedIn d' r t n r2 d'' → at + m + n ≤ length d
    → PlacedIn d at (s ++ t) (m + n) r2 d''
and_then a b h = record {
  placed = then a.placed b.placed (omega (arith, a.within, b.within));
  within = omega (arith, a.within, b.within);
  long = b.long ∙ a.long;
}

-- a piece of known length
pub piece : {d t d' : List ℕ} {at r : ℕ} → Placing d at t r d' → at + length t ≤ length d → PlacedIn d at t (length t) r d'
piece p h = let q = p.written h in record { placed = q; within = omega (arith, q.ends); long = placed-length q h }

pub in_as : {d s t d' : List ℕ} {at m r : ℕ} → s ≡ t → PlacedIn d at s m r d' → PlacedIn d at t m r d'
in_as e p = record { placed = placed-as e p.placed; within = p.within; long = p.long }

pub at_most : {d t d' : List ℕ} {at m n r : ℕ} → m ≤ n → PlacedIn d at t m r d' → PlacedIn d at t n r d'
at_most h p = record { placed = p.placed; within = omega (arith, p.within); long = p.long }

pub none-placed : (d : List ℕ) (at m : ℕ) → at ≤ length d → PlacedIn d at [] m at d
none-placed d at m h = record { placed = nothing-at d at h; within = omega arith; long = refl }

-- ---- the block that ended a run
pub not_ended : (e : RunEnd) → e.refused ≡ 0 → [] ≡ block_end e
unfolding block_end
not_ended e h = sym (rw (eq-eqb e.refused 0 h))

pub ended : (e : RunEnd) → (e.refused ≡ 0 → ⊥) → counted (ascii_bytes " block ") e.block ++ counted (ascii_bytes " refused ") e.refused ≡ block_end e
unfolding block_end
ended e h = sym (rw (ne_eqb e.refused 0 h))

-- ---- a run that is named, and one that is not
module _ (name : List ℕ) (e : RunEnd) (js ks ns : List ℕ) (from n : ℕ) where
  pub has-line : e.named ≡ true → run_line name e js ks ns from n ≡ run_if_named name e js ks ns from n
  unfolding run_if_named
  has-line h = sym (rw h)

  pub no_line : e.named ≡ false → [] ≡ run_if_named name e js ks ns from n
  unfolding run_if_named
  no_line h = sym (rw h)

pub one-named : (b : Bool) → bool_byte b ≡ one_if_named b
unfolding one_if_named
one-named true = refl
one-named false = refl

-- ---- the first lines by the ends of the runs and the number of runs that are named
module _ (gps tai utc : RunEnd) (js ks ns : List ℕ) (first second : ℕ) where
  abbrev all : Stamps
  all = stamps js ks ns first second

  abbrev by-ends : ℕ → ℕ → ℕ → List ℕ
  by-ends named a b =
      (((counted (ascii_bytes "line up ") named ++ ascii_bytes " runs\n") ++ run_if_named (ascii_bytes "gps ") gps js ks ns 0 a)
      ++ run_if_named (ascii_bytes "tai ") tai js ks ns a (b - a))
      ++ run_if_named (ascii_bytes "utc ") utc js ks ns b (length ns - b)

  pub head_is : (a b x y z : ℕ) → a ≡ least first (length ns) → b ≡ least second (length ns - a) → x ≡ one_if_named gps.named → y ≡ one_if_named tai.named
      → z ≡ one_if_named utc.named → by-ends (x + y + z) a (a + b) ≡ head_text gps tai utc all
  unfolding head_text first_end second_end
  head_is a b x y z e f g h i = rw (g, h, i, f, e) refl
