-- Each line as the code writes it is the line of the definition, and one line more. Assumes nothing.
use Prim.Native.Nat.{ℕ, ◌+◌, ◌-◌, ◌<◌, ◌≤◌}
use native.Mathlib.Omega.{arith}
use native.Mathlib.Numerals.{add-one}
use mathlib.Core.Path.{◌≡◌, refl, sym, ap, ◌∙◌}
use mathlib.Core.List.{List, [], ◌∷◌}
use lib.ListN.{length}
use borrow.Author.Tests.{eq-eqb, ne_eqb}
use Rattle.std.specs.Prelude.{Result, Ok, Err}
use Rattle.refusals.specs.declared.Refusal.{Refusal}
use Rattle.refusals.specs.Refusal.{refusal_number}
use Rattle.refusals.specs.Outcome.{Outcome, answer, outcome}
use Rattle.julian.specs.declared.JulianDate.{JulianDate}
use Rattle.leap_table.specs.rows.Table.{Row}
use Rattle.utc.specs.iso_texts.Expanded.{iso_text_expanded}
use Rattle.stamps.specs.declared.Reporting.{Reporting}
use Rattle.stamps.specs.Block.{block_of, stamp_at}
use Rattle.numerals.specs.digits.Placed.{Placed}
use Rattle.stamps.specs.Listing.{numeral, text_at, shown, stamp_line, one_if_refused, refused_in, header, block_refused}
use Rattle.stamps.specs.Parts.{line_of, lines_in, lines_from}
use Rattle.stamps.proofs.Blocks.{block-accepted}
use Rattle.numerals.proofs.digits.Places.{then, placed-as}

module _ {d d1 d2 d3 d4 : List ℕ} {at r1 r2 r3 r4 : ℕ} where
  pub stamp-put : (how : Reporting) (rows : List Row) (s : List ℕ) (n i : ℕ) (jd : JulianDate) → jd ≡ stamp_at s n i
      → Placed d at (numeral i) r1 d1 → Placed d1 r1 (32 ∷ []) r2 d2 → Placed d2 r2 (shown how jd (iso_text_expanded rows jd)) r3 d3
      → Placed d3 r3 (10 ∷ []) r4 d4 → r4 ≤ length d
      → Placed d at (stamp_line how rows s n i) r4 d4
  unfolding stamp_line text_at
  stamp-put how rows s n i jd e p1 p2 p3 p4 le =
      let n3 : r3 ≡ r2 + length (shown how jd (iso_text_expanded rows jd)) = p3.ends in
      let n4 : r4 ≡ r3 + 1 = p4.ends in
      then (then (then p1 p2 (omega arith)) (placed-as (ap (λ (j : JulianDate). shown how j (iso_text_expanded rows j)) e) p3) (omega arith)) p4 le

-- one stamp more is counted
pub refused-more : (rows : List Row) (s : List ℕ) (n k m : ℕ) (jd : JulianDate) (one : ℕ) → m ≡ refused_in rows s n k → jd ≡ stamp_at s n k
    → one ≡ one_if_refused (iso_text_expanded rows jd) → m + one ≡ refused_in rows s n (k + 1)
unfolding refused_in text_at
refused-more rows s n k m jd one em ej eo = rw add-one (cc)

-- one line more is written
pub lines_more : {d d1 d2 : List ℕ} {at r : ℕ} (how : Reporting) (rows : List Row) (s : List ℕ) (line k : ℕ) → Placed d 0 (lines_from how rows s line k) at d1
    → Placed d1 at (line_of how rows (block_of s) s (line + k)) r d2 → r ≤ length d
    → Placed d 0 (lines_from how rows s line (k + 1)) r d2
unfolding lines_from
lines_more how rows s line k p q le = rw add-one (then p q le)

-- ---- which line it is
module _ (s : List ℕ) (line : ℕ) (r : Result ℕ Refusal) (e : outcome r ≡ block_of s) where
  module _ (k : Refusal) (is : r ≡ Err k) where
    pub refused-line : (how : Reporting) (rows : List Row) → block_refused how s (refusal_number k) ≡ line_of how rows (block_of s) s line
    unfolding line_of outcome
    refused-line how rows = ap (λ (o : Outcome ℕ). line_of how rows o s line) (sym (ap outcome is) ∙ e)

  module _ (n : ℕ) (is : r ≡ Ok n) where
    block-is : answer n ≡ block_of s
    unfolding outcome
    block-is = sym (ap outcome is) ∙ e

    pub stamps-few : n ≤ 4000
    stamps-few = (block-accepted s n block-is).0

    pub within : line < lines_in (block_of s) → line < n + 1
    unfolding lines_in
    within h = rw (← block-is) at h

    pub header-line : (how : Reporting) (rows : List Row) (m : ℕ) → line ≡ 0 → m ≡ refused_in rows s n n → header n m ≡ line_of how rows (block_of s) s line
    unfolding line_of
    header-line how rows m z em = rw (← block-is, eq-eqb line 0 z, em) refl

    pub stamp-line : (how : Reporting) (rows : List Row) → (line ≡ 0 → ⊥) → stamp_line how rows s n (line - 1) ≡ line_of how rows (block_of s) s line
    unfolding line_of
    stamp-line how rows z = rw (← block-is, ne_eqb line 0 z) refl
