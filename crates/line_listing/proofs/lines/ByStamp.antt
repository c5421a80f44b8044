-- The lines stamp by stamp, with no page between: what is told by the outcome of the conversion and of the text, and one line more. Assumes nothing.
use Rattle.std.proofs.Common.{◌≡◌, ℕ, ◌+◌, ◌≤◌, Bool, List, ◌++◌, length, sym, refl, ap, ◌∙◌, subst, add-one, eq-eqb, ne_eqb}
use Rattle.refusals.specs.Outcome.{Outcome, answer, refusal, onward}
use Rattle.numerals.specs.digits.Placed.{Placed}
use Rattle.numerals.proofs.digits.Places.{then, placed-as}
use Rattle.julian.specs.declared.JulianDate.{JulianDate}
use Rattle.leap_table.specs.rows.Table.{Row}
use Rattle.stamps.specs.Listing.{one_if_refused}
use Rattle.utc_scales.specs.UtcTai.{tai_to_utc}
use Rattle.utc.specs.iso_texts.Expanded.{iso_text_expanded}
use Rattle.line_listing.specs.declared.lines.Told.{Told}
use Rattle.line_listing.specs.lines.StampLine.{Stamps, line_in_order, date_of_place, number_of_place, place_line}
use Rattle.line_listing.specs.lines.StampLine.{no_text, refused, text_told, utc_told, stamp_told, line_by, no_text_count}
use Rattle.line_listing.specs.lines.Parts.{listed_lines, textless_from}
use Rattle.line_listing.specs.lines.Asked.{ToldAt, LinesPlaced}
use Rattle.line_listing.proofs.lines.Whole.{without_one}

-- ---- what is told of an ordered stamp
module _ (s : Bool) (rows : List Row) (tai : JulianDate) where
  pub none_told : (k : ℕ) → tai_to_utc rows tai ≡ refusal k → no_text s k tai ≡ utc_told s rows tai (tai_to_utc rows tai)
  unfolding utc_told
  none_told k e = sym (ap (utc_told s rows tai) e)

  pub none-counted : (k : ℕ) → tai_to_utc rows tai ≡ refusal k → 1 ≡ one_if_refused (onward (tai_to_utc rows tai) (iso_text_expanded rows))
  unfolding one_if_refused onward
  none-counted k e = sym (ap (λ (o : Outcome JulianDate). one_if_refused (onward o (iso_text_expanded rows))) e)

  module _ (utc : JulianDate) (u : tai_to_utc rows tai ≡ answer utc) where
    by_utc : utc_told s rows tai (tai_to_utc rows tai) ≡ text_told s utc (iso_text_expanded rows utc)
    unfolding utc_told
    by_utc = ap (utc_told s rows tai) u

    count-utc : one_if_refused (onward (tai_to_utc rows tai) (iso_text_expanded rows)) ≡ one_if_refused (iso_text_expanded rows utc)
    unfolding onward
    count-utc = ap (λ (o : Outcome JulianDate). one_if_refused (onward o (iso_text_expanded rows))) u

    pub text-told : (t : List ℕ) → iso_text_expanded rows utc ≡ answer t → t ≡ utc_told s rows tai (tai_to_utc rows tai)
    unfolding text_told
    text-told t e = sym (by_utc ∙ ap (text_told s utc) e)

    pub text-counted : (t : List ℕ) → iso_text_expanded rows utc ≡ answer t → 0 ≡ one_if_refused (onward (tai_to_utc rows tai) (iso_text_expanded rows))
    unfolding one_if_refused
    text-counted t e = sym (count-utc ∙ ap one_if_refused e)

  -- ---- of any stamp
  module _ (k : ℕ) where
    pub refused-is : (k ≡ 0 → ⊥) → refused s k tai ≡ stamp_told s rows tai k
    unfolding stamp_told
    refused-is h = sym (rw (ne_eqb k 0 h))

    pub refused_none : (k ≡ 0 → ⊥) → 0 ≡ no_text_count rows tai k
    unfolding no_text_count
    refused_none h = sym (rw (ne_eqb k 0 h))

    pub ordered-is : k ≡ 0 → utc_told s rows tai (tai_to_utc rows tai) ≡ stamp_told s rows tai k
    unfolding stamp_told
    ordered-is h = sym (rw (eq-eqb k 0 h))

    pub ordered-none : k ≡ 0 → one_if_refused (onward (tai_to_utc rows tai) (iso_text_expanded rows)) ≡ no_text_count rows tai k
    unfolding no_text_count
    ordered-none h = sym (rw (eq-eqb k 0 h))

-- ---- one line more
module _ (s : Bool) (rows : List Row) (all : Stamps) (order : List ℕ) (line i : ℕ) (p : ℕ) (d : JulianDate) (k : ℕ) (place : p ≡ line_in_order order (line + i))
    (date : d ≡ date_of_place all p) (number : k ≡ number_of_place all p) where
  the_line : line_by s rows all.first all.second p d k ≡ place_line s rows all (line_in_order order (line + i))
  unfolding place_line
  the_line = rw (date, number, place)

  pub lines_more : {out₀ out out' : List ℕ} {at next : ℕ} → Placed out₀ 0 (listed_lines s rows all order line i) at out
      → Placed out at (line_by s rows all.first all.second p d k) next out' → next ≤ length out₀
      → Placed out₀ 0 (listed_lines s rows all order line (i + 1)) next out'
  unfolding listed_lines
  lines_more a b h = placed-as (ap (λ (l : List ℕ). listed_lines s rows all order line i ++ l) the_line ∙ more) (then a b h)
    where
      more : listed_lines s rows all order line i ++ place_line s rows all (line_in_order order (line + i)) ≡ listed_lines s rows all order line (i + 1)
      more = ap (listed_lines s rows all order line) (sym (add-one i))

  pub textless-more : (n m : ℕ) → n ≡ textless_from rows all order line i → m ≡ no_text_count rows d k → n + m ≡ textless_from rows all order line (i + 1)
  unfolding textless_from
  textless-more n m e f = rw (e, f, date, number, place) (ap (textless_from rows all order line) (sym (add-one i)))

-- no more stamps than lines are without text
pub told-one : (rows : List Row) (x : JulianDate) (k : ℕ) {d t after : List ℕ} {at : ℕ} {r : Told} → ToldAt d at t (no_text_count rows x k) r after
    → r.textless ≤ 1
told-one rows x k p = subst (λ (n : ℕ). n ≤ 1) (sym p.counted) (without_one rows x k)

-- all lines are there
pub lines_end : (s : Bool) (rows : List Row) (all : Stamps) (order : List ℕ) (line count i : ℕ) (before after : List ℕ) (at n : ℕ) → i ≡ count
    → Placed before 0 (listed_lines s rows all order line i) at after → n ≡ textless_from rows all order line i → at ≤ length before
    → LinesPlaced s rows all order line count before (record { written = at; line = line + count; textless = n }) after
lines_end s rows all order line count i before after at n e p f h =
    subst (λ (m : ℕ). LinesPlaced s rows all order line m before (record { written = at; line = line + m; textless = n }) after) e
    (record { placed = p; next = refl; counted = f; within = h })

-- ---- what is told and counted of an ordered stamp whose text is refused
module _ (s : Bool) (rows : List Row) (tai utc : JulianDate) (u : tai_to_utc rows tai ≡ answer utc) where
  pub refused-told : (k : ℕ) → iso_text_expanded rows utc ≡ refusal k → no_text s k utc ≡ utc_told s rows tai (tai_to_utc rows tai)
  unfolding text_told
  refused-told k e = sym (by_utc s rows tai utc u ∙ ap (text_told s utc) e)

  pub refused-counted : (k : ℕ) → iso_text_expanded rows utc ≡ refusal k → 1 ≡ one_if_refused (onward (tai_to_utc rows tai) (iso_text_expanded rows))
  unfolding one_if_refused
  refused-counted k e = sym (count-utc s rows tai utc u ∙ ap one_if_refused e)
