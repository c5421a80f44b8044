-- A part that was placed is delivered. Assumes nothing.
use Prim.Native.Nat.{ℕ, ◌≤◌, ◌<◌, ◌^◌}
use native.Mathlib.Omega.{arith}
use mathlib.Core.Path.{◌≡◌, sym, ap, ◌∙◌}
use mathlib.Core.List.{List}
use lib.ListN.{length}
use lib.IntN.{ℤ, pos}
use lib.Signed.{mag}
use mir.Syntax.{w64}
use mir.Val.{SFits, to_z, of_z}
use mir.Facts.{to_z_pos}
use borrow.Author.Tests.{le-leb, lt-leb}
use Rattle.refusals.specs.Outcome.{answer, refusal, onward}
use Rattle.utc.specs.text.Answer.{text_written, buffer_after}
use Rattle.utc.specs.iso_texts.TextCall.{written, buffer_holds}
use Rattle.leap_table.specs.rows.Table.{Row}
use Rattle.stamps.specs.declared.Reporting.{Reporting}
use Rattle.stamps.specs.declared.Part.{Part}
use Rattle.stamps.specs.Listing.{line_room}
use Rattle.stamps.specs.Widths.{InWidth}
use Rattle.stamps.specs.Parts.{part_text, part_of, PartPlaced}
use Rattle.stamps.proofs.Lengths.{part-most, part-fits}
use Rattle.c_answers.specs.Delivery.{code, Delivered}
use Rattle.capi.specs.ListingPart.{listing_part}
use Rattle.c_answers.proofs.Deliveries.{code-back}

pub no_room : (how : Reporting) (rows : List Row) (s l : List ℕ) (line : ℕ) {r : ℤ} → mag r < 2 ^ 63 → length l < line_room how → r ≡ code (refusal 11)
    → Delivered (listing_part how rows s line (length l)) l (to_z w64 (of_z w64 r)) l
unfolding listing_part written onward buffer_holds
no_room how rows s l line {r} ok h e =
    let w : written (listing_part how rows s line (length l)) (length l) ≡ refusal 11 = simp (lt-leb _ _ h) in
    record { returned = code-back ok ∙ e ∙ sym (ap code w); holds = simp (lt-leb _ _ h) }

module _ {how : Reporting} {rows : List Row} {s l out : List ℕ} {line : ℕ} {r : Part} (w : InWidth how s) (p : PartPlaced how rows s line l r out) where
  is : r.written ≡ length (part_text how rows s line (length l))
  unfolding part_of
  is = ap (λ (x : Part). x.written) p.says

  pub count_fits : SFits w64 (pos r.written)
  count_fits = record { sfits = omega (arith, is, part-most how rows s line (length l) w) }

  pub part-put : line_room how ≤ length l → Delivered (listing_part how rows s line (length l)) l (to_z w64 r.written) out
  unfolding listing_part written onward buffer_holds text_written buffer_after code
  part-put room =
      let fits = part-fits how rows s line (length l) w in
      let e : written (listing_part how rows s line (length l)) (length l) ≡ answer (length (part_text how rows s line (length l))) =
      simp (le-leb _ _ room, le-leb _ _ fits) in
      record {
        returned = to_z_pos w64 {n = r.written} (omega (arith, is, part-most how rows s line (length l) w)) ∙ ap pos is ∙ sym (ap code e);
        holds = p.holds ∙ simp (le-leb _ _ room, le-leb _ _ fits);
      }
